-- Which values a map whose fields can be dropped hides.
use Rattle.std.specs.Prelude.{◌≡◌, ◌↔◌, true, List, []}
use Rattle.crdt_core.specs.declared.kind.Kind.{Kind}
use Rattle.crdt_core.specs.declared.value.Value.{Value}
use Rattle.crdt_core.specs.Seen.{Update}
use Rattle.crdt_meanings.specs.Maps.{is_empty}

-- a value is empty exactly where it is what no update means
abbrev pub EmptyIsNothing : (Kind → List Update → Value) → Type 0
EmptyIsNothing meaning = (k : Kind) (us : List Update) → (is_empty (meaning k us) ≡ true) ↔ (meaning k us ≡ meaning k [])
