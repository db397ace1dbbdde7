-- The parts of a value in place of the value, as the code has them.
use Rattle.std.specs.Prelude.{ℕ, List, map, Vec, vec_items}
use Rattle.std.specs.declared.alloc.Global.{Global}
use Rattle.crdt_core.specs.declared.object.Field.{Field}
use Rattle.crdt_core.specs.declared.value.Value.{Value}
use Rattle.reply_text.specs.Values.{value_text}

abbrev pub texts_of : List (Field × Value) → List (Field × List ℕ)
texts_of fs = map (λ f. (f.0, value_text f.1)) fs

abbrev pub entries_of : List (List ℕ × Vec ℕ Global) → List (List ℕ × List ℕ)
entries_of ms = map (λ m. (m.0, vec_items m.1)) ms
