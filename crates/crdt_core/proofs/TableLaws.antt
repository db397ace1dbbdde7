-- What the table of kinds says of maps.
use Rattle.std.proofs.Common.{◌≡◌, Bool, true, false, List, [], ◌∷◌, length, refl, sym, ap, ◌∙◌}
use Rattle.std.specs.Prelude.{◌||◌, nat_le}
use Rattle.std.proofs.lemmas.Bool.{true≢false, and_parts}
use Rattle.crdt_core.specs.declared.kind.Kind.{Kind}
use Rattle.crdt_core.specs.declared.kind.Kind.TheVariants.{CounterPn, MapGo, MapRr}
use Rattle.crdt_core.specs.declared.object.Field.{Field}
use Rattle.crdt_core.specs.declared.operation.Act.{Act}
use Rattle.crdt_core.specs.declared.operation.Act.TheVariants.{Reset, DropField}
use Rattle.crdt_core.specs.Fits.{nests_in, is_map, is_drop, fits}
use Rattle.crdt_core.specs.Seen.{is_reset}

pub resets_nest : (k : Kind) → nests_in MapRr k ≡ fits k [] Reset
resets_nest CounterPn = refl
resets_nest _ = refl

or_none : (b : Bool) → (b || false) ≡ b
or_none true = refl
or_none false = refl

pub drops_lie : (f : Field) → fits MapRr [] (DropField f) ≡ fits f.kind [] Reset
drops_lie f = or_none (nests_in MapRr f.kind) ∙ resets_nest f.kind

has_fields : (k l : Kind) → nests_in k l ≡ true → is_map k ≡ true
has_fields MapGo l h = refl
has_fields MapRr l h = refl
has_fields _ l h = absurd (true≢false (sym h))

pub paths_enter : (k : Kind) (f : Field) (p : List Field) (a : Act) → fits k (f ∷ p) a ≡ true → is_map k ≡ true
paths_enter k f p a h = has_fields k f.kind (and_parts (nests_in k f.kind) _ (and_parts (nat_le (length (f ∷ p)) 3) _ h).1).0

either : (a b : Bool) → (a || b) ≡ true → (b || a) ≡ true
either true true h = refl
either true false h = refl
either false b h = ap (λ c. c || false) h

pub own_acts : (k : Kind) (a : Act) → is_map k ≡ true → fits k [] a ≡ true → (fits k [] Reset ≡ true) × ((is_reset a || is_drop a) ≡ true)
own_acts MapGo a is h = absurd (true≢false (sym h))
own_acts MapRr a is h = (refl, either (is_drop a) (is_reset a) h)
own_acts _ a is h = absurd (true≢false (sym is))
