-- How the effects of a kind are spelled as bytes.
use Rattle.std.specs.Prelude.{◌≡◌, ℕ, Bool, true, false, ◌&&◌, ◌==◌, List, [], ◌∷◌}
use Rattle.std.specs.List.{list_all}
use Rattle.field_codec.specs.Reading.{Read}
use Rattle.field_codec.specs.Lawful.{IsForm}
use Rattle.site_vector.specs.declared.ids.Dot.{Dot}
use Rattle.crdt_core.specs.declared.kind.Kind.{Kind}
use Rattle.crdt_core.specs.declared.kind.Kind.TheVariants.{CounterFat, MapRr}
use Rattle.crdt_core.specs.declared.object.Field.{Field}
use Rattle.crdt_core.specs.declared.operation.Act.{Act}
use Rattle.crdt_core.specs.Seen.{is_reset}
use Rattle.crdt_core.specs.Spelled.{is_dot, ascend}

-- each of the sets ascends
abbrev pub sets_ascend : List (List Dot) → Bool
sets_ascend sets = list_all ascend sets

-- The effects of each kind that the type has are a form; is_of: the effect is one of the kind.
pub record SpellsEffects {E : Type 0} (has : Kind → Bool) (is_of : Kind → E → Bool) (can_put keeps is_spelled : E → Bool) (spelling : E → List ℕ) (reading : Kind → List ℕ → ℕ → Read E) : Type 0 where
  pub form : (k : Kind) → has k ≡ true → IsForm (λ e. is_of k e && can_put e) keeps (λ e. is_of k e && is_spelled e) spelling (reading k)

-- each update that a state holds has a spelling
abbrev pub HoldsSpelled : {S : Type 0} → (S → Dot → Bool) → S → Type 0
HoldsSpelled holds s = (d : Dot) → holds s d ≡ true → is_dot d ≡ true

-- the first byte of the reset of a kind that has one
abbrev pub reset_tag : Kind → ℕ
reset_tag CounterFat = 1
reset_tag MapRr = 1
reset_tag other = 2

abbrev pub begins_with : ℕ → List ℕ → Bool
begins_with n [] = false
begins_with n (b ∷ bytes) = b == n

-- the act resets the whole object
abbrev pub asks_reset : List Field → Act → Bool
asks_reset [] a = is_reset a
asks_reset (f ∷ p) a = false

-- an effect of the kind that can be put, whose sets of updates ascend; that of a reset begins as the kind's resets do
pub record IsReady {E : Type 0} (is_of : Kind → E → Bool) (can_put : E → Bool) (sets_of : E → List (List Dot)) (spelling : E → List ℕ) (k : Kind) (p : List Field) (a : Act) (e : E) : Type 0 where
  pub kind : is_of k e ≡ true
  pub fit : can_put e ≡ true
  pub sets : sets_ascend (sets_of e) ≡ true
  pub opened : asks_reset p a ≡ true → begins_with (reset_tag k) (spelling e) ≡ true
