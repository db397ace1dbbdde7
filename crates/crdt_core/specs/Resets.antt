-- What a reset undoes: of a blank state nothing, and something of each other state that a history leaves.
use Rattle.std.specs.Prelude.{◌≡◌, ℕ, Bool, true, false, List, []}
use Rattle.site_vector.specs.declared.ids.Dot.{Dot}
use Rattle.crdt_core.specs.declared.kind.Kind.{Kind}
use Rattle.crdt_core.specs.declared.kind.Kind.TheVariants.{MapRr}
use Rattle.crdt_core.specs.declared.object.Field.{Field}
use Rattle.crdt_core.specs.declared.operation.Act.{Act}
use Rattle.crdt_core.specs.declared.operation.Act.TheVariants.{Reset}
use Rattle.crdt_core.specs.Fits.{nests_in}
use Rattle.crdt_core.specs.Seen.{Update}
use Rattle.crdt_core.specs.History.{IsHistory, state_after}
use Rattle.crdt_core.specs.Law.{made_by, all_fit}

-- of the kinds that may stand in a map that resets
pub record ResetsWhatIsLeft {S E : Type 0} (has : Kind → Bool) (too_deep : Kind → List Field → Bool) (initial : Kind → S) (applied : S → Dot → E → S) (generated : Kind → S → List Field → Act → ℕ → E) (is_blank : S → Bool) (names : E → Dot → Bool) : Type 0 where
  -- a reset of what is blank names no update
  pub none_left : (k : Kind) (s : S) (n : ℕ) (d : Dot) → has k ≡ true → nests_in MapRr k ≡ true → is_blank s ≡ true → names (generated k s [] Reset n) d ≡ false
  -- a reset of what a history left, where that isn't blank, names an update
  pub some_left : (k : Kind) (us : List Update) (n : ℕ) → has k ≡ true → nests_in MapRr k ≡ true → IsHistory us → all_fit too_deep k us ≡ true → is_blank (state_after (initial k) applied (made_by generated k) us) ≡ false
      → (d : Dot) × (names (generated k (state_after (initial k) applied (made_by generated k) us) [] Reset n) d ≡ true)
