-- What every kind keeps.
use Rattle.std.specs.Prelude.{◌≡◌, ℕ, Bool, true, false, not, ◌&&◌, ◌||◌, List, ◌∷◌, Option}
use Rattle.std.specs.List.{list_all}
use Rattle.site_vector.specs.declared.ids.Dot.{Dot}
use Rattle.site_vector.specs.Ids.{same_dot}
use Rattle.crdt_core.specs.declared.kind.Kind.{Kind}
use Rattle.crdt_core.specs.declared.object.Field.{Field}
use Rattle.crdt_core.specs.declared.operation.Act.{Act}
use Rattle.crdt_core.specs.declared.value.Value.{Value}
use Rattle.crdt_core.specs.Alike.{AreAlike}
use Rattle.crdt_core.specs.Fits.{leads_to, fits}
use Rattle.crdt_core.specs.Kinds.{reads_state}
use Rattle.crdt_core.specs.Same.{Same}
use Rattle.crdt_core.specs.Seen.{Update}
use Rattle.crdt_core.specs.Stamps.{stamp_due}
use Rattle.crdt_core.specs.History.{IsHistory, IsStamped, effect_after, state_after}

-- how an update's effect is generated: its act, its path and its clock value are all that counts
abbrev pub made_by : {S E : Type 0} → (Kind → S → List Field → Act → ℕ → E) → Kind → S → Update → E
made_by generated k s u = generated k s u.path u.act u.now

-- each update is an operation of the kind, and none leads deeper than the type reaches
abbrev pub all_fit : (Kind → List Field → Bool) → Kind → List Update → Bool
all_fit too_deep k us = list_all (λ u. fits k u.path u.act && not (too_deep k u.path)) us

-- some act of what a path leads to, however long but no deeper than the type reaches, has an effect that names the dot
-- where it is made on the state
abbrev pub CanBeNamed : {S E : Type 0} → (Kind → List Field → Bool) → (Kind → S → List Field → Act → ℕ → E) → (E → Dot → Bool) → Kind → S → Dot → Type 0
CanBeNamed too_deep generated names k s d = (p : List Field) × (a : Act) × (leads_to k p a ≡ true) × (too_deep k p ≡ false) × ((n : ℕ) → names (generated k s p a n) d ≡ true)

-- what a kind owes step by step: which dots a state holds and an effect names, and which effects commute
pub record KeepsSteps {S E : Type 0} (initial : S) (applied : S → Dot → E → S) (make : S → Update → E) (names : E → Dot → Bool) (holds : S → Dot → Bool) : Type 0 where
  -- effects that name none of each other's dots may be applied in either order
  pub swaps : (s : S) (a b : E) (d e : Dot) → same_dot d e ≡ false → names a e ≡ false → names b d ≡ false → applied (applied s d a) e b ≡ applied (applied s e b) d a
  -- a generated effect names only dots that its state holds
  pub named : (s : S) (u : Update) (d : Dot) → names (make s u) d ≡ true → holds s d ≡ true
  -- to apply an effect adds at most the update's own dot
  pub held : (s : S) (d : Dot) (e : E) (x : Dot) → holds (applied s d e) x ≡ true → (holds s x || same_dot d x) ≡ true
  -- the state of no update holds none
  pub none_held : (x : Dot) → holds initial x ≡ false

-- the law of a kind
pub record KeepsLaw {S E : Type 0} (has : Kind → Bool) (too_deep : Kind → List Field → Bool) (initial : Kind → S) (applied : S → Dot → E → S) (generated : Kind → S → List Field → Act → ℕ → E) (value_of : S → Value) (stamp_of : E → Option ℕ) (meaning : Kind → List Update → Value) (names : E → Dot → Bool) (holds : S → Dot → Bool) : Type 0 where
  -- the value after a history is the meaning of its updates
  pub means : (k : Kind) (us : List Update) → has k ≡ true → IsHistory us → all_fit too_deep k us ≡ true → IsStamped (initial k) applied (made_by generated k) stamp_of us → value_of (state_after (initial k) applied (made_by generated k) us) ≡ meaning k us
  -- a stamp follows the clock and the stamps that were seen
  pub stamps : (k : Kind) (u : Update) (us : List Update) → has k ≡ true → IsHistory (u ∷ us) → all_fit too_deep k (u ∷ us) ≡ true → IsStamped (initial k) applied (made_by generated k) stamp_of us → stamp_of (effect_after (initial k) applied (made_by generated k) us u) ≡ stamp_due k us u
  -- two histories of the same updates fold to equal states, whatever else these have seen
  pub confluent : (k : Kind) (us vs : List Update) → has k ≡ true → IsHistory us → IsHistory vs → AreAlike us vs → state_after (initial k) applied (made_by generated k) us ≡ state_after (initial k) applied (made_by generated k) vs
  -- the meaning depends on no order
  pub orderless : (k : Kind) (us vs : List Update) → has k ≡ true → Same us vs → meaning k us ≡ meaning k vs
  -- an update that reads no state may be generated on any
  pub unread : (k : Kind) (s t : S) (p : List Field) (a : Act) (n : ℕ) → has k ≡ true → reads_state k ≡ false → generated k s p a n ≡ generated k t p a n
  pub steps : (k : Kind) → has k ≡ true → KeepsSteps (initial k) applied (made_by generated k) names holds
  -- a state that updates left holds only dots that an effect made on it can name
  pub nameable : (k : Kind) (us : List Update) (d : Dot) → has k ≡ true → all_fit too_deep k us ≡ true → holds (state_after (initial k) applied (made_by generated k) us) d ≡ true → CanBeNamed too_deep generated names k (state_after (initial k) applied (made_by generated k) us) d
