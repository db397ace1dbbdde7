-- Fresh snapshots: the stable entries of a partition, by what a run shows.
use Rattle.std.specs.Prelude.{◌≡◌, ℕ, max, ◌==◌, Bool, true, false, if◌then◌else◌, List, [], ◌∷◌, length, ⊤}
use Rattle.site_vector.specs.declared.ids.PartId.{PartId}
use Rattle.site_vector.specs.declared.ids.TxId.{TxId}
use Rattle.site_vector.specs.Ids.{same_part}
use Rattle.site_vector.specs.Vector.{entry}
use Rattle.world_model.specs.rules.Event.{AskBegin, StableBehind, ClockAtEnd, Event, Began, Heard, Restarted, Refused, Entry}
use Rattle.world_model.specs.lines.Places.{IsOther}
use Rattle.world_model.specs.lines.Lines.{Wish}
use Rattle.world_model.specs.rules.Plan.{Plan}
use Rattle.world_model.specs.events.Bounds.{bound_shown, IsOwnBoundAt}
use Rattle.world_model.specs.lines.Bounds.{IsLeast, IsLeastBehind, AreEnough}

module _ {E : Type 0} where
  -- the greatest entry for site j in the reports of partition q that were heard since the last restart
  abbrev pub heard_from : ℕ → ℕ → ℕ → Event E → ℕ
  heard_from q j old (Heard number k b stable) = if k == q then max old (entry b j) else old
  heard_from q j old (Restarted n b named listed) = 0
  heard_from q j old other = old

  abbrev pub heard_shown : List (Entry E) → PartId → ℕ → ℕ → ℕ
  heard_shown [] p q j = 0
  heard_shown (e ∷ run) p q j = if same_part e.at p then heard_from q j (heard_shown run p q j) e.event else heard_shown run p q j

  -- what p knows of how far partition q of its site has come with site j: its own bound, or what it heard
  abbrev pub known_shown : List (Entry E) → PartId → ℕ → ℕ → ℕ
  known_shown run p j q = if p.part == q then bound_shown run p j else heard_shown run p q j

  -- the least of them over the partitions of its site
  abbrev pub IsStableEntry : Plan E → List (Entry E) → PartId → ℕ → ℕ → Type 0
  IsStableEntry plan run p j n = IsLeast plan.parts (known_shown run p j) n

  -- p tells the stable entries of other sites; of its own it knows its own bound
  pub record IsStable (plan : Plan E) (run : List (Entry E)) (p : PartId) (stable : List ℕ) : Type 0 where
    pub width : length stable ≡ plan.sites
    pub others : (j : ℕ) → IsOther plan.sites p.site j → IsStableEntry plan run p j (entry stable j)
    pub own : (b : ℕ) × IsOwnBoundAt run p b × IsLeast plan.parts (λ q. if p.part == q then b else heard_shown run p q p.site) (entry stable p.site)

  -- what is stable of the own site
  abbrev pub IsOwnStableAt : Plan E → List (Entry E) → PartId → ℕ → Type 0
  IsOwnStableAt plan run p n = (b : ℕ) × IsOwnBoundAt run p b × IsLeast plan.parts (λ q. if p.part == q then b else heard_shown run p q p.site) n

  abbrev pub OwnEntryAt : Plan E → List (Entry E) → PartId → Wish → ℕ → ℕ → Bool → Type 0
  OwnEntryAt plan run p wish time n false = n ≡ max time (entry wish.past p.site)
  OwnEntryAt plan run p wish time n true = IsOwnStableAt plan run p n

  -- a snapshot has an entry for each site: the stable one for another, and for the own the greater of the drawn time and the dependency's
  pub record IsSnapshotAt (plan : Plan E) (run : List (Entry E)) (p : PartId) (wish : Wish) (t : TxId) (s : List ℕ) : Type 0 where
    pub width : length s ≡ plan.sites
    pub own : OwnEntryAt plan run p wish t.time (entry s p.site) wish.stable
    pub others : (j : ℕ) → IsOther plan.sites p.site j → IsStableEntry plan run p j (entry s j)

  -- nothing that the begin depends on is more than what is stable
  abbrev pub AreEnoughAt : Plan E → List (Entry E) → PartId → Wish → Type 0
  AreEnoughAt plan run p wish = AreEnough plan.sites plan.parts p.site (known_shown run p) wish.stable (IsOwnStableAt plan run p) wish.past

  -- what was heard is of the run with this event; a wait is for the least site that lags behind what the session depends on
  abbrev pub IsFreshAt : Plan E → List (Entry E) → PartId → Event E → Type 0
  IsFreshAt plan run p (Began who dep t s) = IsSnapshotAt plan run p dep t s
  IsFreshAt plan run p (Heard number k b stable) = IsStable plan ((record { at = p; event = Heard number k b stable }) ∷ run) p stable
  IsFreshAt plan run p (Refused (AskBegin who dep) ClockAtEnd) = AreEnoughAt plan run p dep
  IsFreshAt plan run p (Refused (AskBegin who dep) (StableBehind j n)) = IsLeastBehind plan.sites plan.parts p.site (known_shown run p) dep.stable (IsOwnStableAt plan run p) dep.past j n
  IsFreshAt plan run p other = ⊤

  abbrev pub AreFresh : Plan E → List (Entry E) → Type 0
  AreFresh plan [] = ⊤
  AreFresh plan (e ∷ run) = IsFreshAt plan run e.at e.event × AreFresh plan run
