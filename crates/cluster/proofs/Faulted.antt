-- A call of one partition leaves the cluster the same, and its disk's count of faults rose where the call says so.
use Rattle.std.proofs.Common.{◌≡◌, ℕ, zero, suc, ◌≤◌, Bool, List, [], ◌∷◌, ◌++◌, get_or, set, refl, sym, ◌∙◌, subst, arith}
use Rattle.site_vector.specs.declared.ids.PartId.{PartId}
use Rattle.disk_core.specs.States.{DiskState, Rose, Fails}
use Rattle.partition_core.specs.Durable.{Durable, disk_in}
use Rattle.site_vector.specs.declared.ids.TxId.{TxId}
use Rattle.world_model.specs.commands.Cluster.{parts_of}
use Rattle.world_model.specs.commands.Run.{Run}
use Rattle.world_model.specs.commands.ScriptCalls.{calls_of}
use Rattle.world_model.specs.lines.Updates.{lead}
use Rattle.world_model.specs.declared.step.Step.{Step}
use Rattle.world_model.specs.declared.step.Step.TheVariants as step
use Rattle.site_partitions.specs.Held.{Held, index_of}
use Rattle.site_partitions.specs.Moves.{Moves}
use Rattle.cluster.specs.Same.{SameCluster, disk_at, faults_at, room_at}
use Rattle.cluster.specs.Faults.{FaultsRose, HasFailed, TellsFault, ShowsFault, ShowFaults}

then_more : (a b c : ℕ) → a ≤ b → b ≤ c → a ≤ c
then_more a b c h k = omega arith

then_rose : (a b c : ℕ) → a ≤ b → Rose b c → Rose a c
then_rose a b c h k = omega arith

module _ {A X : Type 0} (f : A → X) where
  -- what stays the same of an element that is put stays the same everywhere
  same_put : (xs : List A) (i : ℕ) (t u : A) → ((other : A) → get_or xs i other ≡ t) → f u ≡ f t → (j : ℕ) (other : A) → f (get_or (set xs i u) j other) ≡ f (get_or xs j other)
  same_put [] i t u h k j other = refl
  same_put (x ∷ xs) zero t u h k zero other = subst (λ y. f u ≡ f y) (sym (h x)) k
  same_put (x ∷ xs) zero t u h k (suc j) other = refl
  same_put (x ∷ xs) (suc i) t u h k zero other = refl
  same_put (x ∷ xs) (suc i) t u h k (suc j) other = same_put xs i t u h k j other

  -- and what holds of both holds there
  both_put : (R : X → X → Type 0) (xs : List A) (i : ℕ) (t u : A) → ((other : A) → get_or xs i other ≡ t) → R (f t) (f u) → (other : A) → R (f (get_or xs i other)) (f (get_or (set xs i u) i other))
  both_put R [] i t u h k other = subst (λ y. R (f y) (f other)) (sym (h other)) (subst (λ y. R (f t) (f y)) (h u ∙ sym (h other)) k)
  both_put R (x ∷ xs) zero t u h k other = subst (λ y. R (f y) (f u)) (sym (h x)) k
  both_put R (x ∷ xs) (suc i) t u h k other = both_put R xs i t u h k other

module _ {A : Type 0} (f : A → ℕ) where
  -- what is counted falls nowhere, where an element is put that counts no less
  later_set : (xs : List A) (i : ℕ) (t u : A) → ((other : A) → get_or xs i other ≡ t) → f t ≤ f u → (j : ℕ) (other : A) → f (get_or xs j other) ≤ f (get_or (set xs i u) j other)
  later_set [] i t u h k j other = omega arith
  later_set (x ∷ xs) zero t u h k zero other = subst (λ y. f y ≤ f u) (sym (h x)) k
  later_set (x ∷ xs) zero t u h k (suc j) other = omega arith
  later_set (x ∷ xs) (suc i) t u h k zero other = omega arith
  later_set (x ∷ xs) (suc i) t u h k (suc j) other = later_set xs i t u h k j other

  -- nor does what stays the same there change elsewhere
  same_set : (xs : List A) (i : ℕ) (t u : A) → ((other : A) → get_or xs i other ≡ t) → f u ≡ f t → (j : ℕ) (other : A) → f (get_or (set xs i u) j other) ≡ f (get_or xs j other)
  same_set [] i t u h k j other = refl
  same_set (x ∷ xs) zero t u h k zero other = subst (λ y. f u ≡ f y) (sym (h x)) k
  same_set (x ∷ xs) zero t u h k (suc j) other = refl
  same_set (x ∷ xs) (suc i) t u h k zero other = refl
  same_set (x ∷ xs) (suc i) t u h k (suc j) other = same_set xs i t u h k j other

  rose_set : (xs : List A) (i : ℕ) (t u : A) → ((other : A) → get_or xs i other ≡ t) → Rose (f t) (f u) → (other : A) → Rose (f (get_or xs i other)) (f (get_or (set xs i u) i other))
  rose_set [] i t u h k other = subst (λ y. Rose (f y) (f other)) (sym (h other)) (subst (λ y. Rose (f t) (f y)) (h u ∙ sym (h other)) k)
  rose_set (x ∷ xs) zero t u h k other = subst (λ y. Rose (f y) (f u)) (sym (h x)) k
  rose_set (x ∷ xs) (suc i) t u h k other = rose_set xs i t u h k other

module _ {E D : Type 0} (state : D → DiskState) where
  abbrev faults_of : Durable E D → ℕ
  faults_of t = (disk_in state t).faults

  abbrev sound_of : Durable E D → Bool
  sound_of t = (disk_in state t).sound

  abbrev room_of : Durable E D → ℕ
  room_of t = (disk_in state t).room

  pub same_of : (old new : Held E D) (at : PartId) → Moves state old new at → SameCluster state old new
  same_of old new at m = record {
    sites_are = m.same_sites;
    parts_are = m.same_parts;
    faults = λ p other. subst (λ (h : Held E D). faults_at state old p other ≤ faults_at state h p other) (sym m.changed) (later_set faults_of old.partitions (index_of old.parts at) m.before m.after m.there m.disk.later (index_of old.parts p) other);
    rooms = λ p other. subst (λ (h : Held E D). room_at state h p other ≡ room_at state old p other) (sym m.changed) (same_set room_of old.partitions (index_of old.parts at) m.before m.after m.there m.disk.room (index_of old.parts p) other);
    sounds = λ p other. subst (λ (h : Held E D). (disk_at state h p other).sound ≡ (disk_at state old p other).sound) (sym m.changed) (same_put sound_of old.partitions (index_of old.parts at) m.before m.after m.there m.disk.sound (index_of old.parts p) other);
  }

  pub failed_of : (old new : Held E D) (at : PartId) (m : Moves state old new at) → Fails (disk_in state m.before) (disk_in state m.after) → HasFailed state old new at
  failed_of old new at m r other = subst (λ (h : Held E D). Fails (disk_at state old at other) (disk_at state h at other)) (sym m.changed) (both_put (λ t. disk_in state t) Fails old.partitions (index_of old.parts at) m.before m.after m.there r other)

  pub rose_by : (old new : Held E D) (at : PartId) → HasFailed state old new at → FaultsRose state old new at
  rose_by old new at h other = (h other).rose

  pub rose_of : (old new : Held E D) (at : PartId) (m : Moves state old new at) → Rose (disk_in state m.before).faults (disk_in state m.after).faults → FaultsRose state old new at
  rose_of old new at m r other = subst (λ (h : Held E D). Rose (faults_at state old at other) (faults_at state h at other)) (sym m.changed) (rose_set faults_of old.partitions (index_of old.parts at) m.before m.after m.there r other)

  -- a count that rose in one of two steps rose in both together
  pub rose_first : (a b c : Held E D) (p : PartId) → FaultsRose state a b p → SameCluster state b c → FaultsRose state a c p
  rose_first a b c p r s other = then_more _ (faults_at state b p other) (faults_at state c p other) (r other) (s.faults p other)

  pub rose_last : (a b c : Held E D) (p : PartId) → SameCluster state a b → FaultsRose state b c p → FaultsRose state a c p
  rose_last a b c p s r other = then_rose (faults_at state a p other) (faults_at state b p other) (faults_at state c p other) (s.faults p other) (r other)

  shows_first : (run : Run) (a b c : Held E D) (s : Step) → SameCluster state b c → ShowsFault state run a b s → ShowsFault state run a c s
  shows_first run a b c (step.Disk p) k h = rose_first a b c p h k
  shows_first run a b c (step.Unsure t) k h = rose_first a b c _ h k
  shows_first run a b c other k h = tt

  pub show_first : (run : Run) (a b c : Held E D) (steps : List Step) → SameCluster state b c → ShowFaults state run a b steps → ShowFaults state run a c steps
  show_first run a b c [] k h = tt
  show_first run a b c (s ∷ steps) k h = (shows_first run a b c s k h.0, show_first run a b c steps k h.1)

  pub shows_last : (run : Run) (a b c : Held E D) (s : Step) → SameCluster state a b → ShowsFault state run b c s → ShowsFault state run a c s
  shows_last run a b c (step.Disk p) k h = rose_last a b c p k h
  shows_last run a b c (step.Unsure t) k h = rose_last a b c _ k h
  shows_last run a b c other k h = tt

  -- what a command's line tells, where its call tells so, and a decide in doubt was asked of the lead
  pub shows_told : (run : Run) (old new : Held E D) (at : PartId) (line : Step) → TellsFault state old new at line → ((t : TxId) → line ≡ step.Unsure t → lead (parts_of run) (calls_of run) t ≡ at) → ShowsFault state run old new line
  shows_told run old new at (step.Disk p) h led = rose_by old new p h.1
  shows_told run old new at (step.Unsure t) h led = subst (FaultsRose state old new) (sym (led t refl)) (rose_by old new at h)
  shows_told run old new at other h led = tt

  -- after any run that tells of the same leads
  pub shows_as : (middle run : Run) (old new : Held E D) (s : Step) → ((t : TxId) → lead (parts_of middle) (calls_of middle) t ≡ lead (parts_of run) (calls_of run) t) → ShowsFault state middle old new s → ShowsFault state run old new s
  shows_as middle run old new (step.Disk p) same h = h
  shows_as middle run old new (step.Unsure t) same h = subst (FaultsRose state old new) (same t) h
  shows_as middle run old new other same h = tt

  pub show_more : (run : Run) (old new : Held E D) (lines : List Step) (s : Step) → ShowFaults state run old new lines → ShowsFault state run old new s → ShowFaults state run old new (lines ++ s ∷ [])
  show_more run old new [] s h k = (k, tt)
  show_more run old new (x ∷ lines) s h k = (h.0, show_more run old new lines s h.1 k)

  pub show_last : (run : Run) (a b c : Held E D) (lines : List Step) → SameCluster state a b → ShowFaults state run b c lines → ShowFaults state run a c lines
  show_last run a b c [] k h = tt
  show_last run a b c (s ∷ lines) k h = (shows_last run a b c s k h.0, show_last run a b c lines k h.1)
