-- Vectors that a run of the world showed have one entry for each site.
use Rattle.std.proofs.Common.{◌≡◌, ℕ, ◌-◌, true, List, [], ◌∷◌, length, sym, ap, ◌∙◌, subst, ⊎_elim}
use Rattle.std.specs.Prelude.{slice_set}
use Rattle.std.proofs.lemmas.List.{length-replicate, length-set}
use Rattle.site_vector.specs.declared.ids.PartId.{PartId}
use Rattle.site_vector.specs.declared.ids.TxId.{TxId}
use Rattle.site_vector.specs.VectorLaws.{length_join}
use Rattle.crdt_core.specs.KindsOf.{Kinds}
use Rattle.world_model.specs.lines.Lines.{Wish}
use Rattle.world_model.specs.rules.Event.{Event, Began, Decided, Reported, Entry, WasShown, attempt, voted, time_of}
use Rattle.world_model.specs.rules.Partition.{PartState, PartStep}
use Rattle.world_model.specs.lines.Dependency.{joined}
use Rattle.world_model.specs.rules.Dependency.{ShowsVector, WasVector, WereVectors, IsKnownJoin}
use Rattle.world_model.specs.rules.Plan.{IsAllowed, takes_part}
use Rattle.world_model.specs.rules.World.{IsWorldRun, snapshot_of, plan_of}
use Rattle.world_model.proofs.Handing.{snapshot_width}
use Rattle.world_model.proofs.Whole.{part_begun, tried_begun}
use Rattle.world_model.proofs.Fate.{voted_tried}

module _ {S E : Type 0} (kinds : Kinds S E) (sites parts : ℕ) where
  -- of a transaction that voted or takes part
  pub voted_width : (run : List (Entry E)) (state : PartId → PartState E) → IsWorldRun kinds sites parts run state → (t : TxId) (p : PartId) (n : ℕ) → voted run t p ≡ true → length (slice_set (snapshot_of run t) (t.site - 1) n) ≡ sites
  voted_width run state r t p n v = length-set (snapshot_of run t) (t.site - 1) n ∙ snapshot_width kinds sites parts run state r t (tried_begun kinds sites parts run state t p r (voted_tried run t p v))

  pub taking_width : (run : List (Entry E)) (state : PartId → PartState E) → IsWorldRun kinds sites parts run state → (t : TxId) (p : PartId) (n : ℕ) → takes_part (plan_of sites parts run) t p ≡ true → length (slice_set (snapshot_of run t) (t.site - 1) n) ≡ sites
  taking_width run state r t p n h = length-set (snapshot_of run t) (t.site - 1) n ∙ snapshot_width kinds sites parts run state r t (part_begun sites run t p h)

  begin_width : (at : PartId) (p q : PartState E) (event : Event E) (who : List ℕ) (dep : Wish) (t : TxId) (s : List ℕ) → event ≡ Began who dep t s → PartStep kinds sites parts at p event q → length s ≡ sites
  begin_width at p q event who dep t s e st = (subst (λ x. PartStep kinds sites parts at p x q) e st).1.width

  -- of a snapshot
  pub shown_width : (run : List (Entry E)) (state : PartId → PartState E) → IsWorldRun kinds sites parts run state → (p : PartId) (who : List ℕ) (dep : Wish) (t : TxId) (s : List ℕ) → WasShown run p (Began who dep t s) → length s ≡ sites
  shown_width [] state r p who dep t s h = absurd h
  shown_width (e ∷ run) state r p who dep t s h = ⊎_elim
      (λ (k : (e.at ≡ p) × (e.event ≡ Began who dep t s)). begin_width e.at (r.0 e.at) (state e.at) e.event who dep t s k.1 r.2.step)
      (λ (k : WasShown run p (Began who dep t s)). shown_width run r.0 r.1 p who dep t s k)
      h

  vector_width : (run : List (Entry E)) (before : PartId → PartState E) → IsWorldRun kinds sites parts run before → (at : PartId) (event : Event E) (q : PartState E) → IsAllowed (plan_of sites parts ((record { at = at; event = event }) ∷ run)) run before at (attempt event) → PartStep kinds sites parts at (before at) event q → (v : List ℕ) → ShowsVector event v → length v ≡ sites
  vector_width run before r at (Began who dep t s) q al st v h = ap length (sym h) ∙ st.1.width
  vector_width run before r at (Decided t c) q al st v h = ap length (sym h ∙ al.vector) ∙ voted_width run before r t at (time_of run t) al.here
  vector_width run before r at event q al st v h = absurd h

  known_width : (run : List (Entry E)) (state : PartId → PartState E) → IsWorldRun kinds sites parts run state → (v : List ℕ) → WasVector run v → length v ≡ sites
  known_width [] state r v h = absurd h
  known_width (e ∷ run) state r v h = ⊎_elim
      (λ (k : ShowsVector e.event v). vector_width run r.0 r.1 e.at e.event (state e.at) r.2.allowed r.2.step v k)
      (λ (k : WasVector run v). known_width run r.0 r.1 v k)
      h

  joined_width : (run : List (Entry E)) (state : PartId → PartState E) → IsWorldRun kinds sites parts run state → (vs : List (List ℕ)) → WereVectors run vs → length (joined sites vs) ≡ sites
  joined_width run state r [] h = length-replicate sites 0
  joined_width run state r (v ∷ vs) h =
      let a : length (joined sites vs) ≡ sites = joined_width run state r vs h.1 in length_join (joined sites vs) v (a ∙ sym (known_width run state r v h.0)) ∙ a

  -- of what a begin may be handed
  pub handed_width : (run : List (Entry E)) (state : PartId → PartState E) → IsWorldRun kinds sites parts run state → (dep : List ℕ) → IsKnownJoin sites run dep → length dep ≡ sites
  handed_width run state r dep h = ap length h.is ∙ joined_width run state r h.vectors h.known

  report_width : (at : PartId) (p q : PartState E) (event : Event E) (b : List ℕ) → event ≡ Reported b → PartStep kinds sites parts at p event q → length b ≡ sites
  report_width at p q event b e st = (subst (λ x. PartStep kinds sites parts at p x q) e st).1.width

  -- of what a partition reported
  pub reported_width : (run : List (Entry E)) (state : PartId → PartState E) → IsWorldRun kinds sites parts run state → (p : PartId) (b : List ℕ) → WasShown run p (Reported b) → length b ≡ sites
  reported_width [] state r p b h = absurd h
  reported_width (e ∷ run) state r p b h = ⊎_elim
      (λ (k : (e.at ≡ p) × (e.event ≡ Reported b)). report_width e.at (r.0 e.at) (state e.at) e.event b k.1 r.2.step)
      (λ (k : WasShown run p (Reported b)). reported_width run r.0 r.1 p b k)
      h
