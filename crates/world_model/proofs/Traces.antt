-- The trace of a partition in a run of the world.
use Rattle.std.proofs.Common.{◌≡◌, ⊎_elim, ℕ, true, false, List, [], ◌∷◌, sym, subst}
use Rattle.std.proofs.lemmas.Bool.{cases_Bool, cond-true, cond-false}
use Rattle.site_vector.specs.declared.ids.PartId.{PartId}
use Rattle.site_vector.specs.Ids.{same_part}
use Rattle.site_vector.specs.Order.{same_part_is, same_part_refl}
use Rattle.crdt_core.specs.KindsOf.{Kinds}
use Rattle.world_model.specs.rules.Event.{Entry}
use Rattle.world_model.specs.rules.Partition.{PartState, PartStep}
use Rattle.world_model.specs.rules.World.{IsWorldRun}
use Rattle.world_model.specs.rules.Traces.{trace_of, IsTrace}
use Rattle.world_model.proofs.Names.{clash}

module _ {E : Type 0} where
  pub traces : {S : Type 0} (kinds : Kinds S E) (sites parts : ℕ) (run : List (Entry E)) (state : PartId → PartState E) → IsWorldRun kinds sites parts run state → (p : PartId) → IsTrace kinds sites parts p (trace_of p run) (state p)
  traces kinds sites parts [] state r p = r p
  traces kinds sites parts (e ∷ run) state r p = ⊎_elim
      (λ (k : same_part e.at p ≡ true).
      let same = same_part_is e.at p k in
      subst (λ l. IsTrace kinds sites parts p l (state p)) (sym (cond-true _ (e.event ∷ trace_of p run) (trace_of p run) k))
      (r.0 p, traces kinds sites parts run r.0 r.1 p, subst (λ q. PartStep kinds sites parts q (r.0 q) e.event (state q)) same r.2.step))
      (λ (k : same_part e.at p ≡ false).
      let old : state p ≡ r.0 p = r.2.others p (λ x. clash (subst (λ q. same_part q p ≡ true) x (same_part_refl p)) k) in
      subst (λ l. IsTrace kinds sites parts p l (state p)) (sym (cond-false _ (e.event ∷ trace_of p run) (trace_of p run) k))
      (subst (IsTrace kinds sites parts p (trace_of p run)) (sym old) (traces kinds sites parts run r.0 r.1 p)))
      (cases_Bool (same_part e.at p))
