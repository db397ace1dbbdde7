-- What every run of the world gives a cluster: what is pending has begun, and a restart finds only records that fit.
use Rattle.std.proofs.Common.{◌≡◌, ℕ, true, List, ap, sym, ◌∙◌, None}
use Rattle.site_vector.specs.declared.ids.PartId.{PartId}
use Rattle.site_vector.specs.declared.ids.TxId.{TxId}
use Rattle.crdt_core.specs.declared.record.Record.{Record}
use Rattle.crdt_core.specs.Fitting.{unfit}
use Rattle.crdt_core.specs.KindsOf.{Kinds}
use Rattle.crdt_core.specs.Log.{pending}
use Rattle.world_model.specs.rules.Event.{Entry}
use Rattle.world_model.specs.rules.Partition.{PartState, Finds}
use Rattle.world_model.specs.rules.Plan.{Plan, is_some_update}
use Rattle.world_model.proofs.Runs.{IsRun}
use Rattle.world_model.specs.rules.World.{IsWorldRun, plan_of}
use Rattle.world_model.proofs.Fate.{pending_parts}
use Rattle.world_model.proofs.Fitted.{good_unfit, good_run}
use Rattle.world_model.proofs.Handing.{IsHome, homes, planned_updates}
use Rattle.world_model.proofs.Upheld.{law_plan}
use Rattle.world_model.proofs.Law.{plan_fits}
use Rattle.world_model.proofs.Moves.{image_log}
use Rattle.world_model.proofs.Whole.{suffix_all, all_fresh, fits}

module _ {S E : Type 0} (kinds : Kinds S E) (sites parts : ℕ) (run : List (Entry E)) (state : PartId → PartState E) (r : IsWorldRun kinds sites parts run state) where
  abbrev plan : Plan E
  plan = plan_of sites parts run

  under : IsRun kinds plan run state
  under = fits kinds sites parts run state r run (all_fresh kinds sites parts run state r) (suffix_all run)

  -- a transaction that is pending at a partition is of its site, and has begun
  pub pending_home : (q : PartId) (t : TxId) → pending (state q).log t ≡ true → IsHome sites run t q
  pending_home q t h =
      let fate = (law_plan kinds plan run state under).fate in
      let prepared = (pending_parts (state q).log t h).prepared in
      let takes = fate.part q t (fate.was_tried q (state q).log t (image_log (state q)) prepared) in
      homes kinds sites parts run state r t q (ap is_some_update (sym (planned_updates kinds sites parts run state r t q)) ∙ takes)

  pub all_fit : (q : PartId) (log : List (Record E)) → Finds (state q) log → unfit sites parts q log ≡ None
  all_fit q log i = good_unfit plan q log ((good_run kinds plan (plan_fits kinds sites parts run state r) run state under).logs q log i)
