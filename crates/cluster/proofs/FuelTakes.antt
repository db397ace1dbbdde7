-- What a partition took brought a part above its bound where the lines of the whole run tell so.
use Rattle.std.proofs.Common.{◌≡◌, ℕ, ◌≤◌, leb, ltb, true, ◌&&◌, List, [], ◌∷◌, sym, ap, ◌∙◌, subst, arith}
use Rattle.std.proofs.lemmas.Bool.{and_from, and_parts, ltb-true, lt-ltb}
use Rattle.site_vector.specs.declared.ids.PartId.{PartId}
use Rattle.site_vector.specs.declared.ids.TxId.{TxId}
use Rattle.site_vector.specs.Vector.{entry}
use Rattle.crdt_core.specs.declared.record.Message.{Message}
use Rattle.crdt_core.specs.KindsOf.{Kinds}
use Rattle.crdt_core.specs.Parts.{lists}
use Rattle.world_model.specs.rules.Event.{Event, Sent, Took, Entry, EventsAre, is_decided, time_of, sent_count}
use Rattle.world_model.specs.events.Handed.{HandedAt, AreHanded}
use Rattle.world_model.specs.lines.History.{history, commit_time}
use Rattle.world_model.specs.events.Lawful.{IsLawfulWorld}
use Rattle.world_model.specs.lines.Lines.{Line}
use Rattle.world_model.specs.rules.Lines.{shown_lines}
use Rattle.world_model.specs.rules.Partition.{PartState}
use Rattle.world_model.specs.rules.Plan.{Plan, is_some_update, takes_part, commit_vector, MayTake}
use Rattle.world_model.specs.lines.Places.{twin}
use Rattle.world_model.specs.lines.Restarts as restarts
use Rattle.world_model.specs.events.Restarts.{brings}
use Rattle.world_model.specs.events.Bounds.{bound_shown}
use Rattle.world_model.specs.events.Causes.{ShowsAt, ShowAt}
use Rattle.world_model.specs.lines.Updates as updates
use Rattle.world_model.specs.rules.World.{plan_of, IsWorldRun}
use Rattle.world_model.specs.events.Reads.{IsExact, IsRight}
use Rattle.world_model.proofs.Intervals.{numbered_shown, shown_has}
use Rattle.world_model.proofs.Later.{at_own}
use Rattle.world_model.proofs.Law.{law_world}
use Rattle.world_model.proofs.LineChanges.{takes_part_is}
use Rattle.world_model.proofs.LineCounts.{found_in, some_above, part_above}
use Rattle.world_model.proofs.LineReads.{history_has}
use Rattle.world_model.proofs.LineViews.{in_history_is, commit_time_is, bound_is}
use Rattle.cluster.specs.Fuel.{IsBrought, AreBrought}

module _ {S E : Type 0} (kinds : Kinds S E) (sites parts : ℕ) (run : List (Entry E)) (law : IsLawfulWorld kinds (plan_of sites parts run) run) where
  abbrev plan : Plan E
  plan = plan_of sites parts run

  abbrev ls : List Line
  ls = shown_lines run

  takes_eq : (t : TxId) (p : PartId) → updates.takes_part ls t p ≡ takes_part plan t p
  takes_eq t p = takes_part_is plan run law.handed law.numbered t p ∙ ap is_some_update (sym (law.planned t p))

  brought : (some : List (Entry E)) (p : PartId) (number : ℕ) (m : Message E) (have : ℕ) → MayTake plan some p number m → m.lo ≤ have → EventsAre (IsRight kinds plan run) some → restarts.brings ls p m.from have m.hi ≡ true → brings m have ≡ true
  brought some p number m have h low right k =
      let q = twin m.from p in
      let x : IsExact plan run q m = shown_has (IsRight kinds plan run) some q (Sent h.asked m) right (numbered_shown sent_count some number q (Sent h.asked m) h.shown) in
      let test = λ (t : TxId). updates.takes_part ls t q && (ltb have (commit_time ls t) && leb (commit_time ls t) m.hi) in
      let own : (t : TxId) → takes_part plan t q ≡ true → entry (commit_vector plan run t) m.from ≡ time_of run t = λ t u. ap (λ j. entry (commit_vector plan run t) j) (plan.at_home t q u) ∙ at_own plan t q (time_of run t) u in
      let y = found_in (history ls) test k in
      let a = and_parts (updates.takes_part ls y.0 q) _ y.2 in
      let b = and_parts (ltb have (commit_time ls y.0)) _ a.1 in
      let d : is_decided run y.0 ≡ true = sym (in_history_is run y.0) ∙ sym (history_has ls y.0) ∙ y.1 in
      let takes : takes_part plan y.0 q ≡ true = sym (takes_eq y.0 q) ∙ a.0 in
      let above_have : ltb have (time_of run y.0) ≡ true = ap (ltb have) (sym (commit_time_is run y.0)) ∙ b.0 in
      let above_low : ltb m.lo (time_of run y.0) ≡ true = (let z = ltb-true have (time_of run y.0) above_have in lt-ltb m.lo (time_of run y.0) (omega arith)) in
      let upto : leb (time_of run y.0) m.hi ≡ true = ap (λ n. leb n m.hi) (sym (commit_time_is run y.0)) ∙ b.1 in
      let there : lists m.parts y.0 ≡ true = x.members y.0 ∙ and_from _ _ d (and_from _ _ takes (and_from _ _ above_low upto)) in
      some_above m.from have m.parts ∙ part_above (commit_vector plan run) (λ u. plan.updates u q) m.from have m.parts x.exact y.0 there (ap (ltb have) (own y.0 takes) ∙ above_have)

  brought_at : (some : List (Entry E)) (p : PartId) (e : Event E) → HandedAt plan some p e → ShowsAt plan some p e → EventsAre (IsRight kinds plan run) some → IsBrought ls (shown_lines some) p e
  brought_at some p (Took number m) h s right = subst (λ b. restarts.brings ls p m.from b m.hi ≡ true → brings m b ≡ true) (sym (bound_is some p m.from)) (brought some p number m (bound_shown some p m.from) h s.0 right)
  brought_at some p other h s right = tt

  brought_by : (some : List (Entry E)) → AreHanded plan some → ShowAt plan some → EventsAre (IsRight kinds plan run) some → AreBrought ls some
  brought_by [] h s right = tt
  brought_by (e ∷ some) h s right = (brought_at some e.at e.event h.0 s.0 right.1, brought_by some h.1 s.1 right.1)

-- a run of the world tells so of all that it took
pub are_brought : {S E : Type 0} (kinds : Kinds S E) (sites parts : ℕ) (run : List (Entry E)) (state : PartId → PartState E) → IsWorldRun kinds sites parts run state → AreBrought (shown_lines run) run
are_brought kinds sites parts run state is_run =
    let law = (law_world kinds sites parts run state is_run).0 in
    brought_by kinds sites parts run law run law.handed law.shown law.right
