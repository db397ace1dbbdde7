-- What waits at a partition and what it has taken, where the lines of a run tell it and where its tables do.
use Rattle.std.proofs.Common.{◌≡◌, ℕ, Bool, true, false, List, ◌∷◌, refl, sym, ap, ◌∙◌, subst}
use Rattle.std.specs.Prelude.{not}
use Rattle.std.proofs.lemmas.Bool.{true≢false}
use Rattle.site_vector.specs.declared.ids.PartId.{PartId}
use Rattle.site_vector.specs.declared.ids.TxId.{TxId}
use Rattle.site_vector.specs.Vector.{entry}
use Rattle.crdt_core.specs.declared.record.Message.{Message}
use Rattle.crdt_core.specs.KindsOf.{Kinds}
use Rattle.crdt_core.specs.Log as log
use Rattle.world_model.specs.lines.Bounds.{bound}
use Rattle.world_model.specs.rules.Event.{Event, Prepared, Decided, Finished, Aborted, Took, Entry}
use Rattle.world_model.specs.rules.Lines.{shown_lines}
use Rattle.world_model.specs.rules.Partition.{PartState, PartStep}
use Rattle.world_model.specs.lines.Places.{IsOther, IsPlace}
use Rattle.world_model.specs.lines.Pending as lines
use Rattle.world_model.specs.rules.Plan.{MayTake}
use Rattle.world_model.specs.rules.World.{plan_of, IsWorldRun}
use Rattle.world_model.proofs.LineViews.{bound_is}
use Rattle.world_model.proofs.Names.{off}
use Rattle.world_model.proofs.Shows.{shown_run}
use Rattle.world_model.proofs.Told as law
use Rattle.world_model.proofs.Whole.{suffix_all, all_fresh, fits}
use Rattle.partition_core.specs.Durable.{StandsOn, StandsUp, StandsSo, is_down}
use Rattle.site_partitions.specs.Held.{Held}
use Rattle.site_partitions.specs.Moves.{Moves}
use Rattle.site_partitions.specs.Reaches.{Types, Reaches}
use Rattle.cluster.proofs.FuelWrites.{can_write}

not_false : (b : Bool) → not b ≡ false → b ≡ true
not_false true h = refl
not_false false h = absurd (true≢false h)

module _ {S E : Type 0} (kinds : Kinds S E) (sites parts : ℕ) (run : List (Entry E)) where
  -- two states that the run may have left are up both, or down
  pub both_up : (a b : PartId → PartState E) → IsWorldRun kinds sites parts run a → IsWorldRun kinds sites parts run b → (p : PartId) → (a p).up ≡ true → (b p).up ≡ true
  both_up a b ra rb p up = not_false (b p).up (sym (law.told kinds sites parts run b rb p).down ∙ ((law.told kinds sites parts run a ra p).down ∙ ap not up))

  module _ (state : PartId → PartState E) (is_run : IsWorldRun kinds sites parts run state) (p : PartId) (up : (state p).up ≡ true) where
    pub waits_in : (t : TxId) → lines.pending (shown_lines run) p t ≡ true → log.pending (state p).log t ≡ true
    waits_in t h = (law.told kinds sites parts run state is_run p).waiting t up ∙ h

    pub bound_in : (j : ℕ) → IsOther sites p.site j → bound (shown_lines run) p j ≡ entry (state p).bounds j
    bound_in j o = bound_is run p j ∙ sym ((shown_run kinds (plan_of sites parts run) run state (fits kinds sites parts run state is_run run (all_fresh kinds sites parts run state is_run) (suffix_all run))).bounds p j up o)

-- whoever may write is up
pub step_up : {S E : Type 0} (kinds : Kinds S E) (sites parts : ℕ) (id : PartId) (p q : PartState E) (e : Event E) → can_write e ≡ true → PartStep kinds sites parts id p e q → p.up ≡ true
step_up kinds sites parts id p q (Prepared t s l w n) h st = st.0
step_up kinds sites parts id p q (Decided t c) h st = st.0
step_up kinds sites parts id p q (Finished t c) h st = st.0
step_up kinds sites parts id p q (Aborted t own) h st = st.0
step_up kinds sites parts id p q (Took number m) h st = st.0
step_up kinds sites parts id p q other h st = off h

module _ {S E D : Type 0} (w : Types S E D) (old new : Held E D) (at : PartId) (m : Moves w.state old new at) where
  -- where the run went on by what may write, the partition was up
  pub was_up : (run : List (Entry E)) (r : Reaches w old run) (e : Event E) → Reaches w new ((record { at = at; event = e }) ∷ run) → can_write e ≡ true → (r.state at).up ≡ true
  was_up run r e next h =
      let x = subst (λ n. IsWorldRun w.kinds n new.parts ((record { at = at; event = e }) ∷ run) next.state) m.same_sites next.is_run in
      let y : IsWorldRun w.kinds old.sites old.parts ((record { at = at; event = e }) ∷ run) next.state = subst (λ n. IsWorldRun w.kinds old.sites n ((record { at = at; event = e }) ∷ run) next.state) m.same_parts x in
      both_up w.kinds old.sites old.parts run y.0 r.state y.1 r.is_run at (step_up w.kinds old.sites old.parts at (y.0 at) (next.state at) e h y.2.step)

  pub place_of : (run : List (Entry E)) (e : Event E) → Reaches w new ((record { at = at; event = e }) ∷ run) → IsPlace old.sites old.parts at
  place_of run e next =
      let p = next.is_run.2.place in
      subst (λ n. IsPlace old.sites n at) m.same_parts (subst (λ n. IsPlace n new.parts at) m.same_sites (record { least_site = p.least_site; most_site = p.most_site; least_part = p.least_part; most_part = p.most_part }))

  -- who took a message took it from another site
  pub from_other : (run : List (Entry E)) (number : ℕ) (x : Message E) → Reaches w new ((record { at = at; event = Took number x }) ∷ run) → IsOther old.sites at.site x.from
  from_other run number x next =
      let a : MayTake (plan_of new.sites new.parts ((record { at = at; event = Took number x }) ∷ run)) run at number x = next.is_run.2.allowed in
      subst (λ n. IsOther n at.site x.from) m.same_sites (record { least = a.from.least; most = a.from.most; apart = a.from.apart })

  -- what waits by one run that left the cluster so waits by any other
  module _ (run next : List (Entry E)) (r : Reaches w old run) (s : Reaches w old next) (place : IsPlace old.sites old.parts at) where
    stood : (l : List (Entry E)) (x : Reaches w old l) → StandsOn w.codec w.state m.before (x.state at)
    stood l x = subst (λ t. StandsOn w.codec w.state t (x.state at)) (m.there m.before) (x.each at place m.before).stands

    stands_so : (b : Bool) → is_down m.before ≡ b → (l : List (Entry E)) (x : Reaches w old l) → StandsSo w.codec w.state m.before (x.state at) b
    stands_so b e l x = subst (λ c. StandsSo w.codec w.state m.before (x.state at) c) e (stood l x)

    pub waits_too : (s.state at).up ≡ true → (t : TxId) → lines.pending (shown_lines run) at t ≡ true → log.pending (s.state at).log t ≡ true
    waits_too up t h = by_down (is_down m.before) refl
      where
        by_down : (b : Bool) → is_down m.before ≡ b → log.pending (s.state at).log t ≡ true
        by_down true e = let d = stands_so true e next s in absurd (true≢false (sym up ∙ d.down))
        by_down false e =
            let a : StandsUp w.codec w.state m.before (r.state at) = stands_so false e run r in
            let b : StandsUp w.codec w.state m.before (s.state at) = stands_so false e next s in
            sym (b.tables.tells.table.members t) ∙ (a.tables.tells.table.members t ∙ waits_in w.kinds old.sites old.parts run r.state r.is_run at a.tables.up t h)
