-- What whoever runs a cluster may rest on: the run that left it shows one history, whose logs its partitions that are up hold, and
-- lines outside the grammar change nothing.
use Rattle.std.proofs.Common.{◌≡◌, ℕ, true, false, get_or, List, [], ◌∷◌, refl, sym, ap, ◌∙◌, subst, inr, Option, None, Some}
use Rattle.std.proofs.lemmas.Bool.{not-false, true≢false}
use Rattle.site_vector.specs.declared.ids.PartId.{PartId}
use Rattle.world_model.specs.declared.command.Command.TheVariants as command
use Rattle.world_model.specs.declared.step.Step.{Step}
use Rattle.world_model.specs.declared.step.Step.TheVariants as step
use Rattle.world_model.specs.commands.Answers.{answered}
use Rattle.world_model.specs.commands.Cluster.{sites_of, parts_of}
use Rattle.world_model.specs.lines.Dependency.{HandsOwn}
use Rattle.world_model.specs.rules.Event.{Entry}
use Rattle.world_model.specs.commands.Fuses.{HoldsFuses}
use Rattle.world_model.specs.lines.Lawful.{IsLawful}
use Rattle.world_model.specs.rules.Lines.{shown_lines}
use Rattle.world_model.specs.events.Logs.{IsLogOf}
use Rattle.world_model.specs.rules.Partition.{PartState, new_part}
use Rattle.world_model.specs.lines.Pending.{is_down}
use Rattle.world_model.specs.lines.Places.{IsPlace}
use Rattle.world_model.specs.commands.Run.{Run}
use Rattle.world_model.specs.commands.ScriptAnswers.{AnswersBy}
use Rattle.world_model.specs.commands.ScriptCalls.{calls_of}
use Rattle.world_model.specs.rules.Told.{Told}
use Rattle.world_model.specs.rules.World.{IsWorldRun, plan_of}
use Rattle.world_model.proofs.Law.{law_world}
use Rattle.world_model.proofs.Told as law
use Rattle.crdt_core.specs.Log.{MayFind}
use Rattle.crdt_core.specs.declared.record.Record.{Record}
use Rattle.partition_log.specs.Logs.{HasRecords}
use Rattle.partition_core.specs.Durable as durable
use Rattle.partition_core.specs.Durable.{Durable, StandsOn, StandsSo, StandsUp, disk_in}
use Rattle.site_partitions.specs.Held.{index_of}
use Rattle.txn_session.specs.Calls.{entries}
use Rattle.site_partitions.specs.Reaches.{Types, StandsAt}
use Rattle.cluster.specs.History.{ShowsHistory}
use Rattle.cluster.specs.Post.{WholeState}
use Rattle.cluster.specs.Reached.{IsBefore, Applies, Reached}
use Rattle.cluster.specs.Rooms.{FindRooms, IsRoomAt}
use Rattle.cluster.proofs.Rooms.{rooms_as}
use Rattle.cluster.proofs.Keeping.{post_on, keeps_line, keeps_both}
use Rattle.cluster.proofs.Meets.{all_met, none_due}
use Rattle.cluster.proofs.FuelStays.{holds_fuses, unlit_failed, unlit_holds}
use Rattle.cluster.proofs.Mere.{before_still}
use Rattle.cluster.proofs.Standing.{live_still}

module _ {S E D : Type 0} (types : Types S E D) where
  abbrev shows : (sites parts : ℕ) (run : Run) (events : List (Entry E)) (state : PartId → PartState E) → sites ≡ sites_of run → parts ≡ parts_of run → IsWorldRun types.kinds sites parts events state → shown_lines events ≡ calls_of run → HandsOwn (sites_of run) (calls_of run) → HoldsFuses run → ShowsHistory types.kinds run
  shows sites parts run events state es ep is shown own fuses =
      let there : IsWorldRun types.kinds (sites_of run) (parts_of run) events state = subst (λ n. IsWorldRun types.kinds n (parts_of run) events state) es (subst (λ n. IsWorldRun types.kinds sites n events state) ep is) in
      let lawful : IsLawful types.kinds.too_deep types.kinds.meaning (sites_of run) (parts_of run) (calls_of run) = subst (λ ls. IsLawful types.kinds.too_deep types.kinds.meaning (sites_of run) (parts_of run) ls) shown (law_world types.kinds (sites_of run) (parts_of run) events state there).2 in
      record { events = events; state = state; is_run = there; shown = shown; lawful = lawful; past = lawful.past own; fuses = fuses }

  abbrev pub history : (c : Option (WholeState E D)) (run : Run) → Reached types c run → ShowsHistory types.kinds run
  history None run b = shows 0 0 run [] (λ p. new_part 0 0) (sym b.sites) (sym b.parts) (λ p. refl) (sym b.calls) (subst (λ ls. HandsOwn (sites_of run) ls) (sym b.calls) tt) (unlit_holds run b.unlit)
  history (Some w) run r = shows w.live.sites.sites w.live.sites.parts run (entries r.live.calls) r.live.sees.reached.state r.live.sites r.live.parts r.live.sees.reached.is_run r.live.shown r.live.own
      (holds_fuses types.kinds types.state w.live.sites w.live.sites.sites w.live.sites.parts run (entries r.live.calls) r.live.sees.reached.state r.live.sees.reached.is_run r.live.shown r.live.fuel)

  pub bad_still : (c : Option (WholeState E D)) (number : ℕ) (run : Run) → Reached types c run → Reached types c ((record { number = number; command = None; step = step.Bad }) ∷ run)
  bad_still None number run b = before_still number None step.Bad run refl b
  bad_still (Some w) number run r =
      let x = live_still types w.live number None step.Bad run refl (λ who. refl) r.live in
      record { live = x.reached; post = post_on w.live.sites.sites w.live.sites.parts run _ r.live.calls x.reached.calls w.post x.keeps x.grows r.post }

  -- a disk that failed as a cluster was made leaves none
  pub none_made : (sites parts : ℕ) (at : PartId) (steps : List Step) → IsPlace sites parts at → steps ≡ step.Disk at ∷ [] → Applies types None (command.Cluster sites parts) steps None
  none_made sites parts at steps place is = λ number run b. (
    subst (λ o. AnswersBy run (command.Cluster sites parts) steps o) (sym (none_due (all_met run (command.Cluster sites parts)) (refl, (b.lacks, tt)))) (inr (at, place, is)),
    subst (λ l. IsBefore (answered number (Some (command.Cluster sites parts)) l run)) (sym is) (record {
      lacks = b.lacks;
      sites = b.sites;
      parts = b.parts;
      calls = b.calls;
      phases = b.phases;
      site = b.site;
      count = b.count;
      post = keeps_both [] run _ b.post (keeps_line number (Some (command.Cluster sites parts)) (step.Disk at) run refl);
      unlit = unlit_failed run number (Some (command.Cluster sites parts)) at b.unlit;
    }),
    tt,
  )

  -- an open log that these events leave at p
  pub record HoldsLeft (sites parts : ℕ) (events : List (Entry E)) (p : PartId) (t : Durable E D) : Type 0 where
    pub log : List (Record E)
    pub left : IsLogOf (plan_of sites parts events) events p log
    pub records : HasRecords types.codec types.state t.gates log

  stands_up : (t : Durable E D) (q : PartState E) → q.up ≡ true → StandsOn types.codec types.state t q → StandsUp types.codec types.state t q
  stands_up t q u = elim (durable.is_down t) as (λ b. StandsSo types.codec types.state t q b → StandsUp types.codec types.state t q) [
    | true ↦ λ s. absurd (true≢false (sym u ∙ s.down))
    | false ↦ λ s. s
  ]

  -- where a call found no room, there was none, by whatever tells the rooms of the disks
  pub rooms_left : (w : WholeState E D) (run : Run) (r : Reached types (Some w) run) (R : PartId → ℕ → Type 0) → ((p : PartId) (n : ℕ) → IsPlace (sites_of run) (parts_of run) p → ((other : Durable E D) → (disk_in types.state (get_or w.live.sites.partitions (index_of (parts_of run) p) other)).room ≡ n) → R p n) → FindRooms types.kinds types.codec (sites_of run) (parts_of run) R (history (Some w) run r).events
  rooms_left w run r R so =
      subst (λ n. FindRooms types.kinds types.codec n (parts_of run) R (entries r.live.calls)) r.live.sites (subst (λ n. FindRooms types.kinds types.codec w.live.sites.sites n R (entries r.live.calls)) r.live.parts
      (rooms_as types.kinds types.codec w.live.sites.sites w.live.sites.parts (IsRoomAt types.state w.live.sites) R
      (λ p n place h. so p n (subst (λ k. IsPlace k (parts_of run) p) r.live.sites (subst (λ k. IsPlace w.live.sites.sites k p) r.live.parts place)) (λ other. subst (λ k. (disk_in types.state (get_or w.live.sites.partitions (index_of k p) other)).room ≡ n) r.live.parts (h other)))
      (entries r.live.calls) r.live.sees.rooms))

  -- a partition that is up by the lines of the run holds one
  pub log_left : (w : WholeState E D) (run : Run) (r : Reached types (Some w) run) (p : PartId) (t : Durable E D) → IsPlace (sites_of run) (parts_of run) p → is_down (calls_of run) p ≡ false → ((other : Durable E D) → get_or w.live.sites.partitions (index_of (parts_of run) p) other ≡ t) → HoldsLeft (sites_of run) (parts_of run) (history (Some w) run r).events p t
  log_left w run r p t place up there =
      let h = history (Some w) run r in
      let told : Told (sites_of run) (parts_of run) h.events h.state p = law.told types.kinds (sites_of run) (parts_of run) h.events h.state h.is_run p in
      let is_up : (h.state p).up ≡ true = not-false _ (sym told.down ∙ (ap (λ ls. is_down ls p) h.shown ∙ up)) in
      let inside : IsPlace w.live.sites.sites w.live.sites.parts p = subst (λ n. IsPlace n w.live.sites.parts p) (sym r.live.sites) (subst (λ n. IsPlace (sites_of run) n p) (sym r.live.parts) place) in
      let here : StandsAt types w.live.sites.sites w.live.sites.parts p t (h.state p) = subst (λ (u : Durable E D). StandsAt types w.live.sites.sites w.live.sites.parts p u (h.state p)) (ap (λ n. get_or w.live.sites.partitions (index_of n p) t) r.live.parts ∙ there t) (r.live.sees.reached.each p inside t) in
      let stands = stands_up t (h.state p) is_up here.stands in record {
        log = (h.state p).log;
        left = (law_world types.kinds (sites_of run) (parts_of run) h.events h.state h.is_run).1 p (h.state p).log (subst (λ rs. MayFind (h.state p).log rs (h.state p).log) (sym stands.tables.whole) refl);
        records = stands.log;
      }
