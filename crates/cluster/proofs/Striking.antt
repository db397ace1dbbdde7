-- Crashes, restarts and fuses of partitions, as commands.
use Rattle.std.proofs.Common.{◌≡◌, ℕ, true, false, List, [], ◌∷◌, refl, sym, ap, ◌∙◌, subst, None, Some, Err}
use Rattle.std.specs.Prelude.{not, ◌≤◌, ◌&&◌, nat_le}
use Rattle.std.proofs.lemmas.Bool.{and_from}
use Rattle.field_codec.specs.FormLaws.{le_holds}
use Rattle.site_vector.specs.declared.ids.PartId.{PartId}
use Rattle.world_model.specs.declared.command.Command.{Command}
use Rattle.world_model.specs.declared.command.Command.TheVariants as command
use Rattle.world_model.specs.declared.step.Step.{Step}
use Rattle.world_model.specs.declared.step.Step.TheVariants as step
use Rattle.world_model.specs.commands.Answers.{answered}
use Rattle.world_model.specs.rules.Event as event
use Rattle.world_model.specs.rules.Event.{Event, Crashed, RestartCut}
use Rattle.world_model.specs.lines.Lines.{Crash, Restart}
use Rattle.world_model.specs.commands.Meeting.{met}
use Rattle.world_model.specs.lines.Places.{IsPlace}
use Rattle.world_model.specs.commands.Run.{Run}
use Rattle.world_model.specs.commands.ScriptAnswers.{AnswersBy, IsAnswer}
use Rattle.crdt_core.specs.Fitting.{unfit}
use Rattle.disk_core.specs.States.{Fails}
use Rattle.cluster.specs.Fuel.{IsUnfiredAt}
use Rattle.partition_core.specs.Durable.{disk_in}
use Rattle.partition_core.specs.declared.restart.Restarted.{Restarted}
use Rattle.partition_core.specs.declared.restart.RestartError.TheVariants as restart
use Rattle.txn_session.specs.Calls.{called, entries}
use Rattle.site_partitions.specs.Faults.{CrashesAt, StaysDownAt, ComesUpAt, RestartsAt, ArmsAt, RevivesAt, Keeps}
use Rattle.site_partitions.specs.Held.{Held, holds_site, holds_part}
use Rattle.site_partitions.specs.Reaches.{Types, StandsAt}
use Rattle.cluster.specs.Built.{is_built}
use Rattle.cluster.specs.Faults.{ShowFaults}
use Rattle.cluster.specs.Fuel.{Fueled}
use Rattle.cluster.specs.Live.{LiveState}
use Rattle.cluster.specs.Reached.{ReachedLive, GoesTo, AppliesLive, IsReachedLive}
use Rattle.cluster.specs.Same.{SameCluster, same_trans}
use Rattle.cluster.specs.Sees.{Sees}
use Rattle.cluster.proofs.Rooms.{rooms_on, rooms_more}
use Rattle.cluster.proofs.Clocks.{part_in}
use Rattle.cluster.proofs.Delivering.{place_of_part}
use Rattle.cluster.proofs.Faulted.{same_of, rose_of, show_last}
use Rattle.cluster.proofs.Keeping.{grows_none, keeps_line}
use Rattle.cluster.proofs.Meets.{all_met, first_at, none_due, refused}
use Rattle.cluster.proofs.FuelStays.{fueled_crashed, fueled_stopped, fueled_up, fueled_armed, fueled_revived}
use Rattle.cluster.proofs.Standing.{quiet_on}
use Rattle.cluster.proofs.Turned.{turned_alone}
use Rattle.cluster.proofs.Turning.{asked_lines}
use Rattle.cluster.proofs.Worlds.{all_fit}

-- a partition that is there, as the code sees the cluster
pub place_of_here : {E D : Type 0} (inside old : LiveState E D) → inside ≡ old → (p : PartId) → holds_part old.sites p ≡ true → IsPlace inside.sites.sites inside.sites.parts p
place_of_here {E} {D} inside old view p has = subst (λ (x : LiveState E D). IsPlace x.sites.sites x.sites.parts p) (sym view) (place_of_part old.sites p has)

within : (n most : ℕ) → 1 ≤ n → n ≤ most → (nat_le 1 n && nat_le n most) ≡ true
within n most a b = and_from (nat_le 1 n) (nat_le n most) (le_holds 1 n a) (le_holds n most b)

pub holds_at : {E D : Type 0} (c : Held E D) (p : PartId) → IsPlace c.sites c.parts p → holds_part c p ≡ true
holds_at c p at = and_from (holds_site c p.site) (nat_le 1 p.part && nat_le p.part c.parts) (within p.site c.sites at.least_site at.most_site) (within p.part c.parts at.least_part at.most_part)

pub holds_place : {E D : Type 0} (inside old : LiveState E D) → inside ≡ old → (p : PartId) → IsPlace old.sites.sites old.sites.parts p → holds_part inside.sites p ≡ true
holds_place {E} {D} inside old view p at = subst (λ (x : LiveState E D). holds_part x.sites p ≡ true) (sym view)
    (and_from (holds_site old.sites p.site) (nat_le 1 p.part && nat_le p.part old.sites.parts) (within p.site old.sites.sites at.least_site at.most_site) (within p.part old.sites.parts at.least_part at.most_part))

module _ {S E D : Type 0} (types : Types S E D) (c : LiveState E D) (p : PartId) where
  abbrev after : Held E D → LiveState E D
  after later = record { sites = later; sessions = c.sessions }

  -- the same sessions over a cluster that reaches all that it had reached
  still_live : (later : Held E D) → SameCluster types.state c.sites later → Keeps types c.sites later p → (run : Run) (r : ReachedLive types c run) → Fueled types.state later run (entries r.calls) → ReachedLive types (after later) run
  still_live later same keeps run r fuel = record {
    has = r.has;
    sites = same.sites_are ∙ r.sites;
    parts = same.parts_are ∙ r.parts;
    calls = r.calls;
    sees = record { reached = keeps (entries r.calls) r.sees.reached; one_caller = r.sees.one_caller; rooms = rooms_on types c.sites later same (entries r.calls) r.sees.rooms };
    shown = r.shown;
    own = r.own;
    fuel = fuel;
    each = r.each;
    count = r.count;
  }

  -- a run that left the cluster, left it so after a fuse was taken away
  pub reached_still : (mid : Held E D) → holds_part c.sites p ≡ true → RevivesAt types c.sites mid p → IsReachedLive types c → IsReachedLive types (after mid)
  reached_still mid there v x = record { run = x.run; reached = still_live mid (same_of types.state c.sites mid p v.moves) v.keeps x.run x.reached (fueled_revived types c.sites mid p x.run (entries x.reached.calls) (place_of_part c.sites p there) there v x.reached.fuel) }

  pub crash_nowhere : (steps : List Step) → steps ≡ step.NoPart ∷ [] → holds_part c.sites p ≡ false → AppliesLive types c (command.Crash p) steps c
  crash_nowhere steps is lacks = refused types c (command.Crash p) step.NoPart steps is refl
      (λ run r. first_at (all_met run (command.Crash p)) 2 (refl, (ap not r.has, ap not (sym (part_in types c run r p) ∙ lacks))))
      (λ run r who. refl)

  pub restart_nowhere : (steps : List Step) → steps ≡ step.NoPart ∷ [] → holds_part c.sites p ≡ false → AppliesLive types c (command.Restart p) steps c
  restart_nowhere steps is lacks = refused types c (command.Restart p) step.NoPart steps is refl
      (λ run r. first_at (all_met run (command.Restart p)) 2 (refl, (ap not r.has, ap not (sym (part_in types c run r p) ∙ lacks))))
      (λ run r who. refl)

  pub fuse_nowhere : (k n : ℕ) (steps : List Step) → steps ≡ step.NoPart ∷ [] → holds_part c.sites p ≡ false → AppliesLive types c (command.Fuse p k n) steps c
  fuse_nowhere k n steps is lacks = refused types c (command.Fuse p k n) step.NoPart steps is refl
      (λ run r. first_at (all_met run (command.Fuse p k n)) 2 (refl, (ap not r.has, ap not (sym (part_in types c run r p) ∙ lacks))))
      (λ run r who. refl)

  pub crash_applies : (later : Held E D) (steps : List Step) → steps ≡ step.Crashed p ∷ [] → holds_part c.sites p ≡ true → CrashesAt types c.sites later p → AppliesLive types c (command.Crash p) steps (after later)
  crash_applies later steps is there k number run r =
      let seen : Sees types later (called 0 p Crashed ∷ r.calls) = record { reached = k.goes (entries r.calls) r.sees.reached; one_caller = (refl, r.sees.one_caller); rooms = rooms_more types c.sites later (same_of types.state c.sites later p k.moves) (entries r.calls) p (Crashed) refl r.sees.rooms } in
      subst (λ l. IsAnswer is_built run (command.Crash p) l × GoesTo types c run r (after later) (answered number (Some (command.Crash p)) l run) × ShowFaults types.state run c.sites later l) (sym is) (
        subst (AnswersBy run (command.Crash p) (step.Crashed p ∷ [])) (sym (none_due (all_met run (command.Crash p)) (refl, (ap not r.has, (ap not (sym (part_in types c run r p) ∙ there), tt))))) refl,
        turned_alone types c run r number (command.Crash p) 0 p Crashed later (same_of types.state c.sites later p k.moves) seen refl (asked_lines number (command.Crash p) run (step.Crashed p) (step.Crashed p) p Crash refl refl refl refl) (λ who s. refl) (λ who. tt) tt
            (fueled_crashed types c.sites later p run (record { number = number; command = Some (command.Crash p); step = step.Crashed p }) (entries r.calls) r.sees.reached r.shown (λ h. refl) (λ t h. absurd cc) k refl (λ h. refl) r.fuel),
        (tt, tt),
      )

  -- a fuse is no event
  pub fuse_applies : (k n : ℕ) (later : Held E D) (steps : List Step) → steps ≡ step.Fused p k n ∷ [] → holds_part c.sites p ≡ true → 1 ≤ k → ArmsAt types c.sites later p k n → AppliesLive types c (command.Fuse p k n) steps (after later)
  fuse_applies k n later steps is there some arms number run r =
      let same = same_of types.state c.sites later p arms.moves in
      let fuel = fueled_armed types c.sites later p run (entries r.calls) (place_of_part c.sites p there) there (record { number = number; command = Some (command.Fuse p k n); step = step.Fused p k n }) k n refl some arms r.fuel in
      subst (λ l. IsAnswer is_built run (command.Fuse p k n) l × GoesTo types c run r (after later) (answered number (Some (command.Fuse p k n)) l run) × ShowFaults types.state run c.sites later l) (sym is) (
        subst (AnswersBy run (command.Fuse p k n) (step.Fused p k n ∷ [])) (sym (none_due (all_met run (command.Fuse p k n)) (refl, (ap not r.has, (ap not (sym (part_in types c run r p) ∙ there), tt))))) refl,
        record {
          same = same;
          reached = quiet_on types c (after later) same refl number (Some (command.Fuse p k n)) (step.Fused p k n) run (record { called = refl; cluster = refl; sites = λ i. refl; parts = λ i. refl; site = λ who old. refl; count = λ i. refl; phase = λ who. refl }) r (record { reached = arms.keeps (entries r.calls) r.sees.reached; one_caller = r.sees.one_caller; rooms = rooms_on types c.sites later same (entries r.calls) r.sees.rooms }) fuel;
          grows = grows_none r.calls;
          keeps = keeps_line number (Some (command.Fuse p k n)) (step.Fused p k n) run refl;
        },
        (tt, tt),
      )

  restarts : (run : Run) → ReachedLive types c run → holds_part c.sites p ≡ true → met is_built run (command.Restart p) ≡ None
  restarts run r there = none_due (all_met run (command.Restart p)) (refl, (ap not r.has, (ap not (sym (part_in types c run r p) ∙ there), tt)))

  pub came_up : (later : Held E D) (x : Restarted) (steps : List Step) → steps ≡ step.Restarted p x.now x.bounds x.decided x.pending ∷ [] → holds_part c.sites p ≡ true → ComesUpAt types c.sites later p x → AppliesLive types c (command.Restart p) steps (after later)
  came_up later x steps is there k number run r =
      let e : Event E = event.Restarted x.now x.bounds x.decided x.pending in
      let s : Step = step.Restarted p x.now x.bounds x.decided x.pending in
      let seen : Sees types later (called 0 p (event.Restarted x.now x.bounds x.decided x.pending) ∷ r.calls) = record { reached = k.goes (entries r.calls) r.sees.reached; one_caller = (refl, r.sees.one_caller); rooms = rooms_more types c.sites later (same_of types.state c.sites later p k.moves) (entries r.calls) p (event.Restarted x.now x.bounds x.decided x.pending) refl r.sees.rooms } in
      subst (λ l. IsAnswer is_built run (command.Restart p) l × GoesTo types c run r (after later) (answered number (Some (command.Restart p)) l run) × ShowFaults types.state run c.sites later l) (sym is) (
        subst (AnswersBy run (command.Restart p) (s ∷ [])) (sym (restarts run r there)) (s, refl, refl, tt),
        turned_alone types c run r number (command.Restart p) 0 p e later (same_of types.state c.sites later p k.moves) seen refl (asked_lines number (command.Restart p) run s s p Restart refl refl refl refl) (λ who y. refl) (λ who. tt) tt
            (fueled_up types c.sites later p run (record { number = number; command = Some (command.Restart p); step = s }) (entries r.calls) r.sees.reached r.shown (λ h. refl) (λ t h. absurd cc) x k refl (λ h. refl) r.fuel),
        (tt, tt),
      )

  -- the disk failed in a restart
  pub stayed_down : (later : Held E D) (steps : List Step) → steps ≡ step.Disk p ∷ [] → holds_part c.sites p ≡ true → (k : StaysDownAt types c.sites later p) → Fails (disk_in types.state k.moves.before) (disk_in types.state k.moves.after) → IsUnfiredAt types.state c.sites p → AppliesLive types c (command.Restart p) steps (after later)
  stayed_down later steps is there k fails unfired number run r =
      let seen : Sees types later (called 0 p RestartCut ∷ r.calls) = record { reached = k.goes (entries r.calls) r.sees.reached; one_caller = (refl, r.sees.one_caller); rooms = rooms_more types c.sites later (same_of types.state c.sites later p k.moves) (entries r.calls) p (RestartCut) refl r.sees.rooms } in
      subst (λ l. IsAnswer is_built run (command.Restart p) l × GoesTo types c run r (after later) (answered number (Some (command.Restart p)) l run) × ShowFaults types.state run c.sites later l) (sym is) (
        subst (AnswersBy run (command.Restart p) (step.Disk p ∷ [])) (sym (restarts run r there)) (step.Disk p, refl, refl, tt),
        turned_alone types c run r number (command.Restart p) 0 p RestartCut later (same_of types.state c.sites later p k.moves) seen refl (asked_lines number (command.Restart p) run (step.Disk p) (step.Disk p) p Restart refl refl refl refl) (λ who y. refl) (λ who. tt) tt
            (fueled_stopped types c.sites later p run (record { number = number; command = Some (command.Restart p); step = step.Disk p }) (entries r.calls) r.sees.reached r.shown (λ h. refl) (λ t h. absurd cc) k fails (unfired k.moves.before k.moves.there) refl refl (λ h. refl) r.fuel),
        (rose_of types.state c.sites later p k.moves fails.rose, tt),
      )

  -- after a fuse that has fired was taken away
  pub revived : (mid : Held E D) (cmd : Command) (steps : List Step) (new : LiveState E D) → holds_part c.sites p ≡ true → RevivesAt types c.sites mid p → AppliesLive types (after mid) cmd steps new → AppliesLive types c cmd steps new
  unfolding still_live
  revived mid cmd steps new there v a number run r =
      let same = same_of types.state c.sites mid p v.moves in
      let x = a number run (still_live mid same v.keeps run r (fueled_revived types c.sites mid p run (entries r.calls) (place_of_part c.sites p there) there v r.fuel)) in (
        x.0,
        record { same = same_trans types.state c.sites mid new.sites same x.1.same; reached = x.1.reached; grows = x.1.grows; keeps = x.1.keeps },
        show_last types.state run c.sites mid new.sites steps same x.2,
      )

  some_none : {A : Type 0} (x : A) → None ≡ Some x → ⊥
  some_none x h = absurd (cc h)

  -- a restart finds no log but one that fits, where some run left the cluster so
  pub never_damaged : (later : Held E D) (at : ℕ) → IsPlace c.sites.sites c.sites.parts p → IsReachedLive types c → RestartsAt types c.sites later p (Err (restart.Damaged at)) → ⊥
  never_damaged later at place x k =
      let r = x.reached.sees.reached in
      let m = k.0.moves in
      let finds = k.1 (entries x.reached.calls) r in
      let here : StandsAt types c.sites.sites c.sites.parts p m.before (r.state p) = subst (λ t. StandsAt types c.sites.sites c.sites.parts p t (r.state p)) (m.there m.before) (r.each p place m.before) in
      let fit = all_fit types.kinds c.sites.sites c.sites.parts (entries x.reached.calls) r.state r.is_run p finds.log finds.found in
      some_none finds.unfit.number (sym fit ∙ ((λ i. unfit (sym here.sites_are i) (sym here.parts_are i) (sym here.id i) finds.log) ∙ finds.unfit.first))
