-- What each line of a script's run leaves of its fuses, whatever the whole run will be.
use Rattle.std.proofs.Common.{◌≡◌, ◌≢◌, ℕ, ◌≤◌, Bool, true, false, List, [], ◌∷◌, refl, sym, ap, ◌∙◌, subst, Option, None, Some}
use Rattle.std.specs.Prelude.{◌||◌, if◌then◌else◌}
use Rattle.site_vector.specs.declared.ids.PartId.{PartId}
use Rattle.site_vector.specs.declared.ids.TxId.{TxId}
use Rattle.site_vector.specs.Ids.{same_part}
use Rattle.site_vector.specs.Order.{same_part_is}
use Rattle.disk_core.specs.States.{DiskState, Fails}
use Rattle.gate_log.specs.Logs.{disk_of}
use Rattle.gate_log.specs.declared.log.GateLog.{GateLog}
use Rattle.crdt_core.specs.KindsOf.{Kinds}
use Rattle.world_model.specs.declared.command.Command.{Command}
use Rattle.world_model.specs.declared.step.Step.TheVariants as step
use Rattle.world_model.specs.commands.Cluster.{has_cluster, parts_of}
use Rattle.world_model.specs.rules.Event as event
use Rattle.world_model.specs.rules.Event.{Event, Entry, Crashed, RestartCut}
use Rattle.world_model.specs.commands.Fuses.{Fuse, counted, fuse, IsUnfired, HoldsFuses, is_change, is_bringing, shows_written}
use Rattle.world_model.specs.lines.Lines as world
use Rattle.world_model.specs.rules.Lines.{shown_lines, call_of, step_shown}
use Rattle.world_model.specs.rules.Partition.{PartState}
use Rattle.world_model.specs.lines.Places.{IsPlace}
use Rattle.world_model.specs.commands.Run.{Run}
use Rattle.world_model.specs.commands.Run as script
use Rattle.world_model.specs.commands.ScriptCalls.{is_called, asked_by, numbered, calls_of}
use Rattle.world_model.specs.lines.Updates.{lead}
use Rattle.world_model.specs.rules.World.{IsWorldRun}
use Rattle.partition_core.specs.Durable.{Durable, disk_in}
use Rattle.partition_core.specs.Moments.{Spends}
use Rattle.partition_core.specs.declared.restart.Restarted.{Restarted}
use Rattle.site_partitions.specs.Faults.{CrashesAt, StaysDownAt, ComesUpAt, ArmsAt, RevivesAt}
use Rattle.site_partitions.specs.Held.{Held, holds_part}
use Rattle.site_partitions.specs.Moves.{Moves}
use Rattle.site_partitions.specs.Reaches.{Types, Reaches}
use Rattle.site_partitions.specs.Sound.{AreUnarmed}
use Rattle.cluster.specs.Faults.{TellsFault}
use Rattle.cluster.specs.Fuel.{Burns, BurnsAt, AreBrought, left_at, Fueled, Unlit, TellsCall}
use Rattle.cluster.proofs.FuelBurns.{burns_same, burns_lowered, burns_still, burns_over}
use Rattle.cluster.proofs.FuelCalls.{burns_here, left_here, same_holds, left_there, wrote_so, fuel_spent, fuel_counted, fuel_plain}
use Rattle.cluster.proofs.FuelLines.{lets_burn, after_call, fuel_armed, fuel_still}
use Rattle.cluster.proofs.FuelTakes.{are_brought}
use Rattle.cluster.proofs.FuelTold.{place_of}
use Rattle.cluster.proofs.FuelWrites.{is_took, no_bringing, number_lets}
use Rattle.cluster.proofs.FusedLines.{lit_idle, lit_made}
use Rattle.cluster.proofs.FusedRuns.{is_of_restart, lit_crashed, lit_stopped, lit_up, lit_armed, lit_revived}

-- the line shows of no partition that it wrote, and ends no fuse
pub record IsIdle (l : script.Line) : Type 0 where
  pub lets : lets_burn l.step ≡ true
  pub untaken : is_took l.step ≡ false
  pub unchanged : is_called l.command l.step ≡ true → (ls : List world.Line) (p : PartId) → is_change ls p l.step ≡ false

never : {P : Type 0} (b : Bool) → b ≡ true → b ≡ false → P
never b h k = absurd cc

module _ (whole : List world.Line) (run : Run) (l : script.Line) (idle : IsIdle l) (p : PartId) where
  idle_wrote : shows_written whole run p l ≡ false
  idle_wrote = by_wrote (shows_written whole run p l) refl
    where
      by_wrote : (b : Bool) → shows_written whole run p l ≡ b → shows_written whole run p l ≡ false
      by_wrote false e = e
      by_wrote true e =
          let a = wrote_so whole run p l e in
          let none : (is_change (calls_of run) p l.step || is_bringing whole (calls_of run) p (asked_by (calls_of run) run l.command l.step).call l.step) ≡ false =
          ap (λ b. b || is_bringing whole (calls_of run) p (asked_by (calls_of run) run l.command l.step).call l.step) (idle.unchanged a.0 (calls_of run) p) ∙ no_bringing whole (calls_of run) p (asked_by (calls_of run) run l.command l.step).call l.step idle.untaken in
          never _ a.1 none

  pub idle_fuse : fuse whole (l ∷ run) p ≡ fuse whole run p
  idle_fuse = after_call run p (fuse whole run p) (shows_written whole run p l) l.step idle.lets ∙ ap (λ b. counted b (fuse whole run p)) idle_wrote

-- ---- before a cluster is made

pub unlit_first : Unlit []
unlit_first whole = record { keeps = tt; none = λ p. refl }

none_fires : (o : Option Fuse) → o ≡ None → IsUnfired o
none_fires o e = subst IsUnfired (sym e) tt

pub unlit_next : (run : Run) (l : script.Line) → IsIdle l → Unlit run → Unlit (l ∷ run)
unlit_next run l idle u whole =
    let none : (p : PartId) → fuse whole (l ∷ run) p ≡ None = λ p. idle_fuse whole run l idle p ∙ (u whole).none p in
    record { keeps = (λ p. none_fires _ (none p), (u whole).keeps); none = none }

none_either : (b : Bool) (o : Option Fuse) → o ≡ None → (if b then None else o) ≡ None
none_either true o h = refl
none_either false o h = h

-- a disk that failed as a cluster was to be made
pub unlit_failed : (run : Run) (number : ℕ) (asked : Option Command) (at : PartId) → Unlit run → Unlit ((record { number = number; command = asked; step = step.Disk at }) ∷ run)
unlit_failed run number asked at u whole =
    let none : (p : PartId) → fuse whole ((record { number = number; command = asked; step = step.Disk at }) ∷ run) p ≡ None = λ p. none_either (same_part at p) (fuse whole run p) ((u whole).none p) in
    record { keeps = (λ p. none_fires _ (none p), (u whole).keeps); none = none }

module _ {E D : Type 0} (state : D → DiskState) where
  -- a cluster is made
  pub fueled_made : (c : Held E D) (run : Run) (l : script.Line) → IsIdle l → Unlit run → has_cluster run ≡ false → AreUnarmed state c → Fueled state c (l ∷ run) []
  fueled_made c run l idle u lacks none whole b =
      let x = unlit_next run l idle u whole in record {
        keeps = x.keeps;
        unfired = λ p. none_fires _ (x.none p);
        burns = λ p other. subst (λ o. BurnsAt (holds_part c p) o (left_at state c p other)) (sym (x.none p)) (burns_over (holds_part c p) (left_at state c p other));
        lit = lit_made state c whole run l lacks idle.lets none;
      }

  -- a line that is idle, over a cluster that stays as it is
  pub fueled_idle : (c : Held E D) (run : Run) (l : script.Line) (events later : List (Entry E)) → IsIdle l → ((whole : List world.Line) → AreBrought whole later → AreBrought whole events) → Fueled state c run events → Fueled state c (l ∷ run) later
  fueled_idle c run l events later idle back f whole b =
      let x = f whole (back whole b) in
      let unfired : (p : PartId) → IsUnfired (fuse whole (l ∷ run) p) = λ p. subst IsUnfired (sym (idle_fuse whole run l idle p)) (x.unfired p) in record {
        keeps = (unfired, x.keeps);
        unfired = unfired;
        burns = λ p other. subst (λ o. BurnsAt (holds_part c p) o (left_at state c p other)) (sym (idle_fuse whole run l idle p)) (x.burns p other);
        lit = lit_idle state c whole run l (idle_fuse whole run l idle) idle.lets x.lit;
      }

module _ {S E D : Type 0} (w : Types S E D) (old new : Held E D) (at : PartId) (run : Run) (l : script.Line) (events : List (Entry E)) (r : Reaches w old events) (shown : shown_lines events ≡ calls_of run)
    (placed : is_called l.command l.step ≡ true → (asked_by (calls_of run) run l.command l.step).at ≡ at)
    (doubt : (t : TxId) → l.step ≡ step.Unsure t → lead (parts_of run) (calls_of run) t ≡ at) where
  -- a call of a session
  pub fueled_spent : (later : List (Entry E)) → ((whole : List world.Line) → AreBrought whole later → AreBrought whole events) → TellsCall w old new at l.step → is_took l.step ≡ false → (e : Event E) → Reaches w new ((record { at = at; event = e }) ∷ events) → is_of_restart e ≡ false → l.step ≡ step_shown events at e → Fueled w.state old run events → Fueled w.state new (l ∷ run) later
  fueled_spent later back x untaken e next called is f whole b = fuel_spent w old new at whole run l placed doubt x.1 untaken events r shown e next called is x.0 (f whole (back whole b))

  module _ (m : Moves w.state old new at) (e : Event E) (next : Reaches w new ((record { at = at; event = e }) ∷ events)) (numbers : numbered run l.step ≡ step_shown events at e)
      (asks : is_called l.command l.step ≡ true → (asked_by (calls_of run) run l.command l.step).call ≡ call_of e) where
    -- a call after the run itself, of no session's or of one
    pub fueled_call : Spends w.kinds w.codec w.state m.before m.after (r.state at) e → is_of_restart e ≡ false → TellsFault w.state old new at l.step → Fueled w.state old run events → Fueled w.state new (l ∷ run) ((record { at = at; event = e }) ∷ events)
    fueled_call spends called tells f whole b = fuel_counted w old new at whole run l placed doubt m events r shown e next numbers b.0 asks spends called tells (f whole b.1)

  place_by : (m : Moves w.state old new at) (e : Event E) → Reaches w new ((record { at = at; event = e }) ∷ events) → IsPlace old.sites old.parts at
  place_by m e next = place_of w old new at m events e next

  pub fueled_crashed : CrashesAt w old new at → numbered run l.step ≡ step.Crashed at → (is_called l.command l.step ≡ true → (asked_by (calls_of run) run l.command l.step).call ≡ world.Crash) → Fueled w.state old run events → Fueled w.state new (l ∷ run) ((record { at = at; event = Crashed }) ∷ events)
  fueled_crashed k numbers asks f whole b =
      let x = f whole b.1 in
      let lets = sym (number_lets whole (calls_of run) at run l.step) ∙ ap lets_burn numbers in
      fuel_plain w old new at whole run l placed doubt k.moves events r shown Crashed (k.goes events r) numbers b.0 asks refl
      (λ lets. burns_same _ _ (ap (λ (g : GateLog D). (w.state (disk_of g)).left) k.disk))
      (lit_crashed w old new at k.moves (place_by k.moves Crashed (k.goes events r)) whole run l lets k.disk k.down x.lit) x

  pub fueled_stopped : (k : StaysDownAt w old new at) → Fails (disk_in w.state k.moves.before) (disk_in w.state k.moves.after) → (disk_in w.state k.moves.before).left ≢ Some 0 → numbered run l.step ≡ step.Disk at → l.step ≡ step.Disk at → (is_called l.command l.step ≡ true → (asked_by (calls_of run) run l.command l.step).call ≡ world.Restart) → Fueled w.state old run events → Fueled w.state new (l ∷ run) ((record { at = at; event = RestartCut }) ∷ events)
  fueled_stopped k fails unfired numbers is asks f whole b =
      let x = f whole b.1 in fuel_plain w old new at whole run l placed doubt k.moves events r shown RestartCut (k.goes events r) numbers b.0 asks refl
      (λ lets. never _ lets (ap lets_burn is))
      (lit_stopped w old new at k.moves (place_by k.moves RestartCut (k.goes events r)) whole run l is 3 k.left fails k.down unfired x.lit) x

  pub fueled_up : (x : Restarted) → ComesUpAt w old new at x → numbered run l.step ≡ step.Restarted at x.now x.bounds x.decided x.pending → (is_called l.command l.step ≡ true → (asked_by (calls_of run) run l.command l.step).call ≡ world.Restart)
      → Fueled w.state old run events → Fueled w.state new (l ∷ run) ((record { at = at; event = event.Restarted x.now x.bounds x.decided x.pending }) ∷ events)
  fueled_up x k numbers asks f whole b =
      let y = f whole b.1 in
      let lets = sym (number_lets whole (calls_of run) at run l.step) ∙ ap lets_burn numbers in
      fuel_plain w old new at whole run l placed doubt k.moves events r shown (event.Restarted x.now x.bounds x.decided x.pending) (k.goes events r) numbers b.0 asks refl
      (λ lets. burns_lowered 3 _ _ k.left k.unfired)
      (lit_up w old new at k.moves (place_by k.moves (event.Restarted x.now x.bounds x.decided x.pending) (k.goes events r)) whole run l lets 3 k.left k.unfired y.lit) y

module _ {S E D : Type 0} (w : Types S E D) (old new : Held E D) (at : PartId) (run : Run) (events : List (Entry E)) (place : IsPlace old.sites old.parts at) (there : holds_part old at ≡ true) where
  -- a fuse is armed
  pub fueled_armed : (l : script.Line) (k n : ℕ) → l.step ≡ step.Fused at k n → 1 ≤ k → ArmsAt w old new at k n → Fueled w.state old run events → Fueled w.state new (l ∷ run) events
  fueled_armed l k n is some a f whole b =
      fuel_armed w.state whole run l old new at a.moves.before k n is some there (same_holds w old new at a.moves) (left_there w old new at a.moves place)
      (λ other. left_here w old new at a.moves (Some k) (ap (λ (d : DiskState). d.left) a.armed) other there)
      (lit_armed w old new at a.moves place whole run l k n is (f whole b).lit) (f whole b)

  -- a fuse that has fired is taken away: none that is in force
  pub fueled_revived : RevivesAt w old new at → Fueled w.state old run events → Fueled w.state new run events
  fueled_revived v f whole b = fuel_still w.state whole run old new (same_holds w old new at v.moves) stays (lit_revived w old new at v.moves place whole run v.fired v.burning (f whole b).lit) (f whole b)
    where
      here : (other : Durable E D) → Burns 0 (left_at w.state old at other) (left_at w.state new at other)
      here other = burns_here w old new at v.moves 0 (burns_still _ _ (λ k. ap (λ (d : Durable E D). (disk_in w.state d).left) (v.burning k))) other

      stays : (p : PartId) → holds_part old p ≡ true → (other : Durable E D) → Burns 0 (left_at w.state old p other) (left_at w.state new p other)
      stays p h other = by_place (same_part at p) refl
        where
          by_place : (b : Bool) → same_part at p ≡ b → Burns 0 (left_at w.state old p other) (left_at w.state new p other)
          by_place true e = subst (λ q. Burns 0 (left_at w.state old q other) (left_at w.state new q other)) (same_part_is at p e) (here other)
          by_place false e = burns_same _ _ (left_there w old new at v.moves place p h e other)

-- in the end no fuse let more pass than it may
pub holds_fuses : {S E D : Type 0} (kinds : Kinds S E) (state : D → DiskState) (c : Held E D) (sites parts : ℕ) (run : Run) (events : List (Entry E)) (left : PartId → PartState E) → IsWorldRun kinds sites parts events left → shown_lines events ≡ calls_of run → Fueled state c run events → HoldsFuses run
holds_fuses kinds state c sites parts run events left is_run shown f = (f (calls_of run) (subst (λ ls. AreBrought ls events) shown (are_brought kinds sites parts events left is_run))).keeps

-- nor did any before a cluster was made
pub unlit_holds : (run : Run) → Unlit run → HoldsFuses run
unlit_holds run u = (u (calls_of run)).keeps
