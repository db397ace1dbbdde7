-- A call whose line the script numbers: no session is about it.
use Rattle.std.proofs.Common.{◌≡◌, ℕ, true, false, List, ◌∷◌, refl, sym, ap, ◌∙◌, subst, Option, Some}
use Rattle.std.specs.Prelude.{◌||◌}
use Rattle.site_vector.specs.declared.ids.PartId.{PartId}
use Rattle.world_model.specs.declared.command.Command.{Command}
use Rattle.world_model.specs.declared.step.Step.{Step}
use Rattle.world_model.specs.commands.Cluster.{is_cluster, has_cluster, sites_of, parts_of, sites_after, parts_after}
use Rattle.world_model.specs.lines.Dependency as lines
use Rattle.world_model.specs.lines.Dependency.{HandsOwn, IsOwnPast}
use Rattle.world_model.specs.rules.Event.{Event}
use Rattle.world_model.specs.rules.Lines.{call_of, step_shown, shown_lines}
use Rattle.world_model.specs.commands.Meeting.{site_after, count_after, session_count}
use Rattle.world_model.proofs.Dependency.{dependency}
use Rattle.world_model.specs.commands.Phases.{Phase, phase_after}
use Rattle.world_model.specs.commands.Run.{Run}
use Rattle.world_model.specs.commands.Run as script
use Rattle.world_model.specs.commands.ScriptCalls.{is_answer, asked_of, numbered, calls_of}
use Rattle.world_model.proofs.LineViews.{dependency_is}
use Rattle.txn_session.specs.Calls.{Call, called, entries, IsLegal}
use Rattle.partition_core.specs.Moments.{Spends}
use Rattle.site_partitions.specs.Held.{Held}
use Rattle.site_partitions.specs.Moves.{Moves}
use Rattle.site_partitions.specs.Reaches.{Types}
use Rattle.cluster.specs.Fuel.{Fueled}
use Rattle.cluster.specs.Same.{SameCluster}
use Rattle.cluster.specs.Live.{LiveState, session_in}
use Rattle.cluster.specs.Reached.{ReachedLive}
use Rattle.cluster.specs.Sees.{Sees, sees_legal}
use Rattle.cluster.proofs.Doubting.{decided_at}
use Rattle.cluster.proofs.FuelCalls.{asked_at, asked_call}
use Rattle.cluster.proofs.FuelStays.{fueled_call}
use Rattle.cluster.specs.Faults.{TellsFault}
use Rattle.cluster.proofs.FusedRuns.{is_of_restart}
use Rattle.cluster.proofs.Standing.{SameFor, stands_still}
use Rattle.cluster.proofs.Turning.{IsSilentFor, asked_lines, has_other_lines, depends_other, holds_other}

-- what such a line leaves as it was
pub record IsPosted (cmd : Command) (s : Step) : Type 0 where
  pub alone : has_other_lines cmd ≡ false
  pub answer : is_answer s ≡ true
  pub cluster : is_cluster s ≡ false
  pub sites : (n : ℕ) → sites_after n s ≡ n
  pub parts : (n : ℕ) → parts_after n s ≡ n
  pub site : (who : List ℕ) (old : Option ℕ) → site_after who old s ≡ old
  pub count : (n : ℕ) → count_after n s ≡ n
  pub phase : (parts : ℕ) (who : List ℕ) (old : Phase) → phase_after parts who old (Some cmd) s ≡ old

module _ {S E D : Type 0} (types : Types S E D) (c : LiveState E D) (run : Run) (r : ReachedLive types c run) (number : ℕ) (cmd : Command) (at : PartId) (e : Event E) (held : Held E D) (size : SameCluster types.state c.sites held) (sees : Sees types held (called 0 at e ∷ r.calls))
    (s : Step) (told : IsPosted cmd s) (numbers : numbered run s ≡ step_shown (entries r.calls) at e) (placed : asked_of (calls_of run) run cmd ≡ record { at = at; call = call_of e }) (silent : (who : List ℕ) → IsSilentFor (entries r.calls) who e) (own : IsOwnPast (sites_of run) (calls_of run) (call_of e)) where
  next : Run
  next = (record { number = number; command = Some cmd; step = s }) ∷ run

  abbrev pub later : List (Call E)
  later = called 0 at e ∷ r.calls

  lines_are : calls_of ((record { number = number; command = Some cmd; step = s }) ∷ run) ≡ (record { at = at; call = call_of e; step = step_shown (entries r.calls) at e }) ∷ calls_of run
  lines_are = asked_lines number cmd run s (step_shown (entries r.calls) at e) at (call_of e) told.alone told.answer numbers placed

  shown_next : shown_lines (entries later) ≡ calls_of ((record { number = number; command = Some cmd; step = s }) ∷ run)
  shown_next = ap (λ ls. (record { at = at; call = call_of e; step = step_shown (entries r.calls) at e }) ∷ ls) r.shown ∙ sym lines_are

  legal : IsLegal types.kinds held.sites held.parts later
  legal = sees_legal types held later sees

  tail_legal : IsLegal types.kinds c.sites.sites c.sites.parts r.calls
  tail_legal = sees_legal types c.sites r.calls r.sees

  same_next : (who : List ℕ) → SameFor ((record { number = number; command = Some cmd; step = s }) ∷ run) run who
  same_next who = record {
    sites = told.sites (sites_of run);
    parts = told.parts (parts_of run);
    site = told.site who _;
    phase = told.phase (parts_of run) who _;
    depends = (λ i. lines.dependency (told.sites (sites_of run) i) (sym shown_next i) who) ∙ (dependency_is (sites_of run) (entries later) who
        ∙ (depends_other types.kinds c.sites.sites c.sites.parts r.calls tail_legal (sites_of run) who (dependency (sites_of run) (entries r.calls) who) e (silent who)
        ∙ sym ((λ i. lines.dependency (sites_of run) (sym r.shown i) who) ∙ dependency_is (sites_of run) (entries r.calls) who)));
  }

  abbrev line : script.Line
  line = record { number = number; command = Some cmd; step = s }

  fuel_next : (m : Moves types.state c.sites held at) → Spends types.kinds types.codec types.state m.before m.after (r.sees.reached.state at) e → is_of_restart e ≡ false → TellsFault types.state c.sites held at s → Fueled types.state held ((record { number = number; command = Some cmd; step = s }) ∷ run) (entries later)
  fuel_next m spends no_restart tells = fueled_call types c.sites held at run line (entries r.calls) r.sees.reached r.shown
      (λ called. asked_at run line (record { at = at; call = call_of e; step = step_shown (entries r.calls) at e }) lines_are called)
      (λ u k. decided_at types c run r held size at 0 e sees u (sym numbers ∙ ap (numbered run) k))
      m e sees.reached numbers
      (λ called. asked_call run line (record { at = at; call = call_of e; step = step_shown (entries r.calls) at e }) lines_are called)
      spends no_restart tells r.fuel

  -- the cluster after it, and the calls that stand then
  pub record Posted : Type 0 where
    pub reached : ReachedLive types (record { sites = held; sessions = c.sessions }) ((record { number = number; command = Some cmd; step = s }) ∷ run)
    pub calls_are : reached.calls ≡ later

  pub posted : (m : Moves types.state c.sites held at) → Spends types.kinds types.codec types.state m.before m.after (r.sees.reached.state at) e → is_of_restart e ≡ false → TellsFault types.state c.sites held at s → Posted
  posted m spends no_restart tells = record {
    reached = record {
      has = ap (λ x. x || has_cluster run) told.cluster ∙ r.has;
      sites = size.sites_are ∙ (r.sites ∙ sym (told.sites (sites_of run)));
      parts = size.parts_are ∙ (r.parts ∙ sym (told.parts (parts_of run)));
      calls = later;
      sees = sees;
      shown = shown_next;
      own = subst (λ n. HandsOwn n (calls_of ((record { number = number; command = Some cmd; step = s }) ∷ run))) (sym (told.sites (sites_of run))) (subst (λ ls. HandsOwn (sites_of run) ls) (sym lines_are) (own, r.own));
      fuel = fuel_next m spends no_restart tells;
      each = λ who. stands_still ((record { number = number; command = Some cmd; step = s }) ∷ run) run later r.calls who (session_in c.sessions who) (same_next who)
          (λ x is h. holds_other types.kinds held.sites held.parts (called 0 at e) r.calls x legal (silent x.name) h) (r.each who);
      count = told.count (session_count run) ∙ r.count;
    };
    calls_are = refl;
  }
