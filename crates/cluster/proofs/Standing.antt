-- A session stands still where a run tells the same of it, and what it did stands in the calls.
use Rattle.std.proofs.Common.{◌≡◌, ℕ, true, false, List, ◌∷◌, length, refl, sym, ap, ◌∙◌, subst, Option, None, Some}
use Rattle.std.specs.Prelude.{◌||◌, ◌&&◌, nat_le}
use Rattle.std.proofs.lemmas.Bool.{cond-false}
use Rattle.world_model.specs.declared.command.Command.{Command}
use Rattle.world_model.specs.declared.step.Step.{Step}
use Rattle.world_model.specs.commands.Cluster.{is_cluster, has_cluster, sites_of, parts_of, sites_after, parts_after}
use Rattle.world_model.specs.lines.Dependency.{dependency, HandsOwn}
use Rattle.world_model.specs.commands.Meeting.{site_after, site_of, count_after, session_count}
use Rattle.world_model.specs.commands.Phases.{phase, phase_after, by_command}
use Rattle.world_model.specs.commands.Run.{Run}
use Rattle.world_model.specs.commands.ScriptCalls.{is_called, calls_of}
use Rattle.txn_session.specs.Calls.{Call, entries}
use Rattle.txn_session.specs.Holds.{Holds}
use Rattle.txn_session.specs.Session.{SessionState}
use Rattle.site_partitions.specs.Reaches.{Types}
use Rattle.cluster.specs.Same.{SameCluster, same_refl, same_trans}
use Rattle.cluster.specs.Live.{LiveState, session_in}
use Rattle.cluster.specs.Reached.{StandsAs, ReachedLive, GoesTo}
use Rattle.cluster.specs.Sees.{Sees}
use Rattle.cluster.proofs.Keeping.{is_postal, grows_none, grows_both, keeps_line, keeps_none, keeps_both}
use Rattle.cluster.specs.Fuel.{Fueled}
use Rattle.cluster.proofs.FuelStays.{IsIdle, fueled_idle}
use Rattle.cluster.proofs.FuelLines.{lets_burn}
use Rattle.cluster.proofs.FuelWrites.{is_took}
use Rattle.cluster.proofs.Mere.{is_mere, IsMere, uncalled, mere, mere_plain, uncalled_idle, mere_idle}

-- the runs tell the same of this session
pub record SameFor (new old : Run) (who : List ℕ) : Type 0 where
  pub sites : sites_of new ≡ sites_of old
  pub parts : parts_of new ≡ parts_of old
  pub site : site_of new who ≡ site_of old who
  pub phase : phase new who ≡ phase old who
  pub depends : dependency (sites_of new) (calls_of new) who ≡ dependency (sites_of old) (calls_of old) who

pub stands_still : {E : Type 0} (new old : Run) (later calls : List (Call E)) (who : List ℕ) (o : Option (SessionState E)) → SameFor new old who → ((s : SessionState E) → o ≡ Some s → Holds s calls → Holds s later) → StandsAs old calls who o → StandsAs new later who o
stands_still new old later calls who None same holds s = (same.phase ∙ s.0, same.site ∙ s.1)
stands_still new old later calls who (Some x) same holds s = record {
  name = s.name;
  sites = s.sites ∙ sym same.sites;
  parts = s.parts ∙ sym same.parts;
  site = same.site ∙ s.site;
  there = ap (λ n. nat_le 1 x.site && nat_le x.site n) same.sites ∙ s.there;
  phase = same.phase ∙ s.phase;
  few = s.few;
  depends = s.depends ∙ sym same.depends;
  holds = holds x refl s.holds;
}

-- what a line leaves as it was that shows no call
pub record IsQuiet (run : Run) (asked : Option Command) (s : Step) : Type 0 where
  pub called : is_called asked s ≡ false
  pub cluster : is_cluster s ≡ false
  pub sites : (n : ℕ) → sites_after n s ≡ n
  pub parts : (n : ℕ) → parts_after n s ≡ n
  pub site : (who : List ℕ) (old : Option ℕ) → site_after who old s ≡ old
  pub count : (n : ℕ) → count_after n s ≡ n
  pub phase : (who : List ℕ) → phase_after (parts_of run) who (phase run who) asked s ≡ phase run who

module _ {S E D : Type 0} (types : Types S E D) where
  -- a line that shows no call, and that gives no session another phase, leaves the cluster as it was, over partitions that see what these saw
  abbrev pub quiet_on : (c new : LiveState E D) → SameCluster types.state c.sites new.sites → new.sessions ≡ c.sessions → (number : ℕ) (asked : Option Command) (s : Step) (run : Run) → IsQuiet run asked s → (r : ReachedLive types c run) → Sees types new.sites r.calls → Fueled types.state new.sites ((record { number = number; command = asked; step = s }) ∷ run) (entries r.calls) → ReachedLive types new ((record { number = number; command = asked; step = s }) ∷ run)
  quiet_on c new size sessions number asked s run m r sees fuel = record {
    has = ap (λ x. x || has_cluster run) m.cluster ∙ r.has;
    sites = size.sites_are ∙ (r.sites ∙ sym (m.sites (sites_of run)));
    parts = size.parts_are ∙ (r.parts ∙ sym (m.parts (parts_of run)));
    calls = r.calls;
    sees = sees;
    shown = r.shown ∙ sym lines;
    own = subst (λ n. HandsOwn n (calls_of next)) (sym (m.sites (sites_of run))) (subst (λ ls. HandsOwn (sites_of run) ls) (sym lines) r.own);
    fuel = fuel;
    each = λ who. subst (λ l. StandsAs next r.calls who (session_in l who)) (sym sessions) (stands_still next run r.calls r.calls who (session_in c.sessions who) (same who) (λ x e k. k) (r.each who));
    count = m.count (session_count run) ∙ (r.count ∙ ap length (sym sessions));
  }
    where
      next : Run
      next = (record { number = number; command = asked; step = s }) ∷ run

      lines : calls_of next ≡ calls_of run
      lines = cond-false (is_called asked s) _ (calls_of run) m.called

      same : (who : List ℕ) → SameFor next run who
      same who = record {
        sites = m.sites (sites_of run);
        parts = m.parts (parts_of run);
        site = m.site who (site_of run who);
        phase = m.phase who;
        depends = (λ i. dependency (m.sites (sites_of run) i) (lines i) who);
      }

  abbrev pub quiet_still : (c : LiveState E D) (number : ℕ) (asked : Option Command) (s : Step) (run : Run) → IsQuiet run asked s → (r : ReachedLive types c run) → Fueled types.state c.sites ((record { number = number; command = asked; step = s }) ∷ run) (entries r.calls) → ReachedLive types c ((record { number = number; command = asked; step = s }) ∷ run)
  quiet_still c number asked s run m r fuel = quiet_on c c (same_refl types.state c.sites) refl number asked s run m r r.sees fuel

  -- and so do the fuses
  abbrev pub idle_fuel : (c : LiveState E D) (number : ℕ) (asked : Option Command) (s : Step) (run : Run) → IsIdle (record { number = number; command = asked; step = s }) → (r : ReachedLive types c run) → Fueled types.state c.sites ((record { number = number; command = asked; step = s }) ∷ run) (entries r.calls)
  idle_fuel c number asked s run idle r = fueled_idle types.state c.sites run (record { number = number; command = asked; step = s }) (entries r.calls) (entries r.calls) idle (λ whole b. b) r.fuel

  pub goes_quiet : (c : LiveState E D) (number : ℕ) (asked : Option Command) (s : Step) (run : Run) → IsQuiet run asked s → is_postal s ≡ false → lets_burn s ≡ true → is_took s ≡ false → (r : ReachedLive types c run) → GoesTo types c run r c ((record { number = number; command = asked; step = s }) ∷ run)
  goes_quiet c number asked s run m h lets untaken r = record { same = same_refl types.state c.sites; reached = quiet_still c number asked s run m r (idle_fuel c number asked s run (uncalled_idle number asked s m.called lets untaken) r); grows = grows_none r.calls; keeps = keeps_line number asked s run h }

  -- so does one that no partition answered
  abbrev pub mere_still : (c : LiveState E D) (number : ℕ) (asked : Option Command) (s : Step) (run : Run) → IsMere s → ((who : List ℕ) → by_command (parts_of run) who (phase run who) asked s ≡ phase run who) → ReachedLive types c run → ReachedLive types c ((record { number = number; command = asked; step = s }) ∷ run)
  mere_still c number asked s run m idle r = quiet_still c number asked s run
      (record { called = uncalled asked s m.answer; cluster = m.cluster; sites = m.sites; parts = m.parts; site = m.site; count = m.count; phase = λ who. m.phase (parts_of run) who (phase run who) asked ∙ idle who }) r (idle_fuel c number asked s run (mere_idle number asked s m) r)

  -- and so does a refusal
  pub live_still : (c : LiveState E D) (number : ℕ) (asked : Option Command) (s : Step) (run : Run) → is_mere s ≡ true → ((who : List ℕ) → by_command (parts_of run) who (phase run who) asked s ≡ phase run who) → (r : ReachedLive types c run) → GoesTo types c run r c ((record { number = number; command = asked; step = s }) ∷ run)
  live_still c number asked s run h idle r = record { same = same_refl types.state c.sites; reached = mere_still c number asked s run (mere s h) idle r; grows = grows_none r.calls; keeps = keeps_line number asked s run (mere_plain s h) }

  pub goes_none : (c : LiveState E D) (run : Run) (r : ReachedLive types c run) → GoesTo types c run r c run
  goes_none c run r = record { same = same_refl types.state c.sites; reached = r; grows = grows_none r.calls; keeps = keeps_none run }

  pub goes_both : (a : LiveState E D) (run : Run) (r : ReachedLive types a run) (b : LiveState E D) (next : Run) (x : GoesTo types a run r b next) (c : LiveState E D) (last : Run) → GoesTo types b next x.reached c last → GoesTo types a run r c last
  goes_both a run r b next x c last y = record { same = same_trans types.state a.sites b.sites c.sites x.same y.same; reached = y.reached; grows = grows_both r.calls x.reached.calls y.reached.calls x.grows y.grows; keeps = keeps_both run next last x.keeps y.keeps }
