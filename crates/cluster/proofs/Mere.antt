-- Lines that no partition answered, and that change nothing: refusals before any partition is asked.
use Rattle.std.proofs.Common.{◌≡◌, ℕ, Bool, true, false, List, [], ◌∷◌, refl, sym, ap, ◌∙◌, subst, Option, Some}
use Rattle.std.specs.Prelude.{if◌then◌else◌, ◌||◌, ◌&&◌, not}
use Rattle.std.specs.Str.{bytes_eq}
use Rattle.std.proofs.lemmas.Bool.{cond-false, true≢false}
use Rattle.world_model.proofs.Names.{off}
use Rattle.world_model.specs.declared.command.Command.{Command}
use Rattle.world_model.specs.declared.command.Command.TheVariants as command
use Rattle.world_model.specs.declared.step.Step.{Step}
use Rattle.world_model.specs.declared.step.Step.TheVariants as step
use Rattle.world_model.specs.commands.Cluster.{is_cluster, has_cluster, sites_of, parts_of, sites_after, parts_after}
use Rattle.world_model.specs.commands.Meeting.{site_after, site_of, count_after, session_count}
use Rattle.world_model.specs.commands.Phases.{Phase, Absent, phase, phase_after, by_command}
use Rattle.world_model.specs.commands.Run.{Run}
use Rattle.world_model.specs.commands.ScriptCalls.{is_answer, is_unasked, is_called, calls_of}
use Rattle.disk_core.specs.States.{DiskState}
use Rattle.site_partitions.specs.Held.{Held}
use Rattle.cluster.specs.Faults.{ShowsFault, ShowFaults}
use Rattle.cluster.specs.Reached.{IsBefore}
use Rattle.cluster.proofs.FuelStays.{IsIdle, unlit_first, unlit_next}
use Rattle.cluster.proofs.FuelLines.{lets_burn}
use Rattle.cluster.proofs.FuelWrites.{is_took}
use Rattle.cluster.proofs.Keeping.{is_postal, keeps_line, keeps_none, keeps_both}

-- a refusal that no partition gives, or a line outside the grammar
abbrev pub is_mere : Step → Bool
is_mere step.Bad = true
is_mere step.NoCluster = true
is_mere step.HasCluster = true
is_mere step.NoPart = true
is_mere step.NoSession = true
is_mere step.HasSession = true
is_mere step.NoTxn = true
is_mere step.HasTxn = true
is_mere step.NoMessage = true
is_mere step.BadOp = true
is_mere step.LimitSessions = true
is_mere step.LimitUpdates = true
is_mere step.LimitMessages = true
is_mere step.LimitReports = true
is_mere step.Unbuilt = true
is_mere other = false

-- what such a line leaves as it was
pub record IsMere (s : Step) : Type 0 where
  pub answer : is_answer s ≡ false
  pub cluster : is_cluster s ≡ false
  pub sites : (n : ℕ) → sites_after n s ≡ n
  pub parts : (n : ℕ) → parts_after n s ≡ n
  pub site : (who : List ℕ) (old : Option ℕ) → site_after who old s ≡ old
  pub count : (n : ℕ) → count_after n s ≡ n
  pub phase : (parts : ℕ) (who : List ℕ) (old : Phase) (asked : Option Command) → phase_after parts who old asked s ≡ by_command parts who old asked s
  pub lets : lets_burn s ≡ true
  pub untaken : is_took s ≡ false

-- and no call is shown by it
pub uncalled : (asked : Option Command) (s : Step) → is_answer s ≡ false → is_called asked s ≡ false
uncalled asked s h = ap (λ b. b && not (is_unasked asked s)) h

all_same : (s : Step) → is_answer s ≡ false → is_cluster s ≡ false → ((n : ℕ) → sites_after n s ≡ n) → ((n : ℕ) → parts_after n s ≡ n) → ((who : List ℕ) (old : Option ℕ) → site_after who old s ≡ old) → ((n : ℕ) → count_after n s ≡ n) → ((parts : ℕ) (who : List ℕ) (old : Phase) (asked : Option Command) → phase_after parts who old asked s ≡ by_command parts who old asked s) → lets_burn s ≡ true → is_took s ≡ false → IsMere s
all_same s a b c d e f g h k = record { answer = a; cluster = b; sites = c; parts = d; site = e; count = f; phase = g; lets = h; untaken = k }

pub mere : (s : Step) → is_mere s ≡ true → IsMere s
mere step.Bad h = all_same _ refl refl (λ n. refl) (λ n. refl) (λ w o. refl) (λ n. refl) (λ n w o a. refl) refl refl
mere step.NoCluster h = all_same _ refl refl (λ n. refl) (λ n. refl) (λ w o. refl) (λ n. refl) (λ n w o a. refl) refl refl
mere step.HasCluster h = all_same _ refl refl (λ n. refl) (λ n. refl) (λ w o. refl) (λ n. refl) (λ n w o a. refl) refl refl
mere step.NoPart h = all_same _ refl refl (λ n. refl) (λ n. refl) (λ w o. refl) (λ n. refl) (λ n w o a. refl) refl refl
mere step.NoSession h = all_same _ refl refl (λ n. refl) (λ n. refl) (λ w o. refl) (λ n. refl) (λ n w o a. refl) refl refl
mere step.HasSession h = all_same _ refl refl (λ n. refl) (λ n. refl) (λ w o. refl) (λ n. refl) (λ n w o a. refl) refl refl
mere step.NoTxn h = all_same _ refl refl (λ n. refl) (λ n. refl) (λ w o. refl) (λ n. refl) (λ n w o a. refl) refl refl
mere step.HasTxn h = all_same _ refl refl (λ n. refl) (λ n. refl) (λ w o. refl) (λ n. refl) (λ n w o a. refl) refl refl
mere step.NoMessage h = all_same _ refl refl (λ n. refl) (λ n. refl) (λ w o. refl) (λ n. refl) (λ n w o a. refl) refl refl
mere step.BadOp h = all_same _ refl refl (λ n. refl) (λ n. refl) (λ w o. refl) (λ n. refl) (λ n w o a. refl) refl refl
mere step.LimitSessions h = all_same _ refl refl (λ n. refl) (λ n. refl) (λ w o. refl) (λ n. refl) (λ n w o a. refl) refl refl
mere step.LimitUpdates h = all_same _ refl refl (λ n. refl) (λ n. refl) (λ w o. refl) (λ n. refl) (λ n w o a. refl) refl refl
mere step.LimitMessages h = all_same _ refl refl (λ n. refl) (λ n. refl) (λ w o. refl) (λ n. refl) (λ n w o a. refl) refl refl
mere step.LimitReports h = all_same _ refl refl (λ n. refl) (λ n. refl) (λ w o. refl) (λ n. refl) (λ n w o a. refl) refl refl
mere step.Unbuilt h = all_same _ refl refl (λ n. refl) (λ n. refl) (λ w o. refl) (λ n. refl) (λ n w o a. refl) refl refl
mere other h = off h

-- no disk failed for such a line
pub mere_shows : {E D : Type 0} (state : D → DiskState) (run : Run) (old new : Held E D) (s : Step) → is_mere s ≡ true → ShowsFault state run old new s
mere_shows state run old new (step.Disk p) h = off h
mere_shows state run old new (step.Unsure t) h = off h
mere_shows state run old new other h = tt

pub mere_faults : {E D : Type 0} (state : D → DiskState) (run : Run) (old new : Held E D) (s : Step) (steps : List Step) → steps ≡ s ∷ [] → is_mere s ≡ true → ShowFaults state run old new steps
mere_faults state run old new s steps is h = subst (ShowFaults state run old new) (sym is) (mere_shows state run old new s h, tt)

pub mere_plain : (s : Step) → is_mere s ≡ true → is_postal s ≡ false
mere_plain (step.Sent n q to lo hi count) h = off h
mere_plain (step.Reported n q bounds) h = off h
mere_plain (step.DroppedMessage n) h = off h
mere_plain (step.DroppedReport n) h = off h
mere_plain other h = refl

-- where no session is, a command gives none a phase
absent_stays : (parts : ℕ) (who : List ℕ) (asked : Option Command) (s : Step) → by_command parts who Absent asked s ≡ Absent
absent_stays parts who (Some (command.Commit name k)) s = elim (bytes_eq name who) as (λ b. (if b then Absent else Absent) ≡ Absent) [ true ↦ refl | false ↦ refl ]
absent_stays parts who (Some (command.Abort name)) s = elim (bytes_eq name who) as (λ b. (if b then Absent else Absent) ≡ Absent) [ true ↦ refl | false ↦ refl ]
absent_stays parts who other s = refl

-- a line that shows no call, and ends no fuse
pub uncalled_idle : (number : ℕ) (asked : Option Command) (s : Step) → is_called asked s ≡ false → lets_burn s ≡ true → is_took s ≡ false → IsIdle (record { number = number; command = asked; step = s })
uncalled_idle number asked s none lets untaken = record { lets = lets; untaken = untaken; unchanged = λ h ls p. absurd (true≢false (sym h ∙ none)) }

pub mere_idle : (number : ℕ) (asked : Option Command) (s : Step) → IsMere s → IsIdle (record { number = number; command = asked; step = s })
mere_idle number asked s m = uncalled_idle number asked s (uncalled asked s m.answer) m.lets m.untaken

-- before a cluster is made
pub before_still : (number : ℕ) (asked : Option Command) (s : Step) (run : Run) → is_mere s ≡ true → IsBefore run → IsBefore ((record { number = number; command = asked; step = s }) ∷ run)
before_still number asked s run h b =
    let m = mere s h in record {
      lacks = ap (λ x. x || has_cluster run) m.cluster ∙ b.lacks;
      sites = m.sites (sites_of run) ∙ b.sites;
      parts = m.parts (parts_of run) ∙ b.parts;
      calls = cond-false (is_called asked s) _ (calls_of run) (uncalled asked s m.answer) ∙ b.calls;
      phases = λ who. m.phase (parts_of run) who (phase run who) asked ∙ ap (λ o. by_command (parts_of run) who o asked s) (b.phases who) ∙ absent_stays (parts_of run) who asked s;
      site = λ who. m.site who (site_of run who) ∙ b.site who;
      count = m.count (session_count run) ∙ b.count;
      post = keeps_both [] run _ b.post (keeps_line number asked s run (mere_plain s h));
      unlit = unlit_next run _ (mere_idle number asked s m) b.unlit;
    }

-- before any line
pub at_first : IsBefore []
at_first = record { lacks = refl; sites = refl; parts = refl; calls = refl; phases = λ who. refl; site = λ who. refl; count = refl; post = keeps_none []; unlit = unlit_first }
