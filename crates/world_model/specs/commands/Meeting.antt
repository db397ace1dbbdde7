-- What a command of a script meets before any partition is asked: its refusals in their order, by the run before.
use Rattle.std.specs.Prelude.{ℕ, ◌+◌, ◌-◌, Bool, false, not, ◌||◌, ◌==◌, if◌then◌else◌, List, [], ◌∷◌, Option, None, Some, is_none}
use Rattle.std.specs.Str.{bytes_eq}
use Rattle.site_vector.specs.declared.ids.PartId.{PartId}
use Rattle.crdt_core.specs.Fits.{fits}
use Rattle.world_model.specs.declared.command.Command.{Command}
use Rattle.world_model.specs.declared.command.Command.TheVariants as command
use Rattle.world_model.specs.declared.step.Step.{Step}
use Rattle.world_model.specs.declared.step.Step.TheVariants as step
use Rattle.world_model.specs.commands.Run.{Run}
use Rattle.world_model.specs.commands.Cluster.{has_cluster, has_site, has_part}
use Rattle.world_model.specs.commands.Refusals.{first_due}
use Rattle.world_model.specs.commands.Phases.{is_there, is_idle, is_open, is_undecided, update_total, phase}
use Rattle.world_model.specs.commands.Messages.{Notice, message_of, report_of, messages, reports}

abbrev pub site_after : List ℕ → Option ℕ → Step → Option ℕ
site_after who old (step.MadeSession name site) = if bytes_eq name who then Some site else old
site_after who old (step.Moved name site) = if bytes_eq name who then Some site else old
site_after who old (step.Lost name) = if bytes_eq name who then None else old
site_after who old other = old

-- the site where a session is
abbrev pub site_of : Run → List ℕ → Option ℕ
site_of [] who = None
site_of (e ∷ run) who = site_after who (site_of run who) e.step

abbrev pub is_at : Option ℕ → ℕ → Bool
is_at None site = false
is_at (Some d) site = d == site

abbrev pub count_after : ℕ → Step → ℕ
count_after old (step.MadeSession name site) = old + 1
count_after old (step.Lost name) = old - 1
count_after old other = old

-- how many sessions there are
abbrev pub session_count : Run → ℕ
session_count [] = 0
session_count (e ∷ run) = count_after (session_count run) e.step

-- where a session begins: at the partition that is named, or at the first of its site
abbrev pub site_or_none : Option ℕ → ℕ
site_or_none None = 0
site_or_none (Some site) = site

abbrev pub begin_place : Run → List ℕ → Option PartId → PartId
begin_place run name None = record { site = site_or_none (site_of run name); part = 1 }
begin_place run name (Some p) = p

abbrev pub is_elsewhere : Run → List ℕ → Option PartId → Bool
is_elsewhere run name None = false
is_elsewhere run name (Some p) = not (is_at (site_of run name) p.site)

abbrev pub lacks_part : Run → Option PartId → Bool
lacks_part run None = false
lacks_part run (Some p) = not (has_part run p)

abbrev pub is_foreign : Option Notice → PartId → Bool
is_foreign None p = false
is_foreign (Some n) p = not (n.from.site == p.site)

abbrev pub no_cluster : Run → Bool × Step
no_cluster run = (not (has_cluster run), step.NoCluster)

abbrev pub no_session : Run → List ℕ → Bool × Step
no_session run name = (not (is_there (phase run name)), step.NoSession)

-- the refusals of a command in their order, each with whether it is due
abbrev pub meets : Run → Command → List (Bool × Step)
meets run (command.Cluster sites parts) = (has_cluster run, step.HasCluster) ∷ []
meets run (command.Clock p n) = no_cluster run ∷ (not (has_part run p), step.NoPart) ∷ []
meets run (command.Session name site) =
    no_cluster run
    ∷ (not (has_site run site), step.NoPart)
    ∷ (is_there (phase run name), step.HasSession)
    ∷ (session_count run == 64, step.LimitSessions)
    ∷ []
meets run (command.Move name site) =
    no_cluster run
    ∷ (not (has_site run site), step.NoPart)
    ∷ no_session run name
    ∷ (not (is_idle (phase run name)), step.HasTxn)
    ∷ []
meets run (command.Lose name) = no_cluster run ∷ no_session run name ∷ []
meets run (command.Begin name part mode) =
    no_cluster run
    ∷ (lacks_part run part, step.NoPart)
    ∷ no_session run name
    ∷ (is_elsewhere run name part, step.NoPart)
    ∷ (not (is_idle (phase run name)), step.HasTxn)
    ∷ []
meets run (command.Read name o) = no_cluster run ∷ no_session run name ∷ (not (is_open (phase run name)), step.NoTxn) ∷ []
meets run (command.Update name o op) =
    no_cluster run
    ∷ no_session run name
    ∷ (not (is_open (phase run name)), step.NoTxn)
    ∷ (not (fits o.kind op.path op.act), step.BadOp)
    ∷ (update_total (phase run name) == 256, step.LimitUpdates)
    ∷ []
meets run (command.Commit name steps) = no_cluster run ∷ no_session run name ∷ (is_idle (phase run name), step.NoTxn) ∷ []
meets run (command.Abort name) = no_cluster run ∷ no_session run name ∷ (not (is_undecided (phase run name)), step.NoTxn) ∷ []
meets run (command.Send p site from) =
    no_cluster run
    ∷ (not (has_part run p) || (not (has_site run site) || site == p.site), step.NoPart)
    ∷ ((messages run).present == 4096, step.LimitMessages)
    ∷ []
meets run (command.Deliver number) = no_cluster run ∷ (is_none (message_of run number), step.NoMessage) ∷ []
meets run (command.DropMessage number) = no_cluster run ∷ (is_none (message_of run number), step.NoMessage) ∷ []
meets run (command.DropReport number) = no_cluster run ∷ (is_none (report_of run number), step.NoMessage) ∷ []
meets run (command.Report p) = no_cluster run ∷ (not (has_part run p), step.NoPart) ∷ ((reports run).present == 4096, step.LimitReports) ∷ []
meets run (command.Hear number p) =
    no_cluster run
    ∷ (not (has_part run p), step.NoPart)
    ∷ (is_none (report_of run number), step.NoMessage)
    ∷ (is_foreign (report_of run number) p, step.NoPart)
    ∷ []
meets run (command.Expire p t) = no_cluster run ∷ (not (has_part run p) || (not (t.site == p.site) || not (has_part run (record { site = t.site; part = t.part }))), step.NoPart) ∷ []
meets run (command.Settle p) = no_cluster run ∷ (not (has_part run p), step.NoPart) ∷ []
meets run (command.Crash p) = no_cluster run ∷ (not (has_part run p), step.NoPart) ∷ []
meets run (command.Fuse p k n) = no_cluster run ∷ (not (has_part run p), step.NoPart) ∷ []
meets run (command.Restart p) = no_cluster run ∷ (not (has_part run p), step.NoPart) ∷ []

-- the commands that a stage of the program has not built yet are refused at once: those that this test doesn't name as built
abbrev pub met : (Command → Bool) → Run → Command → Option Step
met is_built run c = first_due ((not (is_built c), step.Unbuilt) ∷ meets run c)
