-- Which lines of a script's run a partition answered, at which partition, and with which call: the run as lines of the world.
use Rattle.std.specs.Prelude.{ℕ, ◌+◌, Bool, true, false, not, ◌&&◌, if◌then◌else◌, List, [], ◌∷◌, Option, None, Some}
use Rattle.site_vector.specs.declared.ids.PartId.{PartId}
use Rattle.site_vector.specs.declared.ids.TxId.{TxId}
use Rattle.crdt_core.specs.declared.object.ObjectId.{ObjectId}
use Rattle.crdt_core.specs.Placing.{place_of}
use Rattle.world_model.specs.declared.command.Command.{Command}
use Rattle.world_model.specs.declared.command.Command.TheVariants as command
use Rattle.world_model.specs.declared.commit.What.{What}
use Rattle.world_model.specs.declared.commit.What.TheVariants as what
use Rattle.world_model.specs.declared.step.Step.{Step}
use Rattle.world_model.specs.declared.step.Step.TheVariants as step
use Rattle.world_model.specs.commands.Run.{Run}
use Rattle.world_model.specs.commands.Cluster.{sites_of, parts_of}
use Rattle.world_model.specs.lines.Lines as world
use Rattle.world_model.specs.lines.Lines.{Call, Tick, Begin, ReadOf, UpdateOf, PrepareOf, DecideOf, FinishOf, AbortOf, SendTo, TakeOf, HearOf, Crash, Restart, wish_of}
use Rattle.world_model.specs.lines.Dependency.{dependency}
use Rattle.world_model.specs.commands.CommitSteps.{Going, starting, given_up, next_step}
use Rattle.world_model.specs.commands.Phases.{Phase, Open, Ending, holders, phase}
use Rattle.world_model.specs.commands.Messages.{Letter, Notice, message_of, report_of, sent_count, report_count}
use Rattle.world_model.specs.commands.Meeting.{begin_place}
use Rattle.world_model.specs.commands.Settling.{settling}

-- a partition answered: every line but these
abbrev pub is_answer : Step → Bool
is_answer step.Bad = false
is_answer step.NoCluster = false
is_answer step.HasCluster = false
is_answer step.NoPart = false
is_answer step.NoSession = false
is_answer step.HasSession = false
is_answer step.NoTxn = false
is_answer step.HasTxn = false
is_answer step.NoMessage = false
is_answer step.BadOp = false
is_answer step.LimitSessions = false
is_answer step.LimitUpdates = false
is_answer step.LimitMessages = false
is_answer step.LimitReports = false
is_answer step.Unbuilt = false
is_answer (step.MadeCluster sites parts) = false
is_answer (step.Moved name site) = false
is_answer (step.Lost name) = false
is_answer (step.Ended name) = false
is_answer (step.DroppedMessage number) = false
is_answer (step.DroppedReport number) = false
is_answer (step.Pending p t) = false
is_answer (step.Settled p) = false
is_answer (step.Fused p k n) = false
is_answer other = true

-- an expire asks for an abort alone, and only looks up what is finished or gone; where a disk fails as a cluster is made, there is
-- no partition yet
abbrev pub is_unasked : Option Command → Step → Bool
is_unasked (Some (command.Expire p t)) (step.Finished q u) = true
is_unasked (Some (command.Expire p t)) (step.Gone q u) = true
is_unasked (Some (command.Cluster sites parts)) (step.Disk p) = true
is_unasked asked s = false

-- a partition was asked for this line
abbrev pub is_called : Option Command → Step → Bool
is_called asked s = is_answer s && not (is_unasked asked s)

-- a call, and the partition that it is made of
pub record Placed : Type 0 where
  pub at : PartId
  pub call : Call

-- what no answer of a command answers
abbrev pub nowhere : Placed
nowhere = record { at = record { site = 0; part = 0 }; call = Crash }

-- of the transaction of an open session, at the place of an object
abbrev pub at_object : ℕ → ObjectId → Phase → (TxId → Call) → Placed
at_object parts o (Open t s objects) call = record { at = record { site = t.site; part = place_of o.bucket o.key parts }; call = call t }
at_object parts o other call = nowhere

-- the call of a step of a commit
abbrev pub for_step : TxId → What → Placed
for_step t (what.Prepare p) = record { at = record { site = t.site; part = p }; call = PrepareOf t }
for_step t (what.Decide p c) = record { at = record { site = t.site; part = p }; call = DecideOf t }
for_step t (what.Finish p c) = record { at = record { site = t.site; part = p }; call = FinishOf t }
for_step t (what.Abort p) = record { at = record { site = t.site; part = p }; call = AbortOf t }
for_step t what.Done = nowhere

abbrev pub for_commit : ℕ → Phase → (Going → Going) → Placed
for_commit parts (Open t s objects) f = for_step t (next_step t.site s (f (starting (holders parts objects))))
for_commit parts (Ending t s g) f = for_step t (next_step t.site s (f g))
for_commit parts other f = nowhere

abbrev pub for_message : Option Letter → Placed
for_message None = nowhere
for_message (Some m) = record { at = record { site = m.to; part = m.from.part }; call = TakeOf m.own m.from.site m.lo m.hi }

abbrev pub for_report : PartId → Option Notice → Placed
for_report p None = nowhere
for_report p (Some n) = record { at = p; call = HearOf n.own n.from.part n.bounds }

-- what a command asks of which partition next: a begin is handed what its session depends on, and `ls` are the lines of
-- partitions so far
abbrev pub asked_of : List world.Line → Run → Command → Placed
asked_of ls run (command.Clock p clock_time) = record { at = p; call = Tick clock_time }
asked_of ls run (command.Session name site) = record { at = record { site = site; part = 1 }; call = world.Open }
asked_of ls run (command.Begin name part mode) = record { at = begin_place run name part; call = Begin name (wish_of (dependency (sites_of run) ls name) mode) }
asked_of ls run (command.Read name o) = at_object (parts_of run) o (phase run name) (λ t. ReadOf t o)
asked_of ls run (command.Update name o op) = at_object (parts_of run) o (phase run name) (λ t. UpdateOf t o op)
asked_of ls run (command.Commit name steps) = for_commit (parts_of run) (phase run name) (λ g. g)
asked_of ls run (command.Abort name) = for_commit (parts_of run) (phase run name) given_up
asked_of ls run (command.Send p site from) = record { at = p; call = SendTo site from }
asked_of ls run (command.Deliver number) = for_message (message_of run number)
asked_of ls run (command.Report p) = record { at = p; call = world.Report }
asked_of ls run (command.Hear number p) = for_report p (report_of run number)
asked_of ls run (command.Expire p t) = record { at = p; call = AbortOf t }
asked_of ls run (command.Crash p) = record { at = p; call = Crash }
asked_of ls run (command.Restart p) = record { at = p; call = Restart }
asked_of ls run other = nowhere

-- what was asked of which partition for this line
abbrev pub asked_by : List world.Line → Run → Option Command → Step → Placed
asked_by ls run None s = nowhere
asked_by ls run (Some (command.Settle p)) s = record { at = p; call = settling (parts_of run) ls p s }
asked_by ls run (Some c) s = asked_of ls run c

abbrev pub own_of : Option Letter → ℕ
own_of None = 0
own_of (Some m) = m.own

abbrev pub own_report : Option Notice → ℕ
own_report None = 0
own_report (Some n) = n.own

-- the line with the numbers that partitions give: that of a message or report among its sender's own
abbrev pub numbered : Run → Step → Step
numbered run (step.Sent number p to lo hi count) = step.Sent (sent_count run p + 1) p to lo hi count
numbered run (step.Took number hi) = step.Took (own_of (message_of run number)) hi
numbered run (step.Dup number have) = step.Dup (own_of (message_of run number)) have
numbered run (step.Gap number have) = step.Gap (own_of (message_of run number)) have
numbered run (step.Reported number p bounds) = step.Reported (report_count run p + 1) p bounds
numbered run (step.Heard number p stable) = step.Heard (own_report (report_of run number)) p stable
numbered run other = other

-- on top of the lines of partitions so far
abbrev pub line_on : List world.Line → Placed → Step → List world.Line
line_on ls asked s = (record { at = asked.at; call = asked.call; step = s }) ∷ ls

-- the lines of the world that a script's run shows
abbrev pub calls_of : Run → List world.Line
calls_of [] = []
calls_of (e ∷ run) = if is_called e.command e.step then line_on (calls_of run) (asked_by (calls_of run) run e.command e.step) (numbered run e.step) else calls_of run
