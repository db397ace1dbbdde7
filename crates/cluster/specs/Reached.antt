-- Where the run of a script left a cluster and its sessions.
use Rattle.std.specs.Prelude.{◌≡◌, ◌≤◌, ℕ, true, false, List, [], length, map, Option, None, Some, ⊤}
use Rattle.world_model.specs.declared.command.Command.{Command}
use Rattle.world_model.specs.declared.step.Step.{Step}
use Rattle.world_model.specs.commands.Answers.{answered}
use Rattle.world_model.specs.commands.Cluster.{has_cluster, has_site, sites_of, parts_of}
use Rattle.world_model.specs.lines.Dependency.{dependency, HandsOwn}
use Rattle.world_model.specs.rules.Lines.{shown_lines}
use Rattle.world_model.specs.commands.Meeting.{site_of, session_count}
use Rattle.world_model.specs.commands.Phases as phases
use Rattle.world_model.specs.commands.Phases.{Phase, Absent, phase, update_total}
use Rattle.world_model.specs.commands.Run.{Run}
use Rattle.world_model.specs.commands.ScriptAnswers.{IsAnswer}
use Rattle.world_model.specs.commands.ScriptCalls.{calls_of}
use Rattle.txn_session.specs.Calls.{Call, entries}
use Rattle.txn_session.specs.Holds.{Holds}
use Rattle.txn_session.specs.Session.{Doing, Idle, Open, Ending, SessionState}
use Rattle.cluster.specs.Built.{is_built}
use Rattle.disk_core.specs.States.{DiskState}
use Rattle.partition_core.specs.Durable.{Durable}
use Rattle.site_partitions.specs.Held.{IsSized}
use Rattle.site_partitions.specs.Reaches.{Types}
use Rattle.cluster.specs.Faults.{ShowFaults, AreFed}
use Rattle.cluster.specs.Fuel.{Fueled, SetsFuse, Unlit}
use Rattle.cluster.specs.Same.{SameCluster}
use Rattle.cluster.specs.Live.{LiveState, session_in}
use Rattle.cluster.specs.Post.{WholeState, HasPost, Grows, KeepsPost}
use Rattle.cluster.specs.Sees.{Sees}

-- where a session stands in a run
abbrev pub phase_as : {E : Type 0} → Doing E → Phase
phase_as Idle = phases.Idle
phase_as (Open txn) = phases.Open txn.tx txn.s (map (λ u. u.object) txn.updates)
phase_as (Ending txn lead commit) = phases.Ending txn.tx txn.s commit.going

module _ {E : Type 0} where
  -- a session is where the run left it, and what it did is in these calls
  pub record StandsBy (run : Run) (calls : List (Call E)) (who : List ℕ) (s : SessionState E) : Type 0 where
    pub name : s.name ≡ who
    pub sites : s.sites ≡ sites_of run
    pub parts : s.parts ≡ parts_of run
    pub site : site_of run who ≡ Some s.site
    pub there : has_site run s.site ≡ true
    pub phase : phase run who ≡ phase_as s.doing
    pub few : update_total (phase_as s.doing) ≤ 256
    pub depends : s.dependency ≡ dependency (sites_of run) (calls_of run) who
    pub holds : Holds s calls

  abbrev pub StandsAs : Run → List (Call E) → List ℕ → Option (SessionState E) → Type 0
  StandsAs run calls who None = (phase run who ≡ Absent) × (site_of run who ≡ None)
  StandsAs run calls who (Some s) = StandsBy run calls who s

-- no cluster is made
pub record IsBefore (run : Run) : Type 0 where
  pub lacks : has_cluster run ≡ false
  pub sites : sites_of run ≡ 0
  pub parts : parts_of run ≡ 0
  pub calls : calls_of run ≡ []
  pub phases : (who : List ℕ) → phase run who ≡ Absent
  pub site : (who : List ℕ) → site_of run who ≡ None
  pub count : session_count run ≡ 0
  -- and nothing was sent or reported
  pub post : KeepsPost [] run
  -- and no fuse is in force
  pub unlit : Unlit run

-- the partitions of the cluster, if one is made
abbrev pub partitions_in : {E D : Type 0} → Option (WholeState E D) → List (Durable E D)
partitions_in None = []
partitions_in (Some w) = w.live.sites.partitions

-- how many each site has
abbrev pub parts_in : {E D : Type 0} → Option (WholeState E D) → Option ℕ
parts_in None = None
parts_in (Some w) = Some w.live.sites.parts

-- and each place of it has one
abbrev pub SizedIn : {E D : Type 0} → Option (WholeState E D) → Type 0
SizedIn None = ⊤
SizedIn (Some w) = IsSized w.live.sites.sites w.live.sites.parts (length w.live.sites.partitions)

-- no line tells of a disk that failed for want of memory
abbrev pub FedIn : {E D : Type 0} → (D → DiskState) → Option (WholeState E D) → List Step → Type 0
FedIn state None steps = ⊤
FedIn state (Some w) steps = AreFed state w.live.sites steps

-- what a command of fuses leaves of the disks of a cluster
abbrev pub SetsFuseIn : {E D : Type 0} → (D → DiskState) → Command → Option (WholeState E D) → Option (WholeState E D) → Type 0
SetsFuseIn state c (Some old) (Some new) = SetsFuse state c old.live.sites new.live.sites
SetsFuseIn state c old new = ⊤

module _ {S E D : Type 0} (types : Types S E D) where
  -- these calls show the lines of partitions in the run, and left the partitions and the sessions so
  pub record ReachedLive (c : LiveState E D) (run : Run) : Type 0 where
    pub has : has_cluster run ≡ true
    pub sites : c.sites.sites ≡ sites_of run
    pub parts : c.sites.parts ≡ parts_of run
    pub calls : List (Call E)
    pub sees : Sees types c.sites calls
    pub shown : shown_lines (entries calls) ≡ calls_of run
    -- each begin was handed what its session depended on
    pub own : HandsOwn (sites_of run) (calls_of run)
    -- and the fuses in force burn on the disks
    pub fuel : Fueled types.state c.sites run (entries calls)
    pub each : (who : List ℕ) → StandsAs run calls who (session_in c.sessions who)
    pub count : session_count run ≡ length c.sessions

  -- the new cluster's run goes on from that of the old one, and no message or report was made
  pub record GoesTo (old : LiveState E D) (run : Run) (r : ReachedLive old run) (new : LiveState E D) (next : Run) : Type 0 where
    pub same : SameCluster types.state old.sites new.sites
    pub reached : ReachedLive new next
    pub grows : Grows r.calls reached.calls
    pub keeps : KeepsPost run next

  -- whatever run had left the old cluster, these lines answer the command in it, and leave the new one; where a line tells that a
  -- disk failed, its count of faults rose
  abbrev pub AppliesLive : LiveState E D → Command → List Step → LiveState E D → Type 0
  AppliesLive old c steps new = (number : ℕ) (run : Run) (r : ReachedLive old run) → IsAnswer is_built run c steps × GoesTo old run r new (answered number (Some c) steps run) × ShowFaults types.state run old.sites new.sites steps

  -- some run left it so
  pub record IsReachedLive (c : LiveState E D) : Type 0 where
    pub run : Run
    pub reached : ReachedLive c run

  -- and what is kept of messages and reports is what the run kept
  pub record ReachedWhole (w : WholeState E D) (run : Run) : Type 0 where
    pub live : ReachedLive w.live run
    pub post : HasPost w.live.sites.sites w.live.sites.parts run (entries live.calls) w.post

  abbrev pub Reached : Option (WholeState E D) → Run → Type 0
  Reached None run = IsBefore run
  Reached (Some w) run = ReachedWhole w run

  -- where a cluster stood and stands, it has the same disks, and where a line tells that one failed, its count of faults rose
  abbrev pub FaultsShown : Option (WholeState E D) → Run → List Step → Option (WholeState E D) → Type 0
  FaultsShown (Some old) run steps (Some new) = SameCluster types.state old.live.sites new.live.sites × ShowFaults types.state run old.live.sites new.live.sites steps
  FaultsShown old run steps new = ⊤

  -- whatever run had left the old cluster, these lines answer the command in it, and leave the new one
  abbrev pub Applies : Option (WholeState E D) → Command → List Step → Option (WholeState E D) → Type 0
  Applies old c steps new = (number : ℕ) (run : Run) → Reached old run → IsAnswer is_built run c steps × Reached new (answered number (Some c) steps run) × FaultsShown old run steps new

  -- some run left it so
  pub record IsReached (w : Option (WholeState E D)) : Type 0 where
    pub run : Run
    pub reached : Reached w run
