-- Crashes, restarts and fuses of a partition, over all that its cluster had reached.
use Rattle.std.proofs.Common.{◌≡◌, ◌≢◌, ℕ, zero, suc, ◌*◌, ◌<◌, true, List, length, get_or, set, refl, sym, ap, subst, Option, None, Some, Result, Ok, Err, arith}
use Rattle.std.specs.Prelude.{IsTrue}
use Rattle.site_vector.specs.declared.ids.PartId.{PartId}
use Rattle.disk_core.specs.States.{DiskState, GoesOn}
use Rattle.gate_log.specs.Logs.{disk_of}
use Rattle.gate_log.specs.declared.log.GateLog.{GateLog}
use Rattle.world_model.specs.rules.Event.{Entry, Crashed, RestartCut}
use Rattle.world_model.specs.rules.Event as event
use Rattle.world_model.specs.rules.Partition.{PartState}
use Rattle.world_model.specs.lines.Places.{IsPlace}
use Rattle.partition_core.specs.declared.restart.Restarted.{Restarted}
use Rattle.partition_core.specs.declared.restart.RestartError.{RestartError}
use Rattle.partition_core.specs.declared.restart.RestartError.TheVariants as restart
use Rattle.partition_core.specs.Durable.{Durable, StandsOn, disk_in, is_down}
use Rattle.partition_core.specs.Moments.{Crashes}
use Rattle.partition_core.specs.Restarts.{StaysDown, ComesUp, RestartsOn}
use Rattle.partition_core.specs.Tables.{Tables, IsSame}
use Rattle.site_partitions.specs.Held.{Held, IsSized, index_of}
use Rattle.site_partitions.specs.Reaches.{Types, StandsAt, Reaches}
use Rattle.site_partitions.specs.Faults.{CrashesAt, StaysDownAt, ComesUpAt, RestartsAt, ArmsAt, RevivesAt}
use Rattle.site_partitions.proofs.Going.{moves, stands_at, reached_as, reached_still}

-- a disk in the same state but for its fuse has gone on
gone_on : (old new : DiskState) → new.tells ≡ old.tells → new.room ≡ old.room → new.sound ≡ old.sound → new.faults ≡ old.faults → new.starved ≡ old.starved → GoesOn old new
gone_on old new a b e c d = record { tells = a; room = b; sound = e; later = omega (arith, c); starved = λ h. subst (λ x. IsTrue x) (sym d) h }

fused_on : (old new : DiskState) (left : Option ℕ) (keep : ℕ) → new ≡ record old { left = left; keep = keep } → GoesOn old new
fused_on old new left keep e = gone_on old new (ap (λ (d : DiskState). d.tells) e) (ap (λ (d : DiskState). d.room) e) (ap (λ (d : DiskState). d.sound) e) (ap (λ (d : DiskState). d.faults) e) (ap (λ (d : DiskState). d.starved) e)

stays_so : (old new : DiskState) → new ≡ old → GoesOn old new
stays_so old new e = gone_on old new (ap (λ (d : DiskState). d.tells) e) (ap (λ (d : DiskState). d.room) e) (ap (λ (d : DiskState). d.sound) e) (ap (λ (d : DiskState). d.faults) e) (ap (λ (d : DiskState). d.starved) e)

same_tables : {E : Type 0} (old new : Tables E) → new ≡ old → IsSame old new
same_tables old new e = record { id = ap (λ (t : Tables _). t.id) e; sites = ap (λ (t : Tables _). t.sites) e; parts = ap (λ (t : Tables _). t.parts) e }

-- a fuse that was taken away, or stayed as it was
revived_on : (old new : DiskState) → (old.left ≡ Some 0 → new ≡ record old { left = None }) → (old.left ≢ Some 0 → new ≡ old) → (left : Option ℕ) → old.left ≡ left → GoesOn old new
revived_on old new fired burning (Some zero) e = fused_on old new None old.keep (fired e)
revived_on old new fired burning (Some (suc n)) e = stays_so old new (burning (λ k. absurd (cc)))
revived_on old new fired burning None e = stays_so old new (burning (λ k. absurd (cc)))

module _ {S E D : Type 0} (w : Types S E D) (sites parts : ℕ) (items : List (Durable E D)) (old : Held E D) (view : record { sites = sites; parts = parts; partitions = items } ≡ old) (size : IsSized sites parts (length items)) (at : PartId) (place : IsPlace old.sites old.parts at)
    (i : ℕ) (is : i ≡ index_of parts at) (below : i < sites * parts) (t u : Durable E D) (there : t ≡ get_or items i t) where
  abbrev new : Held E D
  new = record { sites = sites; parts = parts; partitions = set items i u }

  stood : (run : List (Entry E)) (r : Reaches w old run) → StandsAt w old.sites old.parts at t (r.state at)
  stood run r = stands_at w sites parts items old view size at place i is below t u there run r

  pub crashed : is_down u ≡ true → Crashes w.kinds w.codec w.state t u → CrashesAt w old new at
  crashed down c = record {
    moves = moves w sites parts items old view size at place i is below t u there (stays_so _ _ (ap (λ (g : GateLog D). w.state (disk_of g)) c.disk));
    down = down;
    disk = c.disk;
    goes = λ run r. reached_as w sites parts items old view size at place i is below t u there c.same run r Crashed (c.step (r.state at) (stood run r).stands) tt tt tt tt;
  }

  stayed : (s : StaysDown w.kinds w.codec w.state t u) → StaysDownAt w old new at
  stayed s = record {
    moves = moves w sites parts items old view size at place i is below t u there s.reads.goes_on;
    left = s.reads.left;
    down = s.down;
    goes = λ run r. reached_as w sites parts items old view size at place i is below t u there s.reads.same run r RestartCut (s.step (r.state at) (stood run r).stands) tt tt tt tt;
  }

  came_up : (a : Restarted) → ComesUp w.kinds w.codec w.state t u a → ComesUpAt w old new at a
  came_up a s = record {
    moves = moves w sites parts items old view size at place i is below t u there s.reads.goes_on;
    left = s.reads.left;
    up = s.up;
    unfired = s.unfired;
    goes = λ run r. reached_as w sites parts items old view size at place i is below t u there s.reads.same run r (event.Restarted a.now a.bounds a.decided a.pending) (s.step (r.state at) (stood run r).stands) tt tt tt tt;
  }

  pub restarted : (result : Result Restarted RestartError) → RestartsOn w.kinds w.codec w.state t u result → RestartsAt w old new at result
  unfolding stayed
  restarted (Ok a) s = came_up a s
  restarted (Err restart.Disk) s = (stayed s.1, s.0)
  restarted (Err restart.NoMemory) s = stayed s
  restarted (Err (restart.Damaged place)) s = (stayed s.0, λ run r. s.1 (r.state at) (stood run r).stands)

  pub armed : (k keep : ℕ) → disk_in w.state u ≡ record (disk_in w.state t) { left = Some k; keep = keep } → (u.tables ≡ t.tables) × (is_down u ≡ is_down t) → ((p : PartState E) → StandsOn w.codec w.state t p → StandsOn w.codec w.state u p) → ArmsAt w old new at k keep
  armed k keep left same stands = record {
    moves = moves w sites parts items old view size at place i is below t u there (fused_on _ _ (Some k) keep left);
    armed = left;
    down = same.1;
    keeps = λ run r. reached_still w sites parts items old view size at place i is below t u there (same_tables _ _ same.0) run r (stands (r.state at) (stood run r).stands);
  }

  pub revived : ((disk_in w.state t).left ≡ Some 0 → disk_in w.state u ≡ record (disk_in w.state t) { left = None }) → ((disk_in w.state t).left ≢ Some 0 → u ≡ t)
      → (u.tables ≡ t.tables) × (is_down u ≡ is_down t) → ((p : PartState E) → StandsOn w.codec w.state t p → StandsOn w.codec w.state u p) → RevivesAt w old new at
  revived fired burning same stands = record {
    moves = moves w sites parts items old view size at place i is below t u there (revived_on _ _ fired (λ k. ap (λ (d : Durable E D). disk_in w.state d) (burning k)) (disk_in w.state t).left refl);
    fired = fired;
    burning = burning;
    down = same.1;
    keeps = λ run r. reached_still w sites parts items old view size at place i is below t u there (same_tables _ _ same.0) run r (stands (r.state at) (stood run r).stands);
  }
