-- How what is pending at the partitions of a cluster ends without its session.
use Rattle.std.specs.Prelude.{◌≡◌, ℕ, ◌||◌, ◌==◌, not, if◌then◌else◌, Bool, true, false, ◌∷◌, Some}
use Rattle.site_vector.specs.declared.ids.PartId.{PartId}
use Rattle.site_vector.specs.declared.ids.TxId.{TxId}
use Rattle.site_vector.specs.Ids.{same_tx}
use Rattle.world_model.specs.declared.command.Command.TheVariants as command
use Rattle.world_model.specs.declared.step.Step.{Step}
use Rattle.world_model.specs.commands.Cluster.{parts_of}
use Rattle.world_model.specs.lines.Pending.{pending}
use Rattle.world_model.specs.lines.Places.{IsPlace, home}
use Rattle.world_model.specs.commands.Run.{Run}
use Rattle.world_model.specs.commands.ScriptCalls.{calls_of}
use Rattle.world_model.specs.commands.Settling.{settled, stays, is_unwritten, first_end, ends_as_lead}
use Rattle.world_model.specs.lines.Updates.{lead}
use Rattle.world_model.specs.lines.Waiting.{waiting, without}
use Rattle.site_partitions.specs.Fates.{OfState}
use Rattle.site_partitions.specs.Held.{Held, holds_part}
use Rattle.site_partitions.specs.Reaches.{Types}
use Rattle.cluster.specs.Faults.{ShowsFault}
use Rattle.cluster.specs.Live.{LiveState}
use Rattle.cluster.specs.Reached.{ReachedLive, GoesTo}

-- the transaction is of another site than the partition, or one of these isn't there
abbrev pub lacks_txn : {E D : Type 0} → Held E D → PartId → TxId → Bool
lacks_txn c p t = not (holds_part c p) || (not (t.site == p.site) || not (holds_part c (home t)))

-- where its lead stands
abbrev pub lead_place : PartId → ℕ → PartId
lead_place p lead = record { site = p.site; part = lead }

-- the run with one more line of a settle
abbrev pub settling : ℕ → PartId → Step → Run → Run
settling number p s run = (record { number = number; command = Some (command.Settle p); step = s }) ∷ run

module _ {S E D : Type 0} (types : Types S E D) where
  -- some run left the cluster so, and t pending with this lead at p, which is up
  pub record MaySettle (c : LiveState E D) (p : PartId) (t : TxId) (n : ℕ) : Type 0 where
    pub place : IsPlace c.sites.sites c.sites.parts p
    pub up : OfState types c.sites p (λ q. q.up ≡ true)
    pub run : Run
    pub reached : ReachedLive types c run
    pub waits : pending (calls_of run) p t ≡ true
    pub led : lead (parts_of run) (calls_of run) t ≡ lead_place p n

  -- the line is that of a settle; the run goes on by it, and tells of other transactions what it told
  pub record SettledTo (old new : LiveState E D) (p : PartId) (t : TxId) (s : Step) (number : ℕ) (run : Run) (r : ReachedLive types old run) : Type 0 where
    pub line : s ≡ settled (parts_of run) (calls_of run) p t
    pub goes : GoesTo types old run r new (settling number p s run)
    pub same : (u : TxId) → settled (parts_of (settling number p s run)) (calls_of (settling number p s run)) p u ≡ settled (parts_of run) (calls_of run) p u
    pub lasting : (u : TxId) → stays (parts_of (settling number p s run)) (calls_of (settling number p s run)) p u ≡ stays (parts_of run) (calls_of run) p u
    pub leads : (u : TxId) → lead (parts_of (settling number p s run)) (calls_of (settling number p s run)) u ≡ lead (parts_of run) (calls_of run) u
    pub others : (u : TxId) → same_tx t u ≡ false → pending (calls_of (settling number p s run)) p u ≡ pending (calls_of run) p u
    pub queue : waiting (calls_of (settling number p s run)) p ≡ (if stays (parts_of run) (calls_of run) p t then waiting (calls_of run) p else without t (waiting (calls_of run) p))
    pub up : OfState types new.sites p (λ q. q.up ≡ true)

  -- the end wasn't written; the run goes on by a line that says so, if no other one that waits is to be ended before it
  pub record UnwrittenTo (old new : LiveState E D) (p : PartId) (t : TxId) (s : Step) (number : ℕ) (run : Run) (r : ReachedLive types old run) : Type 0 where
    pub ends : stays (parts_of run) (calls_of run) p t ≡ false
    pub unwritten : is_unwritten s ≡ true
    pub tells : ShowsFault types.state run old.sites new.sites s
    pub goes : first_end (parts_of run) (calls_of run) p (waiting (calls_of run) p) ≡ ends_as_lead (calls_of run) t → GoesTo types old run r new (settling number p s run)

  module _ (old new : LiveState E D) (p : PartId) (t : TxId) (n : ℕ) (s : Step) where
    -- the settle goes on after the line, or ends with it
    abbrev pub SettlesTo : Bool → (number : ℕ) (run : Run) → ReachedLive types old run → Type 0
    SettlesTo true number run r = SettledTo old new p t s number run r
    SettlesTo false number run r = UnwrittenTo old new p t s number run r

    -- whatever run had left the old cluster, and t pending with this lead
    abbrev pub Settles : Bool → Type 0
    Settles goes = (number : ℕ) (run : Run) (r : ReachedLive types old run) → pending (calls_of run) p t ≡ true → lead (parts_of run) (calls_of run) t ≡ lead_place p n → SettlesTo goes number run r
