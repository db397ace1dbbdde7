-- What became of the transactions that a log names, and how a record is judged by it.
use Rattle.std.specs.Prelude.{◌≡◌, ℕ, ◌≤◌, leb, ltb, Bool, true, false, not, ◌&&◌, ◌==◌, if◌then◌else◌, is_none, List, ◌∷◌, length, Option, None, Some}
use Rattle.std.specs.HashMap.{get}
use Rattle.std.specs.HashSet.{contains}
use Rattle.std.specs.List.{list_all}
use Rattle.std.specs.Str.{bytes_eq}
use Rattle.site_vector.specs.declared.ids.PartId.{PartId}
use Rattle.site_vector.specs.declared.ids.TxId.{TxId}
use Rattle.site_vector.specs.Ids.{same_tx}
use Rattle.site_vector.specs.Vector.{entry, replaced}
use Rattle.crdt_core.specs.declared.record.Upd.{Upd}
use Rattle.crdt_core.specs.declared.record.Part.{Part}
use Rattle.crdt_core.specs.declared.record.Message.{Message}
use Rattle.crdt_core.specs.declared.record.Record.{Record}
use Rattle.crdt_core.specs.Fitting.{is_vector, are_placed_at, fits_part, are_apart, fits_record}
use Rattle.crdt_core.specs.Log.{end_of_time, pending, prepare_time, prepared_lead, prepared_snapshot, is_named_in}
use Rattle.log_recovery.specs.declared.named.Fate.{Fate}
use Rattle.log_recovery.specs.declared.named.Fate.TheVariants.{Waits, Ended}
use Rattle.log_recovery.specs.declared.named.Vote.{Vote}
use Rattle.log_recovery.specs.declared.named.Named.{Named}
use Rattle.log_recovery.specs.declared.seen.Seen.{Seen}
use Rattle.log_recovery.specs.Ledgers.{AreBounds}

abbrev pub fate_of : Bool → Bool → Vote → Option Fate
fate_of true named vote = Some (Waits vote)
fate_of false true vote = Some Ended
fate_of false false vote = None

-- the vote of what is waiting
abbrev pub vote_of : Option Fate → Option Vote
vote_of None = None
vote_of (Some Ended) = None
vote_of (Some (Waits vote)) = Some vote

-- who has a vote waits, and of the others those have ended whose name was kept
abbrev pub fate_with : Option Vote → Bool → Option Fate
fate_with (Some vote) named = Some (Waits vote)
fate_with None true = Some Ended
fate_with None false = None

-- the fates by transaction
abbrev pub fate_at : Named → TxId → Option Fate
fate_at named u = fate_with (get same_tx named.votes u) (contains same_tx named.ended u)

abbrev pub fates_of : Seen → TxId → Option Fate
fates_of seen u = fate_at seen.named u

-- the snapshots of what is waiting have an entry for each site
abbrev pub AreWideVotes : ℕ → (TxId → Option Fate) → Type 0
AreWideVotes sites fates = (u : TxId) (vote : Vote) → fates u ≡ Some (Waits vote) → length vote.s ≡ sites

-- a place in a cluster, and vectors with an entry for each site
pub record IsSound (seen : Seen) : Type 0 where
  pub least : 1 ≤ seen.sites
  pub most : seen.sites ≤ 8
  pub first : 1 ≤ seen.id.site
  pub last : seen.id.site ≤ seen.sites
  pub some : 1 ≤ seen.parts
  pub bounds : length seen.bounds ≡ seen.sites
  pub votes : AreWideVotes seen.sites (fates_of seen)

-- of the same partition, under the same ceiling
pub record IsSamePlace (old new : Seen) : Type 0 where
  pub id : new.id ≡ old.id
  pub sites : new.sites ≡ old.sites
  pub parts : new.parts ≡ old.parts
  pub top : new.top ≡ old.top

-- a commit vector of a vote: its snapshot, with an own entry that is at least its time
abbrev pub may_commit : ℕ → PartId → Vote → List ℕ → Bool
may_commit sites id vote c = is_vector sites c && (bytes_eq c (replaced vote.s id.site (entry c id.site)) && leb vote.time (entry c id.site))

-- a commit of what is waiting, at its lead or else at another participant
abbrev pub may_end : ℕ → PartId → Bool → Option Vote → List ℕ → Bool
may_end sites id leads None c = false
may_end sites id leads (Some vote) c = (if leads then vote.lead == id.part else not (vote.lead == id.part)) && may_commit sites id vote c

-- nothing was seen
pub record IsEmpty (seen : Seen) : Type 0 where
  pub fates : (u : TxId) → fates_of seen u ≡ None
  pub bounds : (j : ℕ) → entry seen.bounds j ≡ 0

module _ {E : Type 0} where
  abbrev pub vote_in : List (Record E) → TxId → Vote
  vote_in log u = record { lead = prepared_lead log u; time = prepare_time log u; s = prepared_snapshot log u }

  abbrev pub fate_in : List (Record E) → TxId → Option Fate
  fate_in log u = fate_of (pending log u) (is_named_in log u) (vote_in log u)

  -- what was seen is what the log tells
  pub record IsSeen (log : List (Record E)) (seen : Seen) : Type 0 where
    pub fates : (u : TxId) → fates_of seen u ≡ fate_in log u
    pub bounds : AreBounds log seen.bounds

  -- the answer whether a record fits after what was seen
  abbrev pub Judges : Seen → Record E → Bool → Type 0
  Judges seen r fits = (log : List (Record E)) → IsSeen log seen → fits ≡ fits_record seen.sites seen.parts seen.id seen.top log r

  -- a record that fits is seen
  abbrev pub Sees : Seen → Record E → Seen → Type 0
  Sees old r new = (log : List (Record E)) → IsSeen log old → fits_record old.sites old.parts old.id old.top log r ≡ true → IsSeen (r ∷ log) new

  -- the snapshot, the updates and the time of a vote
  abbrev pub is_vote : ℕ → ℕ → PartId → ℕ → Vote → List (Upd E) → Bool
  is_vote sites parts id top vote w = is_vector sites vote.s && (are_placed_at parts id.part w && (ltb (entry vote.s id.site) vote.time && leb vote.time top))

  -- a vote that fits, unless it is of a transaction that was named
  abbrev pub may_prepare : ℕ → ℕ → PartId → Bool → ℕ → TxId → Vote → List (Upd E) → Bool
  may_prepare sites parts id named top t vote w =
      t.site == id.site && (leb 1 t.part && (leb t.part parts && (not named && (leb 1 vote.lead && (leb vote.lead id.part && is_vote sites parts id top vote w)))))

  -- a message for the partition
  abbrev pub is_for : ℕ → PartId → Message E → Bool
  is_for sites id m = not (m.from == id.site) && (leb 1 m.from && (leb m.from sites && (m.to == id.site && (m.part == id.part && (leb m.lo end_of_time && leb m.hi end_of_time)))))

  -- a message that fits, unless it brings a transaction twice or one that was named
  abbrev pub may_bring : ℕ → ℕ → PartId → List ℕ → Message E → Bool
  may_bring sites parts id bounds m = is_for sites id m && (list_all (fits_part sites parts m) m.parts && leb (entry bounds m.from) m.lo)

  -- no part is of a transaction that has a fate, and no two are of one
  abbrev pub are_new : (TxId → Option Fate) → List (Part E) → Bool
  are_new fates xs = list_all (λ x. is_none (fates x.tx)) xs && are_apart xs
