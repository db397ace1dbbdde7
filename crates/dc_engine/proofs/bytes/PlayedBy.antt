-- What was played, told by another relation between lines and bytes.
use Rattle.std.proofs.Common.{◌≡◌, ℕ, false, true, List, [], Option, None, Some, refl, sym, subst, arith}
use Rattle.std.specs.Prelude.{IfNone}
use Rattle.disk_core.specs.States.{DiskState, Rose}
use Rattle.disk_makers.specs.Makers.{Maker}
use Rattle.world_model.specs.declared.step.Step.{Step}
use Rattle.dc_engine.specs.Played.{Played, PlayedEnded, PlayedTooLong, PlayedFront, PlayedBefore}
use Rattle.dc_engine.specs.Makers.{IsUnchanged, ReturnsAll}
use Rattle.dc_engine.specs.Outcome.{Change, Outcome, PlayOutcome, And, most_bytes, block_bytes}
use Rattle.dc_engine.specs.Replies.{Replies, RepliesBefore}
use Rattle.dc_engine.specs.Player.{PlayerState, ReachedBy}
use Rattle.dc_engine.specs.Answered.{AnsweredFused, AnsweredWhole, AnsweredBefore}
use Rattle.dc_engine.specs.Held.{IsLeft, Standing}
use Rattle.dc_engine.specs.Format.{spelled_in}
use Rattle.dc_engine.specs.declared.format.Format.{Format}
use Rattle.dc_engine.specs.declared.framing.Framing.{Framing}
use Rattle.dc_engine.specs.declared.status.Status.{Status}
use Rattle.dc_engine.specs.declared.status.Status.TheVariants as status
use Rattle.dc_engine.specs.Status.{ends_whole}
use Rattle.dc_engine.specs.Told.{IsSoundIn}
use Rattle.cluster.proofs.Mere.{at_first}
use Rattle.dc_engine.proofs.bytes.Progress.{front_none}
use Rattle.dc_engine.proofs.commands.Applied.{reached_none}
use Rattle.dc_engine.proofs.commands.Returned.{reached_answered, reached_whole}

module _ (cut : Framing) (most : ℕ) (P Q : List (List ℕ) → List ℕ → Type 0) (f : (lines : List (List ℕ)) (bytes : List ℕ) → P lines bytes → Q lines bytes) (input left before after : Option (List ℕ)) where
  played_by : Played cut most P input left before after → Played cut most Q input left before after
  played_by p = record { read = p.read; written = p.written; from_source = p.from_source; at_end = p.at_end; fits = p.fits; to_sink = p.to_sink; replied = f _ _ p.replied }

  ended_by : PlayedEnded cut most P input left before after → PlayedEnded cut most Q input left before after
  ended_by p = record { read = p.read; written = p.written; from_source = p.from_source; fits = p.fits; to_sink = p.to_sink; replied = f _ _ p.replied }

  too_long_by : PlayedTooLong cut most P input left before after → PlayedTooLong cut most Q input left before after
  too_long_by p = record { read = p.read; next = p.next; written = p.written; from_source = p.from_source; full = p.full; to_sink = p.to_sink; replied = f _ _ p.replied }

  front_by : (size : ℕ) → PlayedFront cut size most P input left before after → PlayedFront cut size most Q input left before after
  front_by size p = record { read = p.read; more = p.more; reached = p.reached; written = p.written; reply = p.reply; replied_earlier = f _ _ p.replied_earlier; replied = f _ _ p.replied; to_sink = p.to_sink }

  before_by : (size : ℕ) → PlayedBefore cut size most P input left before after → PlayedBefore cut size most Q input left before after
  before_by size p = record { read = p.read; lines = p.lines; line = p.line; are_later = p.are_later; reached = p.reached; making = p.making; written = p.written; replied = f _ _ p.replied; to_sink = p.to_sink }

module _ (cut : Framing) (W V P Q A B : List (List ℕ) → List ℕ → Type 0) (X Y : Type 0) (f : (lines : List (List ℕ)) (bytes : List ℕ) → P lines bytes → Q lines bytes) (b : (lines : List (List ℕ)) (bytes : List ℕ) → A lines bytes → B lines bytes) (x : X → Y) where
  outcome_by : (s : Status) (source sink : Change) → (ends_whole s ≡ true → (lines : List (List ℕ)) (bytes : List ℕ) → W lines bytes → V lines bytes) → Outcome cut W P A X s source sink → Outcome cut V Q B Y s source sink
  outcome_by status.Done source sink g h = played_by cut most_bytes (And cut W false) (And cut V false) (λ lines bytes r. (g refl lines bytes r.0, r.1)) source.before source.after sink.before sink.after h
  outcome_by status.BadLine source sink g h = played_by cut most_bytes (And cut W true) (And cut V true) (λ lines bytes r. (g refl lines bytes r.0, r.1)) source.before source.after sink.before sink.after h
  outcome_by status.Usage source sink g h = h
  outcome_by status.ReadFault source sink g h = (ended_by cut most_bytes P Q f source.before source.after sink.before sink.after h.0, h.1)
  outcome_by status.WriteFault source sink g h = (front_by cut most_bytes P Q f source.before source.after sink.before sink.after block_bytes h.0, h.1)
  outcome_by status.NoMemory source sink g h = front_by cut most_bytes P Q f source.before source.after sink.before sink.after block_bytes h
  outcome_by status.TooLong source sink g h = too_long_by cut most_bytes P Q f source.before source.after sink.before sink.after h
  outcome_by status.NoDisk source sink g h = (before_by cut most_bytes A B b source.before source.after sink.before sink.after block_bytes h.0, x h.1)

-- where no cluster stands, its run has made none
before_answered : {D : Type 0} (state : D → DiskState) (sound : Type 0) (cut : Framing) (spelled : ℕ → Step → List ℕ) (lines : List (List ℕ)) (bytes : List ℕ) → RepliesBefore (ReachedBy state sound cut spelled) (λ q. q.cluster ≡ None) lines bytes → AnsweredBefore sound cut spelled lines bytes
before_answered {D} state sound cut spelled lines bytes r =
    let left : IsLeft state None r.1.0.reached.run = subst (λ (c : Standing D). IsLeft state c r.1.0.reached.run) r.1.1 r.1.0.reached.left in
    record { fully = reached_answered state sound cut spelled r.0.cluster lines bytes r.1.0.reached; lacks = left.lacks }

-- what a player answered is what the program promises, once its disks are given back
pub outcome_lawful : {D : Type 0} (state : D → DiskState) (sound : Type 0) (cut : Framing) (spelled : ℕ → Step → List ℕ) (p : PlayerState D) (start mid end : Maker D) (s : Status) (source sink : Change) → (ends_whole s ≡ true → IsUnchanged start mid) → ReturnsAll p.cluster mid end
    → Outcome cut (ReachedBy state sound cut spelled p) (Replies (ReachedBy state sound cut spelled)) (RepliesBefore (ReachedBy state sound cut spelled) (λ q. q.cluster ≡ None)) (Rose start.faults mid.faults) s source sink → PlayOutcome sound cut spelled state start end s source sink
outcome_lawful state sound cut spelled p start mid end s source sink begun back =
    outcome_by cut (ReachedBy state sound cut spelled p) (AnsweredWhole sound cut spelled state start end) (Replies (ReachedBy state sound cut spelled)) (AnsweredFused sound cut spelled) (RepliesBefore (ReachedBy state sound cut spelled) (λ q. q.cluster ≡ None)) (AnsweredBefore sound cut spelled) (Rose start.faults mid.faults) (Rose start.faults end.faults)
    (λ lines bytes r. reached_answered state sound cut spelled r.0.cluster lines bytes r.1.reached)
    (before_answered state sound cut spelled)
    (λ rose. let same = back.back.faults in omega (arith, same, rose))
    s source sink (λ e lines bytes r. reached_whole state sound cut spelled p.cluster start mid end (begun e) back lines bytes r.reached)

-- what is promised where disks are sound by one ground is so by a stronger one
pub outcome_on : {D : Type 0} (A B : Type 0) (cut : Framing) (spelled : ℕ → Step → List ℕ) (state : D → DiskState) (old new : Maker D) (s : Status) (source sink : Change) → (B → A) → PlayOutcome A cut spelled state old new s source sink → PlayOutcome B cut spelled state old new s source sink
outcome_on A B cut spelled state old new s source sink g h =
    let over : (lines : List (List ℕ)) (bytes : List ℕ) → AnsweredFused A cut spelled lines bytes → AnsweredFused B cut spelled lines bytes = λ lines bytes r. record { answered = r.answered; fused = λ b. r.fused (g b) } in
    outcome_by cut (AnsweredWhole A cut spelled state old new) (AnsweredWhole B cut spelled state old new) (AnsweredFused A cut spelled) (AnsweredFused B cut spelled) (AnsweredBefore A cut spelled) (AnsweredBefore B cut spelled) (Rose old.faults new.faults) (Rose old.faults new.faults)
    over
    (λ lines bytes r. record { fully = over lines bytes r.fully; lacks = r.lacks })
    (λ rose. rose)
    s source sink (λ e lines bytes r. record { fully = over lines bytes r.fully; given_back = r.given_back }) h

-- nothing was played
pub outcome_none : {D : Type 0} (sound : Type 0) (cut : Framing) (spelled : ℕ → Step → List ℕ) (state : D → DiskState) (input before : Option (List ℕ)) → PlayedFront cut block_bytes most_bytes (AnsweredFused sound cut spelled) input input before before
outcome_none {D} sound cut spelled state input before =
    front_by cut most_bytes (Replies (λ (p : PlayerState D). ReachedBy state sound cut spelled p)) (AnsweredFused sound cut spelled) (λ lines bytes r. reached_answered state sound cut spelled r.0.cluster lines bytes r.1.reached) input input before before block_bytes
    (front_none cut most_bytes (λ (p : PlayerState D). ReachedBy state sound cut spelled p) block_bytes (record { cluster = None; met_bad = false; count = 0 }) input before (reached_none state sound cut spelled (record { cluster = None; met_bad = false; count = 0 }) at_first refl refl))

-- where no folder was asked for, the maker is as it was
pub kept_sound : {M : Type 0} (sound : M → Type 0) (folder : Option (List ℕ)) (old new : M) → IfNone folder (new ≡ old) → IsSoundIn sound folder old → sound new
kept_sound sound None old new same b = subst sound (sym same) b.1
kept_sound sound (Some name) old new same b = absurd (cc b.0)

-- so what is promised over the maker as it was kept is promised over the one before
pub outcome_kept : {D M : Type 0} (sound : M → Type 0) (folder : Option (List ℕ)) (old new : M) (cut : Framing) (spelled : ℕ → Step → List ℕ) (state : D → DiskState) (mid start end : Maker D) (s : Status) (source sink : Change) → IfNone folder (new ≡ old) → mid ≡ start
    → PlayOutcome (sound new) cut spelled state mid end s source sink → PlayOutcome (IsSoundIn sound folder old) cut spelled state start end s source sink
outcome_kept sound folder old new cut spelled state mid start end s source sink same e h = subst (λ m. PlayOutcome (IsSoundIn sound folder old) cut spelled state m end s source sink) e
    (outcome_on (sound new) (IsSoundIn sound folder old) cut spelled state mid end s source sink (kept_sound sound folder old new same) h)

-- in the format that is asked for
pub outcome_in : {D : Type 0} (sound : Type 0) (cut : Framing) (asked format : Format) (state : D → DiskState) (old new : Maker D) (s : Status) (source sink : Change) → asked ≡ format → PlayOutcome sound cut (spelled_in cut format) state old new s source sink → PlayOutcome sound cut (spelled_in cut asked) state old new s source sink
outcome_in sound cut asked format state old new s source sink e h = subst (λ f. PlayOutcome sound cut (spelled_in cut f) state old new s source sink) (sym e) h

-- and cut as is asked for
pub outcome_cut : {D : Type 0} (sound : Type 0) (asked cut : Framing) (format : Format) (state : D → DiskState) (old new : Maker D) (s : Status) (source sink : Change) → asked ≡ cut → PlayOutcome sound cut (spelled_in cut format) state old new s source sink → PlayOutcome sound asked (spelled_in asked format) state old new s source sink
outcome_cut sound asked cut format state old new s source sink e h = subst (λ f. PlayOutcome sound f (spelled_in f format) state old new s source sink) (sym e) h
