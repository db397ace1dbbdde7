-- What a run owes, by the status that it ends with.
use Rattle.std.specs.Prelude.{◌≡◌, ℕ, Bool, true, false, List, Option}
use Rattle.dc_engine.specs.Causes.{Rose}
use Rattle.disk_core.specs.States.{DiskState}
use Rattle.disk_makers.specs.Makers.{Maker}
use Rattle.dc_engine.specs.Answered.{AnsweredFused, AnsweredWhole, AnsweredBefore}
use Rattle.dc_engine.specs.Played.{Played, PlayedEnded, PlayedTooLong, PlayedFront, PlayedBefore}
use Rattle.dc_engine.specs.Reading.{has_bad}
use Rattle.world_model.specs.declared.step.Step.{Step}
use Rattle.dc_engine.specs.declared.framing.Framing.{Framing}
use Rattle.dc_engine.specs.declared.status.Status.{Status}
use Rattle.dc_engine.specs.declared.status.Status.TheVariants as status

-- the most bytes of a script, and of a block of it that is read at once
abbrev pub most_bytes : ℕ
most_bytes = 67108864

abbrev pub block_bytes : ℕ
block_bytes = 65536

-- what a source has left or a sink holds, where it tells, and the count of its faults, before and after
pub record Change : Type 0 where
  pub before : Option (List ℕ)
  pub after : Option (List ℕ)
  pub faults : ℕ
  pub faults_after : ℕ

abbrev pub change : {T : Type 0} → (T → Option (List ℕ)) → (T → ℕ) → T → T → Change
change bytes faults old new = record { before = bytes old; after = bytes new; faults = faults old; faults_after = faults new }

abbrev pub HasFailed : Change → Type 0
HasFailed c = Rose c.faults c.faults_after

-- these replies, and whether one of the lines isn't in the grammar
abbrev pub And : Framing → (List (List ℕ) → List ℕ → Type 0) → Bool → List (List ℕ) → List ℕ → Type 0
And f replies bad lines bytes = replies lines bytes × (has_bad f lines ≡ bad)

module _ (f : Framing) (whole replies earlier : List (List ℕ) → List ℕ → Type 0) (no_disk : Type 0) where
  -- all replies where the script was read to its end, those to the lines whose end was read where the source fails or the script is
  -- too long, those to all lines before a cluster whose disk couldn't be made, where none stood yet, and else a front of the next
  -- ones; a source, a sink or a maker is called faulty only where it failed
  abbrev pub Outcome : Status → Change → Change → Type 0
  Outcome status.Done source sink = Played f most_bytes (And f whole false) source.before source.after sink.before sink.after
  Outcome status.BadLine source sink = Played f most_bytes (And f whole true) source.before source.after sink.before sink.after
  Outcome status.Usage source sink = ⊥
  Outcome status.ReadFault source sink = PlayedEnded f most_bytes replies source.before source.after sink.before sink.after × HasFailed source
  Outcome status.WriteFault source sink = PlayedFront f block_bytes most_bytes replies source.before source.after sink.before sink.after × HasFailed sink
  Outcome status.NoMemory source sink = PlayedFront f block_bytes most_bytes replies source.before source.after sink.before sink.after
  Outcome status.TooLong source sink = PlayedTooLong f most_bytes replies source.before source.after sink.before sink.after
  Outcome status.NoDisk source sink = PlayedBefore f block_bytes most_bytes earlier source.before source.after sink.before sink.after × no_disk

-- with replies that are written so, over a maker of disks that are sound where this holds, before and after
abbrev pub PlayOutcome : {D : Type 0} → Type 0 → Framing → (ℕ → Step → List ℕ) → (D → DiskState) → Maker D → Maker D → Status → Change → Change → Type 0
PlayOutcome sound f spelled state old new = Outcome f (AnsweredWhole sound f spelled state old new) (AnsweredFused sound f spelled) (AnsweredBefore sound f spelled) (Rose old.faults new.faults)
