-- What a lawful run is, over its lines.
use Rattle.std.specs.Prelude.{◌≡◌, ℕ, Bool, true, List}
use Rattle.site_vector.specs.declared.ids.PartId.{PartId}
use Rattle.site_vector.specs.declared.ids.TxId.{TxId}
use Rattle.crdt_core.specs.declared.kind.Kind.{Kind}
use Rattle.crdt_core.specs.declared.object.Field.{Field}
use Rattle.crdt_core.specs.declared.value.Value.{Value}
use Rattle.crdt_core.specs.Seen.{Update}
use Rattle.world_model.specs.lines.Places.{IsPlace}
use Rattle.world_model.specs.lines.Lines.{Line, EachLine}
use Rattle.world_model.specs.lines.Clock.{FollowsClock}
use Rattle.world_model.specs.lines.Dependency.{HandsKnown, HoldsHanded, HandsOwn, KeepsPast}
use Rattle.world_model.specs.lines.History.{in_history, visible, snapshot, is_begun, IsClosed, IsStrictOrder}
use Rattle.world_model.specs.lines.Updates.{takes_part, lead, IsPlaced}
use Rattle.world_model.specs.lines.Commit.{was_prepared, IsAskedAt, ShowsCommit}
use Rattle.world_model.specs.lines.Reads.{IsRightRead}
use Rattle.world_model.specs.lines.Answers.{IsAnswer}
use Rattle.world_model.specs.lines.Ops.{HasOp}
use Rattle.world_model.specs.lines.Fate.{ShowsFate}
use Rattle.world_model.specs.lines.Fresh.{IsFresh}
use Rattle.world_model.specs.lines.Leases.{ShowsKept}
use Rattle.world_model.specs.lines.Streams.{IsStream}
use Rattle.world_model.specs.lines.Causes.{HasCause, AnswersAsUp}
use Rattle.world_model.specs.lines.Waits.{WaitsFresh}

-- what is decided, also where only a restart named it, was voted for by all its participants
pub record IsAgreed (parts : ℕ) (ls : List Line) (t : TxId) : Type 0 where
  pub at_lead : takes_part ls t (lead parts ls t) ≡ true
  pub votes : (q : PartId) → takes_part ls t q ≡ true → was_prepared ls t q ≡ true

-- the lines show one causally consistent history, where kinds have these meanings, and objects reach so deep
pub record IsLawful (too_deep : Kind → List Field → Bool) (meaning : Kind → List Update → Value) (sites parts : ℕ) (ls : List Line) : Type 0 where
  -- each line is of a partition of the cluster
  pub places : EachLine (λ before p call step. IsPlace sites parts p) ls
  pub answers : EachLine IsAnswer ls
  pub clock : FollowsClock ls
  -- a restart begins where the clock was leased to
  pub leases : EachLine ShowsKept ls
  pub placed : EachLine (IsPlaced parts) ls
  -- begins are handed what is known, and snapshots hold it: so each holds its session's past, where it was handed that
  pub handed : EachLine (λ before p call step. HandsKnown sites before call) ls
  pub held : EachLine HoldsHanded ls
  pub past : HandsOwn sites ls → KeepsPast sites ls
  pub fresh : EachLine (IsFresh sites parts) ls
  -- each value is the meaning of exactly what its transaction may see in the whole run
  pub right : EachLine (IsRightRead meaning ls) ls
  pub commit : EachLine (ShowsCommit parts ls) ls
  pub asked : EachLine (λ before p call step. IsAskedAt ls p call) ls
  pub agreed : (t : TxId) → in_history ls t ≡ true → IsAgreed parts ls t
  pub fates : EachLine (ShowsFate sites parts ls) ls
  pub streams : EachLine (IsStream sites ls) ls
  pub causes : EachLine (HasCause sites parts ls) ls
  pub ops : EachLine (HasOp too_deep) ls
  pub ups : EachLine AnswersAsUp ls
  -- who began with a stable snapshot waits at no partition
  pub waits : EachLine WaitsFresh ls
  pub order : IsStrictOrder ls
  -- what a transaction reads from is closed
  pub closed : (t : TxId) → is_begun ls t ≡ true → IsClosed ls (visible ls (snapshot ls t))
