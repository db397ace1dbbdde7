-- What the calls of a session make of it, by their answers, and when they are refused.
use Rattle.std.specs.Prelude.{◌≡◌, ℕ, ◌+◌, nat_lt, Bool, List, [], ◌∷◌, ◌++◌, length, Option, None, Some, if◌then◌else◌, ⊤}
use Rattle.site_vector.specs.Vector.{join}
use Rattle.crdt_core.specs.declared.kind.Kind.{Kind}
use Rattle.crdt_core.specs.declared.object.Field.{Field}
use Rattle.crdt_core.specs.declared.object.ObjectId.{ObjectId}
use Rattle.crdt_core.specs.declared.operation.Op.{Op}
use Rattle.crdt_core.specs.declared.record.Upd.{Upd}
use Rattle.crdt_core.specs.Fits.{fits}
use Rattle.world_model.specs.declared.commit.What.{What}
use Rattle.world_model.specs.declared.commit.What.TheVariants as what
use Rattle.world_model.specs.declared.commit.Next.{Next}
use Rattle.world_model.specs.declared.commit.Next.TheVariants as next
use Rattle.world_model.specs.declared.step.Step.{Step}
use Rattle.world_model.specs.declared.step.Step.TheVariants as step
use Rattle.world_model.specs.commands.CommitSteps.{after}
use Rattle.txn_session.specs.declared.error.SessionError.{SessionError}
use Rattle.txn_session.specs.declared.error.SessionError.TheVariants.{NoTxn, TooMany, BadOp, TooDeep}
use Rattle.txn_session.specs.Session.{Txn, Doing, Idle, Open, Ending, SessionState, ending, giving_up, answered, doing_so, depends}
use Rattle.txn_session.specs.Holds.{next_of}

-- a commit vector that the session is told joins what it depends on
abbrev pub told_of : List ℕ → List ℕ → Step → List ℕ
told_of dep c (step.Decided q t d) = join dep c
told_of dep c other = dep

abbrev pub dependency_told : List ℕ → What → Step → List ℕ
dependency_told dep (what.Decide p c) answer = told_of dep c answer
dependency_told dep other answer = dep

-- what is printed where nothing is left
abbrev pub EndsAs : List ℕ → What → Step → Type 0
EndsAs name what.Done answer = answer ≡ step.Ended name
EndsAs name other answer = ⊤

module _ {E : Type 0} where
  -- it is open and depends on its snapshot if the transaction began; else it is as before
  abbrev pub IsOpened : SessionState E → Step → SessionState E → Type 0
  IsOpened old (step.Began name t s) new = (by : ℕ) × (new ≡ doing_so (depends old (join old.dependency s)) (Open (record { tx = t; s = s; by = by; updates = [] })))
  IsOpened old other new = new ≡ old

  -- with one update more
  abbrev pub with_update : Txn E → ObjectId → E → Txn E
  with_update txn o effect = record { tx = txn.tx; s = txn.s; by = txn.by; updates = txn.updates ++ (record { object = o; index = length txn.updates + 1; effect = effect }) ∷ [] }

  abbrev pub updated : Doing E → ObjectId → E → Doing E
  updated (Open txn) o effect = Open (with_update txn o effect)
  updated other o effect = other

  -- it has the next update of the object if the answer is that it was made; else it is as before
  abbrev pub IsUpdated : SessionState E → ObjectId → Step → SessionState E → Type 0
  IsUpdated old o (step.Updated name object stamp) new = (effect : E) × (new ≡ doing_so old (updated old.doing o effect))
  IsUpdated old o other new = new ≡ old

  -- an operation that leads too deep or isn't one of the kind, or the 257th update
  abbrev pub refusal_of_update : (Kind → List Field → Bool) → ObjectId → Op → List (Upd E) → Option SessionError
  refusal_of_update too_deep o op updates = if too_deep o.kind op.path then Some TooDeep else (if fits o.kind op.path op.act then (if nat_lt (length updates) 256 then None else Some TooMany) else Some BadOp)

  -- why an update is refused, if it is
  abbrev pub update_refusal : (Kind → List Field → Bool) → Doing E → ObjectId → Op → Option SessionError
  update_refusal too_deep (Open txn) o op = refusal_of_update too_deep o op txn.updates
  update_refusal too_deep other o op = Some NoTxn

  -- its commit has begun
  abbrev pub begun_end : SessionState E → SessionState E
  begun_end s = doing_so s (ending s.site s.parts s.doing)

  -- its commit, if any, is given up
  abbrev pub given_up_end : SessionState E → SessionState E
  given_up_end s = doing_so s (giving_up s.doing)

  -- after the answer to the next step of its end; with nothing left it is idle
  abbrev pub stepped_by : SessionState E → Step → What → SessionState E
  stepped_by s answer what.Done = doing_so s Idle
  stepped_by s answer next = depends (doing_so s (answered s.doing answer)) (dependency_told s.dependency next answer)

  abbrev pub stepped : SessionState E → Step → SessionState E
  stepped s answer = stepped_by s answer (next_of s.doing)

  -- whether the command goes on
  abbrev pub next_said : Doing E → Step → Next
  next_said (Ending txn lead commit) answer = (after commit.going answer).1
  next_said other answer = next.Go
