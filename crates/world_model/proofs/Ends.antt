-- The own bound in other words, and where messages end.
use Rattle.std.proofs.Common.{◌≡◌, ⊎_elim, ℕ, ◌+◌, Bool, true, List, [], ◌∷◌, arith}
use Rattle.site_vector.specs.declared.ids.PartId.{PartId}
use Rattle.site_vector.specs.declared.ids.TxId.{TxId}
use Rattle.world_model.specs.declared.step.Step.{Step}
use Rattle.world_model.specs.declared.step.Step.TheVariants as step
use Rattle.world_model.specs.lines.Listed.{IsBoundBy}
use Rattle.world_model.specs.lines.Lines.{Call, SendTo, Line, EachLine}
use Rattle.world_model.specs.lines.Clock.{now}
use Rattle.world_model.specs.lines.Pending.{pending, prepare_time}
use Rattle.world_model.specs.lines.Answers.{IsAnswer}
use Rattle.world_model.specs.lines.Streams.{IsStream}
use Rattle.world_model.specs.lines.Ends.{IsUpTo, EndsThere}

pub up_to : (now : ℕ) (pending : TxId → Bool) (prepared : TxId → ℕ) (b : ℕ) → IsBoundBy now pending prepared b → IsUpTo now pending prepared b
up_to now pending prepared b h n = (
  (λ k. (
    (let m = h.most in omega arith),
    (λ u p. let l = h.below u p in omega arith),
  )),
  (λ k. ⊎_elim
      (λ (e : b ≡ now). let m = k.0 in omega arith)
      (λ (x : (u : TxId) × (pending u ≡ true) × (prepared u ≡ b + 1)). let e = x.2 in let l = k.1 x.0 x.1 in omega arith)
      h.reached),
)

ends_line : (sites : ℕ) (whole before : List Line) (p : PartId) (call : Call) (s : Step) → IsAnswer before p call s → IsStream sites whole before p call s → EndsThere before p call s
ends_line sites whole before p (SendTo site asked) (step.Sent number q to lo hi count) a x = up_to (now before p) (pending before p) (prepare_time before p) hi x.high
ends_line sites whole before p call (step.Sent number q to lo hi count) a x = absurd a
ends_line sites whole before p call s a x = tt

pub ends : (sites : ℕ) (whole ls : List Line) → EachLine IsAnswer ls → EachLine (IsStream sites whole) ls → EachLine EndsThere ls
ends sites whole [] a x = tt
ends sites whole (l ∷ ls) a x = (ends_line sites whole ls l.at l.call l.step a.0 x.0, ends sites whole ls a.1 x.1)
