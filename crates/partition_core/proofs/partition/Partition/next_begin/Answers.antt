use Rattle.std.proofs.Common.{◌≡◌, ℕ, List, sym, subst}
use Rattle.site_vector.specs.declared.ids.TxId.{TxId}
use Rattle.crdt_core.specs.KindsOf.{kinds_of}
use Rattle.world_model.specs.declared.command.Mode.{Mode}
use Rattle.world_model.specs.lines.Lines.{wish_of}
use Rattle.world_model.specs.rules.Event.{AskBegin, Began}
use Rattle.partition_core.specs.Answers.{Answered}
use Rattle.partition_core.specs.Begun.{begun}
use Rattle.partition_core.specs.Steps.{Anything}
use Rattle.partition_core.proofs.partition.Partition.next_begin.Goals as goal

pub returns-in-Fresh-clause-answers : goal.returns-in-Fresh-clause-answers
returns-in-Fresh-clause-answers g c = λ who.
    subst (λ (m : Mode). Answered (kinds_of g.C.Crdt.laws) c.args.self.now Anything (AskBegin who (wish_of c.args.dependency.now m)) (λ (x : TxId × List ℕ) e. e ≡ Began who (wish_of c.args.dependency.now m) x.0 x.1) c.next_fresh.result (begun c.args.self.now c.next_fresh.result)) (sym c.in-Fresh.is) (c.next_fresh.ensures.answers who)

pub returns-in-Stable-clause-answers : goal.returns-in-Stable-clause-answers
returns-in-Stable-clause-answers g c = λ who.
    subst (λ (m : Mode). Answered (kinds_of g.C.Crdt.laws) c.args.self.now Anything (AskBegin who (wish_of c.args.dependency.now m)) (λ (x : TxId × List ℕ) e. e ≡ Began who (wish_of c.args.dependency.now m) x.0 x.1) c.next_stable.result (begun c.args.self.now c.next_stable.result)) (sym c.in-Stable.is) (c.next_stable.ensures.answers who)
