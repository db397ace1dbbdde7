use Rattle.std.proofs.Common.{arith}
use Rattle.script_text.proofs.Digits.{too_great}
use Rattle.script_text.proofs.number.digits.Goals as goal

pub returns-then-next-top-clause-value : goal.returns-then-next-top-clause-value
returns-then-next-top-clause-value c = too_great c.args.top c.loop-byte.n c.loop-byte.byte-index 0 c.args.word.now (omega arith) c.loop-byte.invariant.0 (omega arith)

pub returns-then-n-gt-MOST_BEFORE-clause-value : goal.returns-then-n-gt-MOST_BEFORE-clause-value
returns-then-n-gt-MOST_BEFORE-clause-value c = too_great c.args.top c.loop-byte.n c.loop-byte.byte-index 0 c.args.word.now (omega arith) c.loop-byte.invariant.0 (omega (arith, c.requires, c.if-n-gt-MOST_BEFORE.true))
