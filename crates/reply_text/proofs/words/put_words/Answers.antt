use Rattle.std.proofs.Common.{arith, codes}
use Rattle.reply_text.specs.Words.{text_of_word}
use Rattle.reply_text.proofs.Joined.{loop_more}
use Rattle.reply_text.proofs.words.put_words.Goals as goal

pub loop-i-preserved : goal.loop-i-preserved
loop-i-preserved c =
    loop_more text_of_word (codes " ") c.args.words.now c.loop-i.i c.index-words-i.result _ c.args.out.now.items _ _ (omega arith) c.index-words-i.is c.loop-i.invariant c.in_ok-put_next.ensures.ok
