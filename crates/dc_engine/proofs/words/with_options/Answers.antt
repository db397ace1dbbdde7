use Rattle.dc_engine.specs.Words.{settled, plain, asking_in}
use Rattle.dc_engine.proofs.commands.Asked.{words_on, words_end}
use Rattle.dc_engine.proofs.words.with_options.Goals as goal

pub returns-in-None : goal.returns-in-None
returns-in-None c = words_end (λ word. word.now) c.args.words.now c.loop-word.word-index _ c.loop-word-test.true (settled plain) (asking_in c.loop-word.asking) c.loop-word.invariant c.in-None.ensures

pub loop-word-preserved : goal.loop-word-preserved
loop-word-preserved c = words_on (λ word. word.now) c.args.words.now c.loop-word.word-index _ c.loop-word-test.true (settled plain) (asking_in c.loop-word.asking) (asking_in c.in-Some.next) c.loop-word.invariant c.in-Some.ensures
