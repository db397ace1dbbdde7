use Rattle.std.proofs.Common.{◌≡◌, Some, map, take}
use Rattle.dc_engine.specs.Words.{asking_in, plain, settled, with_words}
use Rattle.dc_engine.proofs.words.with_options.Given as goal

abbrev pub invariant-loop-word : goal.invariant-loop-word
invariant-loop-word l = with_words (settled plain) (map (λ word. word.now) (take l.word-index l.words)) ≡ Some (asking_in l.asking)
