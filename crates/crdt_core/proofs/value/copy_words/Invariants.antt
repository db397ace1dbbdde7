use Rattle.std.proofs.Common.{◌≡◌, ◌++◌, drop}
use Rattle.crdt_core.proofs.value.copy_words.Given as goal

abbrev pub invariant-loop-word : goal.invariant-loop-word
invariant-loop-word l = l.all ++ drop l.word-index l.words ≡ l.words
