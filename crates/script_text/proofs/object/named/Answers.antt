use Rattle.std.proofs.Common.{ap, ◌∙◌}
use Rattle.script_text.specs.Front.{word_end}
use Rattle.script_text.specs.Split.{outside}
use Rattle.script_text.proofs.Fronts.{at_front}
use Rattle.script_text.proofs.object.named.Goals as goal

pub returns-clause-some : goal.returns-clause-some
returns-clause-some c = at_front c.args.line.now c.trimmed.result.now c.in_ok-rest.rest.now _ _ _ c.trimmed.ensures.same c.in_ok-rest.ensures.some (c.end_of_word.ensures.at ∙ ap (word_end outside) c.as_bytes.ensures.value) c.split_at.ensures.front c.split_at.ensures.back
