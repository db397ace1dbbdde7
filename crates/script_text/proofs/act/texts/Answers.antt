use Rattle.std.proofs.Common.{◌++◌, ◌∙◌, ap, sym, rules}
use Rattle.std.specs.Prelude.{option_map}
use Rattle.script_text.specs.Acts.{texts}
use Rattle.script_text.specs.Split.{words}
use Rattle.script_text.proofs.Lists.{texts_more}
use Rattle.script_text.proofs.act.texts.Goals as goal

pub loop-word-preserved : goal.loop-word-preserved
loop-word-preserved c = (
  texts_more c.loop-word.all c.in_ok-text.field-0 c.in-Some.word.now (words c.args.line.now) (words c.loop-word.rest.now) (words c.in-Some.after.now) c.loop-word.invariant.0 c.in-Some.ensures.some c.in_ok-text.ensures.ok
      ∙ ap (λ a. option_map (λ ts. a ++ ts) (texts (words c.in-Some.after.now))) (sym c.in_ok-push.ensures.ok),
  search rules,
)
