use Rattle.std.proofs.Common.{List, ◌∙◌, ap, sym, rules}
use Rattle.std.specs.Prelude.{option_map}
use Rattle.crdt_core.specs.declared.object.Field.{Field}
use Rattle.script_text.specs.Objects.{path}
use Rattle.script_text.specs.Split.{words}
use Rattle.script_text.proofs.Lists.{path_more, onto}
use Rattle.script_text.proofs.act.path.Goals as goal

pub loop-name-preserved : goal.loop-name-preserved
loop-name-preserved c = (
  path_more c.loop-name.fields c.in_ok-field.field-0 c.in-Some.name.now c.in-Some.kind.now (words c.args.line.now) (words c.loop-name.rest.now) (words c.in-Some.after.now) c.loop-name.invariant.0 c.in-Some.ensures.some c.in_ok-field.ensures.ok
      ∙ ap (λ (a : List Field). option_map (onto a) (path (words c.in-Some.after.now))) (sym c.in_ok-push.ensures.ok),
  search rules,
)
