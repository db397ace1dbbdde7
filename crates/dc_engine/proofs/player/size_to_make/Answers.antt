use Rattle.std.proofs.Common.{◌≡◌, true, sym, ap, ◌∙◌}
use Rattle.std.specs.Prelude.{is_some}
use Rattle.cluster.specs.Built.{is_making}
use Rattle.cluster.specs.Reached.{parts_in}
use Rattle.dc_engine.proofs.commands.Applied.{lacks_of, if_some, if_none_makes}
use Rattle.dc_engine.proofs.player.size_to_make.Goals as goal

pub returns-then-is_some-clause-none : goal.returns-then-is_some-clause-none
returns-then-is_some-clause-none g c = λ m. ap is_some (sym c.parts.ensures.is) ∙ (sym c.is_some.ensures ∙ c.if-is_some.true)

pub returns-clause-lacks : goal.returns-clause-lacks
returns-clause-lacks g c =
    let lacks = lacks_of c.args.cluster.now (ap is_some (sym c.parts.ensures.is) ∙ (sym c.is_some.ensures ∙ c.if-is_some.false)) in
    if_some c.size_asked.result _ (λ size. lacks)

pub returns-clause-none : goal.returns-clause-none
returns-clause-none g c = if_none_makes c.size_asked.result (is_making c.args.command.now) (is_some (parts_in c.args.cluster.now) ≡ true) c.size_asked.ensures.none
