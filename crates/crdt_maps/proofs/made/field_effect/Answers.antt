use Rattle.std.proofs.Common.{ap, ◌∙◌, sym}
use Rattle.std.specs.Option.{option_copied}
use Rattle.crdt_maps.specs.Ready.{found_spelled, ready_at}
use Rattle.crdt_maps.proofs.made.field_effect.Goals as goal

pub returns-in-Some-clause-ready : goal.returns-in-Some-clause-ready
returns-in-Some-clause-ready g c = let I = g.I.Crdt in λ h.
    ready_at I.is_of I.can_put I.sets I.spelling c.args.field.now.kind c.args.path.now c.args.act.now c.effect.result
    (c.effect.ensures.ready c.requires.known (found_spelled I.holds c.args.fields.now c.args.field.now c.in-Some.state.now (sym c.get.ensures ∙ ap option_copied c.in-Some.is) h))
