use Rattle.std.proofs.Common.{ap, ◌∙◌, sym}
use Rattle.std.specs.List.{list_all}
use Rattle.std.specs.Option.{option_copied}
use Rattle.crdt_maps.specs.Ready.{found_spelled, is_reset_ready}
use Rattle.crdt_maps.proofs.made.reset_one.Goals as goal

pub returns-clause-ready : goal.returns-clause-ready
returns-clause-ready g c = let I = g.I.Crdt in λ h.
    c.in_ok-push_reset.ensures.ready (found_spelled I.holds c.args.fields.now c.args.field.now c.in-Some.state.now (sym c.get.ensures ∙ ap option_copied c.in-Some.is) h)
    (ap (list_all (is_reset_ready I.is_of I.can_put I.sets I.spelling)) c.new-resets.ensures)
