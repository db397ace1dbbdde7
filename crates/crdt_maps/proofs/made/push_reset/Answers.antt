use Rattle.std.proofs.Common.{◌∙◌, sym}
use Rattle.std.proofs.lemmas.Bool.{and_parts}
use Rattle.crdt_maps.specs.Ready.{reset_pushed}
use Rattle.crdt_maps.proofs.made.push_reset.Goals as goal

pub returns-clause-ready : goal.returns-clause-ready
returns-clause-ready g c =
    let I = g.I.Crdt in
    let undone = sym c.is_undone.ensures ∙ c.if-not-is_undone.false in
    λ h all. reset_pushed I.is_of I.can_put I.sets I.spelling c.args.field.now c.in_ok-name.name c.in_ok-effect.effect c.in_ok-name.ensures
    (c.in_ok-effect.ensures.ready (and_parts (I.has c.args.field.now.kind) _ undone).0 h) c.args.resets.now c.push.new.self c.in_ok-push.ensures.ok all
