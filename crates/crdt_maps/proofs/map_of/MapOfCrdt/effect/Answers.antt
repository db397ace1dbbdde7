use Rattle.std.proofs.Common.{not}
use Rattle.std.specs.Prelude.{eqb}
use Rattle.crdt_maps.specs.Ready.{map_ready}
use Rattle.crdt_maps.proofs.map_of.MapOfCrdt.effect.Goals as goal

pub returns-clause-ready : goal.returns-clause-ready
returns-clause-ready g c =
    let I = g.I.Crdt in
    λ has h. map_ready I.has I.initial I.generated I.is_blank I.too_deep I.is_of I.can_put I.sets I.spelling (not (eqb g.row.DROPS 0)) c.args.kind has c.args.state.now c.args.path.now c.args.act.now c.args.now c.requires.fitting c.requires.shallow c.effect_of.result c.effect_of.ensures.made (c.effect_of.ensures.ready h)
