use Rattle.std.proofs.Common.{sym, subst}
use Rattle.crdt_core.specs.EffectForm.{HoldsSpelled}
use Rattle.kind_table.proofs.Held.{held_spelled}
use Rattle.kind_table.proofs.histories.apply_one.Goals as goal

pub returns : goal.returns
returns g c =
    subst (HoldsSpelled g.C.Crdt.holds) (sym c.in_ok-apply.ensures) (held_spelled (g.C.Crdt.laws.steps c.args.kind c.requires.has) _ _ _ c.dot_of.ensures c.requires.spelled)
