use Rattle.std.proofs.Common.{sym, subst}
use Rattle.std.proofs.lemmas.Result.{IfOk-weaker}
use Rattle.crdt_core.specs.KindCodes.{same_kind_is}
use Rattle.crdt_core.specs.EffectForm.{IsReady}
use Rattle.crdt_flags.specs.EffectForm.{is_of_kind, can_put_flag, flag_sets, flag_spelling}
use Rattle.crdt_flags.proofs.Ready.{flag_ready}
use Rattle.crdt_flags.proofs.flag_of.FlagOfCrdt.effect.Goals as goal

pub returns-clause-ready : goal.returns-clause-ready
returns-clause-ready g c = λ has h.
    IfOk-weaker c.effect_of.result _ (IsReady is_of_kind can_put_flag flag_sets flag_spelling c.args.kind c.args.path.now c.args.act.now)
    (λ e is. subst (IsReady is_of_kind can_put_flag flag_sets flag_spelling c.args.kind c.args.path.now c.args.act.now) (sym is) (flag_ready _ c.args.kind (same_kind_is c.args.kind _ has) c.args.state.now c.args.path.now c.args.act.now h))
    c.effect_of.ensures
