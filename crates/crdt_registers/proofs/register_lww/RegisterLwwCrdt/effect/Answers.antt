use Rattle.std.proofs.Common.{sym, subst}
use Rattle.std.proofs.lemmas.Result.{IfOk-weaker}
use Rattle.crdt_core.specs.EffectForm.{IsReady}
use Rattle.crdt_registers.specs.EffectForm.{is_of_kind}
use Rattle.crdt_registers.specs.LwwForm.{can_put_lww, lww_sets, lww_spelling}
use Rattle.crdt_registers.proofs.Ready.{lww_ready}
use Rattle.crdt_registers.proofs.register_lww.RegisterLwwCrdt.effect.Goals as goal

pub returns-clause-ready : goal.returns-clause-ready
returns-clause-ready c = λ has h.
    IfOk-weaker c.effect_of.result _ (IsReady is_of_kind can_put_lww lww_sets lww_spelling c.args.kind c.args.path.now c.args.act.now)
    (λ e is. subst (IsReady is_of_kind can_put_lww lww_sets lww_spelling c.args.kind c.args.path.now c.args.act.now) (sym is) (lww_ready c.args.kind has c.args.state.now c.args.path.now c.args.act.now c.args.now c.requires.fitting))
    c.effect_of.ensures
