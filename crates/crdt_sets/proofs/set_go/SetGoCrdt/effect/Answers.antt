use Rattle.std.proofs.Common.{sym, subst}
use Rattle.std.proofs.lemmas.Result.{IfOk-weaker}
use Rattle.crdt_core.specs.KindCodes.{same_kind_is}
use Rattle.crdt_core.specs.EffectForm.{IsReady}
use Rattle.crdt_core.specs.declared.kind.Kind.TheVariants.{SetGo}
use Rattle.crdt_sets.specs.EffectForm.{is_of_kind, can_put_texts, texts_sets, texts_spelling}
use Rattle.crdt_sets.proofs.Ready.{go_ready}
use Rattle.crdt_sets.proofs.set_go.SetGoCrdt.effect.Goals as goal

pub returns-clause-ready : goal.returns-clause-ready
returns-clause-ready c = λ has h.
    IfOk-weaker c.adds_of.result _ (IsReady is_of_kind can_put_texts texts_sets texts_spelling c.args.kind c.args.path.now c.args.act.now)
    (λ e is. subst (IsReady is_of_kind can_put_texts texts_sets texts_spelling c.args.kind c.args.path.now c.args.act.now) (sym is) (go_ready c.args.kind (same_kind_is c.args.kind SetGo has) c.args.state.now c.args.path.now c.args.act.now c.args.now c.requires.fitting))
    c.adds_of.ensures
