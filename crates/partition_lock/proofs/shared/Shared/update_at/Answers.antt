use Rattle.std.proofs.Common.{◌≡◌, None, Some, sym, ◌∙◌, subst}
use Rattle.crdt_core.specs.KindsOf.{kinds_of}
use Rattle.world_model.specs.rules.Event.{AskUpdate}
use Rattle.txn_session.specs.Calls.{IsAllowed}
use Rattle.partition_lock.proofs.Sharing.{if_ok, if_err, may_at, goes_at, changes_at, hands_at, same_place, stays_for}
use Rattle.partition_lock.proofs.shared.Shared.update_at.Goals as goal

pub update-answer-requires-clause-may : goal.update-answer-requires-clause-may
update-answer-requires-clause-may g c =
    let kinds = kinds_of g.C.Crdt.laws in
    let sites = g.J.Naming.sites in
    let parts = g.J.Naming.parts in
    let q = c.deref_mut.result.now in
    let here : q ≡ c.args.at = c.deref_mut.ensures.value ∙ (sym c.deref.ensures ∙ (sym c.place.ensures ∙ same_place c.place.result c.args.at c.if-ne.ensures)) in
    (may_at kinds sites parts c.args.self.now c.args.self.now c.args.pass q c.args.at here (Some c.args.by) (AskUpdate c.args.tx c.args.s.now c.args.object.now c.args.own.now c.args.op.now) c.requires.may.0, c.requires.may.1)

pub returns-clause-ok : goal.returns-clause-ok
returns-clause-ok g c =
    let kinds = kinds_of g.C.Crdt.laws in
    let sites = g.J.Naming.sites in
    let parts = g.J.Naming.parts in
    let q = c.deref_mut.result.now in
    let here : q ≡ c.args.at = c.deref_mut.ensures.value ∙ (sym c.deref.ensures ∙ (sym c.place.ensures ∙ same_place c.place.result c.args.at c.if-ne.ensures)) in
    if_ok c.update-answer.result.1 (λ r h run s a w i. changes_at kinds sites parts _ c.args.self.now c.update-answer.result.0 q c.args.at here run c.args.by (AskUpdate c.args.tx c.args.s.now c.args.object.now c.args.own.now c.args.op.now) r.0 r.1 (h run s (subst (λ z. IsAllowed sites parts run (Some c.args.by) z (AskUpdate c.args.tx c.args.s.now c.args.object.now c.args.own.now c.args.op.now)) (sym here) a) w i)) c.update-answer.ensures.ok

pub returns-clause-err : goal.returns-clause-err
returns-clause-err g c =
    if_err c.update-answer.result.1 (λ e h run s. stays_for (kinds_of g.C.Crdt.laws) g.J.Naming.sites g.J.Naming.parts _ c.args.self.now c.update-answer.result.0 run (h run s)) c.update-answer.ensures.err
