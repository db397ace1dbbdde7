use Rattle.std.proofs.Common.{◌≡◌, None, Some, sym, ◌∙◌, subst}
use Rattle.crdt_core.specs.KindsOf.{kinds_of}
use Rattle.world_model.specs.rules.Event.{AskAbort}
use Rattle.txn_session.specs.Calls.{IsAllowed}
use Rattle.partition_lock.proofs.Sharing.{if_ok, if_err, may_at, goes_at, changes_at, hands_at, same_place, stays_for}
use Rattle.partition_lock.proofs.shared.Shared.abort_at.Goals as goal

pub abort-answer-requires-clause-may : goal.abort-answer-requires-clause-may
abort-answer-requires-clause-may g c =
    let kinds = kinds_of g.C.Crdt.laws in
    let sites = g.J.Naming.sites in
    let parts = g.J.Naming.parts in
    let q = c.deref_mut.result.now in
    let here : q ≡ c.args.at = c.deref_mut.ensures.value ∙ (sym c.deref.ensures ∙ (sym c.place.ensures ∙ same_place c.place.result c.args.at c.if-ne.ensures)) in
    may_at kinds sites parts c.args.self.now c.args.self.now c.args.pass q c.args.at here (Some c.args.by) (AskAbort c.args.tx) c.requires.may

pub returns-clause-ok : goal.returns-clause-ok
returns-clause-ok g c =
    let kinds = kinds_of g.C.Crdt.laws in
    let sites = g.J.Naming.sites in
    let parts = g.J.Naming.parts in
    let q = c.deref_mut.result.now in
    let here : q ≡ c.args.at = c.deref_mut.ensures.value ∙ (sym c.deref.ensures ∙ (sym c.place.ensures ∙ same_place c.place.result c.args.at c.if-ne.ensures)) in
    if_ok c.abort-answer.result.1 (λ r h run s a. goes_at kinds sites parts _ c.args.self.now c.abort-answer.result.0 q c.args.at here run (Some c.args.by) (AskAbort c.args.tx) r (h run s (subst (λ z. IsAllowed sites parts run (Some c.args.by) z (AskAbort c.args.tx)) (sym here) a))) c.abort-answer.ensures.ok

pub returns-clause-err : goal.returns-clause-err
returns-clause-err g c =
    if_err c.abort-answer.result.1 (λ e h run s. stays_for (kinds_of g.C.Crdt.laws) g.J.Naming.sites g.J.Naming.parts _ c.args.self.now c.abort-answer.result.0 run (h run s)) c.abort-answer.ensures.err
