use Rattle.std.proofs.Common.{◌≡◌, ◌≤◌, refl, ap, ◌∙◌, subst}
use Rattle.crdt_core.specs.KindsOf.{kinds_of}
use Rattle.crdt_core.specs.Placing.{place_of}
use Rattle.txn_session.specs.Session.{SessionState, Txn, own_updates}
use Rattle.txn_session.proofs.Results.{if_ok, if_err}
use Rattle.txn_session.proofs.Acting.{legal_after, held_after}
use Rattle.txn_session.proofs.Updating.{doing_open, read_wait_may, read_later, read_waits}
use Rattle.txn_session.proofs.Outwaiting.{waits_read}
use Rattle.txn_session.proofs.Ending.{waits_none}
use Rattle.txn_session.proofs.session.Session.read_wait.Goals as goal

pub read_wait-pass-requires-clause-may : goal.read_wait-pass-requires-clause-may
read_wait-pass-requires-clause-may g c =
    let f = c.self.inside in
    let v = c.self.view_is in
    let txn : Txn g.row.C-Effect.Denot = record { tx = f.tx; s = f.s; by = f.by; updates = f.updates.items } in
    let od = doing_open _ c.args.self.now v f.stage txn f.lead f.commit refl c.in-Open.is in
    let eo : c.as_slice-2.result.now ≡ own_updates f.updates.items c.args.object.now = c.as_slice-2.ensures ∙ (c.in-Ok.ensures ∙ ap (λ l. own_updates l c.args.object.now) c.as_slice.ensures) in
    let et = ap (λ (w : SessionState g.row.C-Effect.Denot). w.site) v in
    let eq = c.partition_of.ensures.place ∙ ap (λ (w : SessionState g.row.C-Effect.Denot). place_of c.args.object.now.bucket c.args.object.now.key w.parts) v in
    let some = subst (λ (w : SessionState g.row.C-Effect.Denot). 1 ≤ w.parts) v c.self.invariant.least_parts in
    let ew = ap (λ (w : SessionState g.row.C-Effect.Denot). w.name) v in
    read_wait_may (kinds_of g.C.Crdt.laws) g.S.Store.sees g.S.Store.numbers g.S.Store.sites g.S.Store.parts c.args.store.now c.args.store.now c.args.pass c.args.pass c.args.self.now txn od c.requires.sites c.requires.parts some c.args.object.now c.as_slice-2.result.now f.site c.partition_of.result eo et eq f.name ew c.requires.holds

pub returns-in-Ok-answer-clause-reads : goal.returns-in-Ok-answer-clause-reads
returns-in-Ok-answer-clause-reads g c run seen h =
    let f = c.self.inside in
    let v = c.self.view_is in
    let txn : Txn g.row.C-Effect.Denot = record { tx = f.tx; s = f.s; by = f.by; updates = f.updates.items } in
    let od = doing_open _ c.args.self.now v f.stage txn f.lead f.commit refl c.in-Open.is in
    let eo : c.as_slice-2.result.now ≡ own_updates f.updates.items c.args.object.now = c.as_slice-2.ensures ∙ (c.in-Ok.ensures ∙ ap (λ l. own_updates l c.args.object.now) c.as_slice.ensures) in
    let et = ap (λ (w : SessionState g.row.C-Effect.Denot). w.site) v in
    let eq = c.partition_of.ensures.place ∙ ap (λ (w : SessionState g.row.C-Effect.Denot). place_of c.args.object.now.bucket c.args.object.now.key w.parts) v in
    let some = subst (λ (w : SessionState g.row.C-Effect.Denot). 1 ≤ w.parts) v c.self.invariant.least_parts in
    let legal = legal_after _ g.S.Store.sees g.S.Store.sites g.S.Store.parts g.S.Store.stays g.met.S.Store.legal g.met.S.Store.keeps c.args.store.now c.read_wait-pass.new.self c.read_wait-pass.ensures.stays c.read_wait-pass.result.0 c.args.self.now.sites c.args.self.now.parts c.requires.sites c.requires.parts in
    let held = held_after g.S.Store.numbers c.args.pass c.read_wait-pass.result.0 c.read_wait-pass.ensures.same c.args.self.now.doing c.requires.holds.held in
    let ew = ap (λ (w : SessionState g.row.C-Effect.Denot). w.name) v in
    read_later _ g.S.Store.sees g.S.Store.numbers g.S.Store.sites g.S.Store.parts c.args.store.now c.read_wait-pass.new.self c.args.pass c.read_wait-pass.result.0 c.args.self.now txn od c.requires.sites c.requires.parts some c.args.object.now c.as_slice-2.result.now f.site c.partition_of.result eo et eq (g.K.Clock.shows c.args.clock.now) f.name ew legal held c.in-Ok-answer.step (if_ok _ _ _ c.in-Ok-answer.is c.read_wait-pass.ensures.ok) run seen h

pub returns-in-Err-answer-clause-waits : goal.returns-in-Err-answer-clause-waits
returns-in-Err-answer-clause-waits g c run seen h =
    let f = c.self.inside in
    let v = c.self.view_is in
    let txn : Txn g.row.C-Effect.Denot = record { tx = f.tx; s = f.s; by = f.by; updates = f.updates.items } in
    let od = doing_open _ c.args.self.now v f.stage txn f.lead f.commit refl c.in-Open.is in
    let eo : c.as_slice-2.result.now ≡ own_updates f.updates.items c.args.object.now = c.as_slice-2.ensures ∙ (c.in-Ok.ensures ∙ ap (λ l. own_updates l c.args.object.now) c.as_slice.ensures) in
    let et = ap (λ (w : SessionState g.row.C-Effect.Denot). w.site) v in
    let eq = c.partition_of.ensures.place ∙ ap (λ (w : SessionState g.row.C-Effect.Denot). place_of c.args.object.now.bucket c.args.object.now.key w.parts) v in
    let some = subst (λ (w : SessionState g.row.C-Effect.Denot). 1 ≤ w.parts) v c.self.invariant.least_parts in
    let legal = legal_after _ g.S.Store.sees g.S.Store.sites g.S.Store.parts g.S.Store.stays g.met.S.Store.legal g.met.S.Store.keeps c.args.store.now c.read_wait-pass.new.self c.read_wait-pass.ensures.stays c.read_wait-pass.result.0 c.args.self.now.sites c.args.self.now.parts c.requires.sites c.requires.parts in
    let held = held_after g.S.Store.numbers c.args.pass c.read_wait-pass.result.0 c.read_wait-pass.ensures.same c.args.self.now.doing c.requires.holds.held in
    let ew = ap (λ (w : SessionState g.row.C-Effect.Denot). w.name) v in
    read_waits _ g.S.Store.sees g.S.Store.numbers g.S.Store.sites g.S.Store.parts c.args.store.now c.read_wait-pass.new.self c.args.pass c.read_wait-pass.result.0 c.args.self.now txn od c.requires.sites c.requires.parts some c.args.object.now c.as_slice-2.result.now f.site c.partition_of.result eo et eq (g.K.Clock.shows c.args.clock.now) f.name ew legal held (if_err _ _ _ c.in-Err-answer.is c.read_wait-pass.ensures.err) run seen h

pub returns-in-Err-clause-waits : goal.returns-in-Err-clause-waits
returns-in-Err-clause-waits g c run seen h = waits_read g.S.Store.sees g.S.Store.numbers (g.K.Clock.shows c.args.clock.now) c.args.store.now c.args.pass run c.args.self.now c.args.self.now c.args.object.now c.args.self.now.doing (waits_none g.S.Store.sees g.S.Store.numbers c.args.store.now c.args.pass run c.args.self.now c.args.self.now c.args.self.now refl refl seen h c.requires.holds.held)
