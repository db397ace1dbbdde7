use Rattle.std.proofs.Common.{◌≡◌, ◌≤◌, ◌+◌, refl, sym, ap, ◌∙◌, subst, [], ◌∷◌, ◌++◌, length}
use Rattle.crdt_core.specs.KindsOf.{kinds_of}
use Rattle.crdt_core.specs.Placing.{place_of}
use Rattle.txn_session.specs.Session.{SessionState, Txn, own_updates}
use Rattle.txn_session.specs.Opens.{IsUpdated}
use Rattle.txn_session.specs.SessionWaits.{UpdatesLater, UpdateWaits}
use Rattle.txn_session.proofs.Results.{if_ok, if_err}
use Rattle.txn_session.proofs.Acting.{legal_after, held_after}
use Rattle.txn_session.proofs.Updating.{is_opened, doing_open, pushed_is, stage_is, update_wait_may, update_waits, unmade_later, unmade_later_same, made_later, made_later_same}
use Rattle.txn_session.proofs.Outwaiting.{waits_update}
use Rattle.txn_session.proofs.Ending.{waits_none}
use Rattle.txn_session.proofs.session.Session.update_wait.Goals as goal

pub update_wait-pass-requires-clause-may : goal.update_wait-pass-requires-clause-may
update_wait-pass-requires-clause-may g c =
    let f = c.self.inside in
    let v = c.self.view_is in
    let txn : Txn g.row.C-Effect.Denot = record { tx = f.tx; s = f.s; by = f.by; updates = f.updates.items } in
    let k = is_opened g.C.Crdt.too_deep c.args.object.now c.args.op.now _ c.args.self.now v f.stage txn f.lead f.commit refl c.in_default.ensures in
    let od = doing_open _ c.args.self.now v f.stage txn f.lead f.commit refl k in
    let items : c.reserve.new.self.items ≡ f.updates.items = c.reserve.ensures.same in
    let eo : c.as_slice-2.result.now ≡ own_updates f.updates.items c.args.object.now = c.as_slice-2.ensures ∙ (c.in-Ok.ensures ∙ ap (λ l. own_updates l c.args.object.now) c.as_slice.ensures) in
    let et = ap (λ (w : SessionState g.row.C-Effect.Denot). w.site) v in
    let eq = c.partition_of.ensures.place ∙ ap (λ (w : SessionState g.row.C-Effect.Denot). place_of c.args.object.now.bucket c.args.object.now.key w.parts) v in
    let some = subst (λ (w : SessionState g.row.C-Effect.Denot). 1 ≤ w.parts) v c.self.invariant.least_parts in
    let ew = ap (λ (w : SessionState g.row.C-Effect.Denot). w.name) v in
    let ei : c.len.result + 1 ≡ length f.updates.items + 1 = ap (λ n. n + 1) (c.len.ensures ∙ ap length c.reserve.ensures.same) in
    update_wait_may (kinds_of g.C.Crdt.laws) g.S.Store.sees g.S.Store.numbers g.S.Store.sites g.S.Store.parts c.args.store.now c.args.store.now c.args.pass c.args.pass c.args.self.now txn od c.requires.sites c.requires.parts some c.args.object.now c.as_slice-2.result.now f.site c.partition_of.result eo et eq c.args.op.now f.name (c.len.result + 1) ew ei c.requires.holds

pub returns-in-Some-made-clause-updated : goal.returns-in-Some-made-clause-updated
returns-in-Some-made-clause-updated g c =
    let f = c.self.inside in
    let v = c.self.view_is in
    let txn : Txn g.row.C-Effect.Denot = record { tx = f.tx; s = f.s; by = f.by; updates = f.updates.items } in
    let k = is_opened g.C.Crdt.too_deep c.args.object.now c.args.op.now _ c.args.self.now v f.stage txn f.lead f.commit refl c.in_default.ensures in
    let od = doing_open _ c.args.self.now v f.stage txn f.lead f.commit refl k in
    let items : c.reserve.new.self.items ≡ f.updates.items = c.reserve.ensures.same in
    let eo : c.as_slice-2.result.now ≡ own_updates f.updates.items c.args.object.now = c.as_slice-2.ensures ∙ (c.in-Ok.ensures ∙ ap (λ l. own_updates l c.args.object.now) c.as_slice.ensures) in
    let et = ap (λ (w : SessionState g.row.C-Effect.Denot). w.site) v in
    let eq = c.partition_of.ensures.place ∙ ap (λ (w : SessionState g.row.C-Effect.Denot). place_of c.args.object.now.bucket c.args.object.now.key w.parts) v in
    let some = subst (λ (w : SessionState g.row.C-Effect.Denot). 1 ≤ w.parts) v c.self.invariant.least_parts in
    let legal = legal_after _ g.S.Store.sees g.S.Store.sites g.S.Store.parts g.S.Store.stays g.met.S.Store.legal g.met.S.Store.keeps c.args.store.now c.update_wait-pass.new.self c.update_wait-pass.ensures.stays c.update_wait-pass.result.0 c.args.self.now.sites c.args.self.now.parts c.requires.sites c.requires.parts in
    let held = held_after g.S.Store.numbers c.args.pass c.update_wait-pass.result.0 c.update_wait-pass.ensures.same c.args.self.now.doing c.requires.holds.held in
    let ew = ap (λ (w : SessionState g.row.C-Effect.Denot). w.name) v in
    let ei : c.len.result + 1 ≡ length f.updates.items + 1 = ap (λ n. n + 1) (c.len.ensures ∙ ap length c.reserve.ensures.same) in
    let object : c.in-Ok-copy.named ≡ c.args.object.now = c.in-Ok-copy.ensures in
    let raw : c.push.new.self.items ≡ c.self.inside.updates.items ++ (record { object = c.in-Ok-copy.named; index = c.len.result + 1; effect = c.in-Some-made.effect }) ∷ [] = c.push.ensures ∙ ap (λ l. l ++ (record { object = c.in-Ok-copy.named; index = c.len.result + 1; effect = c.in-Some-made.effect }) ∷ []) items in
    let pushed = raw ∙ (λ i. f.updates.items ++ (record { object = object i; index = ei i; effect = c.in-Some-made.effect }) ∷ []) in
    let new = pushed_is _ c.args.self.now v txn od c.args.object.now c.in-Some-made.effect f.stage c.push.new.self.items f.lead f.commit k pushed in
    subst (λ (w : SessionState g.row.C-Effect.Denot). IsUpdated c.args.self.now c.args.object.now c.in-Ok-answer.step w) (sym new) (made_later_same _ g.S.Store.sees g.S.Store.numbers g.S.Store.sites g.S.Store.parts c.args.store.now c.update_wait-pass.new.self c.args.pass c.update_wait-pass.result.0 c.args.self.now txn od c.requires.sites c.requires.parts some c.args.object.now c.as_slice-2.result.now f.site c.partition_of.result eo et eq c.args.op.now f.name (c.len.result + 1) ew ei legal held (g.K.Clock.shows c.args.clock.now) c.in-Ok-answer.step c.in-Ok-answer.made (if_ok _ _ _ c.in-Ok-answer.is c.update_wait-pass.ensures.ok) c.in-Some-made.effect c.in-Some-made.is c.requires.holds)

pub returns-in-Some-made-clause-updates : goal.returns-in-Some-made-clause-updates
returns-in-Some-made-clause-updates g c run seen h =
    let f = c.self.inside in
    let v = c.self.view_is in
    let txn : Txn g.row.C-Effect.Denot = record { tx = f.tx; s = f.s; by = f.by; updates = f.updates.items } in
    let k = is_opened g.C.Crdt.too_deep c.args.object.now c.args.op.now _ c.args.self.now v f.stage txn f.lead f.commit refl c.in_default.ensures in
    let od = doing_open _ c.args.self.now v f.stage txn f.lead f.commit refl k in
    let items : c.reserve.new.self.items ≡ f.updates.items = c.reserve.ensures.same in
    let eo : c.as_slice-2.result.now ≡ own_updates f.updates.items c.args.object.now = c.as_slice-2.ensures ∙ (c.in-Ok.ensures ∙ ap (λ l. own_updates l c.args.object.now) c.as_slice.ensures) in
    let et = ap (λ (w : SessionState g.row.C-Effect.Denot). w.site) v in
    let eq = c.partition_of.ensures.place ∙ ap (λ (w : SessionState g.row.C-Effect.Denot). place_of c.args.object.now.bucket c.args.object.now.key w.parts) v in
    let some = subst (λ (w : SessionState g.row.C-Effect.Denot). 1 ≤ w.parts) v c.self.invariant.least_parts in
    let legal = legal_after _ g.S.Store.sees g.S.Store.sites g.S.Store.parts g.S.Store.stays g.met.S.Store.legal g.met.S.Store.keeps c.args.store.now c.update_wait-pass.new.self c.update_wait-pass.ensures.stays c.update_wait-pass.result.0 c.args.self.now.sites c.args.self.now.parts c.requires.sites c.requires.parts in
    let held = held_after g.S.Store.numbers c.args.pass c.update_wait-pass.result.0 c.update_wait-pass.ensures.same c.args.self.now.doing c.requires.holds.held in
    let ew = ap (λ (w : SessionState g.row.C-Effect.Denot). w.name) v in
    let ei : c.len.result + 1 ≡ length f.updates.items + 1 = ap (λ n. n + 1) (c.len.ensures ∙ ap length c.reserve.ensures.same) in
    let object : c.in-Ok-copy.named ≡ c.args.object.now = c.in-Ok-copy.ensures in
    let raw : c.push.new.self.items ≡ c.self.inside.updates.items ++ (record { object = c.in-Ok-copy.named; index = c.len.result + 1; effect = c.in-Some-made.effect }) ∷ [] = c.push.ensures ∙ ap (λ l. l ++ (record { object = c.in-Ok-copy.named; index = c.len.result + 1; effect = c.in-Some-made.effect }) ∷ []) items in
    let pushed = raw ∙ (λ i. f.updates.items ++ (record { object = object i; index = ei i; effect = c.in-Some-made.effect }) ∷ []) in
    let new = pushed_is _ c.args.self.now v txn od c.args.object.now c.in-Some-made.effect f.stage c.push.new.self.items f.lead f.commit k pushed in
    subst (λ (w : SessionState g.row.C-Effect.Denot). UpdatesLater g.S.Store.sees g.S.Store.numbers (g.K.Clock.shows c.args.clock.now) c.update_wait-pass.new.self c.update_wait-pass.result.0 run c.args.self.now w c.args.object.now c.args.op.now c.in-Ok-answer.step c.args.self.now.doing) (sym new) (made_later _ g.S.Store.sees g.S.Store.numbers g.S.Store.sites g.S.Store.parts c.args.store.now c.update_wait-pass.new.self c.args.pass c.update_wait-pass.result.0 c.args.self.now txn od c.requires.sites c.requires.parts some c.args.object.now c.as_slice-2.result.now f.site c.partition_of.result eo et eq c.args.op.now f.name (c.len.result + 1) ew ei legal held (g.K.Clock.shows c.args.clock.now) c.in-Ok-answer.step c.in-Ok-answer.made (if_ok _ _ _ c.in-Ok-answer.is c.update_wait-pass.ensures.ok) c.in-Some-made.effect c.in-Some-made.is run seen h)

pub returns-in-None-clause-updated : goal.returns-in-None-clause-updated
returns-in-None-clause-updated g c =
    let f = c.self.inside in
    let v = c.self.view_is in
    let txn : Txn g.row.C-Effect.Denot = record { tx = f.tx; s = f.s; by = f.by; updates = f.updates.items } in
    let k = is_opened g.C.Crdt.too_deep c.args.object.now c.args.op.now _ c.args.self.now v f.stage txn f.lead f.commit refl c.in_default.ensures in
    let od = doing_open _ c.args.self.now v f.stage txn f.lead f.commit refl k in
    let items : c.reserve.new.self.items ≡ f.updates.items = c.reserve.ensures.same in
    let eo : c.as_slice-2.result.now ≡ own_updates f.updates.items c.args.object.now = c.as_slice-2.ensures ∙ (c.in-Ok.ensures ∙ ap (λ l. own_updates l c.args.object.now) c.as_slice.ensures) in
    let et = ap (λ (w : SessionState g.row.C-Effect.Denot). w.site) v in
    let eq = c.partition_of.ensures.place ∙ ap (λ (w : SessionState g.row.C-Effect.Denot). place_of c.args.object.now.bucket c.args.object.now.key w.parts) v in
    let some = subst (λ (w : SessionState g.row.C-Effect.Denot). 1 ≤ w.parts) v c.self.invariant.least_parts in
    let legal = legal_after _ g.S.Store.sees g.S.Store.sites g.S.Store.parts g.S.Store.stays g.met.S.Store.legal g.met.S.Store.keeps c.args.store.now c.update_wait-pass.new.self c.update_wait-pass.ensures.stays c.update_wait-pass.result.0 c.args.self.now.sites c.args.self.now.parts c.requires.sites c.requires.parts in
    let held = held_after g.S.Store.numbers c.args.pass c.update_wait-pass.result.0 c.update_wait-pass.ensures.same c.args.self.now.doing c.requires.holds.held in
    let ew = ap (λ (w : SessionState g.row.C-Effect.Denot). w.name) v in
    let ei : c.len.result + 1 ≡ length f.updates.items + 1 = ap (λ n. n + 1) (c.len.ensures ∙ ap length c.reserve.ensures.same) in
    let same = stage_is _ c.args.self.now v txn f.stage c.reserve.new.self.items f.lead f.commit refl items in
    subst (λ (w : SessionState g.row.C-Effect.Denot). IsUpdated c.args.self.now c.args.object.now c.in-Ok-answer.step w) (sym same) (unmade_later_same _ g.S.Store.sees g.S.Store.numbers g.S.Store.sites g.S.Store.parts c.args.store.now c.update_wait-pass.new.self c.args.pass c.update_wait-pass.result.0 c.args.self.now txn od c.requires.sites c.requires.parts some c.args.object.now c.as_slice-2.result.now f.site c.partition_of.result eo et eq c.args.op.now f.name (c.len.result + 1) ew ei legal held (g.K.Clock.shows c.args.clock.now) c.in-Ok-answer.step c.in-Ok-answer.made (if_ok _ _ _ c.in-Ok-answer.is c.update_wait-pass.ensures.ok) c.in-None.is c.requires.holds)

pub returns-in-None-clause-updates : goal.returns-in-None-clause-updates
returns-in-None-clause-updates g c run seen h =
    let f = c.self.inside in
    let v = c.self.view_is in
    let txn : Txn g.row.C-Effect.Denot = record { tx = f.tx; s = f.s; by = f.by; updates = f.updates.items } in
    let k = is_opened g.C.Crdt.too_deep c.args.object.now c.args.op.now _ c.args.self.now v f.stage txn f.lead f.commit refl c.in_default.ensures in
    let od = doing_open _ c.args.self.now v f.stage txn f.lead f.commit refl k in
    let items : c.reserve.new.self.items ≡ f.updates.items = c.reserve.ensures.same in
    let eo : c.as_slice-2.result.now ≡ own_updates f.updates.items c.args.object.now = c.as_slice-2.ensures ∙ (c.in-Ok.ensures ∙ ap (λ l. own_updates l c.args.object.now) c.as_slice.ensures) in
    let et = ap (λ (w : SessionState g.row.C-Effect.Denot). w.site) v in
    let eq = c.partition_of.ensures.place ∙ ap (λ (w : SessionState g.row.C-Effect.Denot). place_of c.args.object.now.bucket c.args.object.now.key w.parts) v in
    let some = subst (λ (w : SessionState g.row.C-Effect.Denot). 1 ≤ w.parts) v c.self.invariant.least_parts in
    let legal = legal_after _ g.S.Store.sees g.S.Store.sites g.S.Store.parts g.S.Store.stays g.met.S.Store.legal g.met.S.Store.keeps c.args.store.now c.update_wait-pass.new.self c.update_wait-pass.ensures.stays c.update_wait-pass.result.0 c.args.self.now.sites c.args.self.now.parts c.requires.sites c.requires.parts in
    let held = held_after g.S.Store.numbers c.args.pass c.update_wait-pass.result.0 c.update_wait-pass.ensures.same c.args.self.now.doing c.requires.holds.held in
    let ew = ap (λ (w : SessionState g.row.C-Effect.Denot). w.name) v in
    let ei : c.len.result + 1 ≡ length f.updates.items + 1 = ap (λ n. n + 1) (c.len.ensures ∙ ap length c.reserve.ensures.same) in
    let same = stage_is _ c.args.self.now v txn f.stage c.reserve.new.self.items f.lead f.commit refl items in
    subst (λ (w : SessionState g.row.C-Effect.Denot). UpdatesLater g.S.Store.sees g.S.Store.numbers (g.K.Clock.shows c.args.clock.now) c.update_wait-pass.new.self c.update_wait-pass.result.0 run c.args.self.now w c.args.object.now c.args.op.now c.in-Ok-answer.step c.args.self.now.doing) (sym same) (unmade_later _ g.S.Store.sees g.S.Store.numbers g.S.Store.sites g.S.Store.parts c.args.store.now c.update_wait-pass.new.self c.args.pass c.update_wait-pass.result.0 c.args.self.now txn od c.requires.sites c.requires.parts some c.args.object.now c.as_slice-2.result.now f.site c.partition_of.result eo et eq c.args.op.now f.name (c.len.result + 1) ew ei legal held (g.K.Clock.shows c.args.clock.now) c.in-Ok-answer.step c.in-Ok-answer.made (if_ok _ _ _ c.in-Ok-answer.is c.update_wait-pass.ensures.ok) c.in-None.is run seen h)

pub returns-in-Err-answer-clause-waits : goal.returns-in-Err-answer-clause-waits
returns-in-Err-answer-clause-waits g c run seen h =
    let f = c.self.inside in
    let v = c.self.view_is in
    let txn : Txn g.row.C-Effect.Denot = record { tx = f.tx; s = f.s; by = f.by; updates = f.updates.items } in
    let k = is_opened g.C.Crdt.too_deep c.args.object.now c.args.op.now _ c.args.self.now v f.stage txn f.lead f.commit refl c.in_default.ensures in
    let od = doing_open _ c.args.self.now v f.stage txn f.lead f.commit refl k in
    let items : c.reserve.new.self.items ≡ f.updates.items = c.reserve.ensures.same in
    let eo : c.as_slice-2.result.now ≡ own_updates f.updates.items c.args.object.now = c.as_slice-2.ensures ∙ (c.in-Ok.ensures ∙ ap (λ l. own_updates l c.args.object.now) c.as_slice.ensures) in
    let et = ap (λ (w : SessionState g.row.C-Effect.Denot). w.site) v in
    let eq = c.partition_of.ensures.place ∙ ap (λ (w : SessionState g.row.C-Effect.Denot). place_of c.args.object.now.bucket c.args.object.now.key w.parts) v in
    let some = subst (λ (w : SessionState g.row.C-Effect.Denot). 1 ≤ w.parts) v c.self.invariant.least_parts in
    let legal = legal_after _ g.S.Store.sees g.S.Store.sites g.S.Store.parts g.S.Store.stays g.met.S.Store.legal g.met.S.Store.keeps c.args.store.now c.update_wait-pass.new.self c.update_wait-pass.ensures.stays c.update_wait-pass.result.0 c.args.self.now.sites c.args.self.now.parts c.requires.sites c.requires.parts in
    let held = held_after g.S.Store.numbers c.args.pass c.update_wait-pass.result.0 c.update_wait-pass.ensures.same c.args.self.now.doing c.requires.holds.held in
    let ew = ap (λ (w : SessionState g.row.C-Effect.Denot). w.name) v in
    let ei : c.len.result + 1 ≡ length f.updates.items + 1 = ap (λ n. n + 1) (c.len.ensures ∙ ap length c.reserve.ensures.same) in
    let same = stage_is _ c.args.self.now v txn f.stage c.reserve.new.self.items f.lead f.commit refl items in
    subst (λ (w : SessionState g.row.C-Effect.Denot). UpdateWaits g.S.Store.sees g.S.Store.numbers (g.K.Clock.shows c.args.clock.now) c.update_wait-pass.new.self c.update_wait-pass.result.0 run c.args.self.now w c.args.object.now c.args.op.now c.args.self.now.doing) (sym same) (update_waits _ g.S.Store.sees g.S.Store.numbers g.S.Store.sites g.S.Store.parts c.args.store.now c.update_wait-pass.new.self c.args.pass c.update_wait-pass.result.0 c.args.self.now txn od c.requires.sites c.requires.parts some c.args.object.now c.as_slice-2.result.now f.site c.partition_of.result eo et eq c.args.op.now f.name (c.len.result + 1) ew ei legal held (g.K.Clock.shows c.args.clock.now) (if_err _ _ _ c.in-Err-answer.is c.update_wait-pass.ensures.err) run seen h)

pub returns-in-Some-clause-waits : goal.returns-in-Some-clause-waits
returns-in-Some-clause-waits g c run seen h = waits_update g.S.Store.sees g.S.Store.numbers (g.K.Clock.shows c.args.clock.now) c.args.store.now c.args.pass run c.args.self.now c.args.self.now c.args.object.now c.args.op.now c.args.self.now.doing (waits_none g.S.Store.sees g.S.Store.numbers c.args.store.now c.args.pass run c.args.self.now c.args.self.now c.args.self.now refl refl seen h c.requires.holds.held)

pub returns-in-Err-clause-waits : goal.returns-in-Err-clause-waits
returns-in-Err-clause-waits g c run seen h = waits_update g.S.Store.sees g.S.Store.numbers (g.K.Clock.shows c.args.clock.now) c.args.store.now c.args.pass run c.args.self.now c.args.self.now c.args.object.now c.args.op.now c.args.self.now.doing (waits_none g.S.Store.sees g.S.Store.numbers c.args.store.now c.args.pass run c.args.self.now c.args.self.now c.args.self.now refl refl seen h c.requires.holds.held)

pub returns-in-Err-copy-clause-waits : goal.returns-in-Err-copy-clause-waits
returns-in-Err-copy-clause-waits g c run seen h = waits_update g.S.Store.sees g.S.Store.numbers (g.K.Clock.shows c.args.clock.now) c.args.store.now c.args.pass run c.args.self.now c.args.self.now c.args.object.now c.args.op.now c.args.self.now.doing (waits_none g.S.Store.sees g.S.Store.numbers c.args.store.now c.args.pass run c.args.self.now c.args.self.now c.args.self.now refl refl seen h c.requires.holds.held)

pub returns-then-is_err-clause-waits : goal.returns-then-is_err-clause-waits
returns-then-is_err-clause-waits g c run seen h =
    let f = c.self.inside in
    let txn : Txn g.row.C-Effect.Denot = record { tx = f.tx; s = f.s; by = f.by; updates = f.updates.items } in
    let same = stage_is _ c.args.self.now c.self.view_is txn f.stage c.reserve.new.self.items f.lead f.commit refl c.reserve.ensures.same in
    subst (λ (w : SessionState g.row.C-Effect.Denot). UpdateWaits g.S.Store.sees g.S.Store.numbers (g.K.Clock.shows c.args.clock.now) c.args.store.now c.args.pass run c.args.self.now w c.args.object.now c.args.op.now c.args.self.now.doing) (sym same) (waits_update g.S.Store.sees g.S.Store.numbers (g.K.Clock.shows c.args.clock.now) c.args.store.now c.args.pass run c.args.self.now c.args.self.now c.args.object.now c.args.op.now c.args.self.now.doing (waits_none g.S.Store.sees g.S.Store.numbers c.args.store.now c.args.pass run c.args.self.now c.args.self.now c.args.self.now refl refl seen h c.requires.holds.held))
