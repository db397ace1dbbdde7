use Rattle.std.proofs.Common.{◌≡◌, ◌≤◌, ◌+◌, refl, sym, ap, ◌∙◌, subst, [], ◌∷◌, ◌++◌, length}
use Rattle.crdt_core.specs.KindsOf.{kinds_of}
use Rattle.crdt_core.specs.Placing.{place_of}
use Rattle.txn_session.specs.Session.{SessionState, Txn, own_updates}
use Rattle.txn_session.specs.Opens.{IsUpdated}
use Rattle.txn_session.specs.Holds.{MakesUpdate, Waits}
use Rattle.txn_session.proofs.Results.{if_ok, if_err}
use Rattle.txn_session.proofs.Acting.{legal_after, held_after, stays_waits}
use Rattle.txn_session.proofs.Updating.{is_opened, doing_open, pushed_is, stage_is, update_may, update_tells, unmade_quiet, unmade_same, made_same, made_makes}
use Rattle.txn_session.proofs.session.Session.update.Goals as goal

pub update-pass-requires-clause-may : goal.update-pass-requires-clause-may
update-pass-requires-clause-may g c =
    let f = c.self.inside in
    let v = c.self.view_is in
    let txn : Txn g.row.C-Effect.Denot = record { tx = f.tx; s = f.s; by = f.by; updates = f.updates.items } in
    let k = is_opened g.C.Crdt.too_deep c.args.object.now c.args.op.now _ c.args.self.now v f.stage txn f.lead f.commit refl c.in_default.ensures in
    let od = doing_open _ c.args.self.now v f.stage txn f.lead f.commit refl k in
    let items : c.reserve.new.self.items ≡ f.updates.items = c.reserve.ensures.same in
    let eo : c.as_slice-2.result.now ≡ own_updates f.updates.items c.args.object.now = c.as_slice-2.ensures ∙ (c.in-Ok.ensures ∙ ap (λ l. own_updates l c.args.object.now) c.as_slice.ensures) in
    let et = ap (λ (w : SessionState g.row.C-Effect.Denot). w.site) v in
    let eq = c.partition_of.ensures.place ∙ ap (λ (w : SessionState g.row.C-Effect.Denot). place_of c.args.object.now.bucket c.args.object.now.key w.parts) v in
    let some = subst (λ (w : SessionState g.row.C-Effect.Denot). 1 ≤ w.parts) v c.self.invariant.least_parts in
    update_may (kinds_of g.C.Crdt.laws) g.S.Store.sees g.S.Store.numbers g.S.Store.sites g.S.Store.parts c.args.store.now c.args.store.now c.args.pass c.args.pass c.args.self.now txn od c.requires.sites c.requires.parts some c.args.object.now c.as_slice-2.result.now f.site c.partition_of.result eo et eq c.args.op.now c.requires.holds

pub returns-in-Some-made-clause-updated : goal.returns-in-Some-made-clause-updated
returns-in-Some-made-clause-updated g c =
    let f = c.self.inside in
    let v = c.self.view_is in
    let txn : Txn g.row.C-Effect.Denot = record { tx = f.tx; s = f.s; by = f.by; updates = f.updates.items } in
    let k = is_opened g.C.Crdt.too_deep c.args.object.now c.args.op.now _ c.args.self.now v f.stage txn f.lead f.commit refl c.in_default.ensures in
    let od = doing_open _ c.args.self.now v f.stage txn f.lead f.commit refl k in
    let items : c.reserve.new.self.items ≡ f.updates.items = c.reserve.ensures.same in
    let eo : c.as_slice-2.result.now ≡ own_updates f.updates.items c.args.object.now = c.as_slice-2.ensures ∙ (c.in-Ok.ensures ∙ ap (λ l. own_updates l c.args.object.now) c.as_slice.ensures) in
    let et = ap (λ (w : SessionState g.row.C-Effect.Denot). w.site) v in
    let eq = c.partition_of.ensures.place ∙ ap (λ (w : SessionState g.row.C-Effect.Denot). place_of c.args.object.now.bucket c.args.object.now.key w.parts) v in
    let some = subst (λ (w : SessionState g.row.C-Effect.Denot). 1 ≤ w.parts) v c.self.invariant.least_parts in
    let legal = legal_after _ g.S.Store.sees g.S.Store.sites g.S.Store.parts g.S.Store.stays g.met.S.Store.legal g.met.S.Store.keeps c.args.store.now c.update-pass.new.self c.update-pass.ensures.stays c.update-pass.result.0 c.args.self.now.sites c.args.self.now.parts c.requires.sites c.requires.parts in
    let held = held_after g.S.Store.numbers c.args.pass c.update-pass.result.0 c.update-pass.ensures.same c.args.self.now.doing c.requires.holds.held in
    let ew = ap (λ (w : SessionState g.row.C-Effect.Denot). w.name) v in
    let ei : c.len.result + 1 ≡ length f.updates.items + 1 = ap (λ n. n + 1) (c.len.ensures ∙ ap length c.reserve.ensures.same) in
    let object : c.in-Ok-copy.named ≡ c.args.object.now = c.in-Ok-copy.ensures in
    let raw : c.push.new.self.items ≡ c.self.inside.updates.items ++ (record { object = c.in-Ok-copy.named; index = c.len.result + 1; effect = c.in-Some-made.effect }) ∷ [] = c.push.ensures ∙ ap (λ l. l ++ (record { object = c.in-Ok-copy.named; index = c.len.result + 1; effect = c.in-Some-made.effect }) ∷ []) items in
    let pushed = raw ∙ (λ i. f.updates.items ++ (record { object = object i; index = ei i; effect = c.in-Some-made.effect }) ∷ []) in
    let new = pushed_is _ c.args.self.now v txn od c.args.object.now c.in-Some-made.effect f.stage c.push.new.self.items f.lead f.commit k pushed in
    subst (λ (w : SessionState g.row.C-Effect.Denot). IsUpdated c.args.self.now c.args.object.now c.in-Ok-answer.step w) (sym new) (made_same _ g.S.Store.sees g.S.Store.numbers g.S.Store.sites g.S.Store.parts c.args.store.now c.update-pass.new.self c.args.pass c.update-pass.result.0 c.args.self.now txn od c.requires.sites c.requires.parts some c.args.object.now c.as_slice-2.result.now f.site c.partition_of.result eo et eq c.args.op.now f.name (c.len.result + 1) ew ei legal held c.in-Ok-answer.step c.in-Ok-answer.made (if_ok _ _ _ c.in-Ok-answer.is c.update-pass.ensures.ok) c.in-Some-made.effect c.in-Some-made.is c.requires.holds)

pub returns-in-Some-made-clause-updates : goal.returns-in-Some-made-clause-updates
returns-in-Some-made-clause-updates g c run seen h =
    let f = c.self.inside in
    let v = c.self.view_is in
    let txn : Txn g.row.C-Effect.Denot = record { tx = f.tx; s = f.s; by = f.by; updates = f.updates.items } in
    let k = is_opened g.C.Crdt.too_deep c.args.object.now c.args.op.now _ c.args.self.now v f.stage txn f.lead f.commit refl c.in_default.ensures in
    let od = doing_open _ c.args.self.now v f.stage txn f.lead f.commit refl k in
    let items : c.reserve.new.self.items ≡ f.updates.items = c.reserve.ensures.same in
    let eo : c.as_slice-2.result.now ≡ own_updates f.updates.items c.args.object.now = c.as_slice-2.ensures ∙ (c.in-Ok.ensures ∙ ap (λ l. own_updates l c.args.object.now) c.as_slice.ensures) in
    let et = ap (λ (w : SessionState g.row.C-Effect.Denot). w.site) v in
    let eq = c.partition_of.ensures.place ∙ ap (λ (w : SessionState g.row.C-Effect.Denot). place_of c.args.object.now.bucket c.args.object.now.key w.parts) v in
    let some = subst (λ (w : SessionState g.row.C-Effect.Denot). 1 ≤ w.parts) v c.self.invariant.least_parts in
    let legal = legal_after _ g.S.Store.sees g.S.Store.sites g.S.Store.parts g.S.Store.stays g.met.S.Store.legal g.met.S.Store.keeps c.args.store.now c.update-pass.new.self c.update-pass.ensures.stays c.update-pass.result.0 c.args.self.now.sites c.args.self.now.parts c.requires.sites c.requires.parts in
    let held = held_after g.S.Store.numbers c.args.pass c.update-pass.result.0 c.update-pass.ensures.same c.args.self.now.doing c.requires.holds.held in
    let ew = ap (λ (w : SessionState g.row.C-Effect.Denot). w.name) v in
    let ei : c.len.result + 1 ≡ length f.updates.items + 1 = ap (λ n. n + 1) (c.len.ensures ∙ ap length c.reserve.ensures.same) in
    let object : c.in-Ok-copy.named ≡ c.args.object.now = c.in-Ok-copy.ensures in
    let raw : c.push.new.self.items ≡ c.self.inside.updates.items ++ (record { object = c.in-Ok-copy.named; index = c.len.result + 1; effect = c.in-Some-made.effect }) ∷ [] = c.push.ensures ∙ ap (λ l. l ++ (record { object = c.in-Ok-copy.named; index = c.len.result + 1; effect = c.in-Some-made.effect }) ∷ []) items in
    let pushed = raw ∙ (λ i. f.updates.items ++ (record { object = object i; index = ei i; effect = c.in-Some-made.effect }) ∷ []) in
    let new = pushed_is _ c.args.self.now v txn od c.args.object.now c.in-Some-made.effect f.stage c.push.new.self.items f.lead f.commit k pushed in
    subst (λ (w : SessionState g.row.C-Effect.Denot). MakesUpdate g.S.Store.sees g.S.Store.numbers c.update-pass.new.self c.update-pass.result.0 run c.args.self.now w c.args.object.now c.args.op.now c.in-Ok-answer.step c.args.self.now.doing) (sym new) (made_makes _ g.S.Store.sees g.S.Store.numbers g.S.Store.sites g.S.Store.parts c.args.store.now c.update-pass.new.self c.args.pass c.update-pass.result.0 c.args.self.now txn od c.requires.sites c.requires.parts some c.args.object.now c.as_slice-2.result.now f.site c.partition_of.result eo et eq c.args.op.now f.name (c.len.result + 1) ew ei legal held c.in-Ok-answer.step c.in-Ok-answer.made (if_ok _ _ _ c.in-Ok-answer.is c.update-pass.ensures.ok) c.in-Some-made.effect c.in-Some-made.is run seen h)

pub returns-in-None-clause-updated : goal.returns-in-None-clause-updated
returns-in-None-clause-updated g c =
    let f = c.self.inside in
    let v = c.self.view_is in
    let txn : Txn g.row.C-Effect.Denot = record { tx = f.tx; s = f.s; by = f.by; updates = f.updates.items } in
    let k = is_opened g.C.Crdt.too_deep c.args.object.now c.args.op.now _ c.args.self.now v f.stage txn f.lead f.commit refl c.in_default.ensures in
    let od = doing_open _ c.args.self.now v f.stage txn f.lead f.commit refl k in
    let items : c.reserve.new.self.items ≡ f.updates.items = c.reserve.ensures.same in
    let eo : c.as_slice-2.result.now ≡ own_updates f.updates.items c.args.object.now = c.as_slice-2.ensures ∙ (c.in-Ok.ensures ∙ ap (λ l. own_updates l c.args.object.now) c.as_slice.ensures) in
    let et = ap (λ (w : SessionState g.row.C-Effect.Denot). w.site) v in
    let eq = c.partition_of.ensures.place ∙ ap (λ (w : SessionState g.row.C-Effect.Denot). place_of c.args.object.now.bucket c.args.object.now.key w.parts) v in
    let some = subst (λ (w : SessionState g.row.C-Effect.Denot). 1 ≤ w.parts) v c.self.invariant.least_parts in
    let legal = legal_after _ g.S.Store.sees g.S.Store.sites g.S.Store.parts g.S.Store.stays g.met.S.Store.legal g.met.S.Store.keeps c.args.store.now c.update-pass.new.self c.update-pass.ensures.stays c.update-pass.result.0 c.args.self.now.sites c.args.self.now.parts c.requires.sites c.requires.parts in
    let held = held_after g.S.Store.numbers c.args.pass c.update-pass.result.0 c.update-pass.ensures.same c.args.self.now.doing c.requires.holds.held in
    let ew = ap (λ (w : SessionState g.row.C-Effect.Denot). w.name) v in
    let ei : c.len.result + 1 ≡ length f.updates.items + 1 = ap (λ n. n + 1) (c.len.ensures ∙ ap length c.reserve.ensures.same) in
    let same = stage_is _ c.args.self.now v txn f.stage c.reserve.new.self.items f.lead f.commit refl items in
    subst (λ (w : SessionState g.row.C-Effect.Denot). IsUpdated c.args.self.now c.args.object.now c.in-Ok-answer.step w) (sym same) (unmade_same _ g.S.Store.sees g.S.Store.numbers g.S.Store.sites g.S.Store.parts c.args.store.now c.update-pass.new.self c.args.pass c.update-pass.result.0 c.args.self.now txn od c.requires.sites c.requires.parts some c.args.object.now c.as_slice-2.result.now f.site c.partition_of.result eo et eq c.args.op.now f.name (c.len.result + 1) ew ei legal held c.in-Ok-answer.step c.in-Ok-answer.made (if_ok _ _ _ c.in-Ok-answer.is c.update-pass.ensures.ok) c.in-None.is c.requires.holds)

pub returns-in-None-clause-updates : goal.returns-in-None-clause-updates
returns-in-None-clause-updates g c run seen h =
    let f = c.self.inside in
    let v = c.self.view_is in
    let txn : Txn g.row.C-Effect.Denot = record { tx = f.tx; s = f.s; by = f.by; updates = f.updates.items } in
    let k = is_opened g.C.Crdt.too_deep c.args.object.now c.args.op.now _ c.args.self.now v f.stage txn f.lead f.commit refl c.in_default.ensures in
    let od = doing_open _ c.args.self.now v f.stage txn f.lead f.commit refl k in
    let items : c.reserve.new.self.items ≡ f.updates.items = c.reserve.ensures.same in
    let eo : c.as_slice-2.result.now ≡ own_updates f.updates.items c.args.object.now = c.as_slice-2.ensures ∙ (c.in-Ok.ensures ∙ ap (λ l. own_updates l c.args.object.now) c.as_slice.ensures) in
    let et = ap (λ (w : SessionState g.row.C-Effect.Denot). w.site) v in
    let eq = c.partition_of.ensures.place ∙ ap (λ (w : SessionState g.row.C-Effect.Denot). place_of c.args.object.now.bucket c.args.object.now.key w.parts) v in
    let some = subst (λ (w : SessionState g.row.C-Effect.Denot). 1 ≤ w.parts) v c.self.invariant.least_parts in
    let legal = legal_after _ g.S.Store.sees g.S.Store.sites g.S.Store.parts g.S.Store.stays g.met.S.Store.legal g.met.S.Store.keeps c.args.store.now c.update-pass.new.self c.update-pass.ensures.stays c.update-pass.result.0 c.args.self.now.sites c.args.self.now.parts c.requires.sites c.requires.parts in
    let held = held_after g.S.Store.numbers c.args.pass c.update-pass.result.0 c.update-pass.ensures.same c.args.self.now.doing c.requires.holds.held in
    let ew = ap (λ (w : SessionState g.row.C-Effect.Denot). w.name) v in
    let ei : c.len.result + 1 ≡ length f.updates.items + 1 = ap (λ n. n + 1) (c.len.ensures ∙ ap length c.reserve.ensures.same) in
    let same = stage_is _ c.args.self.now v txn f.stage c.reserve.new.self.items f.lead f.commit refl items in
    subst (λ (w : SessionState g.row.C-Effect.Denot). MakesUpdate g.S.Store.sees g.S.Store.numbers c.update-pass.new.self c.update-pass.result.0 run c.args.self.now w c.args.object.now c.args.op.now c.in-Ok-answer.step c.args.self.now.doing) (sym same) (unmade_quiet _ g.S.Store.sees g.S.Store.numbers g.S.Store.sites g.S.Store.parts c.args.store.now c.update-pass.new.self c.args.pass c.update-pass.result.0 c.args.self.now txn od c.requires.sites c.requires.parts some c.args.object.now c.as_slice-2.result.now f.site c.partition_of.result eo et eq c.args.op.now f.name (c.len.result + 1) ew ei legal held c.in-Ok-answer.step c.in-Ok-answer.made (if_ok _ _ _ c.in-Ok-answer.is c.update-pass.ensures.ok) c.in-None.is run seen h)

pub returns-in-Err-answer-clause-waits : goal.returns-in-Err-answer-clause-waits
returns-in-Err-answer-clause-waits g c run seen h =
    let f = c.self.inside in
    let v = c.self.view_is in
    let txn : Txn g.row.C-Effect.Denot = record { tx = f.tx; s = f.s; by = f.by; updates = f.updates.items } in
    let items : c.reserve.new.self.items ≡ f.updates.items = c.reserve.ensures.same in
    let same = stage_is _ c.args.self.now v txn f.stage c.reserve.new.self.items f.lead f.commit refl items in
    let legal = legal_after _ g.S.Store.sees g.S.Store.sites g.S.Store.parts g.S.Store.stays g.met.S.Store.legal g.met.S.Store.keeps c.args.store.now c.update-pass.new.self c.update-pass.ensures.stays c.update-pass.result.0 c.args.self.now.sites c.args.self.now.parts c.requires.sites c.requires.parts in
    let held = held_after g.S.Store.numbers c.args.pass c.update-pass.result.0 c.update-pass.ensures.same c.args.self.now.doing c.requires.holds.held in
    subst (λ (w : SessionState g.row.C-Effect.Denot). Waits g.S.Store.sees g.S.Store.numbers c.update-pass.new.self c.update-pass.result.0 run c.args.self.now w) (sym same) (stays_waits _ g.S.Store.sees g.S.Store.numbers c.update-pass.new.self c.update-pass.result.0 c.args.self.now legal held run h (if_err _ _ _ c.in-Err-answer.is c.update-pass.ensures.err run seen))

pub returns-in-Some-made-clause-tells : goal.returns-in-Some-made-clause-tells
returns-in-Some-made-clause-tells g c =
    let f = c.self.inside in
    let v = c.self.view_is in
    let txn : Txn g.row.C-Effect.Denot = record { tx = f.tx; s = f.s; by = f.by; updates = f.updates.items } in
    let k = is_opened g.C.Crdt.too_deep c.args.object.now c.args.op.now _ c.args.self.now v f.stage txn f.lead f.commit refl c.in_default.ensures in
    let od = doing_open _ c.args.self.now v f.stage txn f.lead f.commit refl k in
    let eo : c.as_slice-2.result.now ≡ own_updates f.updates.items c.args.object.now = c.as_slice-2.ensures ∙ (c.in-Ok.ensures ∙ ap (λ l. own_updates l c.args.object.now) c.as_slice.ensures) in
    let et = ap (λ (w : SessionState g.row.C-Effect.Denot). w.site) v in
    let eq = c.partition_of.ensures.place ∙ ap (λ (w : SessionState g.row.C-Effect.Denot). place_of c.args.object.now.bucket c.args.object.now.key w.parts) v in
    let some = subst (λ (w : SessionState g.row.C-Effect.Denot). 1 ≤ w.parts) v c.self.invariant.least_parts in
    let ew = ap (λ (w : SessionState g.row.C-Effect.Denot). w.name) v in
    let ei : c.len.result + 1 ≡ length f.updates.items + 1 = ap (λ n. n + 1) (c.len.ensures ∙ ap length c.reserve.ensures.same) in
    update_tells (kinds_of g.C.Crdt.laws) g.S.Store.sees g.S.Store.numbers g.S.Store.sites g.S.Store.parts c.args.store.now c.update-pass.new.self c.args.pass c.update-pass.result.0 c.args.self.now txn od c.requires.sites c.requires.parts some c.args.object.now c.as_slice-2.result.now f.site c.partition_of.result eo et eq c.args.op.now g.S.Store.tells f.name (c.len.result + 1) ew ei c.in-Ok-answer.step (if_ok _ _ _ c.in-Ok-answer.is c.update-pass.ensures.tells) c.requires.holds

pub returns-in-None-clause-tells : goal.returns-in-None-clause-tells
returns-in-None-clause-tells g c =
    let f = c.self.inside in
    let v = c.self.view_is in
    let txn : Txn g.row.C-Effect.Denot = record { tx = f.tx; s = f.s; by = f.by; updates = f.updates.items } in
    let k = is_opened g.C.Crdt.too_deep c.args.object.now c.args.op.now _ c.args.self.now v f.stage txn f.lead f.commit refl c.in_default.ensures in
    let od = doing_open _ c.args.self.now v f.stage txn f.lead f.commit refl k in
    let eo : c.as_slice-2.result.now ≡ own_updates f.updates.items c.args.object.now = c.as_slice-2.ensures ∙ (c.in-Ok.ensures ∙ ap (λ l. own_updates l c.args.object.now) c.as_slice.ensures) in
    let et = ap (λ (w : SessionState g.row.C-Effect.Denot). w.site) v in
    let eq = c.partition_of.ensures.place ∙ ap (λ (w : SessionState g.row.C-Effect.Denot). place_of c.args.object.now.bucket c.args.object.now.key w.parts) v in
    let some = subst (λ (w : SessionState g.row.C-Effect.Denot). 1 ≤ w.parts) v c.self.invariant.least_parts in
    let ew = ap (λ (w : SessionState g.row.C-Effect.Denot). w.name) v in
    let ei : c.len.result + 1 ≡ length f.updates.items + 1 = ap (λ n. n + 1) (c.len.ensures ∙ ap length c.reserve.ensures.same) in
    update_tells (kinds_of g.C.Crdt.laws) g.S.Store.sees g.S.Store.numbers g.S.Store.sites g.S.Store.parts c.args.store.now c.update-pass.new.self c.args.pass c.update-pass.result.0 c.args.self.now txn od c.requires.sites c.requires.parts some c.args.object.now c.as_slice-2.result.now f.site c.partition_of.result eo et eq c.args.op.now g.S.Store.tells f.name (c.len.result + 1) ew ei c.in-Ok-answer.step (if_ok _ _ _ c.in-Ok-answer.is c.update-pass.ensures.tells) c.requires.holds
