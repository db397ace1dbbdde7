use Rattle.std.proofs.Common.{Some, false, ◌≡◌, refl, sym, ap, ◌∙◌, subst}
use Rattle.world_model.specs.declared.commit.What.TheVariants as what
use Rattle.world_model.specs.declared.step.Step.TheVariants as step
use Rattle.world_model.specs.rules.Event.{led_by, AskPrepare}
use Rattle.txn_session.specs.Session.{SessionState, Txn, updates_of}
use Rattle.txn_session.specs.Fields.{doing_in}
use Rattle.txn_session.specs.Opens.{EndsAs}
use Rattle.txn_session.specs.Holds.{next_of}
use Rattle.txn_session.specs.Calls.{GoesOn, Stays}
use Rattle.txn_session.specs.SessionWaits.{StepsLater, StepWaits}
use Rattle.txn_session.specs.Waits.{is_late}
use Rattle.txn_session.proofs.Results.{if_ok, if_err}
use Rattle.txn_session.proofs.Acting.{legal_after, held_after}
use Rattle.txn_session.proofs.Ending.{is_ending, doing_end, stepped_is, said_is, later_here, may_here, number_held, prepare_may, prepare_later, prepare_waits, waits_none}
use Rattle.txn_session.proofs.Outwaiting.{waits_step}
use Rattle.txn_session.proofs.session.Session.prepare_wait_at.Goals as goal

pub prepare_wait-pass-requires : goal.prepare_wait-pass-requires
prepare_wait-pass-requires g c =
    let f = c.self.inside in
    let items = c.part_of.new.draft.items in
    let same : items ≡ f.updates.items = c.part_of.ensures.same in
    let v : ◌≡◌ {A = SessionState g.row.C-Effect.Denot} (record { name = f.name; site = f.site; sites = f.sites; parts = f.parts; dependency = f.dependency; doing = doing_in f.stage (record { tx = f.tx; s = f.s; by = f.by; updates = items }) f.lead f.commit }) c.args.self.now = (λ i. record { name = f.name; site = f.site; sites = f.sites; parts = f.parts; dependency = f.dependency; doing = doing_in f.stage (record { tx = f.tx; s = f.s; by = f.by; updates = same i }) f.lead f.commit }) ∙ c.self.view_is in
    let txn : Txn g.row.C-Effect.Denot = record { tx = f.tx; s = f.s; by = f.by; updates = items } in
    let k = is_ending _ c.args.self.now v f.stage txn f.lead f.commit refl (what.Prepare c.args.part) c.requires.next refl in
    let od = doing_end _ c.args.self.now v f.stage txn f.lead f.commit refl k in
    let et = ap (λ (w : SessionState g.row.C-Effect.Denot). w.site) v in
    let ea : (AskPrepare f.tx f.s (led_by f.lead) c.in-Ok.updates) ≡ (AskPrepare f.tx f.s (led_by f.lead) (updates_of c.args.self.now.parts items c.args.part)) = ap (λ l. AskPrepare f.tx f.s (led_by f.lead) l) (c.in-Ok.ensures.part ∙ (ap (λ l. updates_of f.parts l c.args.part) (sym same) ∙ ap (λ (w : SessionState g.row.C-Effect.Denot). updates_of w.parts items c.args.part) v)) in
    let m = c.requires.holds in
    let q = prepare_may c.args.self.now txn f.lead f.commit od m.run m.holds c.args.part c.requires.next in
    record { may = may_here g.S.Store.sees g.S.Store.numbers g.S.Store.sites g.S.Store.parts c.args.store.now c.args.store.now c.args.pass c.args.pass c.args.self.now c.requires.sites c.requires.parts (Some f.by) f.site c.args.part et (AskPrepare f.tx f.s (led_by f.lead) c.in-Ok.updates) (AskPrepare f.tx f.s (led_by f.lead) (updates_of c.args.self.now.parts items c.args.part)) ea (number_held (g.S.Store.numbers c.args.pass) c.args.self.now.doing txn f.lead f.commit od m.held) m.run m.seen q.0 q.1 }

pub returns-in-Ok-answer-clause-stepped : goal.returns-in-Ok-answer-clause-stepped
returns-in-Ok-answer-clause-stepped g c =
    let f = c.self.inside in
    let items = c.part_of.new.draft.items in
    let same : items ≡ f.updates.items = c.part_of.ensures.same in
    let v : ◌≡◌ {A = SessionState g.row.C-Effect.Denot} (record { name = f.name; site = f.site; sites = f.sites; parts = f.parts; dependency = f.dependency; doing = doing_in f.stage (record { tx = f.tx; s = f.s; by = f.by; updates = items }) f.lead f.commit }) c.args.self.now = (λ i. record { name = f.name; site = f.site; sites = f.sites; parts = f.parts; dependency = f.dependency; doing = doing_in f.stage (record { tx = f.tx; s = f.s; by = f.by; updates = same i }) f.lead f.commit }) ∙ c.self.view_is in
    let txn : Txn g.row.C-Effect.Denot = record { tx = f.tx; s = f.s; by = f.by; updates = items } in
    let k = is_ending _ c.args.self.now v f.stage txn f.lead f.commit refl (what.Prepare c.args.part) c.requires.next refl in
    let od = doing_end _ c.args.self.now v f.stage txn f.lead f.commit refl k in
    stepped_is _ c.args.self.now v f.stage txn f.lead f.commit c.answer-next.new.self od k c.in-Ok-answer.step c.answer-next.ensures.commit (what.Prepare c.args.part) c.requires.next refl f.dependency refl

pub returns-in-Ok-answer-clause-next : goal.returns-in-Ok-answer-clause-next
returns-in-Ok-answer-clause-next g c =
    let f = c.self.inside in
    let items = c.part_of.new.draft.items in
    let same : items ≡ f.updates.items = c.part_of.ensures.same in
    let v : ◌≡◌ {A = SessionState g.row.C-Effect.Denot} (record { name = f.name; site = f.site; sites = f.sites; parts = f.parts; dependency = f.dependency; doing = doing_in f.stage (record { tx = f.tx; s = f.s; by = f.by; updates = items }) f.lead f.commit }) c.args.self.now = (λ i. record { name = f.name; site = f.site; sites = f.sites; parts = f.parts; dependency = f.dependency; doing = doing_in f.stage (record { tx = f.tx; s = f.s; by = f.by; updates = same i }) f.lead f.commit }) ∙ c.self.view_is in
    let txn : Txn g.row.C-Effect.Denot = record { tx = f.tx; s = f.s; by = f.by; updates = items } in
    let k = is_ending _ c.args.self.now v f.stage txn f.lead f.commit refl (what.Prepare c.args.part) c.requires.next refl in
    let od = doing_end _ c.args.self.now v f.stage txn f.lead f.commit refl k in
    c.answer-next.ensures.next ∙ said_is c.args.self.now txn f.lead f.commit od c.in-Ok-answer.step

pub returns-in-Ok-answer-clause-ended : goal.returns-in-Ok-answer-clause-ended
returns-in-Ok-answer-clause-ended g c = subst (λ x. EndsAs c.args.self.now.name x c.in-Ok-answer.step) (sym c.requires.next) tt

pub returns-in-Ok-answer-clause-steps : goal.returns-in-Ok-answer-clause-steps
returns-in-Ok-answer-clause-steps g c run seen h =
    let f = c.self.inside in
    let items = c.part_of.new.draft.items in
    let same : items ≡ f.updates.items = c.part_of.ensures.same in
    let v : ◌≡◌ {A = SessionState g.row.C-Effect.Denot} (record { name = f.name; site = f.site; sites = f.sites; parts = f.parts; dependency = f.dependency; doing = doing_in f.stage (record { tx = f.tx; s = f.s; by = f.by; updates = items }) f.lead f.commit }) c.args.self.now = (λ i. record { name = f.name; site = f.site; sites = f.sites; parts = f.parts; dependency = f.dependency; doing = doing_in f.stage (record { tx = f.tx; s = f.s; by = f.by; updates = same i }) f.lead f.commit }) ∙ c.self.view_is in
    let txn : Txn g.row.C-Effect.Denot = record { tx = f.tx; s = f.s; by = f.by; updates = items } in
    let k = is_ending _ c.args.self.now v f.stage txn f.lead f.commit refl (what.Prepare c.args.part) c.requires.next refl in
    let od = doing_end _ c.args.self.now v f.stage txn f.lead f.commit refl k in
    let et = ap (λ (w : SessionState g.row.C-Effect.Denot). w.site) v in
    let ea : (AskPrepare f.tx f.s (led_by f.lead) c.in-Ok.updates) ≡ (AskPrepare f.tx f.s (led_by f.lead) (updates_of c.args.self.now.parts items c.args.part)) = ap (λ l. AskPrepare f.tx f.s (led_by f.lead) l) (c.in-Ok.ensures.part ∙ (ap (λ l. updates_of f.parts l c.args.part) (sym same) ∙ ap (λ (w : SessionState g.row.C-Effect.Denot). updates_of w.parts items c.args.part) v)) in
    let legal = legal_after _ g.S.Store.sees g.S.Store.sites g.S.Store.parts g.S.Store.stays g.met.S.Store.legal g.met.S.Store.keeps c.args.store.now c.prepare_wait-pass.new.self c.prepare_wait-pass.ensures.stays c.prepare_wait-pass.result.0 c.args.self.now.sites c.args.self.now.parts c.requires.sites c.requires.parts in
    let held = held_after g.S.Store.numbers c.args.pass c.prepare_wait-pass.result.0 c.prepare_wait-pass.ensures.same c.args.self.now.doing c.requires.holds.held in
    let st = stepped_is _ c.args.self.now v f.stage txn f.lead f.commit c.answer-next.new.self od k c.in-Ok-answer.step c.answer-next.ensures.commit (what.Prepare c.args.part) c.requires.next refl f.dependency refl in
    let q = prepare_may c.args.self.now txn f.lead f.commit od run h c.args.part c.requires.next in
    let goes = later_here g.S.Store.sees g.S.Store.numbers g.S.Store.sites g.S.Store.parts c.args.store.now c.args.pass c.prepare_wait-pass.result.0 c.args.self.now c.requires.sites c.requires.parts f.by f.site c.args.part et (AskPrepare f.tx f.s (led_by f.lead) c.in-Ok.updates) (AskPrepare f.tx f.s (led_by f.lead) (updates_of c.args.self.now.parts items c.args.part)) ea (g.K.Clock.shows c.args.clock.now) f.s (is_late c.in-Ok-answer.step) (λ at ask rest. GoesOn g.S.Store.sees g.S.Store.numbers c.prepare_wait-pass.new.self c.prepare_wait-pass.result.0 rest (Some f.by) at ask c.in-Ok-answer.step) (if_ok _ _ _ c.in-Ok-answer.is c.prepare_wait-pass.ensures.ok) run seen q.1 in
    subst (λ (w : SessionState g.row.C-Effect.Denot). StepsLater g.S.Store.sees g.S.Store.numbers (g.K.Clock.shows c.args.clock.now) c.prepare_wait-pass.new.self c.prepare_wait-pass.result.0 run c.args.self.now w c.in-Ok-answer.step c.args.self.now.doing (next_of c.args.self.now.doing)) (sym st)
    (prepare_later _ g.S.Store.sees g.S.Store.numbers c.prepare_wait-pass.new.self c.prepare_wait-pass.result.0 c.args.self.now txn f.lead f.commit od legal held run h c.in-Ok-answer.step c.args.part (g.K.Clock.shows c.args.clock.now) c.requires.next goes)

pub returns-in-Err-answer-clause-waits : goal.returns-in-Err-answer-clause-waits
returns-in-Err-answer-clause-waits g c run seen h =
    let f = c.self.inside in
    let items = c.part_of.new.draft.items in
    let same : items ≡ f.updates.items = c.part_of.ensures.same in
    let v : ◌≡◌ {A = SessionState g.row.C-Effect.Denot} (record { name = f.name; site = f.site; sites = f.sites; parts = f.parts; dependency = f.dependency; doing = doing_in f.stage (record { tx = f.tx; s = f.s; by = f.by; updates = items }) f.lead f.commit }) c.args.self.now = (λ i. record { name = f.name; site = f.site; sites = f.sites; parts = f.parts; dependency = f.dependency; doing = doing_in f.stage (record { tx = f.tx; s = f.s; by = f.by; updates = same i }) f.lead f.commit }) ∙ c.self.view_is in
    let txn : Txn g.row.C-Effect.Denot = record { tx = f.tx; s = f.s; by = f.by; updates = items } in
    let k = is_ending _ c.args.self.now v f.stage txn f.lead f.commit refl (what.Prepare c.args.part) c.requires.next refl in
    let od = doing_end _ c.args.self.now v f.stage txn f.lead f.commit refl k in
    let et = ap (λ (w : SessionState g.row.C-Effect.Denot). w.site) v in
    let ea : (AskPrepare f.tx f.s (led_by f.lead) c.in-Ok.updates) ≡ (AskPrepare f.tx f.s (led_by f.lead) (updates_of c.args.self.now.parts items c.args.part)) = ap (λ l. AskPrepare f.tx f.s (led_by f.lead) l) (c.in-Ok.ensures.part ∙ (ap (λ l. updates_of f.parts l c.args.part) (sym same) ∙ ap (λ (w : SessionState g.row.C-Effect.Denot). updates_of w.parts items c.args.part) v)) in
    let legal = legal_after _ g.S.Store.sees g.S.Store.sites g.S.Store.parts g.S.Store.stays g.met.S.Store.legal g.met.S.Store.keeps c.args.store.now c.prepare_wait-pass.new.self c.prepare_wait-pass.ensures.stays c.prepare_wait-pass.result.0 c.args.self.now.sites c.args.self.now.parts c.requires.sites c.requires.parts in
    let held = held_after g.S.Store.numbers c.args.pass c.prepare_wait-pass.result.0 c.prepare_wait-pass.ensures.same c.args.self.now.doing c.requires.holds.held in
    let q = prepare_may c.args.self.now txn f.lead f.commit od run h c.args.part c.requires.next in
    let goes = later_here g.S.Store.sees g.S.Store.numbers g.S.Store.sites g.S.Store.parts c.args.store.now c.args.pass c.prepare_wait-pass.result.0 c.args.self.now c.requires.sites c.requires.parts f.by f.site c.args.part et (AskPrepare f.tx f.s (led_by f.lead) c.in-Ok.updates) (AskPrepare f.tx f.s (led_by f.lead) (updates_of c.args.self.now.parts items c.args.part)) ea (g.K.Clock.shows c.args.clock.now) f.s false (λ at ask rest. Stays g.S.Store.sees g.S.Store.numbers c.prepare_wait-pass.new.self c.prepare_wait-pass.result.0 rest) (if_err _ _ _ c.in-Err-answer.is c.prepare_wait-pass.ensures.err) run seen q.1 in
    subst (λ (w : SessionState g.row.C-Effect.Denot). StepWaits g.S.Store.sees g.S.Store.numbers (g.K.Clock.shows c.args.clock.now) c.prepare_wait-pass.new.self c.prepare_wait-pass.result.0 run c.args.self.now w c.args.self.now.doing (next_of c.args.self.now.doing)) (sym v)
    (prepare_waits _ g.S.Store.sees g.S.Store.numbers c.prepare_wait-pass.new.self c.prepare_wait-pass.result.0 c.args.self.now txn f.lead f.commit od legal held run h (step.TimeEnd) c.args.part (g.K.Clock.shows c.args.clock.now) c.requires.next goes)

pub returns-in-Err-clause-waits : goal.returns-in-Err-clause-waits
returns-in-Err-clause-waits g c run seen h =
    let f = c.self.inside in
    let items = c.part_of.new.draft.items in
    let same : items ≡ f.updates.items = c.part_of.ensures.same in
    let v : ◌≡◌ {A = SessionState g.row.C-Effect.Denot} (record { name = f.name; site = f.site; sites = f.sites; parts = f.parts; dependency = f.dependency; doing = doing_in f.stage (record { tx = f.tx; s = f.s; by = f.by; updates = items }) f.lead f.commit }) c.args.self.now = (λ i. record { name = f.name; site = f.site; sites = f.sites; parts = f.parts; dependency = f.dependency; doing = doing_in f.stage (record { tx = f.tx; s = f.s; by = f.by; updates = same i }) f.lead f.commit }) ∙ c.self.view_is in
    subst (λ (w : SessionState g.row.C-Effect.Denot). StepWaits g.S.Store.sees g.S.Store.numbers (g.K.Clock.shows c.args.clock.now) c.args.store.now c.args.pass run c.args.self.now w c.args.self.now.doing (next_of c.args.self.now.doing)) (sym v)
    (waits_step g.S.Store.sees g.S.Store.numbers (g.K.Clock.shows c.args.clock.now) c.args.store.now c.args.pass run c.args.self.now c.args.self.now c.args.self.now.doing (next_of c.args.self.now.doing) (waits_none g.S.Store.sees g.S.Store.numbers c.args.store.now c.args.pass run c.args.self.now c.args.self.now c.args.self.now refl refl seen h c.requires.holds.held))
