use Rattle.std.proofs.Common.{◌≡◌, sym, ap, ◌∙◌, subst, length}
use Rattle.txn_session.specs.Session.{SessionState, is_idle}
use Rattle.std.proofs.lemmas.Bool.{true≢false}
use Rattle.txn_session.proofs.Results.{if_ok, if_err, bad_ok}
use Rattle.txn_session.proofs.Opening.{open_width, open_made, open_began, open_refused, not_opened, idle_waits, idle_in, length-join}
use Rattle.txn_session.proofs.session.Session.open.Goals as goal

pub join-self-inside-requires : goal.join-self-inside-requires
join-self-inside-requires g c =
    open_width _ g.S.Store.sees g.S.Store.numbers g.S.Store.sites g.S.Store.parts g.S.Store.stays g.met.S.Store.legal g.met.S.Store.keeps c.args.store.now c.begin-pass.new.self c.begin-pass.ensures.stays c.args.pass c.begin-pass.result.0 _ c.args.self.now c.self.view_is c.requires.sites c.requires.parts
    (idle_in c.self.inside.stage (record { tx = c.self.inside.tx; s = c.self.inside.s; by = c.self.inside.by; updates = c.self.inside.updates.items }) c.self.inside.lead c.self.inside.commit c.in-Idle.is) c.args.part c.in-Ok.by c.args.mode c.in-Ok.step (if_ok _ _ _ c.in-Ok.is c.begin-pass.ensures.ok) (if_ok _ _ _ c.in-Ok.is c.begin-pass.ensures.least) c.in-Began.name c.in-Began.tx c.in-Began.s c.in-Began.is c.requires.holds

pub invariant_of-self : goal.invariant_of-self
invariant_of-self g c =
    let i = c.self.invariant in
    let w : length c.self.inside.dependency ≡ length c.in-Began.s = open_width _ g.S.Store.sees g.S.Store.numbers g.S.Store.sites g.S.Store.parts g.S.Store.stays g.met.S.Store.legal g.met.S.Store.keeps c.args.store.now c.begin-pass.new.self c.begin-pass.ensures.stays c.args.pass c.begin-pass.result.0 _ c.args.self.now c.self.view_is c.requires.sites c.requires.parts
    (idle_in c.self.inside.stage (record { tx = c.self.inside.tx; s = c.self.inside.s; by = c.self.inside.by; updates = c.self.inside.updates.items }) c.self.inside.lead c.self.inside.commit c.in-Idle.is) c.args.part c.in-Ok.by c.args.mode c.in-Ok.step (if_ok _ _ _ c.in-Ok.is c.begin-pass.ensures.ok) (if_ok _ _ _ c.in-Ok.is c.begin-pass.ensures.least) c.in-Began.name c.in-Began.tx c.in-Began.s c.in-Began.is c.requires.holds in
    record { least_site = i.least_site; most_site = i.most_site; most_sites = i.most_sites; least_parts = i.least_parts; most_parts = i.most_parts; width = ap length c.join-self-inside.ensures ∙ (length-join c.self.inside.dependency c.in-Began.s w ∙ i.width); entries = sym w ∙ i.width }

pub returns-in-Began-clause-opened : goal.returns-in-Began-clause-opened
returns-in-Began-clause-opened g c = (
  c.in-Ok.by,
  open_made _ g.S.Store.sees g.S.Store.numbers g.S.Store.sites g.S.Store.parts g.S.Store.stays g.met.S.Store.legal g.met.S.Store.keeps c.args.store.now c.begin-pass.new.self c.begin-pass.ensures.stays c.args.pass c.begin-pass.result.0 _ c.args.self.now c.self.view_is c.requires.sites c.requires.parts
      (idle_in c.self.inside.stage (record { tx = c.self.inside.tx; s = c.self.inside.s; by = c.self.inside.by; updates = c.self.inside.updates.items }) c.self.inside.lead c.self.inside.commit c.in-Idle.is) c.args.part c.in-Ok.by c.args.mode c.in-Ok.step (if_ok _ _ _ c.in-Ok.is c.begin-pass.ensures.ok) (if_ok _ _ _ c.in-Ok.is c.begin-pass.ensures.least) c.in-Began.name c.in-Began.tx c.in-Began.s c.in-Began.is c.join-self-inside.result c.clear.new.self.items c.join-self-inside.ensures c.clear.ensures,
)

pub returns-in-Began-clause-opens : goal.returns-in-Began-clause-opens
returns-in-Began-clause-opens g c =
    open_began _ g.S.Store.sees g.S.Store.numbers g.S.Store.sites g.S.Store.parts g.S.Store.stays g.met.S.Store.legal g.met.S.Store.keeps c.args.store.now c.begin-pass.new.self c.begin-pass.ensures.stays c.args.pass c.begin-pass.result.0 _ c.args.self.now c.self.view_is c.requires.sites c.requires.parts
    (idle_in c.self.inside.stage (record { tx = c.self.inside.tx; s = c.self.inside.s; by = c.self.inside.by; updates = c.self.inside.updates.items }) c.self.inside.lead c.self.inside.commit c.in-Idle.is) c.args.part c.in-Ok.by c.args.mode c.in-Ok.step (if_ok _ _ _ c.in-Ok.is c.begin-pass.ensures.ok) (if_ok _ _ _ c.in-Ok.is c.begin-pass.ensures.least) c.in-Began.name c.in-Began.tx c.in-Began.s c.in-Began.is c.join-self-inside.result c.clear.new.self.items c.join-self-inside.ensures c.clear.ensures

pub returns-in-Began-clause-tells : goal.returns-in-Began-clause-tells
returns-in-Began-clause-tells g c =
    subst (λ x. g.S.Store.tells c.args.store.now c.begin-pass.new.self (record { site = c.args.self.now.site; part = c.args.part }) x) c.in-Began.is
    (subst (λ (w : SessionState g.row.C-Effect.Denot). g.S.Store.tells c.args.store.now c.begin-pass.new.self (record { site = w.site; part = c.args.part }) c.in-Ok.step) c.self.view_is (if_ok _ _ _ c.in-Ok.is c.begin-pass.ensures.tells))

pub returns-in_default-step : goal.returns-in_default-step
returns-in_default-step g c = record {
  stays = c.begin-pass.ensures.stays;
  same = c.begin-pass.ensures.same;
  tells = subst (λ (w : SessionState g.row.C-Effect.Denot). g.S.Store.tells c.args.store.now c.begin-pass.new.self (record { site = w.site; part = c.args.part }) c.in-Ok.step) c.self.view_is (if_ok _ _ _ c.in-Ok.is c.begin-pass.ensures.tells);
  has_txn = (λ e. absurd (bad_ok _ _ e), λ h. absurd (true≢false (sym (ap is_idle (sym (ap (λ (w : SessionState _). w.doing) c.self.view_is) ∙ idle_in c.self.inside.stage (record { tx = c.self.inside.tx; s = c.self.inside.s; by = c.self.inside.by; updates = c.self.inside.updates.items }) c.self.inside.lead c.self.inside.commit c.in-Idle.is)) ∙ h)));
  only = tt;
  err = tt;
  opened = not_opened c.args.self.now c.in-Ok.step (λ n t v e. c.in_default-step.not-Began n t v e);
  opens =
      open_refused _ g.S.Store.sees g.S.Store.numbers g.S.Store.sites g.S.Store.parts g.S.Store.stays g.met.S.Store.legal g.met.S.Store.keeps c.args.store.now c.begin-pass.new.self c.begin-pass.ensures.stays c.args.pass c.begin-pass.result.0 _ c.args.self.now c.self.view_is c.requires.sites c.requires.parts
      (idle_in c.self.inside.stage (record { tx = c.self.inside.tx; s = c.self.inside.s; by = c.self.inside.by; updates = c.self.inside.updates.items }) c.self.inside.lead c.self.inside.commit c.in-Idle.is) c.args.part c.in-Ok.by c.args.mode c.in-Ok.step (if_ok _ _ _ c.in-Ok.is c.begin-pass.ensures.ok) (if_ok _ _ _ c.in-Ok.is c.begin-pass.ensures.least);
  waits = tt;
}

pub returns-in-Err-clause-waits : goal.returns-in-Err-clause-waits
returns-in-Err-clause-waits g c run seen h = idle_waits g.S.Store.sees g.S.Store.numbers c.args.self.now (sym (ap (λ (w : SessionState _). w.doing) c.self.view_is) ∙ idle_in c.self.inside.stage (record { tx = c.self.inside.tx; s = c.self.inside.s; by = c.self.inside.by; updates = c.self.inside.updates.items }) c.self.inside.lead c.self.inside.commit c.in-Idle.is) c.begin-pass.new.self c.begin-pass.result.0 run h (if_err _ _ _ c.in-Err.is c.begin-pass.ensures.err run seen)
