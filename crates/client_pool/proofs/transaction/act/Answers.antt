use Rattle.std.proofs.Common.{◌≡◌, List, [], ◌∷◌, ◌++◌, refl, sym, ap, ◌∙◌, subst}
use Rattle.std.specs.Prelude.{OnOk}
use Rattle.txn_session.specs.Session.{SessionState}
use Rattle.txn_session.proofs.Results.{if_ok}
use Rattle.client_pool.specs.Coming.{IsSession}
use Rattle.client_pool.specs.Deeds.{Ticks, Begins}
use Rattle.client_pool.specs.Commits.{committing_at}
use Rattle.client_pool.specs.Works.{HasOpen, both_read, all_updated, objects_in, parts_with}
use Rattle.client_pool.proofs.Coming.{ready_next, came_more}
use Rattle.client_pool.proofs.Working.{came_as, is_opened, committing_is}
use Rattle.client_pool.proofs.transaction.act.Goals as goal

pub read_both-pass-requires-clause-ready : goal.read_both-pass-requires-clause-ready
read_both-pass-requires-clause-ready g c =
    let s = c.args.session.now in let s1 = c.start-pass.new.session in let w = c.args.work.now in let at = c.args.at in
    let st = if_ok _ _ _ c.in-Ok.is c.start-pass.ensures.ok in
    let ready1 = ready_next g.S.Store.sees g.S.Store.numbers c.args.store c.args.pass c.start-pass.result.0 s s1 (Begins at s.name st.tx ∷ Ticks at ∷ []) c.requires.ready st.came in
    ready1

pub update_all-pass-requires-clause-ready : goal.update_all-pass-requires-clause-ready
update_all-pass-requires-clause-ready g c =
    let s = c.args.session.now in let s1 = c.start-pass.new.session in let w = c.args.work.now in let at = c.args.at in
    let st = if_ok _ _ _ c.in-Ok.is c.start-pass.ensures.ok in
    let ready1 = ready_next g.S.Store.sees g.S.Store.numbers c.args.store c.args.pass c.start-pass.result.0 s s1 (Begins at s.name st.tx ∷ Ticks at ∷ []) c.requires.ready st.came in
    let s2 = c.read_both-pass.new.session in
    let rb = if_ok _ _ _ c.in-Ok-done.is c.read_both-pass.ensures.ok st.tx [] st.opened in
    let ready2 = ready_next g.S.Store.sees g.S.Store.numbers c.args.store c.start-pass.result.0 c.read_both-pass.result.0 s1 s2 (both_read st.tx w) ready1 rb in
    let h2 = subst (λ (x : SessionState g.row.C-Effect.Denot). HasOpen x st.tx []) (sym c.read_both-pass.ensures.as_before) st.opened in
    ready2

pub commit-pass-requires-clause-open : goal.commit-pass-requires-clause-open
commit-pass-requires-clause-open g c =
    let s = c.args.session.now in let s1 = c.start-pass.new.session in let w = c.args.work.now in let at = c.args.at in
    let st = if_ok _ _ _ c.in-Ok.is c.start-pass.ensures.ok in
    let ready1 = ready_next g.S.Store.sees g.S.Store.numbers c.args.store c.args.pass c.start-pass.result.0 s s1 (Begins at s.name st.tx ∷ Ticks at ∷ []) c.requires.ready st.came in
    let s2 = c.read_both-pass.new.session in
    let rb = if_ok _ _ _ c.in-Ok-done.is c.read_both-pass.ensures.ok st.tx [] st.opened in
    let ready2 = ready_next g.S.Store.sees g.S.Store.numbers c.args.store c.start-pass.result.0 c.read_both-pass.result.0 s1 s2 (both_read st.tx w) ready1 rb in
    let h2 = subst (λ (x : SessionState g.row.C-Effect.Denot). HasOpen x st.tx []) (sym c.read_both-pass.ensures.as_before) st.opened in
    let s3 = c.update_all-pass.new.session in
    let up = if_ok _ _ _ c.in-Ok-done-2.is c.update_all-pass.ensures.ok st.tx [] h2 in
    let ho = if_ok _ _ _ c.in-Ok-done-2.is c.update_all-pass.ensures.open st.tx [] h2 in
    let ready3 = ready_next g.S.Store.sees g.S.Store.numbers c.args.store c.read_both-pass.result.0 c.update_all-pass.result.0 s2 s3 (all_updated st.tx w) ready2 up in
    is_opened s3 st.tx (objects_in w) ho

pub commit-pass-requires-clause-ready : goal.commit-pass-requires-clause-ready
commit-pass-requires-clause-ready g c =
    let s = c.args.session.now in let s1 = c.start-pass.new.session in let w = c.args.work.now in let at = c.args.at in
    let st = if_ok _ _ _ c.in-Ok.is c.start-pass.ensures.ok in
    let ready1 = ready_next g.S.Store.sees g.S.Store.numbers c.args.store c.args.pass c.start-pass.result.0 s s1 (Begins at s.name st.tx ∷ Ticks at ∷ []) c.requires.ready st.came in
    let s2 = c.read_both-pass.new.session in
    let rb = if_ok _ _ _ c.in-Ok-done.is c.read_both-pass.ensures.ok st.tx [] st.opened in
    let ready2 = ready_next g.S.Store.sees g.S.Store.numbers c.args.store c.start-pass.result.0 c.read_both-pass.result.0 s1 s2 (both_read st.tx w) ready1 rb in
    let h2 = subst (λ (x : SessionState g.row.C-Effect.Denot). HasOpen x st.tx []) (sym c.read_both-pass.ensures.as_before) st.opened in
    let s3 = c.update_all-pass.new.session in
    let up = if_ok _ _ _ c.in-Ok-done-2.is c.update_all-pass.ensures.ok st.tx [] h2 in
    let ho = if_ok _ _ _ c.in-Ok-done-2.is c.update_all-pass.ensures.open st.tx [] h2 in
    let ready3 = ready_next g.S.Store.sees g.S.Store.numbers c.args.store c.read_both-pass.result.0 c.update_all-pass.result.0 s2 s3 (all_updated st.tx w) ready2 up in
    ready3

pub returns-in-Ok-done-3-clause-ok : goal.returns-in-Ok-done-3-clause-ok
returns-in-Ok-done-3-clause-ok g c =
    let s = c.args.session.now in let s1 = c.start-pass.new.session in let w = c.args.work.now in let at = c.args.at in
    let st = if_ok _ _ _ c.in-Ok.is c.start-pass.ensures.ok in
    let ready1 = ready_next g.S.Store.sees g.S.Store.numbers c.args.store c.args.pass c.start-pass.result.0 s s1 (Begins at s.name st.tx ∷ Ticks at ∷ []) c.requires.ready st.came in
    let s2 = c.read_both-pass.new.session in
    let rb = if_ok _ _ _ c.in-Ok-done.is c.read_both-pass.ensures.ok st.tx [] st.opened in
    let ready2 = ready_next g.S.Store.sees g.S.Store.numbers c.args.store c.start-pass.result.0 c.read_both-pass.result.0 s1 s2 (both_read st.tx w) ready1 rb in
    let h2 = subst (λ (x : SessionState g.row.C-Effect.Denot). HasOpen x st.tx []) (sym c.read_both-pass.ensures.as_before) st.opened in
    let s3 = c.update_all-pass.new.session in
    let up = if_ok _ _ _ c.in-Ok-done-2.is c.update_all-pass.ensures.ok st.tx [] h2 in
    let ho = if_ok _ _ _ c.in-Ok-done-2.is c.update_all-pass.ensures.open st.tx [] h2 in
    let ready3 = ready_next g.S.Store.sees g.S.Store.numbers c.args.store c.read_both-pass.result.0 c.update_all-pass.result.0 s2 s3 (all_updated st.tx w) ready2 up in
    let s4 = c.commit-pass.new.session in
    let cm = if_ok _ _ _ c.in-Ok-done-3.is c.commit-pass.ensures.ok in
    let n3 : IsSession s2 s3 = subst (λ r. OnOk r (IsSession s2 s3)) c.in-Ok-done-2.is c.update_all-pass.ensures.named in
    let same2 = c.read_both-pass.ensures.as_before in
    let site : s3.site ≡ at.site = n3.site ∙ (ap (λ (x : SessionState g.row.C-Effect.Denot). x.site) same2 ∙ (st.named.site ∙ c.requires.site)) in
    let parts : s3.parts ≡ c.args.plan.now.parts = n3.parts ∙ (ap (λ (x : SessionState g.row.C-Effect.Denot). x.parts) same2 ∙ (st.named.parts ∙ c.requires.plan_parts)) in
    let ended = came_as g.S.Store.sees g.S.Store.numbers c.args.store c.update_all-pass.result.0 c.commit-pass.result.0 s3 s4 _ (committing_at at.site st.tx (parts_with c.args.plan.now.parts (objects_in w))) (committing_is s3 st.tx (objects_in w) ho ∙ (λ i. committing_at (site i) st.tx (parts_with (parts i) (objects_in w)))) cm in
    let begun = Begins at s.name st.tx ∷ Ticks at ∷ [] in
    let a = came_more g.S.Store.sees g.S.Store.numbers c.args.store c.args.pass c.start-pass.result.0 c.read_both-pass.result.0 s s1 s2 begun (both_read st.tx w) st.came rb in
    let b = came_more g.S.Store.sees g.S.Store.numbers c.args.store c.args.pass c.read_both-pass.result.0 c.update_all-pass.result.0 s s2 s3 (both_read st.tx w ++ begun) (all_updated st.tx w) a up in
    let d = came_more g.S.Store.sees g.S.Store.numbers c.args.store c.args.pass c.update_all-pass.result.0 c.commit-pass.result.0 s s3 s4 (all_updated st.tx w ++ (both_read st.tx w ++ begun)) (committing_at at.site st.tx (parts_with c.args.plan.now.parts (objects_in w))) b ended in
    (st.tx, d)
