use Rattle.std.proofs.Common.{◌≡◌, ◌≤◌, None, Some, refl, rules, sym, ap, ◌∙◌, subst}
use Rattle.std.proofs.lemmas.Map.Steps.{set_value_same}
use Rattle.world_model.specs.declared.command.Command.TheVariants as command
use Rattle.site_partitions.specs.Reaches.{types_of}
use Rattle.cluster.specs.Acts.{Acts, Begins}
use Rattle.cluster.specs.Live.{session_in, are_idle, is_idle_phase, phase_about, may_begin_at}
use Rattle.cluster.specs.Reached.{AppliesLive}
use Rattle.cluster.proofs.Applying.{map_ok, ok_is}
use Rattle.cluster.proofs.Beginning.{idle_phase, begin_absent, begin_elsewhere, begin_busy, begin_applies, part_least}
use Rattle.cluster.proofs.begins.begin_in.Goals as goal

pub open-answer-requires-clause-least : goal.open-answer-requires-clause-least
open-answer-requires-clause-least g c = subst (λ n. 1 ≤ n) (sym c.number_of.ensures) (part_least c.args.sites.now c.args.part c.requires.place)

pub open-answer-requires-clause-most : goal.open-answer-requires-clause-most
open-answer-requires-clause-most g c = search rules

pub returns-then-not-is_of_own_site : goal.returns-then-not-is_of_own_site
returns-then-not-is_of_own_site g c =
    let is : session_in c.args.sessions.now.entries c.args.name.now ≡ Some c.in-Some.session.now = search rules in
    let rest : (c.get_mut.follows.lender c.in-Some.session.now).entries ≡ c.args.sessions.now.entries = search (rules, set_value_same) in
    let away = ap (λ o. may_begin_at o c.args.part) is ∙ (sym c.is_of_own_site.ensures ∙ c.if-not-is_of_own_site.true) in
    map_ok c.only_in.result (λ steps e. subst (λ l. AppliesLive (types_of g.C.Crdt.laws g.C.Crdt.spells g.D.Disk.state) (record { sites = c.args.sites.now; sessions = c.args.sessions.now.entries }) (command.Begin c.args.name.now c.args.part c.args.mode) steps.items (record { sites = c.args.sites.now; sessions = l })) (sym rest)
    (begin_elsewhere (types_of g.C.Crdt.laws g.C.Crdt.spells g.D.Disk.state) (record { sites = c.args.sites.now; sessions = c.args.sessions.now.entries }) c.args.name.now c.args.part c.args.mode steps.items e c.requires.place _ (record { found = c.in-Some.session.now; is = is; so = refl }) away)) c.only_in.ensures

pub returns-then-not-is_idle : goal.returns-then-not-is_idle
returns-then-not-is_idle g c =
    let is : session_in c.args.sessions.now.entries c.args.name.now ≡ Some c.in-Some.session.now = search rules in
    let rest : (c.get_mut.follows.lender c.in-Some.session.now).entries ≡ c.args.sessions.now.entries = search (rules, set_value_same) in
    let here = ap (λ o. may_begin_at o c.args.part) is ∙ (sym c.is_of_own_site.ensures ∙ c.if-not-is_of_own_site.false) in
    let busy = sym (idle_phase c.in-Some.session.now.doing) ∙ (ap is_idle_phase (sym c.phase.ensures) ∙ (sym c.is_idle.ensures ∙ c.if-not-is_idle.true)) in
    map_ok c.only_in-then-not-is_idle.result (λ steps e. subst (λ l. AppliesLive (types_of g.C.Crdt.laws g.C.Crdt.spells g.D.Disk.state) (record { sites = c.args.sites.now; sessions = c.args.sessions.now.entries }) (command.Begin c.args.name.now c.args.part c.args.mode) steps.items (record { sites = c.args.sites.now; sessions = l })) (sym rest)
    (begin_busy (types_of g.C.Crdt.laws g.C.Crdt.spells g.D.Disk.state) (record { sites = c.args.sites.now; sessions = c.args.sessions.now.entries }) c.args.name.now c.args.part c.args.mode steps.items e c.requires.place here (record { found = c.in-Some.session.now; is = is; so = busy }))) c.only_in-then-not-is_idle.ensures

pub returns-in-Ok : goal.returns-in-Ok
returns-in-Ok g c =
    let is : session_in c.args.sessions.now.entries c.args.name.now ≡ Some c.in-Some.session.now = search rules in
    let here = ap (λ o. may_begin_at o c.args.part) is ∙ (sym c.is_of_own_site.ensures ∙ c.if-not-is_of_own_site.false) in
    let idles = ap (λ o. are_idle (phase_about o)) is ∙ (ap is_idle_phase (sym c.phase.ensures) ∙ (sym c.is_idle.ensures ∙ c.if-not-is_idle.false)) in
    let acts : Acts (types_of g.C.Crdt.laws g.C.Crdt.spells g.D.Disk.state) c.args.sites.now c.args.sessions.now.entries c.args.name.now c.open-answer.new.store (c.get_mut.follows.lender c.open-answer.new.self).entries (Begins (types_of g.C.Crdt.laws g.C.Crdt.spells g.D.Disk.state) c.args.sites.now c.open-answer.new.store c.number_of.result c.args.mode c.in-Ok.step) = record {
      before = c.in-Some.session.now;
      is = is;
      after = c.open-answer.new.self;
      put = record { find = λ who. search rules; count = search rules };
      same = c.open-answer.ensures.stays;
      does = λ calls seen holds. (ok_is _ _ _ c.in-Ok.is c.open-answer.ensures.tells, ok_is _ _ _ c.in-Ok.is c.open-answer.ensures.opened, ok_is _ _ _ c.in-Ok.is c.open-answer.ensures.opens calls seen holds);
    } in
    map_ok c.only_in-in-Ok.result (λ steps e. begin_applies (types_of g.C.Crdt.laws g.C.Crdt.spells g.D.Disk.state) (record { sites = c.args.sites.now; sessions = c.args.sessions.now.entries }) c.args.name.now c.args.part c.args.mode c.open-answer.new.store (c.get_mut.follows.lender c.open-answer.new.self).entries c.in-Ok.step steps.items e c.requires.place here idles
    (subst (λ n. Acts (types_of g.C.Crdt.laws g.C.Crdt.spells g.D.Disk.state) c.args.sites.now c.args.sessions.now.entries c.args.name.now c.open-answer.new.store (c.get_mut.follows.lender c.open-answer.new.self).entries (Begins (types_of g.C.Crdt.laws g.C.Crdt.spells g.D.Disk.state) c.args.sites.now c.open-answer.new.store n c.args.mode c.in-Ok.step)) c.number_of.ensures acts)) c.only_in-in-Ok.ensures

pub returns-in-None : goal.returns-in-None
returns-in-None g c =
    let same : c.get_mut.follows.lender-at-none.entries ≡ c.args.sessions.now.entries = search rules in
    let none : session_in c.args.sessions.now.entries c.args.name.now ≡ None = search rules in
    map_ok c.only_in-in-None.result (λ steps is. subst (λ l. AppliesLive (types_of g.C.Crdt.laws g.C.Crdt.spells g.D.Disk.state) (record { sites = c.args.sites.now; sessions = c.args.sessions.now.entries }) (command.Begin c.args.name.now c.args.part c.args.mode) steps.items (record { sites = c.args.sites.now; sessions = l })) (sym same)
    (begin_absent (types_of g.C.Crdt.laws g.C.Crdt.spells g.D.Disk.state) (record { sites = c.args.sites.now; sessions = c.args.sessions.now.entries }) c.args.name.now c.args.part c.args.mode steps.items is c.requires.place none)) c.only_in-in-None.ensures
