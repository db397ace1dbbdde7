use Rattle.std.proofs.Common.{◌≡◌, None, rules, sym, ap, ◌∙◌, subst}
use Rattle.std.proofs.lemmas.Map.Steps.{set_value_same}
use Rattle.world_model.specs.declared.command.Command.TheVariants as command
use Rattle.site_partitions.specs.Reaches.{types_of}
use Rattle.cluster.specs.Acts.{Acts, Reads}
use Rattle.cluster.specs.Live.{session_in}
use Rattle.cluster.specs.Reached.{AppliesLive}
use Rattle.cluster.proofs.Applying.{map_ok, ok_is}
use Rattle.cluster.proofs.Commands.{open_phase, read_absent, read_shut, read_applies}
use Rattle.cluster.specs.Live.{is_open_phase}
use Rattle.cluster.proofs.updates.read_in.Goals as goal

pub returns-then-not-is_open : goal.returns-then-not-is_open
returns-then-not-is_open g c =
    let same : (c.get_mut.follows.lender c.in-Some.session.now).entries ≡ c.args.sessions.now.entries = search (rules, set_value_same) in
    map_ok c.only_in.result (λ steps is. subst (λ l. AppliesLive (types_of g.C.Crdt.laws g.C.Crdt.spells g.D.Disk.state) (record { sites = c.args.sites.now; sessions = c.args.sessions.now.entries }) (command.Read c.args.name.now c.args.object.now) steps.items (record { sites = c.args.sites.now; sessions = l })) (sym same)
    (read_shut (types_of g.C.Crdt.laws g.C.Crdt.spells g.D.Disk.state) (record { sites = c.args.sites.now; sessions = c.args.sessions.now.entries }) c.args.name.now c.args.object.now steps.items is c.in-Some.session.now (search rules) (sym (open_phase c.in-Some.session.now.doing) ∙ (ap is_open_phase (sym c.phase.ensures) ∙ (sym c.is_open.ensures ∙ c.if-not-is_open.true))))) c.only_in.ensures

pub returns-in-Ok : goal.returns-in-Ok
returns-in-Ok g c =
    let acts : Acts (types_of g.C.Crdt.laws g.C.Crdt.spells g.D.Disk.state) c.args.sites.now c.args.sessions.now.entries c.args.name.now c.read-answer.new.store (c.get_mut.follows.lender c.read-answer.new.self).entries (Reads (types_of g.C.Crdt.laws g.C.Crdt.spells g.D.Disk.state) c.args.sites.now c.read-answer.new.store c.args.object.now c.in-Ok.step) = record {
      before = c.in-Some.session.now;
      is = search rules;
      after = c.read-answer.new.self;
      put = record { find = λ who. search rules; count = search rules };
      same = c.read-answer.ensures.stays;
      does = λ calls seen holds. (ok_is _ _ _ c.in-Ok.is c.read-answer.ensures.tells, c.read-answer.ensures.as_before, ok_is _ _ _ c.in-Ok.is c.read-answer.ensures.reads calls seen holds);
    } in
    map_ok c.only_in-in-Ok.result (λ steps is. read_applies (types_of g.C.Crdt.laws g.C.Crdt.spells g.D.Disk.state) (record { sites = c.args.sites.now; sessions = c.args.sessions.now.entries }) c.args.name.now c.args.object.now c.read-answer.new.store (c.get_mut.follows.lender c.read-answer.new.self).entries c.in-Ok.step steps.items is acts (sym (open_phase c.in-Some.session.now.doing) ∙ (ap is_open_phase (sym c.phase.ensures) ∙ (sym c.is_open.ensures ∙ c.if-not-is_open.false)))) c.only_in-in-Ok.ensures

pub returns-in-None : goal.returns-in-None
returns-in-None g c =
    let same : c.get_mut.follows.lender-at-none.entries ≡ c.args.sessions.now.entries = search rules in
    let none : session_in c.args.sessions.now.entries c.args.name.now ≡ None = search rules in
    map_ok c.only_in-in-None.result (λ steps is. subst (λ l. AppliesLive (types_of g.C.Crdt.laws g.C.Crdt.spells g.D.Disk.state) (record { sites = c.args.sites.now; sessions = c.args.sessions.now.entries }) (command.Read c.args.name.now c.args.object.now) steps.items (record { sites = c.args.sites.now; sessions = l })) (sym same)
    (read_absent (types_of g.C.Crdt.laws g.C.Crdt.spells g.D.Disk.state) (record { sites = c.args.sites.now; sessions = c.args.sessions.now.entries }) c.args.name.now c.args.object.now steps.items is none)) c.only_in-in-None.ensures
