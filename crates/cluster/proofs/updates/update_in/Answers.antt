use Rattle.std.proofs.Common.{◌≡◌, None, rules, sym, ap, ◌∙◌, subst}
use Rattle.std.proofs.lemmas.Map.Steps.{set_value_same}
use Rattle.world_model.specs.declared.command.Command.TheVariants as command
use Rattle.site_partitions.specs.Reaches.{types_of}
use Rattle.cluster.specs.Acts.{Acts, Updates}
use Rattle.cluster.specs.Live.{session_in}
use Rattle.cluster.specs.Reached.{AppliesLive}
use Rattle.cluster.proofs.Applying.{map_ok, ok_is, err_is}
use Rattle.cluster.proofs.Updating.{not_due, unanswered, update_absent, update_applies}
use Rattle.cluster.proofs.updates.update_in.Goals as goal

pub returns-in-Ok-refused : goal.returns-in-Ok-refused
returns-in-Ok-refused g c =
    let rest : (c.get_mut.follows.lender c.in-Some.session.now).entries ≡ c.args.sessions.now.entries = search (rules, set_value_same) in
    let same : (c.get_mut.follows.lender c.update-answer.new.self).entries ≡ c.args.sessions.now.entries = ap (λ s. (c.get_mut.follows.lender s).entries) (err_is _ _ _ c.in-Err.is c.update-answer.ensures.err) ∙ rest in
    let told = unanswered (types_of g.C.Crdt.laws g.C.Crdt.spells g.D.Disk.state) (record { sites = c.args.sites.now; sessions = c.args.sessions.now.entries }) c.args.name.now c.args.object.now c.args.op.now c.requires.shallow c.update-answer.result.1 c.in-Err.error c.in-Some.session.now c.update-answer.new.store (c.get_mut.follows.lender c.update-answer.new.self).entries c.refused.result c.in-Err.is c.update-answer.ensures.refused (search rules) same c.refused.ensures.line in
    map_ok c.only_in.result (λ steps is. subst (λ l. AppliesLive (types_of g.C.Crdt.laws g.C.Crdt.spells g.D.Disk.state) (record { sites = c.args.sites.now; sessions = c.args.sessions.now.entries }) (command.Update c.args.name.now c.args.object.now c.args.op.now) l (record { sites = c.update-answer.new.store; sessions = (c.get_mut.follows.lender c.update-answer.new.self).entries })) (sym is) (ok_is _ _ _ c.in-Ok-refused.is told)) c.only_in.ensures

pub returns-in-Ok : goal.returns-in-Ok
returns-in-Ok g c =
    let acts : Acts (types_of g.C.Crdt.laws g.C.Crdt.spells g.D.Disk.state) c.args.sites.now c.args.sessions.now.entries c.args.name.now c.update-answer.new.store (c.get_mut.follows.lender c.update-answer.new.self).entries (Updates (types_of g.C.Crdt.laws g.C.Crdt.spells g.D.Disk.state) c.args.sites.now c.update-answer.new.store c.args.object.now c.args.op.now c.in-Ok.step) = record {
      before = c.in-Some.session.now;
      is = search rules;
      after = c.update-answer.new.self;
      put = record { find = λ who. search rules; count = search rules };
      same = c.update-answer.ensures.stays;
      does = λ calls seen holds. (ok_is _ _ _ c.in-Ok.is c.update-answer.ensures.tells, ok_is _ _ _ c.in-Ok.is c.update-answer.ensures.updated, ok_is _ _ _ c.in-Ok.is c.update-answer.ensures.updates calls seen holds);
    } in
    map_ok c.only_update_in.result (λ steps is. update_applies (types_of g.C.Crdt.laws g.C.Crdt.spells g.D.Disk.state) (record { sites = c.args.sites.now; sessions = c.args.sessions.now.entries }) c.args.name.now c.args.object.now c.args.op.now c.update-answer.new.store (c.get_mut.follows.lender c.update-answer.new.self).entries c.in-Ok.step steps.items is acts (not_due _ c.update-answer.result.1 _ c.in-Ok.step c.in-Ok.is c.update-answer.ensures.refused)) c.only_update_in.ensures

pub returns-in-None : goal.returns-in-None
returns-in-None g c =
    let same : c.get_mut.follows.lender-at-none.entries ≡ c.args.sessions.now.entries = search rules in
    let none : session_in c.args.sessions.now.entries c.args.name.now ≡ None = search rules in
    map_ok c.only_in-in-None.result (λ steps is. subst (λ l. AppliesLive (types_of g.C.Crdt.laws g.C.Crdt.spells g.D.Disk.state) (record { sites = c.args.sites.now; sessions = c.args.sessions.now.entries }) (command.Update c.args.name.now c.args.object.now c.args.op.now) steps.items (record { sites = c.args.sites.now; sessions = l })) (sym same)
    (update_absent (types_of g.C.Crdt.laws g.C.Crdt.spells g.D.Disk.state) (record { sites = c.args.sites.now; sessions = c.args.sessions.now.entries }) c.args.name.now c.args.object.now c.args.op.now steps.items is none)) c.only_in-in-None.ensures
