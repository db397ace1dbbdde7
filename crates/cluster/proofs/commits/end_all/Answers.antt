use Rattle.std.proofs.Common.{◌∙◌, ◌∷◌, [], ◌++◌, sym, ap, subst}
use Rattle.site_partitions.specs.Reaches.{types_of}
use Rattle.cluster.specs.Ends.{command_of, stops}
use Rattle.cluster.specs.Live.{session_in}
use Rattle.cluster.specs.Reached.{AppliesLive}
use Rattle.cluster.proofs.Leading.{IsOnWay, at_start, may_end, at_end, at_stop, at_next, at_fewer}
use Rattle.cluster.proofs.commits.end_all.Goals as goal

pub steps-init : goal.steps-init
steps-init g c = subst (λ lines. IsOnWay (types_of g.C.Crdt.laws g.C.Crdt.spells g.D.Disk.state) (record { sites = c.args.sites.now; sessions = c.args.sessions.now.entries }) c.args.way c.args.name.now c.args.steps (record { sites = c.args.sites.now; sessions = c.args.sessions.now.entries }) c.args.steps lines) (sym c.emptied-lines.ensures)
    (at_start (types_of g.C.Crdt.laws g.C.Crdt.spells g.D.Disk.state) (record { sites = c.args.sites.now; sessions = c.args.sessions.now.entries }) c.args.way c.args.name.now c.args.steps c.requires.some c.requires.can c.requires.reached)

pub end_once-requires-clause-can : goal.end_once-requires-clause-can
end_once-requires-clause-can g c = may_end (types_of g.C.Crdt.laws g.C.Crdt.spells g.D.Disk.state) (record { sites = c.args.sites.now; sessions = c.args.sessions.now.entries }) c.args.way c.args.name.now c.args.steps (record { sites = c.steps.sites; sessions = c.steps.sessions.entries }) c.steps.left c.steps.lines.items c.steps.invariant

pub end_once-requires-clause-reached : goal.end_once-requires-clause-reached
end_once-requires-clause-reached g c = c.steps.invariant.reached

pub returns-then-not-goes : goal.returns-then-not-goes
returns-then-not-goes g c = subst (λ lines. AppliesLive (types_of g.C.Crdt.laws g.C.Crdt.spells g.D.Disk.state) (record { sites = c.args.sites.now; sessions = c.args.sessions.now.entries }) (command_of c.args.way c.args.name.now c.args.steps) lines (record { sites = c.end_once.new.sites; sessions = c.end_once.new.sessions.entries })) (sym c.in_ok-goes.ensures.added)
    (at_end (types_of g.C.Crdt.laws g.C.Crdt.spells g.D.Disk.state) (record { sites = c.args.sites.now; sessions = c.args.sessions.now.entries }) c.args.way c.args.name.now c.args.steps (record { sites = c.steps.sites; sessions = c.steps.sessions.entries }) c.steps.left c.steps.lines.items c.steps.invariant c.end_once.new.sites c.end_once.new.sessions.entries c.in_ok-goes.ensures.line c.in_ok-goes.goes c.in_ok-goes.ensures.is_so c.if-not-goes.true c.requires.some c.requires.can)

pub returns-then-stops : goal.returns-then-stops
returns-then-stops g c = subst (λ lines. AppliesLive (types_of g.C.Crdt.laws g.C.Crdt.spells g.D.Disk.state) (record { sites = c.args.sites.now; sessions = c.args.sessions.now.entries }) (command_of c.args.way c.args.name.now c.args.steps) lines (record { sites = c.end_once.new.sites; sessions = c.end_once.new.sessions.entries })) (sym c.in_ok-goes.ensures.added)
    (at_stop (types_of g.C.Crdt.laws g.C.Crdt.spells g.D.Disk.state) (record { sites = c.args.sites.now; sessions = c.args.sessions.now.entries }) c.args.way c.args.name.now c.args.steps (record { sites = c.steps.sites; sessions = c.steps.sessions.entries }) c.steps.left c.steps.lines.items c.steps.invariant c.end_once.new.sites c.end_once.new.sessions.entries c.in_ok-goes.ensures.line c.in_ok-goes.goes c.in_ok-goes.ensures.is_so c.if-not-goes.false (ap (λ k. stops k (session_in c.end_once.new.sessions.entries c.args.name.now)) (sym c.fewer-left.ensures) ∙ (sym c.stops.ensures ∙ c.if-stops.true)) c.requires.some c.requires.can)

pub steps-preserved : goal.steps-preserved
steps-preserved g c = subst (λ lines. IsOnWay (types_of g.C.Crdt.laws g.C.Crdt.spells g.D.Disk.state) (record { sites = c.args.sites.now; sessions = c.args.sessions.now.entries }) c.args.way c.args.name.now c.args.steps (record { sites = c.end_once.new.sites; sessions = c.end_once.new.sessions.entries }) c.fewer-left.result lines) (sym c.in_ok-goes.ensures.added)
    (subst (λ k. IsOnWay (types_of g.C.Crdt.laws g.C.Crdt.spells g.D.Disk.state) (record { sites = c.args.sites.now; sessions = c.args.sessions.now.entries }) c.args.way c.args.name.now c.args.steps (record { sites = c.end_once.new.sites; sessions = c.end_once.new.sessions.entries }) k (c.steps.lines.items ++ c.in_ok-goes.ensures.line ∷ [])) (sym c.fewer-left.ensures)
    (at_next (types_of g.C.Crdt.laws g.C.Crdt.spells g.D.Disk.state) (record { sites = c.args.sites.now; sessions = c.args.sessions.now.entries }) c.args.way c.args.name.now c.args.steps (record { sites = c.steps.sites; sessions = c.steps.sessions.entries }) c.steps.left c.steps.lines.items c.steps.invariant c.end_once.new.sites c.end_once.new.sessions.entries c.in_ok-goes.ensures.line c.in_ok-goes.goes c.in_ok-goes.ensures.is_so c.if-not-goes.false (ap (λ k. stops k (session_in c.end_once.new.sessions.entries c.args.name.now)) (sym c.fewer-left.ensures) ∙ (sym c.stops.ensures ∙ c.if-stops.false))))

pub steps-smaller : goal.steps-smaller
steps-smaller g c = at_fewer (types_of g.C.Crdt.laws g.C.Crdt.spells g.D.Disk.state) (record { sites = c.args.sites.now; sessions = c.args.sessions.now.entries }) c.args.way c.args.name.now c.args.steps (record { sites = c.steps.sites; sessions = c.steps.sessions.entries }) c.steps.left c.steps.lines.items c.steps.invariant c.end_once.new.sites c.end_once.new.sessions.entries c.in_ok-goes.ensures.line c.in_ok-goes.goes c.in_ok-goes.ensures.is_so c.if-not-goes.false
