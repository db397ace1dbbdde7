use Rattle.std.proofs.Common.{rules}
use Rattle.site_partitions.specs.Reaches.{types_of}
use Rattle.cluster.proofs.Ends.{commits_on, gives_on}
use Rattle.cluster.proofs.commits.step_on.Goals as goal

pub returns-in_default-Ok-clause-made : goal.returns-in_default-Ok-clause-made
returns-in_default-Ok-clause-made g c = let e = c.commit_step.ensures in record {
  line = c.in_default-Ok.step;
  added = search rules;
  is_so = commits_on (types_of g.C.Crdt.laws g.C.Crdt.spells g.D.Disk.state) c.args.sites.now c.commit_step.new.store c.args.session.now c.commit_step.new.self c.args.way c.goes_on-goes.result c.in_default-Ok.step c.in-Commits.is c.in_default-Ok.next c.commit_step.result.1 c.in_default-Ok.is-1
      e.stepped e.next e.ended e.tells e.steps
      c.phase.result (search rules) c.phase.ensures;
}

pub returns-in_default-Ok-abort_step-clause-made : goal.returns-in_default-Ok-abort_step-clause-made
returns-in_default-Ok-abort_step-clause-made g c = let e = c.abort_step.ensures in record {
  line = c.in_default-Ok-abort_step.step;
  added = search rules;
  is_so = gives_on (types_of g.C.Crdt.laws g.C.Crdt.spells g.D.Disk.state) c.args.sites.now c.abort_step.new.store c.args.session.now c.abort_step.new.self c.args.way c.goes_on-goes-in_default-Ok-abort_step.result c.in_default-Ok-abort_step.step c.in-GivesUp.is c.abort_step.result.1 c.in_default-Ok-abort_step.is-1 e.no_txn
      e.stepped e.ended e.tells e.steps
      c.phase-in_default-Ok-abort_step.result c.goes_on-goes-in_default-Ok-abort_step.ensures c.phase-in_default-Ok-abort_step.ensures;
}
