use Rattle.std.proofs.Common.{subst, arith}
use Rattle.std.specs.Prelude.{map}
use Rattle.disk_core.specs.Fuses.{inside}
use Rattle.disk_makers.specs.Makers.{TakesBack}
use Rattle.dc_engine.proofs.commands.Returned.{IsGiving, giving_more, giving_end}
use Rattle.dc_engine.proofs.player.makers.give_back_made.Goals as goal

pub loop-disk-preserved : goal.loop-disk-preserved
loop-disk-preserved g c = record {
  giving = giving_more c.args.parts (map inside c.args.made.items) (g.M.Disks.state c.args.disks.now) c.loop-disk.at (inside c.in-Some.disk) (map inside c.next.new.self.rest.items) (g.M.Disks.state c.loop-disk.disks) (g.M.Disks.state c.give_back.new.self)
      (subst (λ l. IsGiving c.args.parts (map inside c.args.made.items) (g.M.Disks.state c.args.disks.now) c.loop-disk.at (map inside l) (g.M.Disks.state c.loop-disk.disks)) c.in-Some.ensures.steps.0 c.loop-disk.invariant.giving)
      (subst (λ d. TakesBack c.loop-disk.at d (g.M.Disks.state c.loop-disk.disks) (g.M.Disks.state c.give_back.new.self)) c.into_inner.ensures c.give_back.ensures.takes)
      c.next-at.result c.next-at.ensures;
  sure = λ s. c.give_back.ensures.makes_all (c.loop-disk.invariant.sure s);
  sound = λ s. c.give_back.ensures.sound (c.loop-disk.invariant.sound s);
}

pub returns-clause-back : goal.returns-clause-back
returns-clause-back g c = giving_end inside c.args.parts (map inside c.args.made.items) (g.M.Disks.state c.args.disks.now) c.loop-disk.at c.loop-disk.disk-iterator.rest.items (g.M.Disks.state c.loop-disk.disks) (let a = c.loop-disk.disk-iterator.rest.ok in let b = c.in-None.ensures.steps.0 in omega (arith, a, b)) c.loop-disk.invariant.giving
