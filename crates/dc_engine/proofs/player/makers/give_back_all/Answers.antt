use Rattle.std.proofs.Common.{subst, ap, ◌∙◌, arith}
use Rattle.std.specs.Prelude.{map}
use Rattle.disk_core.specs.Fuses.{inside}
use Rattle.disk_makers.specs.Makers.{TakesBack}
use Rattle.dc_engine.specs.Makers.{disk_from}
use Rattle.dc_engine.proofs.commands.Returned.{IsGiving, giving_more, giving_end}
use Rattle.dc_engine.proofs.player.makers.give_back_all.Goals as goal

pub loop-partition-preserved : goal.loop-partition-preserved
loop-partition-preserved g c = giving_more c.args.parts (map disk_from c.args.partitions.items) (g.M.Disks.state c.args.disks.now) c.loop-partition.at (disk_from c.in-Some.partition) (map disk_from c.next.new.self.rest.items) (g.M.Disks.state c.loop-partition.disks) (g.M.Disks.state c.give_back.new.self)
    (subst (λ l. IsGiving c.args.parts (map disk_from c.args.partitions.items) (g.M.Disks.state c.args.disks.now) c.loop-partition.at (map disk_from l) (g.M.Disks.state c.loop-partition.disks)) c.in-Some.ensures.steps.0 c.loop-partition.invariant)
    (subst (λ d. TakesBack c.loop-partition.at d (g.M.Disks.state c.loop-partition.disks) (g.M.Disks.state c.give_back.new.self)) (c.into_inner.ensures ∙ ap inside c.disk_out.ensures) c.give_back.ensures.takes)
    c.next-at.result c.next-at.ensures

pub returns : goal.returns
returns g c = giving_end disk_from c.args.parts (map disk_from c.args.partitions.items) (g.M.Disks.state c.args.disks.now) c.loop-partition.at c.loop-partition.partition-iterator.rest.items (g.M.Disks.state c.loop-partition.disks) (let a = c.loop-partition.partition-iterator.rest.ok in let b = c.in-None.ensures.steps.0 in omega (arith, a, b)) c.loop-partition.invariant
