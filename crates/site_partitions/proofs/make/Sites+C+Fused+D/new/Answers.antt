use Rattle.std.proofs.Common.{◌++◌, sym, ap, ◌∙◌, subst, arith}
use Rattle.disk_core.specs.Fuses.{fused_state}
use Rattle.site_partitions.specs.Reaches.{types_of}
use Rattle.site_partitions.proofs.Filling.{IsFilling, filling_start, fits, filling_more, filling_ends, filling_unarmed, filling_sound, same_place}
use Rattle.site_partitions.proofs.make.Sites+C+Fused+D.new.Goals as goal

pub loop-disk-init : goal.loop-disk-init
loop-disk-init g c = subst (λ l. IsFilling (types_of g.C.Crdt.laws g.C.Crdt.spells (fused_state g.D.Disk.state)) c.args.sites c.args.parts c.args.disks.items l c.new-partitions.result.items (record { site = 1; part = 1 })) (sym c.into_iter-disk-iterator.ensures.into_iter_gives.0)
    (subst (λ l. IsFilling (types_of g.C.Crdt.laws g.C.Crdt.spells (fused_state g.D.Disk.state)) c.args.sites c.args.parts c.args.disks.items c.args.disks.items l (record { site = 1; part = 1 })) (sym c.new-partitions.ensures.items) (filling_start (types_of g.C.Crdt.laws g.C.Crdt.spells (fused_state g.D.Disk.state)) c.args.sites c.args.parts c.args.disks.items c.requires.all c.requires.least_part))

pub make-requires-clause-most_site : goal.make-requires-clause-most_site
make-requires-clause-most_site g c = (fits (types_of g.C.Crdt.laws g.C.Crdt.spells (fused_state g.D.Disk.state)) c.args.sites c.args.parts c.args.disks.items c.loop-disk.disk-iterator.rest.items c.in-Some.disk c.next.new.self.rest.items c.loop-disk.partitions.items c.loop-disk.part c.in-Some.ensures.steps.0 c.loop-disk.invariant).most_site

pub returns-in-Err-clause-failed : goal.returns-in-Err-clause-failed
returns-in-Err-clause-failed g c = record {
  place = fits (types_of g.C.Crdt.laws g.C.Crdt.spells (fused_state g.D.Disk.state)) c.args.sites c.args.parts c.args.disks.items c.loop-disk.disk-iterator.rest.items c.in-Some.disk c.next.new.self.rest.items c.loop-disk.partitions.items c.loop-disk.part c.in-Some.ensures.steps.0 c.loop-disk.invariant;
  given = c.in-Some.disk;
  front = c.loop-disk.invariant.front;
  more = c.next.new.self.rest.items;
  split = c.loop-disk.invariant.split ∙ ap (λ xs. c.loop-disk.invariant.front ++ xs) c.in-Some.ensures.steps.0;
  index = c.loop-disk.invariant.as_many ∙ sym c.loop-disk.invariant.index;
  goes_on = c.in-Err.ensures.goes_on;
  left = c.in-Err.ensures.left;
  failed = c.in-Err.ensures.failed;
}

pub loop-disk-preserved : goal.loop-disk-preserved
loop-disk-preserved g c = filling_more (types_of g.C.Crdt.laws g.C.Crdt.spells (fused_state g.D.Disk.state)) c.args.sites c.args.parts c.args.disks.items c.loop-disk.disk-iterator.rest.items c.in-Some.disk c.next.new.self.rest.items c.loop-disk.partitions.items c.loop-disk.part c.in-Some.ensures.steps.0 c.loop-disk.invariant c.unarmed.result c.unarmed.ensures.left (c.unarmed.ensures.sound ∙ c.in-Ok.ensures.goes_on.sound) (same_place c.in-Ok.partition c.unarmed.result c.unarmed.ensures.same c.in-Ok.ensures.place) (λ end rest. c.unarmed.ensures.stands _ (c.in-Ok.ensures.new end rest)) c.add.new.list.items c.in_ok-add-in-Ok.ensures c.next_part-part.result
    c.next_part-part.ensures.index c.next_part-part.ensures.least_site c.next_part-part.ensures.least_part c.next_part-part.ensures.most_part

pub returns-clause-reaches : goal.returns-clause-reaches
returns-clause-reaches g c = filling_ends (types_of g.C.Crdt.laws g.C.Crdt.spells (fused_state g.D.Disk.state)) c.args.sites c.args.parts c.args.disks.items c.loop-disk.disk-iterator.rest.items c.loop-disk.partitions.items c.loop-disk.part (let a = c.loop-disk.disk-iterator.rest.ok in let b = c.in-None.ensures.steps.0 in omega (arith, a, b)) c.loop-disk.invariant

pub returns-clause-unarmed : goal.returns-clause-unarmed
returns-clause-unarmed g c = filling_unarmed (types_of g.C.Crdt.laws g.C.Crdt.spells (fused_state g.D.Disk.state)) c.args.sites c.args.parts c.args.disks.items c.loop-disk.disk-iterator.rest.items c.loop-disk.partitions.items c.loop-disk.part (let a = c.loop-disk.disk-iterator.rest.ok in let b = c.in-None.ensures.steps.0 in omega (arith, a, b)) c.loop-disk.invariant

pub returns-clause-sound : goal.returns-clause-sound
returns-clause-sound g c = filling_sound (types_of g.C.Crdt.laws g.C.Crdt.spells (fused_state g.D.Disk.state)) c.args.sites c.args.parts c.args.disks.items c.loop-disk.disk-iterator.rest.items c.loop-disk.partitions.items c.loop-disk.part (let a = c.loop-disk.disk-iterator.rest.ok in let b = c.in-None.ensures.steps.0 in omega (arith, a, b)) c.loop-disk.invariant
