use Rattle.partition_core.proofs.Making.{made_stands}
use Rattle.partition_core.proofs.partition.Partition.make.Goals as goal

pub returns-clause-stands : goal.returns-clause-stands
returns-clause-stands g c = made_stands _ c.args.id c.args.sites c.args.parts (λ i. record {
  id = c.args.id;
  sites = c.args.sites;
  parts = c.args.parts;
  clock = (c.new.ensures.value i).clock;
  ceiling = (c.new.ensures.value i).ceiling;
  pending = (c.new-2.ensures.value i).entries;
  held = c.new-3.ensures.empty i;
  bounds = c.zero.ensures i;
  heard = (c.new-4.ensures.value i).heard;
  sent = c.zero-2.ensures i;
})
