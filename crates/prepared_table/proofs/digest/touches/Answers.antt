use Rattle.prepared_table.proofs.Digests.{unmarked}
use Rattle.prepared_table.proofs.digest.touches.Goals as goal

pub returns-then-digest-bit-eq0 : goal.returns-then-digest-bit-eq0
returns-then-digest-bit-eq0 g c = unmarked c.args.digest c.args.bit c.args.updates.now c.args.object.now c.requires.digest c.requires.bit c.if-digest-bit-eq0.true
