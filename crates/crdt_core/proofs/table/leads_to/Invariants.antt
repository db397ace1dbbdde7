use Rattle.std.proofs.Common.{◌≡◌, drop}
use Rattle.crdt_core.specs.Fits.{leads_to}
use Rattle.crdt_core.proofs.table.leads_to.Given as goal

abbrev pub invariant-loop-field : goal.invariant-loop-field
invariant-loop-field l = leads_to l.fn.kind l.path l.act ≡ leads_to l.reached (drop l.field-index l.path) l.act
