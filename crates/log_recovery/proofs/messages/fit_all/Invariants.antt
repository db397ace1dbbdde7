use Rattle.std.proofs.Common.{◌≡◌, drop}
use Rattle.std.specs.List.{list_all}
use Rattle.crdt_core.specs.Fitting.{fits_part}
use Rattle.log_recovery.proofs.messages.fit_all.Given as goal

abbrev pub invariant-loop-part : goal.invariant-loop-part
invariant-loop-part g l = list_all (fits_part l.sites l.parts l.message) l.message.parts ≡ list_all (fits_part l.sites l.parts l.message) (drop l.part-index l.message.parts)
