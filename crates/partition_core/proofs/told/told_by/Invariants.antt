use Rattle.gate_log.specs.Logs.{read_at_opening}
use Rattle.partition_log.specs.Gates.{gates_of}
use Rattle.partition_log.specs.Codec.{codec_of}
use Rattle.partition_core.proofs.Telling.{IsUnderway}
use Rattle.partition_core.proofs.told.told_by.Given as goal

abbrev pub invariant-loop-place : goal.invariant-loop-place
invariant-loop-place g l = IsUnderway (codec_of g.C.Crdt.spells) l.fn.sites l.fn.parts l.fn.id l.top (read_at_opening (gates_of l.fn.log)) l.place-iterator l.recovery
