-- What a call of the tables that isn't answered, and an append that isn't done, make of the call.
use Rattle.gate_log.specs.declared.error.AppendError.{AppendError}
use Rattle.gate_log.specs.declared.error.AppendError.TheVariants as append
use Rattle.partition_core.specs.declared.answers.CallError.{CallError}
use Rattle.partition_core.specs.declared.answers.CallError.TheVariants as tables
use Rattle.partition_core.specs.declared.durable.DurableError.{DurableError}
use Rattle.partition_core.specs.declared.durable.DurableError.TheVariants as call

abbrev pub stopped : AppendError → DurableError
stopped append.Failed = call.Disk
stopped (append.Full room) = call.Full room
stopped append.Closed = call.Down
stopped append.NoMemory = call.NoMemory

abbrev pub uncalled : CallError → DurableError
uncalled tables.NoMemory = call.NoMemory
uncalled (tables.Refused why) = call.Refused why
