-- Why a script isn't played to its end, by why a line isn't answered.
use Rattle.dc_engine.specs.declared.fault.Fault.{Fault}
use Rattle.dc_engine.specs.declared.fault.Fault.TheVariants as fault
use Rattle.dc_engine.specs.declared.unanswered.Unanswered.{Unanswered}
use Rattle.dc_engine.specs.declared.unanswered.Unanswered.TheVariants as unanswered

abbrev pub fault_of : Unanswered → Fault
fault_of unanswered.NoMemory = fault.NoMemory
fault_of unanswered.NoDisk = fault.NoDisk
