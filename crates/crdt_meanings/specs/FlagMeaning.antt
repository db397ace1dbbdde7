-- What flags mean.
use Rattle.std.specs.Prelude.{Bool, true, false, List}
use Rattle.crdt_core.specs.declared.kind.Kind.{Kind}
use Rattle.crdt_core.specs.declared.operation.Act.{Act}
use Rattle.crdt_core.specs.declared.operation.Act.TheVariants.{Enable, Disable}
use Rattle.crdt_core.specs.declared.value.Value.{Value}
use Rattle.crdt_core.specs.declared.value.Value.TheVariants.{Flag}
use Rattle.crdt_core.specs.Seen.{Update}
use Rattle.crdt_core.specs.Wins.{add_wins, remove_wins}

abbrev pub enables : Act → Bool
enables Enable = true
enables _ = false

abbrev pub disables : Act → Bool
disables Disable = true
disables _ = false

-- a live enable that no live disable has seen
abbrev pub ew_meaning : Kind → List Update → Value
ew_meaning k us = Flag (add_wins enables disables us)

-- a live enable, and each live disable seen by one
abbrev pub dw_meaning : Kind → List Update → Value
dw_meaning k us = Flag (remove_wins enables disables us)

abbrev pub flag_meaning : Bool → Kind → List Update → Value
flag_meaning false = ew_meaning
flag_meaning true = dw_meaning
