use Rattle.std.proofs.Common.{refl}
use Rattle.crdt_core.proofs.TableLaws.{resets_nest, drops_lie, paths_enter, own_acts}
use Rattle.crdt_core.proofs.table.law_table.Goals as goal

pub returns : goal.returns
returns c = record { resets = resets_nest; drops = drops_lie; any = λ k. refl; fields = paths_enter; own = own_acts }
