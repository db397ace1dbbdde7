use Rattle.crdt_meanings.proofs.Empties.{counters_empty, flags_empty, grown_empty, sets_empty, lww_empty, mv_empty, maps_empty}
use Rattle.crdt_meanings.proofs.laws.law_nothing.Goals as goal

pub returns : goal.returns
returns c = record { counters = counters_empty; flags = flags_empty; grown = grown_empty; sets = sets_empty; last = lww_empty; concurrent = mv_empty; maps = maps_empty }
