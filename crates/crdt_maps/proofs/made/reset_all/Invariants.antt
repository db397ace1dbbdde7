use Rattle.std.proofs.Common.{◌≡◌, ◌++◌, true}
use Rattle.std.specs.List.{list_all}
use Rattle.std.specs.FinMap.{entries}
use Rattle.crdt_core.specs.EffectForm.{HoldsSpelled}
use Rattle.crdt_meanings.specs.Maps.{resets_of, map_holds}
use Rattle.crdt_maps.specs.Ready.{AllSpelled, is_reset_ready}
use Rattle.crdt_maps.proofs.made.reset_all.Given as goal

abbrev pub invariant-loop-field : goal.invariant-loop-field
invariant-loop-field g l = let I = g.I.Crdt in
    (l.resets ++ resets_of I.has I.generated I.is_blank l.now l.field-iterator ≡ resets_of I.has I.generated I.is_blank l.now (entries l.fields))
    × (HoldsSpelled (map_holds I.holds) l.fields → AllSpelled I.holds l.field-iterator × (list_all (is_reset_ready I.is_of I.can_put I.sets I.spelling) l.resets ≡ true))
