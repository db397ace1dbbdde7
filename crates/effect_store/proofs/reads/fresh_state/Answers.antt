use Rattle.std.proofs.Common.{◌∙◌}
use Rattle.effect_store.proofs.Keeping.{read_fresh}
use Rattle.effect_store.proofs.reads.fresh_state.Goals as goal

pub returns : goal.returns
returns g c = c.in_ok-apply_shown.ensures ∙ read_fresh g.C.Crdt.initial g.C.Crdt.applied _ _ c.requires.fitting c.args.object.now c.args.snapshot.now _ _ _ c.requires.tagged c.head-from.ensures c.in_ok-state.ensures
