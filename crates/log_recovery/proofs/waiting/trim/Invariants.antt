use Rattle.std.proofs.Common.{◌≡◌, ℕ, Option, vec_len}
use Rattle.site_vector.specs.declared.ids.TxId.{TxId}
use Rattle.log_recovery.specs.Lists.{still_there, ArePlaced}
use Rattle.log_recovery.proofs.waiting.trim.Given as goal

abbrev pub invariant-loop-slots : goal.invariant-loop-slots
invariant-loop-slots g l = record {
  still_there : still_there l.slots.items ≡ still_there l.fn.slots.items;
  placed : (places : TxId → Option ℕ) → ArePlaced places l.fn.slots.items → ArePlaced places l.slots.items;
}

abbrev pub decreases-loop-slots : goal.decreases-loop-slots
decreases-loop-slots g l = vec_len l.slots
