use Rattle.std.proofs.Common.{ℕ, ◌≤◌}
use Rattle.effect_store.specs.Listed.{ListRoom, SameLists}
use Rattle.effect_store.proofs.commits.make_room.Given as goal

abbrev pub invariant-loop-i : goal.invariant-loop-i
invariant-loop-i l = SameLists l.fn.lists l.lists × ((m : ℕ) → ListRoom l.sites m l.fn.lists → ListRoom l.sites m l.lists) × ListRoom l.i l.n l.lists × (l.i ≤ l.sites)
