use Rattle.std.proofs.Common.{◌≡◌, take, length}
use Rattle.clocksi_commit.proofs.commit.padded.Given as goal

abbrev pub invariant-loop-i : goal.invariant-loop-i
invariant-loop-i l = record { room : length l.kept ≡ 16; same : take l.i l.kept ≡ take l.i l.parts }
