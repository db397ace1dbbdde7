use Rattle.std.proofs.Common.{◌≡◌, ◌≤◌, take, length}
use Rattle.txn_session.proofs.Counting.{counted}
use Rattle.txn_session.proofs.chosen.participants_of.Given as goal

abbrev pub invariant-loop-k : goal.invariant-loop-k
invariant-loop-k g l = record { room : length l.list ≡ 16; low : l.count ≤ l.k; listed : take l.count l.list ≡ counted l.parts l.updates l.k }
