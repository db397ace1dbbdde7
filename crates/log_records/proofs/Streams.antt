-- The parts of a message stand in the order of a stream.
use Rattle.std.proofs.Common.{◌≡◌, ℕ, ◌<◌, false, ap, arith}
use Rattle.std.specs.Prelude.{◌==◌, cond}
use Rattle.std.specs.Ordering.{nat_cmp, ordering_then}
use Rattle.std.proofs.lemmas.Bool.Decides.{nat_tests}
use Rattle.site_vector.specs.Order.{tx_cmp}
use Rattle.site_vector.specs.Vector.{entry}
use Rattle.crdt_core.specs.declared.record.Part.{Part}
use Rattle.crdt_core.specs.Orders.{stream_cmp}
use Rattle.log_records.specs.Parts.{part_cmp}

some_site : (site : ℕ) → 0 < site → (site == 0) ≡ false
some_site site some = grind (arith, nat_tests)

pub same_order : {E : Type 0} (site : ℕ) (p q : Part E) → 0 < site → part_cmp site p q ≡ stream_cmp site p q
same_order site p q some =
    ap (λ b. ordering_then (nat_cmp (cond b 0 (entry p.c site)) (cond b 0 (entry q.c site))) (tx_cmp p.tx q.tx)) (some_site site some)
