-- Leases rise in the logs that calls leave, and in what a restart may find of them.
use Rattle.std.proofs.Common.{◌≡◌, ⊎_elim, ℕ, ◌≤◌, ◌+◌, min, Bool, true, false, leb, List, [], ◌∷◌, refl, sym, subst, arith}
use Rattle.std.specs.Prelude.{if◌then◌else◌}
use Rattle.std.proofs.lemmas.Bool.{leb-false}
use Rattle.crdt_core.specs.declared.record.Record.{Record}
use Rattle.crdt_core.specs.declared.record.Record.TheVariants.{Lease, Prepare, Decide, Finish, Abort, Batch}
use Rattle.crdt_core.specs.Log.{end_of_time, ceiling, grown, lease_for, MayFind}
use Rattle.log_recovery.specs.Rising.{Rises}

module _ {E : Type 0} where
  -- the lease before a clock value keeps leases rising
  pub lease_rises : (log : List (Record E)) (n : ℕ) → n ≤ end_of_time → Rises log → Rises (grown log (lease_for log n))
  lease_rises log n most r = rises_if (leb n (ceiling log)) refl
    where
      rises_if : (b : Bool) → leb n (ceiling log) ≡ b → Rises (grown log (if b then [] else Lease (min (n + 1000) end_of_time) ∷ []))
      rises_if true e = r
      rises_if false e = let a = leb-false n (ceiling log) e in (omega (arith, a, most), r)

  rest_rises : (r : Record E) (log : List (Record E)) → Rises (r ∷ log) → Rises log
  rest_rises (Lease n) log h = h.1
  rest_rises (Prepare t l n s w) log h = h
  rest_rises (Decide t c) log h = h
  rest_rises (Finish t c) log h = h
  rest_rises (Abort t) log h = h
  rest_rises (Batch m) log h = h

  front_rises : (log more : List (Record E)) → Rises (grown log more) → Rises log
  front_rises log [] h = h
  front_rises log (r ∷ more) h = rest_rises r log (front_rises (r ∷ log) more h)

  -- a restart finds leases that rise, where those of the whole call would
  pub found_rises : (log more image : List (Record E)) → Rises (grown log more) → MayFind log more image → Rises image
  found_rises log [] image h found = subst (λ l. Rises l) (sym found) h
  found_rises log (r ∷ more) image h found = ⊎_elim
      (λ (e : image ≡ log). subst (λ l. Rises l) (sym e) (front_rises log (r ∷ more) h))
      (λ (f : MayFind (r ∷ log) more image). found_rises (r ∷ log) more image h f)
      found
