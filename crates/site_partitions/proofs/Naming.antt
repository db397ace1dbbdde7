-- What a log names in no record it tells nothing of.
use Rattle.std.proofs.Common.{◌≡◌, Bool, true, false, ◌||◌, List, [], ◌∷◌, refl, true≢false}
use Rattle.site_vector.specs.declared.ids.TxId.{TxId}
use Rattle.crdt_core.specs.declared.record.Record.{Record}
use Rattle.crdt_core.specs.declared.record.Record.TheVariants.{Lease, Prepare, Decide, Finish, Abort, Batch}
use Rattle.crdt_core.specs.Log.{prepared, committed, aborted, taken, is_named_in}
use Rattle.partition_core.specs.Stands.{IsNew}

or_no : (a b : Bool) → (a || b) ≡ false → (a ≡ false) × (b ≡ false)
or_no true b h = absurd (true≢false h)
or_no false b h = (refl, h)

pub or_falses : (a b : Bool) → a ≡ false → b ≡ false → (a || b) ≡ false
or_falses true b h k = absurd (true≢false h)
or_falses false b h k = k

module _ {E : Type 0} (t : TxId) where
  no_prepared : (log : List (Record E)) → is_named_in log t ≡ false → prepared log t ≡ false
  no_prepared [] h = refl
  no_prepared (Lease n ∷ log) h = no_prepared log h
  no_prepared (Prepare u l n s w ∷ log) h = let x = or_no _ _ h in or_falses _ _ x.0 (no_prepared log x.1)
  no_prepared (Decide u c ∷ log) h = no_prepared log (or_no _ _ h).1
  no_prepared (Finish u c ∷ log) h = no_prepared log (or_no _ _ h).1
  no_prepared (Abort u ∷ log) h = no_prepared log (or_no _ _ h).1
  no_prepared (Batch m ∷ log) h = no_prepared log (or_no _ _ h).1

  no_committed : (log : List (Record E)) → is_named_in log t ≡ false → committed log t ≡ false
  no_committed [] h = refl
  no_committed (Lease n ∷ log) h = no_committed log h
  no_committed (Prepare u l n s w ∷ log) h = no_committed log (or_no _ _ h).1
  no_committed (Decide u c ∷ log) h = let x = or_no _ _ h in or_falses _ _ x.0 (no_committed log x.1)
  no_committed (Finish u c ∷ log) h = let x = or_no _ _ h in or_falses _ _ x.0 (no_committed log x.1)
  no_committed (Abort u ∷ log) h = no_committed log (or_no _ _ h).1
  no_committed (Batch m ∷ log) h = no_committed log (or_no _ _ h).1

  no_aborted : (log : List (Record E)) → is_named_in log t ≡ false → aborted log t ≡ false
  no_aborted [] h = refl
  no_aborted (Lease n ∷ log) h = no_aborted log h
  no_aborted (Prepare u l n s w ∷ log) h = no_aborted log (or_no _ _ h).1
  no_aborted (Decide u c ∷ log) h = no_aborted log (or_no _ _ h).1
  no_aborted (Finish u c ∷ log) h = no_aborted log (or_no _ _ h).1
  no_aborted (Abort u ∷ log) h = let x = or_no _ _ h in or_falses _ _ x.0 (no_aborted log x.1)
  no_aborted (Batch m ∷ log) h = no_aborted log (or_no _ _ h).1

  no_taken : (log : List (Record E)) → is_named_in log t ≡ false → taken log t ≡ false
  no_taken [] h = refl
  no_taken (Lease n ∷ log) h = no_taken log h
  no_taken (Prepare u l n s w ∷ log) h = no_taken log (or_no _ _ h).1
  no_taken (Decide u c ∷ log) h = no_taken log (or_no _ _ h).1
  no_taken (Finish u c ∷ log) h = no_taken log (or_no _ _ h).1
  no_taken (Abort u ∷ log) h = no_taken log (or_no _ _ h).1
  no_taken (Batch m ∷ log) h = let x = or_no _ _ h in or_falses _ _ x.0 (no_taken log x.1)

  pub is_new : (log : List (Record E)) → is_named_in log t ≡ false → IsNew log t
  is_new log h = record { prepared = no_prepared log h; committed = no_committed log h; aborted = no_aborted log h; taken = no_taken log h }
