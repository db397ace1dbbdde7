-- The ceiling of a log is that of the last payload that is a lease.
use Rattle.std.proofs.Common.{◌≡◌, ℕ, true, List, [], ◌∷◌, ◌++◌, refl, ap, ◌∙◌}
use Rattle.std.specs.Prelude.{map}
use Rattle.field_codec.specs.FormLaws.{both_true}
use Rattle.crdt_core.specs.declared.record.Record.{Record}
use Rattle.crdt_core.specs.declared.record.Record.TheVariants.{Lease, Prepare, Decide, Finish, Abort, Batch}
use Rattle.crdt_core.specs.Log.{ceiling}
use Rattle.log_records.specs.Leases.{lease_in, lease_at, or_before, latest}
use Rattle.partition_log.specs.Codec.{Codec}
use Rattle.partition_log.specs.Damage.{AreRecords}
use Rattle.partition_log.specs.Logs.{payloads_of, are_spelled}

latest_behind : (before : ℕ) (payloads : List (List ℕ)) (last : List ℕ) → latest before (payloads ++ last ∷ []) ≡ or_before (lease_at last) (latest before payloads)
latest_behind before [] last = refl
latest_behind before (payload ∷ payloads) last = latest_behind (or_before (lease_at payload) before) payloads last

module _ {E : Type 0} where
  ceiling_first : (r : Record E) (log : List (Record E)) → or_before (lease_in r) (ceiling log) ≡ ceiling (r ∷ log)
  ceiling_first (Lease n) log = refl
  ceiling_first (Prepare t l n s w) log = refl
  ceiling_first (Decide t c) log = refl
  ceiling_first (Finish t c) log = refl
  ceiling_first (Abort t) log = refl
  ceiling_first (Batch m) log = refl

  module _ (codec : Codec E) (told : (r : Record E) → codec.spelled r ≡ true → lease_at (codec.bytes r) ≡ lease_in r) where
    latest_is : (log : List (Record E)) → are_spelled codec log ≡ true → latest 0 (payloads_of codec log) ≡ ceiling log
    latest_is [] h = refl
    latest_is (r ∷ log) h =
        let both = both_true (codec.spelled r) (are_spelled codec log) h in
        latest_behind 0 (payloads_of codec log) (codec.bytes r) ∙ ap (λ o. or_before o (latest 0 (payloads_of codec log))) (told r both.0) ∙ ap (λ n. or_before (lease_in r) n) (latest_is log both.1) ∙ ceiling_first r log

    pub latest_read : (items : List (ℕ × List ℕ)) (log : List (Record E)) → AreRecords codec items log → latest 0 (map (λ item. item.1) items) ≡ ceiling log
    latest_read items log read = ap (λ l. latest 0 l) read.payloads ∙ latest_is log read.spelled
