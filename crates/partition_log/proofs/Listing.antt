-- Payloads that are all records.
use Rattle.std.proofs.Common.{◌≡◌, ℕ, true, List, [], ◌∷◌, ◌++◌, refl}
use Rattle.std.specs.Prelude.{⊤}
use Rattle.field_codec.specs.FormLaws.{both_true}
use Rattle.crdt_core.specs.declared.record.Record.{Record}
use Rattle.partition_log.specs.Codec.{Codec}
use Rattle.partition_log.specs.Logs.{payloads_of, are_spelled}
use Rattle.partition_log.specs.Damage.{IsRecord}

module _ {E : Type 0} (codec : Codec E) where
  abbrev pub EachRecord : List (List ℕ) → Type 0
  EachRecord [] = ⊤
  EachRecord (payload ∷ payloads) = IsRecord codec payload × EachRecord payloads

  each_joined : (xs ys : List (List ℕ)) → EachRecord xs → EachRecord ys → EachRecord (xs ++ ys)
  each_joined [] ys p q = q
  each_joined (x ∷ xs) ys p q = (p.0, each_joined xs ys p.1 q)

  pub each_of_log : (log : List (Record E)) → are_spelled codec log ≡ true → EachRecord (payloads_of codec log)
  each_of_log [] h = tt
  each_of_log (r ∷ log) h = let p = both_true (codec.spelled r) (are_spelled codec log) h in each_joined (payloads_of codec log) (codec.bytes r ∷ []) (each_of_log log p.1) ((r, p.0, refl), tt)
