-- The records of a log that are read one by one, and what they tell.
use Rattle.std.proofs.Common.{◌≡◌, ℕ, suc, ◌+◌, Bool, true, false, List, [], ◌∷◌, ◌++◌, length, None, Some, slice_get, refl, sym, ap, ◌∙◌, subst, arith}
use Rattle.std.specs.Prelude.{map}
use Rattle.std.proofs.lemmas.List.{append-nil, length-append}
use Rattle.site_vector.specs.declared.ids.PartId.{PartId}
use Rattle.gate_log.specs.Payloads.{placed, AreWithin}
use Rattle.crdt_core.specs.declared.record.Record.{Record}
use Rattle.crdt_core.specs.Fitting.{fits_record, unfit_next, unfit_under}
use Rattle.crdt_core.specs.Log.{ceiling, grown}
use Rattle.log_recovery.specs.declared.recovery.Recovery.{Recovery}
use Rattle.log_recovery.specs.Told.{HasRead, ReadsNext}
use Rattle.log_recovery.proofs.Seeing.{unfit_grown}
use Rattle.partition_log.specs.Codec.{Codec}
use Rattle.partition_log.specs.Damage.{AreRecords}
use Rattle.partition_log.specs.Logs.{payloads_of}
use Rattle.partition_log.proofs.Listing.{EachRecord, each_of_log}
use Rattle.partition_log.proofs.Reading.{Item, SoFar, started, went_on, same_payloads}
use Rattle.partition_core.specs.Unfit.{IsUnfitAt}

at_front : {X : Type 0} (front : List X) (x : X) (rest : List X) → slice_get (front ++ x ∷ rest) (length front) ≡ Some x
at_front [] x rest = refl
at_front (y ∷ front) x rest = at_front front x rest

length_map : {X Y : Type 0} (f : X → Y) (xs : List X) → length (map f xs) ≡ length xs
length_map f [] = refl
length_map f (x ∷ xs) = ap suc (length_map f xs)

module _ {E : Type 0} (codec : Codec E) where
  length_payloads : (log : List (Record E)) → length (payloads_of codec log) ≡ length log
  length_payloads [] = refl
  length_payloads (r ∷ log) = let a : length (payloads_of codec log ++ codec.bytes r ∷ []) ≡ length (payloads_of codec log) + 1 = length-append (payloads_of codec log) (codec.bytes r ∷ []) in let b = length_payloads log in omega (arith, a, b)

  each_behind : (front : List Item) (x : Item) (rest : List Item) → EachRecord codec (map (λ item. item.1) (front ++ x ∷ rest)) → EachRecord codec (map (λ item. item.1) rest)
  each_behind [] x rest h = h.1
  each_behind (y ∷ front) x rest h = each_behind front x rest h.1

module _ {E : Type 0} (codec : Codec E) (sites parts : ℕ) (id : PartId) (top : ℕ) (all : List Item) where
  -- the records so far were read, and the rest is left
  pub record IsUnderway (left : List Item) (r : Recovery E) : Type 0 where
    pub so : SoFar codec all left
    pub has : HasRead sites parts id top so.log r

  pub underway_starts : (r : Recovery E) → AreWithin all → HasRead sites parts id top [] r → IsUnderway all r
  underway_starts r within h = record { so = started codec all within; has = h }

  pub underway_ends : (left : List Item) (r : Recovery E) → left ≡ [] → IsUnderway left r → (log : List (Record E)) × AreRecords codec all log × HasRead sites parts id top log r
  underway_ends left r e h = (h.so.log, subst (λ items. AreRecords codec items h.so.log) (sym (h.so.is ∙ ap (λ l. h.so.front ++ l) e ∙ append-nil h.so.front)) h.so.read, h.has)

  -- all records, where the rest are records too
  all_more : (rest : List Item) → EachRecord codec (map (λ item. item.1) rest) → (so : SoFar codec all rest) → (more : List (Record E)) × AreRecords codec all (grown so.log more)
  all_more [] each so = ([], subst (λ items. AreRecords codec items so.log) (sym (so.is ∙ append-nil so.front)) so.read)
  all_more (x ∷ rest) each so =
      let r = each.0 in
      let next = all_more rest each.1 (went_on codec all (x ∷ rest) x rest r.0 refl r.1 r.2 so) in
      (r.0 ∷ next.0, next.1)

  module _ (left : List Item) (x : Item) (rest : List Item) (next : Record E) (old : Recovery E) (e : left ≡ x ∷ rest) (spelled : codec.spelled next ≡ true) (is : x.1 ≡ codec.bytes next) (h : IsUnderway left old) where
    pub underway_more : (new : Recovery E) (fits : Bool) → fits ≡ true → ReadsNext sites parts id top h.so.log next new fits → IsUnderway rest new
    underway_more new fits f reads = record { so = went_on codec all left x rest next e spelled is h.so; has = reads.read f }

    -- a record that doesn't fit is the first, where all are records
    pub underway_stops : (new : Recovery E) (fits : Bool) → fits ≡ false → ReadsNext sites parts id top h.so.log next new fits → ((log : List (Record E)) → AreRecords codec all log → top ≡ ceiling log) → (log : List (Record E)) → AreRecords codec all log → (payloads : List (List ℕ)) → all ≡ placed 8 payloads
        → (log : List (Record E)) × AreRecords codec all log × IsUnfitAt codec sites parts id log x.0
    underway_stops new fits f reads last log read payloads at =
        let so = went_on codec all left x rest next e spelled is h.so in
        let split : all ≡ h.so.front ++ x ∷ rest = h.so.is ∙ ap (λ l. h.so.front ++ l) e in
        let each = each_behind codec h.so.front x rest (subst (λ l. EachRecord codec (map (λ item. item.1) l)) split (subst (EachRecord codec) (sym read.payloads) (each_of_log codec log read.spelled))) in
        let more = all_more rest each so in
        let whole = grown (next ∷ h.so.log) more.0 in
        let n = length h.so.log in
        let here : unfit_under sites parts id top (next ∷ h.so.log) ≡ Some n = ap (λ o. unfit_next o (fits_record sites parts id top h.so.log next) n) h.has.fits ∙ ap (λ b. unfit_next None b n) (sym reads.judged ∙ f) in
        let count : length h.so.front ≡ n = sym (length_map (λ (item : Item). item.1) h.so.front) ∙ ap length h.so.read.payloads ∙ length_payloads codec h.so.log in
        let items : placed 8 (payloads_of codec whole) ≡ h.so.front ++ x ∷ rest = ap (placed 8) (sym (same_payloads codec all payloads whole at more.1)) ∙ sym at ∙ split in (
          whole,
          more.1,
          record {
            number = n;
            first = ap (λ n. unfit_under sites parts id n whole) (sym (last whole more.1)) ∙ unfit_grown sites parts id top n (next ∷ h.so.log) more.0 here;
            payload = x.1;
            there = ap (λ l. slice_get l n) items ∙ ap (λ k. slice_get (h.so.front ++ x ∷ rest) k) (sym count) ∙ at_front h.so.front x rest;
          },
        )
