-- Reading payloads one after another.
use Rattle.std.proofs.Common.{◌≡◌, ℕ, ◌+◌, ◌^◌, ◌≤◌, true, List, [], ◌∷◌, ◌++◌, length, Err, refl, sym, ap, ◌∙◌, subst, append_assoc}
use Rattle.std.specs.Prelude.{map}
use Rattle.std.proofs.lemmas.List.{append-nil}
use Rattle.field_codec.specs.FormLaws.{and_true}
use Rattle.gate_log.specs.Payloads.{placed, AreWithin}
use Rattle.crdt_core.specs.declared.record.Record.{Record}
use Rattle.log_records.specs.declared.error.RecordError.TheVariants.{Damaged}
use Rattle.log_records.specs.Whole.{whole_at}
use Rattle.partition_log.specs.Codec.{Codec}
use Rattle.partition_log.specs.Logs.{payloads_of, are_spelled}
use Rattle.partition_log.specs.Damage.{AreRecords, IsRefusedAt}

abbrev pub Item : Type 0
Item = ℕ × List ℕ

-- what was read so far, and what is left
pub record SoFar {E : Type 0} (codec : Codec E) (all left : List Item) : Type 0 where
  pub front : List Item
  pub is : all ≡ front ++ left
  pub log : List (Record E)
  pub read : AreRecords codec front log
  pub within : AreWithin left

pub map_more : (front : List Item) (x : Item) → map (λ item. item.1) (front ++ x ∷ []) ≡ map (λ item. item.1) front ++ x.1 ∷ []
map_more [] x = refl
map_more (y ∷ front) x = ap (λ l. y.1 ∷ l) (map_more front x)

module _ {E : Type 0} (codec : Codec E) (all : List Item) where
  abbrev pub started : AreWithin all → SoFar codec all all
  started within = record { front = []; is = refl; log = []; read = record { payloads = refl; spelled = refl }; within = within }

  pub first_within : (left : List Item) (x : Item) (rest : List Item) → left ≡ x ∷ rest → SoFar codec all left → x.0 + length x.1 ≤ 2 ^ 32
  first_within left x rest e so = (subst AreWithin e so.within).0

  abbrev pub went_on : (left : List Item) (x : Item) (rest : List Item) (r : Record E) → left ≡ x ∷ rest → codec.spelled r ≡ true → x.1 ≡ codec.bytes r → SoFar codec all left → SoFar codec all rest
  went_on left x rest r e spelled is so = record {
    front = so.front ++ x ∷ [];
    is = so.is ∙ ap (λ l. so.front ++ l) e ∙ sym (append_assoc so.front (x ∷ []) rest);
    log = r ∷ so.log;
    read = record {
      payloads = map_more so.front x ∙ ap (λ l. l ++ x.1 ∷ []) so.read.payloads ∙ ap (λ p. payloads_of codec so.log ++ p ∷ []) is;
      spelled = and_true (codec.spelled r) (are_spelled codec so.log) spelled so.read.spelled;
    };
    within = (subst AreWithin e so.within).1;
  }

  pub refused : (left : List Item) (x : Item) (rest : List Item) (at n : ℕ) → left ≡ x ∷ rest → whole_at codec.reading x.1 ≡ Err (Damaged n) → at ≡ x.0 + n → SoFar codec all left → IsRefusedAt codec all at
  refused left x rest at n e damaged here so = record {
    front = so.front;
    place = x.0;
    payload = x.1;
    back = rest;
    is = so.is ∙ ap (λ l. so.front ++ l) e;
    log = so.log;
    before = so.read;
    within = n;
    damaged = damaged;
    here = here;
  }

  pub all_read : (left : List Item) → left ≡ [] → SoFar codec all left → (log : List (Record E)) × AreRecords codec all log
  all_read left e so = (so.log, subst (λ items. AreRecords codec items so.log) (sym (so.is ∙ ap (λ l. so.front ++ l) e ∙ append-nil so.front)) so.read)

-- the payloads of what is placed
pub unplaced : (at : ℕ) (payloads : List (List ℕ)) → map (λ item. item.1) (placed at payloads) ≡ payloads
unplaced at [] = refl
unplaced at (payload ∷ payloads) = ap (λ l. payload ∷ l) (unplaced (at + 5 + length payload) payloads)

-- what is read of the payloads of a log are its records
pub same_payloads : {E : Type 0} (codec : Codec E) (items : List Item) (payloads : List (List ℕ)) (log : List (Record E)) → items ≡ placed 8 payloads → AreRecords codec items log → payloads ≡ payloads_of codec log
same_payloads codec items payloads log e read = sym (unplaced 8 payloads) ∙ ap (map (λ item. item.1)) (sym e) ∙ read.payloads
