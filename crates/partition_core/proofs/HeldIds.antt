-- What a log whose records are spelled holds has ids that can be spelled.
use Rattle.std.proofs.Common.{◌≡◌, ⊎_elim, ℕ, Bool, true, false, ◌&&◌, ◌||◌, List, [], ◌∷◌, refl, sym, ◌∙◌, subst}
use Rattle.std.specs.List.{list_all}
use Rattle.std.proofs.lemmas.Bool.{false≢true, or_cases, or_left, or_right}
use Rattle.disk_core.specs.States.{DiskState}
use Rattle.field_codec.specs.FormLaws.{both_true, and_true}
use Rattle.field_codec.specs.Reading.{Read}
use Rattle.field_codec.specs.Spelling.{is_number, are_members, are_in_order, is_below}
use Rattle.site_vector.specs.declared.ids.TxId.{TxId}
use Rattle.site_vector.specs.Ids.{same_tx}
use Rattle.site_vector.specs.Order.{same_tx_is, same_tx_refl}
use Rattle.crdt_core.specs.declared.kind.Kind.{Kind}
use Rattle.crdt_core.specs.declared.record.Upd.{Upd}
use Rattle.crdt_core.specs.declared.record.Part.{Part}
use Rattle.crdt_core.specs.declared.record.Message.{Message}
use Rattle.crdt_core.specs.declared.record.Record.{Record}
use Rattle.crdt_core.specs.declared.record.Record.TheVariants.{Lease, Prepare, Decide, Finish, Abort, Batch}
use Rattle.crdt_core.specs.EffectForm.{SpellsEffects}
use Rattle.crdt_core.specs.Log.{committed, taken, prepared_changes, taken_changes, holds, held_changes, held_at}
use Rattle.crdt_core.specs.Parts.{lists, changes_in, AreParts}
use Rattle.crdt_core.specs.Spelled.{is_between, is_tx, is_vector}
use Rattle.log_records.specs.Updates.{has_some, is_update_spelled, are_updates_spelled, index_below}
use Rattle.log_records.specs.Parts.{part_cmp, is_part_spelled, are_parts_spelled}
use Rattle.log_records.specs.Messages.{head_in}
use Rattle.log_records.specs.Heads.{is_head}
use Rattle.log_records.specs.Records.{is_record_spelled}
use Rattle.partition_log.specs.Codec.{codec_of}
use Rattle.world_model.specs.rules.Partition.{PartState}
use Rattle.partition_core.specs.Durable.{Durable, StandsOn, is_down}
use Rattle.partition_core.specs.Numbered.{are_numbered, have_ids}
use Rattle.partition_core.specs.Stands.{IsStore}
use Rattle.partition_core.proofs.Choices.{chosen}
use Rattle.partition_core.proofs.Durably.{stands_up}

-- a test that passes wherever another does
all_weaker : {A : Type 0} (p q : A → Bool) → ((x : A) → p x ≡ true → q x ≡ true) → (xs : List A) → list_all p xs ≡ true → list_all q xs ≡ true
all_weaker p q f [] h = refl
all_weaker p q f (x ∷ xs) h = let two = both_true (p x) (list_all p xs) h in and_true (q x) (list_all q xs) (f x two.0) (all_weaker p q f xs two.1)

first_of : (a b : Bool) → (a && b) ≡ true → a ≡ true
first_of a b h = (both_true a b h).0

second_of : (a b : Bool) → (a && b) ≡ true → b ≡ true
second_of a b h = (both_true a b h).1

module _ {E : Type 0} (has : Kind → Bool) (is_of : Kind → E → Bool) (is_spelled : E → Bool) where
  abbrev Spelled : List (Record E) → Type 0
  Spelled log = list_all (is_record_spelled has is_of is_spelled) log ≡ true

  abbrev update_is : Upd E → Bool
  update_is u = is_update_spelled has is_of is_spelled u

  abbrev updates_are : List (Upd E) → Bool
  updates_are us = are_updates_spelled has is_of is_spelled us

  abbrev part_is : Part E → Bool
  part_is x = is_part_spelled has is_of is_spelled x

  numbered : (us : List (Upd E)) → updates_are us ≡ true → are_numbered us ≡ true
  numbered us h =
      let listed = second_of (has_some us) _ h in
      let members = second_of (is_number 4 _) (are_members index_below update_is us) listed in
      let each = second_of (are_in_order index_below _ us) (list_all update_is us) members in
      all_weaker update_is (λ u. is_between 1 256 u.index) (λ u k. first_of (is_between 1 256 u.index) _ k) us each

  -- each part of a message that is spelled
  parts_of : (r : Message E) → is_record_spelled has is_of is_spelled (Batch r) ≡ true → list_all part_is r.parts ≡ true
  parts_of r h =
      let parts = second_of (has_some r.parts) (are_parts_spelled has is_of is_spelled r.from r.parts) (second_of (is_head (head_in r)) _ h) in
      let members = second_of (is_number 4 _) (are_members (is_below (part_cmp r.from)) part_is r.parts) parts in
      second_of (are_in_order (is_below (part_cmp r.from)) _ r.parts) (list_all part_is r.parts) members

  part_numbered : (x : Part E) → part_is x ≡ true → are_numbered x.updates ≡ true
  part_numbered x h = numbered x.updates (second_of (is_vector x.c) (updates_are x.updates) (second_of (is_tx x.tx) _ h))

  changes_numbered : (xs : List (Part E)) (t : TxId) → list_all part_is xs ≡ true → are_numbered (changes_in xs t) ≡ true
  changes_numbered [] t h = refl
  changes_numbered (x ∷ xs) t h =
      let two = both_true (part_is x) (list_all part_is xs) h in
      chosen (λ us. are_numbered us ≡ true) (same_tx x.tx t) x.updates (changes_in xs t) (λ _. part_numbered x two.0) (λ _. changes_numbered xs t two.1)

  listed_tx : (xs : List (Part E)) (t : TxId) → list_all part_is xs ≡ true → lists xs t ≡ true → is_tx t ≡ true
  listed_tx [] t h k = absurd (false≢true k)
  listed_tx (x ∷ xs) t h k =
      let two = both_true (part_is x) (list_all part_is xs) h in
      ⊎_elim
      (λ (a : same_tx x.tx t ≡ true). subst (λ u. is_tx u ≡ true) (same_tx_is x.tx t a) (first_of (is_tx x.tx) _ two.0))
      (λ (b : lists xs t ≡ true). listed_tx xs t two.1 b)
      (or_cases (same_tx x.tx t) (lists xs t) k)

  -- what is told that a transaction changed is nothing, or what its record has
  pub changes_told : (P : List (Upd E) → Type 0) → P [] → ((w : List (Upd E)) → updates_are w ≡ true → P w) → (log : List (Record E)) (t : TxId) → Spelled log → P (prepared_changes log t)
  changes_told P none some [] t h = none
  changes_told P none some (Lease n ∷ log) t h = changes_told P none some log t (second_of (is_number 8 n) _ h)
  changes_told P none some (Prepare u l n s w ∷ log) t h =
      let two = both_true (is_record_spelled has is_of is_spelled (Prepare u l n s w)) _ h in
      let updates = second_of (is_vector s) (updates_are w) (second_of (is_number 8 n) _ (second_of (is_number 1 l) _ (second_of (is_tx u) _ two.0))) in
      chosen P (same_tx u t) w (prepared_changes log t) (λ _. some w updates) (λ _. changes_told P none some log t two.1)
  changes_told P none some (Decide u c ∷ log) t h = changes_told P none some log t (second_of (is_tx u && is_vector c) _ h)
  changes_told P none some (Finish u c ∷ log) t h = changes_told P none some log t (second_of (is_tx u && is_vector c) _ h)
  changes_told P none some (Abort u ∷ log) t h = changes_told P none some log t (second_of (is_tx u) _ h)
  changes_told P none some (Batch m ∷ log) t h = changes_told P none some log t (second_of (is_record_spelled has is_of is_spelled (Batch m)) _ h)

  prepared_numbered : (log : List (Record E)) (t : TxId) → Spelled log → are_numbered (prepared_changes log t) ≡ true
  prepared_numbered log t h = changes_told (λ us. are_numbered us ≡ true) refl numbered log t h

  taken_numbered : (log : List (Record E)) (t : TxId) → Spelled log → are_numbered (taken_changes log t) ≡ true
  taken_numbered [] t h = refl
  taken_numbered (Lease n ∷ log) t h = taken_numbered log t (second_of (is_number 8 n) _ h)
  taken_numbered (Prepare u l n s w ∷ log) t h = taken_numbered log t (second_of (is_record_spelled has is_of is_spelled (Prepare u l n s w)) _ h)
  taken_numbered (Decide u c ∷ log) t h = taken_numbered log t (second_of (is_tx u && is_vector c) _ h)
  taken_numbered (Finish u c ∷ log) t h = taken_numbered log t (second_of (is_tx u && is_vector c) _ h)
  taken_numbered (Abort u ∷ log) t h = taken_numbered log t (second_of (is_tx u) _ h)
  taken_numbered (Batch m ∷ log) t h =
      let two = both_true (is_record_spelled has is_of is_spelled (Batch m)) _ h in
      chosen (λ us. are_numbered us ≡ true) (lists m.parts t) (changes_in m.parts t) (taken_changes log t) (λ _. changes_numbered m.parts t (parts_of m two.0)) (λ _. taken_numbered log t two.1)

  -- the record's own transaction, or that of one before
  ended_tx : (u t : TxId) (c : List ℕ) (before : Bool) → (is_tx u && is_vector c) ≡ true → (before ≡ true → is_tx t ≡ true) → (same_tx u t || before) ≡ true → is_tx t ≡ true
  ended_tx u t c before h rest k =
      ⊎_elim
      (λ (a : same_tx u t ≡ true). subst (λ v. is_tx v ≡ true) (same_tx_is u t a) (first_of (is_tx u) (is_vector c) h))
      (λ (b : before ≡ true). rest b)
      (or_cases (same_tx u t) before k)

  pub committed_tx : (log : List (Record E)) (t : TxId) → Spelled log → committed log t ≡ true → is_tx t ≡ true
  committed_tx [] t h k = absurd (false≢true k)
  committed_tx (Lease n ∷ log) t h k = committed_tx log t (second_of (is_number 8 n) _ h) k
  committed_tx (Prepare u l n s w ∷ log) t h k = committed_tx log t (second_of (is_record_spelled has is_of is_spelled (Prepare u l n s w)) _ h) k
  committed_tx (Decide u c ∷ log) t h k = let two = both_true (is_tx u && is_vector c) _ h in ended_tx u t c (committed log t) two.0 (committed_tx log t two.1) k
  committed_tx (Finish u c ∷ log) t h k = let two = both_true (is_tx u && is_vector c) _ h in ended_tx u t c (committed log t) two.0 (committed_tx log t two.1) k
  committed_tx (Abort u ∷ log) t h k = committed_tx log t (second_of (is_tx u) _ h) k
  committed_tx (Batch m ∷ log) t h k = committed_tx log t (second_of (is_record_spelled has is_of is_spelled (Batch m)) _ h) k

  taken_tx : (log : List (Record E)) (t : TxId) → Spelled log → taken log t ≡ true → is_tx t ≡ true
  taken_tx [] t h k = absurd (false≢true k)
  taken_tx (Lease n ∷ log) t h k = taken_tx log t (second_of (is_number 8 n) _ h) k
  taken_tx (Prepare u l n s w ∷ log) t h k = taken_tx log t (second_of (is_record_spelled has is_of is_spelled (Prepare u l n s w)) _ h) k
  taken_tx (Decide u c ∷ log) t h k = taken_tx log t (second_of (is_tx u && is_vector c) _ h) k
  taken_tx (Finish u c ∷ log) t h k = taken_tx log t (second_of (is_tx u && is_vector c) _ h) k
  taken_tx (Abort u ∷ log) t h k = taken_tx log t (second_of (is_tx u) _ h) k
  taken_tx (Batch m ∷ log) t h k =
      let two = both_true (is_record_spelled has is_of is_spelled (Batch m)) _ h in
      ⊎_elim
      (λ (a : lists m.parts t ≡ true). listed_tx m.parts t (parts_of m two.0) a)
      (λ (b : taken log t ≡ true). taken_tx log t two.1 b)
      (or_cases (lists m.parts t) (taken log t) k)

  held_numbered : (log : List (Record E)) (t : TxId) → Spelled log → are_numbered (held_changes log t) ≡ true
  held_numbered log t h = chosen (λ us. are_numbered us ≡ true) (committed log t) (prepared_changes log t) (taken_changes log t) (λ _. prepared_numbered log t h) (λ _. taken_numbered log t h)

  held_tx : (log : List (Record E)) (t : TxId) → Spelled log → holds log t ≡ true → is_tx t ≡ true
  held_tx log t h k =
      ⊎_elim (λ (a : committed log t ≡ true). committed_tx log t h a) (λ (b : taken log t ≡ true). taken_tx log t h b) (or_cases (committed log t) (taken log t) k)

  parts_have_ids : (log : List (Record E)) (xs : List (Part E)) → Spelled log → ((u : TxId) → lists xs u ≡ true → holds log u ≡ true) → AreParts (held_at log) (held_changes log) xs → have_ids xs ≡ true
  parts_have_ids log [] h members exact = refl
  parts_have_ids log (x ∷ xs) h members exact =
      and_true (is_tx x.tx && are_numbered x.updates) (have_ids xs)
      (and_true (is_tx x.tx) (are_numbered x.updates)
      (held_tx log x.tx h (members x.tx (or_left (same_tx x.tx x.tx) (lists xs x.tx) (same_tx_refl x.tx))))
      (subst (λ us. are_numbered us ≡ true) (sym exact.0.1) (held_numbered log x.tx h)))
      (parts_have_ids log xs h (λ u k. members u (or_right (same_tx x.tx u) (lists xs u) k)) exact.1)

  pub store_has_ids : (log : List (Record E)) (xs : List (Part E)) → Spelled log → IsStore log xs → have_ids xs ≡ true
  store_has_ids log xs h store = parts_have_ids log xs h (λ u k. sym (store.members u) ∙ k) store.exact

-- a partition that is up holds what its log has spelled
pub ids_on : {E D : Type 0} {has : Kind → Bool} {is_of : Kind → E → Bool} {can_put keeps is_spelled : E → Bool} {spelling : E → List ℕ} {reading : Kind → List ℕ → ℕ → Read E} (spells : SpellsEffects has is_of can_put keeps is_spelled spelling reading) (state : D → DiskState) (t : Durable E D) (p : PartState E) → is_down t ≡ false → StandsOn (codec_of spells) state t p → have_ids t.tables.held ≡ true
ids_on {has = has} {is_of = is_of} {is_spelled = is_spelled} spells state t p up h =
    let u = stands_up (codec_of spells) state t p up h in
    store_has_ids has is_of is_spelled p.log t.tables.held u.log.spelled u.tables.tells.store
