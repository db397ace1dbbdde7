-- What a partition on its disk sends can be put, since its log is spelled.
use Rattle.std.proofs.Common.{◌≡◌, ℕ, ◌<◌, Bool, true, false, nat_le, List, [], ◌∷◌, Option, None, Some, refl, sym, ap, ◌∙◌, subst}
use Rattle.std.specs.List.{list_all}
use Rattle.std.specs.Ordering.{is_lt}
use Rattle.std.proofs.lemmas.Bool.{false≢true, or_left, or_right, and_parts}
use Rattle.disk_core.specs.States.{DiskState}
use Rattle.field_codec.specs.FormLaws.{both_true, and_true, le_from}
use Rattle.field_codec.specs.Reading.{Read}
use Rattle.field_codec.specs.Spelling.{are_in_order, is_below}
use Rattle.site_vector.specs.declared.ids.TxId.{TxId}
use Rattle.site_vector.specs.Ids.{same_tx}
use Rattle.site_vector.specs.Order.{same_tx_refl}
use Rattle.crdt_core.specs.declared.kind.Kind.{Kind}
use Rattle.crdt_core.specs.declared.record.Part.{Part}
use Rattle.crdt_core.specs.declared.record.Message.{Message}
use Rattle.crdt_core.specs.declared.record.Record.{Record}
use Rattle.crdt_core.specs.EffectForm.{SpellsEffects}
use Rattle.crdt_core.specs.KindsOf.{Kinds}
use Rattle.crdt_core.specs.Log.{committed, committed_at, prepared_changes}
use Rattle.crdt_core.specs.Orders.{Precede, Ascends, stream_cmp}
use Rattle.crdt_core.specs.Parts.{lists, AreParts}
use Rattle.crdt_core.specs.Spelled.{is_between, is_tx}
use Rattle.log_records.specs.Updates.{has_some, can_put_updates, updates_form}
use Rattle.log_records.specs.Parts.{part_cmp, can_put_part, can_put_parts}
use Rattle.log_records.specs.Messages.{can_put_message}
use Rattle.log_records.specs.Records.{is_record_spelled}
use Rattle.log_records.proofs.Streams.{same_order}
use Rattle.partition_log.specs.Codec.{codec_of}
use Rattle.world_model.specs.rules.Event.{Event, Sent}
use Rattle.world_model.specs.rules.Partition.{PartState, PartStep}
use Rattle.partition_core.specs.Durable.{Durable, StandsOn, is_down}
use Rattle.partition_core.specs.Messages.{have_updates}
use Rattle.partition_core.specs.Steps.{Anything, Steps}
use Rattle.partition_core.specs.Tables.{Tables}
use Rattle.partition_core.proofs.Durably.{stands_up}
use Rattle.partition_core.proofs.HeldIds.{changes_told, committed_tx}

-- parts in the order of a stream are in the order of their bytes
module _ {E : Type 0} (site : ℕ) (some : 0 < site) where
  follows : (x : Part E) (xs : List (Part E)) → Precede (stream_cmp site) x xs → Ascends (stream_cmp site) xs → are_in_order (is_below (part_cmp site)) (Some x) xs ≡ true
  follows x [] p a = refl
  follows x (y ∷ ys) p a = and_true (is_below (part_cmp site) x y) (are_in_order (is_below (part_cmp site)) (Some y) ys) (ap is_lt (same_order site x y some ∙ p.0)) (follows y ys a.0 a.1)

  ordered : (xs : List (Part E)) → Ascends (stream_cmp site) xs → are_in_order (is_below (part_cmp site)) None xs ≡ true
  ordered [] a = refl
  ordered (x ∷ xs) a = follows x xs a.0 a.1

module _ {E : Type 0} {has : Kind → Bool} {is_of : Kind → E → Bool} {can_put keeps is_spelled : E → Bool} {spelling : E → List ℕ} {reading : Kind → List ℕ → ℕ → Read E}
    (spells : SpellsEffects has is_of can_put keeps is_spelled spelling reading) where
  abbrev Spelled : List (Record E) → Type 0
  Spelled log = list_all (is_record_spelled has is_of is_spelled) log ≡ true

  -- what a transaction changed, if anything
  changes_put : (log : List (Record E)) (t : TxId) → Spelled log → has_some (prepared_changes log t) ≡ true → can_put_updates has is_of can_put (prepared_changes log t) ≡ true
  changes_put log t h = changes_told has is_of is_spelled (λ us. has_some us ≡ true → can_put_updates has is_of can_put us ≡ true) (λ k. absurd (false≢true k)) (λ w g k. (updates_form spells).fit w g) log t h

  parts_put : (log : List (Record E)) (xs : List (Part E)) → Spelled log → ((u : TxId) → lists xs u ≡ true → committed log u ≡ true) → AreParts (committed_at log) (prepared_changes log) xs → have_updates xs ≡ true → list_all (can_put_part has is_of can_put) xs ≡ true
  parts_put log [] h members exact full = refl
  parts_put log (x ∷ xs) h members exact full =
      let two = both_true (has_some x.updates) (have_updates xs) full in
      let begun : is_tx x.tx ≡ true = committed_tx has is_of is_spelled log x.tx h (members x.tx (or_left (same_tx x.tx x.tx) (lists xs x.tx) (same_tx_refl x.tx))) in
      let fits : can_put_updates has is_of can_put x.updates ≡ true = subst (λ us. has_some us ≡ true → can_put_updates has is_of can_put us ≡ true) (sym exact.0.1) (changes_put log x.tx h) two.0 in
      and_true (can_put_part has is_of can_put x) (list_all (can_put_part has is_of can_put) xs)
      (and_true (is_tx x.tx) (can_put_updates has is_of can_put x.updates) begun fits)
      (parts_put log xs h (λ u k. members u (or_right (same_tx x.tx u) (lists xs u) k)) exact.1 two.1)

  -- a transaction that can be spelled began at a site from 1 on
  some_site : (t : TxId) → is_tx t ≡ true → 0 < t.site
  some_site t h = le_from 1 t.site (both_true (nat_le 1 t.site) _ (both_true (is_between 1 8 t.site) _ h).0).0

  stream_put : (log : List (Record E)) (site : ℕ) (xs : List (Part E)) → Spelled log → ((u : TxId) → committed log u ≡ true → u.site ≡ site) → ((u : TxId) → lists xs u ≡ true → committed log u ≡ true) → AreParts (committed_at log) (prepared_changes log) xs → Ascends (stream_cmp site) xs → have_updates xs ≡ true → can_put_parts has is_of can_put site xs ≡ true
  stream_put log site [] h ended members exact order full = refl
  stream_put log site (x ∷ xs) h ended members exact order full =
      let there : committed log x.tx ≡ true = members x.tx (or_left (same_tx x.tx x.tx) (lists xs x.tx) (same_tx_refl x.tx)) in
      let some : 0 < site = subst (λ n. 0 < n) (ended x.tx there) (some_site x.tx (committed_tx has is_of is_spelled log x.tx h there)) in
      and_true (are_in_order (is_below (part_cmp site)) None (x ∷ xs)) (list_all (can_put_part has is_of can_put) (x ∷ xs)) (ordered site some (x ∷ xs) order) (parts_put log (x ∷ xs) h members exact full)

  -- by the step that the message shows
  pub sent_put : {S D : Type 0} (kinds : Kinds S E) (state : D → DiskState) (t : Durable E D) (p : PartState E) (new : Tables E) (asked : Option ℕ) (m : Message E) → is_down t ≡ false → StandsOn (codec_of spells) state t p → Steps kinds t.tables Anything (λ e. e ≡ Sent asked m) new → have_updates m.parts ≡ true → can_put_message has is_of can_put m ≡ true
  sent_put kinds state t p new asked m up h sent full =
      let u = stands_up (codec_of spells) state t p up h in
      let one = sent.step p u.tables tt in
      let step : PartStep kinds t.tables.sites t.tables.parts t.tables.id p (Sent asked m) one.after = subst (λ (e : Event E). PartStep kinds t.tables.sites t.tables.parts t.tables.id p e one.after) one.shows one.step in
      let shown = step.1 in
      ap (λ n. can_put_parts has is_of can_put n m.parts) shown.from
      ∙ stream_put p.log t.tables.id.site m.parts u.log.spelled u.tables.tells.ended (λ v k. (and_parts (committed p.log v) _ (sym (shown.members v) ∙ k)).0) shown.exact shown.order full
