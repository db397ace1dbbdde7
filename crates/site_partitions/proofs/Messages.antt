-- What a message that was sent brings: parts of its site's transactions, no two of one, with an entry for each site.
use Rattle.std.proofs.Common.{◌≡◌, ◌≢◌, ℕ, ◌<◌, ◌≤◌, Bool, true, false, List, [], ◌∷◌, length, refl, sym, ap, ◌∙◌, subst, None, Some}
use Rattle.std.specs.Prelude.{◌&&◌}
use Rattle.std.specs.List.{list_all}
use Rattle.std.specs.Ordering.{is_lt}
use Rattle.std.proofs.lemmas.Bool.{or_left, or_right, and_parts}
use Rattle.site_vector.specs.declared.ids.PartId.{PartId}
use Rattle.site_vector.specs.declared.ids.TxId.{TxId}
use Rattle.site_vector.specs.Order.{same_tx_refl}
use Rattle.site_vector.specs.Vector.{entry}
use Rattle.site_vector.specs.VectorLaws.{length_replaced}
use Rattle.crdt_core.specs.declared.record.Message.{Message}
use Rattle.crdt_core.specs.declared.record.Part.{Part}
use Rattle.crdt_core.specs.declared.record.Upd.{Upd}
use Rattle.crdt_core.specs.KindsOf.{Kinds}
use Rattle.crdt_core.specs.declared.kind.Kind.{Kind}
use Rattle.crdt_core.specs.Log.{holds}
use Rattle.crdt_core.specs.Spelled.{is_tx}
use Rattle.field_codec.specs.FormLaws.{and_true}
use Rattle.field_codec.specs.Spelling.{are_in_order, is_below}
use Rattle.log_records.specs.Updates.{can_put_updates}
use Rattle.log_records.specs.Parts.{part_cmp, can_put_part}
use Rattle.log_records.specs.Messages.{can_put_message}
use Rattle.log_records.proofs.Streams.{same_order}
use Rattle.crdt_core.specs.Orders.{Precede, Ascends, stream_cmp}
use Rattle.crdt_core.specs.Parts.{lists, above, AreParts}
use Rattle.world_model.specs.rules.Event.{AskTake, Entry, Sent, is_decided, sent_count}
use Rattle.world_model.specs.rules.Partition.{PartState}
use Rattle.world_model.specs.lines.Places.{twin}
use Rattle.world_model.specs.rules.Plan.{takes_part, commit_vector, MayTake}
use Rattle.world_model.specs.rules.World.{plan_of, IsWorldRun}
use Rattle.world_model.specs.events.Reads.{IsExact}
use Rattle.world_model.proofs.Completeness.{IsBacked}
use Rattle.world_model.proofs.Intervals.{numbered_shown, shown_has}
use Rattle.world_model.proofs.Upheld.{Upheld, law_plan}
use Rattle.world_model.proofs.Law.{plan_fits}
use Rattle.world_model.proofs.LineCounts.{stream_apart}
use Rattle.world_model.proofs.Premises.{premises}
use Rattle.world_model.proofs.Whole.{suffix_all, all_fresh, fits}
use Rattle.partition_core.specs.Messages.{AreApart, AreWideParts}
use Rattle.world_model.proofs.Whole.{part_begun}
use Rattle.partition_core.specs.Durable.{Durable, StandsUp, is_down}
use Rattle.partition_core.proofs.Callers.{holds_no_news}
use Rattle.site_partitions.specs.Asked.{IsAskable}
use Rattle.site_partitions.specs.Reaches.{Types}
use Rattle.site_partitions.proofs.Asking.{up_of, tx_of}
use Rattle.site_partitions.proofs.Changes.{changes_put}
use Rattle.site_partitions.proofs.Naming.{or_falses, is_new}

module _ {E : Type 0} (vec : TxId → List ℕ) (ups : TxId → List (Upd E)) where
  wide_parts : (sites : ℕ) (xs : List (Part E)) → AreParts vec ups xs → ((u : TxId) → lists xs u ≡ true → length (vec u) ≡ sites) → AreWideParts sites xs
  wide_parts sites [] a h = tt
  wide_parts sites (x ∷ xs) a h = (ap length a.0.0 ∙ h x.tx (or_left _ _ (same_tx_refl x.tx)), wide_parts sites xs a.1 (λ u k. h u (or_right _ _ k)))

  apart_parts : (site : ℕ) (xs : List (Part E)) → AreParts vec ups xs → Ascends (stream_cmp site) xs → AreApart xs
  apart_parts site [] a o = tt
  apart_parts site (x ∷ xs) a o = (stream_apart vec ups site x xs a.0.0 a.1 o.0, apart_parts site xs a.1 o.1)

-- parts in the order of a stream are in the order of their bytes
module _ {E : Type 0} (site : ℕ) (some : 0 < site) where
  follows : (x : Part E) (xs : List (Part E)) → Precede (stream_cmp site) x xs → Ascends (stream_cmp site) xs → are_in_order (is_below (part_cmp site)) (Some x) xs ≡ true
  follows x [] p a = refl
  follows x (y ∷ ys) p a = and_true (is_below (part_cmp site) x y) (are_in_order (is_below (part_cmp site)) (Some y) ys) (ap is_lt (same_order site x y some ∙ p.0)) (follows y ys a.0 a.1)

  ordered : (xs : List (Part E)) → Ascends (stream_cmp site) xs → are_in_order (is_below (part_cmp site)) None xs ≡ true
  ordered [] a = refl
  ordered (x ∷ xs) a = follows x xs a.0 a.1

module _ {E : Type 0} (has : Kind → Bool) (is_of : Kind → E → Bool) (can_put : E → Bool) (vec : TxId → List ℕ) (ups : TxId → List (Upd E)) where
  exact_parts : (xs : List (Part E)) → AreParts vec ups xs → ((u : TxId) → lists xs u ≡ true → can_put_part has is_of can_put (record { tx = u; c = vec u; updates = ups u }) ≡ true) → list_all (can_put_part has is_of can_put) xs ≡ true
  exact_parts [] a h = refl
  exact_parts (x ∷ xs) a h = and_true (can_put_part has is_of can_put x) (list_all (can_put_part has is_of can_put) xs)
      (subst (λ us. (is_tx x.tx && can_put_updates has is_of can_put us) ≡ true) (sym a.0.1) (h x.tx (or_left _ _ (same_tx_refl x.tx))))
      (exact_parts xs a.1 (λ u k. h u (or_right _ _ k)))

module _ {S E : Type 0} (kinds : Kinds S E) (sites parts : ℕ) (run : List (Entry E)) (state : PartId → PartState E) (r : IsWorldRun kinds sites parts run state) (at : PartId) (number : ℕ) (m : Message E) (al : MayTake (plan_of sites parts run) run at number m) where
  exact : IsExact (plan_of sites parts run) run (twin m.from at) m
  exact =
      let k : Upheld kinds (plan_of sites parts run) run state = law_plan kinds (plan_of sites parts run) run state (fits kinds sites parts run state r run (all_fresh kinds sites parts run state r) (suffix_all run)) in
      (shown_has (IsBacked (plan_of sites parts run) run state) run (twin m.from at) (Sent al.asked m) k.bounds.events (numbered_shown sent_count run number (twin m.from at) (Sent al.asked m) al.shown)).0

  pub takes : (u : TxId) → lists m.parts u ≡ true → takes_part (plan_of sites parts run) u (twin m.from at) ≡ true
  takes u h = (and_parts (takes_part (plan_of sites parts run) u (twin m.from at)) _ (and_parts (is_decided run u) _ (sym (exact.members u) ∙ h)).1).0

  some_site : 1 ≤ m.from
  some_site = al.from.least

  -- each part is what its transaction updated there
  pub put_parts : (has : Kind → Bool) (is_of : Kind → E → Bool) (can_put : E → Bool) → ((u : TxId) → lists m.parts u ≡ true → can_put_part has is_of can_put (record { tx = u; c = commit_vector (plan_of sites parts run) run u; updates = (plan_of sites parts run).updates u (twin m.from at) }) ≡ true)
      → can_put_message has is_of can_put m ≡ true
  put_parts has is_of can_put each = and_true (are_in_order (is_below (part_cmp m.from)) None m.parts) (list_all (can_put_part has is_of can_put) m.parts)
      (ordered m.from some_site m.parts exact.order)
      (exact_parts has is_of can_put (commit_vector (plan_of sites parts run) run) (λ u. (plan_of sites parts run).updates u (twin m.from at)) m.parts exact.exact each)

  pub away : (u : TxId) → lists m.parts u ≡ true → u.site ≢ at.site
  away u h e = al.from.apart ((plan_of sites parts run).at_home u (twin m.from at) (takes u h) ∙ e)

  pub wide : AreWideParts sites m.parts
  wide = wide_parts (commit_vector (plan_of sites parts run) run) (λ u. (plan_of sites parts run).updates u (twin m.from at)) sites m.parts exact.exact
      (λ u h. length_replaced ((plan_of sites parts run).snapshot u) u.site _ ∙ (plan_fits kinds sites parts run state r).width u (twin m.from at) (takes u h))

  pub apart : AreApart m.parts
  apart = apart_parts (commit_vector (plan_of sites parts run) run) (λ u. (plan_of sites parts run).updates u (twin m.from at)) m.from m.parts exact.exact exact.order

module _ {S E D : Type 0} (w : Types S E D) (sites parts : ℕ) (at : PartId) (t : Durable E D) (number : ℕ) (m : Message E) (may : IsAskable w sites parts at t (AskTake number m)) where
  pub take_most : m.from ≤ t.tables.sites
  take_most = subst (λ n. m.from ≤ n) (sym may.stands.sites_are) may.allowed.from.most

  pub take_wide : AreWideParts t.tables.sites m.parts
  take_wide = subst (λ n. AreWideParts n m.parts) (sym may.stands.sites_are) (wide w.kinds sites parts may.run may.state may.is_run at number m may.allowed)

  pub take_apart : AreApart m.parts
  take_apart = apart w.kinds sites parts may.run may.state may.is_run at number m may.allowed

  pub take_away : (u : TxId) → lists m.parts u ≡ true → u.site ≢ t.tables.id.site
  take_away u h e = away w.kinds sites parts may.run may.state may.is_run at number m may.allowed u h (e ∙ ap (λ (p : PartId). p.site) may.stands.id)

  unheld_at : (may.state at).up ≡ true → (u : TxId) → lists (above m.from (entry (may.state at).bounds m.from) m.parts) u ≡ true → holds (may.state at).log u ≡ false
  unheld_at up u h =
      let new = is_new u (may.state at).log ((premises w.kinds sites parts may.run may.state may.is_run).unheld at number m u may.place may.allowed up h) in or_falses _ _ new.committed new.taken

  pub take_unheld : is_down t ≡ false → (u : TxId) → lists (above m.from (entry t.tables.bounds m.from) m.parts) u ≡ true → lists t.tables.held u ≡ false
  take_unheld down u h =
      let up : StandsUp w.codec w.state t (may.state at) = up_of w sites parts at t (AskTake number m) may down in
      holds_no_news t.tables (may.state at) up.tables m (unheld_at up.tables.up) u h

  -- what was sent can be put into a log
  pub take_put : can_put_message w.kinds.has w.is_of w.can_put m ≡ true
  take_put = put_parts w.kinds sites parts may.run may.state may.is_run at number m may.allowed w.kinds.has w.is_of w.can_put
      (λ u k.
      let part = takes w.kinds sites parts may.run may.state may.is_run at number m may.allowed u k in
      and_true (is_tx u) (can_put_updates w.kinds.has w.is_of w.can_put ((plan_of sites parts may.run).updates u (twin m.from at)))
      (tx_of w sites parts at t (AskTake number m) may u (part_begun sites may.run u (twin m.from at) part))
      (changes_put w sites parts may.run may.state may.is_run may.puts u (twin m.from at) part))
