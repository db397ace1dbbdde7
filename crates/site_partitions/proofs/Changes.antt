-- What a transaction updated at a partition can be put into its log: its numbers ascend, and each of it can be put.
use Rattle.std.proofs.Common.{◌≡◌, ℕ, ◌+◌, ◌<◌, ◌≤◌, Bool, true, false, List, [], ◌∷◌, ◌++◌, length, filter, refl, sym, ap, ◌∙◌, subst, Option, None, Some, true≢false, arith}
use Rattle.std.specs.Prelude.{cond, ⊤}
use Rattle.std.specs.List.{list_all}
use Rattle.std.proofs.lemmas.List.{append-nil}
use Rattle.std.proofs.lemmas.List.Folds.{list_all-append}
use Rattle.field_codec.specs.FormLaws.{both_true, and_true, lt_holds}
use Rattle.field_codec.specs.Spelling.{may_follow, are_in_order, are_members}
use Rattle.site_vector.specs.declared.ids.PartId.{PartId}
use Rattle.site_vector.specs.declared.ids.TxId.{TxId}
use Rattle.site_vector.specs.Ids.{same_part, same_tx}
use Rattle.site_vector.specs.Order.{same_tx_is}
use Rattle.crdt_core.specs.declared.kind.Kind.{Kind}
use Rattle.crdt_core.specs.declared.object.ObjectId.{ObjectId}
use Rattle.crdt_core.specs.declared.record.Upd.{Upd}
use Rattle.crdt_core.specs.Objects.{same_object}
use Rattle.crdt_core.specs.Spelled.{is_between}
use Rattle.log_records.specs.Updates.{has_some, can_put_update, index_below, can_put_updates}
use Rattle.world_model.specs.rules.Event.{Event, Updated, Entry}
use Rattle.world_model.specs.rules.World.{IsWorldRun, changes_of, plan_of}
use Rattle.world_model.specs.rules.Partition.{PartState}
use Rattle.world_model.specs.rules.Plan.{is_some_update, change_by, updates_at, update_count, takes_part, IsNew}
use Rattle.world_model.proofs.Handing.{planned_updates}
use Rattle.partition_core.specs.Numbered.{are_numbered}
use Rattle.site_partitions.specs.Reaches.{Types, PutsEvent, Puts}

-- none of these has a greater number
abbrev AreUpTo : {E : Type 0} → ℕ → List (Upd E) → Type 0
AreUpTo n [] = ⊤
AreUpTo n (u ∷ us) = (u.index ≤ n) × AreUpTo n us

-- the number of what comes before, if anything does, is smaller
abbrev IsBefore : {E : Type 0} → Option (Upd E) → Upd E → Type 0
IsBefore None x = ⊤
IsBefore (Some b) x = b.index < x.index

module _ {E : Type 0} where
  up_to_more : (n m : ℕ) → n ≤ m → (us : List (Upd E)) → AreUpTo n us → AreUpTo m us
  up_to_more n m l [] h = tt
  up_to_more n m l (u ∷ us) h = let first = h.0 in (omega (arith, l, first), up_to_more n m l us h.1)

  up_to_push : (n : ℕ) (us : List (Upd E)) (x : Upd E) → AreUpTo n us → x.index ≤ n → AreUpTo n (us ++ x ∷ [])
  up_to_push n [] x h l = (l, tt)
  up_to_push n (u ∷ us) x h l = (h.0, up_to_push n us x h.1 l)

  follows : (before : Option (Upd E)) (x : Upd E) → IsBefore before x → may_follow index_below before x ≡ true
  follows None x h = refl
  follows (Some b) x h = lt_holds b.index x.index h

  order_push : (n : ℕ) (before : Option (Upd E)) (us : List (Upd E)) (x : Upd E) → are_in_order index_below before us ≡ true → AreUpTo n us → IsBefore before x → n < x.index → are_in_order index_below before (us ++ x ∷ []) ≡ true
  order_push n before [] x o h b l = and_true (may_follow index_below before x) true (follows before x b) refl
  order_push n before (u ∷ us) x o h b l =
      let two = both_true (may_follow index_below before u) (are_in_order index_below (Some u) us) o in
      let first = h.0 in
      and_true (may_follow index_below before u) (are_in_order index_below (Some u) (us ++ x ∷ [])) two.0 (order_push n (Some u) us x two.1 h.1 (omega (arith, first, l)) l)

module _ {E : Type 0} (has : Kind → Bool) (is_of : Kind → E → Bool) (can_put : E → Bool) where
  -- these are in order, none has a greater number, and each can be put
  record AreGood (n : ℕ) (us : List (Upd E)) : Type 0 where
    order : are_in_order index_below None us ≡ true
    upto : AreUpTo n us
    fit : list_all (can_put_update has is_of can_put) us ≡ true

  good_none : (n m : ℕ) (us : List (Upd E)) → n ≤ m → AreGood n us → AreGood m (us ++ [])
  good_none n m us l g = subst (AreGood m) (sym (append-nil us)) (record { order = g.order; upto = up_to_more n m l us g.upto; fit = g.fit })

  good_one : (n : ℕ) (us : List (Upd E)) (x : Upd E) → AreGood n us → x.index ≡ n + 1 → can_put_update has is_of can_put x ≡ true → AreGood (n + 1) (us ++ x ∷ [])
  good_one n us x g e put = record {
    order = order_push n None us x g.order g.upto tt (omega (arith, e));
    upto = up_to_push (n + 1) us x (up_to_more n (n + 1) (omega arith) us g.upto) (omega (arith, e));
    fit = list_all-append (can_put_update has is_of can_put) us (x ∷ []) ∙ and_true (list_all (can_put_update has is_of can_put) us) (list_all (can_put_update has is_of can_put) (x ∷ [])) g.fit (and_true (can_put_update has is_of can_put x) true put refl);
  }

  -- one more event, which changed something here, elsewhere, or for another transaction
  good_more : (n : ℕ) (us : List (Upd E)) (x : Upd E) (here mine : Bool) → AreGood n us → (mine ≡ true → x.index ≡ n + 1) → can_put_update has is_of can_put x ≡ true
      → AreGood (n + length (cond mine (x ∷ []) [])) (us ++ cond here (cond mine (x ∷ []) []) [])
  good_more n us x true true g e put = good_one n us x g (e refl) put
  good_more n us x true false g e put = good_none n (n + 0) us (omega arith) g
  good_more n us x false true g e put = good_none n (n + 1) us (omega arith) g
  good_more n us x false false g e put = good_none n (n + 0) us (omega arith) g

  nothing_more : (n : ℕ) (us : List (Upd E)) (here : Bool) → AreGood n us → AreGood (n + 0) (us ++ cond here [] [])
  nothing_more n us true g = good_none n (n + 0) us (omega arith) g
  nothing_more n us false g = good_none n (n + 0) us (omega arith) g

  some_too : (us : List (Upd E)) → is_some_update us ≡ true → has_some us ≡ true
  some_too [] h = absurd (true≢false (sym h))
  some_too (u ∷ us) h = refl

  can_put_good : (n : ℕ) (us : List (Upd E)) → AreGood n us → is_some_update us ≡ true → can_put_updates has is_of can_put us ≡ true
  can_put_good n us g h = and_true (has_some us) (are_members index_below (can_put_update has is_of can_put) us) (some_too us h) (and_true (are_in_order index_below None us) (list_all (can_put_update has is_of can_put) us) g.order g.fit)

  -- those of one object have numbers within bounds
  numbered : (o : ObjectId) (us : List (Upd E)) → list_all (can_put_update has is_of can_put) us ≡ true → are_numbered (filter (λ u. same_object u.object o) us) ≡ true
  numbered o [] h = refl
  numbered o (u ∷ us) h =
      let two = both_true (can_put_update has is_of can_put u) (list_all (can_put_update has is_of can_put) us) h in
      let first = both_true (is_between 1 256 u.index) _ two.0 in kept (same_object u.object o) first.0 (numbered o us two.1)
    where
      kept : (b : Bool) → is_between 1 256 u.index ≡ true → are_numbered (filter (λ x. same_object x.object o) us) ≡ true → are_numbered (cond b (u ∷ filter (λ x. same_object x.object o) us) (filter (λ x. same_object x.object o) us)) ≡ true
      kept true a r = and_true (is_between 1 256 u.index) _ a r
      kept false a r = r

module _ {S E D : Type 0} (w : Types S E D) (sites parts : ℕ) where
  abbrev Good : ℕ → List (Upd E) → Type 0
  Good n us = AreGood w.kinds.has w.is_of w.can_put n us

  after_event : (run : List (Entry E)) (event : Event E) (t : TxId) (here : Bool) (us : List (Upd E)) → IsNew run event → PutsEvent w event → Good (update_count run t) us
      → Good (update_count run t + length (change_by event t)) (us ++ cond here (change_by event t) [])
  after_event run (Updated u s o own op read x stamp) t here us new put g =
      good_more w.kinds.has w.is_of w.can_put (update_count run t) us x here (same_tx u t) g (λ k. new.number ∙ ap (λ y. update_count run y + 1) (same_tx_is u t k)) put
  after_event run event t here us new put g = nothing_more w.kinds.has w.is_of w.can_put (update_count run t) us here g

  good_updates : (run : List (Entry E)) (state : PartId → PartState E) → IsWorldRun w.kinds sites parts run state → Puts w run → (t : TxId) (p : PartId) → Good (update_count run t) (updates_at run t p)
  good_updates [] state r h t p = record { order = refl; upto = tt; fit = refl }
  good_updates (e ∷ run) state r h t p = after_event run e.event t (same_part e.at p) (updates_at run t p) r.3 h.0 (good_updates run r.0 r.1 h.1 t p)

  -- all that a participant was asked for can be put
  pub changes_put : (run : List (Entry E)) (state : PartId → PartState E) → IsWorldRun w.kinds sites parts run state → Puts w run → (t : TxId) (p : PartId) → takes_part (plan_of sites parts run) t p ≡ true → can_put_updates w.kinds.has w.is_of w.can_put (changes_of sites run t p) ≡ true
  changes_put run state r h t p takes =
      let is = planned_updates w.kinds sites parts run state r t p in
      subst (λ us. can_put_updates w.kinds.has w.is_of w.can_put us ≡ true) (sym is) (can_put_good w.kinds.has w.is_of w.can_put (update_count run t) (updates_at run t p) (good_updates run state r h t p) (sym (ap is_some_update is) ∙ takes))

  -- and what it made of one object is numbered
  pub own_numbered : (run : List (Entry E)) (state : PartId → PartState E) → IsWorldRun w.kinds sites parts run state → Puts w run → (t : TxId) (p : PartId) (o : ObjectId) → are_numbered (filter (λ u. same_object u.object o) (updates_at run t p)) ≡ true
  own_numbered run state r h t p o = numbered w.kinds.has w.is_of w.can_put o (updates_at run t p) (good_updates run state r h t p).fit
