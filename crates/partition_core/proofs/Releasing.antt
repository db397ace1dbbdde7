-- A message to another site: what was committed here between two times.
use Rattle.std.proofs.Common.{◌≡◌, ◌≢◌, ℕ, ltb, leb, Bool, true, false, ◌&&◌, ◌||◌, List, [], ◌∷◌, Option, None, Some, refl, sym, ap, ◌∙◌, subst}
use Rattle.std.specs.Prelude.{◌==◌, if◌then◌else◌}
use Rattle.std.proofs.lemmas.Bool.{true≢false, false_from_ne_true, eqb-true, eq-eqb, and_parts}
use Rattle.std.specs.Ordering.{nat_cmp, ordering_then}
use Rattle.site_vector.specs.declared.ids.TxId.{TxId}
use Rattle.site_vector.specs.Order.{same_tx_is, tx_cmp}
use Rattle.site_vector.specs.Vector.{entry, sum, replaced}
use Rattle.crdt_core.specs.declared.record.Upd.{Upd}
use Rattle.crdt_core.specs.declared.record.Part.{Part}
use Rattle.crdt_core.specs.declared.record.Message.{Message}
use Rattle.crdt_core.specs.declared.record.Record.{Record}
use Rattle.crdt_core.specs.KindsOf.{Kinds}
use Rattle.crdt_core.specs.Log.{committed, committed_at, prepared_changes, taken, taken_at, taken_changes, holds, held_at, held_changes}
use Rattle.crdt_core.specs.Orders.{Precede, Ascends, sorted_by, fold_cmp, stream_cmp}
use Rattle.crdt_core.specs.Parts.{lists, AreParts, parts_between}
use Rattle.world_model.specs.rules.Event.{Sent}
use Rattle.world_model.specs.lines.Places.{IsOther}
use Rattle.world_model.specs.rules.Partition.{done}
use Rattle.partition_core.specs.Tables.{Tables}
use Rattle.partition_core.specs.Bounds.{own_bound}
use Rattle.partition_core.specs.Messages.{AreApart, start_of}
use Rattle.partition_core.specs.Steps.{Anything, Steps}
use Rattle.partition_core.proofs.Choices.{or_falses}
use Rattle.partition_core.proofs.Sorting.{not_itself, ascends_filter}
use Rattle.partition_core.proofs.PartLists.{fold_total, lists_filter, parts_filter, parts_alike, lists_sorted, parts_sorted, stream_ascends}
use Rattle.partition_core.proofs.Bounding.{bounds_own}

-- what is held of a transaction of this site was committed here
members_are : (c k g b : Bool) (x y : Bool) → (c ≡ true → g ≡ true) → (k ≡ true → g ≡ false) → (c ≡ true → x ≡ y) → b ≡ ((c || k) && (g && x)) → b ≡ (c && y)
members_are true k true b x y f h e is = is ∙ e refl
members_are true k false b x y f h e is = absurd (true≢false (sym (f refl)))
members_are false true true b x y f h e is = absurd (true≢false (h refl))
members_are false true false b x y f h e is = is
members_are false false g b x y f h e is = is

-- its entry of the site lies between these times
abbrev within : ℕ → ℕ → ℕ → List ℕ → Bool
within site lo hi c = ltb lo (entry c site) && leb (entry c site) hi

module _ {E : Type 0} where
  apart_after : (v : TxId → List ℕ) (c : TxId → List (Upd E)) (x : Part E) (xs : List (Part E)) → x.c ≡ v x.tx → Precede fold_cmp x xs → AreParts v c xs → lists xs x.tx ≡ false
  apart_after v c x [] e p h = refl
  apart_after v c x (y ∷ xs) e p h = or_falses _ _
      (false_from_ne_true _ (λ s.
      let t = same_tx_is y.tx x.tx s in
      let n : y.c ≡ x.c = h.0.0 ∙ ap v t ∙ sym e in
      not_itself fold_cmp fold_total x (sym (λ i. ordering_then (nat_cmp (sum x.c) (sum (n i))) (tx_cmp x.tx (t i))) ∙ p.0)))
      (apart_after v c x xs e p.1 h.1)

  -- no two parts that are held are of one transaction
  held_apart : (v : TxId → List ℕ) (c : TxId → List (Upd E)) (xs : List (Part E)) → Ascends fold_cmp xs → AreParts v c xs → AreApart xs
  held_apart v c [] a h = tt
  held_apart v c (x ∷ xs) a h = (apart_after v c x xs h.0.0 a.0 h.1, held_apart v c xs a.1 h.1)

  module _ (site lo hi : ℕ) where
    abbrev passes : Part E → Bool
    passes x = x.tx.site == site && within site lo hi x.c

    module _ (log : List (Record E)) (held : List (Part E)) (n : ℕ) (order : Ascends fold_cmp held) (members : (u : TxId) → lists held u ≡ holds log u) (exact : AreParts (held_at log) (held_changes log) held) (ended : (u : TxId) → committed log u ≡ true → u.site ≡ site) (brought : (u : TxId) → taken log u ≡ true → u.site ≢ site) where
      pub between_ascends : Ascends (stream_cmp site) (sorted_by (stream_cmp site) (parts_between site lo hi held))
      between_ascends = stream_ascends site (parts_between site lo hi held) (held_apart (held_at log) (held_changes log) (parts_between site lo hi held) (ascends_filter fold_cmp passes held order) (parts_filter (held_at log) (held_changes log) passes held exact))

      pub between_members : (u : TxId) → lists (sorted_by (stream_cmp site) (parts_between site lo hi held)) u ≡ (committed log u && within site lo hi (committed_at log u))
      between_members u = members_are (committed log u) (taken log u) (u.site == site) (lists (sorted_by (stream_cmp site) (parts_between site lo hi held)) u) (within site lo hi (held_at log u)) (within site lo hi (committed_at log u))
          (λ k. eq-eqb u.site site (ended u k))
          (λ k. false_from_ne_true _ (λ e. brought u k (eqb-true u.site site e)))
          (λ k. ap (λ b. within site lo hi (if b then committed_at log u else taken_at log u)) k)
          (lists_sorted (stream_cmp site) (parts_between site lo hi held) u
          ∙ lists_filter (held_at log) (held_changes log) passes (λ w. w.site == site && within site lo hi (held_at log w)) held exact (λ x e f. ap (λ c. x.tx.site == site && within site lo hi c) e) u
          ∙ ap (λ b. b && (u.site == site && within site lo hi (held_at log u))) (members u))

      pub between_exact : AreParts (committed_at log) (prepared_changes log) (sorted_by (stream_cmp site) (parts_between site lo hi held))
      between_exact = parts_alike (held_at log) (committed_at log) (held_changes log) (prepared_changes log) (sorted_by (stream_cmp site) (parts_between site lo hi held))
          (λ u k. let here = (and_parts (committed log u) (within site lo hi (committed_at log u)) (sym (between_members u) ∙ k)).0 in (ap (λ b. if b then committed_at log u else taken_at log u) here, ap (λ b. if b then prepared_changes log u else taken_changes log u) here))
          (parts_sorted (stream_cmp site) (held_at log) (held_changes log) (parts_between site lo hi held) (parts_filter (held_at log) (held_changes log) passes held exact))

pub other_here : {E : Type 0} (v t : Tables E) (to : ℕ) → v ≡ t → IsOther t.sites t.id.site to → IsOther v.sites v.id.site to
other_here {E} v t to e o = subst (λ (x : Tables E). IsOther x.sites x.id.site to) (sym e) o

starts : (asked : Option ℕ) (last n : ℕ) → last ≡ n → start_of asked last ≡ (elim asked [ None ↦ n | Some m ↦ m ])
starts None last n e = e
starts (Some m) last n e = refl

module _ {S E : Type 0} (kinds : Kinds S E) (t : Tables E) where
  abbrev pub with_sent : List ℕ → Tables E
  with_sent sent = record { id = t.id; sites = t.sites; parts = t.parts; clock = t.clock; ceiling = t.ceiling; pending = t.pending; held = t.held; bounds = t.bounds; heard = t.heard; sent = sent }

  pub releases : (to lo hi : ℕ) (asked : Option ℕ) (parts : List (Part E)) (sent : List ℕ) → IsOther t.sites t.id.site to → lo ≡ (elim asked [ None ↦ entry t.sent to | Some n ↦ n ]) → hi ≡ own_bound t.clock t.pending → parts ≡ sorted_by (stream_cmp t.id.site) (parts_between t.id.site lo hi t.held) → sent ≡ replaced t.sent to hi
      → Steps kinds t Anything (λ e. e ≡ Sent asked (record { from = t.id.site; to = to; part = t.id.part; lo = lo; hi = hi; parts = parts })) (with_sent sent)
  releases to lo hi asked parts sent other lo_is hi_is parts_are sent_is =
      let site = t.id.site in
      let m : Message E = record { from = site; to = to; part = t.id.part; lo = lo; hi = hi; parts = parts } in
      let all = sorted_by (stream_cmp site) (parts_between site lo hi t.held) in record {
        same = record { id = refl; sites = refl; parts = refl };
        step = λ p h g.
            let s = h.tells in record {
              event = Sent asked m;
              after = done p (Sent asked m);
              shows = refl;
              step = (
                h.up,
                record {
                  from = refl;
                  part = refl;
                  to = other;
                  lo = lo_is ∙ ap (λ v. elim asked as (λ o. ℕ) [ None ↦ entry v to | Some n ↦ n ]) (sym h.sent);
                  hi = bounds_own t p hi h hi_is;
                  order = subst (λ l. Ascends (stream_cmp site) l) (sym parts_are) (between_ascends site lo hi p.log t.held t.clock s.store.order s.store.members s.store.exact s.ended s.brought);
                  members = λ u. ap (λ l. lists l u) parts_are ∙ between_members site lo hi p.log t.held t.clock s.store.order s.store.members s.store.exact s.ended s.brought u;
                  exact = subst (λ l. AreParts (committed_at p.log) (prepared_changes p.log) l) (sym parts_are) (between_exact site lo hi p.log t.held t.clock s.store.order s.store.members s.store.exact s.ended s.brought);
                },
                refl,
              );
              stands = record { up = refl; whole = refl; clock = h.clock; ceiling = h.ceiling; tells = h.tells; bounds = h.bounds; heard = h.heard; sent = ap (λ v. replaced v to hi) h.sent ∙ sym sent_is };
            };
      }

  -- with where the code starts it
  pub releases_from : (to last hi : ℕ) (asked : Option ℕ) (parts : List (Part E)) (sent : List ℕ) (lo : ℕ) → IsOther t.sites t.id.site to → lo ≡ start_of asked last → last ≡ entry t.sent to → hi ≡ own_bound t.clock t.pending → parts ≡ sorted_by (stream_cmp t.id.site) (parts_between t.id.site lo hi t.held) → sent ≡ replaced t.sent to hi
      → Steps kinds t Anything (λ e. e ≡ Sent asked (record { from = t.id.site; to = to; part = t.id.part; lo = lo; hi = hi; parts = parts })) (with_sent sent)
  releases_from to last hi asked parts sent lo other start last_is hi_is parts_are sent_is = releases to lo hi asked parts sent other (start ∙ starts asked last (entry t.sent to) last_is) hi_is parts_are sent_is
