-- What keeps the newest states, and what they give.
use Rattle.std.proofs.Common.{◌≡◌, ℕ, zero, suc, ◌+◌, ◌<◌, ◌≤◌, Bool, true, false, cond, not, ◌&&◌, ◌||◌, eqb, List, [], ◌∷◌, ◌++◌, length, get_or, Option, Some, None, refl, sym, ap, ◌∙◌, subst, arith, ◌⊎◌, inl, inr, nat_eq, append_assoc, take, zero-add}
use Rattle.std.specs.Prelude.{if◌then◌else◌, map, replicate}
use Rattle.std.specs.List.{filter, slice_get}
use Rattle.std.specs.HashMap.{get}
use Rattle.std.specs.Option.{option_map}
use Rattle.std.proofs.lemmas.Bool.{eqb-true, eq-eqb}
use Rattle.std.proofs.lemmas.List.{append-nil, append_cancel_right, length-replicate}
use Rattle.std.proofs.lemmas.Option.{slice_get_past}
use Rattle.site_vector.specs.declared.ids.Dot.{Dot}
use Rattle.site_vector.specs.Vector.{le, join}
use Rattle.site_vector.specs.VectorLaws.{length_join, le_trans, le_join, le_join_right}
use Rattle.crdt_core.specs.declared.kind.Kind.{Kind}
use Rattle.crdt_core.specs.declared.object.ObjectId.{ObjectId}
use Rattle.crdt_core.specs.declared.record.Part.{Part}
use Rattle.crdt_core.specs.declared.record.Upd.{Upd}
use Rattle.crdt_core.specs.History.{folded}
use Rattle.crdt_core.specs.Folds.{effects_of}
use Rattle.crdt_core.specs.Parts.{seen_parts}
use Rattle.effect_store.specs.Updates.{updates_of}
use Rattle.crdt_core.specs.Objects.{same_object, same_object-true, same_object-refl}
use Rattle.effect_store.specs.declared.links.Links.{Links}
use Rattle.effect_store.specs.declared.newest.Newest.{Newest}
use Rattle.effect_store.specs.Arranged.{added, added_all, arranged, Each, Rises, IsOrder}
use Rattle.effect_store.specs.Chains.{none, after, has_tag, chain, IsApart}
use Rattle.effect_store.specs.Spots.{Spot, spots, spots_in, spots_from, tag_of, tag_of_object, before, earlier}
use Rattle.effect_store.specs.Links.{or_none, spot}
use Rattle.effect_store.specs.Wanted.{pair, LinksFit}
use Rattle.effect_store.specs.Applied.{applied, mine, shows, shown}
use Rattle.effect_store.specs.Newest.{own, front, own_after, IsNewest, AreNewest, IsApplying, IsFront}
use Rattle.effect_store.proofs.Arranging.{eqv, each_more, each-added_all, filter-added_out, filter_same, filter_same_on, get_in}
use Rattle.effect_store.proofs.Chaining.{bools}
use Rattle.effect_store.proofs.Walking.{chain_head, chain_start}
use Rattle.effect_store.proofs.Linking.{is_there, link_read}
use Rattle.effect_store.proofs.Flattening.{coarser}
use Rattle.effect_store.proofs.Ordering.{before_order}
use Rattle.effect_store.proofs.Spotting.{spots_step, spots-arranged}
use Rattle.effect_store.proofs.Visiting.{chain_step}
use Rattle.effect_store.proofs.Folding.{map-append, applied-append, pairs-spots, folded-seen}
use Rattle.effect_store.proofs.Between.{filter_twice}

and_false : (b : Bool) → (b && false) ≡ false
and_false true = refl
and_false false = refl

and_swap : (a b : Bool) → (a && b) ≡ (b && a)
and_swap true true = refl
and_swap true false = refl
and_swap false true = refl
and_swap false false = refl

or_right : (a b : Bool) → b ≡ true → a || b ≡ true
or_right true b h = refl
or_right false b h = h

same_front : (own shown before : Bool) → (own && not before ≡ true → shown ≡ true) → eqv ((own && shown) && not before) (own && not before) ≡ true
same_front true true true h = refl
same_front true true false h = refl
same_front true false true h = refl
same_front true false false h = h refl
same_front false shown before h = refl

of_either : (a b : Bool) → not a || b ≡ true → a ≡ true → b ≡ true
of_either true b h k = h
of_either false b h k = cc

module _ {X : Type 0} (lt : X → X → Bool) (o : IsOrder lt) where
  none_upto : (q : X) (t : X → Bool) (l : List X) → Each (lt q) l → filter (λ y. t y && not (lt q y)) l ≡ []
  none_upto q t [] e = refl
  none_upto q t (y ∷ ys) e = let f : t y && not (lt q y) ≡ false = grind arith in rw f (none_upto q t ys e.1)

  split_by : (q y : X) (t : X → Bool) (ys : List X) (b c : Bool) → t y ≡ b → lt q y ≡ c → Each (lt y) ys
      → filter (λ z. t z && not (lt q z)) ys ++ filter (λ z. t z && lt q z) ys ≡ filter t ys
      → filter (λ z. t z && not (lt q z)) (y ∷ ys) ++ filter (λ z. t z && lt q z) (y ∷ ys) ≡ filter t (y ∷ ys)
  split_by q y t ys true true h k a e =
      let far : Each (lt q) ys = each_more (lt y) (lt q) (λ z m. o.follows q y z k m) ys a in
      let nil : filter (λ z. t z && not (lt q z)) ys ≡ [] = none_upto q t ys far in
      let same : filter (λ z. t z && lt q z) ys ≡ filter t ys = (let P : List X → Type 0 = λ l. l ++ filter (λ z. t z && lt q z) ys ≡ filter t ys in subst P nil e) in
      rw (h, k, nil) (ap (λ l. y ∷ l) same)
  split_by q y t ys true false h k a e = rw (h, k) (ap (λ l. y ∷ l) e)
  split_by q y t ys false c h k a e = rw h e

  -- a list in order is what stands up to an element, and then what stands after it
  split : (q : X) (t : X → Bool) (l : List X) → Rises lt l → filter (λ z. t z && not (lt q z)) l ++ filter (λ z. t z && lt q z) l ≡ filter t l
  split q t [] a = refl
  split q t (y ∷ ys) a = split_by q y t ys (t y) (lt q y) refl refl a.0 (split q t ys a.1)

each_push : {X : Type 0} (t : X → Bool) (xs : List X) (x : X) → Each t xs → t x ≡ true → Each t (xs ++ x ∷ [])
each_push t [] x e h = (h, tt)
each_push t (y ∷ ys) x e h = (e.0, each_push t ys x e.1 h)

-- of those that pass a test each passes another
each_in : {X : Type 0} (t u : X → Bool) (l : List X) → Each (λ y. not (t y) || u y) l → Each u (filter t l)
each_in t u [] e = tt
each_in t u (x ∷ xs) e = elim (bools (t x)) [
  | inl y ↦ rw y (of_either (t x) (u x) e.0 y, each_in t u xs e.1)
  | inr n ↦ rw n (each_in t u xs e.1)
]

out_of : {X : Type 0} (t u : X → Bool) (x : X) (xs : List X) (b : Bool) → t x ≡ b → Each u (cond b (x ∷ filter t xs) (filter t xs)) → (not (t x) || u x ≡ true) × Each u (filter t xs)
out_of t u x xs true h e = (rw h e.0, e.1)
out_of t u x xs false h e = (rw h refl, e)

each_out : {X : Type 0} (t u : X → Bool) (l : List X) → Each u (filter t l) → Each (λ y. not (t y) || u y) l
each_out t u [] e = tt
each_out t u (x ∷ xs) e = let k = out_of t u x xs (t x) refl e in (k.0, each_out t u xs k.1)

filter-added_all_out : {X : Type 0} (lt : X → X → Bool) (t : X → Bool) (acc ys : List X) → Each (λ y. not (t y)) ys → filter t (added_all lt acc ys) ≡ filter t acc
filter-added_all_out lt t acc [] e = refl
filter-added_all_out lt t acc (y ∷ ys) e = let f : t y ≡ false = grind arith in filter-added_all_out lt t (added lt y acc) ys e.1 ∙ filter-added_out lt t y f acc

added_all-append : {X : Type 0} (lt : X → X → Bool) (acc xs ys : List X) → added_all lt acc (xs ++ ys) ≡ added_all lt (added_all lt acc xs) ys
added_all-append lt acc [] ys = refl
added_all-append lt acc (x ∷ xs) ys = added_all-append lt (added lt x acc) xs ys

get_front : {X : Type 0} (xs ys : List X) (k : ℕ) (x : X) → slice_get xs k ≡ Some x → slice_get (xs ++ ys) k ≡ Some x
get_front [] ys k x e = cc
get_front (z ∷ zs) ys zero x e = e
get_front (z ∷ zs) ys (suc k) x e = get_front zs ys k x e

module _ {E : Type 0} where
  same_tag : (o : ObjectId) (q y : Spot E) → own o q ≡ true → own o y ≡ true → eqb (tag_of q) (tag_of y) ≡ true
  same_tag o q y h k = eq-eqb (tag_of q) (tag_of y) (ap tag_of_object (same_object-true q.update.object o h ∙ sym (same_object-true y.update.object o k)))

  own_and : (o : ObjectId) (q y : Spot E) (b : Bool) → own o q ≡ true → own o y ≡ b → (after tag_of before q y && own o y) ≡ own_after o q y
  own_and o q y true h k = let t : eqb (tag_of q) (tag_of y) ≡ true = same_tag o q y h k in rw (t, k) (grind arith)
  own_and o q y false h k = rw k (and_false (after tag_of before q y))

  -- of what comes after q with its tag, that of its object
  own_rest : (o : ObjectId) (q : Spot E) (l : List (Spot E)) → own o q ≡ true → filter (own o) (filter (after tag_of before q) l) ≡ filter (own_after o q) l
  own_rest o q l h = filter_twice (after tag_of before q) (own o) l ∙ filter_same (λ y. after tag_of before q y && own o y) (own_after o q) (λ y. own_and o q y (own o y) h refl) l

module _ {E : Type 0} (parts : List (Part E)) (links : Links) (r : LinksFit parts links) where
  small : length (spots parts) ≤ none
  small = omega (arith, r.linked.many, r.small)

  after_link : (a b : ℕ) (x : Spot E) → slice_get (spots parts) a ≡ Some x → b ≡ get_or links.next.items a b → chain tag_of before (spots parts) b ≡ filter (after tag_of before x) (arranged before (spots parts))
  after_link a b x g e =
      let within : a < length (spots parts) = get_in (spots parts) a x g in
      let f : b ≡ get_or links.next.items a none = link_read links.next.items a b (omega (arith, r.linked.next_long)) e in
      rw f (chain_start tag_of before before_order (spots parts) links.next.items r.linked.ahead.ordered r.linked.ahead.linked small a x g)

  -- the rest behind an update of the object
  pub rest_after : (o : ObjectId) (a b : ℕ) (x : Spot E) → own o x ≡ true → slice_get (spots parts) a ≡ Some x → b ≡ get_or links.next.items a b → filter (own o) (chain tag_of before (spots parts) b) ≡ filter (own_after o x) (arranged before (spots parts))
  rest_after o a b x h g e = ap (filter (own o)) (after_link a b x g e) ∙ own_rest o x (arranged before (spots parts)) h

  rest_from : (o : ObjectId) (tag at : ℕ) → tag ≡ tag_of_object o → at ≡ or_none (get nat_eq links.first tag) → filter (own o) (chain tag_of before (spots parts) at) ≡ filter (own o) (arranged before (spots parts))
  rest_from o tag at h e =
      let head : chain tag_of before (spots parts) (or_none (get nat_eq links.first (tag_of_object o))) ≡ filter (has_tag tag_of (tag_of_object o)) (arranged before (spots parts)) =
      chain_head tag_of before before_order (spots parts) links.next.items (λ i. or_none (get nat_eq links.first i)) r.linked.ahead small (tag_of_object o) in
      let tagged : (x : Spot E) → own o x ≡ true → has_tag tag_of (tag_of_object o) x ≡ true = λ x k. eq-eqb (tag_of_object o) (tag_of x) (sym (ap tag_of_object (same_object-true x.update.object o k))) in
      rw (e, h, head) (coarser (own o) (has_tag tag_of (tag_of_object o)) tagged (arranged before (spots parts)))

own_first : {E : Type 0} (o : ObjectId) (x : Spot E) (l m : List (Spot E)) → l ≡ x ∷ m → own o x ≡ true → filter (own o) l ≡ x ∷ filter (own o) m
own_first o x l m e h = rw (e, h) refl

own_skip : {E : Type 0} (o : ObjectId) (x : Spot E) (l m : List (Spot E)) → l ≡ x ∷ m → own o x ≡ false → filter (own o) l ≡ filter (own o) m
own_skip o x l m e h = rw (e, h) refl

either_if : {A : Type 0} (b : Bool) (x y z : A) → x ≡ (if b then y else z) → b ≡ true → x ≡ y
either_if true x y z e h = e
either_if false x y z e h = cc

neither_if : {A : Type 0} (b : Bool) (x y z : A) → x ≡ (if b then y else z) → b ≡ false → x ≡ z
neither_if true x y z e h = cc
neither_if false x y z e h = e

module _ {S E : Type 0} (first : Kind → S) (step : S → Dot → E → S) (sites : ℕ) (parts : List (Part E)) (links : Links) (r : LinksFit parts links) where
  own_applied : (o : ObjectId) (a b : ℕ) (x : Spot E) (n : Newest S) → slice_get (spots parts) a ≡ Some x → b ≡ get_or links.next.items a b → own o x ≡ true → length x.part.c ≡ sites → IsApplying first step o sites (spots parts) a n
      → IsApplying first step o sites (spots parts) b (record { at = a; seen = join n.seen x.part.c; state = step n.state (record { tx = x.part.tx; index = x.update.index }) x.update.effect })
  own_applied o a b x n g e h wide w =
      let xs : List (Spot E) = spots parts in
      let l : List (Spot E) = arranged before xs in
      let left : List (Spot E) = filter (own o) (chain tag_of before xs b) in
      let now : filter (own o) (chain tag_of before xs a) ≡ x ∷ left = own_first o x (chain tag_of before xs a) (chain tag_of before xs b) (chain_step parts links r a b x g e) h in
      let rest : left ≡ filter (own_after o x) l = rest_after parts links r o a b x h g e in
      let same_width : length n.seen ≡ length x.part.c = w.width ∙ sym wide in
      let seen : List ℕ = join n.seen x.part.c in
      record {
        done = w.done ++ x ∷ [];
        parted = append_assoc w.done (x ∷ []) left ∙ (ap (λ z. w.done ++ z) (sym now) ∙ w.parted);
        width = length_join n.seen x.part.c same_width ∙ w.width;
        covers = each_push (λ y. le y.part.c seen) w.done x (each_more (λ y. le y.part.c n.seen) (λ y. le y.part.c seen) (λ y v. le_trans y.part.c n.seen seen v (le_join n.seen x.part.c same_width)) w.done w.covers) (le_join_right n.seen x.part.c same_width);
        state = ap (λ z. step z (record { tx = x.part.tx; index = x.update.index }) x.update.effect) w.state
            ∙ sym (ap (applied step (first o.kind)) (map-append pair w.done (x ∷ [])) ∙ applied-append step (first o.kind) (map pair w.done) (pair x ∷ []));
        last = λ q f. (let same : x ≡ q = cc in (rw (← same) h, rw (← same) rest));
      }

  -- one more place of the walk
  pub applying_next : (o : ObjectId) (a b : ℕ) (p : Part E) (u : Upd E) (x : Spot E) (n n' : Newest S) → slice_get (spots parts) a ≡ Some x → b ≡ get_or links.next.items a b → p ≡ x.part → u ≡ x.update → length p.c ≡ sites
      → n' ≡ (if same_object u.object o then record { at = a; seen = join n.seen p.c; state = step n.state (record { tx = p.tx; index = u.index }) u.effect } else n)
      → IsApplying first step o sites (spots parts) a n → IsApplying first step o sites (spots parts) b n'
  applying_next o a b p u x n n' g e f h wide k w =
      let wide2 : length x.part.c ≡ sites = rw (← f) wide in
      let k2 : n' ≡ (if own o x then record { at = a; seen = join n.seen x.part.c; state = step n.state (record { tx = x.part.tx; index = x.update.index }) x.update.effect } else n) = rw (← f, ← h) k in
      elim (bools (own o x)) [
        | inl y ↦ rw (either_if (own o x) n' _ _ k2 y) (own_applied o a b x n g e y wide2 w)
        | inr v ↦
            (let same : filter (own o) (chain tag_of before (spots parts) a) ≡ filter (own o) (chain tag_of before (spots parts) b) = own_skip o x (chain tag_of before (spots parts) a) (chain tag_of before (spots parts) b) (chain_step parts links r a b x g e) v in
            rw (neither_if (own o x) n' _ _ k2 v) (record {
              done = w.done;
              parted = ap (λ z. w.done ++ z) (sym same) ∙ w.parted;
              width = w.width;
              covers = w.covers;
              state = w.state;
              last = λ q z. ((w.last q z).0, sym same ∙ (w.last q z).1);
            }))
      ]

  -- wherever the walk stops, the state is one with a front of the updates
  pub applying_front : (o : ObjectId) (a : ℕ) (n : Newest S) → IsApplying first step o sites (spots parts) a n → IsFront first step o sites (spots parts) n
  applying_front o a n w = record {
    newest = λ q f.
        (let xs : List (Spot E) = spots parts in
        let l : List (Spot E) = arranged before xs in
        let same : q.update.object ≡ o = same_object-true q.update.object o (w.last q f).0 in
        let P : ObjectId → Type 0 = λ z. IsApplying first step z sites xs a n in
        let v : IsApplying first step q.update.object sites xs a n = subst P (sym same) w in
        let t : Spot E → Bool = own q.update.object in
        let rest : List (Spot E) = filter (own_after q.update.object q) l in
        let all : v.done ++ rest ≡ filter t l = ap (λ z. v.done ++ z) (sym (v.last q f).1) ∙ v.parted in
        let upto : v.done ≡ filter (front q) l = append_cancel_right v.done (filter (front q) l) rest (all ∙ sym (split before before_order q t l r.linked.ahead.ordered)) in
        let Q : List (Spot E) → Type 0 = λ z. Each (λ y. le y.part.c n.seen) z in
        record {
          last = q;
          there = f;
          tagged = ap tag_of_object same;
          width = v.width;
          covers = each_out (front q) (λ y. le y.part.c n.seen) l (subst Q upto v.covers);
          state = v.state ∙ ap (λ z. applied step (first q.update.object.kind) (map pair z)) upto;
        });
  }

  applied_both : (s : S) (t u v : Spot E → Bool) (l m : List (Spot E)) → filter t l ++ filter u l ≡ filter v l → m ≡ filter u l → applied step (applied step s (map pair (filter t l))) (map pair m) ≡ applied step s (map pair (filter v l))
  applied_both s t u v l m e f =
      ap (λ z. applied step (applied step s (map pair (filter t l))) (map pair z)) f
      ∙ (sym (applied-append step s (map pair (filter t l)) (map pair (filter u l)))
      ∙ (ap (applied step s) (sym (map-append pair (filter t l) (filter u l))) ∙ ap (λ z. applied step s (map pair z)) e))

  -- from a newest state on
  pub applying_kept : (o : ObjectId) (tag from : ℕ) (n : Newest S) (k : IsNewest first step sites (spots parts) tag n) → own o k.last ≡ true → from ≡ get_or links.next.items n.at from → IsApplying first step o sites (spots parts) from n
  applying_kept o tag from n k h e =
      let same : k.last.update.object ≡ o = same_object-true k.last.update.object o h in
      let P : ObjectId → Type 0 = λ z. IsApplying first step z sites (spots parts) from n in
      let l : List (Spot E) = arranged before (spots parts) in
      let q : Spot E = k.last in
      let mine : own q.update.object q ≡ true = same_object-refl q.update.object in
      let rest : filter (own q.update.object) (chain tag_of before (spots parts) from) ≡ filter (own_after q.update.object q) l = rest_after parts links r q.update.object n.at from q mine k.there e in
      subst P same (record {
        done = filter (front q) l;
        parted = ap (λ z. filter (front q) l ++ z) rest ∙ split before before_order q (own q.update.object) l r.linked.ahead.ordered;
        width = k.width;
        covers = each_in (front q) (λ y. le y.part.c n.seen) l k.covers;
        state = k.state;
        last = λ x f. (let there : slice_get (spots parts) n.at ≡ Some q = k.there in let z : q ≡ x = cc in (rw (← z) mine, rw (← z) rest));
      })

  -- from no update on
  pub applying_fresh : (o : ObjectId) (tag from : ℕ) (n : Newest S) → tag ≡ tag_of_object o → from ≡ or_none (get nat_eq links.first tag) → n.at ≡ none → n.seen ≡ replicate sites 0 → n.state ≡ first o.kind → IsApplying first step o sites (spots parts) from n
  applying_fresh o tag from n h e at seen state =
      let l : List (Spot E) = arranged before (spots parts) in
      let rest : filter (own o) (chain tag_of before (spots parts) from) ≡ filter (own o) l = rest_from parts links r o tag from h e in
      record {
        done = [];
        parted = rest;
        width = ap (λ (z : List ℕ). length z) seen ∙ length-replicate sites 0;
        covers = tt;
        state = state;
        last = λ q f. (let z : slice_get (spots parts) n.at ≡ None = slice_get_past (spots parts) n.at (rw at (small parts links r)) in let v : ⊥ = cc in absurd v);
      }

  front_shown : (s : List ℕ) (q : Spot E) (seen : List ℕ) → le seen s ≡ true → (y : Spot E) → not (front q y) || le y.part.c seen ≡ true → eqv (mine q.update.object (shows s) y && not (before q y)) (front q y) ≡ true
  front_shown s q seen h y c = same_front (own q.update.object y) (le y.part.c s) (before q y) (λ f. le_trans y.part.c seen s (of_either (front q y) (le y.part.c seen) c f) h)

  mine_rest : (o : ObjectId) (s : List ℕ) (q y : Spot E) (b : Bool) → own o q ≡ true → own o y ≡ b → (after tag_of before q y && mine o (shows s) y) ≡ (mine o (shows s) y && before q y)
  mine_rest o s q y true h k = let t : eqb (tag_of q) (tag_of y) ≡ true = same_tag o q y h k in rw (t, k) (and_swap (before q y) (shows s y.part))
  mine_rest o s q y false h k = rw k (and_false (after tag_of before q y))

  -- what a read finds from a newest state on, whose front its snapshot shows
  pub read_kept : (o : ObjectId) (s : List ℕ) (tag from : ℕ) (n : Newest S) (k : IsNewest first step sites (spots parts) tag n) → own o k.last ≡ true → le n.seen s ≡ true → from ≡ get_or links.next.items n.at from
      → applied step n.state (shown o s parts from) ≡ applied step (first o.kind) (map pair (filter (mine o (shows s)) (arranged before (spots parts))))
  read_kept o s tag from n k h m e =
      let same : k.last.update.object ≡ o = same_object-true k.last.update.object o h in
      let P : ObjectId → Type 0 = λ z. applied step n.state (shown z s parts from) ≡ applied step (first z.kind) (map pair (filter (mine z (shows s)) (arranged before (spots parts)))) in
      let l : List (Spot E) = arranged before (spots parts) in
      let q : Spot E = k.last in
      let z : ObjectId = q.update.object in
      let t : Spot E → Bool = mine z (shows s) in
      let front_is : filter (λ y. t y && not (before q y)) l ≡ filter (front q) l = filter_same_on (λ y. t y && not (before q y)) (front q) l (each_more (λ y. not (front q y) || le y.part.c n.seen) (λ y. eqv (t y && not (before q y)) (front q y)) (front_shown s q n.seen m) l k.covers) in
      let rest_is : filter t (chain tag_of before (spots parts) from) ≡ filter (λ y. t y && before q y) l =
      ap (filter t) (after_link parts links r n.at from q k.there e) ∙ (filter_twice (after tag_of before q) t l ∙ filter_same (λ y. after tag_of before q y && t y) (λ y. t y && before q y) (λ y. mine_rest z s q y (own z y) (same_object-refl z) refl) l) in
      subst P same (ap (λ w. applied step w (map pair (filter t (chain tag_of before (spots parts) from)))) (k.state ∙ ap (λ w. applied step (first z.kind) (map pair w)) (sym front_is))
      ∙ applied_both (first z.kind) (λ y. t y && not (before q y)) (λ y. t y && before q y) t l (filter t (chain tag_of before (spots parts) from)) (split before before_order q t l r.linked.ahead.ordered) rest_is)

module _ {S E : Type 0} (first : Kind → S) (step : S → Dot → E → S) (sites : ℕ) where
  -- more updates, none of which comes into the front
  pub newest_push : (xs ys : List (Spot E)) (tag : ℕ) (n : Newest S) (k : IsNewest first step sites xs tag n) → Each (λ y. not (front k.last y)) ys → IsNewest first step sites (xs ++ ys) tag n
  newest_push xs ys tag n k e =
      let grown : arranged before (xs ++ ys) ≡ added_all before (arranged before xs) ys = added_all-append before [] xs ys in
      record {
        last = k.last;
        there = get_front xs ys n.at k.last k.there;
        tagged = k.tagged;
        width = k.width;
        covers = rw grown (each-added_all before (λ y. not (front k.last y) || le y.part.c n.seen) (arranged before xs) ys k.covers (each_more (λ y. not (front k.last y)) (λ y. not (front k.last y) || le y.part.c n.seen) (λ y f. grind arith) ys e));
        state = k.state ∙ ap (λ z. applied step (first k.last.update.object.kind) (map pair z)) (sym (ap (filter (front k.last)) grown ∙ filter-added_all_out before (front k.last) (arranged before xs) ys e));
      }

  -- the states that are left once one more part's updates are told
  pub newest_more : (xs ys : List (Spot E)) (newest newest' : ℕ → Option (Newest S)) → AreNewest first step sites xs newest → ((i : ℕ) (n : Newest S) → newest' i ≡ Some n → newest i ≡ Some n)
      → ((i : ℕ) (n : Newest S) → newest' i ≡ Some n → (q : Spot E) → slice_get xs n.at ≡ Some q → Each (λ y. not (has_tag tag_of i y) || before q y) ys) → AreNewest first step sites (xs ++ ys) newest'
  newest_more xs ys newest newest' h f g i n e =
      let k : IsNewest first step sites xs i n = h i n (f i n e) in
      newest_push xs ys i n k (each_more (λ y. not (has_tag tag_of i y) || before k.last y) (λ y. not (front k.last y)) (λ y v. elim (bools (own k.last.update.object y)) [
        | inr m ↦ grind arith
        | inl m ↦ (let t : has_tag tag_of i y ≡ true = eq-eqb i (tag_of y) (sym k.tagged ∙ ap tag_of_object (sym (same_object-true y.update.object k.last.update.object m))) in grind arith)
      ]) ys (g i n e k.last k.there))

spots-push : {E : Type 0} (parts : List (Part E)) (p : Part E) → spots (parts ++ p ∷ []) ≡ spots parts ++ spots_in p
spots-push [] p = append-nil (spots_in p)
spots-push (q ∷ qs) p = ap (λ l. spots_in q ++ l) (spots-push qs p) ∙ sym (append_assoc (spots_in q) (spots qs) (spots_in p))

module _ {S E : Type 0} (first : Kind → S) (step : S → Dot → E → S) (sites : ℕ) (parts : List (Part E)) (links : Links) (r : LinksFit parts links) where
  -- a state that was taken out, or that of no update, begins the walk over the rest
  pub start_applying : (o : ObjectId) (serves : Bool) (from : ℕ) (n : Newest S) (newest : ℕ → Option (Newest S)) → AreNewest first step sites (spots parts) newest
      → (serves ≡ true → (m : Newest S) × (newest (tag_of_object o) ≡ Some m) × ((q : Spot E) → slice_get (spots parts) m.at ≡ Some q → own o q ≡ true) × (from ≡ get_or links.next.items m.at from))
      → (serves ≡ false → from ≡ or_none (get nat_eq links.first (tag_of_object o)))
      → (serves ≡ true → newest (tag_of_object o) ≡ Some n) → (serves ≡ false → (n.at ≡ none) × (n.seen ≡ replicate sites 0) × (n.state ≡ first o.kind))
      → IsApplying first step o sites (spots parts) from n
  start_applying o true from n newest hold kept fresh taken made =
      let m = kept refl in
      let there : newest (tag_of_object o) ≡ Some n = taken refl in
      let k : IsNewest first step sites (spots parts) (tag_of_object o) n = hold (tag_of_object o) n there in
      let P : Newest S → Type 0 = λ z. ((q : Spot E) → slice_get (spots parts) z.at ≡ Some q → own o q ≡ true) × (from ≡ get_or links.next.items z.at from) in
      let same : m.0 ≡ n = (let e : newest (tag_of_object o) ≡ Some m.0 = m.1 in cc) in
      let here : P n = subst P same (m.2, m.3) in
      applying_kept first step sites parts links r o (tag_of_object o) from n k (here.0 k.last k.there) here.1
  start_applying o false from n newest hold kept fresh taken made =
      let m = made refl in
      applying_fresh first step sites parts links r o (tag_of_object o) from n refl (fresh refl) m.0 m.1 m.2

  pub newest_within : (newest : ℕ → Option (Newest S)) → AreNewest first step sites (spots parts) newest → (i : ℕ) (n : Newest S) → newest i ≡ Some n → (n.at < length links.entries.items) × (length n.seen ≡ sites)
  newest_within newest h i n e = let k = h i n e in let small : n.at < length (spots parts) = get_in (spots parts) n.at k.last k.there in (omega (arith, r.linked.many), k.width)

  -- what is kept is a newest state
  pub newest_kept : (o : ObjectId) (front : Newest S) (old left new : ℕ → Option (Newest S)) → AreNewest first step sites (spots parts) old → ((i : ℕ) (n : Newest S) → left i ≡ Some n → old i ≡ Some n) → IsFront first step o sites (spots parts) front
      → ((i : ℕ) (n : Newest S) → new i ≡ Some n → (left i ≡ Some n) ⊎ ((i ≡ tag_of_object o) × (n ≡ front) × (n.at < length links.entries.items))) → AreNewest first step sites (spots parts) new
  newest_kept o front old left new h f w g i n e = elim (g i n e) [
    | inl a ↦ h i n (f i n a)
    | inr a ↦
        (let P : Newest S → Type 0 = λ z. IsFront first step o sites (spots parts) z in
        let Q : ℕ → Type 0 = λ z. IsNewest first step sites (spots parts) z n in
        let v : IsFront first step o sites (spots parts) n = subst P (sym a.1) w in
        let inside : n.at < length links.entries.items = a.2 in
        let there = is_there (spots parts) n.at (omega (arith, r.linked.many, inside)) in
        subst Q (sym a.0) (v.newest there.0 there.1))
  ]

module _ {S E : Type 0} (first : Kind → S) (step : S → Dot → E → S) where
  pub newest_left : (sites : ℕ) (xs : List (Spot E)) (old left : ℕ → Option (Newest S)) → AreNewest first step sites xs old → ((i : ℕ) (n : Newest S) → left i ≡ Some n → old i ≡ Some n) → AreNewest first step sites xs left
  newest_left sites xs old left h f i n e = h i n (f i n e)

  pub newest_width : (a b : ℕ) (xs : List (Spot E)) (newest : ℕ → Option (Newest S)) → b ≡ a → AreNewest first step a xs newest → AreNewest first step b xs newest
  newest_width a b xs newest e h = rw e h

  pub applying_width : (o : ObjectId) (a b : ℕ) (xs : List (Spot E)) (from : ℕ) (n : Newest S) → b ≡ a → IsApplying first step o a xs from n → IsApplying first step o b xs from n
  applying_width o a b xs from n e h = rw e h

  pub front_width : (o : ObjectId) (a b : ℕ) (xs : List (Spot E)) (n : Newest S) → b ≡ a → IsFront first step o a xs n → IsFront first step o b xs n
  front_width o a b xs n e h = rw e h

  -- states of two maps
  pub newest_either : (sites : ℕ) (xs : List (Spot E)) (a b new : ℕ → Option (Newest S)) → AreNewest first step sites xs a → AreNewest first step sites xs b → ((i : ℕ) (n : Newest S) → new i ≡ Some n → (a i ≡ Some n) ⊎ (b i ≡ Some n)) → AreNewest first step sites xs new
  newest_either sites xs a b new h k f i n e = elim (f i n e) [
    | inl y ↦ h i n y
    | inr z ↦ k i n z
  ]

of_both : (a b : Bool) → a && b ≡ true → a ≡ true
of_both true b h = refl
of_both false b h = cc

or_left : (a b : Bool) → a ≡ true → a || b ≡ true
or_left true b h = refl
or_left false b h = cc

negated : (b : Bool) → b ≡ false → not b ≡ true
negated true h = cc
negated false h = refl

none_mapped : {A B : Type 0} (f : A → B) (o : Option A) (x : A) → None ≡ option_map f o → o ≡ Some x → ⊥
none_mapped f None x e h = cc
none_mapped f (Some y) x e h = cc

some_mapped : {A B : Type 0} (f : A → B) (o : Option A) (x : A) (y : B) → Some y ≡ option_map f o → o ≡ Some x → f x ≡ y
some_mapped f None x y e h = cc
some_mapped f (Some z) x y e h = let same : z ≡ x = cc in let k : y ≡ f z = cc in rw (← same) (sym k)

-- while newest states are dropped: none is left that an update before n comes into
pub record IsForgetting {S E : Type 0} (parts : List (Part E)) (p : Part E) (old now : ℕ → Option (Newest S)) (count n : ℕ) : Type 0 where
  pub within : n ≤ count
  pub left : (i : ℕ) (k : Newest S) → now i ≡ Some k → old i ≡ Some k
  pub clear : (i : ℕ) (k : Newest S) → now i ≡ Some k → (q : Spot E) → slice_get (spots parts) k.at ≡ Some q → Each (λ x. not (has_tag tag_of i x) || before q x) (spots_from p 0 (take n p.updates))

module _ {S E : Type 0} (parts : List (Part E)) (p : Part E) where
  pub forgetting_next : (old now new : ℕ → Option (Newest S)) (count n : ℕ) (u : Upd E) → IsForgetting parts p old now count n → n < count → slice_get p.updates n ≡ Some u
      → ((i : ℕ) (k : Newest S) → new i ≡ Some k → now i ≡ Some k)
      → ((i : ℕ) (k : Newest S) → new i ≡ Some k → (q : Spot E) → slice_get (spots parts) k.at ≡ Some q → (v : Upd E) → slice_get p.updates n ≡ Some v → (not (has_tag tag_of i (spot p n v)) || before q (spot p n v)) ≡ true)
      → IsForgetting parts p old new count (n + 1)
  forgetting_next old now new count n u w h e f g = record {
    within = omega (arith, w.within);
    left = λ i k z. w.left i k (f i k z);
    clear = λ i k z q y.
        (let t : Spot E → Bool = λ x. not (has_tag tag_of i x) || before q x in
        let grown : spots_from p 0 (take (suc n) p.updates) ≡ spots_from p 0 (take n p.updates) ++ spot p (0 + n) u ∷ [] = spots_step p 0 p.updates n u e in
        let same : n + 1 ≡ suc n = omega arith in
        let zero_n : 0 + n ≡ n = zero-add n in
        let last : t (spot p (0 + n) u) ≡ true = (let P : ℕ → Type 0 = λ m. t (spot p m u) ≡ true in subst P (sym zero_n) (g i k z q y u e)) in
        rw (same, grown) (each_push t (spots_from p 0 (take n p.updates)) (spot p (0 + n) u) (w.clear i k (f i k z) q y) last));
  }

  -- no newest state stands at the update's tag
  pub clear_none : (now : ℕ → Option (Newest S)) (n t : ℕ) (u : Upd E) → t ≡ tag_of_object u.object → None ≡ option_map (λ (k : Newest S). k.at) (now t)
      → (i : ℕ) (k : Newest S) → now i ≡ Some k → (q : Spot E) → (v : Upd E) → slice_get p.updates n ≡ Some u → slice_get p.updates n ≡ Some v → (not (has_tag tag_of i (spot p n v)) || before q (spot p n v)) ≡ true
  clear_none now n t u h e i k z q v f g = elim (bools (has_tag tag_of i (spot p n v))) [
    | inr m ↦ or_left (not (has_tag tag_of i (spot p n v))) (before q (spot p n v)) (negated (has_tag tag_of i (spot p n v)) m)
    | inl m ↦
        (let same : u ≡ v = cc in
        let at : i ≡ t = eqb-true i (tag_of_object v.object) m ∙ sym (h ∙ ap (λ (x : Upd E). tag_of_object x.object) same) in
        let there : now t ≡ Some k = rw (← at) z in
        absurd (none_mapped (λ (x : Newest S). x.at) (now t) k e there))
  ]

  -- the state at the update's tag ends before it
  pub clear_after : (now : ℕ → Option (Newest S)) (n t end : ℕ) (u : Upd E) (x : Spot E) → t ≡ tag_of_object u.object → Some end ≡ option_map (λ (k : Newest S). k.at) (now t) → slice_get (spots parts) end ≡ Some x → before x (spot p n u) ≡ true
      → (i : ℕ) (k : Newest S) → now i ≡ Some k → (q : Spot E) → slice_get (spots parts) k.at ≡ Some q → (v : Upd E) → slice_get p.updates n ≡ Some u → slice_get p.updates n ≡ Some v → (not (has_tag tag_of i (spot p n v)) || before q (spot p n v)) ≡ true
  clear_after now n t end u x h e y b i k z q w v f g = elim (bools (has_tag tag_of i (spot p n v))) [
    | inr m ↦ or_left (not (has_tag tag_of i (spot p n v))) (before q (spot p n v)) (negated (has_tag tag_of i (spot p n v)) m)
    | inl m ↦
        (let same : u ≡ v = cc in
        let at : i ≡ t = eqb-true i (tag_of_object v.object) m ∙ sym (h ∙ ap (λ (x : Upd E). tag_of_object x.object) same) in
        let there : now t ≡ Some k = rw (← at) z in
        let ends : k.at ≡ end = some_mapped (λ (x : Newest S). x.at) (now t) k end e there in
        let here : slice_get (spots parts) end ≡ Some q = rw (← ends) w in
        let last : x ≡ q = cc in
        let P : Spot E → Type 0 = λ z. before z (spot p n u) ≡ true in
        or_right (not (has_tag tag_of i (spot p n v))) (before q (spot p n v)) (subst P last b))
  ]

  -- the state at the update's tag was taken out
  pub clear_gone : (now new : ℕ → Option (Newest S)) (n t : ℕ) (u : Upd E) → t ≡ tag_of_object u.object → ((i : ℕ) → new i ≡ cond (eqb t i) None (now i))
      → (i : ℕ) (k : Newest S) → new i ≡ Some k → (q : Spot E) → (v : Upd E) → slice_get p.updates n ≡ Some u → slice_get p.updates n ≡ Some v → (not (has_tag tag_of i (spot p n v)) || before q (spot p n v)) ≡ true
  clear_gone now new n t u h e i k z q v f g = elim (bools (has_tag tag_of i (spot p n v))) [
    | inr m ↦ or_left (not (has_tag tag_of i (spot p n v))) (before q (spot p n v)) (negated (has_tag tag_of i (spot p n v)) m)
    | inl m ↦
        (let same : u ≡ v = cc in
        let at : i ≡ t = eqb-true i (tag_of_object v.object) m ∙ sym (h ∙ ap (λ (x : Upd E). tag_of_object x.object) same) in
        let here : eqb t i ≡ true = eq-eqb t i (sym at) in
        let gone : new i ≡ None = e i ∙ rw here refl in
        let v : ⊥ = cc in absurd v)
  ]

  pub left_gone : (now new : ℕ → Option (Newest S)) (t : ℕ) → ((i : ℕ) → new i ≡ cond (eqb t i) None (now i)) → (i : ℕ) (k : Newest S) → new i ≡ Some k → now i ≡ Some k
  left_gone now new t e i k z = elim (bools (eqb t i)) [
    | inl y ↦ (let gone : new i ≡ None = e i ∙ rw y refl in let v : ⊥ = cc in absurd v)
    | inr n ↦ (let same : new i ≡ now i = e i ∙ rw n refl in sym same ∙ z)
  ]

pub mapped_some : {A B : Type 0} (f : A → B) (o : Option A) (y : B) → Some y ≡ option_map f o → (x : A) × (o ≡ Some x) × (f x ≡ y)
mapped_some f None y e = cc
mapped_some f (Some x) y e = (x, refl, cc)

-- an update that was read of a list that was read
pub read_of : {E : Type 0} (us vs : List (Upd E)) (n : ℕ) (u : Upd E) → vs ≡ us → slice_get vs n ≡ Some u → slice_get us n ≡ Some u
read_of us vs n u e h = rw (← e) h

-- the tag of an update that was read of a list that was read
pub tag_read : {E : Type 0} (us vs : List (Upd E)) (n t : ℕ) (x : Upd E) → vs ≡ us → slice_get vs n ≡ Some x → t ≡ tag_of_object x.object → (u : Upd E) → slice_get us n ≡ Some u → t ≡ tag_of_object u.object
tag_read us vs n t x e h k u f =
    let there : slice_get us n ≡ Some x = read_of us vs n x e h in
    let same : x ≡ u = cc in
    k ∙ ap (λ (y : Upd _). tag_of_object y.object) same

take_most : {X : Type 0} (n : ℕ) (l : List X) → length l ≤ n → take n l ≡ l
take_most zero [] h = refl
take_most (suc n) [] h = refl
take_most zero (x ∷ xs) h = absurd (omega arith)
take_most (suc n) (x ∷ xs) h = ap (λ l. x ∷ l) (take_most n xs (omega arith))

pub forgotten : {S E : Type 0} (parts : List (Part E)) (p : Part E) (old now : ℕ → Option (Newest S)) (count n : ℕ) → IsForgetting parts p old now count n → length p.updates ≤ n
    → (i : ℕ) (k : Newest S) → now i ≡ Some k → (q : Spot E) → slice_get (spots parts) k.at ≡ Some q → Each (λ x. not (has_tag tag_of i x) || before q x) (spots_in p)
forgotten {E = E} parts p old now count n w h i k z q y = let P : List (Upd E) → Type 0 = λ l. Each (λ x. not (has_tag tag_of i x) || before q x) (spots_from p 0 l) in subst P (take_most n p.updates h) (w.clear i k z q y)

module _ {S E : Type 0} (first : Kind → S) (step : S → Dot → E → S) (parts : List (Part E)) (links : Links) (r : LinksFit parts links) where
  -- what a read finds from no update on
  pub read_fresh : (o : ObjectId) (s : List ℕ) (tag from : ℕ) (state : S) → tag ≡ tag_of_object o → from ≡ or_none (get nat_eq links.first tag) → state ≡ first o.kind
      → applied step state (shown o s parts from) ≡ applied step (first o.kind) (map pair (filter (mine o (shows s)) (arranged before (spots parts))))
  read_fresh o s tag from state h e f =
      let t : Spot E → Bool = mine o (shows s) in
      let head : chain tag_of before (spots parts) (or_none (get nat_eq links.first (tag_of_object o))) ≡ filter (has_tag tag_of (tag_of_object o)) (arranged before (spots parts)) =
      chain_head tag_of before before_order (spots parts) links.next.items (λ i. or_none (get nat_eq links.first i)) r.linked.ahead (small parts links r) (tag_of_object o) in
      let tagged : (x : Spot E) → t x ≡ true → has_tag tag_of (tag_of_object o) x ≡ true = λ x k. eq-eqb (tag_of_object o) (tag_of x) (sym (ap tag_of_object (same_object-true x.update.object o (of_both (own o x) (shows s x.part) k)))) in
      let same : filter t (chain tag_of before (spots parts) from) ≡ filter t (arranged before (spots parts)) = rw (e, h, head) (coarser t (has_tag tag_of (tag_of_object o)) tagged (arranged before (spots parts))) in
      ap (λ z. applied step z (map pair (filter t (chain tag_of before (spots parts) from)))) f ∙ ap (λ z. applied step (first o.kind) (map pair z)) same

  -- what a read finds from a kept state on
  pub read_from : (sites : ℕ) (o : ObjectId) (s : List ℕ) (tag from : ℕ) (n : Newest S) (newest : ℕ → Option (Newest S)) → AreNewest first step sites (spots parts) newest → newest tag ≡ Some n
      → ((q : Spot E) → slice_get (spots parts) n.at ≡ Some q → own o q ≡ true) → le n.seen s ≡ true → from ≡ get_or links.next.items n.at from
      → applied step n.state (shown o s parts from) ≡ applied step (first o.kind) (map pair (filter (mine o (shows s)) (arranged before (spots parts))))
  read_from sites o s tag from n newest h e f m g = let k = h tag n e in read_kept first step sites parts links r o s tag from n k (f k.last k.there) m g

  pub read_at_end : (sites : ℕ) (o : ObjectId) (s : List ℕ) (tag from : ℕ) (n : Newest S) (newest : ℕ → Option (Newest S)) → AreNewest first step sites (spots parts) newest → newest tag ≡ Some n
      → ((q : Spot E) → slice_get (spots parts) n.at ≡ Some q → own o q ≡ true) → le n.seen s ≡ true → from ≡ get_or links.next.items n.at from → shown o s parts from ≡ []
      → n.state ≡ applied step (first o.kind) (map pair (filter (mine o (shows s)) (arranged before (spots parts))))
  read_at_end sites o s tag from n newest h e f m g z = ap (applied step n.state) (sym z) ∙ read_from sites o s tag from n newest h e f m g

module _ {S E : Type 0} (first : Kind → S) (step : S → Dot → E → S) where
  pub newest_in : (a b : ℕ) (parts l : List (Part E)) (newest : ℕ → Option (Newest S)) → b ≡ a → l ≡ parts → AreNewest first step a (spots parts) newest → AreNewest first step b (spots l) newest
  newest_in a b parts l newest e f h = rw (e, f) h

  pub newest_none : (sites : ℕ) (xs : List (Spot E)) (newest : ℕ → Option (Newest S)) → ((i : ℕ) → newest i ≡ None) → AreNewest first step sites xs newest
  newest_none sites xs newest h i n e = let z : newest i ≡ None = h i in let v : ⊥ = cc in absurd v

  -- once a part was told, and pushed
  pub newest_after : (sites : ℕ) (parts l parts' : List (Part E)) (p : Part E) (old new : ℕ → Option (Newest S)) → AreNewest first step sites (spots parts) old → ((i : ℕ) (n : Newest S) → new i ≡ Some n → old i ≡ Some n)
      → ((i : ℕ) (n : Newest S) → new i ≡ Some n → (q : Spot E) → slice_get (spots l) n.at ≡ Some q → Each (λ y. not (has_tag tag_of i y) || before q y) (spots_in p))
      → l ≡ parts → parts' ≡ parts ++ p ∷ [] → AreNewest first step sites (spots parts') new
  newest_after sites parts l parts' p old new h f g e k =
      let P : List (Part E) → Type 0 = λ z. (i : ℕ) (n : Newest S) → new i ≡ Some n → (q : Spot E) → slice_get (spots z) n.at ≡ Some q → Each (λ y. not (has_tag tag_of i y) || before q y) (spots_in p) in
      let Q : List (Spot E) → Type 0 = λ z. AreNewest first step sites z new in
      subst Q (sym (ap spots k ∙ spots-push parts p)) (newest_more first step sites (spots parts) (spots_in p) old new h f (subst P e g))

  -- what a read finds is the state that the model tells
  pub model_is : (parts l view : List (Part E)) (o : ObjectId) (s : List ℕ) → IsApart earlier parts → l ≡ parts → arranged earlier parts ≡ view
      → applied step (first o.kind) (map pair (filter (mine o (shows s)) (arranged before (spots l)))) ≡ folded (first o.kind) step (effects_of o [] (seen_parts o s view))
  model_is parts l view o s a e h =
      let same : map pair (filter (mine o (shows s)) (arranged before (spots l))) ≡ updates_of o (filter (shows s) view) = rw (e, spots-arranged parts a, h) (pairs-spots o (shows s) view) in
      ap (applied step (first o.kind)) same ∙ sym (folded-seen (first o.kind) step o s view)
