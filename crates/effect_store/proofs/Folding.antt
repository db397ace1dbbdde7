-- What a walk applies, in the words of the model.
use Rattle.std.proofs.Common.{◌≡◌, ℕ, suc, ◌≤◌, Bool, true, false, cond, ◌&&◌, List, [], ◌∷◌, ◌++◌, length, get_or, Option, Some, None, refl, sym, ap, ◌∙◌, arith, nat_eq, inl, inr}
use Rattle.std.specs.Prelude.{if◌then◌else◌, map, ◌==◌, IfSome}
use Rattle.std.specs.List.{slice_get, filter}
use Rattle.std.specs.HashMap.{get}
use Rattle.std.proofs.lemmas.Bool.{eqb-true, eq-eqb}
use Rattle.std.proofs.lemmas.Option.{slice_get_past}
use Rattle.site_vector.specs.declared.ids.Dot.{Dot}
use Rattle.site_vector.specs.Vector.{le}
use Rattle.crdt_core.specs.declared.object.ObjectId.{ObjectId}
use Rattle.crdt_core.specs.declared.record.Upd.{Upd}
use Rattle.crdt_core.specs.declared.record.Part.{Part}
use Rattle.crdt_core.specs.Objects.{same_object, same_object-true}
use Rattle.crdt_core.specs.History.{folded}
use Rattle.crdt_core.specs.Folds.{effects_from, effects_of}
use Rattle.crdt_core.specs.Parts.{touches, seen_parts}
use Rattle.effect_store.specs.declared.links.Links.{Links}
use Rattle.effect_store.specs.Arranged.{arranged, Each}
use Rattle.effect_store.specs.Chains.{none, has_tag, chain, IsApart}
use Rattle.effect_store.specs.Spots.{Spot, spots, spots_in, spots_from, tag_of, tag_of_object, before, earlier}
use Rattle.effect_store.specs.Links.{or_none}
use Rattle.effect_store.specs.Updates.{updates_in, updates_of}
use Rattle.effect_store.specs.Wanted.{pair, is_outside, IsAsWide, LinksFit}
use Rattle.effect_store.specs.Applied.{applied, mine, shows, shown, AreWide}
use Rattle.effect_store.proofs.Arranging.{get_each}
use Rattle.effect_store.proofs.Chaining.{bools}
use Rattle.effect_store.proofs.Walking.{chain_head}
use Rattle.effect_store.proofs.Flattening.{coarser}
use Rattle.effect_store.proofs.Ordering.{before_order}
use Rattle.effect_store.proofs.Spotting.{spots-arranged}
use Rattle.effect_store.proofs.Visiting.{chain_step}

pub filter-append : {X : Type 0} (t : X → Bool) (xs ys : List X) → filter t (xs ++ ys) ≡ filter t xs ++ filter t ys
filter-append t [] ys = refl
filter-append t (x ∷ xs) ys = elim (bools (t x)) [
  | inl y ↦ rw y (ap (λ l. x ∷ l) (filter-append t xs ys))
  | inr n ↦ rw n (filter-append t xs ys)
]

pub map-append : {X Y : Type 0} (f : X → Y) (xs ys : List X) → map f (xs ++ ys) ≡ map f xs ++ map f ys
map-append f [] ys = refl
map-append f (x ∷ xs) ys = ap (λ l. f x ∷ l) (map-append f xs ys)

always : {X : Type 0} (xs : List X) → filter (λ x. true) xs ≡ xs
always [] = refl
always (x ∷ xs) = ap (λ l. x ∷ l) (always xs)

pub applied-append : {S E : Type 0} (step : S → Dot → E → S) (s : S) (xs ys : List (Part E × Upd E)) → applied step s (xs ++ ys) ≡ applied step (applied step s xs) ys
applied-append step s [] ys = refl
applied-append step s (x ∷ xs) ys = applied-append step (step s (record { tx = x.0.tx; index = x.1.index }) x.1.effect) xs ys

fails : (a b : Bool) → b ≡ false → (a && b) ≡ false
fails true b h = h
fails false b h = refl

module _ {E : Type 0} where
  own_step : (o : ObjectId) (p : Part E) (u : Upd E) (l m : List (Part E × Upd E)) (b : Bool) → same_object u.object o ≡ b → l ≡ m → cond (b && true) ((p, u) ∷ l) l ≡ (if b then (p, u) ∷ m else m)
  own_step o p u l m true h e = ap (λ k. (p, u) ∷ k) e
  own_step o p u l m false h e = e

  -- the updates of the object in a part that passes, and in one that doesn't
  pairs_passing : (o : ObjectId) (t : Part E → Bool) (p : Part E) (n : ℕ) (us : List (Upd E)) → t p ≡ true → map pair (filter (mine o t) (spots_from p n us)) ≡ updates_in o p us
  pairs_passing o t p n [] h = refl
  pairs_passing o t p n (u ∷ us) h = elim (bools (same_object u.object o)) [
    | inl y ↦ rw (y, h) (ap (λ k. (p, u) ∷ k) (pairs_passing o t p (suc n) us h))
    | inr f ↦ rw f (pairs_passing o t p (suc n) us h)
  ]

  pairs_failing : (o : ObjectId) (t : Part E → Bool) (p : Part E) (n : ℕ) (us : List (Upd E)) → t p ≡ false → map pair (filter (mine o t) (spots_from p n us)) ≡ []
  pairs_failing o t p n [] h = refl
  pairs_failing o t p n (u ∷ us) h = rw (fails (same_object u.object o) (t p) h) (pairs_failing o t p (suc n) us h)

  -- the updates of an object in the parts that pass, one by one and part by part
  pub pairs-spots : (o : ObjectId) (t : Part E → Bool) (ps : List (Part E)) → map pair (filter (mine o t) (spots ps)) ≡ updates_of o (filter t ps)
  pairs-spots o t [] = refl
  pairs-spots o t (p ∷ ps) =
      let apart = ap (map pair) (filter-append (mine o t) (spots_in p) (spots ps)) ∙ map-append pair (filter (mine o t) (spots_in p)) (filter (mine o t) (spots ps)) in
      elim (bools (t p)) [
        | inl y ↦ rw (y, apart, pairs_passing o t p 0 p.updates y) (ap (λ l. updates_in o p p.updates ++ l) (pairs-spots o t ps))
        | inr n ↦ rw (n, apart, pairs_failing o t p 0 p.updates n) (pairs-spots o t ps)
      ]

  untouched : (o : ObjectId) (p : Part E) (us : List (Upd E)) → touches us o ≡ false → updates_in o p us ≡ []
  untouched o p [] h = refl
  untouched o p (u ∷ us) h = let f : same_object u.object o ≡ false = grind arith in let r : touches us o ≡ false = grind arith in rw f (untouched o p us r)

  -- parts that don't change the object give nothing
  pub updates_of-seen_parts : (o : ObjectId) (s : List ℕ) (ps : List (Part E)) → updates_of o (seen_parts o s ps) ≡ updates_of o (filter (shows s) ps)
  updates_of-seen_parts o s [] = refl
  updates_of-seen_parts o s (p ∷ ps) = elim (bools (le p.c s)) [
    | inr n ↦ rw (fails (touches p.updates o) (le p.c s) n, n) (updates_of-seen_parts o s ps)
    | inl y ↦ elim (bools (touches p.updates o)) [
      | inl t ↦ rw (t, y) (ap (λ l. updates_in o p p.updates ++ l) (updates_of-seen_parts o s ps))
      | inr n ↦ rw (n, y, untouched o p p.updates n) (updates_of-seen_parts o s ps)
    ]
  ]

module _ {S E : Type 0} (first : S) (step : S → Dot → E → S) (o : ObjectId) where
  folded-from : (p : Part E) (older : List (Dot × E)) (us : List (Upd E)) → folded first step (effects_from o p.tx older us) ≡ applied step (folded first step older) (updates_in o p us)
  folded-from p older [] = refl
  folded-from p older (u ∷ us) = elim (bools (same_object u.object o)) [
    | inl y ↦ rw y (folded-from p ((record { tx = p.tx; index = u.index }, u.effect) ∷ older) us)
    | inr n ↦ rw n (folded-from p older us)
  ]

  folded-of : (older : List (Dot × E)) (ps : List (Part E)) → folded first step (effects_of o older ps) ≡ applied step (folded first step older) (updates_of o ps)
  folded-of older [] = refl
  folded-of older (p ∷ ps) = folded-of (effects_from o p.tx older p.updates) ps ∙ (ap (λ s. applied step s (updates_of o ps)) (folded-from p older p.updates) ∙ sym (applied-append step (folded first step older) (updates_in o p p.updates) (updates_of o ps)))

  -- the state that a read finds
  pub folded-seen : (s : List ℕ) (ps : List (Part E)) → folded first step (effects_of o [] (seen_parts o s ps)) ≡ applied step first (updates_of o (filter (shows s) ps))
  folded-seen s ps = folded-of [] (seen_parts o s ps) ∙ ap (applied step first) (updates_of-seen_parts o s ps)

module _ {E : Type 0} (parts : List (Part E)) (links : Links) (r : LinksFit parts links) (apart : IsApart earlier parts) where
  tagged : (o : ObjectId) (t : Part E → Bool) (x : Spot E) → mine o t x ≡ true → has_tag tag_of (tag_of_object o) x ≡ true
  tagged o t x h =
      let m : same_object x.update.object o ≡ true = grind arith in
      eq-eqb (tag_of_object o) (tag_of_object x.update.object) (sym (ap tag_of_object (same_object-true x.update.object o m)))

  -- what the chain of the object's tag gives from its head on
  pub from_head : (o : ObjectId) (t : Part E → Bool) (tag at : ℕ) (view : List (Part E)) → tag ≡ tag_of_object o → at ≡ or_none (get nat_eq links.first tag) → arranged earlier parts ≡ view
      → map pair (filter (mine o t) (chain tag_of before (spots parts) at)) ≡ updates_of o (filter t view)
  from_head o t tag at view h e v =
      let small : length (spots parts) ≤ none = omega (arith, r.linked.many, r.small) in
      let head : chain tag_of before (spots parts) (or_none (get nat_eq links.first (tag_of_object o))) ≡ filter (has_tag tag_of (tag_of_object o)) (arranged before (spots parts)) =
      chain_head tag_of before before_order (spots parts) links.next.items (λ i. or_none (get nat_eq links.first i)) r.linked.ahead small (tag_of_object o) in
      rw (e, h, head, coarser (mine o t) (has_tag tag_of (tag_of_object o)) (tagged o t) (arranged before (spots parts)), spots-arranged parts apart, v) (pairs-spots o t view)

module _ {S E : Type 0} (step : S → Dot → E → S) (parts : List (Part E)) (links : Links) (r : LinksFit parts links) where
  one_more : (t : Spot E → Bool) (x : Spot E) (l m : List (Spot E)) (s : S) (b : Bool) → t x ≡ b → l ≡ x ∷ m
      → applied step (if b then step s (record { tx = x.part.tx; index = x.update.index }) x.update.effect else s) (map pair (filter t m)) ≡ applied step s (map pair (filter t l))
  one_more t x l m s true h e = rw (e, h) refl
  one_more t x l m s false h e = rw (e, h) refl

  -- a walk that applied what is shown at a place
  pub applied_next : (o : ObjectId) (v : List ℕ) (a b : ℕ) (p : Part E) (u : Upd E) (x : Spot E) (s s' : S) → slice_get (spots parts) a ≡ Some x → b ≡ get_or links.next.items a b → p ≡ x.part → u ≡ x.update
      → s' ≡ (if same_object u.object o && le p.c v then step s (record { tx = p.tx; index = u.index }) u.effect else s)
      → applied step s' (shown o v parts b) ≡ applied step s (shown o v parts a)
  applied_next o v a b p u x s s' g e f h k =
      let here : s' ≡ (if mine o (shows v) x then step s (record { tx = x.part.tx; index = x.update.index }) x.update.effect else s) = rw (← f, ← h) k in
      ap (λ z. applied step z (shown o v parts b)) here ∙ one_more (mine o (shows v)) x (chain tag_of before (spots parts) a) (chain tag_of before (spots parts) b) s (mine o (shows v) x) refl (chain_step parts links r a b x g e)

  pub shown_none : (o : ObjectId) (v : List ℕ) (a : ℕ) → length links.entries.items ≤ a → shown o v parts a ≡ []
  shown_none o v a h = rw (slice_get_past (spots parts) a (omega (arith, r.linked.many))) refl

module _ {E : Type 0} where
  pub wide_for : (o : Option (List ℕ)) (n m : ℕ) (parts l : List (Part E)) → IfSome o (λ v. length v ≡ n) → n ≡ m → l ≡ parts → AreWide m parts → IsAsWide o l
  wide_for None n m parts l h f e w s g = cc
  wide_for (Some v) n m parts l h f e w s g = let P : List (Part E) → Type 0 = λ ps. Each (λ p. length p.c == length s) ps in let same : v ≡ s = cc in rw (← same, h, f, e) w

  pub wide_by : (n m : ℕ) (parts l : List (Part E)) → n ≡ m → l ≡ parts → AreWide m parts → AreWide n l
  wide_by n m parts l f e w = rw (f, e) w

  pub all_parts : (o : ObjectId) (view : List (Part E)) → updates_of o (filter (is_outside None) view) ≡ updates_of o view
  all_parts o view = ap (updates_of o) (always view)

-- what a walk over other memory of the same parts gives
pub from_head_in : {E : Type 0} (parts l view : List (Part E)) (links : Links) (o : ObjectId) (t : Part E → Bool) (tag at : ℕ) → LinksFit parts links → IsApart earlier parts → l ≡ parts → tag ≡ tag_of_object o → at ≡ or_none (get nat_eq links.first tag) → arranged earlier parts ≡ view
    → map pair (filter (mine o t) (chain tag_of before (spots l) at)) ≡ updates_of o (filter t view)
from_head_in parts l view links o t tag at r apart e h f v = rw e (from_head parts links r apart o t tag at view h f v)

module _ {E : Type 0} (parts : List (Part E)) (links : Links) (r : LinksFit parts links) where
  pub width_at : (n : ℕ) (k : ℕ) (p : Part E) (x : Spot E) → AreWide n parts → slice_get (spots parts) k ≡ Some x → p ≡ x.part → length p.c ≡ n
  width_at n k p x w g e = let q = r.linked.located k x g in rw e (eqb-true (length x.part.c) n (get_each (λ z. length z.c == n) parts q.entry.part x.part w q.part))

  pub none_shown : (o : ObjectId) (v : List ℕ) (a : ℕ) → length links.entries.items ≤ a → shown o v parts a ≡ []
  none_shown o v a h = rw (slice_get_past (spots parts) a (omega (arith, r.linked.many))) refl

  skips : (t : Spot E → Bool) (x : Spot E) (l m : List (Spot E)) → l ≡ x ∷ m → t x ≡ false → map pair (filter t m) ≡ map pair (filter t l)
  skips t x l m e h = rw (e, h) refl

  -- a place whose update isn't shown
  pub shown_skip : (o : ObjectId) (v : List ℕ) (a b : ℕ) (p : Part E) (u : Upd E) (x : Spot E) (c : Bool) → slice_get (spots parts) a ≡ Some x → b ≡ get_or links.next.items a b → p ≡ x.part → u ≡ x.update
      → c ≡ (same_object u.object o && le p.c v) → c ≡ false → shown o v parts b ≡ shown o v parts a
  shown_skip o v a b p u x c g e f h k n =
      let here : mine o (shows v) x ≡ false = rw (← f, ← h) (sym k ∙ n) in
      skips (mine o (shows v)) x (chain tag_of before (spots parts) a) (chain tag_of before (spots parts) b) (chain_step parts links r a b x g e) here
