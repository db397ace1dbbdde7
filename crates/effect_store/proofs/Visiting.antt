-- What a walk reads, update by update.
use Rattle.std.proofs.Common.{◌≡◌, ℕ, ◌<◌, ◌≤◌, Bool, true, false, List, [], ◌∷◌, length, get_or, Option, Some, refl, sym, ap, ◌∙◌, subst, arith, nat_eq}
use Rattle.std.specs.Prelude.{map, ◌==◌}
use Rattle.std.specs.List.{filter, slice_get}
use Rattle.std.specs.HashMap.{get}
use Rattle.std.specs.Iterator.{MakesProgress, item_count}
use Rattle.std.proofs.lemmas.Option.{slice_get_past}
use Rattle.crdt_core.specs.declared.object.ObjectId.{ObjectId}
use Rattle.crdt_core.specs.declared.record.Part.{Part}
use Rattle.crdt_core.specs.declared.record.Upd.{Upd}
use Rattle.effect_store.specs.declared.links.Links.{Links}
use Rattle.effect_store.specs.Chains.{none, chain}
use Rattle.effect_store.specs.Spots.{Spot, spots, tag_of, before}
use Rattle.effect_store.specs.Links.{or_none}
use Rattle.effect_store.specs.Wanted.{is_wanted, wants, pair, wanted, IsAsWide, LinksFit}
use Rattle.effect_store.proofs.Arranging.{get_in, get_each}
use Rattle.effect_store.proofs.Walking.{chain_next}
use Rattle.effect_store.proofs.Ordering.{before_order}
use Rattle.effect_store.proofs.Linking.{is_there, link_read}

skips : {E : Type 0} (o : ObjectId) (v : Option (List ℕ)) (x : Spot E) (l m : List (Spot E)) → l ≡ x ∷ m → wants o v x ≡ false → map pair (filter (wants o v) m) ≡ map pair (filter (wants o v) l)
skips o v x l m e h = rw (e, h) refl

takes : {E : Type 0} (o : ObjectId) (v : Option (List ℕ)) (x : Spot E) (l m : List (Spot E)) → l ≡ x ∷ m → wants o v x ≡ true → map pair (filter (wants o v) l) ≡ pair x ∷ map pair (filter (wants o v) m)
takes o v x l m e h = rw (e, h) refl

module _ {E : Type 0} (parts : List (Part E)) (links : Links) (r : LinksFit parts links) where
  pub at_place : (k : ℕ) → k < length links.entries.items → (x : Spot E) × (slice_get (spots parts) k ≡ Some x)
  at_place k h = is_there (spots parts) k (omega (arith, r.linked.many))

  pub chain_step : (a b : ℕ) (x : Spot E) → slice_get (spots parts) a ≡ Some x → b ≡ get_or links.next.items a b → chain tag_of before (spots parts) a ≡ x ∷ chain tag_of before (spots parts) b
  chain_step a b x g e =
      let small : length (spots parts) ≤ none = omega (arith, r.linked.many, r.small) in
      let within : a < length (spots parts) = get_in (spots parts) a x g in
      let f : b ≡ get_or links.next.items a none = link_read links.next.items a b (omega (arith, r.linked.next_long)) e in
      rw f (chain_next tag_of before before_order (spots parts) links.next.items (λ i. or_none (get nat_eq links.first i)) r.linked.ahead small a x g)

  pub chain_falls : (a b : ℕ) (x : Spot E) → slice_get (spots parts) a ≡ Some x → b ≡ get_or links.next.items a b → length (chain tag_of before (spots parts) b) < length (chain tag_of before (spots parts) a)
  chain_falls a b x g e = rw (chain_step a b x g e) (omega arith)

  pub wanted_skip : (o : ObjectId) (v : Option (List ℕ)) (a b : ℕ) (x : Spot E) → slice_get (spots parts) a ≡ Some x → b ≡ get_or links.next.items a b → wants o v x ≡ false → wanted o v parts b ≡ wanted o v parts a
  wanted_skip o v a b x g e h = skips o v x (chain tag_of before (spots parts) a) (chain tag_of before (spots parts) b) (chain_step a b x g e) h

  pub wanted_take : (o : ObjectId) (v : Option (List ℕ)) (a b : ℕ) (x : Spot E) → slice_get (spots parts) a ≡ Some x → b ≡ get_or links.next.items a b → wants o v x ≡ true → wanted o v parts a ≡ pair x ∷ wanted o v parts b
  wanted_take o v a b x g e h = takes o v x (chain tag_of before (spots parts) a) (chain tag_of before (spots parts) b) (chain_step a b x g e) h

  pub wanted_none : (o : ObjectId) (v : Option (List ℕ)) (a : ℕ) → length links.entries.items ≤ a → wanted o v parts a ≡ []
  wanted_none o v a h = rw (slice_get_past (spots parts) a (omega (arith, r.linked.many))) refl

  pub wide_at : (v : Option (List ℕ)) (k : ℕ) (x : Spot E) → IsAsWide v parts → slice_get (spots parts) k ≡ Some x → IsAsWide v (x.part ∷ [])
  wide_at v k x w g s e = let p = r.linked.located k x g in (get_each (λ q. length q.c == length s) parts p.entry.part x.part (w s e) p.part, tt)

module _ {E : Type 0} where
  pub wants_by : (o : ObjectId) (v : Option (List ℕ)) (p : Part E) (u : Upd E) (x : Spot E) (b w : Bool) → p ≡ x.part → u ≡ x.update → b ≡ is_wanted o v p u → b ≡ w → wants o v x ≡ w
  wants_by o v p u x b w e f g h = rw (← e, ← f) (sym g ∙ h)

  pub wide_part : (v : Option (List ℕ)) (p q : Part E) → p ≡ q → IsAsWide v (q ∷ []) → IsAsWide v (p ∷ [])
  wide_part v p q e h = let P : Part E → Type 0 = λ z. IsAsWide v (z ∷ []) in subst P (sym e) h

pair_is : {E : Type 0} (p : Part E) (u : Upd E) (x : Spot E) (l m : List (Part E × Upd E)) → p ≡ x.part → u ≡ x.update → l ≡ pair x ∷ m → l ≡ (p, u) ∷ m
pair_is p u x l m e f g = g ∙ (ap (λ q. (q, x.update) ∷ m) (sym e) ∙ ap (λ w. (p, w) ∷ m) (sym f))

module _ {E : Type 0} (parts : List (Part E)) (links : Links) (r : LinksFit parts links) where
  -- the update that an iterator gives, and what is left
  pub given_next : (o : ObjectId) (v : Option (List ℕ)) (view : List (Part E × Upd E)) (from at b : ℕ) (p : Part E) (u : Upd E) → wanted o v parts from ≡ view → wanted o v parts at ≡ wanted o v parts from → at < length links.entries.items
      → ((x : Spot E) → slice_get (spots parts) at ≡ Some x → wants o v x ≡ true) → b ≡ get_or links.next.items at b
      → ((x : Spot E) → slice_get (spots parts) at ≡ Some x → p ≡ x.part) → ((x : Spot E) → slice_get (spots parts) at ≡ Some x → u ≡ x.update)
      → view ≡ (p, u) ∷ wanted o v parts b
  given_next o v view from at b p u e f n h g i j =
      let x = at_place parts links r at n in
      sym (f ∙ e) ∙ pair_is p u x.0 (wanted o v parts at) (wanted o v parts b) (i x.0 x.1) (j x.0 x.1) (wanted_take parts links r o v at b x.0 x.1 g (h x.0 x.1))

shorter : {A : Type 0} (l m : List A) (x : A) → l ≡ x ∷ m → length m < length l
shorter l m x e = rw e (omega arith)

-- an item was given: fewer are left
pub moves_on : {A B : Type 0} (l m : List A) (x : A) (r : B) → l ≡ x ∷ m → MakesProgress {S = List A} {A = B} (λ s. Unit {0}) (item_count (λ (u : List A). u)) l (Some r) m
moves_on l m x r e = let n : length m < length l = shorter l m x e in record { on = λ f. (tt, tt, n); keeps = tt; rests = λ f. tt }
