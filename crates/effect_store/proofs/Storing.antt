-- What inserting and making room keep of the links and the rooms, and what the model's words are in ours.
use Rattle.std.proofs.Common.{◌≡◌, ℕ, ◌+◌, Bool, true, false, cond, List, [], ◌∷◌, ◌++◌, length, Some, refl, sym, ap, ◌∙◌, subst, arith, max, inl, inr}
use Rattle.std.specs.Prelude.{if◌then◌else◌}
use Rattle.std.specs.List.{slice_get}
use Rattle.crdt_core.specs.declared.record.Part.{Part}
use Rattle.crdt_core.specs.Orders.{is_less, fold_cmp, insert_by}
use Rattle.std.specs.declared.cmp.Ordering.{Ordering}
use Rattle.effect_store.specs.declared.links.Links.{Links}
use Rattle.effect_store.specs.Arranged.{added, arranged}
use Rattle.effect_store.specs.Chains.{Points}
use Rattle.effect_store.specs.Spots.{Spot, spots, spots_to, earlier}
use Rattle.effect_store.specs.Links.{or_none, AreLinks, AreSame, Roomy}
use Rattle.effect_store.specs.Wanted.{LinksFit}
use Rattle.effect_store.specs.Stores.{PartRoom}
use Rattle.effect_store.proofs.Chaining.{dec}
use Rattle.effect_store.proofs.Arranging.{arranged-push, get_push, get_pushed}
use Rattle.effect_store.proofs.Spotting.{spots_to-none}
use Rattle.effect_store.proofs.Linking.{roomy_less}

by_cases : {X : Type 0} (b : Bool) (x y : X) (ys zs ws : List X) → zs ≡ ws → cond b (x ∷ (y ∷ ys)) (y ∷ zs) ≡ (if b then x ∷ y ∷ ys else y ∷ ws)
by_cases true x y ys zs ws e = refl
by_cases false x y ys zs ws e = ap (λ l. y ∷ l) e

-- both ways of saying where one more element goes
pub added-insert_by : {X : Type 0} (cmp : X → X → Ordering) (x : X) (xs : List X) → added (λ a b. is_less (cmp a b)) x xs ≡ insert_by cmp x xs
added-insert_by cmp x [] = refl
added-insert_by cmp x (y ∷ ys) = by_cases (is_less (cmp x y)) x y ys (added (λ a b. is_less (cmp a b)) x ys) (insert_by cmp x ys) (added-insert_by cmp x ys)

points_same : {X : Type 0} (xs : List X) (k j : ℕ) (l : List X) → k ≡ j → Points xs j l → Points xs k l
points_same xs k j l e h = rw e h

module _ {E : Type 0} where
  pub view_grown : (parts parts' view : List (Part E)) (p : Part E) → parts' ≡ parts ++ p ∷ [] → arranged earlier parts ≡ view → arranged earlier parts' ≡ insert_by fold_cmp p view
  view_grown parts parts' view p e h = ap (arranged earlier) e ∙ (arranged-push earlier [] parts p ∙ (ap (added earlier p) h ∙ added-insert_by fold_cmp p view))

  linked_push : (xs : List (Spot E)) (parts : List (Part E)) (p : Part E) (l : Links) → AreLinks xs parts l → AreLinks xs (parts ++ p ∷ []) l
  linked_push xs parts p l s = record {
    located = λ k x e. (let r = s.located k x e in record { entry = r.entry; there = r.there; part = get_push parts p r.entry.part x.part r.part; at = r.at; update = r.update; total = r.total });
    many = s.many;
    apart = s.apart;
    ahead = s.ahead;
    behind = s.behind;
    next_long = s.next_long;
    back_long = s.back_long;
  }

  -- before the updates of one more part are linked
  pub linked_before : (parts parts' : List (Part E)) (p : Part E) (l : Links) (place : ℕ) → AreLinks (spots parts) parts l → parts' ≡ parts ++ p ∷ [] → place ≡ length parts → AreLinks (spots_to parts' place 0) parts' l
  linked_before parts parts' p l place s e at = rw (e, at) (let P : List (Spot E) → Type 0 = λ xs. AreLinks xs (parts ++ p ∷ []) l in subst P (sym (spots_to-none parts p)) (linked_push (spots parts) parts p l s))

  pub get_last : (parts parts' : List (Part E)) (p : Part E) (place : ℕ) → parts' ≡ parts ++ p ∷ [] → place ≡ length parts → slice_get parts' place ≡ Some p
  get_last parts parts' p place e at = rw (e, at) (get_pushed parts p)

  -- the part that was pushed
  pub pushed_is : (parts parts' : List (Part E)) (p q : Part E) (place : ℕ) → parts' ≡ parts ++ p ∷ [] → place ≡ length parts → slice_get parts' place ≡ Some q → p ≡ q
  pushed_is parts parts' p q place e at g =
      let a : slice_get parts' place ≡ Some p = rw (e, at) (get_pushed parts p) in
      cc

  pub links_fit_of : (parts parts' : List (Part E)) (l : Links) (n : ℕ) → AreLinks (spots parts) parts l → parts ≡ parts' → Roomy l n → LinksFit parts' l
  links_fit_of parts parts' l n s e r = let P : List (Part E) → Type 0 = λ ps. AreLinks (spots ps) ps l in record { linked = subst P e s; small = omega (arith, r.small, l.entries.ok.0) }

  linked_same : (parts : List (Part E)) (l l' : Links) → AreSame l l' → AreLinks (spots parts) parts l → AreLinks (spots parts) parts l'
  linked_same parts l l' a s = record {
    located = λ k x e. (let r = s.located k x e in record { entry = r.entry; there = rw a.entries r.there; part = r.part; at = r.at; update = r.update; total = r.total });
    many = rw a.entries s.many;
    apart = s.apart;
    ahead = record { ordered = s.ahead.ordered; linked = rw a.next s.ahead.linked; headed = λ i. points_same (spots parts) _ _ _ (ap or_none (a.first i)) (s.ahead.headed i) };
    behind = record { ordered = s.behind.ordered; linked = rw a.back s.behind.linked; headed = λ i. points_same (spots parts) _ _ _ (ap or_none (a.last i)) (s.behind.headed i) };
    next_long = rw a.next s.next_long;
    back_long = rw a.back s.back_long;
  }

  pub links_fit_same : (parts parts' : List (Part E)) (l l' : Links) → parts' ≡ parts → AreSame l l' → LinksFit parts l → LinksFit parts' l'
  links_fit_same parts parts' l l' e a r = rw e (record { linked = linked_same parts l l' a r.linked; small = rw a.entries r.small })

-- what holds of two numbers holds of the greater
pub by_max : (P : ℕ → Type 0) (a b r : ℕ) → r ≡ max a b → P a → P b → P r
by_max P a b r e h k = elim (dec r a) [
  | inl f ↦ subst P (sym f) h
  | inr n ↦ (let f : r ≡ b = omega arith in subst P (sym f) k)
]

pub room_max : (a b r len capacity spare : ℕ) → r ≡ max a b → PartRoom a len capacity spare → PartRoom b len capacity spare → PartRoom r len capacity spare
room_max a b r len capacity spare e h k = by_max (λ n. PartRoom n len capacity spare) a b r e h k

pub roomy_max : (l : Links) (a b r : ℕ) → r ≡ max a b → Roomy l a → Roomy l b → Roomy l r
roomy_max l a b r e h k = by_max (Roomy l) a b r e h k

pub links_fit_in : {E : Type 0} (parts l : List (Part E)) (links : Links) → LinksFit parts links → l ≡ parts → LinksFit l links
links_fit_in parts l links r e = rw e r

pub room_after : (l l' : Links) (n m k : ℕ) → ((n : ℕ) → Roomy l (n + k) → Roomy l' n) → Roomy l n → m + k ≡ n → Roomy l' m
room_after l l' n m k h g e = h m (roomy_less l (m + k) n (omega arith) g)
