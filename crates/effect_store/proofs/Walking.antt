-- Walks along a chain: to the place of a new element, and to read.
use Rattle.std.proofs.Common.{◌≡◌, ◌≢◌, ℕ, ◌<◌, ◌≤◌, Bool, true, false, not, ◌&&◌, ◌||◌, eqb, List, [], ◌∷◌, length, get_or, Some, None, refl, sym, ap, ◌∙◌, subst, arith, inl, inr}
use Rattle.std.specs.List.{filter, slice_get}
use Rattle.std.proofs.lemmas.Bool.{eqb-true, eq-eqb}
use Rattle.std.proofs.lemmas.Option.{slice_get_past}
use Rattle.effect_store.specs.Arranged.{arranged, Each, Rises, IsOrder}
use Rattle.effect_store.specs.Chains.{none, Points, after, has_tag, IsChain, IsApart, chain}
use Rattle.effect_store.proofs.Arranging.{eqv, each_more, each_of_filter, rises-filter, filter_tail, filter_head, filter_same, filter_same_on}
use Rattle.effect_store.proofs.Chaining.{IsNear, dec, bools, all_of, at_of, tags, late_here, first_here}

turn : (a b : ℕ) (c : Bool) → eqb a b && c ≡ true → eqb b a && c ≡ true
turn a b c h = let t : eqb a b ≡ true = grind arith in let u : eqb b a ≡ true = eq-eqb b a (sym (eqb-true a b t)) in grind arith

turn_no : (a b : ℕ) (c : Bool) → eqb a b && c ≡ false → eqb b a && c ≡ false
turn_no a b c h = elim (bools (eqb b a && c)) [ inr e ↦ e | inl e ↦ (let f : eqb a b && c ≡ true = turn b a c e in cc) ]

asym : {X : Type 0} (lt : X → X → Bool) → IsOrder lt → (x y : X) → lt x y ≡ true → lt y x ≡ false
asym lt o x y h = elim (bools (lt y x)) [ inr e ↦ e | inl e ↦ (let a : lt x x ≡ true = o.follows x y x h e in let b : lt x x ≡ false = o.strict x in cc) ]

negated : (b : Bool) → b ≡ false → not b ≡ true
negated b h = grind arith

-- none of those that pass comes before the first
pub head_least : {X : Type 0} (lt : X → X → Bool) → IsOrder lt → (q : X → Bool) (h : X) (r l : List X) → Rises lt l → filter q l ≡ h ∷ r → Each (λ y. not (q y) || not (lt y h)) l
head_least {X} lt o q h r l a e =
    let P : List X → Type 0 = λ z. Rises lt z in
    let b : Rises lt (h ∷ r) = subst P e (rises-filter lt q l a) in
    let Q : List X → Type 0 = λ z. Each (λ y. not (lt y h)) z in
    each_of_filter q (λ y. not (lt y h)) l (subst Q (sym e) (negated (lt h h) (o.strict h), each_more (lt h) (λ y. not (lt y h)) (λ y g. negated (lt y h) (asym lt o h y g)) r b.0))

-- the first that passes comes before each other that passes
pub least : {X : Type 0} (lt : X → X → Bool) → IsOrder lt → (q : X → Bool) (h : X) (r xs : List X) → Rises lt (arranged lt xs) → IsApart lt xs → filter q (arranged lt xs) ≡ h ∷ r
    → (c k : ℕ) (p : X) → slice_get xs c ≡ Some h → slice_get xs k ≡ Some p → k ≢ c → q p ≡ true → lt h p ≡ true
least lt o q h r xs a d e c k p f g n t =
    let u : not (q p) || not (lt p h) ≡ true = at_of lt (λ y. not (q y) || not (lt y h)) xs k p (head_least lt o q h r (arranged lt xs) a e) g in
    let v : lt p h || lt h p ≡ true = d k c p h g f n in
    grind arith

pub none_in : {X : Type 0} (q : X → Bool) (l : List X) → filter q l ≡ [] → Each (λ y. not (q y)) l
none_in {X} q l e =
    let Q : List X → Type 0 = λ z. Each (λ y. false) z in
    each_more (λ y. not (q y) || false) (λ y. not (q y)) (λ y h. grind arith) l (each_of_filter q (λ y. false) l (subst Q (sym e) tt))

-- no place where the list of those that pass is empty
pub none_pass : {X : Type 0} (lt : X → X → Bool) (q : X → Bool) (xs : List X) → filter q (arranged lt xs) ≡ [] → (k : ℕ) (p : X) → slice_get xs k ≡ Some p → q p ≡ false
none_pass lt q xs e k p g = let t : not (q p) ≡ true = at_of lt (λ y. not (q y)) xs k p (none_in q (arranged lt xs) e) g in grind arith

past_none : {X : Type 0} (xs : List X) (c : ℕ) → length xs ≤ none → c ≡ none → slice_get xs c ≡ None
past_none xs c small h = slice_get_past xs c (omega arith)

near_at : {X : Type 0} (tag : X → ℕ) (lt : X → X → Bool) → IsOrder lt → (xs : List X) (x : X) (c : ℕ) → length xs ≤ none → Rises lt (arranged lt xs) → IsApart lt xs
    → (l : List X) → filter (after tag lt x) (arranged lt xs) ≡ l → Points xs c l → IsNear tag (λ a b. lt b a) xs x c
near_at tag lt o xs x c small a d [] e h = record {
  none_ahead = λ z k p g. turn_no (tag x) (tag p) (lt x p) (none_pass lt (after tag lt x) xs e k p g);
  is_ahead = λ q g. (let w : slice_get xs c ≡ None = past_none xs c small h in let v : ⊥ = cc in absurd v);
  nearest = λ q k p g g' m t. (let w : slice_get xs c ≡ None = past_none xs c small h in let v : ⊥ = cc in absurd v);
}
near_at {X} tag lt o xs x c small a d (y ∷ r) e h = record {
  none_ahead = λ z k p g. (let v : ⊥ = cc in absurd v);
  is_ahead = λ q g. (let same : y ≡ q = cc in rw (← same) (turn (tag x) (tag y) (lt x y) (filter_head (after tag lt x) y r (arranged lt xs) e)));
  nearest = λ q k p g g' m t. (let same : y ≡ q = cc in rw (← same) (least lt o (after tag lt x) y r xs a d e c k p h g' m (turn (tag p) (tag x) (lt x p) t)));
}

-- the place of the first after x is the last that x comes after the other way round
pub near_of : {X : Type 0} (tag : X → ℕ) (lt : X → X → Bool) → IsOrder lt → (xs : List X) (x : X) (c : ℕ) → length xs ≤ none → Rises lt (arranged lt xs) → IsApart lt xs
    → Points xs c (filter (after tag lt x) (arranged lt xs)) → IsNear tag (λ a b. lt b a) xs x c
near_of tag lt o xs x c small a d h = near_at tag lt o xs x c small a d (filter (after tag lt x) (arranged lt xs)) refl h

-- all that comes after x passes a test, and c is the place of the first that passes
pub record IsWalk {X : Type 0} (tag : X → ℕ) (lt : X → X → Bool) (xs : List X) (x : X) (c : ℕ) : Type 0 where
  pub test : X → Bool
  pub points : Points xs c (filter test (arranged lt xs))
  pub covers : (k : ℕ) (p : X) → slice_get xs k ≡ Some p → after tag lt x p ≡ true → test p ≡ true
  pub tagged : (p : X) → test p ≡ true → eqb (tag x) (tag p) ≡ true

pub walk_start : {X : Type 0} (tag : X → ℕ) (lt : X → X → Bool) (xs : List X) (links : List ℕ) (heads : ℕ → ℕ) (x : X) → IsChain tag lt xs links heads → IsWalk tag lt xs x (heads (tag x))
walk_start tag lt xs links heads x s = record { test = has_tag tag (tag x); points = s.headed (tag x); covers = λ k p g t. grind arith; tagged = λ p t. t }

first_is : {X : Type 0} (xs : List X) (c : ℕ) (q : X) (l : List X) → length xs ≤ none → slice_get xs c ≡ Some q → Points xs c l → (r : List X) × (l ≡ q ∷ r)
first_is xs c q [] small g h = let w : slice_get xs c ≡ None = past_none xs c small h in let v : ⊥ = cc in absurd v
first_is xs c q (y ∷ r) small g h = (r, cc)

pub walk_step : {X : Type 0} (tag : X → ℕ) (lt : X → X → Bool) → IsOrder lt → (xs : List X) (links : List ℕ) (heads : ℕ → ℕ) (x : X) (c : ℕ) (q : X) → IsChain tag lt xs links heads → IsApart lt xs → length xs ≤ none
    → slice_get xs c ≡ Some q → lt x q ≡ false → IsWalk tag lt xs x c → IsWalk tag lt xs x (get_or links c none)
walk_step {X} tag lt o xs links heads x c q s d small g stays w =
    let first : (r : List X) × (filter w.test (arranged lt xs) ≡ q ∷ r) = first_is xs c q (filter w.test (arranged lt xs)) small g w.points in
    let mine : eqb (tag x) (tag q) ≡ true = w.tagged q (filter_head w.test q first.0 (arranged lt xs) first.1) in
    record {
      test = after tag lt q;
      points = s.linked c q g;
      covers = λ k p f t.
          (let xp : lt x p ≡ true = grind arith in
          let tp : eqb (tag x) (tag p) ≡ true = grind arith in
          let away : k ≢ c = λ m. (let f2 : slice_get xs c ≡ Some p = rw (← m) f in let same : q ≡ p = cc in let xq : lt x q ≡ true = rw same xp in let v : ⊥ = cc in v) in
          let qp : lt q p ≡ true = least lt o w.test q first.0 xs s.ordered d first.1 c k p g f away (w.covers k p f t) in
          let tq : eqb (tag q) (tag p) ≡ true = tags (tag x) (tag q) (tag p) mine tp in
          grind arith);
      tagged = λ p t. (let tq : eqb (tag q) (tag p) ≡ true = grind arith in eq-eqb (tag x) (tag p) (eqb-true (tag x) (tag q) mine ∙ eqb-true (tag q) (tag p) tq));
    }

tells : (a b : Bool) → (a ≡ true → b ≡ true) → (b ≡ true → a ≡ true) → eqv a b ≡ true
tells true b f g = f refl
tells false true f g = let v : false ≡ true = g refl in cc
tells false false f g = refl

walked : {X : Type 0} (tag : X → ℕ) (lt : X → X → Bool) → IsOrder lt → (xs : List X) (x : X) (c : ℕ) → IsApart lt xs → length xs ≤ none → Rises lt (arranged lt xs) → (w : IsWalk tag lt xs x c) → ((q : X) → slice_get xs c ≡ Some q → lt x q ≡ true)
    → (l : List X) → filter w.test (arranged lt xs) ≡ l → Points xs c l → (k : ℕ) (p : X) → slice_get xs k ≡ Some p → w.test p ≡ true → after tag lt x p ≡ true
walked tag lt o xs x c d small a w exit [] e h k p g t = let f : w.test p ≡ false = none_pass lt w.test xs e k p g in let v : ⊥ = cc in absurd v
walked tag lt o xs x c d small a w exit (y ∷ r) e h k p g t =
    let xy : lt x y ≡ true = exit y h in
    let tp : eqb (tag x) (tag p) ≡ true = w.tagged p t in
    let xp : lt x p ≡ true = elim (dec k c) [
      | inl m ↦ (let g2 : slice_get xs c ≡ Some p = rw (← m) g in let same : y ≡ p = cc in rw (← same) xy)
      | inr m ↦ o.follows x y p xy (least lt o w.test y r xs a d e c k p h g m t)
    ] in
    grind arith

-- where the walk ends, c is the place of the first after x
pub walk_end : {X : Type 0} (tag : X → ℕ) (lt : X → X → Bool) → IsOrder lt → (xs : List X) (links : List ℕ) (heads : ℕ → ℕ) (x : X) (c : ℕ) → IsChain tag lt xs links heads → IsApart lt xs → length xs ≤ none
    → IsWalk tag lt xs x c → ((q : X) → slice_get xs c ≡ Some q → lt x q ≡ true) → Points xs c (filter (after tag lt x) (arranged lt xs))
walk_end {X} tag lt o xs links heads x c s d small w exit =
    let same : filter w.test (arranged lt xs) ≡ filter (after tag lt x) (arranged lt xs) =
    filter_same_on w.test (after tag lt x) (arranged lt xs) (all_of lt (λ y. eqv (w.test y) (after tag lt x y)) xs
    (λ k p g. tells (w.test p) (after tag lt x p) (walked tag lt o xs x c d small s.ordered w exit (filter w.test (arranged lt xs)) refl w.points k p g) (w.covers k p g))) in
    rw (← same) w.points

-- what stands behind x, where q is the last before it, or none is
pub behind : {X : Type 0} (tag : X → ℕ) (lt : X → X → Bool) → IsOrder lt → (xs : List X) (links : List ℕ) (heads : ℕ → ℕ) (x : X) (a : ℕ) (q : X) → IsChain tag lt xs links heads → IsNear tag lt xs x a
    → ((k : ℕ) (p : X) → slice_get xs k ≡ Some p → lt x p || lt p x ≡ true)
    → slice_get xs a ≡ Some q → Points xs (get_or links a none) (filter (after tag lt x) (arranged lt xs))
behind {X} tag lt o xs links heads x a q s n apart g =
    let qx : after tag lt q x ≡ true = n.is_ahead q g in
    let tq : eqb (tag q) (tag x) ≡ true = grind arith in
    let lq : lt q x ≡ true = grind arith in
    let same : filter (after tag lt q) (arranged lt xs) ≡ filter (after tag lt x) (arranged lt xs) =
    filter_same_on (after tag lt q) (after tag lt x) (arranged lt xs) (all_of lt (λ y. eqv (after tag lt q y) (after tag lt x y)) xs
    (λ k p f. tells (after tag lt q p) (after tag lt x p)
    (λ t. (let tp : eqb (tag q) (tag p) ≡ true = grind arith in let txp : eqb (tag x) (tag p) ≡ true = tags (tag q) (tag x) (tag p) tq tp in let u : not (after tag lt q p) || lt x p ≡ true = late_here tag lt o xs x q a n g qx k p f (apart k p f) in grind arith))
    (λ t. (let txp : eqb (tag x) (tag p) ≡ true = grind arith in let lxp : lt x p ≡ true = grind arith in let lqp : lt q p ≡ true = o.follows q x p lq lxp in let tp : eqb (tag q) (tag p) ≡ true = eq-eqb (tag q) (tag p) (eqb-true (tag q) (tag x) tq ∙ eqb-true (tag x) (tag p) txp) in grind arith)))) in
    rw (← same) (s.linked a q g)

pub behind_none : {X : Type 0} (tag : X → ℕ) (lt : X → X → Bool) → IsOrder lt → (xs : List X) (links : List ℕ) (heads : ℕ → ℕ) (x : X) (a : ℕ) → IsChain tag lt xs links heads → IsNear tag lt xs x a
    → ((k : ℕ) (p : X) → slice_get xs k ≡ Some p → lt x p || lt p x ≡ true)
    → slice_get xs a ≡ None → Points xs (heads (tag x)) (filter (after tag lt x) (arranged lt xs))
behind_none {X} tag lt o xs links heads x a s n apart z =
    let same : filter (has_tag tag (tag x)) (arranged lt xs) ≡ filter (after tag lt x) (arranged lt xs) =
    filter_same_on (has_tag tag (tag x)) (after tag lt x) (arranged lt xs) (all_of lt (λ y. eqv (has_tag tag (tag x) y) (after tag lt x y)) xs
    (λ k p f. tells (has_tag tag (tag x) p) (after tag lt x p)
    (λ t. (let u : not (has_tag tag (tag x) p) || lt x p ≡ true = first_here tag lt xs (tag x) x p refl (n.none_ahead z k p f) (apart k p f) in grind arith))
    (λ t. grind arith))) in
    rw (← same) (s.headed (tag x))

chain_at : {X : Type 0} (tag : X → ℕ) (lt : X → X → Bool) → IsOrder lt → (q : X → Bool) → ((h y : X) → q h ≡ true → (q y && lt h y) ≡ after tag lt h y) → (xs : List X) (a : ℕ) → length xs ≤ none → Rises lt (arranged lt xs)
    → (l : List X) → filter q (arranged lt xs) ≡ l → Points xs a l → chain tag lt xs a ≡ l
chain_at tag lt o q f xs a small asc [] e h = rw (past_none xs a small h) refl
chain_at tag lt o q f xs a small asc (y ∷ r) e h =
    let tail : filter (λ z. q z && lt y z) (arranged lt xs) ≡ r = filter_tail lt o q y r (arranged lt xs) asc e in
    rw h (ap (λ t. y ∷ t) (sym (filter_same (λ z. q z && lt y z) (after tag lt y) (λ z. f y z (filter_head q y r (arranged lt xs) e)) (arranged lt xs)) ∙ tail))

closed_tag : {X : Type 0} (tag : X → ℕ) (lt : X → X → Bool) (i : ℕ) (h y : X) → has_tag tag i h ≡ true → (has_tag tag i y && lt h y) ≡ after tag lt h y
closed_tag tag lt i h y t = rw (eqb-true i (tag h) t) refl

closed_and : (a b c : Bool) → (c ≡ true → b ≡ true) → ((a && b) && c) ≡ (a && c)
closed_and a b true f = rw (f refl) (grind arith)
closed_and a b false f = grind arith

closed_after : {X : Type 0} (tag : X → ℕ) (lt : X → X → Bool) → IsOrder lt → (p h y : X) → after tag lt p h ≡ true → (after tag lt p y && lt h y) ≡ after tag lt h y
closed_after tag lt o p h y t =
    let e : eqb (tag p) (tag h) ≡ true = grind arith in
    let l : lt p h ≡ true = grind arith in
    rw (eqb-true (tag p) (tag h) e) (closed_and (eqb (tag h) (tag y)) (lt p y) (lt h y) (λ k. o.follows p h y l k))

pub chain_head : {X : Type 0} (tag : X → ℕ) (lt : X → X → Bool) → IsOrder lt → (xs : List X) (links : List ℕ) (heads : ℕ → ℕ) → IsChain tag lt xs links heads → length xs ≤ none → (i : ℕ) → chain tag lt xs (heads i) ≡ filter (has_tag tag i) (arranged lt xs)
chain_head tag lt o xs links heads s small i = chain_at tag lt o (has_tag tag i) (λ h y t. closed_tag tag lt i h y t) xs (heads i) small s.ordered (filter (has_tag tag i) (arranged lt xs)) refl (s.headed i)

pub chain_next : {X : Type 0} (tag : X → ℕ) (lt : X → X → Bool) → IsOrder lt → (xs : List X) (links : List ℕ) (heads : ℕ → ℕ) → IsChain tag lt xs links heads → length xs ≤ none → (a : ℕ) (p : X) → slice_get xs a ≡ Some p → chain tag lt xs a ≡ p ∷ chain tag lt xs (get_or links a none)
chain_next tag lt o xs links heads s small a p g =
    rw (g, chain_at tag lt o (after tag lt p) (λ h y t. closed_after tag lt o p h y t) xs (get_or links a none) small s.ordered (filter (after tag lt p) (arranged lt xs)) refl (s.linked a p g)) refl

pub chain_next_by : {X : Type 0} (tag : X → ℕ) (lt : X → X → Bool) → IsOrder lt → (xs : List X) (links : List ℕ) → Rises lt (arranged lt xs) → ((k : ℕ) (p : X) → slice_get xs k ≡ Some p → Points xs (get_or links k none) (filter (after tag lt p) (arranged lt xs))) → length xs ≤ none → (a : ℕ) (p : X) → slice_get xs a ≡ Some p → chain tag lt xs a ≡ p ∷ chain tag lt xs (get_or links a none)
chain_next_by tag lt o xs links asc linked small a p g =
    rw (g, chain_at tag lt o (after tag lt p) (λ h y t. closed_after tag lt o p h y t) xs (get_or links a none) small asc (filter (after tag lt p) (arranged lt xs)) refl (linked a p g)) refl

pub chain_start : {X : Type 0} (tag : X → ℕ) (lt : X → X → Bool) → IsOrder lt → (xs : List X) (links : List ℕ) → Rises lt (arranged lt xs) → ((k : ℕ) (p : X) → slice_get xs k ≡ Some p → Points xs (get_or links k none) (filter (after tag lt p) (arranged lt xs))) → length xs ≤ none → (a : ℕ) (p : X) → slice_get xs a ≡ Some p → chain tag lt xs (get_or links a none) ≡ filter (after tag lt p) (arranged lt xs)
chain_start tag lt o xs links asc linked small a p g = chain_at tag lt o (after tag lt p) (λ h y t. closed_after tag lt o p h y t) xs (get_or links a none) small asc (filter (after tag lt p) (arranged lt xs)) refl (linked a p g)

pub chain_falls : {X : Type 0} (tag : X → ℕ) (lt : X → X → Bool) → IsOrder lt → (xs : List X) (links : List ℕ) (heads : ℕ → ℕ) (a b : ℕ) (p : X) → IsChain tag lt xs links heads → length xs ≤ none → slice_get xs a ≡ Some p → b ≡ get_or links a none → length (chain tag lt xs b) < length (chain tag lt xs a)
chain_falls tag lt o xs links heads a b p s small g e = rw (e, chain_next tag lt o xs links heads s small a p g) (omega arith)
