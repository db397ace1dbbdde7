-- Two histories of the same updates fold to equal states, for whoever keeps its steps.
use Rattle.std.proofs.Common.{◌≡◌, ℕ, zero, suc, ◌≤◌, Bool, true, false, cond, ◌&&◌, ◌||◌, List, [], ◌∷◌, ◌++◌, length, refl, sym, ap, ◌∙◌, subst, arith, ⊎_elim}
use Rattle.std.specs.Prelude.{filter, map}
use Rattle.std.specs.List.{list_any}
use Rattle.std.proofs.lemmas.List.Folds.{list_any-append}
use Rattle.std.proofs.lemmas.Bool.{true≢false, or_parts, or_from, or_cases, or_left, or_right, and_parts, and_from, and_right, false_from_ne_true}
use Rattle.site_vector.specs.declared.ids.Dot.{Dot}
use Rattle.site_vector.specs.Ids.{same_dot}
use Rattle.site_vector.specs.Order.{same_dot_is, same_dot_refl}
use Rattle.crdt_core.specs.declared.kind.Kind.{Kind}
use Rattle.crdt_core.specs.declared.object.Field.{Field}
use Rattle.crdt_core.specs.declared.operation.Act.{Act}
use Rattle.crdt_core.specs.Alike.{IsAlike, AlikeAmong, AreAlike}
use Rattle.crdt_core.specs.Same.{Same}
use Rattle.crdt_core.specs.Seen.{Update, sees, has_dot}
use Rattle.crdt_core.specs.History.{IsClosed, IsNext, IsHistory, folded, seen_by, effects, effect_after, state_after}
use Rattle.crdt_core.specs.Law.{KeepsSteps, made_by}

swap_or : (a b c : Bool) → (a || (b || c)) ≡ (b || (a || c))
swap_or a b c = grind arith

-- a test answers alike on the same members
pub any_same : {A : Type 0} (q : A → Bool) (h k : List A) → Same h k → list_any q h ≡ list_any q k
any_same q [] k s = ap (list_any q) (sym s)
any_same q (x ∷ xs) k s =
    ap (λ b. q x || b) (any_same q xs (s.0 ++ s.1) s.3 ∙ list_any-append q s.0 s.1)
    ∙ swap_or (q x) (list_any q s.0) (list_any q s.1)
    ∙ sym (ap (list_any q) s.2 ∙ list_any-append q s.0 (x ∷ s.1))

module _ {A : Type 0} where
  pub filter_append : (p : A → Bool) (xs ys : List A) → filter p (xs ++ ys) ≡ filter p xs ++ filter p ys
  filter_append p [] ys = refl
  filter_append p (x ∷ xs) ys = let rest = filter_append p xs ys in elim (p x) as (λ b. cond b (x ∷ filter p (xs ++ ys)) (filter p (xs ++ ys)) ≡ cond b (x ∷ filter p xs) (filter p xs) ++ filter p ys) [ true ↦ ap (λ l. x ∷ l) rest | false ↦ rest ]

  -- a part of the same members has the same members
  pub filter_same : (p : A → Bool) (h k : List A) → Same h k → Same (filter p h) (filter p k)
  filter_same p [] k s = ap (filter p) s
  filter_same p (x ∷ xs) k s =
      let front = s.0 in
      let back = s.1 in
      let rest : Same (filter p xs) (filter p front ++ filter p back) = subst (λ l. Same (filter p xs) l) (filter_append p front back) (filter_same p xs (front ++ back) s.3) in
      let split : filter p k ≡ filter p front ++ cond (p x) (x ∷ filter p back) (filter p back) = ap (filter p) s.2 ∙ filter_append p front (x ∷ back) in
      subst (λ l. Same (cond (p x) (x ∷ filter p xs) (filter p xs)) l) (sym split)
      (elim (p x) as (λ b. Same (cond b (x ∷ filter p xs) (filter p xs)) (filter p front ++ cond b (x ∷ filter p back) (filter p back))) [
        | true ↦ (filter p front, filter p back, refl, rest)
        | false ↦ rest
      ])

  filter_twice : (p q : A → Bool) (xs : List A) → ((x : A) → q x ≡ true → p x ≡ true) → filter q (filter p xs) ≡ filter q xs
  filter_twice p q [] h = refl
  filter_twice p q (x ∷ xs) h = let rest = filter_twice p q xs h in
      elim (p x) as (λ b. p x ≡ b → filter q (cond b (x ∷ filter p xs) (filter p xs)) ≡ cond (q x) (x ∷ filter q xs) (filter q xs)) [
        | true ↦ λ e. ap (λ l. cond (q x) (x ∷ l) l) rest
        | false ↦ λ e. rest ∙ sym (ap (λ b. cond b (x ∷ filter q xs) (filter q xs)) (false_from_ne_true (q x) (λ t. true≢false (sym (h x t) ∙ e))))
      ] refl

-- the updates whose dots pass
abbrev pub passing_of : (Dot → Bool) → List Update → List Update
passing_of p us = filter (λ u. p u.dot) us

any_part : (q : Update → Bool) (p : Dot → Bool) (us : List Update) → list_any q us ≡ false → list_any q (passing_of p us) ≡ false
any_part q p [] h = refl
any_part q p (u ∷ us) h = let two = or_parts (q u) (list_any q us) h in
    elim (p u.dot) as (λ b. list_any q (cond b (u ∷ passing_of p us) (passing_of p us)) ≡ false) [ true ↦ rw two.0 (any_part q p us two.1) | false ↦ any_part q p us two.1 ]

closed_part : (q p : Dot → Bool) (us : List Update) → IsClosed q us → IsClosed q (passing_of p us)
closed_part q p [] h = h
closed_part q p (u ∷ us) h = elim (p u.dot) as (λ b. IsClosed q (cond b (u ∷ passing_of p us) (passing_of p us))) [ true ↦ (h.0, closed_part q p us h.1) | false ↦ closed_part q p us h.1 ]

pub history_closed : (p : Dot → Bool) (us : List Update) → IsHistory us → IsHistory (passing_of p us)
history_closed p [] h = h
history_closed p (u ∷ us) h = elim (p u.dot) as (λ b. IsHistory (cond b (u ∷ passing_of p us) (passing_of p us))) [
  | true ↦ (record { new = any_part _ p us h.0.new; unseen = any_part _ p us h.0.unseen; apart = h.0.apart; closed = closed_part (sees u) p us h.0.closed }, history_closed p us h.1)
  | false ↦ history_closed p us h.1
]

length_part : (p : Dot → Bool) (us : List Update) → length (passing_of p us) ≤ length us
length_part p [] = omega arith
length_part p (u ∷ us) = let rest = length_part p us in elim (p u.dot) as (λ b. length (cond b (u ∷ passing_of p us) (passing_of p us)) ≤ suc (length us)) [ true ↦ omega (arith, rest) | false ↦ omega (arith, rest) ]

-- none of these updates has seen u, is seen by it, or has its dot
abbrev IsBeside : Update → List Update → Type 0
IsBeside u [] = Unit {0}
IsBeside u (v ∷ vs) = ((sees v u.dot ≡ false) × (sees u v.dot ≡ false) × (same_dot u.dot v.dot ≡ false)) × IsBeside u vs

is_beside : (u : Update) (front back : List Update) → IsHistory (front ++ u ∷ back) → list_any (λ v. sees v u.dot) front ≡ false → IsBeside u front
is_beside u [] back h n = tt
is_beside u (v ∷ vs) back h n =
    let two = or_parts (sees v u.dot) _ n in
    let seen : list_any (λ w. sees w v.dot) vs ≡ false × ((sees u v.dot || list_any (λ w. sees w v.dot) back) ≡ false) = or_parts _ _ (sym (list_any-append (λ w. sees w v.dot) vs (u ∷ back)) ∙ h.0.unseen) in
    let dots : list_any (λ w. same_dot w.dot v.dot) vs ≡ false × ((same_dot u.dot v.dot || list_any (λ w. same_dot w.dot v.dot) back) ≡ false) = or_parts _ _ (sym (list_any-append (λ w. same_dot w.dot v.dot) vs (u ∷ back)) ∙ h.0.new) in
    ((two.0, (or_parts _ _ seen.1).0, (or_parts _ _ dots.1).0), is_beside u vs back h.1 two.1)

closed_without : (q : Dot → Bool) (u : Update) (front back : List Update) → IsClosed q (front ++ u ∷ back) → IsClosed q (front ++ back)
closed_without q u [] back h = h.1
closed_without q u (v ∷ vs) back h = (h.0, closed_without q u vs back h.1)

any_without : (q : Update → Bool) (u : Update) (front back : List Update) → list_any q (front ++ u ∷ back) ≡ false → list_any q (front ++ back) ≡ false
any_without q u [] back h = (or_parts (q u) (list_any q back) h).1
any_without q u (v ∷ vs) back h = let two = or_parts (q v) _ h in rw two.0 (any_without q u vs back two.1)

history_without : (u : Update) (front back : List Update) → IsHistory (front ++ u ∷ back) → IsHistory (front ++ back)
history_without u [] back h = h.1
history_without u (v ∷ vs) back h = (record { new = any_without _ u vs back h.0.new; unseen = any_without _ u vs back h.0.unseen; apart = h.0.apart; closed = closed_without (sees v) u vs back h.0.closed }, history_without u vs back h.1)

closed_with : (q : Dot → Bool) (u : Update) (front back : List Update) → (q u.dot ≡ true → (d : Dot) → sees u d ≡ true → q d ≡ true) → IsClosed q (front ++ back) → IsClosed q (front ++ u ∷ back)
closed_with q u [] back f c = (f, c)
closed_with q u (v ∷ vs) back f c = (c.0, closed_with q u vs back f c.1)

closed_same : (q : Dot → Bool) (h k : List Update) → Same h k → IsClosed q h → IsClosed q k
closed_same q [] k s c = subst (IsClosed q) (sym s) c
closed_same q (u ∷ us) k s c = subst (IsClosed q) (sym s.2) (closed_with q u s.0 s.1 c.0 (closed_same q us (s.0 ++ s.1) s.3 c.1))

module _ {S E : Type 0} (initial : S) (step : S → Dot → E → S) (make : S → Update → E) where
  abbrev fold_of : List (Dot × E) → S
  fold_of es = folded initial step es

  abbrev passing : (Dot → Bool) → List (Dot × E) → List (Dot × E)
  passing p es = filter (λ e. p e.0) es

  abbrev made_of : List Update → List (Dot × E)
  made_of us = effects initial step make us

  abbrev effect_of : Update → List (Dot × E) → E
  effect_of u es = make (fold_of (seen_by u es)) u

  -- the effects of a closed part are that part of the effects
  pub made_closed : (p : Dot → Bool) (us : List Update) → IsClosed p us → made_of (passing_of p us) ≡ passing p (made_of us)
  made_closed p [] h = refl
  made_closed p (u ∷ us) h =
      let rest = made_closed p us h.1 in
      elim (p u.dot) as (λ b. p u.dot ≡ b → made_of (cond b (u ∷ passing_of p us) (passing_of p us)) ≡ cond b ((u.dot, effect_of u (made_of us)) ∷ passing p (made_of us)) (passing p (made_of us))) [
        | true ↦ λ e. ap (λ es. (u.dot, effect_of u es) ∷ es) rest ∙ ap (λ es. (u.dot, make (fold_of es) u) ∷ passing p (made_of us)) (filter_twice (λ e. p e.0) (λ e. sees u e.0) (made_of us) (λ x. h.0 e x.0))
        | false ↦ λ e. rest
      ] refl

  -- what an update has seen, folded, is the state after the part that it has seen
  pub seen_closed : (u : Update) (us : List Update) → IsNext us u → fold_of (seen_by u (made_of us)) ≡ state_after initial step make (passing_of (sees u) us)
  seen_closed u us h = ap fold_of (sym (made_closed (sees u) us h.closed))

  -- the effects of the updates in front over those behind
  abbrev on : List (Dot × E) → List Update → List (Dot × E)
  on base [] = base
  on base (u ∷ us) = (u.dot, effect_of u (on base us)) ∷ on base us

  on_append : (front back : List Update) → made_of (front ++ back) ≡ on (made_of back) front
  on_append [] back = refl
  on_append (u ∷ us) back = ap (λ es. (u.dot, effect_of u es) ∷ es) (on_append us back)

  some_passing : (p : Dot → Bool) (es : List (Dot × E)) (x : Dot) → list_any (λ e. same_dot e.0 x) (passing p es) ≡ true → p x ≡ true
  some_passing p [] x h = absurd (true≢false (sym h))
  some_passing p (e ∷ es) x h =
      elim (p e.0) as (λ b. p e.0 ≡ b → list_any (λ e. same_dot e.0 x) (cond b (e ∷ passing p es) (passing p es)) ≡ true → p x ≡ true) [
        | true ↦ λ t k. ⊎_elim (λ here. subst (λ d. p d ≡ true) (same_dot_is e.0 x here) t) (some_passing p es x) (or_cases (same_dot e.0 x) _ k)
        | false ↦ λ t k. some_passing p es x k
      ] refl h

  -- who has seen no dot of those in front has seen only those behind
  behind_alone : (u : Update) (base : List (Dot × E)) (front : List Update) → IsBeside u front → seen_by u (on base front) ≡ seen_by u base
  behind_alone u base [] l = refl
  behind_alone u base (v ∷ vs) l = ap (λ b. cond b ((v.dot, effect_of v (on base vs)) ∷ seen_by u (on base vs)) (seen_by u (on base vs))) l.0.1 ∙ behind_alone u base vs l.1

  -- an entry behind that none in front has seen changes none of their effects
  passing_without : (u : Update) (e : E) (base : List (Dot × E)) (front : List Update) → IsBeside u front → (p : Dot → Bool) → p u.dot ≡ false → passing p (on ((u.dot, e) ∷ base) front) ≡ passing p (on base front)
  passing_without u e base [] l p h = ap (λ b. cond b ((u.dot, e) ∷ passing p base) (passing p base)) h
  passing_without u e base (v ∷ vs) l p h =
      let same : effect_of v (on ((u.dot, e) ∷ base) vs) ≡ effect_of v (on base vs) = ap (λ es. make (fold_of es) v) (passing_without u e base vs l.1 (sees v) l.0.0) in
      let rest = passing_without u e base vs l.1 p h in
      (λ i. cond (p v.dot) ((v.dot, same i) ∷ rest i) (rest i))

  module _ (names : E → Dot → Bool) (holds : S → Dot → Bool) (steps : KeepsSteps initial step make names holds) where
    -- a state holds only dots of effects that were folded
    held_from : (es : List (Dot × E)) (x : Dot) → holds (fold_of es) x ≡ true → list_any (λ e. same_dot e.0 x) es ≡ true
    held_from [] x h = absurd (true≢false (sym h ∙ steps.none_held x))
    held_from (e ∷ es) x h =
        let two = or_cases (holds (fold_of es) x) (same_dot e.0 x) (steps.held (fold_of es) e.0 e.1 x h) in
        ⊎_elim (λ old. or_right (same_dot e.0 x) _ (held_from es x old)) (λ new. or_left (same_dot e.0 x) _ new) two

    -- an effect names only dots that its update has seen
    unnamed : (u : Update) (es : List (Dot × E)) (x : Dot) → sees u x ≡ false → names (effect_of u es) x ≡ false
    unnamed u es x h = false_from_ne_true _ (λ t. true≢false (sym (some_passing (sees u) es x (held_from _ x (steps.named _ u x t))) ∙ h))

    -- an update that no one in front has seen may as well be folded last
    comes_last : (u : Update) (back : List (Dot × E)) (front : List Update) → IsBeside u front → fold_of (on ((u.dot, effect_of u back) ∷ back) front) ≡ step (fold_of (on back front)) u.dot (effect_of u back)
    comes_last u back [] l = refl
    comes_last u back (v ∷ vs) l =
        let e = effect_of u back in
        let same : effect_of v (on ((u.dot, e) ∷ back) vs) ≡ effect_of v (on back vs) = ap (λ es. make (fold_of es) v) (passing_without u e back vs l.1 (sees v) l.0.0) in
        (λ i. step (comes_last u back vs l.1 i) v.dot (same i))
        ∙ steps.swaps (fold_of (on back vs)) e (effect_of v (on back vs)) u.dot v.dot l.0.2 (unnamed u back v.dot l.0.1) (unnamed v (on back vs) u.dot l.0.0)

    same_states : (n : ℕ) (h k : List Update) → length h ≤ n → IsHistory h → IsHistory k → Same h k → state_after initial step make h ≡ state_after initial step make k
    same_states n [] k le a b s = ap (λ us. state_after initial step make us) (sym s)
    same_states zero (u ∷ us) k le a b s = absurd (omega arith)
    same_states (suc n) (u ∷ us) k le a b s =
        let front = s.0 in
        let back = s.1 in
        let whole : IsHistory (front ++ u ∷ back) = subst IsHistory s.2 b in
        let without : IsHistory (front ++ back) = history_without u front back whole in
        let unseen : list_any (λ v. sees v u.dot) front ≡ false = (or_parts _ _ (sym (any_same (λ v. sees v u.dot) us (front ++ back) s.3 ∙ list_any-append (λ v. sees v u.dot) front back) ∙ a.0.unseen)).0 in
        let beside = is_beside u front back whole unseen in
        let short : length us ≤ n = omega arith in
        let rest = same_states n us (front ++ back) short a.1 without s.3 in
        let p = sees u in
        let parts = same_states n (passing_of p us) (passing_of p (front ++ back)) (omega (arith, length_part p us)) (history_closed p us a.1) (history_closed p (front ++ back) without) (filter_same (λ v. p v.dot) us (front ++ back) s.3) in
        let seen : fold_of (seen_by u (made_of us)) ≡ fold_of (seen_by u (made_of back)) =
        ap fold_of (sym (made_closed p us a.0.closed)) ∙ parts ∙ ap fold_of (made_closed p (front ++ back) (closed_same p us (front ++ back) s.3 a.0.closed) ∙ ap (passing p) (on_append front back) ∙ behind_alone u (made_of back) front beside) in
        (λ i. step (rest i) u.dot (make (seen i) u))
        ∙ ap (λ t. step t u.dot (effect_of u (made_of back))) (ap fold_of (on_append front back))
        ∙ sym (ap (λ us. state_after initial step make us) s.2 ∙ ap fold_of (on_append front (u ∷ back)) ∙ comes_last u (made_of back) front beside)

    pub same_folded : (h k : List Update) → IsHistory h → IsHistory k → Same h k → state_after initial step make h ≡ state_after initial step make k
    same_folded h k = same_states (length h) h k (omega arith)

-- an update that has seen what passes alone
abbrev trimmed : (Dot → Bool) → Update → Update
trimmed p u = record { dot = u.dot; path = u.path; act = u.act; stamp = u.stamp; now = u.now; saw = λ d. p d && sees u d }

abbrev trim : (Dot → Bool) → List Update → List Update
trim p us = map (trimmed p) us

-- the dots of a list pass
abbrev Pass : (Dot → Bool) → List Update → Type 0
Pass p [] = Unit {0}
Pass p (u ∷ us) = (p u.dot ≡ true) × Pass p us

all_pass : (p : Dot → Bool) (us : List Update) → ((d : Dot) → has_dot us d ≡ true → p d ≡ true) → Pass p us
all_pass p [] f = tt
all_pass p (u ∷ us) f = (f u.dot (or_left (same_dot u.dot u.dot) _ (same_dot_refl u.dot)), all_pass p us (λ d h. f d (or_right (same_dot u.dot d) _ h)))

pass_with : (p : Dot → Bool) (u : Update) (front back : List Update) → p u.dot ≡ true → Pass p (front ++ back) → Pass p (front ++ u ∷ back)
pass_with p u [] back f c = (f, c)
pass_with p u (v ∷ vs) back f c = (c.0, pass_with p u vs back f c.1)

pass_alike : (p : Dot → Bool) (listed us vs : List Update) → AlikeAmong listed us vs → Pass p us → Pass p vs
pass_alike p listed [] vs a c = subst (Pass p) (sym a) c
pass_alike p listed (u ∷ us) vs a c = subst (Pass p) (sym a.3) (pass_with p a.1 a.0 a.2 (ap p (sym a.4.dot) ∙ c.0) (pass_alike p listed us (a.0 ++ a.2) a.5 c.1))

both_if : (b x y : Bool) → (b ≡ true → x ≡ y) → (b && x) ≡ (b && y)
both_if true x y f = f refl
both_if false x y f = refl

-- what is alike is the same update once trimmed
trimmed_alike : (listed : List Update) (u v : Update) → IsAlike listed u v → trimmed (has_dot listed) u ≡ trimmed (has_dot listed) v
trimmed_alike listed u v a = λ i. record { dot = a.dot i; path = a.path i; act = a.act i; stamp = a.stamp i; now = a.now i; saw = λ d. both_if (has_dot listed d) (sees u d) (sees v d) (a.saw d) i }

trim_append : (p : Dot → Bool) (us vs : List Update) → trim p (us ++ vs) ≡ trim p us ++ trim p vs
trim_append p [] vs = refl
trim_append p (u ∷ us) vs = ap (λ l. trimmed p u ∷ l) (trim_append p us vs)

trim_alike : (listed us vs : List Update) → AlikeAmong listed us vs → Same (trim (has_dot listed) us) (trim (has_dot listed) vs)
trim_alike listed [] vs a = ap (trim (has_dot listed)) a
trim_alike listed (u ∷ us) vs a =
    let p = has_dot listed in (
      trim p a.0,
      trim p a.2,
      ap (trim p) a.3 ∙ trim_append p a.0 (a.1 ∷ a.2) ∙ ap (λ w. trim p a.0 ++ w ∷ trim p a.2) (sym (trimmed_alike listed u a.1 a.4)),
      subst (Same (trim p us)) (trim_append p a.0 a.2) (trim_alike listed us (a.0 ++ a.2) a.5),
    )

-- a trimmed history is one
dots_trimmed : (p : Dot → Bool) (us : List Update) (d : Dot) → has_dot (trim p us) d ≡ has_dot us d
dots_trimmed p [] d = refl
dots_trimmed p (u ∷ us) d = ap (λ b. same_dot u.dot d || b) (dots_trimmed p us d)

unseen_trimmed : (p : Dot → Bool) (us : List Update) (d : Dot) → list_any (λ v. sees v d) us ≡ false → list_any (λ v. sees v d) (trim p us) ≡ false
unseen_trimmed p [] d h = refl
unseen_trimmed p (u ∷ us) d h = let two = or_parts (sees u d) _ h in or_from _ _ (and_right (p d) (sees u d) two.0) (unseen_trimmed p us d two.1)

closed_trimmed : (p q : Dot → Bool) (us : List Update) → IsClosed q us → IsClosed (λ d. p d && q d) (trim p us)
closed_trimmed p q [] h = tt
closed_trimmed p q (u ∷ us) h = ((λ t d s. let two = and_parts (p d) (sees u d) s in and_from _ _ two.0 (h.0 (and_parts (p u.dot) (q u.dot) t).1 d two.1)), closed_trimmed p q us h.1)

history_trimmed : (p : Dot → Bool) (us : List Update) → IsHistory us → IsHistory (trim p us)
history_trimmed p [] h = tt
history_trimmed p (u ∷ us) h =
    (record { new = dots_trimmed p us u.dot ∙ h.0.new; unseen = unseen_trimmed p us u.dot h.0.unseen; apart = and_right (p u.dot) _ h.0.apart; closed = closed_trimmed p (sees u) us h.0.closed }, history_trimmed p us h.1)

-- an effect is made by path, act and clock value, and so is that of a trimmed update
module _ {S E : Type 0} (initial : S) (step : S → Dot → E → S) (made : Kind → S → List Field → Act → ℕ → E) (k : Kind) where
  abbrev effects_of : List Update → List (Dot × E)
  effects_of us = effects initial step (made_by made k) us

  seen_trimmed : (p : Dot → Bool) (u : Update) (us : List Update) → Pass p us → seen_by (trimmed p u) (effects_of us) ≡ seen_by u (effects_of us)
  seen_trimmed p u [] h = refl
  seen_trimmed p u (v ∷ vs) h =
      let rest = seen_trimmed p u vs h.1 in
      let e = effect_after initial step (made_by made k) vs v in
      (λ i. cond (h.0 i && sees u v.dot) ((v.dot, e) ∷ rest i) (rest i))

  effects_trimmed : (p : Dot → Bool) (us : List Update) → Pass p us → effects_of (trim p us) ≡ effects_of us
  effects_trimmed p [] h = refl
  effects_trimmed p (u ∷ us) h =
      ap (λ es. (u.dot, made k (folded initial step (seen_by (trimmed p u) es)) u.path u.act u.now) ∷ es) (effects_trimmed p us h.1)
      ∙ ap (λ es. (u.dot, made k (folded initial step es) u.path u.act u.now) ∷ effects_of us) (seen_trimmed p u us h.1)

  pub confluence : (names : E → Dot → Bool) (holds : S → Dot → Bool) → KeepsSteps initial step (made_by made k) names holds → (us vs : List Update) → IsHistory us → IsHistory vs → AreAlike us vs → state_after initial step (made_by made k) us ≡ state_after initial step (made_by made k) vs
  confluence names holds steps us vs h g a =
      let p = has_dot us in
      let pass = all_pass p us (λ d h. h) in
      ap (folded initial step) (sym (effects_trimmed p us pass))
      ∙ same_folded initial step (made_by made k) names holds steps (trim p us) (trim p vs) (history_trimmed p us h) (history_trimmed p vs g) (trim_alike us us vs a)
      ∙ ap (folded initial step) (effects_trimmed p vs (pass_alike p us us vs a pass))
