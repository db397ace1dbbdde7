-- What is kept after a history: what no later update took.
use Rattle.std.proofs.Common.{◌≡◌, Bool, true, false, cond, not, ◌&&◌, ◌||◌, List, [], ◌∷◌, Option, Some, None, refl, sym, ap, ◌∙◌, subst, arith, ⊎_elim}
use Rattle.std.specs.Prelude.{filter, is_some}
use Rattle.std.specs.List.{list_any}
use Rattle.std.proofs.lemmas.Bool.{true≢false, false≢true, or_cases, or_left, or_right, and_parts}
use Rattle.site_vector.specs.declared.ids.Dot.{Dot}
use Rattle.site_vector.specs.Ids.{same_dot}
use Rattle.site_vector.specs.Order.{same_dot_is}
use Rattle.crdt_core.specs.Seen.{Update, sees, has_dot}
use Rattle.crdt_core.specs.History.{IsHistory, IsClosed, folded, effects, state_after}

-- b says that this is the update's own dot
abbrev pub given : {V : Type 0} → Bool → Option V → Option V → Option V
given true (Some v) rest = Some v
given true None rest = rest
given false own rest = rest

both_true : (a b : Bool) → a ≡ true → b ≡ true → (a && b) ≡ true
both_true a b h k = ap (λ x. x && b) h ∙ k

-- of each update: what it puts at its dot, and whether it takes what it has seen
module _ {V : Type 0} (puts : Update → Option V) (takes : Update → Bool) where
  abbrev pub put_at : List Update → Dot → Option V
  put_at [] q = None
  put_at (u ∷ us) q = given (same_dot u.dot q) (puts u) (put_at us q)

  -- some update that passes takes what has this dot
  abbrev pub taken : (Dot → Bool) → List Update → Dot → Bool
  taken p us q = list_any (λ u. p u.dot && (takes u && sees u q)) us

  abbrev pub left : (Dot → Bool) → List Update → Dot → Option V
  left p us q = cond (p q && not (taken p us q)) (put_at us q) None

  pub new_put : (us : List Update) (q : Dot) → has_dot us q ≡ false → put_at us q ≡ None
  new_put [] q h = refl
  new_put (u ∷ us) q h =
      elim (same_dot u.dot q) as (λ b. same_dot u.dot q ≡ b → (b || has_dot us q) ≡ false → given b (puts u) (put_at us q) ≡ None) [
        | true ↦ λ e k. absurd (true≢false k)
        | false ↦ λ e k. new_put us q k
      ] refl h

  unseen_taken : (p : Dot → Bool) (us : List Update) (q : Dot) → list_any (λ v. sees v q) us ≡ false → taken p us q ≡ false
  unseen_taken p [] q h = refl
  unseen_taken p (u ∷ us) q h = grind (arith, unseen_taken p us q)

  more_taken : (p r : Dot → Bool) → ((d : Dot) → p d ≡ true → r d ≡ true) → (us : List Update) (q : Dot) → taken p us q ≡ true → taken r us q ≡ true
  more_taken p r more [] q h = h
  more_taken p r more (u ∷ us) q h = ⊎_elim
      (λ here. let two = and_parts (p u.dot) (takes u && sees u q) here in or_left (r u.dot && (takes u && sees u q)) _ (both_true (r u.dot) (takes u && sees u q) (more u.dot two.0) two.1))
      (λ later. or_right (r u.dot && (takes u && sees u q)) _ (more_taken p r more us q later))
      (or_cases (p u.dot && (takes u && sees u q)) (taken p us q) h)

pub none_either : {V : Type 0} (b : Bool) (o : Option V) → o ≡ None → cond b o None ≡ None
none_either true o h = h
none_either false o h = refl

all_pass : {A : Type 0} (xs : List A) → filter (λ _. true) xs ≡ xs
all_pass [] = refl
all_pass (x ∷ xs) = ap (λ ys. x ∷ ys) (all_pass xs)

-- one more update: at its own dot
own_at : {V : Type 0} (own : Option V) (t b : Bool) → given true own (cond (t && b) None (cond (true && not false) None None)) ≡ cond (true && not ((t && false) || false)) (given true own None) None
own_at own true true = refl
own_at own true false = refl
own_at own false b = refl

own_case : {V : Type 0} (own o : Option V) (t b pq s k : Bool) → o ≡ None → k ≡ false → s ≡ false → pq ≡ true → given true own (cond (t && b) None (cond (pq && not k) o None)) ≡ cond (pq && not ((t && s) || k)) (given true own o) None
own_case own o t b pq s k ho hk hs hp = rw (ho, hk, hs, hp) (own_at own t b)

-- at another dot
other_case : {V : Type 0} (t s j k pq : Bool) (o : Option V) → (s ≡ true → pq ≡ true) → (j ≡ true → k ≡ true) → cond (t && is_some (cond (s && not j) o None)) None (cond (pq && not k) o None) ≡ cond (pq && not ((t && s) || k)) o None
other_case false s j k pq o f g = refl
other_case true false j k pq o f g = refl
other_case true true j k false o f g = absurd (false≢true (f refl))
other_case true true true false true o f g = absurd (false≢true (g refl))
other_case true true true true true o f g = refl
other_case true true false true true None f g = refl
other_case true true false false true None f g = refl
other_case true true false k true (Some v) f g = refl

-- one that doesn't pass
skip_case : {V : Type 0} (b pq k : Bool) (own o : Option V) → (b ≡ true → pq ≡ false) → cond (pq && not k) o None ≡ cond (pq && not k) (given b own o) None
skip_case false pq k own o f = refl
skip_case true false k own o f = refl
skip_case true true k own o f = absurd (true≢false (f refl))

module _ {V S E : Type 0} (initial : S) (step : S → Dot → E → S) (make : S → Update → E) (puts : Update → Option V) (takes : Update → Bool) (at : S → Dot → Option V)
    (at_none : (q : Dot) → at initial q ≡ None)
    (at_step : (s r : S) (u : Update) (q : Dot) → at (step s u.dot (make r u)) q ≡ given (same_dot u.dot q) (puts u) (cond (takes u && is_some (at r q)) None (at s q))) where
  abbrev closed_fold : (Dot → Bool) → List Update → S
  closed_fold p us = folded initial step (filter (λ e. p e.0) (effects initial step make us))

  -- the fold of a closed part of the updates keeps what is left of that part
  pub kept_closed : (p : Dot → Bool) (us : List Update) → IsHistory us → IsClosed p us → (q : Dot) → at (closed_fold p us) q ≡ left puts takes p us q
  kept_closed p [] h c q = at_none q ∙ sym (none_either (p q && true) None refl)
  kept_closed p (u ∷ us) h c q =
      let rest = kept_closed p us h.1 c.1 q in
      let seen = kept_closed (sees u) us h.1 h.0.closed q in
      let own = puts u in
      let o = put_at puts takes us q in
      elim (p u.dot) as (λ b. p u.dot ≡ b → at (folded initial step (cond b ((u.dot, make (closed_fold (sees u) us) u) ∷ filter (λ e. p e.0) (effects initial step make us)) (filter (λ e. p e.0) (effects initial step make us)))) q
      ≡ cond (p q && not ((b && (takes u && sees u q)) || taken puts takes p us q)) (given (same_dot u.dot q) own o) None) [
        | true ↦ λ e. at_step (closed_fold p us) (closed_fold (sees u) us) u q ∙ (λ i. given (same_dot u.dot q) own (cond (takes u && is_some (seen i)) None (rest i)))
            ∙ elim (same_dot u.dot q) as (λ b. same_dot u.dot q ≡ b → given b own (cond (takes u && is_some (left puts takes (sees u) us q)) None (left puts takes p us q)) ≡ cond (p q && not ((takes u && sees u q) || taken puts takes p us q)) (given b own o) None) [
              | true ↦ λ same. let one = same_dot_is u.dot q same in
                  own_case own o (takes u) (is_some (left puts takes (sees u) us q)) (p q) (sees u q) (taken puts takes p us q)
                  (new_put puts takes us q (subst (λ d. has_dot us d ≡ false) one h.0.new))
                  (unseen_taken puts takes p us q (subst (λ d. list_any (λ v. sees v d) us ≡ false) one h.0.unseen))
                  (subst (λ d. sees u d ≡ false) one h.0.apart)
                  (subst (λ d. p d ≡ true) one e)
              | false ↦ λ other. other_case (takes u) (sees u q) (taken puts takes (sees u) us q) (taken puts takes p us q) (p q) o (c.0 e q) (more_taken puts takes (sees u) p (c.0 e) us q)
            ] refl
        | false ↦ λ e. rest ∙ skip_case (same_dot u.dot q) (p q) (taken puts takes p us q) own o (λ same. subst (λ d. p d ≡ false) (same_dot_is u.dot q same) e)
      ] refl

  all_closed : (us : List Update) → IsClosed (λ _. true) us
  all_closed [] = tt
  all_closed (u ∷ us) = (λ _ _ _. refl, all_closed us)

  -- the state after a history keeps what is left
  pub kept_after : (us : List Update) → IsHistory us → (q : Dot) → at (state_after initial step make us) q ≡ left puts takes (λ _. true) us q
  kept_after us h q = ap (λ es. at (folded initial step es) q) (sym (all_pass (effects initial step make us))) ∙ kept_closed (λ _. true) us h (all_closed us) q
