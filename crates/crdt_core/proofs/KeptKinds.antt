-- A kind whose state is what is kept, and whose effects take out what was seen and put their own in.
use Rattle.std.proofs.Common.{◌≡◌, Bool, true, false, cond, not, ◌&&◌, ◌||◌, List, [], ◌∷◌, Option, Some, None, refl, sym, ap, ◌∙◌, subst}
use Rattle.std.specs.Prelude.{filter, is_some}
use Rattle.std.specs.List.{list_any}
use Rattle.std.specs.Ordering.{eq_by_cmp}
use Rattle.std.proofs.lemmas.Bool.{true≢false, false≢true, and_parts}
use Rattle.std.specs.FinMap.{empty, get, find, entries, get-empty, get-entries}
use Rattle.site_vector.specs.declared.ids.Dot.{Dot}
use Rattle.site_vector.specs.Ids.{same_dot}
use Rattle.site_vector.specs.Order.{dot_cmp, dot_cmp_total, dot_cmp_exact, same_dot_is, same_dot_symm, same_dot_ties}
use Rattle.crdt_core.specs.Same.{Same}
use Rattle.crdt_core.specs.DotSet.{has_dot}
use Rattle.crdt_core.specs.Seen.{Update, sees}
use Rattle.crdt_core.specs.History.{IsHistory, state_after}
use Rattle.crdt_core.specs.Law.{KeepsSteps}
use Rattle.crdt_core.specs.MapLists.{IsDistinct, distinct_entries, same_finds}
use Rattle.crdt_core.specs.Kept.{KeptAt, kept_step, dots_if, is_kept}
use Rattle.crdt_core.proofs.KeptSteps.{get-kept_step, same_kept, has_dots_if}
use Rattle.crdt_core.proofs.KeptLaw.{given, put_at, left, taken, new_put, none_either, kept_after}

-- no update of the list that takes what it has seen has seen this one
abbrev pub stays : (Update → Bool) → List Update → Update → Bool
stays takes us u = not (list_any (λ r. takes r && sees r u.dot) us)

-- what updates put, each at its dot
abbrev pub with_pair : {V : Type 0} → Dot → Option V → List (Dot × V) → List (Dot × V)
with_pair d None rest = rest
with_pair d (Some v) rest = (d, v) ∷ rest

abbrev pub pairs : {V : Type 0} → (Update → Option V) → List Update → List (Dot × V)
pairs puts [] = []
pairs puts (u ∷ us) = with_pair u.dot (puts u) (pairs puts us)

listed_case : {V : Type 0} (b k : Bool) (own o : Option V) (d q : Dot) (rest : List (Dot × V)) → eq_by_cmp dot_cmp q d ≡ b → (b ≡ true → k ≡ true) → find dot_cmp q rest ≡ cond k o None → find dot_cmp q (with_pair d own rest) ≡ cond k (given b own o) None
listed_case true k None o d q rest e f h = h
listed_case false k None o d q rest e f h = h
listed_case true k (Some v) o d q rest e f h = ap (λ b. cond b (Some v) (find dot_cmp q rest)) e ∙ sym (ap (λ b. cond b (Some v) None) (f refl))
listed_case false k (Some v) o d q rest e f h = ap (λ b. cond b (Some v) (find dot_cmp q rest)) e ∙ h

unlisted_case : {V : Type 0} (b k : Bool) (own o : Option V) → (b ≡ true → k ≡ false) → cond k o None ≡ cond k (given b own o) None
unlisted_case false k own o f = refl
unlisted_case true false own o f = refl
unlisted_case true true own o f = absurd (true≢false (f refl))

module _ {V : Type 0} (puts : Update → Option V) (takes : Update → Bool) where
  find_pairs : (k : Dot → Bool) (us : List Update) (q : Dot) → find dot_cmp q (pairs puts (filter (λ u. k u.dot) us)) ≡ cond (k q) (put_at puts takes us q) None
  find_pairs k [] q = sym (none_either (k q) None refl)
  find_pairs k (u ∷ us) q =
      let rest = find_pairs k us q in
      let o = put_at puts takes us q in
      let tie : eq_by_cmp dot_cmp q u.dot ≡ same_dot u.dot q = sym (same_dot_ties q u.dot) ∙ same_dot_symm q u.dot in
      elim (k u.dot) as (λ b. k u.dot ≡ b → find dot_cmp q (pairs puts (cond b (u ∷ filter (λ u. k u.dot) us) (filter (λ u. k u.dot) us))) ≡ cond (k q) (given (same_dot u.dot q) (puts u) o) None) [
        | true ↦ λ e. listed_case (same_dot u.dot q) (k q) (puts u) o u.dot q (pairs puts (filter (λ u. k u.dot) us)) tie (λ t. subst (λ d. k d ≡ true) (same_dot_is u.dot q t) e) rest
        | false ↦ λ e. rest ∙ unlisted_case (same_dot u.dot q) (k q) (puts u) o (λ t. subst (λ d. k d ≡ false) (same_dot_is u.dot q t) e)
      ] refl

  distinct_with : (d : Dot) (own : Option V) (rest : List (Dot × V)) → find dot_cmp d rest ≡ None → IsDistinct dot_cmp rest → IsDistinct dot_cmp (with_pair d own rest)
  distinct_with d None rest h k = k
  distinct_with d (Some v) rest h k = (h, k)

  distinct_pairs : (k : Dot → Bool) (us : List Update) → IsHistory us → IsDistinct dot_cmp (pairs puts (filter (λ u. k u.dot) us))
  distinct_pairs k [] h = tt
  distinct_pairs k (u ∷ us) h =
      let rest = distinct_pairs k us h.1 in
      elim (k u.dot) as (λ b. IsDistinct dot_cmp (pairs puts (cond b (u ∷ filter (λ u. k u.dot) us) (filter (λ u. k u.dot) us)))) [
        | true ↦ distinct_with u.dot (puts u) (pairs puts (filter (λ u. k u.dot) us)) (find_pairs k us u.dot ∙ none_either (k u.dot) (put_at puts takes us u.dot) (new_put puts takes us u.dot h.0.new)) rest
        | false ↦ rest
      ]

  -- a map that answers what is left of a history has the entries that stay
  pub kept_entries : (us : List Update) → IsHistory us → (m : KeptAt V) → ((q : Dot) → get m q ≡ left puts takes (λ _. true) us q) → Same (entries m) (pairs puts (filter (stays takes us) us))
  kept_entries us h m is =
      let k : Dot → Bool = λ d. not (taken puts takes (λ _. true) us d) in
      same_finds dot_cmp_total dot_cmp_exact (entries m) (pairs puts (filter (stays takes us) us)) (distinct_entries m) (distinct_pairs k us h)
      (λ q. sym (get-entries m q) ∙ is q ∙ sym (find_pairs k us q))

swap_case : {V : Type 0} (i j a b : Bool) (x y o : Option V) → (i ≡ true → j ≡ false) → (j ≡ true → a ≡ false) → (i ≡ true → b ≡ false) → given j y (cond b None (given i x (cond a None o))) ≡ given i x (cond a None (given j y (cond b None o)))
swap_case true true a b x y o f g h = absurd (true≢false (f refl))
swap_case true false a true x y o f g h = absurd (true≢false (h refl))
swap_case true false true false x y o f g h = refl
swap_case true false false false x y o f g h = refl
swap_case false true true b x y o f g h = absurd (true≢false (g refl))
swap_case false true false true x y o f g h = refl
swap_case false true false false x y o f g h = refl
swap_case false false true true x y o f g h = refl
swap_case false false true false x y o f g h = refl
swap_case false false false true x y o f g h = refl
swap_case false false false false x y o f g h = refl

held_case : {V : Type 0} (i a : Bool) (x o : Option V) → is_some (given i x (cond a None o)) ≡ true → (is_some o || i) ≡ true
held_case true a x None h = refl
held_case true a x (Some v) h = refl
held_case false true x o h = absurd (false≢true h)
held_case false false x None h = absurd (false≢true h)
held_case false false x (Some v) h = refl

module _ {V : Type 0} where
  -- steps that name none of each other's dots commute
  pub kept_swaps : (s : KeptAt V) (d e : Dot) (a b : List Dot) (x y : Option V) → same_dot d e ≡ false → has_dot a e ≡ false → has_dot b d ≡ false → kept_step (kept_step s d a x) e b y ≡ kept_step (kept_step s e b y) d a x
  kept_swaps s d e a b x y apart na nb = same_kept _ _ (λ q.
      get-kept_step (kept_step s d a x) e b y q ∙ ap (λ o. given (same_dot e q) y (cond (has_dot b q) None o)) (get-kept_step s d a x q)
      ∙ swap_case (same_dot d q) (same_dot e q) (has_dot a q) (has_dot b q) x y (get s q)
      (λ i. ap (same_dot e) (sym (same_dot_is d q i)) ∙ same_dot_symm e d ∙ apart)
      (λ j. ap (has_dot a) (sym (same_dot_is e q j)) ∙ na)
      (λ i. ap (has_dot b) (sym (same_dot_is d q i)) ∙ nb)
      ∙ sym (get-kept_step (kept_step s e b y) d a x q ∙ ap (λ o. given (same_dot d q) x (cond (has_dot a q) None o)) (get-kept_step s e b y q)))

  pub kept_held : (s : KeptAt V) (d : Dot) (a : List Dot) (x : Option V) (q : Dot) → is_kept (kept_step s d a x) q ≡ true → (is_kept s q || same_dot d q) ≡ true
  kept_held s d a x q h = held_case (same_dot d q) (has_dot a q) x (get s q) (sym (ap is_some (get-kept_step s d a x q)) ∙ h)

-- the kind: which dots an effect takes out and what it puts
module _ {V E : Type 0} (make : KeptAt V → Update → E) (out : E → List Dot) (own : E → Option V) (puts : Update → Option V) (takes : Update → Bool)
    (takes_seen : (s : KeptAt V) (u : Update) → out (make s u) ≡ dots_if (takes u) s)
    (puts_own : (s : KeptAt V) (u : Update) → own (make s u) ≡ puts u) where
  abbrev step : KeptAt V → Dot → E → KeptAt V
  step s d e = kept_step s d (out e) (own e)

  pub kept_keeps_steps : KeepsSteps empty step make (λ e d. has_dot (out e) d) is_kept
  kept_keeps_steps = record {
    swaps = λ s a b d e apart na nb. kept_swaps s d e (out a) (out b) (own a) (own b) apart na nb;
    named = λ s u d h. (and_parts (takes u) (is_kept s d) (sym (ap (λ l. has_dot l d) (takes_seen s u) ∙ has_dots_if (takes u) s d) ∙ h)).1;
    held = λ s d e x h. kept_held s d (out e) (own e) x h;
    none_held = λ x. ap is_some (get-empty dot_cmp x);
  }

  at_step : (s r : KeptAt V) (u : Update) (q : Dot) → get (step s u.dot (make r u)) q ≡ given (same_dot u.dot q) (puts u) (cond (takes u && is_some (get r q)) None (get s q))
  at_step s r u q =
      get-kept_step s u.dot (out (make r u)) (own (make r u)) q
      ∙ (λ i. given (same_dot u.dot q) (puts_own r u i) (cond (has_dot (takes_seen r u i) q) None (get s q)))
      ∙ ap (λ b. given (same_dot u.dot q) (puts u) (cond b None (get s q))) (has_dots_if (takes u) r q)

  -- the state after a history has the entries that stay
  pub state_entries : (us : List Update) → IsHistory us → Same (entries (state_after empty step make us)) (pairs puts (filter (stays takes us) us))
  state_entries us h = kept_entries puts takes us h (state_after empty step make us) (kept_after empty step make puts takes (λ s q. get s q) (λ q. get-empty dot_cmp q) at_step us h)

-- what is put passes a test
abbrev pub holding : {V : Type 0} → (V → Bool) → Option V → Bool
holding t None = false
holding t (Some v) = t v

any_with : {V : Type 0} (t : V → Bool) (d : Dot) (own : Option V) (rest : List (Dot × V)) → list_any (λ e. t e.1) (with_pair d own rest) ≡ (holding t own || list_any (λ e. t e.1) rest)
any_with t d None rest = refl
any_with t d (Some v) rest = refl

and_itself : (a : Bool) → a ≡ (a && true)
and_itself true = refl
and_itself false = refl

and_never : (a : Bool) → false ≡ (a && false)
and_never true = refl
and_never false = refl

-- a test of what stays is one of the updates that put it
pub any_pairs : {V : Type 0} (t : V → Bool) (puts : Update → Option V) (k : Update → Bool) (us : List Update) → list_any (λ e. t e.1) (pairs puts (filter k us)) ≡ list_any (λ u. holding t (puts u) && k u) us
any_pairs t puts k [] = refl
any_pairs t puts k (u ∷ us) =
    let rest = any_pairs t puts k us in
    elim (k u) as (λ b. list_any (λ e. t e.1) (pairs puts (cond b (u ∷ filter k us) (filter k us))) ≡ ((holding t (puts u) && b) || list_any (λ u. holding t (puts u) && k u) us)) [
      | true ↦ any_with t u.dot (puts u) (pairs puts (filter k us)) ∙ (λ i. and_itself (holding t (puts u)) i || rest i)
      | false ↦ rest ∙ ap (λ b. b || list_any (λ u. holding t (puts u) && k u) us) (and_never (holding t (puts u)))
    ]
