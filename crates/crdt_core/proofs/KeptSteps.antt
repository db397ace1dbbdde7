-- What a step leaves of what is kept.
use Rattle.std.proofs.Common.{◌≡◌, Bool, true, false, cond, not, ◌&&◌, ◌||◌, List, [], ◌∷◌, ◌++◌, Option, Some, None, refl, sym, ap, ◌∙◌}
use Rattle.std.specs.Prelude.{slice_get, unwrap_or}
use Rattle.std.specs.List.{list_any}
use Rattle.std.specs.Ordering.{eq_by_cmp}
use Rattle.std.proofs.lemmas.List.Folds.{list_any-append}
use Rattle.std.specs.FinMap.{get, remove, keys, get-insert, get-remove, get-retain_keys, contains_key-keys, same_map}
use Rattle.site_vector.specs.declared.ids.Dot.{Dot}
use Rattle.site_vector.specs.Ids.{same_dot}
use Rattle.site_vector.specs.Order.{dot_cmp, dot_cmp_total, dot_cmp_exact, same_dot_symm, same_dot_ties}
use Rattle.crdt_core.specs.DotSet.{has_dot}
use Rattle.crdt_core.specs.Kept.{KeptAt, without, with_own, kept_step, dots_of, dots_if, is_kept}
use Rattle.crdt_core.proofs.KeptLaw.{given}

turned : {V : Type 0} (b : Bool) (x y : Option V) → cond (not b) x y ≡ cond b y x
turned true x y = refl
turned false x y = refl

either : {V : Type 0} (a b : Bool) (x : Option V) → cond a None (cond b None x) ≡ cond (b || (a || false)) None x
either true true x = refl
either true false x = refl
either false true x = refl
either false false x = refl

any_by : {A : Type 0} (p r : A → Bool) → ((x : A) → p x ≡ r x) → (xs : List A) → list_any p xs ≡ list_any r xs
any_by p r h [] = refl
any_by p r h (x ∷ xs) = λ i. h x i || any_by p r h xs i

module _ {V : Type 0} where
  pub get-without : (m : KeptAt V) (dots : List Dot) (q : Dot) → get (without m dots) q ≡ cond (has_dot dots q) None (get m q)
  get-without m dots q =
      get-retain_keys m (λ d. not (has_dot dots d)) q (λ x e. ap (λ d. not (has_dot dots d)) (sym (dot_cmp_exact q x e)))
      ∙ turned (has_dot dots q) (get m q) None

  -- what is kept is as it answers at each dot
  pub same_kept : (m n : KeptAt V) → ((q : Dot) → get m q ≡ get n q) → m ≡ n
  same_kept m n h = same_map dot_cmp_total dot_cmp_exact m n h

  pub get-with_own : (m : KeptAt V) (d : Dot) (own : Option V) (q : Dot) → get (with_own m d own) q ≡ given (same_dot d q) own (get m q)
  get-with_own m d None q = elim (same_dot d q) as (λ b. get m q ≡ given b None (get m q)) [ true ↦ refl | false ↦ refl ]
  get-with_own m d (Some v) q =
      get-insert dot_cmp_total m d v q ∙ ap (λ b. cond b (Some v) (get m q)) (sym (same_dot_ties q d) ∙ same_dot_symm q d)
      ∙ elim (same_dot d q) as (λ b. cond b (Some v) (get m q) ≡ given b (Some v) (get m q)) [ true ↦ refl | false ↦ refl ]

  pub get-kept_step : (m : KeptAt V) (d : Dot) (dots : List Dot) (own : Option V) (q : Dot) → get (kept_step m d dots own) q ≡ given (same_dot d q) own (cond (has_dot dots q) None (get m q))
  get-kept_step m d dots own q = get-with_own (without m dots) d own q ∙ ap (given (same_dot d q) own) (get-without m dots q)

  -- the dots that are kept are those where something stands
  pub has_dots_of : (m : KeptAt V) (q : Dot) → has_dot (dots_of m) q ≡ is_kept m q
  has_dots_of m q = any_by (same_dot q) (eq_by_cmp dot_cmp q) (same_dot_ties q) (keys m) ∙ sym (contains_key-keys m q)

  pub has_dots_if : (b : Bool) (m : KeptAt V) (q : Dot) → has_dot (dots_if b m) q ≡ (b && is_kept m q)
  has_dots_if true m q = has_dots_of m q
  has_dots_if false m q = refl

  pub without_none : (m : KeptAt V) → without m [] ≡ m
  without_none m = same_kept _ _ (λ q. get-without m [] q)

  pub without_more : (m : KeptAt V) (dots : List Dot) (d : Dot) → remove (without m dots) d ≡ without m (dots ++ d ∷ [])
  without_more m dots d = same_kept _ _ (λ q.
      get-remove dot_cmp_total (without m dots) d q ∙ ap (cond (eq_by_cmp dot_cmp q d) None) (get-without m dots q)
      ∙ ap (λ b. cond b None (cond (has_dot dots q) None (get m q))) (sym (same_dot_ties q d))
      ∙ either (same_dot q d) (has_dot dots q) (get m q)
      ∙ sym (get-without m (dots ++ d ∷ []) q ∙ ap (λ b. cond b None (get m q)) (list_any-append (same_dot q) dots (d ∷ []))))

-- where the first is a mark, one is kept
pub first_of : (es : List (Dot × Bool)) (d : Dot) (m : Bool) → slice_get es 0 ≡ Some (d, m) → m ≡ true → list_any (λ e. e.1) es ≡ true
first_of [] d m h is = cc
first_of (e ∷ es) d m h is = ap (λ b. b || list_any (λ e. e.1) es) (ap (λ o. (unwrap_or o e).1) h ∙ is)
