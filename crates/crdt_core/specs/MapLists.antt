-- A finite map, and the lists of its entries.
use Rattle.std.proofs.Common.{◌≡◌, Bool, true, false, cond, ◌&&◌, List, [], ◌∷◌, ◌++◌, Option, Some, None, refl, sym, ap, ◌∙◌, subst, T}
use Rattle.std.specs.Prelude.{unwrap_or, is_some}
use Rattle.std.specs.declared.cmp.Ordering.{Ordering}
use Rattle.std.specs.declared.cmp.Ordering.TheVariants.{Less, Equal, Greater}
use Rattle.std.specs.Ordering.{eq_by_cmp, is_lt, is_eq}
use Rattle.std.specs.Cmp.{IsTotalOrder, tied_itself, Equal-is, eq_by_cmp_equiv}
use Rattle.std.specs.List.{AllByRecursion}
use Rattle.std.specs.List.Sorted.{IsStrictlySortedBy}
use Rattle.std.specs.Map.{lookup, keys_of}
use Rattle.std.specs.BTreeMap.{is_at}
use Rattle.std.proofs.lemmas.Bool.{true≢false}
use Rattle.std.proofs.lemmas.Map.Keys.{sorted_head, sorted_tail}
use Rattle.std.specs.FinMap.{FinMap, IsAntisymmetric, find, get, entries, entries_sorted, insert, remove, from_entries, from_sorted, is_sorted, get-from_entries, get-from_sorted, get-insert, get-remove, entries-from_sorted, same_map}
use Rattle.std.specs.FinMap.Entries.{below_all}
use Rattle.crdt_core.specs.Same.{Same}

abbrev pub at : {K X : Type 0} → (K → K → Ordering) → List (K × X) → K → Option X
at R es q = lookup (is_at (R q)) es

pub find_at : {K X : Type 0} (R : K → K → Ordering) (es : List (K × X)) (q : K) → find R q es ≡ at R es q
find_at R [] q = refl
find_at R (e ∷ es) q = ap (cond (is_at (R q) e.0) (Some e.1)) (find_at R es q)

both : (a b : Bool) → T a → T b → T (a && b)
both true b p q = q
both false b p q = p

module _ {K X : Type 0} {R : K → K → Ordering} (o : IsTotalOrder R) (same : IsAntisymmetric R) where
  pub get_at : (es : List (K × X)) (q : K) → get (from_entries {R = R} es) q ≡ at R es q
  get_at es q = get-from_entries o es q ∙ find_at R es q

  -- what a tree of std says of one key given or taken, of the finite map
  pub one_given : (es fs : List (K × X)) (k : K) (v : X) → ((q : K) → at R fs q ≡ cond (is_at (R k) q) (Some v) (at R es q)) → from_entries {R = R} fs ≡ insert (from_entries es) k v
  one_given es fs k v h = same_map o same _ _ (λ q.
      get_at fs q ∙ h q ∙ ap (λ b. cond b (Some v) (at R es q)) ((eq_by_cmp_equiv o).symm k q)
      ∙ sym (get-insert o (from_entries es) k v q ∙ ap (cond (is_at (R q) k) (Some v)) (get_at es q)))

  pub one_gone : (es fs : List (K × X)) (k : K) → ((q : K) → at R fs q ≡ cond (is_at (R k) q) None (at R es q)) → from_entries {R = R} fs ≡ remove (from_entries es) k
  one_gone es fs k h = same_map o same _ _ (λ q.
      get_at fs q ∙ h q ∙ ap (λ b. cond b None (at R es q)) ((eq_by_cmp_equiv o).symm k q)
      ∙ sym (get-remove o (from_entries es) k q ∙ ap (cond (is_at (R q) k) None) (get_at es q)))

  below_by_less : (k : K) (es : List (K × X)) → AllByRecursion (λ y. R k y ≡ Less) (keys_of es) → T (below_all R k es)
  below_by_less k [] h = tt
  below_by_less k (e ∷ es) h = both _ _ (subst (λ r. T (is_lt r)) (sym h.0) tt) (below_by_less k es h.1)

  pub sorted_is : (es : List (K × X)) → IsStrictlySortedBy R (keys_of es) → T (is_sorted R es)
  sorted_is [] h = tt
  sorted_is (e ∷ es) h = both _ _ (below_by_less e.0 es (sorted_head R e.0 (keys_of es) h)) (sorted_is es (sorted_tail R e.0 (keys_of es) h))

  -- the entries of a map made of a list in order are that list
  pub entries_again : (es : List (K × X)) → IsStrictlySortedBy R (keys_of es) → entries (from_entries {R = R} es) ≡ es
  entries_again es h =
      let ordered = sorted_is es h in
      ap entries (same_map o same (from_entries es) (from_sorted es) (λ q. get-from_entries o es q ∙ sym (get-from_sorted R es q ordered)))
      ∙ entries-from_sorted R es ordered

-- no key stands twice
abbrev pub IsDistinct : {K X : Type 0} → (K → K → Ordering) → List (K × X) → Type 0
IsDistinct R [] = Unit {0}
IsDistinct R (e ∷ es) = (find R e.0 es ≡ None) × IsDistinct R es

right : (a b : Bool) → T (a && b) → T b
right true b h = h
right false b h = absurd h

left : (a b : Bool) → T (a && b) → T a
left true b h = tt
left false b h = h

not_equal : (r : Ordering) → T (is_lt r) → is_eq r ≡ false
not_equal Less h = refl
not_equal Equal h = absurd h
not_equal Greater h = absurd h

module _ {K X : Type 0} (R : K → K → Ordering) where
  below_none : (k : K) (es : List (K × X)) → T (below_all R k es) → find R k es ≡ None
  below_none k [] h = refl
  below_none k (e ∷ es) h = ap (λ b. cond b (Some e.1) (find R k es)) (not_equal (R k e.0) (left _ _ h)) ∙ below_none k es (right (is_lt (R k e.0)) _ h)

  distinct_sorted : (es : List (K × X)) → T (is_sorted R es) → IsDistinct R es
  distinct_sorted [] h = tt
  distinct_sorted (e ∷ es) h = (below_none e.0 es (left _ _ h), distinct_sorted es (right (below_all R e.0 es) _ h))

pub distinct_entries : {K X : Type 0} {R : K → K → Ordering} (m : FinMap R X) → IsDistinct R (entries m)
distinct_entries {R = R} m = distinct_sorted R (entries m) (entries_sorted m)

some_is : {A : Type 0} (x y : A) → Some x ≡ Some y → x ≡ y
some_is x y e = ap (λ o. unwrap_or o x) e

not_none : {A P : Type 0} (x : A) (o : Option A) → o ≡ Some x → o ≡ None → P
not_none x o s n = absurd (true≢false (sym (ap is_some s) ∙ ap is_some n))

none_parts : {A : Type 0} (b : Bool) (x : A) (o : Option A) → cond b (Some x) o ≡ None → (b ≡ false) × (o ≡ None)
none_parts true x o h = absurd (true≢false (ap is_some h))
none_parts false x o h = (refl, h)

itself : {K : Type 0} {R : K → K → Ordering} → IsTotalOrder R → (k : K) → eq_by_cmp R k k ≡ true
itself o k = ap is_eq (tied_itself o k)

module _ {K X : Type 0} {R : K → K → Ordering} (o : IsTotalOrder R) (same : IsAntisymmetric R) where
  -- where a look-up finds a value, its entry stands in the list
  found : (q : K) (v : X) (es : List (K × X)) → find R q es ≡ Some v → (front : List (K × X)) × (back : List (K × X)) × (es ≡ front ++ (q, v) ∷ back)
  found q v [] h = not_none v None h refl
  found q v (e ∷ es) h = elim (eq_by_cmp R q e.0) as (λ b. eq_by_cmp R q e.0 ≡ b → cond b (Some e.1) (find R q es) ≡ Some v → (front : List (K × X)) × (back : List (K × X)) × (e ∷ es ≡ front ++ (q, v) ∷ back)) [
    | true ↦ λ t k. ([], es, (λ i. (sym (same q e.0 ((Equal-is (R q e.0)).0 t)) i, some_is e.1 v k i) ∷ es))
    | false ↦ λ t k. let w = found q v es k in (e ∷ w.0, w.1, ap (λ l. e ∷ l) w.2)
  ] refl h

  without_find : (q : K) (e : K × X) (front back : List (K × X)) → find R q (front ++ e ∷ back) ≡ None → find R q (front ++ back) ≡ None
  without_find q e [] back h = (none_parts _ e.1 (find R q back) h).1
  without_find q e (f ∷ front) back h = let two = none_parts _ f.1 (find R q (front ++ e ∷ back)) h in ap (λ b. cond b (Some f.1) (find R q (front ++ back))) two.0 ∙ without_find q e front back two.1

  apart_here : (q : K) (e : K × X) (front back : List (K × X)) → find R q (front ++ e ∷ back) ≡ None → eq_by_cmp R q e.0 ≡ false
  apart_here q e [] back h = (none_parts _ e.1 (find R q back) h).0
  apart_here q e (f ∷ front) back h = apart_here q e front back (none_parts _ f.1 (find R q (front ++ e ∷ back)) h).1

  without_distinct : (e : K × X) (front back : List (K × X)) → IsDistinct R (front ++ e ∷ back) → IsDistinct R (front ++ back) × (find R e.0 (front ++ back) ≡ None)
  without_distinct e [] back h = (h.1, h.0)
  without_distinct e (f ∷ front) back h =
      let rest = without_distinct e front back h.1 in
      ((without_find f.0 e front back h.0, rest.0), ap (λ b. cond b (Some f.1) (find R e.0 (front ++ back))) ((eq_by_cmp_equiv o).symm e.0 f.0 ∙ apart_here f.0 e front back h.0) ∙ rest.1)

  past : (q : K) (e : K × X) (front back : List (K × X)) → eq_by_cmp R q e.0 ≡ false → find R q (front ++ e ∷ back) ≡ find R q (front ++ back)
  past q e [] back h = ap (λ b. cond b (Some e.1) (find R q back)) h
  past q e (f ∷ front) back h = ap (cond (eq_by_cmp R q f.0) (Some f.1)) (past q e front back h)

  -- two lists that answer alike at each key, with no key twice, have the same members
  pub same_finds : (es fs : List (K × X)) → IsDistinct R es → IsDistinct R fs → ((q : K) → find R q es ≡ find R q fs) → Same es fs
  same_finds [] [] d g h = refl
  same_finds [] (f ∷ fs) d g h = not_none f.1 None (h f.0 ∙ ap (λ b. cond b (Some f.1) (find R f.0 fs)) (itself o f.0)) refl
  same_finds (e ∷ es) fs d g h =
      let w = found e.0 e.1 fs (sym (h e.0) ∙ ap (λ b. cond b (Some e.1) (find R e.0 es)) (itself o e.0)) in
      let front = w.0 in
      let back = w.1 in
      let less = without_distinct e front back (subst (IsDistinct R) w.2 g) in (
        front,
        back,
        w.2,
        same_finds es (front ++ back) d.1 less.0 (λ q.
            elim (eq_by_cmp R q e.0) as (λ b. eq_by_cmp R q e.0 ≡ b → find R q es ≡ find R q (front ++ back)) [
              | true ↦ λ t. let k = same q e.0 ((Equal-is (R q e.0)).0 t) in ap (λ x. find R x es) k ∙ d.0 ∙ sym (ap (λ x. find R x (front ++ back)) k ∙ less.1)
              | false ↦ λ t. sym (ap (λ b. cond b (Some e.1) (find R q es)) t) ∙ h q ∙ ap (find R q) w.2 ∙ past q e front back t
            ] refl),
      )
