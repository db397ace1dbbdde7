-- What an amount that is put or taken out does to a sum, in 128 bits.
use Rattle.std.proofs.Common.{◌≡◌, Bool, true, false, cond, ◌&&◌, T, List, [], ◌∷◌, Some, None, refl, sym, ap, ◌∙◌, arith}
use Rattle.std.specs.Prelude.{ℤ, pos, ◌+ℤ◌, ◌-ℤ◌, unwrap_or}
use Rattle.std.specs.declared.cmp.Ordering.{Ordering}
use Rattle.std.specs.declared.cmp.Ordering.TheVariants.{Less, Equal, Greater}
use Rattle.std.specs.Ordering.{eq_by_cmp, is_lt, is_eq}
use Rattle.std.specs.Cmp.{IsTotalOrder, tied_itself, Equal-is}
use Rattle.std.specs.Int.{int_wrap, w128}
use Rattle.std.specs.FinMap.{FinMap, IsAntisymmetric, find, put, is_sorted, get, entries, entries_sorted, insert, remove, entries-insert, get-entries, get-insert, get-remove, same_map}
use Rattle.std.specs.FinMap.Entries.{by_order, below_all}
use Rattle.std.proofs.lemmas.Int.{ints, int_wrap-add_left}
use Rattle.site_vector.specs.declared.ids.Dot.{Dot}
use Rattle.site_vector.specs.Order.{dot_cmp_total, dot_cmp_exact}
use Rattle.crdt_core.specs.Kept.{KeptAt}
use Rattle.crdt_meanings.specs.CounterMeaning.{total_by}
use Rattle.crdt_counters.specs.Total.{sum_of, held_at}

-- the amounts of these entries, with no bound
abbrev whole : {K : Type 0} → List (K × ℤ) → ℤ
whole es = total_by (λ e. e.1) es

first : (a b : Bool) → T (a && b) → T a
first true b h = tt
first false b h = absurd h

second : (a b : Bool) → T (a && b) → T b
second true b h = h
second false b h = absurd h

is_less : (r : Ordering) → T (is_lt r) → r ≡ Less
is_less Less h = refl
is_less Equal h = absurd h
is_less Greater h = absurd h

none_before : (v : ℤ) → ((pos 0 +ℤ v) +ℤ pos 0) ≡ (pos 0 +ℤ v)
none_before v = omega (arith, ints)

placed : (t e v : ℤ) → (((t +ℤ e) +ℤ v) +ℤ pos 0) ≡ ((t +ℤ e) +ℤ v)
placed t e v = omega (arith, ints)

replaced : (t e v : ℤ) → ((t +ℤ v) +ℤ e) ≡ ((t +ℤ e) +ℤ v)
replaced t e v = omega (arith, ints)

behind : (p t e v x : ℤ) → (p +ℤ x) ≡ (t +ℤ v) → ((p +ℤ e) +ℤ x) ≡ ((t +ℤ e) +ℤ v)
behind p t e v x h = omega (arith, ints)

add_none : (a : ℤ) → (a +ℤ pos 0) ≡ a
add_none a = omega (arith, ints)

module _ {K : Type 0} {R : K → K → Ordering} (o : IsTotalOrder R) where
  -- a key below all others is not found
  lacks : (k y : K) (es : List (K × ℤ)) → R k y ≡ Less → T (below_all R y es) → find R k es ≡ None
  lacks k y [] l h = refl
  lacks k y (e ∷ es) l h =
      ap (λ r. cond (is_eq r) (Some e.1) (find R k es)) (o.trans k y e.0 l (is_less _ (first _ _ h)))
      ∙ lacks k y es l (second (is_lt (R y e.0)) _ h)

  whole_put : (k : K) (v : ℤ) (es : List (K × ℤ)) → T (is_sorted R es)
      → (whole (put R k v es) +ℤ unwrap_or (find R k es) (pos 0)) ≡ (whole es +ℤ v)
  whole_put k v [] h = none_before v
  whole_put k v (e ∷ es) h =
      let t = whole es in
      let old = λ (r : Ordering). unwrap_or (cond (is_eq r) (Some e.1) (find R k es)) (pos 0) in
      let new = λ (r : Ordering). by_order r ((k, v) ∷ e ∷ es) ((e.0, v) ∷ es) (e ∷ put R k v es) in
      elim (R k e.0) as (λ r. R k e.0 ≡ r → (whole (new r) +ℤ old r) ≡ ((t +ℤ e.1) +ℤ v)) [
        | Less ↦ λ p.
            ap (λ x. ((t +ℤ e.1) +ℤ v) +ℤ unwrap_or x (pos 0)) (lacks k e.0 es p (first _ _ h)) ∙ placed t e.1 v
        | Equal ↦ λ p. replaced t e.1 v
        | Greater ↦ λ p. behind _ t e.1 v _ (whole_put k v es (second (below_all R e.0 es) _ h))
      ] refl

  whole_insert : (m : FinMap R ℤ) (k : K) (v : ℤ)
      → (whole (entries (insert m k v)) +ℤ unwrap_or (get m k) (pos 0)) ≡ (whole (entries m) +ℤ v)
  whole_insert m k v =
      ap (λ es. whole es +ℤ unwrap_or (get m k) (pos 0)) (entries-insert o m k v)
      ∙ ap (λ x. whole (put R k v (entries m)) +ℤ unwrap_or x (pos 0)) (get-entries m k)
      ∙ whole_put k v (entries m) (entries_sorted m)

  module _ (same : IsAntisymmetric R) where
    tied : (m : FinMap R ℤ) (q k : K) → eq_by_cmp R q k ≡ true → get m k ≡ get m q
    tied m q k t = ap (get m) (sym (same q k ((Equal-is (R q k)).0 t)))

    -- where nothing stands, nothing is taken out
    none_gone : (m : FinMap R ℤ) (k : K) → get m k ≡ None → remove m k ≡ m
    none_gone m k h = same_map o same _ _ (λ q. get-remove o m k q
        ∙ elim (eq_by_cmp R q k) as (λ b. eq_by_cmp R q k ≡ b → cond b None (get m q) ≡ get m q) [
          | true ↦ λ t. sym h ∙ tied m q k t
          | false ↦ λ t. refl
        ] refl)

    -- what was taken out, put back
    put_back : (m : FinMap R ℤ) (k : K) (v : ℤ) → get m k ≡ Some v → insert (remove m k) k v ≡ m
    put_back m k v h = same_map o same _ _ (λ q.
        get-insert o (remove m k) k v q ∙ ap (cond (eq_by_cmp R q k) (Some v)) (get-remove o m k q)
        ∙ elim (eq_by_cmp R q k) as (λ b. eq_by_cmp R q k ≡ b → cond b (Some v) (cond b None (get m q)) ≡ get m q) [
          | true ↦ λ t. sym h ∙ tied m q k t
          | false ↦ λ t. refl
        ] refl)

    gone : (m : FinMap R ℤ) (k : K) → get (remove m k) k ≡ None
    gone m k = get-remove o m k k ∙ ap (λ r. cond (is_eq r) None (get m k)) (tied_itself o k)

    whole_remove : (m : FinMap R ℤ) (k : K)
        → (whole (entries (remove m k)) +ℤ unwrap_or (get m k) (pos 0)) ≡ whole (entries m)
    whole_remove m k =
        let left = whole (entries (remove m k)) in
        elim (get m k) as (λ x. get m k ≡ x → (left +ℤ unwrap_or x (pos 0)) ≡ whole (entries m)) [
          | None ↦ λ h. add_none _ ∙ ap (λ n. whole (entries n)) (none_gone m k h)
          | Some v ↦ λ h.
              sym (whole_insert (remove m k) k v)
              ∙ ap (λ x. whole (entries (insert (remove m k) k v)) +ℤ unwrap_or x (pos 0)) (gone m k)
              ∙ add_none _ ∙ ap (λ n. whole (entries n)) (put_back m k v h)
        ] refl

moved : (s h v : ℤ) → ((s -ℤ h) +ℤ v) ≡ (s +ℤ (v -ℤ h))
moved s h v = omega (arith, ints)

now_put : (s s' h v : ℤ) → (s' +ℤ h) ≡ (s +ℤ v) → (s +ℤ (v -ℤ h)) ≡ s'
now_put s s' h v e = omega (arith, ints)

now_gone : (s s' h : ℤ) → (s' +ℤ h) ≡ s → (s +ℤ (pos 0 -ℤ h)) ≡ s'
now_gone s s' h e = omega (arith, ints)

taken_off : (s h : ℤ) → (s -ℤ h) ≡ (s +ℤ (pos 0 -ℤ h))
taken_off s h = omega (arith, ints)

module _ (m : KeptAt ℤ) (d : Dot) where
  -- the old amount off, the new one on
  pub sum_put : (v total less sum : ℤ) → total ≡ sum_of m → less ≡ int_wrap w128 (total -ℤ held_at m d)
      → sum ≡ int_wrap w128 (less +ℤ v) → sum ≡ sum_of (insert m d v)
  sum_put v total less sum is l s =
      let all = whole (entries m) in
      let old = held_at m d in
      s ∙ ap (λ z. int_wrap w128 (z +ℤ v)) (l ∙ ap (λ z. int_wrap w128 (z -ℤ old)) is)
      ∙ int_wrap-add_left w128 (int_wrap w128 all -ℤ old) v
      ∙ ap (int_wrap w128) (moved (int_wrap w128 all) old v)
      ∙ int_wrap-add_left w128 all (v -ℤ old)
      ∙ ap (int_wrap w128) (now_put all _ old v (whole_insert dot_cmp_total m d v))

  -- what is taken out, off
  pub sum_gone : (total less : ℤ) → total ≡ sum_of m → less ≡ int_wrap w128 (total -ℤ held_at m d)
      → less ≡ sum_of (remove m d)
  sum_gone total less is l =
      let all = whole (entries m) in
      let old = held_at m d in
      l ∙ ap (λ z. int_wrap w128 (z -ℤ old)) is
      ∙ ap (int_wrap w128) (taken_off (int_wrap w128 all) old)
      ∙ int_wrap-add_left w128 all (pos 0 -ℤ old)
      ∙ ap (int_wrap w128) (now_gone all _ old (whole_remove dot_cmp_total dot_cmp_exact m d))
