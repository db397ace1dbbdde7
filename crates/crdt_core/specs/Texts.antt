-- Texts in the order of their bytes.
use Rattle.std.proofs.Common.{◌≡◌, ℕ, Bool, true, false, cond, ◌&&◌, ◌||◌, List, [], ◌∷◌, Option, Some, None, refl, sym, ap, ◌∙◌, subst, T}
use Rattle.std.specs.Prelude.{map, filter, is_some}
use Rattle.std.specs.List.{list_any}
use Rattle.std.specs.List.Sorted.{IsStrictlySortedBy}
use Rattle.std.specs.declared.cmp.Ordering.{Ordering}
use Rattle.std.specs.Ordering.{nat_cmp, eq_by_cmp, is_eq, is_lt}
use Rattle.std.specs.Cmp.{IsTotalOrder, Equal-is, tied_itself}
use Rattle.std.specs.Cmp.Lexicographic.{slice_cmp, nat_list_cmp_total}
use Rattle.std.proofs.lemmas.Bool.{false≢true}
use Rattle.std.specs.FinMap.{IsAntisymmetric, nat_cmp-IsAntisymmetric, slice_cmp-IsAntisymmetric, get, keys, from_entries, from_sorted, is_sorted, get-from_entries, get-from_sorted, entries-from_sorted, contains_key-keys, same_map}
use Rattle.std.specs.FinMap.Entries.{is_some-find, below_all}
use Rattle.crdt_core.specs.MapLists.{entries_again}

abbrev pub text_cmp : List ℕ → List ℕ → Ordering
text_cmp x y = slice_cmp nat_cmp x y

pub text_cmp_total : IsTotalOrder text_cmp
text_cmp_total = nat_list_cmp_total

pub text_cmp_exact : IsAntisymmetric text_cmp
text_cmp_exact = slice_cmp-IsAntisymmetric nat_cmp-IsAntisymmetric

abbrev pub same_text : List ℕ → List ℕ → Bool
same_text x y = eq_by_cmp text_cmp x y

abbrev pub is_in : List (List ℕ) → List ℕ → Bool
is_in xs x = list_any (same_text x) xs

-- each text with nothing beside it
abbrev pub marked : List (List ℕ) → List (List ℕ × Unit {0})
marked xs = map (λ x. (x, tt)) xs

-- the texts of a list, each once, in order
abbrev pub ascending : List (List ℕ) → List (List ℕ)
ascending xs = keys (from_entries {R = text_cmp} (marked xs))

pub same_text_is : (x y : List ℕ) → same_text x y ≡ true → x ≡ y
same_text_is x y h = text_cmp_exact x y ((Equal-is (text_cmp x y)).0 h)

pub same_text_itself : (x : List ℕ) → same_text x x ≡ true
same_text_itself x = ap is_eq (tied_itself text_cmp_total x)

firsts : (xs : List (List ℕ)) → map (λ e. e.0) (marked xs) ≡ xs
firsts [] = refl
firsts (x ∷ xs) = ap (λ l. x ∷ l) (firsts xs)

pub is_marked : (xs : List (List ℕ)) (q : List ℕ) → is_some (get (from_entries {R = text_cmp} (marked xs)) q) ≡ is_in xs q
is_marked xs q = ap is_some (get-from_entries text_cmp_total (marked xs) q) ∙ is_some-find text_cmp q (marked xs) ∙ ap (list_any (same_text q)) (firsts xs)

pub in_ascending : (xs : List (List ℕ)) (q : List ℕ) → is_in (ascending xs) q ≡ is_in xs q
in_ascending xs q = sym (contains_key-keys (from_entries {R = text_cmp} (marked xs)) q) ∙ is_marked xs q

both : (a b : Bool) → T a → T b → T (a && b)
both true b p q = q
both false b p q = p

right : (a b : Bool) → T (a && b) → T b
right true b h = h
right false b h = absurd h

left : (a b : Bool) → T (a && b) → T a
left true b h = tt
left false b h = h

no_some : false ≡ true → ⊥
no_some h = false≢true h

never : (a : Bool) → (a && false) ≡ false
never true = refl
never false = refl

pub nothing_beside : (x y : Option (Unit {0})) → is_some x ≡ is_some y → x ≡ y
nothing_beside None None h = refl
nothing_beside (Some a) (Some b) h = refl
nothing_beside None (Some b) h = absurd (no_some h)
nothing_beside (Some a) None h = absurd (no_some (sym h))

-- lists with the same texts are one in order
pub same_ascending : (xs ys : List (List ℕ)) → ((q : List ℕ) → is_in xs q ≡ is_in ys q) → ascending xs ≡ ascending ys
same_ascending xs ys h = ap keys (same_map text_cmp_total text_cmp_exact _ _ (λ q. nothing_beside _ _ (is_marked xs q ∙ h q ∙ sym (is_marked ys q))))

pub ascending_again : (xs : List (List ℕ)) → IsStrictlySortedBy text_cmp xs → ascending xs ≡ xs
ascending_again xs h = ap (map (λ e. e.0)) (entries_again text_cmp_total text_cmp_exact (marked xs) (subst (IsStrictlySortedBy text_cmp) (sym (firsts xs)) h)) ∙ firsts xs

pub in_filter : (p : List ℕ → Bool) (xs : List (List ℕ)) (q : List ℕ) → is_in (filter p xs) q ≡ (is_in xs q && p q)
in_filter p [] q = refl
in_filter p (x ∷ xs) q =
    let rest = in_filter p xs q in
    elim (same_text q x) as (λ b. same_text q x ≡ b → is_in (cond (p x) (x ∷ filter p xs) (filter p xs)) q ≡ ((b || is_in xs q) && p q)) [
      | true ↦ λ e. ap (λ b. is_in (cond b (x ∷ filter p xs) (filter p xs)) q) (ap p (sym (same_text_is q x e)))
          ∙ elim (p q) as (λ b. is_in (filter p xs) q ≡ (is_in xs q && b) → is_in (cond b (x ∷ filter p xs) (filter p xs)) q ≡ b) [
            | true ↦ λ r. ap (λ c. c || is_in (filter p xs) q) e
            | false ↦ λ r. r ∙ never (is_in xs q)
          ] rest
      | false ↦ λ e. elim (p x) as (λ b. is_in (cond b (x ∷ filter p xs) (filter p xs)) q ≡ (is_in xs q && p q)) [
        | true ↦ ap (λ c. c || is_in (filter p xs) q) e ∙ rest
        | false ↦ rest
      ]
    ] refl

-- the keys of part of a list of entries in order are in order
module _ {X : Type 0} (p : List ℕ × X → Bool) where
  below_part : (x : List ℕ) (es : List (List ℕ × X)) → T (below_all text_cmp x es) → T (below_all text_cmp x (marked (map (λ e. e.0) (filter p es))))
  below_part x [] h = tt
  below_part x (e ∷ es) h = elim (p e) as (λ b. T (below_all text_cmp x (marked (map (λ e. e.0) (cond b (e ∷ filter p es) (filter p es)))))) [
    | true ↦ both (is_lt (text_cmp x e.0)) _ (left (is_lt (text_cmp x e.0)) (below_all text_cmp x es) h) (below_part x es (right (is_lt (text_cmp x e.0)) (below_all text_cmp x es) h))
    | false ↦ below_part x es (right (is_lt (text_cmp x e.0)) (below_all text_cmp x es) h)
  ]

  sorted_part : (es : List (List ℕ × X)) → T (is_sorted text_cmp es) → T (is_sorted text_cmp (marked (map (λ e. e.0) (filter p es))))
  sorted_part [] h = tt
  sorted_part (e ∷ es) h =
      let rest = sorted_part es (right (below_all text_cmp e.0 es) (is_sorted text_cmp es) h) in
      elim (p e) as (λ b. T (is_sorted text_cmp (marked (map (λ e. e.0) (cond b (e ∷ filter p es) (filter p es)))))) [
        | true ↦ both (below_all text_cmp e.0 (marked (map (λ e. e.0) (filter p es)))) _ (below_part e.0 es (left (below_all text_cmp e.0 es) (is_sorted text_cmp es) h)) rest
        | false ↦ rest
      ]

  pub ascending_sorted : (es : List (List ℕ × X)) → T (is_sorted text_cmp es) → ascending (map (λ e. e.0) (filter p es)) ≡ map (λ e. e.0) (filter p es)
  ascending_sorted es h =
      let xs = map (λ e. e.0) (filter p es) in
      let ordered = sorted_part es h in
      ap keys (same_map text_cmp_total text_cmp_exact (from_entries (marked xs)) (from_sorted (marked xs)) (λ q. get-from_entries text_cmp_total (marked xs) q ∙ sym (get-from_sorted text_cmp (marked xs) q ordered)))
      ∙ ap (map (λ e. e.0)) (entries-from_sorted text_cmp (marked xs) ordered) ∙ firsts xs
