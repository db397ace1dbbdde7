-- What a step leaves at each field.
use Rattle.std.proofs.Common.{◌≡◌, ℕ, Bool, true, false, cond, not, ◌&&◌, ◌||◌, List, [], ◌∷◌, Option, Some, None, refl, sym, ap, ◌∙◌, subst, ⊎_elim}
use Rattle.std.specs.Prelude.{map, filter, is_some, unwrap_or}
use Rattle.std.specs.List.{list_any}
use Rattle.std.specs.FinMap.{insert, get, find, get-insert, same_map}
use Rattle.std.proofs.lemmas.Bool.{true≢false}
use Rattle.site_vector.specs.declared.ids.Dot.{Dot}
use Rattle.crdt_core.specs.declared.kind.Kind.{Kind}
use Rattle.crdt_core.specs.declared.kind.Kind.TheVariants.{MapRr}
use Rattle.crdt_core.specs.Fits.{nests_in}
use Rattle.crdt_core.specs.declared.object.Field.{Field}
use Rattle.crdt_core.specs.declared.operation.Act.{Act}
use Rattle.crdt_core.specs.declared.operation.Act.TheVariants.{Reset}
use Rattle.crdt_core.specs.Kinds.{same_field}
use Rattle.crdt_core.specs.FieldOrder.{field_cmp, field_cmp_total, field_cmp_exact, field_ties, same_field_is, same_field_itself}
use Rattle.crdt_core.specs.MapLists.{IsDistinct}
use Rattle.crdt_core.proofs.Members.{In}
use Rattle.crdt_meanings.specs.Maps.{FieldMap, at, step_at, step_each, is_undone, resets_of}

-- a look-up in a list by the test of fields
abbrev pub found : {X : Type 0} → Field → List (Field × X) → Option X
found f es = find field_cmp f es

-- an entry of a list in which no field stands twice is found there
pub found_entry : {X : Type 0} (es : List (Field × X)) → IsDistinct field_cmp es → (e : Field × X) → In e es → found e.0 es ≡ Some e.1
found_entry [] d e i = absurd i
found_entry (x ∷ es) d e i = ⊎_elim
    (λ here. subst (λ y. found y.0 (x ∷ es) ≡ Some y.1) here (ap (λ b. cond b (Some x.1) (found x.0 es)) (sym (field_ties x.0 x.0) ∙ same_field_itself x.0)))
    (λ later.
    let rest = found_entry es d.1 e later in
    ap (λ b. cond b (Some x.1) (found e.0 es)) (sym (field_ties e.0 x.0))
    ∙ elim (same_field e.0 x.0) as (λ b. same_field e.0 x.0 ≡ b → cond b (Some x.1) (found e.0 es) ≡ Some e.1) [
      | true ↦ λ t. absurd (true≢false (sym (ap is_some rest) ∙ ap is_some (ap (λ f. found f es) (same_field_is e.0 x.0 t) ∙ d.0)))
      | false ↦ λ t. rest
    ] refl)
    i

pub same_fields : {X : Type 0} (m n : FieldMap X) → ((q : Field) → get m q ≡ get n q) → m ≡ n
same_fields m n h = same_map field_cmp_total field_cmp_exact m n h

pub get_put : {X : Type 0} (m : FieldMap X) (f : Field) (x : X) (q : Field) → get (insert m f x) q ≡ cond (same_field q f) (Some x) (get m q)
get_put m f x q = get-insert field_cmp_total m f x q ∙ ap (λ b. cond b (Some x) (get m q)) (sym (field_ties q f))

twice : {X : Type 0} (b : Bool) (x y : X) (o : Option X) → cond b (Some y) (cond b (Some x) o) ≡ cond b (Some y) o
twice true x y o = refl
twice false x y o = refl

pub put_again : {X : Type 0} (m : FieldMap X) (f : Field) (x y : X) → insert (insert m f x) f y ≡ insert m f y
put_again m f x y = same_fields _ _ (λ q. get_put (insert m f x) f y q ∙ ap (cond (same_field q f) (Some y)) (get_put m f x q) ∙ twice (same_field q f) x y (get m q) ∙ sym (get_put m f y q))

-- two tests of which not both hold
swapped : {X : Type 0} (a b : Bool) (x y : X) (o : Option X) → (a ≡ true → b ≡ true → true ≡ false) → cond b (Some y) (cond a (Some x) o) ≡ cond a (Some x) (cond b (Some y) o)
swapped true true x y o h = absurd (true≢false (h refl refl))
swapped true false x y o h = refl
swapped false b x y o h = refl

pub put_swap : {X : Type 0} (m : FieldMap X) (f g : Field) (x y : X) → same_field f g ≡ false → insert (insert m f x) g y ≡ insert (insert m g y) f x
put_swap m f g x y apart = same_fields _ _ (λ q.
    get_put (insert m f x) g y q ∙ ap (cond (same_field q g) (Some y)) (get_put m f x q)
    ∙ swapped (same_field q f) (same_field q g) x y (get m q) (λ qf qg. sym (subst (λ r. same_field r g ≡ true) (same_field_is q f qf) qg) ∙ apart)
    ∙ sym (get_put (insert m g y) f x q ∙ ap (cond (same_field q f) (Some x)) (get_put m g y q)))

module _ {S E : Type 0} (has : Kind → Bool) (initial : Kind → S) (step : S → Dot → E → S) where
  abbrev here : FieldMap S → Field → S
  here m f = at initial m f

  abbrev one : FieldMap S → Dot → Field → E → FieldMap S
  one m d f e = step_at has initial step m d f e

  abbrev each : FieldMap S → Dot → List (Field × E) → FieldMap S
  each m d xs = step_each has initial step m d xs

  pub at_put : (m : FieldMap S) (f : Field) (x : S) → here (insert m f x) f ≡ x
  at_put m f x = ap (λ o. unwrap_or o (initial f.kind)) (get_put m f x f ∙ ap (λ b. cond b (Some x) (get m f)) (same_field_itself f))

  pub at_put_other : (m : FieldMap S) (f g : Field) (x : S) → same_field f g ≡ false → here (insert m g x) f ≡ here m f
  at_put_other m f g x apart = ap (λ o. unwrap_or o (initial f.kind)) (get_put m g x f ∙ ap (λ b. cond b (Some x) (get m f)) apart)

  pub at_one : (m : FieldMap S) (d : Dot) (f : Field) (e : E) → has f.kind ≡ true → here (one m d f e) f ≡ step (here m f) d e
  at_one m d f e known = ap (λ b. here (cond b (insert m f (step (here m f) d e)) m) f) known ∙ at_put m f (step (here m f) d e)

  pub at_one_other : (m : FieldMap S) (d : Dot) (f g : Field) (e : E) → same_field f g ≡ false → here (one m d g e) f ≡ here m f
  at_one_other m d f g e apart = elim (has g.kind) as (λ b. here (cond b (insert m g (step (here m g) d e)) m) f ≡ here m f) [ true ↦ at_put_other m f g (step (here m g) d e) apart | false ↦ refl ]

  -- which fields stand after a step
  some_after : {X : Type 0} (a : Bool) (x : X) (o : Option X) → is_some (cond a (Some x) o) ≡ (a || is_some o)
  some_after true x o = refl
  some_after false x o = refl

  pub present_one : (m : FieldMap S) (d : Dot) (g : Field) (e : E) (f : Field) → is_some (get (one m d g e) f) ≡ ((has g.kind && same_field f g) || is_some (get m f))
  present_one m d g e f = elim (has g.kind) as (λ b. is_some (get (cond b (insert m g (step (here m g) d e)) m) f) ≡ ((b && same_field f g) || is_some (get m f))) [
    | true ↦ ap is_some (get_put m g (step (here m g) d e) f) ∙ some_after (same_field f g) (step (here m g) d e) (get m f)
    | false ↦ refl
  ]

  or_turn : (a b c : Bool) → (b || (a || c)) ≡ ((a || b) || c)
  or_turn true true c = refl
  or_turn true false c = refl
  or_turn false b c = refl

  pub present_each : (xs : List (Field × E)) (m : FieldMap S) (d : Dot) (f : Field) → is_some (get (each m d xs) f) ≡ (list_any (λ x. has x.0.kind && same_field f x.0) xs || is_some (get m f))
  present_each [] m d f = refl
  present_each (x ∷ xs) m d f =
      let others = list_any (λ y. has y.0.kind && same_field f y.0) xs in
      present_each xs (one m d x.0 x.1) d f ∙ ap (λ b. others || b) (present_one m d x.0 x.1 f) ∙ or_turn (has x.0.kind && same_field f x.0) others (is_some (get m f))

module _ {S E : Type 0} (has : Kind → Bool) (initial : Kind → S) (step : S → Dot → E → S) (made : Kind → S → List Field → Act → ℕ → E) (is_blank : S → Bool) where
  abbrev undo : Kind → S → ℕ → E
  undo k s n = made k s [] Reset n

  -- a state after the reset of what stands at a field, if that is undone
  abbrev pub after_undo : ℕ → Dot → Field → S → Option S → S
  after_undo n d f t None = t
  after_undo n d f t (Some x) = cond (is_undone has is_blank (f, x)) (step t d (undo f.kind x n)) t

  known_undone : (f : Field) (x : S) → is_undone has is_blank (f, x) ≡ true → has f.kind ≡ true
  known_undone f x h = elim (has f.kind) as (λ b. (b && (nests_in MapRr f.kind && not (is_blank x))) ≡ true → b ≡ true) [ true ↦ λ _. refl | false ↦ λ k. k ] h

  pub at_resets : (es : List (Field × S)) → IsDistinct field_cmp es → (n : ℕ) (d : Dot) (f : Field) (m : FieldMap S)
      → at initial (step_each has initial step m d (resets_of has made is_blank n es)) f ≡ after_undo n d f (at initial m f) (found f es)
  at_resets [] dis n d f m = refl
  at_resets (e ∷ es) dis n d f m =
      let rest = resets_of has made is_blank n es in
      let x = undo e.0.kind e.1 n in
      let go : FieldMap S → FieldMap S = λ w. step_each has initial step w d rest in
      let tie = field_ties f e.0 in
      elim (same_field f e.0) as (λ t. same_field f e.0 ≡ t → at initial (step_each has initial step m d (resets_of has made is_blank n (e ∷ es))) f ≡ after_undo n d f (at initial m f) (cond t (Some e.1) (found f es))) [
        | true ↦ λ t.
            let same = same_field_is f e.0 t in
            let none : found f es ≡ None = subst (λ g. found g es ≡ None) (sym same) dis.0 in
            elim (is_undone has is_blank e) as (λ b. is_undone has is_blank e ≡ b → at initial (step_each has initial step m d (map (λ e. (e.0, undo e.0.kind e.1 n)) (cond b (e ∷ filter (is_undone has is_blank) es) (filter (is_undone has is_blank) es)))) f ≡ after_undo n d f (at initial m f) (Some e.1)) [
              | true ↦ λ b.
                  at_resets es dis.1 n d f (step_at has initial step m d e.0 x)
                  ∙ ap (after_undo n d f (at initial (step_at has initial step m d e.0 x) f)) none
                  ∙ subst (λ g. at initial (step_at has initial step m d e.0 x) g ≡ cond (is_undone has is_blank (g, e.1)) (step (at initial m g) d (undo g.kind e.1 n)) (at initial m g)) (sym same)
                  (at_one has initial step m d e.0 x (known_undone e.0 e.1 b) ∙ sym (ap (λ c. cond c (step (at initial m e.0) d x) (at initial m e.0)) b))
              | false ↦ λ b.
                  at_resets es dis.1 n d f m
                  ∙ ap (after_undo n d f (at initial m f)) none
                  ∙ sym (ap (λ c. cond c (step (at initial m f) d (undo f.kind e.1 n)) (at initial m f)) (subst (λ g. is_undone has is_blank (g, e.1) ≡ false) (sym same) b))
            ] refl
        | false ↦ λ t.
            elim (is_undone has is_blank e) as (λ b. at initial (step_each has initial step m d (map (λ e. (e.0, undo e.0.kind e.1 n)) (cond b (e ∷ filter (is_undone has is_blank) es) (filter (is_undone has is_blank) es)))) f ≡ after_undo n d f (at initial m f) (found f es)) [
              | true ↦
                  at_resets es dis.1 n d f (step_at has initial step m d e.0 x)
                  ∙ ap (λ s. after_undo n d f s (found f es)) (at_one_other has initial step m d f e.0 x t)
              | false ↦ at_resets es dis.1 n d f m
            ]
      ] refl
      ∙ ap (λ b. after_undo n d f (at initial m f) (cond b (Some e.1) (found f es))) tie
