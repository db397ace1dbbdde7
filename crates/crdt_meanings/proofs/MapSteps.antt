-- Maps keep what a kind owes step by step, as their fields' kinds do.
use Rattle.std.proofs.Common.{◌≡◌, ℕ, Bool, true, false, cond, ◌&&◌, ◌||◌, List, [], ◌∷◌, Option, Some, None, refl, sym, ap, ◌∙◌, subst, ⊎_elim}
use Rattle.std.specs.Prelude.{map, filter, is_some, unwrap_or}
use Rattle.std.specs.List.{list_any}
use Rattle.std.specs.declared.cmp.Ordering.{Ordering}
use Rattle.std.specs.declared.cmp.Ordering.TheVariants.{Less, Equal, Greater}
use Rattle.std.specs.FinMap.{empty, insert, get, find, entries, get-entries, entries-insert}
use Rattle.std.specs.FinMap.Entries.{put, by_order}
use Rattle.std.specs.Ordering.{eq_by_cmp}
use Rattle.std.proofs.lemmas.Bool.{true≢false, and_parts, and_from, or_cases, or_parts, or_left, or_right}
use Rattle.site_vector.specs.declared.ids.Dot.{Dot}
use Rattle.site_vector.specs.Ids.{same_dot}
use Rattle.crdt_core.specs.declared.kind.Kind.{Kind}
use Rattle.crdt_core.specs.declared.object.Field.{Field}
use Rattle.crdt_core.specs.declared.operation.Act.{Act}
use Rattle.crdt_core.specs.declared.operation.Act.TheVariants as act
use Rattle.crdt_core.specs.declared.value.Value.{Value}
use Rattle.crdt_core.specs.Kinds.{same_field}
use Rattle.crdt_core.specs.Seen.{Update}
use Rattle.crdt_core.specs.Law.{KeepsSteps, KeepsLaw, made_by}
use Rattle.crdt_core.proofs.Blank.{no_entries, empty_none}
use Rattle.crdt_core.specs.FieldOrder.{field_cmp, field_cmp_total, same_field_is, same_field_symm}
use Rattle.crdt_meanings.specs.Maps.{FieldMap, at, step_at, step_each, listed, map_step, is_undone, resets_of, reset_by, map_made, map_names, map_holds}
use Rattle.crdt_meanings.specs.MapMeaning.{within}
use Rattle.crdt_meanings.proofs.FieldSteps.{put_again, put_swap, at_put, at_put_other}

-- a test of what stands, in a list with one entry put in
module _ {K X : Type 0} (R : K → K → Ordering) (t : X → Bool) where
  abbrev some_of : List (K × X) → Bool
  some_of es = list_any (λ e. t e.1) es

  deep_left : (a b c : Bool) → (b || c) ≡ true → (b || (a || c)) ≡ true
  deep_left a true c h = refl
  deep_left true false c h = refl
  deep_left false false c h = h

  put_some : (k : K) (v : X) (es : List (K × X)) → some_of (put R k v es) ≡ true → (t v || some_of es) ≡ true
  put_some k v [] h = h
  put_some k v (e ∷ es) h = elim (R k e.0) as (λ r. some_of (by_order r ((k, v) ∷ e ∷ es) ((e.0, v) ∷ es) (e ∷ put R k v es)) ≡ true → (t v || (t e.1 || some_of es)) ≡ true) [
    | Less ↦ λ h. h
    | Equal ↦ λ h. deep_left (t e.1) (t v) (some_of es) h
    | Greater ↦ λ h. ⊎_elim (λ here. or_right (t v) _ (or_left (t e.1) _ here)) (λ there. deep_left (t e.1) (t v) (some_of es) (put_some k v es there)) (or_cases (t e.1) _ h)
  ] h

  pub some_found : (q : K) (v : X) (es : List (K × X)) → find R q es ≡ Some v → t v ≡ true → some_of es ≡ true
  some_found q v [] h k = absurd (true≢false (sym (ap is_some h)))
  some_found q v (e ∷ es) h k = elim (eq_by_cmp R q e.0) as (λ b. cond b (Some e.1) (find R q es) ≡ Some v → (t e.1 || some_of es) ≡ true) [
    | true ↦ λ h. or_left (t e.1) _ (ap t (ap (λ o. unwrap_or o v) h) ∙ k)
    | false ↦ λ h. or_right (t e.1) _ (some_found q v es h k)
  ] h

-- a test that holds of an option's value, or of the value that stands for none
by_option : {S : Type 0} (t : S → Bool) (o : Option S) (x : S) → t (unwrap_or o x) ≡ true → t x ≡ false → (v : S) × (o ≡ Some v) × (t v ≡ true)
by_option t None x h k = absurd (true≢false (sym h ∙ k))
by_option t (Some v) x h k = (v, refl, h)

module _ {S E : Type 0} {has : Kind → Bool} {too_deep : Kind → List Field → Bool} {initial : Kind → S} {step : S → Dot → E → S} {made : Kind → S → List Field → Act → ℕ → E} {value_of : S → Value} {stamp_of : E → Option ℕ} {meaning : Kind → List Update → Value} {names : E → Dot → Bool} {holds : S → Dot → Bool} (inner : KeepsLaw has too_deep initial step made value_of stamp_of meaning names holds) where
  abbrev one : FieldMap S → Dot → Field → E → FieldMap S
  one m d f e = step_at has initial step m d f e

  abbrev each : FieldMap S → Dot → List (Field × E) → FieldMap S
  each m d xs = step_each has initial step m d xs

  abbrev here : FieldMap S → Field → S
  here m f = at initial m f

  abbrev names_at : Field × E → Dot → Bool
  names_at x d = has x.0.kind && names x.1 d

  unnamed : (f : Field) (x : E) (d : Dot) → has f.kind ≡ true → names_at (f, x) d ≡ false → names x d ≡ false
  unnamed f x d known h = sym (ap (λ b. b && names x d) known) ∙ h

  -- at one field
  same_place : (m : FieldMap S) (d e : Dot) (f : Field) (x y : E) → has f.kind ≡ true → same_dot d e ≡ false → names x e ≡ false → names y d ≡ false
      → insert (insert m f (step (here m f) d x)) f (step (here (insert m f (step (here m f) d x)) f) e y) ≡ insert (insert m f (step (here m f) e y)) f (step (here (insert m f (step (here m f) e y)) f) d x)
  same_place m d e f x y known apart nx ny =
      let a = step (here m f) d x in
      let b = step (here m f) e y in
      put_again m f a _ ∙ ap (λ s. insert m f (step s e y)) (at_put has initial step m f a)
      ∙ ap (insert m f) ((inner.steps f.kind known).swaps (here m f) x y d e apart nx ny)
      ∙ sym (put_again m f b _ ∙ ap (λ s. insert m f (step s d x)) (at_put has initial step m f b))

  -- at two fields
  two_places : (m : FieldMap S) (d e : Dot) (f g : Field) (x y : E) → same_field f g ≡ false → same_field g f ≡ false
      → insert (insert m f (step (here m f) d x)) g (step (here (insert m f (step (here m f) d x)) g) e y) ≡ insert (insert m g (step (here m g) e y)) f (step (here (insert m g (step (here m g) e y)) f) d x)
  two_places m d e f g x y apart apart2 =
      let a = step (here m f) d x in
      let b = step (here m g) e y in
      ap (λ s. insert (insert m f a) g (step s e y)) (at_put_other has initial step m g f a apart2)
      ∙ put_swap m f g a b apart
      ∙ sym (ap (λ s. insert (insert m g b) f (step s d x)) (at_put_other has initial step m f g b apart))

  both_known : (m : FieldMap S) (d e : Dot) (f g : Field) (x y : E) → has f.kind ≡ true → has g.kind ≡ true → same_dot d e ≡ false → names x e ≡ false → names y d ≡ false
      → insert (insert m f (step (here m f) d x)) g (step (here (insert m f (step (here m f) d x)) g) e y) ≡ insert (insert m g (step (here m g) e y)) f (step (here (insert m g (step (here m g) e y)) f) d x)
  both_known m d e f g x y hf hg apart nx ny =
      elim (same_field f g) as (λ b. same_field f g ≡ b → insert (insert m f (step (here m f) d x)) g (step (here (insert m f (step (here m f) d x)) g) e y) ≡ insert (insert m g (step (here m g) e y)) f (step (here (insert m g (step (here m g) e y)) f) d x)) [
        | true ↦ λ t. subst (λ h. insert (insert m f (step (here m f) d x)) h (step (here (insert m f (step (here m f) d x)) h) e y) ≡ insert (insert m h (step (here m h) e y)) f (step (here (insert m h (step (here m h) e y)) f) d x)) (same_field_is f g t) (same_place m d e f x y hf apart nx ny)
        | false ↦ λ t. two_places m d e f g x y t (same_field_symm g f ∙ t)
      ] refl

  -- effects at fields that name none of each other's dots
  one_past_one : (m : FieldMap S) (d e : Dot) (f g : Field) (x y : E) → same_dot d e ≡ false → names_at (f, x) e ≡ false → names_at (g, y) d ≡ false → one (one m d f x) e g y ≡ one (one m e g y) d f x
  one_past_one m d e f g x y apart nx ny =
      let in_f : FieldMap S → FieldMap S = λ w. insert w f (step (here w f) d x) in
      let in_g : FieldMap S → FieldMap S = λ w. insert w g (step (here w g) e y) in
      elim (has f.kind) as (λ b. has f.kind ≡ b → cond (has g.kind) (in_g (cond b (in_f m) m)) (cond b (in_f m) m) ≡ cond b (in_f (cond (has g.kind) (in_g m) m)) (cond (has g.kind) (in_g m) m)) [
        | true ↦ λ hf. elim (has g.kind) as (λ b. has g.kind ≡ b → cond b (in_g (in_f m)) (in_f m) ≡ in_f (cond b (in_g m) m)) [
          | true ↦ λ hg. both_known m d e f g x y hf hg apart (unnamed f x e hf nx) (unnamed g y d hg ny)
          | false ↦ λ hg. refl
        ] refl
        | false ↦ λ hf. refl
      ] refl

  one_past : (ys : List (Field × E)) (m : FieldMap S) (d e : Dot) (f : Field) (x : E) → same_dot d e ≡ false → names_at (f, x) e ≡ false → list_any (λ y. names_at y d) ys ≡ false → each (one m d f x) e ys ≡ one (each m e ys) d f x
  one_past [] m d e f x apart nx ny = refl
  one_past (y ∷ ys) m d e f x apart nx ny =
      let two = or_parts (names_at y d) _ ny in
      ap (λ w. each w e ys) (one_past_one m d e f y.0 x y.1 apart nx two.0) ∙ one_past ys (one m e y.0 y.1) d e f x apart nx two.1

  all_past : (xs ys : List (Field × E)) (m : FieldMap S) (d e : Dot) → same_dot d e ≡ false → list_any (λ x. names_at x e) xs ≡ false → list_any (λ y. names_at y d) ys ≡ false → each (each m d xs) e ys ≡ each (each m e ys) d xs
  all_past [] ys m d e apart nx ny = refl
  all_past (x ∷ xs) ys m d e apart nx ny =
      let two = or_parts (names_at x e) _ nx in
      all_past xs ys (one m d x.0 x.1) d e apart two.1 ny ∙ ap (λ w. each w d xs) (one_past ys m d e x.0 x.1 apart two.0 ny)

  -- what stands at a field holds no dot that the map doesn't hold
  pub held_here : (m : FieldMap S) (f : Field) (d : Dot) → has f.kind ≡ true → holds (here m f) d ≡ true → map_holds holds m d ≡ true
  held_here m f d known h =
      let w = by_option (λ s. holds s d) (get m f) (initial f.kind) h ((inner.steps f.kind known).none_held d) in
      some_found field_cmp (λ s. holds s d) f w.0 (entries m) (sym (get-entries m f) ∙ w.1) w.2

  held_put : (m : FieldMap S) (f : Field) (v : S) (d : Dot) → map_holds holds (insert m f v) d ≡ true → (holds v d || map_holds holds m d) ≡ true
  held_put m f v d h = put_some field_cmp (λ s. holds s d) f v (entries m) (sym (ap (λ es. list_any (λ e. holds e.1 d) es) (entries-insert field_cmp_total m f v)) ∙ h)

  held_one : (m : FieldMap S) (d : Dot) (f : Field) (x : E) (q : Dot) → map_holds holds (one m d f x) q ≡ true → (map_holds holds m q || same_dot d q) ≡ true
  held_one m d f x q h = elim (has f.kind) as (λ b. has f.kind ≡ b → map_holds holds (cond b (insert m f (step (here m f) d x)) m) q ≡ true → (map_holds holds m q || same_dot d q) ≡ true) [
    | true ↦ λ known k. ⊎_elim
        (λ new. ⊎_elim (λ old. or_left _ (same_dot d q) (held_here m f q known old)) (λ own. or_right (map_holds holds m q) _ own) (or_cases _ _ ((inner.steps f.kind known).held (here m f) d x q new)))
        (λ old. or_left _ (same_dot d q) old)
        (or_cases (holds (step (here m f) d x) q) _ (held_put m f (step (here m f) d x) q k))
    | false ↦ λ known k. or_left _ (same_dot d q) k
  ] refl h

  held_each : (xs : List (Field × E)) (m : FieldMap S) (d q : Dot) → map_holds holds (each m d xs) q ≡ true → (map_holds holds m q || same_dot d q) ≡ true
  held_each [] m d q h = or_left _ (same_dot d q) h
  held_each (x ∷ xs) m d q h = ⊎_elim (held_one m d x.0 x.1 q) (λ own. or_right (map_holds holds m q) _ own) (or_cases _ _ (held_each xs (one m d x.0 x.1) d q h))

  empty_holds_none : (q : Dot) → map_holds {S = S} holds empty q ≡ false
  empty_holds_none q = ap (λ es. list_any (λ e. holds e.1 q) es) (no_entries {X = S} {R = field_cmp} empty (empty_none field_cmp S))

  module _ (is_blank : S → Bool) (u : Update) where
    abbrev reset_made : Field × S → Field × E
    reset_made e = (e.0, made e.0.kind e.1 [] act.Reset u.now)

    -- a reset names only what its states hold
    reset_named : (e : Field × S) (d : Dot) → names_at (reset_made e) d ≡ true → (has e.0.kind ≡ true) × (holds e.1 d ≡ true)
    reset_named e d h = let two = and_parts (has e.0.kind) _ h in (two.0, (inner.steps e.0.kind two.0).named e.1 (within u ([], act.Reset)) d two.1)

    resets_named : (es : List (Field × S)) (d : Dot) → list_any (λ x. names_at x d) (resets_of has made is_blank u.now es) ≡ true → (list_any (λ e. has e.0.kind && holds e.1 d) es) ≡ true
    resets_named [] d h = h
    resets_named (e ∷ es) d h =
        elim (is_undone has is_blank e) as (λ b. list_any (λ x. names_at x d) (map reset_made (cond b (e ∷ filter (is_undone has is_blank) es) (filter (is_undone has is_blank) es))) ≡ true → ((has e.0.kind && holds e.1 d) || list_any (λ e. has e.0.kind && holds e.1 d) es) ≡ true) [
          | true ↦ λ k. ⊎_elim (λ first. let two = reset_named e d first in or_left _ _ (and_from _ _ two.0 two.1)) (λ rest. or_right (has e.0.kind && holds e.1 d) _ (resets_named es d rest)) (or_cases (names_at (reset_made e) d) _ k)
          | false ↦ λ k. or_right (has e.0.kind && holds e.1 d) _ (resets_named es d k)
        ] h

    any_held : (es : List (Field × S)) (d : Dot) → list_any (λ e. has e.0.kind && holds e.1 d) es ≡ true → list_any (λ e. holds e.1 d) es ≡ true
    any_held [] d h = h
    any_held (e ∷ es) d h = ⊎_elim (λ first. or_left _ _ (and_parts (has e.0.kind) _ first).1) (λ rest. or_right (holds e.1 d) _ (any_held es d rest)) (or_cases (has e.0.kind && holds e.1 d) _ h)

    acts_named : (m : FieldMap S) (a : Act) (d : Dot) → list_any (λ e. has e.0.kind && holds e.1 d) (reset_by initial m a) ≡ true → map_holds holds m d ≡ true
    acts_named m act.Reset d h = any_held (entries m) d h
    acts_named m (act.DropField f) d h = ⊎_elim (λ first. let two = and_parts (has f.kind) _ first in held_here m f d two.0 two.1) (λ none. absurd (true≢false (sym none))) (or_cases (has f.kind && holds (here m f) d) false h)
    acts_named m _ d h = absurd (true≢false (sym h))

    ops_named : (k : Kind) (m : FieldMap S) (p : List Field) (d : Dot) → map_names has names (map_made has initial made is_blank k m p u.act u.now) d ≡ true → map_holds holds m d ≡ true
    ops_named k m [] d h = acts_named m u.act d (resets_named (reset_by initial m u.act) d h)
    ops_named k m (f ∷ p) d h = ⊎_elim
        (λ first. let two = and_parts (has f.kind) _ first in held_here m f d two.0 ((inner.steps f.kind two.0).named (here m f) (within u (p, u.act)) d two.1))
        (λ none. absurd (true≢false (sym none)))
        (or_cases (names_at (f, made f.kind (here m f) p u.act u.now) d) false h)

  pub map_steps : (is_blank : S → Bool) (k : Kind) → KeepsSteps empty (map_step has initial step) (made_by (map_made has initial made is_blank) k) (map_names has names) (map_holds holds)
  map_steps is_blank k = record {
    swaps = λ m a b d e apart na nb. all_past (listed a) (listed b) m d e apart na nb;
    named = λ m u d h. ops_named is_blank u k m u.path d h;
    held = λ m d e q h. held_each (listed e) m d q h;
    none_held = empty_holds_none;
  }
