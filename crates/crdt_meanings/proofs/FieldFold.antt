-- What stands at a field of a map is the fold of the field's own updates.
use Rattle.std.proofs.Common.{◌≡◌, ℕ, Bool, true, false, cond, not, ◌&&◌, List, [], ◌∷◌, Option, Some, None, refl, sym, ap, ◌∙◌, subst}
use Rattle.std.specs.Prelude.{filter, unwrap_or}
use Rattle.std.specs.Option.{option_map}
use Rattle.std.specs.FinMap.{empty, get, entries, get-empty, get-entries}
use Rattle.std.proofs.lemmas.Bool.{and_parts}
use Rattle.site_vector.specs.declared.ids.Dot.{Dot}
use Rattle.crdt_core.specs.declared.kind.Kind.{Kind}
use Rattle.crdt_core.specs.declared.kind.Kind.TheVariants.{MapRr}
use Rattle.crdt_core.specs.declared.object.Field.{Field}
use Rattle.crdt_core.specs.declared.operation.Act.{Act}
use Rattle.crdt_core.specs.declared.operation.Act.TheVariants as act
use Rattle.crdt_core.specs.Kinds.{same_field}
use Rattle.crdt_core.specs.Fits.{nests_in}
use Rattle.crdt_core.specs.Seen.{Update, sees}
use Rattle.crdt_core.specs.History.{folded, effects}
use Rattle.crdt_core.specs.Law.{made_by, all_fit}
use Rattle.crdt_core.specs.InMaps.{KeepsInMaps}
use Rattle.crdt_core.specs.FieldOrder.{field_cmp, field_ties, same_field_is, same_field_symm}
use Rattle.crdt_core.specs.MapLists.{distinct_entries}
use Rattle.crdt_meanings.specs.Maps.{FieldMap, at, is_undone, map_step, map_made, map_too_deep}
use Rattle.crdt_meanings.specs.MapMeaning.{with_some, inner_op, within, of_field}
use Rattle.crdt_meanings.proofs.FieldSteps.{at_one, at_one_other, after_undo, at_resets}
use Rattle.crdt_meanings.proofs.FieldHistory.{reset_nests, outer_fits, own_act}

module _ {S E : Type 0} {has : Kind → Bool} {too_deep : Kind → List Field → Bool} {initial : Kind → S} {step : S → Dot → E → S} {made : Kind → S → List Field → Act → ℕ → E} {is_blank : S → Bool} (owed : KeepsInMaps has too_deep initial step made is_blank) where
  abbrev here : FieldMap S → Field → S
  here m f = at initial m f

  -- the part of a map's effects that passes, folded
  abbrev pub outer : Kind → (Dot → Bool) → List Update → FieldMap S
  outer k p us = folded empty (map_step has initial step) (filter (λ e. p e.0) (effects empty (map_step has initial step) (made_by (map_made has initial made is_blank) k) us))

  -- the part of a kind's effects that passes, folded
  abbrev pub inside : Kind → (Dot → Bool) → List Update → S
  inside l p vs = folded (initial l) step (filter (λ e. p e.0) (effects (initial l) step (made_by made l) vs))

  pub outer_more : (k : Kind) (p : Dot → Bool) (u : Update) (us : List Update)
      → outer k p (u ∷ us) ≡ cond (p u.dot) (map_step has initial step (outer k p us) u.dot (map_made has initial made is_blank k (outer k (sees u) us) u.path u.act u.now)) (outer k p us)
  outer_more k p u us = let e = map_made has initial made is_blank k (outer k (sees u) us) u.path u.act u.now in
      let es = effects empty (map_step has initial step) (made_by (map_made has initial made is_blank) k) us in
      elim (p u.dot) as (λ b. folded empty (map_step has initial step) (cond b ((u.dot, e) ∷ filter (λ e. p e.0) es) (filter (λ e. p e.0) es)) ≡ cond b (map_step has initial step (outer k p us) u.dot e) (outer k p us)) [ true ↦ refl | false ↦ refl ]

  inside_more : (l : Kind) (p : Dot → Bool) (u : Update) (vs : List Update)
      → inside l p (u ∷ vs) ≡ cond (p u.dot) (step (inside l p vs) u.dot (made l (inside l (sees u) vs) u.path u.act u.now)) (inside l p vs)
  inside_more l p u vs = let e = made l (inside l (sees u) vs) u.path u.act u.now in
      let es = effects (initial l) step (made_by made l) vs in
      elim (p u.dot) as (λ b. folded (initial l) step (cond b ((u.dot, e) ∷ filter (λ e. p e.0) es) (filter (λ e. p e.0) es)) ≡ cond b (step (inside l p vs) u.dot e) (inside l p vs)) [ true ↦ refl | false ↦ refl ]

  module _ (f : Field) (known : has f.kind ≡ true) where
    undo_is : nests_in MapRr f.kind ≡ true → (x t : S) (d : Dot) (n : ℕ) → cond (is_undone has is_blank (f, x)) (step t d (made f.kind x [] act.Reset n)) t ≡ step t d (made f.kind x [] act.Reset n)
    undo_is nests x t d n =
        let after = step t d (made f.kind x [] act.Reset n) in
        (λ i. cond (known i && (nests i && not (is_blank x))) after t)
        ∙ elim (is_blank x) as (λ b. is_blank x ≡ b → cond (not b) after t ≡ after) [ true ↦ λ e. sym (owed.undoes_none f.kind x t d n known nests e) | false ↦ λ e. refl ] refl

    undo_all : nests_in MapRr f.kind ≡ true → (o : Option S) (t : S) (d : Dot) (n : ℕ) → after_undo has initial step made is_blank n d f t o ≡ step t d (made f.kind (unwrap_or o (initial f.kind)) [] act.Reset n)
    undo_all nests None t d n = sym (owed.undoes_none f.kind (initial f.kind) t d n known nests (owed.first_blank f.kind known))
    undo_all nests (Some x) t d n = undo_is nests x t d n

    -- a state after what an update does at the field
    abbrev after : S → S → ℕ → Dot → Option (List Field × Act) → S
    after t s n d None = t
    after t s n d (Some o) = step t d (made f.kind s o.0 o.1 n)

    abbrev stepped : Kind → FieldMap S → FieldMap S → ℕ → Dot → List Field → Act → S
    stepped k m sm n d p a = here (map_step has initial step m d (map_made has initial made is_blank k sm p a n)) f

    step_drop : (k : Kind) (g : Field) → (same_field g f ≡ true → nests_in MapRr f.kind ≡ true) → (m sm : FieldMap S) (n : ℕ) (d : Dot) → stepped k m sm n d [] (act.DropField g) ≡ after (here m f) (here sm f) n d (cond (same_field g f) (Some ([], act.Reset)) None)
    step_drop k g nests m sm n d =
        at_resets has initial step made is_blank ((g, here sm g) ∷ []) (refl, tt) n d f m
        ∙ ap (λ b. after_undo has initial step made is_blank n d f (here m f) (cond b (Some (here sm g)) None)) (sym (field_ties f g) ∙ same_field_symm f g)
        ∙ elim (same_field g f) as (λ b. same_field g f ≡ b → after_undo has initial step made is_blank n d f (here m f) (cond b (Some (here sm g)) None) ≡ after (here m f) (here sm f) n d (cond b (Some ([], act.Reset)) None)) [
          | true ↦ λ t. undo_all (nests t) (Some (here sm g)) (here m f) d n ∙ ap (λ h. step (here m f) d (made f.kind (here sm h) [] act.Reset n)) (same_field_is g f t)
          | false ↦ λ t. refl
        ] refl

    step_enter : (k : Kind) (g : Field) (p : List Field) (a : Act) (m sm : FieldMap S) (n : ℕ) (d : Dot) → stepped k m sm n d (g ∷ p) a ≡ after (here m f) (here sm f) n d (cond (same_field g f) (Some (p, a)) None)
    step_enter k g p a m sm n d = elim (same_field g f) as (λ b. same_field g f ≡ b → stepped k m sm n d (g ∷ p) a ≡ after (here m f) (here sm f) n d (cond b (Some (p, a)) None)) [
      | true ↦ λ t. subst (λ h. stepped k m sm n d (h ∷ p) a ≡ step (here m f) d (made f.kind (here sm f) p a n)) (sym (same_field_is g f t)) (at_one has initial step m d f (made f.kind (here sm f) p a n) known)
      | false ↦ λ t. at_one_other has initial step m d f g (made g.kind (here sm g) p a n) (same_field_symm f g ∙ t)
    ] refl

    -- a step of the map is at the field what the update is for the field
    step_here : (k : Kind) → reset_nests k f → (p : List Field) (a : Act) → outer_fits has too_deep k p a ≡ true → (m sm : FieldMap S) (n : ℕ) (d : Dot) → stepped k m sm n d p a ≡ after (here m f) (here sm f) n d (inner_op f p a)
    step_here k own [] act.Reset fit m sm n d =
        at_resets has initial step made is_blank (entries sm) (distinct_entries sm) n d f m
        ∙ ap (after_undo has initial step made is_blank n d f (here m f)) (sym (get-entries sm f))
        ∙ undo_all (own act.Reset (own_act has too_deep k act.Reset fit)) (get sm f) (here m f) d n
    step_here k own [] (act.DropField g) fit m sm n d = step_drop k g (λ t. own (act.DropField g) (own_act has too_deep k (act.DropField g) fit)) m sm n d
    step_here k own [] _ fit m sm n d = refl
    step_here k own (g ∷ p) a fit m sm n d = step_enter k g p a m sm n d

    inside_onto : (p : Dot → Bool) (u : Update) (o : Option (List Field × Act)) (vs : List Update)
        → cond (p u.dot) (after (inside f.kind p vs) (inside f.kind (sees u) vs) u.now u.dot o) (inside f.kind p vs) ≡ inside f.kind p (with_some (option_map (within u) o) vs)
    inside_onto p u None vs = elim (p u.dot) as (λ b. cond b (inside f.kind p vs) (inside f.kind p vs) ≡ inside f.kind p vs) [ true ↦ refl | false ↦ refl ]
    inside_onto p u (Some o) vs = sym (inside_more f.kind p (within u o) vs)

    pick : (b : Bool) (x y : FieldMap S) → here (cond b x y) f ≡ cond b (here x f) (here y f)
    pick true x y = refl
    pick false x y = refl

    pub field_folded : (k : Kind) → reset_nests k f → (us : List Update) → all_fit (map_too_deep has too_deep) k us ≡ true → (p : Dot → Bool) → here (outer k p us) f ≡ inside f.kind p (of_field f us)
    field_folded k own [] fit p = ap (λ o. unwrap_or o (initial f.kind)) (get-empty field_cmp f)
    field_folded k own (u ∷ us) fit p =
        let two = and_parts (outer_fits has too_deep k u.path u.act) _ fit in
        let now = field_folded k own us two.1 p in
        let saw = field_folded k own us two.1 (sees u) in
        let o = inner_op f u.path u.act in
        ap (λ m. here m f) (outer_more k p u us)
        ∙ pick (p u.dot) _ (outer k p us)
        ∙ ap (λ s. cond (p u.dot) s (here (outer k p us) f)) (step_here k own u.path u.act two.0 (outer k p us) (outer k (sees u) us) u.now u.dot)
        ∙ (λ i. cond (p u.dot) (after (now i) (saw i) u.now u.dot o) (now i))
        ∙ inside_onto p u o (of_field f us)
