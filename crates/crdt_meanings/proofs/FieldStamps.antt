-- Stamps in a map follow the rule of the field's kind.
use Rattle.std.proofs.Common.{◌≡◌, ℕ, Bool, true, false, cond, ◌&&◌, List, [], ◌∷◌, Option, Some, None, refl, sym, ap, ◌∙◌}
use Rattle.std.specs.Prelude.{filter, max, min}
use Rattle.std.specs.Option.{option_map}
use Rattle.std.specs.FinMap.{empty}
use Rattle.std.proofs.lemmas.Bool.{and_parts, and_from, and_right}
use Rattle.site_vector.specs.declared.ids.Dot.{Dot}
use Rattle.crdt_core.specs.declared.kind.Kind.{Kind}
use Rattle.crdt_core.specs.declared.kind.Kind.TheVariants.{MapRr, RegisterLww}
use Rattle.crdt_core.specs.declared.object.Field.{Field}
use Rattle.crdt_core.specs.declared.operation.Act.{Act}
use Rattle.crdt_core.specs.declared.operation.Act.TheVariants as act
use Rattle.crdt_core.specs.declared.value.Value.{Value}
use Rattle.crdt_core.specs.Kinds.{same_field, same_kind, same_path, kind_at}
use Rattle.crdt_core.specs.Fits.{nests_in}
use Rattle.crdt_core.specs.Seen.{Update, sees, is_assign}
use Rattle.crdt_core.specs.Stamps.{last_stamp, one_more, above_all, assigns_seen, stamp_due}
use Rattle.crdt_core.specs.History.{IsNext, IsHistory, IsStamped, effect_after}
use Rattle.crdt_core.specs.Law.{KeepsLaw, made_by, all_fit}
use Rattle.crdt_core.specs.InMaps.{KeepsInMaps}
use Rattle.crdt_core.specs.FieldOrder.{same_field_is}
use Rattle.crdt_meanings.specs.Maps.{FieldMap, at, map_step, map_made, map_stamp, map_too_deep}
use Rattle.crdt_meanings.specs.MapMeaning.{with_some, inner_op, within, of_field}
use Rattle.crdt_meanings.proofs.FieldHistory.{reset_nests, outer_fits, enters, own_act, reset_fits, fits_of_field, history_of_field, next_of_field}
use Rattle.crdt_meanings.proofs.FieldFold.{outer, inside, field_folded}

neither : (a b : Bool) → b ≡ false → (a && b) ≡ false
neither true b h = h
neither false b h = refl

-- the assigns of a register in a field are those that its kind sees
module _ (u : Update) (f : Field) (q : List Field) (n : ℕ) where
  abbrev outer_test : Update → Bool
  outer_test v = sees u v.dot && (is_assign v.act && same_path v.path (f ∷ q))

  abbrev inner_test : Update → Bool
  inner_test v = sees u v.dot && (is_assign v.act && same_path v.path q)

  abbrev above_by : (Update → Bool) → List Update → ℕ
  above_by t vs = above_all n (filter t vs)

  skips_one : (t : Update → Bool) (v : Update) (vs : List Update) → t v ≡ false → above_by t (v ∷ vs) ≡ above_by t vs
  skips_one t v vs h = ap (λ b. above_all n (cond b (v ∷ filter t vs) (filter t vs))) h

  skips_some : (v : Update) (b : Bool) (o : List Field × Act) (vs : List Update) → is_assign o.1 ≡ false → above_by inner_test (with_some (option_map (within v) (cond b (Some o) None)) vs) ≡ above_by inner_test vs
  skips_some v true o vs h = skips_one inner_test (within v o) vs (neither (sees u v.dot) _ (ap (λ b. b && same_path o.0 q) h))
  skips_some v false o vs h = refl

  one_entered : (v : Update) (g : Field) (p : List Field) (a : Act) (vs ws : List Update) → above_by inner_test vs ≡ above_by outer_test ws
      → above_by inner_test (with_some (option_map (within v) (cond (same_field g f) (Some (p, a)) None)) vs) ≡ above_by outer_test (within v (g ∷ p, a) ∷ ws)
  one_entered v g p a vs ws h = elim (same_field g f) as (λ b. above_by inner_test (with_some (option_map (within v) (cond b (Some (p, a)) None)) vs) ≡ above_all n (cond (sees u v.dot && (is_assign a && (b && same_path p q))) (within v (g ∷ p, a) ∷ filter outer_test ws) (filter outer_test ws))) [
    | true ↦ elim (sees u v.dot && (is_assign a && same_path p q)) as (λ b. above_all n (cond b (within v (p, a) ∷ filter inner_test vs) (filter inner_test vs)) ≡ above_all n (cond b (within v (g ∷ p, a) ∷ filter outer_test ws) (filter outer_test ws))) [
      | true ↦ ap (max (one_more v.stamp)) h
      | false ↦ h
    ]
    | false ↦ h ∙ sym (ap (λ b. above_all n (cond b (within v (g ∷ p, a) ∷ filter outer_test ws) (filter outer_test ws))) (neither (sees u v.dot) _ (neither (is_assign a) false refl)))
  ]

  one_assign : (v : Update) (p : List Field) (a : Act) (vs ws : List Update) → above_by inner_test vs ≡ above_by outer_test ws → above_by inner_test (with_some (option_map (within v) (inner_op f p a)) vs) ≡ above_by outer_test (within v (p, a) ∷ ws)
  one_assign v [] act.Reset vs ws h = skips_some v true ([], act.Reset) vs refl ∙ h ∙ sym (skips_one outer_test (within v ([], act.Reset)) ws (neither (sees u v.dot) false refl))
  one_assign v [] (act.DropField g) vs ws h = skips_some v (same_field g f) ([], act.Reset) vs refl ∙ h ∙ sym (skips_one outer_test (within v ([], act.DropField g)) ws (neither (sees u v.dot) false refl))
  one_assign v [] a vs ws h = h ∙ sym (skips_one outer_test (within v ([], a)) ws (neither (sees u v.dot) _ (neither (is_assign a) false refl)))
  one_assign v (g ∷ p) a vs ws h = one_entered v g p a vs ws h

  above_same : (us : List Update) → above_by inner_test (of_field f us) ≡ above_by outer_test us
  above_same [] = refl
  above_same (v ∷ us) = one_assign v v.path v.act (of_field f us) us (above_same us)

due_same : (k : Kind) (f : Field) (u : Update) (q : List Field) (a : Act) (us : List Update) → stamp_due f.kind (of_field f us) (within u (q, a)) ≡ stamp_due k us (within u (f ∷ q, a))
due_same k f u q a us = ap (λ n. cond (is_assign a && same_kind (kind_at f.kind q) RegisterLww) (Some (min last_stamp n)) None) (above_same u f q u.now us)

module _ {S E : Type 0} {has : Kind → Bool} {too_deep : Kind → List Field → Bool} {initial : Kind → S} {step : S → Dot → E → S} {made : Kind → S → List Field → Act → ℕ → E} {value_of : S → Value} {stamp_of : E → Option ℕ} {meaning : Kind → List Update → Value} {names : E → Dot → Bool} {holds : S → Dot → Bool} {is_blank : S → Bool} (inner : KeepsLaw has too_deep initial step made value_of stamp_of meaning names holds) (owed : KeepsInMaps has too_deep initial step made is_blank) (k : Kind) where
  abbrev pub MapStamped : List Update → Type 0
  MapStamped us = IsStamped empty (map_step has initial step) (made_by (map_made has initial made is_blank) k) (map_stamp stamp_of) us

  abbrev pub FieldStamped : Field → List Update → Type 0
  FieldStamped f vs = IsStamped (initial f.kind) step (made_by made f.kind) stamp_of vs

  module _ (f : Field) (known : has f.kind ≡ true) (own : reset_nests k f) where
    -- the stamp that an update shows is that of its effect at the field
    abbrev Shows : Option ℕ → ℕ → S → Option (List Field × Act) → Type 0
    Shows stamp n s None = Unit {0}
    Shows stamp n s (Some o) = stamp ≡ stamp_of (made f.kind s o.0 o.1 n)

    shows_here : (stamp : Option ℕ) (n : ℕ) (sm : FieldMap S) (s : S) → at initial sm f ≡ s → (nests_in MapRr f.kind ≡ true → stamp_of (made f.kind s [] act.Reset n) ≡ None) → (p : List Field) (a : Act) → outer_fits has too_deep k p a ≡ true
        → stamp ≡ map_stamp stamp_of (map_made has initial made is_blank k sm p a n) → Shows stamp n s (inner_op f p a)
    shows_here stamp n sm s same none [] act.Reset fit h = h ∙ sym (none (own act.Reset (own_act has too_deep k act.Reset fit)))
    shows_here stamp n sm s same none [] (act.DropField g) fit h = elim (same_field g f) as (λ b. Shows stamp n s (cond b (Some ([], act.Reset)) None)) [ true ↦ h ∙ sym (none (own (act.DropField g) (own_act has too_deep k (act.DropField g) fit))) | false ↦ tt ]
    shows_here stamp n sm s same none [] _ fit h = tt
    shows_here stamp n sm s same none (g ∷ p) a fit h = elim (same_field g f) as (λ b. same_field g f ≡ b → Shows stamp n s (cond b (Some (p, a)) None)) [
      | true ↦ λ t. h ∙ ap (λ l. stamp_of (made l.kind (at initial sm l) p a n)) (same_field_is g f t) ∙ ap (λ x. stamp_of (made f.kind x p a n)) same
      | false ↦ λ t. tt
    ] refl

    stamped_onto : (u : Update) (us : List Update) (o : Option (List Field × Act)) → Shows u.stamp u.now (inside owed f.kind (sees u) (of_field f us)) o → FieldStamped f (of_field f us) → FieldStamped f (with_some (option_map (within u) o) (of_field f us))
    stamped_onto u us None h rest = rest
    stamped_onto u us (Some o) h rest = (h, rest)

    pub stamped_of_field : (us : List Update) → IsHistory us → all_fit (map_too_deep has too_deep) k us ≡ true → MapStamped us → FieldStamped f (of_field f us)
    stamped_of_field [] h fit st = st
    stamped_of_field (u ∷ us) h fit st =
        let two = and_parts (outer_fits has too_deep k u.path u.act) _ fit in
        let rest = stamped_of_field us h.1 two.1 st.1 in
        let fits = fits_of_field has too_deep owed.shallow k f own us two.1 in
        let s = inside owed f.kind (sees u) (of_field f us) in
        let none : nests_in MapRr f.kind ≡ true → stamp_of (made f.kind s [] act.Reset u.now) ≡ None =
        λ nests. inner.stamps f.kind (within u ([], act.Reset)) (of_field f us) known (next_of_field f u us ([], act.Reset) h.0, history_of_field f us h.1) (and_from _ _ (reset_fits has too_deep owed.shallow f nests) fits) rest in
        stamped_onto u us (inner_op f u.path u.act)
        (shows_here u.stamp u.now (outer owed k (sees u) us) s (field_folded owed f known k own us two.1 (sees u)) none u.path u.act two.0 st.0)
        rest

  -- the stamp of an update of a map
  stamps_at : (own : (f : Field) → nests_in k f.kind ≡ true → reset_nests k f) → same_kind k RegisterLww ≡ false → (u : Update) (us : List Update) (p : List Field) (a : Act) → IsNext us u → IsHistory us → outer_fits has too_deep k p a ≡ true → all_fit (map_too_deep has too_deep) k us ≡ true → MapStamped us
      → map_stamp stamp_of (map_made has initial made is_blank k (outer owed k (sees u) us) p a u.now) ≡ stamp_due k us (within u (p, a))
  stamps_at own other u us [] a next h fit fits st = sym (ap (λ b. cond b (Some (min last_stamp (above_all u.now (assigns_seen (within u ([], a)) us)))) None) (and_right (is_assign a) (same_kind k RegisterLww) other))
  stamps_at own other u us (f ∷ q) a next h fit fits st =
      let e = enters has too_deep k f q a fit in
      let mine = own f e.nests in
      ap (λ s. stamp_of (made f.kind s q a u.now)) (field_folded owed f e.known k mine us fits (sees u))
      ∙ inner.stamps f.kind (within u (q, a)) (of_field f us) e.known (next_of_field f u us (q, a) next, history_of_field f us h) (and_from _ _ e.fit (fits_of_field has too_deep owed.shallow k f mine us fits)) (stamped_of_field f e.known mine us h fits st)
      ∙ due_same k f u q a us

  pub map_stamps : (own : (f : Field) → nests_in k f.kind ≡ true → reset_nests k f) → same_kind k RegisterLww ≡ false → (u : Update) (us : List Update) → IsHistory (u ∷ us) → all_fit (map_too_deep has too_deep) k (u ∷ us) ≡ true → MapStamped us
      → map_stamp stamp_of (effect_after empty (map_step has initial step) (made_by (map_made has initial made is_blank) k) us u) ≡ stamp_due k us u
  map_stamps own other u us h fit st = let two = and_parts (outer_fits has too_deep k u.path u.act) _ fit in stamps_at own other u us u.path u.act h.0 h.1 two.0 two.1 st
