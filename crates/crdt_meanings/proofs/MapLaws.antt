-- Maps keep the law of a kind, as their fields' kinds do.
use Rattle.std.proofs.Common.{◌≡◌, ℕ, Bool, true, false, cond, not, ◌&&◌, ◌||◌, List, [], ◌∷◌, Option, Some, None, refl, sym, ap, ◌∙◌, subst, T, ⊎_elim}
use Rattle.std.specs.Prelude.{map, filter, is_some, unwrap_or}
use Rattle.std.specs.List.{list_all}
use Rattle.std.specs.Option.{option_map}
use Rattle.std.specs.Ordering.{eq_by_cmp, is_lt}
use Rattle.std.specs.FinMap.{empty, get, entries, is_sorted, from_entries, from_sorted, entries_sorted, entries-from_sorted, get-entries, get-from_entries, get-from_sorted}
use Rattle.std.specs.FinMap.Entries.{below_all}
use Rattle.std.proofs.lemmas.Bool.{true≢false, and_parts, and_from, or_cases, or_from, or_left}
use Rattle.site_vector.specs.declared.ids.Dot.{Dot}
use Rattle.crdt_core.specs.declared.kind.Kind.{Kind}
use Rattle.crdt_core.specs.declared.kind.Kind.TheVariants.{RegisterLww, MapGo, MapRr}
use Rattle.crdt_core.specs.declared.object.Field.{Field}
use Rattle.crdt_core.specs.declared.operation.Act.{Act}
use Rattle.crdt_core.specs.declared.operation.Act.TheVariants as act
use Rattle.crdt_core.specs.declared.value.Value.{Value}
use Rattle.crdt_core.specs.declared.value.Value.TheVariants.{Fields}
use Rattle.crdt_core.specs.Kinds.{same_field, same_kind, reads_state}
use Rattle.crdt_core.specs.Fits.{nests_in, allows, is_map}
use Rattle.crdt_core.specs.Same.{Same}
use Rattle.crdt_core.specs.Seen.{Update}
use Rattle.crdt_core.specs.History.{IsHistory, folded, effects, state_after}
use Rattle.crdt_core.specs.Law.{CanBeNamed, KeepsLaw, made_by, all_fit}
use Rattle.crdt_core.specs.InMaps.{KeepsInMaps}
use Rattle.crdt_core.proofs.Blank.{no_entries, empty_none, never_reset}
use Rattle.crdt_core.proofs.Confluence.{any_same, confluence}
use Rattle.crdt_core.specs.KindCodes.{same_kind_is}
use Rattle.crdt_core.specs.FieldOrder.{field_cmp, field_cmp_total, field_ties, same_field_is}
use Rattle.crdt_meanings.specs.Maps.{FieldMap, at, map_has, step_each, map_step, is_undone, resets_of, map_made, map_stamp, map_too_deep, map_names, map_holds, members, shown, map_value, map_blank}
use Rattle.crdt_meanings.specs.MapMeaning.{with_some, entered, of_field, at_field, updated, meanings, map_meaning}
use Rattle.crdt_meanings.proofs.Picked.{picked_same}
use Rattle.crdt_core.specs.MapLists.{distinct_entries}
use Rattle.crdt_core.proofs.Members.{one_of}
use Rattle.crdt_meanings.proofs.FieldSteps.{found, found_entry, same_fields}
use Rattle.crdt_meanings.proofs.FieldHistory.{reset_nests, history_of_field, fits_of_field}
use Rattle.crdt_meanings.proofs.FieldFold.{outer, field_folded}
use Rattle.crdt_meanings.proofs.Presence.{among, may_nest, present_updated}
use Rattle.crdt_meanings.proofs.FieldStamps.{MapStamped, stamped_of_field, map_stamps}
use Rattle.crdt_meanings.proofs.MapSteps.{map_steps}

all_kept : {A : Type 0} (xs : List A) → filter (λ _. true) xs ≡ xs
all_kept [] = refl
all_kept (x ∷ xs) = ap (λ ys. x ∷ ys) (all_kept xs)

-- look-ups in lists of fields
found_mapped : {S V : Type 0} (g : S → V) (q : Field) (es : List (Field × S)) → found q (map (λ e. (e.0, g e.1)) es) ≡ option_map g (found q es)
found_mapped g q [] = refl
found_mapped g q (e ∷ es) = elim (eq_by_cmp field_cmp q e.0) as (λ b. cond b (Some (g e.1)) (found q (map (λ e. (e.0, g e.1)) es)) ≡ option_map g (cond b (Some e.1) (found q es))) [ true ↦ refl | false ↦ found_mapped g q es ]

found_named : {V : Type 0} (h : Field → V) (q : Field) (fs : List Field) → found q (map (λ f. (f, h f)) fs) ≡ cond (among q fs) (Some (h q)) None
found_named h q [] = refl
found_named h q (f ∷ fs) =
    ap (λ b. cond b (Some (h f)) (found q (map (λ f. (f, h f)) fs))) (sym (field_ties q f))
    ∙ elim (same_field q f) as (λ b. same_field q f ≡ b → cond b (Some (h f)) (found q (map (λ f. (f, h f)) fs)) ≡ cond (b || among q fs) (Some (h q)) None) [
      | true ↦ λ t. ap (λ l. Some (h l)) (sym (same_field_is q f t))
      | false ↦ λ t. found_named h q fs
    ] refl

-- a list of fields stays sorted where their values change
below_mapped : {S V : Type 0} (g : S → V) (k : Field) (es : List (Field × S)) → below_all field_cmp k (map (λ e. (e.0, g e.1)) es) ≡ below_all field_cmp k es
below_mapped g k [] = refl
below_mapped g k (e ∷ es) = ap (λ b. is_lt (field_cmp k e.0) && b) (below_mapped g k es)

sorted_mapped : {S V : Type 0} (g : S → V) (es : List (Field × S)) → is_sorted field_cmp (map (λ e. (e.0, g e.1)) es) ≡ is_sorted field_cmp es
sorted_mapped g [] = refl
sorted_mapped g (e ∷ es) = λ i. below_mapped g e.0 es i && sorted_mapped g es i

mapped_sorted : {S V : Type 0} (g : S → V) (m : FieldMap S) → T (is_sorted field_cmp (map (λ e. (e.0, g e.1)) (entries m)))
mapped_sorted g m = subst T (sym (sorted_mapped g (entries m))) (entries_sorted m)

-- the members of a map are what its fields answer
members_are : {S : Type 0} (value_of : S → Value) (m : FieldMap S) (fs : List Field) (h : Field → Value) → ((q : Field) → option_map value_of (get m q) ≡ cond (among q fs) (Some (h q)) None)
    → members value_of m ≡ entries (from_entries {R = field_cmp} (map (λ f. (f, h f)) fs))
members_are value_of m fs h same =
    let sorted = mapped_sorted value_of m in
    sym (entries-from_sorted field_cmp (members value_of m) sorted)
    ∙ ap entries (same_fields (from_sorted (members value_of m)) (from_entries {R = field_cmp} (map (λ f. (f, h f)) fs)) (λ q.
    get-from_sorted field_cmp (members value_of m) q sorted ∙ found_mapped value_of q (entries m) ∙ ap (option_map value_of) (sym (get-entries m q)) ∙ same q
    ∙ sym (get-from_entries field_cmp_total (map (λ f. (f, h f)) fs) q ∙ found_named h q fs)))

-- what a look-up gives, by whether it finds something
option_is : {S : Type 0} (o : Option S) (b : Bool) (d : S) → is_some o ≡ b → o ≡ cond b (Some (unwrap_or o d)) None
option_is None true d h = absurd (true≢false (sym h))
option_is None false d h = refl
option_is (Some y) true d h = refl
option_is (Some y) false d h = absurd (true≢false h)

mapped_cond : {S V : Type 0} (g : S → V) (b : Bool) (x : S) (y : V) → (b ≡ true → g x ≡ y) → option_map g (cond b (Some x) None) ≡ cond b (Some y) None
mapped_cond g true x y h = ap Some (h refl)
mapped_cond g false x y h = refl

cond_when : {V : Type 0} (b : Bool) (x y : V) → (b ≡ true → x ≡ y) → cond b (Some x) None ≡ cond b (Some y) None
cond_when true x y h = ap Some (h refl)
cond_when false x y h = refl

one_known : (has : Kind → Bool) (q : Field) (p : List Field) (fs : List Field) → (among q fs ≡ true → has q.kind ≡ true) → among q (with_some (entered has p) fs) ≡ true → has q.kind ≡ true
one_known has q [] fs rest h = rest h
one_known has q (f ∷ p) fs rest h = elim (has f.kind) as (λ b. has f.kind ≡ b → among q (with_some (cond b (Some f) None) fs) ≡ true → has q.kind ≡ true) [
  | true ↦ λ t k. ⊎_elim (λ here. ap (λ l. has l.kind) (same_field_is q f here) ∙ t) rest (or_cases (same_field q f) (among q fs) k)
  | false ↦ λ t k. rest k
] refl h

-- what holds of both kinds of map
of_both : {A : Type 0} (g : Kind → A) (x : A) (drops : Bool) (k : Kind) → map_has drops k ≡ true → g MapGo ≡ x → g MapRr ≡ x → g k ≡ x
of_both g x false k is go rr = ap g (same_kind_is k MapGo is) ∙ go
of_both g x true k is go rr = ap g (same_kind_is k MapRr is) ∙ rr

blank_stays : (a b c : Bool) → c ≡ true → (a && (b && not c)) ≡ false
blank_stays true true c h = ap not h
blank_stays true false c h = refl
blank_stays false b c h = refl

module _ {S E : Type 0} {has : Kind → Bool} {too_deep : Kind → List Field → Bool} {initial : Kind → S} {step : S → Dot → E → S} {made : Kind → S → List Field → Act → ℕ → E} {value_of : S → Value} {stamp_of : E → Option ℕ} {meaning : Kind → List Update → Value} {names : E → Dot → Bool} {holds : S → Dot → Bool} {is_blank : S → Bool} (inner : KeepsLaw has too_deep initial step made value_of stamp_of meaning names holds) (owed : KeepsInMaps has too_deep initial step made is_blank) where
  abbrev map_after : Kind → List Update → FieldMap S
  map_after k us = state_after empty (map_step has initial step) (made_by (map_made has initial made is_blank) k) us

  abbrev IsNamed : Kind → FieldMap S → Dot → Type 0
  IsNamed k m d = CanBeNamed (map_too_deep has too_deep) (map_made has initial made is_blank) (map_names has names) k m d

  module _ (k : Kind) (own : (f : Field) → nests_in k f.kind ≡ true → reset_nests k f) where
    -- what stands at an updated field is its kind's state after the field's own updates
    pub state_at : (us : List Update) → all_fit (map_too_deep has too_deep) k us ≡ true → (q : Field) → among q (updated has us) ≡ true → at initial (outer owed k (λ d. true) us) q ≡ state_after (initial q.kind) step (made_by made q.kind) (of_field q us)
    state_at us fit q up =
        let two = may_nest has too_deep k q us fit up in
        field_folded owed q two.0 k (own q two.1) us fit (λ d. true) ∙ ap (folded (initial q.kind) step) (all_kept (effects (initial q.kind) step (made_by made q.kind) (of_field q us)))

    -- it has the value that these updates mean
    value_at : (us : List Update) → IsHistory us → all_fit (map_too_deep has too_deep) k us ≡ true → MapStamped inner owed k us → (q : Field) → among q (updated has us) ≡ true → value_of (at initial (outer owed k (λ d. true) us) q) ≡ meaning q.kind (of_field q us)
    value_at us h fit st q up =
        let two = may_nest has too_deep k q us fit up in
        let mine = own q two.1 in
        let vs = of_field q us in
        ap value_of (state_at us fit q up)
        ∙ inner.means q.kind vs two.0 (history_of_field q us h) (fits_of_field has too_deep owed.shallow k q mine us fit) (stamped_of_field inner owed k q two.0 mine us h fit st)

    pub all_outer : (us : List Update) → outer owed k (λ d. true) us ≡ map_after k us
    all_outer us = ap (folded empty (map_step has initial step)) (all_kept (effects empty (map_step has initial step) (made_by (map_made has initial made is_blank) k) us))

    members_mean : (us : List Update) → IsHistory us → all_fit (map_too_deep has too_deep) k us ≡ true → MapStamped inner owed k us → members value_of (map_after k us) ≡ meanings has meaning us
    members_mean us h fit st =
        let m = outer owed k (λ d. true) us in
        ap (members value_of) (sym (all_outer us))
        ∙ members_are value_of m (updated has us) (λ f. meaning f.kind (of_field f us)) (λ q.
        ap (option_map value_of) (option_is (get m q) (among q (updated has us)) (initial q.kind) (present_updated owed k q us))
        ∙ mapped_cond value_of (among q (updated has us)) (at initial m q) (meaning q.kind (of_field q us)) (value_at us h fit st q))

    -- what an operation of a field can name, an operation of the map can
    named_at : (m : FieldMap S) (f : Field) (d : Dot) → has f.kind ≡ true → nests_in k f.kind ≡ true → (s : S) → at initial m f ≡ s → CanBeNamed too_deep made names f.kind s d → IsNamed k m d
    named_at m f d known nests s is n =
        (f ∷ n.0, n.1, and_from _ _ nests n.2, or_from _ _ (ap not known) n.3, λ t. or_left _ false (and_from _ _ known (ap (λ s. names (made f.kind s n.0 n.1 t) d) is ∙ n.4 t)))

    -- what a map holds, a field holds
    named_outer : (us : List Update) → all_fit (map_too_deep has too_deep) k us ≡ true → (d : Dot) → map_holds holds (outer owed k (λ d. true) us) d ≡ true → IsNamed k (outer owed k (λ d. true) us) d
    named_outer us fit d h =
        let m = outer owed k (λ d. true) us in
        let w = one_of (λ e. holds e.1 d) (entries m) h in
        let f = w.0.0 in
        let there : get m f ≡ Some w.0.1 = get-entries m f ∙ found_entry (entries m) (distinct_entries m) w.0 w.1 in
        let up : among f (updated has us) ≡ true = sym (present_updated owed k f us) ∙ ap is_some there in
        let two = may_nest has too_deep k f us fit up in
        let is = state_at us fit f up in
        let held = ap (λ s. holds s d) (sym is ∙ ap (λ o. unwrap_or o (initial f.kind)) there) ∙ w.2 in
        named_at m f d two.0 two.1 _ is (inner.nameable f.kind (of_field f us) d two.0 (fits_of_field has too_deep owed.shallow k f (own f two.1) us fit) held)

    named_after : (us : List Update) → all_fit (map_too_deep has too_deep) k us ≡ true → (d : Dot) → map_holds holds (map_after k us) d ≡ true → IsNamed k (map_after k us) d
    named_after us fit d = subst (λ m. map_holds holds m d ≡ true → IsNamed k m d) (all_outer us) (named_outer us fit d)

  known_among : (q : Field) (us : List Update) → among q (updated has us) ≡ true → has q.kind ≡ true
  known_among q [] h = absurd (true≢false (sym h))
  known_among q (u ∷ us) h = one_known has q u.path (updated has us) (known_among q us) h

  meanings_same : (us vs : List Update) → Same us vs → meanings has meaning us ≡ meanings has meaning vs
  meanings_same us vs s =
      let at_us : Field → Value = λ f. meaning f.kind (of_field f us) in
      let at_vs : Field → Value = λ f. meaning f.kind (of_field f vs) in
      ap entries (same_fields _ _ (λ q.
      get-from_entries field_cmp_total (map (λ f. (f, at_us f)) (updated has us)) q ∙ found_named at_us q (updated has us)
      ∙ cond_when (among q (updated has us)) (at_us q) (at_vs q) (λ up. inner.orderless q.kind (of_field q us) (of_field q vs) (known_among q us up) (picked_same (at_field q) us vs s))
      ∙ ap (λ b. cond b (Some (at_vs q)) None) (any_same (same_field q) (updated has us) (updated has vs) (picked_same (λ u. entered has u.path) us vs s))
      ∙ sym (get-from_entries field_cmp_total (map (λ f. (f, at_vs f)) (updated has vs)) q ∙ found_named at_vs q (updated has vs))))

  pub own : (drops : Bool) (k : Kind) → map_has drops k ≡ true → (f : Field) → nests_in k f.kind ≡ true → reset_nests k f
  own false k is f nests a h = absurd (true≢false (sym h ∙ ap (λ l. allows l a) (same_kind_is k MapGo is)))
  own true k is f nests a h = sym (ap (λ l. nests_in l f.kind) (same_kind_is k MapRr is)) ∙ nests

  shown_means : (drops : Bool) (k : Kind) (us : List Update) → Fields (shown drops (meanings has meaning us)) ≡ map_meaning drops has meaning k us
  shown_means false k us = ap Fields (all_kept (meanings has meaning us))
  shown_means true k us = refl

  pub map_law : (drops : Bool) → KeepsLaw (map_has drops) (map_too_deep has too_deep) (λ k. empty) (map_step has initial step) (map_made has initial made is_blank) (map_value drops value_of) (map_stamp stamp_of) (map_meaning drops has meaning) (map_names has names) (map_holds holds)
  map_law drops = record {
    means = λ k us is h fit st. ap (λ ms. Fields (shown drops ms)) (members_mean k (own drops k is) us h fit st) ∙ shown_means drops k us;
    stamps = λ k u us is h fit st. map_stamps inner owed k (own drops k is) (of_both (λ l. same_kind l RegisterLww) false drops k is refl refl) u us h fit st;
    confluent = λ k us vs is. confluence empty (map_step has initial step) (map_made has initial made is_blank) k (map_names has names) (map_holds holds) (map_steps inner is_blank k) us vs;
    orderless = λ k us vs is s. sym (shown_means drops k us) ∙ ap (λ ms. Fields (shown drops ms)) (meanings_same us vs s) ∙ shown_means drops k vs;
    unread = λ k s t p a n is r. absurd (true≢false (sym (of_both reads_state true drops k is refl refl) ∙ r));
    steps = λ k is. map_steps inner is_blank k;
    nameable = λ k us d is fit h. named_after k (own drops k is) us fit d h;
  }

  pub undoes_nothing : (n : ℕ) (es : List (Field × S)) → list_all (λ e. is_blank e.1) es ≡ true → resets_of has made is_blank n es ≡ []
  undoes_nothing n [] h = refl
  undoes_nothing n (e ∷ es) h =
      let two = and_parts (is_blank e.1) _ h in
      let reset : Field × S → Field × E = λ e. (e.0, made e.0.kind e.1 [] act.Reset n) in
      ap (λ b. map reset (cond b (e ∷ filter (is_undone has is_blank) es) (filter (is_undone has is_blank) es))) (blank_stays (has e.0.kind) (nests_in MapRr e.0.kind) (is_blank e.1) two.0)
      ∙ undoes_nothing n es two.1

  -- a map with no field is blank
  pub none_blank : (drops : Bool) (m : FieldMap S) → map_blank false is_blank m ≡ true → map_blank drops is_blank m ≡ true
  none_blank false m h = h
  none_blank true m h = ap (λ es. list_all (λ e. is_blank e.1) es) (no_entries m h)

  -- a reset made on a blank map undoes nothing
  blank_undone : (drops : Bool) (k : Kind) (s t : FieldMap S) (d : Dot) (n : ℕ) → map_has drops k ≡ true → nests_in MapRr k ≡ true → map_blank drops is_blank s ≡ true → map_step has initial step t d (map_made has initial made is_blank k s [] act.Reset n) ≡ t
  blank_undone false k s t d n is resets blank = absurd (true≢false (never_reset k MapGo is refl resets))
  blank_undone true k s t d n is resets blank = ap (step_each has initial step t d) (undoes_nothing n (entries s) blank)

  pub map_in_maps : (drops : Bool) → KeepsInMaps (map_has drops) (map_too_deep has too_deep) (λ k. empty) (map_step has initial step) (map_made has initial made is_blank) (map_blank drops is_blank)
  map_in_maps drops = record {
    first_blank = λ k is. none_blank drops empty (empty_none field_cmp S);
    undoes_none = blank_undone drops;
    shallow = λ k. refl;
    flat = λ k p is out. absurd (true≢false (sym (of_both is_map true drops k is refl refl) ∙ out));
  }
