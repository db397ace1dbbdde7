-- The bytes of maps' effects: a field with an effect of its kind, or what a reset undoes of each field.
use Rattle.std.specs.Prelude.{◌≡◌, ℕ, zero, suc, cond, ◌+◌, ◌^◌, ◌<◌, ◌≤◌, ◌==◌, Bool, true, false, ◌&&◌, ◌||◌, eqb, nat_le, nat_lt, List, [], ◌∷◌, ◌++◌, ◌≢◌, length, take, drop, None, Ok, Err, if◌then◌else◌, refl}
use Rattle.std.proofs.Common.{arith, ap, sym, subst, ◌∙◌, ⊎_elim, append_assoc, length-append}
use Rattle.std.proofs.lemmas.List.{drop_at}
use Rattle.std.proofs.lemmas.Bool.{true≢false, false≢true, eqb-true, eq-eqb}
use Rattle.std.proofs.lemmas.Bool.Decides.{nat_tests}
use Rattle.std.specs.List.{flat_map, list_any, list_all}
use Rattle.field_codec.specs.declared.error.TakeError.TheVariants.{Short, Bad, NoMemory}
use Rattle.field_codec.specs.Spelling.{number, is_number, text, is_text, list, are_in_order, are_members, is_list, is_below, Spans}
use Rattle.field_codec.specs.Reading.{Read, ◌>>=◌, number_at, text_at, list_at, checked_at, then_at, mapped_at}
use Rattle.field_codec.specs.Lawful.{IsBytes, TellsWhy, IsForm}
use Rattle.field_codec.specs.Steps.{by_length, bind_err, lt_from, IsBytes-append}
use Rattle.field_codec.specs.Refusals.{steady_form, enough_from, tested_short, ends_at}
use Rattle.field_codec.specs.FormLaws.{any_text_form, number_form, number_short, length-number, width1, list_form, checked_form, then_form, mapped_form, lt_holds, le_from, both_true, and_true, bind_ok, spans_first}
use Rattle.field_codec.specs.Tagged.{tagged_at, tagged_form, shape_form}
use Rattle.site_vector.specs.declared.ids.Dot.{Dot}
use Rattle.crdt_core.specs.declared.kind.Kind.{Kind}
use Rattle.crdt_core.specs.declared.kind.Kind.TheVariants as kinds
use Rattle.crdt_core.specs.declared.object.Field.{Field}
use Rattle.crdt_core.specs.Fits.{nests_in}
use Rattle.crdt_core.specs.FieldOrder.{field_cmp}
use Rattle.crdt_core.specs.Spelled.{is_between, kind, kind_at}
use Rattle.crdt_core.specs.SpelledLaws.{kind_form}
use Rattle.crdt_core.specs.EffectForm.{SpellsEffects, reset_tag, begins_with}
use Rattle.crdt_core.specs.NamedDots.{LiesIn, have_update, NamesAreSpelled}
use Rattle.crdt_core.proofs.SetsLaws.{or_none, update_of_list}
use Rattle.crdt_core.proofs.NamedDotsLaws.{lies_behind, list_lies}
use Rattle.crdt_meanings.specs.Maps.{map_kind, map_names}
use Rattle.crdt_meanings.specs.declared.maps.MapEffect.{MapEffect}
use Rattle.crdt_meanings.specs.declared.maps.MapEffect.TheVariants.{At, Resets}

-- ---- a field: its name, and the code of a kind that may stand in the map and that the inner type has

abbrev pub may_nest : Kind → (Kind → Bool) → Kind → Bool
may_nest outer has k = nests_in outer k && has k

abbrev pub field : Field → List ℕ
field f = text f.name ++ kind f.kind

abbrev pub is_field : (Kind → Bool) → Field → Bool
is_field allowed f = is_text f.name && allowed f.kind

abbrev pub field_of : List ℕ × Kind → Field
field_of p = record { name = p.0; kind = p.1 }

unfoldable pub field_at : (Kind → Bool) → List ℕ → ℕ → Read Field
field_at allowed = mapped_at field_of (then_at text_at (λ _. checked_at allowed kind_at))

coded_form : (allowed : Kind → Bool) → IsForm allowed (λ _. true) allowed kind (checked_at allowed kind_at)
coded_form allowed = let law = checked_form allowed (λ _. true) (λ _. true) kind kind_at kind_form in record {
  found = λ bytes at k end ok within h. let f = law.found bytes at k end ok within h in ((both_true (allowed k) true f.0).0, f.1);
  again = λ bytes at k end good spans. law.again bytes at k end (and_true (allowed k) true good refl) spans;
  fit = λ k good. good;
  all = λ k can kept short. can;
  ends = law.ends;
  tells = law.tells;
}

pub field_form : (allowed : Kind → Bool) → IsForm (λ f. allowed f.kind) (λ f. is_text f.name) (is_field allowed) field (field_at allowed)
unfolding field_at
field_form allowed =
    let whole = then_form (λ t. true) is_text text text_at (λ _. allowed) (λ _. allowed) (λ _. kind) (λ _. checked_at allowed kind_at) any_text_form (λ _ _. coded_form allowed) in
    let law = mapped_form field_of (λ f. (f.name, f.kind)) _ _ _ _ (λ _. refl) (λ _ _. refl) whole in
    record { found = law.found; again = law.again; fit = law.fit; all = λ f can kept short. and_true (is_text f.name) (allowed f.kind) kept can; ends = law.ends; tells = law.tells }

-- ---- a value whose spelling begins with a tag

abbrev pub opened_at : {V : Type 0} → ℕ → (List ℕ → ℕ → Read V) → List ℕ → ℕ → Read V
opened_at tag reading bytes at = do
  first ← checked_at (λ n. n == tag) (number_at 1) bytes at
  reading bytes at

plus_none : (n : ℕ) → n + 0 ≡ n
plus_none n = omega arith

not_below : (n : ℕ) → nat_lt n n ≡ false
not_below n = grind (arith, nat_tests)

front_begins : (tag : ℕ) (s rest : List ℕ) (at end : ℕ) → end ≡ at + length s → nat_lt at end ≡ true → begins_with tag (s ++ rest) ≡ true → begins_with tag s ≡ true
front_begins tag [] rest at end e lt h = let same : end ≡ at = e ∙ plus_none at in absurd (true≢false (sym lt ∙ ap (nat_lt at) same ∙ not_below at))
front_begins tag (b ∷ s) rest at end e lt h = h

abbrev OpensWith : ℕ → List ℕ → Type 0
OpensWith tag s = (rest : List ℕ) × (s ≡ tag ∷ rest)

opens_with : (tag : ℕ) (s : List ℕ) → begins_with tag s ≡ true → OpensWith tag s
opens_with tag [] h = absurd (false≢true h)
opens_with tag (b ∷ s) h = (s, ap (λ n. n ∷ s) (eqb-true b tag h))

module _ {V : Type 0} (tag : ℕ) (one : number 1 tag ≡ tag ∷ []) (small : is_number 1 tag ≡ true) {keeps : V → Bool} (fits is_spelled : V → Bool) (spelling : V → List ℕ) (reading : List ℕ → ℕ → Read V) (form : IsForm fits keeps is_spelled spelling reading) where
  abbrev is_tag : ℕ → Bool
  is_tag n = n == tag

  tags : IsForm (λ n. is_tag n && is_number 1 n) (λ _. true) (λ n. is_tag n && is_number 1 n) (number 1) (checked_at is_tag (number_at 1))
  tags = checked_form is_tag (is_number 1) (is_number 1) (number 1) (number_at 1) (number_form 1 width1)

  begins_there : (bytes : List ℕ) (at n mid : ℕ) → is_tag n ≡ true → Spans bytes at (number 1 n) mid → begins_with tag (drop at bytes) ≡ true
  begins_there bytes at n mid same spans =
      ap (begins_with tag) (spans.lies ∙ ap (λ m. number 1 m ++ drop mid bytes) (eqb-true n tag same) ∙ ap (λ l. l ++ drop mid bytes) one) ∙ eq-eqb tag tag refl

  abbrev first_at : List ℕ → ℕ → Read ℕ
  first_at = checked_at is_tag (number_at 1)

  -- where the first byte stands, what is cut off is the value; else it is that byte
  cut_there : (bytes : List ℕ) (at p q : ℕ) (t : ℕ × ℕ) → IsBytes bytes → at ≤ length bytes → first_at bytes at ≡ Ok t → at ≤ p → p ≤ q → reading (take q bytes) at ≡ Err (Short p) → opened_at tag reading (take q bytes) at ≡ Err (Short p)
  cut_there bytes at p q t ok le first behind below h =
      let one_byte : t.1 ≡ at + 1 = omega (arith, (tags.found bytes at t.0 t.1 ok le first).1.long, length-number 1 t.0) in
      by_length t.1 q
      (λ far. ap (λ r. r >>= λ x. reading (take q bytes) at) ((steady_form tags).shorter bytes at q t ok le far first) ∙ h)
      (λ near.
      let place : q ≡ at = omega (arith, near, one_byte, behind, below) in
      let there : p ≡ at = omega (arith, near, one_byte, behind, below) in
      subst (λ n. opened_at tag reading (take q bytes) at ≡ Err (Short n)) (sym there)
      (subst (λ n. opened_at tag reading (take n bytes) at ≡ Err (Short at)) (sym place) (ap (λ r. r >>= λ x. reading (take at bytes) at) (ends_at first_at tags.ends bytes at le))))

  tag_bytes : IsBytes (tag ∷ [])
  tag_bytes zero = lt_from tag (256 ^ 1) small
  tag_bytes (suc i) = omega arith

  head_is : (a b : ℕ) (xs ys : List ℕ) → a ∷ xs ≡ b ∷ ys → a ≡ b
  head_is a b xs ys h = cc

  -- where the first byte is missing: it may come, and then enough of the value
  enough_opened : (bytes : List ℕ) (at : ℕ) → IsBytes bytes → at ≡ length bytes → (k : ℕ) × ((more : List ℕ) → IsBytes more → k ≤ length more → opened_at tag reading (bytes ++ more) at ≢ Err (Short at))
  enough_opened bytes at ok here = (suc e.0, after_first)
    where
      e : (k : ℕ) × ((more : List ℕ) → IsBytes more → k ≤ length more → reading ((bytes ++ tag ∷ []) ++ more) at ≢ Err (Short at))
      e = enough_from (steady_form form) form.tells (bytes ++ tag ∷ []) at at (IsBytes-append bytes (tag ∷ []) ok tag_bytes) (omega (arith, here, length-append bytes (tag ∷ []))) (omega (arith, here, length-append bytes (tag ∷ [])))

      after_first : (more : List ℕ) → IsBytes more → suc e.0 ≤ length more → opened_at tag reading (bytes ++ more) at ≢ Err (Short at)
      after_first [] fits most h = omega (arith, most)
      after_first (b ∷ more) fits most h =
          let all = IsBytes-append bytes (b ∷ more) ok fits in
          let long : at ≤ length (bytes ++ b ∷ more) = omega (arith, here, length-append bytes (b ∷ more)) in
          ⊎_elim
          (λ is. let short = (number_short 1 width1 (bytes ++ b ∷ more) at at (tested_short is_tag (number_at 1) (bytes ++ b ∷ more) at at is)).1 in omega (arith, short, here, length-append bytes (b ∷ more)))
          (λ a.
          let t = tags.found (bytes ++ b ∷ more) at a.0.0 a.0.1 all long a.1 in
          let is_it = eqb-true a.0.0 tag (both_true (is_tag a.0.0) (is_number 1 a.0.0) t.0).0 in
          let begins : b ∷ more ≡ tag ∷ drop a.0.1 (bytes ++ b ∷ more) = sym (drop_at bytes (b ∷ more) at (sym here)) ∙ t.1.lies ∙ ap (λ n. number 1 n ++ drop a.0.1 (bytes ++ b ∷ more)) is_it ∙ ap (λ l. l ++ drop a.0.1 (bytes ++ b ∷ more)) one in
          let same : bytes ++ b ∷ more ≡ (bytes ++ tag ∷ []) ++ more = ap (λ n. bytes ++ n ∷ more) (head_is b tag more (drop a.0.1 (bytes ++ b ∷ more)) begins) ∙ sym (append_assoc bytes (tag ∷ []) more) in
          e.1 more (λ i. fits (suc i)) (omega (arith, most)) (sym (ap (λ l. reading l at) same) ∙ a.2))
          (bind_err (first_at (bytes ++ b ∷ more) at) (λ x. reading (bytes ++ b ∷ more) at) (Short at) h)

  opened_tells : TellsWhy (opened_at tag reading)
  opened_tells = record {
    short = λ bytes at p ok le h.
        ⊎_elim
        (λ is.
        let g = number_short 1 width1 bytes at p (tested_short is_tag (number_at 1) bytes at p is) in
        let s = tags.tells.short bytes at p ok le is in
        record {
          behind = s.behind;
          within = s.within;
          cut = λ q below. ap (λ r. r >>= λ x. reading (take q bytes) at) (s.cut q below);
          enough = subst (λ n. (k : ℕ) × ((more : List ℕ) → IsBytes more → k ≤ length more → opened_at tag reading (bytes ++ more) at ≢ Err (Short n))) g.0 (enough_opened bytes at ok (omega (arith, g.1, le)));
        })
        (λ a.
        let s = form.tells.short bytes at p ok le a.2 in
        record {
          behind = s.behind;
          within = s.within;
          cut = λ q below. cut_there bytes at p q a.0 ok le a.1 s.behind below (s.cut q below);
          enough = (
            s.enough.0,
            λ more fits most is. s.enough.1 more fits most (sym (ap (λ r. r >>= λ x. reading (bytes ++ more) at) ((steady_form tags).longer bytes more at a.0 ok le a.1)) ∙ is),
          );
        })
        (bind_err (first_at bytes at) (λ x. reading bytes at) (Short p) h);
    bad = λ bytes at p ok le h.
        ⊎_elim
        (λ is.
        let s = tags.tells.bad bytes at p ok le is in
        record { behind = s.behind; within = s.within; cut = ap (λ r. r >>= λ x. reading (take p bytes) at) s.cut; stays = λ more. ap (λ r. r >>= λ x. reading (bytes ++ more) at) (s.stays more) })
        (λ a.
        let s = form.tells.bad bytes at p ok le a.2 in
        record {
          behind = s.behind;
          within = s.within;
          cut = cut_there bytes at p p a.0 ok le a.1 s.behind (omega arith) s.cut;
          stays = λ more. ap (λ r. r >>= λ x. reading (bytes ++ more) at) ((steady_form tags).longer bytes more at a.0 ok le a.1) ∙ s.stays more;
        })
        (bind_err (first_at bytes at) (λ x. reading bytes at) (Bad p) h);
    memory = λ bytes at ok le h.
        ⊎_elim (tags.tells.memory bytes at ok le) (λ a. form.tells.memory bytes at ok le a.2) (bind_err (first_at bytes at) (λ x. reading bytes at) NoMemory h);
  }

  pub opened_form : IsForm (λ v. begins_with tag (spelling v) && fits v) keeps (λ v. begins_with tag (spelling v) && is_spelled v) spelling (opened_at tag reading)
  opened_form = record {
    found = λ bytes at v end ok within h.
        let a = bind_ok (first_at bytes at) (λ t. reading bytes at) (v, end) h in
        let t = tags.found bytes at a.0.0 a.0.1 ok within a.1 in
        let f = form.found bytes at v end ok within a.2 in
        let there = begins_there bytes at a.0.0 a.0.1 (both_true (is_tag a.0.0) (is_number 1 a.0.0) t.0).0 t.1 in
        let some = lt_holds at end ((steady_form form).after bytes at (v, end) ok within a.2) in
        let begins = front_begins tag (spelling v) (drop end bytes) at end f.1.long some (sym (ap (begins_with tag) f.1.lies) ∙ there) in
        (and_true (begins_with tag (spelling v)) (is_spelled v) begins f.0, f.1);
    again = λ bytes at v end good spans.
        let p = both_true (begins_with tag (spelling v)) (is_spelled v) good in
        let o = opens_with tag (spelling v) p.0 in
        let whole : Spans bytes at (number 1 tag ++ o.0) end = subst (λ l. Spans bytes at l end) (o.1 ∙ sym (ap (λ l. l ++ o.0) one)) spans in
        let mid = at + length (number 1 tag) in
        let first = tags.again bytes at tag mid (and_true (is_tag tag) (is_number 1 tag) (eq-eqb tag tag refl) small) (spans_first bytes (number 1 tag) o.0 at end whole) in
        ap (λ r. r >>= λ t. reading bytes at) first ∙ form.again bytes at v end p.1 spans;
    fit = λ v good.
        let p = both_true (begins_with tag (spelling v)) (is_spelled v) good in
        and_true (begins_with tag (spelling v)) (fits v) p.0 (form.fit v p.1);
    all = λ v can kept short.
        let p = both_true (begins_with tag (spelling v)) (fits v) can in
        and_true (begins_with tag (spelling v)) (is_spelled v) p.0 (form.all v p.1 kept short);
    ends = λ bytes at far. ap (λ r. r >>= λ x. reading bytes at) (tags.ends bytes at far);
    tells = opened_tells;
  }

-- the first byte of a reset
tag_byte : (k : Kind) → number 1 (reset_tag k) ≡ reset_tag k ∷ []
tag_byte kinds.CounterFat = refl
tag_byte kinds.MapRr = refl
tag_byte _ = refl

tag_small : (k : Kind) → is_number 1 (reset_tag k) ≡ true
tag_small kinds.CounterFat = refl
tag_small kinds.MapRr = refl
tag_small _ = refl

-- ---- a field with an effect of its kind, and what a reset undoes of a field

abbrev pub can_put_entry : {E : Type 0} → (Kind → Bool) → (Kind → E → Bool) → (E → Bool) → Field × E → Bool
can_put_entry allowed is_of can_put x = allowed x.0.kind && (is_of x.0.kind x.1 && can_put x.1)

abbrev pub keeps_entry : {E : Type 0} → (E → Bool) → Field × E → Bool
keeps_entry keeps x = is_text x.0.name && keeps x.1

abbrev pub is_entry_spelled : {E : Type 0} → (Kind → Bool) → (Kind → E → Bool) → (E → Bool) → Field × E → Bool
is_entry_spelled allowed is_of is_spelled x = is_field allowed x.0 && (is_of x.0.kind x.1 && is_spelled x.1)

abbrev pub entry : {E : Type 0} → (E → List ℕ) → Field × E → List ℕ
entry spelling x = field x.0 ++ spelling x.1

unfoldable pub entry_at : {E : Type 0} → (Kind → Bool) → (Kind → List ℕ → ℕ → Read E) → List ℕ → ℕ → Read (Field × E)
entry_at allowed reading = then_at (field_at allowed) (λ f. reading f.kind)

-- a reset begins as those of its kind do
abbrev pub can_put_reset : {E : Type 0} → (Kind → Bool) → (Kind → E → Bool) → (E → Bool) → (E → List ℕ) → Field × E → Bool
can_put_reset allowed is_of can_put spelling x = allowed x.0.kind && (begins_with (reset_tag x.0.kind) (spelling x.1) && (is_of x.0.kind x.1 && can_put x.1))

abbrev pub is_reset_spelled : {E : Type 0} → (Kind → Bool) → (Kind → E → Bool) → (E → Bool) → (E → List ℕ) → Field × E → Bool
is_reset_spelled allowed is_of is_spelled spelling x = is_field allowed x.0 && (begins_with (reset_tag x.0.kind) (spelling x.1) && (is_of x.0.kind x.1 && is_spelled x.1))

unfoldable pub reset_at : {E : Type 0} → (Kind → Bool) → (Kind → List ℕ → ℕ → Read E) → List ℕ → ℕ → Read (Field × E)
reset_at allowed reading = then_at (field_at allowed) (λ f. opened_at (reset_tag f.kind) (reading f.kind))

-- by field
abbrev pub entry_below : {E : Type 0} → Field × E → Field × E → Bool
entry_below x y = is_below field_cmp x.0 y.0

-- ---- effects of a map: a zero and an entry, or, where fields can be dropped, a one and the resets of fields, ascending

abbrev pub map_can_put : {E : Type 0} → Bool → (Kind → Bool) → (Kind → E → Bool) → (E → Bool) → (E → List ℕ) → MapEffect E → Bool
map_can_put drops has is_of can_put spelling (At f e) = can_put_entry (may_nest (map_kind drops) has) is_of can_put (f, e)
map_can_put drops has is_of can_put spelling (Resets xs) = drops && are_members entry_below (can_put_reset (may_nest kinds.MapRr has) is_of can_put spelling) xs

abbrev pub map_keeps : {E : Type 0} → (E → Bool) → MapEffect E → Bool
map_keeps keeps (At f e) = keeps_entry keeps (f, e)
map_keeps keeps (Resets xs) = list_all (keeps_entry keeps) xs

abbrev pub map_is_spelled : {E : Type 0} → Bool → (Kind → Bool) → (Kind → E → Bool) → (E → Bool) → (E → List ℕ) → MapEffect E → Bool
map_is_spelled drops has is_of is_spelled spelling (At f e) = is_entry_spelled (may_nest (map_kind drops) has) is_of is_spelled (f, e)
map_is_spelled drops has is_of is_spelled spelling (Resets xs) = drops && is_list entry_below (is_reset_spelled (may_nest kinds.MapRr has) is_of is_spelled spelling) xs

abbrev pub last_mark : Bool → ℕ
last_mark drops = cond drops 1 0

abbrev pub map_mark : {E : Type 0} → Bool → MapEffect E → ℕ
map_mark drops (At f e) = 0
map_mark drops (Resets xs) = last_mark drops

abbrev pub map_rest : {E : Type 0} → (E → List ℕ) → MapEffect E → List ℕ
map_rest spelling (At f e) = entry spelling (f, e)
map_rest spelling (Resets xs) = list (entry spelling) xs

abbrev pub map_spelling : {E : Type 0} → Bool → (E → List ℕ) → MapEffect E → List ℕ
map_spelling drops spelling e = number 1 (map_mark drops e) ++ map_rest spelling e

abbrev pub map_sets : {E : Type 0} → (E → List (List Dot)) → MapEffect E → List (List Dot)
map_sets sets (At f e) = sets e
map_sets sets (Resets xs) = flat_map (λ x. sets x.1) xs

abbrev pub at_of : {E : Type 0} → Field × E → MapEffect E
at_of x = At x.0 x.1

unfoldable pub map_rest_at : {E : Type 0} → Bool → (Kind → Bool) → (Kind → List ℕ → ℕ → Read E) → ℕ → List ℕ → ℕ → Read (MapEffect E)
map_rest_at drops has reading mark =
    if mark == 0 then mapped_at at_of (entry_at (may_nest (map_kind drops) has) reading)
    else mapped_at Resets (list_at entry_below (reset_at (may_nest kinds.MapRr has) reading))

unfoldable pub map_at : {E : Type 0} → Bool → (Kind → Bool) → (Kind → List ℕ → ℕ → Read E) → List ℕ → ℕ → Read (MapEffect E)
map_at drops has reading = tagged_at (is_between 0 (last_mark drops)) (map_rest_at drops has reading)

-- every effect is one of the kind
abbrev pub is_of_map : {E : Type 0} → Kind → MapEffect E → Bool
is_of_map k e = true

in_field : (outer : Kind) (has : Kind → Bool) (f : Field) → is_field (may_nest outer has) f ≡ true → has f.kind ≡ true
in_field outer has f h = (both_true (nests_in outer f.kind) (has f.kind) (both_true (is_text f.name) (may_nest outer has f.kind) h).1).1

small_tag : (most : ℕ) → most < 256 → (n : ℕ) → is_between 0 most n ≡ true → is_number 1 n ≡ true
small_tag most few n h = let le = le_from n most (both_true (nat_le 0 n) _ h).1 in lt_holds n (256 ^ 1) (omega (arith, le, few))

small_mark : (drops : Bool) (n : ℕ) → is_between 0 (last_mark drops) n ≡ true → is_number 1 n ≡ true
small_mark false = small_tag 0 (omega arith)
small_mark true = small_tag 1 (omega arith)

module _ {E : Type 0} {has : Kind → Bool} {is_of : Kind → E → Bool} {can_put keeps is_spelled : E → Bool} {spelling : E → List ℕ} {reading : Kind → List ℕ → ℕ → Read E} (spells : SpellsEffects has is_of can_put keeps is_spelled spelling reading) where
  pub entry_form : (outer : Kind) → IsForm (can_put_entry (may_nest outer has) is_of can_put) (keeps_entry keeps) (is_entry_spelled (may_nest outer has) is_of is_spelled) (entry spelling) (entry_at (may_nest outer has) reading)
  unfolding entry_at
  entry_form outer = let allowed = may_nest outer has in
      then_form (λ f. allowed f.kind) (is_field allowed) field (field_at allowed) (λ f e. is_of f.kind e && can_put e) (λ f e. is_of f.kind e && is_spelled e) (λ _. spelling) (λ f. reading f.kind) (field_form allowed) (λ f h. spells.form f.kind (in_field outer has f h))

  pub reset_form : (outer : Kind) → IsForm (can_put_reset (may_nest outer has) is_of can_put spelling) (keeps_entry keeps) (is_reset_spelled (may_nest outer has) is_of is_spelled spelling) (entry spelling) (reset_at (may_nest outer has) reading)
  unfolding reset_at
  reset_form outer = let allowed = may_nest outer has in
      then_form (λ f. allowed f.kind) (is_field allowed) field (field_at allowed)
      (λ f e. begins_with (reset_tag f.kind) (spelling e) && (is_of f.kind e && can_put e)) (λ f e. begins_with (reset_tag f.kind) (spelling e) && (is_of f.kind e && is_spelled e)) (λ _. spelling) (λ f. opened_at (reset_tag f.kind) (reading f.kind)) (field_form allowed)
      (λ f h. opened_form (reset_tag f.kind) (tag_byte f.kind) (tag_small f.kind) (λ e. is_of f.kind e && can_put e) (λ e. is_of f.kind e && is_spelled e) spelling (reading f.kind) (spells.form f.kind (in_field outer has f h)))

  abbrev can : Bool → MapEffect E → Bool
  can drops e = map_can_put drops has is_of can_put spelling e

  abbrev spelled : Bool → MapEffect E → Bool
  spelled drops e = map_is_spelled drops has is_of is_spelled spelling e

  at_shape : (drops : Bool) (e : MapEffect E) → (eqb (map_mark drops e) 0 && (can drops e || spelled drops e)) ≡ true → (x : Field × E) × (at_of x ≡ e)
  at_shape drops (At f e) h = ((f, e), refl)
  at_shape false (Resets xs) h = absurd (false≢true h)
  at_shape true (Resets xs) h = absurd (false≢true h)

  resets_shape : (e : MapEffect E) → (eqb (map_mark true e) 1 && (can true e || spelled true e)) ≡ true → (xs : List (Field × E)) × (Resets xs ≡ e)
  resets_shape (At f e) h = absurd (false≢true h)
  resets_shape (Resets xs) h = (xs, refl)

  rest_form : (drops : Bool) (n : ℕ) → is_between 0 (last_mark drops) n ≡ true → IsForm (λ e. eqb (map_mark drops e) n && can drops e) (map_keeps keeps) (λ e. eqb (map_mark drops e) n && spelled drops e) (map_rest spelling) (map_rest_at drops has reading n)
  unfolding map_rest_at
  rest_form drops zero h = shape_form (λ e. eqb (map_mark drops e) 0) at_of _ _ (entry spelling) _ (can drops) (spelled drops) _ (λ x. refl) (λ x. refl) (λ x. refl) (λ x. refl) (at_shape drops) (entry_form (map_kind drops))
  rest_form true (suc zero) h = shape_form (λ e. eqb (map_mark true e) 1) Resets _ _ (list (entry spelling)) _ (can true) (spelled true) _ (λ xs. refl) (λ xs. refl) (λ xs. refl) (λ xs. refl) resets_shape (list_form entry_below _ _ (entry spelling) (reset_at (may_nest kinds.MapRr has) reading) (reset_form kinds.MapRr))
  rest_form true (suc (suc n)) h = let le = le_from (suc (suc n)) 1 (both_true (nat_le 0 (suc (suc n))) _ h).1 in absurd (omega arith)
  rest_form false (suc n) h = let le = le_from (suc n) 0 (both_true (nat_le 0 (suc n)) _ h).1 in absurd (omega arith)

  mark_known : (drops : Bool) (e : MapEffect E) → is_between 0 (last_mark drops) (map_mark drops e) ≡ true
  mark_known false (At f e) = refl
  mark_known true (At f e) = refl
  mark_known false (Resets xs) = refl
  mark_known true (Resets xs) = refl

  pub map_form : (drops : Bool) → IsForm (map_can_put drops has is_of can_put spelling) (map_keeps keeps) (map_is_spelled drops has is_of is_spelled spelling) (map_spelling drops spelling) (map_at drops has reading)
  unfolding map_at
  map_form drops = tagged_form (is_between 0 (last_mark drops)) (map_mark drops) _ _ (map_rest spelling) (map_rest_at drops has reading) (mark_known drops) (small_mark drops) (rest_form drops)

  abbrev pub map_spells : (drops : Bool) (of_map : Kind → Bool) → SpellsEffects of_map is_of_map (map_can_put drops has is_of can_put spelling) (map_keeps keeps) (map_is_spelled drops has is_of is_spelled spelling) (map_spelling drops spelling) (λ k. map_at drops has reading)
  map_spells drops of_map = record { form = λ k h. map_form drops }

-- ---- an effect names exactly the updates in the sets that stand in its bytes

-- a field of a kind that the type has counts as its effect does
known_names : (has : Kind → Bool) (k : Kind) (b c : Bool) → has k ≡ true → b ≡ c → (has k && b) ≡ c
known_names has k b c known same = ap (λ h. h && b) known ∙ same

module _ {E : Type 0} (has : Kind → Bool) (is_of : Kind → E → Bool) {can_put : E → Bool} {names : E → Dot → Bool} {sets : E → List (List Dot)} {spelling : E → List ℕ} (inner : NamesAreSpelled can_put names sets spelling) where
  abbrev Exact : Field × E → Dot → Type 0
  Exact x d = (has x.0.kind && names x.1 d) ≡ have_update (sets x.1) d

  entry_exact : (outer : Kind) (x : Field × E) (d : Dot) → can_put_entry (may_nest outer has) is_of can_put x ≡ true → Exact x d
  entry_exact outer x d can =
      let a = both_true (may_nest outer has x.0.kind) (is_of x.0.kind x.1 && can_put x.1) can in
      let known = (both_true (nests_in outer x.0.kind) (has x.0.kind) a.0).1 in
      known_names has x.0.kind (names x.1 d) (have_update (sets x.1) d) known (inner.exact x.1 d (both_true (is_of x.0.kind x.1) (can_put x.1) a.1).1)

  -- a reset that can be put is an entry that can
  as_entry : (outer : Kind) (x : Field × E) → can_put_reset (may_nest outer has) is_of can_put spelling x ≡ true → can_put_entry (may_nest outer has) is_of can_put x ≡ true
  as_entry outer x can =
      let begins = begins_with (reset_tag x.0.kind) (spelling x.1) in
      let a = both_true (may_nest outer has x.0.kind) (begins && (is_of x.0.kind x.1 && can_put x.1)) can in
      and_true (may_nest outer has x.0.kind) _ a.0 (both_true begins (is_of x.0.kind x.1 && can_put x.1) a.1).1

  reset_exact : (outer : Kind) (x : Field × E) (d : Dot) → can_put_reset (may_nest outer has) is_of can_put spelling x ≡ true → Exact x d
  reset_exact outer x d can = entry_exact outer x d (as_entry outer x can)

  resets_exact : (outer : Kind) (xs : List (Field × E)) (d : Dot) → list_all (can_put_reset (may_nest outer has) is_of can_put spelling) xs ≡ true
      → list_any (λ x. has x.0.kind && names x.1 d) xs ≡ list_any (λ x. have_update (sets x.1) d) xs
  resets_exact outer [] d can = refl
  resets_exact outer (x ∷ xs) d can =
      let two = both_true (can_put_reset (may_nest outer has) is_of can_put spelling x) _ can in
      λ i. reset_exact outer x d two.0 i || resets_exact outer xs d two.1 i

  map_exact : (drops : Bool) (e : MapEffect E) (d : Dot) → map_can_put drops has is_of can_put spelling e ≡ true → map_names has names e d ≡ have_update (map_sets sets e) d
  map_exact drops (At f e) d can = or_none (has f.kind && names e d) ∙ entry_exact (map_kind drops) (f, e) d can
  map_exact drops (Resets xs) d can =
      let members = (both_true drops _ can).1 in
      let good = both_true (are_in_order entry_below None xs) (list_all (can_put_reset (may_nest kinds.MapRr has) is_of can_put spelling) xs) members in
      resets_exact kinds.MapRr xs d good.1 ∙ sym (update_of_list (λ x. sets x.1) xs d)

  -- and each of these updates stands there
  entry_lies : (outer : Kind) (x : Field × E) (d : Dot) → can_put_entry (may_nest outer has) is_of can_put x ≡ true → (has x.0.kind && names x.1 d) ≡ true → LiesIn d (entry spelling x)
  entry_lies outer x d can h =
      let a = both_true (may_nest outer has x.0.kind) (is_of x.0.kind x.1 && can_put x.1) can in
      lies_behind (field x.0) (inner.lies x.1 d (both_true (is_of x.0.kind x.1) (can_put x.1) a.1).1 (both_true (has x.0.kind) (names x.1 d) h).1)

  map_lies : (drops : Bool) (e : MapEffect E) (d : Dot) → map_can_put drops has is_of can_put spelling e ≡ true → map_names has names e d ≡ true → LiesIn d (map_spelling drops spelling e)
  map_lies drops (At f e) d can h = lies_behind (number 1 0) (entry_lies (map_kind drops) (f, e) d can (sym (or_none (has f.kind && names e d)) ∙ h))
  map_lies drops (Resets xs) d can h =
      let fits = can_put_reset (may_nest kinds.MapRr has) is_of can_put spelling in
      let good = both_true (are_in_order entry_below None xs) (list_all fits xs) (both_true drops _ can).1 in
      lies_behind (number 1 (last_mark drops)) (list_lies (entry spelling) fits (λ x c. has x.0.kind && names x.1 c) (λ x c fit named. entry_lies kinds.MapRr x c (as_entry kinds.MapRr x fit) named) xs d good.1 h)

  pub map_named : (drops : Bool) → NamesAreSpelled (map_can_put drops has is_of can_put spelling) (map_names has names) (map_sets sets) (map_spelling drops spelling)
  map_named drops = record { exact = map_exact drops; lies = map_lies drops }
