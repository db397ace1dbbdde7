-- The bytes of sets' effects: elements in ascending order, and where they can be removed, what is done and the dots of each.
use Rattle.std.specs.Prelude.{◌≡◌, ℕ, zero, suc, ◌^◌, ◌==◌, Bool, true, false, ◌&&◌, eqb, nat_le, List, [], ◌∷◌, ◌++◌, if◌then◌else◌, ◌||◌, None, refl}
use Rattle.std.proofs.Common.{ap, arith}
use Rattle.std.specs.List.{flat_map, list_all}
use Rattle.std.proofs.lemmas.Bool.{false≢true}
use Rattle.std.specs.declared.cmp.Ordering.{Ordering}
use Rattle.field_codec.specs.Spelling.{number, is_number, text, is_text, list, are_in_order, are_members, is_list, is_below}
use Rattle.field_codec.specs.Reading.{Read, text_at, list_at, checked_at, then_at, mapped_at}
use Rattle.field_codec.specs.Lawful.{IsForm}
use Rattle.field_codec.specs.FormLaws.{any_text_form, list_form, checked_form, then_form, mapped_form, lt_holds, le_from, both_true}
use Rattle.field_codec.specs.Tagged.{tagged_at, tagged_form, shape_form}
use Rattle.site_vector.specs.declared.ids.Dot.{Dot}
use Rattle.crdt_core.specs.declared.kind.Kind.{Kind}
use Rattle.crdt_core.specs.Texts.{text_cmp}
use Rattle.crdt_core.specs.Spelled.{is_between, are_dots, ascend, is_dots, dots, dots_at}
use Rattle.crdt_core.specs.SpelledLaws.{dots_held_form}
use Rattle.crdt_core.specs.EffectForm.{SpellsEffects}
use Rattle.crdt_core.specs.DotSet.{has_dot}
use Rattle.crdt_core.specs.NamedDots.{LiesIn, have_update, NamesAreSpelled}
use Rattle.crdt_core.proofs.NamedDotsLaws.{lies_behind, list_lies, dots_lie}
use Rattle.crdt_meanings.specs.Elements.{names_dot}
use Rattle.crdt_meanings.specs.Sets.{set_names}
use Rattle.crdt_meanings.specs.declared.sets.Named.{Named}
use Rattle.crdt_meanings.specs.declared.sets.SetEffect.{SetEffect}
use Rattle.crdt_meanings.specs.declared.sets.SetEffect.TheVariants.{Add, Remove, Reset}
use Rattle.crdt_meanings.specs.Without.{no_dot}

abbrev pub has_some : {A : Type 0} → List A → Bool
has_some [] = false
has_some (x ∷ xs) = true

-- ---- the elements that are added, at least one

abbrev pub can_put_texts : List (List ℕ) → Bool
can_put_texts ts = has_some ts && are_members (is_below text_cmp) (λ t. true) ts

abbrev pub are_texts_spelled : List (List ℕ) → Bool
are_texts_spelled ts = has_some ts && is_list (is_below text_cmp) is_text ts

abbrev pub texts_spelling : List (List ℕ) → List ℕ
texts_spelling ts = list text ts

unfoldable pub texts_at : List ℕ → ℕ → Read (List (List ℕ))
texts_at = checked_at has_some (list_at (is_below text_cmp) text_at)

pub texts_form : IsForm can_put_texts (list_all is_text) are_texts_spelled texts_spelling texts_at
unfolding texts_at
texts_form = checked_form has_some _ _ _ _ (list_form (is_below text_cmp) (λ t. true) is_text text text_at any_text_form)

abbrev pub texts_sets : List (List ℕ) → List (List Dot)
texts_sets ts = []

-- ---- an element with its dots

abbrev pub named_cmp : Named → Named → Ordering
named_cmp m n = text_cmp m.text n.text

abbrev pub keeps_named : Named → Bool
keeps_named n = is_text n.text && ascend n.dots

abbrev pub is_named : Named → Bool
is_named n = is_text n.text && is_dots n.dots

abbrev pub named : Named → List ℕ
named n = text n.text ++ dots n.dots

abbrev pub named_of : List ℕ × List Dot → Named
named_of p = record { text = p.0; dots = p.1 }

unfoldable pub named_at : List ℕ → ℕ → Read Named
named_at = mapped_at named_of (then_at text_at (λ _. dots_at))

pub named_form : IsForm (λ n. are_dots n.dots) keeps_named is_named named named_at
unfolding named_at
named_form =
    let whole = then_form (λ t. true) is_text text text_at (λ _. are_dots) (λ _. is_dots) (λ _. dots) (λ _. dots_at) any_text_form (λ _ _. dots_held_form) in
    mapped_form named_of (λ n. (n.text, n.dots)) _ _ _ _ (λ _. refl) (λ _ _. refl) whole

-- ---- ascending lists of these

abbrev pub can_put_list : List Named → Bool
can_put_list ns = are_members (is_below named_cmp) (λ n. are_dots n.dots) ns

abbrev pub is_list_spelled : List Named → Bool
is_list_spelled ns = is_list (is_below named_cmp) is_named ns

abbrev pub list_spelling : List Named → List ℕ
list_spelling ns = list named ns

abbrev pub named_list_at : List ℕ → ℕ → Read (List Named)
named_list_at = list_at (is_below named_cmp) named_at

pub named_list_form : IsForm can_put_list (list_all keeps_named) is_list_spelled list_spelling named_list_at
named_list_form = list_form (is_below named_cmp) (λ n. are_dots n.dots) is_named named named_at named_form

abbrev pub list_sets : List Named → List (List Dot)
list_sets ns = flat_map (λ n. n.dots ∷ []) ns

pub some_named_form : IsForm (λ ns. has_some ns && can_put_list ns) (list_all keeps_named) (λ ns. has_some ns && is_list_spelled ns) list_spelling (checked_at has_some named_list_at)
some_named_form = checked_form has_some can_put_list is_list_spelled list_spelling named_list_at named_list_form

-- ---- what is done, and the list: that of an add and of a remove isn't empty

abbrev pub set_mark : SetEffect → ℕ
set_mark (Add ns) = 0
set_mark (Remove ns) = 1
set_mark (Reset ns) = 2

abbrev pub can_put_set : SetEffect → Bool
can_put_set (Add ns) = has_some ns && can_put_list ns
can_put_set (Remove ns) = has_some ns && can_put_list ns
can_put_set (Reset ns) = can_put_list ns

abbrev pub keeps_set : SetEffect → Bool
keeps_set (Add ns) = list_all keeps_named ns
keeps_set (Remove ns) = list_all keeps_named ns
keeps_set (Reset ns) = list_all keeps_named ns

abbrev pub is_set_spelled : SetEffect → Bool
is_set_spelled (Add ns) = has_some ns && is_list_spelled ns
is_set_spelled (Remove ns) = has_some ns && is_list_spelled ns
is_set_spelled (Reset ns) = is_list_spelled ns

abbrev pub set_rest : SetEffect → List ℕ
set_rest (Add ns) = list_spelling ns
set_rest (Remove ns) = list_spelling ns
set_rest (Reset ns) = list_spelling ns

abbrev pub set_spelling : SetEffect → List ℕ
set_spelling e = number 1 (set_mark e) ++ set_rest e

unfoldable pub set_rest_at : ℕ → List ℕ → ℕ → Read SetEffect
set_rest_at mark =
    if mark == 0 then mapped_at Add (checked_at has_some named_list_at)
    else if mark == 1 then mapped_at Remove (checked_at has_some named_list_at)
    else mapped_at Reset named_list_at

unfoldable pub set_at : List ℕ → ℕ → Read SetEffect
set_at = tagged_at (is_between 0 2) set_rest_at

add_shape : (e : SetEffect) → (eqb (set_mark e) 0 && (can_put_set e || is_set_spelled e)) ≡ true → (ns : List Named) × (Add ns ≡ e)
add_shape (Add ns) h = (ns, refl)
add_shape (Remove ns) h = absurd (false≢true h)
add_shape (Reset ns) h = absurd (false≢true h)

remove_shape : (e : SetEffect) → (eqb (set_mark e) 1 && (can_put_set e || is_set_spelled e)) ≡ true → (ns : List Named) × (Remove ns ≡ e)
remove_shape (Add ns) h = absurd (false≢true h)
remove_shape (Remove ns) h = (ns, refl)
remove_shape (Reset ns) h = absurd (false≢true h)

reset_shape : (e : SetEffect) → (eqb (set_mark e) 2 && (can_put_set e || is_set_spelled e)) ≡ true → (ns : List Named) × (Reset ns ≡ e)
reset_shape (Add ns) h = absurd (false≢true h)
reset_shape (Remove ns) h = absurd (false≢true h)
reset_shape (Reset ns) h = (ns, refl)

rest_form : (n : ℕ) → is_between 0 2 n ≡ true → IsForm (λ e. eqb (set_mark e) n && can_put_set e) keeps_set (λ e. eqb (set_mark e) n && is_set_spelled e) set_rest (set_rest_at n)
unfolding set_rest_at
rest_form zero h = shape_form (λ e. eqb (set_mark e) 0) Add _ _ list_spelling _ can_put_set is_set_spelled _ (λ n. refl) (λ n. refl) (λ n. refl) (λ n. refl) add_shape some_named_form
rest_form (suc zero) h = shape_form (λ e. eqb (set_mark e) 1) Remove _ _ list_spelling _ can_put_set is_set_spelled _ (λ n. refl) (λ n. refl) (λ n. refl) (λ n. refl) remove_shape some_named_form
rest_form (suc (suc zero)) h = shape_form (λ e. eqb (set_mark e) 2) Reset _ _ list_spelling _ can_put_set is_set_spelled _ (λ n. refl) (λ n. refl) (λ n. refl) (λ n. refl) reset_shape named_list_form
rest_form (suc (suc (suc n))) h = let le = le_from (suc (suc (suc n))) 2 (both_true (nat_le 0 (suc (suc (suc n)))) _ h).1 in absurd (omega arith)

known : (e : SetEffect) → is_between 0 2 (set_mark e) ≡ true
known (Add n) = refl
known (Remove n) = refl
known (Reset ds) = refl

small : (n : ℕ) → is_between 0 2 n ≡ true → is_number 1 n ≡ true
small n h = let le = le_from n 2 (both_true (nat_le 0 n) _ h).1 in lt_holds n (256 ^ 1) (omega (arith, le))

pub set_form : IsForm can_put_set keeps_set is_set_spelled set_spelling set_at
unfolding set_at
set_form = tagged_form (is_between 0 2) set_mark can_put_set is_set_spelled set_rest set_rest_at known small rest_form

abbrev pub set_sets : SetEffect → List (List Dot)
set_sets (Add ns) = list_sets ns
set_sets (Remove ns) = list_sets ns
set_sets (Reset ns) = list_sets ns

-- every effect is one of the kind
abbrev pub is_of_kind : {E : Type 0} → Kind → E → Bool
is_of_kind k e = true

abbrev pub go_spells : (has : Kind → Bool) → SpellsEffects has is_of_kind can_put_texts (list_all is_text) are_texts_spelled texts_spelling (λ k. texts_at)
go_spells has = record { form = λ k h. texts_form }

abbrev pub set_spells : (has : Kind → Bool) → SpellsEffects has is_of_kind can_put_set keeps_set is_set_spelled set_spelling (λ k. set_at)
set_spells has = record { form = λ k h. set_form }

pub go_named : NamesAreSpelled can_put_texts no_dot texts_sets texts_spelling
go_named = record { exact = λ e d can. refl; lies = λ e d can h. absurd (false≢true h) }

list_exact : (ns : List Named) (d : Dot) → names_dot ns d ≡ have_update (list_sets ns) d
list_exact [] d = refl
list_exact (n ∷ ns) d = ap (λ b. has_dot n.dots d || b) (list_exact ns d)

set_exact : (e : SetEffect) (d : Dot) → set_names e d ≡ have_update (set_sets e) d
set_exact (Add ns) d = list_exact ns d
set_exact (Remove ns) d = list_exact ns d
set_exact (Reset ns) d = list_exact ns d

named_lies : (ns : List Named) (d : Dot) → can_put_list ns ≡ true → names_dot ns d ≡ true → LiesIn d (list_spelling ns)
named_lies ns d can h =
    let each : (n : Named) (c : Dot) → are_dots n.dots ≡ true → has_dot n.dots c ≡ true → LiesIn c (named n) = λ n c fit here. lies_behind (text n.text) (dots_lie n.dots c fit here) in
    list_lies named (λ n. are_dots n.dots) (λ n c. has_dot n.dots c) each ns d (both_true (are_in_order (is_below named_cmp) None ns) _ can).1 h

set_lies : (e : SetEffect) (d : Dot) → can_put_set e ≡ true → set_names e d ≡ true → LiesIn d (set_spelling e)
set_lies (Add ns) d can h = lies_behind (number 1 0) (named_lies ns d (both_true (has_some ns) (can_put_list ns) can).1 h)
set_lies (Remove ns) d can h = lies_behind (number 1 1) (named_lies ns d (both_true (has_some ns) (can_put_list ns) can).1 h)
set_lies (Reset ns) d can h = lies_behind (number 1 2) (named_lies ns d can h)

pub set_named : NamesAreSpelled can_put_set set_names set_sets set_spelling
set_named = record { exact = λ e d can. set_exact e d; lies = set_lies }
