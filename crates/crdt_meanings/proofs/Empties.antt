-- A value is empty exactly where it is what its kind means by no update.
use Rattle.std.proofs.Common.{◌≡◌, ℕ, Bool, true, false, not, List, [], ◌∷◌, Option, Some, None, refl, sym, ap, ◌∙◌, arith, rules}
use Rattle.std.specs.Prelude.{ℤ, pos, negsuc, ◌↔◌}
use Rattle.std.specs.FinMap.{entries, from_entries}
use Rattle.std.proofs.lemmas.Bool.{false≢true}
use Rattle.std.proofs.lemmas.Bool.Decides.{nat_tests}
use Rattle.crdt_core.specs.declared.kind.Kind.{Kind}
use Rattle.crdt_core.specs.declared.object.Field.{Field}
use Rattle.crdt_core.specs.declared.value.Value.{Value, the_lemmas}
use Rattle.crdt_core.specs.declared.value.Value.TheVariants.{Int, Flag, Word, Words, Fields}
use Rattle.std.specs.List.Sorted.{IsStrictlySortedBy}
use Rattle.crdt_core.specs.FieldOrder.{field_cmp, field_cmp_total, field_cmp_exact}
use Rattle.crdt_core.specs.MapLists.{entries_again}
use Rattle.crdt_core.specs.Texts.{ascending, ascending_again}
use Rattle.crdt_core.specs.Seen.{Update}
use Rattle.crdt_meanings.specs.declared.registers.Stamped.{Stamped}
use Rattle.crdt_meanings.specs.Maps.{is_zero, has_none, is_empty, shown}
use Rattle.crdt_meanings.specs.Nothing.{EmptyIsNothing}
use Rattle.crdt_meanings.specs.CounterMeaning.{counter_meaning}
use Rattle.crdt_meanings.specs.FlagMeaning.{flag_meaning}
use Rattle.crdt_meanings.specs.SetMeaning.{go_meaning as set_go_meaning, set_meaning}
use Rattle.crdt_meanings.specs.RegisterMeaning.{last_assign, word_of, lww_meaning, mv_meaning}
use Rattle.crdt_meanings.specs.MapMeaning.{map_meaning}
use Rattle.crdt_meanings.proofs.Totals.{nothing_wraps}

pub zero_is : (z : ℤ) → is_zero z ≡ true → z ≡ pos 0
zero_is (pos n) h = ap pos (grind (arith, nat_tests, h))
zero_is (negsuc n) h = absurd (false≢true h)

false_is : (b : Bool) → not b ≡ true → b ≡ false
false_is true h = absurd (false≢true h)
false_is false h = refl

none_is : {A : Type 0} (xs : List A) → has_none xs ≡ true → xs ≡ []
none_is [] h = refl
none_is (x ∷ xs) h = absurd (false≢true h)

-- a value's form tells whether it is empty
pub int_step : (z : ℤ) → is_empty (Int z) ≡ is_zero z
int_step z = search (rules, the_lemmas)

pub flag_step : (b : Bool) → is_empty (Flag b) ≡ not b
flag_step b = search (rules, the_lemmas)

pub word_step : (x : List ℕ) → is_empty (Word x) ≡ has_none x
word_step x = search (rules, the_lemmas)

pub words_step : (xs : List (List ℕ)) → is_empty (Words xs) ≡ has_none xs
words_step xs = search (rules, the_lemmas)

no_fields : is_empty (Fields []) ≡ true
no_fields = search (rules, the_lemmas)

some_fields : (m : Field × Value) (ms : List (Field × Value)) → is_empty (Fields (m ∷ ms)) ≡ false
some_fields m ms = search (rules, the_lemmas)

-- what is empty of each form, and that it is
int_empty : (z n : ℤ) → n ≡ pos 0 → (is_empty (Int z) ≡ true) ↔ (Int z ≡ Int n)
int_empty z n none = (λ h. ap Int (zero_is z (sym (int_step z) ∙ h) ∙ sym none), λ same. ap is_empty (same ∙ ap Int none) ∙ int_step (pos 0))

flag_empty : (b c : Bool) → c ≡ false → (is_empty (Flag b) ≡ true) ↔ (Flag b ≡ Flag c)
flag_empty b c none = (λ h. ap Flag (false_is b (sym (flag_step b) ∙ h) ∙ sym none), λ same. ap is_empty (same ∙ ap Flag none) ∙ flag_step false)

words_empty : (xs ys : List (List ℕ)) → ys ≡ [] → (is_empty (Words xs) ≡ true) ↔ (Words xs ≡ Words ys)
words_empty xs ys none = (λ h. ap Words (none_is xs (sym (words_step xs) ∙ h) ∙ sym none), λ same. ap is_empty (same ∙ ap Words none) ∙ words_step [])

word_empty : (o : Option Stamped) → (is_empty (word_of o) ≡ true) ↔ (word_of o ≡ Word [])
word_empty None = (λ h. refl, λ same. word_step [])
word_empty (Some a) = (λ h. ap Word (none_is a.text (sym (word_step a.text) ∙ h)), λ same. ap is_empty same ∙ word_step [])

fields_empty : (ms ns : List (Field × Value)) → ns ≡ [] → (is_empty (Fields ms) ≡ true) ↔ (Fields ms ≡ Fields ns)
fields_empty [] ns none = (λ h. ap Fields (sym none), λ same. no_fields)
fields_empty (m ∷ ms) ns none = (λ h. absurd (false≢true (sym (some_fields m ms) ∙ h)), λ same. ap is_empty (same ∙ ap Fields none) ∙ no_fields)

-- nothing in order is nothing
pub none_ascends : ascending [] ≡ []
unfolding IsStrictlySortedBy
none_ascends = ascending_again [] tt

no_entries : entries (from_entries {X = Value} {R = field_cmp} []) ≡ []
unfolding IsStrictlySortedBy
no_entries = entries_again field_cmp_total field_cmp_exact [] tt

pub counters_empty : EmptyIsNothing counter_meaning
counters_empty k us = int_empty _ _ nothing_wraps

pub flags_empty : (w : Bool) → EmptyIsNothing (flag_meaning w)
flags_empty false k us = flag_empty _ _ refl
flags_empty true k us = flag_empty _ _ refl

pub grown_empty : EmptyIsNothing set_go_meaning
grown_empty k us = words_empty _ _ none_ascends

pub sets_empty : (w : Bool) → EmptyIsNothing (set_meaning w)
sets_empty false k us = words_empty _ _ none_ascends
sets_empty true k us = words_empty _ _ none_ascends

pub lww_empty : EmptyIsNothing lww_meaning
lww_empty k us = word_empty (last_assign us)

pub mv_empty : EmptyIsNothing mv_meaning
mv_empty k us = words_empty _ _ refl

pub maps_empty : (drops : Bool) (has : Kind → Bool) (meaning : Kind → List Update → Value) → EmptyIsNothing (map_meaning drops has meaning)
maps_empty false has meaning k us = fields_empty _ _ no_entries
maps_empty true has meaning k us = fields_empty _ _ (ap (shown true) no_entries)
