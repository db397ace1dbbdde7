-- The effects that are generated of sets can be put.
use Rattle.std.proofs.Common.{◌≡◌, Bool, true, false, ◌&&◌, ◌||◌, ℕ, List, [], ◌∷◌, refl, sym, ◌∙◌, ap, subst, Some, None}
use Rattle.std.specs.List.{list_all}
use Rattle.std.specs.FinMap.{keys}
use Rattle.std.proofs.lemmas.Bool.{false≢true}
use Rattle.field_codec.specs.Spelling.{are_in_order, is_below}
use Rattle.field_codec.specs.FormLaws.{both_true, and_true}
use Rattle.crdt_core.specs.declared.kind.Kind.{Kind}
use Rattle.crdt_core.specs.declared.kind.Kind.TheVariants.{SetGo, SetAw, SetRw}
use Rattle.crdt_core.specs.declared.object.Field.{Field}
use Rattle.crdt_core.specs.declared.operation.Act.{Act}
use Rattle.crdt_core.specs.declared.operation.Act.TheVariants as act
use Rattle.crdt_core.specs.Fits.{names_some, allows, fits}
use Rattle.crdt_core.specs.Leaves.{IsLeaf, fits_leaf}
use Rattle.crdt_core.specs.Kept.{dots_of}
use Rattle.crdt_core.specs.Texts.{text_cmp, is_in, ascending, in_ascending, same_text_itself}
use Rattle.crdt_core.specs.Spelled.{are_dots, ascend}
use Rattle.crdt_core.specs.EffectForm.{HoldsSpelled, IsReady, reset_tag, begins_with, asks_reset, sets_ascend}
use Rattle.crdt_core.proofs.Ready.{keys_in_order, kept_spelled, kept_ascend}
use Rattle.crdt_meanings.specs.Elements.{Elements, at, named_at, keeps_dot}
use Rattle.crdt_meanings.proofs.ElementSteps.{kept_in}
use Rattle.crdt_meanings.specs.SetMeaning.{added_by}
use Rattle.crdt_meanings.specs.SetGo.{Grown, go_made}
use Rattle.crdt_meanings.specs.Sets.{set_kind, set_made}
use Rattle.crdt_sets.specs.EffectForm.{has_some, can_put_texts, texts_spelling, named_cmp, can_put_list, can_put_set, texts_sets, list_sets, set_sets, set_spelling, is_of_kind}

-- ---- texts in order, of which there are some

some_of : (xs : List (List ℕ)) (q : List ℕ) → is_in xs q ≡ true → has_some xs ≡ true
some_of [] q h = absurd (false≢true h)
some_of (x ∷ xs) q h = refl

some_ascending : (xs : List (List ℕ)) → names_some xs ≡ true → has_some (ascending xs) ≡ true
some_ascending [] h = absurd (false≢true h)
some_ascending (x ∷ xs) h = some_of (ascending (x ∷ xs)) x (in_ascending (x ∷ xs) x ∙ ap (λ b. b || is_in xs x) (same_text_itself x))

all_true : {A : Type 0} (xs : List A) → list_all (λ x. true) xs ≡ true
all_true [] = refl
all_true (x ∷ xs) = all_true xs

in_order : (xs : List (List ℕ)) → are_in_order (is_below text_cmp) None (ascending xs) ≡ true
in_order xs = keys_in_order _

-- ---- elements with what is kept of them

named_order : (m : Elements) (before : List ℕ) (xs : List (List ℕ)) → are_in_order (is_below text_cmp) (Some before) xs ≡ true → are_in_order (is_below named_cmp) (Some (record { text = before; dots = dots_of (at m before) })) (named_at m xs) ≡ true
named_order m before [] h = refl
named_order m before (x ∷ xs) h =
    let p = both_true (is_below text_cmp before x) (are_in_order (is_below text_cmp) (Some x) xs) h in
    and_true (is_below text_cmp before x) _ p.0 (named_order m x xs p.1)

named_ordered : (m : Elements) (xs : List (List ℕ)) → are_in_order (is_below text_cmp) None xs ≡ true → are_in_order (is_below named_cmp) None (named_at m xs) ≡ true
named_ordered m [] h = refl
named_ordered m (x ∷ xs) h = named_order m x xs h

named_spelled : (m : Elements) → HoldsSpelled keeps_dot m → (xs : List (List ℕ)) → list_all (λ n. are_dots n.dots) (named_at m xs) ≡ true
named_spelled m h [] = refl
named_spelled m h (x ∷ xs) = and_true (are_dots (dots_of (at m x))) _ (kept_spelled (at m x) (λ d k. h d (kept_in m x d k))) (named_spelled m h xs)

list_ready : (m : Elements) → HoldsSpelled keeps_dot m → (xs : List (List ℕ)) → are_in_order (is_below text_cmp) None xs ≡ true → can_put_list (named_at m xs) ≡ true
list_ready m h xs o = and_true (are_in_order (is_below named_cmp) None (named_at m xs)) _ (named_ordered m xs o) (named_spelled m h xs)

named_ascend : (m : Elements) (xs : List (List ℕ)) → sets_ascend (list_sets (named_at m xs)) ≡ true
named_ascend m [] = refl
named_ascend m (x ∷ xs) = and_true (ascend (dots_of (at m x))) _ (kept_ascend (at m x)) (named_ascend m xs)

some_named : (m : Elements) (xs : List (List ℕ)) → has_some xs ≡ true → has_some (named_at m xs) ≡ true
some_named m [] h = absurd (false≢true h)
some_named m (x ∷ xs) h = refl

some_ready : (m : Elements) → HoldsSpelled keeps_dot m → (xs : List (List ℕ)) → names_some xs ≡ true → (has_some (named_at m (ascending xs)) && can_put_list (named_at m (ascending xs))) ≡ true
some_ready m h xs some = and_true (has_some (named_at m (ascending xs))) _ (some_named m (ascending xs) (some_ascending xs some)) (list_ready m h (ascending xs) (in_order xs))

-- ---- acts

set_allowed : (m : Elements) → HoldsSpelled keeps_dot m → (a : Act) → allows SetAw a ≡ true → can_put_set (set_made m a) ≡ true
set_allowed m h (act.Add xs) ok = some_ready m h xs (no_other (names_some xs) ok)
  where
    no_other : (b : Bool) → (b || false) ≡ true → b ≡ true
    no_other true e = refl
    no_other false e = e
set_allowed m h (act.Remove xs) ok = some_ready m h xs (no_other (names_some xs) ok)
  where
    no_other : (b : Bool) → (b || false) ≡ true → b ≡ true
    no_other true e = refl
    no_other false e = e
set_allowed m h act.Reset ok = list_ready m h (keys m) (keys_in_order m)
set_allowed m h _ ok = refl

made_ascend : (m : Elements) (a : Act) → sets_ascend (set_sets (set_made m a)) ≡ true
made_ascend m (act.Add xs) = named_ascend m (ascending xs)
made_ascend m (act.Remove xs) = named_ascend m (ascending xs)
made_ascend m act.Reset = named_ascend m (keys m)
made_ascend m _ = refl

reset_made : (m : Elements) (p : List Field) (a : Act) → asks_reset p a ≡ true → begins_with 2 (set_spelling (set_made m a)) ≡ true
reset_made m [] act.Reset h = refl
reset_made m [] _ h = absurd (false≢true h)
reset_made m (f ∷ p) a h = absurd (false≢true h)

-- both kinds mark a reset by 2, and allow the same acts
kind_ready : (w : Bool) → (reset_tag (set_kind w) ≡ 2) × ((p : List Field) (a : Act) → fits (set_kind w) p a ≡ true → allows SetAw a ≡ true)
kind_ready false = (refl, λ p a ok. (fits_leaf SetAw (λ l. refl) p a ok).1)
kind_ready true = (refl, λ p a ok. (fits_leaf SetRw (λ l. refl) p a ok).1)

pub set_ready : (w : Bool) (k : Kind) → k ≡ set_kind w → (m : Elements) (p : List Field) (a : Act) → fits k p a ≡ true → HoldsSpelled keeps_dot m → IsReady is_of_kind can_put_set set_sets set_spelling k p a (set_made m a)
set_ready w k e m p a ok h = record {
  kind = refl;
  fit = set_allowed m h a ((kind_ready w).1 p a (subst (λ l. fits l p a ≡ true) e ok));
  sets = made_ascend m a;
  opened = λ asked. subst (λ n. begins_with n (set_spelling (set_made m a)) ≡ true) (sym (ap reset_tag e ∙ (kind_ready w).0)) (reset_made m p a asked);
}

go_leaf : IsLeaf SetGo
go_leaf l = refl

go_allowed : (a : Act) → allows SetGo a ≡ true → (can_put_texts (ascending (added_by a)) ≡ true) × ((p : List Field) → asks_reset p a ≡ true → false ≡ true)
go_allowed (act.Add xs) ok = (and_true (has_some (ascending xs)) _ (some_ascending xs ok) (and_true (are_in_order (is_below text_cmp) None (ascending xs)) _ (in_order xs) (all_true (ascending xs))), λ p. no_reset p)
  where
    no_reset : (p : List Field) → asks_reset p (act.Add xs) ≡ true → false ≡ true
    no_reset [] h = h
    no_reset (f ∷ p) h = h
go_allowed _ ok = absurd (false≢true ok)

pub go_ready : (k : Kind) → k ≡ SetGo → (s : Grown) (p : List Field) (a : Act) (n : ℕ) → fits k p a ≡ true → IsReady is_of_kind can_put_texts texts_sets texts_spelling k p a (go_made k s p a n)
go_ready k e s p a n ok =
    let g = go_allowed a (fits_leaf SetGo go_leaf p a (subst (λ l. fits l p a ≡ true) e ok)).1 in
    record { kind = refl; fit = g.0; sets = refl; opened = λ asked. absurd (false≢true (g.1 p asked)) }
