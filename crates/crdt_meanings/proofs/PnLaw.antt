-- The counter whose updates stay keeps the law of a kind.
use Rattle.std.proofs.Common.{◌≡◌, Bool, true, false, cond, not, ◌&&◌, List, [], ◌∷◌, refl, sym, ap, ◌∙◌, subst, arith}
use Rattle.std.specs.Prelude.{filter, ℤ, pos, ◌+ℤ◌}
use Rattle.std.specs.List.{list_any}
use Rattle.std.specs.Int.{int_wrap, w128}
use Rattle.std.proofs.lemmas.Int.{ints, int_wrap-add_left}
use Rattle.std.proofs.lemmas.Bool.{true≢false, or_from}
use Rattle.site_vector.specs.declared.ids.Dot.{Dot}
use Rattle.crdt_core.specs.declared.kind.Kind.{Kind}
use Rattle.crdt_core.specs.declared.kind.Kind.TheVariants.{CounterPn, RegisterLww}
use Rattle.crdt_core.specs.declared.object.Field.{Field}
use Rattle.crdt_core.specs.declared.operation.Act.{Act}
use Rattle.crdt_core.specs.declared.operation.Act.TheVariants.{Reset}
use Rattle.crdt_core.specs.declared.value.Value.TheVariants.{Int}
use Rattle.crdt_core.specs.Kinds.{same_kind}
use Rattle.crdt_core.specs.Fits.{is_amount}
use Rattle.crdt_core.specs.Seen.{Update, sees, is_reset, is_live}
use Rattle.crdt_core.specs.History.{state_after}
use Rattle.crdt_core.specs.Law.{KeepsSteps, KeepsLaw, made_by, all_fit}
use Rattle.crdt_core.specs.InMaps.{KeepsInMaps}
use Rattle.crdt_core.specs.Resets.{ResetsWhatIsLeft}
use Rattle.crdt_core.proofs.Blank.{never_reset}
use Rattle.crdt_core.proofs.ResetsLaws.{never_resets}
use Rattle.crdt_core.specs.KindCodes.{same_kind_is}
use Rattle.crdt_core.specs.Leaves.{IsLeaf, first_fits, rest_fits, no_stamp_due}
use Rattle.crdt_core.proofs.Confluence.{confluence}
use Rattle.crdt_meanings.specs.CounterMeaning.{amount, total, counter_meaning}
use Rattle.crdt_meanings.proofs.Totals.{counter_orderless, nothing_wraps}
use Rattle.crdt_meanings.specs.CounterPn.{is_zero, pn_has, pn_step, pn_made, pn_value}
use Rattle.crdt_meanings.specs.Without.{no_stamp, no_dot}

abbrev deep : Kind → List Field → Bool
deep k p = false

leaf : IsLeaf CounterPn
leaf l = refl

no_reset : (a : Act) → is_amount a ≡ true → is_reset a ≡ false
no_reset Reset h = absurd (true≢false (sym h))
no_reset _ h = refl

none_reset : (us : List Update) → all_fit deep CounterPn us ≡ true → (d : Dot) → list_any (λ r. is_reset r.act && sees r d) us ≡ false
none_reset [] h d = refl
none_reset (u ∷ us) h d = or_from _ _ (ap (λ b. b && sees u d) (no_reset u.act (first_fits deep CounterPn leaf u us h).1)) (none_reset us (rest_fits deep CounterPn u us h) d)

all_pass : {A : Type 0} (p : A → Bool) → ((x : A) → p x ≡ true) → (xs : List A) → filter p xs ≡ xs
all_pass p h [] = refl
all_pass p h (x ∷ xs) = ap (λ b. cond b (x ∷ filter p xs) (filter p xs)) (h x) ∙ ap (λ l. x ∷ l) (all_pass p h xs)

summed : (k : Kind) (us : List Update) → state_after (pos 0) pn_step (made_by pn_made k) us ≡ int_wrap w128 (total us)
summed k [] = sym nothing_wraps
summed k (u ∷ us) = ap (λ z. int_wrap w128 (z +ℤ amount u.act)) (summed k us) ∙ int_wrap-add_left w128 (total us) (amount u.act)

pn_means : (us : List Update) → all_fit deep CounterPn us ≡ true → pn_value (state_after (pos 0) pn_step (made_by pn_made CounterPn) us) ≡ counter_meaning CounterPn us
pn_means us h = ap Int (summed CounterPn us ∙ ap (λ l. int_wrap w128 (total l)) (sym (all_pass (is_live us) (λ u. ap not (none_reset us h u.dot)) us)))

swapped : (s a b : ℤ) → int_wrap w128 (int_wrap w128 (s +ℤ a) +ℤ b) ≡ int_wrap w128 (int_wrap w128 (s +ℤ b) +ℤ a)
swapped s a b =
    let turned : ((s +ℤ a) +ℤ b) ≡ ((s +ℤ b) +ℤ a) = omega (arith, ints) in
    int_wrap-add_left w128 (s +ℤ a) b ∙ ap (int_wrap w128) turned ∙ sym (int_wrap-add_left w128 (s +ℤ b) a)

pn_steps : (k : Kind) → KeepsSteps (pos 0) pn_step (made_by pn_made k) no_dot no_dot
pn_steps k = record {
  swaps = λ s a b d e apart na nb. swapped s a b;
  named = λ s u d h. absurd (true≢false (sym h));
  held = λ s d e x h. absurd (true≢false (sym h));
  none_held = λ x. refl;
}

pub pn_law : KeepsLaw pn_has (λ k p. false) (λ k. pos 0) pn_step pn_made pn_value no_stamp counter_meaning no_dot no_dot
pn_law = record {
  means = λ k us has h fit stamped. subst (λ l. all_fit deep l us ≡ true → pn_value (state_after (pos 0) pn_step (made_by pn_made l) us) ≡ counter_meaning l us) (sym (same_kind_is k CounterPn has)) (pn_means us) fit;
  stamps = λ k u us has h fit stamped. no_stamp_due deep k (subst IsLeaf (sym (same_kind_is k CounterPn has)) leaf) (ap (λ l. same_kind l RegisterLww) (same_kind_is k CounterPn has)) u us fit;
  confluent = λ k us vs has. confluence (pos 0) pn_step pn_made k no_dot no_dot (pn_steps k) us vs;
  orderless = λ k us vs has. counter_orderless k us vs;
  unread = λ k s t p a n has reads. refl;
  steps = λ k has. pn_steps k;
  nameable = λ k us d has fit h. absurd (true≢false (sym h));
}

pub pn_in_maps : KeepsInMaps pn_has deep (λ k. pos 0) pn_step pn_made is_zero
pn_in_maps = record {
  first_blank = λ k has. refl;
  undoes_none = λ k s t d n has resets blank. absurd (true≢false (never_reset k CounterPn has refl resets));
  shallow = λ k. refl;
  flat = λ k p has out. refl;
}

pub pn_resets : ResetsWhatIsLeft pn_has deep (λ k. pos 0) pn_step pn_made is_zero no_dot
pn_resets = never_resets CounterPn refl
