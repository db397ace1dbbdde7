-- The counter whose updates a reset undoes keeps the law of a kind.
use Rattle.std.proofs.Common.{◌≡◌, ℕ, Bool, true, false, List, [], ◌∷◌, refl, sym, ap, ◌∙◌, subst, arith, Option, Some, None}
use Rattle.std.specs.Prelude.{filter, ℤ, pos, ◌+ℤ◌}
use Rattle.std.specs.Int.{int_wrap, w128}
use Rattle.std.specs.FinMap.{empty}
use Rattle.std.proofs.lemmas.Int.{ints}
use Rattle.std.proofs.lemmas.Bool.{true≢false}
use Rattle.site_vector.specs.declared.ids.Dot.{Dot}
use Rattle.crdt_core.specs.declared.kind.Kind.{Kind}
use Rattle.crdt_core.specs.declared.kind.Kind.TheVariants.{CounterFat, RegisterLww}
use Rattle.crdt_core.specs.declared.object.Field.{Field}
use Rattle.crdt_core.specs.declared.operation.Act.{Act}
use Rattle.crdt_core.specs.declared.operation.Act.TheVariants as act
use Rattle.crdt_core.specs.declared.value.Value.TheVariants.{Int}
use Rattle.crdt_core.specs.Fits.{allows}
use Rattle.crdt_core.specs.Kinds.{same_kind, reads_state}
use Rattle.crdt_core.specs.Seen.{Update, is_reset, is_live}
use Rattle.crdt_core.specs.History.{IsHistory, state_after}
use Rattle.crdt_core.specs.Law.{KeepsSteps, KeepsLaw, made_by}
use Rattle.crdt_core.specs.InMaps.{KeepsInMaps}
use Rattle.crdt_core.specs.Resets.{ResetsWhatIsLeft}
use Rattle.crdt_core.proofs.Blank.{without_blank, empty_kept}
use Rattle.crdt_core.proofs.ResetsLaws.{kept_resets, named_by_reset}
use Rattle.crdt_core.specs.KindCodes.{same_kind_is}
use Rattle.crdt_core.specs.Leaves.{IsLeaf, no_stamp_due}
use Rattle.crdt_core.proofs.Confluence.{confluence}
use Rattle.crdt_core.specs.Kept.{KeptAt, dots_if, is_kept, keeps_none}
use Rattle.crdt_core.proofs.KeptKinds.{pairs, with_pair, kept_keeps_steps, state_entries}
use Rattle.crdt_meanings.specs.CounterMeaning.{amount, total_by, total, counter_meaning}
use Rattle.crdt_meanings.proofs.Totals.{total_same, counter_orderless}
use Rattle.crdt_meanings.specs.CounterFat.{fat_has, fat_out, fat_own, fat_step, fat_made, fat_value, fat_names}
use Rattle.crdt_meanings.specs.Without.{no_stamp}

-- what an act puts at its dot
abbrev given : Act → Option ℤ
given act.Reset = None
given a = Some (amount a)

abbrev puts : Update → Option ℤ
puts u = given u.act

abbrev takes : Update → Bool
takes u = is_reset u.act

out_made : (k : Kind) (s : KeptAt ℤ) (p : List Field) (a : Act) (n : ℕ) → fat_out (fat_made k s p a n) ≡ dots_if (is_reset a) s
out_made k s p act.Reset n = refl
out_made k s p _ n = refl

own_made : (k : Kind) (s : KeptAt ℤ) (p : List Field) (a : Act) (n : ℕ) → fat_own (fat_made k s p a n) ≡ given a
own_made k s p act.Reset n = refl
own_made k s p _ n = refl

pub fat_steps : (k : Kind) → KeepsSteps empty fat_step (made_by fat_made k) fat_names is_kept
fat_steps k = kept_keeps_steps (made_by fat_made k) fat_out fat_own puts takes (λ s u. out_made k s u.path u.act u.now) (λ s u. own_made k s u.path u.act u.now)

add_none : (a : ℤ) → a ≡ (a +ℤ pos 0)
add_none a = omega (arith, ints)

one_pair : (d : Dot) (a : Act) (rest : List (Dot × ℤ)) → total_by (λ e. e.1) (with_pair d (given a) rest) ≡ total_by (λ e. e.1) rest +ℤ amount a
one_pair d act.Reset rest = add_none _
one_pair d _ rest = refl

pairs_total : (us : List Update) → total_by (λ e. e.1) (pairs puts us) ≡ total us
pairs_total [] = refl
pairs_total (u ∷ us) = one_pair u.dot u.act (pairs puts us) ∙ ap (λ z. z +ℤ amount u.act) (pairs_total us)

fat_means : (k : Kind) (us : List Update) → IsHistory us → fat_value (state_after empty fat_step (made_by fat_made k) us) ≡ counter_meaning k us
fat_means k us h = ap (λ z. Int (int_wrap w128 z))
    (total_same (λ e. e.1) _ _ (state_entries (made_by fat_made k) fat_out fat_own puts takes (λ s u. out_made k s u.path u.act u.now) (λ s u. own_made k s u.path u.act u.now) us h)
    ∙ pairs_total (filter (is_live us) us))

leaf : IsLeaf CounterFat
leaf l = refl

reads : (k : Kind) → fat_has k ≡ true → reads_state k ≡ true
reads k has = ap reads_state (same_kind_is k CounterFat has)

pub fat_law : KeepsLaw fat_has (λ k p. false) (λ k. empty) fat_step fat_made fat_value no_stamp counter_meaning fat_names is_kept
fat_law = record {
  means = λ k us has h fit stamped. fat_means k us h;
  stamps = λ k u us has h fit stamped. no_stamp_due (λ k p. false) k (subst IsLeaf (sym (same_kind_is k CounterFat has)) leaf) (ap (λ l. same_kind l RegisterLww) (same_kind_is k CounterFat has)) u us fit;
  confluent = λ k us vs has. confluence empty fat_step fat_made k fat_names is_kept (fat_steps k) us vs;
  orderless = λ k us vs has. counter_orderless k us vs;
  unread = λ k s t p a n has r. absurd (true≢false (sym (reads k has) ∙ r));
  steps = λ k has. fat_steps k;
  nameable = λ k us d has fit h. named_by_reset fat_made fat_names (λ k s n d. refl) k _ d (ap (λ l. allows l act.Reset) (same_kind_is k CounterFat has)) h;
}

pub fat_in_maps : KeepsInMaps fat_has (λ k p. false) (λ k. empty) fat_step fat_made keeps_none
fat_in_maps = record {
  first_blank = λ k has. empty_kept ℤ;
  undoes_none = λ k s t d n has resets blank. without_blank s t blank;
  shallow = λ k. refl;
  flat = λ k p has out. refl;
}

pub fat_resets : ResetsWhatIsLeft fat_has (λ k p. false) (λ k. empty) fat_step fat_made keeps_none fat_names
fat_resets = kept_resets (λ k s n d. refl)
