-- The set that only grows keeps the law of a kind.
use Rattle.std.proofs.Common.{◌≡◌, ℕ, Bool, true, false, cond, ◌||◌, List, [], ◌∷◌, Option, Some, refl, sym, ap, ◌∙◌, subst, arith}
use Rattle.std.specs.Prelude.{is_some, length, ◌==◌}
use Rattle.std.proofs.lemmas.List.Folds.{list_any-append}
use Rattle.std.proofs.lemmas.Bool.{true≢false}
use Rattle.std.specs.FinMap.{empty, insert, get, keys, get-insert, get-empty, same_map}
use Rattle.crdt_core.specs.declared.kind.Kind.{Kind}
use Rattle.crdt_core.specs.declared.kind.Kind.TheVariants.{SetGo, RegisterLww}
use Rattle.crdt_core.specs.declared.value.Value.TheVariants.{Words}
use Rattle.crdt_core.specs.Kinds.{same_kind}
use Rattle.crdt_core.specs.Seen.{Update}
use Rattle.crdt_core.specs.History.{state_after}
use Rattle.crdt_core.specs.Law.{KeepsSteps, KeepsLaw, made_by}
use Rattle.crdt_core.specs.InMaps.{KeepsInMaps}
use Rattle.crdt_core.specs.Resets.{ResetsWhatIsLeft}
use Rattle.crdt_core.proofs.Blank.{no_keys, empty_none, never_reset}
use Rattle.crdt_core.proofs.ResetsLaws.{never_resets}
use Rattle.crdt_core.specs.KindCodes.{same_kind_is}
use Rattle.crdt_core.specs.Leaves.{IsLeaf, no_stamp_due}
use Rattle.crdt_core.proofs.Confluence.{confluence}
use Rattle.crdt_core.specs.Texts.{text_cmp, text_cmp_total, text_cmp_exact, same_text, is_in, ascending, in_ascending, is_marked, nothing_beside}
use Rattle.crdt_meanings.specs.SetMeaning.{added_by, added, go_meaning}
use Rattle.crdt_meanings.proofs.SetMeaningLaws.{go_orderless}
use Rattle.crdt_meanings.specs.SetGo.{has_none, Grown, go_has, with_each, go_step, go_made, go_value}
use Rattle.crdt_meanings.specs.Without.{no_stamp, no_dot}

abbrev has_text : Grown → List ℕ → Bool
has_text s q = is_some (get s q)

pub same_grown : (s t : Grown) → ((q : List ℕ) → has_text s q ≡ has_text t q) → s ≡ t
same_grown s t h = same_map text_cmp_total text_cmp_exact s t (λ q. nothing_beside _ _ (h q))

one_more : (b : Bool) (o : Option (Unit {0})) → is_some (cond b (Some tt) o) ≡ (b || is_some o)
one_more true o = refl
one_more false o = refl

after : (a b c : Bool) → (b || (a || c)) ≡ ((a || b) || c)
after a b c = grind arith

pub has_each : (xs : List (List ℕ)) (s : Grown) (q : List ℕ) → has_text (with_each s xs) q ≡ (is_in xs q || has_text s q)
has_each [] s q = refl
has_each (x ∷ xs) s q =
    has_each xs (insert s x tt) q ∙ ap (λ b. is_in xs q || b) (ap is_some (get-insert text_cmp_total s x tt q) ∙ one_more (same_text q x) (get s q))
    ∙ after (same_text q x) (is_in xs q) (has_text s q)

turned : (a b c : Bool) → (b || (a || c)) ≡ (a || (b || c))
turned a b c = grind arith

go_steps : (k : Kind) → KeepsSteps empty go_step (made_by go_made k) no_dot no_dot
go_steps k = record {
  swaps = λ s a b d e apart na nb. same_grown _ _ (λ q.
      has_each b (with_each s a) q ∙ ap (λ c. is_in b q || c) (has_each a s q) ∙ turned (is_in a q) (is_in b q) (has_text s q)
      ∙ sym (has_each a (with_each s b) q ∙ ap (λ c. is_in a q || c) (has_each b s q)));
  named = λ s u d h. absurd (true≢false (sym h));
  held = λ s d e x h. absurd (true≢false (sym h));
  none_held = λ x. refl;
}

has_after : (k : Kind) (us : List Update) (q : List ℕ) → has_text (state_after empty go_step (made_by go_made k) us) q ≡ is_in (added us) q
has_after k [] q = ap is_some (get-empty text_cmp q)
has_after k (u ∷ us) q =
    has_each (ascending (added_by u.act)) (state_after empty go_step (made_by go_made k) us) q
    ∙ (λ i. in_ascending (added_by u.act) q i || has_after k us q i)
    ∙ sym (list_any-append (same_text q) (added_by u.act) (added us))

-- a set is in order as its texts are
go_means : (k : Kind) (us : List Update) → go_value (state_after empty go_step (made_by go_made k) us) ≡ go_meaning k us
go_means k us = ap (λ s. Words (keys s)) (same_grown _ _ (λ q. has_after k us q ∙ sym (is_marked (added us) q)))

leaf : IsLeaf SetGo
leaf l = refl

pub go_law : KeepsLaw go_has (λ k p. false) (λ k. empty) go_step go_made go_value no_stamp go_meaning no_dot no_dot
go_law = record {
  means = λ k us has h fit stamped. go_means k us;
  stamps = λ k u us has h fit stamped. no_stamp_due (λ k p. false) k (subst IsLeaf (sym (same_kind_is k SetGo has)) leaf) (ap (λ l. same_kind l RegisterLww) (same_kind_is k SetGo has)) u us fit;
  confluent = λ k us vs has. confluence empty go_step go_made k no_dot no_dot (go_steps k) us vs;
  orderless = λ k us vs has s. go_orderless k us vs s;
  unread = λ k s t p a n has reads. refl;
  steps = λ k has. go_steps k;
  nameable = λ k us d has fit h. absurd (true≢false (sym h));
}

pub go_in_maps : KeepsInMaps go_has (λ k p. false) (λ k. empty) go_step go_made has_none
go_in_maps = record {
  first_blank = λ k has. ap (λ (xs : List (List ℕ)). length xs == 0) (no_keys {X = Unit {0}} {R = text_cmp} empty (empty_none text_cmp (Unit {0})));
  undoes_none = λ k s t d n has resets blank. absurd (true≢false (never_reset k SetGo has refl resets));
  shallow = λ k. refl;
  flat = λ k p has out. refl;
}

pub go_resets : ResetsWhatIsLeft go_has (λ k p. false) (λ k. empty) go_step go_made has_none no_dot
go_resets = never_resets SetGo refl
