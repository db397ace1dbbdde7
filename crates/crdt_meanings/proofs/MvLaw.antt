-- The register that keeps the texts of concurrent assigns keeps the law of a kind.
use Rattle.std.proofs.Common.{◌≡◌, ℕ, Bool, true, false, cond, not, ◌&&◌, List, [], ◌∷◌, ◌++◌, refl, sym, ap, ◌∙◌, subst, inl, inr, Option, Some, None}
use Rattle.std.specs.Prelude.{filter, map}
use Rattle.std.specs.FinMap.{empty}
use Rattle.std.proofs.lemmas.Bool.{true≢false, false≢true, and_parts, and_from, not-true}
use Rattle.site_vector.specs.declared.ids.Dot.{Dot}
use Rattle.crdt_core.specs.declared.kind.Kind.{Kind}
use Rattle.crdt_core.specs.declared.kind.Kind.TheVariants.{RegisterMv, RegisterLww}
use Rattle.crdt_core.specs.declared.operation.Act.{Act}
use Rattle.crdt_core.specs.declared.operation.Act.TheVariants as act
use Rattle.crdt_core.specs.declared.value.Value.TheVariants.{Words}
use Rattle.crdt_core.specs.Fits.{allows}
use Rattle.crdt_core.specs.Kinds.{same_kind, reads_state}
use Rattle.crdt_core.specs.Same.{Same}
use Rattle.crdt_core.specs.Seen.{Update, sees, is_assign}
use Rattle.crdt_core.specs.History.{IsHistory, state_after}
use Rattle.crdt_core.specs.Law.{KeepsSteps, KeepsLaw, made_by}
use Rattle.crdt_core.specs.InMaps.{KeepsInMaps}
use Rattle.crdt_core.specs.Resets.{ResetsWhatIsLeft}
use Rattle.crdt_core.proofs.Blank.{without_blank, empty_kept}
use Rattle.crdt_core.proofs.ResetsLaws.{kept_resets, named_by_reset}
use Rattle.crdt_core.specs.KindCodes.{same_kind_is}
use Rattle.crdt_core.specs.Leaves.{IsLeaf, no_stamp_due}
use Rattle.crdt_core.proofs.Confluence.{confluence, any_same}
use Rattle.crdt_core.specs.Kept.{KeptAt, dots_if, is_kept, keeps_none}
use Rattle.crdt_core.proofs.KeptKinds.{pairs, with_pair, stays, kept_keeps_steps, state_entries}
use Rattle.crdt_core.proofs.Live.{live_same, tested_same}
use Rattle.crdt_core.proofs.Members.{In, clash, none_of}
use Rattle.crdt_core.specs.Wins.{lives}
use Rattle.crdt_core.proofs.WinsLaw.{undoes, same_truth, lives_on, stays_lives, stays_if, not_stays, adds_takes, any_by}
use Rattle.crdt_meanings.specs.RegisterMeaning.{text_of, remains, mv_meaning}
use Rattle.crdt_meanings.specs.RegisterMv.{mv_has, mv_out, mv_own, mv_step, mv_made_on, mv_made, mv_value, mv_names}
use Rattle.crdt_meanings.specs.Sorted.{sorted}
use Rattle.crdt_meanings.proofs.SortedLaws.{sorted_same}
use Rattle.crdt_meanings.specs.Without.{no_stamp}

-- no act of a register removes but a reset
abbrev removes : Act → Bool
removes a = false

abbrev takes : Update → Bool
takes u = undoes is_assign removes u.act

-- what an act puts at its dot
abbrev given : Act → Option (List ℕ)
given (act.Assign x) = Some x
given _ = None

abbrev puts : Update → Option (List ℕ)
puts u = given u.act

out_made : (s : KeptAt (List ℕ)) (a : Act) → mv_out (mv_made_on s a) ≡ dots_if (undoes is_assign removes a) s
out_made s (act.Assign x) = refl
out_made s act.Reset = refl
out_made s _ = refl

own_made : (s : KeptAt (List ℕ)) (a : Act) → mv_own (mv_made_on s a) ≡ given a
own_made s (act.Assign x) = refl
own_made s act.Reset = refl
own_made s _ = refl

mv_steps : (k : Kind) → KeepsSteps empty mv_step (made_by mv_made k) mv_names is_kept
mv_steps k = kept_keeps_steps (made_by mv_made k) mv_out mv_own puts takes (λ s u. out_made s u.act) (λ s u. own_made s u.act)

-- an assign remains where it stays
module _ (us : List Update) (h : IsHistory us) where
  stay_by_remain : (u : Update) → In u us → remains us u ≡ true → (is_assign u.act && stays takes us u) ≡ true
  stay_by_remain u i r =
      let two = and_parts (lives is_assign us u) _ r in
      let live = and_parts (is_assign u.act) _ two.0 in
      and_from _ _ live.0 (stays_if is_assign removes us h u live.1
      (λ x j see a. clash (λ v. lives is_assign us v && sees v u.dot) us x (not-true _ two.1) j (and_from _ _ (and_from _ _ a (lives_on is_assign removes us h u x i j live.1 see)) see))
      (λ x j see f. false≢true f))

  remain_by_stay : (u : Update) → In u us → (is_assign u.act && stays takes us u) ≡ true → remains us u ≡ true
  remain_by_stay u i s =
      let two = and_parts (is_assign u.act) (stays takes us u) s in
      and_from _ _ (and_from _ _ two.0 (stays_lives is_assign removes us h u two.1))
      (ap not (none_of (λ v. lives is_assign us v && sees v u.dot) us (λ v j t.
      let parts = and_parts (lives is_assign us v) (sees v u.dot) t in
      not_stays is_assign removes us h u v j two.1 parts.1 (adds_takes is_assign removes us h v (and_parts (is_assign v.act) _ parts.0).0))))

  remain_stays : (u : Update) → In u us → remains us u ≡ (is_assign u.act && stays takes us u)
  remain_stays u i = same_truth _ _ (stay_by_remain u i) (remain_by_stay u i)

filter_in : {A : Type 0} (p q : A → Bool) (xs : List A) → ((x : A) → In x xs → p x ≡ q x) → filter p xs ≡ filter q xs
filter_in p q [] same = refl
filter_in p q (x ∷ xs) same = let rest = filter_in p q xs (λ y i. same y (inr i)) in λ i. cond (same x (inl refl) i) (x ∷ rest i) (rest i)

-- what these updates put are the texts of the assigns among them
one_text : (d : Dot) (a : Act) (rest : List (Dot × List ℕ)) → map (λ e. e.1) (with_pair d (given a) rest) ≡ cond (is_assign a) (text_of a ∷ map (λ e. e.1) rest) (map (λ e. e.1) rest)
one_text d (act.Assign x) rest = refl
one_text d _ rest = refl

pairs_texts : (k : Update → Bool) (us : List Update) → map (λ e. e.1) (pairs puts (filter k us)) ≡ map (λ u. text_of u.act) (filter (λ u. is_assign u.act && k u) us)
pairs_texts k [] = refl
pairs_texts k (u ∷ us) =
    let rest = pairs_texts k us in
    let more = filter (λ u. is_assign u.act && k u) us in
    elim (k u) as (λ b. map (λ e. e.1) (pairs puts (cond b (u ∷ filter k us) (filter k us))) ≡ map (λ u. text_of u.act) (cond (is_assign u.act && b) (u ∷ more) more)) [
      | true ↦ one_text u.dot u.act (pairs puts (filter k us)) ∙ (λ i. cond (is_assign u.act) (text_of u.act ∷ rest i) (rest i))
          ∙ elim (is_assign u.act) as (λ b. cond b (text_of u.act ∷ map (λ u. text_of u.act) more) (map (λ u. text_of u.act) more) ≡ map (λ u. text_of u.act) (cond (b && true) (u ∷ more) more)) [ true ↦ refl | false ↦ refl ]
      | false ↦ rest ∙ elim (is_assign u.act) as (λ b. map (λ u. text_of u.act) more ≡ map (λ u. text_of u.act) (cond (b && false) (u ∷ more) more)) [ true ↦ refl | false ↦ refl ]
    ]

map_append : {A B : Type 0} (f : A → B) (xs ys : List A) → map f (xs ++ ys) ≡ map f xs ++ map f ys
map_append f [] ys = refl
map_append f (x ∷ xs) ys = ap (λ l. f x ∷ l) (map_append f xs ys)

map_same : {A B : Type 0} (f : A → B) (xs ys : List A) → Same xs ys → Same (map f xs) (map f ys)
map_same f [] ys s = ap (map f) s
map_same f (x ∷ xs) ys s = (map f s.0, map f s.1, ap (map f) s.2 ∙ map_append f s.0 (x ∷ s.1), subst (λ l. Same (map f xs) l) (map_append f s.0 s.1) (map_same f xs (s.0 ++ s.1) s.3))

mv_means : (k : Kind) (us : List Update) → IsHistory us → mv_value (state_after empty mv_step (made_by mv_made k) us) ≡ mv_meaning k us
mv_means k us h =
    let kept = state_entries (made_by mv_made k) mv_out mv_own puts takes (λ s u. out_made s u.act) (λ s u. own_made s u.act) us h in
    ap Words (sorted_same _ _ (map_same (λ e. e.1) _ _ kept)
    ∙ ap sorted (pairs_texts (stays takes us) us ∙ ap (map (λ u. text_of u.act)) (sym (filter_in (remains us) (λ u. is_assign u.act && stays takes us u) us (remain_stays us h)))))

remains_same : (us vs : List Update) → Same us vs → (u : Update) → remains us u ≡ remains vs u
remains_same us vs s u =
    (λ i. (is_assign u.act && live_same us vs s u i)
    && not ((any_by (λ v. lives is_assign us v && sees v u.dot) (λ v. lives is_assign vs v && sees v u.dot) (λ v j. (is_assign v.act && live_same us vs s v j) && sees v u.dot) us ∙ any_same (λ v. lives is_assign vs v && sees v u.dot) us vs s) i))

mv_orderless : (k : Kind) (us vs : List Update) → Same us vs → mv_meaning k us ≡ mv_meaning k vs
mv_orderless k us vs s = ap Words (sorted_same _ _ (map_same (λ u. text_of u.act) _ _ (tested_same remains remains_same us vs s)))

leaf : IsLeaf RegisterMv
leaf l = refl

pub mv_law : KeepsLaw mv_has (λ k p. false) (λ k. empty) mv_step mv_made mv_value no_stamp mv_meaning mv_names is_kept
mv_law = record {
  means = λ k us has h fit stamped. mv_means k us h;
  stamps = λ k u us has h fit stamped. no_stamp_due (λ k p. false) k (subst IsLeaf (sym (same_kind_is k RegisterMv has)) leaf) (ap (λ l. same_kind l RegisterLww) (same_kind_is k RegisterMv has)) u us fit;
  confluent = λ k us vs has. confluence empty mv_step mv_made k mv_names is_kept (mv_steps k) us vs;
  orderless = λ k us vs has. mv_orderless k us vs;
  unread = λ k s t p a n has r. absurd (true≢false (sym (ap reads_state (same_kind_is k RegisterMv has)) ∙ r));
  steps = λ k has. mv_steps k;
  nameable = λ k us d has fit h. named_by_reset mv_made mv_names (λ k s n d. refl) k _ d (ap (λ l. allows l act.Reset) (same_kind_is k RegisterMv has)) h;
}

pub mv_in_maps : KeepsInMaps mv_has (λ k p. false) (λ k. empty) mv_step mv_made keeps_none
mv_in_maps = record {
  first_blank = λ k has. empty_kept (List ℕ);
  undoes_none = λ k s t d n has resets blank. without_blank s t blank;
  shallow = λ k. refl;
  flat = λ k p has out. refl;
}

pub mv_resets : ResetsWhatIsLeft mv_has (λ k p. false) (λ k. empty) mv_step mv_made keeps_none mv_names
mv_resets = kept_resets (λ k s n d. refl)
