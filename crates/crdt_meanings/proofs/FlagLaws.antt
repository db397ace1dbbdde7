-- Flags keep the law of a kind.
use Rattle.std.proofs.Common.{◌≡◌, Bool, true, false, not, ◌&&◌, ◌||◌, List, [], ◌∷◌, refl, sym, ap, ◌∙◌, subst, Option, Some, None}
use Rattle.std.specs.Prelude.{filter}
use Rattle.std.specs.List.{list_any}
use Rattle.std.specs.FinMap.{entries, empty}
use Rattle.std.proofs.lemmas.Bool.{true≢false}
use Rattle.crdt_core.specs.declared.kind.Kind.{Kind}
use Rattle.crdt_core.specs.declared.kind.Kind.TheVariants.{RegisterLww}
use Rattle.crdt_core.specs.declared.operation.Act.{Act}
use Rattle.crdt_core.specs.declared.operation.Act.TheVariants as act
use Rattle.crdt_core.specs.declared.value.Value.TheVariants.{Flag}
use Rattle.crdt_core.specs.Fits.{allows}
use Rattle.crdt_core.specs.Kinds.{same_kind, reads_state}
use Rattle.crdt_core.specs.Same.{Same}
use Rattle.crdt_core.specs.Seen.{Update}
use Rattle.crdt_core.specs.History.{IsHistory, state_after}
use Rattle.crdt_core.specs.Law.{KeepsSteps, KeepsLaw, made_by}
use Rattle.crdt_core.specs.InMaps.{KeepsInMaps}
use Rattle.crdt_core.specs.Resets.{ResetsWhatIsLeft}
use Rattle.crdt_core.proofs.Blank.{without_blank, empty_kept}
use Rattle.crdt_core.proofs.ResetsLaws.{kept_resets, named_by_reset}
use Rattle.crdt_core.specs.KindCodes.{same_kind_is}
use Rattle.crdt_core.specs.Leaves.{IsLeaf, no_stamp_due}
use Rattle.crdt_core.proofs.Confluence.{confluence, any_same}
use Rattle.crdt_core.specs.Kept.{KeptAt, dots_if, is_kept, keeps_none}
use Rattle.crdt_core.proofs.KeptKinds.{pairs, stays, holding, any_pairs, kept_keeps_steps, state_entries}
use Rattle.crdt_core.proofs.WinsLaw.{undoes, add_stays, remove_stays, add_wins_same, remove_wins_same}
use Rattle.crdt_meanings.specs.FlagMeaning.{enables, disables, flag_meaning}
use Rattle.crdt_meanings.specs.Flags.{flag_kind, flag_has, flag_out, disable_own, flag_own, flag_step, flag_made, kind_made, flag_value, flag_names}
use Rattle.crdt_meanings.specs.Without.{no_stamp}

-- what an act puts at its dot
abbrev flag_given : Bool → Act → Option Bool
flag_given w act.Enable = Some true
flag_given w act.Disable = disable_own w
flag_given w _ = None

abbrev takes : Update → Bool
takes u = undoes enables disables u.act

out_made : (s : KeptAt Bool) (a : Act) → flag_out (flag_made s a) ≡ dots_if (undoes enables disables a) s
out_made s act.Enable = refl
out_made s act.Disable = refl
out_made s act.Reset = refl
out_made s _ = refl

own_made : (w : Bool) (s : KeptAt Bool) (a : Act) → flag_own w (flag_made s a) ≡ flag_given w a
own_made w s act.Enable = refl
own_made w s act.Disable = refl
own_made w s act.Reset = refl
own_made w s _ = refl

flag_steps : (w : Bool) (k : Kind) → KeepsSteps empty (flag_step w) (made_by kind_made k) flag_names is_kept
flag_steps w k = kept_keeps_steps (made_by kind_made k) flag_out (flag_own w) (λ u. flag_given w u.act) takes (λ s u. out_made s u.act) (λ s u. own_made w s u.act)

by_act : (given : Act → Option Bool) (t : Bool → Bool) (acts : Act → Bool) (k : Update → Bool) → ((a : Act) → holding t (given a) ≡ acts a) → (vs : List Update) → list_any (λ u. holding t (given u.act) && k u) vs ≡ list_any (λ u. acts u.act && k u) vs
by_act given t acts k is [] = refl
by_act given t acts k is (v ∷ vs) = λ i. (is v.act i && k v) || by_act given t acts k is vs i

-- whether a test holds of something kept is whether it holds of what an update that stays puts
kept_any : (given : Act → Option Bool) (t : Bool → Bool) (acts : Act → Bool) → ((a : Act) → holding t (given a) ≡ acts a) → (us : List Update) (s : KeptAt Bool)
    → Same (entries s) (pairs (λ u. given u.act) (filter (stays takes us) us)) → list_any (λ e. t e.1) (entries s) ≡ list_any (λ u. acts u.act && stays takes us u) us
kept_any given t acts is us s same = any_same (λ e. t e.1) _ _ same ∙ any_pairs t (λ u. given u.act) (stays takes us) us ∙ by_act given t acts (stays takes us) is us

-- the enables are kept with a mark, and where disables win, the disables without
marks : (w : Bool) (a : Act) → holding (λ b. b) (flag_given w a) ≡ enables a
marks w act.Enable = refl
marks false act.Disable = refl
marks true act.Disable = refl
marks w _ = refl

unmarks : (a : Act) → holding not (flag_given true a) ≡ disables a
unmarks act.Enable = refl
unmarks act.Disable = refl
unmarks _ = refl

abbrev after : Bool → Kind → List Update → KeptAt Bool
after w k us = state_after empty (flag_step w) (made_by kind_made k) us

kept_of : (w : Bool) (k : Kind) (us : List Update) → IsHistory us → Same (entries (after w k us)) (pairs (λ u. flag_given w u.act) (filter (stays takes us) us))
kept_of w k us h = state_entries (made_by kind_made k) flag_out (flag_own w) (λ u. flag_given w u.act) takes (λ s u. out_made s u.act) (λ s u. own_made w s u.act) us h

flag_means : (w : Bool) (k : Kind) (us : List Update) → IsHistory us → flag_value w (after w k us) ≡ flag_meaning w k us
flag_means false k us h =
    ap Flag (kept_any (flag_given false) (λ b. b) enables (marks false) us _ (kept_of false k us h) ∙ add_stays enables disables us h)
flag_means true k us h =
    let same = kept_of true k us h in
    ap Flag ((λ i. kept_any (flag_given true) (λ b. b) enables (marks true) us _ same i && not (kept_any (flag_given true) not disables unmarks us _ same i)) ∙ remove_stays enables disables us h)

flag_orderless : (w : Bool) (k : Kind) (us vs : List Update) → Same us vs → flag_meaning w k us ≡ flag_meaning w k vs
flag_orderless false k us vs s = ap Flag (add_wins_same enables disables us vs s)
flag_orderless true k us vs s = ap Flag (remove_wins_same enables disables us vs s)

-- both kinds have no fields and no stamps, and their effects depend on the state
kind_is : (w : Bool) → IsLeaf (flag_kind w) × (same_kind (flag_kind w) RegisterLww ≡ false) × (reads_state (flag_kind w) ≡ true)
kind_is false = (λ l. refl, refl, refl)
kind_is true = (λ l. refl, refl, refl)

reset_allowed : (w : Bool) → allows (flag_kind w) act.Reset ≡ true
reset_allowed false = refl
reset_allowed true = refl

pub flag_law : (w : Bool) → KeepsLaw (flag_has w) (λ k p. false) (λ k. empty) (flag_step w) kind_made (flag_value w) no_stamp (flag_meaning w) flag_names is_kept
flag_law w = record {
  means = λ k us has h fit stamped. flag_means w k us h;
  stamps = λ k u us has h fit stamped. let same = same_kind_is k (flag_kind w) has in
      no_stamp_due (λ k p. false) k (subst IsLeaf (sym same) (kind_is w).0) (ap (λ l. same_kind l RegisterLww) same ∙ (kind_is w).1) u us fit;
  confluent = λ k us vs has. confluence empty (flag_step w) kind_made k flag_names is_kept (flag_steps w k) us vs;
  orderless = λ k us vs has s. flag_orderless w k us vs s;
  unread = λ k s t p a n has r. absurd (true≢false (sym (ap reads_state (same_kind_is k (flag_kind w) has) ∙ (kind_is w).2) ∙ r));
  steps = λ k has. flag_steps w k;
  nameable = λ k us d has fit h. named_by_reset kind_made flag_names (λ k s n d. refl) k _ d (ap (λ l. allows l act.Reset) (same_kind_is k (flag_kind w) has) ∙ reset_allowed w) h;
}

pub flag_in_maps : (w : Bool) → KeepsInMaps (flag_has w) (λ k p. false) (λ k. empty) (flag_step w) kind_made keeps_none
flag_in_maps w = record {
  first_blank = λ k has. empty_kept Bool;
  undoes_none = λ k s t d n has resets blank. without_blank s t blank;
  shallow = λ k. refl;
  flat = λ k p has out. refl;
}

pub flag_resets : (w : Bool) → ResetsWhatIsLeft (flag_has w) (λ k p. false) (λ k. empty) (flag_step w) kind_made keeps_none flag_names
flag_resets w = kept_resets (λ k s n d. refl)
