-- The sets from which elements can be removed keep the law of a kind.
use Rattle.std.proofs.Common.{◌≡◌, ℕ, Bool, true, false, cond, not, ◌&&◌, ◌||◌, List, [], ◌∷◌, Option, Some, None, refl, sym, ap, ◌∙◌, subst, length, arith}
use Rattle.std.specs.Prelude.{map, filter, is_some, unwrap_or}
use Rattle.std.specs.List.{list_any}
use Rattle.std.proofs.lemmas.Bool.{true≢false, false≢true, and_parts, or_from, true_from_ne_false}
use Rattle.std.specs.FinMap.{empty, get, find, keys, entries, entries_sorted, get-empty, get-entries, contains_key-keys, len-entries, len-empty}
use Rattle.site_vector.specs.declared.ids.Dot.{Dot}
use Rattle.site_vector.specs.Ids.{same_dot}
use Rattle.site_vector.specs.Order.{dot_cmp}
use Rattle.crdt_core.specs.declared.kind.Kind.{Kind}
use Rattle.crdt_core.specs.declared.kind.Kind.TheVariants.{RegisterLww}
use Rattle.crdt_core.specs.declared.operation.Act.{Act}
use Rattle.crdt_core.specs.declared.operation.Act.TheVariants as act
use Rattle.crdt_core.specs.declared.value.Value.TheVariants.{Words}
use Rattle.crdt_core.specs.Fits.{allows}
use Rattle.crdt_core.specs.Kinds.{same_kind, reads_state}
use Rattle.crdt_core.specs.DotSet.{has_dot}
use Rattle.crdt_core.specs.Seen.{Update, sees, is_live}
use Rattle.crdt_core.specs.History.{IsHistory, state_after}
use Rattle.crdt_core.specs.Law.{KeepsSteps, KeepsLaw, made_by}
use Rattle.crdt_core.specs.InMaps.{KeepsInMaps}
use Rattle.crdt_core.proofs.Blank.{no_keys, empty_none}
use Rattle.crdt_core.specs.KindCodes.{same_kind_is}
use Rattle.crdt_core.specs.Leaves.{IsLeaf, no_stamp_due}
use Rattle.crdt_core.proofs.Confluence.{confluence, any_same}
use Rattle.crdt_core.specs.Texts.{text_cmp, same_text, same_text_is, is_in, ascending, in_ascending, same_ascending, in_filter, ascending_sorted}
use Rattle.crdt_core.specs.MapLists.{IsDistinct, distinct_entries}
use Rattle.crdt_core.specs.Kept.{KeptAt, kept_step, is_kept, has_marked, has_unmarked}
use Rattle.crdt_core.proofs.KeptSteps.{get-kept_step}
use Rattle.crdt_core.proofs.KeptLaw.{given, left, kept_after}
use Rattle.crdt_core.proofs.KeptKinds.{stays, holding, any_pairs, kept_entries}
use Rattle.crdt_core.proofs.Members.{one_of, any_of}
use Rattle.crdt_core.specs.Wins.{lives, add_wins, remove_wins}
use Rattle.crdt_core.proofs.WinsLaw.{undoes, add_stays, remove_stays}
use Rattle.crdt_meanings.specs.SetMeaning.{adds, removes, added, set_meaning}
use Rattle.crdt_meanings.proofs.SetMeaningLaws.{in_added, set_orderless}
use Rattle.crdt_meanings.specs.Elements.{Elements, lacks_all, at, take_named, named_at, passing, names_dot, keeps_dot, shows}
use Rattle.crdt_meanings.proofs.ElementSteps.{dots_at, at-take_named, take_swaps, take_held, kept_of_some, keeps_none, at_none, names_kept, kept_names, lists_named, dots_named}
use Rattle.crdt_meanings.specs.Sets.{set_kind, set_has, named_of, remove_own, set_own, set_step, set_made, kind_made, set_value, set_names}
use Rattle.crdt_meanings.specs.Without.{no_stamp}

-- what an act puts of an element
abbrev set_given : Bool → List ℕ → Act → Option Bool
set_given w x (act.Add xs) = cond (is_in xs x) (Some true) None
set_given w x (act.Remove xs) = cond (is_in xs x) (remove_own w) None
set_given w x _ = None

abbrev takes : List ℕ → Update → Bool
takes x u = undoes (adds x) (removes x) u.act

-- a step as each element sees it
at_named : (s r : Elements) (xs : List (List ℕ)) (d : Dot) (own : Option Bool) (x : List ℕ) (q : Dot) → get (at (take_named s d own (named_at r xs)) x) q ≡ cond (is_in xs x) (given (same_dot d q) own (cond (is_in xs x && is_kept (at r x) q) None (get (at s x) q))) (get (at s x) q)
at_named s r xs d own x q =
    ap (λ k. get k q) (at-take_named (named_at r xs) s d own x ∙ ap (λ b. cond b (kept_step (at s x) d (dots_at (named_at r xs) x) own) (at s x)) (lists_named r xs x))
    ∙ elim (is_in xs x) as (λ b. get (cond b (kept_step (at s x) d (dots_at (named_at r xs) x) own) (at s x)) q ≡ cond b (given (same_dot d q) own (cond (has_dot (dots_at (named_at r xs) x) q) None (get (at s x) q))) (get (at s x) q)) [
      | true ↦ get-kept_step (at s x) d (dots_at (named_at r xs) x) own q
      | false ↦ refl
    ]
    ∙ ap (λ c. cond (is_in xs x) (given (same_dot d q) own (cond c None (get (at s x) q))) (get (at s x) q)) (dots_named r xs x q)

add_case : (b l k : Bool) (o : Option Bool) → cond l (given b (Some true) (cond (l && k) None o)) o ≡ given b (cond l (Some true) None) (cond ((l || (false || false)) && k) None o)
add_case b true k o = refl
add_case true false k o = refl
add_case false false k o = refl

remove_case : (b l k : Bool) (own : Option Bool) (o : Option Bool) → cond l (given b own (cond (l && k) None o)) o ≡ given b (cond l own None) (cond ((false || (l || false)) && k) None o)
remove_case b true k own o = refl
remove_case true false k own o = refl
remove_case false false k own o = refl

reset_case : (b l k : Bool) (o : Option Bool) → (l ≡ false → k ≡ false) → cond l (given b None (cond (l && k) None o)) o ≡ given b None (cond k None o)
reset_case true true k o f = refl
reset_case false true k o f = refl
reset_case true false k o f = ap (λ c. cond c None o) (sym (f refl))
reset_case false false k o f = ap (λ c. cond c None o) (sym (f refl))

other_case : (b : Bool) (o : Option Bool) → o ≡ given b None o
other_case true o = refl
other_case false o = refl

none_kept : (r : Elements) (x : List ℕ) (q : Dot) (o : Option (KeptAt Bool)) → is_some o ≡ false → is_kept (unwrap_or o empty) q ≡ false
none_kept r x q None h = ap is_some (get-empty dot_cmp q)
none_kept r x q (Some k) h = absurd (true≢false h)

-- a key that doesn't stand keeps nothing
absent : (r : Elements) (x : List ℕ) (q : Dot) → is_in (keys r) x ≡ false → is_kept (at r x) q ≡ false
absent r x q h = none_kept r x q (get r x) (contains_key-keys r x ∙ h)

set_sees : (w : Bool) (s r : Elements) (d : Dot) (a : Act) (x : List ℕ) (q : Dot) → get (at (set_step w s d (set_made r a)) x) q ≡ given (same_dot d q) (set_given w x a) (cond (undoes (adds x) (removes x) a && is_some (get (at r x) q)) None (get (at s x) q))
set_sees w s r d (act.Add xs) x q =
    at_named s r (ascending xs) d (Some true) x q
    ∙ ap (λ l. cond l (given (same_dot d q) (Some true) (cond (l && is_kept (at r x) q) None (get (at s x) q))) (get (at s x) q)) (in_ascending xs x)
    ∙ add_case (same_dot d q) (is_in xs x) (is_kept (at r x) q) (get (at s x) q)
set_sees w s r d (act.Remove xs) x q =
    at_named s r (ascending xs) d (remove_own w) x q
    ∙ ap (λ l. cond l (given (same_dot d q) (remove_own w) (cond (l && is_kept (at r x) q) None (get (at s x) q))) (get (at s x) q)) (in_ascending xs x)
    ∙ remove_case (same_dot d q) (is_in xs x) (is_kept (at r x) q) (remove_own w) (get (at s x) q)
set_sees w s r d act.Reset x q =
    at_named s r (keys r) d None x q
    ∙ reset_case (same_dot d q) (is_in (keys r) x) (is_kept (at r x) q) (get (at s x) q) (absent r x q)
set_sees w s r d _ x q = other_case (same_dot d q) (get (at s x) q)

names_held : (s : Elements) (a : Act) (q : Dot) → names_dot (named_of (set_made s a)) q ≡ true → keeps_dot s q ≡ true
names_held s (act.Add xs) q h = names_kept s (ascending xs) q h
names_held s (act.Remove xs) q h = names_kept s (ascending xs) q h
names_held s act.Reset q h = names_kept s (keys s) q h
names_held s _ q h = absurd (false≢true h)

set_steps : (w : Bool) (k : Kind) → KeepsSteps empty (set_step w) (made_by kind_made k) set_names keeps_dot
set_steps w k = record {
  swaps = λ s a b d e apart na nb. take_swaps s d e (named_of a) (named_of b) (set_own w a) (set_own w b) apart na nb;
  named = λ s u d h. names_held s u.act d h;
  held = λ s d e x h. take_held s d (set_own w e) (named_of e) x h;
  none_held = keeps_none;
}

by_act : (given_by : Act → Option Bool) (t : Bool → Bool) (acts : Act → Bool) (k : Update → Bool) → ((a : Act) → holding t (given_by a) ≡ acts a) → (vs : List Update) → list_any (λ u. holding t (given_by u.act) && k u) vs ≡ list_any (λ u. acts u.act && k u) vs
by_act given_by t acts k is [] = refl
by_act given_by t acts k is (v ∷ vs) = λ i. (is v.act i && k v) || by_act given_by t acts k is vs i

-- whether a test holds of something kept of an element
kept_any : (x : List ℕ) (given_by : Act → Option Bool) (t : Bool → Bool) (acts : Act → Bool) → ((a : Act) → holding t (given_by a) ≡ acts a) → (us : List Update) → IsHistory us → (m : KeptAt Bool)
    → ((q : Dot) → get m q ≡ left (λ u. given_by u.act) (takes x) (λ _. true) us q) → list_any (λ e. t e.1) (entries m) ≡ list_any (λ u. acts u.act && stays (takes x) us u) us
kept_any x given_by t acts is us h m k =
    any_same (λ e. t e.1) _ _ (kept_entries (λ u. given_by u.act) (takes x) us h m k) ∙ any_pairs t (λ u. given_by u.act) (stays (takes x) us) us ∙ by_act given_by t acts (stays (takes x) us) is us

marks : (l : Bool) → holding (λ b. b) (cond l (Some true) None) ≡ l
marks true = refl
marks false = refl

no_marks : (l : Bool) → holding not (cond l (Some true) None) ≡ false
no_marks true = refl
no_marks false = refl

unmarks : (l : Bool) → holding not (cond l (Some false) None) ≡ l
unmarks true = refl
unmarks false = refl

no_unmarks : (w l : Bool) → holding (λ b. b) (cond l (remove_own w) None) ≡ false
no_unmarks w false = refl
no_unmarks false true = refl
no_unmarks true true = refl

set_marks : (w : Bool) (x : List ℕ) (a : Act) → holding (λ b. b) (set_given w x a) ≡ adds x a
set_marks w x (act.Add xs) = marks (is_in xs x)
set_marks w x (act.Remove xs) = no_unmarks w (is_in xs x)
set_marks w x _ = refl

set_unmarks : (x : List ℕ) (a : Act) → holding not (set_given true x a) ≡ removes x a
set_unmarks x (act.Add xs) = no_marks (is_in xs x)
set_unmarks x (act.Remove xs) = unmarks (is_in xs x)
set_unmarks x _ = refl

none_at : (x : List ℕ) (q : Dot) → get (at empty x) q ≡ None
none_at x q = ap (λ (k : KeptAt Bool). get k q) (at_none x) ∙ get-empty dot_cmp q

abbrev after : Bool → Kind → List Update → Elements
after w k us = state_after empty (set_step w) (made_by kind_made k) us

kept_at : (w : Bool) (k : Kind) (us : List Update) → IsHistory us → (x : List ℕ) (q : Dot) → get (at (after w k us) x) q ≡ left (λ u. set_given w x u.act) (takes x) (λ _. true) us q
kept_at w k us h x = kept_after empty (set_step w) (made_by kind_made k) (λ u. set_given w x u.act) (takes x) (λ s q. get (at s x) q) (none_at x) (λ s r u q. set_sees w s r u.dot u.act x q) us h

-- of an element, the adds are kept that no add, remove or reset has seen, and where removes win, such removes too
marked : (w : Bool) (k : Kind) (us : List Update) → IsHistory us → (x : List ℕ) → has_marked (at (after w k us) x) ≡ list_any (λ u. adds x u.act && stays (takes x) us u) us
marked w k us h x = kept_any x (set_given w x) (λ b. b) (adds x) (set_marks w x) us h _ (kept_at w k us h x)

unmarked : (k : Kind) (us : List Update) → IsHistory us → (x : List ℕ) → has_unmarked (at (after true k us) x) ≡ list_any (λ u. removes x u.act && stays (takes x) us u) us
unmarked k us h x = kept_any x (set_given true x) not (removes x) (set_unmarks x) us h _ (kept_at true k us h x)

-- a test of what stands at a key
abbrev tests : (KeptAt Bool → Bool) → Option (KeptAt Bool) → Bool
tests test None = false
tests test (Some k) = test k

not_there : (test : KeptAt Bool → Bool) (es : List (List ℕ × KeptAt Bool)) (x : List ℕ) → find text_cmp x es ≡ None → is_in (map (λ e. e.0) (filter (λ e. test e.1) es)) x ≡ false
not_there test [] x h = refl
not_there test (e ∷ es) x h =
    elim (same_text x e.0) as (λ b. same_text x e.0 ≡ b → cond b (Some e.1) (find text_cmp x es) ≡ None → is_in (map (λ e. e.0) (cond (test e.1) (e ∷ filter (λ e. test e.1) es) (filter (λ e. test e.1) es))) x ≡ false) [
      | true ↦ λ s k. absurd (true≢false (ap is_some k))
      | false ↦ λ s k. elim (test e.1) as (λ b. is_in (map (λ e. e.0) (cond b (e ∷ filter (λ e. test e.1) es) (filter (λ e. test e.1) es))) x ≡ false) [
        | true ↦ or_from _ _ s (not_there test es x k)
        | false ↦ not_there test es x k
      ]
    ] refl h

there : (test : KeptAt Bool → Bool) (es : List (List ℕ × KeptAt Bool)) → IsDistinct text_cmp es → (x : List ℕ) → is_in (map (λ e. e.0) (filter (λ e. test e.1) es)) x ≡ tests test (find text_cmp x es)
there test [] d x = refl
there test (e ∷ es) d x =
    elim (same_text x e.0) as (λ b. same_text x e.0 ≡ b → is_in (map (λ e. e.0) (cond (test e.1) (e ∷ filter (λ e. test e.1) es) (filter (λ e. test e.1) es))) x ≡ tests test (cond b (Some e.1) (find text_cmp x es))) [
      | true ↦ λ s. let none = not_there test es x (ap (λ y. find text_cmp y es) (same_text_is x e.0 s) ∙ d.0) in
          elim (test e.1) as (λ b. is_in (map (λ e. e.0) (cond b (e ∷ filter (λ e. test e.1) es) (filter (λ e. test e.1) es))) x ≡ b) [ true ↦ ap (λ c. c || is_in (map (λ e. e.0) (filter (λ e. test e.1) es)) x) s | false ↦ none ]
      | false ↦ λ s. let rest = there test es d.1 x in
          elim (test e.1) as (λ b. is_in (map (λ e. e.0) (cond b (e ∷ filter (λ e. test e.1) es) (filter (λ e. test e.1) es))) x ≡ tests test (find text_cmp x es)) [ true ↦ ap (λ c. c || is_in (map (λ e. e.0) (filter (λ e. test e.1) es)) x) s ∙ rest | false ↦ rest ]
    ] refl

tests_is : (test : KeptAt Bool → Bool) → test empty ≡ false → (o : Option (KeptAt Bool)) → tests test o ≡ test (unwrap_or o empty)
tests_is test h None = sym h
tests_is test h (Some k) = refl

-- an element passes by what is kept of it
in_passing : (test : KeptAt Bool → Bool) → test empty ≡ false → (m : Elements) (x : List ℕ) → is_in (passing test m) x ≡ test (at m x)
in_passing test h m x = there test (entries m) (distinct_entries m) x ∙ ap (tests test) (sym (get-entries m x)) ∙ tests_is test h (get m x)

both_hold : (a b : Bool) → (b ≡ true → a ≡ true) → b ≡ (a && b)
both_hold true b f = refl
both_hold false true f = sym (f refl)
both_hold false false f = refl

shown : (test : KeptAt Bool → Bool) → test empty ≡ false → (p : List ℕ → Bool) (us : List Update) (m : Elements) → ((x : List ℕ) → test (at m x) ≡ p x) → ((x : List ℕ) → p x ≡ true → is_in (added us) x ≡ true) → passing test m ≡ ascending (filter p (added us))
shown test h p us m is some =
    sym (ascending_sorted (λ e. test e.1) (entries m) (entries_sorted m))
    ∙ same_ascending _ _ (λ x. in_passing test h m x ∙ is x ∙ both_hold (is_in (added us) x) (p x) (some x) ∙ sym (in_filter p (added us) x))

aw_some : (us : List Update) (x : List ℕ) → add_wins (adds x) (removes x) us ≡ true → is_in (added us) x ≡ true
aw_some us x e =
    let w = one_of (λ a. lives (adds x) us a && not (list_any (λ r. lives (removes x) us r && sees r a.dot) us)) us e in
    in_added us x ∙ any_of (λ u. adds x u.act) us w.0 w.1 (and_parts (adds x w.0.act) (is_live us w.0) (and_parts (lives (adds x) us w.0) _ w.2).0).0

rw_some : (us : List Update) (x : List ℕ) → remove_wins (adds x) (removes x) us ≡ true → is_in (added us) x ≡ true
rw_some us x e =
    let w = one_of (lives (adds x) us) us (and_parts (list_any (lives (adds x) us) us) _ e).0 in
    in_added us x ∙ any_of (λ u. adds x u.act) us w.0 w.1 (and_parts (adds x w.0.act) (is_live us w.0) w.2).0

no_any : {A : Type 0} (t : A → Bool) (xs : List A) → length xs ≡ 0 → list_any t xs ≡ false
no_any t [] h = refl
no_any t (x ∷ xs) h = absurd (omega arith)

marks_none : has_marked empty ≡ false
marks_none = no_any (λ e. e.1) (entries empty) (sym (len-entries empty) ∙ len-empty dot_cmp Bool)

set_means : (w : Bool) (k : Kind) (us : List Update) → IsHistory us → set_value w (after w k us) ≡ set_meaning w k us
set_means false k us h =
    ap Words (shown (shows false) marks_none (λ x. add_wins (adds x) (removes x) us) us _ (λ x. marked false k us h x ∙ add_stays (adds x) (removes x) us h) (aw_some us))
set_means true k us h =
    ap Words (shown (shows true) (ap (λ b. b && not (has_unmarked empty)) marks_none) (λ x. remove_wins (adds x) (removes x) us) us _
    (λ x. (λ i. marked true k us h x i && not (unmarked k us h x i)) ∙ remove_stays (adds x) (removes x) us h) (rw_some us))

-- both kinds have no fields and no stamps, and their effects depend on the state
kind_is : (w : Bool) → IsLeaf (set_kind w) × (same_kind (set_kind w) RegisterLww ≡ false) × (reads_state (set_kind w) ≡ true) × (allows (set_kind w) act.Reset ≡ true)
kind_is false = (λ l. refl, refl, refl, refl)
kind_is true = (λ l. refl, refl, refl, refl)

-- a reset names all that the set holds
all_named : (s : Elements) (d : Dot) → keeps_dot s d ≡ true → names_dot (named_at s (keys s)) d ≡ true
all_named s d h =
    let w = kept_of_some s d h in
    kept_names s (keys s) w.0 d (true_from_ne_false _ (λ out. true≢false (sym w.1 ∙ absent s w.0 d out))) w.1

pub set_law : (w : Bool) → KeepsLaw (set_has w) (λ k p. false) (λ k. empty) (set_step w) kind_made (set_value w) no_stamp (set_meaning w) set_names keeps_dot
set_law w = record {
  means = λ k us has h fit stamped. set_means w k us h;
  stamps = λ k u us has h fit stamped. let same = same_kind_is k (set_kind w) has in
      no_stamp_due (λ k p. false) k (subst IsLeaf (sym same) (kind_is w).0) (ap (λ l. same_kind l RegisterLww) same ∙ (kind_is w).1) u us fit;
  confluent = λ k us vs has. confluence empty (set_step w) kind_made k set_names keeps_dot (set_steps w k) us vs;
  orderless = λ k us vs has s. set_orderless w k us vs s;
  unread = λ k s t p a n has r. absurd (true≢false (sym (ap reads_state (same_kind_is k (set_kind w) has) ∙ (kind_is w).2) ∙ r));
  steps = λ k has. set_steps w k;
  nameable = λ k us d has fit h. ([], act.Reset, ap (λ l. allows l act.Reset) (same_kind_is k (set_kind w) has) ∙ (kind_is w).3, refl, λ n. all_named _ d h);
}

-- nothing is named where no element stands
no_named : (s t : Elements) (d : Dot) (own : Option Bool) → lacks_all s ≡ true → take_named t d own (named_at s (keys s)) ≡ t
no_named s t d own h = ap (λ xs. take_named t d own (named_at s xs)) (no_keys s h)

pub set_in_maps : (w : Bool) → KeepsInMaps (set_has w) (λ k p. false) (λ k. empty) (set_step w) kind_made lacks_all
set_in_maps w = record {
  first_blank = λ k has. empty_none text_cmp (KeptAt Bool);
  undoes_none = λ k s t d n has resets blank. no_named s t d None blank;
  shallow = λ k. refl;
  flat = λ k p has out. refl;
}
