-- Which of two acts wins, told by what stays of them.
use Rattle.std.proofs.Common.{◌≡◌, Bool, true, false, not, ◌&&◌, ◌||◌, List, [], ◌∷◌, refl, sym, ap, ◌∙◌, ⊎_elim}
use Rattle.std.specs.List.{list_any, list_all}
use Rattle.std.proofs.lemmas.Bool.{true≢false, or_cases, or_left, or_right, and_parts, and_from, cases_Bool, true_from_ne_false, not-true, not-false, not_from_false}
use Rattle.crdt_core.specs.declared.operation.Act.{Act}
use Rattle.crdt_core.specs.Same.{Same}
use Rattle.crdt_core.specs.Seen.{Update, sees, is_reset, is_live}
use Rattle.crdt_core.specs.History.{IsHistory}
use Rattle.crdt_core.proofs.Live.{live_same}
use Rattle.crdt_core.proofs.Confluence.{any_same}
use Rattle.crdt_core.proofs.KeptKinds.{stays}
use Rattle.crdt_core.proofs.Members.{In, any_of, one_of, none_of, clash, all_of, each_of, passes_on, newest}
use Rattle.crdt_core.specs.Wins.{lives, add_wins, remove_wins}

pub same_truth : (a b : Bool) → (a ≡ true → b ≡ true) → (b ≡ true → a ≡ true) → a ≡ b
same_truth true true f g = refl
same_truth true false f g = sym (f refl)
same_truth false true f g = g refl
same_truth false false f g = refl

-- the acts that take out what they have seen
abbrev pub undoes : (Act → Bool) → (Act → Bool) → Act → Bool
undoes adds removes a = adds a || (removes a || is_reset a)

abbrev pub stays_of : (Act → Bool) → (Act → Bool) → List Update → Update → Bool
stays_of adds removes us u = stays (λ v. undoes adds removes v.act) us u

module _ (adds removes : Act → Bool) (us : List Update) (h : IsHistory us) where
  abbrev takes : Update → Bool
  takes v = undoes adds removes v.act

  -- a live update is seen by no reset, and no more are those that it has seen
  dead : {P : Type 0} (u r : Update) → In r us → is_live us u ≡ true → is_reset r.act ≡ true → sees r u.dot ≡ true → P
  dead u r i live reset see = clash (λ r. is_reset r.act && sees r u.dot) us r (not-true _ live) i (and_from _ _ reset see)

  -- one that a reset has seen
  reset_of : (u : Update) → is_live us u ≡ false → (r : Update) × In r us × ((is_reset r.act && sees r u.dot) ≡ true)
  reset_of u h = one_of (λ r. is_reset r.act && sees r u.dot) us (not-false _ h)

  -- who has seen a live update lives
  pub lives_on : (u x : Update) → In u us → In x us → is_live us u ≡ true → sees x u.dot ≡ true → is_live us x ≡ true
  lives_on u x i j live see = true_from_ne_false _ (λ f. let w = reset_of x f in let two = and_parts (is_reset w.0.act) (sees w.0 x.dot) w.2 in dead u w.0 w.1 live two.0 (passes_on us h w.0 x w.1 j two.1 u.dot see))

  pub stays_lives : (u : Update) → stays takes us u ≡ true → is_live us u ≡ true
  stays_lives u s = ap not (none_of (λ r. is_reset r.act && sees r u.dot) us (λ r i t.
      let two = and_parts (is_reset r.act) (sees r u.dot) t in
      clash (λ r. takes r && sees r u.dot) us r (not-true _ s) i (and_from _ _ (or_right (adds r.act) _ (or_right (removes r.act) _ two.0)) two.1)))

  -- a live update that none sees who adds or removes stays
  pub stays_if : (u : Update) → is_live us u ≡ true → ((x : Update) → In x us → sees x u.dot ≡ true → adds x.act ≡ true → ⊥) → ((x : Update) → In x us → sees x u.dot ≡ true → removes x.act ≡ true → ⊥) → stays takes us u ≡ true
  stays_if u live no_add no_remove = ap not (none_of (λ r. takes r && sees r u.dot) us (λ x i t.
      let two = and_parts (takes x) (sees x u.dot) t in
      ⊎_elim (no_add x i two.1) (λ rest. ⊎_elim (no_remove x i two.1) (λ reset. dead u x i live reset two.1) (or_cases (removes x.act) (is_reset x.act) rest)) (or_cases (adds x.act) (removes x.act || is_reset x.act) two.0)))

  pub not_stays : {P : Type 0} (u x : Update) → In x us → stays takes us u ≡ true → sees x u.dot ≡ true → takes x ≡ true → P
  not_stays u x i s see t = clash (λ r. takes r && sees r u.dot) us x (not-true _ s) i (and_from _ _ t see)

  pub adds_takes : (x : Update) → adds x.act ≡ true → takes x ≡ true
  adds_takes x a = or_left (adds x.act) _ a

  removes_takes : (x : Update) → removes x.act ≡ true → takes x ≡ true
  removes_takes x r = or_right (adds x.act) _ (or_left (removes x.act) _ r)

  won_by_stay : list_any (λ a. adds a.act && stays takes us a) us ≡ true → add_wins adds removes us ≡ true
  won_by_stay e =
      let w = one_of (λ a. adds a.act && stays takes us a) us e in
      let two = and_parts (adds w.0.act) (stays takes us w.0) w.2 in
      any_of (λ a. lives adds us a && not (list_any (λ r. lives removes us r && sees r a.dot) us)) us w.0 w.1
      (and_from _ _ (and_from _ _ two.0 (stays_lives w.0 two.1))
      (ap not (none_of (λ r. lives removes us r && sees r w.0.dot) us (λ r i t.
      let parts = and_parts (lives removes us r) (sees r w.0.dot) t in
      not_stays w.0 r i two.1 parts.1 (removes_takes r (and_parts (removes r.act) (is_live us r) parts.0).0)))))

  stay_by_won : add_wins adds removes us ≡ true → list_any (λ a. adds a.act && stays takes us a) us ≡ true
  stay_by_won e =
      let w = one_of (λ a. lives adds us a && not (list_any (λ r. lives removes us r && sees r a.dot) us)) us e in
      let a = w.0 in
      let two = and_parts (lives adds us a) _ w.2 in
      let add = and_parts (adds a.act) (is_live us a) two.0 in
      let unseen : list_any (λ r. lives removes us r && sees r a.dot) us ≡ false = not-true _ two.1 in
      let no_remove : (x : Update) → In x us → sees x a.dot ≡ true → removes x.act ≡ true → ⊥ = λ x i see r. clash (λ r. lives removes us r && sees r a.dot) us x unseen i (and_from _ _ (and_from _ _ r (lives_on a x w.1 i add.1 see)) see) in
      ⊎_elim
      (λ some.
      let n = newest (λ v. adds v.act && sees v a.dot) us h some in
      let b = n.0 in
      let both = and_parts (adds b.act) (sees b a.dot) n.2 in
      any_of (λ a. adds a.act && stays takes us a) us b n.1 (and_from _ _ both.0 (stays_if b (lives_on a b w.1 n.1 add.1 both.1)
      (λ x i see t. clash (λ v. (adds v.act && sees v a.dot) && sees v b.dot) us x n.3 i (and_from _ _ (and_from _ _ t (passes_on us h x b i n.1 see a.dot both.1)) see))
      (λ x i see t. no_remove x i (passes_on us h x b i n.1 see a.dot both.1) t))))
      (λ none. any_of (λ a. adds a.act && stays takes us a) us a w.1 (and_from _ _ add.0 (stays_if a add.1
      (λ x i see t. clash (λ v. adds v.act && sees v a.dot) us x none i (and_from _ _ t see))
      no_remove)))
      (cases_Bool (list_any (λ v. adds v.act && sees v a.dot) us))

  -- an add wins where an add stays
  pub add_stays : list_any (λ a. adds a.act && stays takes us a) us ≡ add_wins adds removes us
  add_stays = same_truth _ _ won_by_stay stay_by_won

  abbrev some_stay : (Act → Bool) → Bool
  some_stay acts = list_any (λ a. acts a.act && stays takes us a) us

  abbrev answered : Update → Bool
  answered r = not (lives removes us r) || list_any (λ a. lives adds us a && sees a r.dot) us

  -- where adds stay and removes don't, each live remove has been seen by a live add
  answer : some_stay removes ≡ false → (r : Update) → In r us → removes r.act ≡ true → is_live us r ≡ true → list_any (λ a. lives adds us a && sees a r.dot) us ≡ true
  answer none r i rem live = ⊎_elim
      (λ some.
      let n = newest (λ v. (adds v.act || removes v.act) && sees v r.dot) us h some in
      let b = n.0 in
      let two = and_parts (adds b.act || removes b.act) (sees b r.dot) n.2 in
      let alive = lives_on r b i n.1 live two.1 in
      let later : (x : Update) → In x us → sees x b.dot ≡ true → (adds x.act || removes x.act) ≡ true → ⊥ = λ x j see t. clash (λ v. ((adds v.act || removes v.act) && sees v r.dot) && sees v b.dot) us x n.3 j (and_from _ _ (and_from _ _ t (passes_on us h x b j n.1 see r.dot two.1)) see) in
      let kept = stays_if b alive (λ x j see t. later x j see (or_left (adds x.act) _ t)) (λ x j see t. later x j see (or_right (adds x.act) _ t)) in
      ⊎_elim
      (λ add. any_of (λ a. lives adds us a && sees a r.dot) us b n.1 (and_from _ _ (and_from _ _ add alive) two.1))
      (λ remove. clash (λ a. removes a.act && stays takes us a) us b none n.1 (and_from _ _ remove kept))
      (or_cases (adds b.act) (removes b.act) two.0))
      (λ nobody.
      let later : (x : Update) → In x us → sees x r.dot ≡ true → (adds x.act || removes x.act) ≡ true → ⊥ = λ x j see t. clash (λ v. (adds v.act || removes v.act) && sees v r.dot) us x nobody j (and_from _ _ t see) in
      let kept = stays_if r live (λ x j see t. later x j see (or_left (adds x.act) _ t)) (λ x j see t. later x j see (or_right (adds x.act) _ t)) in
      clash (λ a. removes a.act && stays takes us a) us r none i (and_from _ _ rem kept))
      (cases_Bool (list_any (λ v. (adds v.act || removes v.act) && sees v r.dot) us))

  answered_by : some_stay removes ≡ false → (r : Update) → In r us → answered r ≡ true
  answered_by none r i = ⊎_elim
      (λ t. let two = and_parts (removes r.act) (is_live us r) t in or_right (not (lives removes us r)) _ (answer none r i two.0 two.1))
      (λ f. or_left (not (lives removes us r)) _ (not_from_false _ f))
      (cases_Bool (lives removes us r))

  lost_by_stay : (some_stay adds && not (some_stay removes)) ≡ true → remove_wins adds removes us ≡ true
  lost_by_stay e =
      let two = and_parts (some_stay adds) (not (some_stay removes)) e in
      let w = one_of (λ a. adds a.act && stays takes us a) us two.0 in
      let add = and_parts (adds w.0.act) (stays takes us w.0) w.2 in
      and_from _ _ (any_of (lives adds us) us w.0 w.1 (and_from _ _ add.0 (stays_lives w.0 add.1))) (all_of answered us (answered_by (not-true _ two.1)))

  -- a live remove is one that a live add has seen
  seen_by_add : list_all answered us ≡ true → (r : Update) → In r us → lives removes us r ≡ true → list_any (λ a. lives adds us a && sees a r.dot) us ≡ true
  seen_by_add all r i l = ⊎_elim (λ t. absurd (true≢false (sym l ∙ not-true _ t))) (λ t. t) (or_cases (not (lives removes us r)) _ (each_of answered us r all i))

  stay_by_lost : remove_wins adds removes us ≡ true → (some_stay adds && not (some_stay removes)) ≡ true
  stay_by_lost e =
      let two = and_parts (list_any (lives adds us) us) (list_all answered us) e in
      let n = newest (lives adds us) us h two.0 in
      let a = n.0 in
      let add = and_parts (adds a.act) (is_live us a) n.2 in
      and_from _ _
      (any_of (λ a. adds a.act && stays takes us a) us a n.1 (and_from _ _ add.0 (stays_if a add.1
      (λ x i see t. clash (λ v. lives adds us v && sees v a.dot) us x n.3 i (and_from _ _ (and_from _ _ t (lives_on a x n.1 i add.1 see)) see))
      (λ x i see t.
      let w = one_of (λ b. lives adds us b && sees b x.dot) us (seen_by_add two.1 x i (and_from _ _ t (lives_on a x n.1 i add.1 see))) in
      let parts = and_parts (lives adds us w.0) (sees w.0 x.dot) w.2 in
      clash (λ v. lives adds us v && sees v a.dot) us w.0 n.3 w.1 (and_from _ _ parts.0 (passes_on us h w.0 x w.1 i parts.1 a.dot see))))))
      (ap not (none_of (λ r. removes r.act && stays takes us r) us (λ r i t.
      let parts = and_parts (removes r.act) (stays takes us r) t in
      let w = one_of (λ b. lives adds us b && sees b r.dot) us (seen_by_add two.1 r i (and_from _ _ parts.0 (stays_lives r parts.1))) in
      let both = and_parts (lives adds us w.0) (sees w.0 r.dot) w.2 in
      not_stays r w.0 w.1 parts.1 both.1 (adds_takes w.0 (and_parts (adds w.0.act) (is_live us w.0) both.0).0))))

  -- a remove loses where an add stays and no remove does
  pub remove_stays : (some_stay adds && not (some_stay removes)) ≡ remove_wins adds removes us
  remove_stays = same_truth _ _ lost_by_stay stay_by_lost

pub any_by : (p q : Update → Bool) → ((u : Update) → p u ≡ q u) → (us : List Update) → list_any p us ≡ list_any q us
any_by p q f [] = refl
any_by p q f (u ∷ us) = λ i. f u i || any_by p q f us i

all_by : (p q : Update → Bool) → ((u : Update) → p u ≡ q u) → (us : List Update) → list_all p us ≡ list_all q us
all_by p q f [] = refl
all_by p q f (u ∷ us) = λ i. f u i && all_by p q f us i

either : (a b : Bool) → (a && not b) ≡ not (not a || b)
either true b = refl
either false b = refl

all_any : (p : Update → Bool) (us : List Update) → list_all p us ≡ not (list_any (λ u. not (p u)) us)
all_any p [] = refl
all_any p (u ∷ us) = ap (λ b. p u && b) (all_any p us) ∙ either (p u) (list_any (λ u. not (p u)) us)

all_same : (p : Update → Bool) (us vs : List Update) → Same us vs → list_all p us ≡ list_all p vs
all_same p us vs s = all_any p us ∙ ap not (any_same (λ u. not (p u)) us vs s) ∙ sym (all_any p vs)

-- who wins depends on no order
pub add_wins_same : (adds removes : Act → Bool) (us vs : List Update) → Same us vs → add_wins adds removes us ≡ add_wins adds removes vs
add_wins_same adds removes us vs s =
    any_by _ _ (λ a i. (adds a.act && live_same us vs s a i) && not ((any_by (λ r. lives removes us r && sees r a.dot) (λ r. lives removes vs r && sees r a.dot) (λ r j. (removes r.act && live_same us vs s r j) && sees r a.dot) us ∙ any_same (λ r. lives removes vs r && sees r a.dot) us vs s) i)) us
    ∙ any_same (λ a. lives adds vs a && not (list_any (λ r. lives removes vs r && sees r a.dot) vs)) us vs s

pub remove_wins_same : (adds removes : Act → Bool) (us vs : List Update) → Same us vs → remove_wins adds removes us ≡ remove_wins adds removes vs
remove_wins_same adds removes us vs s =
    (λ i. (any_by (lives adds us) (lives adds vs) (λ a j. adds a.act && live_same us vs s a j) us ∙ any_same (lives adds vs) us vs s) i
    && (all_by _ _ (λ r j. not (removes r.act && live_same us vs s r j) || (any_by (λ a. lives adds us a && sees a r.dot) (λ a. lives adds vs a && sees a r.dot) (λ a k. (adds a.act && live_same us vs s a k) && sees a r.dot) us ∙ any_same (λ a. lives adds vs a && sees a r.dot) us vs s) j) us
    ∙ all_same (λ r. not (lives removes vs r) || list_any (λ a. lives adds vs a && sees a r.dot) vs) us vs s) i)
