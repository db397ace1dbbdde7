-- The participants of a transaction, as its session counts them and as the world does.
use Rattle.std.proofs.Common.{◌≡◌, ⊎_elim, ℕ, zero, suc, ◌+◌, ◌<◌, ◌≤◌, cond, Bool, true, false, List, [], ◌∷◌, ◌++◌, length, refl, sym, ap, ◌∙◌, subst, arith}
use Rattle.std.specs.Prelude.{◌||◌, ◌&&◌, ◌==◌, filter, map, ⊤}
use Rattle.std.proofs.lemmas.Bool.{cases_Bool, cond-true, cond-false, eq-eqb, eqb-true, or_left, or_right, or_cases, and_from, true≢false, ne_eqb, le-leb}
use Rattle.std.proofs.lemmas.List.Folds.{list_any-append}
use Rattle.site_vector.specs.declared.ids.PartId.{PartId}
use Rattle.crdt_core.specs.declared.record.Upd.{Upd}
use Rattle.world_model.specs.lines.Places.{partitions, first_of, home}
use Rattle.world_model.specs.rules.Plan.{is_some_update, updates_at}
use Rattle.world_model.specs.rules.World.{snapshot_of, is_own, changes_of, participants_of, lead_of}
use Rattle.txn_session.specs.Calls.{Call, entries}
use Rattle.txn_session.specs.Session.{Txn, updates_of, is_placed_at, numbers_from, participants}
use Rattle.txn_session.specs.Holds.{HoldsTxn, changed_at, has, has_place}
use Rattle.txn_session.proofs.Updating.{place_within}

pub has_append : (xs ys : List ℕ) (q : ℕ) → has (xs ++ ys) q ≡ (has xs q || has ys q)
has_append xs ys q = list_any-append (λ x. x == q) xs ys

pub has_first : (p : ℕ) (xs : List ℕ) → has (p ∷ xs) p ≡ true
has_first p xs = or_left _ _ (eq-eqb p p refl)

pub has_there : (v : List ℕ) (p : ℕ) (left : List ℕ) → has (v ++ p ∷ left) p ≡ true
has_there v p left = has_append v (p ∷ left) p ∙ or_right _ _ (has_first p left)

-- numbers in a row
pub numbers_within : (first n q : ℕ) → has (numbers_from first n) q ≡ true → (first ≤ q) × (q < first + n)
numbers_within first zero q h = absurd (true≢false (sym h))
numbers_within first (suc n) q h = ⊎_elim
    (λ (e : (first == q) ≡ true). let k : first ≡ q = eqb-true first q e in (omega arith, omega arith))
    (λ (e : has (numbers_from (first + 1) n) q ≡ true). let k = numbers_within (first + 1) n q e in let a = k.0 in let b = k.1 in (omega arith, omega arith))
    (or_cases _ _ h)

pub numbers_has : (first n q : ℕ) → first ≤ q → q < first + n → has (numbers_from first n) q ≡ true
numbers_has first zero q a b = absurd (omega arith)
numbers_has first (suc n) q a b = ⊎_elim
    (λ (e : (first == q) ≡ true). or_left _ _ e)
    (λ (e : (first == q) ≡ false). or_right _ _ (numbers_has (first + 1) n q (let k : first ≡ q → ⊥ = λ x. true≢false (sym (eq-eqb first q x) ∙ e) in omega (arith, k)) (omega arith)))
    (cases_Bool (first == q))

module _ (f : ℕ → Bool) where
  filtered_has : (xs : List ℕ) (q : ℕ) → has (filter f xs) q ≡ true → (has xs q ≡ true) × (f q ≡ true)
  filtered_has [] q h = absurd (true≢false (sym h))
  filtered_has (x ∷ xs) q h = ⊎_elim
      (λ (k : f x ≡ true).
      ⊎_elim
      (λ (e : (x == q) ≡ true). (or_left _ _ e, ap f (sym (eqb-true x q e)) ∙ k))
      (λ (e : has (filter f xs) q ≡ true). let r = filtered_has xs q e in (or_right _ _ r.0, r.1))
      (or_cases _ _ (ap (λ l. has l q) (sym (cond-true _ (x ∷ filter f xs) (filter f xs) k)) ∙ h)))
      (λ (k : f x ≡ false). let r = filtered_has xs q (ap (λ l. has l q) (sym (cond-false _ (x ∷ filter f xs) (filter f xs) k)) ∙ h) in (or_right _ _ r.0, r.1))
      (cases_Bool (f x))

  has_filtered : (xs : List ℕ) (q : ℕ) → has xs q ≡ true → f q ≡ true → has (filter f xs) q ≡ true
  has_filtered [] q h k = absurd (true≢false (sym h))
  has_filtered (x ∷ xs) q h k = ⊎_elim
      (λ (e : (x == q) ≡ true). ap (λ l. has l q) (cond-true _ (x ∷ filter f xs) (filter f xs) (ap f (eqb-true x q e) ∙ k)) ∙ or_left _ _ e)
      (λ (e : has xs q ≡ true). kept (f x) x (filter f xs) (has_filtered xs q e k))
      (or_cases _ _ h)
    where
      kept : (b : Bool) (y : ℕ) (l : List ℕ) → has l q ≡ true → has (cond b (y ∷ l) l) q ≡ true
      kept true y l h = or_right _ _ h
      kept false y l h = h

-- each is below those behind it
abbrev pub Ascend : List ℕ → Type 0
Ascend [] = ⊤
Ascend (x ∷ xs) = ((q : ℕ) → has xs q ≡ true → x < q) × Ascend xs

ascend_numbers : (first n : ℕ) → Ascend (numbers_from first n)
ascend_numbers first zero = tt
ascend_numbers first (suc n) = (λ q h. let k = (numbers_within (first + 1) n q h).0 in omega arith, ascend_numbers (first + 1) n)

ascend_filter : (f : ℕ → Bool) (xs : List ℕ) → Ascend xs → Ascend (filter f xs)
ascend_filter f [] a = tt
ascend_filter f (x ∷ xs) a = elim (f x) as (λ b. Ascend (cond b (x ∷ filter f xs) (filter f xs))) [ true ↦ (λ q h. a.0 q (filtered_has f xs q h).0, ascend_filter f xs a.1) | false ↦ ascend_filter f xs a.1 ]

-- what comes later isn't before
pub apart_of : (v : List ℕ) (p : ℕ) (left : List ℕ) → Ascend (v ++ p ∷ left) → has v p ≡ false
apart_of [] p left a = refl
apart_of (x ∷ v) p left a =
    let k : x < p = a.0 p (has_there v p left) in
    let ne : x ≡ p → ⊥ = λ e. absurd (omega (arith, e, k)) in
    (λ i. ne_eqb x p ne i || apart_of v p left a.1 i)

abbrev pub at_site : ℕ → ℕ → PartId
at_site site q = record { site = site; part = q }

filter_places : (F : PartId → Bool) (G : ℕ → Bool) (site first n : ℕ) → ((q : ℕ) → F (at_site site q) ≡ G q) → filter F (partitions site first n) ≡ map (at_site site) (filter G (numbers_from first n))
filter_places F G site first zero e = refl
filter_places F G site first (suc n) e =
    let rest = filter_places F G site (first + 1) n e in
    (λ i. cond (e first i) (at_site site first ∷ rest i) (rest i)) ∙ mapped (G first)
  where
    mapped : (b : Bool) → cond b (at_site site first ∷ map (at_site site) (filter G (numbers_from (first + 1) n))) (map (at_site site) (filter G (numbers_from (first + 1) n))) ≡ map (at_site site) (cond b (first ∷ filter G (numbers_from (first + 1) n)) (filter G (numbers_from (first + 1) n)))
    mapped true = refl
    mapped false = refl

module _ {E : Type 0} where
  -- updates stand at partitions
  some_at : (parts q : ℕ) (us : List (Upd E)) → 1 ≤ parts → is_some_update (updates_of parts us q) ≡ true → (1 ≤ q) × (q ≤ parts)
  some_at parts q [] k h = absurd (true≢false (sym h))
  some_at parts q (u ∷ us) k h = ⊎_elim
      (λ (e : is_placed_at parts q u ≡ true).
      let w = place_within u.object.bucket u.object.key parts k in
      let is = eqb-true _ q e in
      (subst (λ n. 1 ≤ n) is w.0, subst (λ n. n ≤ parts) is w.1))
      (λ (e : is_placed_at parts q u ≡ false). some_at parts q us k (ap is_some_update (sym (cond-false _ (u ∷ updates_of parts us q) (updates_of parts us q) e)) ∙ h))
      (cases_Bool (is_placed_at parts q u))

  pub ascend_participants : (parts : ℕ) (us : List (Upd E)) → Ascend (participants parts us)
  ascend_participants parts us = ascend_filter (λ p. is_some_update (updates_of parts us p)) (numbers_from 1 parts) (ascend_numbers 1 parts)

  pub participant_within : (parts : ℕ) (us : List (Upd E)) (q : ℕ) → has (participants parts us) q ≡ true → (1 ≤ q) × (q ≤ parts)
  participant_within parts us q h =
      let w = numbers_within 1 parts q (filtered_has (λ p. is_some_update (updates_of parts us p)) (numbers_from 1 parts) q h).0 in
      let a = w.0 in
      let b = w.1 in
      (omega arith, omega arith)

  pub participant_updates : (parts : ℕ) (us : List (Upd E)) (q : ℕ) → has (participants parts us) q ≡ true → is_some_update (updates_of parts us q) ≡ true
  participant_updates parts us q h = (filtered_has (λ p. is_some_update (updates_of parts us p)) (numbers_from 1 parts) q h).1

  updates_participant : (parts : ℕ) (us : List (Upd E)) (q : ℕ) → 1 ≤ parts → is_some_update (updates_of parts us q) ≡ true → has (participants parts us) q ≡ true
  updates_participant parts us q k h =
      let w = some_at parts q us k h in
      let a = w.0 in
      let b = w.1 in
      has_filtered (λ p. is_some_update (updates_of parts us p)) (numbers_from 1 parts) q (numbers_has 1 parts q (omega arith) (omega arith)) h

  module _ (sites parts : ℕ) (name : List ℕ) (site : ℕ) (txn : Txn E) (run : List (Call E)) (h : HoldsTxn sites parts name site txn run) where
    owned : (p : PartId) → (p.site == txn.tx.site) ≡ true → is_own sites (entries run) txn.tx p ≡ true
    owned p e =
        let low : 1 ≤ txn.tx.site = h.place.least_site in
        let high : txn.tx.site ≤ sites = h.place.most_site in
        let wide : txn.tx.site ≤ length (snapshot_of (entries run) txn.tx) = subst (λ n. txn.tx.site ≤ n) (sym (ap length h.snapshot ∙ h.width)) high in
        and_from _ _ e (and_from _ _ (le-leb 1 txn.tx.site low) (and_from _ _ (le-leb txn.tx.site sites high) (le-leb txn.tx.site _ wide)))

    -- what the world says that it changed
    pub changes_are : (p : PartId) → changes_of sites (entries run) txn.tx p ≡ changed_at site parts txn.updates p
    changes_are p = ⊎_elim
        (λ (e : (p.site == txn.tx.site) ≡ true). cond-true _ (updates_at (entries run) txn.tx p) [] (owned p e) ∙ h.updates p)
        (λ (e : (p.site == txn.tx.site) ≡ false).
        let other : (site == p.site) ≡ false = ne_eqb site p.site (λ x. true≢false (sym (eq-eqb p.site txn.tx.site (sym x ∙ sym h.site_is)) ∙ e)) in
        cond-false _ (updates_at (entries run) txn.tx p) [] (and_first _ _ e) ∙ sym (cond-false _ (updates_of parts txn.updates p.part) [] other))
        (cases_Bool (p.site == txn.tx.site))
      where
        and_first : (a b : Bool) → a ≡ false → (a && b) ≡ false
        and_first a b e = ap (λ x. x && b) e

    changes_here : (q : ℕ) → changes_of sites (entries run) txn.tx (at_site site q) ≡ updates_of parts txn.updates q
    changes_here q = changes_are (at_site site q) ∙ cond-true _ (updates_of parts txn.updates q) [] (eq-eqb site site refl)

    parts_are : participants_of sites parts (entries run) txn.tx ≡ map (at_site site) (participants parts txn.updates)
    parts_are =
        ap (λ n. filter (λ p. is_some_update (changes_of sites (entries run) txn.tx p)) (partitions n 1 parts)) h.site_is
        ∙ filter_places (λ p. is_some_update (changes_of sites (entries run) txn.tx p)) (λ q. is_some_update (updates_of parts txn.updates q)) site 1 parts (λ q. ap is_some_update (changes_here q))

    -- the lead is the first of them
    pub lead_is : (p : ℕ) (ps : List ℕ) → p ∷ ps ≡ participants parts txn.updates → lead_of sites parts (entries run) txn.tx ≡ at_site site p
    lead_is p ps e = ap (first_of (home txn.tx)) (parts_are ∙ ap (map (at_site site)) (sym e))

    pub takes_at : (q : ℕ) → has (participants parts txn.updates) q ≡ true → is_some_update (changes_of sites (entries run) txn.tx (at_site site q)) ≡ true
    takes_at q k = ap is_some_update (changes_here q) ∙ participant_updates parts txn.updates q k

    pub changes_at_is : (q : ℕ) → updates_of parts txn.updates q ≡ changes_of sites (entries run) txn.tx (at_site site q)
    changes_at_is q = sym (changes_here q)

    pub takes_place : 1 ≤ parts → (p : PartId) → is_some_update (changes_of sites (entries run) txn.tx p) ≡ true → has_place site (participants parts txn.updates) p ≡ true
    takes_place k p t = by_site (site == p.site) (ap is_some_update (sym (changes_are p)) ∙ t)
      where
        by_site : (b : Bool) → is_some_update (cond b (updates_of parts txn.updates p.part) []) ≡ true → (b && has (participants parts txn.updates) p.part) ≡ true
        by_site true x = updates_participant parts txn.updates p.part k x
        by_site false x = x
