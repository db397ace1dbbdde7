-- Two partitions and two callers, neither of whom has seen all that the other did: a transaction commits over both; another is
-- aborted at its lead by the caller who didn't begin it, the lead fails, and the other partition aborts on the word that was shown.
use Rattle.std.proofs.Common.{◌≡◌, ⊎_elim, inl, inr, ℕ, ◌≤◌, cond, ltb, Bool, true, false, ◌&&◌, ◌||◌, List, [], ◌∷◌, length, refl, sym, ap, ◌∙◌, subst, lit≤, lit<, le_refl}
use Rattle.std.specs.Prelude.{⊤, ◌==◌, map, reverse}
use Rattle.std.proofs.lemmas.Bool.{cases_Bool, or_cases, and_parts, cond-true, eqb-true, eq-eqb, ltb-true, lt-ltb}
use Rattle.site_vector.specs.declared.ids.PartId.{PartId}
use Rattle.site_vector.specs.declared.ids.TxId.{TxId}
use Rattle.site_vector.specs.Ids.{same_part, same_tx}
use Rattle.site_vector.specs.Order.{same_part_is, same_tx_is}
use Rattle.crdt_core.specs.declared.kind.Kind.TheVariants.{CounterPn}
use Rattle.crdt_core.specs.declared.record.Upd.{Upd}
use Rattle.crdt_core.specs.KindsOf.{Kinds}
use Rattle.world_model.specs.rules.Event.{led_by, Began, Updated, Prepared, Decided, Finished, Aborted, Ticked, Cut, voted, attempt}
use Rattle.world_model.specs.lines.Lawful.{IsLawful}
use Rattle.world_model.specs.lines.Places.{IsPlace}
use Rattle.world_model.specs.rules.Lines.{shown_lines}
use Rattle.world_model.specs.rules.Partition.{PartState, PartStep, new_part, done, cut}
use Rattle.world_model.specs.rules.Plan.{takes_part}
use Rattle.world_model.specs.rules.World.{plan_of, is_own, IsWorldRun}
use Rattle.world_model.specs.threads.Calls.{touches}
use Rattle.world_model.specs.rules.Traces.{IsTrace}
use Rattle.world_model.specs.threads.Marks.{Mark, events, entries_of, made_at, first_of_trace, Stands, is_restarted}
use Rattle.world_model.specs.threads.Merging.{merged, all_places}
use Rattle.world_model.specs.threads.Allowed.{MayStand, WasAllowed}
use Rattle.world_model.specs.threads.AreTraces.{AreTraces}
use Rattle.world_model.proofs.Names.{off, clash}
use Rattle.world_model.proofs.Law.{law_world}
use Rattle.world_model.proofs.Asks.{asks}
use Rattle.world_model.proofs.Merging.{law_merged}
use Rattle.world_model.proofs.ExampleCluster.{here1, here2, place_here1, place_here2, at_second, counter1, counter2, more, ann, ben, none, no_updates, was_shown, put, go, HaveBoth, fits_more, untried}
use Rattle.world_model.specs.declared.step.Step.TheVariants as step

-- one thing at the first partition, one at the second, and one elsewhere
abbrev two : {X : Type 0} → X → X → X → PartId → X
two x y z q = cond (same_part here1 q) x (cond (same_part here2 q) y z)

by_place : (P : PartId → Type 0) → P here1 → P here2 → ((q : PartId) → same_part here1 q ≡ false → same_part here2 q ≡ false → P q) → (q : PartId) → P q
by_place P a b c q = ⊎_elim
    (λ (e : same_part here1 q ≡ true). subst P (same_part_is here1 q e) a)
    (λ (e : same_part here1 q ≡ false). ⊎_elim
    (λ (f : same_part here2 q ≡ true). subst P (same_part_is here2 q f) b)
    (λ (f : same_part here2 q ≡ false). c q e f)
    (cases_Bool (same_part here2 q)))
    (cases_Bool (same_part here1 q))

-- the first caller's, and the second caller's
abbrev first : TxId
first = record { site = 1; part = 1; time = 1 }

abbrev second : TxId
second = record { site = 1; part = 2; time = 7 }

abbrev caller : TxId → ℕ
caller t = cond (same_tx second t) 2 1

module _ {E : Type 0} where
  abbrev AllStand : (ℕ → Mark E → Type 0) → List (Mark E) → Type 0
  AllStand P [] = ⊤
  AllStand P (m ∷ ms) = P (length ms) m × AllStand P ms

  each_stands : (P : ℕ → Mark E → Type 0) (ms : List (Mark E)) (n : ℕ) (m : Mark E) → AllStand P ms → Stands ms n m → P n m
  each_stands P [] n m h s = absurd s
  each_stands P (x ∷ ms) n m h s = ⊎_elim
      (λ (k : (x ≡ m) × (n ≡ length ms)). subst (λ y. P n y) k.0 (subst (λ j. P j x) (sym k.1) h.0))
      (λ (k : Stands ms n m). each_stands P ms n m h.1 k)
      s

  abbrev all_stand : (ℕ → Mark E → Bool) → List (Mark E) → Bool
  all_stand test [] = true
  all_stand test (m ∷ ms) = test (length ms) m && all_stand test ms

  tested : (test : ℕ → Mark E → Bool) (ms : List (Mark E)) → all_stand test ms ≡ true → AllStand (λ n m. test n m ≡ true) ms
  tested test [] h = tt
  tested test (m ∷ ms) h = let i = and_parts (test (length ms) m) _ h in (i.0, tested test ms i.1)

  -- what holds of each step of the two traces
  in_two : (P : PartId → ℕ → Mark E → Type 0) (xs ys : List (Mark E)) → AllStand (P here1) xs → AllStand (P here2) ys → (p : PartId) (n : ℕ) (m : Mark E) → Stands (two xs ys [] p) n m → P p n m
  in_two P xs ys a b p n m s = by_place (λ q. Stands (two xs ys [] q) n m → P q n m)
      (λ k. each_stands (P here1) xs n m a k)
      (λ k. each_stands (P here2) ys n m b k)
      (λ q e f k. absurd (subst (λ l. Stands l n m) (elsewhere q e f) k))
      p
      s
    where
      elsewhere : (q : PartId) → same_part here1 q ≡ false → same_part here2 q ≡ false → two xs ys [] q ≡ []
      elsewhere q e f = rw e (rw f refl)

  test_two : (test : PartId → ℕ → Mark E → Bool) (xs ys : List (Mark E)) → (all_stand (test here1) xs && all_stand (test here2) ys) ≡ true → (p : PartId) (n : ℕ) (m : Mark E) → Stands (two xs ys [] p) n m → test p n m ≡ true
  test_two test xs ys h = let i = and_parts (all_stand (test here1) xs) _ h in in_two (λ p n m. test p n m ≡ true) xs ys (tested (test here1) xs i.0) (tested (test here2) ys i.1)

  -- a step that was seen has a lower stamp
  abbrev rises : Mark E → PartId → ℕ → Mark E → Bool
  rises m q k f = cond (ltb k (m.seen q)) (ltb f.stamp m.stamp) true

  -- of two steps of one caller one had seen the other
  abbrev chained : PartId → ℕ → Mark E → PartId → ℕ → Mark E → Bool
  chained p n m q k f = cond (f.by == m.by) (ltb k (m.seen q) || (ltb n (f.seen p) || (same_part p q && n == k))) true

  abbrev are_here : List (Mark E) → Bool
  are_here [] = true
  are_here (m ∷ ms) = (same_part m.at here1 || same_part m.at here2) && are_here ms

  none_elsewhere : (ms : List (Mark E)) (q : PartId) → are_here ms ≡ true → same_part here1 q ≡ false → same_part here2 q ≡ false → made_at q ms ≡ []
  none_elsewhere [] q h e f = refl
  none_elsewhere (m ∷ ms) q h e f =
      let i = and_parts (same_part m.at here1 || same_part m.at here2) _ h in
      let not_here : same_part m.at q ≡ false = ⊎_elim
      (λ (k : same_part m.at here1 ≡ true). subst (λ p. same_part p q ≡ false) (sym (same_part_is m.at here1 k)) e)
      (λ (k : same_part m.at here2 ≡ true). subst (λ p. same_part p q ≡ false) (sym (same_part_is m.at here2 k)) f)
      (or_cases _ _ i.0) in
      ap (λ b. cond b (m ∷ made_at q ms) (made_at q ms)) not_here ∙ none_elsewhere ms q i.1 e f

  seen_in : (xs ys run : List (Mark E)) (n : PartId → ℕ) → are_here run ≡ true → made_at here1 run ≡ first_of_trace (n here1) xs → made_at here2 run ≡ first_of_trace (n here2) ys → (q : PartId) → made_at q run ≡ first_of_trace (n q) (two xs ys [] q)
  seen_in xs ys run n h a b = by_place (λ q. made_at q run ≡ first_of_trace (n q) (two xs ys [] q)) a b (λ q e f. none_elsewhere run q h e f ∙ ap (first_of_trace (n q)) (sym (elsewhere q e f)))
    where
      elsewhere : (q : PartId) → same_part here1 q ≡ false → same_part here2 q ≡ false → two xs ys [] q ≡ []
      elsewhere q e f = rw e (rw f refl)

  within_two : (xs ys : List (Mark E)) (n m : ℕ) → n ≤ length xs → m ≤ length ys → (q : PartId) → two n m 0 q ≤ length (two xs ys [] q)
  within_two xs ys n m a b = by_place (λ q. two n m 0 q ≤ length (two xs ys [] q)) a b (λ q e f. rw e (rw f (le_refl 0)))

-- who acts for a transaction is its caller
of_caller : (x t : TxId) → (same_tx x t || false) ≡ true → caller x ≡ caller t
of_caller x t h = ⊎_elim (λ (k : same_tx x t ≡ true). ap caller (same_tx_is x t k)) (λ (k : false ≡ true). off k) (or_cases (same_tx x t) false h)

module _ {S E : Type 0} (kinds : Kinds S E) where
  abbrev change1 : Upd E
  change1 = record { object = counter1; index = 1; effect = kinds.generated CounterPn (kinds.initial CounterPn) [] more.act 1 }

  abbrev change2 : Upd E
  change2 = record { object = counter2; index = 2; effect = kinds.generated CounterPn (kinds.initial CounterPn) [] more.act 5 }

  abbrev change3 : Upd E
  change3 = record { object = counter1; index = 1; effect = kinds.generated CounterPn (kinds.initial CounterPn) [] more.act 9 }

  abbrev change4 : Upd E
  change4 = record { object = counter2; index = 2; effect = kinds.generated CounterPn (kinds.initial CounterPn) [] more.act 7 }

  abbrev a1 : Mark E
  a1 = record { at = here1; event = Began ann (record { past = none; stable = false }) first (1 ∷ 0 ∷ []); by = 1; stamp = 1; seen = two 0 0 0 }

  abbrev a2 : Mark E
  a2 = record { at = here1; event = Updated first (1 ∷ 0 ∷ []) counter1 [] more [] change1 (kinds.stamp_of change1.effect); by = 1; stamp = 2; seen = two 1 0 0 }

  abbrev a3 : Mark E
  a3 = record { at = here1; event = Prepared first (1 ∷ 0 ∷ []) (led_by 1) (change1 ∷ []) 2; by = 1; stamp = 4; seen = two 2 2 0 }

  -- it has seen both votes
  abbrev a4 : Mark E
  a4 = record { at = here1; event = Decided first (6 ∷ 0 ∷ []); by = 1; stamp = 6; seen = two 3 3 0 }

  -- stamped as the other caller's begin, which neither of them knows of
  abbrev a5 : Mark E
  a5 = record { at = here1; event = Ticked 9 9; by = 1; stamp = 8; seen = two 4 4 0 }

  abbrev a6 : Mark E
  a6 = record { at = here1; event = Updated second (7 ∷ 0 ∷ []) counter1 [] more [] change3 (kinds.stamp_of change3.effect); by = 2; stamp = 9; seen = two 5 5 0 }

  abbrev a7 : Mark E
  a7 = record { at = here1; event = Prepared second (7 ∷ 0 ∷ []) (led_by 1) (change3 ∷ []) 10; by = 2; stamp = 11; seen = two 6 6 0 }

  -- the first caller aborts it at its lead: anybody may
  abbrev a8 : Mark E
  a8 = record { at = here1; event = Aborted second false; by = 1; stamp = 12; seen = two 7 6 0 }

  -- and the lead fails
  abbrev a9 : Mark E
  a9 = record { at = here1; event = Cut (Ticked 20 20); by = 1; stamp = 13; seen = two 8 6 0 }

  -- the second caller has seen nothing
  abbrev b1 : Mark E
  b1 = record { at = here2; event = Ticked 5 5; by = 2; stamp = 1; seen = two 0 0 0 }

  abbrev b2 : Mark E
  b2 = record { at = here2; event = Updated first (1 ∷ 0 ∷ []) counter2 [] more [] change2 (kinds.stamp_of change2.effect); by = 1; stamp = 3; seen = two 2 1 0 }

  abbrev b3 : Mark E
  b3 = record { at = here2; event = Prepared first (1 ∷ 0 ∷ []) (led_by 1) (change2 ∷ []) 6; by = 1; stamp = 5; seen = two 3 2 0 }

  abbrev b4 : Mark E
  b4 = record { at = here2; event = Finished first (6 ∷ 0 ∷ []); by = 1; stamp = 7; seen = two 4 3 0 }

  abbrev b5 : Mark E
  b5 = record { at = here2; event = Began ben (record { past = none; stable = false }) second (7 ∷ 0 ∷ []); by = 2; stamp = 8; seen = two 4 4 0 }

  abbrev b6 : Mark E
  b6 = record { at = here2; event = Updated second (7 ∷ 0 ∷ []) counter2 [] more [] change4 (kinds.stamp_of change4.effect); by = 2; stamp = 10; seen = two 6 5 0 }

  -- stamped as the abort, which its caller has not seen
  abbrev b7 : Mark E
  b7 = record { at = here2; event = Prepared second (7 ∷ 0 ∷ []) (led_by 1) (change4 ∷ []) 8; by = 2; stamp = 12; seen = two 7 6 0 }

  -- on the word of the lead, which is down by now
  abbrev b8 : Mark E
  b8 = record { at = here2; event = Aborted second false; by = 2; stamp = 14; seen = two 8 7 0 }

  abbrev trace1 : List (Mark E)
  trace1 = a9 ∷ a8 ∷ a7 ∷ a6 ∷ a5 ∷ a4 ∷ a3 ∷ a2 ∷ a1 ∷ []

  abbrev trace2 : List (Mark E)
  trace2 = b8 ∷ b7 ∷ b6 ∷ b5 ∷ b4 ∷ b3 ∷ b2 ∷ b1 ∷ []

  abbrev traces : PartId → List (Mark E)
  traces = two trace1 trace2 []

  abbrev m0 : List (Mark E)
  m0 = []

  abbrev m1 : List (Mark E)
  m1 = a1 ∷ m0

  abbrev m2 : List (Mark E)
  m2 = b1 ∷ m1

  abbrev m3 : List (Mark E)
  m3 = a2 ∷ m2

  abbrev m4 : List (Mark E)
  m4 = b2 ∷ m3

  abbrev m5 : List (Mark E)
  m5 = a3 ∷ m4

  abbrev m6 : List (Mark E)
  m6 = b3 ∷ m5

  abbrev m7 : List (Mark E)
  m7 = a4 ∷ m6

  abbrev m8 : List (Mark E)
  m8 = b4 ∷ m7

  abbrev m9 : List (Mark E)
  m9 = a5 ∷ m8

  abbrev m10 : List (Mark E)
  m10 = b5 ∷ m9

  abbrev m11 : List (Mark E)
  m11 = a6 ∷ m10

  abbrev m12 : List (Mark E)
  m12 = b6 ∷ m11

  abbrev m13 : List (Mark E)
  m13 = a7 ∷ m12

  abbrev m14 : List (Mark E)
  m14 = a8 ∷ m13

  abbrev m15 : List (Mark E)
  m15 = b7 ∷ m14

  abbrev m16 : List (Mark E)
  m16 = a9 ∷ m15

  abbrev m17 : List (Mark E)
  m17 = b8 ∷ m16

  abbrev as0 : PartState E
  as0 = new_part 2 2

  abbrev as1 : PartState E
  as1 = done as0 a1.event

  abbrev as2 : PartState E
  as2 = done as1 a2.event

  abbrev as3 : PartState E
  as3 = done as2 a3.event

  abbrev as4 : PartState E
  as4 = done as3 a4.event

  abbrev as5 : PartState E
  as5 = done as4 a5.event

  abbrev as6 : PartState E
  as6 = done as5 a6.event

  abbrev as7 : PartState E
  as7 = done as6 a7.event

  abbrev as8 : PartState E
  as8 = done as7 a8.event

  abbrev as9 : PartState E
  as9 = cut as8 (Ticked 20 20)

  abbrev bs0 : PartState E
  bs0 = new_part 2 2

  abbrev bs1 : PartState E
  bs1 = done bs0 b1.event

  abbrev bs2 : PartState E
  bs2 = done bs1 b2.event

  abbrev bs3 : PartState E
  bs3 = done bs2 b3.event

  abbrev bs4 : PartState E
  bs4 = done bs3 b4.event

  abbrev bs5 : PartState E
  bs5 = done bs4 b5.event

  abbrev bs6 : PartState E
  bs6 = done bs5 b6.event

  abbrev bs7 : PartState E
  bs7 = done bs6 b7.event

  abbrev bs8 : PartState E
  bs8 = done bs7 b8.event

  abbrev f0 : PartId → PartState E
  f0 q = new_part 2 2

  abbrev f1 : PartId → PartState E
  f1 = put f0 here1 as1

  abbrev f2 : PartId → PartState E
  f2 = put f1 here2 bs1

  abbrev f3 : PartId → PartState E
  f3 = put f2 here1 as2

  abbrev f4 : PartId → PartState E
  f4 = put f3 here2 bs2

  abbrev f5 : PartId → PartState E
  f5 = put f4 here1 as3

  abbrev f6 : PartId → PartState E
  f6 = put f5 here2 bs3

  abbrev f7 : PartId → PartState E
  f7 = put f6 here1 as4

  abbrev f8 : PartId → PartState E
  f8 = put f7 here2 bs4

  abbrev f9 : PartId → PartState E
  f9 = put f8 here1 as5

  abbrev f10 : PartId → PartState E
  f10 = put f9 here2 bs5

  abbrev f11 : PartId → PartState E
  f11 = put f10 here1 as6

  abbrev f12 : PartId → PartState E
  f12 = put f11 here2 bs6

  abbrev f13 : PartId → PartState E
  f13 = put f12 here1 as7

  abbrev f14 : PartId → PartState E
  f14 = put f13 here1 as8

  abbrev f15 : PartId → PartState E
  f15 = put f14 here2 bs7

  abbrev left : PartId → PartState E
  left = two as9 bs8 (new_part 2 2)

module _ {S E : Type 0} (kinds : Kinds S E) (has : HaveBoth kinds) where
  step_a1 : PartStep kinds 2 2 here1 (as0 kinds) (a1 kinds).event (as1 kinds)
  step_a1 = (refl, record { early = lit< tt; named = refl; handed = refl; width = refl; own = refl; stable = at_second _ refl; waited = at_second _ (lit≤ tt) }, refl)

  step_a2 : PartStep kinds 2 2 here1 (as1 kinds) (a2 kinds).event (as2 kinds)
  step_a2 = (refl, record { ready = λ h. off h; fold = λ h. off h; known = has.counters; fits = fits_more kinds has; object = refl; effect = refl; stamped = refl }, refl)

  step_a3 : PartStep kinds 2 2 here1 (as2 kinds) (a3 kinds).event (as3 kinds)
  step_a3 = (refl, (lit≤ tt, refl, lit< tt), refl)

  step_a4 : PartStep kinds 2 2 here1 (as3 kinds) (a4 kinds).event (as4 kinds)
  step_a4 = (refl, refl, refl)

  step_a5 : PartStep kinds 2 2 here1 (as4 kinds) (a5 kinds).event (as5 kinds)
  step_a5 = (refl, (refl, lit≤ tt), refl)

  step_a6 : PartStep kinds 2 2 here1 (as5 kinds) (a6 kinds).event (as6 kinds)
  step_a6 = (refl, record { ready = λ h. off h; fold = λ h. off h; known = has.counters; fits = fits_more kinds has; object = refl; effect = refl; stamped = refl }, refl)

  step_a7 : PartStep kinds 2 2 here1 (as6 kinds) (a7 kinds).event (as7 kinds)
  step_a7 = (refl, (lit≤ tt, refl, lit< tt), refl)

  step_a8 : PartStep kinds 2 2 here1 (as7 kinds) (a8 kinds).event (as8 kinds)
  step_a8 = (refl, refl, refl)

  step_a9 : PartStep kinds 2 2 here1 (as8 kinds) (a9 kinds).event (as9 kinds)
  step_a9 = (refl, (refl, lit≤ tt), refl)

  step_b1 : PartStep kinds 2 2 here2 (bs0 kinds) (b1 kinds).event (bs1 kinds)
  step_b1 = (refl, (refl, lit≤ tt), refl)

  step_b2 : PartStep kinds 2 2 here2 (bs1 kinds) (b2 kinds).event (bs2 kinds)
  step_b2 = (refl, record { ready = λ h. off h; fold = λ h. off h; known = has.counters; fits = fits_more kinds has; object = refl; effect = refl; stamped = refl }, refl)

  step_b3 : PartStep kinds 2 2 here2 (bs2 kinds) (b3 kinds).event (bs3 kinds)
  step_b3 = (refl, (lit≤ tt, refl, lit< tt), refl)

  step_b4 : PartStep kinds 2 2 here2 (bs3 kinds) (b4 kinds).event (bs4 kinds)
  step_b4 = (refl, refl, refl)

  step_b5 : PartStep kinds 2 2 here2 (bs4 kinds) (b5 kinds).event (bs5 kinds)
  step_b5 = (refl, record { early = lit< tt; named = refl; handed = refl; width = refl; own = refl; stable = at_second _ refl; waited = at_second _ (lit≤ tt) }, refl)

  step_b6 : PartStep kinds 2 2 here2 (bs5 kinds) (b6 kinds).event (bs6 kinds)
  step_b6 = (refl, record { ready = λ h. off h; fold = λ h. off h; known = has.counters; fits = fits_more kinds has; object = refl; effect = refl; stamped = refl }, refl)

  step_b7 : PartStep kinds 2 2 here2 (bs6 kinds) (b7 kinds).event (bs7 kinds)
  step_b7 = (refl, (lit≤ tt, refl, lit< tt), refl)

  step_b8 : PartStep kinds 2 2 here2 (bs7 kinds) (b8 kinds).event (bs8 kinds)
  step_b8 = (refl, refl, refl)

  all_voted : (q : PartId) → takes_part (plan_of 2 2 (entries_of (m6 kinds))) first q ≡ true → voted (entries_of (m6 kinds)) first q ≡ true
  all_voted q h = by_place (λ p. takes_part (plan_of 2 2 (entries_of (m6 kinds))) first p ≡ true → voted (entries_of (m6 kinds)) first p ≡ true)
      (λ k. refl)
      (λ k. refl)
      (λ p e f k. let x = rw e at k in let y = rw f at x in clash y (no_updates E (is_own 2 (entries_of (m6 kinds)) first p)))
      q
      h

  run0 : IsWorldRun kinds 2 2 (entries_of (m0 kinds)) (f0 kinds)
  run0 = λ q. refl

  may_a1 : MayStand 2 2 (entries_of (m0 kinds)) here1 (attempt (a1 kinds).event)
  may_a1 = (record { vectors = []; known = tt; is = refl }, tt)

  run1 : IsWorldRun kinds 2 2 (entries_of (m1 kinds)) (f1 kinds)
  run1 = go kinds (entries_of (m0 kinds)) (f0 kinds) here1 (a1 kinds).event (as1 kinds) run0 place_here1 (asks 2 2 (entries_of (m0 kinds)) (f0 kinds) here1 (a1 kinds).event may_a1.0 refl) tt step_a1 tt

  may_b1 : MayStand 2 2 (entries_of (m0 kinds)) here2 (attempt (b1 kinds).event)
  may_b1 = (tt, tt)

  may_b1_later : MayStand 2 2 (entries_of (m1 kinds)) here2 (attempt (b1 kinds).event)
  may_b1_later = (tt, tt)

  run2 : IsWorldRun kinds 2 2 (entries_of (m2 kinds)) (f2 kinds)
  run2 = go kinds (entries_of (m1 kinds)) (f1 kinds) here2 (b1 kinds).event (bs1 kinds) run1 place_here2 (asks 2 2 (entries_of (m1 kinds)) (f1 kinds) here2 (b1 kinds).event may_b1_later.0 refl) tt step_b1 tt

  may_a2 : MayStand 2 2 (entries_of (m1 kinds)) here1 (attempt (a2 kinds).event)
  may_a2 = ((record { site = refl; who = ann; dependency = record { past = none; stable = false }; begun = was_shown 0 (entries_of (m1 kinds)) _ _ (inl (refl, refl)); place = refl; earlier = refl }, untried (entries_of (m1 kinds)) first refl), tt)

  may_a2_later : MayStand 2 2 (entries_of (m2 kinds)) here1 (attempt (a2 kinds).event)
  may_a2_later = ((record { site = refl; who = ann; dependency = record { past = none; stable = false }; begun = was_shown 1 (entries_of (m2 kinds)) _ _ (inl (refl, refl)); place = refl; earlier = refl }, untried (entries_of (m2 kinds)) first refl), tt)

  run3 : IsWorldRun kinds 2 2 (entries_of (m3 kinds)) (f3 kinds)
  run3 = go kinds (entries_of (m2 kinds)) (f2 kinds) here1 (a2 kinds).event (as2 kinds) run2 place_here1 (asks 2 2 (entries_of (m2 kinds)) (f2 kinds) here1 (a2 kinds).event may_a2_later.0 refl) tt step_a2 (record { early = untried (entries_of (m2 kinds)) first refl; number = refl })

  may_b2 : MayStand 2 2 (entries_of (m3 kinds)) here2 (attempt (b2 kinds).event)
  may_b2 = ((record { site = refl; who = ann; dependency = record { past = none; stable = false }; begun = was_shown 2 (entries_of (m3 kinds)) _ _ (inl (refl, refl)); place = refl; earlier = refl }, untried (entries_of (m3 kinds)) first refl), tt)

  run4 : IsWorldRun kinds 2 2 (entries_of (m4 kinds)) (f4 kinds)
  run4 = go kinds (entries_of (m3 kinds)) (f3 kinds) here2 (b2 kinds).event (bs2 kinds) run3 place_here2 (asks 2 2 (entries_of (m3 kinds)) (f3 kinds) here2 (b2 kinds).event may_b2.0 refl) tt step_b2 (record { early = untried (entries_of (m3 kinds)) first refl; number = refl })

  may_a3 : MayStand 2 2 (entries_of (m4 kinds)) here1 (attempt (a3 kinds).event)
  may_a3 = ((record { site = refl; who = ann; dependency = record { past = none; stable = false }; begun = was_shown 3 (entries_of (m4 kinds)) _ _ (inl (refl, refl)) }, record { fresh = refl; after_lead = λ ne. absurd (ne refl); takes = refl; snapshot = refl; lead = refl; changes = refl }), tt)

  run5 : IsWorldRun kinds 2 2 (entries_of (m5 kinds)) (f5 kinds)
  run5 = go kinds (entries_of (m4 kinds)) (f4 kinds) here1 (a3 kinds).event (as3 kinds) run4 place_here1 (asks 2 2 (entries_of (m4 kinds)) (f4 kinds) here1 (a3 kinds).event may_a3.0 refl) tt step_a3 tt

  may_b3 : MayStand 2 2 (entries_of (m5 kinds)) here2 (attempt (b3 kinds).event)
  may_b3 = ((record { site = refl; who = ann; dependency = record { past = none; stable = false }; begun = was_shown 4 (entries_of (m5 kinds)) _ _ (inl (refl, refl)) }, record { fresh = refl; after_lead = λ ne. refl; takes = refl; snapshot = refl; lead = refl; changes = refl }), tt)

  run6 : IsWorldRun kinds 2 2 (entries_of (m6 kinds)) (f6 kinds)
  run6 = go kinds (entries_of (m5 kinds)) (f5 kinds) here2 (b3 kinds).event (bs3 kinds) run5 place_here2 (asks 2 2 (entries_of (m5 kinds)) (f5 kinds) here2 (b3 kinds).event may_b3.0 refl) tt step_b3 tt

  may_a4 : MayStand 2 2 (entries_of (m6 kinds)) here1 (attempt (a4 kinds).event)
  may_a4 = (record { lead = refl; here = refl; all = all_voted; ungiven = refl; once = refl; vector = refl }, tt)

  run7 : IsWorldRun kinds 2 2 (entries_of (m7 kinds)) (f7 kinds)
  run7 = go kinds (entries_of (m6 kinds)) (f6 kinds) here1 (a4 kinds).event (as4 kinds) run6 place_here1 (asks 2 2 (entries_of (m6 kinds)) (f6 kinds) here1 (a4 kinds).event may_a4.0 refl) tt step_a4 tt

  may_b4 : MayStand 2 2 (entries_of (m7 kinds)) here2 (attempt (b4 kinds).event)
  may_b4 = ((refl, record { decided = refl; vector = refl }), tt)

  run8 : IsWorldRun kinds 2 2 (entries_of (m8 kinds)) (f8 kinds)
  run8 = go kinds (entries_of (m7 kinds)) (f7 kinds) here2 (b4 kinds).event (bs4 kinds) run7 place_here2 (asks 2 2 (entries_of (m7 kinds)) (f7 kinds) here2 (b4 kinds).event may_b4.0 refl) tt step_b4 tt

  may_a5 : MayStand 2 2 (entries_of (m8 kinds)) here1 (attempt (a5 kinds).event)
  may_a5 = (tt, tt)

  run9 : IsWorldRun kinds 2 2 (entries_of (m9 kinds)) (f9 kinds)
  run9 = go kinds (entries_of (m8 kinds)) (f8 kinds) here1 (a5 kinds).event (as5 kinds) run8 place_here1 (asks 2 2 (entries_of (m8 kinds)) (f8 kinds) here1 (a5 kinds).event may_a5.0 refl) tt step_a5 tt

  may_b5 : MayStand 2 2 (entries_of (m8 kinds)) here2 (attempt (b5 kinds).event)
  may_b5 = (record { vectors = []; known = tt; is = refl }, tt)

  may_b5_later : MayStand 2 2 (entries_of (m9 kinds)) here2 (attempt (b5 kinds).event)
  may_b5_later = (record { vectors = []; known = tt; is = refl }, tt)

  run10 : IsWorldRun kinds 2 2 (entries_of (m10 kinds)) (f10 kinds)
  run10 = go kinds (entries_of (m9 kinds)) (f9 kinds) here2 (b5 kinds).event (bs5 kinds) run9 place_here2 (asks 2 2 (entries_of (m9 kinds)) (f9 kinds) here2 (b5 kinds).event may_b5_later.0 refl) tt step_b5 tt

  may_a6 : MayStand 2 2 (entries_of (m10 kinds)) here1 (attempt (a6 kinds).event)
  may_a6 = ((record { site = refl; who = ben; dependency = record { past = none; stable = false }; begun = was_shown 0 (entries_of (m10 kinds)) _ _ (inl (refl, refl)); place = refl; earlier = refl }, untried (entries_of (m10 kinds)) second refl), tt)

  run11 : IsWorldRun kinds 2 2 (entries_of (m11 kinds)) (f11 kinds)
  run11 = go kinds (entries_of (m10 kinds)) (f10 kinds) here1 (a6 kinds).event (as6 kinds) run10 place_here1 (asks 2 2 (entries_of (m10 kinds)) (f10 kinds) here1 (a6 kinds).event may_a6.0 refl) tt step_a6 (record { early = untried (entries_of (m10 kinds)) second refl; number = refl })

  may_b6 : MayStand 2 2 (entries_of (m11 kinds)) here2 (attempt (b6 kinds).event)
  may_b6 = ((record { site = refl; who = ben; dependency = record { past = none; stable = false }; begun = was_shown 1 (entries_of (m11 kinds)) _ _ (inl (refl, refl)); place = refl; earlier = refl }, untried (entries_of (m11 kinds)) second refl), tt)

  run12 : IsWorldRun kinds 2 2 (entries_of (m12 kinds)) (f12 kinds)
  run12 = go kinds (entries_of (m11 kinds)) (f11 kinds) here2 (b6 kinds).event (bs6 kinds) run11 place_here2 (asks 2 2 (entries_of (m11 kinds)) (f11 kinds) here2 (b6 kinds).event may_b6.0 refl) tt step_b6 (record { early = untried (entries_of (m11 kinds)) second refl; number = refl })

  may_a7 : MayStand 2 2 (entries_of (m12 kinds)) here1 (attempt (a7 kinds).event)
  may_a7 = ((record { site = refl; who = ben; dependency = record { past = none; stable = false }; begun = was_shown 2 (entries_of (m12 kinds)) _ _ (inl (refl, refl)) }, record { fresh = refl; after_lead = λ ne. absurd (ne refl); takes = refl; snapshot = refl; lead = refl; changes = refl }), tt)

  run13 : IsWorldRun kinds 2 2 (entries_of (m13 kinds)) (f13 kinds)
  run13 = go kinds (entries_of (m12 kinds)) (f12 kinds) here1 (a7 kinds).event (as7 kinds) run12 place_here1 (asks 2 2 (entries_of (m12 kinds)) (f12 kinds) here1 (a7 kinds).event may_a7.0 refl) tt step_a7 tt

  may_a8 : MayStand 2 2 (entries_of (m13 kinds)) here1 (attempt (a8 kinds).event)
  may_a8 = inl refl

  run14 : IsWorldRun kinds 2 2 (entries_of (m14 kinds)) (f14 kinds)
  run14 = go kinds (entries_of (m13 kinds)) (f13 kinds) here1 (a8 kinds).event (as8 kinds) run13 place_here1 (inl refl) tt step_a8 tt

  may_b7 : MayStand 2 2 (entries_of (m13 kinds)) here2 (attempt (b7 kinds).event)
  may_b7 = ((record { site = refl; who = ben; dependency = record { past = none; stable = false }; begun = was_shown 3 (entries_of (m13 kinds)) _ _ (inl (refl, refl)) }, record { fresh = refl; after_lead = λ ne. refl; takes = refl; snapshot = refl; lead = refl; changes = refl }), tt)

  may_b7_later : MayStand 2 2 (entries_of (m14 kinds)) here2 (attempt (b7 kinds).event)
  may_b7_later = ((record { site = refl; who = ben; dependency = record { past = none; stable = false }; begun = was_shown 4 (entries_of (m14 kinds)) _ _ (inl (refl, refl)) }, record { fresh = refl; after_lead = λ ne. refl; takes = refl; snapshot = refl; lead = refl; changes = refl }), tt)

  run15 : IsWorldRun kinds 2 2 (entries_of (m15 kinds)) (f15 kinds)
  run15 = go kinds (entries_of (m14 kinds)) (f14 kinds) here2 (b7 kinds).event (bs7 kinds) run14 place_here2 (asks 2 2 (entries_of (m14 kinds)) (f14 kinds) here2 (b7 kinds).event may_b7_later.0 refl) tt step_b7 tt

  may_a9 : MayStand 2 2 (entries_of (m14 kinds)) here1 (attempt (a9 kinds).event)
  may_a9 = (tt, tt)

  may_b8 : MayStand 2 2 (entries_of (m15 kinds)) here2 (attempt (b8 kinds).event)
  may_b8 = inr refl

  allowed_a1 : WasAllowed kinds 2 2 (traces kinds) caller (a1 kinds)
  allowed_a1 = record { run = m0 kinds; seen = seen_in (trace1 kinds) (trace2 kinds) (m0 kinds) (a1 kinds).seen refl refl refl; state = f0 kinds; is_run = run0; may = may_a1; mine = tt; new = tt; fit = tt }

  allowed_a2 : WasAllowed kinds 2 2 (traces kinds) caller (a2 kinds)
  allowed_a2 = record { run = m1 kinds; seen = seen_in (trace1 kinds) (trace2 kinds) (m1 kinds) (a2 kinds).seen refl refl refl; state = f1 kinds; is_run = run1; may = may_a2; mine = refl; new = (record { early = untried (entries_of (m1 kinds)) first refl; number = refl }); fit = tt }

  allowed_a3 : WasAllowed kinds 2 2 (traces kinds) caller (a3 kinds)
  allowed_a3 = record { run = m4 kinds; seen = seen_in (trace1 kinds) (trace2 kinds) (m4 kinds) (a3 kinds).seen refl refl refl; state = f4 kinds; is_run = run4; may = may_a3; mine = refl; new = tt; fit = tt }

  allowed_a4 : WasAllowed kinds 2 2 (traces kinds) caller (a4 kinds)
  allowed_a4 = record { run = m6 kinds; seen = seen_in (trace1 kinds) (trace2 kinds) (m6 kinds) (a4 kinds).seen refl refl refl; state = f6 kinds; is_run = run6; may = may_a4; mine = refl; new = tt; fit = tt }

  allowed_a5 : WasAllowed kinds 2 2 (traces kinds) caller (a5 kinds)
  allowed_a5 = record { run = m8 kinds; seen = seen_in (trace1 kinds) (trace2 kinds) (m8 kinds) (a5 kinds).seen refl refl refl; state = f8 kinds; is_run = run8; may = may_a5; mine = tt; new = tt; fit = tt }

  allowed_a6 : WasAllowed kinds 2 2 (traces kinds) caller (a6 kinds)
  allowed_a6 = record { run = m10 kinds; seen = seen_in (trace1 kinds) (trace2 kinds) (m10 kinds) (a6 kinds).seen refl refl refl; state = f10 kinds; is_run = run10; may = may_a6; mine = refl; new = (record { early = untried (entries_of (m10 kinds)) second refl; number = refl }); fit = tt }

  allowed_a7 : WasAllowed kinds 2 2 (traces kinds) caller (a7 kinds)
  allowed_a7 = record { run = m12 kinds; seen = seen_in (trace1 kinds) (trace2 kinds) (m12 kinds) (a7 kinds).seen refl refl refl; state = f12 kinds; is_run = run12; may = may_a7; mine = refl; new = tt; fit = tt }

  allowed_a8 : WasAllowed kinds 2 2 (traces kinds) caller (a8 kinds)
  allowed_a8 = record { run = m13 kinds; seen = seen_in (trace1 kinds) (trace2 kinds) (m13 kinds) (a8 kinds).seen refl refl refl; state = f13 kinds; is_run = run13; may = may_a8; mine = tt; new = tt; fit = tt }

  allowed_a9 : WasAllowed kinds 2 2 (traces kinds) caller (a9 kinds)
  allowed_a9 = record { run = m14 kinds; seen = seen_in (trace1 kinds) (trace2 kinds) (m14 kinds) (a9 kinds).seen refl refl refl; state = f14 kinds; is_run = run14; may = may_a9; mine = tt; new = tt; fit = tt }

  allowed_b1 : WasAllowed kinds 2 2 (traces kinds) caller (b1 kinds)
  allowed_b1 = record { run = m0 kinds; seen = seen_in (trace1 kinds) (trace2 kinds) (m0 kinds) (b1 kinds).seen refl refl refl; state = f0 kinds; is_run = run0; may = may_b1; mine = tt; new = tt; fit = tt }

  allowed_b2 : WasAllowed kinds 2 2 (traces kinds) caller (b2 kinds)
  allowed_b2 = record { run = m3 kinds; seen = seen_in (trace1 kinds) (trace2 kinds) (m3 kinds) (b2 kinds).seen refl refl refl; state = f3 kinds; is_run = run3; may = may_b2; mine = refl; new = (record { early = untried (entries_of (m3 kinds)) first refl; number = refl }); fit = tt }

  allowed_b3 : WasAllowed kinds 2 2 (traces kinds) caller (b3 kinds)
  allowed_b3 = record { run = m5 kinds; seen = seen_in (trace1 kinds) (trace2 kinds) (m5 kinds) (b3 kinds).seen refl refl refl; state = f5 kinds; is_run = run5; may = may_b3; mine = refl; new = tt; fit = tt }

  allowed_b4 : WasAllowed kinds 2 2 (traces kinds) caller (b4 kinds)
  allowed_b4 = record { run = m7 kinds; seen = seen_in (trace1 kinds) (trace2 kinds) (m7 kinds) (b4 kinds).seen refl refl refl; state = f7 kinds; is_run = run7; may = may_b4; mine = tt; new = tt; fit = tt }

  allowed_b5 : WasAllowed kinds 2 2 (traces kinds) caller (b5 kinds)
  allowed_b5 = record { run = m8 kinds; seen = seen_in (trace1 kinds) (trace2 kinds) (m8 kinds) (b5 kinds).seen refl refl refl; state = f8 kinds; is_run = run8; may = may_b5; mine = tt; new = tt; fit = tt }

  allowed_b6 : WasAllowed kinds 2 2 (traces kinds) caller (b6 kinds)
  allowed_b6 = record { run = m11 kinds; seen = seen_in (trace1 kinds) (trace2 kinds) (m11 kinds) (b6 kinds).seen refl refl refl; state = f11 kinds; is_run = run11; may = may_b6; mine = refl; new = (record { early = untried (entries_of (m11 kinds)) second refl; number = refl }); fit = tt }

  allowed_b7 : WasAllowed kinds 2 2 (traces kinds) caller (b7 kinds)
  allowed_b7 = record { run = m13 kinds; seen = seen_in (trace1 kinds) (trace2 kinds) (m13 kinds) (b7 kinds).seen refl refl refl; state = f13 kinds; is_run = run13; may = may_b7; mine = refl; new = tt; fit = tt }

  allowed_b8 : WasAllowed kinds 2 2 (traces kinds) caller (b8 kinds)
  allowed_b8 = record { run = m15 kinds; seen = seen_in (trace1 kinds) (trace2 kinds) (m15 kinds) (b8 kinds).seen refl refl refl; state = f15 kinds; is_run = run15; may = may_b8; mine = tt; new = tt; fit = tt }

  are_traces : AreTraces kinds 2 2 (traces kinds) (left kinds)
  are_traces = record {
    steps = by_place (λ p. IsTrace kinds 2 2 p (events (traces kinds p)) (left kinds p))
        (as8 kinds, (as7 kinds, (as6 kinds, (as5 kinds, (as4 kinds, (as3 kinds, (as2 kinds, (as1 kinds, (as0 kinds, refl, step_a1), step_a2), step_a3), step_a4), step_a5), step_a6), step_a7), step_a8), step_a9)
        (bs7 kinds, (bs6 kinds, (bs5 kinds, (bs4 kinds, (bs3 kinds, (bs2 kinds, (bs1 kinds, (bs0 kinds, refl, step_b1), step_b2), step_b3), step_b4), step_b5), step_b6), step_b7), step_b8)
        (λ q e f. rw e (rw f refl));
    place = in_two (λ p n m. IsPlace 2 2 p × (m.at ≡ p)) (trace1 kinds) (trace2 kinds) ((place_here1, refl), ((place_here1, refl), ((place_here1, refl), ((place_here1, refl), ((place_here1, refl), ((place_here1, refl), ((place_here1, refl), ((place_here1, refl), ((place_here1, refl), tt))))))))) ((place_here2, refl), ((place_here2, refl), ((place_here2, refl), ((place_here2, refl), ((place_here2, refl), ((place_here2, refl), ((place_here2, refl), ((place_here2, refl), tt))))))));
    unbroken = in_two (λ p n m. is_restarted m.event ≡ false) (trace1 kinds) (trace2 kinds) (refl, (refl, (refl, (refl, (refl, (refl, (refl, (refl, (refl, tt))))))))) (refl, (refl, (refl, (refl, (refl, (refl, (refl, (refl, tt))))))));
    own = in_two (λ p n m. m.seen p ≡ n) (trace1 kinds) (trace2 kinds) (refl, (refl, (refl, (refl, (refl, (refl, (refl, (refl, (refl, tt))))))))) (refl, (refl, (refl, (refl, (refl, (refl, (refl, (refl, tt))))))));
    within = in_two (λ p n m. (q : PartId) → m.seen q ≤ length (traces kinds q)) (trace1 kinds) (trace2 kinds) (fits 8 6 (lit≤ tt) (lit≤ tt), (fits 7 6 (lit≤ tt) (lit≤ tt), (fits 6 6 (lit≤ tt) (lit≤ tt), (fits 5 5 (lit≤ tt) (lit≤ tt), (fits 4 4 (lit≤ tt) (lit≤ tt), (fits 3 3 (lit≤ tt) (lit≤ tt), (fits 2 2 (lit≤ tt) (lit≤ tt), (fits 1 0 (lit≤ tt) (lit≤ tt), (fits 0 0 (lit≤ tt) (lit≤ tt), tt))))))))) (fits 8 7 (lit≤ tt) (lit≤ tt), (fits 7 6 (lit≤ tt) (lit≤ tt), (fits 6 5 (lit≤ tt) (lit≤ tt), (fits 4 4 (lit≤ tt) (lit≤ tt), (fits 4 3 (lit≤ tt) (lit≤ tt), (fits 3 2 (lit≤ tt) (lit≤ tt), (fits 2 1 (lit≤ tt) (lit≤ tt), (fits 0 0 (lit≤ tt) (lit≤ tt), tt))))))));
    rises = λ p n m s q k f t l. ltb-true _ _ (sym (cond-true (ltb k (m.seen q)) (ltb f.stamp m.stamp) true (lt-ltb _ _ l)) ∙ test_two (rises m) (trace1 kinds) (trace2 kinds) (test_two (λ p n m. all_stand (rises m here1) (trace1 kinds) && all_stand (rises m here2) (trace2 kinds)) (trace1 kinds) (trace2 kinds) refl p n m s) q k f t);
    chain = λ p n m s q k f t e. ⊎_elim
        (λ (x : ltb k (m.seen q) ≡ true). inl (ltb-true _ _ x))
        (λ (x : (ltb n (f.seen p) || (same_part p q && n == k)) ≡ true). inr (⊎_elim
        (λ (y : ltb n (f.seen p) ≡ true). inl (ltb-true _ _ y))
        (λ (y : (same_part p q && n == k) ≡ true). let i = and_parts (same_part p q) _ y in inr (same_part_is p q i.0, eqb-true _ _ i.1))
        (or_cases _ _ x)))
        (or_cases _ _ (sym (cond-true (f.by == m.by) (ltb k (m.seen q) || (ltb n (f.seen p) || (same_part p q && n == k))) true (eq-eqb _ _ e)) ∙ test_two (chained p n m) (trace1 kinds) (trace2 kinds) (test_two (λ p n m. all_stand (chained p n m here1) (trace1 kinds) && all_stand (chained p n m here2) (trace2 kinds)) (trace1 kinds) (trace2 kinds) refl p n m s) q k f t));
    caller = caller;
    owned = in_two (λ p n m. (t : TxId) → touches m.event t ≡ true → m.by ≡ caller t) (trace1 kinds) (trace2 kinds) (λ t h. off h, (λ t h. off (and_parts (same_tx second t) false h).1, (λ t h. of_caller second t h, (λ t h. of_caller second t h, (λ t h. off h, (λ t h. of_caller first t h, (λ t h. of_caller first t h, (λ t h. of_caller first t h, (λ t h. of_caller first t h, tt))))))))) (λ t h. off (and_parts (same_tx second t) false h).1, (λ t h. of_caller second t h, (λ t h. of_caller second t h, (λ t h. of_caller second t h, (λ t h. off h, (λ t h. of_caller first t h, (λ t h. of_caller first t h, (λ t h. off h, tt))))))));
    allowed = in_two (λ p n m. WasAllowed kinds 2 2 (traces kinds) caller m) (trace1 kinds) (trace2 kinds) (allowed_a9, (allowed_a8, (allowed_a7, (allowed_a6, (allowed_a5, (allowed_a4, (allowed_a3, (allowed_a2, (allowed_a1, tt))))))))) (allowed_b8, (allowed_b7, (allowed_b6, (allowed_b5, (allowed_b4, (allowed_b3, (allowed_b2, (allowed_b1, tt))))))));
  }
    where
      fits : (a b : ℕ) → a ≤ 9 → b ≤ 8 → (q : PartId) → two a b 0 q ≤ length (traces kinds q)
      fits a b h k = within_two (trace1 kinds) (trace2 kinds) a b h k

  -- by stamp and partition they merge into this run
  merged_is : merged (all_places 2 2) (traces kinds) ≡ m17 kinds
  merged_is = refl

  merged_runs : IsWorldRun kinds 2 2 (entries_of (m17 kinds)) (left kinds)
  merged_runs = (law_merged kinds 2 2 (traces kinds) (left kinds) are_traces).0

  lines_are_lawful : IsLawful kinds.too_deep kinds.meaning 2 2 (shown_lines (entries_of (m17 kinds)))
  lines_are_lawful = (law_world kinds 2 2 (entries_of (m17 kinds)) (left kinds) merged_runs).2

  -- what it shows, the first line first
  shown : reverse (map (λ l. l.step) (shown_lines (entries_of (m17 kinds)))) ≡
      step.Began ann first (1 ∷ 0 ∷ [])
      ∷ step.Ticked here2 5
      ∷ step.Updated ann counter1 (kinds.stamp_of (change1 kinds).effect)
      ∷ step.Updated ann counter2 (kinds.stamp_of (change2 kinds).effect)
      ∷ step.Prepared here1 first 2
      ∷ step.Prepared here2 first 6
      ∷ step.Decided here1 first (6 ∷ 0 ∷ [])
      ∷ step.Finished here2 first
      ∷ step.Ticked here1 9
      ∷ step.Began ben second (7 ∷ 0 ∷ [])
      ∷ step.Updated ben counter1 (kinds.stamp_of (change3 kinds).effect)
      ∷ step.Updated ben counter2 (kinds.stamp_of (change4 kinds).effect)
      ∷ step.Prepared here1 second 10
      ∷ step.Aborted here1 second
      ∷ step.Prepared here2 second 8
      ∷ step.Disk here1
      ∷ step.Aborted here2 second
      ∷ []
  shown = refl
