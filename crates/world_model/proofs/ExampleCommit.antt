-- A transaction at two partitions: its second vote waits for the clock and is the greatest; another transaction waits for it; the
-- lead finds no room once, and decides; the other partition finishes; and who comes later, with a snapshot ahead of the clock,
-- waits and reads it.
use Rattle.std.proofs.Common.{◌≡◌, ◌≢◌, ⊎_elim, inl, cond, Bool, true, false, ◌&&◌, ◌||◌, List, [], ◌∷◌, refl, subst, lit≤, lit<}
use Rattle.std.specs.Prelude.{map, reverse}
use Rattle.std.proofs.lemmas.Bool.{cases_Bool}
use Rattle.std.specs.declared.cmp.Ordering.TheVariants.{Less}
use Rattle.site_vector.specs.declared.ids.PartId.{PartId}
use Rattle.site_vector.specs.declared.ids.TxId.{TxId}
use Rattle.site_vector.specs.Ids.{same_part, same_tx}
use Rattle.site_vector.specs.Order.{same_part_is, same_tx_is}
use Rattle.site_vector.specs.Vector.{le}
use Rattle.crdt_core.specs.declared.kind.Kind.TheVariants.{CounterPn, FlagEw}
use Rattle.crdt_core.specs.declared.value.Value.{Value}
use Rattle.crdt_core.specs.declared.record.Upd.{Upd}
use Rattle.crdt_core.specs.declared.record.Part.{Part}
use Rattle.crdt_core.specs.KindsOf.{Kinds}
use Rattle.crdt_core.specs.Folds.{state_read}
use Rattle.crdt_core.specs.Log.{prepare_time, pending}
use Rattle.crdt_core.specs.Orders.{pending_cmp}
use Rattle.crdt_core.specs.Parts.{touches}
use Rattle.world_model.specs.rules.Event.{led_by, Event, Entry, Began, Updated, Read, Prepared, Decided, Finished, Ticked, Refused, Opened, AskRead, AskUpdate, AskPrepare, AskDecide, ClockBehind, TxPending, HasNoRoom, voted}
use Rattle.world_model.specs.lines.Lawful.{IsLawful}
use Rattle.world_model.specs.rules.Lines.{shown_lines}
use Rattle.world_model.specs.rules.Partition.{PartState, new_part, done}
use Rattle.world_model.specs.rules.Plan.{takes_part}
use Rattle.world_model.specs.rules.World.{plan_of, is_own, IsWorldRun}
use Rattle.world_model.proofs.Names.{clash, off}
use Rattle.world_model.proofs.Law.{law_world}
use Rattle.world_model.proofs.ExampleCluster.{here1, here2, place_here1, place_here2, at_second, counter1, flag1, counter2, flag2, more, on, ann, ben, none, no_updates, none_left, was_shown, was_vector, put, go, stay, HaveBoth, fits_more, fits_on, untried}
use Rattle.world_model.specs.lines.Dependency.{HandsOwn, KeepsPast}
use Rattle.world_model.specs.declared.step.Step.TheVariants as step

abbrev pub both : TxId
both = record { site = 1; part = 1; time = 1 }

abbrev pub waiting : TxId
waiting = record { site = 1; part = 1; time = 3 }

abbrev pub later : TxId
later = record { site = 1; part = 1; time = 4 }

module _ {S E : Type 0} (kinds : Kinds S E) where
  abbrev pub change1 : Upd E
  change1 = record { object = counter1; index = 1; effect = kinds.generated CounterPn (kinds.initial CounterPn) [] more.act 1 }

  abbrev pub change2 : Upd E
  change2 = record { object = flag1; index = 2; effect = kinds.generated FlagEw (kinds.initial FlagEw) [] on.act 1 }

  abbrev pub change3 : Upd E
  change3 = record { object = counter2; index = 3; effect = kinds.generated CounterPn (kinds.initial CounterPn) [] more.act 0 }

  abbrev pub part1 : Part E
  part1 = record { tx = both; c = 6 ∷ 0 ∷ []; updates = change1 ∷ change2 ∷ [] }

  abbrev pub seen : Value
  seen = kinds.value_of (state_read kinds counter1 later [] (part1 ∷ []))

  abbrev pub start : PartId → PartState E
  start q = new_part 2 2

  abbrev pub e1 : Event E
  e1 = Began ann (record { past = none; stable = false }) both (1 ∷ 0 ∷ [])

  abbrev pub e2 : Event E
  e2 = Updated both (1 ∷ 0 ∷ []) counter1 [] more [] change1 (kinds.stamp_of change1.effect)

  abbrev pub e3 : Event E
  e3 = Updated both (1 ∷ 0 ∷ []) flag1 [] on [] change2 (kinds.stamp_of change2.effect)

  -- the other partition's clock stands at no time
  abbrev pub e4 : Event E
  e4 = Refused (AskRead both (1 ∷ 0 ∷ []) counter2 []) (ClockBehind 0)

  abbrev pub e5 : Event E
  e5 = Refused (AskUpdate both (1 ∷ 0 ∷ []) flag2 [] on) (ClockBehind 0)

  -- an update that reads no state waits for none
  abbrev pub e6 : Event E
  e6 = Updated both (1 ∷ 0 ∷ []) counter2 [] more [] change3 (kinds.stamp_of change3.effect)

  -- the lead votes first
  abbrev pub e7 : Event E
  e7 = Prepared both (1 ∷ 0 ∷ []) (led_by 1) (change1 ∷ change2 ∷ []) 2

  abbrev pub e8 : Event E
  e8 = Refused (AskPrepare both (1 ∷ 0 ∷ []) (led_by 1) (change3 ∷ [])) (ClockBehind 0)

  abbrev pub e9 : Event E
  e9 = Ticked 5 5

  -- the greatest vote
  abbrev pub e10 : Event E
  e10 = Prepared both (1 ∷ 0 ∷ []) (led_by 1) (change3 ∷ []) 6

  abbrev pub e11 : Event E
  e11 = Opened ben

  abbrev pub e12 : Event E
  e12 = Began ben (record { past = none; stable = false }) waiting (3 ∷ 0 ∷ [])

  abbrev pub e13 : Event E
  e13 = Refused (AskRead waiting (3 ∷ 0 ∷ []) counter1 []) (TxPending both 2)

  abbrev pub e14 : Event E
  e14 = Refused (AskUpdate waiting (3 ∷ 0 ∷ []) flag1 [] on) (TxPending both 2)

  -- the disk of the lead has no room; it is asked again
  abbrev pub e15 : Event E
  e15 = Refused (AskDecide both (6 ∷ 0 ∷ [])) (HasNoRoom 40)

  abbrev pub e16 : Event E
  e16 = Decided both (6 ∷ 0 ∷ [])

  abbrev pub e17 : Event E
  e17 = Finished both (6 ∷ 0 ∷ [])

  -- its own entry is ahead of the clock
  abbrev pub e18 : Event E
  e18 = Began ann (record { past = 6 ∷ 0 ∷ []; stable = false }) later (6 ∷ 0 ∷ [])

  abbrev pub e19 : Event E
  e19 = Refused (AskRead later (6 ∷ 0 ∷ []) counter1 []) (ClockBehind 4)

  abbrev pub e20 : Event E
  e20 = Ticked 9 9

  abbrev pub e21 : Event E
  e21 = Read later (6 ∷ 0 ∷ []) counter1 [] (part1 ∷ []) seen

  abbrev pub r1 : List (Entry E)
  r1 = (record { at = here1; event = e1 }) ∷ []

  abbrev pub r2 : List (Entry E)
  r2 = (record { at = here1; event = e2 }) ∷ r1

  abbrev pub r3 : List (Entry E)
  r3 = (record { at = here1; event = e3 }) ∷ r2

  abbrev pub r4 : List (Entry E)
  r4 = (record { at = here2; event = e4 }) ∷ r3

  abbrev pub r5 : List (Entry E)
  r5 = (record { at = here2; event = e5 }) ∷ r4

  abbrev pub r6 : List (Entry E)
  r6 = (record { at = here2; event = e6 }) ∷ r5

  abbrev pub r7 : List (Entry E)
  r7 = (record { at = here1; event = e7 }) ∷ r6

  abbrev pub r8 : List (Entry E)
  r8 = (record { at = here2; event = e8 }) ∷ r7

  abbrev pub r9 : List (Entry E)
  r9 = (record { at = here2; event = e9 }) ∷ r8

  abbrev pub r10 : List (Entry E)
  r10 = (record { at = here2; event = e10 }) ∷ r9

  abbrev pub r11 : List (Entry E)
  r11 = (record { at = here1; event = e11 }) ∷ r10

  abbrev pub r12 : List (Entry E)
  r12 = (record { at = here1; event = e12 }) ∷ r11

  abbrev pub r13 : List (Entry E)
  r13 = (record { at = here1; event = e13 }) ∷ r12

  abbrev pub r14 : List (Entry E)
  r14 = (record { at = here1; event = e14 }) ∷ r13

  abbrev pub r15 : List (Entry E)
  r15 = (record { at = here1; event = e15 }) ∷ r14

  abbrev pub r16 : List (Entry E)
  r16 = (record { at = here1; event = e16 }) ∷ r15

  abbrev pub r17 : List (Entry E)
  r17 = (record { at = here2; event = e17 }) ∷ r16

  abbrev pub r18 : List (Entry E)
  r18 = (record { at = here1; event = e18 }) ∷ r17

  abbrev pub r19 : List (Entry E)
  r19 = (record { at = here1; event = e19 }) ∷ r18

  abbrev pub r20 : List (Entry E)
  r20 = (record { at = here1; event = e20 }) ∷ r19

  abbrev pub r21 : List (Entry E)
  r21 = (record { at = here1; event = e21 }) ∷ r20

  abbrev pub p1 : PartId → PartState E
  p1 = put start here1 (done (start here1) e1)

  abbrev pub p2 : PartId → PartState E
  p2 = put p1 here1 (done (p1 here1) e2)

  abbrev pub p3 : PartId → PartState E
  p3 = put p2 here1 (done (p2 here1) e3)

  abbrev pub p4 : PartId → PartState E
  p4 = p3

  abbrev pub p5 : PartId → PartState E
  p5 = p4

  abbrev pub p6 : PartId → PartState E
  p6 = put p5 here2 (done (p5 here2) e6)

  abbrev pub p7 : PartId → PartState E
  p7 = put p6 here1 (done (p6 here1) e7)

  abbrev pub p8 : PartId → PartState E
  p8 = p7

  abbrev pub p9 : PartId → PartState E
  p9 = put p8 here2 (done (p8 here2) e9)

  abbrev pub p10 : PartId → PartState E
  p10 = put p9 here2 (done (p9 here2) e10)

  abbrev pub p11 : PartId → PartState E
  p11 = p10

  abbrev pub p12 : PartId → PartState E
  p12 = put p11 here1 (done (p11 here1) e12)

  abbrev pub p13 : PartId → PartState E
  p13 = p12

  abbrev pub p14 : PartId → PartState E
  p14 = p13

  abbrev pub p15 : PartId → PartState E
  p15 = p14

  abbrev pub p16 : PartId → PartState E
  p16 = put p15 here1 (done (p15 here1) e16)

  abbrev pub p17 : PartId → PartState E
  p17 = put p16 here2 (done (p16 here2) e17)

  abbrev pub p18 : PartId → PartState E
  p18 = put p17 here1 (done (p17 here1) e18)

  abbrev pub p19 : PartId → PartState E
  p19 = p18

  abbrev pub p20 : PartId → PartState E
  p20 = put p19 here1 (done (p19 here1) e20)

  abbrev pub p21 : PartId → PartState E
  p21 = put p20 here1 (done (p20 here1) e21)

module _ {S E : Type 0} (kinds : Kinds S E) (has : HaveBoth kinds) where
  pub run1 : IsWorldRun kinds 2 2 (r1 kinds) (p1 kinds)
  run1 = go kinds [] (start kinds) here1 (e1 kinds) (done (start kinds here1) (e1 kinds)) (λ q. refl) place_here1
      (record { vectors = []; known = tt; is = refl })
      tt
      (refl, record { early = lit< tt; named = refl; handed = refl; width = refl; own = refl; stable = at_second _ refl; waited = at_second _ (lit≤ tt) }, refl)
      tt

  pub run2 : IsWorldRun kinds 2 2 (r2 kinds) (p2 kinds)
  run2 = go kinds (r1 kinds) (p1 kinds) here1 (e2 kinds) (done (p1 kinds here1) (e2 kinds)) run1 place_here1
      (record { site = refl; who = ann; dependency = record { past = none; stable = false }; begun = was_shown 0 (r1 kinds) _ _ (inl (refl, refl)); place = refl; earlier = refl })
      tt
      (refl, record { ready = λ h. off h; fold = λ h. off h; known = has.counters; fits = fits_more kinds has; object = refl; effect = refl; stamped = refl }, refl)
      (record { early = untried (r1 kinds) both refl; number = refl })

  pub run3 : IsWorldRun kinds 2 2 (r3 kinds) (p3 kinds)
  run3 = go kinds (r2 kinds) (p2 kinds) here1 (e3 kinds) (done (p2 kinds here1) (e3 kinds)) run2 place_here1
      (record { site = refl; who = ann; dependency = record { past = none; stable = false }; begun = was_shown 1 (r2 kinds) _ _ (inl (refl, refl)); place = refl; earlier = refl })
      tt
      (refl, record { ready = λ h. record { clock = lit≤ tt; free = λ u k. off k }; fold = λ h. record { order = tt; members = λ u. refl; exact = tt }; known = has.flags; fits = fits_on kinds has; object = refl; effect = refl; stamped = refl }, refl)
      (record { early = untried (r2 kinds) both refl; number = refl })

  pub run4 : IsWorldRun kinds 2 2 (r4 kinds) (p4 kinds)
  run4 = stay kinds (r3 kinds) (p3 kinds) here2 (e4 kinds) run3 place_here2
      (record { site = refl; who = ann; dependency = record { past = none; stable = false }; begun = was_shown 2 (r3 kinds) _ _ (inl (refl, refl)) }, refl)
      tt
      ((refl, (refl, lit< tt)), refl)
      tt

  pub run5 : IsWorldRun kinds 2 2 (r5 kinds) (p5 kinds)
  run5 = stay kinds (r4 kinds) (p4 kinds) here2 (e5 kinds) run4 place_here2
      (record { site = refl; who = ann; dependency = record { past = none; stable = false }; begun = was_shown 3 (r4 kinds) _ _ (inl (refl, refl)) }, refl)
      (fits_on kinds has)
      ((refl, (refl, refl, lit< tt, fits_on kinds has)), refl)
      tt

  pub run6 : IsWorldRun kinds 2 2 (r6 kinds) (p6 kinds)
  run6 = go kinds (r5 kinds) (p5 kinds) here2 (e6 kinds) (done (p5 kinds here2) (e6 kinds)) run5 place_here2
      (record { site = refl; who = ann; dependency = record { past = none; stable = false }; begun = was_shown 4 (r5 kinds) _ _ (inl (refl, refl)); place = refl; earlier = refl })
      tt
      (refl, record { ready = λ h. off h; fold = λ h. off h; known = has.counters; fits = fits_more kinds has; object = refl; effect = refl; stamped = refl }, refl)
      (record { early = untried (r5 kinds) both refl; number = refl })

  pub run7 : IsWorldRun kinds 2 2 (r7 kinds) (p7 kinds)
  run7 = go kinds (r6 kinds) (p6 kinds) here1 (e7 kinds) (done (p6 kinds here1) (e7 kinds)) run6 place_here1
      (record { fresh = refl; after_lead = λ ne. absurd (ne refl); takes = refl; snapshot = refl; lead = refl; changes = refl })
      tt
      (refl, (lit≤ tt, refl, lit< tt), refl)
      tt

  pub run8 : IsWorldRun kinds 2 2 (r8 kinds) (p8 kinds)
  run8 = stay kinds (r7 kinds) (p7 kinds) here2 (e8 kinds) run7 place_here2
      (record { site = refl; who = ann; dependency = record { past = none; stable = false }; begun = was_shown 6 (r7 kinds) _ _ (inl (refl, refl)) }, refl)
      tt
      ((refl, (refl, lit< tt)), refl)
      tt

  pub run9 : IsWorldRun kinds 2 2 (r9 kinds) (p9 kinds)
  run9 = go kinds (r8 kinds) (p8 kinds) here2 (e9 kinds) (done (p8 kinds here2) (e9 kinds)) run8 place_here2
      tt
      tt
      (refl, (refl, lit≤ tt), refl)
      tt

  pub run10 : IsWorldRun kinds 2 2 (r10 kinds) (p10 kinds)
  run10 = go kinds (r9 kinds) (p9 kinds) here2 (e10 kinds) (done (p9 kinds here2) (e10 kinds)) run9 place_here2
      (record { fresh = refl; after_lead = λ ne. refl; takes = refl; snapshot = refl; lead = refl; changes = refl })
      tt
      (refl, (lit≤ tt, refl, lit< tt), refl)
      tt

  pub run11 : IsWorldRun kinds 2 2 (r11 kinds) (p11 kinds)
  run11 = stay kinds (r10 kinds) (p10 kinds) here1 (e11 kinds) run10 place_here1
      tt
      tt
      refl
      tt

  pub run12 : IsWorldRun kinds 2 2 (r12 kinds) (p12 kinds)
  run12 = go kinds (r11 kinds) (p11 kinds) here1 (e12 kinds) (done (p11 kinds here1) (e12 kinds)) run11 place_here1
      (record { vectors = []; known = tt; is = refl })
      tt
      (refl, record { early = lit< tt; named = refl; handed = refl; width = refl; own = refl; stable = at_second _ refl; waited = at_second _ (lit≤ tt) }, refl)
      tt

  -- nothing else is pending
  first_alone : (w : TxId) → pending (p12 kinds here1).log w ≡ true → pending_cmp (w, prepare_time (p12 kinds here1).log w) (both, 2) ≢ Less
  first_alone w h = ⊎_elim
      (λ (e : same_tx both w ≡ true). subst (λ x. pending_cmp (x, prepare_time (p12 kinds here1).log x) (both, 2) ≢ Less) (same_tx_is both w e) (λ l. absurd (cc l)))
      (λ (e : same_tx both w ≡ false). clash h (rw e refl))
      (cases_Bool (same_tx both w))

  pub run13 : IsWorldRun kinds 2 2 (r13 kinds) (p13 kinds)
  run13 = stay kinds (r12 kinds) (p12 kinds) here1 (e13 kinds) run12 place_here1
      (record { site = refl; who = ben; dependency = record { past = none; stable = false }; begun = was_shown 0 (r12 kinds) _ _ (inl (refl, refl)) }, refl)
      tt
      ((refl, (record { clock = lit≤ tt; waiting = refl; changes = refl; time = refl; early = lit≤ tt; first = λ w h k. first_alone w h })), refl)
      tt

  pub run14 : IsWorldRun kinds 2 2 (r14 kinds) (p14 kinds)
  run14 = stay kinds (r13 kinds) (p13 kinds) here1 (e14 kinds) run13 place_here1
      (record { site = refl; who = ben; dependency = record { past = none; stable = false }; begun = was_shown 1 (r13 kinds) _ _ (inl (refl, refl)) }, refl)
      (fits_on kinds has)
      ((refl, (refl, (record { clock = lit≤ tt; waiting = refl; changes = refl; time = refl; early = lit≤ tt; first = λ w h k. first_alone w h }), fits_on kinds has)), refl)
      tt

  pub run15 : IsWorldRun kinds 2 2 (r15 kinds) (p15 kinds)
  run15 = stay kinds (r14 kinds) (p14 kinds) here1 (e15 kinds) run14 place_here1
      refl
      tt
      ((refl, refl), refl)
      tt

  all_voted : (q : PartId) → takes_part (plan_of 2 2 (r16 kinds)) both q ≡ true → voted (r15 kinds) both q ≡ true
  all_voted q h = ⊎_elim
      (λ (e : same_part here1 q ≡ true). subst (λ x. voted (r15 kinds) both x ≡ true) (same_part_is here1 q e) refl)
      (λ (e : same_part here1 q ≡ false). ⊎_elim
      (λ (f : same_part here2 q ≡ true). subst (λ x. voted (r15 kinds) both x ≡ true) (same_part_is here2 q f) refl)
      (λ (f : same_part here2 q ≡ false). let k = rw e at h in let m = rw f at k in clash m (no_updates E (is_own 2 (r16 kinds) both q)))
      (cases_Bool (same_part here2 q)))
      (cases_Bool (same_part here1 q))

  pub run16 : IsWorldRun kinds 2 2 (r16 kinds) (p16 kinds)
  run16 = go kinds (r15 kinds) (p15 kinds) here1 (e16 kinds) (done (p15 kinds here1) (e16 kinds)) run15 place_here1
      (record { lead = refl; here = refl; all = all_voted; ungiven = refl; once = refl; vector = refl })
      tt
      (refl, refl, refl)
      tt

  pub run17 : IsWorldRun kinds 2 2 (r17 kinds) (p17 kinds)
  run17 = go kinds (r16 kinds) (p16 kinds) here2 (e17 kinds) (done (p16 kinds here2) (e17 kinds)) run16 place_here2
      (record { decided = refl; vector = refl })
      tt
      (refl, refl, refl)
      tt

  pub run18 : IsWorldRun kinds 2 2 (r18 kinds) (p18 kinds)
  run18 = go kinds (r17 kinds) (p17 kinds) here1 (e18 kinds) (done (p17 kinds here1) (e18 kinds)) run17 place_here1
      (record { vectors = (6 ∷ 0 ∷ []) ∷ []; known = (was_vector 1 (r17 kinds) _ (inl refl), tt); is = refl })
      tt
      (refl, record { early = lit< tt; named = refl; handed = refl; width = refl; own = refl; stable = at_second _ refl; waited = at_second _ (lit≤ tt) }, refl)
      tt

  pub run19 : IsWorldRun kinds 2 2 (r19 kinds) (p19 kinds)
  run19 = stay kinds (r18 kinds) (p18 kinds) here1 (e19 kinds) run18 place_here1
      (record { site = refl; who = ann; dependency = record { past = (6 ∷ 0 ∷ []); stable = false }; begun = was_shown 0 (r18 kinds) _ _ (inl (refl, refl)) }, refl)
      tt
      ((refl, (refl, lit< tt)), refl)
      tt

  pub run20 : IsWorldRun kinds 2 2 (r20 kinds) (p20 kinds)
  run20 = go kinds (r19 kinds) (p19 kinds) here1 (e20 kinds) (done (p19 kinds here1) (e20 kinds)) run19 place_here1
      tt
      tt
      (refl, (refl, lit≤ tt), refl)
      tt

  seen_here : (b : Bool) → (b || false) ≡ (((b || false) || false) && (touches (cond (b || false) (cond b (change1 kinds ∷ change2 kinds ∷ []) []) []) counter1 && le (cond (b || false) (cond b (6 ∷ 0 ∷ []) []) []) (6 ∷ 0 ∷ [])))
  seen_here true = refl
  seen_here false = refl

  pub run21 : IsWorldRun kinds 2 2 (r21 kinds) (p21 kinds)
  run21 = go kinds (r20 kinds) (p20 kinds) here1 (e21 kinds) (done (p20 kinds here1) (e21 kinds)) run20 place_here1
      (record { site = refl; who = ann; dependency = record { past = (6 ∷ 0 ∷ []); stable = false }; begun = was_shown 2 (r20 kinds) _ _ (inl (refl, refl)); place = refl; earlier = refl })
      tt
      (refl, (record { clock = lit≤ tt; free = λ u h. clash h (none_left (same_tx both u)) }, record { order = (tt, tt); members = λ u. seen_here (same_tx both u); exact = ((refl, refl), tt) }, has.counters, refl), refl)
      tt

  lines_are_lawful : IsLawful kinds.too_deep kinds.meaning 2 2 (shown_lines (r21 kinds))
  lines_are_lawful = (law_world kinds 2 2 (r21 kinds) (p21 kinds) run21).2

  -- each begin was handed what its session depends on, so each snapshot holds its past
  pub own_past : HandsOwn 2 (shown_lines (r21 kinds))
  own_past = (tt, (tt, (tt, (refl, (tt, (tt, (tt, (tt, (tt, (refl, (tt, (tt, (tt, (tt, (tt, (tt, (tt, (tt, (tt, (tt, (refl, tt)))))))))))))))))))))

  past_is_kept : KeepsPast 2 (shown_lines (r21 kinds))
  past_is_kept = lines_are_lawful.past own_past

  -- what the run shows, the first line first
  shown : reverse (map (λ l. l.step) (shown_lines (r21 kinds))) ≡
      step.Began ann both (1 ∷ 0 ∷ [])
      ∷ step.Updated ann counter1 (kinds.stamp_of (change1 kinds).effect)
      ∷ step.Updated ann flag1 (kinds.stamp_of (change2 kinds).effect)
      ∷ step.WaitClock here2 0
      ∷ step.WaitClock here2 0
      ∷ step.Updated ann counter2 (kinds.stamp_of (change3 kinds).effect)
      ∷ step.Prepared here1 both 2
      ∷ step.WaitClock here2 0
      ∷ step.Ticked here2 5
      ∷ step.Prepared here2 both 6
      ∷ step.MadeSession ben 1
      ∷ step.Began ben waiting (3 ∷ 0 ∷ [])
      ∷ step.WaitTxn here1 both 2
      ∷ step.WaitTxn here1 both 2
      ∷ step.Full 40
      ∷ step.Decided here1 both (6 ∷ 0 ∷ [])
      ∷ step.Finished here2 both
      ∷ step.Began ann later (6 ∷ 0 ∷ [])
      ∷ step.WaitClock here1 4
      ∷ step.Ticked here1 9
      ∷ step.Value ann counter1 (seen kinds)
      ∷ []
  shown = refl
