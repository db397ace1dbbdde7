-- After the commit at two partitions: its parts come to the other site, with a gap and a repeat; a begin there waits until a report
-- of the other partition was heard, and sees it; and at the end of time neither a vote nor a begin can be had.
use Rattle.std.proofs.Common.{◌≡◌, inl, ℕ, cond, leb, ltb, Bool, true, false, ◌&&◌, ◌||◌, List, [], ◌∷◌, None, refl, lit≤, lit<, le_refl}
use Rattle.std.specs.Prelude.{map, reverse, ◌++◌}
use Rattle.site_vector.specs.declared.ids.PartId.{PartId}
use Rattle.site_vector.specs.declared.ids.TxId.{TxId}
use Rattle.site_vector.specs.Ids.{same_tx}
use Rattle.site_vector.specs.Vector.{le, entry}
use Rattle.crdt_core.specs.declared.kind.Kind.TheVariants.{CounterPn}
use Rattle.crdt_core.specs.declared.value.Value.{Value}
use Rattle.crdt_core.specs.declared.record.Upd.{Upd}
use Rattle.crdt_core.specs.declared.record.Part.{Part}
use Rattle.crdt_core.specs.declared.record.Message.{Message}
use Rattle.crdt_core.specs.KindsOf.{Kinds}
use Rattle.crdt_core.specs.Folds.{state_read}
use Rattle.crdt_core.specs.Log.{end_of_time}
use Rattle.crdt_core.specs.Parts.{touches}
use Rattle.world_model.specs.rules.Event.{led_by, Event, Entry, Began, Updated, Read, Ticked, Sent, Took, Reported, Heard, Refused, AskBegin, AskPrepare, AskTake, StableBehind, ClockAtEnd, HasGap, IsRepeat, sent_count, report_count}
use Rattle.world_model.specs.lines.Lawful.{IsLawful}
use Rattle.world_model.specs.rules.Lines.{shown_lines}
use Rattle.world_model.specs.rules.Partition.{PartState, done}
use Rattle.world_model.specs.rules.World.{IsWorldRun}
use Rattle.world_model.proofs.Names.{clash, off}
use Rattle.world_model.proofs.Law.{law_world}
use Rattle.world_model.proofs.ExampleCluster.{here1, here2, there1, there2, place_here1, place_here2, place_there1, place_there2, second_of_first, first_of_second, at_first, counter1, counter2, more, ann, none, none_left, was_shown, was_numbered, was_vector, put, go, stay, HaveBoth, fits_more, untried}
use Rattle.world_model.specs.lines.Dependency.{HandsOwn, KeepsPast}
use Rattle.world_model.proofs.ExampleCommit.{both, change1, change2, change3, part1, r21, p21, run21, own_past}
use Rattle.world_model.specs.declared.step.Step.TheVariants as step

-- a third session
abbrev pub cal : List ℕ
cal = 99 ∷ []

abbrev pub moved : TxId
moved = record { site = 2; part = 1; time = 1 }

module _ {S E : Type 0} (kinds : Kinds S E) where
  abbrev pub message : Message E
  message = record { from = 1; to = 2; part = 1; lo = 0; hi = 9; parts = part1 kinds ∷ [] }

  -- the next one, which brings nothing
  abbrev pub ahead : Message E
  ahead = record { from = 1; to = 2; part = 1; lo = 9; hi = 9; parts = [] }

  abbrev pub part2 : Part E
  part2 = record { tx = both; c = 6 ∷ 0 ∷ []; updates = change3 kinds ∷ [] }

  abbrev pub message2 : Message E
  message2 = record { from = 1; to = 2; part = 2; lo = 0; hi = 6; parts = part2 ∷ [] }

  abbrev pub seen_there : Value
  seen_there = kinds.value_of (state_read kinds counter1 moved [] (part1 kinds ∷ []))

  abbrev pub change4 : Upd E
  change4 = record { object = counter2; index = 1; effect = kinds.generated CounterPn (kinds.initial CounterPn) [] more.act 0 }

  abbrev pub r0 : List (Entry E)
  r0 = r21 kinds

  abbrev pub p0 : PartId → PartState E
  p0 = p21 kinds

  abbrev pub e1 : Event E
  e1 = Sent None message

  abbrev pub e2 : Event E
  e2 = Sent None ahead

  -- the first message has not come
  abbrev pub e3 : Event E
  e3 = Refused (AskTake 2 ahead) (HasGap 0)

  abbrev pub e4 : Event E
  e4 = Took 1 message

  abbrev pub e5 : Event E
  e5 = Refused (AskTake 1 message) (IsRepeat 9)

  -- the other partition of the site is not known to have come so far
  abbrev pub e6 : Event E
  e6 = Refused (AskBegin ann (record { past = 6 ∷ 0 ∷ []; stable = false })) (StableBehind 1 0)

  abbrev pub e7 : Event E
  e7 = Sent None message2

  -- its own first message
  abbrev pub e8 : Event E
  e8 = Took 1 message2

  abbrev pub e9 : Event E
  e9 = Reported (6 ∷ 0 ∷ [])

  abbrev pub e10 : Event E
  e10 = Heard 1 2 (6 ∷ 0 ∷ []) (6 ∷ 0 ∷ [])

  -- its snapshot has the least of the site's two bounds
  abbrev pub e11 : Event E
  e11 = Began ann (record { past = 6 ∷ 0 ∷ []; stable = false }) moved (6 ∷ 1 ∷ [])

  abbrev pub e12 : Event E
  e12 = Read moved (6 ∷ 1 ∷ []) counter1 [] (part1 kinds ∷ []) seen_there

  abbrev pub e13 : Event E
  e13 = Updated moved (6 ∷ 1 ∷ []) counter2 [] more [] change4 (kinds.stamp_of change4.effect)

  abbrev pub e14 : Event E
  e14 = Ticked end_of_time end_of_time

  -- no time is left for a vote, and none for a begin
  abbrev pub e15 : Event E
  e15 = Refused (AskPrepare moved (6 ∷ 1 ∷ []) (led_by 2) (change4 ∷ [])) ClockAtEnd

  abbrev pub e16 : Event E
  e16 = Refused (AskBegin cal (record { past = none; stable = false })) ClockAtEnd

  abbrev pub r1 : List (Entry E)
  r1 = (record { at = here1; event = e1 }) ∷ r0

  abbrev pub r2 : List (Entry E)
  r2 = (record { at = here1; event = e2 }) ∷ r1

  abbrev pub r3 : List (Entry E)
  r3 = (record { at = there1; event = e3 }) ∷ r2

  abbrev pub r4 : List (Entry E)
  r4 = (record { at = there1; event = e4 }) ∷ r3

  abbrev pub r5 : List (Entry E)
  r5 = (record { at = there1; event = e5 }) ∷ r4

  abbrev pub r6 : List (Entry E)
  r6 = (record { at = there1; event = e6 }) ∷ r5

  abbrev pub r7 : List (Entry E)
  r7 = (record { at = here2; event = e7 }) ∷ r6

  abbrev pub r8 : List (Entry E)
  r8 = (record { at = there2; event = e8 }) ∷ r7

  abbrev pub r9 : List (Entry E)
  r9 = (record { at = there2; event = e9 }) ∷ r8

  abbrev pub r10 : List (Entry E)
  r10 = (record { at = there1; event = e10 }) ∷ r9

  abbrev pub r11 : List (Entry E)
  r11 = (record { at = there1; event = e11 }) ∷ r10

  abbrev pub r12 : List (Entry E)
  r12 = (record { at = there1; event = e12 }) ∷ r11

  abbrev pub r13 : List (Entry E)
  r13 = (record { at = there2; event = e13 }) ∷ r12

  abbrev pub r14 : List (Entry E)
  r14 = (record { at = there2; event = e14 }) ∷ r13

  abbrev pub r15 : List (Entry E)
  r15 = (record { at = there2; event = e15 }) ∷ r14

  abbrev pub r16 : List (Entry E)
  r16 = (record { at = there2; event = e16 }) ∷ r15

  abbrev pub p1 : PartId → PartState E
  p1 = put p0 here1 (done (p0 here1) e1)

  abbrev pub p2 : PartId → PartState E
  p2 = put p1 here1 (done (p1 here1) e2)

  abbrev pub p3 : PartId → PartState E
  p3 = p2

  abbrev pub p4 : PartId → PartState E
  p4 = put p3 there1 (done (p3 there1) e4)

  abbrev pub p5 : PartId → PartState E
  p5 = p4

  abbrev pub p6 : PartId → PartState E
  p6 = p5

  abbrev pub p7 : PartId → PartState E
  p7 = put p6 here2 (done (p6 here2) e7)

  abbrev pub p8 : PartId → PartState E
  p8 = put p7 there2 (done (p7 there2) e8)

  abbrev pub p9 : PartId → PartState E
  p9 = put p8 there2 (done (p8 there2) e9)

  abbrev pub p10 : PartId → PartState E
  p10 = put p9 there1 (done (p9 there1) e10)

  abbrev pub p11 : PartId → PartState E
  p11 = put p10 there1 (done (p10 there1) e11)

  abbrev pub p12 : PartId → PartState E
  p12 = put p11 there1 (done (p11 there1) e12)

  abbrev pub p13 : PartId → PartState E
  p13 = put p12 there2 (done (p12 there2) e13)

  abbrev pub p14 : PartId → PartState E
  p14 = put p13 there2 (done (p13 there2) e14)

  abbrev pub p15 : PartId → PartState E
  p15 = p14

  abbrev pub p16 : PartId → PartState E
  p16 = p15

module _ {S E : Type 0} (kinds : Kinds S E) (has : HaveBoth kinds) where
  run0 : IsWorldRun kinds 2 2 (r0 kinds) (p0 kinds)
  run0 = run21 kinds has

  in_stretch : (b : Bool) → (b || false) ≡ ((b || false) && (ltb 0 (entry (cond b (6 ∷ 0 ∷ []) []) 1) && leb (entry (cond b (6 ∷ 0 ∷ []) []) 1) 9))
  in_stretch true = refl
  in_stretch false = refl

  past_stretch : (b : Bool) → false ≡ ((b || false) && (ltb 9 (entry (cond b (6 ∷ 0 ∷ []) []) 1) && leb (entry (cond b (6 ∷ 0 ∷ []) []) 1) 9))
  past_stretch true = refl
  past_stretch false = refl

  pub run1 : IsWorldRun kinds 2 2 (r1 kinds) (p1 kinds)
  run1 = go kinds (r0 kinds) (p0 kinds) here1 (e1 kinds) (done (p0 kinds here1) (e1 kinds)) run0 place_here1
      tt
      tt
      (refl, record { from = refl; part = refl; to = second_of_first; lo = refl; hi = record { most = le_refl 9; below = λ u h. clash h (none_left (same_tx both u)); reached = inl refl }; order = (tt, tt); members = λ u. in_stretch (same_tx both u); exact = ((refl, refl), tt) }, refl)
      tt

  pub run2 : IsWorldRun kinds 2 2 (r2 kinds) (p2 kinds)
  run2 = go kinds (r1 kinds) (p1 kinds) here1 (e2 kinds) (done (p1 kinds here1) (e2 kinds)) run1 place_here1
      tt
      tt
      (refl, record { from = refl; part = refl; to = second_of_first; lo = refl; hi = record { most = le_refl 9; below = λ u h. clash h (none_left (same_tx both u)); reached = inl refl }; order = tt; members = λ u. past_stretch (same_tx both u); exact = tt }, refl)
      tt

  pub run3 : IsWorldRun kinds 2 2 (r3 kinds) (p3 kinds)
  run3 = stay kinds (r2 kinds) (p2 kinds) there1 (e3 kinds) run2 place_there1
      (record { from = first_of_second; to = refl; part = refl; asked = None; shown = was_numbered sent_count 0 (r2 kinds) _ _ _ (inl (refl, refl, refl)) })
      tt
      ((refl, (refl, lit< tt)), refl)
      tt

  pub run4 : IsWorldRun kinds 2 2 (r4 kinds) (p4 kinds)
  run4 = go kinds (r3 kinds) (p3 kinds) there1 (e4 kinds) (done (p3 kinds there1) (e4 kinds)) run3 place_there1
      (record { from = first_of_second; to = refl; part = refl; asked = None; shown = was_numbered sent_count 2 (r3 kinds) _ _ _ (inl (refl, refl, refl)) })
      tt
      (refl, (le_refl 0, lit< tt), refl)
      tt

  pub run5 : IsWorldRun kinds 2 2 (r5 kinds) (p5 kinds)
  run5 = stay kinds (r4 kinds) (p4 kinds) there1 (e5 kinds) run4 place_there1
      (record { from = first_of_second; to = refl; part = refl; asked = None; shown = was_numbered sent_count 3 (r4 kinds) _ _ _ (inl (refl, refl, refl)) })
      tt
      ((refl, (refl, lit≤ tt, le_refl 9)), refl)
      tt

  pub run6 : IsWorldRun kinds 2 2 (r6 kinds) (p6 kinds)
  run6 = stay kinds (r5 kinds) (p5 kinds) there1 (e6 kinds) run5 place_there1
      (record { vectors = (6 ∷ 0 ∷ []) ∷ []; known = (was_vector 10 (r5 kinds) _ (inl refl), tt); is = refl })
      tt
      ((refl, record { have = inl (first_of_second, refl); behind = lit< tt; least = λ i o k. o.least; own = λ k c. clash c refl }), refl)
      tt

  in_stretch2 : (b : Bool) → (b || false) ≡ ((b || false) && (ltb 0 (entry (cond b (6 ∷ 0 ∷ []) []) 1) && leb (entry (cond b (6 ∷ 0 ∷ []) []) 1) 6))
  in_stretch2 true = refl
  in_stretch2 false = refl

  pub run7 : IsWorldRun kinds 2 2 (r7 kinds) (p7 kinds)
  run7 = go kinds (r6 kinds) (p6 kinds) here2 (e7 kinds) (done (p6 kinds here2) (e7 kinds)) run6 place_here2
      tt
      tt
      (refl, record { from = refl; part = refl; to = second_of_first; lo = refl; hi = record { most = le_refl 6; below = λ u h. clash h (none_left (same_tx both u)); reached = inl refl }; order = (tt, tt); members = λ u. in_stretch2 (same_tx both u); exact = ((refl, refl), tt) }, refl)
      tt

  pub run8 : IsWorldRun kinds 2 2 (r8 kinds) (p8 kinds)
  run8 = go kinds (r7 kinds) (p7 kinds) there2 (e8 kinds) (done (p7 kinds there2) (e8 kinds)) run7 place_there2
      (record { from = first_of_second; to = refl; part = refl; asked = None; shown = was_numbered sent_count 0 (r7 kinds) _ _ _ (inl (refl, refl, refl)) })
      tt
      (refl, (le_refl 0, lit< tt), refl)
      tt

  pub run9 : IsWorldRun kinds 2 2 (r9 kinds) (p9 kinds)
  run9 = go kinds (r8 kinds) (p8 kinds) there2 (e9 kinds) (done (p8 kinds there2) (e9 kinds)) run8 place_there2
      tt
      tt
      (refl, record { width = refl; own = record { most = le_refl 0; below = λ u h. off h; reached = inl refl }; others = at_first _ refl }, refl)
      tt

  pub run10 : IsWorldRun kinds 2 2 (r10 kinds) (p10 kinds)
  run10 = go kinds (r9 kinds) (p9 kinds) there1 (e10 kinds) (done (p9 kinds there1) (e10 kinds)) run9 place_there1
      (record { least = lit≤ tt; most = lit≤ tt; shown = was_numbered report_count 0 (r9 kinds) _ _ _ (inl (refl, refl, refl)) })
      tt
      (refl, record { width = refl; own = (0, record { most = le_refl 0; below = λ u h. off h; reached = inl refl }, refl); others = at_first _ refl }, refl)
      tt

  pub run11 : IsWorldRun kinds 2 2 (r11 kinds) (p11 kinds)
  run11 = go kinds (r10 kinds) (p10 kinds) there1 (e11 kinds) (done (p10 kinds there1) (e11 kinds)) run10 place_there1
      (record { vectors = (6 ∷ 0 ∷ []) ∷ []; known = (was_vector 15 (r10 kinds) _ (inl refl), tt); is = refl })
      tt
      (refl, record { early = lit< tt; named = refl; handed = refl; width = refl; own = refl; stable = at_first _ refl; waited = at_first _ (lit≤ tt) }, refl)
      tt

  sees : (b : Bool) → (b || false) ≡ (((b || false) || false) && (touches (cond (b || false) (cond b (change1 kinds ∷ change2 kinds ∷ []) []) []) counter1 && le (cond (b || false) (cond b (6 ∷ 0 ∷ []) []) []) (6 ∷ 1 ∷ [])))
  sees true = refl
  sees false = refl

  pub run12 : IsWorldRun kinds 2 2 (r12 kinds) (p12 kinds)
  run12 = go kinds (r11 kinds) (p11 kinds) there1 (e12 kinds) (done (p11 kinds there1) (e12 kinds)) run11 place_there1
      (record { site = refl; who = ann; dependency = record { past = (6 ∷ 0 ∷ []); stable = false }; begun = was_shown 0 (r11 kinds) _ _ (inl (refl, refl)); place = refl; earlier = refl })
      tt
      (refl, (record { clock = le_refl 1; free = λ u h. off h }, record { order = (tt, tt); members = λ u. sees (same_tx both u); exact = ((refl, refl), tt) }, has.counters, refl), refl)
      tt

  pub run13 : IsWorldRun kinds 2 2 (r13 kinds) (p13 kinds)
  run13 = go kinds (r12 kinds) (p12 kinds) there2 (e13 kinds) (done (p12 kinds there2) (e13 kinds)) run12 place_there2
      (record { site = refl; who = ann; dependency = record { past = (6 ∷ 0 ∷ []); stable = false }; begun = was_shown 1 (r12 kinds) _ _ (inl (refl, refl)); place = refl; earlier = refl })
      tt
      (refl, record { ready = λ h. off h; fold = λ h. off h; known = has.counters; fits = fits_more kinds has; object = refl; effect = refl; stamped = refl }, refl)
      (record { early = untried (r12 kinds) moved refl; number = refl })

  pub run14 : IsWorldRun kinds 2 2 (r14 kinds) (p14 kinds)
  run14 = go kinds (r13 kinds) (p13 kinds) there2 (e14 kinds) (done (p13 kinds there2) (e14 kinds)) run13 place_there2
      tt
      tt
      (refl, (refl, lit≤ tt), refl)
      tt

  pub run15 : IsWorldRun kinds 2 2 (r15 kinds) (p15 kinds)
  run15 = stay kinds (r14 kinds) (p14 kinds) there2 (e15 kinds) run14 place_there2
      (record { site = refl; who = ann; dependency = record { past = (6 ∷ 0 ∷ []); stable = false }; begun = was_shown 3 (r14 kinds) _ _ (inl (refl, refl)) }, refl)
      tt
      ((refl, (lit≤ tt, refl)), refl)
      tt

  pub run16 : IsWorldRun kinds 2 2 (r16 kinds) (p16 kinds)
  run16 = stay kinds (r15 kinds) (p15 kinds) there2 (e16 kinds) run15 place_there2
      (record { vectors = []; known = tt; is = refl })
      tt
      ((refl, ((at_first _ (lit≤ tt), λ c. clash c refl), refl)), refl)
      tt

  lines_are_lawful : IsLawful kinds.too_deep kinds.meaning 2 2 (shown_lines (r16 kinds))
  lines_are_lawful = (law_world kinds 2 2 (r16 kinds) (p16 kinds) run16).2

  -- each begin was handed what its session depends on, so each snapshot holds its past, also that of the session which moved
  own : HandsOwn 2 (shown_lines (r16 kinds))
  own = (refl, (tt, (tt, (tt, (tt, (refl, (tt, (tt, (tt, (tt, (refl, (tt, (tt, (tt, (tt, (tt, own_past kinds has))))))))))))))))

  past_is_kept : KeepsPast 2 (shown_lines (r16 kinds))
  past_is_kept = lines_are_lawful.past own

  -- what the run shows after the commit, the first line first
  shown : reverse (map (λ l. l.step) (shown_lines (r16 kinds))) ≡ reverse (map (λ l. l.step) (shown_lines (r0 kinds))) ++
      (step.Sent 1 here1 2 0 9 1
      ∷ step.Sent 2 here1 2 9 9 0
      ∷ step.Gap 2 0
      ∷ step.Took 1 9
      ∷ step.Dup 1 9
      ∷ step.WaitStable 1 0
      ∷ step.Sent 1 here2 2 0 6 1
      ∷ step.Took 1 6
      ∷ step.Reported 1 there2 (6 ∷ 0 ∷ [])
      ∷ step.Heard 1 there1 (6 ∷ 0 ∷ [])
      ∷ step.Began ann moved (6 ∷ 1 ∷ [])
      ∷ step.Value ann counter1 (seen_there kinds)
      ∷ step.Updated ann counter2 (kinds.stamp_of (change4 kinds).effect)
      ∷ step.Ticked there2 end_of_time
      ∷ step.TimeEnd
      ∷ step.TimeEnd
      ∷ [])
  shown = refl
