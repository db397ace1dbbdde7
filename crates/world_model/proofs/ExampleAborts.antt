-- After the commit at two partitions: a transaction with two votes is aborted by its lead, and then by the other partition on the
-- lead's word; another is aborted by its session.
use Rattle.std.proofs.Common.{◌≡◌, inl, inr, true, false, List, [], ◌∷◌, refl, lit≤, lit<}
use Rattle.std.specs.Prelude.{map, reverse, ◌++◌}
use Rattle.site_vector.specs.declared.ids.PartId.{PartId}
use Rattle.site_vector.specs.declared.ids.TxId.{TxId}
use Rattle.crdt_core.specs.declared.kind.Kind.TheVariants.{CounterPn}
use Rattle.crdt_core.specs.declared.record.Upd.{Upd}
use Rattle.crdt_core.specs.KindsOf.{Kinds}
use Rattle.world_model.specs.rules.Event.{led_by, Event, Entry, Began, Updated, Prepared, Aborted, Ticked, Refused, AskDecide, AskAbort, IsGone}
use Rattle.world_model.specs.lines.Lawful.{IsLawful}
use Rattle.world_model.specs.rules.Lines.{shown_lines}
use Rattle.world_model.specs.rules.Partition.{PartState, done, fate_of, ToldAborted}
use Rattle.world_model.specs.rules.World.{IsWorldRun}
use Rattle.world_model.proofs.Names.{off}
use Rattle.world_model.proofs.Law.{law_world}
use Rattle.world_model.proofs.ExampleCluster.{here1, here2, place_here1, place_here2, at_second, counter1, counter2, more, ann, ben, was_shown, was_vector, put, go, stay, HaveBoth, fits_more, untried}
use Rattle.world_model.proofs.ExampleCommit.{r21, p21, run21}
use Rattle.world_model.specs.declared.step.Step.TheVariants as step

abbrev pub dropped : TxId
dropped = record { site = 1; part = 1; time = 10 }

abbrev pub undone : TxId
undone = record { site = 1; part = 1; time = 12 }

module _ {S E : Type 0} (kinds : Kinds S E) where
  abbrev pub change1 : Upd E
  change1 = record { object = counter1; index = 1; effect = kinds.generated CounterPn (kinds.initial CounterPn) [] more.act 10 }

  abbrev pub change2 : Upd E
  change2 = record { object = counter2; index = 2; effect = kinds.generated CounterPn (kinds.initial CounterPn) [] more.act 6 }

  abbrev pub change3 : Upd E
  change3 = record { object = counter1; index = 1; effect = kinds.generated CounterPn (kinds.initial CounterPn) [] more.act 12 }

  abbrev pub r0 : List (Entry E)
  r0 = r21 kinds

  abbrev pub p0 : PartId → PartState E
  p0 = p21 kinds

  abbrev pub e1 : Event E
  e1 = Began ben (record { past = 3 ∷ 0 ∷ []; stable = false }) dropped (10 ∷ 0 ∷ [])

  abbrev pub e2 : Event E
  e2 = Updated dropped (10 ∷ 0 ∷ []) counter1 [] more [] change1 (kinds.stamp_of change1.effect)

  abbrev pub e3 : Event E
  e3 = Updated dropped (10 ∷ 0 ∷ []) counter2 [] more [] change2 (kinds.stamp_of change2.effect)

  abbrev pub e4 : Event E
  e4 = Prepared dropped (10 ∷ 0 ∷ []) (led_by 1) (change1 ∷ []) 11

  abbrev pub e5 : Event E
  e5 = Ticked 20 20

  abbrev pub e6 : Event E
  e6 = Prepared dropped (10 ∷ 0 ∷ []) (led_by 1) (change2 ∷ []) 21

  -- the lead aborts, since nobody asked it to decide
  abbrev pub e7 : Event E
  e7 = Aborted dropped false

  -- and the other partition on its word
  abbrev pub e8 : Event E
  e8 = Aborted dropped false

  -- the session comes too late
  abbrev pub e9 : Event E
  e9 = Refused (AskDecide dropped (21 ∷ 0 ∷ [])) IsGone

  abbrev pub e10 : Event E
  e10 = Refused (AskAbort dropped) IsGone

  abbrev pub e11 : Event E
  e11 = Began ann (record { past = 6 ∷ 0 ∷ []; stable = false }) undone (12 ∷ 0 ∷ [])

  abbrev pub e12 : Event E
  e12 = Updated undone (12 ∷ 0 ∷ []) counter1 [] more [] change3 (kinds.stamp_of change3.effect)

  abbrev pub e13 : Event E
  e13 = Prepared undone (12 ∷ 0 ∷ []) (led_by 1) (change3 ∷ []) 13

  -- on the word of its session
  abbrev pub e14 : Event E
  e14 = Aborted undone true

  abbrev pub r1 : List (Entry E)
  r1 = (record { at = here1; event = e1 }) ∷ r0

  abbrev pub r2 : List (Entry E)
  r2 = (record { at = here1; event = e2 }) ∷ r1

  abbrev pub r3 : List (Entry E)
  r3 = (record { at = here2; event = e3 }) ∷ r2

  abbrev pub r4 : List (Entry E)
  r4 = (record { at = here1; event = e4 }) ∷ r3

  abbrev pub r5 : List (Entry E)
  r5 = (record { at = here2; event = e5 }) ∷ r4

  abbrev pub r6 : List (Entry E)
  r6 = (record { at = here2; event = e6 }) ∷ r5

  abbrev pub r7 : List (Entry E)
  r7 = (record { at = here1; event = e7 }) ∷ r6

  abbrev pub r8 : List (Entry E)
  r8 = (record { at = here2; event = e8 }) ∷ r7

  abbrev pub r9 : List (Entry E)
  r9 = (record { at = here1; event = e9 }) ∷ r8

  abbrev pub r10 : List (Entry E)
  r10 = (record { at = here2; event = e10 }) ∷ r9

  abbrev pub r11 : List (Entry E)
  r11 = (record { at = here1; event = e11 }) ∷ r10

  abbrev pub r12 : List (Entry E)
  r12 = (record { at = here1; event = e12 }) ∷ r11

  abbrev pub r13 : List (Entry E)
  r13 = (record { at = here1; event = e13 }) ∷ r12

  abbrev pub r14 : List (Entry E)
  r14 = (record { at = here1; event = e14 }) ∷ r13

  abbrev pub p1 : PartId → PartState E
  p1 = put p0 here1 (done (p0 here1) e1)

  abbrev pub p2 : PartId → PartState E
  p2 = put p1 here1 (done (p1 here1) e2)

  abbrev pub p3 : PartId → PartState E
  p3 = put p2 here2 (done (p2 here2) e3)

  abbrev pub p4 : PartId → PartState E
  p4 = put p3 here1 (done (p3 here1) e4)

  abbrev pub p5 : PartId → PartState E
  p5 = put p4 here2 (done (p4 here2) e5)

  abbrev pub p6 : PartId → PartState E
  p6 = put p5 here2 (done (p5 here2) e6)

  abbrev pub p7 : PartId → PartState E
  p7 = put p6 here1 (done (p6 here1) e7)

  abbrev pub p8 : PartId → PartState E
  p8 = put p7 here2 (done (p7 here2) e8)

  abbrev pub p9 : PartId → PartState E
  p9 = p8

  abbrev pub p10 : PartId → PartState E
  p10 = p9

  abbrev pub p11 : PartId → PartState E
  p11 = put p10 here1 (done (p10 here1) e11)

  abbrev pub p12 : PartId → PartState E
  p12 = put p11 here1 (done (p11 here1) e12)

  abbrev pub p13 : PartId → PartState E
  p13 = put p12 here1 (done (p12 here1) e13)

  abbrev pub p14 : PartId → PartState E
  p14 = put p13 here1 (done (p13 here1) e14)

module _ {S E : Type 0} (kinds : Kinds S E) (has : HaveBoth kinds) where
  run0 : IsWorldRun kinds 2 2 (r0 kinds) (p0 kinds)
  run0 = run21 kinds has

  pub run1 : IsWorldRun kinds 2 2 (r1 kinds) (p1 kinds)
  run1 = go kinds (r0 kinds) (p0 kinds) here1 (e1 kinds) (done (p0 kinds here1) (e1 kinds)) run0 place_here1
      (record { vectors = (3 ∷ 0 ∷ []) ∷ []; known = (was_vector 9 (r0 kinds) _ (inl refl), tt); is = refl })
      tt
      (refl, record { early = lit< tt; named = refl; handed = refl; width = refl; own = refl; stable = at_second _ refl; waited = at_second _ (lit≤ tt) }, refl)
      tt

  pub run2 : IsWorldRun kinds 2 2 (r2 kinds) (p2 kinds)
  run2 = go kinds (r1 kinds) (p1 kinds) here1 (e2 kinds) (done (p1 kinds here1) (e2 kinds)) run1 place_here1
      (record { site = refl; who = ben; dependency = record { past = (3 ∷ 0 ∷ []); stable = false }; begun = was_shown 0 (r1 kinds) _ _ (inl (refl, refl)); place = refl; earlier = refl })
      tt
      (refl, record { ready = λ h. off h; fold = λ h. off h; known = has.counters; fits = fits_more kinds has; object = refl; effect = refl; stamped = refl }, refl)
      (record { early = untried (r1 kinds) dropped refl; number = refl })

  pub run3 : IsWorldRun kinds 2 2 (r3 kinds) (p3 kinds)
  run3 = go kinds (r2 kinds) (p2 kinds) here2 (e3 kinds) (done (p2 kinds here2) (e3 kinds)) run2 place_here2
      (record { site = refl; who = ben; dependency = record { past = (3 ∷ 0 ∷ []); stable = false }; begun = was_shown 1 (r2 kinds) _ _ (inl (refl, refl)); place = refl; earlier = refl })
      tt
      (refl, record { ready = λ h. off h; fold = λ h. off h; known = has.counters; fits = fits_more kinds has; object = refl; effect = refl; stamped = refl }, refl)
      (record { early = untried (r2 kinds) dropped refl; number = refl })

  pub run4 : IsWorldRun kinds 2 2 (r4 kinds) (p4 kinds)
  run4 = go kinds (r3 kinds) (p3 kinds) here1 (e4 kinds) (done (p3 kinds here1) (e4 kinds)) run3 place_here1
      (record { fresh = refl; after_lead = λ ne. absurd (ne refl); takes = refl; snapshot = refl; lead = refl; changes = refl })
      tt
      (refl, (lit≤ tt, refl, lit< tt), refl)
      tt

  pub run5 : IsWorldRun kinds 2 2 (r5 kinds) (p5 kinds)
  run5 = go kinds (r4 kinds) (p4 kinds) here2 (e5 kinds) (done (p4 kinds here2) (e5 kinds)) run4 place_here2
      tt
      tt
      (refl, (refl, lit≤ tt), refl)
      tt

  pub run6 : IsWorldRun kinds 2 2 (r6 kinds) (p6 kinds)
  run6 = go kinds (r5 kinds) (p5 kinds) here2 (e6 kinds) (done (p5 kinds here2) (e6 kinds)) run5 place_here2
      (record { fresh = refl; after_lead = λ ne. refl; takes = refl; snapshot = refl; lead = refl; changes = refl })
      tt
      (refl, (lit≤ tt, refl, lit< tt), refl)
      tt

  pub run7 : IsWorldRun kinds 2 2 (r7 kinds) (p7 kinds)
  run7 = go kinds (r6 kinds) (p6 kinds) here1 (e7 kinds) (done (p6 kinds here1) (e7 kinds)) run6 place_here1
      (inl refl)
      tt
      (refl, refl, refl)
      tt

  pub run8 : IsWorldRun kinds 2 2 (r8 kinds) (p8 kinds)
  run8 = go kinds (r7 kinds) (p7 kinds) here2 (e8 kinds) (done (p7 kinds here2) (e8 kinds)) run7 place_here2
      (inr (inl refl))
      tt
      (refl, refl, refl)
      tt

  pub run9 : IsWorldRun kinds 2 2 (r9 kinds) (p9 kinds)
  run9 = stay kinds (r8 kinds) (p8 kinds) here1 (e9 kinds) run8 place_here1
      refl
      tt
      ((refl, refl), refl)
      tt

  pub run10 : IsWorldRun kinds 2 2 (r10 kinds) (p10 kinds)
  run10 = stay kinds (r9 kinds) (p9 kinds) here2 (e10 kinds) run9 place_here2
      tt
      tt
      ((refl, refl), refl)
      tt

  pub run11 : IsWorldRun kinds 2 2 (r11 kinds) (p11 kinds)
  run11 = go kinds (r10 kinds) (p10 kinds) here1 (e11 kinds) (done (p10 kinds here1) (e11 kinds)) run10 place_here1
      (record { vectors = (6 ∷ 0 ∷ []) ∷ []; known = (was_vector 15 (r10 kinds) _ (inl refl), tt); is = refl })
      tt
      (refl, record { early = lit< tt; named = refl; handed = refl; width = refl; own = refl; stable = at_second _ refl; waited = at_second _ (lit≤ tt) }, refl)
      tt

  pub run12 : IsWorldRun kinds 2 2 (r12 kinds) (p12 kinds)
  run12 = go kinds (r11 kinds) (p11 kinds) here1 (e12 kinds) (done (p11 kinds here1) (e12 kinds)) run11 place_here1
      (record { site = refl; who = ann; dependency = record { past = (6 ∷ 0 ∷ []); stable = false }; begun = was_shown 0 (r11 kinds) _ _ (inl (refl, refl)); place = refl; earlier = refl })
      tt
      (refl, record { ready = λ h. off h; fold = λ h. off h; known = has.counters; fits = fits_more kinds has; object = refl; effect = refl; stamped = refl }, refl)
      (record { early = untried (r11 kinds) undone refl; number = refl })

  pub run13 : IsWorldRun kinds 2 2 (r13 kinds) (p13 kinds)
  run13 = go kinds (r12 kinds) (p12 kinds) here1 (e13 kinds) (done (p12 kinds here1) (e13 kinds)) run12 place_here1
      (record { fresh = refl; after_lead = λ ne. absurd (ne refl); takes = refl; snapshot = refl; lead = refl; changes = refl })
      tt
      (refl, (lit≤ tt, refl, lit< tt), refl)
      tt

  pub run14 : IsWorldRun kinds 2 2 (r14 kinds) (p14 kinds)
  run14 = go kinds (r13 kinds) (p13 kinds) here1 (e14 kinds) (done (p13 kinds here1) (e14 kinds)) run13 place_here1
      refl
      tt
      (refl, refl, refl)
      tt

  lines_are_lawful : IsLawful kinds.too_deep kinds.meaning 2 2 (shown_lines (r14 kinds))
  lines_are_lawful = (law_world kinds 2 2 (r14 kinds) (p14 kinds) run14).2

  -- its lead tells that it is aborted
  told : fate_of (p14 kinds here1) dropped ≡ ToldAborted
  told = refl

  -- what the run shows after the commit, the first line first
  shown : reverse (map (λ l. l.step) (shown_lines (r14 kinds))) ≡ reverse (map (λ l. l.step) (shown_lines (r0 kinds))) ++
      (step.Began ben dropped (10 ∷ 0 ∷ [])
      ∷ step.Updated ben counter1 (kinds.stamp_of (change1 kinds).effect)
      ∷ step.Updated ben counter2 (kinds.stamp_of (change2 kinds).effect)
      ∷ step.Prepared here1 dropped 11
      ∷ step.Ticked here2 20
      ∷ step.Prepared here2 dropped 21
      ∷ step.Aborted here1 dropped
      ∷ step.Aborted here2 dropped
      ∷ step.Gone here1 dropped
      ∷ step.Gone here2 dropped
      ∷ step.Began ann undone (12 ∷ 0 ∷ [])
      ∷ step.Updated ann counter1 (kinds.stamp_of (change3 kinds).effect)
      ∷ step.Prepared here1 undone 13
      ∷ step.Aborted here1 undone
      ∷ [])
  shown = refl
