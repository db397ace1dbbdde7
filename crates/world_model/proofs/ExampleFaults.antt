-- After the first vote of a transaction at two partitions: that of another is cut off by a crash, a restart is cut off too, and
-- the next one lists both; then the own bound stays below the first vote, and the session gives up. The other partition crashes
-- and restarts.
use Rattle.std.proofs.Common.{◌≡◌, inl, inr, ◌<◌, cond, Bool, true, false, not, ◌&&◌, ◌||◌, List, [], ◌∷◌, None, refl, lit≤, lit<, le_refl}
use Rattle.std.specs.Prelude.{map, reverse, ◌++◌}
use Rattle.site_vector.specs.declared.ids.PartId.{PartId}
use Rattle.site_vector.specs.declared.ids.TxId.{TxId}
use Rattle.site_vector.specs.Ids.{same_tx}
use Rattle.crdt_core.specs.declared.kind.Kind.TheVariants.{CounterPn}
use Rattle.crdt_core.specs.declared.record.Upd.{Upd}
use Rattle.crdt_core.specs.declared.record.Message.{Message}
use Rattle.crdt_core.specs.declared.record.Record.TheVariants.{Prepare}
use Rattle.crdt_core.specs.KindsOf.{Kinds}
use Rattle.world_model.specs.rules.Event.{led_by, Event, Entry, Began, Updated, Prepared, Aborted, Sent, Crashed, RestartCut, Restarted, Refused, Cut, AskReport, IsDown}
use Rattle.world_model.specs.lines.Lawful.{IsLawful}
use Rattle.world_model.specs.rules.Lines.{shown_lines}
use Rattle.world_model.specs.rules.Partition.{PartState, new_part, done, cut, down}
use Rattle.world_model.specs.rules.World.{IsWorldRun}
use Rattle.world_model.proofs.Names.{off}
use Rattle.world_model.proofs.Law.{law_world}
use Rattle.world_model.proofs.ExampleCluster.{here1, here2, place_here1, place_here2, second_of_first, at_second, counter1, more, ben, none, was_shown, put, go, stay, HaveBoth, fits_more, untried}
use Rattle.world_model.proofs.ExampleCommit.{both}
use Rattle.world_model.specs.declared.step.Step.TheVariants as step
use Rattle.world_model.proofs.ExampleCommit as commit

abbrev pub torn : TxId
torn = record { site = 1; part = 1; time = 3 }

module _ {S E : Type 0} (kinds : Kinds S E) where
  abbrev pub change : Upd E
  change = record { object = counter1; index = 1; effect = kinds.generated CounterPn (kinds.initial CounterPn) [] more.act 3 }

  abbrev pub message : Message E
  message = record { from = 1; to = 2; part = 1; lo = 0; hi = 1; parts = [] }

  -- the events up to the vote of the lead
  abbrev pub r0 : List (Entry E)
  r0 = commit.r7 kinds

  abbrev pub p0 : PartId → PartState E
  p0 = commit.p7 kinds

  abbrev pub again : PartState E
  again = record { up = true; now = 1001; log = Prepare torn 1 4 (3 ∷ 0 ∷ []) (change ∷ []) ∷ (p0 here1).log; torn = []; bounds = none; heard = none ∷ none ∷ []; sent = none }

  abbrev pub empty : PartState E
  empty = new_part 2 2

  abbrev pub e1 : Event E
  e1 = Began ben (record { past = none; stable = false }) torn (3 ∷ 0 ∷ [])

  abbrev pub e2 : Event E
  e2 = Updated torn (3 ∷ 0 ∷ []) counter1 [] more [] change (kinds.stamp_of change.effect)

  -- a vote that a crash cuts off while another transaction is pending
  abbrev pub e3 : Event E
  e3 = Cut (Prepared torn (3 ∷ 0 ∷ []) (led_by 1) (change ∷ []) 4)

  abbrev pub e4 : Event E
  e4 = Refused AskReport IsDown

  -- a restart that a crash cuts off
  abbrev pub e5 : Event E
  e5 = RestartCut

  -- what was cut off is found, and listed behind what was pending
  abbrev pub e6 : Event E
  e6 = Restarted 1001 (1 ∷ 0 ∷ []) None ((both, 2) ∷ (torn, 4) ∷ [])

  -- up to one below the first vote that is left
  abbrev pub e7 : Event E
  e7 = Sent None message

  -- its session was told of a fault, and gives up
  abbrev pub e8 : Event E
  e8 = Aborted torn true

  abbrev pub e9 : Event E
  e9 = Crashed

  abbrev pub e10 : Event E
  e10 = Restarted 0 none None []

  abbrev pub r1 : List (Entry E)
  r1 = (record { at = here1; event = e1 }) ∷ r0

  abbrev pub r2 : List (Entry E)
  r2 = (record { at = here1; event = e2 }) ∷ r1

  abbrev pub r3 : List (Entry E)
  r3 = (record { at = here1; event = e3 }) ∷ r2

  abbrev pub r4 : List (Entry E)
  r4 = (record { at = here1; event = e4 }) ∷ r3

  abbrev pub r5 : List (Entry E)
  r5 = (record { at = here1; event = e5 }) ∷ r4

  abbrev pub r6 : List (Entry E)
  r6 = (record { at = here1; event = e6 }) ∷ r5

  abbrev pub r7 : List (Entry E)
  r7 = (record { at = here1; event = e7 }) ∷ r6

  abbrev pub r8 : List (Entry E)
  r8 = (record { at = here1; event = e8 }) ∷ r7

  abbrev pub r9 : List (Entry E)
  r9 = (record { at = here2; event = e9 }) ∷ r8

  abbrev pub r10 : List (Entry E)
  r10 = (record { at = here2; event = e10 }) ∷ r9

  abbrev pub p1 : PartId → PartState E
  p1 = put p0 here1 (done (p0 here1) e1)

  abbrev pub p2 : PartId → PartState E
  p2 = put p1 here1 (done (p1 here1) e2)

  abbrev pub p3 : PartId → PartState E
  p3 = put p2 here1 (cut (p2 here1) (Prepared torn (3 ∷ 0 ∷ []) (led_by 1) (change ∷ []) 4))

  abbrev pub p4 : PartId → PartState E
  p4 = p3

  abbrev pub p5 : PartId → PartState E
  p5 = put p4 here1 (down (p4 here1) (p4 here1).torn)

  abbrev pub p6 : PartId → PartState E
  p6 = put p5 here1 again

  abbrev pub p7 : PartId → PartState E
  p7 = put p6 here1 (done (p6 here1) e7)

  abbrev pub p8 : PartId → PartState E
  p8 = put p7 here1 (done (p7 here1) e8)

  abbrev pub p9 : PartId → PartState E
  p9 = put p8 here2 (down (p8 here2) [])

  abbrev pub p10 : PartId → PartState E
  p10 = put p9 here2 empty

module _ {S E : Type 0} (kinds : Kinds S E) (has : HaveBoth kinds) where
  run0 : IsWorldRun kinds 2 2 (r0 kinds) (p0 kinds)
  run0 = commit.run7 kinds has

  pub run1 : IsWorldRun kinds 2 2 (r1 kinds) (p1 kinds)
  run1 = go kinds (r0 kinds) (p0 kinds) here1 (e1 kinds) (done (p0 kinds here1) (e1 kinds)) run0 place_here1
      (record { vectors = []; known = tt; is = refl })
      tt
      (refl, record { early = lit< tt; named = refl; handed = refl; width = refl; own = refl; stable = at_second _ refl; waited = at_second _ (lit≤ tt) }, refl)
      tt

  pub run2 : IsWorldRun kinds 2 2 (r2 kinds) (p2 kinds)
  run2 = go kinds (r1 kinds) (p1 kinds) here1 (e2 kinds) (done (p1 kinds here1) (e2 kinds)) run1 place_here1
      (record { site = refl; who = ben; dependency = record { past = none; stable = false }; begun = was_shown 0 (r1 kinds) _ _ (inl (refl, refl)); place = refl; earlier = refl })
      tt
      (refl, record { ready = λ h. off h; fold = λ h. off h; known = has.counters; fits = fits_more kinds has; object = refl; effect = refl; stamped = refl }, refl)
      (record { early = untried (r1 kinds) torn refl; number = refl })

  pub run3 : IsWorldRun kinds 2 2 (r3 kinds) (p3 kinds)
  run3 = go kinds (r2 kinds) (p2 kinds) here1 (e3 kinds) (cut (p2 kinds here1) (Prepared torn (3 ∷ 0 ∷ []) (led_by 1) ((change kinds) ∷ []) 4)) run2 place_here1
      (record { fresh = refl; after_lead = λ ne. absurd (ne refl); takes = refl; snapshot = refl; lead = refl; changes = refl })
      tt
      (refl, (lit≤ tt, refl, lit< tt), refl)
      tt

  pub run4 : IsWorldRun kinds 2 2 (r4 kinds) (p4 kinds)
  run4 = stay kinds (r3 kinds) (p3 kinds) here1 (e4 kinds) run3 place_here1
      tt
      tt
      ((refl, refl), refl)
      tt

  pub run5 : IsWorldRun kinds 2 2 (r5 kinds) (p5 kinds)
  run5 = go kinds (r4 kinds) (p4 kinds) here1 (e5 kinds) (down (p4 kinds here1) (p4 kinds here1).torn) run4 place_here1
      tt
      tt
      refl
      tt

  both_listed : (a b : Bool) → (a || (b || false)) ≡ ((b || (a || false)) && not (false || false))
  both_listed true true = refl
  both_listed true false = refl
  both_listed false true = refl
  both_listed false false = refl

  above_one : (a b : Bool) → ((b || (a || false)) && not (false || false)) ≡ true → 1 < (cond b 4 (cond a 2 0))
  above_one true true h = lit< tt
  above_one true false h = lit< tt
  above_one false true h = lit< tt
  above_one false false h = off h

  pub run6 : IsWorldRun kinds 2 2 (r6 kinds) (p6 kinds)
  run6 = go kinds (r5 kinds) (p5 kinds) here1 (e6 kinds) (again kinds) run5 place_here1
      tt
      tt
      (record {
        found = inr refl;
        fits = refl;
        up = refl;
        whole = refl;
        clock = refl;
        width = refl;
        bounds = at_second _ refl;
        heard = refl;
        sent = refl;
        shown = refl;
        shown_bounds = record { width = refl; own = record { most = lit≤ tt; below = λ u h. above_one (same_tx both u) (same_tx torn u) h; reached = inr (both, refl, refl) }; others = at_second _ refl };
        last = refl;
        members = λ t. both_listed (same_tx both t) (same_tx torn t);
        timed = (refl, (refl, tt));
        order = ((refl, tt), (tt, tt));
      })
      tt

  pub run7 : IsWorldRun kinds 2 2 (r7 kinds) (p7 kinds)
  run7 = go kinds (r6 kinds) (p6 kinds) here1 (e7 kinds) (done (p6 kinds here1) (e7 kinds)) run6 place_here1
      tt
      tt
      (refl, record { from = refl; part = refl; to = second_of_first; lo = refl; hi = record { most = lit≤ tt; below = λ u h. above_one (same_tx both u) (same_tx torn u) h; reached = inr (both, refl, refl) }; order = tt; members = λ u. refl; exact = tt }, refl)
      tt

  pub run8 : IsWorldRun kinds 2 2 (r8 kinds) (p8 kinds)
  run8 = go kinds (r7 kinds) (p7 kinds) here1 (e8 kinds) (done (p7 kinds here1) (e8 kinds)) run7 place_here1
      refl
      tt
      (refl, refl, refl)
      tt

  pub run9 : IsWorldRun kinds 2 2 (r9 kinds) (p9 kinds)
  run9 = go kinds (r8 kinds) (p8 kinds) here2 (e9 kinds) (down (p8 kinds here2) []) run8 place_here2
      tt
      tt
      refl
      tt

  pub run10 : IsWorldRun kinds 2 2 (r10 kinds) (p10 kinds)
  run10 = go kinds (r9 kinds) (p9 kinds) here2 (e10 kinds) (empty kinds) run9 place_here2
      tt
      tt
      (record {
        found = refl;
        fits = refl;
        up = refl;
        whole = refl;
        clock = refl;
        width = refl;
        bounds = at_second _ refl;
        heard = refl;
        sent = refl;
        shown = refl;
        shown_bounds = record { width = refl; own = record { most = le_refl 0; below = λ u h. off h; reached = inl refl }; others = at_second _ refl };
        last = refl;
        members = λ t. refl;
        timed = tt;
        order = tt;
      })
      tt

  lines_are_lawful : IsLawful kinds.too_deep kinds.meaning 2 2 (shown_lines (r10 kinds))
  lines_are_lawful = (law_world kinds 2 2 (r10 kinds) (p10 kinds) run10).2

  -- what the run shows after the first vote, the first line first
  shown : reverse (map (λ l. l.step) (shown_lines (r10 kinds))) ≡ reverse (map (λ l. l.step) (shown_lines (r0 kinds))) ++
      (step.Began ben torn (3 ∷ 0 ∷ [])
      ∷ step.Updated ben counter1 (kinds.stamp_of (change kinds).effect)
      ∷ step.Disk here1
      ∷ step.Down here1
      ∷ step.Disk here1
      ∷ step.Restarted here1 1001 (1 ∷ 0 ∷ []) None ((both, 2) ∷ (torn, 4) ∷ [])
      ∷ step.Sent 1 here1 2 0 1 0
      ∷ step.Aborted here1 torn
      ∷ step.Crashed here2
      ∷ step.Restarted here2 0 none None []
      ∷ [])
  shown = refl
