-- A run of the world with any kinds that have counters: a read waits for a vote, a decide that a crash cut off was done, one message
-- is lost and one repeated, a session moves, and reads at the other site what the crash nearly took.
use Rattle.std.proofs.Common.{◌≡◌, ◌≢◌, ⊎_elim, inl, inr, ℕ, ◌≤◌, cond, leb, ltb, Bool, true, false, not, ◌&&◌, ◌||◌, List, [], ◌∷◌, None, Some, refl, sym, subst, arith, lit≤, lit<, le_refl}
use Rattle.std.specs.Prelude.{if◌then◌else◌, pos, map, reverse}
use Rattle.world_model.specs.declared.step.Step.TheVariants as step
use Rattle.world_model.specs.rules.Lines.{shown_lines}
use Rattle.world_model.specs.lines.Fate.{is_committed_at}
use Rattle.world_model.specs.lines.Lawful.{IsLawful}
use Rattle.std.specs.declared.cmp.Ordering.TheVariants.{Less}
use Rattle.std.proofs.lemmas.Bool.{cases_Bool, cond-false, or_from, and_right}
use Rattle.site_vector.specs.declared.ids.PartId.{PartId}
use Rattle.site_vector.specs.declared.ids.TxId.{TxId}
use Rattle.site_vector.specs.Ids.{same_part, same_tx}
use Rattle.site_vector.specs.Order.{same_part_is, same_tx_is}
use Rattle.site_vector.specs.Vector.{le, entry}
use Rattle.crdt_core.specs.declared.kind.Kind.TheVariants.{CounterPn}
use Rattle.crdt_core.specs.declared.object.ObjectId.{ObjectId}
use Rattle.crdt_core.specs.declared.operation.Op.{Op}
use Rattle.crdt_core.specs.declared.operation.Act.TheVariants.{Increment}
use Rattle.crdt_core.specs.declared.value.Value.{Value}
use Rattle.crdt_core.specs.declared.record.Upd.{Upd}
use Rattle.crdt_core.specs.declared.record.Part.{Part}
use Rattle.crdt_core.specs.declared.record.Message.{Message}
use Rattle.crdt_core.specs.declared.record.Record.TheVariants.{Decide}
use Rattle.crdt_core.specs.Parts.{touches}
use Rattle.crdt_core.specs.Log.{prepare_time, pending, logged_bound}
use Rattle.world_model.specs.rules.Event.{led_by, Event, Began, Updated, Read, Prepared, Decided, Sent, Took, Reported, Heard, Restarted, Refused, Opened, Cut, Entry, AskTake, AskRead, IsRepeat, TxPending, voted}
use Rattle.crdt_core.specs.KindsOf.{Kinds}
use Rattle.world_model.specs.rules.Partition.{PartState, IsOwnBound, ToldCommitted, fate_of, stable_entry, new_part, done, cut}
use Rattle.world_model.specs.lines.Places.{IsOther, IsPlace}
use Rattle.crdt_core.specs.Orders.{pending_cmp}
use Rattle.crdt_core.specs.Folds.{state_read}
use Rattle.world_model.specs.rules.Plan.{is_some_update, takes_part}
use Rattle.world_model.specs.rules.World.{plan_of, is_own, IsWorldRun}
use Rattle.world_model.specs.events.Lawful.{IsLawfulWorld}
use Rattle.world_model.proofs.Names.{clash, off, part_other}
use Rattle.world_model.proofs.Law.{law_world}

-- one partition at each of two sites
abbrev here : PartId
here = record { site = 1; part = 1 }

abbrev there : PartId
there = record { site = 2; part = 1 }

abbrev counter : ObjectId
counter = record { bucket = 98 ∷ []; key = 107 ∷ []; kind = CounterPn }

abbrev more : Op
more = record { path = []; act = Increment (pos 1) }

-- of the first site; of a session that waits there; of the first session, once it moved to the second site
abbrev first : TxId
first = record { site = 1; part = 1; time = 1 }

abbrev waiting : TxId
waiting = record { site = 1; part = 1; time = 3 }

abbrev moved : TxId
moved = record { site = 2; part = 1; time = 1 }

abbrev snapshot1 : List ℕ
snapshot1 = 1 ∷ 0 ∷ []

abbrev vector1 : List ℕ
vector1 = 2 ∷ 0 ∷ []

abbrev snapshot2 : List ℕ
snapshot2 = 1001 ∷ 1 ∷ []

abbrev snapshot3 : List ℕ
snapshot3 = 3 ∷ 0 ∷ []

-- two sessions
abbrev ann : List ℕ
ann = 97 ∷ []

abbrev ben : List ℕ
ben = 98 ∷ []

-- the other of two sites
other_of_first : (j : ℕ) → IsOther 2 1 j → j ≡ 2
other_of_first j o = let a = o.least in let b = o.most in let c = o.apart in omega arith

other_of_second : (j : ℕ) → IsOther 2 2 j → j ≡ 1
other_of_second j o = let a = o.least in let b = o.most in let c = o.apart in omega arith

place_here : IsPlace 2 1 here
place_here = record { least_site = lit≤ tt; most_site = lit≤ tt; least_part = lit≤ tt; most_part = lit≤ tt }

place_there : IsPlace 2 1 there
place_there = record { least_site = lit≤ tt; most_site = lit≤ tt; least_part = lit≤ tt; most_part = lit≤ tt }

none_left : (b : Bool) → ((b || false) && not ((b || false) || false)) ≡ false
none_left true = refl
none_left false = refl

in_stretch : (b : Bool) → (b || false) ≡ ((b || false) && (ltb 0 (entry (cond b vector1 []) 1) && leb (entry (cond b vector1 []) 1) 1001))
in_stretch true = refl
in_stretch false = refl

past_stretch : (b : Bool) → false ≡ ((b || false) && (ltb 1001 (entry (cond b vector1 []) 1) && leb (entry (cond b vector1 []) 1) 1001))
past_stretch true = refl
past_stretch false = refl

second_of_first : IsOther 2 1 2
second_of_first = record { least = lit≤ tt; most = lit≤ tt; apart = λ e. absurd (omega arith) }

first_of_second : IsOther 2 2 1
first_of_second = record { least = lit≤ tt; most = lit≤ tt; apart = λ e. absurd (omega arith) }

no_updates : (E : Type 0) (b : Bool) → is_some_update (cond {A = List (Upd E)} b [] []) ≡ false
no_updates E true = refl
no_updates E false = refl

module _ {S E : Type 0} (kinds : Kinds S E) (known : kinds.has CounterPn ≡ true) (shallow : kinds.too_deep CounterPn [] ≡ false) where
  abbrev put : (PartId → PartState E) → PartId → PartState E → PartId → PartState E
  put f at p q = if same_part q at then p else f q

  others : (f : PartId → PartState E) (at : PartId) (p : PartState E) (q : PartId) → q ≢ at → put f at p q ≡ f q
  others f at p q ne = cond-false (same_part q at) p (f q) (part_other q at ne)

  abbrev entry_at : PartId → Event E → Entry E
  entry_at p e = record { at = p; event = e }

  abbrev change : Upd E
  change = record { object = counter; index = 1; effect = kinds.generated CounterPn (kinds.initial CounterPn) [] (Increment (pos 1)) 1 }

  abbrev part : Part E
  part = record { tx = first; c = vector1; updates = change ∷ [] }

  abbrev message : Message E
  message = record { from = 1; to = 2; part = 1; lo = 0; hi = 1001; parts = part ∷ [] }

  abbrev e1 : Event E
  e1 = Began ann (record { past = 0 ∷ 0 ∷ []; stable = false }) first snapshot1

  abbrev e2 : Event E
  e2 = Updated first snapshot1 counter [] more [] change (kinds.stamp_of change.effect)

  abbrev e3 : Event E
  e3 = Prepared first snapshot1 (led_by 1) (change ∷ []) 2

  abbrev e3a : Event E
  e3a = Opened ben

  abbrev e3b : Event E
  e3b = Began ben (record { past = 0 ∷ 0 ∷ []; stable = false }) waiting snapshot3

  abbrev e3c : Event E
  e3c = Refused (AskRead waiting snapshot3 counter []) (TxPending first 2)

  abbrev e4 : Event E
  e4 = Cut (Decided first vector1)

  abbrev e5 : Event E
  e5 = Restarted 1001 (1001 ∷ 0 ∷ []) (Some first) []

  abbrev e6 : Event E
  e6 = Sent None message

  -- a message that nobody takes
  abbrev lost : Message E
  lost = record { from = 1; to = 2; part = 1; lo = 1001; hi = 1001; parts = [] }

  abbrev e6a : Event E
  e6a = Sent None lost

  -- the first message again, which nobody takes either
  abbrev e6b : Event E
  e6b = Sent (Some 0) message

  abbrev e7 : Event E
  e7 = Took 1 message

  abbrev e8 : Event E
  e8 = Refused (AskTake 1 message) (IsRepeat 1001)

  abbrev e9 : Event E
  e9 = Reported (1001 ∷ 0 ∷ [])

  abbrev e10 : Event E
  e10 = Heard 1 1 (1001 ∷ 0 ∷ []) (1001 ∷ 0 ∷ [])

  abbrev e11 : Event E
  e11 = Began ann (record { past = snapshot1; stable = false }) moved snapshot2

  abbrev seen : Value
  seen = kinds.value_of (state_read kinds counter moved [] (part ∷ []))

  abbrev e12 : Event E
  e12 = Read moved snapshot2 counter [] (part ∷ []) seen

  abbrev p0 : PartId → PartState E
  p0 q = new_part 2 1

  abbrev p1 : PartId → PartState E
  p1 = put p0 here (done (p0 here) e1)

  abbrev p2 : PartId → PartState E
  p2 = put p1 here (done (p1 here) e2)

  abbrev p3 : PartId → PartState E
  p3 = put p2 here (done (p2 here) e3)

  abbrev p3b : PartId → PartState E
  p3b = put p3 here (done (p3 here) e3b)

  abbrev p4 : PartId → PartState E
  p4 = put p3b here (cut (p3b here) (Decided first vector1))

  abbrev again : PartState E
  again = record { up = true; now = 1001; log = Decide first vector1 ∷ (p3b here).log; torn = []; bounds = 0 ∷ 0 ∷ []; heard = (0 ∷ 0 ∷ []) ∷ []; sent = 0 ∷ 0 ∷ [] }

  abbrev p5 : PartId → PartState E
  p5 = put p4 here again

  abbrev p6 : PartId → PartState E
  p6 = put p5 here (done (p5 here) e6)

  abbrev p6a : PartId → PartState E
  p6a = put p6 here (done (p6 here) e6a)

  abbrev p6b : PartId → PartState E
  p6b = put p6a here (done (p6a here) e6b)

  abbrev p7 : PartId → PartState E
  p7 = put p6b there (done (p6b there) e7)

  abbrev p9 : PartId → PartState E
  p9 = put p7 there (done (p7 there) e9)

  abbrev p10 : PartId → PartState E
  p10 = put p9 there (done (p9 there) e10)

  abbrev p11 : PartId → PartState E
  p11 = put p10 there (done (p10 there) e11)

  abbrev p12 : PartId → PartState E
  p12 = put p11 there (done (p11 there) e12)

  abbrev r1 : List (Entry E)
  r1 = entry_at here e1 ∷ []

  abbrev r2 : List (Entry E)
  r2 = entry_at here e2 ∷ r1

  abbrev r3 : List (Entry E)
  r3 = entry_at here e3 ∷ r2

  abbrev r3a : List (Entry E)
  r3a = entry_at here e3a ∷ r3

  abbrev r3b : List (Entry E)
  r3b = entry_at here e3b ∷ r3a

  abbrev r3c : List (Entry E)
  r3c = entry_at here e3c ∷ r3b

  abbrev r4 : List (Entry E)
  r4 = entry_at here e4 ∷ r3c

  run1 : IsWorldRun kinds 2 1 r1 p1
  run1 = (
    p0,
    (λ p. refl),
    record {
      place = place_here;
      allowed = record { vectors = []; known = tt; is = refl };
      fit = tt;
      step = (refl, record { early = lit< tt; named = refl; handed = refl; width = refl; own = refl; stable = λ j o. subst (λ i. entry snapshot1 i ≡ stable_entry 1 here (p0 here) i) (sym (other_of_first j o)) refl; waited = λ j o. subst (λ i. entry (0 ∷ 0 ∷ []) i ≤ entry snapshot1 i) (sym (other_of_first j o)) (le_refl 0) }, refl);
      others = others p0 here (done (p0 here) e1);
    },
    tt,
  )

  run2 : IsWorldRun kinds 2 1 r2 p2
  run2 = (
    p1,
    run1,
    record {
      place = place_here;
      allowed = record { site = refl; who = ann; dependency = record { past = 0 ∷ 0 ∷ []; stable = false }; begun = inl (refl, refl); place = refl; earlier = refl };
      fit = tt;
      step = (refl, record { ready = λ h. off h; fold = λ h. off h; known = known; fits = rw shallow refl; object = refl; effect = refl; stamped = refl }, refl);
      others = others p1 here (done (p1 here) e2);
    },
    record { early = λ p. or_from _ _ (and_right (same_part here p) false refl) refl; number = refl },
  )

  run3 : IsWorldRun kinds 2 1 r3 p3
  run3 = (
    p2,
    run2,
    record {
      place = place_here;
      allowed = record { fresh = refl; after_lead = λ ne. absurd (ne refl); takes = refl; snapshot = refl; lead = refl; changes = refl };
      fit = tt;
      step = (refl, (lit≤ tt, refl, lit< tt), refl);
      others = others p2 here (done (p2 here) e3);
    },
    tt,
  )

  run3a : IsWorldRun kinds 2 1 r3a p3
  run3a = (p3, run3, record { place = place_here; allowed = tt; fit = tt; step = refl; others = λ q ne. refl }, tt)

  run3b : IsWorldRun kinds 2 1 r3b p3b
  run3b = (
    p3,
    run3a,
    record {
      place = place_here;
      allowed = record { vectors = []; known = tt; is = refl };
      fit = tt;
      step = (refl, record { early = lit< tt; named = refl; handed = refl; width = refl; own = refl; stable = λ j o. subst (λ i. entry snapshot3 i ≡ stable_entry 1 here (p3 here) i) (sym (other_of_first j o)) refl; waited = λ j o. subst (λ i. entry (0 ∷ 0 ∷ []) i ≤ entry snapshot3 i) (sym (other_of_first j o)) (le_refl 0) }, refl);
      others = others p3 here (done (p3 here) e3b);
    },
    tt,
  )

  -- the only one that is pending is the first
  first_alone : (w : TxId) → pending (p3b here).log w ≡ true → pending_cmp (w, prepare_time (p3b here).log w) (first, 2) ≢ Less
  first_alone w h = ⊎_elim
      (λ (e : same_tx first w ≡ true). subst (λ x. pending_cmp (x, prepare_time (p3b here).log x) (first, 2) ≢ Less) (same_tx_is first w e) (λ l. absurd (cc l)))
      (λ (e : same_tx first w ≡ false). clash h (rw e refl))
      (cases_Bool (same_tx first w))

  run3c : IsWorldRun kinds 2 1 r3c p3b
  run3c = (
    p3b,
    run3b,
    record {
      place = place_here;
      allowed = (record { site = refl; who = ben; dependency = record { past = 0 ∷ 0 ∷ []; stable = false }; begun = inl (refl, refl) }, refl);
      fit = tt;
      step = ((refl, record { clock = le_refl 3; waiting = refl; changes = refl; time = refl; early = lit≤ tt; first = λ w h k. first_alone w h }), refl);
      others = λ q ne. refl;
    },
    tt,
  )

  run4 : IsWorldRun kinds 2 1 r4 p4
  run4 = (
    p3b,
    run3c,
    record {
      place = place_here;
      allowed = record { lead = refl; here = refl; all = all_voted; ungiven = refl; once = refl; vector = refl };
      fit = tt;
      step = (refl, refl, refl);
      others = others p3b here (cut (p3b here) (Decided first vector1));
    },
    tt,
  )
    where
      all_voted : (q : PartId) → takes_part (plan_of 2 1 r4) first q ≡ true → voted r3c first q ≡ true
      all_voted q h = ⊎_elim
          (λ (e : same_part here q ≡ true). subst (λ x. voted r3c first x ≡ true) (same_part_is here q e) refl)
          (λ (e : same_part here q ≡ false). let k = rw e at h in clash k (no_updates E (is_own 2 r4 first q)))
          (cases_Bool (same_part here q))

  abbrev r5 : List (Entry E)
  r5 = entry_at here e5 ∷ r4

  abbrev r6 : List (Entry E)
  r6 = entry_at here e6 ∷ r5

  abbrev r6a : List (Entry E)
  r6a = entry_at here e6a ∷ r6

  abbrev r6b : List (Entry E)
  r6b = entry_at here e6b ∷ r6a

  abbrev r7 : List (Entry E)
  r7 = entry_at there e7 ∷ r6b

  abbrev r8 : List (Entry E)
  r8 = entry_at there e8 ∷ r7

  abbrev r9 : List (Entry E)
  r9 = entry_at there e9 ∷ r8

  abbrev r10 : List (Entry E)
  r10 = entry_at there e10 ∷ r9

  abbrev r11 : List (Entry E)
  r11 = entry_at there e11 ∷ r10

  abbrev r12 : List (Entry E)
  r12 = entry_at there e12 ∷ r11

  own_bound : IsOwnBound 1001 again.log 1001
  own_bound = record { most = le_refl 1001; below = λ u h. clash h (none_left (same_tx first u)); reached = inl refl }

  run5 : IsWorldRun kinds 2 1 r5 p5
  run5 = (
    p4,
    run4,
    record {
      place = place_here;
      allowed = tt;
      fit = tt;
      step = record {
        found = inr refl;
        fits = refl;
        up = refl;
        whole = refl;
        clock = refl;
        width = refl;
        bounds = λ j o. subst (λ i. entry again.bounds i ≡ logged_bound again.log i) (sym (other_of_first j o)) refl;
        heard = refl;
        sent = refl;
        shown = refl;
        shown_bounds = record { width = refl; own = own_bound; others = λ j o. subst (λ i. entry (1001 ∷ 0 ∷ []) i ≡ entry again.bounds i) (sym (other_of_first j o)) refl };
        last = refl;
        members = λ t. sym (none_left (same_tx first t));
        timed = tt;
        order = tt;
      };
      others = others p4 here again;
    },
    tt,
  )

  run6 : IsWorldRun kinds 2 1 r6 p6
  run6 = (
    p5,
    run5,
    record {
      place = place_here;
      allowed = tt;
      fit = tt;
      step = (refl, record { from = refl; part = refl; to = second_of_first; lo = refl; hi = own_bound; order = (tt, tt); members = λ u. in_stretch (same_tx first u); exact = ((refl, refl), tt) }, refl);
      others = others p5 here (done (p5 here) e6);
    },
    tt,
  )

  run6a : IsWorldRun kinds 2 1 r6a p6a
  run6a = (
    p6,
    run6,
    record {
      place = place_here;
      allowed = tt;
      fit = tt;
      step = (refl, record { from = refl; part = refl; to = second_of_first; lo = refl; hi = own_bound; order = tt; members = λ u. past_stretch (same_tx first u); exact = tt }, refl);
      others = others p6 here (done (p6 here) e6a);
    },
    tt,
  )

  run6b : IsWorldRun kinds 2 1 r6b p6b
  run6b = (
    p6a,
    run6a,
    record {
      place = place_here;
      allowed = tt;
      fit = tt;
      step = (refl, record { from = refl; part = refl; to = second_of_first; lo = refl; hi = own_bound; order = (tt, tt); members = λ u. in_stretch (same_tx first u); exact = ((refl, refl), tt) }, refl);
      others = others p6a here (done (p6a here) e6b);
    },
    tt,
  )

  run7 : IsWorldRun kinds 2 1 r7 p7
  run7 = (
    p6b,
    run6b,
    record {
      place = place_there;
      allowed = record { from = first_of_second; to = refl; part = refl; asked = None; shown = inr (inr (inl (refl, refl, refl))) };
      fit = tt;
      step = (refl, (le_refl 0, lit< tt), refl);
      others = others p6b there (done (p6b there) e7);
    },
    tt,
  )

  run8 : IsWorldRun kinds 2 1 r8 p7
  run8 = (
    p7,
    run7,
    record {
      place = place_there;
      allowed = record { from = first_of_second; to = refl; part = refl; asked = None; shown = inr (inr (inr (inl (refl, refl, refl)))) };
      fit = tt;
      step = ((refl, (refl, lit≤ tt, le_refl 1001)), refl);
      others = λ q ne. refl;
    },
    tt,
  )

  run9 : IsWorldRun kinds 2 1 r9 p9
  run9 = (
    p7,
    run8,
    record {
      place = place_there;
      allowed = tt;
      fit = tt;
      step = (refl, record { width = refl; own = record { most = le_refl 0; below = λ u h. off h; reached = inl refl }; others = λ j o. subst (λ i. entry (1001 ∷ 0 ∷ []) i ≡ entry (p7 there).bounds i) (sym (other_of_second j o)) refl }, refl);
      others = others p7 there (done (p7 there) e9);
    },
    tt,
  )

  run10 : IsWorldRun kinds 2 1 r10 p10
  run10 = (
    p9,
    run9,
    record {
      place = place_there;
      allowed = record { least = lit≤ tt; most = lit≤ tt; shown = inl (refl, refl, refl) };
      fit = tt;
      step = (refl, record { width = refl; own = (0, record { most = le_refl 0; below = λ u h. off h; reached = inl refl }, refl); others = λ j o. subst (λ i. entry (1001 ∷ 0 ∷ []) i ≡ stable_entry 1 there (done (p9 there) e10) i) (sym (other_of_second j o)) refl }, refl);
      others = others p9 there (done (p9 there) e10);
    },
    tt,
  )

  run11 : IsWorldRun kinds 2 1 r11 p11
  run11 = (
    p10,
    run10,
    record {
      place = place_there;
      allowed = record { vectors = snapshot1 ∷ []; known = (inr (inr (inr (inr (inr (inr (inr (inr (inr (inr (inr (inr (inr (inr (inl refl)))))))))))))), tt); is = refl };
      fit = tt;
      step = (refl, record { early = lit< tt; named = refl; handed = refl; width = refl; own = refl; stable = λ j o. subst (λ i. entry snapshot2 i ≡ stable_entry 1 there (p10 there) i) (sym (other_of_second j o)) refl; waited = λ j o. subst (λ i. entry snapshot1 i ≤ entry snapshot2 i) (sym (other_of_second j o)) (lit≤ tt) }, refl);
      others = others p10 there (done (p10 there) e11);
    },
    tt,
  )

  seen_there : (b : Bool) → (b || false) ≡ (((b || false) || false) && (touches (cond (b || false) (cond b (change ∷ []) []) []) counter && le (cond (b || false) (cond b vector1 []) []) snapshot2))
  seen_there true = refl
  seen_there false = refl

  run12 : IsWorldRun kinds 2 1 r12 p12
  run12 = (
    p11,
    run11,
    record {
      place = place_there;
      allowed = record { site = refl; who = ann; dependency = record { past = snapshot1; stable = false }; begun = inl (refl, refl); place = refl; earlier = refl };
      fit = tt;
      step = (refl, (record { clock = le_refl 1; free = λ u h. off h }, record { order = (tt, tt); members = λ u. seen_there (same_tx first u); exact = ((refl, refl), tt) }, known, refl), refl);
      others = others p11 there (done (p11 there) e12);
    },
    tt,
  )

  -- the read at the other site sees what the crash nearly took, and is right in the whole run
  is_lawful : IsLawfulWorld kinds (plan_of 2 1 r12) r12
  is_lawful = (law_world kinds 2 1 r12 p12 run12).0

  -- what was taken is committed there, where it takes no part
  brought : is_committed_at (shown_lines r12) (shown_lines r12) there first ≡ true
  brought = refl

  -- its lead tells how it ended
  told : fate_of (p12 here) first ≡ ToldCommitted (2 ∷ 0 ∷ [])
  told = refl

  lines_are_lawful : IsLawful kinds.too_deep kinds.meaning 2 1 (shown_lines r12)
  lines_are_lawful = (law_world kinds 2 1 r12 p12 run12).2

  -- what the run shows, the first line first
  shown : reverse (map (λ l. l.step) (shown_lines r12)) ≡
      step.Began ann first snapshot1
      ∷ step.Updated ann counter (kinds.stamp_of change.effect)
      ∷ step.Prepared here first 2
      ∷ step.MadeSession ben 1
      ∷ step.Began ben waiting snapshot3
      ∷ step.WaitTxn here first 2
      ∷ step.Unsure first
      ∷ step.Restarted here 1001 (1001 ∷ 0 ∷ []) (Some first) []
      ∷ step.Sent 1 here 2 0 1001 1
      ∷ step.Sent 2 here 2 1001 1001 0
      ∷ step.Sent 3 here 2 0 1001 1
      ∷ step.Took 1 1001
      ∷ step.Dup 1 1001
      ∷ step.Reported 1 there (1001 ∷ 0 ∷ [])
      ∷ step.Heard 1 there (1001 ∷ 0 ∷ [])
      ∷ step.Began ann moved snapshot2
      ∷ step.Value ann counter seen
      ∷ []
  shown = refl
