-- What a desk's seat knows once a pass was joined into it, and what may then be asked of its partition.
use Rattle.std.proofs.Common.{◌≡◌, ⊎_elim, inl, inr, ℕ, ◌<◌, ◌≤◌, max, List, [], ◌∷◌, ◌++◌, length, Bool, true, refl, sym, ap, ◌∙◌, subst, arith, append-nil}
use mathlib.Core.Option.{some}
use lib.ListN.{get_elem?}
use Rattle.site_vector.specs.declared.ids.PartId.{PartId}
use Rattle.world_model.specs.lines.Places.{IsPlace}
use Rattle.world_model.specs.rules.Asking.{MayCall}
use Rattle.world_model.specs.rules.Event.{Ask, Refused, IsDown}
use Rattle.world_model.specs.rules.World.{IsWorldRun}
use Rattle.world_model.specs.threads.Allowed.{HasBegun}
use Rattle.world_model.specs.threads.AreTraces.{AreTraces}
use Rattle.world_model.specs.threads.Calls.{Call}
use Rattle.world_model.specs.threads.Marks.{Mark, Stands, calls, entries_of}
use Rattle.world_model.specs.threads.Merging.{all_places, merged}
use Rattle.world_model.specs.threads.Orders.{IsOrderOf}
use Rattle.world_model.specs.threads.Views.{IsPart, NoneBears as NoMarkBears}
use Rattle.world_model.proofs.Going.{order_runs, part_goes_on}
use Rattle.world_model.proofs.Joining.{may_goes_on, none_bears}
use Rattle.world_model.proofs.Standing.{Is, is_stands}
use Rattle.txn_session.specs.Calls.{NoneBears, IsLegal}
use Rattle.partition_core.specs.Durable.{Durable}
use Rattle.site_partitions.specs.Asked.{IsAskable}
use Rattle.site_partitions.specs.Reaches.{Types, Puts, PutsEvent}
use Rattle.seat_rule.specs.declared.view.Noted.{Noted}
use Rattle.seat_rule.specs.declared.view.Past.{Past}
use Rattle.seat_rule.specs.declared.view.View.{View}
use Rattle.seat_rule.specs.Laws.{Heard}
use Rattle.seat_rule.specs.Lists.{has, at, longest}
use Rattle.seat_rule.specs.Notes.{Knows, IsClosed}
use Rattle.seat_rule.specs.Views.{reader, without, both}
use Rattle.seat_rule.specs.world.Traces.{word_of, traces_of, IsLawful}
use Rattle.seat_rule.proofs.Adding.{number_at}
use Rattle.seat_rule.proofs.Lists.{longest_at, longer_from, total_first, total_second}
use Rattle.seat_rule.proofs.Parting.{part_of, parts_lawful}
use Rattle.seat_rule.proofs.Turning.{found_at}
use Rattle.partition_lock.specs.declared.told.Told.{Told}
use Rattle.partition_lock.specs.declared.entry.Entry.{Entry as Kept}
use Rattle.partition_lock.specs.Answers.{Waits}
use Rattle.partition_lock.specs.Desks.{AreShown, IsWriter, StandsFor}
use Rattle.partition_lock.specs.Events.{event_of}
use Rattle.partition_lock.specs.Passes.{IsLeast, IsPass, IsStamp, Sees}
use Rattle.partition_lock.proofs.Owners.{MayBy, legal}
use Rattle.partition_lock.proofs.States.{is_made_at}

module _ {E : Type 0} where
  -- of what two have seen
  pub both_stamp : (xs ys : List (List (Noted (Told E)))) (a b : ℕ) → IsStamp xs a → IsStamp ys b → IsStamp (longest xs ys) (max b a)
  both_stamp xs ys a b f g =
      let one = total_first xs ys in
      let two = total_second xs ys in
      let u = f.counted in
      let v = g.counted in
      record {
        greatest = λ q j x h. ⊎_elim
            (λ (o : get_elem? (at xs q) j ≡ some x). let k = f.greatest q j x o in omega arith)
            (λ (o : get_elem? (at ys q) j ≡ some x). let k = g.greatest q j x o in omega arith)
            (longer_from (at xs q) (at ys q) j x (subst (λ l. get_elem? l j ≡ some x) (longest_at xs ys q) h));
        counted = omega arith;
      }

  calls_both : (xs ys : List (Mark E)) → calls (xs ++ ys) ≡ calls xs ++ calls ys
  calls_both [] ys = refl
  calls_both (x ∷ xs) ys = ap (λ l. record { by = x.by; entry = record { at = x.at; event = x.event } } ∷ l) (calls_both xs ys)

  pub none_calls : (numbers : ℕ → Bool) (ms : List (Mark E)) → NoMarkBears numbers ms → NoneBears numbers (calls ms)
  none_calls numbers [] h = tt
  none_calls numbers (m ∷ ms) h = (h.0, none_calls numbers ms h.1)

  -- an order goes on by these steps
  pub all_calls : (top base : List (Mark E)) (run : List (Call E)) → run ≡ calls base → calls top ++ run ≡ calls (top ++ base)
  all_calls top base run is = ap (λ l. calls top ++ l) is ∙ sym (calls_both top base)

module _ {S E D : Type 0} (w : Types S E D) (sites parts : ℕ) (id : PartId) (seen : ℕ) where
  -- a pass with the past `old` was joined into the seat of the partition's writer, which had the past `was`: the two have seen `all`
  pub record Joined (was old all : Past (Told E)) : Type 0 where
    pub few_sites : sites ≤ 8
    pub few_parts : parts ≤ 16
    pub place : IsPlace sites parts id
    pub lawful : IsLawful event_of sites parts w.kinds (PutsEvent w) (at all.lists)
    pub numbers : all.numbers ≡ old.numbers
    pub writes : (q : ℕ) → has all.writes q ≡ true → q ≡ word_of parts id
    pub here : has all.writes (word_of parts id) ≡ true
    pub stamp : IsStamp all.lists seen
    pub knows : (q : ℕ) → Knows old.numbers (at old.lists q) (at all.lists q)
    pub closed : IsClosed all.lists
    pub old_closed : IsClosed old.lists
    pub own : at all.lists (word_of parts id) ≡ at was.lists (word_of parts id)

  pub joined : (v u : View (Told E)) (slots free : List (ℕ × ℕ)) (a b least : ℕ) (entries : List Kept) (me : View (Told E) × List (ℕ × ℕ)) → IsWriter sites parts id a entries (v, slots) → IsPass least b (u, free) → seen ≡ max b a → me ≡ (both v u, slots) → Heard (IsLawful event_of sites parts w.kinds (PutsEvent w)) me.0 → Joined v.past u.past me.0.past × (me.1 ≡ [])
  joined v u slots free a b least entries me desk pass newer is heard = subst (λ (m : View (Told E) × List (ℕ × ℕ)). Joined v.past u.past m.0.past × (m.1 ≡ [])) (sym is) (of_both (subst (λ (m : View (Told E) × List (ℕ × ℕ)). Heard (IsLawful event_of sites parts w.kinds (PutsEvent w)) m.0) is heard), desk.slots)
    where
      writes_are : v.past.writes ++ u.past.writes ≡ v.past.writes
      writes_are = ap (λ ws. v.past.writes ++ ws) pass.writes ∙ append-nil v.past.writes

      of_both : Heard (IsLawful event_of sites parts w.kinds (PutsEvent w)) (both v u) → Joined v.past u.past (both v u).past
      of_both h = record {
        few_sites = desk.few_sites;
        few_parts = desk.few_parts;
        place = desk.place;
        lawful = h.lawful;
        numbers = ap (λ ns. ns ++ u.past.numbers) desk.numbers;
        writes = λ q x. desk.writes q (sym (ap (λ ws. has ws q) writes_are) ∙ x);
        here = ap (λ ws. has ws (word_of parts id)) writes_are ∙ desk.here;
        stamp = subst (IsStamp (longest v.past.lists u.past.lists)) (sym newer) (both_stamp v.past.lists u.past.lists a b desk.stamped pass.stamped);
        knows = h.is_put.met.knows;
        closed = h.is_put.closed;
        old_closed = h.is_put.met_closed;
        own = sym (h.is_put.was.whole (word_of parts id) desk.here);
      }

  module _ (was old all : Past (Told E)) (f : Joined was old all) where
    abbrev pub traces : PartId → List (Mark E)
    traces = traces_of event_of sites parts (at all.lists)

    abbrev pub view : PartId → List (Mark E)
    view = traces_of event_of sites parts (at old.lists)

    pub part : IsPart view traces
    part = part_of event_of sites parts old.lists (at all.lists) (λ q. ((f.knows q).0, (f.knows q).1)) f.old_closed

    -- what the pass had seen is lawful
    pub left : IsLawful event_of sites parts w.kinds (PutsEvent w) (at old.lists)
    left = parts_lawful event_of sites parts w.kinds (PutsEvent w) old.lists (at all.lists) f.lawful (record { fronts = λ q. ((f.knows q).0, (f.knows q).1); closed = f.old_closed })

    abbrev pub top : List (Mark E)
    top = merged (all_places sites parts) part.rest

    pub others : NoMarkBears (has all.numbers) top
    others = subst (λ ns. NoMarkBears (has ns) top) (sym f.numbers) (none_bears w.kinds sites parts traces view f.lawful.state f.lawful.are part (has old.numbers) (λ q k g x b. number_at event_of sites parts w.kinds old.numbers old.lists (at all.lists) f.knows q k g x b))

    -- the pass comes back with what others did
    pub waits : (new : Past (Told E)) → new.lists ≡ all.lists → new.numbers ≡ all.numbers → (run : List (Call E)) → Sees w.kinds sites parts old run → Waits w.kinds sites parts old new run
    waits new same numbers run s =
        let whole = part_goes_on w.kinds sites parts traces view f.lawful.state f.lawful.are part s.marks s.order in
        let is = all_calls top s.marks run s.is in
        record {
          more = calls top;
          others = subst (λ ns. NoneBears (has ns) (calls top)) (sym numbers) (none_calls (has all.numbers) top others);
          seen = record {
            state = f.lawful.state;
            are = subst (λ ls. AreTraces w.kinds sites parts (traces_of event_of sites parts (at ls)) f.lawful.state) (sym same) f.lawful.are;
            marks = top ++ s.marks;
            order = subst (λ ls. IsOrderOf (traces_of event_of sites parts (at ls)) (top ++ s.marks)) (sym same) whole;
            is = is;
            legal = subst (IsLegal w.kinds sites parts) (sym is) (legal w.kinds sites parts traces f.lawful.state f.lawful.are (top ++ s.marks) whole);
          };
        }

    -- handed back with no step
    pub pass_still : (least : ℕ) (k : View (Told E) × List (ℕ × ℕ)) → IsLeast old.numbers least → k ≡ (reader all.lists all.numbers, []) → IsPass least seen k
    pass_still least k l is = subst (IsPass least seen) (sym is) (record { writes = refl; lowest = subst (λ ns. IsLeast ns least) (sym f.numbers) l; slots = refl; drawn = refl; stamped = f.stamp })

    pub desk_still : (me k : View (Told E) × List (ℕ × ℕ)) (entries : List Kept) → me.0.past ≡ all → me.1 ≡ [] → AreShown entries (at was.lists (word_of parts id)) → k ≡ (without me.0, me.1) → IsWriter sites parts id seen entries k
    desk_still me k entries same none shown is = subst (IsWriter sites parts id seen entries) (sym is) (record {
      few_sites = f.few_sites;
      few_parts = f.few_parts;
      place = f.place;
      writes = λ q h. f.writes q (sym (ap (λ (p : Past (Told E)). has p.writes q) same) ∙ h);
      here = ap (λ (p : Past (Told E)). has p.writes (word_of parts id)) same ∙ f.here;
      numbers = refl;
      slots = none;
      stamped = subst (λ (p : Past (Told E)). IsStamp p.lists seen) (sym same) f.stamp;
      shown = subst (λ (p : Past (Told E)). AreShown entries (at p.lists (word_of parts id))) (sym same) (subst (AreShown entries) (sym f.own) shown);
    })

    module _ (by : ℕ) (held : has old.numbers by ≡ true) where
      number : (q : PartId) (k : ℕ) (g : Mark E) → Stands (traces q) k g → g.by ≡ by → k < length (view q)
      number q k g x b = number_at event_of sites parts w.kinds old.numbers old.lists (at all.lists) f.knows q k g x (ap (has old.numbers) b ∙ held)

      module _ (ask : Ask E) (base : List (Mark E)) (order : IsOrderOf view base) (m : MayBy w.kinds sites parts view left.state left.are base order by id ask) where
        -- an order of what the seat has seen, by which this may be asked
        abbrev pub whole : List (Mark E)
        whole = top ++ base

        pub whole_order : IsOrderOf traces whole
        whole_order = part_goes_on w.kinds sites parts traces view f.lawful.state f.lawful.are part base order

        pub whole_runs : IsWorldRun w.kinds sites parts (entries_of whole) f.lawful.state
        whole_runs = order_runs w.kinds sites parts traces traces f.lawful.state f.lawful.are whole whole_order

        pub whole_may : MayCall sites parts (entries_of whole) id ask × HasBegun (entries_of whole) ask
        whole_may = (may_goes_on w.kinds sites parts traces view f.lawful.state f.lawful.are part base order by number id (Refused ask IsDown) refl (m.callers traces f.lawful.state f.lawful.are part) (m.may, m.begun) tt).0

        puts_each : (ms : List (Mark E)) → ((x : Mark E) → Is x ms → PutsEvent w x.event) → Puts w (entries_of ms)
        puts_each [] h = tt
        puts_each (x ∷ ms) h = (h x (inl refl), puts_each ms (λ y i. h y (inr i)))

        puts : Puts w (entries_of whole)
        puts = puts_each whole (λ x i.
            let here = subst (Is x) (whole_order.all x.at) (is_made_at whole x i) in
            let s = is_stands (traces x.at) x here in
            let n = found_at event_of sites parts (at all.lists) x.at s.0 x s.1 in
            subst (λ (y : Mark E). PutsEvent w y.event) n.1.is (f.lawful.good (word_of parts x.at) s.0 n.1.step n.1.there))

        -- so it may be asked of the partition, which stands for its trace
        pub askable : (t : Durable E D) → StandsFor w sites parts id t all → (a : IsAskable w sites parts id t ask) × HasBegun a.run ask
        askable t h = (
          record {
            few_sites = f.few_sites;
            few_parts = f.few_parts;
            place = f.place;
            run = entries_of whole;
            state = f.lawful.state;
            is_run = whole_runs;
            puts = puts;
            stands = h (f.lawful.state id) (f.lawful.are.steps id);
            allowed = whole_may.0;
          },
          whole_may.1,
        )
