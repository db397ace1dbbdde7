-- A call's step is noted: the rule is kept, the pass's orders go on by it, and the partition stands for its longer trace.
use Rattle.std.proofs.Common.{◌≡◌, ◌≢◌, ⊎_elim, ℕ, suc, ◌+◌, ◌≤◌, cond, true, false, List, [], ◌∷◌, ◌++◌, length, refl, sym, ap, ◌∙◌, subst, arith, Result, Ok, Err}
use Rattle.std.specs.Prelude.{not}
use Rattle.std.proofs.lemmas.Bool.{cases_eq, cond-true}
use mathlib.Core.Option.{some}
use lib.ListN.{get_elem?}
use Rattle.site_vector.specs.declared.ids.PartId.{PartId}
use Rattle.site_vector.specs.declared.ids.TxId.{TxId}
use Rattle.site_vector.specs.Ids.{same_part}
use Rattle.site_vector.specs.Order.{same_part_refl}
use Rattle.crdt_core.specs.KindsOf.{Kinds}
use Rattle.world_model.specs.lines.Places.{IsPlace}
use Rattle.world_model.specs.rules.Asking.{MayCall, asked_by, is_own_word}
use Rattle.world_model.specs.rules.Event.{Ask, Aborted, Entry, Event, Refused, attempt, is_restart}
use Rattle.world_model.specs.rules.Event as event
use Rattle.world_model.specs.rules.Partition.{PartState, PartStep}
use Rattle.world_model.specs.rules.Plan.{IsFit}
use Rattle.world_model.specs.rules.Traces.{IsTrace}
use Rattle.world_model.proofs.Names.{off}
use Rattle.world_model.specs.threads.Allowed.{HasBegun, MayStand}
use Rattle.world_model.specs.threads.AreTraces.{AreTraces}
use Rattle.world_model.specs.threads.Callers.{IsCallers, IsCallersStep}
use Rattle.world_model.specs.threads.Calls.{Call, called, entries}
use Rattle.world_model.specs.threads.Marks.{Mark, calls, entries_of, events, is_restarted}
use Rattle.world_model.specs.threads.Orders.{IsOrderOf}
use Rattle.txn_session.specs.Calls.{IsLegal, NoneBears}
use Rattle.partition_core.specs.declared.durable.DurableError.{DurableError}
use Rattle.partition_core.specs.declared.durable.DurableError.TheVariants as call
use Rattle.partition_core.specs.Answers.{cause}
use Rattle.partition_core.specs.Durable.{Durable, StandsOn}
use Rattle.partition_core.specs.Moments.{CallsOn, StepsOn, IsCutOff}
use Rattle.partition_core.specs.Tables.{IsSame}
use Rattle.site_partitions.specs.Reaches.{Types, StandsAt, PutsEvent}
use Rattle.seat_rule.specs.declared.view.Noted.{Noted}
use Rattle.seat_rule.specs.declared.view.Past.{Past}
use Rattle.seat_rule.specs.declared.view.View.{View}
use Rattle.seat_rule.specs.Laws.{MayAdd, MayNote}
use Rattle.seat_rule.specs.Lists.{has, at, lens, grown}
use Rattle.seat_rule.specs.Views.{past, reader, without, noting}
use Rattle.seat_rule.specs.world.Calls.{IsCallOf}
use Rattle.seat_rule.specs.world.Traces.{word_of, is_place, mark_of, turned, traces_of, IsLawful}
use Rattle.seat_rule.proofs.Adding as adding
use Rattle.seat_rule.proofs.Adding.{step_at, put_grown}
use Rattle.seat_rule.proofs.Fronts.{knows_all}
use Rattle.seat_rule.proofs.Lists.{grown_here, grown_else, at_last_is, total_grown}
use Rattle.partition_lock.specs.declared.told.Told.{Told}
use Rattle.partition_lock.specs.declared.entry.Entry.{Entry as Kept}
use Rattle.partition_lock.specs.Answers.{is_starved, IsTold, IsDone, Acts, Comes, Waits}
use Rattle.partition_lock.specs.Desks.{AreShown, IsWriter, StandsFor}
use Rattle.partition_lock.specs.Events.{event_of, of_event}
use Rattle.partition_lock.specs.Notes.{IsAnswer, IsStepOf}
use Rattle.partition_lock.specs.Passes.{IsLeast, IsPass, IsStamp}
use Rattle.partition_lock.proofs.Joined.{Joined, view, left, none_calls, all_calls}
use Rattle.partition_lock.proofs.Owners.{MayBy, legal}
use Rattle.partition_lock.proofs.States.{one_step, state_is}
use Rattle.partition_lock.proofs.Telling.{told_is, done_told, unbroken}

module _ {E : Type 0} where
  -- what may be asked may stand, on its caller's own word
  may_stand : (sites parts : ℕ) (run : List (Entry E)) (p : PartId) (ask : Ask E) (e : Event E) → is_own_word e ≡ true → asked_by e ≡ ask → MayCall sites parts run p ask → HasBegun run ask → MayStand sites parts run p e
  may_stand sites parts run p ask (Aborted t false) own is m b = off own
  may_stand sites parts run p ask (Aborted t true) own is m b = (subst (MayCall sites parts run p) (sym is) m, subst (HasBegun run) (sym is) b)
  may_stand sites parts run p ask e own is m b = (subst (MayCall sites parts run p) (sym is) m, subst (HasBegun run) (sym is) b)

  is_callers : (caller : TxId → ℕ) (by : ℕ) (ask : Ask E) (e : Event E) → is_own_word e ≡ true → asked_by e ≡ ask → IsCallers caller by ask → IsCallersStep caller by e
  is_callers caller by ask (Aborted t false) own is h = tt
  is_callers caller by ask e own is h = subst (IsCallers caller by) (sym is) h

  -- one entry and one step more
  more_shown : (xs : List Kept) (ns : List (Noted (Told E))) (x : Kept) (n : Noted (Told E)) → AreShown xs ns → x.stamp ≡ n.stamp → x.caller ≡ n.by → AreShown (xs ++ x ∷ []) (ns ++ n ∷ [])
  more_shown [] [] x n s a b = (a, b, tt)
  more_shown [] (m ∷ ns) x n s a b = absurd s
  more_shown (y ∷ xs) [] x n s a b = absurd s
  more_shown (y ∷ xs) (m ∷ ns) x n s a b = (s.0, s.1, more_shown xs ns x n s.2 a b)

  pub shown_length : (xs : List Kept) (ns : List (Noted (Told E))) → AreShown xs ns → length ns ≡ length xs
  shown_length [] [] s = refl
  shown_length [] (m ∷ ns) s = absurd s
  shown_length (y ∷ xs) [] s = absurd s
  shown_length (y ∷ xs) (m ∷ ns) s = ap suc (shown_length xs ns s.2)

  grown_stamp : (ls : List (List (Noted (Told E)))) (p seen : ℕ) (e : Noted (Told E)) → IsStamp ls seen → e.stamp ≡ seen + 1 → IsStamp (grown ls p e) (seen + 1)
  grown_stamp ls p seen e f is =
      let sum = total_grown ls p e in
      let most = f.counted in
      record {
        greatest = λ q j x h.
            let old : (k : ℕ) → get_elem? (at ls k) j ≡ some x → x.stamp ≤ seen + 1 = λ k o. (let l = f.greatest k j x o in omega arith) in
            ⊎_elim
            (λ (s : q ≡ p). ⊎_elim
            (λ (o : get_elem? (at ls p) j ≡ some x). old p o)
            (λ (o : (e ≡ x) × (j ≡ length (at ls p))). let k : x.stamp ≡ seen + 1 = ap (λ (y : Noted (Told E)). y.stamp) (sym o.0) ∙ is in omega arith)
            (at_last_is (at ls p) e x j (subst (λ l. get_elem? l j ≡ some x) (ap (λ k. at (grown ls p e) k) s ∙ grown_here ls p e) h)))
            (λ (s : q ≢ p). old q (subst (λ l. get_elem? l j ≡ some x) (grown_else ls p q e s) h))
            (cases_eq q p);
        counted = omega arith;
      }

module _ {S E D : Type 0} (w : Types S E D) (sites parts : ℕ) (id : PartId) where
  -- a trace is told by its list alone
  pub stands_as : (t : Durable E D) (p q : Past (Told E)) → at q.lists (word_of parts id) ≡ at p.lists (word_of parts id) → StandsFor w sites parts id t p → StandsFor w sites parts id t q
  stands_as t p q e h s x = h s (subst (λ (l : List (Noted (Told E))). IsTrace w.kinds sites parts id (events (cond (is_place sites parts id) (turned event_of sites parts id [] l) [])) s) e x)

  module _ (old new : Durable E D) (same : IsSame old.tables new.tables) where
    step_here : (s after : PartState E) (e : Event E) → StandsAt w sites parts id old s → PartStep w.kinds old.tables.sites old.tables.parts old.tables.id s e after → PartStep w.kinds sites parts id s e after
    step_here s after e k st =
        subst (λ i. PartStep w.kinds sites parts i s e after) k.id
        (subst (λ n. PartStep w.kinds sites n old.tables.id s e after) k.parts_are
        (subst (λ n. PartStep w.kinds n old.tables.parts old.tables.id s e after) k.sites_are st))

    -- it stands for its longer trace
    stands_after : (s after : PartState E) (e : Event E) (p : Past (Told E)) (n : Noted (Told E)) → IsPlace sites parts id → is_restarted e ≡ false → event_of n.told ≡ e
        → ((x : PartState E) → IsTrace w.kinds sites parts id (events (traces_of event_of sites parts (at p.lists) id)) x → s ≡ x)
        → StandsAt w sites parts id old s → PartStep w.kinds sites parts id s e after → StandsOn w.codec w.state new after
        → StandsFor w sites parts id new (past (grown p.lists (word_of parts id) n) p.numbers p.writes)
    stands_after s after e p n place whole is one k st stands x t =
        let longer : traces_of event_of sites parts (at (grown p.lists (word_of parts id) n)) id ≡ mark_of event_of sites parts id n ∷ traces_of event_of sites parts (at p.lists) id =
        ap (λ (l : List (Noted (Told E))). cond (is_place sites parts id) (turned event_of sites parts id [] l) []) (sym (put_grown p.lists (word_of parts id) n (word_of parts id))) ∙ sym (step_at event_of sites parts w.kinds (at p.lists) id place n id) ∙ cond-true (same_part id id) _ _ (same_part_refl id) in
        let u : IsTrace w.kinds sites parts id (event_of n.told ∷ events (traces_of event_of sites parts (at p.lists) id)) x = subst (λ (l : List (Mark E)). IsTrace w.kinds sites parts id (events l) x) longer t in
        let there : PartStep w.kinds sites parts id s e x = subst (λ y. PartStep w.kinds sites parts id y e x) (sym (one u.0 u.1)) (subst (λ y. PartStep w.kinds sites parts id u.0 y x) is u.2) in
        let end : after ≡ x = one_step w.kinds sites parts id s after x e whole st there in
        record {
          id = same.id ∙ k.id;
          sites_are = same.sites ∙ k.sites_are;
          parts_are = same.parts ∙ k.parts_are;
          stands = subst (StandsOn w.codec w.state new) end stands;
        }

  -- what a call took of a state that its partition stood for
  record Took (old new : Durable E D) (s : PartState E) {A : Type 0} (ask : Ask E) (Shows : A → Event E → Type 0) (answer : Result A DurableError) : Type 0 where
    same : IsSame old.tables new.tables
    event : Event E
    after : PartState E
    tells : IsTold ask Shows answer event
    step : PartStep w.kinds old.tables.sites old.tables.parts old.tables.id s event after
    stands : StandsOn w.codec w.state new after

  module _ (old new : Durable E D) (s : PartState E) (stood : StandsOn w.codec w.state old s) (Given : PartState E → Type 0) (given : Given s) (ask : Ask E) {A : Type 0} (Shows : A → Event E → Type 0) where
    stepped : (answer : Result A DurableError) (Such : Event E → Type 0) → ((e : Event E) → Such e → IsTold ask Shows answer e) → StepsOn w.kinds w.codec w.state old new Given Such → Took old new s ask Shows answer
    stepped answer Such tells c = let so = (c.step s stood given).0 in record { same = c.same; event = so.event; after = so.after; tells = tells so.event so.shows; step = so.step; stands = so.stands }

    took : (answer : Result A DurableError) → is_starved answer ≡ false → CallsOn w.kinds w.codec w.state old new Given ask Shows answer → Took old new s ask Shows answer
    took (Ok x) f c = stepped (Ok x) (Shows x) (λ e h. h) c
    took (Err call.NoMemory) f c = off (sym f)
    took (Err call.Down) f c = stepped (Err call.Down) (λ e. e ≡ Refused ask event.IsDown) (λ e h. h) c.2
    took (Err call.Disk) f c = stepped (Err call.Disk) (IsCutOff Shows) (λ e h. h) c.2
    took (Err (call.Full room)) f c = stepped (Err (call.Full room)) (λ e. e ≡ Refused ask (event.HasNoRoom room)) (λ e h. h) c.2
    took (Err (call.Refused why)) f c = stepped (Err (call.Refused why)) (λ e. e ≡ Refused ask (cause why)) (λ e h. h) c

  pub starved_same : (old new : Durable E D) (Given : PartState E → Type 0) (ask : Ask E) {A : Type 0} (Shows : A → Event E → Type 0) (a : Result A DurableError) → is_starved a ≡ true → CallsOn w.kinds w.codec w.state old new Given ask Shows a → new ≡ old
  starved_same old new Given ask Shows (Ok n) f c = off f
  starved_same old new Given ask Shows (Err call.NoMemory) f c = c
  starved_same old new Given ask Shows (Err call.Down) f c = off f
  starved_same old new Given ask Shows (Err call.Disk) f c = off f
  starved_same old new Given ask Shows (Err (call.Full room)) f c = off f
  starved_same old new Given ask Shows (Err (call.Refused why)) f c = off f

  -- the event that an answer tells is one that answers what was asked
  module _ (ask : Ask E) (Given : List (Entry E) → Type 0) {A : Type 0} (Shows : A → Event E → Type 0) (plain : is_restart ask ≡ false) (fits : (why : event.Refusal) → IsFit w.kinds (Refused ask why))
      (done : (x : A) (run : List (Entry E)) → MayCall sites parts run id ask → Given run → (e : Event E) → Shows x e → IsDone w run ask e) (run : List (Entry E)) (may : MayCall sites parts run id ask) (given : Given run) where
    refused : (why : event.Refusal) (e : Event E) → e ≡ Refused ask why → IsAnswer w sites parts id ask Given e
    refused why e is = subst (IsAnswer w sites parts id ask Given) (sym is) (record { asked = refl; own_word = refl; told = ap not plain; fit = fits why; puts = tt; new = λ r m g. tt })

    answers : (answer : Result A DurableError) → ((x : A) → answer ≡ Ok x → (e : Event E) → Shows x e → PutsEvent w e) → (e : Event E) → IsTold ask Shows answer e → IsAnswer w sites parts id ask Given e
    answers (Ok x) puts e h =
        let d = done x run may given e h in
        record { asked = ap asked_by d.plain ∙ d.asked; own_word = ap is_own_word d.plain ∙ d.own_word; told = done_told e d.done; fit = d.fit; puts = puts x refl e h; new = λ r m g. (done x r m g e h).new }
    answers (Err call.NoMemory) puts e h = absurd h
    answers (Err call.Down) puts e h = refused event.IsDown e h
    answers (Err call.Disk) puts e h =
        let d = done h.1.0 run may given h.0 h.1.1 in
        subst (IsAnswer w sites parts id ask Given) (sym h.2) (record { asked = d.asked; own_word = d.own_word; told = d.done; fit = tt; puts = tt; new = λ r m g. tt })
    answers (Err (call.Full room)) puts e h = refused (event.HasNoRoom room) e h
    answers (Err (call.Refused why)) puts e h = refused (cause why) e h

  module _ (seen : ℕ) (was old all : Past (Told E)) (f : Joined w sites parts id seen was old all) (ask : Ask E) (Given : List (Entry E) → Type 0) {A : Type 0} (Shows : A → Event E → Type 0) (answer : Result A DurableError) (by : ℕ) (held : has old.numbers by ≡ true) where
    abbrev law : (ℕ → List (Noted (Told E))) → Type 0
    law = IsLawful event_of sites parts w.kinds (PutsEvent w)

    module _ (new : Durable E D) (n : Noted (Told E)) (i : IsStepOf w sites parts id (seen + 1) by all ask Given Shows answer new n) where
      is_call : (base : List (Mark E)) (order : IsOrderOf (view w sites parts id seen was old all f) base) → MayBy w.kinds sites parts (view w sites parts id seen was old all f) (left w sites parts id seen was old all f).state (left w sites parts id seen was old all f).are base order by id ask → Given (entries_of base)
          → IsCallOf event_of sites parts w.kinds (PutsEvent w) all old base id n
      is_call base order m given = record {
        place = f.place;
        knows = f.knows;
        closed = f.closed;
        old_closed = f.old_closed;
        cites = i.cites_are;
        stamps = λ q j x h. let k = f.stamp.greatest q j x h in let e = i.stamp_is in omega arith;
        held = ap (has old.numbers) i.by_is ∙ held;
        held_still = ap (has all.numbers) i.by_is ∙ ap (λ ns. has ns by) f.numbers ∙ held;
        order = order;
        may = may_stand sites parts (entries_of base) id ask (attempt (event_of n.told)) i.answers.own_word i.answers.asked m.may m.begun;
        own_word = i.answers.own_word;
        mine = λ logs l p. is_callers l.are.caller n.by ask (attempt (event_of n.told)) i.answers.own_word i.answers.asked (subst (λ k. IsCallers l.are.caller k ask) (sym i.by_is) (m.callers (traces_of event_of sites parts logs) l.state l.are p));
        new = i.answers.new (entries_of base) m.may given;
        fit = i.answers.fit;
        is_ok = i.answers.puts;
        unbroken = unbroken (event_of n.told) i.answers.told;
        steps = i.steps;
      }

      -- the pass's orders go on by it
      pub acts : (k : Past (Told E)) → k.lists ≡ grown all.lists (word_of parts id) n → k.numbers ≡ all.numbers → (base : List (Mark E)) (order : IsOrderOf (view w sites parts id seen was old all f) base) → MayBy w.kinds sites parts (view w sites parts id seen was old all f) (left w sites parts id seen was old all f).state (left w sites parts id seen was old all f).are base order by id ask → Given (entries_of base)
          → (run : List (Call E)) → run ≡ calls base → Acts w.kinds sites parts old k run by id ask (λ below e. IsTold ask Shows answer e)
      acts k lists numbers base order m given run same =
          let c = is_call base order m given in
          let above = adding.more event_of sites parts w.kinds (PutsEvent w) all old f.lawful base id n c in
          let whole = adding.goes_on event_of sites parts w.kinds (PutsEvent w) all old f.lawful base id n c in
          let is : called by id (event_of n.told) ∷ (calls above ++ run) ≡ calls (mark_of event_of sites parts id n ∷ (above ++ base)) = ap (λ j. called j id (event_of n.told) ∷ (calls above ++ run)) (sym i.by_is) ∙ ap (λ l. called n.by id (event_of n.told) ∷ l) (all_calls above base run same) in
          let next : law (at (grown all.lists (word_of parts id) n)) = subst law (λ j q. put_grown all.lists (word_of parts id) n q j) (adding.adds event_of sites parts w.kinds (PutsEvent w) all old f.lawful base id n c (at all.lists) f.lawful (λ q. knows_all all.numbers (at all.lists q)) refl) in
          record {
            more = calls above;
            others = subst (λ ns. NoneBears (has ns) (calls above)) (sym (numbers ∙ f.numbers)) (none_calls (has old.numbers) above (adding.others event_of sites parts w.kinds (PutsEvent w) all old f.lawful base id n c));
            held = ap (λ ns. has ns by) (numbers ∙ f.numbers) ∙ held;
            event = event_of n.told;
            asked = i.answers.asked;
            own_word = i.answers.own_word;
            tells = i.tells;
            seen = record {
              state = next.state;
              are = subst (λ ls. AreTraces w.kinds sites parts (traces_of event_of sites parts (at ls)) next.state) (sym lists) next.are;
              marks = mark_of event_of sites parts id n ∷ (above ++ base);
              order = subst (λ ls. IsOrderOf (traces_of event_of sites parts (at ls)) (mark_of event_of sites parts id n ∷ (above ++ base))) (sym lists) whole;
              is = is;
              legal = subst (IsLegal w.kinds sites parts) (sym is) (legal w.kinds sites parts (traces_of event_of sites parts (at (grown all.lists (word_of parts id) n))) next.state next.are (mark_of event_of sites parts id n ∷ (above ++ base)) whole);
            };
          }

      -- handed back with the step
      pub pass_after : (least : ℕ) (k : View (Told E) × List (ℕ × ℕ)) → IsLeast old.numbers least → k ≡ (reader (grown all.lists (word_of parts id) n) all.numbers, []) → IsPass least (seen + 1) k
      pass_after least k l is = subst (IsPass least (seen + 1)) (sym is) (record { writes = refl; lowest = subst (λ ns. IsLeast ns least) (sym f.numbers) l; slots = refl; drawn = refl; stamped = grown_stamp all.lists (word_of parts id) seen n f.stamp i.stamp_is })

      pub desk_after : (v : View (Told E)) (k : View (Told E) × List (ℕ × ℕ)) (entries : List Kept) (x : Kept) → v.past ≡ all → AreShown entries (at was.lists (word_of parts id)) → x.stamp ≡ seen + 1 → x.caller ≡ by → k ≡ (without (noting v (word_of parts id) n), []) → IsWriter sites parts id (seen + 1) (entries ++ x ∷ []) k
      desk_after v k entries x same shown a b is = subst (IsWriter sites parts id (seen + 1) (entries ++ x ∷ [])) (sym (is ∙ ap (λ (p : Past (Told E)). (without (noting (record v { past = p }) (word_of parts id) n), [])) same)) (record {
        few_sites = f.few_sites;
        few_parts = f.few_parts;
        place = f.place;
        writes = f.writes;
        here = f.here;
        numbers = refl;
        slots = refl;
        stamped = grown_stamp all.lists (word_of parts id) seen n f.stamp i.stamp_is;
        shown = subst (AreShown (entries ++ x ∷ [])) (sym (grown_here all.lists (word_of parts id) n)) (more_shown entries (at all.lists (word_of parts id)) x n (subst (AreShown entries) (sym f.own) shown) (a ∙ sym i.stamp_is) (b ∙ sym i.by_is));
      })

    -- there is such a step, where the call may be asked
    module _ (old_t new : Durable E D) (stood : StandsFor w sites parts id old_t all) (GivenOf : PartState E → Type 0) (given_of : GivenOf (f.lawful.state id)) (called_on : CallsOn w.kinds w.codec w.state old_t new GivenOf ask Shows answer) (fed : is_starved answer ≡ false)
        (plain : is_restart ask ≡ false) (fits : (why : event.Refusal) → IsFit w.kinds (Refused ask why)) (done : (x : A) (run : List (Entry E)) → MayCall sites parts run id ask → Given run → (e : Event E) → Shows x e → IsDone w run ask e) (puts : (x : A) → answer ≡ Ok x → (e : Event E) → Shows x e → PutsEvent w e)
        (base : List (Mark E)) (order : IsOrderOf (view w sites parts id seen was old all f) base) (m : MayBy w.kinds sites parts (view w sites parts id seen was old all f) (left w sites parts id seen was old all f).state (left w sites parts id seen was old all f).are base order by id ask) (given : Given (entries_of base)) where
      abbrev s : PartState E
      s = f.lawful.state id

      here : StandsAt w sites parts id old_t s
      here = stood s (f.lawful.are.steps id)

      t : Took old_t new s ask Shows answer
      t = took old_t new s here.stands GivenOf given_of ask Shows answer fed called_on

      is_answer : IsAnswer w sites parts id ask Given t.event
      is_answer = answers ask Given Shows plain fits done (entries_of base) m.may given answer puts t.event t.tells

      abbrev note : Noted (Told E)
      note = record { stamp = seen + 1; by = by; cites = lens all.lists; told = of_event t.event }

      shown_as : event_of (of_event t.event) ≡ t.event
      shown_as = told_is t.event is_answer.told

      step_at_place : PartStep w.kinds sites parts id s t.event t.after
      step_at_place = step_here old_t new t.same s t.after t.event here t.step

      one : (x : PartState E) → IsTrace w.kinds sites parts id (events (traces_of event_of sites parts (at all.lists) id)) x → s ≡ x
      one x h = state_is w.kinds sites parts (traces_of event_of sites parts (at all.lists)) f.lawful.state f.lawful.are id x h

      is_step : IsStepOf w sites parts id (seen + 1) by all ask Given Shows answer new note
      is_step = record {
        stamp_is = refl;
        by_is = refl;
        cites_are = refl;
        tells = subst (IsTold ask Shows answer) (sym shown_as) t.tells;
        answers = subst (IsAnswer w sites parts id ask Given) (sym shown_as) is_answer;
        steps = λ x h. (t.after, subst (λ y. PartStep w.kinds sites parts id y (event_of (of_event t.event)) t.after) (one x h) (subst (λ e. PartStep w.kinds sites parts id s e t.after) (sym shown_as) step_at_place));
        stands = stands_after old_t new t.same s t.after t.event all note f.place (unbroken t.event is_answer.told) shown_as one here step_at_place t.stands;
      }

      pub may_note : (word : ℕ) → word ≡ word_of parts id → MayNote law (IsStepOf w sites parts id (seen + 1) by all ask Given Shows answer new) all word
      may_note word at_word = record {
        note = note;
        is = is_step;
        holder = ap (λ ns. has ns by) f.numbers ∙ held;
        cites = refl;
        stamp = let k = f.stamp.counted in omega arith;
        may = subst (λ k. MayAdd law all k note) (sym at_word) (adding.adds event_of sites parts w.kinds (PutsEvent w) all old f.lawful base id note (is_call new note is_step base order m given));
      }

module _ {S E A : Type 0} (kinds : Kinds S E) (sites parts : ℕ) (old new : Past (Told E)) (run : List (Call E)) (by : ℕ) (at : PartId) (ask : Ask E) (Shows : A → Event E → Type 0) where
  pub comes_none : (answer : Result A DurableError) → is_starved answer ≡ true → Waits kinds sites parts old new run → Comes kinds sites parts old new run by at ask Shows answer
  comes_none (Ok x) f h = off f
  comes_none (Err call.NoMemory) f h = h
  comes_none (Err call.Down) f h = off f
  comes_none (Err call.Disk) f h = off f
  comes_none (Err (call.Full room)) f h = off f
  comes_none (Err (call.Refused why)) f h = off f

  pub comes_some : (answer : Result A DurableError) → is_starved answer ≡ false → Acts kinds sites parts old new run by at ask (λ below e. IsTold ask Shows answer e) → Comes kinds sites parts old new run by at ask Shows answer
  comes_some (Ok x) f h = h
  comes_some (Err call.NoMemory) f h = off (sym f)
  comes_some (Err call.Down) f h = h
  comes_some (Err call.Disk) f h = h
  comes_some (Err (call.Full room)) f h = h
  comes_some (Err (call.Refused why)) f h = h
