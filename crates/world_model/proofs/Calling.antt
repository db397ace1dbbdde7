-- After a call the traces with its step are traces, and the pass's order goes on by it.
use Rattle.std.proofs.Common.{◌≡◌, ⊎_elim, ℕ, ◌≤◌, ◌<◌, cond, true, false, List, [], ◌∷◌, ◌++◌, length, refl, sym, ap, ◌∙◌, subst, arith, le_refl}
use Rattle.std.specs.Prelude.{ltb}
use Rattle.std.proofs.lemmas.Bool.{cond-true, cond-false, cases_lt, ltb-true, lt-ltb, false_from_ne_true}
use Rattle.std.proofs.lemmas.List.{length-append}
use Rattle.site_vector.specs.declared.ids.PartId.{PartId}
use Rattle.site_vector.specs.declared.ids.TxId.{TxId}
use Rattle.site_vector.specs.Ids.{same_part}
use Rattle.site_vector.specs.Order.{same_tx_is}
use Rattle.crdt_core.specs.KindsOf.{Kinds}
use Rattle.world_model.specs.rules.Event.{Ask, AskRead, AskUpdate, AskPrepare, AskDecide, AskAbort, Event, Began, Aborted, attempt}
use Rattle.world_model.specs.rules.Partition.{PartState, new_part}
use Rattle.world_model.specs.rules.Plan.{IsNew}
use Rattle.world_model.specs.rules.World.{is_begin}
use Rattle.world_model.specs.rules.Asking.{asked_by}
use Rattle.world_model.proofs.Names.{off}
use Rattle.world_model.specs.threads.Calls.{touches}
use Rattle.world_model.specs.threads.Marks.{Mark, Stands, entries_of, first_of_trace}
use Rattle.world_model.specs.threads.Merging.{all_places, merged}
use Rattle.world_model.specs.threads.Callers.{IsCallers, IsCallersStep}
use Rattle.world_model.specs.threads.Allowed.{MayStand}
use Rattle.world_model.specs.threads.AreTraces.{AreTraces}
use Rattle.world_model.specs.threads.Orders.{IsOrderOf}
use Rattle.world_model.specs.threads.Views.{IsPart, both_seen}
use Rattle.world_model.specs.threads.Steps.{IsStep, caller_with, with_step}
use Rattle.world_model.specs.threads.OneCall.{IsCall}
use Rattle.world_model.proofs.Standing.{stands_more, first_parts, first_skips}
use Rattle.world_model.proofs.Growing.{part_traces, part_caller, first_all}
use Rattle.world_model.proofs.Owning.{is_of, is_step_of, touch_of, grows}
use Rattle.world_model.proofs.Going.{order_runs, part_goes_on, step_goes_on}
use Rattle.world_model.proofs.Joining.{join_parts, may_goes_on}

module _ {E : Type 0} where
  pub no_traces : {S : Type 0} (kinds : Kinds S E) (sites parts : ℕ) → AreTraces {E = E} kinds sites parts (λ q. []) (λ q. new_part sites parts)
  no_traces kinds sites parts = record {
    steps = λ p. refl;
    place = λ p n m s. absurd s;
    unbroken = λ p n m s. absurd s;
    own = λ p n m s. absurd s;
    within = λ p n m s. absurd s;
    rises = λ p n m s. absurd s;
    chain = λ p n m s. absurd s;
    caller = λ t. 0;
    owned = λ p n m s. absurd s;
    allowed = λ p n m s. absurd s;
  }

  -- a front of the whole is one of a longer front
  front_of : (whole rest rest' low high : List (Mark E)) → whole ≡ rest ++ low → whole ≡ rest' ++ high → length low ≤ length high → (top : List (Mark E)) × (high ≡ top ++ low)
  front_of whole rest rest' low high e f l =
      let i = first_parts (length low) high l in
      let same : first_of_trace (length low) high ≡ low = sym (first_skips (length low) rest' high l) ∙ ap (first_of_trace (length low)) (sym f ∙ e) ∙ first_skips (length low) rest low (le_refl _) ∙ first_all low in
      (i.0, i.1.0 ∙ ap (λ z. i.0 ++ z) same)

  same_length : (xs ys : List (Mark E)) → length (xs ++ ys) ≡ length ys → xs ++ ys ≡ ys
  same_length [] ys h = refl
  same_length (x ∷ xs) ys h = let l = length-append xs ys in absurd (omega arith)

  callers_of : (caller : TxId → ℕ) (by : ℕ) (ask : Ask E) (t : TxId) → IsCallers caller by ask → is_of ask t ≡ true → by ≡ caller t
  callers_of caller by (AskRead u s o own) t h e = h ∙ ap caller (same_tx_is u t e)
  callers_of caller by (AskUpdate u s o own op) t h e = h ∙ ap caller (same_tx_is u t e)
  callers_of caller by (AskPrepare u s l w) t h e = h ∙ ap caller (same_tx_is u t e)
  callers_of caller by (AskDecide u c) t h e = h ∙ ap caller (same_tx_is u t e)
  callers_of caller by (AskAbort u) t h e = h ∙ ap caller (same_tx_is u t e)
  callers_of caller by ask t h e = off e

  step_callers_of : (caller : TxId → ℕ) (by : ℕ) (event : Event E) (t : TxId) → IsCallersStep caller by event → is_step_of event t ≡ true → by ≡ caller t
  step_callers_of caller by (Aborted u false) t h e = off e
  step_callers_of caller by event t h e = callers_of caller by (asked_by event) t h e

  pub still_mine : (caller : TxId → ℕ) (by : ℕ) (event : Event E) → IsCallersStep caller by (attempt event) → IsCallersStep (λ t. cond (is_begin event t) by (caller t)) by (attempt event)
  still_mine caller by (Began who dep t s) h = tt
  still_mine caller by event h = h

  pub owned_too : (caller : TxId → ℕ) (by : ℕ) (event : Event E) → IsCallersStep (λ t. cond (is_begin event t) by (caller t)) by (attempt event) → (t : TxId) → touches event t ≡ true → by ≡ cond (is_begin event t) by (caller t)
  owned_too caller by event mine t h = ⊎_elim
      (λ (k : is_begin event t ≡ true). sym (cond-true (is_begin event t) by (caller t) k))
      (λ (k : is_step_of (attempt event) t ≡ true). step_callers_of (λ t. cond (is_begin event t) by (caller t)) by (attempt event) t mine k)
      (touch_of event t h)

  module _ {S : Type 0} (kinds : Kinds S E) (sites parts : ℕ) (traces view here : PartId → List (Mark E)) (state : PartId → PartState E) (a : AreTraces kinds sites parts traces state) (base : List (Mark E)) (m : Mark E) (later : PartState E) (c : IsCall kinds sites parts traces view here state a.caller base m later) where
    abbrev seen : PartId → List (Mark E)
    seen = both_seen view here

    abbrev part : IsPart seen traces
    part = join_parts traces view here c.pass c.seat

    -- what the pass had seen, within what both have
    within : IsPart view seen
    within = record { rest = λ q. (front q).0; fronts = λ q. (front q).1; closed = c.pass.closed }
      where
        front : (q : PartId) → (top : List (Mark E)) × (both_seen view here q ≡ top ++ view q)
        front q = ⊎_elim
            (λ (k : length (view q) < length (here q)).
            let e = cond-true (ltb (length (view q)) (length (here q))) (here q) (view q) (lt-ltb _ _ k) in
            let i = front_of (traces q) (c.pass.rest q) (c.seat.rest q) (view q) (here q) (c.pass.fronts q) (c.seat.fronts q) (omega arith) in (i.0, e ∙ i.1))
            (λ (k : length (here q) ≤ length (view q)). ([], cond-false (ltb (length (view q)) (length (here q))) (here q) (view q) (false_from_ne_true _ (λ h. let l = ltb-true (length (view q)) (length (here q)) h in absurd (omega arith)))))
            (cases_lt (length (view q)) (length (here q)))

    all_here : both_seen view here m.at ≡ traces m.at
    all_here = ⊎_elim
        (λ (k : length (view m.at) < length (here m.at)). cond-true (ltb (length (view m.at)) (length (here m.at))) (here m.at) (view m.at) (lt-ltb _ _ k) ∙ c.whole)
        (λ (k : length (here m.at) ≤ length (view m.at)).
        let e = cond-false (ltb (length (view m.at)) (length (here m.at))) (here m.at) (view m.at) (false_from_ne_true _ (λ h. let l = ltb-true (length (view m.at)) (length (here m.at)) h in absurd (omega arith))) in
        let f = c.pass.fronts m.at in
        let w = ap length c.whole in
        let l = length-append (c.pass.rest m.at) (view m.at) in
        let s = ap length f in
        e ∙ sym (f ∙ same_length (c.pass.rest m.at) (view m.at) (omega arith)))
        (cases_lt (length (view m.at)) (length (here m.at)))

    down : (q : PartId) → length (view q) ≤ length (seen q)
    down q = let f = ap length (within.fronts q) in let l = length-append (within.rest q) (view q) in omega arith

    up : (q : PartId) (k : ℕ) (f : Mark E) → Stands (seen q) k f → Stands (traces q) k f
    up q k f s = subst (λ l. Stands l k f) (sym (part.fronts q)) (stands_more (part.rest q) (seen q) k f s)

    abbrev old : (left : PartId → PartState E) × AreTraces kinds sites parts seen left
    old = part_traces kinds sites parts traces seen state a part

    abbrev before : List (Mark E)
    before = merged (all_places sites parts) within.rest ++ base

    order : IsOrderOf seen before
    order = part_goes_on kinds sites parts seen view old.0 old.1 within base c.order

    allowed : MayStand sites parts (entries_of before) m.at (attempt m.event) × IsNew (entries_of before) m.event
    allowed = may_goes_on kinds sites parts seen view old.0 old.1 within base c.order m.by (λ q k f s e. c.number q k f (up q k f s) e) m.at m.event c.own_word (subst (λ k. IsCallersStep k m.by (attempt m.event)) (sym (part_caller kinds sites parts traces seen state a part)) c.mine) c.may c.new

    is_step : IsStep kinds sites parts traces seen state (caller_with m a.caller) m later
    is_step = record {
      place = c.place;
      part = part;
      whole = all_here;
      seen = c.seen;
      stamp = c.stamp;
      number = λ q k f s e. let n = c.number q k f s e in let d = down q in omega arith;
      step = c.step;
      unbroken = c.unbroken;
      owned = owned_too a.caller m.by m.event (still_mine a.caller m.by m.event c.mine);
      run = before;
      order = order.all;
      left = old.0;
      is_run = order_runs kinds sites parts seen view old.0 old.1 before order;
      may = allowed.0;
      mine = still_mine a.caller m.by m.event c.mine;
      new = allowed.1;
      fit = c.fit;
    }

    self : IsPart seen seen
    self = record { rest = λ q. []; fronts = λ q. refl; closed = old.1.within }

    pub calls : AreTraces kinds sites parts (with_step m traces) (λ q. cond (same_part m.at q) later (state q)) × ((more : List (Mark E)) × IsOrderOf (with_step m (both_seen view here)) (m ∷ (more ++ base)))
    calls = (grows kinds sites parts traces state a seen m later is_step, (merged (all_places sites parts) within.rest, step_goes_on kinds sites parts seen seen old.0 old.1 m before self c.seen order))
