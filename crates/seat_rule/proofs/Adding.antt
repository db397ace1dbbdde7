-- A call of a partition by a pass keeps the rule of seats, and the pass's order goes on.
use Rattle.std.proofs.Common.{◌≡◌, ◌≢◌, ⊎_elim, ℕ, ◌-◌, ◌/◌, ◌%◌, ◌<◌, cond, true, false, true≢false, List, [], ◌∷◌, ◌++◌, length, refl, sym, ap, ◌∙◌, subst, arith}
use Rattle.std.proofs.lemmas.Bool.{cases_Bool, cond-true, cond-false, cases_eq}
use Rattle.std.proofs.lemmas.Nat.{div-mul-add, mod-mul-add}
use mathlib.Core.Option.{some}
use lib.ListN.{get_elem?}
use Rattle.site_vector.specs.declared.ids.PartId.{PartId}
use Rattle.site_vector.specs.Ids.{same_part}
use Rattle.site_vector.specs.Order.{same_part_is, same_part_refl}
use Rattle.crdt_core.specs.KindsOf.{Kinds}
use Rattle.world_model.specs.lines.Places.{IsPlace}
use Rattle.world_model.specs.rules.Event.{Event, attempt}
use Rattle.world_model.specs.rules.Plan.{IsNew}
use Rattle.world_model.specs.rules.Traces.{IsTrace}
use Rattle.world_model.specs.threads.Marks.{Mark, entries_of, events, Stands}
use Rattle.world_model.specs.threads.Orders.{IsOrderOf}
use Rattle.world_model.specs.threads.AreTraces.{AreTraces}
use Rattle.world_model.specs.threads.Views.{IsPart, NoneBears as NoMarkBears}
use Rattle.world_model.specs.threads.Allowed.{MayStand}
use Rattle.world_model.specs.threads.Steps.{with_step}
use Rattle.world_model.specs.threads.Merging.{merged, all_places}
use Rattle.world_model.proofs.Owning.{grows}
use Rattle.world_model.proofs.Going.{order_runs, part_goes_on, step_goes_on}
use Rattle.world_model.proofs.Joining.{may_goes_on, none_bears}
use Rattle.world_model.proofs.Calling.{still_mine, owned_too}
use Rattle.seat_rule.specs.declared.view.Noted.{Noted}
use Rattle.seat_rule.specs.declared.view.Past.{Past}
use Rattle.seat_rule.specs.Lists.{has, at, grown}
use Rattle.seat_rule.specs.Notes.{Knows, with_note}
use Rattle.seat_rule.specs.Laws.{MayAdd}
use Rattle.seat_rule.proofs.Lists.{grown_here, grown_else, at_last_is}
use Rattle.seat_rule.proofs.Lists.{put_here, put_else}
use Rattle.seat_rule.specs.world.Traces.{word_of, is_place, mark_of, turned, traces_of, IsLawful}
use Rattle.seat_rule.specs.world.Calls.{IsCallOf}
use Rattle.seat_rule.proofs.Turning.{place_true, true_place, turned_on, trace_here, trace_none, found_at, length_at, seen_all, bears_in_front}
use Rattle.seat_rule.proofs.Parting.{part_of}

module _ (sites parts : ℕ) where
  site_at : (p : PartId) → IsPlace sites parts p → word_of parts p / parts ≡ p.site - 1
  site_at p h = div-mul-add (p.site - 1) parts (p.part - 1) (omega (arith, h.least_part, h.most_part))

  part_at : (p : PartId) → IsPlace sites parts p → word_of parts p % parts ≡ p.part - 1
  part_at p h = mod-mul-add (p.site - 1) parts (p.part - 1) (omega (arith, h.least_part, h.most_part))

  -- no two places have one word
  pub word_is : (p q : PartId) → IsPlace sites parts p → IsPlace sites parts q → word_of parts p ≡ word_of parts q → p ≡ q
  word_is p q h k e =
      let a : p.site - 1 ≡ q.site - 1 = sym (site_at p h) ∙ (ap (λ n. n / parts) e ∙ site_at q k) in
      let b : p.part - 1 ≡ q.part - 1 = sym (part_at p h) ∙ (ap (λ n. n % parts) e ∙ part_at q k) in
      let site : p.site ≡ q.site = omega (arith, a, h.least_site, k.least_site) in
      let part : p.part ≡ q.part = omega (arith, b, h.least_part, k.least_part) in
      λ i. record { site = site i; part = part i }

module _ {T : Type 0} where
  pub put_grown : (lists : List (List (Noted T))) (w : ℕ) (e : Noted T) (q : ℕ) → with_note (at lists) w e q ≡ at (grown lists w e) q
  put_grown lists w e q = ⊎_elim
      (λ (h : q ≡ w). subst (λ k. with_note (at lists) w e k ≡ at (grown lists w e) k) (sym h) (put_here (at lists) w (at lists w ++ e ∷ []) ∙ sym (grown_here lists w e)))
      (λ (h : q ≢ w). put_else (at lists) w q (at lists w ++ e ∷ []) h ∙ sym (grown_else lists w q e h))
      (cases_eq q w)

module _ {S T E : Type 0} (event_of : T → Event E) (sites parts : ℕ) (kinds : Kinds S E) where
  -- one more note is one more step
  pub step_at : (logs : ℕ → List (Noted T)) (p : PartId) → IsPlace sites parts p → (e : Noted T) → (q : PartId) → with_step (mark_of event_of sites parts p e) (traces_of event_of sites parts logs) q ≡ traces_of event_of sites parts (with_note logs (word_of parts p) e) q
  step_at logs p place e q = ⊎_elim
      (λ (h : same_part p q ≡ true). cond-true (same_part p q) _ _ h ∙ subst (λ z. mark_of event_of sites parts p e ∷ traces_of event_of sites parts logs z ≡ traces_of event_of sites parts (with_note logs (word_of parts p) e) z) (same_part_is p q h) here)
      (λ (h : same_part p q ≡ false). cond-false (same_part p q) _ _ h ∙ ⊎_elim
      (λ (k : is_place sites parts q ≡ true). trace_here event_of sites parts logs q k ∙ ap (turned event_of sites parts q []) (sym (put_else logs (word_of parts p) (word_of parts q) (logs (word_of parts p) ++ e ∷ []) (λ x. true≢false (sym (same_part_refl p) ∙ ap (same_part p) (sym (word_is sites parts q p (true_place sites parts q k) place x)) ∙ h)))) ∙ sym (trace_here event_of sites parts (with_note logs (word_of parts p) e) q k))
      (λ (k : is_place sites parts q ≡ false). trace_none event_of sites parts logs q k ∙ sym (trace_none event_of sites parts (with_note logs (word_of parts p) e) q k))
      (cases_Bool (is_place sites parts q)))
      (cases_Bool (same_part p q))
    where
      here : mark_of event_of sites parts p e ∷ traces_of event_of sites parts logs p ≡ traces_of event_of sites parts (with_note logs (word_of parts p) e) p
      here = ap (λ l. mark_of event_of sites parts p e ∷ l) (trace_here event_of sites parts logs p (place_true sites parts p place)) ∙ sym (trace_here event_of sites parts (with_note logs (word_of parts p) e) p (place_true sites parts p place) ∙ ap (turned event_of sites parts p []) (put_here logs (word_of parts p) (logs (word_of parts p) ++ e ∷ [])) ∙ turned_on event_of sites parts p [] (logs (word_of parts p)) (e ∷ []))

  pub number_at : (numbers : List ℕ) (lists : List (List (Noted T))) (logs : ℕ → List (Noted T)) → ((q : ℕ) → Knows numbers (at lists q) (logs q)) → (q : PartId) (k : ℕ) (f : Mark E) → Stands (traces_of event_of sites parts logs q) k f → has numbers f.by ≡ true → k < length (traces_of event_of sites parts (at lists) q)
  number_at numbers lists logs knows q k f s h =
      let i = found_at event_of sites parts logs q k f s in
      let w = word_of parts q in
      let n = knows w in
      let l = bears_in_front numbers (at lists w) n.0 k i.1.step (subst (λ l. get_elem? l k ≡ some i.1.step) (sym n.1) i.1.there) n.2 (ap (λ (x : Mark E). has numbers x.by) i.1.is ∙ h) in
      subst (λ x. k < x) (sym (length_at event_of sites parts (at lists) q i.0)) l

  stamps_at : (lists : List (List (Noted T))) (stamp : ℕ) → ((q j : ℕ) (x : Noted T) → get_elem? (at lists q) j ≡ some x → x.stamp < stamp) → (q : PartId) (k : ℕ) (f : Mark E) → Stands (traces_of event_of sites parts (at lists) q) k f → f.stamp < stamp
  stamps_at lists stamp below q k f s = let i = found_at event_of sites parts (at lists) q k f s in subst (λ (x : Mark E). x.stamp < stamp) i.1.is (below (word_of parts q) k i.1.step i.1.there)

  module _ (ok : Event E → Type 0) (all old : Past T) (l : IsLawful event_of sites parts kinds ok (at all.lists)) (base : List (Mark E)) (p : PartId) (e : Noted T) (c : IsCallOf event_of sites parts kinds ok all old base p e) where
    abbrev lists_seen : PartId → List (Mark E)
    lists_seen = traces_of event_of sites parts (at all.lists)

    abbrev old_seen : PartId → List (Mark E)
    old_seen = traces_of event_of sites parts (at old.lists)

    abbrev m : Mark E
    m = mark_of event_of sites parts p e

    pub pass_part : IsPart old_seen lists_seen
    pass_part = part_of event_of sites parts old.lists (at all.lists) (λ q. ((c.knows q).0, (c.knows q).1)) c.old_closed

    abbrev pub more : List (Mark E)
    more = merged (all_places sites parts) pass_part.rest

    abbrev pub before : List (Mark E)
    before = more ++ base

    pub order : IsOrderOf lists_seen before
    order = part_goes_on kinds sites parts lists_seen old_seen l.state l.are pass_part base c.order

    pub allowed : MayStand sites parts (entries_of before) p (attempt (event_of e.told)) × IsNew (entries_of before) (event_of e.told)
    allowed = may_goes_on kinds sites parts lists_seen old_seen l.state l.are pass_part base c.order e.by (λ q k f s b. number_at old.numbers old.lists (at all.lists) c.knows q k f s (ap (has old.numbers) b ∙ c.held)) p (event_of e.told) c.own_word (c.mine (at all.lists) l pass_part) c.may c.new

    -- what others did bears none of the pass's numbers
    pub others : NoMarkBears (has old.numbers) more
    others = none_bears kinds sites parts lists_seen old_seen l.state l.are pass_part (has old.numbers) (λ q k f s b. number_at old.numbers old.lists (at all.lists) c.knows q k f s b)

    -- the rule is kept
    pub adds : MayAdd (IsLawful event_of sites parts kinds ok) all (word_of parts p) e
    adds logs k knows whole =
        let here : lists_seen p ≡ traces_of event_of sites parts logs p = trace_here event_of sites parts (at all.lists) p (place_true sites parts p c.place) ∙ ap (turned event_of sites parts p []) whole ∙ sym (trace_here event_of sites parts logs p (place_true sites parts p c.place)) in
        let part : IsPart lists_seen (traces_of event_of sites parts logs) = part_of event_of sites parts all.lists logs (λ q. ((knows q).0, (knows q).1)) c.closed in
        let own : IsPart old_seen (traces_of event_of sites parts logs) = record {
          rest = λ q. part.rest q ++ pass_part.rest q;
          fronts = λ q. part.fronts q ∙ ap (λ x. part.rest q ++ x) (pass_part.fronts q) ∙ regroup (part.rest q) (pass_part.rest q) (old_seen q);
          closed = pass_part.closed;
        } in
        let next = c.steps (k.state p) (subst (λ t. IsTrace kinds sites parts p (events t) (k.state p)) (sym here) (k.are.steps p)) in
        record {
          good = λ q j x h. ⊎_elim
              (λ (i : q ≡ word_of parts p). ⊎_elim
              (λ (o : get_elem? (logs (word_of parts p)) j ≡ some x). k.good (word_of parts p) j x o)
              (λ (o : (e ≡ x) × (j ≡ length (logs (word_of parts p)))). subst (λ (y : Noted T). ok (event_of y.told)) o.0 c.is_ok)
              (at_last_is (logs (word_of parts p)) e x j (subst (λ z. get_elem? z j ≡ some x) (ap (with_note logs (word_of parts p) e) i ∙ put_here logs (word_of parts p) (logs (word_of parts p) ++ e ∷ [])) h)))
              (λ (i : q ≢ word_of parts p). k.good q j x (subst (λ z. get_elem? z j ≡ some x) (put_else logs (word_of parts p) q (logs (word_of parts p) ++ e ∷ []) i) h))
              (cases_eq q (word_of parts p));
          state = λ q. cond (same_part p q) next.0 (k.state q);
          are = subst (λ traces. AreTraces kinds sites parts traces (λ q. cond (same_part p q) next.0 (k.state q))) (λ i q. step_at logs p c.place e q i) (grows kinds sites parts (traces_of event_of sites parts logs) k.state k.are lists_seen m next.0 (record {
            place = c.place;
            part = part;
            whole = here;
            seen = seen_all event_of sites parts all.lists p e c.cites;
            stamp = stamps_at all.lists e.stamp c.stamps;
            number = λ q j f s b. number_at all.numbers all.lists logs knows q j f s (ap (has all.numbers) b ∙ c.held_still);
            step = next.1;
            unbroken = c.unbroken;
            owned = owned_too k.are.caller e.by (event_of e.told) (still_mine k.are.caller e.by (event_of e.told) (c.mine logs k own));
            run = before;
            order = order.all;
            left = l.state;
            is_run = order_runs kinds sites parts lists_seen lists_seen l.state l.are before order;
            may = allowed.0;
            mine = still_mine k.are.caller e.by (event_of e.told) (c.mine logs k own);
            new = allowed.1;
            fit = c.fit;
          }));
        }
      where
        regroup : (xs ys zs : List (Mark E)) → xs ++ (ys ++ zs) ≡ (xs ++ ys) ++ zs
        regroup [] ys zs = refl
        regroup (x ∷ xs) ys zs = ap (λ a. x ∷ a) (regroup xs ys zs)

    self_part : IsPart lists_seen lists_seen
    self_part = record { rest = λ q. []; fronts = λ q. refl; closed = l.are.within }

    -- the pass's order goes on
    pub goes_on : IsOrderOf (traces_of event_of sites parts (at (grown all.lists (word_of parts p) e))) (m ∷ (more ++ base))
    goes_on = subst (λ traces. IsOrderOf traces (m ∷ (more ++ base))) (λ i q. (step_at (at all.lists) p c.place e q ∙ same q) i) (step_goes_on kinds sites parts lists_seen lists_seen l.state l.are m before self_part (seen_all event_of sites parts all.lists p e c.cites) order)
      where
        same : (q : PartId) → traces_of event_of sites parts (with_note (at all.lists) (word_of parts p) e) q ≡ traces_of event_of sites parts (at (grown all.lists (word_of parts p) e)) q
        same q = ap (λ x. cond (is_place sites parts q) (turned event_of sites parts q [] x) []) (put_grown all.lists (word_of parts p) e (word_of parts q))
