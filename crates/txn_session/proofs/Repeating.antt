-- A store's call that is made again once: what may be asked then, and what it comes to.
use Rattle.std.proofs.Common.{◌≡◌, ℕ, ◌+◌, Bool, true, false, List, sym, ap, ◌∙◌, subst}
use Rattle.std.specs.Prelude.{None, Some}
use Rattle.site_vector.specs.declared.ids.PartId.{PartId}
use Rattle.site_vector.specs.declared.ids.TxId.{TxId}
use Rattle.crdt_core.specs.KindsOf.{Kinds}
use Rattle.world_model.specs.declared.step.Step.{Step}
use Rattle.crdt_core.specs.declared.object.ObjectId.{ObjectId}
use Rattle.crdt_core.specs.declared.operation.Op.{Op}
use Rattle.crdt_core.specs.declared.record.Upd.{Upd}
use Rattle.world_model.specs.lines.Places.{IsPlace, home}
use Rattle.world_model.specs.rules.Event.{Ballot, Ask, AskTick, AskRead, AskUpdate, AskPrepare}
use Rattle.world_model.specs.rules.Lines.{session_of}
use Rattle.world_model.specs.rules.Plan.{update_count}
use Rattle.world_model.proofs.Whole.{shown_begun}
use Rattle.world_model.specs.rules.World.{begun}
use Rattle.txn_session.specs.Calls.{Call, entries, caller_of, IsLegal, IsAllowed, MayCall, GoesOn, Stays}
use Rattle.txn_session.specs.Waits.{is_late, told_reading, Later}
use Rattle.txn_session.proofs.Acting.{legal_after}
use Rattle.txn_session.proofs.Frames.{Same}
use Rattle.txn_session.proofs.Waiting.{later_first, later_both, whole_same, read_still, update_still, prepare_still}

module _ {S E T P : Type 0} (kinds : Kinds S E) (sees : T → P → List (Call E) → Type 0) (numbers : P → ℕ → Bool) (sites_of parts_of : T → ℕ) (stays : T → T → Type 0)
    (legal : (st : T) (p : P) (r : List (Call E)) → sees st p r → IsLegal kinds (sites_of st) (parts_of st) r) (keeps : (a b : T) → stays a b → (sites_of b ≡ sites_of a) × (parts_of b ≡ parts_of a))
    (before first : T) (s1 : stays before first) (given p1 : P) (n1 : (n : ℕ) → numbers p1 n ≡ numbers given n)
    (by : ℕ) (at : PartId) (ask : Ask E) (t : TxId) (has : numbers given by ≡ true) (place : IsPlace (sites_of before) (parts_of before) at)
    -- what holds of a run in which this may be asked
    (Fine : List (Call E) → Type 0) (still : (new old : List (Call E)) → Same new old t → Fine old → Fine new)
    (allowed : (run : List (Call E)) → Fine run → IsAllowed (sites_of before) (parts_of before) run (Some by) at ask) (owns : (run : List (Call E)) → Fine run → (begun (entries run) t ≡ true) × (by ≡ caller_of run t))
    (line : Step) (late : is_late line ≡ true) (goes : (run : List (Call E)) → sees before given run → Fine run → GoesOn sees numbers first p1 run (Some by) at ask line) where
  legal1 : (r : List (Call E)) → sees first p1 r → IsLegal kinds (sites_of before) (parts_of before) r
  legal1 = legal_after kinds sees sites_of parts_of stays legal keeps before first s1 p1 (sites_of before) (parts_of before) (λ i. sites_of before) (λ i. parts_of before)

  moved : (a b : T) → stays a b → (Q : ℕ → ℕ → Type 0) → Q (sites_of a) (parts_of a) → Q (sites_of b) (parts_of b)
  moved a b s Q q = let k = keeps a b s in subst (λ n. Q n (parts_of b)) (sym k.0) (subst (λ n. Q (sites_of a) n) (sym k.1) q)

  -- once it was put off, the clock may be told
  pub tick_may : (run : List (Call E)) → sees before given run → Fine run → (r : ℕ) → MayCall sees numbers (sites_of first) (parts_of first) first p1 None at (AskTick r)
  tick_may run seen fine r = let g = goes run seen fine in record { place = moved before first s1 (λ n k. IsPlace n k at) place; held = tt; run = _; seen = g.seen; allowed = record { may = tt; mine = tt } }

  module _ (second : T) (s2 : stays first second) (p2 : P) (n2 : (n : ℕ) → numbers p2 n ≡ numbers p1 n) where
    -- memory didn't suffice for that
    pub stopped : (reads : ℕ → Type 0) (time : ℕ) → ((run : List (Call E)) → sees first p1 run → Stays sees numbers second p2 run) → (run : List (Call E)) → sees before given run → Fine run → Later (numbers p2) reads time by at ask false (λ rest. Stays sees numbers second p2 rest) run
    stopped reads time s run seen fine =
        let g = goes run seen fine in
        let o = owns run fine in
        later_first kinds sees numbers (sites_of before) (parts_of before) (numbers p2) reads time by at ask t run o.0 o.1 (n2 by ∙ (n1 by ∙ has)) first p1 (λ n. sym (n2 n)) legal1 line late g (λ rest. Stays sees numbers second p2 rest) (s _ g.seen)

    module _ (r : ℕ) (answer : Step) (tick : (run : List (Call E)) → sees first p1 run → GoesOn sees numbers second p2 run None at (AskTick r) answer) where
      legal2 : (r : List (Call E)) → sees second p2 r → IsLegal kinds (sites_of before) (parts_of before) r
      legal2 = let k = keeps before first s1 in legal_after kinds sees sites_of parts_of stays legal keeps first second s2 p2 (sites_of before) (parts_of before) k.0 k.1

      -- it may be asked again
      pub again_fine : (reads : ℕ → Type 0) (time : ℕ) (told : (n : ℕ) × reads n × (r ≡ told_reading time n)) (run : List (Call E)) → sees before given run → Fine run → (later : List (Call E)) × sees second p2 later × Fine later
      again_fine reads time told run seen fine =
          let g = goes run seen fine in
          let o = owns run fine in
          let k = tick _ g.seen in (
            _,
            k.seen,
            still _ run (whole_same kinds sees numbers (sites_of before) (parts_of before) (numbers p2) reads time by at ask t run o.0 o.1 (n2 by ∙ (n1 by ∙ has)) first p1 (λ n. sym (n2 n)) legal1 line late g second p2 (λ n i. numbers p2 n) legal2 r told answer k) fine,
          )

      pub again_may : (reads : ℕ → Type 0) (time : ℕ) (told : (n : ℕ) × reads n × (r ≡ told_reading time n)) (run : List (Call E)) → sees before given run → Fine run → (m : MayCall sees numbers (sites_of second) (parts_of second) second p2 (Some by) at ask) × Fine m.run
      again_may reads time told run seen fine =
          let x = again_fine reads time told run seen fine in (
            record {
              place = moved first second s2 (λ n k. IsPlace n k at) (moved before first s1 (λ n k. IsPlace n k at) place);
              held = n2 by ∙ (n1 by ∙ has);
              run = x.0;
              seen = x.1;
              allowed = moved first second s2 (λ n k. IsAllowed n k x.0 (Some by) at ask) (moved before first s1 (λ n k. IsAllowed n k x.0 (Some by) at ask) (allowed x.0 x.2));
            },
            x.2,
          )

      -- and whatever it comes to then, it comes to in the end
      pub again : (reads : ℕ → Type 0) (time : ℕ) (told : (n : ℕ) × reads n × (r ≡ told_reading time n)) (p3 : P) → ((n : ℕ) → numbers p3 n ≡ numbers p2 n) → (slow : Bool) (Goes : List (Call E) → Type 0) → ((run : List (Call E)) → sees second p2 run → Fine run → IsAllowed (sites_of second) (parts_of second) run (Some by) at ask → Goes run) → (run : List (Call E)) → sees before given run → Fine run → Later (numbers p3) reads time by at ask slow Goes run
      unfolding again_fine
      again reads time told p3 n3 slow Goes f run seen fine =
          let g = goes run seen fine in
          let o = owns run fine in
          let k = tick _ g.seen in
          let x = again_fine reads time told run seen fine in
          later_both kinds sees numbers (sites_of before) (parts_of before) (numbers p3) reads time by at ask t run o.0 o.1 (n3 by ∙ (n2 by ∙ (n1 by ∙ has))) first p1 (λ n. sym (n3 n ∙ n2 n)) legal1 line late g second p2 (λ n. sym (n3 n)) legal2 r told answer k slow Goes (f _ x.1 x.2 (moved first second s2 (λ n k. IsAllowed n k x.0 (Some by) at ask) (moved before first s1 (λ n k. IsAllowed n k x.0 (Some by) at ask) (allowed x.0 x.2))))

-- what the calls that wait are handed, by what was done of their transaction
module _ {E : Type 0} (sites parts by : ℕ) (at : PartId) (t : TxId) (v : List ℕ) where
  abbrev pub MayRead : List ℕ → ObjectId → List (Upd E) → List (Call E) → Type 0
  MayRead who o own run = IsAllowed sites parts run (Some by) at (AskRead t v o own) × (who ≡ session_of (entries run) t)

  pub read_again : (who : List ℕ) (o : ObjectId) (own : List (Upd E)) (new old : List (Call E)) → Same new old t → MayRead who o own old → MayRead who o own new
  read_again who o own new old s h = (read_still new old t s sites parts by at v o own h.0, h.1 ∙ sym s.txn.session)

  pub read_owned : (who : List ℕ) (o : ObjectId) (own : List (Upd E)) (run : List (Call E)) → MayRead who o own run → (begun (entries run) t ≡ true) × (by ≡ caller_of run t)
  read_owned who o own run h = (shown_begun (entries run) (home t) h.0.may.who h.0.may.dependency t v h.0.may.begun, h.0.mine)

  abbrev pub MayUpdate : List ℕ → ObjectId → List (Upd E) → Op → ℕ → List (Call E) → Type 0
  MayUpdate who o own op index run = IsAllowed sites parts run (Some by) at (AskUpdate t v o own op) × (who ≡ session_of (entries run) t) × (index ≡ update_count (entries run) t + 1)

  pub update_again : (who : List ℕ) (o : ObjectId) (own : List (Upd E)) (op : Op) (index : ℕ) (new old : List (Call E)) → Same new old t → MayUpdate who o own op index old → MayUpdate who o own op index new
  update_again who o own op index new old s h = (update_still new old t s sites parts by at v o own op h.0, h.1 ∙ sym s.txn.session, h.2 ∙ ap (λ n. n + 1) (sym s.txn.count))

  pub update_owned : (who : List ℕ) (o : ObjectId) (own : List (Upd E)) (op : Op) (index : ℕ) (run : List (Call E)) → MayUpdate who o own op index run → (begun (entries run) t ≡ true) × (by ≡ caller_of run t)
  update_owned who o own op index run h = (shown_begun (entries run) (home t) h.0.may.0.who h.0.may.0.dependency t v h.0.may.0.begun, h.0.mine)

  pub prepare_again : (l : Ballot) (w : List (Upd E)) (new old : List (Call E)) → Same new old t → IsAllowed sites parts old (Some by) at (AskPrepare t v l w) → IsAllowed sites parts new (Some by) at (AskPrepare t v l w)
  prepare_again l w new old s h = prepare_still new old t s sites parts by at v l w h

  pub prepare_owned : (l : Ballot) (w : List (Upd E)) (run : List (Call E)) → IsAllowed sites parts run (Some by) at (AskPrepare t v l w) → (begun (entries run) t ≡ true) × (by ≡ caller_of run t)
  prepare_owned l w run h = (shown_begun (entries run) (home t) h.may.0.who h.may.0.dependency t v h.may.0.begun, h.mine)
