-- Who holds a transaction's number alone acts for it, and a new id is told of nowhere.
use Rattle.std.proofs.Common.{◌≡◌, ⊎_elim, ℕ, ◌+◌, cond, Bool, true, false, List, [], ◌∷◌, ◌++◌, length, refl, sym, ap, ◌∙◌, subst, arith}
use Rattle.std.specs.Prelude.{◌||◌, ◌&&◌, max}
use Rattle.std.proofs.lemmas.Bool.{or_parts, true≢false, cond-false, false_from_ne_true}
use Rattle.site_vector.specs.declared.ids.PartId.{PartId}
use Rattle.site_vector.specs.declared.ids.TxId.{TxId}
use Rattle.site_vector.specs.Ids.{same_part, same_tx}
use Rattle.site_vector.specs.Order.{same_tx_is}
use Rattle.crdt_core.specs.KindsOf.{Kinds}
use Rattle.world_model.specs.rules.Event.{Event, Began, Updated, Prepared, Decided, Aborted, Cut, Entry, attempt, is_prepare, is_decide, is_own_abort, tried, voted, decide_tried, gave_up, time_of, time_shown}
use Rattle.world_model.specs.rules.Partition.{PartState, PartStep}
use Rattle.world_model.specs.lines.Places.{home}
use Rattle.world_model.specs.rules.Plan.{change_by, updates_at, update_count}
use Rattle.world_model.specs.rules.Premises.{names, is_told_of}
use Rattle.world_model.specs.rules.World.{is_begin, begun, IsWorldRun}
use Rattle.world_model.proofs.Names.{off}
use Rattle.world_model.proofs.Premises.{premises}
use Rattle.txn_session.specs.Calls.{Call, entries, caller_of, touches, IsLegal, AreOthers, NoneBears}
use Rattle.txn_session.proofs.Frames.{same_more}

and_left : (a b : Bool) → a ≡ false → (a && b) ≡ false
and_left a b h = ap (λ x. x && b) h

and_right : (a b : Bool) → b ≡ false → (a && b) ≡ false
and_right true b h = h
and_right false b h = refl

both_off : (a b : Bool) → a ≡ false → b ≡ false → (a || b) ≡ false
both_off a b h k = (λ i. h i || k i)

nothing : (b : Bool) {A : Type 0} (xs ys : List A) → xs ≡ [] → ys ≡ [] → xs ++ cond b ys [] ≡ []
nothing true xs ys h k = (λ i. h i ++ k i)
nothing false xs ys h k = ap (λ l. l ++ []) h

none_more : {A : Type 0} (xs : List A) (n : ℕ) → n ≡ 0 → xs ≡ [] → n + length xs ≡ 0
none_more xs n h k = let e = ap length k in omega arith

module _ {E : Type 0} where
  -- what was told of nowhere did nothing
  pub record IsUntold (run : List (Entry E)) (t : TxId) : Type 0 where
    pub begun : begun run t ≡ false
    pub updates : (p : PartId) → updates_at run t p ≡ []
    pub count : update_count run t ≡ 0
    pub tries : (p : PartId) → tried run t p ≡ false
    pub votes : (p : PartId) → voted run t p ≡ false
    pub undecided : decide_tried run t ≡ false
    pub ungiven : gave_up run t ≡ false
    pub time : time_of run t ≡ 0

  -- an event that doesn't name t
  record IsSilent (e : Event E) (t : TxId) : Type 0 where
    pub begins : is_begin e t ≡ false
    pub changes : change_by e t ≡ []
    pub tries : is_prepare (attempt e) t ≡ false
    pub votes : is_prepare e t ≡ false
    pub decides : is_decide (attempt e) t ≡ false
    pub aborts : is_own_abort (attempt e) t ≡ false

  silent : (e : Event E) (t : TxId) → names e t ≡ false → IsSilent e t
  silent (Began who dep u s) t h = record { begins = h; changes = refl; tries = refl; votes = refl; decides = refl; aborts = refl }
  silent (Updated u s o own op read x stamp) t h = record { begins = refl; changes = cond-false _ (x ∷ []) [] h; tries = refl; votes = refl; decides = refl; aborts = refl }
  silent (Prepared u s l w n) t h = record { begins = refl; changes = refl; tries = h; votes = h; decides = refl; aborts = refl }
  silent (Decided u c) t h = record { begins = refl; changes = refl; tries = refl; votes = refl; decides = h; aborts = refl }
  silent (Aborted u own) t h = record { begins = refl; changes = refl; tries = refl; votes = refl; decides = refl; aborts = and_left (same_tx u t) own h }
  silent (Cut (Prepared u s l w n)) t h = record { begins = refl; changes = refl; tries = h; votes = refl; decides = refl; aborts = refl }
  silent (Cut (Decided u c)) t h = record { begins = refl; changes = refl; tries = refl; votes = refl; decides = h; aborts = refl }
  silent (Cut (Aborted u own)) t h = record { begins = refl; changes = refl; tries = refl; votes = refl; decides = refl; aborts = and_left (same_tx u t) own h }
  silent (Cut other) t h = record { begins = refl; changes = refl; tries = refl; votes = refl; decides = refl; aborts = refl }
  silent other t h = record { begins = refl; changes = refl; tries = refl; votes = refl; decides = refl; aborts = refl }

  pub untold : (run : List (Entry E)) (t : TxId) → is_told_of run t ≡ false → IsUntold run t
  untold [] t h = record { begun = refl; updates = λ p. refl; count = refl; tries = λ p. refl; votes = λ p. refl; undecided = refl; ungiven = refl; time = refl }
  untold (e ∷ run) t h =
      let a = or_parts (names e.event t) (is_told_of run t) h in
      let s = silent e.event t a.0 in
      let u = untold run t a.1 in record {
        begun = both_off _ _ s.begins u.begun;
        updates = λ p. nothing (same_part e.at p) (updates_at run t p) (change_by e.event t) (u.updates p) s.changes;
        count = none_more (change_by e.event t) (update_count run t) u.count s.changes;
        tries = λ p. both_off _ _ (and_right (same_part e.at p) _ s.tries) (u.tries p);
        votes = λ p. both_off _ _ (and_right (same_part e.at p) _ s.votes) (u.votes p);
        undecided = both_off _ _ s.decides u.undecided;
        ungiven = both_off _ _ s.aborts u.ungiven;
        time = cond-false _ (max (time_shown e.event) (time_of run t)) (time_of run t) s.votes ∙ u.time;
      }

  module _ {S : Type 0} (kinds : Kinds S E) (sites parts : ℕ) where
    pub legal_tail : (c : Call E) (run : List (Call E)) → IsLegal kinds sites parts (c ∷ run) → IsLegal kinds sites parts run
    legal_tail c run l = record { state = l.is_run.0; is_run = l.is_run.1; owned = l.owned.0 }

    begin_new : (run : List (Entry E)) (before : PartId → PartState E) (q : PartState E) (at : PartId) (e : Event E) (t : TxId) → IsWorldRun kinds sites parts run before → PartStep kinds sites parts at (before at) e q → is_begin e t ≡ true → is_told_of run t ≡ false
    begin_new run before q at (Began who dep u s) t r st h =
        let p = premises kinds sites parts run before r in
        let b = st.1 in
        let here : home u ≡ at = ap (λ x. record { site = x.site; part = x.part }) b.named in
        let time : u.time ≡ (before at).now + 1 = ap (λ x. x.time) b.named in
        let now : (before (home u)).now ≡ (before at).now = ap (λ x. (before x).now) here in
        subst (λ x. is_told_of run x ≡ false) (same_tx_is u t h) (p.undrawn u (omega arith))
    begin_new run before q at e t r st h = off h

    -- what begins is new
    pub begins_new : (c : Call E) (run : List (Call E)) (t : TxId) → IsLegal kinds sites parts (c ∷ run) → is_begin c.entry.event t ≡ true → is_told_of (entries run) t ≡ false
    begins_new c run t l h = begin_new (entries run) l.is_run.0 (l.state c.entry.at) c.entry.at c.entry.event t l.is_run.1 l.is_run.2.step h

    module _ (numbers : ℕ → Bool) (t : TxId) (run : List (Call E)) (b : begun (entries run) t ≡ true) (held : numbers (caller_of run t) ≡ true) where
      -- others leave t to its caller
      pub left : (more : List (Call E)) → IsLegal kinds sites parts (more ++ run) → NoneBears numbers more → AreOthers more t
      left [] l n = tt
      left (c ∷ more) l n =
          let tail = legal_tail c (more ++ run) l in
          let k = left more tail n.1 in
          let s = same_more more run t k in (
            false_from_ne_true (touches c.entry.event t) (λ h.
                ⊎_elim
                (λ (x : is_begin c.entry.event t ≡ true). true≢false (sym (s.txn.begun ∙ b) ∙ (untold (entries (more ++ run)) t (begins_new c (more ++ run) t l x)).begun))
                (λ (x : c.by ≡ caller_of (more ++ run) t). true≢false (sym held ∙ (ap numbers (sym (x ∙ s.txn.caller)) ∙ n.0)))
                (l.owned.1 t h)),
            k,
          )
