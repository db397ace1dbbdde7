-- What the line of a call shows, and what a call comes to as a store tells it.
use Rattle.std.proofs.Common.{◌≡◌, ℕ, Bool, true, false, List, ◌∷◌, ◌++◌, refl, sym, ap, ◌∙◌, subst, Option, Some, None, Result, Ok, Err}
use Rattle.std.specs.Prelude.{◌≤◌, IfOk, IfErr}
use Rattle.site_vector.specs.declared.ids.PartId.{PartId}
use Rattle.site_vector.specs.declared.ids.TxId.{TxId}
use Rattle.crdt_core.specs.KindsOf.{Kinds}
use Rattle.world_model.specs.declared.step.Step.{Step}
use Rattle.world_model.specs.rules.Event.{Ask, Event, Entry, Updated, Refusal, IsDown, ClockBehind, TxPending, StableBehind, ClockAtEnd, IsGone, HasGap, IsRepeat, IsBadOp, HasNoRoom, IsDamaged}
use Rattle.world_model.specs.rules.World.{begun}
use Rattle.world_model.specs.rules.Lines.{session_of, tx_asked, number_asked, refusal_shown, fault_shown, step_shown}
use Rattle.world_model.proofs.Names.{off}
use Rattle.world_model.specs.threads.Calls.{Call, called, entries}
use Rattle.txn_session.proofs.Frames.{Same, same_more}
use Rattle.txn_session.proofs.Owning.{legal_tail, left}
use Rattle.partition_core.specs.Answers.{cause}
use Rattle.partition_core.specs.declared.durable.DurableError.{DurableError}
use Rattle.partition_core.specs.declared.durable.DurableError.TheVariants as call
use Rattle.txn_session.specs.Calls.{IsAllowed, Changes, GoesOn, IsLegal, NoneBears, Stays, caller_of, effect_made}
use Rattle.txn_session.specs.Numbers.{Bears}
use Rattle.seat_rule.specs.declared.view.Past.{Past}
use Rattle.seat_rule.specs.Lists.{has}
use Rattle.partition_lock.specs.declared.told.Told.{Told}
use Rattle.partition_lock.specs.Answers.{is_failed, IsTold, Acts, Settles, Waits, Comes}
use Rattle.partition_lock.specs.Calling.{seen_by, holds}
use Rattle.partition_lock.specs.Lines.{refusal_line, FailsAs}
use Rattle.partition_lock.specs.Passes.{IsLeast, Sees}

module _ {E : Type 0} where
  refusal_is : (below : List (Entry E)) (at : PartId) (ask : Ask E) (why : Refusal) → refusal_line at (tx_asked ask) (number_asked ask) why ≡ refusal_shown below at ask why
  refusal_is below at ask IsDown = refl
  refusal_is below at ask (ClockBehind n) = refl
  refusal_is below at ask (TxPending t n) = refl
  refusal_is below at ask (StableBehind j n) = refl
  refusal_is below at ask ClockAtEnd = refl
  refusal_is below at ask IsGone = refl
  refusal_is below at ask (HasGap n) = refl
  refusal_is below at ask (IsRepeat n) = refl
  refusal_is below at ask IsBadOp = refl
  refusal_is below at ask (HasNoRoom n) = refl
  refusal_is below at ask (IsDamaged k) = refl

  module _ {A : Type 0} (at : PartId) (ask : Ask E) (Shows : A → Event E → Type 0) (tx : TxId) (number : ℕ) (cut : Step) (tx_is : tx ≡ tx_asked ask) (number_is : number ≡ number_asked ask) (cut_is : (x : A) (what : Event E) → Shows x what → cut ≡ fault_shown at what) where
    -- the line of an error shows whatever event it tells
    shows_line : (X : Type 0) (error : DurableError) (line : Step) → FailsAs {X = X} at tx number cut error (Ok line) → (below : List (Entry E)) (e : Event E) → IsTold ask Shows (Err error) e → (line ≡ step_shown below at e) × (is_failed e ≡ true)
    shows_line X call.NoMemory line f below e h = absurd f
    shows_line X call.Down line f below e h = (f ∙ ap (step_shown below at) (sym h), ap is_failed h)
    shows_line X call.Disk line f below e h = (f ∙ (cut_is h.1.0 h.0 h.1.1 ∙ ap (step_shown below at) (sym h.2)), ap is_failed h.2)
    shows_line X (call.Full room) line f below e h = (f ∙ ap (step_shown below at) (sym h), ap is_failed h)
    shows_line X (call.Refused why) line f below e h = (f ∙ ((λ i. refusal_line at (tx_is i) (number_is i) (cause why)) ∙ (refusal_is below at ask (cause why) ∙ ap (step_shown below at) (sym h))), ap is_failed h)

    module _ {S : Type 0} (kinds : Kinds S E) (sites parts : ℕ) (old new : Past (Told E)) (run : List (Call E)) (by : ℕ) where
      fails_so : (X : Type 0) (error : DurableError) (line : Step) → FailsAs {X = X} at tx number cut error (Ok line) → Comes kinds sites parts old new run by at ask Shows (Err error) → Acts kinds sites parts old new run by at ask (λ below e. (line ≡ step_shown below at e) × (is_failed e ≡ true))
      fails_so X call.NoMemory line f c = absurd f
      fails_so X call.Down line f c = record { more = c.more; others = c.others; held = c.held; event = c.event; asked = c.asked; own_word = c.own_word; tells = shows_line X call.Down line f (entries (c.more ++ run)) c.event c.tells; seen = c.seen }
      fails_so X call.Disk line f c = record { more = c.more; others = c.others; held = c.held; event = c.event; asked = c.asked; own_word = c.own_word; tells = shows_line X call.Disk line f (entries (c.more ++ run)) c.event c.tells; seen = c.seen }
      fails_so X (call.Full room) line f c = record { more = c.more; others = c.others; held = c.held; event = c.event; asked = c.asked; own_word = c.own_word; tells = shows_line X (call.Full room) line f (entries (c.more ++ run)) c.event c.tells; seen = c.seen }
      fails_so X (call.Refused why) line f c = record { more = c.more; others = c.others; held = c.held; event = c.event; asked = c.asked; own_word = c.own_word; tells = shows_line X (call.Refused why) line f (entries (c.more ++ run)) c.event c.tells; seen = c.seen }

      -- an error with a line is a step that the line shows
      pub fails : {X : Type 0} (error : DurableError) (r : Result Step X) → FailsAs at tx number cut error r → (line : Step) → r ≡ Ok line → Comes kinds sites parts old new run by at ask Shows (Err error) → Acts kinds sites parts old new run by at ask (λ below e. (line ≡ step_shown below at e) × (is_failed e ≡ true))
      fails {X} error r f line is c = fails_so X error line (subst (FailsAs at tx number cut error) is f) c

module _ {S E X : Type 0} (kinds : Kinds S E) (sites parts : ℕ) (store : X) (old new : Past (Told E)) where
  -- as a store tells it
  abbrev pub goes : (run : List (Call E)) (by : ℕ) (at : PartId) (ask : Ask E) (Tells : List (Entry E) → Event E → Type 0) (a : Acts kinds sites parts old new run by at ask Tells) (number : Option ℕ) → Bears (holds new) number by → (line : Step) → line ≡ step_shown (entries (a.more ++ run)) at a.event
      → GoesOn (seen_by kinds sites parts) holds store new run number at ask line
  goes run by at ask Tells a number bears line shows = record { more = a.more; others = a.others; by = by; held = a.held; bears = bears; event = a.event; asked = a.asked; own_word = a.own_word; shows = shows; seen = a.seen }

  pub changes : (run : List (Call E)) (by : ℕ) (at : PartId) (ask : Ask E) (Tells : List (Entry E) → Event E → Type 0) (a : Acts kinds sites parts old new run by at ask Tells) (line : Step) → line ≡ step_shown (entries (a.more ++ run)) at a.event → (made : Option E) → made ≡ effect_made a.event
      → Changes (seen_by kinds sites parts) holds store new run by at ask line made
  changes run by at ask Tells a line shows made is = record { goes = goes run by at ask Tells a (Some by) refl line shows; effect = is }

  -- the least number that was held is the least still
  pub least_of : (n : ℕ) → new.numbers ≡ old.numbers → IsLeast old.numbers n → Bears (holds new) None n
  least_of n same l = subst (λ ns. (has ns n ≡ true) × ((k : ℕ) → has ns k ≡ true → n ≤ k)) (sym same) (l.held, l.least)

  module _ {A Y : Type 0} (by : ℕ) (at : PartId) (ask : Ask E) (Given : List (Entry E) → Type 0) (Shows : A → Event E → Type 0) (answer : Result (Result A Step) Y) where
    -- what a desk promises of an answer
    abbrev pub Settled : Type 0
    Settled = IfOk answer (λ r. (run : List (Call E)) → Sees kinds sites parts old run → IsAllowed sites parts run (Some by) at ask → Given (entries run) → Settles kinds sites parts old new run by at ask Shows r)

    settled_as : Settled → (r : Result A Step) → answer ≡ Ok r → (run : List (Call E)) → Sees kinds sites parts old run → IsAllowed sites parts run (Some by) at ask → Given (entries run) → Settles kinds sites parts old new run by at ask Shows r
    settled_as h r is = subst (λ y. IfOk y (λ r. (run : List (Call E)) → Sees kinds sites parts old run → IsAllowed sites parts run (Some by) at ask → Given (entries run) → Settles kinds sites parts old new run by at ask Shows r)) is h

    module _ (h : Settled) (r : Result A Step) (is : answer ≡ Ok r) (run : List (Call E)) (s : Sees kinds sites parts old run) (a : IsAllowed sites parts run (Some by) at ask) (given : Given (entries run)) where
      -- an answer tells an event
      pub did : (x : A) → r ≡ Ok x → Acts kinds sites parts old new run by at ask (λ below e. Shows x e)
      did x k = subst (Settles kinds sites parts old new run by at ask Shows) k (settled_as h r is run s a given)

      -- a line shows a refusal, or a call that was cut off
      pub failed : (line : Step) → r ≡ Err line → Acts kinds sites parts old new run by at ask (λ below e. (line ≡ step_shown below at e) × (is_failed e ≡ true))
      failed line k = subst (Settles kinds sites parts old new run by at ask Shows) k (settled_as h r is run s a given)

      module _ (number : Option ℕ) (bears : Bears (holds new) number by) where
        -- an answer that tells this event has the line that shows it
        pub exact : (x : A) → r ≡ Ok x → (what : Event E) → ((e : Event E) → Shows x e → e ≡ what) → (line : Step) → ((below : List (Entry E)) → line ≡ step_shown below at what) → GoesOn (seen_by kinds sites parts) holds store new run number at ask line
        exact x k what tells line shows =
            let d = did x k in
            goes run by at ask (λ below e. Shows x e) d number bears line (shows (entries (d.more ++ run)) ∙ ap (step_shown (entries (d.more ++ run)) at) (sym (tells d.event d.tells)))

        pub fails_as : (line : Step) → r ≡ Err line → GoesOn (seen_by kinds sites parts) holds store new run number at ask line
        fails_as line k = let d = failed line k in goes run by at ask (λ below e. (line ≡ step_shown below at e) × (is_failed e ≡ true)) d number bears line d.tells.0

  -- where memory ran out
  pub rests : {A Y : Type 0} (answer : Result A Y) → IfErr answer (λ e. (run : List (Call E)) → Sees kinds sites parts old run → Waits kinds sites parts old new run) → (y : Y) → answer ≡ Err y → (run : List (Call E)) → Sees kinds sites parts old run → Stays (seen_by kinds sites parts) holds store new run
  rests answer h y is run s =
      let w = subst (λ z. IfErr z (λ e. (run : List (Call E)) → Sees kinds sites parts old run → Waits kinds sites parts old new run)) is h run s in
      record { more = w.more; others = w.others; seen = w.seen }

-- a failure made no effect
module _ {E : Type 0} where
  pub none_made : (e : Event E) → is_failed e ≡ true → effect_made e ≡ None
  none_made (Updated t s o own op read x stamp) h = off h
  none_made e h = refl

-- others leave what a transaction's session is, and how many updates it made
module _ {S E : Type 0} (kinds : Kinds S E) (sites parts : ℕ) (numbers : ℕ → Bool) (run more : List (Call E)) (by : ℕ) (at : PartId) (e : Event E) (legal : IsLegal kinds sites parts (called by at e ∷ (more ++ run))) (others : NoneBears numbers more) (t : TxId) (held : numbers (caller_of run t) ≡ true) (began : begun (entries run) t ≡ true) where
  same : Same (more ++ run) run t
  same = same_more more run t (left kinds sites parts numbers t run began held more (legal_tail kinds sites parts (called by at e) (more ++ run) legal) others)

  session_kept : session_of (entries (more ++ run)) t ≡ session_of (entries run) t
  session_kept = same.txn.session

-- below what a call of a transaction did its session is the one that was seen
pub session_here : {S E : Type 0} (kinds : Kinds S E) (sites parts : ℕ) (old new : Past (Told E)) (run : List (Call E)) (by : ℕ) (at : PartId) (ask : Ask E) (Tells : List (Entry E) → Event E → Type 0) (a : Acts kinds sites parts old new run by at ask Tells) (t : TxId) → by ≡ caller_of run t → begun (entries run) t ≡ true
    → session_of (entries (a.more ++ run)) t ≡ session_of (entries run) t
session_here kinds sites parts old new run by at ask Tells a t mine began = session_kept kinds sites parts (has new.numbers) run a.more by at a.event a.seen.legal a.others t (subst (λ n. has new.numbers n ≡ true) mine a.held) began
