-- Whoever asks by the rule of sessions, messages and reports makes steps that the world allows.
use Rattle.std.proofs.Common.{◌≡◌, ℕ, Bool, true, false, List, [], ◌∷◌, refl, ap, ◌∙◌}
use Rattle.site_vector.specs.declared.ids.PartId.{PartId}
use Rattle.site_vector.specs.declared.ids.TxId.{TxId}
use Rattle.world_model.specs.rules.Event.{AskBegin, AskRead, AskUpdate, AskPrepare, AskDecide, AskFinish, AskTake, Event, Began, Updated, Read, Prepared, Decided, Finished, Aborted, Took, Heard, Refused, Entry, attempt}
use Rattle.world_model.specs.rules.Partition.{PartState}
use Rattle.world_model.specs.lines.Places.{home}
use Rattle.world_model.specs.rules.Plan.{is_some_update, change_by, updates_at, MayAbort, IsAllowed}
use Rattle.world_model.specs.rules.World.{is_begin, begin_vector, snapshot_of, changes_of, plan_of}
use Rattle.world_model.specs.rules.Asking.{MayCall, asked_by, is_own_word}
use Rattle.std.proofs.lemmas.Bool.{cond-false}
use Rattle.world_model.proofs.Names.{off}
use Rattle.world_model.proofs.LineChanges.{first_site}
use Rattle.world_model.proofs.Whole.{Agree, agree_by, no_more, allowed_too}

module _ {E : Type 0} where
  -- an event that begins nothing and updates nothing
  abbrev is_quiet : Event E → Bool
  is_quiet (Began who dep t s) = false
  is_quiet (Updated t s o own op read u stamp) = false
  is_quiet event = true

  begins_none : (event : Event E) (t : TxId) → is_quiet event ≡ true → is_begin event t ≡ false
  begins_none (Began who dep u s) t h = off h
  begins_none event t h = refl

  changes_none : (event : Event E) (t : TxId) → is_quiet event ≡ true → change_by event t ≡ []
  changes_none (Updated u s o own op read x stamp) t h = off h
  changes_none event t h = refl

  same_plan : (sites parts : ℕ) (run : List (Entry E)) (at : PartId) (event : Event E) (t : TxId) → is_quiet event ≡ true → Agree (plan_of sites parts run) (plan_of sites parts ((record { at = at; event = event }) ∷ run)) t
  same_plan sites parts run at event t h = agree_by sites parts run ((record { at = at; event = event }) ∷ run) t
      (cond-false _ (begin_vector event) (snapshot_of run t) (begins_none event t h))
      (λ p. no_more _ (updates_at run t p) (change_by event t) (changes_none event t h))

  -- under the plan of the run before
  may_ask : (sites parts : ℕ) (run : List (Entry E)) (at : PartId) (event : Event E) (state : PartId → PartState E) → MayCall sites parts run at (asked_by event) → is_own_word event ≡ true → IsAllowed (plan_of sites parts run) run state at event
  may_ask sites parts run at (Began who dep t s) state h w = h
  may_ask sites parts run at (Updated t s o own op read u stamp) state h w = h.0
  may_ask sites parts run at (Read t s o own read value) state h w = h
  may_ask sites parts run at (Prepared t s l us n) state h w = h.1
  may_ask sites parts run at (Decided t c) state h w = h
  may_ask sites parts run at (Finished t c) state h w = h.1
  may_ask sites parts run at (Aborted t true) state h w = h
  may_ask sites parts run at (Aborted t false) state h w = off w
  may_ask sites parts run at (Took number m) state h w = h
  may_ask sites parts run at (Heard number q b stable) state h w = h
  may_ask sites parts run at (Refused (AskBegin who dep) why) state h w = h
  may_ask sites parts run at (Refused (AskRead t s o own) why) state h w = (record { site = h.site; who = h.who; dependency = h.dependency; begun = h.begun }, h.place)
  may_ask sites parts run at (Refused (AskUpdate t s o own op) why) state h w = (record { site = h.0.site; who = h.0.who; dependency = h.0.dependency; begun = h.0.begun }, h.0.place)
  may_ask sites parts run at (Refused (AskPrepare t s l us) why) state h w = (h.0, h.1.takes)
  may_ask sites parts run at (Refused (AskDecide t c) why) state h w = ap (λ q. q.site) h.lead ∙ first_site t.site (home t) (λ p. is_some_update (changes_of sites run t p)) 1 parts refl
  may_ask sites parts run at (Refused (AskFinish t c) why) state h w = (h.1.decided, h.0)
  may_ask sites parts run at (Refused (AskTake number m) why) state h w = h
  may_ask sites parts run at (Refused asked why) state h w = tt
  may_ask sites parts run at event state h w = tt

  takes_same : (sites parts : ℕ) (run : List (Entry E)) (at : PartId) (event : Event E) → is_quiet event ≡ true → (t : TxId) → is_some_update (changes_of sites run t at) ≡ true → is_some_update (changes_of sites ((record { at = at; event = event }) ∷ run) t at) ≡ true
  takes_same sites parts run at event h t k = ap is_some_update ((same_plan sites parts run at event t h).updates at) ∙ k

  pub asks : (sites parts : ℕ) (run : List (Entry E)) (state : PartId → PartState E) (at : PartId) (event : Event E) → MayCall sites parts run at (asked_by (attempt event)) → is_own_word (attempt event) ≡ true → IsAllowed (plan_of sites parts ((record { at = at; event = event }) ∷ run)) run state at (attempt event)
  asks sites parts run state at (Began who dep t s) h w = h
  asks sites parts run state at (Updated t s o own op read u stamp) h w = record { site = h.0.site; who = h.0.who; dependency = h.0.dependency; begun = h.0.begun; place = h.0.place; earlier = h.0.earlier }
  asks sites parts run state at event h w =
      allowed_too sites parts run run ((record { at = at; event = event }) ∷ run) at state (attempt event)
      (λ t x. same_plan sites parts run at event t refl)
      (λ t x. same_plan sites parts run at event t refl)
      (λ t x. takes_same sites parts run at event refl t x)
      (may_ask sites parts run at (attempt event) state h w)

  -- an abort on the lead's word
  pub aborts : (sites parts : ℕ) (run : List (Entry E)) (state : PartId → PartState E) (at : PartId) (t : TxId) → MayAbort (plan_of sites parts run) run state at t false → IsAllowed (plan_of sites parts ((record { at = at; event = Aborted t false }) ∷ run)) run state at (Aborted t false)
  aborts sites parts run state at t h =
      allowed_too sites parts run run ((record { at = at; event = Aborted t false }) ∷ run) at state (Aborted t false)
      (λ u x. same_plan sites parts run at (Aborted t false) u refl)
      (λ u x. same_plan sites parts run at (Aborted t false) u refl)
      (λ u x. takes_same sites parts run at (Aborted t false) refl u x)
      h
