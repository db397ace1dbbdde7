-- A session's calls that wait: what waits leaves what the session holds.
use Rattle.std.proofs.Common.{◌≡◌, ⊎_elim, ℕ, Bool, true, false, List, [], ◌∷◌, ◌++◌, refl, sym, ap, ◌∙◌}
use Rattle.std.specs.Prelude.{Option, ◌⊎◌}
use Rattle.std.proofs.lemmas.Bool.{true≢false, false_from_ne_true}
use Rattle.site_vector.specs.declared.ids.PartId.{PartId}
use Rattle.site_vector.specs.declared.ids.TxId.{TxId}
use Rattle.site_vector.specs.Vector.{entry}
use Rattle.crdt_core.specs.declared.object.ObjectId.{ObjectId}
use Rattle.crdt_core.specs.declared.operation.Op.{Op}
use Rattle.crdt_core.specs.KindsOf.{Kinds}
use Rattle.world_model.specs.declared.step.Step.{Step}
use Rattle.world_model.specs.declared.commit.What.{What}
use Rattle.world_model.specs.declared.commit.What.TheVariants as what
use Rattle.world_model.specs.rules.Event.{led_by, Ask, AskRead, AskUpdate, AskPrepare}
use Rattle.world_model.specs.rules.World.{is_begin, begun}
use Rattle.txn_session.specs.Calls.{Call, called, entries, caller_of, touches, IsLegal, AreOthers, GoesOn, Changes, Stays}
use Rattle.txn_session.specs.Session.{Txn, Doing, Idle, Open, Ending, SessionState, own_updates, updates_of, place_in}
use Rattle.txn_session.specs.Holds.{HoldsTxn, HoldsDoing, Holds, HoldsNumber, AreApart, MakesStep, Waits}
use Rattle.txn_session.specs.SessionWaits.{ReadWaits, UpdateWaits, StepsLater, StepWaits, place_for}
use Rattle.txn_session.specs.Waits.{IsOwnTick, IsPutOff, ArePauses, Later}
use Rattle.txn_session.proofs.Acting.{stays_waits}
use Rattle.txn_session.proofs.Frames.{holds_more, same_more}
use Rattle.txn_session.proofs.Owning.{untold, begins_new, legal_tail}
use Rattle.txn_session.proofs.Waiting.{later_none, tick_quiet, refused_quiet}

module _ {S E : Type 0} (kinds : Kinds S E) (sites parts : ℕ) where
  -- what came before is legal too
  pub legal_before : (more run : List (Call E)) → IsLegal kinds sites parts (more ++ run) → IsLegal kinds sites parts run
  legal_before [] run l = l
  legal_before (c ∷ more) run l = legal_before more run (legal_tail kinds sites parts c (more ++ run) l)

  module _ (held : ℕ → Bool) (reads : ℕ → Type 0) (time by : ℕ) (at : PartId) (ask : Ask E) (t : TxId) (run : List (Call E)) (b : begun (entries run) t ≡ true) (own : held (caller_of run t) ≡ true) where
    -- others leave t to its caller, and a pause tells nothing of it
    pub pauses_left : (more : List (Call E)) → IsLegal kinds sites parts (more ++ run) → ArePauses held reads time by at ask more → AreOthers more t
    pauses_left [] l p = tt
    pauses_left (c ∷ more) l p =
        let tail = legal_tail kinds sites parts c (more ++ run) l in
        let k = pauses_left more tail p.1 in
        let s = same_more more run t k in (
          ⊎_elim
              (λ (x : held c.by ≡ false).
              false_from_ne_true (touches c.entry.event t) (λ h.
              ⊎_elim
              (λ (y : is_begin c.entry.event t ≡ true). true≢false (sym (s.txn.begun ∙ b) ∙ (untold (entries (more ++ run)) t (begins_new kinds sites parts c (more ++ run) t l y)).begun))
              (λ (y : c.by ≡ caller_of (more ++ run) t). true≢false (sym own ∙ (ap held (sym (y ∙ s.txn.caller)) ∙ x)))
              (l.owned.1 t h)))
              (λ (x : IsOwnTick held reads time by at ask c ⊎ IsPutOff held reads time by at ask c).
              ⊎_elim
              (λ (y : IsOwnTick held reads time by at ask c). tick_quiet c.entry.event _ t y.ticks)
              (λ (y : IsPutOff held reads time by at ask c). refused_quiet c.entry.event ask y.why t y.refused)
              x)
              p.0,
          k,
        )

module _ {S E T P : Type 0} (kinds : Kinds S E) (sees : T → P → List (Call E) → Type 0) (numbers : P → ℕ → Bool) (store : T) (pass : P) (s : SessionState E) (legal : (r : List (Call E)) → sees store pass r → IsLegal kinds s.sites s.parts r) (has : HoldsNumber (numbers pass) s.doing) (run : List (Call E)) (h : Holds s run) (reads : ℕ → Type 0) (time by : ℕ) (at : PartId) (ask : Ask E) where
  -- a session holds once others acted and its pass waited
  pub holds_later : (more : List (Call E)) → IsLegal kinds s.sites s.parts (more ++ run) → ArePauses (numbers pass) reads time by at ask more → Holds s (more ++ run)
  holds_later more l p = holds_more s more run (by_doing s.doing has h.doing) h
    where
      of_txn : (txn : Txn E) → numbers pass txn.by ≡ true → HoldsTxn s.sites s.parts s.name s.site txn run → AreOthers more txn.tx
      of_txn txn k t = pauses_left kinds s.sites s.parts (numbers pass) reads time by at ask txn.tx run t.begun (ap (numbers pass) (sym t.caller) ∙ k) more l p

      by_doing : (d : Doing E) → HoldsNumber (numbers pass) d → HoldsDoing s.sites s.parts s.name s.site run d → AreApart d more
      by_doing Idle k d = tt
      by_doing (Open txn) k d = of_txn txn k d.0
      by_doing (Ending txn lead commit) k d = of_txn txn k d.0

  -- so what it comes to in the end is made of what it holds then
  later_on : (late : Bool) (Was Goes : List (Call E) → Type 0) → ((rest : List (Call E)) → Was rest → (front : List (Call E)) × sees store pass (front ++ rest)) → ((rest : List (Call E)) → Holds s rest → Was rest → Goes rest) → Later (numbers pass) reads time by at ask late Was run → Later (numbers pass) reads time by at ask late Goes run
  later_on late Was Goes seen f x =
      let w = seen (x.more ++ run) x.goes in
      let l = legal_before kinds s.sites s.parts w.0 (x.more ++ run) (legal _ w.1) in
      record { more = x.more; pauses = x.pauses; ticked = x.ticked; goes = f (x.more ++ run) (holds_later x.more l x.pauses) x.goes }

  pub goes_later : (late : Bool) (number : Option ℕ) (answer : Step) (Goes : List (Call E) → Type 0) → ((rest : List (Call E)) → Holds s rest → GoesOn sees numbers store pass rest number at ask answer → Goes rest) → Later (numbers pass) reads time by at ask late (λ rest. GoesOn sees numbers store pass rest number at ask answer) run → Later (numbers pass) reads time by at ask late Goes run
  goes_later late number answer Goes f x = later_on late (λ rest. GoesOn sees numbers store pass rest number at ask answer) Goes (λ rest g. (called g.by at g.event ∷ g.more, g.seen)) f x

  pub changes_later : (late : Bool) (number : ℕ) (answer : Step) (made : Option E) (Goes : List (Call E) → Type 0) → ((rest : List (Call E)) → Holds s rest → Changes sees numbers store pass rest number at ask answer made → Goes rest) → Later (numbers pass) reads time by at ask late (λ rest. Changes sees numbers store pass rest number at ask answer made) run → Later (numbers pass) reads time by at ask late Goes run
  changes_later late number answer made Goes f x = later_on late (λ rest. Changes sees numbers store pass rest number at ask answer made) Goes (λ rest g. (called g.goes.by at g.goes.event ∷ g.goes.more, g.goes.seen)) f x

  pub waits_later : Later (numbers pass) reads time by at ask false (λ rest. Stays sees numbers store pass rest) run → Later (numbers pass) reads time by at ask false (λ rest. Waits sees numbers store pass rest s s) run
  waits_later x = later_on false (λ rest. Stays sees numbers store pass rest) (λ rest. Waits sees numbers store pass rest s s) (λ rest g. (g.more, g.seen)) (λ rest hr g. stays_waits kinds sees numbers store pass s legal has rest hr g) x

-- nothing was put off where nothing was asked
module _ {E T P : Type 0} (sees : T → P → List (Call E) → Type 0) (numbers : P → ℕ → Bool) (reads : ℕ → Type 0) (store : T) (pass : P) (run : List (Call E)) (s new : SessionState E) where
  none_once : (txn : Txn E) (at : PartId) (ask : Ask E) → Waits sees numbers store pass run s new → Later (numbers pass) reads (entry txn.s at.site) txn.by at ask false (λ rest. Waits sees numbers store pass rest s new) run
  none_once txn at ask w = later_none (numbers pass) reads (entry txn.s at.site) txn.by at ask false (λ rest. Waits sees numbers store pass rest s new) run refl w

  pub waits_read : (o : ObjectId) (d : Doing E) → Waits sees numbers store pass run s new → ReadWaits sees numbers reads store pass run s new o d
  waits_read o Idle w = w
  waits_read o (Open txn) w = none_once txn (place_for sees numbers reads store pass run s new o) (AskRead txn.tx txn.s o (own_updates txn.updates o)) w
  waits_read o (Ending txn lead commit) w = w

  pub waits_update : (o : ObjectId) (op : Op) (d : Doing E) → Waits sees numbers store pass run s new → UpdateWaits sees numbers reads store pass run s new o op d
  waits_update o op Idle w = w
  waits_update o op (Open txn) w = none_once txn (place_for sees numbers reads store pass run s new o) (AskUpdate txn.tx txn.s o (own_updates txn.updates o) op) w
  waits_update o op (Ending txn lead commit) w = w

  pub waits_step : (d : Doing E) (next : What) → Waits sees numbers store pass run s new → StepWaits sees numbers reads store pass run s new d next
  waits_step (Ending txn lead commit) (what.Prepare p) w = none_once txn (place_in s p) (AskPrepare txn.tx txn.s (led_by lead) (updates_of s.parts txn.updates p)) w
  waits_step d next w = w

  -- what isn't a vote doesn't wait
  pub makes_later : (answer : Step) (d : Doing E) (next : What) → ((p : ℕ) → next ≡ what.Prepare p → ⊥) → MakesStep sees numbers store pass run s new answer d next → StepsLater sees numbers reads store pass run s new answer d next
  makes_later answer (Ending txn lead commit) (what.Prepare p) n m = absurd (n p refl)
  makes_later answer d next n m = m
