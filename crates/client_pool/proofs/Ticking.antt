-- A call that touches no transaction, by a pass whose session stands by.
use Rattle.std.proofs.Common.{◌≡◌, ℕ, Bool, true, false, List, [], ◌∷◌, refl, sym, ap, ◌∙◌, subst}
use Rattle.std.specs.Prelude.{None}
use Rattle.site_vector.specs.declared.ids.PartId.{PartId}
use Rattle.site_vector.specs.declared.ids.TxId.{TxId}
use Rattle.crdt_core.specs.KindsOf.{Kinds}
use Rattle.world_model.specs.declared.step.Step.{Step}
use Rattle.world_model.specs.rules.Asking.{asked_by}
use Rattle.world_model.specs.rules.Event.{Ask, Event, attempt}
use Rattle.txn_session.specs.Calls.{Call, touches, IsLegal, GoesOn, IsAllowed, MayCall}
use Rattle.txn_session.specs.Numbers.{IsLeast}
use Rattle.txn_session.specs.Session.{SessionState}
use Rattle.txn_session.specs.Holds.{Holds}
use Rattle.world_model.specs.lines.Places.{IsPlace}
use Rattle.client_pool.specs.Coming.{Ready}
use Rattle.txn_session.proofs.Acting.{quiet_makes}
use Rattle.client_pool.proofs.Coming.{number_held}
use Rattle.client_pool.proofs.Calling.{makes_called}
use Rattle.client_pool.proofs.Asking.{Asks}

module _ {A E S P : Type 0} (kinds : Kinds A E) (sees : S → P → List (Call E) → Type 0) (numbers : P → ℕ → Bool) (store : S) (mid pass : P) (s : SessionState E) (legal : (r : List (Call E)) → sees store pass r → IsLegal kinds s.sites s.parts r) where
  pub quiet_asks : (at : PartId) (ask : Ask E) (answer : Step) → ((e : Event E) (t : TxId) → asked_by (attempt e) ≡ ask → touches e t ≡ false) → ((run : List (Call E)) → sees store mid run → Holds s run → GoesOn sees numbers store pass run None at ask answer) → Asks sees numbers store mid s pass s at ask answer
  quiet_asks at ask answer quiet h k run least seen holds own =
      let goes = h run seen holds in
      makes_called sees numbers store pass s k least s run None at ask answer (λ n e. absurd cc) (quiet_makes kinds sees numbers store pass s legal (number_held (numbers pass) s.doing own) run holds None at ask answer goes (λ t. quiet goes.event t goes.asked))

-- what a run that the pass has seen allows may be asked
module _ {E S P : Type 0} (sees : S → P → List (Call E) → Type 0) (numbers : P → ℕ → Bool) (sites parts : S → ℕ) where
  pub may_ask : (store held : S) → store ≡ held → (pass : P) (s : SessionState E) → sites store ≡ s.sites → parts store ≡ s.parts → (r : Ready sees numbers store pass s) (at : PartId) → IsPlace s.sites s.parts at → (ask : Ask E) → IsAllowed s.sites s.parts r.run None at ask → MayCall sees numbers (sites held) (parts held) held pass None at ask
  may_ask store held is pass s es ep r at place ask allowed =
      subst (λ w. MayCall sees numbers (sites w) (parts w) w pass None at ask) is
      (subst (λ n. MayCall sees numbers n (parts store) store pass None at ask) (sym es)
      (subst (λ n. MayCall sees numbers s.sites n store pass None at ask) (sym ep)
      (record { place = place; held = tt; run = r.run; seen = r.seen; allowed = allowed })))
