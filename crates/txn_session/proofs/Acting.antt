-- A call of a session's transaction: others left it alone, and what tells nothing of it leaves what the session holds.
use Rattle.std.proofs.Common.{◌≡◌, ℕ, Bool, true, false, List, ◌∷◌, ◌++◌, sym, ap, ◌∙◌, subst}
use Rattle.std.specs.Prelude.{Option}
use Rattle.site_vector.specs.declared.ids.PartId.{PartId}
use Rattle.site_vector.specs.declared.ids.TxId.{TxId}
use Rattle.crdt_core.specs.KindsOf.{Kinds}
use Rattle.world_model.specs.declared.step.Step.{Step}
use Rattle.world_model.specs.rules.Event.{Ask}
use Rattle.txn_session.specs.Calls.{Call, called, touches, IsLegal, AreOthers, NoneBears, GoesOn, Stays}
use Rattle.txn_session.specs.Session.{Txn, Doing, Idle, Open, Ending, SessionState}
use Rattle.txn_session.specs.Holds.{HoldsTxn, HoldsDoing, Holds, HoldsNumber, AreApart, Makes, Waits}
use Rattle.txn_session.proofs.Frames.{holds_more}
use Rattle.txn_session.proofs.Owning.{legal_tail, left}

module _ {S E T P : Type 0} (kinds : Kinds S E) (sees : T → P → List (Call E) → Type 0) (sites_of parts_of : T → ℕ) (stays : T → T → Type 0) (legal : (st : T) (p : P) (r : List (Call E)) → sees st p r → IsLegal kinds (sites_of st) (parts_of st) r) (keeps : (a b : T) → stays a b → (sites_of b ≡ sites_of a) × (parts_of b ≡ parts_of a)) where
  -- what a pass has seen is legal after a call too
  pub legal_after : (before store : T) → stays before store → (pass : P) (sites parts : ℕ) → sites_of before ≡ sites → parts_of before ≡ parts → (r : List (Call E)) → sees store pass r → IsLegal kinds sites parts r
  legal_after before store stayed pass sites parts es ep r seen =
      let k = keeps before store stayed in
      subst (λ n. IsLegal kinds n parts r) (k.0 ∙ es) (subst (λ n. IsLegal kinds (sites_of store) n r) (k.1 ∙ ep) (legal store pass r seen))

module _ {S E : Type 0} (kinds : Kinds S E) (numbers : ℕ → Bool) where
  -- others leave the session's transaction alone
  pub others_apart : (s : SessionState E) (more run : List (Call E)) → IsLegal kinds s.sites s.parts (more ++ run) → NoneBears numbers more → HoldsNumber numbers s.doing → Holds s run → AreApart s.doing more
  others_apart s more run l n held h = by_doing s.doing held h.doing
    where
      of_txn : (txn : Txn E) → numbers txn.by ≡ true → HoldsTxn s.sites s.parts s.name s.site txn run → AreOthers more txn.tx
      of_txn txn k t = left kinds s.sites s.parts numbers txn.tx run t.begun (ap numbers (sym t.caller) ∙ k) more l n

      by_doing : (d : Doing E) → HoldsNumber numbers d → HoldsDoing s.sites s.parts s.name s.site run d → AreApart d more
      by_doing Idle k d = tt
      by_doing (Open txn) k d = of_txn txn k d.0
      by_doing (Ending txn lead commit) k d = of_txn txn k d.0

module _ {S E T P : Type 0} (kinds : Kinds S E) (sees : T → P → List (Call E) → Type 0) (numbers : P → ℕ → Bool) (store : T) (pass : P) (s : SessionState E) (legal : (r : List (Call E)) → sees store pass r → IsLegal kinds s.sites s.parts r) (held : HoldsNumber (numbers pass) s.doing) (run : List (Call E)) (h : Holds s run) where
  pub goes_apart : (number : Option ℕ) (at : PartId) (ask : Ask E) (answer : Step) (goes : GoesOn sees numbers store pass run number at ask answer) → AreApart s.doing goes.more
  goes_apart number at ask answer goes = others_apart kinds (numbers pass) s goes.more run (legal_tail kinds s.sites s.parts (called goes.by at goes.event) (goes.more ++ run) (legal _ goes.seen)) goes.others held h

  pub goes_holds : (number : Option ℕ) (at : PartId) (ask : Ask E) (answer : Step) (goes : GoesOn sees numbers store pass run number at ask answer) → Holds s (goes.more ++ run)
  goes_holds number at ask answer goes = holds_more s goes.more run (goes_apart number at ask answer goes) h

  apart_next : (d : Doing E) (c : Call E) (more : List (Call E)) → ((t : TxId) → touches c.entry.event t ≡ false) → AreApart d more → AreApart d (c ∷ more)
  apart_next Idle c more q a = tt
  apart_next (Open txn) c more q a = (q txn.tx, a)
  apart_next (Ending txn lead commit) c more q a = (q txn.tx, a)

  -- an event that touches no transaction
  pub quiet_makes : (number : Option ℕ) (at : PartId) (ask : Ask E) (answer : Step) (goes : GoesOn sees numbers store pass run number at ask answer) → ((t : TxId) → touches goes.event t ≡ false) → Makes sees numbers store pass run s s number at ask answer
  quiet_makes number at ask answer goes q =
      let a = goes_apart number at ask answer goes in
      record { goes = goes; apart = a; holds = holds_more s (called goes.by at goes.event ∷ goes.more) run (apart_next s.doing (called goes.by at goes.event) goes.more q a) h; held = held }

  -- nothing was asked
  pub stays_waits : Stays sees numbers store pass run → Waits sees numbers store pass run s s
  stays_waits x =
      let a = others_apart kinds (numbers pass) s x.more run (legal _ x.seen) x.others held h in
      record { more = x.more; others = x.others; apart = a; seen = x.seen; holds = holds_more s x.more run a h; held = held }

-- a call leaves the numbers that the pass holds
pub held_after : {E P : Type 0} (numbers : P → ℕ → Bool) (given pass : P) → ((n : ℕ) → numbers pass n ≡ numbers given n) → (d : Doing E) → HoldsNumber (numbers given) d → HoldsNumber (numbers pass) d
held_after numbers given pass same Idle h = tt
held_after numbers given pass same (Open txn) h = same txn.by ∙ h
held_after numbers given pass same (Ending txn lead commit) h = same txn.by ∙ h
