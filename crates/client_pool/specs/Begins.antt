-- What the begin of a transaction comes to.
use Rattle.std.specs.Prelude.{◌≡◌, ℕ, Bool, List, [], ◌∷◌}
use Rattle.txn_session.specs.Calls.{Call}
use Rattle.txn_session.specs.Session.{Txn, Open, SessionState}
use Rattle.client_pool.specs.Deeds.{Begins}
use Rattle.client_pool.specs.Coming.{IsSession, Came}
use Rattle.client_pool.specs.Commits.{place}

module _ {E S P : Type 0} (sees : S → P → List (Call E) → Type 0) (numbers : P → ℕ → Bool) where
  -- the session has an open transaction without updates, which it began at this partition
  pub record HasBegun (store : S) (old : P) (s : SessionState E) (pass : P) (new : SessionState E) (part : ℕ) : Type 0 where
    pub txn : Txn E
    pub opened : new.doing ≡ Open txn
    pub empty : txn.updates ≡ []
    pub named : IsSession s new
    pub came : Came sees numbers store old s pass new (Begins (place s.site part) s.name txn.tx ∷ [])
