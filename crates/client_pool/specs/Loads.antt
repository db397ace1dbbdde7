-- What the transactions of a client come to.
use Rattle.std.specs.Prelude.{◌≡◌, ℕ, Bool, List, ◌++◌, length}
use Rattle.txn_session.specs.Numbers.{IsLeast, made_by}
use Rattle.client_pool.specs.Deeds.{Deed, Follows}
use Rattle.site_vector.specs.declared.ids.TxId.{TxId}
use Rattle.txn_session.specs.Calls.{Call}
use Rattle.txn_session.specs.Session.{Idle, SessionState}
use Rattle.client_pool.specs.declared.plan.Plan.{Plan}
use Rattle.client_pool.specs.Coming.{AreOwn, IsSession, Came}
use Rattle.client_pool.specs.Works.{load_done}

module _ {E S P : Type 0} (sees : S → P → List (Call E) → Type 0) (numbers : P → ℕ → Bool) where
  -- so many of them are made, and its session is idle
  pub record HasMade (store : S) (old : P) (s : SessionState E) (pass : P) (new : SessionState E) (plan : Plan) (i count : ℕ) : Type 0 where
    pub named : IsSession s new
    pub idle : new.doing ≡ Idle
    pub ids : List TxId
    pub made : length ids ≡ count
    pub came : Came sees numbers store old s pass new (load_done plan i ids)

  -- the pass has a number to call by, and has seen a run
  pub record HasSeen (store : S) (pass : P) : Type 0 where
    pub number : ℕ
    pub is_least : IsLeast (numbers pass) number
    pub run : List (Call E)
    pub seen : sees store pass run

  -- the run goes on: by the number k this is done, and others act
  pub record RunsOn (store : S) (pass : P) (k : ℕ) (deeds : List Deed) (run : List (Call E)) : Type 0 where
    pub more : List (Call E)
    pub apart : AreOwn (numbers pass) k more
    pub follows : Follows deeds (made_by k more)
    pub seen : sees store pass (more ++ run)

  -- the pass holds the same numbers, and whatever it had seen goes on: by the least of them this is done
  pub record Did (store : S) (old pass : P) (deeds : List Deed) : Type 0 where
    pub same : (n : ℕ) → numbers pass n ≡ numbers old n
    pub goes : (k : ℕ) (run : List (Call E)) → IsLeast (numbers old) k → sees store old run → RunsOn store pass k deeds run

  -- client i made all its transactions
  pub record HasLoad (store : S) (old pass : P) (plan : Plan) (i : ℕ) : Type 0 where
    pub ids : List TxId
    pub made : length ids ≡ plan.txns
    pub did : Did store old pass (load_done plan i ids)
