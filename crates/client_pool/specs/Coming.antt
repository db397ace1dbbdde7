-- What a pass and the session with it come to, by calls of the least number that the pass holds.
use Rattle.std.specs.Prelude.{◌≡◌, ◌⊎◌, ℕ, Bool, true, false, List, [], ◌∷◌, ◌++◌, ⊤}
use Rattle.site_vector.specs.declared.ids.PartId.{PartId}
use Rattle.txn_session.specs.Calls.{Call}
use Rattle.txn_session.specs.Numbers.{IsLeast, made_by}
use Rattle.txn_session.specs.Session.{Doing, Idle, Open, Ending, SessionState}
use Rattle.txn_session.specs.Holds.{Holds}
use Rattle.client_pool.specs.declared.fault.Fault.{Fault}
use Rattle.client_pool.specs.declared.fault.Fault.TheVariants as fault
use Rattle.client_pool.specs.Deeds.{Deed, Follows, HasStopped}

module _ {E : Type 0} where
  -- each of these calls bears k, or none of the numbers
  abbrev pub AreOwn : (ℕ → Bool) → ℕ → List (Call E) → Type 0
  AreOwn numbers k [] = ⊤
  AreOwn numbers k (c ∷ more) = ((c.by ≡ k) ⊎ (numbers c.by ≡ false)) × AreOwn numbers k more

  -- the session's transaction is of the least number
  abbrev pub IsOfLeast : (ℕ → Bool) → Doing E → Type 0
  IsOfLeast numbers Idle = ⊤
  IsOfLeast numbers (Open txn) = IsLeast numbers txn.by
  IsOfLeast numbers (Ending txn lead commit) = IsLeast numbers txn.by

  -- the session is of the same name, site and cluster
  pub record IsSession (old new : SessionState E) : Type 0 where
    pub name : new.name ≡ old.name
    pub site : new.site ≡ old.site
    pub sites : new.sites ≡ old.sites
    pub parts : new.parts ≡ old.parts

  module _ {S P : Type 0} (sees : S → P → List (Call E) → Type 0) (numbers : P → ℕ → Bool) where
    -- the pass has seen a run in which the session holds
    pub record Ready (store : S) (pass : P) (s : SessionState E) : Type 0 where
      pub number : ℕ
      pub is_least : IsLeast (numbers pass) number
      pub run : List (Call E)
      pub seen : sees store pass run
      pub holds : Holds s run
      pub own : IsOfLeast (numbers pass) s.doing

    -- the run goes on: by the number k this is done, and others act
    pub record GoesSo (store : S) (pass : P) (new : SessionState E) (k : ℕ) (deeds : List Deed) (run : List (Call E)) : Type 0 where
      pub more : List (Call E)
      pub apart : AreOwn (numbers pass) k more
      pub follows : Follows deeds (made_by k more)
      pub seen : sees store pass (more ++ run)
      pub holds : Holds new (more ++ run)
      pub own : IsOfLeast (numbers pass) new.doing

    -- the pass holds the same numbers, and whatever it had seen goes on: by the least of them this is done
    pub record Came (store : S) (old : P) (s : SessionState E) (pass : P) (new : SessionState E) (deeds : List Deed) : Type 0 where
      pub same : (n : ℕ) → numbers pass n ≡ numbers old n
      pub goes : (k : ℕ) (run : List (Call E)) → IsLeast (numbers old) k → sees store old run → Holds s run → IsOfLeast (numbers old) s.doing → GoesSo store pass new k deeds run

    -- by one of the pass's numbers a partition was called that stopped
    pub record HasDown (store : S) (pass : P) (part : PartId) : Type 0 where
      pub run : List (Call E)
      pub seen : sees store pass run
      pub number : ℕ
      pub held : numbers pass number ≡ true
      pub call : HasStopped part (made_by number run)

    -- a fault that isn't want of memory is a partition's
    abbrev pub IsStopped : S → P → Fault → Type 0
    IsStopped store pass fault.NoMemory = ⊤
    IsStopped store pass (fault.Down part) = HasDown store pass part
