-- The work of a transaction, and what it does.
use Rattle.std.specs.Prelude.{◌≡◌, ℕ, Bool, ◌+◌, ◌==◌, List, [], ◌∷◌, ◌++◌, map, filter, length}
use Rattle.std.specs.List.{list_any}
use Rattle.site_vector.specs.declared.ids.PartId.{PartId}
use Rattle.site_vector.specs.declared.ids.TxId.{TxId}
use Rattle.crdt_core.specs.declared.object.ObjectId.{ObjectId}
use Rattle.crdt_core.specs.declared.record.Upd.{Upd}
use Rattle.crdt_core.specs.Placing.{place_of}
use Rattle.txn_session.specs.Session.{Txn, Open, SessionState, numbers_from}
use Rattle.client_pool.specs.declared.plan.Plan.{Plan}
use Rattle.client_pool.specs.declared.work.Work.{Work}
use Rattle.client_pool.specs.Load.{site_of, first_part, counter_of, next_counter, session_name, counter, clients, incremented, decremented, added, whole}
use Rattle.client_pool.specs.Deeds.{Deed, Ticks, Begins, Reads, Updates}
use Rattle.txn_session.specs.Calls.{Call}
use Rattle.client_pool.specs.Coming.{IsSession, Came}
use Rattle.client_pool.specs.Commits.{place, committing_at}

-- of transaction j of client i
abbrev pub work_of : Plan → ℕ → ℕ → Work
work_of plan i j =
    let m = counter_of plan i j in
    record { first = counter m; second = counter (next_counter m); names = clients; increment = whole (incremented m); decrement = whole (decremented m); addition = whole (added i) }

-- the partitions where one of the objects lies, in ascending order
abbrev pub parts_with : ℕ → List ObjectId → List ℕ
parts_with parts os = filter (λ p. list_any (λ o. place_of o.bucket o.key parts == p) os) (numbers_from 1 parts)

module _ (tx : TxId) (w : Work) where
  -- its reads and its updates, the newest first
  abbrev pub both_read : List Deed
  both_read = Reads tx w.second ∷ Reads tx w.first ∷ []

  abbrev pub all_updated : List Deed
  all_updated = Updates tx w.names w.addition ∷ Updates tx w.second w.decrement ∷ Updates tx w.first w.increment ∷ []

abbrev pub objects_in : Work → List ObjectId
objects_in w = w.first ∷ w.second ∷ w.names ∷ []

-- the session has this transaction open, with an update of each of these objects
pub record HasOpen {E : Type 0} (s : SessionState E) (tx : TxId) (os : List ObjectId) : Type 0 where
  pub txn : Txn E
  pub opened : s.doing ≡ Open txn
  pub named : txn.tx ≡ tx
  pub objects : map (λ (u : Upd E). u.object) txn.updates ≡ os

-- the transaction with this work that begins there, the newest first
abbrev pub work_done : PartId → List ℕ → ℕ → TxId → Work → List Deed
work_done at name parts tx w = committing_at at.site tx (parts_with parts (objects_in w)) ++ (all_updated tx w ++ (both_read tx w ++ (Begins at name tx ∷ Ticks at ∷ [])))

module _ {E S P : Type 0} (sees : S → P → List (Call E) → Type 0) (numbers : P → ℕ → Bool) where
  -- a transaction began there, after a tick
  pub record HasStarted (store : S) (old : P) (s : SessionState E) (pass : P) (new : SessionState E) (at : PartId) : Type 0 where
    pub tx : TxId
    pub opened : HasOpen new tx []
    pub named : IsSession s new
    pub came : Came sees numbers store old s pass new (Begins at s.name tx ∷ Ticks at ∷ [])

module _ (plan : Plan) (i : ℕ) where
  -- transaction j of client i, the newest first
  abbrev pub txn_done : ℕ → TxId → List Deed
  txn_done j tx = work_done (place (site_of plan i) (first_part plan j)) (session_name i) plan.parts tx (work_of plan i j)

  -- the first transactions of client i, with these ids, the newest first
  abbrev pub load_done : List TxId → List Deed
  load_done [] = []
  load_done (tx ∷ ids) = txn_done (length ids + 1) tx ++ load_done ids
