-- What many clients come to, each by a number of its own.
use Rattle.std.specs.Prelude.{◌≡◌, ◌≤◌, ◌<◌, ◌+◌, ◌||◌, ℕ, Bool, true, false, List, [], ◌∷◌, length, Result, Ok, Err, ⊤}
use Rattle.site_vector.specs.declared.ids.TxId.{TxId}
use Rattle.txn_session.specs.Calls.{Call, Stays}
use Rattle.txn_session.specs.Numbers.{IsNew, made_by}
use Rattle.txn_session.specs.Passes.{SeesStill, IsUnborne}
use Rattle.client_pool.specs.declared.fault.Fault.{Fault}
use Rattle.client_pool.specs.declared.plan.Plan.{Plan}
use Rattle.client_pool.specs.Rows.{Row, AreRows}
use Rattle.client_pool.specs.Works.{load_done}

-- client i made all its transactions by this row's number
pub record IsLoad (plan : Plan) (i : ℕ) (row : Row) : Type 0 where
  pub ids : List TxId
  pub made : length ids ≡ plan.txns
  pub done : row.done ≡ load_done plan i ids

-- one row for each client from i on
abbrev pub AreLoads : Plan → ℕ → List Row → Type 0
AreLoads plan i [] = plan.clients < i
AreLoads plan i (row ∷ rows) = (i ≤ plan.clients) × IsLoad plan i row × AreLoads plan (i + 1) rows

-- none of these rows has one of the numbers
abbrev pub AreNew : (ℕ → Bool) → List Row → Type 0
AreNew numbers [] = ⊤
AreNew numbers (row ∷ rows) = (numbers row.number ≡ false) × AreNew numbers rows

-- the first fault of two
abbrev pub first_fault : Result (Unit {0}) Fault → Result (Unit {0}) Fault → Result (Unit {0}) Fault
first_fault (Ok u) other = other
first_fault (Err fault) other = Err fault

module _ {E S P : Type 0} (sees : S → P → List (Call E) → Type 0) (numbers : P → ℕ → Bool) where
  -- two passes in place of one: the second has a new number, which nothing that it has seen bears
  pub record IsSplit (store : S) (pass rest own : P) : Type 0 where
    pub same : (n : ℕ) → numbers rest n ≡ numbers pass n
    pub stays : (run : List (Call E)) → sees store pass run → Stays sees numbers store rest run
    pub is_new : IsNew (numbers pass) (numbers own)
    pub still : (run : List (Call E)) → sees store pass run → SeesStill sees (numbers pass) store own run
    pub unborne : IsUnborne sees (numbers own) store own

  -- one pass in place of two
  pub record IsMet (store : S) (first second met : P) : Type 0 where
    pub both : (n : ℕ) → numbers met n ≡ (numbers first n || numbers second n)
    pub one : (run : List (Call E)) → sees store first run → SeesStill sees (numbers first) store met run
    pub other : (run : List (Call E)) → sees store second run → SeesStill sees (numbers second) store met run

  -- clients made their transactions by new numbers, and no call more bears one of the old pass's
  pub record Crowd (store : S) (old pass : P) (plan : Plan) (i : ℕ) (run : List (Call E)) : Type 0 where
    pub clients : List Row
    pub loads : AreLoads plan i clients
    pub apart : AreNew (numbers old) clients
    pub whole : List (Call E)
    pub same : (n : ℕ) → numbers old n ≡ true → made_by n whole ≡ made_by n run
    pub seen : sees store pass whole
    pub stand : AreRows (numbers pass) whole clients

  -- so it is after whatever run the old pass had seen
  abbrev pub HasCrowd : S → P → P → Plan → ℕ → Type 0
  HasCrowd store old pass plan i = (run : List (Call E)) → sees store old run → Crowd store old pass plan i run
