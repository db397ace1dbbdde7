-- The updates of a run, by their callers, and what they come to.
use Rattle.std.specs.Prelude.{◌≡◌, ℕ, ◌+◌, ◌==◌, zero, suc, List, [], ◌∷◌, ◌++◌, filter, ℤ, if◌then◌else◌, ⊤}
use Rattle.std.specs.List.{flat_map}
use Rattle.crdt_core.specs.declared.object.ObjectId.{ObjectId}
use Rattle.crdt_core.specs.declared.operation.Act.{Act}
use Rattle.crdt_core.specs.Objects.{same_object}
use Rattle.crdt_core.specs.Texts.{ascending}
use Rattle.crdt_meanings.specs.CounterMeaning.{amount, total_by}
use Rattle.crdt_meanings.specs.SetMeaning.{added_by}
use Rattle.client_pool.specs.Load.{counter_from, next_counter, counter, clients, incremented, decremented, added}

-- a decided update: by which caller, of which object, and what it does
pub record Change : Type 0 where
  pub by : ℕ
  pub object : ObjectId
  pub act : Act

abbrev pub change : ℕ → ObjectId → Act → Change
change by object act = record { by = by; object = object; act = act }

abbrev pub changes_to : ObjectId → List Change → List Change
changes_to o run = filter (λ u. same_object u.object o) run

-- what a counter comes to
abbrev pub value_of : ObjectId → List Change → ℤ
value_of o run = total_by (λ u. amount u.act) (changes_to o run)

-- the names that a set comes to
abbrev pub names_in : ObjectId → List Change → List (List ℕ)
names_in o run = ascending (flat_map (λ u. added_by u.act) (changes_to o run))

-- what a transaction of client i changes, the newest first
abbrev pub changes_of : ℕ → ℕ → ℕ → List Change
changes_of by i m = change by clients (added i) ∷ change by (counter (next_counter m)) (decremented m) ∷ change by (counter m) (incremented m) ∷ []

-- the counters of the first transactions of client i, the newest first, and what these change
abbrev pub counters_of : ℕ → ℕ → ℕ → List ℕ
counters_of number i zero = []
counters_of number i (suc j) = counter_from number i (suc j) ∷ counters_of number i j

abbrev pub load_of : ℕ → ℕ → List ℕ → List Change
load_of by i [] = []
load_of by i (m ∷ ms) = changes_of by i m ++ load_of by i ms

-- how often m is among these
abbrev pub times : ℕ → List ℕ → ℕ
times m [] = 0
times m (x ∷ xs) = (if x == m then 1 else 0) + times m xs

-- each caller is a client, from client i on: what bears its number in the run is the client's load
abbrev pub AreLoads : ℕ → ℕ → ℕ → List ℕ → List Change → Type 0
AreLoads number txns i [] run = ⊤
AreLoads number txns i (by ∷ numbers) run = (filter (λ u. u.by == by) run ≡ load_of by i (counters_of number i txns)) × AreLoads number txns (i + 1) numbers run

-- each change bears just one of these numbers
abbrev pub AreTheirs : List ℕ → List Change → Type 0
AreTheirs numbers [] = ⊤
AreTheirs numbers (u ∷ run) = (times u.by numbers ≡ 1) × AreTheirs numbers run
