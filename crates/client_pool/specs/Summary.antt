-- What a storm's summary is, by its words alone.
use Rattle.std.specs.Prelude.{◌≡◌, ℕ, ◌+◌, ◌*◌, zero, suc, List, [], ◌∷◌, ◌++◌, length, map, replicate, ℤ, pos, neg_ℤ, ◌+ℤ◌}
use Rattle.std.specs.List.{range_with_len}
use Rattle.crdt_core.specs.Texts.{ascending}
use Rattle.client_pool.specs.declared.plan.Plan.{Plan}
use Rattle.client_pool.specs.declared.summary.SiteSum.{SiteSum}
use Rattle.client_pool.specs.declared.summary.Summary.{Summary}
use Rattle.client_pool.specs.Load.{session_name, counter, clients}
use Rattle.client_pool.specs.Changes.{Change, value_of, names_in, counters_of, times, AreLoads, AreTheirs}

-- the counters that the transactions of all clients increment, from client i on
abbrev pub all_counters : ℕ → ℕ → ℕ → ℕ → List ℕ
all_counters number txns i zero = []
all_counters number txns i (suc count) = counters_of number i txns ++ all_counters number txns (i + 1) count

abbrev pub counters : Plan → List ℕ
counters plan = all_counters plan.number plan.txns 1 plan.clients

-- what counter m comes to where these are incremented, each by one more than its number, and the next one decremented by as much
abbrev pub closed : ℕ → List ℕ → ℤ
closed zero ms = pos (times 0 ms) +ℤ neg_ℤ (pos (8 * times 7 ms))
closed (suc m) ms = pos ((suc m + 1) * times (suc m) ms) +ℤ neg_ℤ (pos (suc m * times m ms))

-- the eight counters
abbrev pub eight : List ℕ
eight = 0 ∷ 1 ∷ 2 ∷ 3 ∷ 4 ∷ 5 ∷ 6 ∷ 7 ∷ []

-- what every site reads at the end
abbrev pub site_sum : Plan → SiteSum
site_sum plan = record { counters = map (λ c. closed c (counters plan)) eight; names = ascending (map session_name (range_with_len 1 plan.clients)) }

abbrev pub summary_of : Plan → Summary
summary_of plan = record { commits = plan.clients * plan.txns; sites = replicate plan.sites (site_sum plan) }

-- whatever the order in which the clients' updates stand, the counters are what the words say
abbrev pub ClosedForm : Type 0
ClosedForm = (plan : Plan) (numbers : List ℕ) (run : List Change) → length numbers ≡ plan.clients → AreTheirs numbers run → AreLoads plan.number plan.txns 1 numbers run
    → map (λ c. value_of (counter c) run) eight ≡ (site_sum plan).counters

-- and so are the names
abbrev pub AllNames : Type 0
AllNames = (plan : Plan) (numbers : List ℕ) (run : List Change) → length numbers ≡ plan.clients → AreTheirs numbers run → AreLoads plan.number plan.txns 1 numbers run
    → names_in clients run ≡ (site_sum plan).names
