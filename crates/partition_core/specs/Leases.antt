-- What a lease makes of a ceiling, and of the tables.
use Rattle.std.specs.Prelude.{ℕ, ◌+◌, min, leb, if◌then◌else◌, List, [], ◌∷◌, Option, None, Some}
use Rattle.crdt_core.specs.declared.record.Record.{Record}
use Rattle.crdt_core.specs.declared.record.Record.TheVariants.{Lease}
use Rattle.crdt_core.specs.Log.{end_of_time}
use Rattle.partition_core.specs.Tables.{Tables}

-- the ceiling once the clock shows n: a lease is taken where n is above it
abbrev pub leased : ℕ → ℕ → ℕ
leased ceiling n = if leb n ceiling then ceiling else min (n + 1000) end_of_time

-- the ceiling of the lease that is taken, if one is
abbrev pub wanted : ℕ → ℕ → Option ℕ
wanted ceiling n = if leb n ceiling then None else Some (min (n + 1000) end_of_time)

module _ {E : Type 0} where
  -- its record
  abbrev pub lease_at : ℕ → ℕ → List (Record E)
  lease_at ceiling n = if leb n ceiling then [] else Lease (min (n + 1000) end_of_time) ∷ []

  -- the same tables with another clock
  abbrev pub at_time : Tables E → ℕ → ℕ → Tables E
  at_time t n c = record { id = t.id; sites = t.sites; parts = t.parts; clock = n; ceiling = c; pending = t.pending; held = t.held; bounds = t.bounds; heard = t.heard; sent = t.sent }

  -- once the clock shows n
  abbrev pub showing : Tables E → ℕ → Tables E
  showing t n = at_time t n (leased t.ceiling n)
