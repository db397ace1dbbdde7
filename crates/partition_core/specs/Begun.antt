-- The tables that a begin leaves, by what it answers.
use Rattle.std.specs.Prelude.{List, ℕ, Result, Ok, Err}
use Rattle.site_vector.specs.declared.ids.TxId.{TxId}
use Rattle.partition_core.specs.declared.answers.Refusal.{Refusal}
use Rattle.partition_core.specs.Leases.{showing}
use Rattle.partition_core.specs.Tables.{Tables}

abbrev pub begun : {E : Type 0} → Tables E → Result (TxId × List ℕ) Refusal → Tables E
begun t (Ok x) = showing t x.0.time
begun t (Err why) = t
