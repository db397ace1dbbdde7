-- Updates and parts whose ids can be spelled.
use Rattle.std.specs.Prelude.{Bool, ◌&&◌, List}
use Rattle.std.specs.List.{list_all}
use Rattle.crdt_core.specs.declared.record.Upd.{Upd}
use Rattle.crdt_core.specs.declared.record.Part.{Part}
use Rattle.crdt_core.specs.Spelled.{is_between, is_tx}

module _ {E : Type 0} where
  -- each of these updates has a number from 1 to 256
  abbrev pub are_numbered : List (Upd E) → Bool
  are_numbered us = list_all (λ u. is_between 1 256 u.index) us

  -- each of these parts is of a transaction that can be spelled, and its updates are numbered so
  abbrev pub have_ids : List (Part E) → Bool
  have_ids xs = list_all (λ x. is_tx x.tx && are_numbered x.updates) xs
