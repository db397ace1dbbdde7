-- Places and transactions as they are printed.
use Rattle.std.specs.Prelude.{ℕ, List, ◌∷◌, ◌++◌}
use Rattle.std.specs.Fmt.{decimal}
use Rattle.site_vector.specs.declared.ids.PartId.{PartId}
use Rattle.site_vector.specs.declared.ids.TxId.{TxId}

-- the site, a full stop, the partition
abbrev pub part_text : PartId → List ℕ
part_text p = decimal p.site ++ 46 ∷ decimal p.part

-- the partition, a number sign, the time
abbrev pub tx_text : TxId → List ℕ
tx_text t = decimal t.site ++ 46 ∷ (decimal t.part ++ 35 ∷ decimal t.time)
