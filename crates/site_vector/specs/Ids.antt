-- When two places, transactions or updates are one.
use Rattle.std.specs.Prelude.{Bool, ◌&&◌, ◌==◌}
use Rattle.site_vector.specs.declared.ids.PartId.{PartId}
use Rattle.site_vector.specs.declared.ids.TxId.{TxId}
use Rattle.site_vector.specs.declared.ids.Dot.{Dot}

abbrev pub same_part : PartId → PartId → Bool
same_part p q = p.site == q.site && p.part == q.part

abbrev pub same_tx : TxId → TxId → Bool
same_tx t u = t.site == u.site && (t.part == u.part && t.time == u.time)

abbrev pub same_dot : Dot → Dot → Bool
same_dot d e = same_tx d.tx e.tx && d.index == e.index
