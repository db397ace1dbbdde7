-- How many partitions a table has.
use Rattle.std.specs.Prelude.{ℕ, ◌*◌}
use Rattle.seat_rule.specs.declared.rule.Size.{Size}

abbrev pub places : Size → ℕ
places k = k.sites * k.parts

abbrev pub size : ℕ → ℕ → Size
size sites parts = record { sites = sites; parts = parts }
