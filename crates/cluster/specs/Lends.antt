-- What values by their names end as, once a `&mut` to one of them has ended.
use Rattle.std.specs.Prelude.{◌≡◌, ℕ, List, Option}
use Rattle.std.specs.Borrow.{Fml, RattleType, MutBor, LendsSo}
use Rattle.cluster.specs.Named.{Named, IsWritten}
use Rattle.cluster.specs.contracts.by_name.ByName.{the_row}

-- the name has the last value written through r, and at `None` all stay as they are
abbrev pub lends : (V : RattleType) → MutBor (Named V.Denot) → List ℕ → Option (MutBor V.Denot) → Fml
lends V m name r = LendsSo (the_row V) V m r (λ n w. IsWritten m.now.entries name w n.entries) (λ n. n ≡ m.now)
