use Rattle.std.proofs.Common.{refl, arith}
use Rattle.std.proofs.lemmas.Int.{ints}
use Rattle.crdt_meanings.proofs.laws.law_amounts.Goals as goal

pub returns : goal.returns
returns c = record { up = λ n. refl; down = λ n. omega (arith, ints) }
