-- The seat that draws numbers.
use Rattle.std.specs.Prelude.{◌≡◌, ℕ, List, [], true}
use Rattle.seat_rule.specs.declared.view.View.{View}
use Rattle.seat_rule.specs.Lists.{has}
use Rattle.partition_lock.specs.declared.told.Told.{Told}
use Rattle.partition_lock.specs.Passes.{IsStamp}

-- it writes the last word, has drawn so many, and holds none
pub record IsCounter {E : Type 0} (word drawn stamp : ℕ) (me : View (Told E) × List (ℕ × ℕ)) : Type 0 where
  pub writes : (q : ℕ) → has me.0.past.writes q ≡ true → q ≡ word
  pub here : has me.0.past.writes word ≡ true
  pub drawn_is : me.0.drawn ≡ drawn
  pub numbers : me.0.past.numbers ≡ []
  pub slots : me.1 ≡ []
  pub stamped : IsStamp me.0.past.lists stamp
