-- Kinds without stamps, and kinds that keep no update's dot.
use Rattle.std.specs.Prelude.{ℕ, Bool, false, Option, None}
use Rattle.site_vector.specs.declared.ids.Dot.{Dot}

abbrev pub no_stamp : {E : Type 0} → E → Option ℕ
no_stamp e = None

-- no dot stands in it
abbrev pub no_dot : {A : Type 0} → A → Dot → Bool
no_dot a d = false
