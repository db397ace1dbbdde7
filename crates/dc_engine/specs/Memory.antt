-- The calls of an object in memory, of which those on a list fail.
use Rattle.std.specs.Prelude.{ℕ, ◌+◌, ◌-◌, ◌^◌, Bool, ◌==◌, ◌&&◌, not, List, length, min}
use Rattle.std.specs.List.{list_any}

-- one more, up to the end of a count
abbrev pub counted : ℕ → ℕ
counted n = min (n + 1) (2 ^ 64 - 1)

-- whether the call after so many others is on the list
abbrev pub is_listed : List ℕ → ℕ → Bool
is_listed failing made = list_any (λ call. call == counted made) failing

-- whether there is no room for a byte of a piece that isn't empty
abbrev pub is_full : ℕ → List ℕ → List ℕ → Bool
is_full room held piece = (room - length held == 0) && not (length piece == 0)

-- the calls of an object in memory: how many were made, which are to fail by their numbers, and how many failed
pub record CallCounts : Type 0 where
  pub made : ℕ
  pub failing : List ℕ
  pub failed : ℕ

-- a source in memory: the bytes that are left, and its calls
pub record SliceState : Type 0 where
  pub left : List ℕ
  pub calls : CallCounts

-- a sink in memory: the bytes that it holds, how many it has room for, and its calls
pub record SinkState : Type 0 where
  pub held : List ℕ
  pub room : ℕ
  pub calls : CallCounts
