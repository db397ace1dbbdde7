-- Places and transactions as a script spells them.
use Rattle.std.specs.Prelude.{ℕ, ◌+◌, ◌-◌, ◌^◌, ◌==◌, List, [], ◌∷◌, Option, None, option_map, option_and_then, take, drop, if◌then◌else◌}
use Rattle.std.specs.List.{position}
use Rattle.site_vector.specs.declared.ids.PartId.{PartId}
use Rattle.site_vector.specs.declared.ids.TxId.{TxId}
use Rattle.script_text.specs.Numbers.{numeral, ranged}

abbrev pub below_2_48 : ℕ
below_2_48 = 2 ^ 48 - 1

-- what stands before the first such byte, and what after it
abbrev pub cut_at : ℕ → List ℕ → Option (List ℕ × List ℕ)
cut_at b w = option_map (λ i. (take i w, drop (i + 1) w)) (position (λ c. c == b) w)

abbrev pub place : ℕ → ℕ → PartId
place s p = record { site = s; part = p }

abbrev pub began_at : PartId → ℕ → TxId
began_at p n = record { site = p.site; part = p.part; time = n }

-- a number, as 1000
abbrev pub number : List ℕ → Option ℕ
number w = numeral below_2_48 w

-- a time, at most 2^62
abbrev pub time : List ℕ → Option ℕ
time w = numeral (2 ^ 62) w

-- a site, from 1 to 8
abbrev pub site : List ℕ → Option ℕ
site w = ranged 1 8 w

-- a place, as 1.2
abbrev pub part : List ℕ → Option PartId
part w = option_and_then (λ c. option_and_then (λ s. option_map (λ p. place s p) (ranged 1 16 c.1)) (ranged 1 8 c.0)) (cut_at 46 w)

-- a transaction, as 1.2#101
abbrev pub tx : List ℕ → Option TxId
tx w = option_and_then (λ c. option_and_then (λ p. option_map (λ n. began_at p n) (time c.1)) (part c.0)) (cut_at 35 w)

-- a message or report: the letter and its number
abbrev pub numbered : ℕ → List ℕ → Option ℕ
numbered letter [] = None
numbered letter (c ∷ w) = if c == letter then number w else None
