-- How values are spelled as bytes.
use Rattle.std.specs.Prelude.{◌≡◌, ℕ, ◌+◌, ◌^◌, ◌≤◌, Bool, true, ◌&&◌, nat_lt, nat_le, List, [], ◌∷◌, ◌++◌, length, take, drop, Option, Some, None}
use Rattle.std.specs.List.{flat_map, list_all}
use Rattle.std.specs.Str.{is_utf8}
use Rattle.std.specs.Ordering.{is_lt}
use Rattle.std.specs.declared.cmp.Ordering.{Ordering}
use Rattle.byteorder.specs.Endian.{big_bytes}

-- a number in n bytes, the highest first
abbrev pub number : ℕ → ℕ → List ℕ
number n x = big_bytes n x

abbrev pub is_number : ℕ → ℕ → Bool
is_number n x = nat_lt x (256 ^ n)

-- the length in two bytes, and the bytes
abbrev pub text : List ℕ → List ℕ
text t = number 2 (length t) ++ t

abbrev pub is_text : List ℕ → Bool
is_text t = nat_le (length t) 256 && is_utf8 t

-- the count in four bytes, and the members
abbrev pub list : {V : Type 0} → (V → List ℕ) → List V → List ℕ
list spelling vs = number 4 (length vs) ++ flat_map spelling vs

-- whether a member may come next, after this one or as the first
abbrev pub may_follow : {V : Type 0} → (V → V → Bool) → Option V → V → Bool
may_follow follows None v = true
may_follow follows (Some before) v = follows before v

-- each member may follow the one before it
abbrev pub are_in_order : {V : Type 0} → (V → V → Bool) → Option V → List V → Bool
are_in_order follows before [] = true
are_in_order follows before (v ∷ vs) = may_follow follows before v && are_in_order follows (Some v) vs

-- members that satisfy the test, in order
abbrev pub are_members : {V : Type 0} → (V → V → Bool) → (V → Bool) → List V → Bool
are_members follows test vs = are_in_order follows None vs && list_all test vs

-- the same, and few enough to be counted in four bytes
abbrev pub is_list : {V : Type 0} → (V → V → Bool) → (V → Bool) → List V → Bool
is_list follows test vs = is_number 4 (length vs) && are_members follows test vs

-- the test of an ascending list
abbrev pub is_below : {V : Type 0} → (V → V → Ordering) → V → V → Bool
is_below order v w = is_lt (order v w)

-- these bytes stand from the one place up to the other
pub record Spans (bytes : List ℕ) (at : ℕ) (spelling : List ℕ) (end : ℕ) : Type 0 where
  pub lies : drop at bytes ≡ spelling ++ drop end bytes
  pub long : end ≡ at + length spelling
  pub within : end ≤ length bytes

-- what was there stands at the front still
pub record Keeps (old new : List ℕ) : Type 0 where
  pub front : take (length old) new ≡ old

abbrev pub last_of : {V : Type 0} → List V → Option V
last_of [] = None
last_of (v ∷ []) = Some v
last_of (v ∷ w ∷ vs) = last_of (w ∷ vs)
