-- What the links of a store tell: of each update the next of its tag in fold order, and the one before.
use Rattle.std.specs.Prelude.{◌≡◌, ℕ, ◌+◌, ◌≤◌, min, List, [], length, Option, Some, None, nat_eq, vec_len, vec_capacity}
use Rattle.std.specs.List.{slice_get}
use Rattle.std.specs.HashMap.{get, spare}
use Rattle.site_vector.specs.Vector.{sum}
use Rattle.crdt_core.specs.declared.record.Upd.{Upd}
use Rattle.crdt_core.specs.declared.record.Part.{Part}
use Rattle.effect_store.specs.declared.links.Entry.{Entry}
use Rattle.effect_store.specs.declared.links.Links.{Links}
use Rattle.effect_store.specs.Chains.{none, IsChain, IsApart}
use Rattle.effect_store.specs.Spots.{Spot, tag_of, before, later}

abbrev pub or_none : Option ℕ → ℕ
or_none None = none
or_none (Some k) = k

-- a sum as far as 64 bits go
abbrev pub capped : ℕ → ℕ
capped n = min n 18446744073709551615

module _ {E : Type 0} where
  abbrev pub spot : Part E → ℕ → Upd E → Spot E
  spot p n u = record { part = p; at = n; update = u }

  -- the entry at a place names the update, and has the sum of its part's commit vector as far as 64 bits go
  pub record IsEntry (parts : List (Part E)) (entries : List Entry) (k : ℕ) (x : Spot E) : Type 0 where
    pub entry : Entry
    pub there : slice_get entries k ≡ Some entry
    pub part : slice_get parts entry.part ≡ Some x.part
    pub at : entry.at ≡ x.at
    pub update : slice_get x.part.updates x.at ≡ Some x.update
    pub total : entry.total ≡ capped (sum x.part.c)

  -- the updates xs have entries, and their links tell of each the next and the one before
  pub record IsLinked (xs : List (Spot E)) (parts : List (Part E)) (entries : List Entry) (next back : List ℕ) (first last : ℕ → Option ℕ) : Type 0 where
    pub located : (k : ℕ) (x : Spot E) → slice_get xs k ≡ Some x → IsEntry parts entries k x
    pub many : length entries ≡ length xs
    pub apart : IsApart before xs
    pub ahead : IsChain tag_of before xs next (λ i. or_none (first i))
    pub behind : IsChain tag_of later xs back (λ i. or_none (last i))
    pub next_long : length next ≡ length xs
    pub back_long : length back ≡ length xs

  abbrev pub AreLinks : List (Spot E) → List (Part E) → Links → Type 0
  AreLinks xs parts l = IsLinked xs parts l.entries.items l.next.items l.back.items (get nat_eq l.first) (get nat_eq l.last)

-- nothing is linked
pub record AreNone (l : Links) : Type 0 where
  pub entries : l.entries.items ≡ []
  pub next : l.next.items ≡ []
  pub back : l.back.items ≡ []
  pub first : (i : ℕ) → get nat_eq l.first i ≡ None
  pub last : (i : ℕ) → get nat_eq l.last i ≡ None

-- the same links, in other memory
pub record AreSame (old new : Links) : Type 0 where
  pub entries : new.entries.items ≡ old.entries.items
  pub next : new.next.items ≡ old.next.items
  pub back : new.back.items ≡ old.back.items
  pub first : (i : ℕ) → get nat_eq new.first i ≡ get nat_eq old.first i
  pub last : (i : ℕ) → get nat_eq new.last i ≡ get nat_eq old.last i

-- room for so many more updates, whatever objects they are of
pub record Roomy (l : Links) (n : ℕ) : Type 0 where
  pub small : vec_len l.entries + n ≤ none
  pub of_entries : vec_len l.entries + n ≤ vec_capacity l.entries
  pub of_next : vec_len l.next + n ≤ vec_capacity l.next
  pub of_back : vec_len l.back + n ≤ vec_capacity l.back
  pub of_first : n ≤ spare l.first
  pub of_last : n ≤ spare l.last
