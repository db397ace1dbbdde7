-- What a partition asks of a message that it takes, and what it makes of its parts.
use Rattle.std.specs.Prelude.{◌≡◌, ℕ, ◌+◌, ◌≤◌, Bool, true, false, List, [], ◌∷◌, length, Option, None, Some, ⊤}
use Rattle.std.specs.List.{list_all}
use Rattle.site_vector.specs.declared.ids.TxId.{TxId}
use Rattle.crdt_core.specs.declared.record.Part.{Part}
use Rattle.crdt_core.specs.Orders.{insert_by, fold_cmp}
use Rattle.crdt_core.specs.Parts.{lists}
use Rattle.log_records.specs.Updates.{has_some}
use Rattle.effect_store.specs.Stored.{Stored}

-- no two parts are of one transaction
abbrev pub AreApart : {E : Type 0} → List (Part E) → Type 0
AreApart [] = ⊤
AreApart (x ∷ xs) = (lists xs x.tx ≡ false) × AreApart xs

-- these parts were put into the others, each in its place
abbrev pub inserted : {E : Type 0} → List (Part E) → List (Part E) → List (Part E)
inserted [] held = held
inserted (x ∷ xs) held = insert_by fold_cmp x (inserted xs held)

-- each commit vector has an entry for each site
abbrev pub AreWideParts : {E : Type 0} → ℕ → List (Part E) → Type 0
AreWideParts sites [] = ⊤
AreWideParts sites (x ∷ xs) = (length x.c ≡ sites) × AreWideParts sites xs

-- each part has an update
abbrev pub have_updates : {E : Type 0} → List (Part E) → Bool
have_updates xs = list_all (λ x. has_some x.updates) xs

-- how many updates there are
abbrev pub updates_in : {E : Type 0} → List (Part E) → ℕ
updates_in [] = 0
updates_in (x ∷ xs) = length x.updates + updates_in xs

-- the store can take these parts without memory, and holds none of them
pub record CanPut {E : Type 0} (parts : List (Part E)) (store : Stored E) : Type 0 where
  pub room : length parts ≤ store.room
  pub update_room : updates_in parts ≤ store.update_room
  pub apart : AreApart parts
  pub fresh : (u : TxId) → lists parts u ≡ true → lists store.parts u ≡ false
  pub wide : AreWideParts store.sites parts

-- where a message starts: at what is asked, or else at the end of the last one
abbrev pub start_of : Option ℕ → ℕ → ℕ
start_of None last = last
start_of (Some n) last = n
