-- Where the spelling of an update stands in bytes, and which updates an effect names.
use Rattle.std.specs.Prelude.{◌≡◌, ℕ, Bool, true, List, ◌++◌}
use Rattle.std.specs.List.{list_any}
use Rattle.site_vector.specs.declared.ids.Dot.{Dot}
use Rattle.crdt_core.specs.DotSet.{has_dot}
use Rattle.crdt_core.specs.Spelled.{dot}

-- it is a part of them
pub record LiesIn (d : Dot) (bytes : List ℕ) : Type 0 where
  pub front : List ℕ
  pub back : List ℕ
  pub whole : bytes ≡ front ++ (dot d ++ back)

-- one of the sets has the update
abbrev pub have_update : List (List Dot) → Dot → Bool
have_update sets d = list_any (λ ds. has_dot ds d) sets

-- An effect names exactly the members of the sets in its bytes, and each of these stands there.
pub record NamesAreSpelled {E : Type 0} (can_put : E → Bool) (names : E → Dot → Bool) (sets : E → List (List Dot)) (spelling : E → List ℕ) : Type 0 where
  pub exact : (e : E) (d : Dot) → can_put e ≡ true → names e d ≡ have_update (sets e) d
  pub lies : (e : E) (d : Dot) → can_put e ≡ true → names e d ≡ true → LiesIn d (spelling e)
