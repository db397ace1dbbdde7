-- Two acts against each other: one that adds and one that removes.
use Rattle.std.specs.Prelude.{Bool, not, ◌&&◌, ◌||◌, List}
use Rattle.std.specs.List.{list_any, list_all}
use Rattle.crdt_core.specs.declared.operation.Act.{Act}
use Rattle.crdt_core.specs.Seen.{Update, sees, is_live}

-- a live update with such an act
abbrev pub lives : (Act → Bool) → List Update → Update → Bool
lives acts us u = acts u.act && is_live us u

-- there is a live add that no live remove has seen
abbrev pub add_wins : (Act → Bool) → (Act → Bool) → List Update → Bool
add_wins adds removes us = list_any (λ a. lives adds us a && not (list_any (λ r. lives removes us r && sees r a.dot) us)) us

-- there is a live add, and a live add has seen each live remove
abbrev pub remove_wins : (Act → Bool) → (Act → Bool) → List Update → Bool
remove_wins adds removes us = list_any (lives adds us) us && list_all (λ r. not (lives removes us r) || list_any (λ a. lives adds us a && sees a r.dot) us) us
