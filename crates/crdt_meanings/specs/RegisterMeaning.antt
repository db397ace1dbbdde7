-- What registers mean.
use Rattle.std.specs.Prelude.{ℕ, Bool, not, ◌&&◌, List, [], ◌∷◌, Option, Some, None, unwrap_or, map, filter}
use Rattle.std.specs.List.{list_any}
use Rattle.crdt_core.specs.declared.kind.Kind.{Kind}
use Rattle.crdt_core.specs.declared.operation.Act.{Act}
use Rattle.crdt_core.specs.declared.operation.Act.TheVariants.{Assign}
use Rattle.crdt_core.specs.declared.value.Value.{Value}
use Rattle.crdt_core.specs.declared.value.Value.TheVariants.{Word, Words}
use Rattle.site_vector.specs.declared.ids.Dot.{Dot}
use Rattle.crdt_core.specs.Seen.{Update, sees, is_assign}
use Rattle.crdt_core.specs.Wins.{lives}
use Rattle.crdt_meanings.specs.Later.{later}
use Rattle.crdt_meanings.specs.Sorted.{sorted}
use Rattle.crdt_meanings.specs.declared.registers.Stamped.{Stamped}

abbrev pub text_of : Act → List ℕ
text_of (Assign x) = x
text_of _ = []

abbrev pub assigned : ℕ → Dot → Act → Option Stamped
assigned n d (Assign x) = Some (record { stamp = n; dot = d; text = x })
assigned n d _ = None

-- the assign with the greatest stamp, then the greatest dot
abbrev pub last_assign : List Update → Option Stamped
last_assign [] = None
last_assign (u ∷ us) = later (assigned (unwrap_or u.stamp 0) u.dot u.act) (last_assign us)

abbrev pub word_of : Option Stamped → Value
word_of None = Word []
word_of (Some a) = Word a.text

abbrev pub lww_meaning : Kind → List Update → Value
lww_meaning k us = word_of (last_assign us)

-- a live assign that no live assign has seen
abbrev pub remains : List Update → Update → Bool
remains us u = lives is_assign us u && not (list_any (λ v. lives is_assign us v && sees v u.dot) us)

-- the texts of these assigns, in order, equal ones kept
abbrev pub mv_meaning : Kind → List Update → Value
mv_meaning k us = Words (sorted (map (λ u. text_of u.act) (filter (remains us) us)))
