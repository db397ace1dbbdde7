-- What seats have seen and may do, and what steps make of it.
use Rattle.std.specs.Prelude.{◌≡◌, ℕ, ◌+◌, List, [], ◌∷◌, ◌++◌, max}
use Rattle.seat_rule.specs.declared.view.Noted.{Noted}
use Rattle.seat_rule.specs.declared.view.Past.{Past}
use Rattle.seat_rule.specs.declared.view.View.{View}
use Rattle.seat_rule.specs.Lists.{grown, longest, down_from, front_of, behind}

module _ {T : Type 0} where
  abbrev pub past : List (List (Noted T)) → List ℕ → List ℕ → Past T
  past lists numbers writes = record { lists = lists; numbers = numbers; writes = writes }

  -- put together from nothing else
  abbrev pub settled : Past T → ℕ → View T
  settled p drawn = record { past = p; drawn = drawn; was = p; met = p }

  -- it writes nothing
  abbrev pub reader : List (List (Noted T)) → List ℕ → View T
  reader lists numbers = settled (past lists numbers []) 0

  -- without its numbers
  abbrev pub without : View T → View T
  without v = settled (past v.past.lists [] v.past.writes) v.drawn

  -- a step of p more
  abbrev pub noting : View T → ℕ → Noted T → View T
  noting v p e = settled (past (grown v.past.lists p e) v.past.numbers v.past.writes) v.drawn

  -- a step of p like this was noted, and nothing else changed
  pub record IsNoted {A : Type 0} (like : Noted T → Type 0) (p : ℕ) (v w : View T × A) : Type 0 where
    pub note : Noted T
    pub is : like note
    pub added : w ≡ (noting v.0 p note, v.1)

  -- a number more
  abbrev pub taken : View T → View T
  taken v = settled (past v.past.lists (v.drawn ∷ v.past.numbers) v.past.writes) (v.drawn + 1)

  -- of all that it writes the first alone
  abbrev pub first_writer : View T → View T
  first_writer v = settled (past v.past.lists [] (front_of v.past.writes)) v.drawn

  -- the others
  abbrev pub other_writer : View T → View T
  other_writer v = settled (past v.past.lists v.past.numbers (behind v.past.writes)) v.drawn

  -- of two views one, which keeps the two pasts
  abbrev pub both : View T → View T → View T
  both v w = record {
    past = past (longest v.past.lists w.past.lists) (v.past.numbers ++ w.past.numbers) (v.past.writes ++ w.past.writes);
    drawn = max v.drawn w.drawn;
    was = v.past;
    met = w.past;
  }

  -- of a seat that was put together with another
  abbrev pub spent : View T
  spent = reader [] []

  -- the first seat writes each trace, and draws the numbers
  abbrev pub opened : ℕ → View T
  opened parts = settled (past [] [] (down_from parts)) 0
