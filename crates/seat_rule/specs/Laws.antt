-- What a law of traces has to keep, and what a seat hears of it.
use Rattle.std.specs.Prelude.{◌≡◌, ◌≤◌, ◌+◌, ℕ, List, true}
use Rattle.seat_rule.specs.declared.view.Noted.{Noted}
use Rattle.seat_rule.specs.declared.view.Past.{Past}
use Rattle.seat_rule.specs.declared.view.View.{View}
use Rattle.seat_rule.specs.Lists.{has, at, lens, total}
use Rattle.seat_rule.specs.Notes.{Knows, IsPartOf, IsPut, with_note}

module _ {T : Type 0} (law : (ℕ → List (Noted T)) → Type 0) where
  -- parts of lawful traces are lawful
  abbrev pub KeepsParts : Type 0
  KeepsParts = (lists : List (List (Noted T))) (logs : ℕ → List (Noted T)) → law logs → IsPartOf lists logs → law (at lists)

  -- lawful traces, of which this seat has seen so much, and all of p's, are lawful with this step of p
  abbrev pub MayAdd : Past T → ℕ → Noted T → Type 0
  MayAdd s p e = (logs : ℕ → List (Noted T)) → law logs → ((q : ℕ) → Knows s.numbers (at s.lists q) (logs q)) → at s.lists p ≡ logs p → law (with_note logs p e)

  -- a seat with this past may add some step of p like this: it bears a number of the seat's, and cites all that the seat has seen
  pub record MayNote (like : Noted T → Type 0) (s : Past T) (p : ℕ) : Type 0 where
    pub note : Noted T
    pub is : like note
    pub holder : has s.numbers note.by ≡ true
    pub cites : note.cites ≡ lens s.lists
    pub stamp : note.stamp ≤ total s.lists + 1
    pub may : MayAdd s p note

  -- what a look tells a seat of its view
  pub record Heard (v : View T) : Type 0 where
    pub lawful : law (at v.past.lists)
    pub is_put : IsPut v
