-- Parts of traces.
use Rattle.std.specs.Prelude.{◌≡◌, ℕ, ◌<◌, ◌≤◌, List, [], ◌∷◌, ◌++◌, length, true, false, ⊤}
use mathlib.Core.Option.{some}
use lib.ListN.{get_elem?}
use Rattle.seat_rule.specs.declared.view.Noted.{Noted}
use Rattle.seat_rule.specs.declared.view.Past.{Past}
use Rattle.seat_rule.specs.declared.view.View.{View}
use Rattle.seat_rule.specs.Lists.{has, cite, at, total, put}

module _ {T : Type 0} where
  abbrev pub IsPrefix : List (Noted T) → List (Noted T) → Type 0
  IsPrefix xs ys = (rest : List (Noted T)) × (xs ++ rest ≡ ys)

  -- none of these steps bears one of the numbers
  abbrev pub NoneBears : List ℕ → List (Noted T) → Type 0
  NoneBears numbers [] = ⊤
  NoneBears numbers (e ∷ es) = (has numbers e.by ≡ false) × NoneBears numbers es

  -- each bears a number below this one
  abbrev pub AllBelow : ℕ → List (Noted T) → Type 0
  AllBelow count [] = ⊤
  AllBelow count (e ∷ es) = (e.by < count) × AllBelow count es

  -- the first is a front of the second, and what is behind it bears none of these numbers
  abbrev pub Knows : List ℕ → List (Noted T) → List (Noted T) → Type 0
  Knows numbers xs ys = (rest : List (Noted T)) × (xs ++ rest ≡ ys) × NoneBears numbers rest

  -- this past is a part of these lists: what it lacks bears none of its numbers, and it lacks nothing of what it writes
  pub record Within (p : Past T) (lists : List (List (Noted T))) : Type 0 where
    pub knows : (q : ℕ) → Knows p.numbers (at p.lists q) (at lists q)
    pub whole : (q : ℕ) → has p.writes q ≡ true → at p.lists q ≡ at lists q

  -- each step here cites no more than stands here
  abbrev pub IsClosed : List (List (Noted T)) → Type 0
  IsClosed lists = (p i : ℕ) (e : Noted T) → get_elem? (at lists p) i ≡ some e → (r : ℕ) → cite e.cites r ≤ length (at lists r)

  -- no stamp exceeds the number of steps
  abbrev pub IsStamped : List (List (Noted T)) → Type 0
  IsStamped lists = (p i : ℕ) (e : Noted T) → get_elem? (at lists p) i ≡ some e → e.stamp ≤ total lists

  -- of each trace a front, and with each step all that it cites
  pub record IsPartOf (lists : List (List (Noted T))) (logs : ℕ → List (Noted T)) : Type 0 where
    pub fronts : (q : ℕ) → IsPrefix (at lists q) (logs q)
    pub closed : IsClosed lists

  -- how a view was put together
  pub record IsPut (v : View T) : Type 0 where
    pub closed : IsClosed v.past.lists
    pub stamped : IsStamped v.past.lists
    pub was : Within v.was v.past.lists
    pub was_closed : IsClosed v.was.lists
    pub met : Within v.met v.past.lists
    pub met_closed : IsClosed v.met.lists

  -- each number that is held here, and each that a step bears which was seen, was drawn
  pub record AreDrawn (v : View T) : Type 0 where
    pub held : (k : ℕ) → has v.past.numbers k ≡ true → k < v.drawn
    pub borne : (p : ℕ) → AllBelow v.drawn (at v.past.lists p)

  -- with a step of p more
  abbrev pub with_note : (ℕ → List (Noted T)) → ℕ → Noted T → ℕ → List (Noted T)
  with_note logs p e = put logs p (logs p ++ e ∷ [])
