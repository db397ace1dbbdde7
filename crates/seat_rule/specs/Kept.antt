-- The rule: what holds of the words and of all views, between any two steps.
use Rattle.std.specs.Prelude.{◌≡◌, ℕ, ◌+◌, ◌<◌, ◌≤◌, List, length, true, slice_index}
use mathlib.Core.Option.{some}
use lib.ListN.{get_elem?}
use Rattle.atomic_table.specs.Table.{State}
use Rattle.seat_rule.specs.declared.view.Noted.{Noted}
use Rattle.seat_rule.specs.declared.view.View.{View}
use Rattle.seat_rule.specs.Lists.{has, at}
use Rattle.seat_rule.specs.Notes.{AllBelow, Knows, IsPut}

module _ {T : Type 0} where
  -- what the rule says of the view of one seat, where these are the traces, so many numbers were drawn, and this is who writes each trace and who holds each number
  pub record Fits (n : ℕ) (logs : ℕ → List (Noted T)) (count : ℕ) (writer holder : ℕ → ℕ) (by : ℕ) (v : View T) : Type 0 where
    -- it has a front of each trace, and all that bears its numbers
    pub front : (p : ℕ) → Knows v.past.numbers (at v.past.lists p) (logs p)
    pub whole : (p : ℕ) → has v.past.writes p ≡ true → (by ≡ writer p) × (at v.past.lists p ≡ logs p)
    pub draws : has v.past.writes n ≡ true → v.drawn ≡ count
    pub most : v.drawn ≤ count
    pub holds : (k : ℕ) → has v.past.numbers k ≡ true → (by ≡ holder k) × (k < count)
    pub is_put : IsPut v

  -- each word is the length of a trace, the last one the count of numbers; of each trace there is one writer, of each number one holder
  pub record Kept (law : (ℕ → List (Noted T)) → Type 0) (n : ℕ) (s : State ℕ (View T)) : Type 0 where
    pub logs : ℕ → List (Noted T)
    pub lawful : law logs
    pub count : ℕ
    pub writer : ℕ → ℕ
    pub holder : ℕ → ℕ
    pub words : (p : ℕ) → p < n → slice_index s.words p ≡ length (logs p)
    pub last : slice_index s.words n ≡ count
    pub size : length s.words ≡ n + 1
    pub bears : (p : ℕ) → AllBelow count (logs p)
    pub each : (by : ℕ) (v : View T) → get_elem? s.views by ≡ some v → Fits n logs count writer holder by v
