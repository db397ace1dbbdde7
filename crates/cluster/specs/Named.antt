-- Values by their names, as contracts see them.
use Rattle.std.specs.Prelude.{◌≡◌, ℕ, true, List, length, Some, is_some, if◌then◌else◌}
use Rattle.std.specs.Map.{lookup, set_value}
use Rattle.std.specs.Str.{bytes_eq}

pub record Named (V : Type 0) : Type 0 where
  pub entries : List (List ℕ × V)

-- v is written at a name: if it is there, its value alone is changed
abbrev pub IsWritten : {V : Type 0} → List (List ℕ × V) → List ℕ → V → List (List ℕ × V) → Type 0
IsWritten old name v new = (new ≡ set_value (bytes_eq name) old v) × (length new ≡ length old) × (is_some (lookup (bytes_eq name) old) ≡ true → (who : List ℕ) → lookup (bytes_eq who) new ≡ (if bytes_eq name who then Some v else lookup (bytes_eq who) old))
