-- Bytes that are to be one value and nothing behind it: the value, or the place where they are damaged.
use Rattle.std.specs.Prelude.{◌≡◌, ◌≢◌, ◌⊎◌, ◌↔◌, ℕ, ◌<◌, ◌==◌, Bool, true, List, length, take, Result, Ok, Err, if◌then◌else◌}
use Rattle.field_codec.specs.declared.error.TakeError.TheVariants.{Short, Bad, NoMemory}
use Rattle.field_codec.specs.Reading.{Read}
use Rattle.field_codec.specs.Lawful.{IsBytes, IsCut, IsRefused}
use Rattle.log_records.specs.declared.error.RecordError.{RecordError}
use Rattle.log_records.specs.declared.error.RecordError.TheVariants as why

-- What ends too early is damaged at its first byte, and what goes on behind the value where the value ends.
abbrev pub whole : {V : Type 0} → ℕ → Read V → Result V RecordError
whole len (Ok x) = if x.1 == len then Ok x.0 else Err (why.Damaged x.1)
whole len (Err (Short at)) = Err (why.Damaged 0)
whole len (Err (Bad at)) = Err (why.Damaged at)
whole len (Err NoMemory) = Err why.NoMemory

abbrev pub whole_at : {V : Type 0} → (List ℕ → ℕ → Read V) → List ℕ → Result V RecordError
whole_at reading bytes = whole (length bytes) (reading bytes 0)

-- the answer is what the bytes are, unless memory ran out
abbrev pub Tells : {V : Type 0} → Result V RecordError → Result V RecordError → Type 0
Tells (Ok x) read = read ≡ Ok x
Tells (Err (why.Damaged at)) read = read ≡ Err (why.Damaged at)
Tells (Err why.NoMemory) read = Unit {0}

-- a value stands in front, and p is the place of the first byte behind it
pub record IsLeftOver {V : Type 0} (is_spelled : V → Bool) (spelling : V → List ℕ) (bytes : List ℕ) (p : ℕ) : Type 0 where
  pub value : V
  pub spelled : is_spelled value ≡ true
  pub front : take p bytes ≡ spelling value
  pub behind : p < length bytes

-- the field at q is cut off
pub record EndsEarly {V : Type 0} (reading : List ℕ → ℕ → Read V) (bytes : List ℕ) (p : ℕ) : Type 0 where
  pub first : p ≡ 0
  pub q : ℕ
  pub cut : IsCut reading bytes 0 q

-- the field at p is refused, bytes are left over from p on, or they end too early
abbrev pub IsDamaged : {V : Type 0} → (V → Bool) → (V → List ℕ) → (List ℕ → ℕ → Read V) → List ℕ → ℕ → Type 0
IsDamaged is_spelled spelling reading bytes p = IsRefused reading bytes 0 p ⊎ (IsLeftOver is_spelled spelling bytes p ⊎ EndsEarly reading bytes p)

-- bytes are a value exactly where they are its spelling, and else they are damaged
pub record ReadsWhole {V : Type 0} (is_spelled : V → Bool) (spelling : V → List ℕ) (reading : List ℕ → ℕ → Read V) : Type 0 where
  pub exact : (bytes : List ℕ) (v : V) → IsBytes bytes → (whole_at reading bytes ≡ Ok v) ↔ ((is_spelled v ≡ true) × (bytes ≡ spelling v))
  pub damaged : (bytes : List ℕ) (p : ℕ) → IsBytes bytes → whole_at reading bytes ≡ Err (why.Damaged p) → IsDamaged is_spelled spelling reading bytes p
  pub memory : (bytes : List ℕ) → IsBytes bytes → whole_at reading bytes ≢ Err why.NoMemory
