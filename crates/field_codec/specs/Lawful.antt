-- What makes a form of values: what is read is spelled so, what is spelled so is read, whatever follows it; and what it means
-- that reading refuses.
use Rattle.std.specs.Prelude.{◌≡◌, ◌≢◌, ℕ, ◌^◌, ◌<◌, ◌≤◌, Bool, true, List, ◌++◌, length, take, slice_index, Ok, Err}
use Rattle.field_codec.specs.declared.error.TakeError.TheVariants.{Short, Bad, NoMemory}
use Rattle.field_codec.specs.Spelling.{Spans}
use Rattle.field_codec.specs.Reading.{Read}

abbrev pub IsBytes : List ℕ → Type 0
IsBytes bytes = (i : ℕ) → slice_index bytes i < 256

-- The field at p is cut off: it is so too wherever from p on the bytes end earlier, and no more once k bytes follow, whatever
-- they are.
pub record IsCut {V : Type 0} (reading : List ℕ → ℕ → Read V) (bytes : List ℕ) (at p : ℕ) : Type 0 where
  pub behind : at ≤ p
  pub within : p ≤ length bytes
  pub cut : (q : ℕ) → p ≤ q → reading (take q bytes) at ≡ Err (Short p)
  pub enough : (k : ℕ) × ((more : List ℕ) → IsBytes more → k ≤ length more → reading (bytes ++ more) at ≢ Err (Short p))

-- The field at p is refused: all before it is accepted, since bytes that end at p are cut off there, and it stays refused
-- whatever follows.
pub record IsRefused {V : Type 0} (reading : List ℕ → ℕ → Read V) (bytes : List ℕ) (at p : ℕ) : Type 0 where
  pub behind : at ≤ p
  pub within : p < length bytes
  pub cut : reading (take p bytes) at ≡ Err (Short p)
  pub stays : (more : List ℕ) → reading (bytes ++ more) at ≡ Err (Bad p)

-- each refusal means what it says, and bytes never want memory
pub record TellsWhy {V : Type 0} (reading : List ℕ → ℕ → Read V) : Type 0 where
  pub short : (bytes : List ℕ) (at p : ℕ) → IsBytes bytes → at ≤ length bytes → reading bytes at ≡ Err (Short p) → IsCut reading bytes at p
  pub bad : (bytes : List ℕ) (at p : ℕ) → IsBytes bytes → at ≤ length bytes → reading bytes at ≡ Err (Bad p) → IsRefused reading bytes at p
  pub memory : (bytes : List ℕ) (at : ℕ) → IsBytes bytes → at ≤ length bytes → reading bytes at ≢ Err NoMemory

-- fits: what a put takes; keeps: what the types of its parts hold of it besides; is_spelled: what has a spelling, so all of
-- these but where that would be 2^32 bytes or more, since only want of a count can keep one from it. Where no bytes are left,
-- at their end and beyond it, the first field is cut off, so that no spelling is empty.
pub record IsForm {V : Type 0} (fits keeps is_spelled : V → Bool) (spelling : V → List ℕ) (reading : List ℕ → ℕ → Read V) : Type 0 where
  pub found : (bytes : List ℕ) (at : ℕ) (v : V) (end : ℕ) → IsBytes bytes → at ≤ length bytes → reading bytes at ≡ Ok (v, end) → (is_spelled v ≡ true) × Spans bytes at (spelling v) end
  pub again : (bytes : List ℕ) (at : ℕ) (v : V) (end : ℕ) → is_spelled v ≡ true → Spans bytes at (spelling v) end → reading bytes at ≡ Ok (v, end)
  pub fit : (v : V) → is_spelled v ≡ true → fits v ≡ true
  pub all : (v : V) → fits v ≡ true → keeps v ≡ true → length (spelling v) < 2 ^ 32 → is_spelled v ≡ true
  pub ends : (bytes : List ℕ) (at : ℕ) → length bytes ≤ at → reading bytes at ≡ Err (Short at)
  pub tells : TellsWhy reading

-- no spelling begins that of another value
abbrev pub IsPrefixFree : {V : Type 0} → (V → Bool) → (V → List ℕ) → Type 0
IsPrefixFree {V} is_spelled spelling =
    (v w : V) (x y : List ℕ) → is_spelled v ≡ true → is_spelled w ≡ true → spelling v ++ x ≡ spelling w ++ y → v ≡ w
