-- What is read may be put again.
use Rattle.std.proofs.Common.{◌≡◌, ℕ, ◌≤◌, Bool, true, ◌&&◌, List, length, Ok, arith}
use Rattle.std.proofs.lemmas.Bool.{and_parts}
use Rattle.field_codec.specs.Lawful.{IsBytes, IsForm}
use Rattle.field_codec.specs.Reading.{Read}
use Rattle.field_codec.specs.Steps.{by_length, not_both}
use Rattle.field_codec.specs.declared.error.TakeError.TheVariants.{Short}

-- beyond the end nothing is read
read_within : {V : Type 0} {fits keeps is_spelled : V → Bool} {spelling : V → List ℕ} {reading : List ℕ → ℕ → Read V} → IsForm fits keeps is_spelled spelling reading
    → (bytes : List ℕ) (at : ℕ) (x : V × ℕ) → reading bytes at ≡ Ok x → at ≤ length bytes
read_within {reading = reading} form bytes at x h = by_length at (length bytes) (λ le. le) (λ far. absurd (not_both (reading bytes at) x (Short at) h (form.ends bytes at (omega (arith, far)))))

pub read_fits : {V : Type 0} {fits keeps is_spelled : V → Bool} {spelling : V → List ℕ} {reading : List ℕ → ℕ → Read V} → IsForm fits keeps is_spelled spelling reading
    → (bytes : List ℕ) (at : ℕ) (v : V) (end : ℕ) → IsBytes bytes → reading bytes at ≡ Ok (v, end) → fits v ≡ true
read_fits form bytes at v end ok h = form.fit v (form.found bytes at v end ok (read_within form bytes at (v, end) h) h).0

-- of a conjunction of which the form says both
pub right : (a b : Bool) → (a && b) ≡ true → b ≡ true
right a b h = (and_parts a b h).1
