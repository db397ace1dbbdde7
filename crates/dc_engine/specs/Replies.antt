-- Replies to lines, by a state that has answered them. `reached m lines bytes` says that the state m stands
-- where these lines, oldest first and each without its LF, have been answered with these bytes.
use Rattle.std.specs.Prelude.{◌≡◌, ℕ, List, [], ◌∷◌, ◌++◌, take}

-- some state has answered these lines with these bytes
abbrev pub Replies : {M : Type 0} → (M → List (List ℕ) → List ℕ → Type 0) → List (List ℕ) → List ℕ → Type 0
Replies {M} reached lines bytes = (m : M) × reached m lines bytes

-- and no cluster stands there
abbrev pub RepliesBefore : {M : Type 0} → (M → List (List ℕ) → List ℕ → Type 0) → (M → Type 0) → List (List ℕ) → List ℕ → Type 0
RepliesBefore reached lacks = Replies (λ m lines bytes. reached m lines bytes × lacks m)

-- one more line is answered, of which only the first 4,099 bytes count: the replies to all before are followed by these bytes
pub record AnswersLine {M : Type 0} (reached : M → List (List ℕ) → List ℕ → Type 0) (old new : M) (begun old_out new_out : List ℕ) : Type 0 where
  pub reply : List ℕ
  pub appended : new_out ≡ old_out ++ reply
  pub answered : (whole : List ℕ) (lines : List (List ℕ)) (bytes : List ℕ) → take 4099 whole ≡ begun → reached old lines bytes → reached new (lines ++ whole ∷ []) (bytes ++ reply)
