-- The records of a log, and what is read of one that stands there.
use Rattle.std.proofs.Common.{◌≡◌, inl, inr, ℕ, ◌+◌, true, List, [], ◌∷◌, ◌++◌, length, take, drop, refl, sym, ap, ◌∙◌, arith, append_assoc, length-append}
use Rattle.std.proofs.lemmas.List.{take_at, drop_at, append-nil}
use Rattle.std.proofs.lemmas.Bool.{cases_eq}
use Rattle.std.proofs.lemmas.Bool.Decides.{nat_tests}
use Rattle.std.proofs.lemmas.Nat.{from_be_bytes-to_be_bytes_4}
use Rattle.std.specs.Int.{w32, to_be_bytes, from_be_bytes}
use Rattle.gate_log.specs.Log.{header, body, records, IsSized, AreSized, IsTailWith, tail_end, end_of}
use Rattle.gate_log.specs.Damage.{told_length, is_whole}

length-bytes : (n : ℕ) → length (to_be_bytes w32 n) ≡ 4
length-bytes n = refl

pub length-body : (payload : List ℕ) → length (body payload) ≡ 4 + length payload
length-body payload = omega (arith, length-append (to_be_bytes w32 (length payload)) payload, length-bytes (length payload))

-- one record more
pub records-push : (payloads : List (List ℕ)) (one : List ℕ) → records (payloads ++ one ∷ []) ≡ records payloads ++ 1 ∷ body one
records-push [] one = append-nil (1 ∷ body one)
records-push (payload ∷ payloads) one = ap (λ (l : List ℕ). 1 ∷ body payload ++ l) (records-push payloads one) ∙ sym (append_assoc (1 ∷ body payload) (records payloads) (1 ∷ body one))

pub sized-push : (payloads : List (List ℕ)) (one : List ℕ) → AreSized payloads → IsSized one → AreSized (payloads ++ one ∷ [])
sized-push [] one all sized = (sized, tt)
sized-push (payload ∷ payloads) one all sized = (all.0, sized-push payloads one all.1 sized)

pub tail-push : (front : List ℕ) (payloads : List (List ℕ)) (one : List ℕ) → tail_end front (payloads ++ one ∷ []) ≡ tail_end front payloads + (5 + length one)
tail-push front payloads one = omega (arith, ap length (records-push payloads one), length-append (records payloads) (1 ∷ body one), length-body one, length-append front (records payloads), length-append front (records (payloads ++ one ∷ [])))

pub end-push : (payloads : List (List ℕ)) (one : List ℕ) → end_of (payloads ++ one ∷ []) ≡ end_of payloads + (5 + length one)
end-push payloads one = tail-push header payloads one

-- what is read behind the gate of a record that stands there
module _ (payload rest : List ℕ) (sized : IsSized payload) where
  abbrev bytes : List ℕ
  bytes = body payload ++ rest

  length_first : bytes ≡ to_be_bytes w32 (length payload) ++ (payload ++ rest)
  length_first = append_assoc (to_be_bytes w32 (length payload)) payload rest

  pub told_is : told_length bytes ≡ length payload
  told_is =
      ap (λ (l : List ℕ). from_be_bytes w32 (take 4 l)) length_first ∙ ap (from_be_bytes w32) (take_at (to_be_bytes w32 (length payload)) (payload ++ rest) 4 (length-bytes (length payload)))
      ∙ from_be_bytes-to_be_bytes_4 (length payload) sized.1

  pub is_there : is_whole bytes ≡ true
  is_there =
      let long : length bytes ≡ 4 + length payload + length rest = omega (arith, length-append (body payload) rest, length-body payload) in
      grind (arith, nat_tests, long, told_is, sized.0)

  pub payload_is : take (told_length bytes) (drop 4 bytes) ≡ payload
  payload_is =
      ap (λ (n : ℕ). take n (drop 4 bytes)) told_is ∙ ap (λ (l : List ℕ). take (length payload) (drop 4 l)) length_first
      ∙ ap (λ (l : List ℕ). take (length payload) l) (drop_at (to_be_bytes w32 (length payload)) (payload ++ rest) 4 (length-bytes (length payload))) ∙ take_at payload rest (length payload) refl

  pub behind_is : drop (4 + told_length bytes) bytes ≡ rest
  behind_is = ap (λ (n : ℕ). drop (4 + n) bytes) told_is ∙ drop_at (body payload) rest (4 + length payload) (length-body payload)

-- a record whose gate is open
pub opened : (front : List ℕ) (payloads : List (List ℕ)) (one : List ℕ) (gate : ℕ) (rest : List ℕ) → front ++ records payloads ++ 1 ∷ (body one ++ gate ∷ rest) ≡ front ++ records (payloads ++ one ∷ []) ++ gate ∷ rest
opened front payloads one gate rest =
    append_assoc front (records payloads) (1 ∷ (body one ++ gate ∷ rest))
    ∙ ap (λ (l : List ℕ). front ++ l) (sym (append_assoc (records payloads) (1 ∷ body one) (gate ∷ rest)) ∙ ap (λ (l : List ℕ). l ++ gate ∷ rest) (sym (records-push payloads one)))
    ∙ sym (append_assoc front (records (payloads ++ one ∷ [])) (gate ∷ rest))

-- a whole record behind any gate: it counts, or it doesn't
pub either : (front : List ℕ) (payloads : List (List ℕ)) (one : List ℕ) (gate : ℕ) (rest : List ℕ) → AreSized payloads → IsSized one → IsTailWith front payloads one (front ++ records payloads ++ gate ∷ (body one ++ 0 ∷ rest))
either front payloads one gate rest sized one_sized = elim (cases_eq gate 1) [
  | inl is_open ↦ inr (record {
    gate = 0;
    rest = rest;
    shut = omega arith;
    is = ap (λ (g : ℕ). front ++ records payloads ++ g ∷ (body one ++ 0 ∷ rest)) is_open ∙ opened front payloads one 0 rest;
    sized = sized-push payloads one sized one_sized;
  })
  | inr shut ↦ inl (record { gate = gate; rest = body one ++ 0 ∷ rest; shut = shut; is = refl; sized = sized })
]
