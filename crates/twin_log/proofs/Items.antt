-- How far the payloads of an image were read.
use Rattle.std.proofs.Common.{◌≡◌, inl, inr, ℕ, ◌+◌, ◌^◌, ◌<◌, ◌≤◌, true, List, [], ◌∷◌, ◌++◌, length, get_or, take, drop, refl, sym, ap, ◌∙◌, subst, arith, append_assoc, length-append, length-take, length-drop}
use Rattle.std.proofs.lemmas.List.{get_or-take, get_or-drop, get_or_past, drop_all, drop-append-le, append-nil}
use Rattle.std.proofs.lemmas.Bool.{cases_lt}
use Rattle.std.proofs.Math.Seq.{take-add}
use Rattle.std.proofs.lemmas.Bool.Decides.{nat_tests}
use Rattle.std.proofs.lemmas.Nat.{be_bytes_4}
use Rattle.std.specs.Int.{w32, to_be_bytes}
use Rattle.gate_log.specs.Log.{body}
use Rattle.gate_log.specs.Damage.{told_length, is_whole}
use Rattle.gate_log.proofs.Grammar.{sized-push}
use Rattle.twin_log.specs.Twin.{items}
use Rattle.twin_log.specs.Found.{HasItems}

whole_parts : (rest : List ℕ) → is_whole rest ≡ true → (4 ≤ length rest) × (1 ≤ told_length rest) × (4 + told_length rest ≤ length rest)
whole_parts rest is = (grind (arith, nat_tests), grind (arith, nat_tests), grind (arith, nat_tests))

pub items-push : (payloads : List (List ℕ)) (one : List ℕ) → items (payloads ++ one ∷ []) ≡ items payloads ++ body one
items-push [] one = append-nil (body one)
items-push (payload ∷ payloads) one = ap (λ (l : List ℕ). body payload ++ l) (items-push payloads one) ∙ sym (append_assoc (body payload) (items payloads) (body one))

pub no_items : (bytes : List ℕ) (from : ℕ) → from ≤ length bytes → HasItems bytes from 0 from
no_items bytes from within = record { image = []; is = drop_all from (take from bytes) (omega (arith, length-take from bytes)); sized = tt; number = refl; reach = omega arith; within = within }

pub four_bytes : (bytes : List ℕ) (at : ℕ) → ((i : ℕ) → get_or bytes i 0 < 256) → (i : ℕ) → get_or (take 4 (drop at bytes)) i 0 < 256
four_bytes bytes at are_bytes i = elim (cases_lt i 4) [
  | inl below ↦ subst (λ (k : ℕ). k < 256) (sym (get_or-take 4 (drop at bytes) i 0 below ∙ get_or-drop at bytes i 0)) (are_bytes (at + i))
  | inr past ↦ let short : length (take 4 (drop at bytes)) ≤ i = simp length-take (omega arith) in subst (λ (k : ℕ). k < 256) (sym (get_or_past (take 4 (drop at bytes)) i 0 short)) (omega arith)
]

-- one payload more, which stands there whole
pub one_item : (bytes : List ℕ) (from count at told : ℕ) → HasItems bytes from count at → is_whole (drop at bytes) ≡ true → told ≡ told_length (drop at bytes) → told < 2 ^ 32 → ((i : ℕ) → get_or bytes i 0 < 256) → HasItems bytes from (count + 1) (at + (4 + told))
one_item bytes from count at told read whole is_told small are_bytes =
    let rest = drop at bytes in
    let parts = whole_parts rest whole in
    let left : length rest + at ≡ length bytes = omega (arith, length-drop at bytes, read.within) in
    let fits : 4 + told ≤ length rest = omega (arith, is_told, parts.2) in
    let payload = take told (drop 4 rest) in
    let long : length payload ≡ told = simp (length-take, length-drop) (omega (arith, fits)) in
    let four : length (take 4 rest) ≡ 4 = simp length-take (omega (arith, parts.0)) in
    let number : to_be_bytes w32 (length payload) ≡ take 4 rest = ap (to_be_bytes w32) long ∙ be_bytes_4 (take 4 rest) told four (four_bytes bytes at are_bytes) is_told in
    let item : take (4 + told) rest ≡ body payload = take-add 4 told rest ∙ ap (λ (l : List ℕ). l ++ payload) (sym number) in
    let front : length (take at bytes) ≡ at = simp length-take (omega (arith, read.within)) in
    record {
      image = read.image ++ payload ∷ [];
      is =
          ap (drop from) (take-add at (4 + told) bytes) ∙ drop-append-le from (take at bytes) (take (4 + told) rest) (omega (arith, front, read.reach))
          ∙ ap (λ (l : List ℕ). l ++ take (4 + told) rest) read.is ∙ ap (λ (l : List ℕ). items read.image ++ l) item ∙ sym (items-push read.image payload);
      sized = sized-push read.image payload read.sized (omega (arith, long, is_told, parts.1), omega (arith, long, small));
      number = omega (arith, read.number, length-append read.image (payload ∷ []));
      reach = omega (arith, read.reach);
      within = omega (arith, fits, left);
    }
