-- What is walked of a log's bytes are its payloads.
use Rattle.std.specs.Prelude.{◌^◌, ◌≤◌, ◌&&◌, nat_le, true, false, zero}
use Rattle.std.proofs.lemmas.List.{length-take, length-drop}
use Rattle.std.proofs.lemmas.Bool.{and_parts}
use Rattle.std.proofs.lemmas.Bool.Decides.{nat_tests}
use Rattle.std.proofs.Common.{◌≡◌, ℕ, suc, ◌+◌, Bool, cond, List, [], ◌∷◌, ◌++◌, length, take, drop, refl, ap, ◌∙◌, arith, append_assoc}
use Rattle.gate_log.specs.Log.{body, AreSized}
use Rattle.gate_log.specs.Damage.{told_length, is_whole}
use Rattle.gate_log.specs.Payloads.{AreWithin}
use Rattle.gate_log.proofs.Grammar.{told_is, is_there, payload_is, behind_is}
use Rattle.twin_log.specs.Twin.{items}
use Rattle.twin_log.specs.Payloads.{placed_items, walked_items}

-- so many payloads of an image, whatever stands behind it
pub walked_image : (at : ℕ) (payloads : List (List ℕ)) (rest : List ℕ) → AreSized payloads → walked_items (length payloads) at (items payloads ++ rest) ≡ placed_items at payloads
walked_image at [] rest sized = refl
walked_image at (payload ∷ payloads) rest sized =
    let behind = items payloads ++ rest in
    let bytes = body payload ++ behind in
    let told = told_is payload behind sized.0 in
    ap (λ (l : List ℕ). walked_items (length (payload ∷ payloads)) at l) (append_assoc (body payload) (items payloads) rest)
    ∙ ap (λ (b : Bool). cond b ((at + 4, take (told_length bytes) (drop 4 bytes)) ∷ walked_items (length payloads) (at + 4 + told_length bytes) (drop (4 + told_length bytes) bytes)) []) (is_there payload behind sized.0)
    ∙ ap (λ (p : List ℕ). (at + 4, p) ∷ walked_items (length payloads) (at + 4 + told_length bytes) (drop (4 + told_length bytes) bytes)) (payload_is payload behind sized.0)
    ∙ ap (λ (l : List ℕ). (at + 4, payload) ∷ walked_items (length payloads) (at + 4 + told_length bytes) l) (behind_is payload behind sized.0)
    ∙ ap (λ (n : ℕ). (at + 4, payload) ∷ walked_items (length payloads) (at + 4 + n) behind) told
    ∙ ap (λ (l : List (ℕ × List ℕ)). (at + 4, payload) ∷ l) (walked_image (at + 4 + length payload) payloads rest sized.1)

le_from : (n m : ℕ) → nat_le n m ≡ true → n ≤ m
le_from n m h = grind (arith, nat_tests)

-- a first payload that ends within the bytes, and others that do
one_within : (count at : ℕ) (bytes : List ℕ) → at + length bytes ≤ 2 ^ 32 → let told = told_length bytes in
    ((at + 4 + told + length (drop (4 + told) bytes) ≤ 2 ^ 32) → AreWithin (walked_items count (at + 4 + told) (drop (4 + told) bytes))) → (b : Bool) → is_whole bytes ≡ b
    → AreWithin (cond b ((at + 4, take told (drop 4 bytes)) ∷ walked_items count (at + 4 + told) (drop (4 + told) bytes)) [])
one_within count at bytes le others true whole =
    let told = told_length bytes in
    let p = and_parts (nat_le 4 (length bytes)) (nat_le 1 told && nat_le (4 + told) (length bytes)) whole in
    let most = le_from (4 + told) (length bytes) (and_parts (nat_le 1 told) (nat_le (4 + told) (length bytes)) p.1).1 in
    let rest = length-drop (4 + told) bytes in
    let front = length-take told (drop 4 bytes) in
    (omega (arith, le, most, front), others (omega (arith, le, most, rest)))
one_within count at bytes le others false whole = tt

-- what is walked ends where the bytes do
pub items_within : (count at : ℕ) (bytes : List ℕ) → at + length bytes ≤ 2 ^ 32 → AreWithin (walked_items count at bytes)
items_within zero at bytes le = tt
items_within (suc count) at bytes le =
    let told = told_length bytes in
    one_within count at bytes le (items_within count (at + 4 + told) (drop (4 + told) bytes)) (is_whole bytes) refl

pub both_within : (xs ys : List (ℕ × List ℕ)) → AreWithin xs → AreWithin ys → AreWithin (xs ++ ys)
both_within [] ys none all = all
both_within (x ∷ xs) ys more all = (more.0, both_within xs ys more.1 all)
