-- Bytes are a log of one list at most, or damaged at one place at most, and never both.
use Rattle.std.proofs.Common.{◌≡◌, ◌≢◌, ⊎_elim, ℕ, ◌+◌, ◌==◌, ◌&&◌, Bool, false, List, [], ◌∷◌, ◌++◌, take, drop, refl, sym, ap, ◌∙◌, arith, append_assoc}
use Rattle.std.proofs.lemmas.Bool.{false≢true}
use Rattle.std.proofs.lemmas.Bool.Decides.{nat_tests}
use Rattle.gate_log.specs.Log.{header, body, records, IsSized, AreSized, IsLog, end_of}
use Rattle.gate_log.specs.Damage.{told_length, is_whole, IsCutOff, IsCutOffAt, IsDamagedAt}
use Rattle.gate_log.proofs.Grammar.{is_there, payload_is, behind_is}

-- the bytes begin with a whole record
abbrev pub begins : List ℕ → Bool
begins [] = false
begins (gate ∷ rest) = gate == 1 && is_whole rest

-- a record at the front of the same bytes is the same
pub same_record : (a b x y : List ℕ) → IsSized a → IsSized b → body a ++ x ≡ body b ++ y → (a ≡ b) × (x ≡ y)
same_record a b x y a_sized b_sized is =
    let payload : a ≡ b = sym (payload_is a x a_sized) ∙ ap (λ (l : List ℕ). take (told_length l) (drop 4 l)) is ∙ payload_is b y b_sized in
    let behind : x ≡ y = sym (behind_is a x a_sized) ∙ ap (λ (l : List ℕ). drop (4 + told_length l) l) is ∙ behind_is b y b_sized in
    (payload, behind)

-- after all whole records
pub same_records : (xs ys : List (List ℕ)) (s t : List ℕ) → AreSized xs → AreSized ys → begins s ≡ false → begins t ≡ false → records xs ++ s ≡ records ys ++ t → (xs ≡ ys) × (s ≡ t)
same_records [] [] s t xs_sized ys_sized s_ends t_ends is = (refl, is)
same_records [] (y ∷ ys) s t xs_sized ys_sized s_ends t_ends is = absurd (false≢true (sym s_ends ∙ ap begins (is ∙ ap (λ (l : List ℕ). 1 ∷ l) (append_assoc (body y) (records ys) t)) ∙ is_there y (records ys ++ t) ys_sized.0))
same_records (x ∷ xs) [] s t xs_sized ys_sized s_ends t_ends is = absurd (false≢true (sym t_ends ∙ ap begins (sym is ∙ ap (λ (l : List ℕ). 1 ∷ l) (append_assoc (body x) (records xs) s)) ∙ is_there x (records xs ++ s) xs_sized.0))
same_records (x ∷ xs) (y ∷ ys) s t xs_sized ys_sized s_ends t_ends is =
    let whole : body x ++ (records xs ++ s) ≡ body y ++ (records ys ++ t) = sym (append_assoc (body x) (records xs) s) ∙ ap (drop 1) is ∙ append_assoc (body y) (records ys) t in
    let one = same_record x y (records xs ++ s) (records ys ++ t) xs_sized.0 ys_sized.0 whole in
    let more = same_records xs ys s t xs_sized.1 ys_sized.1 s_ends t_ends one.1 in
    (λ i. one.0 i ∷ more.0 i, more.1)

pub shut_gate : (gate : ℕ) (rest : List ℕ) → gate ≢ 1 → begins (gate ∷ rest) ≡ false
shut_gate gate rest shut = grind (arith, nat_tests)

pub cut_off : (bytes : List ℕ) → IsCutOff bytes → begins bytes ≡ false
cut_off bytes cut = ⊎_elim (λ none. ap begins none) (λ half. ap begins half.1 ∙ half.2) cut

-- without the header, that is the same
behind_header : (x y : List ℕ) → header ++ x ≡ header ++ y → x ≡ y
behind_header x y is = ap (drop 8) is

pub one_list : (bytes : List ℕ) (xs ys : List (List ℕ)) → IsLog bytes xs → IsLog bytes ys → xs ≡ ys
one_list bytes xs ys x y =
    (same_records xs ys (x.gate ∷ x.rest) (y.gate ∷ y.rest) x.sized y.sized (shut_gate x.gate x.rest x.shut) (shut_gate y.gate y.rest y.shut) (behind_header _ _ (sym x.is ∙ y.is))).0

has_header : (bytes rest : List ℕ) → bytes ≡ header ++ rest → take 8 bytes ≡ header
has_header bytes rest is = ap (take 8) is

-- a gate that ends a log isn't cut off
pub not_cut : (gate : ℕ) (rest tail : List ℕ) → gate ≢ 1 → gate ∷ rest ≡ tail → IsCutOff tail → ⊥
not_cut gate rest tail shut is cut = ⊎_elim (λ none. empty (is ∙ none)) (λ half. shut (first (is ∙ half.1))) cut
  where
    empty : gate ∷ rest ≡ [] → ⊥
    empty same = cc

    first : {other : List ℕ} → gate ∷ rest ≡ 1 ∷ other → gate ≡ 1
    first same = cc

pub not_both : (bytes : List ℕ) (xs : List (List ℕ)) (at : ℕ) → IsLog bytes xs → IsDamagedAt bytes at → ⊥
not_both bytes xs at log damaged = ⊎_elim
    (λ none. none.0 (has_header bytes (records xs ++ log.gate ∷ log.rest) log.is))
    (λ cut.
    let same = same_records xs cut.payloads (log.gate ∷ log.rest) cut.rest log.sized cut.sized (shut_gate log.gate log.rest log.shut) (cut_off cut.rest cut.cut_off) (behind_header _ _ (sym log.is ∙ cut.is)) in
    not_cut log.gate log.rest cut.rest log.shut same.1 cut.cut_off)
    damaged

pub one_place : (bytes : List ℕ) (p q : ℕ) → IsDamagedAt bytes p → IsDamagedAt bytes q → p ≡ q
one_place bytes p q x y = ⊎_elim
    (λ none. ⊎_elim (λ also. none.1 ∙ sym also.1) (λ cut. absurd (none.0 (has_header bytes (records cut.payloads ++ cut.rest) cut.is))) y)
    (λ cut. ⊎_elim (λ none. absurd (none.0 (has_header bytes (records cut.payloads ++ cut.rest) cut.is))) (λ also. both cut also) y)
    x
  where
    both : IsCutOffAt bytes p → IsCutOffAt bytes q → p ≡ q
    both a b =
        let same = same_records a.payloads b.payloads a.rest b.rest a.sized b.sized (cut_off a.rest a.cut_off) (cut_off b.rest b.cut_off) (behind_header _ _ (sym a.is ∙ b.is)) in
        a.place ∙ ap end_of same.0 ∙ sym b.place
