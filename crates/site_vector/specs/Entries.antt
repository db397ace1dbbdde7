-- How a vector of at most eight entries lies in its array.
use Rattle.std.specs.Prelude.{◌≡◌, ℕ, ◌-◌, ◌≤◌, List, ◌++◌, length, take, drop, replicate}
use Rattle.std.proofs.Common.{ap, sym, ◌∙◌, arith}
use Rattle.std.proofs.lemmas.List.{length-take-le, take-append-drop}
use Rattle.site_vector.specs.declared.vector.VTime.TheInside.{Inside}

-- the entries past the width are zero
pub record IsPadded (width : ℕ) (entries : List ℕ) : Type 0 where
  pub least : 1 ≤ width
  pub most : width ≤ 8
  pub whole : length entries ≡ 8
  pub rest : drop width entries ≡ replicate (8 - width) 0

abbrev pub unpadded : List ℕ → ℕ × List ℕ
unpadded l = (length l, l ++ replicate (8 - length l) 0)

same_parts : (v : Inside) (n : ℕ) (l : List ℕ) → n ≡ v.width → l ≡ v.entries → record { width = n; entries = l } ≡ v
same_parts v n l e f =
    let made : ℕ → List ℕ → Inside = λ m k. record { width = m; entries = k } in
    ap (λ m. made m l) e ∙ ap (λ k. made v.width k) f

pub unpadded-take : (v : Inside) → IsPadded v.width v.entries → record { width = (unpadded (take v.width v.entries)).0; entries = (unpadded (take v.width v.entries)).1 } ≡ v
unpadded-take v h =
    let long : length (take v.width v.entries) ≡ v.width = length-take-le v.width v.entries (omega (arith, h.most, h.whole)) in
    same_parts v _ _ long (ap (λ n. take v.width v.entries ++ replicate (8 - n) 0) long ∙ (ap (λ l. take v.width v.entries ++ l) (sym h.rest) ∙ take-append-drop v.width v.entries))
