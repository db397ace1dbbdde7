-- The lines of sites, one more at a time.
use Rattle.std.proofs.Common.{◌≡◌, ℕ, ◌+◌, ◌<◌, List, [], ◌∷◌, ◌++◌, length, take, get_or, sym, ap, ◌∙◌, append_assoc, arith}
use Rattle.std.proofs.lemmas.List.{append-nil, take_more, length-take-le}
use Rattle.client_pool.specs.declared.summary.SiteSum.{SiteSum}
use Rattle.client_pool.specs.Text.{site_line, site_lines}

lines-push : (d : ℕ) (xs : List SiteSum) (x : SiteSum) → site_lines d (xs ++ x ∷ []) ≡ site_lines d xs ++ site_line (d + length xs) x
lines-push d [] x = append-nil (site_line d x) ∙ ap (λ n. site_line n x) (omega arith)
lines-push d (y ∷ xs) x =
    let at : d + 1 + length xs ≡ d + length (y ∷ xs) = omega arith in
    ap (λ s. site_line d y ++ s) (lines-push (d + 1) xs x) ∙ sym (append_assoc (site_line d y) (site_lines (d + 1) xs) (site_line (d + 1 + length xs) x))
    ∙ ap (λ n. (site_line d y ++ site_lines (d + 1) xs) ++ site_line n x) at

-- one more of the lines that a loop adds
pub loop_more : (sums : List SiteSum) (i : ℕ) (x d : SiteSum) (start old new : List ℕ) → i < length sums → x ≡ get_or sums i d → old ≡ start ++ site_lines 1 (take i sums) → new ≡ old ++ site_line (i + 1) x
    → new ≡ start ++ site_lines 1 (take (i + 1) sums)
loop_more sums i x d start old new within is is_old is_new =
    let count : length (take i sums) ≡ i = length-take-le i sums (omega arith) in
    let taken : take (i + 1) sums ≡ take i sums ++ x ∷ [] = take_more sums i d within ∙ ap (λ w. take i sums ++ w ∷ []) (sym is) in
    let number : 1 + length (take i sums) ≡ i + 1 = omega arith in
    is_new ∙ ap (λ o. o ++ site_line (i + 1) x) is_old ∙ append_assoc start (site_lines 1 (take i sums)) (site_line (i + 1) x)
    ∙ ap (λ s. start ++ s) (sym (ap (site_lines 1) taken ∙ lines-push 1 (take i sums) x ∙ ap (λ n. site_lines 1 (take i sums) ++ site_line n x) number))
