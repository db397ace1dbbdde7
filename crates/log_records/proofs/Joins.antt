-- What several fields append, one behind the other.
use Rattle.std.proofs.Common.{◌≡◌, ℕ, List, ◌++◌, Result, Ok, Err, OnOk, OnErr, ap, ◌∙◌, append_assoc}
use Rattle.field_codec.specs.Spelling.{Keeps}
use Rattle.field_codec.proofs.Forms.{keeps_more}

pub then_one : {T E : Type 0} (r : Result T E) (old one new xs ys : List ℕ) → one ≡ old ++ xs → OnOk r (new ≡ one ++ ys) → OnOk r (new ≡ old ++ (xs ++ ys))
then_one (Ok x) old one new xs ys p h = h ∙ ap (λ l. l ++ ys) p ∙ append_assoc old xs ys
then_one (Err e) old one new xs ys p h = tt

pub then_two : {T E : Type 0} (r : Result T E) (old one two new xs ys zs : List ℕ) → one ≡ old ++ xs → two ≡ one ++ ys → OnOk r (new ≡ two ++ zs) → OnOk r (new ≡ old ++ (xs ++ (ys ++ zs)))
then_two r old one two new xs ys zs p q h = then_one r old one new xs (ys ++ zs) p (then_one r one two new ys zs q h)

-- what stands behind the fifth of five
pub behind_five : {T E : Type 0} (r : Result T E) (old one new ps qs rs ts us zs : List ℕ) → one ≡ old ++ (ps ++ (qs ++ (rs ++ (ts ++ us)))) → OnOk r (new ≡ one ++ zs)
    → OnOk r (new ≡ old ++ (ps ++ (qs ++ (rs ++ (ts ++ (us ++ zs))))))
behind_five (Ok x) old one new ps qs rs ts us zs p h =
    h ∙ ap (λ l. l ++ zs) p ∙ append_assoc old (ps ++ (qs ++ (rs ++ (ts ++ us)))) zs
    ∙ ap (λ l. old ++ l) (append_assoc ps (qs ++ (rs ++ (ts ++ us))) zs
    ∙ ap (λ l. ps ++ l) (append_assoc qs (rs ++ (ts ++ us)) zs ∙ ap (λ l. qs ++ l) (append_assoc rs (ts ++ us) zs ∙ ap (λ l. rs ++ l) (append_assoc ts us zs))))
behind_five (Err e) old one new ps qs rs ts us zs p h = tt

pub keeps_behind : {T E : Type 0} (r : Result T E) (old one new xs : List ℕ) → one ≡ old ++ xs → OnErr r (Keeps one new) → OnErr r (Keeps old new)
keeps_behind (Ok x) old one new xs p h = tt
keeps_behind (Err e) old one new xs p h = keeps_more old one xs new p h
