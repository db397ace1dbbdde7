-- Places, transactions and updates in the order of their fields.
use Rattle.std.specs.Prelude.{◌≡◌, ℕ, Bool, true, ◌&&◌, refl}
use Rattle.std.proofs.Common.{ap, sym, ◌∙◌}
use Rattle.std.specs.Cmp.{IsTotalOrder, eq_by_cmp_equiv, unsigned_tied, Equal-is}
use Rattle.std.specs.declared.cmp.Ordering.{Ordering}
use Rattle.std.specs.declared.cmp.Ordering.TheVariants.{Less, Equal, Greater}
use Rattle.std.specs.Ordering.{nat_cmp, ordering_then, is_eq, eq_by_cmp}
use Rattle.std.proofs.lemmas.Cmp.{nat_cmp_total, on_total, then_total}
use Rattle.std.proofs.lemmas.Map.Lookups.{CmpEqualImpliesEq, exact_unsigned, exact_pairs}
use Rattle.site_vector.specs.declared.ids.PartId.{PartId}
use Rattle.site_vector.specs.declared.ids.TxId.{TxId}
use Rattle.site_vector.specs.declared.ids.Dot.{Dot}
use Rattle.site_vector.specs.Ids.{same_part, same_tx, same_dot}

-- by site, and then by partition
abbrev pub part_cmp : PartId → PartId → Ordering
part_cmp p q = ordering_then (nat_cmp p.site q.site) (nat_cmp p.part q.part)

-- by site, then by partition, then by time
abbrev pub tx_cmp : TxId → TxId → Ordering
tx_cmp t u = ordering_then (nat_cmp t.site u.site) (ordering_then (nat_cmp t.part u.part) (nat_cmp t.time u.time))

-- by transaction, and then by number
abbrev pub dot_cmp : Dot → Dot → Ordering
dot_cmp d e = ordering_then (tx_cmp d.tx e.tx) (nat_cmp d.index e.index)

pub part_cmp_total : IsTotalOrder part_cmp
part_cmp_total = then_total (on_total (λ (p : PartId). p.site) nat_cmp_total) (on_total (λ (p : PartId). p.part) nat_cmp_total)

pub tx_cmp_total : IsTotalOrder tx_cmp
tx_cmp_total = then_total (on_total (λ (t : TxId). t.site) nat_cmp_total) (then_total (on_total (λ (t : TxId). t.part) nat_cmp_total) (on_total (λ (t : TxId). t.time) nat_cmp_total))

pub dot_cmp_total : IsTotalOrder dot_cmp
dot_cmp_total = then_total (on_total (λ (d : Dot). d.tx) tx_cmp_total) (on_total (λ (d : Dot). d.index) nat_cmp_total)

-- what compares as equal is one
pub part_cmp_exact : CmpEqualImpliesEq part_cmp
part_cmp_exact p q h = ap (λ (x : ℕ × ℕ). record { site = x.0; part = x.1 }) (exact_pairs nat_cmp nat_cmp exact_unsigned exact_unsigned (p.site, p.part) (q.site, q.part) h)

pub tx_cmp_exact : CmpEqualImpliesEq tx_cmp
tx_cmp_exact t u h =
    let rest_cmp : ℕ × ℕ → ℕ × ℕ → Ordering = λ a b. ordering_then (nat_cmp a.0 b.0) (nat_cmp a.1 b.1) in
    let exact_rest : CmpEqualImpliesEq rest_cmp = exact_pairs nat_cmp nat_cmp exact_unsigned exact_unsigned in
    ap (λ (x : ℕ × (ℕ × ℕ)). record { site = x.0; part = x.1.0; time = x.1.1 }) (exact_pairs nat_cmp rest_cmp exact_unsigned exact_rest (t.site, (t.part, t.time)) (u.site, (u.part, u.time)) h)

pub dot_cmp_exact : CmpEqualImpliesEq dot_cmp
dot_cmp_exact d e h = ap (λ (x : TxId × ℕ). record { tx = x.0; index = x.1 }) (exact_pairs tx_cmp nat_cmp tx_cmp_exact exact_unsigned (d.tx, d.index) (e.tx, e.index) h)

is_eq_then : (r s : Ordering) → is_eq (ordering_then r s) ≡ (is_eq r && is_eq s)
is_eq_then Less s = refl
is_eq_then Equal s = refl
is_eq_then Greater s = refl

both : (a b c d : Bool) → a ≡ c → b ≡ d → (a && b) ≡ (c && d)
both a b c d p q = ap (λ x. x && b) p ∙ ap (λ x. c && x) q

-- the tests of Ids hold of what compares as equal
pub same_part_ties : (p q : PartId) → same_part p q ≡ eq_by_cmp part_cmp p q
same_part_ties p q = sym (is_eq_then (nat_cmp p.site q.site) (nat_cmp p.part q.part) ∙ both _ _ _ _ (unsigned_tied p.site q.site) (unsigned_tied p.part q.part))

pub same_tx_ties : (t u : TxId) → same_tx t u ≡ eq_by_cmp tx_cmp t u
same_tx_ties t u =
    let rest = is_eq_then (nat_cmp t.part u.part) (nat_cmp t.time u.time) ∙ both _ _ _ _ (unsigned_tied t.part u.part) (unsigned_tied t.time u.time) in
    sym (is_eq_then (nat_cmp t.site u.site) (ordering_then (nat_cmp t.part u.part) (nat_cmp t.time u.time)) ∙ both _ _ _ _ (unsigned_tied t.site u.site) rest)

pub same_dot_ties : (d e : Dot) → same_dot d e ≡ eq_by_cmp dot_cmp d e
same_dot_ties d e = sym (is_eq_then (tx_cmp d.tx e.tx) (nat_cmp d.index e.index) ∙ both _ _ _ _ (sym (same_tx_ties d.tx e.tx)) (unsigned_tied d.index e.index))

-- a test that holds says that the two are one
pub same_part_is : (p q : PartId) → same_part p q ≡ true → p ≡ q
same_part_is p q h = part_cmp_exact p q ((Equal-is (part_cmp p q)).0 (sym (same_part_ties p q) ∙ h))

pub same_tx_is : (t u : TxId) → same_tx t u ≡ true → t ≡ u
same_tx_is t u h = tx_cmp_exact t u ((Equal-is (tx_cmp t u)).0 (sym (same_tx_ties t u) ∙ h))

pub same_dot_is : (d e : Dot) → same_dot d e ≡ true → d ≡ e
same_dot_is d e h = dot_cmp_exact d e ((Equal-is (dot_cmp d e)).0 (sym (same_dot_ties d e) ∙ h))

-- the tests are reflexive and symmetric
pub same_part_refl : (p : PartId) → same_part p p ≡ true
same_part_refl p = same_part_ties p p ∙ (eq_by_cmp_equiv part_cmp_total).refl p

pub same_part_symm : (p q : PartId) → same_part p q ≡ same_part q p
same_part_symm p q = same_part_ties p q ∙ (eq_by_cmp_equiv part_cmp_total).symm p q ∙ sym (same_part_ties q p)

pub same_tx_refl : (t : TxId) → same_tx t t ≡ true
same_tx_refl t = same_tx_ties t t ∙ (eq_by_cmp_equiv tx_cmp_total).refl t

pub same_tx_symm : (t u : TxId) → same_tx t u ≡ same_tx u t
same_tx_symm t u = same_tx_ties t u ∙ (eq_by_cmp_equiv tx_cmp_total).symm t u ∙ sym (same_tx_ties u t)

pub same_dot_refl : (d : Dot) → same_dot d d ≡ true
same_dot_refl d = same_dot_ties d d ∙ (eq_by_cmp_equiv dot_cmp_total).refl d

pub same_dot_symm : (d e : Dot) → same_dot d e ≡ same_dot e d
same_dot_symm d e = same_dot_ties d e ∙ (eq_by_cmp_equiv dot_cmp_total).symm d e ∙ sym (same_dot_ties e d)
