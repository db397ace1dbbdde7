-- Where a partition stands in the list of all.
use Rattle.std.proofs.Common.{◌≡◌, ℕ, ◌+◌, ◌-◌, ◌*◌, ◌/◌, ◌%◌, ◌<◌, ◌≤◌, sym, ap, ◌∙◌, arith}
use Rattle.std.proofs.lemmas.Nat.{div-mul-add, mod-mul-add, mul-le}
use Rattle.std.proofs.Math.Nat.{add-mul}
use Rattle.site_vector.specs.declared.ids.PartId.{PartId}
use Rattle.world_model.specs.lines.Places.{IsPlace}
use Rattle.site_partitions.specs.Held.{index_of}

pub row_after : (parts site : ℕ) → 1 ≤ site → site * parts ≡ (site - 1) * parts + parts
row_after parts site h =
    let whole : site ≡ (site - 1) + 1 = omega (arith, h) in
    let one : 1 * parts ≡ parts = omega arith in ap (λ n. n * parts) whole ∙ (add-mul (site - 1) 1 parts ∙ ap (λ n. (site - 1) * parts + n) one)

module _ (sites parts : ℕ) where
  site_at : (p : PartId) → IsPlace sites parts p → index_of parts p / parts ≡ p.site - 1
  site_at p h = div-mul-add (p.site - 1) parts (p.part - 1) (omega (arith, h.least_part, h.most_part))

  part_at : (p : PartId) → IsPlace sites parts p → index_of parts p % parts ≡ p.part - 1
  part_at p h = mod-mul-add (p.site - 1) parts (p.part - 1) (omega (arith, h.least_part, h.most_part))

  -- no two places have one index
  pub index_is : (p q : PartId) → IsPlace sites parts p → IsPlace sites parts q → index_of parts p ≡ index_of parts q → p ≡ q
  index_is p q h k e =
      let a : p.site - 1 ≡ q.site - 1 = sym (site_at p h) ∙ (ap (λ n. n / parts) e ∙ site_at q k) in
      let b : p.part - 1 ≡ q.part - 1 = sym (part_at p h) ∙ (ap (λ n. n % parts) e ∙ part_at q k) in
      let site : p.site ≡ q.site = omega (arith, a, h.least_site, k.least_site) in
      let part : p.part ≡ q.part = omega (arith, b, h.least_part, k.least_part) in
      λ i. record { site = site i; part = part i }

  -- each has one below their number
  pub index_below : (p : PartId) → IsPlace sites parts p → index_of parts p < sites * parts
  index_below p h =
      let e = row_after parts p.site h.least_site in
      let up : p.site * parts ≤ sites * parts = mul-le p.site parts sites parts h.most_site (omega arith) in omega (arith, e, up, h.least_part, h.most_part)
