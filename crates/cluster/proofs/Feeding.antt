-- Which lines tell of a disk that lacked memory to grow.
use Rattle.std.proofs.Common.{◌≡◌, ℕ, ◌+◌, ◌≤◌, leb, Bool, true, false, List, [], ◌∷◌, drop, refl, sym, subst, arith}
use Rattle.std.proofs.lemmas.Bool.{leb-true, leb-false}
use Rattle.site_vector.specs.declared.ids.PartId.{PartId}
use Rattle.site_vector.specs.declared.ids.TxId.{TxId}
use Rattle.disk_core.specs.States.{DiskState}
use Rattle.world_model.specs.declared.step.Step.{Step}
use Rattle.world_model.specs.declared.step.Step.TheVariants as step
use Rattle.site_partitions.specs.Held.{Held}
use Rattle.cluster.specs.Faults.{AreFed, IsFed}
use Rattle.cluster.proofs.Delivering.{place_of_part}

module _ {E D : Type 0} (state : D → DiskState) (c : Held E D) where
  pub fed_first : (s : Step) (steps : List Step) → AreFed state c (s ∷ []) → AreFed state c steps → AreFed state c (s ∷ steps)
  fed_first (step.Disk p) steps h k = (h.0, k)
  fed_first (step.Unsure t) steps h k = (h.0, k)
  fed_first s steps h k = k

  -- so far none tells of one: if the rest don't, none does
  abbrev pub IsFedSoFar : List Step → ℕ → Type 0
  IsFedSoFar steps i = AreFed state c (drop i steps) → AreFed state c steps

  pub fed_next : (steps : List Step) (i : ℕ) (s : Step) → drop i steps ≡ s ∷ drop (i + 1) steps → AreFed state c (s ∷ []) → IsFedSoFar steps i → IsFedSoFar steps (i + 1)
  fed_next steps i s is h so k = so (subst (AreFed state c) (sym is) (fed_first s (drop (i + 1) steps) h k))

  pub fed_end : (steps : List Step) (i : ℕ) → drop i steps ≡ [] → IsFedSoFar steps i → AreFed state c steps
  fed_end steps i is so = so (subst (AreFed state c) (sym is) tt)

  -- the first partitions of a site are fed
  abbrev pub AreFedUpTo : ℕ → ℕ → Type 0
  AreFedUpTo site i = (p : PartId) → p.site ≡ site → p.part ≤ i → IsFed state c p

  pub fed_more : (site i : ℕ) → AreFedUpTo site i → IsFed state c (record { site = site; part = i + 1 }) → AreFedUpTo site (i + 1)
  fed_more site i h k p e l = by_part (leb p.part i) refl
    where
      by_part : (b : Bool) → leb p.part i ≡ b → IsFed state c p
      by_part true x = h p e (leb-true p.part i x)
      by_part false x =
          let above = leb-false p.part i x in
          let last : p.part ≡ i + 1 = omega (arith, above, l) in
          subst (λ (q : PartId). IsFed state c q) (λ j. record { site = sym e j; part = sym last j }) k

  pub fed_none : (site : ℕ) → AreFedUpTo site 0
  fed_none site p e l has = let least = (place_of_part c p has).least_part in absurd (omega (arith, least, l))

  -- all of the site are
  pub fed_site : (site i : ℕ) → c.parts ≤ i → AreFedUpTo site i → (p : PartId) → p.site ≡ site → IsFed state c p
  fed_site site i far h p e has = let most = (place_of_part c p has).most_part in h p e (omega (arith, far, most)) has

  -- another line
  pub fed_other : (s : Step) → ((p : PartId) → s ≡ step.Disk p → ⊥) → ((t : TxId) → s ≡ step.Unsure t → ⊥) → AreFed state c (s ∷ [])
  fed_other (step.Disk p) h k = absurd (h p refl)
  fed_other (step.Unsure t) h k = absurd (k t refl)
  fed_other s h k = tt
