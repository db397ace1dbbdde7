-- What the bits of a digest tell.
use Rattle.std.proofs.Common.{◌≡◌, ℕ, ◌/◌, ◌^◌, Bool, true, false, ◌||◌, List, [], ◌∷◌, refl, sym, ap, ◌∙◌, subst, arith}
use Rattle.std.specs.Prelude.{bit_or, bit_and}
use Rattle.std.specs.Int.{bit_at}
use Rattle.std.proofs.lemmas.Nat.Bits.{bit_at_or, bit_at-lt, bit_at-pow_same, shr_and_one}
use Rattle.crdt_core.specs.declared.object.ObjectId.{ObjectId}
use Rattle.crdt_core.specs.declared.record.Upd.{Upd}
use Rattle.crdt_core.specs.Objects.{same_object, same_object-true}
use Rattle.crdt_core.specs.Parts.{touches}
use Rattle.prepared_table.specs.Digest.{bit_of, marked}

-- a bit that is set stays set
bit_stays : (m n i : ℕ) → bit_at m i ≡ 1 → bit_at (bit_or m n) i ≡ 1
bit_stays m n i h = let both = bit_at_or m n i in let less = bit_at-lt n i in omega arith

bit_comes : (m i : ℕ) → bit_at (bit_or m (2 ^ i)) i ≡ 1
bit_comes m i = let both = bit_at_or m (2 ^ i) i in let one = bit_at-pow_same i in let less = bit_at-lt m i in omega arith

module _ {E : Type 0} where
  marked_stays : (m i : ℕ) (us : List (Upd E)) → bit_at m i ≡ 1 → bit_at (marked m us) i ≡ 1
  marked_stays m i [] h = h
  marked_stays m i (u ∷ us) h = marked_stays (bit_or m (2 ^ bit_of u.object)) i us (bit_stays m (2 ^ bit_of u.object) i h)

  -- the bit of an object that is changed is set
  marked_of : (m : ℕ) (us : List (Upd E)) (o : ObjectId) → touches us o ≡ true → bit_at (marked m us) (bit_of o) ≡ 1
  marked_of m [] o h = absurd cc
  marked_of m (u ∷ us) o h = here (same_object u.object o) refl (marked_of (bit_or m (2 ^ bit_of u.object)) us o)
    where
      here : (b : Bool) → same_object u.object o ≡ b → (touches us o ≡ true → bit_at (marked m (u ∷ us)) (bit_of o) ≡ 1) → bit_at (marked m (u ∷ us)) (bit_of o) ≡ 1
      here true e later = marked_stays (bit_or m (2 ^ bit_of u.object)) (bit_of o) us (subst (λ i. bit_at (bit_or m (2 ^ i)) (bit_of o) ≡ 1) (ap bit_of (sym (same_object-true u.object o e))) (bit_comes m (bit_of o)))
      here false e later = later (sym (ap (λ b. b || touches us o) e) ∙ h)

  -- where the bit isn't set, the object isn't changed
  pub unmarked : (digest bit : ℕ) (us : List (Upd E)) (o : ObjectId) → digest ≡ marked 0 us → bit ≡ bit_of o → bit_and (digest / 2 ^ bit) 1 ≡ 0 → false ≡ touches us o
  unmarked digest bit us o d b h = by (touches us o) refl
    where
      by : (c : Bool) → touches us o ≡ c → false ≡ c
      by false e = refl
      by true e =
          let set : bit_at digest bit ≡ 1 = ap (λ m. bit_at m bit) d ∙ (ap (bit_at (marked 0 us)) b ∙ marked_of 0 us o e) in
          let unset : bit_at digest bit ≡ 0 = sym (shr_and_one digest bit) ∙ h in
          absurd (omega arith)
