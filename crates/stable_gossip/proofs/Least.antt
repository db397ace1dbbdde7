-- The least of what partitions tell, entry by entry.
use Rattle.std.proofs.Common.{◌≡◌, ℕ, suc, zero, ◌+◌, ◌-◌, ◌≤◌, List, [], ◌∷◌, length, refl, sym, ap, ◌∙◌, subst, arith}
use Rattle.std.specs.Prelude.{min, slice_index}
use Rattle.site_vector.specs.Vector.{meet, entry}
use Rattle.site_vector.specs.VectorLaws.{length_meet}
use Rattle.site_vector.specs.Known.{lowest}
use Rattle.stable_gossip.specs.Gossip.{told}

at : (i : ℕ) (u v : List ℕ) → length u ≡ length v → slice_index (meet u v) i ≡ min (slice_index u i) (slice_index v i)
at i [] [] e = refl
at i [] (m ∷ v) e = absurd (omega arith)
at i (n ∷ u) [] e = absurd (omega arith)
at zero (n ∷ u) (m ∷ v) e = refl
at (suc i) (n ∷ u) (m ∷ v) e = at i u v (omega arith)

pub entry_meet : (u v : List ℕ) (j : ℕ) → length u ≡ length v → entry (meet u v) j ≡ min (entry u j) (entry v j)
entry_meet u v j e = at (j - 1) u v e

lowest_more : (known : ℕ → ℕ) (n : ℕ) → 1 ≤ n → lowest known (n + 1) ≡ min (known (n + 1)) (lowest known n)
lowest_more known zero h = absurd (omega arith)
lowest_more known (suc n) h =
    let same : suc (suc n) ≡ suc n + 1 = omega arith in
    let P : ℕ → Type 0 = λ m. lowest known m ≡ min (known m) (lowest known (suc n)) in
    subst P same refl

-- the least of the first partitions, so many of them
pub record IsLeast (own_part : ℕ) (own : List ℕ) (heard : List (List ℕ)) (n : ℕ) (least : List ℕ) : Type 0 where
  pub width : length least ≡ length own
  pub entries : (j : ℕ) → entry least j ≡ lowest (told own_part own heard j) n

pub first_least : (own_part : ℕ) (own : List ℕ) (heard : List (List ℕ)) (v : List ℕ) → length v ≡ length own → ((j : ℕ) → entry v j ≡ told own_part own heard j 1) → IsLeast own_part own heard 1 v
first_least own_part own heard v w h = record { width = w; entries = h }

pub more_least : (own_part : ℕ) (own : List ℕ) (heard : List (List ℕ)) (n : ℕ) (v least met : List ℕ) → 1 ≤ n → IsLeast own_part own heard n least → length v ≡ length own → ((j : ℕ) → entry v j ≡ told own_part own heard j (n + 1)) → met ≡ meet v least → IsLeast own_part own heard (n + 1) met
more_least own_part own heard n v least met some h w k e = subst (λ (m : List ℕ). IsLeast own_part own heard (n + 1) m) (sym e) (record {
  width = length_meet v least (w ∙ sym h.width) ∙ w;
  entries = λ j.
      let known = told own_part own heard j in
      entry_meet v least j (w ∙ sym h.width) ∙ (ap (λ a. min a (entry least j)) (k j) ∙ (ap (min (known (n + 1))) (h.entries j) ∙ sym (lowest_more known n some)));
})
