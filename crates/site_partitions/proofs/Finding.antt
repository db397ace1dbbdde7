-- Which partition stands where a cluster's code looks.
use Rattle.std.proofs.Common.{◌≡◌, ℕ, ◌*◌, ◌<◌, Bool, List, length, get_or, sym, ap, ◌∙◌, subst}
use Rattle.std.proofs.lemmas.List.{get_or-set_same, set-get_or}
use Rattle.site_vector.specs.declared.ids.PartId.{PartId}
use Rattle.partition_core.specs.Durable.{Durable, is_down}
use Rattle.site_partitions.specs.Held.{Held, IsSized, IsAt, IsDownAt, index_of}

-- an element that is there doesn't depend on what would stand for none
same_there : {A : Type 0} (xs : List A) (i : ℕ) (a b : A) → i < length xs → get_or xs i b ≡ get_or xs i a
same_there xs i a b l = sym (ap (λ ys. get_or ys i b) (set-get_or xs i a)) ∙ get_or-set_same xs i (get_or xs i a) b l

module _ {E D : Type 0} (sites parts : ℕ) (items : List (Durable E D)) (c : Held E D) (view : record { sites = sites; parts = parts; partitions = items } ≡ c) (size : IsSized sites parts (length items)) (at : PartId) (i : ℕ) (is : i ≡ index_of parts at) where
  pub at_index : i ≡ index_of c.parts at
  at_index = is ∙ ap (λ (h : Held E D). index_of h.parts at) view

  pub is_within : i < sites * parts → index_of c.parts at < length c.partitions
  is_within below = subst (λ k. k < length c.partitions) at_index (subst (λ (h : Held E D). i < length h.partitions) view (subst (λ n. i < n) (sym size.all) below))

  pub found_at : (t : Durable E D) → t ≡ get_or items i t → t ≡ get_or c.partitions (index_of c.parts at) t
  found_at t there = there ∙ (ap (λ (h : Held E D). get_or h.partitions i t) view ∙ ap (λ k. get_or c.partitions k t) at_index)

  pub is_at : i < sites * parts → (t : Durable E D) → t ≡ get_or items i t → IsAt c at t
  is_at below t there other = same_there c.partitions (index_of c.parts at) t other (is_within below) ∙ sym (found_at t there)

  pub down_at : i < sites * parts → (t : Durable E D) → t ≡ get_or items i t → (b : Bool) → b ≡ is_down t → IsDownAt c at b
  down_at below t there b e u h = ap (λ (x : Durable E D). is_down x) (sym (h t) ∙ is_at below t there t) ∙ sym e
