-- How many updates a transaction made, by partition.
use Rattle.std.proofs.Common.{◌≡◌, ◌≢◌, ⊎_elim, ℕ, zero, suc, ◌+◌, ◌≤◌, ◌<◌, cond, Bool, true, false, List, [], ◌∷◌, length, refl, sym, ap, ◌∙◌, arith}
use Rattle.std.proofs.lemmas.Bool.{cases_eq}
use Rattle.std.proofs.lemmas.List.{length-append}
use Rattle.site_vector.specs.declared.ids.PartId.{PartId}
use Rattle.site_vector.specs.declared.ids.TxId.{TxId}
use Rattle.site_vector.specs.Ids.{same_part, same_tx}
use Rattle.site_vector.specs.Order.{same_tx_is}
use Rattle.crdt_core.specs.declared.record.Upd.{Upd}
use Rattle.crdt_core.specs.KindsOf.{Kinds}
use Rattle.world_model.specs.lines.Places.{IsPlace, partitions}
use Rattle.world_model.specs.rules.Event.{Event, Updated, Entry, attempt}
use Rattle.world_model.specs.rules.Partition.{PartState}
use Rattle.world_model.specs.rules.Plan.{Plan, updates_at, update_count, change_by, IsAllowed}
use Rattle.world_model.specs.rules.World.{plan_of, IsWorldRun}
use Rattle.world_model.proofs.Names.{part_same, part_other}
use Rattle.world_model.proofs.Silent.{AreSilent, Grown}
use Rattle.world_model.proofs.Carrying.{updates_same}

abbrev one_if : Bool → ℕ
one_if true = 1
one_if false = 0

abbrev sum_over : (PartId → ℕ) → List PartId → ℕ
sum_over f [] = 0
sum_over f (p ∷ ps) = f p + sum_over f ps

sums_same : (f g : PartId → ℕ) (ps : List PartId) → ((p : PartId) → f p ≡ g p) → sum_over f ps ≡ sum_over g ps
sums_same f g [] h = refl
sums_same f g (p ∷ ps) h = let a = h p in let b = sums_same f g ps h in omega arith

sums_add : (f g : PartId → ℕ) (ps : List PartId) → sum_over (λ p. f p + g p) ps ≡ sum_over f ps + sum_over g ps
sums_add f g [] = refl
sums_add f g (p ∷ ps) = let b = sums_add f g ps in omega arith

none_counted : (at : PartId) (site first n : ℕ) → at.part < first → sum_over (λ p. one_if (same_part at p)) (partitions site first n) ≡ 0
none_counted at site first zero h = refl
none_counted at site first (suc n) h =
    let here : one_if (same_part at (record { site = site; part = first })) ≡ 0 = ap one_if (part_other at (record { site = site; part = first }) (λ e. let k : at.part ≡ first = ap (λ x. x.part) e in absurd (omega arith))) in
    let i = none_counted at site (first + 1) n (omega arith) in omega arith

one_counted : (at : PartId) (site first n : ℕ) → at.site ≡ site → first ≤ at.part → at.part < first + n → sum_over (λ p. one_if (same_part at p)) (partitions site first n) ≡ 1
one_counted at site first zero s a b = absurd (omega arith)
one_counted at site first (suc n) s a b = ⊎_elim
    (λ (e : at.part ≡ first).
    let here : one_if (same_part at (record { site = site; part = first })) ≡ 1 = ap one_if (part_same at (record { site = site; part = first }) (λ i. record { site = s i; part = e i })) in
    let i = none_counted at site (first + 1) n (omega arith) in omega arith)
    (λ (ne : at.part ≡ first → ⊥).
    let apart : at.part ≢ first = ne in
    let here : one_if (same_part at (record { site = site; part = first })) ≡ 0 = ap one_if (part_other at (record { site = site; part = first }) (λ e. ne (ap (λ x. x.part) e))) in
    let i = one_counted at site (first + 1) n s (omega arith) (omega arith) in omega arith)
    (cases_eq at.part first)

module _ {E : Type 0} where
  -- nothing, or one update, which stands at a partition of the transaction's site
  change_sum : (sites parts : ℕ) (plan : Plan E) (run : List (Entry E)) (before : PartId → PartState E) (at : PartId) (a : Event E) (t : TxId) → IsPlace sites parts at → IsAllowed plan run before at (attempt a) → sum_over (λ p. length (cond (same_part at p) (change_by a t) [])) (partitions t.site 1 parts) ≡ length (change_by a t)
  change_sum sites parts plan run before at (Updated u s o own op read x stamp) t pl al = go (same_tx u t) refl
    where
      one : (b : Bool) → length {A = Upd E} (cond b (x ∷ []) []) ≡ one_if b
      one true = refl
      one false = refl

      go : (c : Bool) → same_tx u t ≡ c → sum_over (λ p. length (cond (same_part at p) (cond c (x ∷ []) []) [])) (partitions t.site 1 parts) ≡ length (cond c (x ∷ []) [])
      go true e =
          let site : at.site ≡ t.site = al.site ∙ ap (λ y. y.site) (same_tx_is u t e) in
          let low = pl.least_part in let high = pl.most_part in
          sums_same (λ p. length (cond (same_part at p) (x ∷ []) [])) (λ p. one_if (same_part at p)) (partitions t.site 1 parts) (λ p. one (same_part at p)) ∙ one_counted at t.site 1 parts site low (omega arith)
      go false e = nothing (partitions t.site 1 parts)
        where
          zero_at : (b : Bool) → length {A = Upd E} (cond b [] []) ≡ 0
          zero_at true = refl
          zero_at false = refl

          nothing : (ps : List PartId) → sum_over (λ p. length {A = Upd E} (cond (same_part at p) [] [])) ps ≡ 0
          nothing [] = refl
          nothing (p ∷ ps) = let a = zero_at (same_part at p) in let b = nothing ps in omega arith
  change_sum sites parts plan run before at a t pl al = nothing (partitions t.site 1 parts)
    where
      zero_at : (b : Bool) → length {A = Upd E} (cond b [] []) ≡ 0
      zero_at true = refl
      zero_at false = refl

      nothing : (ps : List PartId) → sum_over (λ p. length {A = Upd E} (cond (same_part at p) [] [])) ps ≡ 0
      nothing [] = refl
      nothing (p ∷ ps) = let a = zero_at (same_part at p) in let b = nothing ps in omega arith

  counted : {S : Type 0} (kinds : Kinds S E) (sites parts : ℕ) (run : List (Entry E)) (state : PartId → PartState E) (t : TxId) → IsWorldRun kinds sites parts run state → update_count run t ≡ sum_over (λ p. length (updates_at run t p)) (partitions t.site 1 parts)
  counted kinds sites parts [] state t r = none (partitions t.site 1 parts)
    where
      none : (ps : List PartId) → 0 ≡ sum_over (λ p. 0) ps
      none [] = refl
      none (p ∷ ps) = let b = none ps in omega arith
  counted kinds sites parts (e ∷ run) state t r =
      let i = counted kinds sites parts run r.0 t r.1 in
      let place : IsPlace sites parts e.at = record { least_site = r.2.place.least_site; most_site = r.2.place.most_site; least_part = r.2.place.least_part; most_part = r.2.place.most_part } in
      let old : PartId → ℕ = λ p. length (updates_at run t p) in
      let new : PartId → ℕ = λ p. length (cond (same_part e.at p) (change_by e.event t) []) in
      let c = change_sum sites parts (plan_of sites parts (e ∷ run)) run r.0 e.at e.event t place r.2.allowed in
      ap (λ n. n + length (change_by e.event t)) i ∙ ap (λ n. sum_over old (partitions t.site 1 parts) + n) (sym c) ∙ sym (sums_add old new (partitions t.site 1 parts))
      ∙ sums_same (λ p. old p + new p) (λ p. length (updates_at (e ∷ run) t p)) (partitions t.site 1 parts) (λ p. sym (length-append (updates_at run t p) (cond (same_part e.at p) (change_by e.event t) [])))

  pub count_same : {S : Type 0} (kinds : Kinds S E) (sites parts : ℕ) (t : TxId) (large small : List (Entry E)) (after before : PartId → PartState E) → IsWorldRun kinds sites parts large after → IsWorldRun kinds sites parts small before → (g : Grown large small) → ((p : PartId) → AreSilent (g.more p) t) → update_count large t ≡ update_count small t
  count_same kinds sites parts t large small after before r q g s =
      counted kinds sites parts large after t r ∙ sums_same (λ p. length (updates_at large t p)) (λ p. length (updates_at small t p)) (partitions t.site 1 parts) (λ p. ap length (updates_same t large small g s p)) ∙ sym (counted kinds sites parts small before t q)
