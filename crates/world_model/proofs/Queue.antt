-- The order of what is pending, and of what is sent, as the rules compare it, in words.
use Rattle.std.proofs.Common.{◌≡◌, ◌≢◌, ◌⊎◌, inl, inr, ℕ, ◌<◌, List, [], ◌∷◌, sym, subst}
use Rattle.std.specs.Ordering.{nat_cmp, ordering_then, MatchOrdering}
use Rattle.std.specs.Cmp.{ranks}
use Rattle.std.specs.declared.cmp.Ordering.{Ordering}
use Rattle.std.specs.declared.cmp.Ordering.TheVariants.{Less, Equal, Greater}
use Rattle.std.proofs.lemmas.Cmp.{by_ranked}
use Rattle.site_vector.specs.declared.ids.TxId.{TxId}
use Rattle.site_vector.specs.Order.{tx_cmp}
use Rattle.site_vector.specs.Vector.{entry}
use Rattle.crdt_core.specs.declared.record.Part.{Part}
use Rattle.crdt_core.specs.Orders.{pending_cmp, stream_cmp, Precede, Ascends}
use Rattle.world_model.specs.lines.Listed.{IsIdBefore, IsBefore, IsBeforeAll, AreInOrder}
use Rattle.world_model.specs.events.Streams.{IsSentBefore}

-- by a number, and then by what is left
then_ranks : (A Q B : Type 0) (m n : ℕ) (s : Ordering) → MatchOrdering s A Q B → MatchOrdering (ordering_then (nat_cmp m n) s) ((m < n) ⊎ ((m ≡ n) × A)) ((m ≡ n) × Q) ((n < m) ⊎ ((n ≡ m) × B))
then_ranks A Q B m n s b = go (nat_cmp m n) s (ranks m n) b
  where
    go : (r s : Ordering) → MatchOrdering r (m < n) (m ≡ n) (n < m) → MatchOrdering s A Q B → MatchOrdering (ordering_then r s) ((m < n) ⊎ ((m ≡ n) × A)) ((m ≡ n) × Q) ((n < m) ⊎ ((n ≡ m) × B))
    go Less s a b = inl a
    go Equal Less a b = inr (a, b)
    go Equal Equal a b = (a, b)
    go Equal Greater a b = inr (sym a, b)
    go Greater s a b = inl a

abbrev IsSameId : TxId → TxId → Type 0
IsSameId t u = (t.site ≡ u.site) × ((t.part ≡ u.part) × (t.time ≡ u.time))

id_ranks : (t u : TxId) → MatchOrdering (tx_cmp t u) (IsIdBefore t u) (IsSameId t u) (IsIdBefore u t)
id_ranks t u = then_ranks _ _ _ t.site u.site _ (then_ranks _ _ _ t.part u.part _ (ranks t.time u.time))

-- the rules' order is that of the words
queue_ranks : (x y : TxId × ℕ) → MatchOrdering (pending_cmp x y) (IsBefore x y) ((x.1 ≡ y.1) × IsSameId x.0 y.0) (IsBefore y x)
queue_ranks x y = then_ranks _ _ _ x.1 y.1 _ (id_ranks x.0 y.0)

-- of two transactions the one that isn't after the other is before it
pub first_is : (x y : TxId × ℕ) → pending_cmp y x ≢ Less → y.0 ≢ x.0 → IsBefore x y
first_is x y late apart = by_ranked (IsBefore y x) ((y.1 ≡ x.1) × IsSameId y.0 x.0) (IsBefore x y) (pending_cmp y x) (queue_ranks y x)
    (λ l h. absurd (late l))
    (λ e h. absurd (apart (λ i. record { site = h.1.0 i; part = h.1.1.0 i; time = h.1.1.1 i })))
    (λ g h. h)

-- what ascends by a comparison is in the order that the words tell
module _ {A : Type 0} (cmp : A → A → Ordering) (Before Same : A → A → Type 0) (ranks_of : (x y : A) → MatchOrdering (cmp x y) (Before x y) (Same x y) (Before y x)) where
  all_after : (x : A) (ys : List A) → Precede cmp x ys → IsBeforeAll Before x ys
  all_after x [] h = tt
  all_after x (y ∷ ys) h = (subst (λ r. MatchOrdering r (Before x y) (Same x y) (Before y x)) h.0 (ranks_of x y), all_after x ys h.1)

  in_words : (xs : List A) → Ascends cmp xs → AreInOrder Before xs
  in_words [] h = tt
  in_words (x ∷ xs) h = (all_after x xs h.0, in_words xs h.1)

pub in_order : (xs : List (TxId × ℕ)) → Ascends pending_cmp xs → AreInOrder IsBefore xs
in_order xs h = in_words pending_cmp IsBefore (λ x y. (x.1 ≡ y.1) × IsSameId x.0 y.0) queue_ranks xs h

module _ {E : Type 0} where
  stream_ranks : (site : ℕ) (x y : Part E) → MatchOrdering (stream_cmp site x y) (IsSentBefore site x y) ((entry x.c site ≡ entry y.c site) × IsSameId x.tx y.tx) (IsSentBefore site y x)
  stream_ranks site x y = then_ranks _ _ _ (entry x.c site) (entry y.c site) _ (id_ranks x.tx y.tx)

  pub sent_in_order : (site : ℕ) (xs : List (Part E)) → Ascends (stream_cmp site) xs → AreInOrder (IsSentBefore site) xs
  sent_in_order site xs h = in_words (stream_cmp site) (IsSentBefore site) (λ x y. (entry x.c site ≡ entry y.c site) × IsSameId x.tx y.tx) (stream_ranks site) xs h
