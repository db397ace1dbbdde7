-- A message has as many parts as lines say.
use Rattle.std.proofs.Common.{◌≡◌, ⊎_elim, ℕ, ◌+◌, ltb, cond, Bool, true, false, ◌||◌, List, [], ◌∷◌, length, refl, sym, ap, ◌∙◌, subst, arith}
use Rattle.std.specs.Prelude.{filter}
use Rattle.std.specs.List.{list_any}
use Rattle.std.specs.Cmp.{IsTotalOrder}
use Rattle.std.specs.declared.cmp.Ordering.{Ordering}
use Rattle.std.specs.declared.cmp.Ordering.TheVariants.{Less, Equal}
use Rattle.std.specs.Ordering.{nat_cmp, ordering_then}
use Rattle.std.proofs.lemmas.Cmp.{nat_cmp_total, on_total, then_total, tied_itself}
use Rattle.std.proofs.lemmas.Bool.{or_left, or_right, or_cases, or_from, false_from_ne_true}
use Rattle.site_vector.specs.declared.ids.TxId.{TxId}
use Rattle.site_vector.specs.Ids.{same_tx}
use Rattle.site_vector.specs.Order.{tx_cmp, tx_cmp_total, same_tx_is, same_tx_refl}
use Rattle.site_vector.specs.Vector.{entry}
use Rattle.crdt_core.specs.declared.record.Upd.{Upd}
use Rattle.crdt_core.specs.declared.record.Part.{Part}
use Rattle.crdt_core.specs.Parts.{lists}
use Rattle.crdt_core.specs.Orders.{Precede, Ascends, stream_cmp}
use Rattle.crdt_core.specs.Parts.{AreParts, above}
use Rattle.world_model.specs.events.Restarts.{is_some_part}
use Rattle.world_model.proofs.Names.{clash, off}
use Rattle.world_model.proofs.Orders.{is_in, IsOnce, with_one, one_longer, none_pass}

or_none : (b : Bool) → (b || false) ≡ b
or_none true = refl
or_none false = refl

or_assoc : (a b c : Bool) → ((a || b) || c) ≡ (a || (b || c))
or_assoc true b c = refl
or_assoc false b c = refl

-- the order of transactions in a message
abbrev stream_before : (TxId → List ℕ) → ℕ → TxId → TxId → Ordering
stream_before f site t u = ordering_then (nat_cmp (entry (f t) site) (entry (f u) site)) (tx_cmp t u)

stream_total : (f : TxId → List ℕ) (site : ℕ) → IsTotalOrder (stream_before f site)
stream_total f site = then_total (on_total (λ (t : TxId). entry (f t) site) nat_cmp_total) tx_cmp_total

stream_self : (f : TxId → List ℕ) (site : ℕ) (t : TxId) → stream_before f site t t ≡ Less → ⊥
stream_self f site t h = less_not_equal (sym h ∙ tied_itself (stream_total f site) t)
  where
    less_not_equal : Less ≡ Equal → ⊥
    less_not_equal e = absurd (cc e)

pub both_ways : (a b : Bool) → (a ≡ true → b ≡ true) → (b ≡ true → a ≡ true) → a ≡ b
both_ways true b h k = sym (h refl)
both_ways false true h k = k refl
both_ways false false h k = refl

-- who passes, and whether someone does
pub found_in : (ts : List TxId) (p : TxId → Bool) → list_any p ts ≡ true → (t : TxId) × (is_in ts t ≡ true) × (p t ≡ true)
found_in [] p h = off h
found_in (t ∷ ts) p h = ⊎_elim
    (λ (k : p t ≡ true). (t, or_left _ _ (same_tx_refl t), k))
    (λ (k : list_any p ts ≡ true). let r = found_in ts p k in (r.0, or_right _ _ r.1, r.2))
    (or_cases _ _ h)

pub any_in : (ts : List TxId) (p : TxId → Bool) (t : TxId) → is_in ts t ≡ true → p t ≡ true → list_any p ts ≡ true
any_in [] p t h k = off h
any_in (u ∷ ts) p t h k = ⊎_elim
    (λ (e : same_tx u t ≡ true). or_left _ _ (subst (λ x. p x ≡ true) (sym (same_tx_is u t e)) k))
    (λ (e : is_in ts t ≡ true). or_right _ _ (any_in ts p t e k))
    (or_cases _ _ h)

pub some_above : {E : Type 0} (site b : ℕ) (xs : List (Part E)) → is_some_part (above site b xs) ≡ list_any (λ x. ltb b (entry x.c site)) xs
some_above site b [] = refl
some_above site b (x ∷ xs) = go (ltb b (entry x.c site)) (some_above site b xs)
  where
    go : (c : Bool) → is_some_part (above site b xs) ≡ list_any (λ y. ltb b (entry y.c site)) xs → is_some_part (cond c (x ∷ above site b xs) (above site b xs)) ≡ (c || list_any (λ y. ltb b (entry y.c site)) xs)
    go true h = refl
    go false h = h

module _ {E : Type 0} (f : TxId → List ℕ) (g : TxId → List (Upd E)) (site : ℕ) where
  -- no part comes twice
  pub stream_apart : (x : Part E) (ys : List (Part E)) → x.c ≡ f x.tx → AreParts f g ys → Precede (stream_cmp site) x ys → lists ys x.tx ≡ false
  stream_apart x [] a p h = refl
  stream_apart x (y ∷ ys) a p h = or_from _ _
      (false_from_ne_true _ (λ e.
      let same = same_tx_is y.tx x.tx e in
      let c : stream_cmp site x y ≡ stream_before f site x.tx x.tx = (λ i. ordering_then (nat_cmp (entry (a i) site) (entry (p.0.0 i) site)) (tx_cmp x.tx y.tx)) ∙ ap (λ t. stream_before f site x.tx t) same in
      stream_self f site x.tx (sym c ∙ h.0)))
      (stream_apart x ys a p.1 h.1)

  count_put : (hs : List TxId) → IsOnce hs → (parts : List (Part E)) (done : TxId → Bool) → AreParts f g parts → Ascends (stream_cmp site) parts → ((t : TxId) → lists parts t ≡ true → is_in hs t ≡ true) → ((t : TxId) → lists parts t ≡ true → done t ≡ false) → length (filter (λ t. done t || lists parts t) hs) ≡ length (filter done hs) + length parts
  count_put hs once [] done a b c d =
      let e : length (filter (λ t. done t || false) hs) ≡ length (filter done hs) = λ i. length (filter (λ t. or_none (done t) i) hs) in omega arith
  count_put hs once (x ∷ xs) done a b c d =
      let mine : lists (x ∷ xs) x.tx ≡ true = or_left _ _ (same_tx_refl x.tx) in
      let apart = stream_apart x xs a.0.0 a.1 b.0 in
      let rest = count_put hs once xs (with_one done x.tx) a.1 b.1 (λ t h. c t (or_right _ _ h)) (λ t h. or_from _ _ (d t (or_right _ _ h)) (false_from_ne_true _ (λ e. clash (subst (λ y. lists xs y ≡ true) (sym (same_tx_is x.tx t e)) h) apart))) in
      let one = one_longer hs done x.tx once (c x.tx mine) (d x.tx mine) in
      let e : length (filter (λ t. done t || (same_tx x.tx t || lists xs t)) hs) ≡ length (filter (λ t. with_one done x.tx t || lists xs t) hs) = λ i. length (filter (λ t. sym (or_assoc (done t) (same_tx x.tx t) (lists xs t)) i) hs) in
      omega arith

  -- the parts of a message are as many as those that the list has
  pub parts_counted : (hs : List TxId) → IsOnce hs → (parts : List (Part E)) → AreParts f g parts → Ascends (stream_cmp site) parts → ((t : TxId) → lists parts t ≡ true → is_in hs t ≡ true) → length parts ≡ length (filter (λ t. lists parts t) hs)
  parts_counted hs once parts a b c =
      let put = count_put hs once parts (λ t. false) a b c (λ t h. refl) in
      let none : length (filter (λ (t : TxId). false) hs) ≡ 0 = ap length (none_pass hs) in
      omega arith

  pub part_above : (b : ℕ) (xs : List (Part E)) → AreParts f g xs → (t : TxId) → lists xs t ≡ true → ltb b (entry (f t) site) ≡ true → list_any (λ x. ltb b (entry x.c site)) xs ≡ true
  part_above b [] a t h k = off h
  part_above b (x ∷ xs) a t h k = ⊎_elim
      (λ (e : same_tx x.tx t ≡ true). or_left _ _ (ap (λ v. ltb b (entry v site)) (a.0.0 ∙ ap f (same_tx_is x.tx t e)) ∙ k))
      (λ (e : lists xs t ≡ true). or_right _ _ (part_above b xs a.1 t e k))
      (or_cases _ _ h)

  pub above_part : (b : ℕ) (xs : List (Part E)) → AreParts f g xs → list_any (λ x. ltb b (entry x.c site)) xs ≡ true → (t : TxId) × (lists xs t ≡ true) × (ltb b (entry (f t) site) ≡ true)
  above_part b [] a h = off h
  above_part b (x ∷ xs) a h = ⊎_elim
      (λ (k : ltb b (entry x.c site) ≡ true). (x.tx, or_left _ _ (same_tx_refl x.tx), ap (λ v. ltb b (entry v site)) (sym a.0.0) ∙ k))
      (λ (k : list_any (λ y. ltb b (entry y.c site)) xs ≡ true). let r = above_part b xs a.1 k in (r.0, or_right _ _ r.1, r.2))
      (or_cases _ _ h)
