-- What a relation of the lines tells is one thing.
use Rattle.std.proofs.Common.{◌≡◌, ◌≢◌, ◌⊎◌, ⊎_elim, inl, inr, ℕ, zero, suc, ◌+◌, ◌-◌, ◌<◌, ◌≤◌, Bool, true, false, List, [], ◌∷◌, length, arith, refl, sym, ◌∙◌, subst}
use Rattle.std.specs.Prelude.{◌==◌, cond, slice_index}
use Rattle.std.proofs.lemmas.Bool.{cases_Bool, cases_eq}
use Rattle.site_vector.specs.declared.ids.PartId.{PartId}
use Rattle.site_vector.specs.declared.ids.TxId.{TxId}
use Rattle.site_vector.specs.Ids.{same_tx}
use Rattle.site_vector.specs.Order.{same_tx_is, same_tx_refl}
use Rattle.site_vector.specs.Vector.{entry}
use Rattle.world_model.proofs.Names.{clash}
use Rattle.world_model.specs.lines.Lines.{Line, Wish}
use Rattle.world_model.specs.lines.Listed.{IsBoundBy, IsFirstBy, IsIdBefore, IsBefore}
use Rattle.world_model.specs.lines.Places.{IsOther}
use Rattle.world_model.specs.lines.Bounds.{IsLeast, IsLeastBehind, IsOwnStable, heard}
use Rattle.world_model.specs.lines.Fresh.{OwnEntry, IsSnapshot, IsStable, ShowsBounds}

one_sided : (now : ℕ) (pending : TxId → Bool) (prepared : TxId → ℕ) (b c : ℕ) → IsBoundBy now pending prepared b → IsBoundBy now pending prepared c → c ≤ b
one_sided now pending prepared b c h k = ⊎_elim
    (λ (e : b ≡ now). let m = k.most in omega arith)
    (λ (x : (u : TxId) × (pending u ≡ true) × (prepared u ≡ b + 1)). let e = x.2 in let l = k.below x.0 x.1 in omega arith)
    h.reached

pub one_bound : (now : ℕ) (pending : TxId → Bool) (prepared : TxId → ℕ) (b c : ℕ) → IsBoundBy now pending prepared b → IsBoundBy now pending prepared c → b ≡ c
one_bound now pending prepared b c h k = let x = one_sided now pending prepared b c h k in let y = one_sided now pending prepared c b k h in omega arith

pub one_least : (n : ℕ) (known : ℕ → ℕ) (a b : ℕ) → IsLeast n known a → IsLeast n known b → a ≡ b
one_least n known a b h k =
    let x = h.reached in let y = k.reached in
    let l = h.below y.0 y.1 y.2 in let m = k.below x.0 x.1 x.2 in
    let e = x.3 in let f = y.3 in omega arith

-- two vectors of one length with the same entries
pub one_list : (u v : List ℕ) → length u ≡ length v → ((i : ℕ) → i < length u → slice_index u i ≡ slice_index v i) → u ≡ v
one_list [] [] l h = refl
one_list [] (m ∷ v) l h = absurd (omega arith)
one_list (n ∷ u) [] l h = absurd (omega arith)
one_list (n ∷ u) (m ∷ v) l h =
    let a : n ≡ m = h zero (omega arith) in
    let rest = one_list u v (omega arith) (λ i k. h (suc i) (omega arith)) in
    λ i. a i ∷ rest i

pub one_vector : (sites : ℕ) (u v : List ℕ) → length u ≡ sites → length v ≡ sites → ((j : ℕ) → 1 ≤ j → j ≤ sites → entry u j ≡ entry v j) → u ≡ v
one_vector sites u v a b h = one_list u v (a ∙ sym b) (λ i k. let e : suc i - 1 ≡ i = omega arith in subst (λ x. slice_index u x ≡ slice_index v x) e (h (suc i) (omega arith) (omega arith)))

-- an own entry and those of the other sites make a vector
pub one_by_site : (sites d : ℕ) (u v : List ℕ) → length u ≡ sites → length v ≡ sites → entry u d ≡ entry v d → ((j : ℕ) → IsOther sites d j → entry u j ≡ entry v j) → u ≡ v
one_by_site sites d u v a b own h = one_vector sites u v a b (λ j l m. ⊎_elim
    (λ (e : j ≡ d). subst (λ k. entry u k ≡ entry v k) (sym e) own)
    (λ (ne : j ≢ d). h j (record { least = l; most = m; apart = ne }))
    (cases_eq j d))

-- what is stable of the own site
pub one_own_stable : (parts : ℕ) (ls : List Line) (p : PartId) (n m : ℕ) → IsOwnStable parts ls p n → IsOwnStable parts ls p m → n ≡ m
one_own_stable parts ls p n m h k =
    let e : h.0 ≡ k.0 = one_bound _ _ _ h.0 k.0 h.1 k.1 in
    one_least parts (λ q. cond (p.part == q) k.0 (heard ls p q p.site)) n m (subst (λ x. IsLeast parts (λ q. cond (p.part == q) x (heard ls p q p.site)) n) e h.2) k.2

pub one_own_entry : (parts : ℕ) (ls : List Line) (p : PartId) (wish : Wish) (time n m : ℕ) (b : Bool) → OwnEntry parts ls p wish time n b → OwnEntry parts ls p wish time m b → n ≡ m
one_own_entry parts ls p wish time n m false h k = h ∙ sym k
one_own_entry parts ls p wish time n m true h k = one_own_stable parts ls p n m h k

module _ (sites parts d : ℕ) (known : ℕ → ℕ → ℕ) (counts : Bool) (Own : ℕ → Type 0) (one_own : (n m : ℕ) → Own n → Own m → n ≡ m) (v : List ℕ) where
  abbrev Behind : ℕ → ℕ → Type 0
  Behind j n = IsLeastBehind sites parts d known counts Own v j n

  abbrev IsOthers : ℕ → ℕ → Type 0
  IsOthers j n = IsOther sites d j × IsLeast parts (known j) n

  abbrev IsOwns : ℕ → ℕ → Type 0
  IsOwns j n = (counts ≡ true) × (j ≡ d) × Own n

  -- another site that lags comes no later than where the other wait is for
  at_most : (j k n m : ℕ) → IsOthers j n → n < entry v j → Behind k m → k ≤ j
  at_most j k n m h l i = let r = h.1.reached in i.least j h.0 (r.0, r.1, r.2, (let e = r.3 in omega arith))

  -- the own site isn't waited for where another that comes before it is
  not_own : {A : Type 0} (j k n m : ℕ) → IsOthers j n → Behind j n → IsOwns k m → Behind k m → A
  not_own j k n m h b o c =
      let e = o.1 in
      let l = at_most j k n m h b.behind c in
      let ne = h.0.apart in
      let x = b.own (omega arith) o.0 in
      let same : m ≡ x.0 = one_own m x.0 o.2 x.1 in
      let behind : m < entry v d = subst (λ i. m < entry v i) e c.behind in
      let enough = x.2 in absurd (omega arith)

  pub one_behind : (j k n m : ℕ) → Behind j n → Behind k m → (j ≡ k) × (n ≡ m)
  one_behind j k n m b c = ⊎_elim
      (λ (h : IsOthers j n). ⊎_elim
      (λ (i : IsOthers k m).
      let x = at_most j k n m h b.behind c in let y = at_most k j m n i c.behind b in
      let e : j ≡ k = omega arith in
      (e, one_least parts (known k) n m (subst (λ z. IsLeast parts (known z) n) e h.1) i.1))
      (λ (i : IsOwns k m). not_own j k n m h b i c)
      c.have)
      (λ (h : IsOwns j n). ⊎_elim
      (λ (i : IsOthers k m). not_own k j m n i c h b)
      (λ (i : IsOwns k m). (h.1 ∙ sym i.1, one_own n m h.2 i.2))
      c.have)
      b.have

tx_cases : (t u : TxId) → (t ≡ u) ⊎ (t ≢ u)
tx_cases t u = ⊎_elim
    (λ (e : same_tx t u ≡ true). inl (same_tx_is t u e))
    (λ (e : same_tx t u ≡ false). inr (λ k. clash (subst (λ y. same_tx t y ≡ true) k (same_tx_refl t)) e))
    (cases_Bool (same_tx t u))

no_id_before : (t u : TxId) → IsIdBefore t u → IsIdBefore u t → ⊥
no_id_before t u h k = ⊎_elim
    (λ (a : t.site < u.site). ⊎_elim (λ (b : u.site < t.site). omega arith) (λ (b : (u.site ≡ t.site) × ((u.part < t.part) ⊎ ((u.part ≡ t.part) × (u.time < t.time)))). let e = b.0 in omega arith) k)
    (λ (a : (t.site ≡ u.site) × ((t.part < u.part) ⊎ ((t.part ≡ u.part) × (t.time < u.time)))). let s = a.0 in ⊎_elim
    (λ (b : u.site < t.site). omega arith)
    (λ (b : (u.site ≡ t.site) × ((u.part < t.part) ⊎ ((u.part ≡ t.part) × (u.time < t.time)))). ⊎_elim
    (λ (x : t.part < u.part). ⊎_elim (λ (y : u.part < t.part). omega arith) (λ (y : (u.part ≡ t.part) × (u.time < t.time)). let e = y.0 in omega arith) b.1)
    (λ (x : (t.part ≡ u.part) × (t.time < u.time)). let e = x.0 in let f = x.1 in ⊎_elim (λ (y : u.part < t.part). omega arith) (λ (y : (u.part ≡ t.part) × (u.time < t.time)). let g = y.1 in omega arith) b.1)
    a.1)
    k)
    h

never_both : (x y : TxId × ℕ) → IsBefore x y → IsBefore y x → ⊥
never_both x y h k = ⊎_elim
    (λ (a : x.1 < y.1). ⊎_elim (λ (b : y.1 < x.1). omega arith) (λ (b : (y.1 ≡ x.1) × IsIdBefore y.0 x.0). let e = b.0 in omega arith) k)
    (λ (a : (x.1 ≡ y.1) × IsIdBefore x.0 y.0). let s = a.0 in ⊎_elim (λ (b : y.1 < x.1). omega arith) (λ (b : (y.1 ≡ x.1) × IsIdBefore y.0 x.0). no_id_before x.0 y.0 a.1 b.1) k)
    h

module _ (now : ℕ) (pending : TxId → Bool) (prepared : TxId → ℕ) (s : ℕ) (touches : TxId → Bool) where
  pub one_first : (t u : TxId) (n m : ℕ) → IsFirstBy now pending prepared s touches t n → IsFirstBy now pending prepared s touches u m → t ≡ u
  one_first t u n m h k = ⊎_elim
      (λ (e : t ≡ u). e)
      (λ (ne : t ≢ u). absurd (never_both (t, n) (u, m)
      (subst (λ x. IsBefore (t, n) (u, x)) (sym k.time) (h.first u (λ e. ne (sym e)) k.waiting k.changes))
      (subst (λ x. IsBefore (u, m) (t, x)) (sym h.time) (k.first t ne h.waiting h.changes))))
      (tx_cases t u)

pub one_snapshot : (sites parts : ℕ) (before : List Line) (p : PartId) (wish : Wish) (t : TxId) (s u : List ℕ) → IsSnapshot sites parts before p wish t s → IsSnapshot sites parts before p wish t u → s ≡ u
one_snapshot sites parts before p wish t s u h k = one_by_site sites p.site s u h.width k.width (one_own_entry parts before p wish t.time (entry s p.site) (entry u p.site) wish.stable h.own k.own) (λ j o. one_least parts _ (entry s j) (entry u j) (h.others j o) (k.others j o))

pub one_report : (sites : ℕ) (before : List Line) (p : PartId) (u v : List ℕ) → ShowsBounds sites before p u → ShowsBounds sites before p v → u ≡ v
one_report sites before p u v h k = one_by_site sites p.site u v h.width k.width (one_bound _ _ _ (entry u p.site) (entry v p.site) h.own k.own) (λ j o. h.others j o ∙ sym (k.others j o))

pub one_stable : (sites parts : ℕ) (ls : List Line) (p : PartId) (u v : List ℕ) → IsStable sites parts ls p u → IsStable sites parts ls p v → u ≡ v
one_stable sites parts ls p u v h k =
    let b = h.own in let c = k.own in
    let e : b.0 ≡ c.0 = one_bound _ _ _ b.0 c.0 b.1 c.1 in
    one_by_site sites p.site u v h.width k.width
    (one_least parts (λ q. cond (p.part == q) c.0 (heard ls p q p.site)) (entry u p.site) (entry v p.site) (subst (λ x. IsLeast parts (λ q. cond (p.part == q) x (heard ls p q p.site)) (entry u p.site)) e b.2) c.2)
    (λ j o. one_least parts _ (entry u j) (entry v j) (h.others j o) (k.others j o))
