-- The queue of what waits at a partition, as a settle takes from it: what stays is in front, and the next one is first behind it.
use Rattle.std.proofs.Common.{◌≡◌, inl, inr, ℕ, Bool, true, false, true≢false, List, [], ◌∷◌, ◌++◌, map, refl, sym, ap, ◌∙◌}
use Rattle.std.specs.Prelude.{not, ⊤}
use Rattle.std.proofs.lemmas.Bool.{false_from_ne_true, cond-true, cond-false}
use Rattle.site_vector.specs.declared.ids.PartId.{PartId}
use Rattle.site_vector.specs.declared.ids.TxId.{TxId}
use Rattle.site_vector.specs.Ids.{same_tx}
use Rattle.site_vector.specs.Order.{same_tx_is, same_tx_refl}
use Rattle.world_model.specs.declared.step.Step.{Step}
use Rattle.world_model.specs.declared.step.Step.TheVariants as step
use Rattle.world_model.specs.lines.Lines.{Line}
use Rattle.world_model.specs.commands.Settling.{settled, stays, is_unwritten, first_end, ends_as_lead, SettlesAll}
use Rattle.world_model.specs.lines.Waiting.{without}
use Rattle.cluster.proofs.Telling.{AreOther, AreOnce}

abbrev pub names_of : List (TxId × ℕ) → List TxId
names_of xs = map (λ x. x.0) xs

-- all are so
abbrev pub AllSo : (TxId → Bool) → List (TxId × ℕ) → Type 0
AllSo f [] = ⊤
AllSo f (x ∷ xs) = (f x.0 ≡ true) × AllSo f xs

pub all_so_more : (f : TxId → Bool) (front : List (TxId × ℕ)) (y : TxId × ℕ) → AllSo f front → f y.0 ≡ true → AllSo f (front ++ y ∷ [])
all_so_more f [] y h k = (k, tt)
all_so_more f (x ∷ front) y h k = (h.0, all_so_more f front y h.1 k)

others_stay : (t : TxId) (xs : List (TxId × ℕ)) → AreOther t (names_of xs) → without t xs ≡ xs
others_stay t [] a = refl
others_stay t (x ∷ xs) a = cond-true (not (same_tx t x.0)) (x ∷ without t xs) (without t xs) (ap not a.0) ∙ ap (λ l. x ∷ l) (others_stay t xs a.1)

apart_in : (t : TxId) (front : List (TxId × ℕ)) (y : TxId × ℕ) (todo : List (TxId × ℕ)) → AreOther t (names_of (front ++ y ∷ todo)) → same_tx t y.0 ≡ false
apart_in t [] y todo a = a.0
apart_in t (x ∷ front) y todo a = apart_in t front y todo a.1

turned : (t u : TxId) → same_tx t u ≡ false → same_tx u t ≡ false
turned t u h = false_from_ne_true (same_tx u t) (λ k. true≢false (sym (ap (λ x. same_tx x u) (sym (same_tx_is u t k)) ∙ same_tx_refl u) ∙ h))

-- each stands once, so one that ends leaves all others
pub without_one : (front : List (TxId × ℕ)) (y : TxId × ℕ) (todo : List (TxId × ℕ)) → AreOnce (names_of (front ++ y ∷ todo)) → without y.0 (front ++ y ∷ todo) ≡ front ++ todo
without_one [] y todo o = cond-false (not (same_tx y.0 y.0)) (y ∷ without y.0 todo) (without y.0 todo) (ap not (same_tx_refl y.0)) ∙ others_stay y.0 todo o.0
without_one (x ∷ front) y todo o =
    cond-true (not (same_tx y.0 x.0)) (x ∷ without y.0 (front ++ y ∷ todo)) (without y.0 (front ++ y ∷ todo)) (ap not (turned x.0 y.0 (apart_in x.0 front y todo o.0)))
    ∙ ap (λ l. x ∷ l) (without_one front y todo o.1)

module _ (parts : ℕ) (ls : List Line) (p : PartId) where
  -- the first that doesn't stay is the next to be ended
  pub first_is : (f : TxId → Bool) → ((u : TxId) → stays parts ls p u ≡ f u) → (front : List (TxId × ℕ)) (y : TxId × ℕ) (todo : List (TxId × ℕ)) → AllSo f front → stays parts ls p y.0 ≡ false → first_end parts ls p (front ++ y ∷ todo) ≡ ends_as_lead ls y.0
  first_is f same [] y todo h k = cond-false (stays parts ls p y.0) (first_end parts ls p todo) (ends_as_lead ls y.0) k
  first_is f same (x ∷ front) y todo h k =
      cond-true (stays parts ls p x.0) (first_end parts ls p (front ++ y ∷ todo)) (ends_as_lead ls x.0) (same x.0 ∙ h.0) ∙ first_is f same front y todo h.1 k

  abbrev pub lines_for : List (TxId × ℕ) → List Step
  lines_for waits = map (λ x. settled parts ls p x.0) waits

  -- a settle that wrote every end
  pub settles_all : (waits : List (TxId × ℕ)) → SettlesAll parts ls p waits (lines_for waits ++ step.Settled p ∷ [])
  settles_all [] = (refl, refl)
  settles_all (x ∷ waits) = inl (refl, settles_all waits)

  -- one that couldn't write the next one
  pub settles_front : (done : List (TxId × ℕ)) (y : TxId × ℕ) (todo : List (TxId × ℕ)) (s : Step) → stays parts ls p y.0 ≡ false → is_unwritten s ≡ true → SettlesAll parts ls p (done ++ y ∷ todo) (lines_for done ++ s ∷ [])
  settles_front [] y todo s h k = inr (h, k, refl)
  settles_front (x ∷ done) y todo s h k = inl (refl, settles_front done y todo s h k)

  pub lines_more : (done : List (TxId × ℕ)) (y : TxId × ℕ) → lines_for (done ++ y ∷ []) ≡ lines_for done ++ settled parts ls p y.0 ∷ []
  lines_more [] y = refl
  lines_more (x ∷ done) y = ap (λ l. settled parts ls p x.0 ∷ l) (lines_more done y)
