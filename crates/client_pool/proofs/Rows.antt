-- What a pass's least number is, and which calls bear a number.
use Rattle.std.proofs.Common.{◌≡◌, ◌≢◌, inr, ℕ, ◌≤◌, ◌==◌, cond, Bool, true, List, [], ◌∷◌, sym, ◌∙◌, eq-eqb, ne_eqb, arith}
use Rattle.txn_session.specs.Calls.{Call}
use Rattle.txn_session.specs.Numbers.{IsLeast, made_by}
use Rattle.client_pool.specs.Deeds.{Deed, Follows, is_between}

-- the least number of a pass is one
pub one_least : (old new : ℕ → Bool) (a b : ℕ) → ((n : ℕ) → new n ≡ old n) → IsLeast old a → IsLeast new b → b ≡ a
one_least old new a b same l m =
    let x : b ≤ a = m.1 a (same a ∙ l.0) in
    let y : a ≤ b = l.1 b (sym (same b) ∙ m.0) in
    omega arith

pub least_same : (old new : ℕ → Bool) (k : ℕ) → ((n : ℕ) → new n ≡ old n) → IsLeast old k → IsLeast new k
least_same old new k same l = (same k ∙ l.0, λ n h. l.1 n (sym (same n) ∙ h))

module _ {E : Type 0} where
  pub made_own : (n : ℕ) (c : Call E) (run : List (Call E)) → c.by ≡ n → made_by n (c ∷ run) ≡ c ∷ made_by n run
  made_own n c run h = λ i. cond (eq-eqb c.by n h i) (c ∷ made_by n run) (made_by n run)

  pub made_other : (n : ℕ) (c : Call E) (run : List (Call E)) → c.by ≢ n → made_by n (c ∷ run) ≡ made_by n run
  made_other n c run h = λ i. cond (ne_eqb c.by n h i) (c ∷ made_by n run) (made_by n run)

  pub between : (done : List Deed) (c : Call E) (calls : List (Call E)) → is_between c.entry.event ≡ true → Follows done calls → Follows done (c ∷ calls)
  between [] c calls h f = (h, f)
  between (d ∷ done) c calls h f = inr (h, f)
