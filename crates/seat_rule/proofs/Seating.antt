-- The views of seats after one of them has changed.
use Rattle.std.proofs.Common.{◌≡◌, ◌≢◌, ⊎_elim, ℕ, List, set, true, false, true≢false, sym, subst}
use mathlib.Core.Option.{some}
use lib.ListN.{get_elem?}
use Rattle.atomic_table.proofs.Lists.{at_set}

pub off : {X : Type 0} → false ≡ true → X
off e = absurd (true≢false (sym e))

pub view_set : {V : Type 0} (P : ℕ → V → Type 0) (views : List V) (by : ℕ) (w : V) → ((j : ℕ) (u : V) → j ≢ by → get_elem? views j ≡ some u → P j u) → P by w → (j : ℕ) (u : V) → get_elem? (set views by w) j ≡ some u → P j u
view_set {V} P views by w others mine j u e =
    ⊎_elim
    (λ (x : (j ≡ by) × (w ≡ u)). subst (λ (y : ℕ × V). P y.0 y.1) (λ i. (sym x.0 i, x.1 i)) mine)
    (λ (x : (j ≢ by) × (get_elem? views j ≡ some u)). others j u x.0 x.1)
    (at_set views by j w u e)
