-- The live updates of a list depend on no order.
use Rattle.std.proofs.Common.{◌≡◌, Bool, cond, not, ◌&&◌, List, [], ◌∷◌, refl, ap, subst}
use Rattle.std.specs.Prelude.{filter}
use Rattle.crdt_core.specs.Same.{Same}
use Rattle.crdt_core.specs.Seen.{Update, sees, is_reset, is_live}
use Rattle.crdt_core.proofs.Confluence.{any_same, filter_same}

pub filter_by : {A : Type 0} (p q : A → Bool) → ((x : A) → p x ≡ q x) → (xs : List A) → filter p xs ≡ filter q xs
filter_by p q same [] = refl
filter_by p q same (x ∷ xs) = λ i. cond (same x i) (x ∷ filter_by p q same xs i) (filter_by p q same xs i)

pub live_same : (us vs : List Update) → Same us vs → (u : Update) → is_live us u ≡ is_live vs u
live_same us vs s u = ap not (any_same (λ r. is_reset r.act && sees r u.dot) us vs s)

-- what passes a test that depends on no order
pub tested_same : (test : List Update → Update → Bool) → ((us vs : List Update) → Same us vs → (u : Update) → test us u ≡ test vs u) → (us vs : List Update) → Same us vs → Same (filter (test us) us) (filter (test vs) vs)
tested_same test same us vs s = subst (λ l. Same (filter (test us) us) l) (filter_by (test us) (test vs) (same us vs s) vs) (filter_same (test us) us vs s)

pub lives_same : (us vs : List Update) → Same us vs → Same (filter (is_live us) us) (filter (is_live vs) vs)
lives_same = tested_same is_live live_same
