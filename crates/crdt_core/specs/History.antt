-- Lists of updates, the newest first, and the effects that they are stored as.
use Rattle.std.specs.Prelude.{◌≡◌, ℕ, Bool, true, false, List, [], ◌∷◌, Option, filter}
use Rattle.std.specs.List.{list_any}
use Rattle.site_vector.specs.declared.ids.Dot.{Dot}
use Rattle.crdt_core.specs.Seen.{Update, sees, has_dot}

-- the state after these effects, the newest of which comes first
abbrev pub folded : {S E : Type 0} → S → (S → Dot → E → S) → List (Dot × E) → S
folded initial applied [] = initial
folded initial applied (e ∷ es) = applied (folded initial applied es) e.0 e.1

-- the effects of those that this update has seen
abbrev pub seen_by : {E : Type 0} → Update → List (Dot × E) → List (Dot × E)
seen_by u es = filter (λ e. sees u e.0) es

-- the effect of each update, generated on the fold of exactly those that it has seen
abbrev pub effects : {S E : Type 0} → S → (S → Dot → E → S) → (S → Update → E) → List Update → List (Dot × E)
effects initial applied make [] = []
effects initial applied make (u ∷ us) =
    let before = effects initial applied make us in
    (u.dot, make (folded initial applied (seen_by u before)) u) ∷ before

-- the effect of one more update
abbrev pub effect_after : {S E : Type 0} → S → (S → Dot → E → S) → (S → Update → E) → List Update → Update → E
effect_after initial applied make us u = make (folded initial applied (seen_by u (effects initial applied make us))) u

abbrev pub state_after : {S E : Type 0} → S → (S → Dot → E → S) → (S → Update → E) → List Update → S
state_after initial applied make us = folded initial applied (effects initial applied make us)

-- whoever passes the test has seen only what passes it
abbrev pub IsClosed : (Dot → Bool) → List Update → Type 0
IsClosed p [] = Unit {0}
IsClosed p (u ∷ us) = (p u.dot ≡ true → (d : Dot) → sees u d ≡ true → p d ≡ true) × IsClosed p us

-- the newest update: its dot is new, no earlier one has seen it, and with each that it has seen it has seen all that this one saw
pub record IsNext (us : List Update) (u : Update) : Type 0 where
  pub new : has_dot us u.dot ≡ false
  pub unseen : list_any (λ v. sees v u.dot) us ≡ false
  pub apart : sees u u.dot ≡ false
  pub closed : IsClosed (sees u) us

abbrev pub IsHistory : List Update → Type 0
IsHistory [] = Unit {0}
IsHistory (u ∷ us) = IsNext us u × IsHistory us

-- each update shows the stamp of its effect
abbrev pub IsStamped : {S E : Type 0} → S → (S → Dot → E → S) → (S → Update → E) → (E → Option ℕ) → List Update → Type 0
IsStamped initial applied make stamp_of [] = Unit {0}
IsStamped initial applied make stamp_of (u ∷ us) = (u.stamp ≡ stamp_of (effect_after initial applied make us u)) × IsStamped initial applied make stamp_of us
