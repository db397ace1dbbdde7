-- What is pending, each with its prepare time: lists of it, and what its times allow.
use Rattle.std.specs.Prelude.{◌≡◌, ◌≢◌, ℕ, List, [], ◌∷◌, ⊤, ◌⊎◌, ◌+◌, ◌<◌, ◌≤◌, Bool, true, false, if◌then◌else◌, Option, None, Some}
use Rattle.site_vector.specs.declared.ids.TxId.{TxId}
use Rattle.std.specs.List.{list_any}
use Rattle.site_vector.specs.Ids.{same_tx}

abbrev pub is_named : Option TxId → TxId → Bool
is_named None t = false
is_named (Some u) t = same_tx u t

abbrev pub names_pending : List (TxId × ℕ) → TxId → Bool
names_pending xs t = list_any (λ x. same_tx x.0 t) xs

-- the time of t in such a list
abbrev pub listed_time : List (TxId × ℕ) → TxId → ℕ
listed_time [] t = 0
listed_time (x ∷ xs) t = if same_tx x.0 t then x.1 else listed_time xs t

-- one transaction comes before another: by site, then by partition, then by time
abbrev pub IsIdBefore : TxId → TxId → Type 0
IsIdBefore t u = (t.site < u.site) ⊎ ((t.site ≡ u.site) × ((t.part < u.part) ⊎ ((t.part ≡ u.part) × (t.time < u.time))))

-- of two that are pending, with their prepare times: by time, and at the same time by id
abbrev pub IsBefore : TxId × ℕ → TxId × ℕ → Type 0
IsBefore x y = (x.1 < y.1) ⊎ ((x.1 ≡ y.1) × IsIdBefore x.0 y.0)

abbrev pub IsBeforeAll : {A : Type 0} → (A → A → Type 0) → A → List A → Type 0
IsBeforeAll Before x [] = ⊤
IsBeforeAll Before x (y ∷ ys) = Before x y × IsBeforeAll Before x ys

-- each is before all that follow
abbrev pub AreInOrder : {A : Type 0} → (A → A → Type 0) → List A → Type 0
AreInOrder Before [] = ⊤
AreInOrder Before (x ∷ xs) = IsBeforeAll Before x xs × AreInOrder Before xs

-- the own bound, by the time and by what is pending with which prepare times: the lesser of the time and of one below the least of these
pub record IsBoundBy (now : ℕ) (pending : TxId → Bool) (prepared : TxId → ℕ) (b : ℕ) : Type 0 where
  pub most : b ≤ now
  pub below : (u : TxId) → pending u ≡ true → b < prepared u
  pub reached : (b ≡ now) ⊎ ((u : TxId) × (pending u ≡ true) × (prepared u ≡ b + 1))

-- no wait is due for a read up to s of what these transactions touch
pub record IsReadyBy (now : ℕ) (pending : TxId → Bool) (prepared : TxId → ℕ) (s : ℕ) (touches : TxId → Bool) : Type 0 where
  pub clock : s ≤ now
  pub free : (u : TxId) → pending u ≡ true → touches u ≡ true → s < prepared u

-- of all that are pending and touch it u is the first, and it may belong to the read
pub record IsFirstBy (now : ℕ) (pending : TxId → Bool) (prepared : TxId → ℕ) (s : ℕ) (touches : TxId → Bool) (u : TxId) (n : ℕ) : Type 0 where
  pub clock : s ≤ now
  pub waiting : pending u ≡ true
  pub changes : touches u ≡ true
  pub time : n ≡ prepared u
  pub early : n ≤ s
  pub first : (w : TxId) → w ≢ u → pending w ≡ true → touches w ≡ true → IsBefore (u, n) (w, prepared w)

-- the own bound of a partition that restarts at this time with this list
abbrev pub IsOwnBoundOf : ℕ → List (TxId × ℕ) → ℕ → Type 0
IsOwnBoundOf now listed b = IsBoundBy now (names_pending listed) (listed_time listed) b

-- each stands with its own time
abbrev pub AreTimed : (TxId → ℕ) → List (TxId × ℕ) → Type 0
AreTimed time [] = ⊤
AreTimed time (x ∷ xs) = (x.1 ≡ time x.0) × AreTimed time xs

-- each time is at most this
abbrev pub AreAtMost : ℕ → List (TxId × ℕ) → Type 0
AreAtMost n [] = ⊤
AreAtMost n (x ∷ xs) = (x.1 ≤ n) × AreAtMost n xs
