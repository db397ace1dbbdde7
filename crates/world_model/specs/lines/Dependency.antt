-- What a begin is handed, and a session's past, over the lines of a run.
use Rattle.std.specs.Prelude.{◌≡◌, ◌⊎◌, ℕ, Bool, true, false, ◌&&◌, ◌||◌, List, [], ◌∷◌, if◌then◌else◌, replicate, ⊤}
use Rattle.std.specs.Str.{bytes_eq}
use Rattle.site_vector.specs.declared.ids.PartId.{PartId}
use Rattle.site_vector.specs.declared.ids.TxId.{TxId}
use Rattle.site_vector.specs.Ids.{same_tx}
use Rattle.site_vector.specs.Vector.{le, join}
use Rattle.world_model.specs.declared.step.Step.{Step}
use Rattle.world_model.specs.declared.step.Step.TheVariants as step
use Rattle.world_model.specs.lines.Lines.{Call, Begin, Line, EachLine}

-- the join of vectors with one entry for each site
abbrev pub joined : ℕ → List (List ℕ) → List ℕ
joined sites [] = replicate sites 0
joined sites (v ∷ vs) = join (joined sites vs) v

-- t is of the session
abbrev pub begins_for : Step → List ℕ → TxId → Bool
begins_for (step.Began name u s) who t = bytes_eq name who && same_tx u t
begins_for other who t = false

abbrev pub is_of : List Line → List ℕ → TxId → Bool
is_of [] who t = false
is_of (l ∷ ls) who t = begins_for l.step who t || is_of ls who t

abbrev pub dependency_after : ℕ → List Line → List ℕ → List ℕ → Step → List ℕ
dependency_after sites ls who old (step.MadeSession name site) = if bytes_eq name who then replicate sites 0 else old
dependency_after sites ls who old (step.Began name t s) = if bytes_eq name who then join old s else old
dependency_after sites ls who old (step.Decided p t c) = if is_of ls who t then join old c else old
dependency_after sites ls who old other = old

-- the join of the snapshots that the session began with and of the commit vectors that it was told, since it was made
abbrev pub dependency : ℕ → List Line → List ℕ → List ℕ
dependency sites [] who = replicate sites 0
dependency sites (l ∷ ls) who = dependency_after sites ls who (dependency sites ls who) l.step

-- the line shows this vector: as a snapshot, or as a commit vector
abbrev pub ShowsVector : Step → List ℕ → Type 0
ShowsVector (step.Began name t s) v = s ≡ v
ShowsVector (step.Decided p t c) v = c ≡ v
ShowsVector other v = ⊥

abbrev pub WasVector : List Line → List ℕ → Type 0
WasVector [] v = ⊥
WasVector (l ∷ ls) v = ShowsVector l.step v ⊎ WasVector ls v

abbrev pub WereVectors : List Line → List (List ℕ) → Type 0
WereVectors ls [] = ⊤
WereVectors ls (v ∷ vs) = WasVector ls v × WereVectors ls vs

-- a join of snapshots and commit vectors that were shown
pub record IsKnownJoin (sites : ℕ) (ls : List Line) (dep : List ℕ) : Type 0 where
  pub vectors : List (List ℕ)
  pub known : WereVectors ls vectors
  pub is : dep ≡ joined sites vectors

abbrev pub IsOwnPast : ℕ → List Line → Call → Type 0
IsOwnPast sites ls (Begin who dep) = dep.past ≡ dependency sites ls who
IsOwnPast sites ls other = ⊤

-- whatever answers it, a begin is handed what is known
abbrev pub HandsKnown : ℕ → List Line → Call → Type 0
HandsKnown sites ls (Begin who dep) = IsKnownJoin sites ls dep.past
HandsKnown sites ls other = ⊤

-- a snapshot holds what its begin was handed
abbrev pub HoldsHanded : List Line → PartId → Call → Step → Type 0
HoldsHanded ls p call (step.Crashed q) = ⊤
HoldsHanded ls p (Begin who dep) (step.Began name t s) = le dep.past s ≡ true
HoldsHanded ls p call other = ⊤

-- each begin is handed what its session depends on, as it is where each name is one session's
abbrev pub HandsOwn : ℕ → List Line → Type 0
HandsOwn sites ls = EachLine (λ before p call step. IsOwnPast sites before call) ls

abbrev pub HoldsPast : ℕ → List Line → PartId → Call → Step → Type 0
HoldsPast sites ls p call (step.Began name t s) = le (dependency sites ls name) s ≡ true
HoldsPast sites ls p call other = ⊤

-- each snapshot holds its session's past
abbrev pub KeepsPast : ℕ → List Line → Type 0
KeepsPast sites ls = EachLine (HoldsPast sites) ls
