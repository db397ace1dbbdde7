-- What a begin is handed, and what a session depends on, by what a run shows.
use Rattle.std.specs.Prelude.{◌≡◌, ◌⊎◌, ℕ, List, [], ◌∷◌, ⊤}
use Rattle.world_model.specs.rules.Event.{Event, Began, Decided, Entry}
use Rattle.world_model.specs.lines.Dependency.{joined}

module _ {E : Type 0} where
  -- the event shows this vector: as the snapshot of a begin, or as the commit vector of a decision
  abbrev pub ShowsVector : Event E → List ℕ → Type 0
  ShowsVector (Began name dep t s) v = s ≡ v
  ShowsVector (Decided t c) v = c ≡ v
  ShowsVector other v = ⊥

  abbrev pub WasVector : List (Entry E) → List ℕ → Type 0
  WasVector [] v = ⊥
  WasVector (e ∷ run) v = ShowsVector e.event v ⊎ WasVector run v

  abbrev pub WereVectors : List (Entry E) → List (List ℕ) → Type 0
  WereVectors run [] = ⊤
  WereVectors run (v ∷ vs) = WasVector run v × WereVectors run vs

  -- a join of snapshots and commit vectors that were shown: what a begin may be handed, whatever the names of sessions are
  pub record IsKnownJoin (sites : ℕ) (run : List (Entry E)) (dep : List ℕ) : Type 0 where
    pub vectors : List (List ℕ)
    pub known : WereVectors run vectors
    pub is : dep ≡ joined sites vectors
