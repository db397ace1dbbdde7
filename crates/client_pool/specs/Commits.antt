-- What a commit does: the votes of its participants, the lead's first, the decision, and the ends at the others.
use Rattle.std.specs.Prelude.{◌≡◌, ℕ, List, [], ◌∷◌, ◌++◌}
use Rattle.site_vector.specs.declared.ids.PartId.{PartId}
use Rattle.site_vector.specs.declared.ids.TxId.{TxId}
use Rattle.world_model.specs.commands.CommitSteps.{Going, Preparing, Finishing, Aborting}
use Rattle.txn_session.specs.Session.{Doing, Idle, Open, Ending, SessionState, participants}
use Rattle.client_pool.specs.Deeds.{Deed, Prepares, Decides, Finishes}

abbrev pub place : ℕ → ℕ → PartId
place site p = record { site = site; part = p }

-- this at each of the partitions, one after another, on top of what was done before
abbrev pub one_by_one : (ℕ → Deed) → List ℕ → List Deed → List Deed
one_by_one deed [] done = done
one_by_one deed (p ∷ ps) done = one_by_one deed ps (deed p ∷ done)

module _ (site : ℕ) (tx : TxId) where
  abbrev pub votes : List ℕ → List Deed
  votes ps = one_by_one (λ p. Prepares (place site p) tx) ps []

  abbrev pub decided : ℕ → List ℕ → List Deed
  decided lead others = Decides (place site lead) tx ∷ votes (lead ∷ others)

  abbrev pub ends : List ℕ → List Deed → List Deed
  ends ps done = one_by_one (λ p. Finishes (place site p) tx) ps done

  -- all of it
  abbrev pub committing_at : List ℕ → List Deed
  committing_at [] = []
  committing_at (lead ∷ others) = ends others (decided lead others)

  -- so much of it is done
  abbrev pub HasDone : List ℕ → Going → List Deed → Type 0
  HasDone ps (Preparing voted left n) deeds = (voted ++ left ≡ ps) × (deeds ≡ votes voted)
  HasDone ps (Finishing left n) deeds = (lead : ℕ) × (front : List ℕ) × (lead ∷ (front ++ left) ≡ ps) × (deeds ≡ ends front (decided lead (front ++ left)))
  HasDone ps (Aborting left) deeds = ⊥

-- the commit of an open transaction
abbrev pub committing : {E : Type 0} → SessionState E → Doing E → List Deed
committing s (Open txn) = committing_at s.site txn.tx (participants s.parts txn.updates)
committing s other = []
