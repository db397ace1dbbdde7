-- What a session depends on is a join of vectors that the run shows.
use Rattle.std.proofs.Common.{◌≡◌, inl, inr, ℕ, Bool, true, false, List, [], ◌∷◌, cond, refl, sym, ap, subst}
use Rattle.std.specs.Prelude.{replicate}
use Rattle.std.specs.Str.{bytes_eq}
use Rattle.site_vector.specs.Vector.{join}
use Rattle.world_model.specs.rules.Event.{Event, Began, Decided, Opened, Entry}
use Rattle.world_model.specs.events.Dependency.{is_of}
use Rattle.world_model.proofs.Dependency.{dependency_after, dependency}
use Rattle.world_model.specs.rules.Dependency.{WereVectors, ShowsVector, IsKnownJoin}

module _ {E : Type 0} where
  were_more : (e : Entry E) (run : List (Entry E)) (vs : List (List ℕ)) → WereVectors run vs → WereVectors (e ∷ run) vs
  were_more e run [] h = tt
  were_more e run (v ∷ vs) h = (inr h.0, were_more e run vs h.1)

  -- what was known stays so
  pub known_more : (sites : ℕ) (e : Entry E) (run : List (Entry E)) (d : List ℕ) → IsKnownJoin sites run d → IsKnownJoin sites (e ∷ run) d
  known_more sites e run d h = record { vectors = h.vectors; known = were_more e run h.vectors h.known; is = h.is }

  -- with one vector more that the newest event shows
  joined_more : (sites : ℕ) (e : Entry E) (run : List (Entry E)) (d v : List ℕ) → ShowsVector e.event v → IsKnownJoin sites run d → IsKnownJoin sites (e ∷ run) (join d v)
  joined_more sites e run d v w h = record { vectors = v ∷ h.vectors; known = (inl w, were_more e run h.vectors h.known); is = ap (λ x. join x v) h.is }

  known_if : (sites : ℕ) (run : List (Entry E)) (b : Bool) (u v : List ℕ) → IsKnownJoin sites run u → IsKnownJoin sites run v → IsKnownJoin sites run (cond b u v)
  known_if sites run true u v h k = h
  known_if sites run false u v h k = k

  past_step : (sites : ℕ) (e : Entry E) (run : List (Entry E)) (who old : List ℕ) (event : Event E) → e.event ≡ event → IsKnownJoin sites run old → IsKnownJoin sites (e ∷ run) (dependency_after sites run who old event)
  past_step sites e run who old (Opened name) q h = known_if sites (e ∷ run) (bytes_eq name who) (replicate sites 0) old (record { vectors = []; known = tt; is = refl }) (known_more sites e run old h)
  past_step sites e run who old (Began name dep t s) q h = known_if sites (e ∷ run) (bytes_eq name who) (join old s) old (joined_more sites e run old s (subst (λ a. ShowsVector a s) (sym q) refl) h) (known_more sites e run old h)
  past_step sites e run who old (Decided t c) q h = known_if sites (e ∷ run) (is_of run who t) (join old c) old (joined_more sites e run old c (subst (λ a. ShowsVector a c) (sym q) refl) h) (known_more sites e run old h)
  past_step sites e run who old event q h = known_more sites e run old h

  -- so a begin may be handed what its session depends on
  pub own_past : (sites : ℕ) (run : List (Entry E)) (who : List ℕ) → IsKnownJoin sites run (dependency sites run who)
  own_past sites [] who = record { vectors = []; known = tt; is = refl }
  own_past sites (e ∷ run) who = past_step sites e run who (dependency sites run who) e.event refl (own_past sites run who)
