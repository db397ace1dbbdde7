-- The parts of one site in the order of commit times, listed by their places.
use Rattle.std.specs.Prelude.{◌≡◌, ℕ, Bool, ltb, ◌==◌, List, [], ◌∷◌, length, Option, None, Some}
use Rattle.std.specs.List.{slice_get, filter}
use Rattle.crdt_core.specs.declared.record.Part.{Part}
use Rattle.crdt_core.specs.Orders.{is_less, stream_cmp}
use Rattle.effect_store.specs.Arranged.{arranged, Each, Rises}

module _ {E : Type 0} where
  -- the order of a site's stream
  abbrev pub sooner : ℕ → Part E → Part E → Bool
  sooner site p q = is_less (stream_cmp site p q)

  abbrev pub is_of : ℕ → Part E → Bool
  is_of site p = p.tx.site == site

  abbrev pub commits : ℕ → List (Part E) → List (Part E)
  commits site parts = arranged (sooner site) (filter (is_of site) parts)

  abbrev pub with_found : Option (Part E) → List (Part E) → List (Part E)
  with_found None ps = ps
  with_found (Some p) ps = p ∷ ps

  -- the parts at these places
  abbrev pub at_places : List (Part E) → List ℕ → List (Part E)
  at_places parts [] = []
  at_places parts (k ∷ ks) = with_found (slice_get parts k) (at_places parts ks)

  abbrev pub AreWithin : List (Part E) → List ℕ → Type 0
  AreWithin parts ks = Each (λ k. ltb k (length parts)) ks

  -- the list has the places of the commits of a site
  pub record IsList (site : ℕ) (parts : List (Part E)) (ks : List ℕ) : Type 0 where
    pub within : AreWithin parts ks
    pub rising : Rises (sooner site) (at_places parts ks)
    pub listed : at_places parts ks ≡ commits site parts
