-- What a session depends on, by what a run shows.
use Rattle.std.specs.Prelude.{ℕ, if◌then◌else◌, List, [], ◌∷◌, replicate}
use Rattle.std.specs.Str.{bytes_eq}
use Rattle.site_vector.specs.Vector.{join}
use Rattle.world_model.specs.rules.Event.{Event, Began, Decided, Opened, Entry}
use Rattle.world_model.specs.events.Dependency.{is_of}

module _ {E : Type 0} where
  abbrev pub dependency_after : ℕ → List (Entry E) → List ℕ → List ℕ → Event E → List ℕ
  dependency_after sites run who old (Opened name) = if bytes_eq name who then replicate sites 0 else old
  dependency_after sites run who old (Began name dep t s) = if bytes_eq name who then join old s else old
  dependency_after sites run who old (Decided t c) = if is_of run who t then join old c else old
  dependency_after sites run who old other = old

  -- the join of the snapshots that the session began with and of the commit vectors that it was told, since it was opened.
  -- A transaction whose decide was cut off told it none
  abbrev pub dependency : ℕ → List (Entry E) → List ℕ → List ℕ
  dependency sites [] who = replicate sites 0
  dependency sites (e ∷ run) who = dependency_after sites run who (dependency sites run who) e.event
