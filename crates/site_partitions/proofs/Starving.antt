-- Which disk is starved, and which partition is up, where a cluster's code looks.
use Rattle.std.proofs.Common.{◌≡◌, ℕ, ◌*◌, ◌<◌, Bool, true, false, List, length, get_or, sym, ap, ◌∙◌}
use Rattle.std.specs.Prelude.{not}
use Rattle.site_vector.specs.declared.ids.PartId.{PartId}
use Rattle.disk_core.specs.States.{DiskState}
use Rattle.world_model.specs.rules.Partition.{PartState}
use Rattle.world_model.specs.lines.Places.{IsPlace}
use Rattle.partition_core.specs.Durable.{Durable, StandsSo, disk_in, is_down}
use Rattle.site_partitions.specs.Held.{Held, IsSized, index_of}
use Rattle.site_partitions.specs.Fates.{OfState}
use Rattle.site_partitions.specs.Reaches.{Types}
use Rattle.site_partitions.specs.Starved.{IsStarvedAt}
use Rattle.site_partitions.proofs.Finding.{is_at}
use Rattle.site_partitions.proofs.Going.{stands_at}

module _ {E D : Type 0} (state : D → DiskState) (sites parts : ℕ) (items : List (Durable E D)) (c : Held E D) (view : record { sites = sites; parts = parts; partitions = items } ≡ c) (size : IsSized sites parts (length items)) (at : PartId) (i : ℕ) (is : i ≡ index_of parts at) where
  pub starved_at : i < sites * parts → (t : Durable E D) → t ≡ get_or items i t → (b : Bool) → b ≡ (disk_in state t).starved → IsStarvedAt state c at b
  starved_at below t there b e u h = ap (λ (x : Durable E D). (disk_in state x).starved) (sym (h t) ∙ is_at sites parts items c view size at i is below t there t) ∙ sym e

module _ {S E D : Type 0} (w : Types S E D) (sites parts : ℕ) (items : List (Durable E D)) (c : Held E D) (view : record { sites = sites; parts = parts; partitions = items } ≡ c) (size : IsSized sites parts (length items)) (at : PartId) (place : IsPlace c.sites c.parts at) (i : ℕ) (is : i ≡ index_of parts at) (below : i < sites * parts) (t : Durable E D) (there : t ≡ get_or items i t) where
  up_so : (p : PartState E) (d : Bool) → StandsSo w.codec w.state t p d → p.up ≡ not d
  up_so p true s = s.down
  up_so p false s = s.tables.up

  -- a run left it up where it isn't down
  pub up_at : (b : Bool) → b ≡ is_down t → OfState w c at (λ p. p.up ≡ not b)
  up_at b e run r = up_so (r.state at) (is_down t) (stands_at w sites parts items c view size at place i is below t t there run r).stands ∙ ap not (sym e)
