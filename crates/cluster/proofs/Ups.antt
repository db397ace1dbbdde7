-- Which partitions are up, by what stands there, after a call that changed one.
use Rattle.std.proofs.Common.{◌≡◌, ℕ, zero, suc, Bool, true, false, true≢false, List, [], ◌∷◌, get_or, set, refl, sym, ◌∙◌, subst}
use Rattle.std.specs.Prelude.{not}
use Rattle.site_vector.specs.declared.ids.PartId.{PartId}
use Rattle.world_model.specs.rules.Event.{Entry}
use Rattle.world_model.specs.rules.Partition.{PartState}
use Rattle.world_model.specs.lines.Places.{IsPlace}
use Rattle.partition_core.specs.Durable.{Durable, StandsOn, StandsUp, StandsSo, is_down}
use Rattle.site_partitions.specs.Fates.{OfState}
use Rattle.site_partitions.specs.Held.{Held, index_of}
use Rattle.site_partitions.specs.Moves.{Moves}
use Rattle.site_partitions.specs.Reaches.{Types, Reaches}

module _ {A : Type 0} where
  -- what is put where something stands is there
  at_set : (xs : List A) (i : ℕ) (t u : A) → ((other : A) → get_or xs i other ≡ t) → (other : A) → get_or (set xs i u) i other ≡ u
  at_set [] i t u h other = h other ∙ sym (h u)
  at_set (x ∷ xs) zero t u h other = refl
  at_set (x ∷ xs) (suc i) t u h other = at_set xs i t u h other

module _ {S E D : Type 0} (types : Types S E D) where
  -- what stands for a state that is up
  pub stands_up : (t : Durable E D) (q : PartState E) (b : Bool) → StandsSo types.codec types.state t q b → q.up ≡ true → StandsUp types.codec types.state t q
  stands_up t q true s u = absurd (true≢false (sym u ∙ s.down))
  stands_up t q false s u = s

  pub up_of : (t : Durable E D) (q : PartState E) (b : Bool) → StandsSo types.codec types.state t q b → q.up ≡ not b
  up_of t q true s = s.down
  up_of t q false s = s.tables.up

  module _ (old new : Held E D) (p : PartId) (m : Moves types.state old new p) (place : IsPlace new.sites new.parts p) where
    pub there_now : (other : Durable E D) → get_or new.partitions (index_of new.parts p) other ≡ m.after
    there_now other =
        subst (λ (h : Held E D). get_or h.partitions (index_of h.parts p) other ≡ m.after) (sym m.changed)
        (at_set old.partitions (index_of old.parts p) m.before m.after m.there other)

    pub stands_now : (run : List (Entry E)) (r : Reaches types new run) → StandsOn types.codec types.state m.after (r.state p)
    stands_now run r = subst (λ t. StandsOn types.codec types.state t (r.state p)) (there_now m.after) (r.each p place m.after).stands

    -- where one run left it up, any did
    pub up_after : (run : List (Entry E)) (r : Reaches types new run) → (r.state p).up ≡ true → OfState types new p (λ q. q.up ≡ true)
    up_after run r u other s = up_of m.after (s.state p) (is_down m.after) (stands_now other s)
        ∙ (sym (up_of m.after (r.state p) (is_down m.after) (stands_now run r)) ∙ u)
