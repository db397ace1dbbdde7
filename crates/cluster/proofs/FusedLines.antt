-- That no disk of a cluster fails by a fuse where none of the script is in force: after a call of one partition.
use Rattle.std.proofs.Common.{◌≡◌, ◌≢◌, ◌⊎◌, ⊎_elim, inl, inr, Bool, true, false, List, [], ◌∷◌, get_or, Option, None, Some, refl, sym, ap, ◌∙◌, subst, true≢false}
use Rattle.std.specs.Prelude.{IsTrue, ◌||◌}
use Rattle.std.proofs.lemmas.Bool.{cond-false, or_parts}
use Rattle.std.proofs.lemmas.List.{get_or-set_other}
use Rattle.site_vector.specs.declared.ids.PartId.{PartId}
use Rattle.site_vector.specs.declared.ids.TxId.{TxId}
use Rattle.site_vector.specs.Ids.{same_part}
use Rattle.site_vector.specs.Order.{same_part_is, same_part_refl}
use Rattle.disk_core.specs.States.{DiskState}
use Rattle.world_model.specs.declared.step.Step.{Step}
use Rattle.world_model.specs.declared.step.Step.TheVariants as step
use Rattle.world_model.specs.commands.Cluster.{has_cluster, is_cluster, parts_of}
use Rattle.world_model.specs.commands.Fuses.{Fuse, counted, fuse, fuse_after, shows_written}
use Rattle.world_model.specs.commands.Run.{Run}
use Rattle.world_model.specs.commands.Run as script
use Rattle.world_model.specs.commands.ScriptCalls.{calls_of}
use Rattle.world_model.specs.lines.Lines as world
use Rattle.world_model.specs.lines.Places.{IsPlace}
use Rattle.world_model.specs.lines.Updates.{lead}
use Rattle.world_model.proofs.Names.{off}
use Rattle.partition_core.specs.Durable.{Durable, disk_in}
use Rattle.site_partitions.specs.Held.{Held, IsAt, index_of}
use Rattle.site_partitions.specs.Moves.{Moves}
use Rattle.site_partitions.specs.Reaches.{Types}
use Rattle.site_partitions.specs.Sound.{AreUnarmed}
use Rattle.site_partitions.proofs.Places.{index_is}
use Rattle.cluster.specs.Fuel.{FailsByFuse, IsDarkBy, FailedBy, IsFailedBy, AreFailedBy, IsLit}
use Rattle.cluster.proofs.FuelLines.{lets_burn, is_arming, after_call}
use Rattle.cluster.proofs.Ups.{there_now}

counted_back : (wrote : Bool) (o : Option Fuse) → counted wrote o ≡ None → o ≡ None
counted_back wrote None h = refl
counted_back true (Some f) h = absurd cc
counted_back false (Some f) h = absurd cc

module _ (run : Run) (p : PartId) (old : Option Fuse) (wrote : Bool) where
  -- no fuse was in force before a line that ends none
  pub none_back : (s : Step) → lets_burn s ≡ true → fuse_after run p old wrote s ≡ None → old ≡ None
  none_back s lets h = counted_back wrote old (sym (after_call run p old wrote s lets) ∙ h)

  -- nor before one of another partition
  pub none_there : (at : PartId) (s : Step) → is_arming s ≡ false → ((q : PartId) → s ≡ step.Disk q → q ≡ at) → ((t : TxId) → s ≡ step.Unsure t → lead (parts_of run) (calls_of run) t ≡ at) → same_part at p ≡ false → fuse_after run p old wrote s ≡ None → old ≡ None
  none_there at (step.Fused q k n) a d u e h = off (sym a)
  none_there at (step.Disk q) a d u e h = sym (cond-false (same_part q p) None old (ap (λ x. same_part x p) (d q refl) ∙ e)) ∙ h
  none_there at (step.Unsure t) a d u e h = sym (cond-false (same_part (lead (parts_of run) (calls_of run) t) p) None old (ap (λ x. same_part x p) (u t refl) ∙ e)) ∙ h
  none_there at other a d u e h = counted_back wrote old h

pub unfed : (a b : Bool) → (IsTrue a → IsTrue b) → b ≡ false → a ≡ false
unfed true true h e = e
unfed true false h e = absurd (true≢false (sym (h refl)))
unfed false b h e = refl

module _ {E D : Type 0} (state : D → DiskState) (c : Held E D) (whole : List world.Line) where
  -- a line that tells of no fault
  pub quiet_line : (run : Run) (s : Step) → lets_burn s ≡ true → IsFailedBy state c whole run s
  quiet_line run (step.Disk p) h = off h
  quiet_line run (step.Unsure t) h = off h
  quiet_line run other h = tt

  pub lit_idle : (run : Run) (l : script.Line) → ((p : PartId) → fuse whole (l ∷ run) p ≡ fuse whole run p) → lets_burn l.step ≡ true → IsLit state c whole run → IsLit state c whole (l ∷ run)
  lit_idle run l same lets x = record { dark = λ p place t h f none. x.dark p place t h f (sym (same p) ∙ none); failed = (quiet_line run l.step lets, x.failed) }

  unmade_line : (run : Run) (s : Step) → has_cluster run ≡ false → IsFailedBy state c whole run s
  unmade_line run (step.Disk p) h = λ k. absurd (true≢false (sym k ∙ h))
  unmade_line run (step.Unsure t) h = λ k. absurd (true≢false (sym k ∙ h))
  unmade_line run other h = tt

  -- no line of a cluster stands before it is made
  unmade : (run : Run) → has_cluster run ≡ false → AreFailedBy state c whole run
  unmade [] h = tt
  unmade (l ∷ run) h = let k = (or_parts (is_cluster l.step) (has_cluster run) h).1 in (unmade_line run l.step k, unmade run k)

  pub lit_made : (run : Run) (l : script.Line) → has_cluster run ≡ false → lets_burn l.step ≡ true → AreUnarmed state c → IsLit state c whole (l ∷ run)
  lit_made run l lacks lets none = record {
    dark = λ p place t h f e. inl (subst (λ x. (disk_in state x).left ≡ None) (h t) (none p place t));
    failed = (quiet_line run l.step lets, unmade run lacks);
  }

module _ {S E D : Type 0} (w : Types S E D) (old new : Held E D) (at : PartId) (m : Moves w.state old new at) where
  pub fused_back : FailsByFuse (disk_in w.state m.after) → FailsByFuse (disk_in w.state m.before)
  fused_back f = record { sound = subst (λ x. IsTrue x) m.disk.sound f.sound; fed = unfed (disk_in w.state m.before).starved (disk_in w.state m.after).starved m.disk.starved f.fed }

  place_back : (p : PartId) → IsPlace new.sites new.parts p → IsPlace old.sites old.parts p
  place_back p h = subst (λ n. IsPlace n old.parts p) m.same_sites (subst (λ n. IsPlace new.sites n p) m.same_parts h)

  pub place_on : (p : PartId) → IsPlace old.sites old.parts p → IsPlace new.sites new.parts p
  place_on p h = subst (λ n. IsPlace n new.parts p) (sym m.same_sites) (subst (λ n. IsPlace old.sites n p) (sym m.same_parts) h)

  module _ (place : IsPlace old.sites old.parts at) where
    pub after_there : IsAt new at m.after
    after_there other = there_now w old new at m (place_on at place) other

    elsewhere : (p : PartId) → IsPlace old.sites old.parts p → same_part at p ≡ false → (other : Durable E D) → get_or new.partitions (index_of new.parts p) other ≡ get_or old.partitions (index_of old.parts p) other
    elsewhere p h e other =
        let apart : index_of old.parts p ≢ index_of old.parts at = λ k. true≢false (sym (ap (λ q. same_part at q) (index_is old.sites old.parts p at h place k) ∙ same_part_refl at) ∙ e) in
        subst (λ (c : Held E D). get_or c.partitions (index_of c.parts p) other ≡ get_or old.partitions (index_of old.parts p) other) (sym m.changed) (get_or-set_other old.partitions (index_of old.parts at) (index_of old.parts p) m.after other apart)

    -- no disk fails by a fuse where none of these is in force
    abbrev AllDark : Held E D → (PartId → Option Fuse) → Type 0
    AllDark c f = (p : PartId) → IsPlace c.sites c.parts p → (t : Durable E D) → IsAt c p t → IsDarkBy w.state (f p) t

    dark_on : (f g : PartId → Option Fuse) → ((p : PartId) → same_part at p ≡ false → g p ≡ None → f p ≡ None) → (IsDarkBy w.state (f at) m.before → IsDarkBy w.state (g at) m.after) → AllDark old f → AllDark new g
    dark_on f g back here all p h t is = by_place (same_part at p) refl
      where
        at_here : (u : Durable E D) → IsAt new at u → IsDarkBy w.state (g at) u
        at_here u k = subst (IsDarkBy w.state (g at)) (sym (after_there u) ∙ k u) (here (all at place m.before m.there))

        by_place : (b : Bool) → same_part at p ≡ b → IsDarkBy w.state (g p) t
        by_place true e = subst (λ q. (u : Durable E D) → IsAt new q u → IsDarkBy w.state (g q) u) (same_part_is at p e) at_here t is
        by_place false e =
            let there = place_back p h in
            λ x none. all p there t (λ other. sym (elsewhere p there e other) ∙ is other) x (back p e none)

    failed_here : (f : Option Fuse) → FailedBy w.state old f at → FailedBy w.state new f at
    failed_here f h = record {
      place = place_on at h.place;
      part = m.after;
      there = after_there;
      fused = λ x. h.fused (subst (λ t. FailsByFuse (disk_in w.state t)) (sym (m.there m.before) ∙ h.there m.before) (fused_back x));
    }

    failed_on : (f : Option Fuse) (p : PartId) → FailedBy w.state old f p → FailedBy w.state new f p
    failed_on f p h = by_place (same_part at p) refl
      where
        by_place : (b : Bool) → same_part at p ≡ b → FailedBy w.state new f p
        by_place true e = subst (λ q. FailedBy w.state old f q → FailedBy w.state new f q) (same_part_is at p e) (failed_here f) h
        by_place false e = record { place = place_on p h.place; part = h.part; there = λ other. elsewhere p h.place e other ∙ h.there other; fused = h.fused }

    line_on : (whole : List world.Line) (run : Run) (s : Step) → IsFailedBy w.state old whole run s → IsFailedBy w.state new whole run s
    line_on whole run (step.Disk p) h = λ has. failed_on _ p (h has)
    line_on whole run (step.Unsure t) h = λ has. failed_on _ _ (h has)
    line_on whole run other h = tt

    lines_on : (whole : List world.Line) (run : Run) → AreFailedBy w.state old whole run → AreFailedBy w.state new whole run
    lines_on whole [] h = tt
    lines_on whole (l ∷ run) h = (line_on whole run l.step h.0, lines_on whole run h.1)

    module _ (whole : List world.Line) (run : Run) where
      -- after one more line
      pub lit_next : (l : script.Line) → ((p : PartId) → same_part at p ≡ false → fuse whole (l ∷ run) p ≡ None → fuse whole run p ≡ None) → (IsDarkBy w.state (fuse whole run at) m.before → IsDarkBy w.state (fuse whole (l ∷ run) at) m.after) → IsFailedBy w.state new whole run l.step → IsLit w.state old whole run → IsLit w.state new whole (l ∷ run)
      lit_next l back here line x = record { dark = dark_on (λ p. fuse whole run p) (λ p. fuse whole (l ∷ run) p) back here x.dark; failed = (line, lines_on whole run x.failed) }

      -- after none
      pub lit_still : (IsDarkBy w.state (fuse whole run at) m.before → IsDarkBy w.state (fuse whole run at) m.after) → IsLit w.state old whole run → IsLit w.state new whole run
      lit_still here x = record { dark = dark_on (λ p. fuse whole run p) (λ p. fuse whole run p) (λ p e none. none) here x.dark; failed = lines_on whole run x.failed }
