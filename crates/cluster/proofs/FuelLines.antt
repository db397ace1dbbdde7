-- The fuses of a script's run, with one more line.
use Rattle.std.proofs.Common.{◌≡◌, ◌⊎◌, ⊎_elim, inl, inr, ℕ, ◌≤◌, Bool, true, false, List, ◌∷◌, Option, None, Some, refl, sym, ap, ◌∙◌, subst}
use Rattle.std.specs.Prelude.{◌&&◌, if◌then◌else◌}
use Rattle.std.proofs.lemmas.Bool.{cond-true, cond-false, cases_Bool}
use Rattle.site_vector.specs.declared.ids.PartId.{PartId}
use Rattle.site_vector.specs.Ids.{same_part}
use Rattle.site_vector.specs.Order.{same_part_is, same_part_refl}
use Rattle.disk_core.specs.States.{DiskState}
use Rattle.world_model.specs.declared.step.Step.{Step}
use Rattle.world_model.specs.declared.step.Step.TheVariants as step
use Rattle.world_model.specs.commands.Cluster.{parts_of}
use Rattle.world_model.specs.commands.Fuses.{Fuse, counted, fuse, fuse_after, IsUnfired, is_written, shows_written}
use Rattle.world_model.specs.lines.Lines as world
use Rattle.world_model.specs.commands.Run.{Run}
use Rattle.world_model.specs.commands.Run as script
use Rattle.world_model.specs.commands.ScriptCalls.{is_called, asked_by, calls_of}
use Rattle.world_model.specs.lines.Updates.{lead}
use Rattle.world_model.proofs.Names.{off}
use Rattle.partition_core.specs.Durable.{Durable}
use Rattle.site_partitions.specs.Held.{Held, holds_part}
use Rattle.cluster.specs.Fuel.{Burns, BurnsBy, BurnsAt, left_at, IsLit, IsFueled}
use Rattle.cluster.proofs.FuelBurns.{burns_counted, burns_over, burns_armed, is_unfired, taken_off}

-- the line leaves a fuse in force, if there is one
abbrev pub lets_burn : Step → Bool
lets_burn (step.Fused q k n) = false
lets_burn (step.Disk q) = false
lets_burn (step.Unsure t) = false
lets_burn other = true

abbrev pub is_arming : Step → Bool
is_arming (step.Fused q k n) = true
is_arming other = false

module _ (run : Run) (p : PartId) (old : Option Fuse) where
  pub after_call : (wrote : Bool) (s : Step) → lets_burn s ≡ true → fuse_after run p old wrote s ≡ counted wrote old
  after_call wrote (step.Fused q k n) h = off h
  after_call wrote (step.Disk q) h = off h
  after_call wrote (step.Unsure t) h = off h
  after_call wrote other h = refl

  if_over : (b : Bool) → ((if b then None else old) ≡ None) ⊎ ((if b then None else old) ≡ old)
  if_over true = inl refl
  if_over false = inr refl

  -- a line of another partition may end it, and does no more
  pub after_other : (s : Step) → is_arming s ≡ false → (fuse_after run p old false s ≡ None) ⊎ (fuse_after run p old false s ≡ old)
  after_other (step.Fused q k n) h = off (sym h)
  after_other (step.Disk q) h = if_over (same_part q p)
  after_other (step.Unsure t) h = if_over (same_part (lead (parts_of run) (calls_of run) t) p)
  after_other other h = inr refl

-- a line that no partition answered shows of none that it wrote
pub unwritten : (whole : List world.Line) (run : Run) (p : PartId) (l : script.Line) → is_called l.command l.step ≡ false → shows_written whole run p l ≡ false
unwritten whole run p l h = ap (λ b. b && is_written whole (calls_of run) p (asked_by (calls_of run) run l.command l.step) l.step) h

module _ {E D : Type 0} (state : D → DiskState) (whole : List world.Line) (run : Run) (l : script.Line) where
  -- the line of a call of this partition
  module _ (old new : Held E D) (at : PartId) (here : Durable E D) (same : (p : PartId) → holds_part new p ≡ holds_part old p)
      (elsewhere : (p : PartId) → holds_part old p ≡ true → same_part at p ≡ false → (other : Durable E D) → left_at state new p other ≡ left_at state old p other)
      (unarmed : is_arming l.step ≡ false)
      (others : (p : PartId) → same_part at p ≡ false → shows_written whole run p l ≡ false)
      (burnt : lets_burn l.step ≡ true → (other : Durable E D) → Burns (taken_off (shows_written whole run at l)) (left_at state old at other) (left_at state new at other))
      (over : lets_burn l.step ≡ false → fuse_after run at (fuse whole run at) (shows_written whole run at l) l.step ≡ None)
      (lit : IsLit state new whole (l ∷ run)) (f : IsFueled state old whole run) where
    burns_as : (p : PartId) (b : Bool) (o : Option Fuse) (other : Durable E D) → fuse whole (l ∷ run) p ≡ o → holds_part old p ≡ b → BurnsAt b o (left_at state new p other) → BurnsAt (holds_part new p) (fuse whole (l ∷ run) p) (left_at state new p other)
    burns_as p b o other e h k = subst (λ x. BurnsAt (holds_part new p) x (left_at state new p other)) (sym e) (subst (λ x. BurnsAt x o (left_at state new p other)) (sym (same p ∙ h)) k)

    old_as : (p : PartId) (b : Bool) (other : Durable E D) → holds_part old p ≡ b → BurnsAt b (fuse whole run p) (left_at state old p other)
    old_as p b other h = subst (λ x. BurnsAt x (fuse whole run p) (left_at state old p other)) h (f.burns p other)

    burns_here : (other : Durable E D) → BurnsAt (holds_part new at) (fuse whole (l ∷ run) at) (left_at state new at other)
    burns_here other = by_lets (lets_burn l.step) refl
      where
        by_lets : (b : Bool) → lets_burn l.step ≡ b → BurnsAt (holds_part new at) (fuse whole (l ∷ run) at) (left_at state new at other)
        by_lets true e =
            burns_as at (holds_part old at) (counted (shows_written whole run at l) (fuse whole run at)) other (after_call run at (fuse whole run at) (shows_written whole run at l) l.step e) refl
            (burns_counted (holds_part old at) (fuse whole run at) (shows_written whole run at l) (left_at state old at other) (left_at state new at other) (f.burns at other) (λ h. burnt e other))
        by_lets false e = burns_as at (holds_part old at) None other (over e) refl (burns_over (holds_part old at) (left_at state new at other))

    burns_there : (p : PartId) → same_part at p ≡ false → (other : Durable E D) → BurnsAt (holds_part new p) (fuse whole (l ∷ run) p) (left_at state new p other)
    burns_there p apart other = by_place (holds_part old p) refl
      where
        after : (fuse whole (l ∷ run) p ≡ None) ⊎ (fuse whole (l ∷ run) p ≡ fuse whole run p)
        after = subst (λ b. (fuse_after run p (fuse whole run p) b l.step ≡ None) ⊎ (fuse_after run p (fuse whole run p) b l.step ≡ fuse whole run p)) (sym (others p apart)) (after_other run p (fuse whole run p) l.step unarmed)

        by_place : (b : Bool) → holds_part old p ≡ b → BurnsAt (holds_part new p) (fuse whole (l ∷ run) p) (left_at state new p other)
        by_place true h = ⊎_elim
            (λ (e : fuse whole (l ∷ run) p ≡ None). burns_as p true None other e h tt)
            (λ (e : fuse whole (l ∷ run) p ≡ fuse whole run p). burns_as p true (fuse whole run p) other e h (subst (λ x. BurnsBy (fuse whole run p) x) (sym (elsewhere p h apart other)) (old_as p true other h)))
            after
        by_place false h = ⊎_elim
            (λ (e : fuse whole (l ∷ run) p ≡ None). burns_as p false None other e h refl)
            (λ (e : fuse whole (l ∷ run) p ≡ fuse whole run p). burns_as p false (fuse whole run p) other e h (old_as p false other h))
            after

    burns_all : (p : PartId) (other : Durable E D) → BurnsAt (holds_part new p) (fuse whole (l ∷ run) p) (left_at state new p other)
    burns_all p other = ⊎_elim
        (λ (e : same_part at p ≡ true). subst (λ q. BurnsAt (holds_part new q) (fuse whole (l ∷ run) q) (left_at state new q other)) (same_part_is at p e) (burns_here other))
        (λ (e : same_part at p ≡ false). burns_there p e other)
        (cases_Bool (same_part at p))

    still : (p : PartId) → IsUnfired (fuse whole (l ∷ run) p)
    still p = is_unfired (holds_part new p) (fuse whole (l ∷ run) p) (left_at state new p here) (burns_all p here)

    pub fuel_call : IsFueled state new whole (l ∷ run)
    fuel_call = record { keeps = (still, f.keeps); unfired = still; burns = burns_all; lit = lit }

  -- a fuse is armed
  module _ (old new : Held E D) (at : PartId) (here : Durable E D) (k n : ℕ) (is : l.step ≡ step.Fused at k n) (some : 1 ≤ k) (there : holds_part old at ≡ true) (same : (p : PartId) → holds_part new p ≡ holds_part old p)
      (elsewhere : (p : PartId) → holds_part old p ≡ true → same_part at p ≡ false → (other : Durable E D) → left_at state new p other ≡ left_at state old p other)
      (armed : (other : Durable E D) → left_at state new at other ≡ Some k)
      (lit_on : IsLit state new whole (l ∷ run)) (f : IsFueled state old whole run) where
    abbrev lit : Fuse
    lit = record { fires_at = k; written = 0 }

    fused_here : fuse whole (l ∷ run) at ≡ Some lit
    fused_here = ap (λ s. fuse_after run at (fuse whole run at) (shows_written whole run at l) s) is ∙ cond-true (same_part at at) (Some lit) (fuse whole run at) (same_part_refl at)

    fused_there : (p : PartId) → same_part at p ≡ false → fuse whole (l ∷ run) p ≡ fuse whole run p
    fused_there p e = ap (λ s. fuse_after run p (fuse whole run p) (shows_written whole run p l) s) is ∙ cond-false (same_part at p) (Some lit) (fuse whole run p) e

    lit_here : (other : Durable E D) → BurnsAt (holds_part new at) (fuse whole (l ∷ run) at) (left_at state new at other)
    lit_here other = subst (λ o. BurnsAt (holds_part new at) o (left_at state new at other)) (sym fused_here) (subst (λ b. BurnsAt b (Some lit) (left_at state new at other)) (sym (same at ∙ there)) (burns_armed k (left_at state new at other) some (armed other)))

    lit_there : (p : PartId) → same_part at p ≡ false → (other : Durable E D) → BurnsAt (holds_part new p) (fuse whole (l ∷ run) p) (left_at state new p other)
    lit_there p e other = subst (λ o. BurnsAt (holds_part new p) o (left_at state new p other)) (sym (fused_there p e)) (subst (λ b. BurnsAt b (fuse whole run p) (left_at state new p other)) (sym (same p)) (by_place (holds_part old p) refl))
      where
        by_place : (b : Bool) → holds_part old p ≡ b → BurnsAt (holds_part old p) (fuse whole run p) (left_at state new p other)
        by_place true h = subst (λ x. BurnsAt (holds_part old p) (fuse whole run p) x) (sym (elsewhere p h e other)) (f.burns p other)
        by_place false h = subst (λ x. BurnsAt x (fuse whole run p) (left_at state new p other)) (sym h) (subst (λ x. BurnsAt x (fuse whole run p) (left_at state old p other)) h (f.burns p other))

    lit_all : (p : PartId) (other : Durable E D) → BurnsAt (holds_part new p) (fuse whole (l ∷ run) p) (left_at state new p other)
    lit_all p other = ⊎_elim
        (λ (e : same_part at p ≡ true). subst (λ q. BurnsAt (holds_part new q) (fuse whole (l ∷ run) q) (left_at state new q other)) (same_part_is at p e) (lit_here other))
        (λ (e : same_part at p ≡ false). lit_there p e other)
        (cases_Bool (same_part at p))

    alight : (p : PartId) → IsUnfired (fuse whole (l ∷ run) p)
    alight p = is_unfired (holds_part new p) (fuse whole (l ∷ run) p) (left_at state new p here) (lit_all p here)

    pub fuel_armed : IsFueled state new whole (l ∷ run)
    fuel_armed = record { keeps = (alight, f.keeps); unfired = alight; burns = lit_all; lit = lit_on }

-- a cluster whose disks burn down by nothing, with no line
module _ {E D : Type 0} (state : D → DiskState) (whole : List world.Line) (run : Run) (old new : Held E D) (same : (p : PartId) → holds_part new p ≡ holds_part old p)
    (stays : (p : PartId) → holds_part old p ≡ true → (other : Durable E D) → Burns 0 (left_at state old p other) (left_at state new p other)) (lit_on : IsLit state new whole run) (f : IsFueled state old whole run) where
  by_place : (p : PartId) (other : Durable E D) (b : Bool) → holds_part old p ≡ b → BurnsAt b (fuse whole run p) (left_at state new p other)
  by_place p other true h = subst (λ o. BurnsBy o (left_at state new p other)) (counted_none (fuse whole run p)) (burns_counted true (fuse whole run p) false (left_at state old p other) (left_at state new p other) (subst (λ x. BurnsAt x (fuse whole run p) (left_at state old p other)) h (f.burns p other)) (λ k. stays p h other))
    where
      counted_none : (o : Option Fuse) → counted false o ≡ o
      counted_none None = refl
      counted_none (Some x) = refl
  by_place p other false h = subst (λ x. BurnsAt x (fuse whole run p) (left_at state old p other)) h (f.burns p other)

  pub fuel_still : IsFueled state new whole run
  fuel_still = record { keeps = f.keeps; unfired = f.unfired; burns = λ p other. subst (λ b. BurnsAt b (fuse whole run p) (left_at state new p other)) (sym (same p)) (by_place p other (holds_part old p) refl); lit = lit_on }
