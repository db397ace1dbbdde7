-- The disks of a cluster that are made, one after another.
use Rattle.std.proofs.Common.{◌≡◌, ⊎_elim, ℕ, ◌+◌, ◌-◌, ◌*◌, ◌<◌, ◌≤◌, ◌&&◌, true, List, [], ◌∷◌, ◌++◌, length, None, Some, is_none, refl, sym, ap, ◌∙◌, subst, arith}
use Rattle.std.specs.Prelude.{Option, IsTrue}
use Rattle.std.proofs.lemmas.Bool.{true≢false}
use Rattle.std.proofs.lemmas.Nat.{mul-le}
use Rattle.disk_core.specs.States.{DiskState, Rose, fewer}
use Rattle.disk_core.specs.Fuses.{fused_state, unarmed}
use Rattle.disk_core.specs.declared.fused.Fused.{Fused}
use Rattle.disk_makers.specs.Makers.{Maker, IsMade, IsSound}
use Rattle.gate_log.specs.Rest.{AtRest, Lowers}
use Rattle.world_model.specs.declared.step.Step.{Step}
use Rattle.site_partitions.specs.Made.{AreBlank, HandsBack}
use Rattle.site_partitions.specs.Sound.{AllSound}
use Rattle.site_partitions.specs.declared.make.MakeError.{MakeError}
use Rattle.site_partitions.specs.declared.make.MakeError.TheVariants as make
use Rattle.site_vector.specs.declared.ids.PartId.{PartId}
use Rattle.dc_engine.specs.Makers.{AreSure, FailsAt, IsUnchanged, first_place, next_place}
use Rattle.dc_engine.proofs.commands.Returned.{close_by}

module _ {D : Type 0} (state : D → DiskState) where
  -- one more disk, with a fuse that isn't armed
  pub blank_more : (made : List (Fused D)) (disk : D) (fused : Fused D) → IsMade (state disk) → fused_state state fused ≡ unarmed (state disk) → AreBlank (fused_state state) made → AreBlank (fused_state state) (made ++ fused ∷ [])
  blank_more [] disk fused m e b = ((8, subst (λ s. AtRest s 8 []) (sym e) (record { tells = m.log.tells; settled = m.log.settled; log = m.log.log; place = m.log.place })), tt)
  blank_more (f ∷ made) disk fused m e b = (b.0, blank_more made disk fused m e b.1)

  -- it is as sure as the disk inside
  pub sure_more : (made : List (Fused D)) (disk : D) (fused : Fused D) → IsSound (state disk) → fused_state state fused ≡ unarmed (state disk) → AreSure (fused_state state) made → AreSure (fused_state state) (made ++ fused ∷ [])
  sure_more [] disk fused sound e s = (subst IsSound (sym e) (record { sound = (λ i. sound.sound i && is_none (sound.unfused i)); unfused = refl }), tt)
  sure_more (f ∷ made) disk fused sound e s = (s.0, sure_more made disk fused sound e s.1)

  -- some are made, and as many more are out; so many are left to make
  pub record IsMaking (count : ℕ) (start now : Maker D) (made : List (Fused D)) (at : PartId) (left : ℕ) : Type 0 where
    pub all : length made + left ≡ count
    pub few : count ≤ 128
    pub near : at.site ≤ 1 + length made
    pub blank : AreBlank (fused_state state) made
    pub out : now.out ≡ start.out + length made
    pub later : start.faults ≤ now.faults
    pub same : IsUnchanged start now

  pub making_start : (sites parts : ℕ) (start : Maker D) → sites ≤ 8 → parts ≤ 16 → IsMaking (sites * parts) start start [] first_place (sites * parts)
  making_start sites parts start s p = record {
    all = omega arith;
    few = let up : sites * parts ≤ 8 * 16 = mul-le sites parts 8 16 s p in omega (arith, up);
    near = omega arith;
    blank = tt;
    out = omega arith;
    later = omega arith;
    same = record { tells = refl; given = refl };
  }

  pub making_more : (count : ℕ) (start now new : Maker D) (made more : List (Fused D)) (parts : ℕ) (at next : PartId) (left : ℕ) → IsMaking count start now made at left → 0 < left → length more ≡ length made + 1 → next ≡ next_place parts at → AreBlank (fused_state state) more → new.out ≡ now.out + 1 → now.faults ≤ new.faults → IsUnchanged now new → IsMaking count start new more next (left - 1)
  making_more count start now new made more parts at next left m some counted e blank out later same = record {
    all = let a = m.all in omega (arith, a, some, counted);
    few = m.few;
    near = let a = m.near in let b = close_by parts at next e in omega (arith, a, counted, b);
    blank = blank;
    out = let a = m.out in omega (arith, a, out, counted);
    later = let a = m.later in omega (arith, a, later);
    same = record { tells = same.tells ∙ m.same.tells; given = same.given ∙ m.same.given };
  }

pub rose_later : (a b c : ℕ) → a ≤ b → Rose b c → Rose a c
rose_later a b c h k = omega (arith, h, k)

pub unchanged_refl : {D : Type 0} (m : Maker D) → IsUnchanged m m
unchanged_refl m = record { tells = refl; given = refl }

pub unchanged_both : {D : Type 0} (a b c : Maker D) → IsUnchanged a b → IsUnchanged b c → IsUnchanged a c
unchanged_both a b c x y = record { tells = y.tells ∙ x.tells; given = y.given ∙ x.given }

module _ {D : Type 0} (state : D → DiskState) where
  pub sure_sound : (disks : List D) → AreSure state disks → AllSound state disks
  sure_sound [] s = tt
  sure_sound (d ∷ disks) s = (s.0.sound, sure_sound disks s.1)

  sure_at : (front : List D) (given : D) (more : List D) → AreSure state (front ++ given ∷ more) → IsSound (state given)
  sure_at [] given more s = s.0
  sure_at (d ∷ front) given more s = sure_at front given more s.1

  unfused_left : (left new : Option ℕ) → left ≡ None → Lowers 3 left new → new ≡ None
  unfused_left left new e l = l.left ∙ ap (fewer l.count) e

  never_fired : (left : Option ℕ) → left ≡ None → left ≡ Some 0 → ⊥
  never_fired None e h = cc
  never_fired (Some n) e h = cc

  -- a disk that fails only where it finds no memory to grow doesn't fail otherwise as its partition comes up
  pub sure_comes_up : (sites parts : ℕ) (disks : List D) (error : MakeError D) (steps : List Step) → AreSure state disks → HandsBack state sites parts disks error → FailsAt state error steps → ⊥
  sure_comes_up sites parts disks make.NoMemory steps s h f = f
  sure_comes_up sites parts disks (make.Partition at disk why) steps s h f =
      let sound = sure_at h.front h.given h.more (subst (AreSure state) h.split s) in ⊎_elim
      (λ (x : IsTrue (state disk).starved). absurd (true≢false (sym x ∙ f.1)))
      (λ (x : (state disk).left ≡ Some 0). never_fired (state disk).left (unfused_left (state h.given).left (state disk).left sound.unfused h.left) x)
      ((h.failed f.0).cause sound.sound)
