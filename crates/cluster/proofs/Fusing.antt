-- What commands do to the fuses of partitions.
use Rattle.std.proofs.Common.{◌≡◌, ◌≢◌, ℕ, zero, suc, true, false, refl, sym, ap, ◌∙◌, subst, true≢false, Option, None, Some}
use Rattle.std.specs.Prelude.{Result, Ok, Err, IfOk}
use Rattle.site_vector.specs.declared.ids.PartId.{PartId}
use Rattle.disk_core.specs.States.{DiskState, fewer}
use Rattle.gate_log.specs.Rest.{Lowers}
use Rattle.partition_core.specs.Durable.{Durable, disk_in}
use Rattle.site_partitions.specs.Faults.{ArmsAt, RevivesAt}
use Rattle.site_partitions.specs.Held.{Held, index_of, holds_part}
use Rattle.site_partitions.specs.Moves.{Moves}
use Rattle.site_partitions.specs.Reaches.{Types}
use Rattle.world_model.specs.declared.command.Command.{Command}
use Rattle.world_model.specs.declared.command.Command.TheVariants as command
use Rattle.cluster.specs.Built.{is_of_post, is_of_fates, is_of_faults}
use Rattle.cluster.specs.Fuel.{left_at, IsUnfiredAt, StaysUnarmed, SetsFuse}
use Rattle.cluster.proofs.Ups.{there_now}
use Rattle.world_model.specs.lines.Places.{IsPlace}
use Rattle.cluster.proofs.FuelCalls.{at_set, keep_here, left_here, left_there, place_held}

-- what is so whatever the value
pub ever_ok : {A X : Type 0} {P : A → Type 0} (r : Result A X) → ((x : A) → P x) → IfOk r P
ever_ok (Ok x) f = f x
ever_ok (Err x) f = tt

module _ {S E D : Type 0} (w : Types S E D) (old new : Held E D) (at : PartId) where
  abbrev calls : Durable E D → Option ℕ
  calls t = (disk_in w.state t).left

  -- what holds of the calls of its disk before and after
  left_by : (R : Option ℕ → Option ℕ → Type 0) (m : Moves w.state old new at) → R (calls m.before) (calls m.after) → (other : Durable E D) → R (left_at w.state old at other) (left_at w.state new at other)
  left_by R m h other = subst (λ (c : Held E D). R (left_at w.state old at other) (left_at w.state c at other)) (sym m.changed) (at_set calls R old.partitions (index_of old.parts at) m.before m.after m.there h other)

  -- calls of a disk arm no fuse
  pub unarmed : (m : Moves w.state old new at) → Lowers 3 (calls m.before) (calls m.after) → StaysUnarmed w.state old new at
  unarmed m l other e = left_by (λ x y. x ≡ None → y ≡ None) m (λ h. l.left ∙ ap (λ o. fewer l.count o) h) other e

  pub armed : (k n : ℕ) → ArmsAt w old new at k n → SetsFuse w.state (command.Fuse at k n) old new
  armed k n a there = record {
    left = λ other. left_here w old new at a.moves (Some k) (ap (λ (d : DiskState). d.left) a.armed) other there;
    keep = λ other. keep_here w old new at a.moves n (ap (λ (d : DiskState). d.keep) a.armed) other there;
    others = λ q held apart other. left_there w old new at a.moves (place_held old at there) q held apart other;
  }

  taken : RevivesAt w old new at → (other : Durable E D) → left_at w.state old at other ≡ Some 0 → left_at w.state new at other ≡ None
  taken v other e = left_by (λ x y. x ≡ Some 0 → y ≡ None) v.moves (λ h. ap (λ (d : DiskState). d.left) (v.fired h)) other e

none_some : (n : ℕ) → None ≡ Some n → ⊥
none_some n h = absurd cc

some_zero : (n : ℕ) → Some (suc n) ≡ Some zero → ⊥
some_zero n h = absurd cc

module _ {S E D : Type 0} (w : Types S E D) (old new : Held E D) (at : PartId) (v : RevivesAt w old new at) where
  unfired_after : (o : Option ℕ) → (disk_in w.state v.moves.before).left ≡ o → (disk_in w.state v.moves.after).left ≢ Some 0
  unfired_after (Some zero) e k = none_some zero (sym (ap (λ (d : DiskState). d.left) (v.fired e)) ∙ k)
  unfired_after (Some (suc n)) e k = some_zero n (sym e ∙ (sym (ap (λ (t : Durable E D). (disk_in w.state t).left) (v.burning (λ z. some_zero n (sym e ∙ z)))) ∙ k))
  unfired_after None e k = none_some zero (sym e ∙ (sym (ap (λ (t : Durable E D). (disk_in w.state t).left) (v.burning (λ z. none_some zero (sym e ∙ z)))) ∙ k))

  -- after that none has fired
  pub unfired_at : IsPlace new.sites new.parts at → IsUnfiredAt w.state new at
  unfired_at place t is = subst (λ x. (disk_in w.state x).left ≢ Some 0) (sym (there_now w old new at v.moves place t) ∙ is t) (unfired_after (disk_in w.state v.moves.before).left refl)

-- a fuse that has fired is taken away before a restart
pub taken_away : {S E D : Type 0} (w : Types S E D) (old mid new : Held E D) (at : PartId) → RevivesAt w old mid at → StaysUnarmed w.state mid new at → SetsFuse w.state (command.Restart at) old new
taken_away w old mid new at v s there other e = s other (taken w old mid at v other e)

module _ {E D : Type 0} (state : D → DiskState) where
  -- where there is no such partition, nothing is asked
  pub no_fuse : (at : PartId) (k n : ℕ) (c : Held E D) → holds_part c at ≡ false → SetsFuse state (command.Fuse at k n) c c
  no_fuse at k n c lacks there = absurd (true≢false (sym there ∙ lacks))

  pub no_restart : (at : PartId) (c : Held E D) → holds_part c at ≡ false → SetsFuse state (command.Restart at) c c
  no_restart at c lacks there other e = absurd (true≢false (sym there ∙ lacks))

  -- nor of a command that isn't one of faults
  pub no_fault : (c : Command) (old new : Held E D) → is_of_faults c ≡ false → SetsFuse state c old new
  no_fault (command.Fuse p k n) old new h = absurd (true≢false h)
  no_fault (command.Restart p) old new h = absurd (true≢false h)
  no_fault other old new h = tt

pub post_no_fault : (c : Command) → is_of_post c ≡ true → is_of_faults c ≡ false
post_no_fault (command.Crash p) h = absurd (true≢false (sym h))
post_no_fault (command.Fuse p k n) h = absurd (true≢false (sym h))
post_no_fault (command.Restart p) h = absurd (true≢false (sym h))
post_no_fault other h = refl

pub fates_no_fault : (c : Command) → is_of_fates c ≡ true → is_of_faults c ≡ false
fates_no_fault (command.Crash p) h = absurd (true≢false (sym h))
fates_no_fault (command.Fuse p k n) h = absurd (true≢false (sym h))
fates_no_fault (command.Restart p) h = absurd (true≢false (sym h))
fates_no_fault other h = refl
