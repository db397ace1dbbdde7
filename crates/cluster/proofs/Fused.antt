-- What a cluster tells of its run over sound disks: each disk that failed did so by a fuse of the script.
use Rattle.std.proofs.Common.{◌≡◌, ◌≢◌, ℕ, zero, suc, ◌+◌, Bool, true, false, List, [], ◌∷◌, filter, get_or, Option, None, Some, refl, sym, ap, ◌∙◌, subst, true≢false}
use Rattle.std.specs.Prelude.{IsTrue, ◌||◌, ◌&&◌, if◌then◌else◌}
use Rattle.std.proofs.lemmas.Bool.{or_right}
use Rattle.site_vector.specs.declared.ids.PartId.{PartId}
use Rattle.site_vector.specs.declared.ids.TxId.{TxId}
use Rattle.site_vector.specs.Ids.{same_part}
use Rattle.disk_core.specs.States.{DiskState}
use Rattle.world_model.specs.declared.command.Command.{Command}
use Rattle.world_model.specs.declared.step.Step.{Step}
use Rattle.world_model.specs.declared.step.Step.TheVariants as step
use Rattle.world_model.specs.commands.Answers.{answered}
use Rattle.world_model.specs.commands.Cluster.{has_cluster, is_cluster, parts_of}
use Rattle.world_model.specs.commands.Fuses.{Fuse, counted, fuse, fuse_after, shows_written}
use Rattle.world_model.specs.commands.Run.{Run}
use Rattle.world_model.specs.commands.ScriptCalls.{calls_of}
use Rattle.world_model.specs.lines.Lines as world
use Rattle.world_model.specs.lines.Places.{IsPlace, partitions, first_of, home}
use Rattle.world_model.specs.lines.Updates.{lead, takes_part}
use Rattle.partition_core.specs.Durable.{Durable, disk_in}
use Rattle.txn_session.specs.Calls.{entries}
use Rattle.site_partitions.specs.Held.{Held, holds_part, index_of}
use Rattle.site_partitions.specs.Reaches.{Types}
use Rattle.site_partitions.specs.Sound.{AreSound}
use Rattle.cluster.specs.Faults.{AreFed, IsFed}
use Rattle.cluster.specs.Fuel.{AreBrought, FailedBy, AreFailedBy, IsFailedBy}
use Rattle.cluster.specs.Fused.{NeedsFuse, AreFused, AreSoundIn, StaysFused}
use Rattle.cluster.specs.Post.{WholeState}
use Rattle.cluster.specs.Reached.{Applies, FedIn, IsReached, Reached, ReachedWhole}
use Rattle.cluster.specs.Same.{SameCluster}
use Rattle.cluster.proofs.FuelTakes.{are_brought}
use Rattle.cluster.proofs.Striking.{holds_at}

-- whether a fuse is in force doesn't hang on what the whole run will be
after_none : (run : Run) (p : PartId) (a b : Option Fuse) (wrote also : Bool) (s : Step) → (a ≡ None → b ≡ None) → fuse_after run p a wrote s ≡ None → fuse_after run p b also s ≡ None
after_none run p a b wrote also (step.Fused q k n) h = by_place (same_part q p)
  where
    by_place : (c : Bool) → (if c then Some (record { fires_at = k; written = 0 }) else a) ≡ None → (if c then Some (record { fires_at = k; written = 0 }) else b) ≡ None
    by_place true e = absurd cc
    by_place false e = h e
after_none run p a b wrote also (step.Disk q) h = by_place (same_part q p)
  where
    by_place : (c : Bool) → (if c then None else a) ≡ None → (if c then None else b) ≡ None
    by_place true e = refl
    by_place false e = h e
after_none run p a b wrote also (step.Unsure t) h = by_place (same_part (lead (parts_of run) (calls_of run) t) p)
  where
    by_place : (c : Bool) → (if c then None else a) ≡ None → (if c then None else b) ≡ None
    by_place true e = refl
    by_place false e = h e
after_none run p a b wrote also other h = λ e. both a b wrote also h e
  where
    both : (x y : Option Fuse) (v u : Bool) → (x ≡ None → y ≡ None) → counted v x ≡ None → counted u y ≡ None
    both None None v true k e = refl
    both None None v false k e = refl
    both None (Some f) v u k e = absurd (some_none (k refl))
      where
        some_none : Some f ≡ None → ⊥
        some_none z = absurd cc
    both (Some f) y true u k e = absurd cc
    both (Some f) y false u k e = absurd cc

none_as : (whole other : List world.Line) (run : Run) (p : PartId) → fuse whole run p ≡ None → fuse other run p ≡ None
none_as whole other [] p h = refl
none_as whole other (l ∷ run) p h = after_none run p (fuse whole run p) (fuse other run p) (shows_written whole run p l) (shows_written other run p l) l.step (none_as whole other run p) h

-- the lead of a transaction is at its site
first_filtered : (q : PartId) (P : PartId → Bool) (site : ℕ) → q.site ≡ site → (first count : ℕ) → (first_of q (filter P (partitions site first count))).site ≡ site
first_filtered q P site e first zero = e
first_filtered q P site e first (suc count) = by_first (P (record { site = site; part = first })) (first_filtered q P site e (first + 1) count)
  where
    by_first : (b : Bool) → (first_of q (filter P (partitions site (first + 1) count))).site ≡ site → (first_of q (if b then (record { site = site; part = first }) ∷ filter P (partitions site (first + 1) count) else filter P (partitions site (first + 1) count))).site ≡ site
    by_first true h = refl
    by_first false h = h

lead_site : (parts : ℕ) (ls : List world.Line) (t : TxId) → (lead parts ls t).site ≡ t.site
lead_site parts ls t = first_filtered (home t) (λ p. takes_part ls t p) t.site refl 1 parts

module _ {E D : Type 0} (state : D → DiskState) (c : Held E D) (sound : AreSound state c) (whole : List world.Line) where
  in_force : (run : Run) (p : PartId) → IsFed state c p → FailedBy state c (fuse whole run p) p → fuse (calls_of run) run p ≢ None
  in_force run p fed f none = f.fused (record {
    sound = subst (λ t. IsTrue (disk_in state t).sound) (f.there f.part) (sound p f.place f.part);
    fed = fed (holds_at c p f.place) f.part f.there;
  }) (none_as (calls_of run) whole run p none)

  line_fused : (run : Run) (s : Step) → has_cluster run ≡ true → AreFed state c (s ∷ []) → IsFailedBy state c whole run s → NeedsFuse run s
  line_fused run (step.Disk p) has fed f = in_force run p fed.0 (f has)
  line_fused run (step.Unsure t) has fed f = in_force run (lead (parts_of run) (calls_of run) t) (fed.0 (lead (parts_of run) (calls_of run) t) (lead_site (parts_of run) (calls_of run) t)) (f has)
  line_fused run other has fed f = tt

  -- the lines before an answer, and the lines of one
  behind : (number : ℕ) (asked : Option Command) (steps : List Step) (run : Run) → AreFailedBy state c whole (answered number asked steps run) → AreFailedBy state c whole run
  behind number asked [] run f = f
  behind number asked (s ∷ steps) run f = (behind number asked steps ((record { number = number; command = asked; step = s }) ∷ run) f).1

  fed_parts : (s : Step) (steps : List Step) → AreFed state c (s ∷ steps) → AreFed state c (s ∷ []) × AreFed state c steps
  fed_parts (step.Disk p) steps h = ((h.0, tt), h.1)
  fed_parts (step.Unsure t) steps h = ((h.0, tt), h.1)
  fed_parts other steps h = (tt, h)

  pub lines_fused : (number : ℕ) (asked : Option Command) (steps : List Step) (run : Run) → has_cluster run ≡ true → AreFed state c steps → AreFailedBy state c whole (answered number asked steps run) → AreFused run → AreFused (answered number asked steps run)
  lines_fused number asked [] run has fed f fused = fused
  lines_fused number asked (s ∷ steps) run has fed f fused =
      let both = fed_parts s steps fed in
      let failed = (behind number asked steps ((record { number = number; command = asked; step = s }) ∷ run) f).0 in
      lines_fused number asked steps ((record { number = number; command = asked; step = s }) ∷ run) (or_right (is_cluster s) (has_cluster run) has) both.1 f (line_fused run s has both.0 failed, fused)

module _ {S E D : Type 0} (types : Types S E D) where
  sound_held : (old new : Held E D) → SameCluster types.state old new → AreSound types.state old → AreSound types.state new
  sound_held old new same sound p place other =
      let there : IsPlace old.sites old.parts p = subst (λ n. IsPlace n old.parts p) same.sites_are (subst (λ n. IsPlace new.sites n p) same.parts_are place) in
      subst (λ x. IsTrue x) (sym (same.sounds p other)) (sound p there other)

  -- a command leaves sound disks sound
  pub sound_on : (old new : Option (WholeState E D)) (c : Command) (steps : List Step) → IsReached types old → (old ≡ None → new ≡ None) → Applies types old c steps new → AreSoundIn types.state old → AreSoundIn types.state new
  sound_on old None c steps r none a s = tt
  sound_on None (Some w) c steps r none a s = absurd (some_none (none refl))
    where
      some_none : Some w ≡ None → ⊥
      some_none z = absurd cc
  sound_on (Some v) (Some w) c steps r none a s = sound_held v.live.sites w.live.sites (a 0 r.run r.reached).2.0 s

  has_on : (number : ℕ) (asked : Option Command) (steps : List Step) (run : Run) → has_cluster run ≡ true → has_cluster (answered number asked steps run) ≡ true
  has_on number asked [] run h = h
  has_on number asked (s ∷ steps) run h = has_on number asked steps ((record { number = number; command = asked; step = s }) ∷ run) (or_right (is_cluster s) (has_cluster run) h)

  -- over them each disk that its lines tell to have failed did so by a fuse of the script
  pub stays_fused : (old new : Option (WholeState E D)) (c : Command) (steps : List Step) → (old ≡ None → steps ≡ step.NoCluster ∷ []) → (old ≡ None → new ≡ None) → Applies types old c steps new → FedIn types.state new steps → AreSoundIn types.state new → (number : ℕ) (run : Run) → Reached types old run → StaysFused number c steps run
  stays_fused None new c steps none gone a fed s number run r fused = subst (λ l. AreFused (answered number (Some c) l run)) (sym (none refl)) (tt, fused)
  stays_fused (Some v) None c steps none gone a fed s number run r fused = absurd (true≢false (sym (has_on number (Some c) steps run r.live.has) ∙ (a number run r).1.lacks))
  stays_fused (Some v) (Some w) c steps none gone a fed s number run r fused =
      let next = answered number (Some c) steps run in
      let x = (a number run r).1.live in
      let f = x.fuel (calls_of next) (subst (λ ls. AreBrought ls (entries x.calls)) x.shown (are_brought types.kinds w.live.sites.sites w.live.sites.parts (entries x.calls) x.sees.reached.state x.sees.reached.is_run)) in
      lines_fused types.state w.live.sites s (calls_of next) number (Some c) steps run r.live.has fed f.lit.failed fused
