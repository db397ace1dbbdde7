use Rattle.std.proofs.Common.{ℕ, sym, subst, rules}
use Rattle.world_model.specs.commands.Run.{Run}
use Rattle.disk_core.specs.Fuses.{fused_state}
use Rattle.site_partitions.specs.Reaches.{types_of}
use Rattle.cluster.specs.Fused.{AreSoundIn, StaysFused}
use Rattle.cluster.specs.Reached.{Applies, FedIn, IsReached, Reached, SetsFuseIn}
use Rattle.cluster.proofs.Fused.{sound_on, stays_fused}
use Rattle.cluster.proofs.Applying.{none_reached, reached_on}
use Rattle.cluster.proofs.cluster.Cluster.apply.Goals as goal

pub invariant_of-self : goal.invariant_of-self
invariant_of-self g c = subst (IsReached (types_of g.C.Crdt.laws g.C.Crdt.spells (fused_state g.D.Disk.state))) (sym c.drop_live.ensures) (none_reached (types_of g.C.Crdt.laws g.C.Crdt.spells (fused_state g.D.Disk.state)))

pub invariant_of-self-else-lacks_memory : goal.invariant_of-self-else-lacks_memory
invariant_of-self-else-lacks_memory g c = reached_on (types_of g.C.Crdt.laws g.C.Crdt.spells (fused_state g.D.Disk.state)) _ c.answer.new.live c.args.command.now _ c.in-Ok.ensures.applies c.self.invariant

pub returns-in-Ok-clause-ok : goal.returns-in-Ok-clause-ok
returns-in-Ok-clause-ok g c = subst (λ l. Applies (types_of g.C.Crdt.laws g.C.Crdt.spells (fused_state g.D.Disk.state)) l c.args.command.now c.in-Ok.steps.items c.answer.new.live) c.self.view_is c.in-Ok.ensures.applies

pub returns-in-Ok-clause-fuse : goal.returns-in-Ok-clause-fuse
returns-in-Ok-clause-fuse g c = subst (λ l. SetsFuseIn (fused_state g.D.Disk.state) c.args.command.now l c.answer.new.live) c.self.view_is c.in-Ok.ensures.fuse

pub returns-in-Ok-clause-sound : goal.returns-in-Ok-clause-sound
returns-in-Ok-clause-sound g c =
    subst (λ l. AreSoundIn (fused_state g.D.Disk.state) l → AreSoundIn (fused_state g.D.Disk.state) c.answer.new.live) c.self.view_is
    (sound_on (types_of g.C.Crdt.laws g.C.Crdt.spells (fused_state g.D.Disk.state)) _ c.answer.new.live c.args.command.now c.in-Ok.steps.items c.self.invariant (λ e. (c.in-Ok.ensures.none e).0) c.in-Ok.ensures.applies)

pub returns-in-Ok-clause-fused : goal.returns-in-Ok-clause-fused
returns-in-Ok-clause-fused g c =
    let types = types_of g.C.Crdt.laws g.C.Crdt.spells (fused_state g.D.Disk.state) in
    let fed : FedIn (fused_state g.D.Disk.state) c.answer.new.live c.in-Ok.steps.items = search rules in
    subst (λ l. AreSoundIn (fused_state g.D.Disk.state) l → (number : ℕ) (run : Run) → Reached types l run → StaysFused number c.args.command.now c.in-Ok.steps.items run) c.self.view_is
    (λ s. stays_fused types _ c.answer.new.live c.args.command.now c.in-Ok.steps.items (λ e. (c.in-Ok.ensures.none e).1) (λ e. (c.in-Ok.ensures.none e).0) c.in-Ok.ensures.applies fed
    (sound_on types _ c.answer.new.live c.args.command.now c.in-Ok.steps.items c.self.invariant (λ e. (c.in-Ok.ensures.none e).0) c.in-Ok.ensures.applies s))
