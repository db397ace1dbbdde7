use Rattle.std.proofs.Common.{◌∙◌, sym, subst, Some}
use Rattle.disk_core.specs.Fuses.{fused_state}
use Rattle.site_partitions.specs.Reaches.{types_of}
use Rattle.cluster.specs.Post.{PostState, WholeState}
use Rattle.cluster.specs.Reached.{Applies, IsReachedLive}
use Rattle.cluster.specs.Fuel.{SetsFuse}
use Rattle.cluster.proofs.Fusing.{ever_ok, no_fault, post_no_fault, fates_no_fault}
use Rattle.cluster.proofs.Applying.{map_ok, lift, live_of}
use Rattle.cluster.proofs.running.Running+C+Fused+D.apply.Goals as goal

pub returns-then-is_of_fates-clause-applies : goal.returns-then-is_of_fates-clause-applies
returns-then-is_of_fates-clause-applies g c =
    let post : PostState g.row.C-Effect.Denot = record { letters = c.self.inside.letters.entries; next_letter = c.self.inside.next_letter; notes = c.self.inside.notes.entries; next_note = c.self.inside.next_note } in
    map_ok c.end.result (λ steps a. subst (λ (x : WholeState g.row.C-Effect.Denot _). Applies (types_of g.C.Crdt.laws g.C.Crdt.spells (fused_state g.D.Disk.state)) (Some x) c.args.command.now steps.items (Some (record { live = c.end.new.self; post = post }))) c.self.view_is
    (lift (types_of g.C.Crdt.laws g.C.Crdt.spells (fused_state g.D.Disk.state)) (record { live = c.self.inside.live; post = post }) c.end.new.self c.args.command.now steps.items a)) c.end.ensures

pub returns-then-is_of_faults-clause-applies : goal.returns-then-is_of_faults-clause-applies
returns-then-is_of_faults-clause-applies g c =
    let post : PostState g.row.C-Effect.Denot = record { letters = c.self.inside.letters.entries; next_letter = c.self.inside.next_letter; notes = c.self.inside.notes.entries; next_note = c.self.inside.next_note } in
    map_ok c.strike.result (λ steps a. subst (λ (x : WholeState g.row.C-Effect.Denot _). Applies (types_of g.C.Crdt.laws g.C.Crdt.spells (fused_state g.D.Disk.state)) (Some x) c.args.command.now steps.items (Some (record { live = c.strike.new.self; post = post }))) c.self.view_is
    (lift (types_of g.C.Crdt.laws g.C.Crdt.spells (fused_state g.D.Disk.state)) (record { live = c.self.inside.live; post = post }) c.strike.new.self c.args.command.now steps.items a)) c.strike.ensures.applies

pub returns-clause-applies : goal.returns-clause-applies
returns-clause-applies g c =
    let post : PostState g.row.C-Effect.Denot = record { letters = c.self.inside.letters.entries; next_letter = c.self.inside.next_letter; notes = c.self.inside.notes.entries; next_note = c.self.inside.next_note } in
    map_ok c.apply.result (λ steps a. subst (λ (x : WholeState g.row.C-Effect.Denot _). Applies (types_of g.C.Crdt.laws g.C.Crdt.spells (fused_state g.D.Disk.state)) (Some x) c.args.command.now steps.items (Some (record { live = c.apply.new.self; post = post }))) c.self.view_is
    (lift (types_of g.C.Crdt.laws g.C.Crdt.spells (fused_state g.D.Disk.state)) (record { live = c.self.inside.live; post = post }) c.apply.new.self c.args.command.now steps.items a)) c.apply.ensures

pub end-requires-clause-reached : goal.end-requires-clause-reached
end-requires-clause-reached g c = subst (λ (x : WholeState g.row.C-Effect.Denot _). IsReachedLive (types_of g.C.Crdt.laws g.C.Crdt.spells (fused_state g.D.Disk.state)) x.live) (sym c.self.view_is) (live_of (types_of g.C.Crdt.laws g.C.Crdt.spells (fused_state g.D.Disk.state)) c.args.self.now c.requires.reached)

pub strike-requires-clause-reached : goal.strike-requires-clause-reached
strike-requires-clause-reached g c = subst (λ (x : WholeState g.row.C-Effect.Denot _). IsReachedLive (types_of g.C.Crdt.laws g.C.Crdt.spells (fused_state g.D.Disk.state)) x.live) (sym c.self.view_is) (live_of (types_of g.C.Crdt.laws g.C.Crdt.spells (fused_state g.D.Disk.state)) c.args.self.now c.requires.reached)

pub apply-requires-clause-reached : goal.apply-requires-clause-reached
apply-requires-clause-reached g c = subst (λ (x : WholeState g.row.C-Effect.Denot _). IsReachedLive (types_of g.C.Crdt.laws g.C.Crdt.spells (fused_state g.D.Disk.state)) x.live) (sym c.self.view_is) (live_of (types_of g.C.Crdt.laws g.C.Crdt.spells (fused_state g.D.Disk.state)) c.args.self.now c.requires.reached)

pub returns-then-is_of_post-clause-fuse : goal.returns-then-is_of_post-clause-fuse
returns-then-is_of_post-clause-fuse g c = ever_ok c.handle.result (λ steps. no_fault (fused_state g.D.Disk.state) c.args.command.now _ _ (post_no_fault c.args.command.now (sym c.is_of_post.ensures ∙ c.if-is_of_post.true)))

pub returns-then-is_of_fates-clause-fuse : goal.returns-then-is_of_fates-clause-fuse
returns-then-is_of_fates-clause-fuse g c = ever_ok c.end.result (λ steps. no_fault (fused_state g.D.Disk.state) c.args.command.now _ _ (fates_no_fault c.args.command.now (sym c.is_of_fates.ensures ∙ c.if-is_of_fates.true)))

pub returns-then-is_of_faults-clause-fuse : goal.returns-then-is_of_faults-clause-fuse
returns-then-is_of_faults-clause-fuse g c = map_ok c.strike.result (λ steps s. subst (λ (x : WholeState g.row.C-Effect.Denot _). SetsFuse (fused_state g.D.Disk.state) c.args.command.now x.live.sites c.strike.new.self.sites) c.self.view_is s) c.strike.ensures.fuse

pub returns-clause-fuse : goal.returns-clause-fuse
returns-clause-fuse g c = ever_ok c.apply.result (λ steps. no_fault (fused_state g.D.Disk.state) c.args.command.now _ _ (sym c.is_of_faults.ensures ∙ c.if-is_of_faults.false))
