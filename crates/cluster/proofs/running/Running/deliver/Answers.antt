use Rattle.std.proofs.Common.{◌≡◌, ℕ, List, sym, subst, Some, rules}
use Rattle.site_partitions.specs.Reaches.{types_of}
use Rattle.world_model.specs.declared.command.Command.TheVariants as command
use Rattle.txn_session.specs.Session.{SessionState}
use Rattle.cluster.specs.Post.{PostState, WholeState, item_at}
use Rattle.cluster.specs.Reached.{Applies, IsReached}
use Rattle.cluster.proofs.Applying.{map_ok}
use Rattle.cluster.proofs.Delivering.{may_take, delivered, refused_take, deliver_absent}
use Rattle.cluster.proofs.running.Running.deliver.Goals as goal

pub take-requires : goal.take-requires
take-requires g c =
    let post : PostState g.row.C-Effect.Denot = record { letters = c.self.inside.letters.entries; next_letter = c.self.inside.next_letter; notes = c.self.inside.notes.entries; next_note = c.self.inside.next_note } in
    let w : WholeState g.row.C-Effect.Denot _ = record { live = c.self.inside.live; post = post } in
    let reached : IsReached (types_of g.C.Crdt.laws g.C.Crdt.spells g.D.Disk.state) (Some w) = subst (λ (x : WholeState g.row.C-Effect.Denot _). IsReached (types_of g.C.Crdt.laws g.C.Crdt.spells g.D.Disk.state) (Some x)) (sym c.self.view_is) c.requires.reached in
    may_take (types_of g.C.Crdt.laws g.C.Crdt.spells g.D.Disk.state) w c.args.number c.in-Some.message.now (search rules) reached

pub returns-in_default : goal.returns-in_default
returns-in_default g c =
    let post : PostState g.row.C-Effect.Denot = record { letters = c.self.inside.letters.entries; next_letter = c.self.inside.next_letter; notes = c.self.inside.notes.entries; next_note = c.self.inside.next_note } in
    let w : WholeState g.row.C-Effect.Denot _ = record { live = c.self.inside.live; post = post } in
    map_ok c.only.result (λ steps is. subst (λ (x : WholeState g.row.C-Effect.Denot _). Applies (types_of g.C.Crdt.laws g.C.Crdt.spells g.D.Disk.state) (Some x) (command.Deliver c.args.number) steps.items (Some x)) c.self.view_is (deliver_absent (types_of g.C.Crdt.laws g.C.Crdt.spells g.D.Disk.state) w c.args.number steps.items is (search rules))) c.only.ensures

pub returns-in-Ok : goal.returns-in-Ok
returns-in-Ok g c =
    let post : PostState g.row.C-Effect.Denot = record { letters = c.self.inside.letters.entries; next_letter = c.self.inside.next_letter; notes = c.self.inside.notes.entries; next_note = c.self.inside.next_note } in
    let w : WholeState g.row.C-Effect.Denot _ = record { live = c.self.inside.live; post = post } in
    let there : item_at c.self.inside.letters.entries c.args.number ≡ Some c.in-Some.message.now = search rules in
    map_ok c.only-in-Ok.result (λ steps is. subst (λ (x : WholeState g.row.C-Effect.Denot _). Applies (types_of g.C.Crdt.laws g.C.Crdt.spells g.D.Disk.state) (Some x) (command.Deliver c.args.number) steps.items (Some (record { live = c.take.new.self; post = post }))) c.self.view_is
    (subst (λ (ss : List (List ℕ × SessionState g.row.C-Effect.Denot)). Applies (types_of g.C.Crdt.laws g.C.Crdt.spells g.D.Disk.state) (Some w) (command.Deliver c.args.number) steps.items (Some (record { live = record { sites = c.take.new.self.sites; sessions = ss }; post = post }))) (sym c.take.ensures.same)
    (delivered (types_of g.C.Crdt.laws g.C.Crdt.spells g.D.Disk.state) w c.args.number c.in-Some.message.now there c.take.new.self.sites steps.items is c.in-Ok.ensures.took))) c.only-in-Ok.ensures

pub returns-in-Err : goal.returns-in-Err
returns-in-Err g c =
    let post : PostState g.row.C-Effect.Denot = record { letters = c.self.inside.letters.entries; next_letter = c.self.inside.next_letter; notes = c.self.inside.notes.entries; next_note = c.self.inside.next_note } in
    let w : WholeState g.row.C-Effect.Denot _ = record { live = c.self.inside.live; post = post } in
    let there : item_at c.self.inside.letters.entries c.args.number ≡ Some c.in-Some.message.now = search rules in
    map_ok c.only-in-Err.result (λ steps is. subst (λ (x : WholeState g.row.C-Effect.Denot _). Applies (types_of g.C.Crdt.laws g.C.Crdt.spells g.D.Disk.state) (Some x) (command.Deliver c.args.number) steps.items (Some (record { live = c.take.new.self; post = post }))) c.self.view_is
    (subst (λ (ss : List (List ℕ × SessionState g.row.C-Effect.Denot)). Applies (types_of g.C.Crdt.laws g.C.Crdt.spells g.D.Disk.state) (Some w) (command.Deliver c.args.number) steps.items (Some (record { live = record { sites = c.take.new.self.sites; sessions = ss }; post = post }))) (sym c.take.ensures.same)
    (refused_take (types_of g.C.Crdt.laws g.C.Crdt.spells g.D.Disk.state) w c.args.number c.in-Some.message.now there (Unit {0}) c.take.new.self.sites c.in-Err.error c.in_ok-line-in-Err.line steps.items is c.in_ok-line-in-Err.ensures c.in-Err.ensures.took))) c.only-in-Err.ensures
