use Rattle.std.proofs.Common.{◌∙◌, sym, subst, Some}
use Rattle.site_partitions.specs.Reaches.{types_of}
use Rattle.world_model.specs.declared.command.Command.TheVariants as command
use Rattle.cluster.specs.Post.{PostState, WholeState}
use Rattle.cluster.specs.Reached.{Applies}
use Rattle.cluster.proofs.Applying.{map_ok}
use Rattle.cluster.proofs.Dropping.{message_absent, message_dropped}
use Rattle.cluster.proofs.running.Running.drop_message.Goals as goal

pub returns-then-not-contains_key : goal.returns-then-not-contains_key
returns-then-not-contains_key g c =
    let post : PostState g.row.C-Effect.Denot = record { letters = c.self.inside.letters.entries; next_letter = c.self.inside.next_letter; notes = c.self.inside.notes.entries; next_note = c.self.inside.next_note } in
    let w : WholeState g.row.C-Effect.Denot _ = record { live = c.self.inside.live; post = post } in
    map_ok c.only.result (λ steps is. subst (λ (x : WholeState g.row.C-Effect.Denot _). Applies (types_of g.C.Crdt.laws g.C.Crdt.spells g.D.Disk.state) (Some x) (command.DropMessage c.args.number) steps.items (Some x)) c.self.view_is (message_absent (types_of g.C.Crdt.laws g.C.Crdt.spells g.D.Disk.state) w c.args.number steps.items is (sym c.contains_key.ensures ∙ c.if-not-contains_key.true))) c.only.ensures

pub returns : goal.returns
returns g c =
    let post : PostState g.row.C-Effect.Denot = record { letters = c.self.inside.letters.entries; next_letter = c.self.inside.next_letter; notes = c.self.inside.notes.entries; next_note = c.self.inside.next_note } in
    let w : WholeState g.row.C-Effect.Denot _ = record { live = c.self.inside.live; post = post } in
    map_ok c.only-2.result (λ steps is. subst (λ (x : WholeState g.row.C-Effect.Denot _). Applies (types_of g.C.Crdt.laws g.C.Crdt.spells g.D.Disk.state) (Some x) (command.DropMessage c.args.number) steps.items (Some (record { live = c.self.inside.live; post = record { letters = c.forget_message.new.letters.entries; next_letter = post.next_letter; notes = post.notes; next_note = post.next_note } }))) c.self.view_is
    (message_dropped (types_of g.C.Crdt.laws g.C.Crdt.spells g.D.Disk.state) w c.args.number c.forget_message.new.letters.entries steps.items is (sym c.contains_key.ensures ∙ c.if-not-contains_key.false) c.forget_message.ensures.find c.forget_message.ensures.count)) c.only-2.ensures
