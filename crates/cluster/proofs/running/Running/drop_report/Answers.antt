use Rattle.std.proofs.Common.{◌∙◌, sym, subst, Some}
use Rattle.site_partitions.specs.Reaches.{types_of}
use Rattle.world_model.specs.declared.command.Command.TheVariants as command
use Rattle.cluster.specs.Post.{PostState, WholeState}
use Rattle.cluster.specs.Reached.{Applies}
use Rattle.cluster.proofs.Applying.{map_ok}
use Rattle.cluster.proofs.Dropping.{report_absent, report_dropped}
use Rattle.cluster.proofs.running.Running.drop_report.Goals as goal

pub returns-then-not-contains_key : goal.returns-then-not-contains_key
returns-then-not-contains_key g c =
    let post : PostState g.row.C-Effect.Denot = record { letters = c.self.inside.letters.entries; next_letter = c.self.inside.next_letter; notes = c.self.inside.notes.entries; next_note = c.self.inside.next_note } in
    let w : WholeState g.row.C-Effect.Denot _ = record { live = c.self.inside.live; post = post } in
    map_ok c.only.result (λ steps is. subst (λ (x : WholeState g.row.C-Effect.Denot _). Applies (types_of g.C.Crdt.laws g.C.Crdt.spells g.D.Disk.state) (Some x) (command.DropReport c.args.number) steps.items (Some x)) c.self.view_is (report_absent (types_of g.C.Crdt.laws g.C.Crdt.spells g.D.Disk.state) w c.args.number steps.items is (sym c.contains_key.ensures ∙ c.if-not-contains_key.true))) c.only.ensures

pub returns : goal.returns
returns g c =
    let post : PostState g.row.C-Effect.Denot = record { letters = c.self.inside.letters.entries; next_letter = c.self.inside.next_letter; notes = c.self.inside.notes.entries; next_note = c.self.inside.next_note } in
    let w : WholeState g.row.C-Effect.Denot _ = record { live = c.self.inside.live; post = post } in
    map_ok c.only-2.result (λ steps is. subst (λ (x : WholeState g.row.C-Effect.Denot _). Applies (types_of g.C.Crdt.laws g.C.Crdt.spells g.D.Disk.state) (Some x) (command.DropReport c.args.number) steps.items (Some (record { live = c.self.inside.live; post = record { letters = post.letters; next_letter = post.next_letter; notes = c.forget_report.new.notes.entries; next_note = post.next_note } }))) c.self.view_is
    (report_dropped (types_of g.C.Crdt.laws g.C.Crdt.spells g.D.Disk.state) w c.args.number c.forget_report.new.notes.entries steps.items is (sym c.contains_key.ensures ∙ c.if-not-contains_key.false) c.forget_report.ensures.find c.forget_report.ensures.count)) c.only-2.ensures
