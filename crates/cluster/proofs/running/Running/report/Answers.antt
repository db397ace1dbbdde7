use Rattle.std.proofs.Common.{◌≡◌, ◌∙◌, length, sym, subst, Some, true, false, rules}
use Rattle.std.specs.Prelude.{◌==◌}
use Rattle.site_partitions.specs.Reaches.{types_of}
use Rattle.world_model.specs.declared.command.Command.TheVariants as command
use Rattle.site_partitions.specs.Held.{holds_part}
use Rattle.cluster.specs.Post.{PostState, WholeState}
use Rattle.cluster.specs.Reached.{Applies}
use Rattle.cluster.proofs.Applying.{map_ok}
use Rattle.cluster.proofs.Sending.{report_nowhere, report_full, reported, report_refused}
use Rattle.cluster.proofs.running.Running.report.Goals as goal

pub returns-then-not-has_part : goal.returns-then-not-has_part
returns-then-not-has_part g c =
    let post : PostState g.row.C-Effect.Denot = record { letters = c.self.inside.letters.entries; next_letter = c.self.inside.next_letter; notes = c.self.inside.notes.entries; next_note = c.self.inside.next_note } in
    let w : WholeState g.row.C-Effect.Denot _ = record { live = c.self.inside.live; post = post } in
    map_ok c.only.result (λ steps is. subst (λ (x : WholeState g.row.C-Effect.Denot _). Applies (types_of g.C.Crdt.laws g.C.Crdt.spells g.D.Disk.state) (Some x) (command.Report c.args.part) steps.items (Some x)) c.self.view_is (report_nowhere (types_of g.C.Crdt.laws g.C.Crdt.spells g.D.Disk.state) w c.args.part steps.items is (sym c.has_part.ensures ∙ c.if-not-has_part.true))) c.only.ensures

pub returns-then-len-eq-MOST_IN_POST : goal.returns-then-len-eq-MOST_IN_POST
returns-then-len-eq-MOST_IN_POST g c =
    let post : PostState g.row.C-Effect.Denot = record { letters = c.self.inside.letters.entries; next_letter = c.self.inside.next_letter; notes = c.self.inside.notes.entries; next_note = c.self.inside.next_note } in
    let w : WholeState g.row.C-Effect.Denot _ = record { live = c.self.inside.live; post = post } in
    let there : holds_part c.self.inside.live.sites c.args.part ≡ true = sym c.has_part.ensures ∙ c.if-not-has_part.false in
    let full : (length c.self.inside.notes.entries == 4096) ≡ true = search rules in
    map_ok c.only-then-len-eq-MOST_IN_POST.result (λ steps is. subst (λ (x : WholeState g.row.C-Effect.Denot _). Applies (types_of g.C.Crdt.laws g.C.Crdt.spells g.D.Disk.state) (Some x) (command.Report c.args.part) steps.items (Some x)) c.self.view_is (report_full (types_of g.C.Crdt.laws g.C.Crdt.spells g.D.Disk.state) w c.args.part steps.items is there full)) c.only-then-len-eq-MOST_IN_POST.ensures

pub returns-in-Ok : goal.returns-in-Ok
returns-in-Ok g c =
    let post : PostState g.row.C-Effect.Denot = record { letters = c.self.inside.letters.entries; next_letter = c.self.inside.next_letter; notes = c.self.inside.notes.entries; next_note = c.self.inside.next_note } in
    let w : WholeState g.row.C-Effect.Denot _ = record { live = c.self.inside.live; post = post } in
    let there : holds_part c.self.inside.live.sites c.args.part ≡ true = sym c.has_part.ensures ∙ c.if-not-has_part.false in
    let room : (length c.self.inside.notes.entries == 4096) ≡ false = search rules in
    map_ok c.only-in-Ok.result (λ steps is. subst (λ (x : WholeState g.row.C-Effect.Denot _). Applies (types_of g.C.Crdt.laws g.C.Crdt.spells g.D.Disk.state) (Some x) (command.Report c.args.part) steps.items (Some (record { live = c.self.inside.live; post = record { letters = c.self.inside.letters.entries; next_letter = c.self.inside.next_letter; notes = c.keep_report.new.notes.entries; next_note = c.in_ok-next.next } }))) c.self.view_is
    (subst (λ n. Applies (types_of g.C.Crdt.laws g.C.Crdt.spells g.D.Disk.state) (Some w) (command.Report c.args.part) steps.items (Some (record { live = c.self.inside.live; post = record { letters = c.self.inside.letters.entries; next_letter = c.self.inside.next_letter; notes = c.keep_report.new.notes.entries; next_note = n } }))) (sym c.in_ok-next.ensures)
    (reported (types_of g.C.Crdt.laws g.C.Crdt.spells g.D.Disk.state) w c.args.part c.in-Ok.bounds c.keep_report.new.notes.entries c.in-Ok.ensures c.in_ok-keep_report-in-Ok.ensures.find c.in_ok-keep_report-in-Ok.ensures.count steps.items is there room))) c.only-in-Ok.ensures

pub returns-in-Err : goal.returns-in-Err
returns-in-Err g c =
    let post : PostState g.row.C-Effect.Denot = record { letters = c.self.inside.letters.entries; next_letter = c.self.inside.next_letter; notes = c.self.inside.notes.entries; next_note = c.self.inside.next_note } in
    let w : WholeState g.row.C-Effect.Denot _ = record { live = c.self.inside.live; post = post } in
    let there : holds_part c.self.inside.live.sites c.args.part ≡ true = sym c.has_part.ensures ∙ c.if-not-has_part.false in
    let room : (length c.self.inside.notes.entries == 4096) ≡ false = search rules in
    map_ok c.only-in-Err.result (λ steps is. subst (λ (x : WholeState g.row.C-Effect.Denot _). Applies (types_of g.C.Crdt.laws g.C.Crdt.spells g.D.Disk.state) (Some x) (command.Report c.args.part) steps.items (Some x)) c.self.view_is
    (report_refused (types_of g.C.Crdt.laws g.C.Crdt.spells g.D.Disk.state) w c.args.part c.in-Err.error c.in_ok-line-in-Err.line steps.items is there room c.in_ok-line-in-Err.ensures c.in-Err.ensures)) c.only-in-Err.ensures
