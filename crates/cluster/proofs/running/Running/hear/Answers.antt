use Rattle.std.proofs.Common.{◌≡◌, ◌∙◌, ℕ, List, sym, subst, Some, true, false, rules}
use Rattle.std.specs.Prelude.{◌==◌}
use Rattle.site_partitions.specs.Reaches.{types_of}
use Rattle.world_model.specs.declared.command.Command.TheVariants as command
use Rattle.txn_session.specs.Session.{SessionState}
use Rattle.site_partitions.specs.Held.{holds_part}
use Rattle.cluster.specs.Post.{PostState, WholeState, item_at}
use Rattle.cluster.specs.Reached.{Applies, IsReached}
use Rattle.cluster.proofs.Applying.{map_ok}
use Rattle.cluster.proofs.Delivering.{may_hear, heard, hear_refused, hear_nowhere, hear_absent, hear_foreign}
use Rattle.cluster.proofs.running.Running.hear.Goals as goal

pub returns-then-not-has_part : goal.returns-then-not-has_part
returns-then-not-has_part g c =
    let post : PostState g.row.C-Effect.Denot = record { letters = c.self.inside.letters.entries; next_letter = c.self.inside.next_letter; notes = c.self.inside.notes.entries; next_note = c.self.inside.next_note } in
    let w : WholeState g.row.C-Effect.Denot _ = record { live = c.self.inside.live; post = post } in
    map_ok c.only.result (λ steps is. subst (λ (x : WholeState g.row.C-Effect.Denot _). Applies (types_of g.C.Crdt.laws g.C.Crdt.spells g.D.Disk.state) (Some x) (command.Hear c.args.number c.args.part) steps.items (Some x)) c.self.view_is (hear_nowhere (types_of g.C.Crdt.laws g.C.Crdt.spells g.D.Disk.state) w c.args.number c.args.part steps.items is (sym c.has_part.ensures ∙ c.if-not-has_part.true))) c.only.ensures

pub returns-in_default : goal.returns-in_default
returns-in_default g c =
    let post : PostState g.row.C-Effect.Denot = record { letters = c.self.inside.letters.entries; next_letter = c.self.inside.next_letter; notes = c.self.inside.notes.entries; next_note = c.self.inside.next_note } in
    let w : WholeState g.row.C-Effect.Denot _ = record { live = c.self.inside.live; post = post } in
    let has : holds_part c.self.inside.live.sites c.args.part ≡ true = sym c.has_part.ensures ∙ c.if-not-has_part.false in
    map_ok c.only-in_default.result (λ steps is. subst (λ (x : WholeState g.row.C-Effect.Denot _). Applies (types_of g.C.Crdt.laws g.C.Crdt.spells g.D.Disk.state) (Some x) (command.Hear c.args.number c.args.part) steps.items (Some x)) c.self.view_is (hear_absent (types_of g.C.Crdt.laws g.C.Crdt.spells g.D.Disk.state) w c.args.number c.args.part steps.items is has (search rules))) c.only-in_default.ensures

pub returns-then-note-part : goal.returns-then-note-part
returns-then-note-part g c =
    let post : PostState g.row.C-Effect.Denot = record { letters = c.self.inside.letters.entries; next_letter = c.self.inside.next_letter; notes = c.self.inside.notes.entries; next_note = c.self.inside.next_note } in
    let w : WholeState g.row.C-Effect.Denot _ = record { live = c.self.inside.live; post = post } in
    let has : holds_part c.self.inside.live.sites c.args.part ≡ true = sym c.has_part.ensures ∙ c.if-not-has_part.false in
    let there : item_at c.self.inside.notes.entries c.args.number ≡ Some c.in-Some.note.now = search rules in
    let other : (c.in-Some.note.now.from.site == c.args.part.site) ≡ false = search rules in
    map_ok c.only-then-note-part.result (λ steps is. subst (λ (x : WholeState g.row.C-Effect.Denot _). Applies (types_of g.C.Crdt.laws g.C.Crdt.spells g.D.Disk.state) (Some x) (command.Hear c.args.number c.args.part) steps.items (Some x)) c.self.view_is (hear_foreign (types_of g.C.Crdt.laws g.C.Crdt.spells g.D.Disk.state) w c.args.number c.args.part c.in-Some.note.now steps.items is has there other)) c.only-then-note-part.ensures

pub hear-requires : goal.hear-requires
hear-requires g c =
    let post : PostState g.row.C-Effect.Denot = record { letters = c.self.inside.letters.entries; next_letter = c.self.inside.next_letter; notes = c.self.inside.notes.entries; next_note = c.self.inside.next_note } in
    let w : WholeState g.row.C-Effect.Denot _ = record { live = c.self.inside.live; post = post } in
    let reached : IsReached (types_of g.C.Crdt.laws g.C.Crdt.spells g.D.Disk.state) (Some w) = subst (λ (x : WholeState g.row.C-Effect.Denot _). IsReached (types_of g.C.Crdt.laws g.C.Crdt.spells g.D.Disk.state) (Some x)) (sym c.self.view_is) c.requires.reached in
    let has : holds_part c.self.inside.live.sites c.args.part ≡ true = sym c.has_part.ensures ∙ c.if-not-has_part.false in
    let there : item_at c.self.inside.notes.entries c.args.number ≡ Some c.in-Some.note.now = search rules in
    let same : (c.in-Some.note.now.from.site == c.args.part.site) ≡ true = search rules in
    may_hear (types_of g.C.Crdt.laws g.C.Crdt.spells g.D.Disk.state) w c.args.number c.args.part c.in-Some.note.now there same has reached

pub returns-in-Ok : goal.returns-in-Ok
returns-in-Ok g c =
    let post : PostState g.row.C-Effect.Denot = record { letters = c.self.inside.letters.entries; next_letter = c.self.inside.next_letter; notes = c.self.inside.notes.entries; next_note = c.self.inside.next_note } in
    let w : WholeState g.row.C-Effect.Denot _ = record { live = c.self.inside.live; post = post } in
    let has : holds_part c.self.inside.live.sites c.args.part ≡ true = sym c.has_part.ensures ∙ c.if-not-has_part.false in
    let there : item_at c.self.inside.notes.entries c.args.number ≡ Some c.in-Some.note.now = search rules in
    let same : (c.in-Some.note.now.from.site == c.args.part.site) ≡ true = search rules in
    map_ok c.only-in-Ok.result (λ steps is. subst (λ (x : WholeState g.row.C-Effect.Denot _). Applies (types_of g.C.Crdt.laws g.C.Crdt.spells g.D.Disk.state) (Some x) (command.Hear c.args.number c.args.part) steps.items (Some (record { live = c.hear.new.self; post = post }))) c.self.view_is
    (subst (λ (ss : List (List ℕ × SessionState g.row.C-Effect.Denot)). Applies (types_of g.C.Crdt.laws g.C.Crdt.spells g.D.Disk.state) (Some w) (command.Hear c.args.number c.args.part) steps.items (Some (record { live = record { sites = c.hear.new.self.sites; sessions = ss }; post = post }))) (sym c.hear.ensures.same)
    (heard (types_of g.C.Crdt.laws g.C.Crdt.spells g.D.Disk.state) w c.args.number c.args.part c.in-Some.note.now there same c.hear.new.self.sites c.in-Ok.stable steps.items is has c.in-Ok.ensures.heard))) c.only-in-Ok.ensures

pub returns-in-Err : goal.returns-in-Err
returns-in-Err g c =
    let post : PostState g.row.C-Effect.Denot = record { letters = c.self.inside.letters.entries; next_letter = c.self.inside.next_letter; notes = c.self.inside.notes.entries; next_note = c.self.inside.next_note } in
    let w : WholeState g.row.C-Effect.Denot _ = record { live = c.self.inside.live; post = post } in
    let has : holds_part c.self.inside.live.sites c.args.part ≡ true = sym c.has_part.ensures ∙ c.if-not-has_part.false in
    let there : item_at c.self.inside.notes.entries c.args.number ≡ Some c.in-Some.note.now = search rules in
    let same : (c.in-Some.note.now.from.site == c.args.part.site) ≡ true = search rules in
    map_ok c.only-in-Err.result (λ steps is. subst (λ (x : WholeState g.row.C-Effect.Denot _). Applies (types_of g.C.Crdt.laws g.C.Crdt.spells g.D.Disk.state) (Some x) (command.Hear c.args.number c.args.part) steps.items (Some (record { live = c.hear.new.self; post = post }))) c.self.view_is
    (subst (λ (ss : List (List ℕ × SessionState g.row.C-Effect.Denot)). Applies (types_of g.C.Crdt.laws g.C.Crdt.spells g.D.Disk.state) (Some w) (command.Hear c.args.number c.args.part) steps.items (Some (record { live = record { sites = c.hear.new.self.sites; sessions = ss }; post = post }))) (sym c.hear.ensures.same)
    (hear_refused (types_of g.C.Crdt.laws g.C.Crdt.spells g.D.Disk.state) w c.args.number c.args.part c.in-Some.note.now there same c.hear.new.self.sites c.in-Err.error c.in_ok-line-in-Err.line steps.items is has c.in_ok-line-in-Err.ensures c.in-Err.ensures.heard))) c.only-in-Err.ensures
