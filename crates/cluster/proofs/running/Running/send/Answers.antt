use Rattle.std.proofs.Common.{◌≡◌, ◌∙◌, ◌+◌, ℕ, List, [], ◌∷◌, length, ap, sym, subst, Some, true, false, rules}
use Rattle.std.specs.Prelude.{◌==◌}
use Rattle.site_partitions.specs.Reaches.{types_of}
use Rattle.world_model.specs.declared.command.Command.TheVariants as command
use Rattle.world_model.specs.declared.step.Step.TheVariants as step
use Rattle.crdt_core.specs.declared.record.Part.{Part}
use Rattle.txn_session.specs.Session.{SessionState}
use Rattle.cluster.specs.Post.{PostState, WholeState, lacks_way}
use Rattle.cluster.specs.Reached.{Applies, IsReached}
use Rattle.cluster.proofs.Applying.{map_ok}
use Rattle.cluster.proofs.Sending.{send_nowhere, send_full, sent, may_send, send_refused}
use Rattle.cluster.proofs.running.Running.send.Goals as goal

pub returns-then-lacks_way : goal.returns-then-lacks_way
returns-then-lacks_way g c =
    let post : PostState g.row.C-Effect.Denot = record { letters = c.self.inside.letters.entries; next_letter = c.self.inside.next_letter; notes = c.self.inside.notes.entries; next_note = c.self.inside.next_note } in
    let w : WholeState g.row.C-Effect.Denot _ = record { live = c.self.inside.live; post = post } in
    map_ok c.only.result (λ steps is. subst (λ (x : WholeState g.row.C-Effect.Denot _). Applies (types_of g.C.Crdt.laws g.C.Crdt.spells g.D.Disk.state) (Some x) (command.Send c.args.part c.args.site c.args.from) steps.items (Some x)) c.self.view_is (send_nowhere (types_of g.C.Crdt.laws g.C.Crdt.spells g.D.Disk.state) w c.args.part c.args.site c.args.from steps.items is (ap (λ (x : WholeState g.row.C-Effect.Denot _). lacks_way x.live.sites c.args.part c.args.site) c.self.view_is ∙ (sym c.lacks_way.ensures ∙ c.if-lacks_way.true)))) c.only.ensures

pub returns-then-len-eq-MOST_IN_POST : goal.returns-then-len-eq-MOST_IN_POST
returns-then-len-eq-MOST_IN_POST g c =
    let post : PostState g.row.C-Effect.Denot = record { letters = c.self.inside.letters.entries; next_letter = c.self.inside.next_letter; notes = c.self.inside.notes.entries; next_note = c.self.inside.next_note } in
    let w : WholeState g.row.C-Effect.Denot _ = record { live = c.self.inside.live; post = post } in
    let way : lacks_way c.self.inside.live.sites c.args.part c.args.site ≡ false = ap (λ (x : WholeState g.row.C-Effect.Denot _). lacks_way x.live.sites c.args.part c.args.site) c.self.view_is ∙ (sym c.lacks_way.ensures ∙ c.if-lacks_way.false) in
    let full : (length c.self.inside.letters.entries == 4096) ≡ true = search rules in
    map_ok c.only-then-len-eq-MOST_IN_POST.result (λ steps is. subst (λ (x : WholeState g.row.C-Effect.Denot _). Applies (types_of g.C.Crdt.laws g.C.Crdt.spells g.D.Disk.state) (Some x) (command.Send c.args.part c.args.site c.args.from) steps.items (Some x)) c.self.view_is (send_full (types_of g.C.Crdt.laws g.C.Crdt.spells g.D.Disk.state) w c.args.part c.args.site c.args.from steps.items is way full)) c.only-then-len-eq-MOST_IN_POST.ensures

pub release-requires-clause-may : goal.release-requires-clause-may
release-requires-clause-may g c =
    let post : PostState g.row.C-Effect.Denot = record { letters = c.self.inside.letters.entries; next_letter = c.self.inside.next_letter; notes = c.self.inside.notes.entries; next_note = c.self.inside.next_note } in
    let w : WholeState g.row.C-Effect.Denot _ = record { live = c.self.inside.live; post = post } in
    let way : lacks_way c.self.inside.live.sites c.args.part c.args.site ≡ false = ap (λ (x : WholeState g.row.C-Effect.Denot _). lacks_way x.live.sites c.args.part c.args.site) c.self.view_is ∙ (sym c.lacks_way.ensures ∙ c.if-lacks_way.false) in
    may_send (types_of g.C.Crdt.laws g.C.Crdt.spells g.D.Disk.state) w c.args.part c.args.site c.args.from way (subst (λ (x : WholeState g.row.C-Effect.Denot _). IsReached (types_of g.C.Crdt.laws g.C.Crdt.spells g.D.Disk.state) (Some x)) (sym c.self.view_is) c.requires.reached)

pub returns-in-Ok : goal.returns-in-Ok
returns-in-Ok g c =
    let post : PostState g.row.C-Effect.Denot = record { letters = c.self.inside.letters.entries; next_letter = c.self.inside.next_letter; notes = c.self.inside.notes.entries; next_note = c.self.inside.next_note } in
    let w : WholeState g.row.C-Effect.Denot _ = record { live = c.self.inside.live; post = post } in
    let way : lacks_way c.self.inside.live.sites c.args.part c.args.site ≡ false = ap (λ (x : WholeState g.row.C-Effect.Denot _). lacks_way x.live.sites c.args.part c.args.site) c.self.view_is ∙ (sym c.lacks_way.ensures ∙ c.if-lacks_way.false) in
    let room : (length c.self.inside.letters.entries == 4096) ≡ false = search rules in
    map_ok c.only-in-Ok.result (λ steps is. subst (λ (x : WholeState g.row.C-Effect.Denot _). Applies (types_of g.C.Crdt.laws g.C.Crdt.spells g.D.Disk.state) (Some x) (command.Send c.args.part c.args.site c.args.from) steps.items (Some (record { live = c.release.new.self; post = record { letters = c.keep_message.new.letters.entries; next_letter = c.in_ok-next.next; notes = c.self.inside.notes.entries; next_note = c.self.inside.next_note } }))) c.self.view_is
    (subst (λ n. Applies (types_of g.C.Crdt.laws g.C.Crdt.spells g.D.Disk.state) (Some w) (command.Send c.args.part c.args.site c.args.from) steps.items (Some (record { live = record { sites = c.release.new.self.sites; sessions = c.release.new.self.sessions }; post = record { letters = c.keep_message.new.letters.entries; next_letter = n; notes = c.self.inside.notes.entries; next_note = c.self.inside.next_note } }))) (sym c.in_ok-next.ensures)
    (subst (λ (ss : List (List ℕ × SessionState g.row.C-Effect.Denot)). Applies (types_of g.C.Crdt.laws g.C.Crdt.spells g.D.Disk.state) (Some w) (command.Send c.args.part c.args.site c.args.from) steps.items (Some (record { live = record { sites = c.release.new.self.sites; sessions = ss }; post = record { letters = c.keep_message.new.letters.entries; next_letter = c.self.inside.next_letter + 1; notes = c.self.inside.notes.entries; next_note = c.self.inside.next_note } }))) (sym c.release.ensures.same)
    (sent (types_of g.C.Crdt.laws g.C.Crdt.spells g.D.Disk.state) w c.args.part c.args.site c.args.from c.release.new.self.sites c.in-Ok.message c.keep_message.new.letters.entries c.in-Ok.ensures.sent c.in_ok-keep_message-in-Ok.ensures.find c.in_ok-keep_message-in-Ok.ensures.count steps.items (subst (λ (ps : List (Part g.row.C-Effect.Denot)). steps.items ≡ step.Sent c.self.inside.next_letter c.args.part c.args.site c.in-Ok.message.lo c.in-Ok.message.hi (length ps) ∷ []) c.as_slice.ensures is) way room)))) c.only-in-Ok.ensures

pub returns-in-Err : goal.returns-in-Err
returns-in-Err g c =
    let post : PostState g.row.C-Effect.Denot = record { letters = c.self.inside.letters.entries; next_letter = c.self.inside.next_letter; notes = c.self.inside.notes.entries; next_note = c.self.inside.next_note } in
    let w : WholeState g.row.C-Effect.Denot _ = record { live = c.self.inside.live; post = post } in
    let way : lacks_way c.self.inside.live.sites c.args.part c.args.site ≡ false = ap (λ (x : WholeState g.row.C-Effect.Denot _). lacks_way x.live.sites c.args.part c.args.site) c.self.view_is ∙ (sym c.lacks_way.ensures ∙ c.if-lacks_way.false) in
    let room : (length c.self.inside.letters.entries == 4096) ≡ false = search rules in
    map_ok c.only-in-Err.result (λ steps is. subst (λ (x : WholeState g.row.C-Effect.Denot _). Applies (types_of g.C.Crdt.laws g.C.Crdt.spells g.D.Disk.state) (Some x) (command.Send c.args.part c.args.site c.args.from) steps.items (Some (record { live = c.release.new.self; post = post }))) c.self.view_is
    (subst (λ (ss : List (List ℕ × SessionState g.row.C-Effect.Denot)). Applies (types_of g.C.Crdt.laws g.C.Crdt.spells g.D.Disk.state) (Some w) (command.Send c.args.part c.args.site c.args.from) steps.items (Some (record { live = record { sites = c.release.new.self.sites; sessions = ss }; post = post }))) (sym c.release.ensures.same)
    (send_refused (types_of g.C.Crdt.laws g.C.Crdt.spells g.D.Disk.state) w c.args.part c.args.site c.args.from c.release.new.self.sites c.in-Err.error c.in_ok-line-in-Err.line steps.items is way room c.in_ok-line-in-Err.ensures c.in-Err.ensures.sent))) c.only-in-Err.ensures
