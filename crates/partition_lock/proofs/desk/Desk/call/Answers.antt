use Rattle.std.proofs.Common.{rules, ◌≡◌, ◌+◌, ℕ, List, true, refl, sym, ap, ◌∙◌, subst, Some, arith, [], ◌∷◌, ◌++◌, length}
use Rattle.crdt_core.specs.KindsOf.{kinds_of}
use Rattle.site_partitions.specs.Reaches.{types_of, PutsEvent}
use Rattle.world_model.specs.threads.Calls.{entries}
use Rattle.txn_session.specs.Calls.{IsAllowed}
use Rattle.seat_rule.specs.declared.view.View.{View}
use Rattle.seat_rule.specs.declared.view.Past.{Past}
use Rattle.seat_rule.specs.Laws.{Heard}
use Rattle.seat_rule.specs.Lists.{has, at}
use Rattle.seat_rule.specs.world.Traces.{word_of, IsLawful}
use Rattle.partition_lock.specs.declared.told.Told.{Told}
use Rattle.partition_lock.specs.Events.{event_of}
use Rattle.partition_lock.specs.Passes.{Sees}
use Rattle.partition_lock.specs.Desks.{StandsFor, IsWriter}
use Rattle.std.proofs.lemmas.Grind.{common_steps}
use Rattle.seat_rule.specs.Views.{past, reader, without, noting}
use Rattle.partition_lock.specs.Passes.{IsPass}
use Rattle.seat_rule.specs.Lists.{grown}
use Rattle.partition_lock.specs.declared.entry.Entry.{Entry}
use Rattle.partition_lock.specs.Answers.{IsTold}
use Rattle.partition_lock.specs.Answers.{Comes, Waits}
use Rattle.partition_lock.specs.Notes.{IsStepOf}
use Rattle.seat_rule.specs.Laws.{MayNote}
use Rattle.world_model.specs.threads.Marks.{entries_of}
use Rattle.partition_lock.proofs.Joined.{Joined, joined, left, view, waits, pass_still, desk_still, askable, whole, whole_runs, whole_may}
use Rattle.partition_lock.proofs.Owners.{may_by, entries_are}
use Rattle.partition_lock.proofs.Stepping.{stands_as, starved_same, shown_length, acts, pass_after, desk_after, may_note, comes_none, comes_some}
use Rattle.partition_lock.proofs.desk.Desk.call.Goals as goal

pub make-answer-requires-clause-asked : goal.make-answer-requires-clause-asked
make-answer-requires-clause-asked g c =
    let types = types_of g.C.Crdt.laws g.C.Crdt.spells g.D.Disk.state in
    let i = c.self.invariant in
    let me = c.look.new.seat.me in
    let was = c.self.inside.seat.me.0.past in
    let old = c.pass.inside.seat.me.0.past in
    let f : Joined types g.J.Naming.sites g.J.Naming.parts c.self.inside.id c.max-seen.result was old me.0.past × (me.1 ≡ []) = joined types g.J.Naming.sites g.J.Naming.parts c.self.inside.id c.max-seen.result c.self.inside.seat.me.0 c.pass.inside.seat.me.0 c.self.inside.seat.me.1 c.pass.inside.seat.me.1 c.self.inside.stamp c.pass.inside.stamp c.pass.inside.least c.self.inside.entries.items me i.3 c.pass.invariant.1 (search rules) (c.look.ensures.same.2 ∙ c.join.ensures.both) (subst (λ (m : (View (Told g.row.C-Effect.Denot) × List (ℕ × ℕ))). Heard (IsLawful event_of g.J.Naming.sites g.J.Naming.parts (kinds_of g.C.Crdt.laws) (PutsEvent types)) m.0) (sym c.look.ensures.same.2) c.look.ensures.heard) in
    let seen : Sees (kinds_of g.C.Crdt.laws) g.J.Naming.sites g.J.Naming.parts old c.requires.may.run = subst (λ (p : Past (Told g.row.C-Effect.Denot)). Sees (kinds_of g.C.Crdt.laws) g.J.Naming.sites g.J.Naming.parts p c.requires.may.run) (sym c.pass.view_is) c.requires.may.seen in
    let held : has old.numbers c.args.by ≡ true = subst (λ (p : Past (Told g.row.C-Effect.Denot)). has p.numbers c.args.by ≡ true) (sym c.pass.view_is) c.requires.may.held in
    let l = left types g.J.Naming.sites g.J.Naming.parts c.self.inside.id c.max-seen.result was old me.0.past f.0 in
    let m = may_by (kinds_of g.C.Crdt.laws) g.J.Naming.sites g.J.Naming.parts (view types g.J.Naming.sites g.J.Naming.parts c.self.inside.id c.max-seen.result was old me.0.past f.0) l.state l.are seen.marks seen.order c.requires.may.run seen.is c.args.by c.self.inside.id (g.K.PartitionCall.ask c.args.call.now) (subst (λ at. IsAllowed g.J.Naming.sites g.J.Naming.parts c.requires.may.run (Some c.args.by) at (g.K.PartitionCall.ask c.args.call.now)) (sym c.self.view_is) c.requires.may.allowed) in
    let here = stands_as types g.J.Naming.sites g.J.Naming.parts c.self.inside.id c.self.inside.partition was me.0.past f.0.own i.4 in
    let a = askable types g.J.Naming.sites g.J.Naming.parts c.self.inside.id c.max-seen.result was old me.0.past f.0 c.args.by held (g.K.PartitionCall.ask c.args.call.now) seen.marks seen.order m c.self.inside.partition here in (g.J.Naming.sites, g.J.Naming.parts, c.self.inside.id, a.0, a.1)

pub invariant_of-pass : goal.invariant_of-pass
invariant_of-pass g c =
    let types = types_of g.C.Crdt.laws g.C.Crdt.spells g.D.Disk.state in
    let i = c.self.invariant in
    let me = c.look.new.seat.me in
    let was = c.self.inside.seat.me.0.past in
    let old = c.pass.inside.seat.me.0.past in
    let f : Joined types g.J.Naming.sites g.J.Naming.parts c.self.inside.id c.max-seen.result was old me.0.past × (me.1 ≡ []) = joined types g.J.Naming.sites g.J.Naming.parts c.self.inside.id c.max-seen.result c.self.inside.seat.me.0 c.pass.inside.seat.me.0 c.self.inside.seat.me.1 c.pass.inside.seat.me.1 c.self.inside.stamp c.pass.inside.stamp c.pass.inside.least c.self.inside.entries.items me i.3 c.pass.invariant.1 (search rules) (c.look.ensures.same.2 ∙ c.join.ensures.both) (subst (λ (m : (View (Told g.row.C-Effect.Denot) × List (ℕ × ℕ))). Heard (IsLawful event_of g.J.Naming.sites g.J.Naming.parts (kinds_of g.C.Crdt.laws) (PutsEvent types)) m.0) (sym c.look.ensures.same.2) c.look.ensures.heard) in
    (search rules, pass_still types g.J.Naming.sites g.J.Naming.parts c.self.inside.id c.max-seen.result was old me.0.past f.0 c.pass.inside.least c.hand-seat.result.me c.pass.invariant.1.lowest c.hand-seat.ensures.second.1)

pub invariant_of-self-then-starved : goal.invariant_of-self-then-starved
invariant_of-self-then-starved g c =
    let types = types_of g.C.Crdt.laws g.C.Crdt.spells g.D.Disk.state in
    let i = c.self.invariant in
    let me = c.look.new.seat.me in
    let was = c.self.inside.seat.me.0.past in
    let old = c.pass.inside.seat.me.0.past in
    let f : Joined types g.J.Naming.sites g.J.Naming.parts c.self.inside.id c.max-seen.result was old me.0.past × (me.1 ≡ []) = joined types g.J.Naming.sites g.J.Naming.parts c.self.inside.id c.max-seen.result c.self.inside.seat.me.0 c.pass.inside.seat.me.0 c.self.inside.seat.me.1 c.pass.inside.seat.me.1 c.self.inside.stamp c.pass.inside.stamp c.pass.inside.least c.self.inside.entries.items me i.3 c.pass.invariant.1 (search rules) (c.look.ensures.same.2 ∙ c.join.ensures.both) (subst (λ (m : (View (Told g.row.C-Effect.Denot) × List (ℕ × ℕ))). Heard (IsLawful event_of g.J.Naming.sites g.J.Naming.parts (kinds_of g.C.Crdt.laws) (PutsEvent types)) m.0) (sym c.look.ensures.same.2) c.look.ensures.heard) in
    (search rules, i.1, i.2, subst (λ xs. IsWriter g.J.Naming.sites g.J.Naming.parts c.self.inside.id c.max-seen.result xs c.hand-seat.new.seat.me) (sym c.reserve.ensures.items) (desk_still types g.J.Naming.sites g.J.Naming.parts c.self.inside.id c.max-seen.result was old me.0.past f.0 me c.hand-seat.new.seat.me c.self.inside.entries.items refl f.1 i.3.shown c.hand-seat.ensures.same.2), subst (λ t. StandsFor types g.J.Naming.sites g.J.Naming.parts c.self.inside.id t c.hand-seat.new.seat.me.0.past) (sym (starved_same types g.J.Naming.sites g.J.Naming.parts c.self.inside.id c.self.inside.partition c.make-answer.new.partition (g.K.PartitionCall.premise c.args.call.now) (g.K.PartitionCall.ask c.args.call.now) (g.K.PartitionCall.shows c.args.call.now) c.make-answer.result (search rules) c.make-answer.ensures.called)) (stands_as types g.J.Naming.sites g.J.Naming.parts c.self.inside.id c.self.inside.partition was c.hand-seat.new.seat.me.0.past (ap (λ (m : (View (Told g.row.C-Effect.Denot) × List (ℕ × ℕ))). at m.0.past.lists (word_of g.J.Naming.parts c.self.inside.id)) c.hand-seat.ensures.same.2 ∙ f.0.own) i.4))

pub returns-then-starved-clause-comes : goal.returns-then-starved-clause-comes
returns-then-starved-clause-comes g c run s a given =
    let types = types_of g.C.Crdt.laws g.C.Crdt.spells g.D.Disk.state in
    let i = c.self.invariant in
    let me = c.look.new.seat.me in
    let was = c.self.inside.seat.me.0.past in
    let old = c.pass.inside.seat.me.0.past in
    let f : Joined types g.J.Naming.sites g.J.Naming.parts c.self.inside.id c.max-seen.result was old me.0.past × (me.1 ≡ []) = joined types g.J.Naming.sites g.J.Naming.parts c.self.inside.id c.max-seen.result c.self.inside.seat.me.0 c.pass.inside.seat.me.0 c.self.inside.seat.me.1 c.pass.inside.seat.me.1 c.self.inside.stamp c.pass.inside.stamp c.pass.inside.least c.self.inside.entries.items me i.3 c.pass.invariant.1 (search rules) (c.look.ensures.same.2 ∙ c.join.ensures.both) (subst (λ (m : (View (Told g.row.C-Effect.Denot) × List (ℕ × ℕ))). Heard (IsLawful event_of g.J.Naming.sites g.J.Naming.parts (kinds_of g.C.Crdt.laws) (PutsEvent types)) m.0) (sym c.look.ensures.same.2) c.look.ensures.heard) in
    subst (λ (p : Past (Told g.row.C-Effect.Denot)). Comes (kinds_of g.C.Crdt.laws) g.J.Naming.sites g.J.Naming.parts p c.hand-seat.result.me.0.past run c.args.by c.args.self.now (g.K.PartitionCall.ask c.args.call.now) (g.K.PartitionCall.shows c.args.call.now) c.make-answer.result) c.pass.view_is (subst (λ at. Comes (kinds_of g.C.Crdt.laws) g.J.Naming.sites g.J.Naming.parts old c.hand-seat.result.me.0.past run c.args.by at (g.K.PartitionCall.ask c.args.call.now) (g.K.PartitionCall.shows c.args.call.now) c.make-answer.result) c.self.view_is (comes_none (kinds_of g.C.Crdt.laws) g.J.Naming.sites g.J.Naming.parts old c.hand-seat.result.me.0.past run c.args.by c.self.inside.id (g.K.PartitionCall.ask c.args.call.now) (g.K.PartitionCall.shows c.args.call.now) c.make-answer.result (search rules) (waits types g.J.Naming.sites g.J.Naming.parts c.self.inside.id c.max-seen.result was old me.0.past f.0 c.hand-seat.result.me.0.past (ap (λ (m : (View (Told g.row.C-Effect.Denot) × List (ℕ × ℕ))). m.0.past.lists) c.hand-seat.ensures.second.1) (ap (λ (m : (View (Told g.row.C-Effect.Denot) × List (ℕ × ℕ))). m.0.past.numbers) c.hand-seat.ensures.second.1) run (subst (λ (p : Past (Told g.row.C-Effect.Denot)). Sees (kinds_of g.C.Crdt.laws) g.J.Naming.sites g.J.Naming.parts p run) (sym c.pass.view_is) s))))

pub returns-then-starved-clause-waits : goal.returns-then-starved-clause-waits
returns-then-starved-clause-waits g c starves run s =
    let types = types_of g.C.Crdt.laws g.C.Crdt.spells g.D.Disk.state in
    let i = c.self.invariant in
    let me = c.look.new.seat.me in
    let was = c.self.inside.seat.me.0.past in
    let old = c.pass.inside.seat.me.0.past in
    let f : Joined types g.J.Naming.sites g.J.Naming.parts c.self.inside.id c.max-seen.result was old me.0.past × (me.1 ≡ []) = joined types g.J.Naming.sites g.J.Naming.parts c.self.inside.id c.max-seen.result c.self.inside.seat.me.0 c.pass.inside.seat.me.0 c.self.inside.seat.me.1 c.pass.inside.seat.me.1 c.self.inside.stamp c.pass.inside.stamp c.pass.inside.least c.self.inside.entries.items me i.3 c.pass.invariant.1 (search rules) (c.look.ensures.same.2 ∙ c.join.ensures.both) (subst (λ (m : (View (Told g.row.C-Effect.Denot) × List (ℕ × ℕ))). Heard (IsLawful event_of g.J.Naming.sites g.J.Naming.parts (kinds_of g.C.Crdt.laws) (PutsEvent types)) m.0) (sym c.look.ensures.same.2) c.look.ensures.heard) in
    subst (λ (p : Past (Told g.row.C-Effect.Denot)). Waits (kinds_of g.C.Crdt.laws) g.J.Naming.sites g.J.Naming.parts p c.hand-seat.result.me.0.past run) c.pass.view_is (waits types g.J.Naming.sites g.J.Naming.parts c.self.inside.id c.max-seen.result was old me.0.past f.0 c.hand-seat.result.me.0.past (ap (λ (m : (View (Told g.row.C-Effect.Denot) × List (ℕ × ℕ))). m.0.past.lists) c.hand-seat.ensures.second.1) (ap (λ (m : (View (Told g.row.C-Effect.Denot) × List (ℕ × ℕ))). m.0.past.numbers) c.hand-seat.ensures.second.1) run (subst (λ (p : Past (Told g.row.C-Effect.Denot)). Sees (kinds_of g.C.Crdt.laws) g.J.Naming.sites g.J.Naming.parts p run) (sym c.pass.view_is) s))

pub note-requires-clause-may : goal.note-requires-clause-may
note-requires-clause-may g c =
    let types = types_of g.C.Crdt.laws g.C.Crdt.spells g.D.Disk.state in
    let i = c.self.invariant in
    let me = c.look.new.seat.me in
    let was = c.self.inside.seat.me.0.past in
    let old = c.pass.inside.seat.me.0.past in
    let f : Joined types g.J.Naming.sites g.J.Naming.parts c.self.inside.id c.max-seen.result was old me.0.past × (me.1 ≡ []) = joined types g.J.Naming.sites g.J.Naming.parts c.self.inside.id c.max-seen.result c.self.inside.seat.me.0 c.pass.inside.seat.me.0 c.self.inside.seat.me.1 c.pass.inside.seat.me.1 c.self.inside.stamp c.pass.inside.stamp c.pass.inside.least c.self.inside.entries.items me i.3 c.pass.invariant.1 (search rules) (c.look.ensures.same.2 ∙ c.join.ensures.both) (subst (λ (m : (View (Told g.row.C-Effect.Denot) × List (ℕ × ℕ))). Heard (IsLawful event_of g.J.Naming.sites g.J.Naming.parts (kinds_of g.C.Crdt.laws) (PutsEvent types)) m.0) (sym c.look.ensures.same.2) c.look.ensures.heard) in
    let seen : Sees (kinds_of g.C.Crdt.laws) g.J.Naming.sites g.J.Naming.parts old c.requires.may.run = subst (λ (p : Past (Told g.row.C-Effect.Denot)). Sees (kinds_of g.C.Crdt.laws) g.J.Naming.sites g.J.Naming.parts p c.requires.may.run) (sym c.pass.view_is) c.requires.may.seen in
    let held : has old.numbers c.args.by ≡ true = subst (λ (p : Past (Told g.row.C-Effect.Denot)). has p.numbers c.args.by ≡ true) (sym c.pass.view_is) c.requires.may.held in
    let l = left types g.J.Naming.sites g.J.Naming.parts c.self.inside.id c.max-seen.result was old me.0.past f.0 in
    let m = may_by (kinds_of g.C.Crdt.laws) g.J.Naming.sites g.J.Naming.parts (view types g.J.Naming.sites g.J.Naming.parts c.self.inside.id c.max-seen.result was old me.0.past f.0) l.state l.are seen.marks seen.order c.requires.may.run seen.is c.args.by c.self.inside.id (g.K.PartitionCall.ask c.args.call.now) (subst (λ at. IsAllowed g.J.Naming.sites g.J.Naming.parts c.requires.may.run (Some c.args.by) at (g.K.PartitionCall.ask c.args.call.now)) (sym c.self.view_is) c.requires.may.allowed) in
    let here = stands_as types g.J.Naming.sites g.J.Naming.parts c.self.inside.id c.self.inside.partition was me.0.past f.0.own i.4 in
    let giv = subst (g.K.PartitionCall.given c.args.call.now) (ap entries seen.is ∙ entries_are seen.marks) c.requires.may.given in
    let st : c.in-Some.stamp ≡ c.max-seen.result + 1 = search rules in
    subst (λ k. MayNote (IsLawful event_of g.J.Naming.sites g.J.Naming.parts (kinds_of g.C.Crdt.laws) (PutsEvent types)) (IsStepOf types g.J.Naming.sites g.J.Naming.parts c.self.inside.id k c.args.by me.0.past (g.K.PartitionCall.ask c.args.call.now) (g.K.PartitionCall.given c.args.call.now) (g.K.PartitionCall.shows c.args.call.now) c.make-answer.result c.make-answer.new.partition) me.0.past c.self.inside.word) (sym st) (may_note types g.J.Naming.sites g.J.Naming.parts c.self.inside.id c.max-seen.result was old me.0.past f.0 (g.K.PartitionCall.ask c.args.call.now) (g.K.PartitionCall.given c.args.call.now) (g.K.PartitionCall.shows c.args.call.now) c.make-answer.result c.args.by held c.self.inside.partition c.make-answer.new.partition here (g.K.PartitionCall.premise c.args.call.now) (g.met.K.PartitionCall.knows c.args.call.now g.J.Naming.sites g.J.Naming.parts c.self.inside.id (entries_of (whole types g.J.Naming.sites g.J.Naming.parts c.self.inside.id c.max-seen.result was old me.0.past f.0 c.args.by held (g.K.PartitionCall.ask c.args.call.now) seen.marks seen.order m)) f.0.lawful.state (whole_runs types g.J.Naming.sites g.J.Naming.parts c.self.inside.id c.max-seen.result was old me.0.past f.0 c.args.by held (g.K.PartitionCall.ask c.args.call.now) seen.marks seen.order m) (whole_may types g.J.Naming.sites g.J.Naming.parts c.self.inside.id c.max-seen.result was old me.0.past f.0 c.args.by held (g.K.PartitionCall.ask c.args.call.now) seen.marks seen.order m).0) c.make-answer.ensures.called (search rules) (g.met.K.PartitionCall.plain c.args.call.now) (g.met.K.PartitionCall.fits c.args.call.now c.requires.fit) (g.met.K.PartitionCall.done c.args.call.now g.J.Naming.sites g.J.Naming.parts c.self.inside.id) c.make-answer.ensures.puts seen.marks seen.order m giv c.self.inside.word i.1)

pub note-requires-clause-room : goal.note-requires-clause-room
note-requires-clause-room g c =
    let types = types_of g.C.Crdt.laws g.C.Crdt.spells g.D.Disk.state in
    let i = c.self.invariant in
    let me = c.look.new.seat.me in
    let was = c.self.inside.seat.me.0.past in
    let old = c.pass.inside.seat.me.0.past in
    let f : Joined types g.J.Naming.sites g.J.Naming.parts c.self.inside.id c.max-seen.result was old me.0.past × (me.1 ≡ []) = joined types g.J.Naming.sites g.J.Naming.parts c.self.inside.id c.max-seen.result c.self.inside.seat.me.0 c.pass.inside.seat.me.0 c.self.inside.seat.me.1 c.pass.inside.seat.me.1 c.self.inside.stamp c.pass.inside.stamp c.pass.inside.least c.self.inside.entries.items me i.3 c.pass.invariant.1 (search rules) (c.look.ensures.same.2 ∙ c.join.ensures.both) (subst (λ (m : (View (Told g.row.C-Effect.Denot) × List (ℕ × ℕ))). Heard (IsLawful event_of g.J.Naming.sites g.J.Naming.parts (kinds_of g.C.Crdt.laws) (PutsEvent types)) m.0) (sym c.look.ensures.same.2) c.look.ensures.heard) in
    let e = shown_length c.self.inside.entries.items (at was.lists (word_of g.J.Naming.parts c.self.inside.id)) i.3.shown in let len : length (at me.0.past.lists c.self.inside.word) ≡ length c.self.inside.entries.items = ap (λ k. length (at me.0.past.lists k)) i.1 ∙ (ap length f.0.own ∙ e) in search rules

pub invariant_of-pass-2 : goal.invariant_of-pass-2
invariant_of-pass-2 g c =
    let types = types_of g.C.Crdt.laws g.C.Crdt.spells g.D.Disk.state in
    let i = c.self.invariant in
    let me = c.look.new.seat.me in
    let was = c.self.inside.seat.me.0.past in
    let old = c.pass.inside.seat.me.0.past in
    let f : Joined types g.J.Naming.sites g.J.Naming.parts c.self.inside.id c.max-seen.result was old me.0.past × (me.1 ≡ []) = joined types g.J.Naming.sites g.J.Naming.parts c.self.inside.id c.max-seen.result c.self.inside.seat.me.0 c.pass.inside.seat.me.0 c.self.inside.seat.me.1 c.pass.inside.seat.me.1 c.self.inside.stamp c.pass.inside.stamp c.pass.inside.least c.self.inside.entries.items me i.3 c.pass.invariant.1 (search rules) (c.look.ensures.same.2 ∙ c.join.ensures.both) (subst (λ (m : (View (Told g.row.C-Effect.Denot) × List (ℕ × ℕ))). Heard (IsLawful event_of g.J.Naming.sites g.J.Naming.parts (kinds_of g.C.Crdt.laws) (PutsEvent types)) m.0) (sym c.look.ensures.same.2) c.look.ensures.heard) in
    let held : has old.numbers c.args.by ≡ true = subst (λ (p : Past (Told g.row.C-Effect.Denot)). has p.numbers c.args.by ≡ true) (sym c.pass.view_is) c.requires.may.held in
    let st : c.in-Some.stamp ≡ c.max-seen.result + 1 = search rules in
    let n = c.note.ensures.noted.note in
    let is : (IsStepOf types g.J.Naming.sites g.J.Naming.parts c.self.inside.id (c.max-seen.result + 1) c.args.by me.0.past (g.K.PartitionCall.ask c.args.call.now) (g.K.PartitionCall.given c.args.call.now) (g.K.PartitionCall.shows c.args.call.now) c.make-answer.result c.make-answer.new.partition) n = subst (λ k. (IsStepOf types g.J.Naming.sites g.J.Naming.parts c.self.inside.id k c.args.by me.0.past (g.K.PartitionCall.ask c.args.call.now) (g.K.PartitionCall.given c.args.call.now) (g.K.PartitionCall.shows c.args.call.now) c.make-answer.result c.make-answer.new.partition) n) st c.note.ensures.noted.is in
    let noted_as : c.note.new.seat.me ≡ (noting me.0 (word_of g.J.Naming.parts c.self.inside.id) n, me.1) = c.note.ensures.noted.added ∙ ap (λ k. (noting me.0 k n, me.1)) i.1 in
    (search rules, subst (λ k. IsPass c.pass.inside.least k c.hand-seat-2.result.me) (sym st) (pass_after types g.J.Naming.sites g.J.Naming.parts c.self.inside.id c.max-seen.result was old me.0.past f.0 (g.K.PartitionCall.ask c.args.call.now) (g.K.PartitionCall.given c.args.call.now) (g.K.PartitionCall.shows c.args.call.now) c.make-answer.result c.args.by held c.make-answer.new.partition n is c.pass.inside.least c.hand-seat-2.result.me c.pass.invariant.1.lowest (c.hand-seat-2.ensures.second.1 ∙ ap (λ (m : (View (Told g.row.C-Effect.Denot) × List (ℕ × ℕ))). (reader m.0.past.lists m.0.past.numbers, [])) noted_as)))

pub invariant_of-self-2 : goal.invariant_of-self-2
invariant_of-self-2 g c =
    let types = types_of g.C.Crdt.laws g.C.Crdt.spells g.D.Disk.state in
    let i = c.self.invariant in
    let me = c.look.new.seat.me in
    let was = c.self.inside.seat.me.0.past in
    let old = c.pass.inside.seat.me.0.past in
    let f : Joined types g.J.Naming.sites g.J.Naming.parts c.self.inside.id c.max-seen.result was old me.0.past × (me.1 ≡ []) = joined types g.J.Naming.sites g.J.Naming.parts c.self.inside.id c.max-seen.result c.self.inside.seat.me.0 c.pass.inside.seat.me.0 c.self.inside.seat.me.1 c.pass.inside.seat.me.1 c.self.inside.stamp c.pass.inside.stamp c.pass.inside.least c.self.inside.entries.items me i.3 c.pass.invariant.1 (search rules) (c.look.ensures.same.2 ∙ c.join.ensures.both) (subst (λ (m : (View (Told g.row.C-Effect.Denot) × List (ℕ × ℕ))). Heard (IsLawful event_of g.J.Naming.sites g.J.Naming.parts (kinds_of g.C.Crdt.laws) (PutsEvent types)) m.0) (sym c.look.ensures.same.2) c.look.ensures.heard) in
    let held : has old.numbers c.args.by ≡ true = subst (λ (p : Past (Told g.row.C-Effect.Denot)). has p.numbers c.args.by ≡ true) (sym c.pass.view_is) c.requires.may.held in
    let st : c.in-Some.stamp ≡ c.max-seen.result + 1 = search rules in
    let n = c.note.ensures.noted.note in
    let is : (IsStepOf types g.J.Naming.sites g.J.Naming.parts c.self.inside.id (c.max-seen.result + 1) c.args.by me.0.past (g.K.PartitionCall.ask c.args.call.now) (g.K.PartitionCall.given c.args.call.now) (g.K.PartitionCall.shows c.args.call.now) c.make-answer.result c.make-answer.new.partition) n = subst (λ k. (IsStepOf types g.J.Naming.sites g.J.Naming.parts c.self.inside.id k c.args.by me.0.past (g.K.PartitionCall.ask c.args.call.now) (g.K.PartitionCall.given c.args.call.now) (g.K.PartitionCall.shows c.args.call.now) c.make-answer.result c.make-answer.new.partition) n) st c.note.ensures.noted.is in
    let noted_as : c.note.new.seat.me ≡ (noting me.0 (word_of g.J.Naming.parts c.self.inside.id) n, me.1) = c.note.ensures.noted.added ∙ ap (λ k. (noting me.0 k n, me.1)) i.1 in
    let pushed : c.push.new.self.items ≡ c.self.inside.entries.items ++ (record { stamp = c.in-Some.stamp; caller = c.args.by }) ∷ [] = grind (rules, arith, common_steps) in
    (search rules, i.1, i.2, subst (λ xs. IsWriter g.J.Naming.sites g.J.Naming.parts c.self.inside.id c.in-Some.stamp xs c.hand-seat-2.new.seat.me) (sym pushed) (subst (λ k. IsWriter g.J.Naming.sites g.J.Naming.parts c.self.inside.id k (c.self.inside.entries.items ++ (record { stamp = c.in-Some.stamp; caller = c.args.by }) ∷ []) c.hand-seat-2.new.seat.me) (sym st) (desk_after types g.J.Naming.sites g.J.Naming.parts c.self.inside.id c.max-seen.result was old me.0.past f.0 (g.K.PartitionCall.ask c.args.call.now) (g.K.PartitionCall.given c.args.call.now) (g.K.PartitionCall.shows c.args.call.now) c.make-answer.result c.args.by held c.make-answer.new.partition n is me.0 c.hand-seat-2.new.seat.me c.self.inside.entries.items (record { stamp = c.in-Some.stamp; caller = c.args.by }) refl i.3.shown st refl (c.hand-seat-2.ensures.same.2 ∙ (ap (λ (m : (View (Told g.row.C-Effect.Denot) × List (ℕ × ℕ))). (without m.0, m.1)) noted_as ∙ ap (λ (z : List (ℕ × ℕ)). (without (noting me.0 (word_of g.J.Naming.parts c.self.inside.id) n), z)) f.1)))), stands_as types g.J.Naming.sites g.J.Naming.parts c.self.inside.id c.make-answer.new.partition (past (grown me.0.past.lists (word_of g.J.Naming.parts c.self.inside.id) n) me.0.past.numbers me.0.past.writes) c.hand-seat-2.new.seat.me.0.past (ap (λ (m : (View (Told g.row.C-Effect.Denot) × List (ℕ × ℕ))). at m.0.past.lists (word_of g.J.Naming.parts c.self.inside.id)) (c.hand-seat-2.ensures.same.2 ∙ (ap (λ (m : (View (Told g.row.C-Effect.Denot) × List (ℕ × ℕ))). (without m.0, m.1)) noted_as ∙ ap (λ (z : List (ℕ × ℕ)). (without (noting me.0 (word_of g.J.Naming.parts c.self.inside.id) n), z)) f.1))) is.stands)

pub returns-clause-comes : goal.returns-clause-comes
returns-clause-comes g c run s a given =
    let types = types_of g.C.Crdt.laws g.C.Crdt.spells g.D.Disk.state in
    let i = c.self.invariant in
    let me = c.look.new.seat.me in
    let was = c.self.inside.seat.me.0.past in
    let old = c.pass.inside.seat.me.0.past in
    let f : Joined types g.J.Naming.sites g.J.Naming.parts c.self.inside.id c.max-seen.result was old me.0.past × (me.1 ≡ []) = joined types g.J.Naming.sites g.J.Naming.parts c.self.inside.id c.max-seen.result c.self.inside.seat.me.0 c.pass.inside.seat.me.0 c.self.inside.seat.me.1 c.pass.inside.seat.me.1 c.self.inside.stamp c.pass.inside.stamp c.pass.inside.least c.self.inside.entries.items me i.3 c.pass.invariant.1 (search rules) (c.look.ensures.same.2 ∙ c.join.ensures.both) (subst (λ (m : (View (Told g.row.C-Effect.Denot) × List (ℕ × ℕ))). Heard (IsLawful event_of g.J.Naming.sites g.J.Naming.parts (kinds_of g.C.Crdt.laws) (PutsEvent types)) m.0) (sym c.look.ensures.same.2) c.look.ensures.heard) in
    let held : has old.numbers c.args.by ≡ true = subst (λ (p : Past (Told g.row.C-Effect.Denot)). has p.numbers c.args.by ≡ true) (sym c.pass.view_is) c.requires.may.held in
    let st : c.in-Some.stamp ≡ c.max-seen.result + 1 = search rules in
    let n = c.note.ensures.noted.note in
    let is : (IsStepOf types g.J.Naming.sites g.J.Naming.parts c.self.inside.id (c.max-seen.result + 1) c.args.by me.0.past (g.K.PartitionCall.ask c.args.call.now) (g.K.PartitionCall.given c.args.call.now) (g.K.PartitionCall.shows c.args.call.now) c.make-answer.result c.make-answer.new.partition) n = subst (λ k. (IsStepOf types g.J.Naming.sites g.J.Naming.parts c.self.inside.id k c.args.by me.0.past (g.K.PartitionCall.ask c.args.call.now) (g.K.PartitionCall.given c.args.call.now) (g.K.PartitionCall.shows c.args.call.now) c.make-answer.result c.make-answer.new.partition) n) st c.note.ensures.noted.is in
    let noted_as : c.note.new.seat.me ≡ (noting me.0 (word_of g.J.Naming.parts c.self.inside.id) n, me.1) = c.note.ensures.noted.added ∙ ap (λ k. (noting me.0 k n, me.1)) i.1 in
    let seen : Sees (kinds_of g.C.Crdt.laws) g.J.Naming.sites g.J.Naming.parts old run = subst (λ (p : Past (Told g.row.C-Effect.Denot)). Sees (kinds_of g.C.Crdt.laws) g.J.Naming.sites g.J.Naming.parts p run) (sym c.pass.view_is) s in
    let l = left types g.J.Naming.sites g.J.Naming.parts c.self.inside.id c.max-seen.result was old me.0.past f.0 in
    let m = may_by (kinds_of g.C.Crdt.laws) g.J.Naming.sites g.J.Naming.parts (view types g.J.Naming.sites g.J.Naming.parts c.self.inside.id c.max-seen.result was old me.0.past f.0) l.state l.are seen.marks seen.order run seen.is c.args.by c.self.inside.id (g.K.PartitionCall.ask c.args.call.now) (subst (λ at. IsAllowed g.J.Naming.sites g.J.Naming.parts run (Some c.args.by) at (g.K.PartitionCall.ask c.args.call.now)) (sym c.self.view_is) a) in
    let giv = subst (g.K.PartitionCall.given c.args.call.now) (ap entries seen.is ∙ entries_are seen.marks) given in
    subst (λ (p : Past (Told g.row.C-Effect.Denot)). Comes (kinds_of g.C.Crdt.laws) g.J.Naming.sites g.J.Naming.parts p c.hand-seat-2.result.me.0.past run c.args.by c.args.self.now (g.K.PartitionCall.ask c.args.call.now) (g.K.PartitionCall.shows c.args.call.now) c.make-answer.result) c.pass.view_is (subst (λ at. Comes (kinds_of g.C.Crdt.laws) g.J.Naming.sites g.J.Naming.parts old c.hand-seat-2.result.me.0.past run c.args.by at (g.K.PartitionCall.ask c.args.call.now) (g.K.PartitionCall.shows c.args.call.now) c.make-answer.result) c.self.view_is (comes_some (kinds_of g.C.Crdt.laws) g.J.Naming.sites g.J.Naming.parts old c.hand-seat-2.result.me.0.past run c.args.by c.self.inside.id (g.K.PartitionCall.ask c.args.call.now) (g.K.PartitionCall.shows c.args.call.now) c.make-answer.result (search rules) (acts types g.J.Naming.sites g.J.Naming.parts c.self.inside.id c.max-seen.result was old me.0.past f.0 (g.K.PartitionCall.ask c.args.call.now) (g.K.PartitionCall.given c.args.call.now) (g.K.PartitionCall.shows c.args.call.now) c.make-answer.result c.args.by held c.make-answer.new.partition n is c.hand-seat-2.result.me.0.past (ap (λ (m : (View (Told g.row.C-Effect.Denot) × List (ℕ × ℕ))). m.0.past.lists) (c.hand-seat-2.ensures.second.1 ∙ ap (λ (m : (View (Told g.row.C-Effect.Denot) × List (ℕ × ℕ))). (reader m.0.past.lists m.0.past.numbers, [])) noted_as)) (ap (λ (m : (View (Told g.row.C-Effect.Denot) × List (ℕ × ℕ))). m.0.past.numbers) (c.hand-seat-2.ensures.second.1 ∙ ap (λ (m : (View (Told g.row.C-Effect.Denot) × List (ℕ × ℕ))). (reader m.0.past.lists m.0.past.numbers, [])) noted_as)) seen.marks seen.order m giv run seen.is)))
