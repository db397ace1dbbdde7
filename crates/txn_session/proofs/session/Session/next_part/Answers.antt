use Rattle.std.proofs.Common.{refl, ap, ◌∙◌}
use Rattle.txn_session.specs.Session.{Txn, participants}
use Rattle.txn_session.proofs.NextPart.{asked_idle, asked_open, asked_ending}
use Rattle.txn_session.proofs.session.Session.next_part.Goals as goal

pub returns-in-Idle : goal.returns-in-Idle
returns-in-Idle g c =
    let f = c.self.inside in
    let txn : Txn g.row.C-Effect.Denot = record { tx = f.tx; s = f.s; by = f.by; updates = f.updates.items } in
    asked_idle _ c.args.self.now c.self.view_is f.stage txn f.lead f.commit refl c.in-Idle.is

pub returns-in-Open : goal.returns-in-Open
returns-in-Open g c =
    let f = c.self.inside in
    let txn : Txn g.row.C-Effect.Denot = record { tx = f.tx; s = f.s; by = f.by; updates = f.updates.items } in
    let list = c.participants_of-count.ensures.list ∙ ap (participants f.parts) c.as_slice.ensures in
    c.first_part.ensures ∙ asked_open _ c.args.self.now c.self.view_is f.stage txn f.lead f.commit refl c.in-Open.is _ list

pub returns-in-Ending : goal.returns-in-Ending
returns-in-Ending g c =
    let f = c.self.inside in
    let txn : Txn g.row.C-Effect.Denot = record { tx = f.tx; s = f.s; by = f.by; updates = f.updates.items } in
    c.part_asked.ensures ∙ asked_ending _ c.args.self.now c.self.view_is f.stage txn f.lead f.commit refl c.in-Ending.is _ c.next.ensures
