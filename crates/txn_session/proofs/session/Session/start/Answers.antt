use Rattle.std.proofs.Common.{refl, ap, ◌∙◌, List, ℕ}
use Rattle.world_model.specs.commands.CommitSteps.{starting}
use Rattle.clocksi_commit.specs.Commit.{Committing}
use Rattle.txn_session.specs.Session.{Txn, participants, first_or_zero}
use Rattle.txn_session.proofs.Ending.{begun_is, begun_same}
use Rattle.txn_session.proofs.session.Session.start.Goals as goal

pub returns-in-Open : goal.returns-in-Open
returns-in-Open g c =
    let f = c.self.inside in
    let txn : Txn g.row.C-Effect.Denot = record { tx = f.tx; s = f.s; by = f.by; updates = f.updates.items } in
    let list = c.participants_of-count.ensures.list ∙ ap (participants f.parts) c.as_slice.ensures in
    let made : List ℕ → Committing = λ l. record { site = f.site; s = f.s; going = starting l } in
    begun_is _ c.args.self.now c.self.view_is f.stage txn f.lead c.first_of-self-inside.result f.commit c.new-self-inside.result refl c.in-Open.is (c.first_of-self-inside.ensures ∙ ap first_or_zero list) (c.new-self-inside.ensures ∙ ap made list)

pub returns-in_default : goal.returns-in_default
returns-in_default g c =
    let f = c.self.inside in
    let txn : Txn g.row.C-Effect.Denot = record { tx = f.tx; s = f.s; by = f.by; updates = f.updates.items } in
    begun_same _ c.args.self.now c.self.view_is f.stage txn f.lead f.commit refl c.in_default.not-Open
