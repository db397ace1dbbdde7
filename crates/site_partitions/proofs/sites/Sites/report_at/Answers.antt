use Rattle.std.proofs.Common.{◌≡◌, sym, refl, subst}
use Rattle.world_model.specs.rules.Event.{AskReport, Reported}
use Rattle.partition_core.specs.Steps.{Anything}
use Rattle.site_partitions.specs.Answers.{Any, Calls}
use Rattle.site_partitions.specs.Reaches.{types_of, PutsEvent}
use Rattle.site_partitions.proofs.Going.{IsShown, asked, same_held}
use Rattle.site_partitions.proofs.sites.Sites.report_at.Goals as goal

pub returns-clause-answers : goal.returns-clause-answers
returns-clause-answers g c = subst (λ h. Calls (types_of g.C.Crdt.laws g.C.Crdt.spells g.D.Disk.state) c.args.self.now h Any c.args.at AskReport (λ b e. e ≡ Reported b) c.report.result) (same_held (types_of g.C.Crdt.laws g.C.Crdt.spells g.D.Disk.state) _ _ _ _ c.self.view_is c.self.invariant c.args.at c.requires _ c.index_of-i.ensures.index c.index_of-i.ensures.below _ _ c.index.ensures refl)
    (asked _ _ _ _ _ c.self.view_is c.self.invariant c.args.at c.requires _ c.index_of-i.ensures.index c.index_of-i.ensures.below _ _ c.index.ensures Any AskReport Anything (λ b e. e ≡ Reported b)
    (λ run r m. tt) (λ why. tt)
    (λ x run may given e s. subst (IsShown (types_of g.C.Crdt.laws g.C.Crdt.spells g.D.Disk.state) run AskReport) (sym s) (record { asked = refl; plain = refl; own_word = refl; fit = tt; new = tt }))
    c.report.result (λ x is e s. subst (PutsEvent (types_of g.C.Crdt.laws g.C.Crdt.spells g.D.Disk.state)) (sym s) tt) c.report.ensures.answers)
