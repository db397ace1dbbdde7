use Rattle.std.proofs.Common.{ap, ◌∙◌, sym, get_or}
use Rattle.std.proofs.lemmas.List.{take_more}
use Rattle.std.specs.FinMap.{remove, from_entries}
use Rattle.site_vector.specs.declared.ids.Dot.{Dot}
use Rattle.site_vector.specs.Order.{dot_cmp_total, dot_cmp_exact}
use Rattle.crdt_core.specs.Kept.{without}
use Rattle.crdt_core.specs.MapLists.{one_gone}
use Rattle.crdt_core.proofs.KeptSteps.{without_none, without_more}
use Rattle.crdt_core.proofs.kept.take_each.Goals as goal

pub loop-dot-init : goal.loop-dot-init
loop-dot-init g c = sym (without_none _)

pub loop-dot-preserved : goal.loop-dot-preserved
loop-dot-preserved g c =
    let none : Dot = record { tx = record { site = 0; part = 0; time = 0 }; index = 0 } in
    let d : Dot = get_or c.args.dots.now c.loop-dot.dot-index none in
    one_gone dot_cmp_total dot_cmp_exact c.loop-dot.entries.entries c.remove.new.self.entries d c.remove.ensures.updates.0
    ∙ ap (λ m. remove m d) c.loop-dot.invariant
    ∙ without_more _ _ d
    ∙ ap (without (from_entries c.args.entries.now.entries)) (sym (take_more c.args.dots.now c.loop-dot.dot-index none c.loop-dot-test.true))
