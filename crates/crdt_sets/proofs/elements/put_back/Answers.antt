use Rattle.std.proofs.Common.{◌∙◌, sym}
use Rattle.std.specs.FinMap.{insert}
use Rattle.crdt_core.specs.Texts.{text_cmp_total, text_cmp_exact}
use Rattle.crdt_core.specs.MapLists.{one_given}
use Rattle.crdt_sets.proofs.Lists.{put_nonempty}
use Rattle.crdt_sets.proofs.elements.put_back.Goals as goal

pub returns : goal.returns
returns c m h =
    one_given text_cmp_total text_cmp_exact c.args.elements.now.entries c.insert.new.self.entries c.in_ok-copy.field-0 c.args.kept c.in_ok-insert.ensures.updates.0
    ∙ (λ i. insert (h i) (c.in_ok-copy.ensures i) c.args.kept)
    ∙ put_nonempty m c.args.text.now c.args.kept (sym c.is_empty.ensures ∙ c.if-is_empty.false)
