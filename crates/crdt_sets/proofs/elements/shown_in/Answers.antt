use Rattle.std.proofs.Common.{ap, ◌∙◌, sym}
use Rattle.std.specs.Map.Iter.{deref_pair}
use Rattle.std.proofs.lemmas.Map.Iter.{rest_all}
use Rattle.crdt_core.specs.Texts.{text_cmp_total, text_cmp_exact}
use Rattle.crdt_core.specs.MapLists.{entries_again}
use Rattle.crdt_sets.proofs.Lists.{grown, passing_of}
use Rattle.crdt_sets.proofs.elements.shown_in.Goals as goal

pub returns : goal.returns
returns c =
    grown _ c.loop-text.texts (passing_of c.args.removes_win c.loop-text.text-iterator) c.loop-text.invariant
    (ap (passing_of c.args.removes_win) (rest_all deref_pair c.loop-text.text-iterator c.next.new.self c.next.result c.in-None.is c.next.ensures.steps))
    ∙ sym (ap (passing_of c.args.removes_win) (entries_again text_cmp_total text_cmp_exact c.args.elements.now.entries c.iter-text-items.ensures.ordered))
