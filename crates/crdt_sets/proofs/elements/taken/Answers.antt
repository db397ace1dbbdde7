use Rattle.std.proofs.Common.{◌∙◌, sym}
use Rattle.crdt_core.specs.Texts.{text_cmp_total, text_cmp_exact}
use Rattle.crdt_core.specs.MapLists.{one_gone}
use Rattle.crdt_sets.proofs.Lists.{at_some, at_none}
use Rattle.crdt_sets.proofs.elements.taken.Goals as goal

pub returns-in-Some-clause-kept : goal.returns-in-Some-clause-kept
returns-in-Some-clause-kept c = sym (at_some c.args.elements.now.entries c.args.text.now c.in-Some.kept (sym c.remove.ensures.value ∙ c.in-Some.is))

pub returns-in-Some-clause-gone : goal.returns-in-Some-clause-gone
returns-in-Some-clause-gone c = one_gone text_cmp_total text_cmp_exact c.args.elements.now.entries c.remove.new.self.entries c.args.text.now c.remove.ensures.updates.0

pub returns-in-None-clause-kept : goal.returns-in-None-clause-kept
returns-in-None-clause-kept c = c.new.ensures ∙ sym (at_none c.args.elements.now.entries c.args.text.now (sym c.remove.ensures.value ∙ c.in-None.is))

pub returns-in-None-clause-gone : goal.returns-in-None-clause-gone
returns-in-None-clause-gone c = one_gone text_cmp_total text_cmp_exact c.args.elements.now.entries c.remove.new.self.entries c.args.text.now c.remove.ensures.updates.0
