use Rattle.std.proofs.Common.{ap, ◌∙◌, sym, ◌++◌, ◌∷◌, []}
use Rattle.std.specs.Map.{keys_of}
use Rattle.std.specs.Map.Iter.{deref}
use Rattle.std.proofs.lemmas.Map.Iter.{rest_more, rest_all}
use Rattle.crdt_core.specs.Texts.{text_cmp_total, text_cmp_exact}
use Rattle.crdt_core.proofs.Trees.{keys_again}
use Rattle.crdt_sets.proofs.Lists.{grow, grown}
use Rattle.crdt_sets.proofs.elements.texts_in.Goals as goal

pub loop-text-preserved : goal.loop-text-preserved
loop-text-preserved c =
    grow (keys_of c.args.elements.now.entries) c.loop-text.texts c.push.new.self c.loop-text.text-iterator c.next.new.self c.in-Some.text.now
    c.loop-text.invariant
    (rest_more deref c.loop-text.text-iterator c.next.new.self c.next.result c.in-Some.text c.in-Some.is c.next.ensures.steps)
    (c.in_ok-push.ensures.ok ∙ ap (λ x. c.loop-text.texts ++ x ∷ []) c.in_ok-copy.ensures)

pub returns : goal.returns
returns c =
    grown _ c.loop-text.texts c.loop-text.text-iterator c.loop-text.invariant (rest_all deref c.loop-text.text-iterator c.next.new.self c.next.result c.in-None.is c.next.ensures.steps)
    ∙ sym (keys_again text_cmp_total text_cmp_exact c.args.elements.now.entries c.keys-text-items.ensures.ordered)
