use Rattle.std.proofs.Common.{◌≡◌, IfOk, ap, ◌∙◌, subst}
use Rattle.crdt_meanings.specs.Sorted.{sorted}
use Rattle.crdt_meanings.proofs.SortedLaws.{sorted_is}
use Rattle.crdt_registers.proofs.texts.in_order.Goals as goal

pub returns : goal.returns
returns c =
    subst (λ x. IfOk c.list_of.result (λ l. l ≡ x)) (sorted_is c.in_ok-texts.texts.items c.sort.new.self.items c.sort.ensures.stable c.in_ok-sort.ensures.sorted ∙ ap sorted c.in_ok-texts.ensures) c.list_of.ensures
