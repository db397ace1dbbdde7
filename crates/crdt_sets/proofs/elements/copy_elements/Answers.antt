use Rattle.std.proofs.lemmas.Map.Entries.{entries_from_clone}
use Rattle.crdt_sets.proofs.elements.copy_elements.Goals as goal

pub returns : goal.returns
returns c = entries_from_clone _ _ (λ x y same. same) (λ x y same. same) c.args.elements.now.entries _ c.in_ok-copied.ensures.cases
