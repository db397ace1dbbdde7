use Rattle.std.proofs.lemmas.Map.Entries.{entries_from_clone}
use Rattle.crdt_core.proofs.kept.copy_entries.Goals as goal

pub returns : goal.returns
returns g c = entries_from_clone _ _ (λ x y same. same) g.met.V.Copied.exact c.args.entries.now.entries _ c.in_ok-copied.ensures.cases
