use Rattle.std.proofs.Common.{◌≡◌, subst, sym, rules}
use Rattle.std.proofs.lemmas.Fn.{filter_same}
use Rattle.crdt_core.specs.DotSet.{without, IsAscending}
use Rattle.crdt_core.proofs.DotSet.{ascending_without}
use Rattle.crdt_core.proofs.dots.drop_gone.Goals as goal

pub returns-clause-remaining : goal.returns-clause-remaining
returns-clause-remaining c = filter_same _ _ _ (λ x b f' k. search rules) _ _ c.retain.ensures.filtered

pub returns-clause-ascending : goal.returns-clause-ascending
returns-clause-ascending c =
    let kept : c.retain.new.self.items ≡ without c.args.items.now.items c.args.gone.now = filter_same _ _ _ (λ x b f' k. search rules) _ _ c.retain.ensures.filtered in
    subst IsAscending (sym kept) (ascending_without c.args.items.now.items c.args.gone.now c.requires)
