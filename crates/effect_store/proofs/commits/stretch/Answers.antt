use Rattle.effect_store.proofs.Committing.{tail_is, rest_within, rest_rising, front_within, stretch_is}
use Rattle.effect_store.proofs.commits.stretch.Goals as goal

pub count_up_to-requires-2-clause-within : goal.count_up_to-requires-2-clause-within
count_up_to-requires-2-clause-within g c = rest_within _ _ _ _ (tail_is c.count_up_to.result c.args.list.now) c.requires.within

pub count_up_to-requires-2-clause-rising : goal.count_up_to-requires-2-clause-rising
count_up_to-requires-2-clause-rising g c = rest_rising _ _ _ _ _ (tail_is c.count_up_to.result c.args.list.now) c.requires.within c.requires.rising

pub invariant_of-result : goal.invariant_of-result
invariant_of-result g c = front_within _ _ c.count_up_to-2.result (rest_within _ _ _ _ (tail_is c.count_up_to.result c.args.list.now) c.requires.within)

pub returns : goal.returns
returns g c = stretch_is c.args.site c.args.lo c.args.hi _ _ _ _ c.count_up_to-2.result (tail_is c.count_up_to.result c.args.list.now) c.requires.within c.count_up_to.ensures.before c.count_up_to.ensures.after c.count_up_to-2.ensures.before c.count_up_to-2.ensures.after
