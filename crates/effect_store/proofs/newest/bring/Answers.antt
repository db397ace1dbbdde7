use Rattle.std.proofs.Common.{sym}
use Rattle.effect_store.proofs.Keeping.{newest_kept, newest_left, newest_width, front_width}
use Rattle.effect_store.proofs.newest.bring.Goals as goal

pub front_state-requires-clause-hold : goal.front_state-requires-clause-hold
front_state-requires-clause-hold g c = newest_width _ _ _ _ _ _ c.width-sites.ensures.entries c.requires.hold

pub returns-in_err-front : goal.returns-in_err-front
returns-in_err-front g c = record { hold = newest_left _ _ _ _ _ _ c.requires.hold c.front_state.ensures.left }

pub returns : goal.returns
returns g c = record { hold = newest_kept _ _ _ _ _ c.requires.fitting c.args.object.now c.in_ok-front.front _ _ _ c.requires.hold c.front_state.ensures.left (front_width _ _ _ _ _ _ _ (sym c.width-sites.ensures.entries) c.in_ok-front.ensures.front) (rw (sym c.requires.tagged) c.keep.ensures.others) }
