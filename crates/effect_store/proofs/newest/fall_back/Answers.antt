use Rattle.effect_store.proofs.Keeping.{newest_within, newest_either}
use Rattle.effect_store.proofs.newest.fall_back.Goals as goal

pub rest_of-rest-requires-clause-within : goal.rest_of-rest-requires-clause-within
rest_of-rest-requires-clause-within g c = newest_within _ _ _ _ _ c.requires.fitting _ c.requires.hold

pub rest_of-late-requires-clause-within : goal.rest_of-late-requires-clause-within
rest_of-late-requires-clause-within g c = newest_within _ _ _ _ _ c.requires.fitting _ c.requires.hold_older

pub renew-requires-clause-within : goal.renew-requires-clause-within
renew-requires-clause-within g c = newest_within _ _ _ _ _ c.requires.fitting _ c.bring-brought.ensures.hold

pub rest_of-requires-clause-within : goal.rest_of-requires-clause-within
rest_of-requires-clause-within g c = newest_within _ _ _ _ _ c.requires.fitting _ (newest_either _ _ _ _ _ _ _ c.requires.hold c.bring-brought.ensures.hold c.renew.ensures)

pub returns-clause-hold : goal.returns-clause-hold
returns-clause-hold g c = newest_either _ _ _ _ _ _ _ c.requires.hold c.bring-brought.ensures.hold c.renew.ensures
