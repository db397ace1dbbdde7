use Rattle.log_recovery.proofs.Condensing.{told_alike, same_pending, same_holds, same_vote, same_part}
use Rattle.log_recovery.proofs.CondensedFits.{condensed_fits}
use Rattle.log_recovery.proofs.laws.law_condense.Goals as goal

pub returns-clause-fits : goal.returns-clause-fits
returns-clause-fits g c = condensed_fits

pub returns-clause-pending : goal.returns-clause-pending
returns-clause-pending g c = λ sites parts id log more f none u. same_pending _ _ _ (told_alike sites parts id log more f none) u

pub returns-clause-holds : goal.returns-clause-holds
returns-clause-holds g c = λ sites parts id log more f none u. same_holds _ _ _ (told_alike sites parts id log more f none) u

pub returns-clause-vote : goal.returns-clause-vote
returns-clause-vote g c = λ sites parts id log more f none u waits. same_vote _ _ _ (told_alike sites parts id log more f none) u waits

pub returns-clause-part : goal.returns-clause-part
returns-clause-part g c = λ sites parts id log more f none u held. same_part _ _ _ (told_alike sites parts id log more f none) u held

pub returns-clause-ceiling : goal.returns-clause-ceiling
returns-clause-ceiling g c = λ sites parts id log more f none. (told_alike sites parts id log more f none).last

pub returns-clause-last : goal.returns-clause-last
returns-clause-last g c = λ sites parts id log more f none. (told_alike sites parts id log more f none).decision

pub returns-clause-bounds : goal.returns-clause-bounds
returns-clause-bounds g c = λ sites parts id log more f none j. (told_alike sites parts id log more f none).bounds j
