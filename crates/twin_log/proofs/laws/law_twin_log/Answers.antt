use Rattle.twin_log.proofs.Unique.{one_list as one_list_of, one_place as one_place_of, not_both as not_both_of}
use Rattle.twin_log.proofs.laws.law_twin_log.Goals as goal

pub returns-clause-one_list : goal.returns-clause-one_list
returns-clause-one_list c = one_list_of

pub returns-clause-one_place : goal.returns-clause-one_place
returns-clause-one_place c = one_place_of

pub returns-clause-not_both : goal.returns-clause-not_both
returns-clause-not_both c = not_both_of
