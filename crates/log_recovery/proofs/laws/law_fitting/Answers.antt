use Rattle.crdt_core.specs.Log.{ceiling}
use Rattle.log_recovery.specs.FittingLaws.{pending_home, pending_unheld, committed_home, taken_away, pending_under}
use Rattle.log_recovery.specs.RisingLaws.{lease_rises, found_rises}
use Rattle.log_recovery.proofs.laws.law_fitting.Goals as goal

pub returns-clause-pending : goal.returns-clause-pending
returns-clause-pending g c = λ sites parts id log f u h. let p = pending_home sites parts id (ceiling log) log f u h in (p.home, p.timed, pending_unheld sites parts id (ceiling log) log f u h)

pub returns-clause-committed : goal.returns-clause-committed
returns-clause-committed g c = λ sites parts id log f u h. (committed_home sites parts id (ceiling log) log f u h).home

pub returns-clause-taken : goal.returns-clause-taken
returns-clause-taken g c = λ sites parts id log f u h. (taken_away sites parts id (ceiling log) log f u h).away

pub returns-clause-under : goal.returns-clause-under
returns-clause-under g c = λ sites parts id log f u h. pending_under sites parts id (ceiling log) log f u h

pub returns-clause-rises : goal.returns-clause-rises
returns-clause-rises g c = lease_rises

pub returns-clause-found : goal.returns-clause-found
returns-clause-found g c = found_rises
