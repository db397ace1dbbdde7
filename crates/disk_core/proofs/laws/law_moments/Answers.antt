use Rattle.disk_core.proofs.Inside.{before_write, amid_write, before_cut, only_synced}
use Rattle.disk_core.proofs.laws.law_moments.Goals as goal

pub returns-clause-before_write : goal.returns-clause-before_write
returns-clause-before_write c = before_write

pub returns-clause-amid_write : goal.returns-clause-amid_write
returns-clause-amid_write c = amid_write

pub returns-clause-before_cut : goal.returns-clause-before_cut
returns-clause-before_cut c = before_cut

pub returns-clause-after_sync : goal.returns-clause-after_sync
returns-clause-after_sync c = only_synced
