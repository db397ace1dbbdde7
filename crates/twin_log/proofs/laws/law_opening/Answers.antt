use Rattle.disk_core.proofs.Moments.{over_sync}
use Rattle.twin_log.specs.Twin.{IsTwinLogAmong}
use Rattle.twin_log.proofs.laws.law_opening.Goals as goal

pub returns : goal.returns
returns c = λ old new among synced reads all. over_sync old new (IsTwinLogAmong among) all reads synced
