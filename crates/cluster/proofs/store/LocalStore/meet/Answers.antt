use Rattle.std.proofs.Common.{refl}
use Rattle.cluster.proofs.Seeing.{all_within}
use Rattle.cluster.proofs.store.LocalStore.meet.Goals as goal

pub returns-clause-first : goal.returns-clause-first
returns-clause-first g c run s = record { whole = run; within = all_within run; same = λ n h. refl; seen = s }

pub returns-clause-second : goal.returns-clause-second
returns-clause-second g c run s = record { whole = run; within = all_within run; same = λ n h. refl; seen = s }
