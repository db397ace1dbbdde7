use Rattle.partition_lock.proofs.Sharing
use Rattle.partition_lock.proofs.laws.law_agreed.Goals as goal

pub returns : goal.returns
returns g c = record { agreed = λ kinds sites parts p run other s o n. Sharing.agreed _ _ kinds sites parts p run other s o n }
