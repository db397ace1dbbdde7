use Rattle.partition_lock.proofs.Agreeing
use Rattle.partition_lock.proofs.laws.law_agrees.Goals as goal

pub returns : goal.returns
returns c start = record { agrees = λ kinds sites parts traces state a one two o p n. Agreeing.law_agrees kinds sites parts traces state a one two o p n }
