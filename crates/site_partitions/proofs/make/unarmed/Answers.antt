use Rattle.site_partitions.proofs.make.unarmed.Goals as goal

pub returns-clause-stands : goal.returns-clause-stands
returns-clause-stands g c = λ p s. c.revive.ensures.stands p (c.arm.ensures.stands p s)
