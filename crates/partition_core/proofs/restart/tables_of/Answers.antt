use Rattle.partition_core.proofs.restart.tables_of.Goals as goal

pub returns-clause-stands : goal.returns-clause-stands
returns-clause-stands g c =
    let told = c.in_ok-told.ensures.told in
    (told.0, told.1, told.2.fits, (c.in_ok-told.told.bounds, told.2.bounds, c.in_ok-tables.ensures.stands told.0 told.2))
