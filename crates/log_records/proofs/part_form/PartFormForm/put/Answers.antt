use Rattle.log_records.proofs.Joins.{then_two}
use Rattle.log_records.proofs.part_form.PartFormForm.put.Goals as goal

pub returns-clause-ok : goal.returns-clause-ok
returns-clause-ok g c = then_two c.put_updates.result _ _ _ _ _ _ _ c.in_ok-put_tx.ensures.ok c.in_ok-put_vector.ensures.ok c.put_updates.ensures.ok
