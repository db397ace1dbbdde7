use Rattle.log_records.proofs.Joins.{then_one, keeps_behind}
use Rattle.log_records.proofs.record_form.put_batch_fields.Goals as goal

pub returns-clause-ok : goal.returns-clause-ok
returns-clause-ok g c = then_one c.put_fields.result _ _ _ _ _ c.in_ok-put_u8.ensures.ok c.put_fields.ensures.ok

pub returns-clause-err : goal.returns-clause-err
returns-clause-err g c = keeps_behind c.put_fields.result _ _ _ _ c.in_ok-put_u8.ensures.ok c.put_fields.ensures.err
