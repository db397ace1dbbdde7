use Rattle.field_codec.specs.Spelling.{number}
use Rattle.crdt_core.specs.Spelled.{tx, vector}
use Rattle.log_records.proofs.Joins.{behind_five}
use Rattle.log_records.proofs.record_form.RecordFormForm.put.Goals as goal

pub returns-in_ok-put_prepared-in-Prepare-clause-ok : goal.returns-in_ok-put_prepared-in-Prepare-clause-ok
returns-in_ok-put_prepared-in-Prepare-clause-ok g c =
    rw c.in-Prepare.is (behind_five c.put_updates.result c.args.out.now.items c.put_prepared.new.out.items c.put_updates.new.out.items (number 1 2) (tx c.in-Prepare.tx) (number 1 c.in-Prepare.lead) (number 8 c.in-Prepare.time) (vector c.in-Prepare.s) _
    c.in_ok-put_prepared-in-Prepare.ensures.ok c.put_updates.ensures.ok)

pub returns-in-Decide-clause-ok : goal.returns-in-Decide-clause-ok
returns-in-Decide-clause-ok g c = rw c.in-Decide.is c.put_ended.ensures.ok

pub returns-in-Finish-clause-ok : goal.returns-in-Finish-clause-ok
returns-in-Finish-clause-ok g c = rw c.in-Finish.is c.put_ended-in-Finish.ensures.ok

pub returns-in-Abort-clause-ok : goal.returns-in-Abort-clause-ok
returns-in-Abort-clause-ok g c = rw c.in-Abort.is c.put_abort.ensures.ok

pub returns-in-Batch-clause-ok : goal.returns-in-Batch-clause-ok
returns-in-Batch-clause-ok g c = rw c.in-Batch.is c.put_batch_fields.ensures.ok
