use Rattle.std.proofs.Common.{ℕ, Err, subst, arith}
use Rattle.field_codec.specs.Reading.{Gives}
use Rattle.crdt_core.specs.declared.record.Record.{Record}
use Rattle.log_records.specs.Records.{record_at, record_form}
use Rattle.log_records.proofs.Wholes.{read_fits, read_spelled, read_all, refused_within}
use Rattle.log_records.proofs.record.take.Goals as goal

pub returns-else-end-bytes-clause-fit : goal.returns-else-end-bytes-clause-fit
returns-else-end-bytes-clause-fit g c =
    read_fits (record_form g.C.Crdt.spells) c.args.bytes.now 0 c.in-Ok.record c.in-Ok.end (λ i. omega (arith, c.type_inv.bytes i)) (omega arith) c.in-Ok.ensures.answer

pub returns-else-end-bytes-clause-spelled : goal.returns-else-end-bytes-clause-spelled
returns-else-end-bytes-clause-spelled g c =
    read_spelled (record_form g.C.Crdt.spells) c.args.bytes.now 0 c.in-Ok.record c.in-Ok.end (λ i. omega (arith, c.type_inv.bytes i)) (omega arith) c.in-Ok.ensures.answer

pub returns-else-end-bytes-clause-bytes : goal.returns-else-end-bytes-clause-bytes
returns-else-end-bytes-clause-bytes g c =
    read_all (record_form g.C.Crdt.spells) c.args.bytes.now c.in-Ok.record c.in-Ok.end (λ i. omega (arith, c.type_inv.bytes i)) c.in-Ok.ensures.answer c.if-end-bytes.false

pub returns-in-Err-Bad-clause-within : goal.returns-in-Err-Bad-clause-within
returns-in-Err-Bad-clause-within g c = λ at same.
    let answer = subst (λ e. Gives {A = Record g.row.C-Effect.Denot × ℕ} (Err e) (record_at g.C.Crdt.has g.C.Crdt.reading c.args.bytes.now 0)) c.in-Err-Bad.field-0-is c.in-Err-Bad.ensures.answer in
    refused_within (record_form g.C.Crdt.spells) c.args.bytes.now c.in-Err-Bad.at at (λ i. omega (arith, c.type_inv.bytes i)) answer same
