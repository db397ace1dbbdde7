use Rattle.std.proofs.Common.{◌≡◌, ℕ, List, [], inl, inr, ⊎_elim, refl, sym, ◌∙◌, subst}
use Rattle.log_records.specs.Records.{record_form}
use Rattle.log_records.proofs.Wholes.{spelled_whole}
use Rattle.log_recovery.specs.Recovered.{AreKnown}
use Rattle.log_recovery.specs.Rising.{Rises}
use Rattle.gate_log.specs.Logs.{read_at_opening}
use Rattle.partition_log.specs.Codec.{codec_of}
use Rattle.partition_log.specs.Gates.{gates_of}
use Rattle.partition_log.specs.Logs.{HasRecords}
use Rattle.partition_log.proofs.Damaged.{same_read}
use Rattle.partition_log.proofs.Opened.{opened_records, opened_damaged}
use Rattle.partition_core.specs.Durable.{StandsOn}
use Rattle.partition_core.specs.Recovered.{resumed}
use Rattle.partition_core.proofs.Making.{new_stands}
use Rattle.partition_core.proofs.Rereading.{map_ok, map_both, map_err, opens_damaged}
use Rattle.partition_core.proofs.durable.DurablePartition.make.Goals as goal

pub returns-in-Err-clause-damaged : goal.returns-in-Err-clause-damaged
returns-in-Err-clause-damaged g c = λ at e told. inl (inl (c.in-Err.ensures.damaged at (opens_damaged _ at (sym c.from.ensures ∙ e)) told))

pub returns-in-Ok-clause-damaged : goal.returns-in-Ok-clause-damaged
returns-in-Ok-clause-damaged g c = map_err c.wake.result
    (λ e f at is told.
    let codec = codec_of g.C.Crdt.spells in
    let disk = g.D.Disk.state c.args.disk in
    ⊎_elim
    (λ refused. inl (opened_damaged codec g.D.Disk.state disk (gates_of c.in-Ok.log) c.in-Ok.ensures.opened at refused told))
    (λ unfit. inr (unfit.0, (opened_records codec g.D.Disk.state disk (gates_of c.in-Ok.log) c.in-Ok.ensures.opened unfit.0 unfit.1 told).0, unfit.2))
    (f at is))
    c.wake.ensures.damaged

pub returns-in-Ok-clause-stands : goal.returns-in-Ok-clause-stands
returns-in-Ok-clause-stands g c = map_ok c.wake.result
    (λ p s tells log holds rises.
    let codec = codec_of g.C.Crdt.spells in
    let h = c.in-Ok.ensures.holds tells log holds in
    let same : log ≡ s.0 = same_read codec (spelled_whole (record_form g.C.Crdt.spells)) (read_at_opening (gates_of c.in-Ok.log)) log s.0 h.0 s.1 in
    let has : HasRecords codec g.D.Disk.state (gates_of c.in-Ok.log) s.0 = subst (λ l. HasRecords codec g.D.Disk.state (gates_of c.in-Ok.log) l) same h.1 in
    let lent : Rises s.0 = subst (λ l. Rises l) same rises in
    subst (λ l. (b : List ℕ) × AreKnown c.args.sites c.args.id.site l b × StandsOn codec g.D.Disk.state p (resumed c.args.sites c.args.parts b l)) (sym same) (s.3.0, s.3.1, s.3.2 has lent))
    c.wake.ensures.stands

pub returns-in-Ok-clause-read : goal.returns-in-Ok-clause-read
returns-in-Ok-clause-read g c = map_both c.wake.result
    (λ p s has told.
    let r = opened_records (codec_of g.C.Crdt.spells) g.D.Disk.state (g.D.Disk.state c.args.disk) (gates_of c.in-Ok.log) c.in-Ok.ensures.opened s.0 s.1 told in
    record { log = s.0; holds = r.0; fits = s.2; has = has s.0 r.1; stands = λ rises. (s.3.0, s.3.1, s.3.2 r.1 rises) })
    c.wake.ensures.stands c.wake.ensures.has

pub returns-in-Ok-clause-new : goal.returns-in-Ok-clause-new
returns-in-Ok-clause-new g c = map_ok c.wake.result
    (λ p s end rest.
    let codec = codec_of g.C.Crdt.spells in
    let h = c.in-Ok.ensures.holds rest.tells [] (record { is_log = rest.log; spelled = refl }) in
    let same : [] ≡ s.0 = same_read codec (spelled_whole (record_form g.C.Crdt.spells)) (read_at_opening (gates_of c.in-Ok.log)) [] s.0 h.0 s.1 in
    let has : HasRecords codec g.D.Disk.state (gates_of c.in-Ok.log) s.0 = subst (λ l. HasRecords codec g.D.Disk.state (gates_of c.in-Ok.log) l) same h.1 in
    let lent : Rises s.0 = subst (λ l. Rises l) same tt in
    let told = subst (λ l. (b : List ℕ) × AreKnown c.args.sites c.args.id.site l b × StandsOn codec g.D.Disk.state p (resumed c.args.sites c.args.parts b l)) (sym same) (s.3.0, s.3.1, s.3.2 has lent) in
    new_stands codec g.D.Disk.state p c.args.sites c.args.parts c.args.id.site told.0 told.1 told.2)
    c.wake.ensures.stands
