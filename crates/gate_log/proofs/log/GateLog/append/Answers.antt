use Rattle.std.proofs.Common.{◌++◌, ◌∷◌, [], sym, ◌∙◌, arith}
use Rattle.gate_log.specs.Log.{header}
use Rattle.gate_log.proofs.Steps.{at_rest, is_log, behind_header, log_at_rest, was_ok, still}
use Rattle.gate_log.proofs.log.GateLog.append.Goals as goal

pub write_record-requires-clause-at_rest : goal.write_record-requires-clause-at_rest
write_record-requires-clause-at_rest g c = λ told.
    let before = c.requires.ready.open_with c.if-self.false told in
    (header, before.0, behind_header _ _ before.0 before.1)

pub returns-then-count-room-clause-any_moment : goal.returns-then-count-room-clause-any_moment
returns-then-count-room-clause-any_moment g c = λ payloads o. at_rest header (g.D.Disk.state c.args.self.now.disk) _ payloads _ (behind_header _ _ payloads o.at_rest)

pub returns-then-is_err-clause-any_moment : goal.returns-then-is_err-clause-any_moment
returns-then-is_err-clause-any_moment g c = λ payloads o. c.write_record.ensures.any_moment header payloads (behind_header _ _ payloads o.at_rest)

pub returns-clause-any_moment : goal.returns-clause-any_moment
returns-clause-any_moment g c = λ payloads o. c.write_record.ensures.any_moment header payloads (behind_header _ _ payloads o.at_rest)

pub returns-clause-appended : goal.returns-clause-appended
returns-clause-appended g c = λ payloads o.
    let ok = sym c.is_err.ensures.value ∙ c.if-is_err.false in
    let rest = was_ok c.write_record.result _ ok c.write_record.ensures.appended header payloads (behind_header _ _ payloads o.at_rest) in
    let settled = was_ok c.write_record.result _ ok c.write_record.ensures.settled o.at_rest.tells in
    record { is_open = o.is_open; at_rest = log_at_rest _ _ _ rest settled }

pub returns-clause-durable : goal.returns-clause-durable
returns-clause-durable g c = λ payloads o image left.
    let ok = sym c.is_err.ensures.value ∙ c.if-is_err.false in
    let rest = was_ok c.write_record.result _ ok c.write_record.ensures.appended header payloads (behind_header _ _ payloads o.at_rest) in
    let settled = was_ok c.write_record.result _ ok c.write_record.ensures.settled o.at_rest.tells in
    is_log (g.D.Disk.state c.write_record.new.disk).story.now (payloads ++ c.args.payload.now ∷ []) image settled rest.log left

pub returns-clause-ready : goal.returns-clause-ready
returns-clause-ready g c = record {
  fits = omega (arith, c.write_record.ensures.goes_on.room, c.room-room.ensures, c.if-count-room.false, c.if-self-count.false);
  open_with = λ is_open told.
      let ok = sym c.is_err.ensures.value ∙ c.if-is_err.false in
      let told_before = still _ _ (sym c.write_record.ensures.goes_on.tells) told in
      let before = c.requires.ready.open_with c.if-self.false told_before in
      let rest = was_ok c.write_record.result _ ok c.write_record.ensures.appended header before.0 (behind_header _ _ before.0 before.1) in
      let settled = was_ok c.write_record.result _ ok c.write_record.ensures.settled told_before in
      (before.0 ++ c.args.payload.now ∷ [], log_at_rest _ _ _ rest settled);
}
