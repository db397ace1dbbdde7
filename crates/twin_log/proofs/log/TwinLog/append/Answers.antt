use Rattle.std.proofs.Common.{◌++◌, ◌∷◌, [], sym, ◌∙◌, arith}
use Rattle.disk_core.proofs.Moments.{weaker}
use Rattle.gate_log.specs.Log.{IsTailWith}
use Rattle.gate_log.proofs.Steps.{was_ok, still}
use Rattle.twin_log.specs.Twin.{IsEither}
use Rattle.twin_log.proofs.Holds.{front_of, behind, appends_either, rests_with, log_left, before_call}
use Rattle.twin_log.proofs.log.TwinLog.append.Goals as goal

pub write_record-requires-clause-at_rest : goal.write_record-requires-clause-at_rest
write_record-requires-clause-at_rest g c = λ told.
    let now = c.requires.ready.open_with c.if-self.false told in
    let disk = g.D.Disk.state c.args.self.now.disk in
    (front_of disk.story.now.bytes c.args.self.now.spot.format now.0 now.1.stands.log, now.1.stands.log.tail, behind disk _ now.0 now.1)

pub returns-then-count-room-clause-any_moment : goal.returns-then-count-room-clause-any_moment
returns-then-count-room-clause-any_moment g c = λ payloads o. before_call (g.D.Disk.state c.args.self.now.disk) _ payloads _ (payloads ++ c.args.payload.now ∷ []) o.at_rest

pub returns-then-is_err-clause-any_moment : goal.returns-then-is_err-clause-any_moment
returns-then-is_err-clause-any_moment g c = λ payloads o.
    let disk = g.D.Disk.state c.args.self.now.disk in
    let format = c.args.self.now.spot.format in
    let log = o.at_rest.stands.log in
    let front = front_of disk.story.now.bytes format payloads log in
    weaker disk.story (g.D.Disk.state c.write_record.new.disk).story (IsTailWith front log.tail c.args.payload.now) (IsEither format payloads format (payloads ++ c.args.payload.now ∷ []))
    (λ image tails. appends_either disk.story.now.bytes format payloads log c.args.payload.now image tails)
    (c.write_record.ensures.any_moment front log.tail (behind disk _ payloads o.at_rest))

pub returns-clause-any_moment : goal.returns-clause-any_moment
returns-clause-any_moment g c = λ payloads o.
    let disk = g.D.Disk.state c.args.self.now.disk in
    let format = c.args.self.now.spot.format in
    let log = o.at_rest.stands.log in
    let front = front_of disk.story.now.bytes format payloads log in
    weaker disk.story (g.D.Disk.state c.write_record.new.disk).story (IsTailWith front log.tail c.args.payload.now) (IsEither format payloads format (payloads ++ c.args.payload.now ∷ []))
    (λ image tails. appends_either disk.story.now.bytes format payloads log c.args.payload.now image tails)
    (c.write_record.ensures.any_moment front log.tail (behind disk _ payloads o.at_rest))

pub returns-clause-appended : goal.returns-clause-appended
returns-clause-appended g c = λ payloads o.
    let disk = g.D.Disk.state c.args.self.now.disk in
    let front = front_of disk.story.now.bytes c.args.self.now.spot.format payloads o.at_rest.stands.log in
    let ok = sym c.is_err.ensures.value ∙ c.if-is_err.false in
    let tail = was_ok c.write_record.result _ ok c.write_record.ensures.appended front o.at_rest.stands.log.tail (behind disk _ payloads o.at_rest) in
    record { is_open = o.is_open; at_rest = rests_with disk _ payloads o.at_rest (g.D.Disk.state c.write_record.new.disk) _ c.args.payload.now tail }

pub returns-clause-durable : goal.returns-clause-durable
returns-clause-durable g c = λ payloads o image left.
    let disk = g.D.Disk.state c.args.self.now.disk in
    let front = front_of disk.story.now.bytes c.args.self.now.spot.format payloads o.at_rest.stands.log in
    let ok = sym c.is_err.ensures.value ∙ c.if-is_err.false in
    let tail = was_ok c.write_record.result _ ok c.write_record.ensures.appended front o.at_rest.stands.log.tail (behind disk _ payloads o.at_rest) in
    log_left (g.D.Disk.state c.write_record.new.disk) _ (payloads ++ c.args.payload.now ∷ []) image (rests_with disk _ payloads o.at_rest (g.D.Disk.state c.write_record.new.disk) _ c.args.payload.now tail) left

pub returns-clause-ready : goal.returns-clause-ready
returns-clause-ready g c = record {
  fits = omega (arith, c.write_record.ensures.goes_on.room, c.room-room.ensures, c.if-count-room.false, c.if-self-count.false);
  low = c.requires.ready.low;
  order = omega (arith, c.requires.ready.order);
  open_with = λ is_open told.
      let disk = g.D.Disk.state c.args.self.now.disk in
      let now = c.requires.ready.open_with c.if-self.false (still _ _ (sym c.write_record.ensures.goes_on.tells) told) in
      let front = front_of disk.story.now.bytes c.args.self.now.spot.format now.0 now.1.stands.log in
      let ok = sym c.is_err.ensures.value ∙ c.if-is_err.false in
      let tail = was_ok c.write_record.result _ ok c.write_record.ensures.appended front now.1.stands.log.tail (behind disk _ now.0 now.1) in
      (now.0 ++ c.args.payload.now ∷ [], rests_with disk _ now.0 now.1 (g.D.Disk.state c.write_record.new.disk) _ c.args.payload.now tail);
}
