use Rattle.partition_log.specs.Codec.{codec_of}
use Rattle.partition_log.proofs.One.{on_ok, has_one, keeps_one, moments_of_one, full_at_one, one_is_full, gate_at_one}
use Rattle.partition_log.proofs.append.append_one.Goals as goal

pub returns-clause-appends : goal.returns-clause-appends
returns-clause-appends g c = λ r spelled is.
    let codec = codec_of g.C.Crdt.spells in
    let state = g.D.Disk.state in
    let old = c.args.log.now in
    let new = c.append.new.self in
    let result = c.append.result in
    let does = c.append.ensures in
    record {
      appended = on_ok result (has_one codec state old new c.args.payload.now r spelled is) does.appended;
      durable = on_ok result (keeps_one codec state old new c.args.payload.now r spelled is) does.durable;
      any_moment = moments_of_one codec state old new c.args.payload.now r spelled is does.any_moment;
      was_closed = does.closed.0;
      closed = λ h _. does.closed.1 h;
      is_full = λ room. full_at_one codec state old new c.args.payload.now r spelled is result room does.closed does.full does.room;
      full = λ open_still past _. one_is_full codec state old new c.args.payload.now r spelled is result does.full open_still past;
      failed = does.failed;
      refused = does.refused;
      gate = gate_at_one codec state old new c.args.payload.now r spelled is result does.gate;
      stays_open = does.stays_open;
      read = does.read;
      ready = does.ready;
      goes_on = does.goes_on;
      left = does.left;
      left_ok = does.left_ok;
      spared = does.spared;
    }
