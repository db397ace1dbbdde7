use Rattle.std.proofs.Common.{◌≡◌, ◌∙◌, ap, sym, refl, max, arith, Err}
use Rattle.std.proofs.lemmas.Result.{err_from_is_err_and}
use Rattle.crdt_core.specs.KindsOf.{kinds_of}
use Rattle.partition_log.specs.Codec.{codec_of}
use Rattle.partition_log.specs.Gates.{gates_of}
use Rattle.world_model.specs.rules.Event.{AskTick, Ticked}
use Rattle.partition_core.specs.Durable.{is_down}
use Rattle.partition_core.specs.Steps.{Anything}
use Rattle.partition_core.specs.Stopped.{stopped}
use Rattle.partition_core.proofs.Durably.{down_call}
use Rattle.partition_core.proofs.Logged.{on_disk, opened_on, opened_steps, tick_done, tick_stopped}
use Rattle.partition_core.proofs.durable.DurablePartition.tick.Goals as goal

pub returns-then-is_down-clause-answers : goal.returns-then-is_down-clause-answers
returns-then-is_down-clause-answers g c = down_call (kinds_of g.C.Crdt.laws) (codec_of g.C.Crdt.spells) g.D.Disk.state c.args.self.now Anything (AskTick c.args.clock_time) (λ n e. e ≡ Ticked c.args.clock_time n) (sym c.is_down.ensures ∙ c.if-is_down.true) refl

pub lease_before-requires : goal.lease_before-requires
lease_before-requires g c = let a = c.now.ensures.most in let b = c.requires in omega (arith, a, b)

pub returns-in_err-keep_lease-clause-answers : goal.returns-in_err-keep_lease-clause-answers
returns-in_err-keep_lease-clause-answers g c =
    let p = err_from_is_err_and c.from_residual.result c.from_residual.ensures.1 in
    let v = on_disk c.self.inside.tables (gates_of c.self.inside.log) c.self.inside.crashed in
    let new = on_disk c.self.inside.tables (gates_of c.keep_lease.new.log) c.self.inside.crashed in
    let up = ap is_down c.self.view_is ∙ sym c.is_down.ensures ∙ c.if-is_down.false in
    let kinds = kinds_of g.C.Crdt.laws in
    let codec = codec_of g.C.Crdt.spells in
    rw (p.1, p.2) (opened_on kinds codec g.D.Disk.state Anything (AskTick c.args.clock_time) (λ n e. e ≡ Ticked c.args.clock_time n) (Err (stopped c.in_err-keep_lease.field-0.0)) v c.args.self.now new c.self.view_is (tick_stopped kinds codec g.D.Disk.state v up c.args.clock_time c.max-time.result c.requires (c.max-time.ensures ∙ ap (λ m. max c.args.clock_time m) c.now.ensures.clock) (let a = c.now.ensures.most in let b = c.requires in let d = c.max-time.ensures in omega (arith, a, b, d)) c.lease_before.result c.lease_before.ensures c.in_err-keep_lease.field-0.0 (gates_of c.keep_lease.new.log) c.in_err-keep_lease.ensures.appends))

pub advance-requires-clause-most : goal.advance-requires-clause-most
advance-requires-clause-most g c = let a = c.now.ensures.most in let b = c.requires in omega (arith, a, b)

pub returns-clause-answers : goal.returns-clause-answers
returns-clause-answers g c =
    let v = on_disk c.self.inside.tables (gates_of c.self.inside.log) c.self.inside.crashed in
    let new = on_disk c.advance.new.self (gates_of c.keep_lease.new.log) c.self.inside.crashed in
    let up = ap is_down c.self.view_is ∙ sym c.is_down.ensures ∙ c.if-is_down.false in
    let kinds = kinds_of g.C.Crdt.laws in
    let codec = codec_of g.C.Crdt.spells in
    opened_steps kinds codec g.D.Disk.state Anything (λ e. e ≡ Ticked c.args.clock_time c.max-time.result) v c.args.self.now new c.self.view_is (tick_done kinds codec g.D.Disk.state v up c.args.clock_time c.max-time.result c.requires (c.max-time.ensures ∙ ap (λ m. max c.args.clock_time m) c.now.ensures.clock) (let a = c.now.ensures.most in let b = c.requires in let d = c.max-time.ensures in omega (arith, a, b, d)) c.lease_before.result c.lease_before.ensures c.in_ok-keep_lease.field-0 (gates_of c.keep_lease.new.log) c.advance.new.self c.in_ok-keep_lease.ensures.appends c.advance.ensures)
