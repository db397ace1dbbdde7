use Rattle.std.proofs.Common.{◌≡◌, ◌∙◌, ap, sym, refl, Err}
use Rattle.std.proofs.lemmas.Result.{err_from_is_err_and}
use Rattle.crdt_core.specs.KindsOf.{kinds_of}
use Rattle.partition_log.specs.Codec.{codec_of}
use Rattle.partition_log.specs.Gates.{gates_of}
use Rattle.world_model.specs.rules.Event.{led_by, AskPrepare, Prepared, Refused}
use Rattle.partition_core.specs.Answers.{cause}
use Rattle.partition_core.specs.Durable.{is_down}
use Rattle.partition_core.specs.Steps.{NamesNowhere}
use Rattle.partition_core.specs.Stopped.{stopped}
use Rattle.partition_core.proofs.Durably.{down_call}
use Rattle.partition_core.proofs.Logged.{on_disk, opened_steps, opened_rest, opened_onto, refused_on, vote_done, vote_stopped}
use Rattle.partition_core.proofs.durable.DurablePartition.prepare.Goals as goal

pub returns-then-is_down : goal.returns-then-is_down
returns-then-is_down g c = down_call (kinds_of g.C.Crdt.laws) (codec_of g.C.Crdt.spells) g.D.Disk.state c.args.self.now (NamesNowhere c.args.tx) (AskPrepare c.args.tx c.args.s.now (led_by c.args.lead) c.args.updates.now) (λ n e. e ≡ Prepared c.args.tx c.args.s.now (led_by c.args.lead) c.args.updates.now n) (sym c.is_down.ensures ∙ c.if-is_down.true) refl

pub returns-in_err-time : goal.returns-in_err-time
returns-in_err-time g c =
    let p = err_from_is_err_and c.from_residual.result c.from_residual.ensures.1 in
    let v = on_disk c.self.inside.tables (gates_of c.self.inside.log) c.self.inside.crashed in
    let up = ap is_down c.self.view_is ∙ sym c.is_down.ensures ∙ c.if-is_down.false in
    let kinds = kinds_of g.C.Crdt.laws in
    let codec = codec_of g.C.Crdt.spells in
    rw (p.1, p.2) (opened_rest kinds codec g.D.Disk.state (NamesNowhere c.args.tx) (λ e. e ≡ Refused (AskPrepare c.args.tx c.args.s.now (led_by c.args.lead) c.args.updates.now) (cause c.in_err-time.field-0.0)) v c.args.self.now c.self.view_is (refused_on kinds codec g.D.Disk.state v c.self.invariant up (NamesNowhere c.args.tx) (AskPrepare c.args.tx c.args.s.now (led_by c.args.lead) c.args.updates.now) c.in_err-time.field-0.0 c.self.inside.tables (c.in_err-time.ensures.refused c.args.tx (led_by c.args.lead) c.args.updates.now)))

pub returns-in_err-prepare_in : goal.returns-in_err-prepare_in
returns-in_err-prepare_in g c =
    let p = err_from_is_err_and c.from_residual-in_err-prepare_in.result c.from_residual-in_err-prepare_in.ensures.1 in
    let v = on_disk c.self.inside.tables (gates_of c.self.inside.log) c.self.inside.crashed in
    let up = ap is_down c.self.view_is ∙ sym c.is_down.ensures ∙ c.if-is_down.false in
    let kinds = kinds_of g.C.Crdt.laws in
    let codec = codec_of g.C.Crdt.spells in
    let new = on_disk c.self.inside.tables (gates_of c.prepare_in.new.log) c.self.inside.crashed in
    let now = on_disk c.prepare_in.new.self (gates_of c.prepare_in.new.log) c.self.inside.crashed in
    let as_before : now ≡ new = ap (λ t. on_disk t (gates_of c.prepare_in.new.log) c.self.inside.crashed) c.in_err-prepare_in.ensures.tables in
    rw (p.1, p.2) (opened_onto kinds codec g.D.Disk.state (NamesNowhere c.args.tx) (AskPrepare c.args.tx c.args.s.now (led_by c.args.lead) c.args.updates.now) (λ n e. e ≡ Prepared c.args.tx c.args.s.now (led_by c.args.lead) c.args.updates.now n) (Err (stopped c.in_err-prepare_in.field-0.0)) v c.args.self.now new now c.self.view_is as_before (vote_stopped kinds codec g.D.Disk.state v up c.args.tx c.args.s.now c.args.lead c.args.updates.now c.in_ok-time.time c.in_ok-time.ensures.reached c.in_ok-time.ensures.next c.in_ok-time.ensures.early c.in_err-prepare_in.field-0.0 (gates_of c.prepare_in.new.log) c.in_err-prepare_in.ensures.appends))

pub returns : goal.returns
returns g c =
    let v = on_disk c.self.inside.tables (gates_of c.self.inside.log) c.self.inside.crashed in
    let up = ap is_down c.self.view_is ∙ sym c.is_down.ensures ∙ c.if-is_down.false in
    let kinds = kinds_of g.C.Crdt.laws in
    let codec = codec_of g.C.Crdt.spells in
    let new = on_disk c.prepare_in.new.self (gates_of c.prepare_in.new.log) c.self.inside.crashed in
    opened_steps kinds codec g.D.Disk.state (NamesNowhere c.args.tx) (λ e. e ≡ Prepared c.args.tx c.args.s.now (led_by c.args.lead) c.args.updates.now c.in_ok-time.time) v c.args.self.now new c.self.view_is (vote_done kinds codec g.D.Disk.state v up c.args.tx c.args.s.now c.args.lead c.args.updates.now c.in_ok-time.time c.in_ok-prepare_in.field-0 (gates_of c.prepare_in.new.log) c.prepare_in.new.self c.in_ok-prepare_in.ensures.appends c.in_ok-prepare_in.ensures.tables)

pub prepare_in-requires-clause-fit : goal.prepare_in-requires-clause-fit
prepare_in-requires-clause-fit g c = c.requires.spelled c.in_ok-time.time
