use Rattle.std.proofs.Common.{◌≡◌, inl, inr, ⊎_elim, ℕ, ◌<◌, ◌^◌, List, length, refl, sym, arith}
use Rattle.std.specs.Int.{w64, to_be_bytes}
use Rattle.disk_core.specs.States.{DiskState}
use Rattle.gate_log.proofs.Steps.{still}
use Rattle.twin_log.specs.Twin.{other_if, turned_if}
use Rattle.twin_log.specs.Rests.{AtRest, IsArea, IsNext}
use Rattle.twin_log.specs.declared.spot.Spot.{Spot}
use Rattle.twin_log.proofs.Calls.{more_calls, one_call}
use Rattle.twin_log.proofs.Switching.{Switch, target_within, failed_1, start_place, start_stopped, switch_place, turn_stopped, turned_moment, turned_rests, cut_place, cut_failed, cut_moment, cut_rests}
use Rattle.twin_log.proofs.replace.replace.Goals as goal

-- the switch of these calls
abbrev switch_of : (disk : DiskState) (spot next : Spot) (before : List (List ℕ)) (bytes : List ℕ) (after : List (List ℕ)) (other : ℕ) (told : List ℕ) (turned : ℕ) → AtRest disk spot before → IsArea bytes next.format after → IsNext spot (length bytes) next → next.start < 2 ^ 64
    → other ≡ other_if spot.second → told ≡ to_be_bytes w64 next.start → turned ≡ turned_if spot.second → Switch
switch_of disk spot next before bytes after other told turned rest new to small other_is told_is turned_is =
    record { disk = disk; spot = spot; next = next; before = before; rest = rest; bytes = bytes; after = after; new = new; to = to; small = small; other = other; other_is = other_is; told = told; told_is = told_is; turned = turned; turned_is = turned_is }

pub returns-in_err-write_at-clause-any_moment : goal.returns-in_err-write_at-clause-any_moment
returns-in_err-write_at-clause-any_moment g c = λ before after rest new.
    let it = switch_of (g.D.Disk.state c.args.disk.now) c.args.spot.now c.args.next.now before c.args.area.now after c.other_place-other.result c.to_be_bytes-start.result c.turned_byte-turned.result rest new c.requires.next c.requires.small c.other_place-other.ensures c.to_be_bytes-start.ensures c.turned_byte-turned.ensures in
    failed_1 it _ (c.in_err-write_at.ensures.torn rest.tells)

pub returns-in_err-write_durable-clause-any_moment : goal.returns-in_err-write_durable-clause-any_moment
returns-in_err-write_durable-clause-any_moment g c = λ before after rest new.
    let it = switch_of (g.D.Disk.state c.args.disk.now) c.args.spot.now c.args.next.now before c.args.area.now after c.other_place-other.result c.to_be_bytes-start.result c.turned_byte-turned.result rest new c.requires.next c.requires.small c.other_place-other.ensures c.to_be_bytes-start.ensures c.turned_byte-turned.ensures in
    let told_1 = still _ _ c.write_at.ensures.called.tells rest.tells in
    let s1 = (g.D.Disk.state c.write_at.new.self).story in
    let first = c.in_ok-write_at.ensures.written rest.tells in
    start_stopped it s1 first _ (⊎_elim (λ torn. inl (torn told_1)) (λ wrote. inr (wrote told_1)) c.in_err-write_durable.ensures.torn)

pub returns-in_err-write_durable-2-clause-any_moment : goal.returns-in_err-write_durable-2-clause-any_moment
returns-in_err-write_durable-2-clause-any_moment g c = λ before after rest new.
    let it = switch_of (g.D.Disk.state c.args.disk.now) c.args.spot.now c.args.next.now before c.args.area.now after c.other_place-other.result c.to_be_bytes-start.result c.turned_byte-turned.result rest new c.requires.next c.requires.small c.other_place-other.ensures c.to_be_bytes-start.ensures c.turned_byte-turned.ensures in
    let told_1 = still _ _ c.write_at.ensures.called.tells rest.tells in
    let told_3 = still _ _ c.write_durable.ensures.goes_on.tells told_1 in
    let s1 = (g.D.Disk.state c.write_at.new.self).story in
    let s3 = (g.D.Disk.state c.write_durable.new.disk).story in
    let first = c.in_ok-write_at.ensures.written rest.tells in
    let third = c.in_ok-write_durable.ensures.durable told_1 in
    turn_stopped it s1 first s3 third _ (⊎_elim (λ torn. inl (torn told_3)) (λ wrote. inr (wrote told_3)) c.in_err-write_durable-2.ensures.torn)

pub returns-in_err-cut-clause-any_moment : goal.returns-in_err-cut-clause-any_moment
returns-in_err-cut-clause-any_moment g c = λ before after rest new.
    let it = switch_of (g.D.Disk.state c.args.disk.now) c.args.spot.now c.args.next.now before c.args.area.now after c.other_place-other.result c.to_be_bytes-start.result c.turned_byte-turned.result rest new c.requires.next c.requires.small c.other_place-other.ensures c.to_be_bytes-start.ensures c.turned_byte-turned.ensures in
    let told_1 = still _ _ c.write_at.ensures.called.tells rest.tells in
    let told_3 = still _ _ c.write_durable.ensures.goes_on.tells told_1 in
    let told_5 = still _ _ c.write_durable-2.ensures.goes_on.tells told_3 in
    let s1 = (g.D.Disk.state c.write_at.new.self).story in
    let s3 = (g.D.Disk.state c.write_durable.new.disk).story in
    let s5 = (g.D.Disk.state c.write_durable-2.new.disk).story in
    let first = c.in_ok-write_at.ensures.written rest.tells in
    let third = c.in_ok-write_durable.ensures.durable told_1 in
    let fifth = c.in_ok-write_durable-2.ensures.durable told_3 in
    cut_failed it s1 first s3 third s5 fifth _ (c.in_err-cut.ensures.rests told_5)

pub returns-in_ok-cut-clause-any_moment : goal.returns-in_ok-cut-clause-any_moment
returns-in_ok-cut-clause-any_moment g c = λ before after rest new.
    let it = switch_of (g.D.Disk.state c.args.disk.now) c.args.spot.now c.args.next.now before c.args.area.now after c.other_place-other.result c.to_be_bytes-start.result c.turned_byte-turned.result rest new c.requires.next c.requires.small c.other_place-other.ensures c.to_be_bytes-start.ensures c.turned_byte-turned.ensures in
    let told_1 = still _ _ c.write_at.ensures.called.tells rest.tells in
    let told_3 = still _ _ c.write_durable.ensures.goes_on.tells told_1 in
    let told_5 = still _ _ c.write_durable-2.ensures.goes_on.tells told_3 in
    let s1 = (g.D.Disk.state c.write_at.new.self).story in
    let s3 = (g.D.Disk.state c.write_durable.new.disk).story in
    let s5 = (g.D.Disk.state c.write_durable-2.new.disk).story in
    let first = c.in_ok-write_at.ensures.written rest.tells in
    let third = c.in_ok-write_durable.ensures.durable told_1 in
    let fifth = c.in_ok-write_durable-2.ensures.durable told_3 in
    cut_moment it s1 first s3 third s5 fifth _ (c.in_ok-cut.ensures.cut told_5)

pub returns-in_ok-cut-clause-replaced : goal.returns-in_ok-cut-clause-replaced
returns-in_ok-cut-clause-replaced g c = λ before after rest new.
    let it = switch_of (g.D.Disk.state c.args.disk.now) c.args.spot.now c.args.next.now before c.args.area.now after c.other_place-other.result c.to_be_bytes-start.result c.turned_byte-turned.result rest new c.requires.next c.requires.small c.other_place-other.ensures c.to_be_bytes-start.ensures c.turned_byte-turned.ensures in
    let told_1 = still _ _ c.write_at.ensures.called.tells rest.tells in
    let told_3 = still _ _ c.write_durable.ensures.goes_on.tells told_1 in
    let told_5 = still _ _ c.write_durable-2.ensures.goes_on.tells told_3 in
    let s1 = (g.D.Disk.state c.write_at.new.self).story in
    let s3 = (g.D.Disk.state c.write_durable.new.disk).story in
    let s5 = (g.D.Disk.state c.write_durable-2.new.disk).story in
    let first = c.in_ok-write_at.ensures.written rest.tells in
    let third = c.in_ok-write_durable.ensures.durable told_1 in
    let fifth = c.in_ok-write_durable-2.ensures.durable told_3 in
    cut_rests it s1 first s3 third s5 fifth _ (c.in_ok-cut.ensures.cut told_5) (g.D.Disk.state c.cut.new.self) refl (still _ _ c.cut.ensures.called.tells told_5)

pub returns-else-next-eq25-clause-any_moment : goal.returns-else-next-eq25-clause-any_moment
returns-else-next-eq25-clause-any_moment g c = λ before after rest new.
    let it = switch_of (g.D.Disk.state c.args.disk.now) c.args.spot.now c.args.next.now before c.args.area.now after c.other_place-other.result c.to_be_bytes-start.result c.turned_byte-turned.result rest new c.requires.next c.requires.small c.other_place-other.ensures c.to_be_bytes-start.ensures c.turned_byte-turned.ensures in
    let told_1 = still _ _ c.write_at.ensures.called.tells rest.tells in
    let told_3 = still _ _ c.write_durable.ensures.goes_on.tells told_1 in
    let s1 = (g.D.Disk.state c.write_at.new.self).story in
    let s3 = (g.D.Disk.state c.write_durable.new.disk).story in
    let s5 = (g.D.Disk.state c.write_durable-2.new.disk).story in
    let first = c.in_ok-write_at.ensures.written rest.tells in
    let third = c.in_ok-write_durable.ensures.durable told_1 in
    let fifth = c.in_ok-write_durable-2.ensures.durable told_3 in
    turned_moment it s1 first s3 third s5 fifth

pub returns-else-next-eq25-clause-replaced : goal.returns-else-next-eq25-clause-replaced
returns-else-next-eq25-clause-replaced g c = λ before after rest new.
    let it = switch_of (g.D.Disk.state c.args.disk.now) c.args.spot.now c.args.next.now before c.args.area.now after c.other_place-other.result c.to_be_bytes-start.result c.turned_byte-turned.result rest new c.requires.next c.requires.small c.other_place-other.ensures c.to_be_bytes-start.ensures c.turned_byte-turned.ensures in
    let told_1 = still _ _ c.write_at.ensures.called.tells rest.tells in
    let told_3 = still _ _ c.write_durable.ensures.goes_on.tells told_1 in
    let told_5 = still _ _ c.write_durable-2.ensures.goes_on.tells told_3 in
    let s1 = (g.D.Disk.state c.write_at.new.self).story in
    let s3 = (g.D.Disk.state c.write_durable.new.disk).story in
    let s5 = (g.D.Disk.state c.write_durable-2.new.disk).story in
    let first = c.in_ok-write_at.ensures.written rest.tells in
    let third = c.in_ok-write_durable.ensures.durable told_1 in
    let fifth = c.in_ok-write_durable-2.ensures.durable told_3 in
    turned_rests it s1 first s3 third s5 fifth (g.D.Disk.state c.write_durable-2.new.disk) refl told_5

pub write_at-requires-clause-place : goal.write_at-requires-clause-place
write_at-requires-clause-place g c = λ told.
    let told_0 = told in
    let at_rest = c.requires.at_rest told_0 in
    let before = at_rest.0 in
    let after = at_rest.1 in
    let rest = at_rest.2 in
    let new = at_rest.3 in
    let it = switch_of (g.D.Disk.state c.args.disk.now) c.args.spot.now c.args.next.now before c.args.area.now after c.other_place-other.result c.to_be_bytes-start.result c.turned_byte-turned.result rest new c.requires.next c.requires.small c.other_place-other.ensures c.to_be_bytes-start.ensures c.turned_byte-turned.ensures in
    target_within it

pub write_durable-requires-clause-place : goal.write_durable-requires-clause-place
write_durable-requires-clause-place g c = λ told.
    let told_0 = still _ _ (sym c.write_at.ensures.called.tells) told in
    let at_rest = c.requires.at_rest told_0 in
    let before = at_rest.0 in
    let after = at_rest.1 in
    let rest = at_rest.2 in
    let new = at_rest.3 in
    let it = switch_of (g.D.Disk.state c.args.disk.now) c.args.spot.now c.args.next.now before c.args.area.now after c.other_place-other.result c.to_be_bytes-start.result c.turned_byte-turned.result rest new c.requires.next c.requires.small c.other_place-other.ensures c.to_be_bytes-start.ensures c.turned_byte-turned.ensures in
    start_place it _ (c.in_ok-write_at.ensures.written told_0)

pub write_durable-requires-2-clause-place : goal.write_durable-requires-2-clause-place
write_durable-requires-2-clause-place g c = λ told.
    let told_1 = still _ _ (sym c.write_durable.ensures.goes_on.tells) told in
    let told_0 = still _ _ (sym c.write_at.ensures.called.tells) told_1 in
    let at_rest = c.requires.at_rest told_0 in
    let before = at_rest.0 in
    let after = at_rest.1 in
    let rest = at_rest.2 in
    let new = at_rest.3 in
    let it = switch_of (g.D.Disk.state c.args.disk.now) c.args.spot.now c.args.next.now before c.args.area.now after c.other_place-other.result c.to_be_bytes-start.result c.turned_byte-turned.result rest new c.requires.next c.requires.small c.other_place-other.ensures c.to_be_bytes-start.ensures c.turned_byte-turned.ensures in
    switch_place it _ (c.in_ok-write_at.ensures.written told_0) _ (c.in_ok-write_durable.ensures.durable told_1)

pub cut-requires : goal.cut-requires
cut-requires g c = λ told.
    let told_3 = still _ _ (sym c.write_durable-2.ensures.goes_on.tells) told in
    let told_1 = still _ _ (sym c.write_durable.ensures.goes_on.tells) told_3 in
    let told_0 = still _ _ (sym c.write_at.ensures.called.tells) told_1 in
    let at_rest = c.requires.at_rest told_0 in
    let before = at_rest.0 in
    let after = at_rest.1 in
    let rest = at_rest.2 in
    let new = at_rest.3 in
    let it = switch_of (g.D.Disk.state c.args.disk.now) c.args.spot.now c.args.next.now before c.args.area.now after c.other_place-other.result c.to_be_bytes-start.result c.turned_byte-turned.result rest new c.requires.next c.requires.small c.other_place-other.ensures c.to_be_bytes-start.ensures c.turned_byte-turned.ensures in
    cut_place it _ (c.in_ok-write_at.ensures.written told_0) _ (c.in_ok-write_durable.ensures.durable told_1) _ (c.in_ok-write_durable-2.ensures.durable told_3)

pub returns-in_err-write_at-clause-left : goal.returns-in_err-write_at-clause-left
returns-in_err-write_at-clause-left g c = one_call _ _ 6 c.write_at.ensures.called.left (omega arith)

pub returns-in_err-write_durable-clause-left : goal.returns-in_err-write_durable-clause-left
returns-in_err-write_durable-clause-left g c = more_calls _ _ _ 1 2 6 (one_call _ _ 1 c.write_at.ensures.called.left (omega arith)) c.write_durable.ensures.left (omega arith)

pub returns-in_err-write_durable-2-clause-left : goal.returns-in_err-write_durable-2-clause-left
returns-in_err-write_durable-2-clause-left g c = more_calls _ _ _ 3 2 6 (more_calls _ _ _ 1 2 3 (one_call _ _ 1 c.write_at.ensures.called.left (omega arith)) c.write_durable.ensures.left (omega arith)) c.write_durable-2.ensures.left (omega arith)

pub returns-else-next-eq25-clause-left : goal.returns-else-next-eq25-clause-left
returns-else-next-eq25-clause-left g c = more_calls _ _ _ 3 2 6 (more_calls _ _ _ 1 2 3 (one_call _ _ 1 c.write_at.ensures.called.left (omega arith)) c.write_durable.ensures.left (omega arith)) c.write_durable-2.ensures.left (omega arith)

pub returns-in_err-cut-clause-left : goal.returns-in_err-cut-clause-left
returns-in_err-cut-clause-left g c = more_calls _ _ _ 5 1 6 (more_calls _ _ _ 3 2 5 (more_calls _ _ _ 1 2 3 (one_call _ _ 1 c.write_at.ensures.called.left (omega arith)) c.write_durable.ensures.left (omega arith)) c.write_durable-2.ensures.left (omega arith)) (one_call _ _ 1 c.cut.ensures.called.left (omega arith)) (omega arith)

pub returns-in_ok-cut-clause-left : goal.returns-in_ok-cut-clause-left
returns-in_ok-cut-clause-left g c = more_calls _ _ _ 5 1 6 (more_calls _ _ _ 3 2 5 (more_calls _ _ _ 1 2 3 (one_call _ _ 1 c.write_at.ensures.called.left (omega arith)) c.write_durable.ensures.left (omega arith)) c.write_durable-2.ensures.left (omega arith)) (one_call _ _ 1 c.cut.ensures.called.left (omega arith)) (omega arith)
