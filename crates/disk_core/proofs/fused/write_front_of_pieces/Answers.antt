use Rattle.std.proofs.Common.{◌≡◌, inl, inr, ℕ, List, ◌++◌, length, take, subst, Result, Ok, Err, OnOk, OnErr}
use Rattle.disk_core.specs.declared.disk.Failed.{Failed}
use Rattle.disk_core.specs.States.{DiskState, Called, Writes, MayTear}
use Rattle.disk_core.specs.Burns.{WritesOrFails}
use Rattle.disk_core.proofs.Torn.{front_of_three}
use Rattle.disk_core.proofs.fused.write_front_of_pieces.Goals as goal

-- whatever the disk answers
either_way : (result : Result (Unit {0}) Failed) (at : ℕ) (bytes : List ℕ) (old new : DiskState) → OnOk result (Writes at bytes old new) → OnErr result (MayTear at (length bytes) old new) → Called result old new → WritesOrFails at bytes old new
either_way (Ok x) at bytes old new wrote torn called = inl wrote
either_way (Err e) at bytes old new wrote torn called = inr (torn, called.failed.rose)

pub returns-clause-front : goal.returns-clause-front
returns-clause-front g c =
    let written = take c.min-of_front.result c.args.front.now ++ take c.min-of_middle.result c.args.middle.now ++ take c.min-of_back.result c.args.back.now in
    let same : written ≡ take c.args.keep (c.args.front.now ++ c.args.middle.now ++ c.args.back.now) =
    front_of_three c.args.keep c.min-of_front.result c.min-of_middle.result c.min-of_back.result c.args.front.now c.args.middle.now c.args.back.now c.min-of_front.ensures c.min-of_middle.ensures c.min-of_back.ensures in
    let old = g.D.Disk.state c.args.disk.now in
    let new = g.D.Disk.state c.write_pieces.new.self in
    subst (λ (l : List ℕ). WritesOrFails c.args.at l old new) same (either_way c.write_pieces.result c.args.at written old new c.write_pieces.ensures.written c.write_pieces.ensures.torn c.write_pieces.ensures.called)
