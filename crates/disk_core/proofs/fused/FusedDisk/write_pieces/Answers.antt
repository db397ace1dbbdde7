use Rattle.std.proofs.Common.{◌++◌, take, length, arith, length-take}
use Rattle.disk_core.proofs.Torn.{front_tears}
use Rattle.disk_core.proofs.fused.FusedDisk.write_pieces.Goals as goal

pub returns-in-Fires-clause-torn : goal.returns-in-Fires-clause-torn
returns-in-Fires-clause-torn g c =
    let bytes = (c.args.front.now ++ c.args.middle.now ++ c.args.back.now) in
    front_tears c.args.at (length bytes) (take c.args.self.now.keep bytes) (g.D.Disk.state c.args.self.now.disk) (g.D.Disk.state c.write_front_of_pieces.new.disk) c.requires.place (simp length-take (omega arith)) c.write_front_of_pieces.ensures.front
