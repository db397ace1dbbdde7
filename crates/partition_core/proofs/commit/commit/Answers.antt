use Rattle.partition_core.proofs.Rooms.{committed_room_of}
use Rattle.partition_core.proofs.commit.commit.Goals as goal

pub returns-in-Some-clause-rooms : goal.returns-in-Some-clause-rooms
returns-in-Some-clause-rooms g c = let m = c.in-Some.ensures in committed_room_of c.in-Some.entry _ _ m.1 c.args.tx _ _ _ _ c.args.c.now m.0 c.requires.rooms m.2 c.insert.ensures.parts c.insert.ensures.room c.insert.ensures.update_room
