use Rattle.std.proofs.Common.{◌≡◌, List, [], sym, subst, rules}
use Rattle.site_partitions.specs.Reaches.{types_of}
use Rattle.partition_lock.specs.declared.entry.Entry.{Entry}
use Rattle.partition_lock.specs.Desks.{IsWriter}
use Rattle.partition_lock.proofs.Opening.{writer, stands}
use Rattle.partition_lock.proofs.desk.Desk.new.Goals as goal

pub invariant_of-result : goal.invariant_of-result
invariant_of-result g c =
    let types = types_of g.C.Crdt.laws g.C.Crdt.spells g.D.Disk.state in
    let r = c.requires in
    let none : c.new.result.items ≡ [] = search rules in
    (r.table, r.word.0, r.word.1, subst (λ (xs : List Entry). IsWriter g.J.Naming.sites g.J.Naming.parts c.args.id 0 xs c.args.seat.me) (sym none) (writer types g.J.Naming.sites g.J.Naming.parts c.args.id c.args.word c.args.seat.me r.few.0 r.few.1 r.place r.word.0 r.writer), stands types g.J.Naming.sites g.J.Naming.parts c.args.id c.args.word c.args.seat.me c.args.partition r.writer r.new)
