use Rattle.std.proofs.Common.{◌≡◌, ◌≤◌, ◌+◌, ◌*◌, vec_len, vec_capacity, length, sym, ap, ◌∙◌, subst, rules, arith}
use Rattle.std.proofs.lemmas.Grind.{common_steps}
use Rattle.world_model.specs.rules.Partition.{new_part}
use Rattle.site_partitions.specs.Reaches.{types_of, StandsAt}
use Rattle.partition_lock.specs.Openings.{place_at, unused, words_below}
use Rattle.partition_lock.proofs.Opening.{whole_front, one_less_front, new_at}
use Rattle.partition_lock.proofs.seats.seat_all.Goals as goal

pub loop-partition-init : goal.loop-partition-init
loop-partition-init g c =
    let size : vec_len c.args.partitions ≡ c.args.sites * c.args.parts = omega (arith, c.args.partitions.ok.0, c.requires.new.size) in
    (whole_front c.args.partitions.items, c.requires.table, c.requires.writer ∙ ap (λ n. unused (words_below n)) (sym size), omega (arith, size), omega (arith, size, c.requires.room))

pub next_desk-desk-requires-clause-new : goal.next_desk-desk-requires-clause-new
next_desk-desk-requires-clause-new g c =
    let types = types_of g.C.Crdt.laws g.C.Crdt.spells g.D.Disk.state in
    let len : c.len-word.result ≡ length c.pop.new.self.items = omega (arith, c.len-word.ensures, c.pop.new.self.ok.0) in
    subst (λ n. StandsAt types c.args.sites c.args.parts (place_at c.args.parts n) c.in-Some.partition (new_part c.args.sites c.args.parts)) (sym len) (new_at types c.args.sites c.args.parts c.args.partitions.items c.loop-partition.partitions.items c.pop.new.self.items c.in-Some.partition c.requires.few.1 c.requires.new c.loop-partition.invariant.0 c.in-Some.ensures.items)

pub loop-partition-preserved : goal.loop-partition-preserved
loop-partition-preserved g c =
    let i = c.loop-partition.invariant in
    let popped : vec_len c.pop.new.self + 1 ≡ vec_len c.loop-partition.partitions = search rules in
    let pushed : vec_len c.push.new.self ≡ vec_len c.loop-partition.desks + 1 = grind (rules, arith, common_steps) in
    let len : c.len-word.result ≡ vec_len c.pop.new.self = search rules in
    let kept : vec_capacity c.loop-partition.desks ≤ vec_capacity c.push.new.self = search rules in (
      one_less_front c.args.partitions.items c.loop-partition.partitions.items c.pop.new.self.items c.in-Some.partition i.0 c.in-Some.ensures.items,
      c.next_desk-desk.ensures.same ∙ i.1,
      c.next_desk-desk.ensures.writer ∙ ap (λ n. unused (words_below n)) len,
      omega (arith, i.3, popped, pushed),
      omega (arith, i.4, popped, pushed, kept),
    )
