use Rattle.std.proofs.Common.{◌+◌, ◌≤◌, length, ap, ◌∙◌, refl, arith}
use Rattle.std.proofs.lemmas.List.{length-replicate}
use Rattle.partition_core.specs.Messages.{inserted, updates_in}
use Rattle.partition_core.proofs.Recovering.{ceiling_ends, recovered_home, recovered_room, recovered_stands}
use Rattle.partition_core.proofs.partition.Partition.recovered.Goals as goal

pub new-requires-clause-most : goal.new-requires-clause-most
new-requires-clause-most g c = let h = c.requires.told.1 in let a = h.ceiling in let b = ceiling_ends c.args.sites c.args.parts c.args.id c.requires.told.0 h.fits in omega (arith, a, b)

pub invariant_of-result : goal.invariant_of-result
invariant_of-result g c =
    let log = c.requires.told.0 in
    let h = c.requires.told.1 in
    let table = c.in_ok-prepared.prepared.entries in
    let promised = c.in_ok-prepared.promised in
    let filled = c.in_ok-prepared.ensures in
    let made = c.in_ok-make_room.ensures in
    let committed = c.into_vec-committed.result.items in
    let none = made.held ∙ c.new-store.ensures.empty in
    let enough : length c.entries-pending.result.now + length committed ≤ c.make_room.new.store.room = let a = made.room_reached in let b = ap length c.as_slice.ensures.value in omega (arith, a, b) in
    let enough_updates : promised + updates_in committed ≤ c.make_room.new.store.update_room = let a = made.update_room_reached in let b = ap updates_in c.as_slice.ensures.value in omega (arith, a, b) in
    record {
      placed = record {
        place = record { least_site = c.requires.least_site; most_site = c.requires.most_site; least_part = c.requires.least_part; most_part = c.requires.most_part };
        most_sites = c.requires.most_sites;
        most_parts = c.requires.most_parts;
        wide_bounds = h.bounds.width;
        wide_sent = ap length c.zero.ensures ∙ length-replicate c.args.sites 0;
      };
      home = recovered_home c.args.sites c.args.parts c.args.id log c.args.told h table promised filled;
      rooms = recovered_room c.args.sites c.args.parts c.args.id log c.args.told h table promised filled committed c.make_room.new.store c.put_all.new.store (length c.entries-pending.result.now) c.into_vec-committed.ensures (ap length c.entries-pending.ensures.value) c.put_all.ensures.parts none c.put_all.ensures.room c.put_all.ensures.update_room enough enough_updates;
      store_sites = c.put_all.ensures.sites ∙ made.sites ∙ c.new-store.ensures.sites;
      gossip_sites = ap (λ m. m.sites) c.new-2.ensures.value;
      gossip_parts = ap (λ m. m.parts) c.new-2.ensures.value;
    }

pub returns-clause-stands : goal.returns-clause-stands
returns-clause-stands g c = λ log h rises.
    let made = c.in_ok-make_room.ensures in
    let held = c.put_all.ensures.parts ∙ ap (λ l. inserted l c.make_room.new.store.parts) c.into_vec-committed.ensures ∙ ap (λ l. inserted c.args.told.committed l) (made.held ∙ c.new-store.ensures.empty) in
    recovered_stands c.args.sites c.args.parts c.args.id log c.args.told h c.in_ok-prepared.prepared.entries c.in_ok-prepared.promised c.in_ok-prepared.ensures _ refl (ap (λ k. k.clock) c.new.ensures.value) (ap (λ k. k.ceiling) c.new.ensures.value) refl held refl (ap (λ m. m.heard) c.new-2.ensures.value) c.zero.ensures rises
