use Rattle.std.proofs.Common.{◌≡◌, ◌+◌, ◌<◌, ◌≤◌, length, ap, sym, ◌∙◌, subst, refl, Ok, Err}
use Rattle.std.proofs.lemmas.Result.{err_from_is_err_and}
use Rattle.site_vector.specs.Vector.{entry}
use Rattle.crdt_core.specs.Log.{end_of_time}
use Rattle.crdt_core.specs.Orders.{insert_by}
use Rattle.crdt_core.specs.Parts.{lists}
use Rattle.prepared_table.specs.Entries.{has_entry, entry_cmp}
use Rattle.partition_log.specs.Appends.{Appends}
use Rattle.partition_log.specs.Codec.{codec_of}
use Rattle.partition_log.specs.Gates.{gates_of}
use Rattle.partition_log.proofs.Unchanged.{refused_memory}
use Rattle.partition_core.proofs.Choices.{first_false, second_false}
use Rattle.partition_core.proofs.Leasing.{opened}
use Rattle.partition_core.proofs.PrepareCall.{prepares_by}
use Rattle.partition_core.proofs.Rooms.{prepared_room, prepared_home}
use Rattle.partition_core.proofs.Writing.{vote_records, vote_of, same_entry}
use Rattle.partition_core.proofs.partition.Partition.prepare_in.Goals as goal

pub returns-in_default-clause-appends : goal.returns-in_default-clause-appends
returns-in_default-clause-appends g c = refused_memory _ (codec_of g.C.Crdt.spells) g.D.Disk.state (gates_of c.args.log.now) c.requires.ready _

pub returns-in_default-share-clause-appends : goal.returns-in_default-share-clause-appends
returns-in_default-share-clause-appends g c = refused_memory _ (codec_of g.C.Crdt.spells) g.D.Disk.state (gates_of c.args.log.now) c.requires.ready _

pub invariant_of-self-in_err-prepare : goal.invariant_of-self-in_err-prepare
invariant_of-self-in_err-prepare g c =
    let i = c.self.invariant in
    let e = c.in-Ok.ensures in
    record {
      placed = i.placed;
      home = λ u k. i.home u (ap (λ l. has_entry l u) (sym e.pending) ∙ k);
      rooms = e.rooms;
      store_sites = e.sites ∙ i.store_sites;
      gossip_sites = i.gossip_sites;
      gossip_parts = i.gossip_parts;
    }

pub returns-in_err-prepare-clause-appends : goal.returns-in_err-prepare-clause-appends
returns-in_err-prepare-clause-appends g c =
    let p = err_from_is_err_and c.from_residual.result c.from_residual.ensures.1 in
    rw (p.1, p.2) (subst (λ l. Appends {T = Unit {0}} (codec_of g.C.Crdt.spells) g.D.Disk.state (Err c.in_err-prepare.field-0.0) (gates_of c.args.log.now) (gates_of c.prepare.new.self) l) (vote_records c.wants.result _ _ c.args.time c.args.tx c.args.lead c.args.s.now _ _ c.wants.ensures.value (ap (λ x. x.ceiling) c.self.view_is) c.in-Ok-share.ensures) c.in_err-prepare.ensures)

pub entry_of-requires : goal.entry_of-requires
entry_of-requires g c = (vote_of c.args.tx c.args.lead c.args.time c.args.s.now c.in-Ok-share.updates, refl)

pub invariant_of-self-2 : goal.invariant_of-self-2
invariant_of-self-2 g c =
    let i = c.self.invariant in
    let e = c.in-Ok.ensures in
    let vote = vote_of c.args.tx c.args.lead c.args.time c.args.s.now c.in-Ok-share.updates in
    let put : c.add.new.self.entries ≡ insert_by entry_cmp vote c.promise.new.prepared.entries = c.add.ensures.entries ∙ ap (λ y. insert_by entry_cmp y c.promise.new.prepared.entries) (same_entry vote c.entry_of.result c.entry_of.ensures) in
    let here = c.requires.place ∙ ap (λ x. x.id.site) (sym c.self.view_is) in
    let out = ap (λ l. has_entry l c.args.tx) e.pending ∙ ap (λ x. has_entry x.pending c.args.tx) c.self.view_is ∙ first_false _ _ c.requires.unknown in
    let unheld = ap (λ l. lists l c.args.tx) e.held ∙ ap (λ x. lists x.held c.args.tx) c.self.view_is ∙ second_false _ _ c.requires.unknown in
    let sum = e.more.0 ∙ ap (λ l. c.self.inside.promised + length l) (c.as_slice.ensures ∙ sym c.in-Ok-share.ensures) in
    record {
      placed = i.placed;
      home = prepared_home _ vote _ _ (λ u k. i.home u (ap (λ l. has_entry l u) (sym e.pending) ∙ k)) here put;
      rooms = prepared_room vote _ _ _ _ _ e.rooms out unheld put sum e.more.2 e.more.3;
      store_sites = e.sites ∙ i.store_sites;
      gossip_sites = i.gossip_sites;
      gossip_parts = i.gossip_parts;
    }

pub returns-clause-tables : goal.returns-clause-tables
returns-clause-tables g c =
    let e = c.in-Ok.ensures in
    let vote = vote_of c.args.tx c.args.lead c.args.time c.args.s.now c.in-Ok-share.updates in
    let put : c.add.new.self.entries ≡ insert_by entry_cmp vote c.promise.new.prepared.entries = c.add.ensures.entries ∙ ap (λ y. insert_by entry_cmp y c.promise.new.prepared.entries) (same_entry vote c.entry_of.result c.entry_of.ensures) in
    let here = c.requires.place ∙ ap (λ x. x.id.site) (sym c.self.view_is) in
    let is : c.args.time ≡ c.self.inside.clock.clock + 1 = c.requires.next ∙ ap (λ x. x.clock + 1) (sym c.self.view_is) in
    let reached : entry c.args.s.now c.self.inside.id.site ≤ c.self.inside.clock.clock = subst (λ x. entry c.args.s.now x.id.site ≤ x.clock) (sym c.self.view_is) c.requires.reached in
    let early : c.self.inside.clock.clock < end_of_time = subst (λ x. x.clock < end_of_time) (sym c.self.view_is) c.requires.early in
    opened _ _ _ _ _ _ c.self.view_is (prepares_by _ _ c.args.tx c.args.s.now c.args.lead c.args.updates.now c.in-Ok-share.updates c.args.time c.show.new.clock c.add.new.self.entries c.promise.new.store.parts c.in-Ok-share.ensures here reached early is c.show.ensures (put ∙ ap (λ l. insert_by entry_cmp vote l) e.pending) e.held)

pub returns-clause-appends : goal.returns-clause-appends
returns-clause-appends g c = subst (λ l. Appends {T = Unit {0}} (codec_of g.C.Crdt.spells) g.D.Disk.state (Ok tt) (gates_of c.args.log.now) (gates_of c.prepare.new.self) l) (vote_records c.wants.result _ _ c.args.time c.args.tx c.args.lead c.args.s.now _ _ c.wants.ensures.value (ap (λ x. x.ceiling) c.self.view_is) c.in-Ok-share.ensures) c.in_ok-prepare.ensures
