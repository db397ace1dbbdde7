use Rattle.std.proofs.Common.{◌≡◌, ◌+◌, ◌<◌, ◌≤◌, length, ap, sym, ◌∙◌, refl, subst, arith, Ok, Err}
use Rattle.std.proofs.lemmas.Result.{err_from_is_err_and}
use Rattle.site_vector.specs.Vector.{entry}
use Rattle.crdt_core.specs.Parts.{above}
use Rattle.partition_log.specs.Appends.{Appends}
use Rattle.partition_log.specs.Codec.{codec_of}
use Rattle.partition_log.specs.Gates.{gates_of}
use Rattle.partition_log.proofs.Unchanged.{refused_memory}
use Rattle.partition_core.specs.Messages.{AreWideParts, inserted, updates_in}
use Rattle.partition_core.proofs.Leasing.{opened}
use Rattle.partition_core.proofs.Vectors.{width_replaced}
use Rattle.partition_core.proofs.TakeCall.{unheld_here, can_put, taken_room, takes}
use Rattle.partition_core.proofs.Fitted.{cut_fits}
use Rattle.partition_core.proofs.Writing.{cut_batch}
use Rattle.partition_core.proofs.partition.Partition.take_in.Goals as goal

pub returns-in_default-clause-appends : goal.returns-in_default-clause-appends
returns-in_default-clause-appends g c = refused_memory _ (codec_of g.C.Crdt.spells) g.D.Disk.state (gates_of c.args.log.now) c.requires.ready _

pub returns-in_default-make_room-clause-appends : goal.returns-in_default-make_room-clause-appends
returns-in_default-make_room-clause-appends g c = refused_memory _ (codec_of g.C.Crdt.spells) g.D.Disk.state (gates_of c.args.log.now) c.requires.ready _

pub keep_batch-requires-clause-fit : goal.keep_batch-requires-clause-fit
keep_batch-requires-clause-fit g c = cut_fits g.C.Crdt.has g.C.Crdt.is_of g.C.Crdt.can_put c.args.message.now c.in-Ok.news c.get-have.result c.in-Ok.ensures c.requires.fit

pub returns-in_err-keep_batch-clause-appends : goal.returns-in_err-keep_batch-clause-appends
returns-in_err-keep_batch-clause-appends g c =
    let p = err_from_is_err_and c.from_residual.result c.from_residual.ensures.1 in
    rw (p.1, p.2) (subst (λ l. Appends {T = Unit {0}} (codec_of g.C.Crdt.spells) g.D.Disk.state (Err c.in_err-keep_batch.field-0.0) (gates_of c.args.log.now) (gates_of c.keep_batch.new.log) l) (cut_batch c.args.message.now c.in-Ok.news c.get-have.result _ c.in-Ok.ensures (c.get-have.ensures ∙ ap (λ x. entry x.bounds c.args.message.now.from) c.self.view_is)) c.in_err-keep_batch.ensures)

pub put_all-requires : goal.put_all-requires
put_all-requires g c =
    let m = c.args.message.now in
    let news = c.into_vec.result.items in
    let made = c.in-Ok-make_room.ensures in
    let brought : news ≡ above m.from c.get-have.result m.parts = c.into_vec.ensures ∙ ap (λ x. x.parts) c.in-Ok.ensures in
    let wide : AreWideParts c.self.inside.sites m.parts = subst (λ n. AreWideParts n m.parts) (ap (λ x. x.sites) (sym c.self.view_is)) c.requires.wide in
    let room : length c.entries-pending.result.now + length news ≤ c.make_room.new.store.room = let a = made.room_reached in let b = ap length (c.as_slice-parts.ensures ∙ sym c.into_vec.ensures) in omega arith in
    let update_room : c.self.inside.promised + updates_in news ≤ c.make_room.new.store.update_room = let a = made.update_room_reached in let b = ap updates_in (c.as_slice-parts.ensures ∙ sym c.into_vec.ensures) in omega arith in
    can_put m.parts news c.self.inside.sites m.from c.get-have.result _ _ c.self.inside.store c.make_room.new.store brought c.self.invariant.store_sites c.requires.apart wide (unheld_here _ _ m c.get-have.result c.self.view_is c.get-have.ensures c.requires.not_held) made.sites made.held room update_room

pub invariant_of-self-2 : goal.invariant_of-self-2
invariant_of-self-2 g c =
    let m = c.args.message.now in
    let i = c.self.invariant in
    let news = c.into_vec.result.items in
    let made = c.in-Ok-make_room.ensures in
    let put = c.put_all.ensures in
    let brought : news ≡ above m.from c.get-have.result m.parts = c.into_vec.ensures ∙ ap (λ x. x.parts) c.in-Ok.ensures in
    let room : length c.self.inside.prepared.entries + length news ≤ c.make_room.new.store.room = let a = made.room_reached in let b = ap length (c.as_slice-parts.ensures ∙ sym c.into_vec.ensures) in let d = ap length c.entries-pending.ensures.value in omega arith in
    let update_room : c.self.inside.promised + updates_in news ≤ c.make_room.new.store.update_room = let a = made.update_room_reached in let b = ap updates_in (c.as_slice-parts.ensures ∙ sym c.into_vec.ensures) in omega arith in
    record {
      placed = record {
        place = i.placed.place;
        most_sites = i.placed.most_sites;
        most_parts = i.placed.most_parts;
        wide_bounds = ap length c.with-self-inside.ensures ∙ width_replaced c.self.inside.bounds m.from m.hi ∙ i.placed.wide_bounds;
        wide_sent = i.placed.wide_sent;
      };
      home = i.home;
      rooms = taken_room c.self.inside.prepared.entries c.self.inside.id.site c.self.inside.promised m.from c.get-have.result m.parts news c.self.inside.store c.make_room.new.store c.put_all.new.store i.rooms i.home (λ u k e. c.requires.away u k (e ∙ ap (λ x. x.id.site) c.self.view_is)) brought made.held room update_room put.parts put.room put.update_room;
      store_sites = put.sites ∙ made.sites ∙ i.store_sites;
      gossip_sites = i.gossip_sites;
      gossip_parts = i.gossip_parts;
    }

pub returns-clause-tables : goal.returns-clause-tables
returns-clause-tables g c = λ number.
    let m = c.args.message.now in
    let news = c.into_vec.result.items in
    let brought : news ≡ above m.from c.get-have.result m.parts = c.into_vec.ensures ∙ ap (λ x. x.parts) c.in-Ok.ensures in
    let have : c.get-have.result ≡ entry c.args.self.now.bounds m.from = c.get-have.ensures ∙ ap (λ x. entry x.bounds m.from) c.self.view_is in
    let low : m.lo ≤ c.get-have.result = let a = c.requires.low in omega (arith, have, a) in
    let high : c.get-have.result < m.hi = let a = c.requires.high in omega (arith, have, a) in
    let put = c.put_all.ensures.parts ∙ ap (λ l. inserted news l) c.in-Ok-make_room.ensures.held in
    opened _ _ _ _ _ _ c.self.view_is (takes _ _ number m c.get-have.result news c.put_all.new.store.parts c.with-self-inside.result c.get-have.ensures low high brought put c.with-self-inside.ensures c.requires.apart (λ u k e. c.requires.away u k (e ∙ ap (λ x. x.id.site) c.self.view_is)) (unheld_here _ _ m _ c.self.view_is refl c.requires.not_held))

pub returns-clause-appends : goal.returns-clause-appends
returns-clause-appends g c = subst (λ l. Appends {T = Unit {0}} (codec_of g.C.Crdt.spells) g.D.Disk.state (Ok tt) (gates_of c.args.log.now) (gates_of c.keep_batch.new.log) l) (cut_batch c.args.message.now c.in-Ok.news c.get-have.result _ c.in-Ok.ensures (c.get-have.ensures ∙ ap (λ x. entry x.bounds c.args.message.now.from) c.self.view_is)) c.in_ok-keep_batch.ensures
