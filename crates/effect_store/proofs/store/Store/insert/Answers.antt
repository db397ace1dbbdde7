use Rattle.std.proofs.Common.{◌≡◌, ◌+◌, ◌++◌, ◌∷◌, [], ◌<◌, List, length, sym, ap, ◌∙◌, arith}
use Rattle.std.specs.HashMap.{spare}
use Rattle.crdt_core.specs.declared.record.Part.{Part}
use Rattle.effect_store.specs.Arranged.{arranged}
use Rattle.effect_store.specs.Spots.{earlier}
use Rattle.effect_store.specs.Stored.{Stored}
use Rattle.effect_store.proofs.Holding.{when_ok, store_grown, apart}
use Rattle.effect_store.proofs.Linking.{roomy_less}
use Rattle.effect_store.proofs.Keeping.{newest_within, newest_after}
use Rattle.effect_store.proofs.Between.{new_tx, lists_in, room_is}
use Rattle.effect_store.proofs.Storing.{get_last, view_grown, linked_before, pushed_is, links_fit_of, room_after}
use Rattle.effect_store.proofs.store.Store.insert.Goals as goal

pub forget-requires-clause-within : goal.forget-requires-clause-within
forget-requires-clause-within g c = λ i n e. (newest_within _ _ _ _ _ c.self.invariant.1 _ c.self.invariant.6 i n e).0

pub forget-requires-clause-within_older : goal.forget-requires-clause-within_older
forget-requires-clause-within_older g c = λ i n e. (newest_within _ _ _ _ _ c.self.invariant.1 _ c.self.invariant.7 i n e).0

pub list_part-requires-clause-all : goal.list_part-requires-clause-all
list_part-requires-clause-all g c = lists_in _ _ _ c.self.inside.lists c.self.invariant.4 c.as_slice-2.ensures.value

pub list_part-requires-clause-fresh : goal.list_part-requires-clause-fresh
list_part-requires-clause-fresh g c = new_tx _ _ _ c.self.invariant.0 _ _ _ (ap (λ (h : Stored g.row.C-Effect.Denot). h.parts) c.self.view_is) c.requires.fresh c.as_slice-2.ensures.value

pub link_part-requires-clause-linked : goal.link_part-requires-clause-linked
link_part-requires-clause-linked g c =
    linked_before _ _ _ c.self.inside.links _ c.self.invariant.1.linked (c.as_slice-3.ensures.value ∙ c.push_reserved.ensures.items) (omega arith)

pub link_part-requires-clause-apart : goal.link_part-requires-clause-apart
link_part-requires-clause-apart g c =
    let room : c.self.inside.room ≡ c.args.self.now.room = ap (λ (h : Stored g.row.C-Effect.Denot). h.room) c.self.view_is in
    let parts : arranged earlier c.self.inside.parts.items ≡ c.args.self.now.parts = ap (λ (h : Stored g.row.C-Effect.Denot). h.parts) c.self.view_is in
    let sites : c.self.inside.sites ≡ c.args.self.now.sites = ap (λ (h : Stored g.row.C-Effect.Denot). h.sites) c.self.view_is in
    let free : 0 < spare c.self.inside.ids = omega (arith, c.self.invariant.2.of_ids, c.requires.room) in
    let u = (when_ok _ _ (c.insert-room_was_reserved.ensures.succeeds free) c.insert-room_was_reserved.ensures.updates).0 in
    apart _ _ _ (store_grown _ _ _ c.self.invariant.0 c.as_slice-3.result.now _ c.args.part _ c.len-place.result (c.as_slice-3.ensures.value ∙ c.push_reserved.ensures.items) (omega arith) parts c.requires.fresh (c.requires.width ∙ sym sites) u)

pub link_part-requires-clause-room : goal.link_part-requires-clause-room
link_part-requires-clause-room g c = λ p e.
    (let updates : c.self.inside.update_room ≡ c.args.self.now.update_room = ap (λ (h : Stored g.row.C-Effect.Denot). h.update_room) c.self.view_is in
    let same : c.args.part ≡ p = pushed_is c.self.inside.parts.items c.as_slice-3.result.now c.args.part p c.len-place.result (c.as_slice-3.ensures.value ∙ c.push_reserved.ensures.items) (omega arith) e in
    let len : length c.args.part.updates ≡ length p.updates = ap (λ (q : Part g.row.C-Effect.Denot). length q.updates) same in
    roomy_less c.self.inside.links _ c.self.inside.update_room (omega (arith, c.requires.update_room)) c.self.invariant.3)

pub invariant_of-self : goal.invariant_of-self
invariant_of-self g c =
    let room : c.self.inside.room ≡ c.args.self.now.room = ap (λ (h : Stored g.row.C-Effect.Denot). h.room) c.self.view_is in
    let updates : c.self.inside.update_room ≡ c.args.self.now.update_room = ap (λ (h : Stored g.row.C-Effect.Denot). h.update_room) c.self.view_is in
    let parts : arranged earlier c.self.inside.parts.items ≡ c.args.self.now.parts = ap (λ (h : Stored g.row.C-Effect.Denot). h.parts) c.self.view_is in
    let sites : c.self.inside.sites ≡ c.args.self.now.sites = ap (λ (h : Stored g.row.C-Effect.Denot). h.sites) c.self.view_is in
    let free : 0 < spare c.self.inside.ids = omega (arith, c.self.invariant.2.of_ids, c.requires.room) in
    let u = (when_ok _ _ (c.insert-room_was_reserved.ensures.succeeds free) c.insert-room_was_reserved.ensures.updates).0 in
    let grown = c.as_slice-3.ensures.value ∙ c.push_reserved.ensures.items in
    let there = (get_last c.self.inside.parts.items c.as_slice-3.result.now c.args.part c.len-place.result grown (omega arith)) in
    let len : length c.as_slice-updates.result.now ≡ length c.args.part.updates = ap (λ (l : List _). length l) c.as_slice-updates.ensures in (
      store_grown _ _ _ c.self.invariant.0 c.push_reserved.new.self.items _ c.args.part _ c.len-place.result c.push_reserved.ensures.items (omega arith) parts c.requires.fresh (c.requires.width ∙ sym sites) u,
      links_fit_of c.as_slice-3.result.now _ c.link_part.new.links 0 c.link_part.ensures.linked c.as_slice-3.ensures.value (c.link_part.ensures.room 0 c.args.part there (roomy_less c.self.inside.links (0 + length c.args.part.updates) c.self.inside.update_room (omega (arith, c.requires.update_room)) c.self.invariant.3)),
      record { small = omega (arith, c.self.invariant.2.small, c.requires.room); of_parts = omega (arith, c.self.invariant.2.of_parts, c.requires.room); of_ids = omega (arith, c.self.invariant.2.of_ids, c.insert-room_was_reserved.ensures.spare) },
      room_after c.self.inside.links c.link_part.new.links c.self.inside.update_room _ (length c.args.part.updates) (λ n. c.link_part.ensures.room n c.args.part there) c.self.invariant.3 (omega (arith, c.requires.update_room)),
      lists_in _ _ _ c.list_part.new.lists c.list_part.ensures.all (c.push_reserved.ensures.items ∙ ap (λ l. l ++ c.args.part ∷ []) (sym c.as_slice-2.ensures.value)),
      c.list_part.ensures.room _ (room_is _ c.self.inside.room _ c.self.inside.lists (omega (arith, c.requires.room)) c.self.invariant.5),
      newest_after _ _ _ _ _ _ _ _ _ c.self.invariant.6 c.forget.ensures.left c.forget.ensures.clear c.as_slice.ensures.value c.push_reserved.ensures.items,
      newest_after _ _ _ _ _ _ _ _ _ c.self.invariant.7 c.forget.ensures.left_older c.forget.ensures.clear_older c.as_slice.ensures.value c.push_reserved.ensures.items,
      c.self.invariant.8,
      c.self.invariant.9,
    )

pub returns-clause-parts : goal.returns-clause-parts
returns-clause-parts g c = view_grown _ _ _ _ c.push_reserved.ensures.items (ap (λ (h : Stored g.row.C-Effect.Denot). h.parts) c.self.view_is)
