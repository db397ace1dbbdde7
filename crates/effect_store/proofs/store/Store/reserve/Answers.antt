use Rattle.std.proofs.Common.{refl}
use Rattle.effect_store.proofs.Holding.{store_same}
use Rattle.effect_store.proofs.Storing.{links_fit_in, links_fit_same, room_max, roomy_max}
use Rattle.effect_store.proofs.Between.{lists_in, lists_same, list_room_max}
use Rattle.effect_store.proofs.Keeping.{newest_in}
use Rattle.effect_store.proofs.store.Store.reserve.Goals as goal

pub invariant_of-self : goal.invariant_of-self
invariant_of-self g c = (
  store_same _ _ _ _ _ c.make_room.ensures.parts c.make_room.ensures.ids c.self.invariant.0,
  links_fit_in _ _ _ c.self.invariant.1 c.make_room.ensures.parts,
  c.make_room.ensures.roomy _ c.self.invariant.2,
  c.self.invariant.3,
  lists_in _ _ _ c.self.inside.lists c.self.invariant.4 c.make_room.ensures.parts,
  c.self.invariant.5,
  newest_in _ _ _ _ _ _ _ refl c.make_room.ensures.parts c.self.invariant.6,
  newest_in _ _ _ _ _ _ _ refl c.make_room.ensures.parts c.self.invariant.7,
  c.self.invariant.8,
  c.self.invariant.9,
)

pub invariant_of-self-in_err-make_room-2 : goal.invariant_of-self-in_err-make_room-2
invariant_of-self-in_err-make_room-2 g c = (
  store_same _ _ _ _ _ c.make_room.ensures.parts c.make_room.ensures.ids c.self.invariant.0,
  links_fit_in _ _ _ c.self.invariant.1 c.make_room.ensures.parts,
  c.make_room.ensures.roomy _ c.self.invariant.2,
  c.self.invariant.3,
  lists_same _ _ _ c.self.inside.lists c.make_room-2.new.lists c.self.invariant.4 c.make_room.ensures.parts c.make_room-2.ensures.same,
  c.make_room-2.ensures.roomy _ c.self.invariant.5,
  newest_in _ _ _ _ _ _ _ refl c.make_room.ensures.parts c.self.invariant.6,
  newest_in _ _ _ _ _ _ _ refl c.make_room.ensures.parts c.self.invariant.7,
  c.self.invariant.8,
  c.self.invariant.9,
)

pub invariant_of-self-in_err-make_room-3 : goal.invariant_of-self-in_err-make_room-3
invariant_of-self-in_err-make_room-3 g c = (
  store_same _ _ _ _ _ c.make_room.ensures.parts c.make_room.ensures.ids c.self.invariant.0,
  links_fit_same _ _ _ _ c.make_room.ensures.parts c.make_room-3.ensures.same c.self.invariant.1,
  room_max _ _ _ _ _ _ c.max-self-inside.ensures (c.make_room.ensures.roomy _ c.self.invariant.2) c.in_ok-make_room.ensures.ok,
  c.make_room-3.ensures.roomy _ c.self.invariant.3,
  lists_same _ _ _ c.self.inside.lists c.make_room-2.new.lists c.self.invariant.4 c.make_room.ensures.parts c.make_room-2.ensures.same,
  list_room_max _ _ _ _ c.make_room-2.new.lists c.max-self-inside.ensures (c.make_room-2.ensures.roomy _ c.self.invariant.5) c.in_ok-make_room-2.ensures.ok,
  newest_in _ _ _ _ _ _ _ refl c.make_room.ensures.parts c.self.invariant.6,
  newest_in _ _ _ _ _ _ _ refl c.make_room.ensures.parts c.self.invariant.7,
  c.self.invariant.8,
  c.self.invariant.9,
)

pub invariant_of-self-2 : goal.invariant_of-self-2
invariant_of-self-2 g c = (
  store_same _ _ _ _ _ c.make_room.ensures.parts c.make_room.ensures.ids c.self.invariant.0,
  links_fit_same _ _ _ _ c.make_room.ensures.parts c.make_room-3.ensures.same c.self.invariant.1,
  room_max _ _ _ _ _ _ c.max-self-inside.ensures (c.make_room.ensures.roomy _ c.self.invariant.2) c.in_ok-make_room.ensures.ok,
  roomy_max c.make_room-3.new.self _ _ _ c.max-self-inside-2.ensures (c.make_room-3.ensures.roomy _ c.self.invariant.3) c.in_ok-make_room-3.ensures.ok,
  lists_same _ _ _ c.self.inside.lists c.make_room-2.new.lists c.self.invariant.4 c.make_room.ensures.parts c.make_room-2.ensures.same,
  list_room_max _ _ _ _ c.make_room-2.new.lists c.max-self-inside.ensures (c.make_room-2.ensures.roomy _ c.self.invariant.5) c.in_ok-make_room-2.ensures.ok,
  newest_in _ _ _ _ _ _ _ refl c.make_room.ensures.parts c.self.invariant.6,
  newest_in _ _ _ _ _ _ _ refl c.make_room.ensures.parts c.self.invariant.7,
  c.self.invariant.8,
  c.self.invariant.9,
)
