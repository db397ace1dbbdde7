use Rattle.std.proofs.Common.{◌≡◌, ◌∙◌, ◌+◌, true, false, drop, get_or, ap, sym, subst, arith}
use Rattle.std.specs.Prelude.{not}
use Rattle.std.proofs.lemmas.List.{drop_more, drop_all}
use Rattle.world_model.specs.lines.Places.{IsPlace}
use Rattle.site_partitions.specs.Reaches.{types_of}
use Rattle.site_partitions.specs.declared.fates.Waiting.{Waiting}
use Rattle.site_partitions.specs.Fates.{AreWaiting, OfState}
use Rattle.site_partitions.specs.Held.{IsDownAt}
use Rattle.cluster.specs.Fates.{Settles}
use Rattle.cluster.specs.Live.{LiveState}
use Rattle.cluster.proofs.Applying.{map_ok}
use Rattle.cluster.proofs.Delivering.{place_of_part}
use Rattle.cluster.proofs.Settling.{IsUnderWay, at_start, may_settle, at_next, at_stop, at_end, settle_nowhere, settle_down}
use Rattle.cluster.proofs.live.Live.settle.Goals as goal

pub returns-then-not-has_part : goal.returns-then-not-has_part
returns-then-not-has_part g c = map_ok c.only.result (λ steps is. settle_nowhere (types_of g.C.Crdt.laws g.C.Crdt.spells g.D.Disk.state) c.args.self.now c.args.part steps.items is (sym c.has_part.ensures ∙ c.if-not-has_part.true)) c.only.ensures

pub is_down_at-requires : goal.is_down_at-requires
is_down_at-requires g c = subst (λ (x : LiveState g.row.C-Effect.Denot _). IsPlace x.sites.sites x.sites.parts c.args.part) (sym ((λ i. record { sites = (c.self-inside.view_is i).sites; sessions = (c.self-inside.view_is i).sessions.entries }) ∙ c.self.view_is)) (place_of_part c.args.self.now.sites c.args.part (sym c.has_part.ensures ∙ c.if-not-has_part.false))

pub returns-then-is_down_at : goal.returns-then-is_down_at
returns-then-is_down_at g c = map_ok c.only-then-is_down_at.result (λ steps is. settle_down (types_of g.C.Crdt.laws g.C.Crdt.spells g.D.Disk.state) c.args.self.now c.args.part steps.items is (sym c.has_part.ensures ∙ c.if-not-has_part.false)
    (subst (λ (x : LiveState g.row.C-Effect.Denot _). OfState (types_of g.C.Crdt.laws g.C.Crdt.spells g.D.Disk.state) x.sites c.args.part (λ q. q.up ≡ false)) ((λ i. record { sites = (c.self-inside.view_is i).sites; sessions = (c.self-inside.view_is i).sessions.entries }) ∙ c.self.view_is) (λ run r. c.is_down_at.ensures.up run r ∙ ap not c.if-is_down_at.true))) c.only-then-is_down_at.ensures

pub waiting_at-requires : goal.waiting_at-requires
waiting_at-requires g c = subst (λ (x : LiveState g.row.C-Effect.Denot _). IsPlace x.sites.sites x.sites.parts c.args.part) (sym ((λ i. record { sites = (c.self-inside.view_is i).sites; sessions = (c.self-inside.view_is i).sessions.entries }) ∙ c.self.view_is)) (place_of_part c.args.self.now.sites c.args.part (sym c.has_part.ensures ∙ c.if-not-has_part.false))

pub loop-one-init : goal.loop-one-init
loop-one-init g c =
    let waits : OfState (types_of g.C.Crdt.laws g.C.Crdt.spells g.D.Disk.state) c.args.self.now.sites c.args.part (λ q. AreWaiting q.log c.as_slice-one-items.result.now) =
    subst (λ (x : LiveState g.row.C-Effect.Denot _). OfState (types_of g.C.Crdt.laws g.C.Crdt.spells g.D.Disk.state) x.sites c.args.part (λ q. AreWaiting q.log c.as_slice-one-items.result.now)) ((λ i. record { sites = (c.self-inside.view_is i).sites; sessions = (c.self-inside.view_is i).sessions.entries }) ∙ c.self.view_is)
    (λ run r. subst (λ l. AreWaiting (r.state c.args.part).log l) (sym c.as_slice-one-items.ensures.value) (c.in_ok-waiting.ensures (subst (IsDownAt c.self-inside.inside.0.1.0.all c.args.part) c.if-is_down_at.false c.is_down_at.ensures.down) run r)) in
    subst (λ l. IsUnderWay (types_of g.C.Crdt.laws g.C.Crdt.spells g.D.Disk.state) c.args.self.now c.args.part c.args.self.now c.as_slice-one-items.result.now l) (sym c.new-lines.ensures.items)
    (at_start (types_of g.C.Crdt.laws g.C.Crdt.spells g.D.Disk.state) c.args.self.now c.args.part c.as_slice-one-items.result.now (sym c.has_part.ensures ∙ c.if-not-has_part.false) (subst (λ (x : LiveState g.row.C-Effect.Denot _). OfState (types_of g.C.Crdt.laws g.C.Crdt.spells g.D.Disk.state) x.sites c.args.part (λ q. q.up ≡ true)) ((λ i. record { sites = (c.self-inside.view_is i).sites; sessions = (c.self-inside.view_is i).sessions.entries }) ∙ c.self.view_is) (λ run r. c.is_down_at.ensures.up run r ∙ ap not c.if-is_down_at.false)) c.requires.reached waits)

pub settle_one-requires : goal.settle_one-requires
settle_one-requires g c =
    let none : Waiting = record { tx = record { site = 0; part = 0; time = 0 }; lead = 0 } in
    may_settle (types_of g.C.Crdt.laws g.C.Crdt.spells g.D.Disk.state) c.args.self.now c.args.part c.loop-one.self (get_or c.as_slice-one-items.result.now c.loop-one.one-index none) (drop (c.loop-one.one-index + 1) c.as_slice-one-items.result.now) c.loop-one.lines.items
    (subst (λ rest. IsUnderWay (types_of g.C.Crdt.laws g.C.Crdt.spells g.D.Disk.state) c.args.self.now c.args.part c.loop-one.self rest c.loop-one.lines.items) (drop_more c.as_slice-one-items.result.now c.loop-one.one-index none c.loop-one-test.true) c.loop-one.invariant)

pub returns-then-not-goes : goal.returns-then-not-goes
returns-then-not-goes g c =
    let none : Waiting = record { tx = record { site = 0; part = 0; time = 0 }; lead = 0 } in
    at_stop (types_of g.C.Crdt.laws g.C.Crdt.spells g.D.Disk.state) c.args.self.now c.args.part c.loop-one.self c.settle_one.new.self (get_or c.as_slice-one-items.result.now c.loop-one.one-index none) (drop (c.loop-one.one-index + 1) c.as_slice-one-items.result.now) c.loop-one.lines.items c.in_ok-line.line c.push.new.self.items c.in_ok-push.ensures.items
    (subst (λ rest. IsUnderWay (types_of g.C.Crdt.laws g.C.Crdt.spells g.D.Disk.state) c.args.self.now c.args.part c.loop-one.self rest c.loop-one.lines.items) (drop_more c.as_slice-one-items.result.now c.loop-one.one-index none c.loop-one-test.true) c.loop-one.invariant)
    (subst (λ b. Settles (types_of g.C.Crdt.laws g.C.Crdt.spells g.D.Disk.state) c.loop-one.self c.settle_one.new.self c.args.part (get_or c.as_slice-one-items.result.now c.loop-one.one-index none).tx (get_or c.as_slice-one-items.result.now c.loop-one.one-index none).lead c.in_ok-line.line b) c.if-not-goes.true c.in_ok-line.ensures)

pub loop-one-preserved : goal.loop-one-preserved
loop-one-preserved g c =
    let none : Waiting = record { tx = record { site = 0; part = 0; time = 0 }; lead = 0 } in
    subst (λ l. IsUnderWay (types_of g.C.Crdt.laws g.C.Crdt.spells g.D.Disk.state) c.args.self.now c.args.part c.settle_one.new.self (drop (c.loop-one.one-index + 1) c.as_slice-one-items.result.now) l) (sym c.in_ok-push.ensures.items)
    (at_next (types_of g.C.Crdt.laws g.C.Crdt.spells g.D.Disk.state) c.args.self.now c.args.part c.loop-one.self c.settle_one.new.self (get_or c.as_slice-one-items.result.now c.loop-one.one-index none) (drop (c.loop-one.one-index + 1) c.as_slice-one-items.result.now) c.loop-one.lines.items c.in_ok-line.line
    (subst (λ rest. IsUnderWay (types_of g.C.Crdt.laws g.C.Crdt.spells g.D.Disk.state) c.args.self.now c.args.part c.loop-one.self rest c.loop-one.lines.items) (drop_more c.as_slice-one-items.result.now c.loop-one.one-index none c.loop-one-test.true) c.loop-one.invariant)
    (subst (λ b. Settles (types_of g.C.Crdt.laws g.C.Crdt.spells g.D.Disk.state) c.loop-one.self c.settle_one.new.self c.args.part (get_or c.as_slice-one-items.result.now c.loop-one.one-index none).tx (get_or c.as_slice-one-items.result.now c.loop-one.one-index none).lead c.in_ok-line.line b) c.if-not-goes.false c.in_ok-line.ensures))

pub returns : goal.returns
returns g c =
    let far = c.loop-one-test.false in
    at_end (types_of g.C.Crdt.laws g.C.Crdt.spells g.D.Disk.state) c.args.self.now c.args.part c.loop-one.self c.loop-one.lines.items c.push-2.new.self.items c.in_ok-push-2.ensures.items
    (subst (λ rest. IsUnderWay (types_of g.C.Crdt.laws g.C.Crdt.spells g.D.Disk.state) c.args.self.now c.args.part c.loop-one.self rest c.loop-one.lines.items) (drop_all c.loop-one.one-index c.as_slice-one-items.result.now (omega (arith, far))) c.loop-one.invariant)
