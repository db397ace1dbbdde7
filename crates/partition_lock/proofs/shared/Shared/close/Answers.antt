use Rattle.std.proofs.Common.{◌≡◌, ℕ, ◌+◌, vec_len, List, [], sym, ◌∙◌, subst, rules, arith}
use Rattle.site_partitions.specs.Reaches.{types_of}
use Rattle.seat_rule.specs.declared.view.Past.{Past}
use Rattle.seat_rule.specs.declared.view.View.{View}
use Rattle.partition_lock.specs.declared.told.Told.{Told}
use Rattle.partition_lock.specs.Closings.{Gathered, kept_by, left_by}
use Rattle.partition_lock.proofs.Closing.{none_gathered, all_gathered, none_long}
use Rattle.partition_lock.proofs.shared.Shared.close.Goals as goal

pub loop-lock-init : goal.loop-lock-init
loop-lock-init g c =
    let E = g.row.C-Effect.Denot in
    let types = types_of g.C.Crdt.laws g.C.Crdt.spells g.D.Disk.state in
    let sites = g.J.Naming.sites in
    let parts = g.J.Naming.parts in
    let me = c.pass.inside.seat.me in
    let ended = c.args.self.ended in
    let none : ended.items ≡ [] = none_long ended.items (omega (arith, ended.ok.0, c.args.self.room.0)) in
    let turned : vec_len c.reverse.new.self ≡ vec_len c.args.self.desks = search rules in
    let first = none_gathered types sites parts kept_by left_by me.0 c.look.ensures.heard in (
      subst (λ (m : View (Told E) × List (ℕ × ℕ)). Gathered types sites parts kept_by left_by c.args.pass ended.items m.0) (sym c.look.ensures.same.2) (subst (λ xs. Gathered types sites parts kept_by left_by c.args.pass xs me.0) (sym none) (subst (λ (p : Past (Told E)). Gathered types sites parts kept_by left_by p [] me.0) c.pass.view_is first)),
      search rules,
      omega (arith, turned, c.args.self.all, c.args.self.room.0),
      omega (arith, turned, c.args.self.all, c.args.self.room.0, c.args.self.room.1),
    )

pub loop-lock-preserved : goal.loop-lock-preserved
loop-lock-preserved g c =
    let i = c.loop-lock.invariant in
    let popped : vec_len c.pop.new.self + 1 ≡ vec_len c.loop-lock.desks = search rules in
    let more = c.gather.ensures.len in
    let kept = c.gather.ensures.capacity in (
      c.gather.ensures.gathers c.args.pass i.0,
      c.gather.ensures.same ∙ i.1,
      omega (arith, i.2, popped, more),
      omega (arith, i.3, popped, more, kept),
    )

pub returns : goal.returns
returns g c =
    let types = types_of g.C.Crdt.laws g.C.Crdt.spells g.D.Disk.state in
    let i = c.loop-lock.invariant in
    let none : vec_len c.loop-lock.desks ≡ 0 = search rules in
    all_gathered types g.J.Naming.sites g.J.Naming.parts kept_by left_by c.args.pass c.loop-lock.ended.items c.loop-lock.seat.me.0 i.0 (omega (arith, i.2, none, c.loop-lock.ended.ok.0))
