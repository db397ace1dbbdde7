use Rattle.std.proofs.Common.{◌≡◌, ℕ, length, List, [], ◌∷◌, ◌++◌, sym, ◌∙◌, subst, rules, arith}
use Rattle.std.proofs.lemmas.Grind.{common_steps}
use Rattle.site_vector.specs.declared.ids.PartId.{PartId}
use Rattle.crdt_core.specs.KindsOf.{kinds_of}
use Rattle.site_partitions.specs.Reaches.{types_of, PutsEvent}
use Rattle.seat_rule.specs.declared.view.View.{View}
use Rattle.seat_rule.specs.Laws.{Heard}
use Rattle.seat_rule.specs.Views.{both}
use Rattle.seat_rule.specs.world.Traces.{word_of, IsLawful}
use Rattle.partition_lock.specs.declared.told.Told.{Told}
use Rattle.partition_lock.specs.declared.close.Ended.{Ended}
use Rattle.partition_lock.specs.Closings.{Gathered, kept_by, left_by}
use Rattle.partition_lock.specs.Events.{event_of}
use Rattle.partition_lock.proofs.Closing.{one_gathered}
use Rattle.partition_lock.proofs.close.gather.Goals as goal

pub returns-clause-gathers : goal.returns-clause-gathers
returns-clause-gathers g c p so_far =
    let E = g.row.C-Effect.Denot in
    let types = types_of g.C.Crdt.laws g.C.Crdt.spells g.D.Disk.state in
    let sites = g.J.Naming.sites in
    let parts = g.J.Naming.parts in
    let v = c.args.seat.now.me in
    let d = c.desk.inside in
    let u = d.seat.me in
    let xs = c.args.ended.now.items in
    let x : Ended g.row.C.Denot g.row.D.Denot g.row.C-State.Denot g.row.C-Effect.Denot = record { partition = d.partition; entries = d.entries } in
    let heard : Heard (IsLawful event_of sites parts (kinds_of g.C.Crdt.laws) (PutsEvent types)) (both v.0 u.0) = subst (λ (m : View (Told E) × List (ℕ × ℕ)). Heard (IsLawful event_of sites parts (kinds_of g.C.Crdt.laws) (PutsEvent types)) m.0) c.join.ensures.both c.look.ensures.heard in
    let at_end : word_of parts c.args.desk ≡ length xs = omega (arith, c.requires.next, c.args.ended.now.ok.0) in
    let next : word_of parts d.id ≡ length xs = subst (λ (q : PartId). word_of parts q ≡ length xs) (sym c.desk.view_is) at_end in
    let pushed : c.push.new.self.items ≡ xs ++ x ∷ [] = grind (rules, arith, common_steps) in
    subst (λ ys. Gathered types sites parts kept_by left_by p ys c.look.new.seat.me.0) (sym pushed) (subst (λ (m : View (Told E) × List (ℕ × ℕ)). Gathered types sites parts kept_by left_by p (xs ++ x ∷ []) m.0) (sym (c.look.ensures.same.2 ∙ c.join.ensures.both)) (one_gathered types sites parts kept_by left_by p xs v.0 u.0 u.1 so_far heard d.id d.stamp x c.desk.invariant.3 c.desk.invariant.4 next))
