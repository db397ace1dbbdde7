use Rattle.std.proofs.Common.{◌≡◌, ℕ, min, List, sym, ap, ◌∙◌, subst, rules}
use Rattle.crdt_core.specs.KindsOf.{kinds_of}
use Rattle.site_partitions.specs.Reaches.{types_of, PutsEvent}
use Rattle.txn_session.specs.Passes.{SeesStill}
use Rattle.seat_rule.specs.declared.view.Past.{Past}
use Rattle.seat_rule.specs.declared.view.View.{View}
use Rattle.seat_rule.specs.Laws.{Heard}
use Rattle.seat_rule.specs.Views.{both}
use Rattle.seat_rule.specs.world.Traces.{IsLawful}
use Rattle.partition_lock.specs.declared.told.Told.{Told}
use Rattle.partition_lock.specs.Calling.{seen_by, holds}
use Rattle.partition_lock.specs.Events.{event_of}
use Rattle.partition_lock.specs.Passes.{IsPass, Sees}
use Rattle.partition_lock.proofs.Meeting.{met_pass, grew_was, grew_met}
use Rattle.partition_lock.proofs.Seeing.{sees_still}
use Rattle.partition_lock.proofs.pass.Pass.meet.Goals as goal

pub invariant_of-result : goal.invariant_of-result
invariant_of-result g c =
    let v = c.self.inside.seat.me in
    let u = c.other.inside.seat.me in
    let least : c.min.result ≡ min c.self.inside.least c.other.inside.least = search rules in
    (search rules, subst (λ k. IsPass k c.max.result c.look.new.seat.me) (sym least) (met_pass v.0 u.0 v.1 u.1 c.look.new.seat.me c.self.inside.least c.other.inside.least c.self.inside.stamp c.other.inside.stamp c.max.result c.self.invariant.1 c.other.invariant.1 (search rules) (c.look.ensures.same.2 ∙ c.join.ensures.both)))

pub returns-clause-first : goal.returns-clause-first
returns-clause-first g c run s =
    let E = g.row.C-Effect.Denot in
    let types = types_of g.C.Crdt.laws g.C.Crdt.spells g.D.Disk.state in
    let v = c.self.inside.seat.me.0 in
    let u = c.other.inside.seat.me.0 in
    let kinds = kinds_of g.C.Crdt.laws in
    let heard : Heard (IsLawful event_of g.J.Naming.sites g.J.Naming.parts kinds (PutsEvent types)) (both v u) = subst (λ (m : View (Told E) × List (ℕ × ℕ)). Heard (IsLawful event_of g.J.Naming.sites g.J.Naming.parts kinds (PutsEvent types)) m.0) c.join.ensures.both c.look.ensures.heard in
    let lists = ap (λ (m : View (Told E) × List (ℕ × ℕ)). m.0.past.lists) (c.look.ensures.same.2 ∙ c.join.ensures.both) in
    let seen = subst (λ (p : Past (Told E)). Sees kinds g.J.Naming.sites g.J.Naming.parts p run) (sym c.self.view_is) s in
    subst (λ (p : Past (Told E)). SeesStill (seen_by kinds g.J.Naming.sites g.J.Naming.parts) (holds p) c.args.self c.look.new.seat.me.0.past run) c.self.view_is (sees_still kinds g.J.Naming.sites g.J.Naming.parts (PutsEvent types) v.past (both v u).past.lists (grew_was kinds g.J.Naming.sites g.J.Naming.parts (PutsEvent types) v u heard) c.args.self c.look.new.seat.me.0.past lists run seen)

pub returns-clause-second : goal.returns-clause-second
returns-clause-second g c run s =
    let E = g.row.C-Effect.Denot in
    let types = types_of g.C.Crdt.laws g.C.Crdt.spells g.D.Disk.state in
    let v = c.self.inside.seat.me.0 in
    let u = c.other.inside.seat.me.0 in
    let kinds = kinds_of g.C.Crdt.laws in
    let heard : Heard (IsLawful event_of g.J.Naming.sites g.J.Naming.parts kinds (PutsEvent types)) (both v u) = subst (λ (m : View (Told E) × List (ℕ × ℕ)). Heard (IsLawful event_of g.J.Naming.sites g.J.Naming.parts kinds (PutsEvent types)) m.0) c.join.ensures.both c.look.ensures.heard in
    let lists = ap (λ (m : View (Told E) × List (ℕ × ℕ)). m.0.past.lists) (c.look.ensures.same.2 ∙ c.join.ensures.both) in
    let seen = subst (λ (p : Past (Told E)). Sees kinds g.J.Naming.sites g.J.Naming.parts p run) (sym c.other.view_is) s in
    subst (λ (p : Past (Told E)). SeesStill (seen_by kinds g.J.Naming.sites g.J.Naming.parts) (holds p) c.args.self c.look.new.seat.me.0.past run) c.other.view_is (sees_still kinds g.J.Naming.sites g.J.Naming.parts (PutsEvent types) u.past (both v u).past.lists (grew_met kinds g.J.Naming.sites g.J.Naming.parts (PutsEvent types) v u heard) c.args.self c.look.new.seat.me.0.past lists run seen)
