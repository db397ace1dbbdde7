use Rattle.std.proofs.Common.{◌≡◌, ℕ, max, List, [], ◌∷◌, sym, ap, ◌∙◌, subst, rules}
use Rattle.crdt_core.specs.KindsOf.{kinds_of}
use Rattle.site_partitions.specs.Reaches.{types_of, PutsEvent}
use Rattle.txn_session.specs.Passes.{SeesStill, IsUnborne}
use Rattle.seat_rule.specs.declared.view.Past.{Past}
use Rattle.seat_rule.specs.declared.view.View.{View}
use Rattle.seat_rule.specs.Laws.{Heard}
use Rattle.seat_rule.specs.Lists.{at, has}
use Rattle.seat_rule.specs.Notes.{AllBelow, AreDrawn}
use Rattle.seat_rule.specs.Views.{both, reader, without, taken}
use Rattle.seat_rule.specs.world.Traces.{IsLawful}
use Rattle.partition_lock.specs.declared.told.Told.{Told}
use Rattle.partition_lock.specs.Calling.{seen_by, holds}
use Rattle.partition_lock.specs.Events.{event_of}
use Rattle.partition_lock.specs.Passes.{Sees}
use Rattle.partition_lock.proofs.Meeting.{first_pass, second_pass, counter_after, numbers_are, grew_met}
use Rattle.partition_lock.proofs.Seeing.{stays, sees_still, unborne}
use Rattle.partition_lock.proofs.counter.Counter.split.Goals as goal

pub invariant_of-first : goal.invariant_of-first
invariant_of-first g c =
    let E = g.row.C-Effect.Denot in
    let types = types_of g.C.Crdt.laws g.C.Crdt.spells g.D.Disk.state in
    let kinds = kinds_of g.C.Crdt.laws in
    let k = c.self.inside.seat.me in
    let p = c.pass.inside.seat.me in
    let i = c.self.invariant.2 in
    let newer : c.max-stamp.result ≡ max c.pass.inside.stamp c.self.inside.stamp = search rules in
    let joined : c.look_at_numbers.new.seat.me ≡ (both k.0 p.0, k.1) = c.look_at_numbers.ensures.same.2 ∙ (c.look.ensures.same.2 ∙ c.join.ensures.both) in
    let kept : c.hand-kept.result.me ≡ (reader (both k.0 p.0).past.lists (both k.0 p.0).past.numbers, []) = c.hand-kept.ensures.second.1 ∙ ap (λ (m : View (Told E) × List (ℕ × ℕ)). (reader m.0.past.lists m.0.past.numbers, [])) joined in
    let took : c.draw-number.new.seat.me ≡ (taken (without (both k.0 p.0)), k.1) = c.draw-number.ensures.taken ∙ ap (λ (m : View (Told E) × List (ℕ × ℕ)). (taken m.0, m.1)) (c.hand-kept.ensures.same.2 ∙ ap (λ (m : View (Told E) × List (ℕ × ℕ)). (without m.0, m.1)) joined) in
    let number : c.draw-number.result ≡ (both k.0 p.0).drawn = c.draw-number.ensures.number ∙ ap (λ (m : View (Told E) × List (ℕ × ℕ)). m.0.drawn) (c.hand-kept.ensures.same.2 ∙ ap (λ (m : View (Told E) × List (ℕ × ℕ)). (without m.0, m.1)) joined) in
    let drawn : c.hand-drawn.result.me ≡ (reader (both k.0 p.0).past.lists ((both k.0 p.0).drawn ∷ []), []) = c.hand-drawn.ensures.second.1 ∙ ap (λ (m : View (Told E) × List (ℕ × ℕ)). (reader m.0.past.lists m.0.past.numbers, [])) took in
    let left : c.hand-drawn.new.seat.me ≡ (without (taken (without (both k.0 p.0))), k.1) = c.hand-drawn.ensures.same.2 ∙ ap (λ (m : View (Told E) × List (ℕ × ℕ)). (without m.0, m.1)) took in
    (search rules, first_pass k.0 p.0 k.1 p.1 c.hand-kept.result.me c.self.inside.word c.self.inside.drawn c.pass.inside.least c.self.inside.stamp c.pass.inside.stamp c.max-stamp.result i c.pass.invariant.1 newer kept)

pub invariant_of-second : goal.invariant_of-second
invariant_of-second g c =
    let E = g.row.C-Effect.Denot in
    let types = types_of g.C.Crdt.laws g.C.Crdt.spells g.D.Disk.state in
    let kinds = kinds_of g.C.Crdt.laws in
    let k = c.self.inside.seat.me in
    let p = c.pass.inside.seat.me in
    let i = c.self.invariant.2 in
    let newer : c.max-stamp.result ≡ max c.pass.inside.stamp c.self.inside.stamp = search rules in
    let joined : c.look_at_numbers.new.seat.me ≡ (both k.0 p.0, k.1) = c.look_at_numbers.ensures.same.2 ∙ (c.look.ensures.same.2 ∙ c.join.ensures.both) in
    let kept : c.hand-kept.result.me ≡ (reader (both k.0 p.0).past.lists (both k.0 p.0).past.numbers, []) = c.hand-kept.ensures.second.1 ∙ ap (λ (m : View (Told E) × List (ℕ × ℕ)). (reader m.0.past.lists m.0.past.numbers, [])) joined in
    let took : c.draw-number.new.seat.me ≡ (taken (without (both k.0 p.0)), k.1) = c.draw-number.ensures.taken ∙ ap (λ (m : View (Told E) × List (ℕ × ℕ)). (taken m.0, m.1)) (c.hand-kept.ensures.same.2 ∙ ap (λ (m : View (Told E) × List (ℕ × ℕ)). (without m.0, m.1)) joined) in
    let number : c.draw-number.result ≡ (both k.0 p.0).drawn = c.draw-number.ensures.number ∙ ap (λ (m : View (Told E) × List (ℕ × ℕ)). m.0.drawn) (c.hand-kept.ensures.same.2 ∙ ap (λ (m : View (Told E) × List (ℕ × ℕ)). (without m.0, m.1)) joined) in
    let drawn : c.hand-drawn.result.me ≡ (reader (both k.0 p.0).past.lists ((both k.0 p.0).drawn ∷ []), []) = c.hand-drawn.ensures.second.1 ∙ ap (λ (m : View (Told E) × List (ℕ × ℕ)). (reader m.0.past.lists m.0.past.numbers, [])) took in
    let left : c.hand-drawn.new.seat.me ≡ (without (taken (without (both k.0 p.0))), k.1) = c.hand-drawn.ensures.same.2 ∙ ap (λ (m : View (Told E) × List (ℕ × ℕ)). (without m.0, m.1)) took in
    (search rules, second_pass k.0 p.0 k.1 p.1 c.hand-drawn.result.me c.self.inside.word c.self.inside.drawn c.pass.inside.least c.self.inside.stamp c.pass.inside.stamp c.max-stamp.result i c.pass.invariant.1 newer c.draw-number.result number drawn)

pub invariant_of-self : goal.invariant_of-self
invariant_of-self g c =
    let E = g.row.C-Effect.Denot in
    let types = types_of g.C.Crdt.laws g.C.Crdt.spells g.D.Disk.state in
    let kinds = kinds_of g.C.Crdt.laws in
    let k = c.self.inside.seat.me in
    let p = c.pass.inside.seat.me in
    let i = c.self.invariant.2 in
    let newer : c.max-stamp.result ≡ max c.pass.inside.stamp c.self.inside.stamp = search rules in
    let joined : c.look_at_numbers.new.seat.me ≡ (both k.0 p.0, k.1) = c.look_at_numbers.ensures.same.2 ∙ (c.look.ensures.same.2 ∙ c.join.ensures.both) in
    let kept : c.hand-kept.result.me ≡ (reader (both k.0 p.0).past.lists (both k.0 p.0).past.numbers, []) = c.hand-kept.ensures.second.1 ∙ ap (λ (m : View (Told E) × List (ℕ × ℕ)). (reader m.0.past.lists m.0.past.numbers, [])) joined in
    let took : c.draw-number.new.seat.me ≡ (taken (without (both k.0 p.0)), k.1) = c.draw-number.ensures.taken ∙ ap (λ (m : View (Told E) × List (ℕ × ℕ)). (taken m.0, m.1)) (c.hand-kept.ensures.same.2 ∙ ap (λ (m : View (Told E) × List (ℕ × ℕ)). (without m.0, m.1)) joined) in
    let number : c.draw-number.result ≡ (both k.0 p.0).drawn = c.draw-number.ensures.number ∙ ap (λ (m : View (Told E) × List (ℕ × ℕ)). m.0.drawn) (c.hand-kept.ensures.same.2 ∙ ap (λ (m : View (Told E) × List (ℕ × ℕ)). (without m.0, m.1)) joined) in
    let drawn : c.hand-drawn.result.me ≡ (reader (both k.0 p.0).past.lists ((both k.0 p.0).drawn ∷ []), []) = c.hand-drawn.ensures.second.1 ∙ ap (λ (m : View (Told E) × List (ℕ × ℕ)). (reader m.0.past.lists m.0.past.numbers, [])) took in
    let left : c.hand-drawn.new.seat.me ≡ (without (taken (without (both k.0 p.0))), k.1) = c.hand-drawn.ensures.same.2 ∙ ap (λ (m : View (Told E) × List (ℕ × ℕ)). (without m.0, m.1)) took in
    (search rules, c.self.invariant.1, counter_after k.0 p.0 k.1 p.1 c.hand-drawn.new.seat.me c.self.inside.word c.self.inside.drawn c.pass.inside.least c.self.inside.stamp c.pass.inside.stamp c.max-stamp.result i c.pass.invariant.1 newer c.in-Some.next (search rules) left)

pub returns-clause-first : goal.returns-clause-first
returns-clause-first g c run s =
    let E = g.row.C-Effect.Denot in
    let types = types_of g.C.Crdt.laws g.C.Crdt.spells g.D.Disk.state in
    let kinds = kinds_of g.C.Crdt.laws in
    let k = c.self.inside.seat.me in
    let p = c.pass.inside.seat.me in
    let i = c.self.invariant.2 in
    let newer : c.max-stamp.result ≡ max c.pass.inside.stamp c.self.inside.stamp = search rules in
    let joined : c.look_at_numbers.new.seat.me ≡ (both k.0 p.0, k.1) = c.look_at_numbers.ensures.same.2 ∙ (c.look.ensures.same.2 ∙ c.join.ensures.both) in
    let kept : c.hand-kept.result.me ≡ (reader (both k.0 p.0).past.lists (both k.0 p.0).past.numbers, []) = c.hand-kept.ensures.second.1 ∙ ap (λ (m : View (Told E) × List (ℕ × ℕ)). (reader m.0.past.lists m.0.past.numbers, [])) joined in
    let took : c.draw-number.new.seat.me ≡ (taken (without (both k.0 p.0)), k.1) = c.draw-number.ensures.taken ∙ ap (λ (m : View (Told E) × List (ℕ × ℕ)). (taken m.0, m.1)) (c.hand-kept.ensures.same.2 ∙ ap (λ (m : View (Told E) × List (ℕ × ℕ)). (without m.0, m.1)) joined) in
    let number : c.draw-number.result ≡ (both k.0 p.0).drawn = c.draw-number.ensures.number ∙ ap (λ (m : View (Told E) × List (ℕ × ℕ)). m.0.drawn) (c.hand-kept.ensures.same.2 ∙ ap (λ (m : View (Told E) × List (ℕ × ℕ)). (without m.0, m.1)) joined) in
    let drawn : c.hand-drawn.result.me ≡ (reader (both k.0 p.0).past.lists ((both k.0 p.0).drawn ∷ []), []) = c.hand-drawn.ensures.second.1 ∙ ap (λ (m : View (Told E) × List (ℕ × ℕ)). (reader m.0.past.lists m.0.past.numbers, [])) took in
    let left : c.hand-drawn.new.seat.me ≡ (without (taken (without (both k.0 p.0))), k.1) = c.hand-drawn.ensures.same.2 ∙ ap (λ (m : View (Told E) × List (ℕ × ℕ)). (without m.0, m.1)) took in
    let heard : Heard (IsLawful event_of g.J.Naming.sites g.J.Naming.parts kinds (PutsEvent types)) (both k.0 p.0) = subst (λ (m : View (Told E) × List (ℕ × ℕ)). Heard (IsLawful event_of g.J.Naming.sites g.J.Naming.parts kinds (PutsEvent types)) m.0) c.join.ensures.both c.look.ensures.heard in
    let grew = grew_met kinds g.J.Naming.sites g.J.Naming.parts (PutsEvent types) k.0 p.0 heard in
    let seen = subst (λ (q : Past (Told E)). Sees kinds g.J.Naming.sites g.J.Naming.parts q run) (sym c.pass.view_is) s in
    let same = ap (λ (m : View (Told E) × List (ℕ × ℕ)). m.0.past.numbers) kept ∙ numbers_are k.0 p.0 k.1 p.1 c.hand-kept.result.me c.self.inside.word c.self.inside.drawn c.pass.inside.least c.self.inside.stamp c.pass.inside.stamp c.max-stamp.result i c.pass.invariant.1 newer in
    stays kinds g.J.Naming.sites g.J.Naming.parts (PutsEvent types) p.0.past (both k.0 p.0).past.lists grew c.in-Some.next c.hand-kept.result.me.0.past (ap (λ (m : View (Told E) × List (ℕ × ℕ)). m.0.past.lists) kept) same run seen

pub returns-clause-second : goal.returns-clause-second
returns-clause-second g c run s =
    let E = g.row.C-Effect.Denot in
    let types = types_of g.C.Crdt.laws g.C.Crdt.spells g.D.Disk.state in
    let kinds = kinds_of g.C.Crdt.laws in
    let k = c.self.inside.seat.me in
    let p = c.pass.inside.seat.me in
    let i = c.self.invariant.2 in
    let newer : c.max-stamp.result ≡ max c.pass.inside.stamp c.self.inside.stamp = search rules in
    let joined : c.look_at_numbers.new.seat.me ≡ (both k.0 p.0, k.1) = c.look_at_numbers.ensures.same.2 ∙ (c.look.ensures.same.2 ∙ c.join.ensures.both) in
    let kept : c.hand-kept.result.me ≡ (reader (both k.0 p.0).past.lists (both k.0 p.0).past.numbers, []) = c.hand-kept.ensures.second.1 ∙ ap (λ (m : View (Told E) × List (ℕ × ℕ)). (reader m.0.past.lists m.0.past.numbers, [])) joined in
    let took : c.draw-number.new.seat.me ≡ (taken (without (both k.0 p.0)), k.1) = c.draw-number.ensures.taken ∙ ap (λ (m : View (Told E) × List (ℕ × ℕ)). (taken m.0, m.1)) (c.hand-kept.ensures.same.2 ∙ ap (λ (m : View (Told E) × List (ℕ × ℕ)). (without m.0, m.1)) joined) in
    let number : c.draw-number.result ≡ (both k.0 p.0).drawn = c.draw-number.ensures.number ∙ ap (λ (m : View (Told E) × List (ℕ × ℕ)). m.0.drawn) (c.hand-kept.ensures.same.2 ∙ ap (λ (m : View (Told E) × List (ℕ × ℕ)). (without m.0, m.1)) joined) in
    let drawn : c.hand-drawn.result.me ≡ (reader (both k.0 p.0).past.lists ((both k.0 p.0).drawn ∷ []), []) = c.hand-drawn.ensures.second.1 ∙ ap (λ (m : View (Told E) × List (ℕ × ℕ)). (reader m.0.past.lists m.0.past.numbers, [])) took in
    let left : c.hand-drawn.new.seat.me ≡ (without (taken (without (both k.0 p.0))), k.1) = c.hand-drawn.ensures.same.2 ∙ ap (λ (m : View (Told E) × List (ℕ × ℕ)). (without m.0, m.1)) took in
    let heard : Heard (IsLawful event_of g.J.Naming.sites g.J.Naming.parts kinds (PutsEvent types)) (both k.0 p.0) = subst (λ (m : View (Told E) × List (ℕ × ℕ)). Heard (IsLawful event_of g.J.Naming.sites g.J.Naming.parts kinds (PutsEvent types)) m.0) c.join.ensures.both c.look.ensures.heard in
    let grew = grew_met kinds g.J.Naming.sites g.J.Naming.parts (PutsEvent types) k.0 p.0 heard in
    let seen = subst (λ (q : Past (Told E)). Sees kinds g.J.Naming.sites g.J.Naming.parts q run) (sym c.pass.view_is) s in
    subst (λ (q : Past (Told E)). SeesStill (seen_by kinds g.J.Naming.sites g.J.Naming.parts) (holds q) c.in-Some.next c.hand-drawn.result.me.0.past run) c.pass.view_is (sees_still kinds g.J.Naming.sites g.J.Naming.parts (PutsEvent types) p.0.past (both k.0 p.0).past.lists grew c.in-Some.next c.hand-drawn.result.me.0.past (ap (λ (m : View (Told E) × List (ℕ × ℕ)). m.0.past.lists) drawn) run seen)

pub returns-clause-unborne : goal.returns-clause-unborne
returns-clause-unborne g c =
    let E = g.row.C-Effect.Denot in
    let types = types_of g.C.Crdt.laws g.C.Crdt.spells g.D.Disk.state in
    let kinds = kinds_of g.C.Crdt.laws in
    let k = c.self.inside.seat.me in
    let p = c.pass.inside.seat.me in
    let i = c.self.invariant.2 in
    let newer : c.max-stamp.result ≡ max c.pass.inside.stamp c.self.inside.stamp = search rules in
    let joined : c.look_at_numbers.new.seat.me ≡ (both k.0 p.0, k.1) = c.look_at_numbers.ensures.same.2 ∙ (c.look.ensures.same.2 ∙ c.join.ensures.both) in
    let kept : c.hand-kept.result.me ≡ (reader (both k.0 p.0).past.lists (both k.0 p.0).past.numbers, []) = c.hand-kept.ensures.second.1 ∙ ap (λ (m : View (Told E) × List (ℕ × ℕ)). (reader m.0.past.lists m.0.past.numbers, [])) joined in
    let took : c.draw-number.new.seat.me ≡ (taken (without (both k.0 p.0)), k.1) = c.draw-number.ensures.taken ∙ ap (λ (m : View (Told E) × List (ℕ × ℕ)). (taken m.0, m.1)) (c.hand-kept.ensures.same.2 ∙ ap (λ (m : View (Told E) × List (ℕ × ℕ)). (without m.0, m.1)) joined) in
    let number : c.draw-number.result ≡ (both k.0 p.0).drawn = c.draw-number.ensures.number ∙ ap (λ (m : View (Told E) × List (ℕ × ℕ)). m.0.drawn) (c.hand-kept.ensures.same.2 ∙ ap (λ (m : View (Told E) × List (ℕ × ℕ)). (without m.0, m.1)) joined) in
    let drawn : c.hand-drawn.result.me ≡ (reader (both k.0 p.0).past.lists ((both k.0 p.0).drawn ∷ []), []) = c.hand-drawn.ensures.second.1 ∙ ap (λ (m : View (Told E) × List (ℕ × ℕ)). (reader m.0.past.lists m.0.past.numbers, [])) took in
    let left : c.hand-drawn.new.seat.me ≡ (without (taken (without (both k.0 p.0))), k.1) = c.hand-drawn.ensures.same.2 ∙ ap (λ (m : View (Told E) × List (ℕ × ℕ)). (without m.0, m.1)) took in
    let told : AreDrawn (both k.0 p.0) = subst (λ (m : View (Told E) × List (ℕ × ℕ)). AreDrawn m.0) (c.look.ensures.same.2 ∙ c.join.ensures.both) c.look_at_numbers.ensures.drawn in
    let first : (q : ℕ) → AllBelow (both k.0 p.0).drawn (at c.hand-kept.result.me.0.past.lists q) = subst (λ (m : View (Told E) × List (ℕ × ℕ)). (q : ℕ) → AllBelow (both k.0 p.0).drawn (at m.0.past.lists q)) (sym kept) told.borne in
    let second : (q : ℕ) → AllBelow (both k.0 p.0).drawn (at c.hand-drawn.result.me.0.past.lists q) = subst (λ (m : View (Told E) × List (ℕ × ℕ)). (q : ℕ) → AllBelow (both k.0 p.0).drawn (at m.0.past.lists q)) (sym drawn) told.borne in
    let mine = ap (λ (m : View (Told E) × List (ℕ × ℕ)). m.0.past.numbers) drawn in
    let one = unborne kinds g.J.Naming.sites g.J.Naming.parts c.in-Some.next (both k.0 p.0).drawn c.hand-kept.result.me.0.past first in
    let two = unborne kinds g.J.Naming.sites g.J.Naming.parts c.in-Some.next (both k.0 p.0).drawn c.hand-drawn.result.me.0.past second in
    subst (λ (ns : List ℕ). IsUnborne (seen_by kinds g.J.Naming.sites g.J.Naming.parts) (has ns) c.in-Some.next c.hand-kept.result.me.0.past × IsUnborne (seen_by kinds g.J.Naming.sites g.J.Naming.parts) (has ns) c.in-Some.next c.hand-drawn.result.me.0.past) (sym mine) (one, two)
