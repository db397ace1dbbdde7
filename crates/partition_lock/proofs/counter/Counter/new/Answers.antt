use Rattle.std.proofs.Common.{ℕ, List, [], ap, ◌∙◌, rules}
use Rattle.seat_rule.specs.declared.view.View.{View}
use Rattle.seat_rule.specs.Views.{reader, without, taken}
use Rattle.partition_lock.specs.declared.told.Told.{Told}
use Rattle.partition_lock.proofs.Opening.{counter_first, pass_first}
use Rattle.partition_lock.proofs.counter.Counter.new.Goals as goal

pub invariant_of-counter : goal.invariant_of-counter
invariant_of-counter g c =
    let E = g.row.C-Effect.Denot in
    let took = c.draw-number.ensures.taken ∙ ap (λ (m : View (Told E) × List (ℕ × ℕ)). (taken m.0, m.1)) c.requires.writer in
    (search rules, c.requires.word, counter_first c.args.word c.hand-first.new.seat.me (c.hand-first.ensures.same.2 ∙ ap (λ (m : View (Told E) × List (ℕ × ℕ)). (without m.0, m.1)) took))

pub invariant_of-pass : goal.invariant_of-pass
invariant_of-pass g c =
    let E = g.row.C-Effect.Denot in
    let took = c.draw-number.ensures.taken ∙ ap (λ (m : View (Told E) × List (ℕ × ℕ)). (taken m.0, m.1)) c.requires.writer in
    (search rules, pass_first c.draw-number.result c.hand-first.result.me (c.draw-number.ensures.number ∙ ap (λ (m : View (Told E) × List (ℕ × ℕ)). m.0.drawn) c.requires.writer) (c.hand-first.ensures.second.1 ∙ ap (λ (m : View (Told E) × List (ℕ × ℕ)). (reader m.0.past.lists m.0.past.numbers, [])) took))
