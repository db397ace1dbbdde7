use Rattle.std.proofs.Common.{ℕ, List, [], ap, ◌∙◌}
use Rattle.seat_rule.specs.declared.view.View.{View}
use Rattle.seat_rule.specs.Views.{first_writer, other_writer}
use Rattle.partition_lock.specs.declared.told.Told.{Told}
use Rattle.partition_lock.specs.Openings.{unused}
use Rattle.partition_lock.proofs.Opening.{once, below_next}
use Rattle.partition_lock.proofs.seats.next_desk.Goals as goal

pub split_writer-own-requires-clause-once : goal.split_writer-own-requires-clause-once
split_writer-own-requires-clause-once g c =
    let E = g.row.C-Effect.Denot in
    once c.args.word c.args.seat.now.me.0.past.writes (ap (λ (m : View (Told E) × List (ℕ × ℕ)). m.0.past.writes) c.requires.writer ∙ below_next c.args.word)

pub new-requires-clause-writer : goal.new-requires-clause-writer
new-requires-clause-writer g c =
    let E = g.row.C-Effect.Denot in
    c.split_writer-own.ensures.second.1 ∙ (ap (λ (m : View (Told E) × List (ℕ × ℕ)). (first_writer m.0, [])) c.requires.writer ∙ ap (λ (ns : List ℕ). (first_writer (unused {E = E} ns).0, [])) (below_next c.args.word))

pub returns-clause-writer : goal.returns-clause-writer
returns-clause-writer g c =
    let E = g.row.C-Effect.Denot in
    c.split_writer-own.ensures.same.2 ∙ (ap (λ (m : View (Told E) × List (ℕ × ℕ)). (other_writer m.0, m.1)) c.requires.writer ∙ ap (λ (ns : List ℕ). (other_writer (unused {E = E} ns).0, (unused {E = E} ns).1)) (below_next c.args.word))
