use Rattle.std.proofs.Common.{◌≡◌, ◌*◌, ℕ, List, [], ◌∷◌, sym, ap, ◌∙◌, rules}
use Rattle.crdt_core.specs.KindsOf.{kinds_of}
use Rattle.site_partitions.specs.Reaches.{types_of, PutsEvent}
use Rattle.seat_rule.specs.declared.view.View.{View}
use Rattle.seat_rule.specs.Views.{first_writer, other_writer}
use Rattle.partition_lock.specs.declared.told.Told.{Told}
use Rattle.partition_lock.specs.Openings.{unused}
use Rattle.partition_lock.proofs.Opening.{begins, down_is, once}
use Rattle.partition_lock.proofs.shared.Shared.new.Goals as goal

pub split_writer-own-requires-clause-once : goal.split_writer-own-requires-clause-once
split_writer-own-requires-clause-once g c =
    let E = g.row.C-Effect.Denot in
    let n = c.args.sites * c.args.parts in
    once n c.args.seat.me.0.past.writes (ap (λ (m : View (Told E) × List (ℕ × ℕ)). m.0.past.writes) c.requires.open.whole ∙ down_is n)

pub new-counter-requires-clause-writer : goal.new-counter-requires-clause-writer
new-counter-requires-clause-writer g c =
    let E = g.row.C-Effect.Denot in
    let n = c.args.sites * c.args.parts in
    let count : c.from.result * c.from-2.result ≡ n = search rules in
    c.split_writer-own.ensures.second.1 ∙ (ap (λ (m : View (Told E) × List (ℕ × ℕ)). (first_writer m.0, [])) c.requires.open.whole ∙ (ap (λ (ns : List ℕ). (first_writer (unused {E = E} ns).0, [])) (down_is n) ∙ ap (λ (k : ℕ). unused {E = E} (k ∷ [])) (sym count)))

pub seat_all-requires-clause-writer : goal.seat_all-requires-clause-writer
seat_all-requires-clause-writer g c =
    let E = g.row.C-Effect.Denot in
    let n = c.args.sites * c.args.parts in
    c.split_writer-own.ensures.same.2 ∙ (ap (λ (m : View (Told E) × List (ℕ × ℕ)). (other_writer m.0, m.1)) c.requires.open.whole ∙ ap (λ (ns : List ℕ). (other_writer (unused {E = E} ns).0, (unused {E = E} ns).1)) (down_is n))

pub returns-clause-begins : goal.returns-clause-begins
returns-clause-begins g c = begins (kinds_of g.C.Crdt.laws) g.J.Naming.sites g.J.Naming.parts (PutsEvent (types_of g.C.Crdt.laws g.C.Crdt.spells g.D.Disk.state)) _ c.new-counter.result.1 c.new-counter.ensures.lists c.new-counter.ensures.numbers
