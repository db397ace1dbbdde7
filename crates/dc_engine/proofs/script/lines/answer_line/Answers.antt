use Rattle.std.proofs.Common.{◌≡◌, length, min, sym, ◌∙◌, arith}
use Rattle.std.proofs.lemmas.Grind.{common_steps}
use Rattle.dc_engine.proofs.bytes.Moves.{answers_front, makes_front, on_ok}
use Rattle.dc_engine.proofs.script.lines.answer_line.Goals as goal

pub returns-then-is_empty-clause-making : goal.returns-then-is_empty-clause-making
returns-then-is_empty-clause-making g c =
    let count : c.min.result ≡ min 4099 (length c.args.piece.now) = grind (arith, common_steps, c.min.ensures) in
    λ e. makes_front g.R.Cutter.Cutter.framing c.args.begun.now.first c.args.piece.now c.min.result (sym c.is_empty.ensures ∙ c.if-is_empty.true) count (c.answer.ensures.making e)

pub returns-then-is_empty-clause-ok : goal.returns-then-is_empty-clause-ok
returns-then-is_empty-clause-ok g c =
    let count : c.min.result ≡ min 4099 (length c.args.piece.now) = grind (arith, common_steps, c.min.ensures) in
    on_ok _ _ _ (λ a. answers_front g.R.Cutter.Cutter.framing g.R.Responder.reached _ _ c.args.begun.now.first c.args.piece.now _ _ c.min.result a (sym c.is_empty.ensures ∙ c.if-is_empty.true) count) c.answer.ensures.ok
