use Rattle.std.proofs.Common.{subst, arith}
use Rattle.dc_engine.specs.Ends.{EndsAt, Goes}
use Rattle.dc_engine.proofs.commands.Making.{unchanged_both}
use Rattle.dc_engine.proofs.bytes.Moves.{moves_on, moves_rest}
use Rattle.dc_engine.proofs.script.lines.answer_lines.Goals as goal

pub loop-line-preserved : goal.loop-line-preserved
loop-line-preserved g c =
    let cut = g.R.Cutter.Cutter.framing in
    let rest = c.loop-line.rest.now in
    let ends = subst (λ at. EndsAt cut at rest c.in-Ends.line c.in-Ends.next) c.at.ensures c.in-Ends.ensures in
    let answered = c.in_ok-answer_line-in-Ends.ensures in
    record {
      moves = moves_on cut g.R.Responder.reached _ _ _ _ rest _ _ _ _ _ _ c.in-Ends.line c.in-Ends.next c.loop-line.invariant.moves ends answered.ok answered.none_begun;
      held = answered.held;
      later = omega (arith, c.loop-line.invariant.later, answered.later);
      same = unchanged_both _ _ _ c.loop-line.invariant.same answered.same;
      sure = λ s. (answered.sure (c.loop-line.invariant.sure s)).0;
    }

pub returns-in-Leads-clause-ok : goal.returns-in-Leads-clause-ok
returns-in-Leads-clause-ok g c =
    let cut = g.R.Cutter.Cutter.framing in
    let leads = subst (λ at. Goes cut at c.loop-line.rest.now c.in-Leads.at) c.at.ensures c.in-Leads.ensures in
    let kept = c.in_ok-lead-in-Leads.ensures in
    moves_rest cut g.R.Responder.reached _ _ _ _ _ _ _ c.in-Leads.at _ _ c.loop-line.invariant.moves leads kept.first kept.at
