use Rattle.std.specs.Prelude.{true, false, Err}
use Rattle.std.proofs.Common.{◌∙◌, ap}
use Rattle.dc_engine.proofs.bytes.Progress.{played_all}
use Rattle.dc_engine.proofs.script.play_script.Goals as goal

pub returns-then-has_met_bad-clause-played : goal.returns-then-has_met_bad-clause-played
returns-then-has_met_bad-clause-played g c =
    let all = rw c.in-Ok.is at c.play_blocks.ensures.finished in
    played_all g.R.Cutter.Cutter.framing _ g.R.Responder.reached _ _ true _ _ _ _ c.if-has_met_bad.true all c.has_met_bad.ensures

pub returns-else-has_met_bad-clause-played : goal.returns-else-has_met_bad-clause-played
returns-else-has_met_bad-clause-played g c =
    let all = rw c.in-Ok.is at c.play_blocks.ensures.finished in
    played_all g.R.Cutter.Cutter.framing _ g.R.Responder.reached _ _ false _ _ _ _ c.if-has_met_bad.false all c.has_met_bad.ensures

pub returns-in-Err-Write-clause-played : goal.returns-in-Err-Write-clause-played
returns-in-Err-Write-clause-played g c =
    let fault = c.in-Err-Write.is ∙ ap Err c.in-Err-Write.field-0-is in
    (rw fault at c.play_blocks.ensures.finished, c.play_blocks.ensures.write_cause fault)
