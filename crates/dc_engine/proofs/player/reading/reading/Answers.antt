use Rattle.std.proofs.Common.{sym, subst, ◌∙◌, ap, option_and_then}
use Rattle.dc_engine.specs.Reading.{reading_of, AsksSaid}
use Rattle.dc_engine.proofs.commands.Readings.{whenever_done, read_ok, read_bad, reads_said}
use Rattle.dc_engine.proofs.player.reading.reading.Goals as goal

pub returns-in-Some-clause-read : goal.returns-in-Some-clause-read
returns-in-Some-clause-read g c = whenever_done c.parse.result (λ r. read_ok c.in-Some.text.now c.parse.new.parsed r ∙ ap (option_and_then reading_of) c.in-Some.ensures) c.parse.ensures.ok

pub returns-in-Some-clause-said : goal.returns-in-Some-clause-said
returns-in-Some-clause-said g c = whenever_done c.parse.result (λ r. let line = c.in-Some.text.now in subst AsksSaid (sym (read_ok line c.parse.new.parsed r)) (reads_said line)) c.parse.ensures.ok

pub returns-in-Some-clause-bad : goal.returns-in-Some-clause-bad
returns-in-Some-clause-bad g c e = read_bad c.in-Some.text.now (c.parse.ensures.bad e) ∙ ap (option_and_then reading_of) c.in-Some.ensures
