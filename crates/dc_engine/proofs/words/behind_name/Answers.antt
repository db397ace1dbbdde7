use Rattle.std.proofs.Common.{arith, length, drop, ◌-◌, length-drop}
use Rattle.std.proofs.lemmas.List.{take_all}
use Rattle.dc_engine.proofs.words.behind_name.Goals as goal

pub returns-in-len1-up : goal.returns-in-len1-up
returns-in-len1-up c = take_all (length c.args.words.now - 1) (drop 1 c.args.words.now) (omega (arith, length-drop 1 c.args.words.now))
