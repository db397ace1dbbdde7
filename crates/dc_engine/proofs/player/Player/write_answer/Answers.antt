use Rattle.std.proofs.Common.{◌++◌, length, ap, ◌∙◌, arith, rules}
use Rattle.std.specs.List.{flat_map}
use Rattle.std.proofs.lemmas.List.{take_all}
use Rattle.dc_engine.proofs.commands.Applied.{line_shown}
use Rattle.dc_engine.proofs.player.Player.write_answer.Goals as goal

pub returns-in_default-clause-err : goal.returns-in_default-clause-err
returns-in_default-clause-err g c = take_all (length c.args.out.now.items) c.args.out.now.items (omega arith)

pub returns-in_ok-write_replies-in-Ok-clause-ok : goal.returns-in_ok-write_replies-in-Ok-clause-ok
returns-in_ok-write_replies-in-Ok-clause-ok g c =
    line_shown g.M.Disk.Disk.state g.G.Ground.sound g.F.Cutter.framing g.W.Writer.spelled c.args.self.now c.self.inside.cluster c.answer_to.new.cluster c.hand_back.new.self c.self.inside.met_bad c.answer_to.new.met_bad c.self.inside.count c.in-Some.number c.args.line.now c.in-Ok.steps.items c.args.out.now.items c.write_replies.new.out.items
    c.self.view_is c.in-Ok.ensures.ok (λ x. c.in-Ok.ensures.stays (c.requires.ground x)) c.hand_back.ensures (search rules)
    (c.in_ok-write_replies-in-Ok.ensures.ok ∙ ap (λ l. c.args.out.now.items ++ flat_map (g.W.Writer.spelled c.in-Some.number) l) c.as_slice.ensures.value)

pub returns-in-Err-clause-err : goal.returns-in-Err-clause-err
returns-in-Err-clause-err g c = take_all (length c.args.out.now.items) c.args.out.now.items (omega arith)
