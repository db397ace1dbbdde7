use Rattle.std.proofs.Common.{sym, ap, ◌∙◌}
use Rattle.field_codec.specs.Spelling.{may_follow, last_of}
use Rattle.std.proofs.lemmas.Result.{err_from_is_err_and}
use Rattle.field_codec.proofs.Loops.{goes_on, refused, fails, is_done}
use Rattle.field_codec.proofs.members.take_members.Goals as goal

pub returns-in_err-member-clause-answer : goal.returns-in_err-member-clause-answer
returns-in_err-member-clause-answer g c =
    let p = err_from_is_err_and c.from_residual-in_err-member.result c.from_residual-in_err-member.ensures.1 in
    rw (p.1, p.2) (fails _ _ c.loop.members c.args.count c.loop.counter c.args.bytes.now c.loop.place c.in_err-member.field-0.0 _ c.loop-test.true c.in_err-member.ensures.answer c.loop.invariant.answer)

pub returns-then-not-goes_on-clause-answer : goal.returns-then-not-goes_on-clause-answer
returns-then-not-goes_on-clause-answer g c = refused _ _ c.loop.members c.args.count c.loop.counter c.args.bytes.now c.loop.place c.in_ok-member.member c.in_ok-member.end _ c.loop-test.true c.in_ok-member.ensures.answer (sym c.if-not-goes_on.true ∙ c.goes_on.ensures ∙ ap (λ vs. may_follow (g.F.Form.follows c.args.form.now) (last_of vs) c.in_ok-member.member) c.as_slice.ensures) c.loop.invariant.answer

pub loop-preserved : goal.loop-preserved
loop-preserved g c = record {
  within = c.in_ok-member.ensures.within;
  answer = rw c.in_ok-push.ensures.ok (goes_on _ _ c.loop.members c.args.count c.loop.counter c.args.bytes.now c.loop.place c.in_ok-member.member c.in_ok-member.end _ c.loop-test.true c.in_ok-member.ensures.answer (sym c.if-not-goes_on.false ∙ c.goes_on.ensures ∙ ap (λ vs. may_follow (g.F.Form.follows c.args.form.now) (last_of vs) c.in_ok-member.member) c.as_slice.ensures) c.loop.invariant.answer);
}

pub returns-clause-answer : goal.returns-clause-answer
returns-clause-answer g c = is_done _ _ c.loop.members c.args.count c.loop.counter c.args.bytes.now c.loop.place _ c.loop-test.false c.loop.invariant.answer
