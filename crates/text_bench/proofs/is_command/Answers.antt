use Rattle.std.proofs.Common.{ap, Err}
use Rattle.script_text.specs.declared.Parsed.TheVariants as parsed
use Rattle.text_bench.proofs.is_command.Goals as goal

pub returns-in-Err-Bad-clause-none : goal.returns-in-Err-Bad-clause-none
returns-in-Err-Bad-clause-none c = λ e k. c.in-Err-Bad.ensures.bad (ap (λ x. Err x) c.in-Err-Bad.field-0-is) (parsed.Command k)
