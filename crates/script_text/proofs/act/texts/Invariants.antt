use Rattle.std.proofs.Common.{◌≡◌, ◌++◌, length}
use Rattle.std.specs.Prelude.{option_map}
use Rattle.std.specs.Str.{IsUtf8}
use Rattle.script_text.specs.Acts.{texts}
use Rattle.script_text.specs.Split.{words}
use Rattle.script_text.proofs.act.texts.Given as goal

abbrev pub invariant-loop-word : goal.invariant-loop-word
invariant-loop-word l = (texts (words l.fn.line) ≡ option_map (λ ts. l.all ++ ts) (texts (words l.rest))) × IsUtf8 l.rest

abbrev pub decreases-loop-word : goal.decreases-loop-word
decreases-loop-word l = length (words l.rest)
