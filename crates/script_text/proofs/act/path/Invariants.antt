use Rattle.std.proofs.Common.{◌≡◌, ◌++◌, length}
use Rattle.std.specs.Prelude.{option_map}
use Rattle.std.specs.Str.{IsUtf8}
use Rattle.script_text.specs.Objects.{path}
use Rattle.script_text.specs.Split.{words}
use Rattle.script_text.proofs.act.path.Given as goal

abbrev pub invariant-loop-name : goal.invariant-loop-name
invariant-loop-name l = (path (words l.fn.line) ≡ option_map (λ p. (l.fields ++ p.0, p.1)) (path (words l.rest))) × IsUtf8 l.rest

abbrev pub decreases-loop-name : goal.decreases-loop-name
decreases-loop-name l = length (words l.rest)
