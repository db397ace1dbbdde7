use Rattle.script_text.proofs.Cuts.{end_of_spaces}
use Rattle.script_text.proofs.split.trimmed.Goals as goal

pub split_at-requires : goal.split_at-requires
split_at-requires c = rw (c.spaces.ensures, c.as_bytes.ensures.value) (end_of_spaces c.args.line.now c.utf8.line)
