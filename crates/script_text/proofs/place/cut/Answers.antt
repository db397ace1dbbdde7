use Rattle.std.proofs.Common.{◌==◌, ap, ◌∙◌}
use Rattle.std.specs.List.{position}
use Rattle.script_text.proofs.Cuts.{before_found, after_found}
use Rattle.script_text.proofs.place.cut.Goals as goal

pub split_at-requires : goal.split_at-requires
split_at-requires c = before_found _ _ c.args.byte c.requires.ascii (c.in-Some.ensures.at ∙ ap (position (λ x. x == c.args.byte)) c.as_bytes.ensures.value)

pub split_at-requires-in-Some : goal.split_at-requires-in-Some
split_at-requires-in-Some c = after_found _ _ c.args.byte c.utf8.word c.requires.ascii (c.in-Some.ensures.at ∙ ap (position (λ x. x == c.args.byte)) c.as_bytes.ensures.value)
