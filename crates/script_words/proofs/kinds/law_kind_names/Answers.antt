use Rattle.script_words.proofs.KindNames as names
use Rattle.script_words.proofs.kinds.law_kind_names.Goals as goal

pub returns-clause-named : goal.returns-clause-named
returns-clause-named c = names.named

pub returns-clause-only : goal.returns-clause-only
returns-clause-only c = names.only
