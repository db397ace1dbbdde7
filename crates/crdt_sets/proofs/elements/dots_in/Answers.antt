use Rattle.std.proofs.Common.{◌≡◌, ap, ◌∙◌, sym, subst, IfOk, Bool}
use Rattle.std.specs.Option.{option_copied}
use Rattle.crdt_core.specs.Kept.{KeptAt, dots_of}
use Rattle.crdt_sets.proofs.Lists.{at_some, at_none, no_dots}
use Rattle.crdt_sets.proofs.elements.dots_in.Goals as goal

pub returns-in-Some : goal.returns-in-Some
returns-in-Some c =
    let here = at_some c.args.elements.now.entries c.args.text.now c.in-Some.kept.now (sym c.get.ensures.value ∙ ap option_copied c.in-Some.is) in
    subst (λ (k : KeptAt Bool). IfOk c.dots.result (λ d. d ≡ dots_of k)) (sym here) c.dots.ensures

pub returns-in-None : goal.returns-in-None
returns-in-None c =
    c.new.ensures ∙ sym (ap dots_of (at_none c.args.elements.now.entries c.args.text.now (sym c.get.ensures.value ∙ ap option_copied c.in-None.is)) ∙ no_dots)
