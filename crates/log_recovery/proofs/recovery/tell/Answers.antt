use Rattle.std.proofs.Common.{◌≤◌, ap, ◌∙◌, refl, subst}
use Rattle.site_vector.specs.Vector.{replaced}
use Rattle.log_recovery.specs.Lists.{least_below}
use Rattle.log_recovery.proofs.Steps.{all_told}
use Rattle.log_recovery.proofs.recovery.tell.Goals as goal

pub returns : goal.returns
returns g c = λ sites parts log fits read width.
    let ledger = c.args.ledger in
    let own = ap (λ l. least_below ledger.ceiling l) (c.as_slice.ensures ∙ c.in_ok-pending.ensures) in
    all_told sites parts c.args.id log fits ledger read width c.requires.first (subst (λ n. c.args.id.site ≤ n) width c.requires.last) _ refl c.in_ok-pending.ensures refl
    (c.with.ensures ∙ ap (λ n. replaced ledger.bounds c.args.id.site n) (c.own_bound-own.ensures ∙ own)) refl
