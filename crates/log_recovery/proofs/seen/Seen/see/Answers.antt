use Rattle.std.proofs.Common.{is_some, refl, sym, ap, ◌∙◌, subst}
use Rattle.crdt_core.specs.Fitting.{fits_record}
use Rattle.log_recovery.specs.declared.named.Vote.{Vote}
use Rattle.log_recovery.specs.declared.seen.Seen.{Seen}
use Rattle.log_recovery.specs.Fates.{fates_of, may_prepare, Sees}
use Rattle.log_recovery.proofs.FateSteps.{wide_put}
use Rattle.log_recovery.proofs.Seeing.{judged_prepare, sees_prepare, prepare_wide}
use Rattle.log_recovery.proofs.seen.Seen.see.Goals as goal

pub returns-in_ok-wait-in-Prepare-clause-judges : goal.returns-in_ok-wait-in-Prepare-clause-judges
returns-in_ok-wait-in-Prepare-clause-judges g c =
    let old : Seen = c.args.self.now in
    let vote : Vote = record { lead = c.in-Prepare.lead; time = c.in-Prepare.time; s = c.in-Prepare.s } in
    λ log s. c.may_prepare-fits.ensures ∙ ap (λ w. may_prepare old.sites old.parts old.id (is_some (fates_of old c.in-Prepare.tx)) old.top c.in-Prepare.tx vote w) c.as_slice.ensures
    ∙ judged_prepare old log s c.in-Prepare.tx vote c.in-Prepare.updates ∙ ap (λ r. fits_record old.sites old.parts old.id old.top log r) (sym c.in-Prepare.is)

pub returns-in_ok-wait-in-Prepare-clause-sees : goal.returns-in_ok-wait-in-Prepare-clause-sees
returns-in_ok-wait-in-Prepare-clause-sees g c =
    let old : Seen = c.args.self.now in
    let vote : Vote = record { lead = c.in-Prepare.lead; time = c.in-Prepare.time; s = c.in-Prepare.s } in
    let new : Seen = record { id = old.id; sites = old.sites; parts = old.parts; top = old.top; named = c.wait.new.self; bounds = old.bounds } in
    subst (λ r. Sees old r new) (sym c.in-Prepare.is) (sees_prepare old new c.in-Prepare.tx vote c.in-Prepare.updates c.in_ok-wait-in-Prepare.ensures refl)

pub returns-in_ok-wait-in-Prepare-clause-sound : goal.returns-in_ok-wait-in-Prepare-clause-sound
returns-in_ok-wait-in-Prepare-clause-sound g c =
    let old : Seen = c.args.self.now in
    let vote : Vote = record { lead = c.in-Prepare.lead; time = c.in-Prepare.time; s = c.in-Prepare.s } in
    λ h. record {
      least = c.requires.least;
      most = c.requires.most;
      first = c.requires.first;
      last = c.requires.last;
      some = c.requires.some;
      bounds = c.requires.bounds;
      votes = wide_put old.sites (fates_of old) _ c.in-Prepare.tx vote (prepare_wide old.sites old.parts old.id (is_some (fates_of old c.in-Prepare.tx)) old.top c.in-Prepare.tx vote c.as_slice.result.now (sym c.may_prepare-fits.ensures ∙ h)) c.in_ok-wait-in-Prepare.ensures c.requires.votes;
    }
