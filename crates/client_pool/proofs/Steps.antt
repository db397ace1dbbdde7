-- A step of a commit: what its answer leaves, and what is done then.
use Rattle.std.proofs.Common.{◌≡◌, inl, inr, ◌⊎◌, ℕ, Bool, true, false, List, [], ◌∷◌, ◌++◌, refl, sym, ap, ◌∙◌, subst, append_assoc, append-nil}
use Rattle.std.specs.Prelude.{Option, None, Some, max, Result, Ok, Err}
use Rattle.site_vector.specs.declared.ids.PartId.{PartId}
use Rattle.site_vector.specs.declared.ids.TxId.{TxId}
use Rattle.world_model.specs.declared.commit.What.{What}
use Rattle.world_model.specs.declared.commit.What.TheVariants as what
use Rattle.world_model.specs.declared.commit.Next.{Next}
use Rattle.world_model.specs.declared.step.Step.{Step}
use Rattle.world_model.specs.declared.step.Step.TheVariants as step
use Rattle.world_model.specs.commands.CommitSteps.{Going, Preparing, Finishing, Aborting, next_step, after}
use Rattle.world_model.specs.rules.Event.{Event, Prepared, Decided, Finished, Entry}
use Rattle.world_model.specs.rules.Lines.{step_shown}
use Rattle.txn_session.specs.NextPart.{part_asked}
use Rattle.client_pool.specs.declared.outcome.Outcome.{Outcome}
use Rattle.client_pool.specs.declared.outcome.Outcome.TheVariants as outcome
use Rattle.client_pool.specs.declared.outcome.Progress.{Progress}
use Rattle.client_pool.specs.declared.outcome.Progress.TheVariants as progress
use Rattle.client_pool.specs.Outcomes.{outcome_of}
use Rattle.client_pool.specs.Told.{progress_as, progress_of}
use Rattle.client_pool.specs.Deeds.{Deed, Prepares, Decides, Finishes, IsDone}
use Rattle.client_pool.specs.Commits.{one_by_one, votes, decided, ends, committing_at, HasDone}

pub one_more : (deed : ℕ → Deed) (ps : List ℕ) (p : ℕ) (done : List Deed) → deed p ∷ one_by_one deed ps done ≡ one_by_one deed (ps ++ p ∷ []) done
one_more deed [] p done = refl
one_more deed (q ∷ ps) p done = one_more deed ps p (deed q ∷ done)

abbrev some_or : ℕ → Option ℕ → ℕ
some_or d None = d
some_or d (Some n) = n

pub some_same : (a b : ℕ) → (let o : Option ℕ = Some a in o ≡ Some b) → a ≡ b
some_same a b e = ap (some_or a) e

pub nothing_asked : (w : What) → part_asked w ≡ None → w ≡ what.Done
nothing_asked (what.Prepare p) h = absurd cc
nothing_asked (what.Decide p c) h = absurd cc
nothing_asked (what.Finish p c) h = absurd cc
nothing_asked (what.Abort p) h = absurd cc
nothing_asked what.Done h = refl

-- what a step came to
is_on : (o : Outcome) → progress_as o ≡ progress.On → (o ≡ outcome.Done) ⊎ (o ≡ outcome.Again)
is_on outcome.Done h = inl refl
is_on outcome.Again h = inr refl
is_on outcome.Stopped h = absurd cc

is_stopped : (o : Outcome) → progress_as o ≡ progress.Stopped → o ≡ outcome.Stopped
is_stopped outcome.Done h = absurd cc
is_stopped outcome.Again h = absurd cc
is_stopped outcome.Stopped h = refl

isnt_lost : (o : Outcome) → progress_as o ≡ progress.NoMemory → ⊥
isnt_lost outcome.Done h = cc
isnt_lost outcome.Again h = cc
isnt_lost outcome.Stopped h = cc

module _ {X : Type 0} where
  pub went_on : (r : Result (Step × Next) X) → progress_of r ≡ progress.On → (x : Step × Next) × (r ≡ Ok x) × ((outcome_of x.0 ≡ outcome.Done) ⊎ (outcome_of x.0 ≡ outcome.Again))
  went_on (Ok x) h = (x, refl, is_on (outcome_of x.0) h)
  went_on (Err e) h = absurd cc

  pub has_stopped : (r : Result (Step × Next) X) → progress_of r ≡ progress.Stopped → (x : Step × Next) × (r ≡ Ok x) × (outcome_of x.0 ≡ outcome.Stopped)
  has_stopped (Ok x) h = (x, refl, is_stopped (outcome_of x.0) h)
  has_stopped (Err e) h = absurd cc

  pub was_made : (r : Result (Step × Next) X) → (progress_of r ≡ progress.NoMemory → ⊥) → (x : Step × Next) × (r ≡ Ok x)
  was_made (Ok x) h = (x, refl)
  was_made (Err e) h = absurd (h refl)

-- what is asked again leaves the commit where it is
pub vote_again : (voted : List ℕ) (p : ℕ) (left : List ℕ) (n : ℕ) (answer : Step) → outcome_of answer ≡ outcome.Again → (after (Preparing voted (p ∷ left) n) answer).0 ≡ Preparing voted (p ∷ left) n
vote_again voted p left n (step.Prepared q t m) h = absurd cc
vote_again voted p left n (step.Down q) h = absurd cc
vote_again voted p left n (step.Disk q) h = absurd cc
vote_again voted p left n other h = refl

pub decide_again : (lead : ℕ) (others : List ℕ) (n : ℕ) (answer : Step) → outcome_of answer ≡ outcome.Again → (after (Preparing (lead ∷ others) [] n) answer).0 ≡ Preparing (lead ∷ others) [] n
decide_again lead others n (step.Decided q t c) h = absurd cc
decide_again lead others n (step.Gone q t) h = absurd cc
decide_again lead others n (step.Unsure t) h = absurd cc
decide_again lead others n other h = refl

pub finish_again : (p : ℕ) (left : List ℕ) (n : ℕ) (answer : Step) → outcome_of answer ≡ outcome.Again → (after (Finishing (p ∷ left) n) answer).0 ≡ Finishing (p ∷ left) n
finish_again p left n (step.Finished q t) h = absurd cc
finish_again p left n (step.Gone q t) h = absurd cc
finish_again p left n other h = refl

-- what is done takes it on
module _ {E : Type 0} (before : List (Entry E)) (at : PartId) where
  pub vote_done : (e : Event E) (q : PartId) (t : TxId) (voted : List ℕ) (p : ℕ) (left : List ℕ) (n : ℕ) → IsDone (Prepares q t) at e → (m : ℕ) × ((after (Preparing voted (p ∷ left) n) (step_shown before at e)).0 ≡ Preparing (voted ++ p ∷ []) left m)
  vote_done (Prepared u s l w k) q t voted p left n h = (max k n, refl)
  vote_done other q t voted p left n h = absurd h

  pub decide_done_on : (e : Event E) (q : PartId) (t : TxId) (lead : ℕ) (others : List ℕ) (n : ℕ) → IsDone (Decides q t) at e → (after (Preparing (lead ∷ others) [] n) (step_shown before at e)).0 ≡ Finishing others n
  decide_done_on (Decided u c) q t lead others n h = refl
  decide_done_on other q t lead others n h = absurd h

  pub finish_done_on : (e : Event E) (q : PartId) (t : TxId) (p : ℕ) (left : List ℕ) (n : ℕ) → IsDone (Finishes q t) at e → (after (Finishing (p ∷ left) n) (step_shown before at e)).0 ≡ Finishing left n
  finish_done_on (Finished u c) q t p left n h = refl
  finish_done_on other q t p left n h = absurd h

-- so much more is done
module _ (site : ℕ) (tx : TxId) (ps : List ℕ) where
  pub voted_more : (voted : List ℕ) (p : ℕ) (left : List ℕ) (n m : ℕ) (deeds : List Deed) → HasDone site tx ps (Preparing voted (p ∷ left) n) deeds → HasDone site tx ps (Preparing (voted ++ p ∷ []) left m) (Prepares (record { site = site; part = p }) tx ∷ deeds)
  voted_more voted p left n m deeds h = (
    append_assoc voted (p ∷ []) left ∙ h.0,
    ap (λ l. Prepares (record { site = site; part = p }) tx ∷ l) h.1 ∙ one_more (λ q. Prepares (record { site = site; part = q }) tx) voted p [],
  )

  pub decided_now : (lead : ℕ) (others : List ℕ) (n m : ℕ) (deeds : List Deed) → HasDone site tx ps (Preparing (lead ∷ others) [] n) deeds → HasDone site tx ps (Finishing others m) (Decides (record { site = site; part = lead }) tx ∷ deeds)
  decided_now lead others n m deeds h = (
    lead,
    [],
    ap (λ l. lead ∷ l) (sym (append-nil others)) ∙ h.0,
    ap (λ l. Decides (record { site = site; part = lead }) tx ∷ l) h.1,
  )

  pub ended_more : (p : ℕ) (left : List ℕ) (n m : ℕ) (deeds : List Deed) → HasDone site tx ps (Finishing (p ∷ left) n) deeds → HasDone site tx ps (Finishing left m) (Finishes (record { site = site; part = p }) tx ∷ deeds)
  ended_more p left n m deeds h =
      let lead = h.0 in let front = h.1 in
      let e : front ++ (p ∷ left) ≡ (front ++ p ∷ []) ++ left = sym (append_assoc front (p ∷ []) left) in (
        lead,
        front ++ p ∷ [],
        ap (λ l. lead ∷ l) (sym e) ∙ h.2,
        ap (λ l. Finishes (record { site = site; part = p }) tx ∷ l) (h.3 ∙ ap (λ l. ends site tx front (decided site tx lead l)) e) ∙ one_more (λ q. Finishes (record { site = site; part = q }) tx) front p (decided site tx lead ((front ++ p ∷ []) ++ left)),
      )

  -- all is done where nothing is left
  pub all_done : (cs : ℕ) (v : List ℕ) (g : Going) (deeds : List Deed) → next_step cs v g ≡ what.Done → HasDone site tx ps g deeds → deeds ≡ committing_at site tx ps
  all_done cs v (Preparing [] [] n) deeds e h = h.1 ∙ ap (committing_at site tx) h.0
  all_done cs v (Preparing voted (p ∷ left) n) deeds e h = absurd cc
  all_done cs v (Preparing (lead ∷ others) [] n) deeds e h = absurd cc
  all_done cs v (Finishing (p ∷ left) n) deeds e h = absurd cc
  all_done cs v (Finishing [] n) deeds e h = h.3 ∙ (ap (λ l. ends site tx l (decided site tx h.0 (h.1 ++ []))) (sym (append-nil h.1)) ∙ ap (committing_at site tx) h.2)
  all_done cs v (Aborting left) deeds e h = absurd h
