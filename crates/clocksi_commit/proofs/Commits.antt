-- How the fields of a commit stand after an answer.
use Rattle.std.proofs.Common.{arith, ◌≡◌, ℕ, ◌+◌, ◌<◌, ◌≤◌, max, true, false, List, [], ◌∷◌, ◌++◌, length, take, drop, suc, add-one, refl, sym, ap, ◌∙◌}
use Rattle.std.specs.Prelude.{nat_eq, slice_index_or}
use Rattle.site_vector.specs.Vector.{replaced}
use Rattle.world_model.specs.declared.commit.What.TheVariants as what
use Rattle.std.proofs.lemmas.List.{get_or-take, length-take-le, take_more, take_all, drop_all}
use Rattle.std.proofs.Math.Seq.{drop-cons}
use Rattle.std.proofs.Math.Dec.{eqb-suc-zero}
use Rattle.world_model.specs.declared.step.Step.{Step}
use Rattle.world_model.specs.declared.step.Step.TheVariants as step
use Rattle.world_model.specs.declared.commit.Next.TheVariants as next
use Rattle.world_model.specs.commands.CommitSteps.{Going, Preparing, Finishing, Aborting, next_step, is_done, after, after_vote, after_decision, after_finish}
use Rattle.clocksi_commit.specs.declared.commit.Stage.{Stage}
use Rattle.clocksi_commit.specs.declared.commit.Stage.TheVariants.{Prepares, Finishes, Aborts}
use Rattle.clocksi_commit.specs.declared.commit.Vote.TheVariants as vote
use Rattle.clocksi_commit.specs.declared.commit.Decision.TheVariants as decision
use Rattle.clocksi_commit.specs.Answers.{vote_of, decision_of, ends_finish}
use Rattle.clocksi_commit.specs.Commit.{going_of}

pub vote_given : (done : List ℕ) (p : ℕ) (left : List ℕ) (n m : ℕ) (s : Step) → vote_of s ≡ vote.Given m → after_vote done p left n s ≡ (Preparing (done ++ p ∷ []) left (max m n), next.Go)
vote_given done p left n m (step.Prepared q t k) e = let h : k ≡ m = cc in (λ i. (Preparing (done ++ p ∷ []) left (max (h i) n), next.Go))
vote_given done p left n m (step.Down q) e = cc
vote_given done p left n m (step.Disk q) e = cc
vote_given done p left n m other e = cc

pub vote_refused : (done : List ℕ) (p : ℕ) (left : List ℕ) (n : ℕ) (s : Step) → vote_of s ≡ vote.Refused → after_vote done p left n s ≡ (Aborting done, next.Go)
vote_refused done p left n (step.Prepared q t k) e = cc
vote_refused done p left n (step.Down q) e = refl
vote_refused done p left n (step.Disk q) e = refl
vote_refused done p left n other e = cc

pub vote_waits : (done : List ℕ) (p : ℕ) (left : List ℕ) (n : ℕ) (s : Step) → vote_of s ≡ vote.Waits → after_vote done p left n s ≡ (Preparing done (p ∷ left) n, next.Stay)
vote_waits done p left n (step.Prepared q t k) e = cc
vote_waits done p left n (step.Down q) e = cc
vote_waits done p left n (step.Disk q) e = cc
vote_waits done p left n other e = refl

pub decision_made : (lead : ℕ) (others : List ℕ) (n : ℕ) (s : Step) → decision_of s ≡ decision.Made → after_decision lead others n s ≡ (Finishing others n, next.Go)
decision_made lead others n (step.Decided q t c) e = refl
decision_made lead others n (step.Gone q t) e = cc
decision_made lead others n (step.Unsure t) e = cc
decision_made lead others n other e = cc

pub decision_unknown : (lead : ℕ) (others : List ℕ) (n : ℕ) (s : Step) → decision_of s ≡ decision.Unknown → after_decision lead others n s ≡ (Aborting others, next.Go)
decision_unknown lead others n (step.Decided q t c) e = cc
decision_unknown lead others n (step.Gone q t) e = refl
decision_unknown lead others n (step.Unsure t) e = cc
decision_unknown lead others n other e = cc

pub decision_in_doubt : (lead : ℕ) (others : List ℕ) (n : ℕ) (s : Step) → decision_of s ≡ decision.InDoubt → after_decision lead others n s ≡ (Aborting [], next.Go)
decision_in_doubt lead others n (step.Decided q t c) e = cc
decision_in_doubt lead others n (step.Gone q t) e = cc
decision_in_doubt lead others n (step.Unsure t) e = refl
decision_in_doubt lead others n other e = cc

pub decision_waits : (lead : ℕ) (others : List ℕ) (n : ℕ) (s : Step) → decision_of s ≡ decision.Waits → after_decision lead others n s ≡ (Preparing (lead ∷ others) [] n, next.Stay)
decision_waits lead others n (step.Decided q t c) e = cc
decision_waits lead others n (step.Gone q t) e = cc
decision_waits lead others n (step.Unsure t) e = cc
decision_waits lead others n other e = refl

pub finish_ends : (p : ℕ) (left : List ℕ) (n : ℕ) (s : Step) → ends_finish s ≡ true → after_finish p left n s ≡ (Finishing left n, next.Go)
finish_ends p left n (step.Finished q t) e = refl
finish_ends p left n (step.Gone q t) e = refl
finish_ends p left n other e = cc

pub finish_waits : (p : ℕ) (left : List ℕ) (n : ℕ) (s : Step) → ends_finish s ≡ false → after_finish p left n s ≡ (Finishing (p ∷ left) n, next.Stay)
finish_waits p left n (step.Finished q t) e = cc
finish_waits p left n (step.Gone q t) e = cc
finish_waits p left n other e = refl

undone : (k : Stage) (done : List ℕ) (p : ℕ) (left : List ℕ) (n : ℕ) → is_done (going_of k done (p ∷ left) n) ≡ false
undone Prepares [] p left n = refl
undone Prepares (q ∷ done) p left n = refl
undone Finishes done p left n = refl
undone Aborts done p left n = refl

all_asked : (parts : List ℕ) (n : ℕ) → nat_eq (length parts) 0 ≡ is_done (Preparing parts [] n)
all_asked [] n = refl
all_asked (p ∷ parts) n = eqb-suc-zero (length parts)

module _ (parts : List ℕ) (count at n : ℕ) (most : count ≤ 16) (size : length parts ≡ 16) (g : Going) (stage : Stage) (is : going_of stage (take at (take count parts)) (drop at (take count parts)) n ≡ g) where
  abbrev front : List ℕ
  front = take at (take count parts)

  abbrev rest : List ℕ
  rest = drop (at + 1) (take count parts)

  abbrev one : ℕ
  one = slice_index_or parts at 0

  rest_is : at < count → drop at (take count parts) ≡ one ∷ rest
  rest_is low =
      let long : at < length (take count parts) = omega (arith, length-take-le count parts (omega arith)) in
      drop-cons (take count parts) at 0 long ∙ (ap (λ x. x ∷ drop (suc at) (take count parts)) (get_or-take count parts at 0 low) ∙ ap (λ k. one ∷ drop k (take count parts)) (sym (add-one at)))

  pub front_is : at < count → take (at + 1) (take count parts) ≡ front ++ one ∷ []
  front_is low =
      let long : at < length (take count parts) = omega (arith, length-take-le count parts (omega arith)) in
      take_more (take count parts) at 0 long ∙ ap (λ x. front ++ x ∷ []) (get_or-take count parts at 0 low)

  -- another participant is due
  pub due : (k : Stage) → stage ≡ k → at < count → g ≡ going_of k front (one ∷ rest) n
  due k e low = sym is ∙ (λ i. going_of (e i) front (rest_is low i) n)

  -- all were asked
  pub over : (k : Stage) → stage ≡ k → count ≤ at → at ≤ count → g ≡ going_of k (take count parts) [] n
  over k e high low =
      let whole : length (take count parts) ≡ count = length-take-le count parts (omega arith) in
      let same : at ≡ count = omega arith in
      let all : take at (take count parts) ≡ take count parts = take_all at (take count parts) (omega arith) in
      let none : drop at (take count parts) ≡ [] = drop_all at (take count parts) (omega arith) in
      sym is ∙ (λ i. going_of (e i) (all i) (none i) n)

  pub not_done : at < count → false ≡ is_done g
  not_done low = sym (ap is_done (due stage refl low) ∙ undone stage front one rest n)

  pub maybe_done : stage ≡ Prepares → count ≤ at → at ≤ count → nat_eq count 0 ≡ is_done g
  maybe_done e high low =
      let whole : length (take count parts) ≡ count = length-take-le count parts (omega arith) in
      sym (ap (λ k. nat_eq k 0) whole) ∙ (all_asked (take count parts) n ∙ sym (ap is_done (over Prepares e high low)))

  -- the lead and the others
  pub lead_is : (count ≡ 0 → ⊥) → take count parts ≡ slice_index_or parts 0 0 ∷ drop 1 (take count parts)
  lead_is some =
      let long : 0 < length (take count parts) = omega (arith, length-take-le count parts (omega arith)) in
      drop-cons (take count parts) 0 0 long ∙ ap (λ x. x ∷ drop 1 (take count parts)) (get_or-take count parts 0 0 (omega arith))

  pub led : stage ≡ Prepares → count ≤ at → at ≤ count → (count ≡ 0 → ⊥) → g ≡ Preparing (slice_index_or parts 0 0 ∷ drop 1 (take count parts)) [] n
  led e high low some = over Prepares e high low ∙ ap (λ l. Preparing l [] n) (lead_is some)

  module _ (site : ℕ) (s : List ℕ) where
    pub next_prepare : stage ≡ Prepares → at < count → what.Prepare one ≡ next_step site s g
    next_prepare e low = sym (ap (next_step site s) (due Prepares e low))

    pub next_finish : (c : List ℕ) → stage ≡ Finishes → at < count → c ≡ replaced s site n → what.Finish one c ≡ next_step site s g
    next_finish c e low v = ap (λ x. what.Finish one x) v ∙ sym (ap (next_step site s) (due Finishes e low))

    pub next_abort : stage ≡ Aborts → at < count → what.Abort one ≡ next_step site s g
    next_abort e low = sym (ap (next_step site s) (due Aborts e low))

    pub next_decide : (c : List ℕ) → stage ≡ Prepares → count ≤ at → at ≤ count → (count ≡ 0 → ⊥) → c ≡ replaced s site n → what.Decide (slice_index_or parts 0 0) c ≡ next_step site s g
    next_decide c e high low some v = ap (λ x. what.Decide (slice_index_or parts 0 0) x) v ∙ sym (ap (next_step site s) (led e high low some))

  module _ (a : Step) where
    pub given : (m t : ℕ) → stage ≡ Prepares → at < count → vote_of a ≡ vote.Given m → t ≡ max m n → going_of stage (take (at + 1) (take count parts)) rest t ≡ (after g a).0
    given m t e low v time = (λ i. going_of (e i) (front_is low i) rest (time i)) ∙ sym (ap (λ x. (after x a).0) (due Prepares e low) ∙ ap (λ r. r.0) (vote_given front one rest n m a v))

    pub finished : stage ≡ Finishes → at < count → ends_finish a ≡ true → going_of stage (take (at + 1) (take count parts)) rest n ≡ (after g a).0
    finished e low v = (λ i. going_of (e i) (take (at + 1) (take count parts)) rest n) ∙ sym (ap (λ x. (after x a).0) (due Finishes e low) ∙ ap (λ r. r.0) (finish_ends one rest n a v))

    pub aborted : stage ≡ Aborts → at < count → going_of stage (take (at + 1) (take count parts)) rest n ≡ (after g a).0
    aborted e low = (λ i. going_of (e i) (take (at + 1) (take count parts)) rest n) ∙ sym (ap (λ x. (after x a).0) (due Aborts e low))
