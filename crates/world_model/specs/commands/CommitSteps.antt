-- The steps of a commit: votes of the participants in ascending order, the lead first; the decision of the lead; and the ends at
-- the others (Clock-SI, with one commit point at the lead).
use Rattle.std.specs.Prelude.{ℕ, max, Bool, true, false, List, [], ◌∷◌, ◌++◌}
use Rattle.site_vector.specs.Vector.{replaced}
use Rattle.world_model.specs.declared.commit.What.{What}
use Rattle.world_model.specs.declared.commit.What.TheVariants as what
use Rattle.world_model.specs.declared.commit.Next.{Next}
use Rattle.world_model.specs.declared.commit.Next.TheVariants as next
use Rattle.world_model.specs.declared.step.Step.{Step}
use Rattle.world_model.specs.declared.step.Step.TheVariants as step

-- how far a commit has come; participants are told by their numbers
pub data Going : Type 0 where
  -- who voted, who is left to ask, and the greatest vote so far
  Preparing : (voted left : List ℕ) (time : ℕ) → Going
  -- decided at this commit time: who is left to finish
  Finishing : (left : List ℕ) (time : ℕ) → Going
  -- given up: who voted and is left to abort
  Aborting : (left : List ℕ) → Going

-- with these participants, the lead first
abbrev pub starting : List ℕ → Going
starting parts = Preparing [] parts 0

-- its session gives it up: not once it is decided
abbrev pub given_up : Going → Going
given_up (Preparing voted left n) = Aborting voted
given_up (Finishing left n) = Finishing left n
given_up (Aborting left) = Aborting left

-- the next step of a transaction of this site with this snapshot
abbrev pub next_step : ℕ → List ℕ → Going → What
next_step site s (Preparing voted (p ∷ left) n) = what.Prepare p
next_step site s (Preparing [] [] n) = what.Done
next_step site s (Preparing (lead ∷ others) [] n) = what.Decide lead (replaced s site n)
next_step site s (Finishing (p ∷ left) n) = what.Finish p (replaced s site n)
next_step site s (Finishing [] n) = what.Done
next_step site s (Aborting (p ∷ left)) = what.Abort p
next_step site s (Aborting []) = what.Done

abbrev pub is_done : Going → Bool
is_done (Preparing [] [] n) = true
is_done (Finishing [] n) = true
is_done (Aborting []) = true
is_done other = false

-- the answer to the request for a vote of p: a wait or a limit leaves all as it is; where p is down, or its disk failed, all that
-- voted are aborted
abbrev pub after_vote : List ℕ → ℕ → List ℕ → ℕ → Step → Going × Next
after_vote voted p left n (step.Prepared q t m) = (Preparing (voted ++ p ∷ []) left (max m n), next.Go)
after_vote voted p left n (step.Down q) = (Aborting voted, next.Go)
after_vote voted p left n (step.Disk q) = (Aborting voted, next.Go)
after_vote voted p left n other = (Preparing voted (p ∷ left) n, next.Stay)

-- the lead's answer: where it doesn't know the transaction the others abort; where its disk failed nobody but its log can tell
abbrev pub after_decision : ℕ → List ℕ → ℕ → Step → Going × Next
after_decision lead others n (step.Decided q t c) = (Finishing others n, next.Go)
after_decision lead others n (step.Gone q t) = (Aborting others, next.Go)
after_decision lead others n (step.Unsure t) = (Aborting [], next.Go)
after_decision lead others n other = (Preparing (lead ∷ others) [] n, next.Stay)

abbrev pub after_finish : ℕ → List ℕ → ℕ → Step → Going × Next
after_finish p left n (step.Finished q t) = (Finishing left n, next.Go)
after_finish p left n (step.Gone q t) = (Finishing left n, next.Go)
after_finish p left n other = (Finishing (p ∷ left) n, next.Stay)

-- how a commit stands after an answer to its next step, and whether the command goes on; whatever answers an abort, the next follows
abbrev pub after : Going → Step → Going × Next
after (Preparing voted (p ∷ left) n) s = after_vote voted p left n s
after (Preparing [] [] n) s = (Preparing [] [] n, next.Go)
after (Preparing (lead ∷ others) [] n) s = after_decision lead others n s
after (Finishing (p ∷ left) n) s = after_finish p left n s
after (Finishing [] n) s = (Finishing [] n, next.Go)
after (Aborting (p ∷ left)) s = (Aborting left, next.Go)
after (Aborting []) s = (Aborting [], next.Go)
