-- A commit keeps its law, turn by turn.
use Rattle.std.proofs.Common.{◌≡◌, inl, inr, ℕ, max, Bool, true, false, List, [], ◌∷◌, ◌++◌, refl, sym, ap, ◌∙◌, subst}
use Rattle.std.specs.Prelude.{◌⊎◌, ◌||◌, ◌==◌}
use Rattle.std.proofs.Math.Bool.{or-false, or_comm}
use Rattle.std.proofs.Math.Nat.{zero-max}
use Rattle.std.proofs.lemmas.List.{append_assoc, append-nil}
use Rattle.std.proofs.lemmas.List.Folds.{list_any-append}
use Rattle.std.proofs.lemmas.Bool.{true≢false, eq-eqb}
use Rattle.site_vector.specs.Vector.{replaced}
use Rattle.world_model.specs.declared.commit.What.TheVariants as what
use Rattle.world_model.specs.declared.step.Step.{Step}
use Rattle.world_model.specs.declared.step.Step.TheVariants as step
use Rattle.world_model.specs.commands.CommitSteps.{Going, Preparing, Finishing, Aborting, given_up, next_step, after}
use Rattle.clocksi_commit.specs.Law.{Turn, Answered, GivenUp, standing, Made, steps_made, voted, greatest_vote, decided, in_doubt, ended, is_among, is_first, IsCommit, LawCommit}

-- these voted, these are left to ask, and this is the greatest vote
record IsAsking (parts : List ℕ) (made : List Made) (done left : List ℕ) (n : ℕ) : Type 0 where
  pub parts_are : done ++ left ≡ parts
  pub votes : (p : ℕ) → voted made p ≡ is_among done p
  pub time : n ≡ greatest_vote made
  pub undecided : decided made ≡ false
  pub sure : in_doubt made ≡ false

record IsEnding (made : List Made) (left : List ℕ) (n : ℕ) : Type 0 where
  pub time : n ≡ greatest_vote made
  pub is_decided : decided made ≡ true
  pub sure : in_doubt made ≡ false
  pub left_voted : (p : ℕ) → is_among left p ≡ true → voted made p ≡ true
  pub ends : (p : ℕ) → voted made p ≡ true → (is_among left p || ended made p) ≡ true

record IsGivenUp (made : List Made) (left : List ℕ) : Type 0 where
  pub undecided : decided made ≡ false
  pub doubt : in_doubt made ≡ true → left ≡ []
  pub left_voted : (p : ℕ) → is_among left p ≡ true → voted made p ≡ true
  pub ends : (p : ℕ) → voted made p ≡ true → (is_among left p || (ended made p || in_doubt made)) ≡ true

abbrev Keeps : List ℕ → List Made → Going → Type 0
Keeps parts made (Preparing done left n) = IsAsking parts made done left n
Keeps parts made (Finishing left n) = IsEnding made left n
Keeps parts made (Aborting left) = IsGivenUp made left

-- Bool
first_or : (a b : Bool) → a ≡ true → (a || b) ≡ true
first_or true b h = refl
first_or false b h = absurd (true≢false (sym h))

swap_or : (a b c : Bool) → ((a || b) || c) ≡ true → (b || (a || c)) ≡ true
swap_or true b c h = or_true b
  where
    or_true : (x : Bool) → (x || true) ≡ true
    or_true true = refl
    or_true false = refl
swap_or false b c h = h

behind_or : (a b : Bool) → b ≡ true → (a || b) ≡ true
behind_or true b h = refl
behind_or false b h = h

here : (q p : ℕ) (b : Bool) → q ≡ p → ((q == p) || b) ≡ true
here q p b e = ap (λ x. x || b) (eq-eqb q p e)

one_of : (a b : Bool) → (a || b) ≡ true → (a ≡ true) ⊎ (b ≡ true)
one_of true b h = inl refl
one_of false b h = inr h

none_in : (x : Bool) → x ≡ false → x ≡ true → (A : Type 0) → A
none_in x f t A = absurd (true≢false (sym t ∙ f))

-- the request that was made stands among the steps, and gave no vote
still : (parts : List ℕ) (made : List Made) (m : Made) (done left : List ℕ) (n : ℕ) → IsAsking parts made done left n → ((p : ℕ) → voted (m ∷ made) p ≡ voted made p) → greatest_vote (m ∷ made) ≡ greatest_vote made → decided (m ∷ made) ≡ decided made → in_doubt (m ∷ made) ≡ in_doubt made → IsAsking parts (m ∷ made) done left n
still parts made m done left n k v t d i = record { parts_are = k.parts_are; votes = λ p. v p ∙ k.votes p; time = k.time ∙ sym t; undecided = d ∙ k.undecided; sure = i ∙ k.sure }

gives_up : (parts : List ℕ) (made : List Made) (done left : List ℕ) (n : ℕ) → IsAsking parts made done left n → IsGivenUp made done
gives_up parts made done left n k = record {
  undecided = k.undecided;
  doubt = λ h. none_in (in_doubt made) k.sure h (done ≡ []);
  left_voted = λ p h. k.votes p ∙ h;
  ends = λ p h. first_or (is_among done p) (ended made p || in_doubt made) (sym (k.votes p) ∙ h);
}

-- a step that changes neither votes nor decisions, at which some may have ended
up_still : (made : List Made) (m : Made) (left : List ℕ) → IsGivenUp made left → ((p : ℕ) → voted (m ∷ made) p ≡ voted made p) → decided (m ∷ made) ≡ decided made → in_doubt (m ∷ made) ≡ in_doubt made → ((p : ℕ) → ended (m ∷ made) p ≡ ended made p) → IsGivenUp (m ∷ made) left
up_still made m left k v d i e = record {
  undecided = d ∙ k.undecided;
  doubt = λ h. k.doubt (sym i ∙ h);
  left_voted = λ p h. v p ∙ k.left_voted p h;
  ends = λ p h. ap (λ b. is_among left p || (b || in_doubt (m ∷ made))) (e p) ∙ (ap (λ b. is_among left p || (ended made p || b)) i ∙ k.ends p (sym (v p) ∙ h));
}

vote_step : (parts : List ℕ) (made : List Made) (done left : List ℕ) (p n : ℕ) (a : Step) → IsAsking parts made done (p ∷ left) n → Keeps parts ((record { step = what.Prepare p; answer = a }) ∷ made) (after (Preparing done (p ∷ left) n) a).0
vote_step parts made done left p n (step.Prepared q t m) k = record {
  parts_are = append_assoc done (p ∷ []) left ∙ k.parts_are;
  votes = λ r. ap (λ b. (p == r) || b) (k.votes r) ∙ (or_comm (p == r) (is_among done r) ∙ (ap (λ b. is_among done r || b) (sym (or-false (p == r))) ∙ sym (list_any-append (λ x. x == r) done (p ∷ []))));
  time = ap (λ x. max m x) k.time;
  undecided = k.undecided;
  sure = k.sure;
}
vote_step parts made done left p n (step.Down q) k = gives_up parts _ done (p ∷ left) n (still parts made _ done (p ∷ left) n k (λ r. refl) (zero-max (greatest_vote made)) refl refl)
vote_step parts made done left p n (step.Disk q) k = gives_up parts _ done (p ∷ left) n (still parts made _ done (p ∷ left) n k (λ r. refl) (zero-max (greatest_vote made)) refl refl)
vote_step parts made done left p n other k = still parts made _ done (p ∷ left) n k (λ r. refl) (zero-max (greatest_vote made)) refl refl

decision_step : (parts : List ℕ) (made : List Made) (lead : ℕ) (others : List ℕ) (n : ℕ) (c : List ℕ) (a : Step) → IsAsking parts made (lead ∷ others) [] n → Keeps parts ((record { step = what.Decide lead c; answer = a }) ∷ made) (after (Preparing (lead ∷ others) [] n) a).0
decision_step parts made lead others n c (step.Decided q t d) k = record {
  time = k.time ∙ sym (zero-max (greatest_vote made));
  is_decided = refl;
  sure = k.sure;
  left_voted = λ p h. k.votes p ∙ behind_or (lead == p) (is_among others p) h;
  ends = λ p h. swap_or (lead == p) (is_among others p) (ended made p) (first_or ((lead == p) || is_among others p) (ended made p) (sym (k.votes p) ∙ h));
}
decision_step parts made lead others n c (step.Gone q t) k = record {
  undecided = k.undecided;
  doubt = λ h. none_in (in_doubt made) k.sure h (others ≡ []);
  left_voted = λ p h. k.votes p ∙ behind_or (lead == p) (is_among others p) h;
  ends = λ p h. gone (lead == p) (is_among others p) (ended made p) (in_doubt made) (sym (k.votes p) ∙ h);
}
  where
    gone : (a b x y : Bool) → (a || b) ≡ true → (b || ((a || x) || y)) ≡ true
    gone a true x y h = refl
    gone true false x y h = refl
    gone false false x y h = absurd (true≢false (sym h))
decision_step parts made lead others n c (step.Unsure t) k = record {
  undecided = k.undecided;
  doubt = λ h. refl;
  left_voted = λ p h. absurd (true≢false (sym h));
  ends = λ p h. behind_or (ended made p) true refl;
}
decision_step parts made lead others n c other k = still parts made _ (lead ∷ others) [] n k (λ r. refl) (zero-max (greatest_vote made)) refl refl

finish_step : (parts : List ℕ) (made : List Made) (p : ℕ) (left : List ℕ) (n : ℕ) (c : List ℕ) (a : Step) → IsEnding made (p ∷ left) n → Keeps parts ((record { step = what.Finish p c; answer = a }) ∷ made) (after (Finishing (p ∷ left) n) a).0
finish_step parts made p left n c (step.Finished q t) k = record {
  time = k.time ∙ sym (zero-max (greatest_vote made));
  is_decided = k.is_decided;
  sure = k.sure;
  left_voted = λ r h. k.left_voted r (behind_or (p == r) (is_among left r) h);
  ends = λ r h. swap_or (p == r) (is_among left r) (ended made r) (k.ends r h);
}
finish_step parts made p left n c (step.Gone q t) k = record {
  time = k.time ∙ sym (zero-max (greatest_vote made));
  is_decided = k.is_decided;
  sure = k.sure;
  left_voted = λ r h. k.left_voted r (behind_or (p == r) (is_among left r) h);
  ends = λ r h. swap_or (p == r) (is_among left r) (ended made r) (k.ends r h);
}
finish_step parts made p left n c other k = record {
  time = k.time ∙ sym (zero-max (greatest_vote made));
  is_decided = k.is_decided;
  sure = k.sure;
  left_voted = k.left_voted;
  ends = k.ends;
}

abort_step : (parts : List ℕ) (made : List Made) (p : ℕ) (left : List ℕ) (a : Step) → IsGivenUp made (p ∷ left) → Keeps parts ((record { step = what.Abort p; answer = a }) ∷ made) (after (Aborting (p ∷ left)) a).0
abort_step parts made p left a k = record {
  undecided = k.undecided;
  doubt = λ h. absurd (no_cons p left (k.doubt h));
  left_voted = λ r h. k.left_voted r (behind_or (p == r) (is_among left r) h);
  ends = λ r h. moved (p == r) (is_among left r) (ended made r) (in_doubt made) (k.ends r h);
}
  where
    no_cons : (x : ℕ) (xs : List ℕ) → x ∷ xs ≡ [] → ⊥
    no_cons x xs e = cc

    moved : (a b x y : Bool) → ((a || b) || (x || y)) ≡ true → (b || ((a || x) || y)) ≡ true
    moved a true x y h = refl
    moved true false x y h = refl
    moved false false x y h = h

keeps_step : (site : ℕ) (s parts : List ℕ) (made : List Made) (g : Going) (a : Step) → Keeps parts made g → Keeps parts ((record { step = next_step site s g; answer = a }) ∷ made) (after g a).0
keeps_step site s parts made (Preparing done (p ∷ left) n) a k = vote_step parts made done left p n a k
keeps_step site s parts made (Preparing [] [] n) a k = still parts made _ [] [] n k (λ r. refl) (zero-max (greatest_vote made)) refl refl
keeps_step site s parts made (Preparing (lead ∷ others) [] n) a k = decision_step parts made lead others n (replaced s site n) a k
keeps_step site s parts made (Finishing (p ∷ left) n) a k = finish_step parts made p left n (replaced s site n) a k
keeps_step site s parts made (Finishing [] n) a k = record { time = k.time ∙ sym (zero-max (greatest_vote made)); is_decided = k.is_decided; sure = k.sure; left_voted = k.left_voted; ends = k.ends }
keeps_step site s parts made (Aborting (p ∷ left)) a k = abort_step parts made p left a k
keeps_step site s parts made (Aborting []) a k = up_still made _ [] k (λ r. refl) refl refl (λ r. refl)

keeps_given_up : (parts : List ℕ) (made : List Made) (g : Going) → Keeps parts made g → Keeps parts made (given_up g)
keeps_given_up parts made (Preparing done left n) k = gives_up parts made done left n k
keeps_given_up parts made (Finishing left n) k = k
keeps_given_up parts made (Aborting left) k = k

keeps : (site : ℕ) (s parts : List ℕ) (turns : List Turn) → Keeps parts (steps_made site s parts turns) (standing parts turns)
keeps site s parts [] = record { parts_are = refl; votes = λ p. refl; time = refl; undecided = refl; sure = refl }
keeps site s parts (Answered a ∷ turns) = keeps_step site s parts (steps_made site s parts turns) (standing parts turns) a (keeps site s parts turns)
keeps site s parts (GivenUp ∷ turns) = keeps_given_up parts (steps_made site s parts turns) (standing parts turns) (keeps site s parts turns)

-- what is kept is what the law says of the next step
means : (site : ℕ) (s parts : List ℕ) (made : List Made) (g : Going) → Keeps parts made g → IsCommit site s parts made (next_step site s g)
means site s parts made (Preparing done (q ∷ left) n) k = record {
  asks = λ p e. let is : q ≡ p = cc in record { front = done; back = left; are = sym k.parts_are ∙ ap (λ x. done ++ x ∷ left) is; votes = k.votes };
  lead = λ p c e. absurd cc;
  all = λ p r c e h. absurd cc;
  decides = λ p c e. absurd cc;
  finishes = λ p c e. absurd cc;
  aborts = λ p e. absurd cc;
  after_decision = λ h. none_in (decided made) k.undecided h (false ≡ true);
  before_decision = λ h. refl;
  after_doubt = λ h. none_in (in_doubt made) k.sure h (false ≡ true);
  ends = λ p e h. absurd cc;
}
means site s parts made (Preparing [] [] n) k = record {
  asks = λ p e. absurd cc;
  lead = λ p c e. absurd cc;
  all = λ p r c e h. absurd cc;
  decides = λ p c e. absurd cc;
  finishes = λ p c e. absurd cc;
  aborts = λ p e. absurd cc;
  after_decision = λ h. refl;
  before_decision = λ h. refl;
  after_doubt = λ h. refl;
  ends = λ p e h. absurd (true≢false (sym h ∙ k.votes p));
}
means site s parts made (Preparing (lead ∷ others) [] n) k = record {
  asks = λ p e. absurd cc;
  lead = λ p c e. let is : lead ≡ p = cc in subst (λ l. is_first l p ≡ true) (sym (append-nil (lead ∷ others)) ∙ k.parts_are) (eq-eqb lead p is);
  all = λ p r c e h. k.votes r ∙ (ap (λ l. is_among l r) (sym (append-nil (lead ∷ others)) ∙ k.parts_are) ∙ h);
  decides = λ p c e. let is : c ≡ replaced s site n = cc in is ∙ ap (replaced s site) k.time;
  finishes = λ p c e. absurd cc;
  aborts = λ p e. absurd cc;
  after_decision = λ h. none_in (decided made) k.undecided h (false ≡ true);
  before_decision = λ h. refl;
  after_doubt = λ h. none_in (in_doubt made) k.sure h (false ≡ true);
  ends = λ p e h. absurd cc;
}
means site s parts made (Finishing (q ∷ left) n) k = record {
  asks = λ p e. absurd cc;
  lead = λ p c e. absurd cc;
  all = λ p r c e h. absurd cc;
  decides = λ p c e. absurd cc;
  finishes = λ p c e. let is : q ≡ p = cc in let v : c ≡ replaced s site n = cc in (k.left_voted p (here q p (is_among left p) is), v ∙ ap (replaced s site) k.time);
  aborts = λ p e. absurd cc;
  after_decision = λ h. refl;
  before_decision = λ h. none_in (decided made) h k.is_decided (true ≡ false);
  after_doubt = λ h. none_in (in_doubt made) k.sure h (false ≡ true);
  ends = λ p e h. absurd cc;
}
means site s parts made (Finishing [] n) k = record {
  asks = λ p e. absurd cc;
  lead = λ p c e. absurd cc;
  all = λ p r c e h. absurd cc;
  decides = λ p c e. absurd cc;
  finishes = λ p c e. absurd cc;
  aborts = λ p e. absurd cc;
  after_decision = λ h. refl;
  before_decision = λ h. refl;
  after_doubt = λ h. refl;
  ends = λ p e h. inl (k.ends p h);
}
means site s parts made (Aborting (q ∷ left)) k = record {
  asks = λ p e. absurd cc;
  lead = λ p c e. absurd cc;
  all = λ p r c e h. absurd cc;
  decides = λ p c e. absurd cc;
  finishes = λ p c e. absurd cc;
  aborts = λ p e. let is : q ≡ p = cc in k.left_voted p (here q p (is_among left p) is);
  after_decision = λ h. none_in (decided made) k.undecided h (false ≡ true);
  before_decision = λ h. refl;
  after_doubt = λ h. let none = k.doubt h in absurd cc;
  ends = λ p e h. absurd cc;
}
means site s parts made (Aborting []) k = record {
  asks = λ p e. absurd cc;
  lead = λ p c e. absurd cc;
  all = λ p r c e h. absurd cc;
  decides = λ p c e. absurd cc;
  finishes = λ p c e. absurd cc;
  aborts = λ p e. absurd cc;
  after_decision = λ h. refl;
  before_decision = λ h. refl;
  after_doubt = λ h. refl;
  ends = λ p e h. one_of (ended made p) (in_doubt made) (k.ends p h);
}

pub law : LawCommit
law site s parts turns = means site s parts (steps_made site s parts turns) (standing parts turns) (keeps site s parts turns)
