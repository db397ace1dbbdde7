-- The fates that a log tells, after one record more.
use Rattle.std.proofs.Common.{◌≡◌, ⊎_elim, ℕ, Bool, true, false, not, ◌&&◌, ◌||◌, List, [], ◌∷◌, length, Option, None, Some, is_none, is_some, cond, get_or, drop, ◌<◌, ◌+◌, refl, sym, ap, ◌∙◌}
use Rattle.std.specs.Prelude.{if◌then◌else◌}
use Rattle.std.specs.List.{list_all}
use Rattle.std.proofs.lemmas.Bool.{true≢false, cases_Bool, cond-true, cond-false}
use Rattle.std.proofs.lemmas.List.{drop_more}
use Rattle.site_vector.specs.declared.ids.TxId.{TxId}
use Rattle.site_vector.specs.Ids.{same_tx}
use Rattle.site_vector.specs.Order.{same_tx_symm}
use Rattle.crdt_core.specs.declared.record.Part.{Part}
use Rattle.crdt_core.specs.declared.record.Record.{Record}
use Rattle.crdt_core.specs.Fitting.{are_apart}
use Rattle.crdt_core.specs.Log.{pending, is_named_in}
use Rattle.crdt_core.specs.Parts.{lists}
use Rattle.log_recovery.specs.declared.named.Fate.{Fate}
use Rattle.log_recovery.specs.declared.named.Fate.TheVariants.{Waits, Ended}
use Rattle.log_recovery.specs.declared.named.Vote.{Vote}
use Rattle.log_recovery.specs.Fates.{fate_of, fate_with, vote_of, AreWideVotes, are_new}
use Rattle.log_recovery.specs.FittingLaws.{prepared_named, pending_prepared}
use Rattle.log_recovery.proofs.Choices.{and_none}

-- a vote more, or a name more in its place, in the two tables
pub votes_more : (b : Bool) (v : Vote) (o : Option Vote) (n : Bool) → fate_with (cond b (Some v) o) n ≡ cond b (Some (Waits v)) (fate_with o n)
votes_more true v o n = refl
votes_more false v o n = refl

pub ends_more : (b : Bool) (o : Option Vote) (n : Bool) → fate_with (cond b None o) (cond b true n) ≡ cond b (Some Ended) (fate_with o n)
ends_more true o n = refl
ends_more false o n = refl

-- what begins waits, and what ends has ended
pub begun : (b p c a m : Bool) (v w : Vote) → (b ≡ true → c ≡ false) → (b ≡ true → a ≡ false) → cond b (Some (Waits v)) (fate_of (p && not (c || a)) m w) ≡ fate_of ((b || p) && not (c || a)) (b || m) (if b then v else w)
begun true p c a m v w f g = sym (ap (λ x. fate_of (not (x || a)) true v) (f refl) ∙ ap (λ x. fate_of (not x) true v) (g refl))
begun false p c a m v w f g = refl

pub over : (b p c a m : Bool) (w : Vote) → cond b (Some Ended) (fate_of (p && not (c || a)) m w) ≡ fate_of (p && not ((b || c) || a)) (b || m) w
over true p c a m w = sym (ap (λ x. fate_of x true w) (and_none p))
over false p c a m w = refl

pub stopped : (b p c a m : Bool) (w : Vote) → cond b (Some Ended) (fate_of (p && not (c || a)) m w) ≡ fate_of (p && not (c || (b || a))) (b || m) w
stopped true p true a m w = sym (ap (λ x. fate_of x true w) (and_none p))
stopped true p false a m w = sym (ap (λ x. fate_of x true w) (and_none p))
stopped false p c a m w = refl

pub brought : (b q m : Bool) (w : Vote) → (b ≡ true → q ≡ false) → cond b (Some Ended) (fate_of q m w) ≡ fate_of q (b || m) w
brought true q m w f = sym (ap (λ x. fate_of x true w) (f refl))
brought false q m w f = refl

pub has_fate : (q m : Bool) (w : Vote) → (q ≡ true → m ≡ true) → is_some (fate_of q m w) ≡ m
has_fate true m w f = sym (f refl)
has_fate false true w f = refl
has_fate false false w f = refl

pub has_none : (q m : Bool) (w : Vote) → (q ≡ true → m ≡ true) → is_none (fate_of q m w) ≡ not m
has_none true m w f = ap not (sym (f refl))
has_none false true w f = refl
has_none false false w f = refl

pub has_vote : (q m : Bool) (w : Vote) → vote_of (fate_of q m w) ≡ (if q then Some w else None)
has_vote true m w = refl
has_vote false true w = refl
has_vote false false w = refl

module _ {E : Type 0} where
  pub pending_named : (log : List (Record E)) (u : TxId) → pending log u ≡ true → is_named_in log u ≡ true
  pending_named log u h = prepared_named log u (pending_prepared log u h)

  -- what isn't a part's transaction keeps its fate
  new_after : (f g : TxId → Option Fate) (t : TxId) (xs : List (Part E)) → ((u : TxId) → g u ≡ cond (same_tx t u) (Some Ended) (f u)) → list_all (λ x. is_none (g x.tx)) xs ≡ (list_all (λ x. is_none (f x.tx)) xs && not (lists xs t))
  new_after f g t [] put = refl
  new_after f g t (x ∷ xs) put =
      ap (λ o. is_none o && list_all (λ y. is_none (g y.tx)) xs) (put x.tx) ∙ ap (λ b. is_none (cond (same_tx t x.tx) (Some Ended) (f x.tx)) && b) (new_after f g t xs put)
      ∙ ap (λ b. is_none (cond b (Some Ended) (f x.tx)) && (list_all (λ y. is_none (f y.tx)) xs && not (lists xs t))) (same_tx_symm t x.tx) ∙ joined (same_tx x.tx t) (f x.tx) (list_all (λ y. is_none (f y.tx)) xs) (lists xs t)
    where
      joined : (b : Bool) (o : Option Fate) (l n : Bool) → (is_none (cond b (Some Ended) o) && (l && not n)) ≡ ((is_none o && l) && not (b || n))
      joined true o l n = sym (and_none (is_none o && l))
      joined false None l n = refl
      joined false (Some x) l n = refl

  -- one part is new, and the others are beside it
  pub new_more : (f g : TxId → Option Fate) (x : Part E) (xs : List (Part E)) → None ≡ f x.tx → ((u : TxId) → g u ≡ cond (same_tx x.tx u) (Some Ended) (f u)) → are_new f (x ∷ xs) ≡ are_new g xs
  new_more f g x xs e put = ap (λ o. (is_none o && list_all (λ y. is_none (f y.tx)) xs) && (not (lists xs x.tx) && are_apart xs)) (sym e)
      ∙ turned (list_all (λ y. is_none (f y.tx)) xs) (lists xs x.tx) (are_apart xs) ∙ ap (λ b. b && are_apart xs) (sym (new_after f g x.tx xs put))
    where
      turned : (l n a : Bool) → (l && (not n && a)) ≡ ((l && not n) && a)
      turned true n a = refl
      turned false n a = refl

  pub new_none : (f : TxId → Option Fate) (x : Part E) (xs : List (Part E)) → is_some (f x.tx) ≡ true → are_new f (x ∷ xs) ≡ false
  new_none f x xs e = no (f x.tx) (list_all (λ y. is_none (f y.tx)) xs) (not (lists xs x.tx) && are_apart xs) e
    where
      no : (o : Option Fate) (l a : Bool) → is_some o ≡ true → ((is_none o && l) && a) ≡ false
      no None l a h = absurd (true≢false (sym h))
      no (Some y) l a h = refl

  -- a part's transaction has ended, and so have those of the others
  pub ended_more : (f g : TxId → Option Fate) (x : Part E) (xs : List (Part E)) → ((u : TxId) → g u ≡ cond (same_tx x.tx u) (Some Ended) (f u)) → (u : TxId) → cond (lists xs u) (Some Ended) (g u) ≡ cond (lists (x ∷ xs) u) (Some Ended) (f u)
  ended_more f g x xs put u = ap (λ o. cond (lists xs u) (Some Ended) o) (put u) ∙ either (lists xs u) (same_tx x.tx u) (f u)
    where
      either : (a b : Bool) (o : Option Fate) → cond a (Some Ended) (cond b (Some Ended) o) ≡ cond (b || a) (Some Ended) o
      either true true o = refl
      either true false o = refl
      either false true o = refl
      either false false o = refl

pub wide_put : (sites : ℕ) (f g : TxId → Option Fate) (t : TxId) (v : Vote) → length v.s ≡ sites → ((u : TxId) → g u ≡ cond (same_tx t u) (Some (Waits v)) (f u)) → AreWideVotes sites f → AreWideVotes sites g
wide_put sites f g t v w put all u vote e = ⊎_elim
    (λ (s : same_tx t u ≡ true). let is : Some (Waits v) ≡ Some (Waits vote) = sym (put u ∙ cond-true (same_tx t u) (Some (Waits v)) (f u) s) ∙ e in ap (λ (x : Vote). length x.s) (sym (same_vote v vote is)) ∙ w)
    (λ (s : same_tx t u ≡ false). all u vote (sym (put u ∙ cond-false (same_tx t u) (Some (Waits v)) (f u) s) ∙ e))
    (cases_Bool (same_tx t u))
  where
    same_vote : (v w : Vote) → Some (Waits v) ≡ Some (Waits w) → v ≡ w
    same_vote v w e = cc

pub wide_end : (sites : ℕ) (f g : TxId → Option Fate) (gone : TxId → Bool) → ((u : TxId) → g u ≡ cond (gone u) (Some Ended) (f u)) → AreWideVotes sites f → AreWideVotes sites g
wide_end sites f g gone put all u vote e = ⊎_elim
    (λ (s : gone u ≡ true). let is : Some Ended ≡ Some (Waits vote) = sym (put u ∙ cond-true (gone u) (Some Ended) (f u) s) ∙ e in absurd (let v : ⊥ = cc in v))
    (λ (s : gone u ≡ false). all u vote (sym (put u ∙ cond-false (gone u) (Some Ended) (f u) s) ∙ e))
    (cases_Bool (gone u))

pub none_from : {A : Type 0} (o : Option A) → is_some o ≡ false → None ≡ o
none_from None h = refl
none_from (Some x) h = absurd (true≢false h)

-- the next of what is left
pub rest_of : {A : Type 0} (xs : List A) (i : ℕ) (x : A) → i < length xs → x ≡ get_or xs i x → drop i xs ≡ x ∷ drop (i + 1) xs
rest_of xs i x h e = drop_more xs i x h ∙ ap (λ y. y ∷ drop (i + 1) xs) (sym e)
