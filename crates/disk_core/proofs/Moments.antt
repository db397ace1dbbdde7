-- How a run of a disk's calls goes on, and what holds at each moment of it.
use Rattle.std.proofs.Common.{◌≡◌, ⊎_elim, ℕ, ◌≤◌, List, [], ◌∷◌, ◌++◌, refl, sym, ap, ◌∙◌, subst, append_assoc}
use Rattle.disk_core.specs.Images.{Content, Image, IsTorn, after_sync}
use Rattle.disk_core.specs.States.{Story, moved, TearsAtMost}
use Rattle.disk_core.specs.Moments.{EachImage, EachImageOfAll, contents, AtEachMoment}
use Rattle.disk_core.proofs.Inside.{only_synced}

both_lists : (P : List ℕ → Type 0) (xs ys : List Content) → EachImageOfAll P xs → EachImageOfAll P ys → EachImageOfAll P (xs ++ ys)
both_lists P [] ys none all = all
both_lists P (x ∷ xs) ys more all = (more.0, both_lists P xs ys more.1 all)

whole_list : (P Q : List ℕ → Type 0) → ((image : List ℕ) → P image → Q image) → (xs : List Content) → EachImageOfAll P xs → EachImageOfAll Q xs
whole_list P Q gives [] all = tt
whole_list P Q gives (x ∷ xs) all = (λ image left. gives image (all.0 image left), whole_list P Q gives xs all.1)

-- before the first call
pub at_first : (s : Story) (P : List ℕ → Type 0) → EachImage P s.now → AtEachMoment s s P
at_first s P here = record { since = []; grown = refl; first = here; each = tt }

-- a call that changed nothing
pub rested : (a b c : Story) (P : List ℕ → Type 0) → AtEachMoment a b P → c ≡ b → AtEachMoment a c P
rested a b c P before same = subst (λ (s : Story). AtEachMoment a s P) (sym same) before

-- a call that made one change
pub moved_on : (a b c : Story) (next : Content) (P : List ℕ → Type 0) → AtEachMoment a b P → c ≡ moved next b → EachImage P next → AtEachMoment a c P
moved_on a b c next P before is here =
    let on : AtEachMoment a (moved next b) P = record {
      since = next ∷ before.since;
      grown = ap (λ (l : List Content). next ∷ l) before.grown;
      first = before.first;
      each = (here, before.each);
    } in
    subst (λ (s : Story). AtEachMoment a s P) (sym is) on

-- a write that failed
pub torn_on : (a b c : Story) (at n : ℕ) (P : List ℕ → Type 0) → AtEachMoment a b P → TearsAtMost at n b c → ((m : ℕ) → m ≤ n → IsTorn at m b.now c.now → EachImage P c.now) → AtEachMoment a c P
torn_on a b c at n P before tears here = ⊎_elim
    (λ same. rested a b c P before same)
    (λ torn. moved_on a b c c.now P before (λ i. record { now = c.now; past = torn.3 i }) (here torn.0 torn.1 torn.2))
    tears

-- one run after another
pub joined : (a b c : Story) (P : List ℕ → Type 0) → AtEachMoment a b P → AtEachMoment b c P → AtEachMoment a c P
joined a b c P front back = record {
  since = back.since ++ front.since;
  grown = back.grown ∙ ap (λ (l : List Content). back.since ++ l) front.grown ∙ sym (append_assoc back.since front.since (contents a));
  first = front.first;
  each = both_lists P back.since front.since back.each front.each;
}

-- a property that follows
pub weaker : (a b : Story) (P Q : List ℕ → Type 0) → ((image : List ℕ) → P image → Q image) → AtEachMoment a b P → AtEachMoment a b Q
weaker a b P Q gives run = record {
  since = run.since;
  grown = run.grown;
  first = λ image left. gives image (run.first image left);
  each = whole_list P Q gives run.since run.each;
}

-- a sync alone, where each image had P before
pub over_sync : (a b : Story) (P : List ℕ → Type 0) → EachImage P a.now → Image a.now a.now.bytes → b ≡ moved (after_sync a.now) a → AtEachMoment a b P
over_sync a b P all reads synced =
    moved_on a a b (after_sync a.now) P (at_first a P all) synced (λ image left. subst P (sym (only_synced a.now image left)) (all a.now.bytes reads))

same_front : (x y : Content) (xs ys : List Content) → x ∷ xs ≡ y ∷ ys → x ≡ y
same_front x y xs ys h = cc

last_of : (P : List ℕ → Type 0) (since : List Content) (now first : Content) (past firsts : List Content) → now ∷ past ≡ since ++ (first ∷ firsts) → EachImage P first → EachImageOfAll P since → EachImage P now
last_of P [] now first past firsts same here all = subst (EachImage P) (sym (same_front now first past firsts same)) here
last_of P (x ∷ xs) now first past firsts same here all = subst (EachImage P) (sym (same_front now x past (xs ++ (first ∷ firsts)) same)) all.0

-- after the last call
pub at_last : (a b : Story) (P : List ℕ → Type 0) → AtEachMoment a b P → EachImage P b.now
at_last a b P run = last_of P run.since b.now a.now b.past a.past run.grown run.first run.each
