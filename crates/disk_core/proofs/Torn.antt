-- What a write leaves where it stands, whole or torn.
use Rattle.std.proofs.Common.{◌≡◌, ◌⊎◌, inl, inr, ⊎_elim, ℕ, ◌+◌, ◌-◌, ◌<◌, ◌≤◌, max, min, true, false, List, [], ◌∷◌, ◌++◌, length, get_or, take, refl, sym, ap, ◌∙◌, subst, arith, length-append, length-take, length-drop}
use Rattle.std.proofs.lemmas.List.{take_min, take_all, take-append-le, append-nil}
use Rattle.std.proofs.Math.Seq.{take-append-add}
use Rattle.std.proofs.lemmas.Bool.{cases_lt, false≢true}
use Rattle.std.proofs.lemmas.Bool.Decides.{nat_tests}
use Rattle.std.proofs.lemmas.Grind.{elements}
use Rattle.disk_core.specs.Images.{Content, IsTorn, is_written, overwritten, after_write}
use Rattle.disk_core.specs.States.{Story, DiskState, IsWithin, MayTear}
use Rattle.disk_core.specs.Burns.{WritesOrFails}

-- a write stays away from what stands before and behind it
pub overwritten-before : (at i : ℕ) (new old : List ℕ) → at ≤ length old → i < at → get_or (overwritten at new old) i 0 ≡ get_or old i 0
overwritten-before at i new old within below = grind (arith, elements)

pub overwritten-behind : (at i : ℕ) (new old : List ℕ) → at ≤ length old → at + length new ≤ i → get_or (overwritten at new old) i 0 ≡ get_or old i 0
overwritten-behind at i new old within above = grind (arith, elements)

pub length-overwritten : (at : ℕ) (new old : List ℕ) → at ≤ length old → length (overwritten at new old) ≡ max (length old) (at + length new)
length-overwritten at new old within = simp (length-append, length-take, length-drop) (omega arith)

-- a place outside of one range stands before or behind it
pub outside : (at n i : ℕ) → is_written ((at, n) ∷ []) i ≡ false → (i < at) ⊎ (at + n ≤ i)
outside at n i apart = elim (cases_lt i at) [
  | inl below ↦ inl below
  | inr from ↦ elim (cases_lt i (at + n)) [
    | inl inside ↦ absurd (false≢true (sym apart ∙ within at n i from inside))
    | inr past ↦ inr past
  ]
]
  where
    within : (at n i : ℕ) → at ≤ i → i < at + n → is_written ((at, n) ∷ []) i ≡ true
    within at n i from inside = grind (arith, nat_tests)

pub same_outside : (at i : ℕ) (new old : List ℕ) → at ≤ length old → (i < at) ⊎ (at + length new ≤ i) → get_or (overwritten at new old) i 0 ≡ get_or old i 0
same_outside at i new old within where_it_is = ⊎_elim (λ below. overwritten-before at i new old within below) (λ above. overwritten-behind at i new old within above) where_it_is

whole_write : (at : ℕ) (new : List ℕ) (content : Content) → at ≤ length content.bytes → IsTorn at (length new) content (after_write at new content)
whole_write at new content within =
    let long = length-overwritten at new content.bytes within in
    record {
      no_shorter = omega (arith, long);
      no_longer = omega (arith, long);
      stays = λ i inside apart. same_outside at i new content.bytes within (outside at (length new) i apart);
      least = refl;
      most = refl;
      written = refl;
    }

-- a front that was written tears the whole write
pub front_tears : (at n : ℕ) (front : List ℕ) (old new : DiskState) → IsWithin at old → length front ≤ n → WritesOrFails at front old new → MayTear at n old new
front_tears at n front old new within less went told = ⊎_elim
    (λ wrote.
    let torn : IsTorn at (length front) old.story.now new.story.now =
    subst (IsTorn at (length front) old.story.now) (ap (λ (s : Story). s.now) (sym (wrote told))) (whole_write at front old.story.now (within told)) in
    inr (length front, less, torn, ap (λ (s : Story). s.past) (wrote told)))
    (λ failed. ⊎_elim (λ same. inl same) (λ torn. inr (torn.0, omega (arith, torn.1, less), torn.2, torn.3)) (failed.0 told))
    went

-- a front of two pieces is a front of each
front_of_two : (n x y : ℕ) (a b : List ℕ) → x ≡ min n (length a) → y ≡ n - x → take n (a ++ b) ≡ take x a ++ take y b
front_of_two n x y a b is_x is_y = elim (cases_lt n (length a)) [
  | inl below ↦
      let same : x ≡ n = omega (arith, below, is_x) in
      let none : y ≡ 0 = omega (arith, below, is_x, is_y) in
      take-append-le n a b (omega (arith, below)) ∙ ap (λ (k : ℕ). take k a) (sym same) ∙ sym (append-nil (take x a)) ∙ ap (λ (k : ℕ). take x a ++ take k b) (sym none)
  | inr past ↦
      let same : x ≡ length a = omega (arith, past, is_x) in
      let sum : n ≡ length a + y = omega (arith, past, same, is_y) in
      ap (λ (k : ℕ). take k (a ++ b)) sum ∙ take-append-add a b y ∙ ap (λ (l : List ℕ). l ++ take y b) (sym (take_all x a (omega (arith, same))))
]

-- the front of three pieces is a front of each
pub front_of_three : (keep x y z : ℕ) (a b c : List ℕ) → x ≡ min keep (length a) → y ≡ min (keep - x) (length b) → z ≡ min (keep - x - y) (length c) → take x a ++ take y b ++ take z c ≡ take keep (a ++ b ++ c)
front_of_three keep x y z a b c is_x is_y is_z =
    let both : length (a ++ b) ≡ length a + length b = length-append a b in
    let first : take (x + y) (a ++ b) ≡ take x a ++ take y b = front_of_two (x + y) x y a b (omega (arith, is_x, is_y)) (omega arith) in
    let last : take z c ≡ take (keep - x - y) c = ap (λ (k : ℕ). take k c) is_z ∙ take_min (keep - x - y) c in
    let all : take keep ((a ++ b) ++ c) ≡ take (x + y) (a ++ b) ++ take (keep - x - y) c = front_of_two keep (x + y) (keep - x - y) (a ++ b) c (omega (arith, both, is_x, is_y)) (omega arith) in
    ap (λ (l : List ℕ). l ++ take z c) (sym first) ∙ ap (λ (l : List ℕ). take (x + y) (a ++ b) ++ l) last ∙ sym all
