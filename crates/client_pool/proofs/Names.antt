-- Which names the clients' updates come to.
use Rattle.std.proofs.Common.{◌≡◌, ℕ, zero, suc, ◌+◌, ◌≤◌, Bool, true, false, cond, ◌||◌, List, [], ◌∷◌, length, map, refl, sym, ap, ◌∙◌, eqb, arith}
use Rattle.std.specs.Prelude.{filter}
use Rattle.std.specs.List.{list_any, flat_map, range_with_len}
use Rattle.std.proofs.lemmas.List.Folds.{list_any-append}
use Rattle.crdt_core.specs.Objects.{same_object}
use Rattle.crdt_core.specs.Texts.{is_in, same_text, same_ascending}
use Rattle.crdt_meanings.specs.SetMeaning.{added_by}
use Rattle.client_pool.specs.Load.{clients, counter_from, session_name}
use Rattle.client_pool.specs.Changes.{Change, changes_to, counters_of, load_of, times, AreLoads, AreTheirs}
use Rattle.client_pool.specs.Summary.{AllNames}
use Rattle.client_pool.proofs.Sums.{eqb_swap}

-- the update adds this name
abbrev names : List ℕ → Change → Bool
names q u = cond (same_object u.object clients) (is_in (added_by u.act) q) false

or_false : (b : Bool) → (b || false) ≡ b
or_false true = refl
or_false false = refl

names_any : (q : List ℕ) (run : List Change) → is_in (flat_map (λ (u : Change). added_by u.act) (changes_to clients run)) q ≡ list_any (names q) run
names_any q [] = refl
names_any q (u ∷ run) = go (same_object u.object clients) (names_any q run)
  where
    go : (b : Bool) → is_in (flat_map (λ (u : Change). added_by u.act) (changes_to clients run)) q ≡ list_any (names q) run
        → is_in (flat_map (λ (u : Change). added_by u.act) (cond b (u ∷ changes_to clients run) (changes_to clients run))) q ≡ (cond b (is_in (added_by u.act) q) false || list_any (names q) run)
    go true h = list_any-append (same_text q) (added_by u.act) (flat_map (λ (u : Change). added_by u.act) (changes_to clients run)) ∙ ap (λ b. is_in (added_by u.act) q || b) h
    go false h = h

-- ---- by callers

any_none : (ks : List ℕ) → list_any (λ (k : ℕ). false) ks ≡ false
any_none [] = refl
any_none (k ∷ ks) = any_none ks

any_same : (f g : ℕ → Bool) (ks : List ℕ) → ((k : ℕ) → f k ≡ g k) → list_any f ks ≡ list_any g ks
any_same f g [] e = refl
any_same f g (k ∷ ks) e = λ i. e k i || any_same f g ks e i

any_or : (f g : ℕ → Bool) (ks : List ℕ) → list_any (λ k. f k || g k) ks ≡ (list_any f ks || list_any g ks)
any_or f g [] = refl
any_or f g (k ∷ ks) = ap (λ t. (f k || g k) || t) (any_or f g ks) ∙ swap (f k) (g k) (list_any f ks) (list_any g ks)
  where
    swap : (a b c d : Bool) → ((a || b) || (c || d)) ≡ ((a || c) || (b || d))
    swap true b c d = refl
    swap false true true d = refl
    swap false true false d = refl
    swap false false c d = refl

pick_none : (b : ℕ) (z : Bool) (ks : List ℕ) → times b ks ≡ 0 → list_any (λ (k : ℕ). cond (eqb b k) z false) ks ≡ false
pick_none b z [] e = refl
pick_none b z (k ∷ ks) e = go (eqb k b) (eqb_swap b k) e (pick_none b z ks)
  where
    go : (t : Bool) → eqb b k ≡ t → cond t 1 0 + times b ks ≡ 0 → (times b ks ≡ 0 → list_any (λ (k : ℕ). cond (eqb b k) z false) ks ≡ false) → (cond (eqb b k) z false || list_any (λ (k : ℕ). cond (eqb b k) z false) ks) ≡ false
    go true is e h = absurd (omega arith)
    go false is e h = λ i. cond (is i) z false || h (omega arith) i

pick_one : (b : ℕ) (z : Bool) (ks : List ℕ) → times b ks ≡ 1 → list_any (λ (k : ℕ). cond (eqb b k) z false) ks ≡ z
pick_one b z [] e = absurd (omega arith)
pick_one b z (k ∷ ks) e = go (eqb k b) (eqb_swap b k) e (pick_one b z ks)
  where
    go : (t : Bool) → eqb b k ≡ t → cond t 1 0 + times b ks ≡ 1 → (times b ks ≡ 1 → list_any (λ (k : ℕ). cond (eqb b k) z false) ks ≡ z) → (cond (eqb b k) z false || list_any (λ (k : ℕ). cond (eqb b k) z false) ks) ≡ z
    go true is e h = (λ i. cond (is i) z false || pick_none b z ks (omega arith) i) ∙ or_false z
    go false is e h = λ i. cond (is i) z false || h (omega arith) i

abbrev by_caller : List Change → ℕ → List Change
by_caller run k = filter (λ u. eqb u.by k) run

any_callers : (p : Change → Bool) (numbers : List ℕ) (run : List Change) → AreTheirs numbers run → list_any p run ≡ list_any (λ (k : ℕ). list_any p (by_caller run k)) numbers
any_callers p numbers [] a = sym (any_none numbers)
any_callers p numbers (u ∷ run) a =
    (λ i. sym (pick_one u.by (p u) numbers a.0) i || any_callers p numbers run a.1 i)
    ∙ (sym (any_or (λ (k : ℕ). cond (eqb u.by k) (p u) false) (λ (k : ℕ). list_any p (by_caller run k)) numbers)
    ∙ any_same (λ (k : ℕ). cond (eqb u.by k) (p u) false || list_any p (by_caller run k)) (λ (k : ℕ). list_any p (by_caller (u ∷ run) k)) numbers (λ k. one (eqb u.by k) (by_caller run k)))
  where
    one : (t : Bool) (rest : List Change) → (cond t (p u) false || list_any p rest) ≡ list_any p (cond t (u ∷ rest) rest)
    one true rest = refl
    one false rest = refl

-- ---- by loads

load_names : (q : List ℕ) (by i m : ℕ) (ms : List ℕ) → list_any (names q) (load_of by i (m ∷ ms)) ≡ same_text q (session_name i)
load_names q by i m [] = or_false (same_text q (session_name i) || false) ∙ or_false (same_text q (session_name i))
load_names q by i m (n ∷ ms) = ap (λ b. (same_text q (session_name i) || false) || b) (load_names q by i n ms) ∙ twice (same_text q (session_name i))
  where
    twice : (b : Bool) → ((b || false) || b) ≡ b
    twice true = refl
    twice false = refl

some_load : (q : List ℕ) (number txns by i : ℕ) → 1 ≤ txns → list_any (names q) (load_of by i (counters_of number i txns)) ≡ same_text q (session_name i)
some_load q number zero by i h = absurd (omega arith)
some_load q number (suc j) by i h = load_names q by i (counter_from number i (suc j)) (counters_of number i j)

loads_name : (q : List ℕ) (number txns i : ℕ) (numbers : List ℕ) (run : List Change) → 1 ≤ txns → AreLoads number txns i numbers run
    → list_any (λ (k : ℕ). list_any (names q) (by_caller run k)) numbers ≡ is_in (map session_name (range_with_len i (length numbers))) q
loads_name q number txns i [] run some l = refl
loads_name q number txns i (k ∷ ks) run some l =
    λ t. (ap (list_any (names q)) l.0 ∙ some_load q number txns k i some) t || loads_name q number txns (i + 1) ks run some l.1 t

pub all_names : AllNames
all_names plan numbers run count theirs loads =
    same_ascending _ _ (λ q. names_any q run ∙ (any_callers (names q) numbers run theirs ∙ (loads_name q plan.number plan.txns 1 numbers run plan.least_txns loads ∙ ap (λ n. is_in (map session_name (range_with_len 1 n)) q) count)))
