-- What a step leaves of each element.
use Rattle.std.proofs.Common.{◌≡◌, ℕ, Bool, true, false, cond, ◌&&◌, ◌||◌, List, [], ◌∷◌, ◌++◌, Option, Some, None, refl, sym, ap, ◌∙◌, ⊎_elim, append-nil}
use Rattle.std.specs.Prelude.{is_some, unwrap_or, ◌==◌}
use Rattle.std.specs.List.{list_any}
use Rattle.std.proofs.lemmas.List.Folds.{list_any-append}
use Rattle.std.proofs.lemmas.Bool.{true≢false, false≢true, eqb-true, or_cases, or_left, or_right, or_parts, or_from, false_from_ne_true}
use Rattle.std.specs.FinMap.{empty, get, find, entries, insert, remove, len, empty_of_len, get-insert, get-remove, get-empty, get-entries, same_map}
use Rattle.site_vector.specs.declared.ids.Dot.{Dot}
use Rattle.site_vector.specs.Ids.{same_dot}
use Rattle.site_vector.specs.Order.{dot_cmp}
use Rattle.crdt_core.specs.DotSet.{has_dot}
use Rattle.crdt_core.specs.Texts.{text_cmp, text_cmp_total, text_cmp_exact, same_text, same_text_is, same_text_itself, is_in}
use Rattle.crdt_core.specs.MapLists.{IsDistinct, distinct_entries}
use Rattle.crdt_core.specs.Kept.{KeptAt, kept_step, dots_of, is_kept}
use Rattle.crdt_core.proofs.KeptSteps.{get-kept_step, same_kept, has_dots_of}
use Rattle.crdt_core.proofs.KeptLaw.{given}
use Rattle.crdt_core.proofs.KeptKinds.{kept_swaps, kept_held}
use Rattle.crdt_meanings.specs.Elements.{Elements, at, put_back, take_one, take_named, named_at, names_dot, keeps_dot}
use Rattle.crdt_meanings.specs.declared.sets.Named.{Named}

-- nothing where nothing is kept
abbrev pub standing : KeptAt Bool → Option (KeptAt Bool)
standing k = cond (len k == 0) None (Some k)

pub get-put_back : (m : Elements) (x : List ℕ) (k : KeptAt Bool) (y : List ℕ) → get (put_back m x k) y ≡ cond (same_text y x) (standing k) (get m y)
get-put_back m x k y = elim (len k == 0) as (λ b. get (cond b (remove m x) (insert m x k)) y ≡ cond (same_text y x) (cond b None (Some k)) (get m y)) [
  | true ↦ get-remove text_cmp_total m x y
  | false ↦ get-insert text_cmp_total m x k y
]

pub standing_is : (k : KeptAt Bool) → unwrap_or (standing k) empty ≡ k
standing_is k = elim (len k == 0) as (λ b. (len k == 0) ≡ b → unwrap_or (cond b None (Some k)) empty ≡ k) [
  | true ↦ λ e. sym (empty_of_len k (eqb-true (len k) 0 e))
  | false ↦ λ e. refl
] refl

-- the dots that are named with an element
abbrev pub dots_at : List Named → List ℕ → List Dot
dots_at [] x = []
dots_at (n ∷ ns) x = cond (same_text x n.text) (n.dots ++ dots_at ns x) (dots_at ns x)

abbrev pub lists : List Named → List ℕ → Bool
lists ns x = list_any (λ n. same_text x n.text) ns

unlisted : (ns : List Named) (x : List ℕ) → lists ns x ≡ false → dots_at ns x ≡ []
unlisted [] x h = refl
unlisted (n ∷ ns) x h = let two = or_parts (same_text x n.text) (lists ns x) h in ap (λ b. cond b (n.dots ++ dots_at ns x) (dots_at ns x)) two.0 ∙ unlisted ns x two.1

twice_case : (b i j : Bool) (own o : Option Bool) → given b own (cond j None (given b own (cond i None o))) ≡ given b own (cond (i || j) None o)
twice_case true i j (Some v) o = refl
twice_case true true true None o = refl
twice_case true true false None o = refl
twice_case true false true None o = refl
twice_case true false false None o = refl
twice_case false true true own o = refl
twice_case false true false own o = refl
twice_case false false true own o = refl
twice_case false false false own o = refl

kept_twice : (k : KeptAt Bool) (d : Dot) (a b : List Dot) (own : Option Bool) → kept_step (kept_step k d a own) d b own ≡ kept_step k d (a ++ b) own
kept_twice k d a b own = same_kept _ _ (λ q.
    get-kept_step (kept_step k d a own) d b own q ∙ ap (λ o. given (same_dot d q) own (cond (has_dot b q) None o)) (get-kept_step k d a own q)
    ∙ twice_case (same_dot d q) (has_dot a q) (has_dot b q) own (get k q)
    ∙ sym (get-kept_step k d (a ++ b) own q ∙ ap (λ c. given (same_dot d q) own (cond c None (get k q))) (list_any-append (same_dot q) a b)))

-- what stands at an element after a step
pub get-take_named : (ns : List Named) (m : Elements) (d : Dot) (own : Option Bool) (x : List ℕ) → get (take_named m d own ns) x ≡ cond (lists ns x) (standing (kept_step (at m x) d (dots_at ns x) own)) (get m x)
get-take_named [] m d own x = refl
get-take_named (n ∷ ns) m d own x =
    let k = kept_step (at m n.text) d n.dots own in
    get-take_named ns (take_one m d own n) d own x
    ∙ ap (λ o. cond (lists ns x) (standing (kept_step (unwrap_or o empty) d (dots_at ns x) own)) o) (get-put_back m n.text k x)
    ∙ elim (same_text x n.text) as (λ b. same_text x n.text ≡ b → cond (lists ns x) (standing (kept_step (unwrap_or (cond b (standing k) (get m x)) empty) d (dots_at ns x) own)) (cond b (standing k) (get m x))
    ≡ cond (b || lists ns x) (standing (kept_step (at m x) d (cond b (n.dots ++ dots_at ns x) (dots_at ns x)) own)) (get m x)) [
      | true ↦ λ e.
          let here : at m n.text ≡ at m x = ap (at m) (sym (same_text_is x n.text e)) in
          elim (lists ns x) as (λ b. lists ns x ≡ b → cond b (standing (kept_step (unwrap_or (standing k) empty) d (dots_at ns x) own)) (standing k) ≡ standing (kept_step (at m x) d (n.dots ++ dots_at ns x) own)) [
            | true ↦ λ l. ap (λ j. standing (kept_step j d (dots_at ns x) own)) (standing_is k) ∙ ap standing (kept_twice (at m n.text) d n.dots (dots_at ns x) own ∙ ap (λ j. kept_step j d (n.dots ++ dots_at ns x) own) here)
            | false ↦ λ l. ap standing (ap (λ j. kept_step j d n.dots own) here ∙ ap (λ ds. kept_step (at m x) d ds own) (sym (ap (λ ds. n.dots ++ ds) (unlisted ns x l) ∙ append-nil n.dots)))
          ] refl
      | false ↦ λ e. refl
    ] refl

pub at-take_named : (ns : List Named) (m : Elements) (d : Dot) (own : Option Bool) (x : List ℕ) → at (take_named m d own ns) x ≡ cond (lists ns x) (kept_step (at m x) d (dots_at ns x) own) (at m x)
at-take_named ns m d own x =
    ap (λ o. unwrap_or o empty) (get-take_named ns m d own x)
    ∙ elim (lists ns x) as (λ b. unwrap_or (cond b (standing (kept_step (at m x) d (dots_at ns x) own)) (get m x)) empty ≡ cond b (kept_step (at m x) d (dots_at ns x) own) (at m x)) [
      | true ↦ standing_is (kept_step (at m x) d (dots_at ns x) own)
      | false ↦ refl
    ]

swap_at : (l j : Bool) (o : Option (KeptAt Bool)) (f g : KeptAt Bool → KeptAt Bool) → g (f (unwrap_or o empty)) ≡ f (g (unwrap_or o empty))
    → cond j (standing (g (unwrap_or (cond l (standing (f (unwrap_or o empty))) o) empty))) (cond l (standing (f (unwrap_or o empty))) o) ≡ cond l (standing (f (unwrap_or (cond j (standing (g (unwrap_or o empty))) o) empty))) (cond j (standing (g (unwrap_or o empty))) o)
swap_at true true o f g h = ap (λ k. standing (g k)) (standing_is (f (unwrap_or o empty))) ∙ ap standing h ∙ sym (ap (λ k. standing (f k)) (standing_is (g (unwrap_or o empty))))
swap_at true false o f g h = refl
swap_at false true o f g h = refl
swap_at false false o f g h = refl

unnamed_at : (ns : List Named) (q : Dot) (x : List ℕ) → names_dot ns q ≡ false → has_dot (dots_at ns x) q ≡ false
unnamed_at [] q x h = refl
unnamed_at (n ∷ ns) q x h =
    let two = or_parts (has_dot n.dots q) (names_dot ns q) h in
    let rest = unnamed_at ns q x two.1 in
    elim (same_text x n.text) as (λ b. has_dot (cond b (n.dots ++ dots_at ns x) (dots_at ns x)) q ≡ false) [
      | true ↦ list_any-append (same_dot q) n.dots (dots_at ns x) ∙ or_from _ _ two.0 rest
      | false ↦ rest
    ]

pub take_swaps : (s : Elements) (d e : Dot) (a b : List Named) (x y : Option Bool) → same_dot d e ≡ false → names_dot a e ≡ false → names_dot b d ≡ false → take_named (take_named s d x a) e y b ≡ take_named (take_named s e y b) d x a
take_swaps s d e a b x y apart na nb = same_map text_cmp_total text_cmp_exact _ _ (λ t.
    let f : KeptAt Bool → KeptAt Bool = λ k. kept_step k d (dots_at a t) x in
    let g : KeptAt Bool → KeptAt Bool = λ k. kept_step k e (dots_at b t) y in
    get-take_named b (take_named s d x a) e y t ∙ ap (λ o. cond (lists b t) (standing (g (unwrap_or o empty))) o) (get-take_named a s d x t)
    ∙ swap_at (lists a t) (lists b t) (get s t) f g (kept_swaps (at s t) d e (dots_at a t) (dots_at b t) x y apart (unnamed_at a e t na) (unnamed_at b d t nb))
    ∙ sym (get-take_named a (take_named s e y b) d x t ∙ ap (λ o. cond (lists a t) (standing (f (unwrap_or o empty))) o) (get-take_named b s e y t)))

any_found : {V : Type 0} (t : V → Bool) (es : List (List ℕ × V)) (x : List ℕ) (v : V) → find text_cmp x es ≡ Some v → t v ≡ true → list_any (λ e. t e.1) es ≡ true
any_found t [] x v h k = absurd (false≢true (ap is_some h))
any_found t (e ∷ es) x v h k = elim (same_text x e.0) as (λ b. cond b (Some e.1) (find text_cmp x es) ≡ Some v → (t e.1 || list_any (λ e. t e.1) es) ≡ true) [
  | true ↦ λ i. or_left (t e.1) _ (ap t (ap (λ o. unwrap_or o v) i) ∙ k)
  | false ↦ λ i. or_right (t e.1) _ (any_found t es x v i k)
] h

found_any : {V : Type 0} (t : V → Bool) (es : List (List ℕ × V)) → IsDistinct text_cmp es → list_any (λ e. t e.1) es ≡ true → (x : List ℕ) × (v : V) × (find text_cmp x es ≡ Some v) × (t v ≡ true)
found_any t [] d h = absurd (false≢true h)
found_any {V} t (e ∷ es) d h = ⊎_elim
    (λ here. (e.0, e.1, ap (λ b. cond b (Some e.1) (find text_cmp e.0 es)) (same_text_itself e.0), here))
    (λ later.
    let w = found_any t es d.1 later in (
      w.0,
      w.1,
      elim (same_text w.0 e.0) as (λ b. same_text w.0 e.0 ≡ b → cond b (Some e.1) (find text_cmp w.0 es) ≡ Some w.1) [
        | true ↦ λ s. absurd (true≢false (sym (ap is_some (ap (λ y. find text_cmp y es) (sym (same_text_is w.0 e.0 s)) ∙ w.2)) ∙ ap is_some d.0))
        | false ↦ λ s. w.2
      ] refl,
      w.3,
    ))
    (or_cases (t e.1) (list_any (λ e. t e.1) es) h)

where_kept : (s : Elements) (x : List ℕ) (q : Dot) (o : Option (KeptAt Bool)) → get s x ≡ o → is_kept (unwrap_or o empty) q ≡ true → keeps_dot s q ≡ true
where_kept s x q None e h = absurd (false≢true (sym (ap is_some (get-empty dot_cmp q)) ∙ h))
where_kept s x q (Some k) e h = any_found (λ k. is_kept k q) (entries s) x k (sym (get-entries s x) ∙ e) h

-- what is kept of an element is kept by the set
pub kept_in : (s : Elements) (x : List ℕ) (q : Dot) → is_kept (at s x) q ≡ true → keeps_dot s q ≡ true
kept_in s x q h = where_kept s x q (get s x) refl h

-- what is kept by the set is kept of some element
pub kept_of_some : (s : Elements) (q : Dot) → keeps_dot s q ≡ true → (x : List ℕ) × (is_kept (at s x) q ≡ true)
kept_of_some s q h =
    let w = found_any (λ k. is_kept k q) (entries s) (distinct_entries s) h in
    (w.0, ap (λ o. is_kept (unwrap_or o empty) q) (get-entries s w.0 ∙ w.2) ∙ w.3)

pub take_held : (s : Elements) (d : Dot) (own : Option Bool) (ns : List Named) (q : Dot) → keeps_dot (take_named s d own ns) q ≡ true → (keeps_dot s q || same_dot d q) ≡ true
take_held s d own ns q h =
    let w = kept_of_some (take_named s d own ns) q h in
    let x = w.0 in
    let k : is_kept (cond (lists ns x) (kept_step (at s x) d (dots_at ns x) own) (at s x)) q ≡ true = ap (λ k. is_kept k q) (sym (at-take_named ns s d own x)) ∙ w.1 in
    elim (lists ns x) as (λ b. is_kept (cond b (kept_step (at s x) d (dots_at ns x) own) (at s x)) q ≡ true → (keeps_dot s q || same_dot d q) ≡ true) [
      | true ↦ λ k. ⊎_elim (λ old. or_left (keeps_dot s q) _ (kept_in s x q old)) (λ new. or_right (keeps_dot s q) _ new) (or_cases (is_kept (at s x) q) (same_dot d q) (kept_held (at s x) d (dots_at ns x) own q k))
      | false ↦ λ k. or_left (keeps_dot s q) _ (kept_in s x q k)
    ] k

pub at_none : (x : List ℕ) → at empty x ≡ empty
at_none x = ap (λ (o : Option (KeptAt Bool)). unwrap_or o empty) (get-empty text_cmp x)

pub keeps_none : (q : Dot) → keeps_dot empty q ≡ false
keeps_none q = false_from_ne_true _ (λ t. let w = kept_of_some empty q t in false≢true (sym (ap (λ (k : KeptAt Bool). is_kept k q) (at_none w.0) ∙ ap is_some (get-empty dot_cmp q)) ∙ w.1))

-- what is named at a state
pub names_kept : (s : Elements) (xs : List (List ℕ)) (q : Dot) → names_dot (named_at s xs) q ≡ true → keeps_dot s q ≡ true
names_kept s [] q h = absurd (false≢true h)
names_kept s (x ∷ xs) q h = ⊎_elim (λ here. kept_in s x q (sym (has_dots_of (at s x) q) ∙ here)) (names_kept s xs q) (or_cases (has_dot (dots_of (at s x)) q) (names_dot (named_at s xs) q) h)

-- what is kept of an element that is named
pub kept_names : (s : Elements) (xs : List (List ℕ)) (x : List ℕ) (q : Dot) → is_in xs x ≡ true → is_kept (at s x) q ≡ true → names_dot (named_at s xs) q ≡ true
kept_names s [] x q i h = absurd (false≢true i)
kept_names s (y ∷ ys) x q i h = ⊎_elim
    (λ here. or_left (has_dot (dots_of (at s y)) q) _ (has_dots_of (at s y) q ∙ ap (λ z. is_kept (at s z) q) (sym (same_text_is x y here)) ∙ h))
    (λ later. or_right (has_dot (dots_of (at s y)) q) _ (kept_names s ys x q later h))
    (or_cases (same_text x y) (is_in ys x) i)

pub lists_named : (s : Elements) (xs : List (List ℕ)) (x : List ℕ) → lists (named_at s xs) x ≡ is_in xs x
lists_named s [] x = refl
lists_named s (y ∷ ys) x = ap (λ b. same_text x y || b) (lists_named s ys x)

absorbed : (a b : Bool) → (b || (a && b)) ≡ b
absorbed true true = refl
absorbed true false = refl
absorbed false true = refl
absorbed false false = refl

pub dots_named : (s : Elements) (xs : List (List ℕ)) (x : List ℕ) (q : Dot) → has_dot (dots_at (named_at s xs) x) q ≡ (is_in xs x && is_kept (at s x) q)
dots_named s [] x q = refl
dots_named s (y ∷ ys) x q =
    let rest = dots_named s ys x q in
    elim (same_text x y) as (λ b. same_text x y ≡ b → has_dot (cond b (dots_of (at s y) ++ dots_at (named_at s ys) x) (dots_at (named_at s ys) x)) q ≡ ((b || is_in ys x) && is_kept (at s x) q)) [
      | true ↦ λ e. list_any-append (same_dot q) (dots_of (at s y)) (dots_at (named_at s ys) x)
          ∙ (λ i. (has_dots_of (at s y) q ∙ ap (λ z. is_kept (at s z) q) (sym (same_text_is x y e))) i || rest i)
          ∙ absorbed (is_in ys x) (is_kept (at s x) q)
      | false ↦ λ e. rest
    ] refl
