-- Sets made of lists, and lists of sets.
use Rattle.std.proofs.Common.{◌≡◌, ℕ, Bool, true, false, cond, ◌||◌, List, [], ◌∷◌, ◌++◌, length, Option, Some, None, refl, sym, ap, ◌∙◌, append_assoc, append-nil, arith}
use Rattle.std.specs.Prelude.{map, filter, is_some, unwrap_or, ◌==◌}
use Rattle.std.specs.Cmp.{eq_by_cmp_equiv}
use Rattle.std.specs.FinMap.{empty, get, keys, entries, insert, remove, from_entries, get-empty, get-insert, get-remove, len, len-entries, len-empty, same_map}
use Rattle.site_vector.specs.declared.ids.Dot.{Dot}
use Rattle.site_vector.specs.Order.{dot_cmp}
use Rattle.crdt_core.specs.Kept.{KeptAt, dots_of}
use Rattle.crdt_core.specs.Texts.{text_cmp, text_cmp_total, text_cmp_exact, same_text, is_in, marked, ascending, is_marked}
use Rattle.crdt_meanings.specs.SetGo.{with_each}
use Rattle.std.specs.Map.{lookup}
use Rattle.std.specs.BTreeMap.{is_at}
use Rattle.crdt_core.specs.MapLists.{get_at}
use Rattle.crdt_meanings.specs.Elements.{Elements, shows, at, put_back}
use Rattle.crdt_meanings.proofs.GoLaw.{same_grown, has_each}

or_nothing : (a b : Bool) → b ≡ false → (a || b) ≡ a
or_nothing true b h = refl
or_nothing false b h = h

empty_each : (xs : List (List ℕ)) → with_each empty xs ≡ from_entries (marked xs)
empty_each xs = same_grown _ _ (λ q. has_each xs empty q ∙ or_nothing (is_in xs q) _ (ap is_some (get-empty text_cmp q)) ∙ sym (is_marked xs q))

-- the set of a list has its texts in order
pub each_ascending : (xs : List (List ℕ)) → keys (with_each empty xs) ≡ ascending xs
each_ascending xs = ap keys (empty_each xs)

-- one more member of what is listed
pub grow : {A : Type 0} (whole before after it rest : List A) (x : A) → before ++ it ≡ whole → it ≡ x ∷ rest → after ≡ before ++ x ∷ [] → after ++ rest ≡ whole
grow whole before after it rest x h e k = ap (λ l. l ++ rest) k ∙ append_assoc before (x ∷ []) rest ∙ ap (λ l. before ++ l) (sym e) ∙ h

pub grown : {A : Type 0} (whole before it : List A) → before ++ it ≡ whole → it ≡ [] → before ≡ whole
grown whole before it h e = sym (append-nil before) ∙ ap (λ l. before ++ l) (sym e) ∙ h

-- the elements that are shown among these
abbrev pub passing_of : Bool → List (List ℕ × KeptAt Bool) → List (List ℕ)
passing_of removes_win es = map (λ e. e.0) (filter (λ e. shows removes_win e.1) es)

pub pass_more : (w : Bool) (whole before after : List (List ℕ)) (it rest : List (List ℕ × KeptAt Bool)) (x : List ℕ × KeptAt Bool) → shows w x.1 ≡ true → before ++ passing_of w it ≡ whole → it ≡ x ∷ rest → after ≡ before ++ x.0 ∷ [] → after ++ passing_of w rest ≡ whole
pass_more w whole before after it rest x s h e k =
    grow whole before after (passing_of w it) (passing_of w rest) x.0 h
    (ap (passing_of w) e ∙ ap (λ b. map (λ (e : List ℕ × KeptAt Bool). e.0) (cond b (x ∷ filter (λ e. shows w e.1) rest) (filter (λ e. shows w e.1) rest))) s) k

pub pass_by : (w : Bool) (whole before : List (List ℕ)) (it rest : List (List ℕ × KeptAt Bool)) (x : List ℕ × KeptAt Bool) → shows w x.1 ≡ false → before ++ passing_of w it ≡ whole → it ≡ x ∷ rest → before ++ passing_of w rest ≡ whole
pass_by w whole before it rest x s h e =
    ap (λ l. before ++ l) (sym (ap (passing_of w) e ∙ ap (λ b. map (λ (e : List ℕ × KeptAt Bool). e.0) (cond b (x ∷ filter (λ e. shows w e.1) rest) (filter (λ e. shows w e.1) rest))) s)) ∙ h

has_after : (key : Bool) (o : Option (Unit {0})) → is_some (cond key (Some tt) o) ≡ (key || is_some o)
has_after true o = refl
has_after false o = refl

turn : (a b : Bool) → cond a true b ≡ (a || b)
turn true b = refl
turn false b = refl

-- what a tree of std says of one key put in, of the set
pub one_in : (ks ls : List (List ℕ)) (x : List ℕ) → ((q : List ℕ) → is_in ls q ≡ cond (same_text x q) true (is_in ks q)) → from_entries {R = text_cmp} (marked ls) ≡ insert (from_entries (marked ks)) x tt
one_in ks ls x h = same_grown _ _ (λ q.
    is_marked ls q ∙ h q ∙ turn (same_text x q) (is_in ks q) ∙ (λ i. (eq_by_cmp_equiv text_cmp_total).symm x q i || is_in ks q)
    ∙ sym (ap is_some (get-insert text_cmp_total (from_entries (marked ks)) x tt q) ∙ has_after (same_text q x) _ ∙ ap (λ b. same_text q x || b) (is_marked ks q)))

skip : {X : Type 0} (b : Bool) (y o p : Option X) → p ≡ cond b None o → cond b y p ≡ cond b y o
skip true y o p h = refl
skip false y o p h = h

-- what was taken out and is put back
pub back_in : (m : Elements) (x : List ℕ) (k : KeptAt Bool) → insert (remove m x) x k ≡ insert m x k
back_in m x k = same_map text_cmp_total text_cmp_exact _ _ (λ q.
    get-insert text_cmp_total (remove m x) x k q ∙ skip (same_text q x) (Some k) (get m q) (get (remove m x) q) (get-remove text_cmp_total m x q)
    ∙ sym (get-insert text_cmp_total m x k q))

nothing_in : (es : List (Dot × Bool)) → length es ≡ 0 → map (λ e. e.0) es ≡ []
nothing_in [] h = refl
nothing_in (e ∷ es) h = absurd (omega arith)

pub no_dots : dots_of {V = Bool} empty ≡ []
no_dots = nothing_in (entries empty) (sym (len-entries empty) ∙ len-empty dot_cmp Bool)

-- what a look-up in the tree says of what is kept of an element
pub at_some : (es : List (List ℕ × KeptAt Bool)) (x : List ℕ) (k : KeptAt Bool) → lookup (is_at (text_cmp x)) es ≡ Some k → at (from_entries es) x ≡ k
at_some es x k h = ap (λ (o : Option (KeptAt Bool)). unwrap_or o empty) (get_at text_cmp_total text_cmp_exact es x ∙ h)

pub at_none : (es : List (List ℕ × KeptAt Bool)) (x : List ℕ) → lookup (is_at (text_cmp x)) es ≡ None → at (from_entries es) x ≡ empty
at_none es x h = ap (λ (o : Option (KeptAt Bool)). unwrap_or o empty) (get_at text_cmp_total text_cmp_exact es x ∙ h)

pub put_nonempty : (m : Elements) (x : List ℕ) (k : KeptAt Bool) → (len k == 0) ≡ false → insert (remove m x) x k ≡ put_back m x k
put_nonempty m x k h = back_in m x k ∙ sym (ap (λ b. cond b (remove m x) (insert m x k)) h)
