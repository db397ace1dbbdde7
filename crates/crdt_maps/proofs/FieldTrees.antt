-- Fields that are taken out and put back, and lists of fields.
use Rattle.std.proofs.Common.{◌≡◌, ℕ, Bool, true, false, cond, ◌&&◌, List, [], ◌∷◌, ◌++◌, Option, Some, None, refl, sym, ap, ◌∙◌, append_assoc, append-nil}
use Rattle.std.specs.Prelude.{map, filter, is_some}
use Rattle.std.specs.List.{list_all}
use Rattle.std.specs.Option.{option_or}
use Rattle.std.specs.Ordering.{eq_by_cmp}
use Rattle.std.specs.Cmp.{Equal-is, eq_by_cmp_equiv}
use Rattle.std.proofs.lemmas.Bool.{true≢false}
use Rattle.std.specs.FinMap.{empty, entries, get, insert, remove, get-insert, get-remove, get-empty, get-entries, from_entries}
use Rattle.std.specs.Map.{update_all}
use Rattle.crdt_core.specs.declared.operation.Act.{Act}
use Rattle.crdt_core.specs.declared.operation.Act.TheVariants.{Reset}
use Rattle.crdt_core.specs.MapLists.{IsDistinct, distinct_entries, at, get_at}
use Rattle.crdt_core.specs.declared.kind.Kind.{Kind}
use Rattle.crdt_core.specs.declared.object.Field.{Field}
use Rattle.crdt_core.specs.FieldOrder.{field_cmp, field_cmp_total, field_cmp_exact}
use Rattle.crdt_meanings.specs.Maps.{FieldMap, is_undone, resets_of}
use Rattle.crdt_meanings.proofs.FieldSteps.{found, same_fields}
use Rattle.crdt_maps.specs.Filled.{filled}

skip : {X : Type 0} (b : Bool) (y o p : Option X) → p ≡ cond b None o → cond b y p ≡ cond b y o
skip true y o p h = refl
skip false y o p h = h

pub back_in : {S : Type 0} (m : FieldMap S) (f : Field) (s : S) → insert (remove m f) f s ≡ insert m f s
back_in m f s = same_fields _ _ (λ q.
    get-insert field_cmp_total (remove m f) f s q ∙ skip _ (Some s) (get m q) (get (remove m f) q) (get-remove field_cmp_total m f q)
    ∙ sym (get-insert field_cmp_total m f s q))

-- what was taken out, stepped on and put back
pub put_back : {S : Type 0} (m n w : FieldMap S) (f g : Field) (s : S) → n ≡ remove m f → g ≡ f → w ≡ insert n g s → w ≡ insert m f s
put_back m n w f g s gone same put = put ∙ (λ i. insert (gone i) (same i) s) ∙ back_in m f s

-- a look-up in a map that is filled with a list
get_filled : {S : Type 0} (m : FieldMap S) (es : List (Field × S)) (q : Field) → get (filled m es) q ≡ update_all (eq_by_cmp field_cmp) (get m) es q
get_filled m [] q = refl
get_filled m (e ∷ es) q =
    get_filled (insert m e.0 e.1) es q
    ∙ ap (λ g. update_all (eq_by_cmp field_cmp) g es q) (λ i p. (get-insert field_cmp_total m e.0 e.1 p ∙ ap (λ b. cond b (Some e.1) (get m p)) ((eq_by_cmp_equiv field_cmp_total).symm p e.0)) i)

-- a tree that std makes of a list, seen as a map
pub tree_filled : {S : Type 0} (es fs : List (Field × S)) → ((q : Field) → at field_cmp fs q ≡ update_all (eq_by_cmp field_cmp) (λ _. None) es q) → from_entries {R = field_cmp} fs ≡ filled empty es
tree_filled es fs h = same_fields _ _ (λ q.
    get_at field_cmp_total field_cmp_exact fs q ∙ h q ∙ ap (λ g. update_all (eq_by_cmp field_cmp) g es q) (λ i p. sym (get-empty field_cmp p) i) ∙ sym (get_filled empty es q))

either : {S : Type 0} (b : Bool) (x : S) (o p : Option S) → (b ≡ true → o ≡ None) → option_or o (cond b (Some x) p) ≡ option_or (cond b (Some x) o) p
either true x None p h = refl
either true x (Some y) p h = absurd (true≢false (ap is_some (h refl)))
either false x o p h = refl

get_all : {S : Type 0} (es : List (Field × S)) → IsDistinct field_cmp es → (m : FieldMap S) (q : Field) → get (filled m es) q ≡ option_or (found q es) (get m q)
get_all [] d m q = refl
get_all (e ∷ es) d m q =
    get_all es d.1 (insert m e.0 e.1) q
    ∙ ap (option_or (found q es)) (get-insert field_cmp_total m e.0 e.1 q)
    ∙ either (eq_by_cmp field_cmp q e.0) e.1 (found q es) (get m q) (λ t. ap (λ f. found f es) (field_cmp_exact q e.0 ((Equal-is (field_cmp q e.0)).0 t)) ∙ d.0)

or_none : {S : Type 0} (o : Option S) → option_or o None ≡ o
or_none None = refl
or_none (Some x) = refl

-- a map is all its fields put in
pub all_again : {S : Type 0} (m : FieldMap S) → filled empty (entries m) ≡ m
all_again m = same_fields _ _ (λ q.
    get_all (entries m) (distinct_entries m) empty q ∙ ap (option_or (found q (entries m))) (get-empty field_cmp q) ∙ or_none (found q (entries m)) ∙ sym (get-entries m q))

-- one more member of what is listed
pub grow : {A : Type 0} (whole before after it rest : List A) (x : A) → before ++ it ≡ whole → it ≡ x ∷ rest → after ≡ before ++ x ∷ [] → after ++ rest ≡ whole
grow whole before after it rest x h e k = ap (λ l. l ++ rest) k ∙ append_assoc before (x ∷ []) rest ∙ ap (λ l. before ++ l) (sym e) ∙ h

pub grow_by : {A : Type 0} (whole before after it rest more : List A) → before ++ it ≡ whole → it ≡ more ++ rest → after ≡ before ++ more → after ++ rest ≡ whole
grow_by whole before after it rest more h e k = ap (λ l. l ++ rest) k ∙ append_assoc before more rest ∙ ap (λ l. before ++ l) (sym e) ∙ h

pub grown : {A : Type 0} (whole before it : List A) → before ++ it ≡ whole → it ≡ [] → before ≡ whole
grown whole before it h e = sym (append-nil before) ∙ ap (λ l. before ++ l) (sym e) ∙ h

-- a loop over states that are all blank
pub still_blank : {S : Type 0} (t : Field × S → Bool) (whole : Bool) (it rest : List (Field × S)) (x : Field × S) → list_all t it ≡ whole → it ≡ x ∷ rest → t x ≡ true → list_all t rest ≡ whole
still_blank t whole it rest x h e k = sym (ap (λ b. b && list_all t rest) k) ∙ sym (ap (list_all t) e) ∙ h

pub not_blank : {S : Type 0} (t : Field × S → Bool) (whole : Bool) (it rest : List (Field × S)) (x : Field × S) → list_all t it ≡ whole → it ≡ x ∷ rest → t x ≡ false → false ≡ whole
not_blank t whole it rest x h e k = sym (ap (λ b. b && list_all t rest) k) ∙ sym (ap (list_all t) e) ∙ h

pub was_blank : {S : Type 0} (t : Field × S → Bool) (whole : Bool) (it : List (Field × S)) → list_all t it ≡ whole → it ≡ [] → true ≡ whole
was_blank t whole it h e = sym (ap (list_all t) e) ∙ h

-- the resets of one field more
pub resets_more : {S E : Type 0} (has : Kind → Bool) (made : Kind → S → List Field → Act → ℕ → E) (is_blank : S → Bool) (n : ℕ) (x : Field × S) (es : List (Field × S)) → resets_of has made is_blank n (x ∷ es) ≡ resets_of has made is_blank n (x ∷ []) ++ resets_of has made is_blank n es
resets_more has made is_blank n x es =
    let reset : Field × _ → Field × _ = λ e. (e.0, made e.0.kind e.1 [] Reset n) in
    elim (is_undone has is_blank x) as (λ b. map reset (cond b (x ∷ filter (is_undone has is_blank) es) (filter (is_undone has is_blank) es)) ≡ map reset (cond b (x ∷ []) []) ++ map reset (filter (is_undone has is_blank) es)) [ true ↦ refl | false ↦ refl ]
