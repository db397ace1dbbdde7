-- Texts joined by commas, one more at a time.
use Rattle.std.proofs.Common.{◌≡◌, ℕ, ◌+◌, ◌<◌, List, [], ◌∷◌, ◌++◌, length, take, get_or, Bool, true, if◌then◌else◌, nat_lt, sym, ap, ◌∙◌, append_assoc, arith, suc}
use Rattle.std.proofs.Common.{Bor, Vec, vec_items, Global, nat_cmp, Ordering, Less, Equal, Greater, refl, map}
use Rattle.std.specs.List.{join_by, flat_map}
use Rattle.std.specs.Ordering.{match_ordering}
use Rattle.std.specs.BTreeMap.{insert_entry}
use Rattle.std.specs.Cmp.Lexicographic.{slice_cmp}
use Rattle.std.proofs.lemmas.List.{map-append, length-map}
use Rattle.std.proofs.lemmas.Grind.{fold-append}
use Rattle.crdt_core.specs.declared.object.Field.{Field}
use Rattle.crdt_core.specs.declared.value.Value.{Value}
use Rattle.reply_text.specs.Values.{member_text, members, member_name, value_text}
use Rattle.reply_text.specs.Texts.{entries_of, texts_of}
use Rattle.std.proofs.lemmas.List.{append-nil, take_more, length-take-le}
use Rattle.std.proofs.lemmas.Bool.Decides.{nat_tests}
use Rattle.std.proofs.lemmas.Grind.{flat_map-append}

positive : (n : ℕ) → nat_lt 0 (suc n) ≡ true
positive n = grind (arith, nat_tests)

pub joined-push : {X : Type 0} (f : X → List ℕ) (sep : List ℕ) (xs : List X) (y : X) → join_by f sep (xs ++ y ∷ []) ≡ join_by f sep xs ++ ((if nat_lt 0 (length xs) then sep else []) ++ f y)
joined-push f sep [] y = append-nil (f y)
joined-push f sep (x ∷ xs) y =
    ap (λ s. f x ++ s) (flat_map-append (λ y. sep ++ f y) xs (y ∷ []) ∙ ap (λ s. flat_map (λ y. sep ++ f y) xs ++ s) (append-nil (sep ++ f y)))
    ∙ sym (append_assoc (f x) (flat_map (λ y. sep ++ f y) xs) (sep ++ f y))
    ∙ ap (λ b. (f x ++ flat_map (λ y. sep ++ f y) xs) ++ ((if b then sep else []) ++ f y)) (sym (positive (length xs)))

-- after the first i texts, with the next
pub joined_more : {X : Type 0} (f : X → List ℕ) (sep : List ℕ) (xs : List X) (i : ℕ) (x d : X) → i < length xs → x ≡ get_or xs i d → join_by f sep (take i xs) ++ ((if nat_lt 0 i then sep else []) ++ f x) ≡ join_by f sep (take (i + 1) xs)
joined_more f sep xs i x d within is =
    let taken : take (i + 1) xs ≡ take i xs ++ x ∷ [] = take_more xs i d within ∙ ap (λ w. take i xs ++ w ∷ []) (sym is) in
    let count : length (take i xs) ≡ i = length-take-le i xs (omega arith) in
    sym (ap (λ ws. join_by f sep ws) taken ∙ joined-push f sep (take i xs) x ∙ ap (λ n. join_by f sep (take i xs) ++ ((if nat_lt 0 n then sep else []) ++ f x)) count)

pub some_now : {X : Type 0} (xs : List X) (x : X) → true ≡ nat_lt 0 (length (xs ++ x ∷ []))
some_now [] x = sym (positive 0)
some_now (y ∷ xs) x = sym (positive (length (xs ++ x ∷ [])))

entries_of-match_ordering : (o : Ordering) (a b c : List (List ℕ × Vec ℕ Global)) → entries_of (match_ordering o a b c) ≡ match_ordering o (entries_of a) (entries_of b) (entries_of c)
entries_of-match_ordering Less a b c = refl
entries_of-match_ordering Equal a b c = refl
entries_of-match_ordering Greater a b c = refl

-- one member more of an object
pub member_more : (ms : List (List ℕ × Vec ℕ Global)) (name : List ℕ) (value : Vec ℕ Global) → join_by member_text (44 ∷ []) (entries_of ms) ++ ((if nat_lt 0 (length ms) then 44 ∷ [] else []) ++ member_text (name, vec_items value))
    ≡ join_by member_text (44 ∷ []) (entries_of (ms ++ (name, value) ∷ []))
member_more ms name value =
    sym (ap (λ es. join_by member_text (44 ∷ []) es) (map-append (λ (m : List ℕ × Vec ℕ Global). (m.0, vec_items m.1)) ms ((name, value) ∷ []))
    ∙ joined-push member_text (44 ∷ []) (entries_of ms) (name, vec_items value)
    ∙ ap (λ n. join_by member_text (44 ∷ []) (entries_of ms) ++ ((if nat_lt 0 n then 44 ∷ [] else []) ++ member_text (name, vec_items value))) (length-map ms (λ (m : List ℕ × Vec ℕ Global). (m.0, vec_items m.1))))

-- the entries with a member put in
pub entries_of-insert_entry : (es : List (List ℕ × Vec ℕ Global)) (k : List ℕ) (v : Vec ℕ Global) → entries_of (insert_entry (slice_cmp nat_cmp) es k v) ≡ insert_entry (slice_cmp nat_cmp) (entries_of es) k (vec_items v)
entries_of-insert_entry [] k v = refl
entries_of-insert_entry (e ∷ es) k v = entries_of-match_ordering ((slice_cmp nat_cmp) k e.0) _ _ _ ∙ rw (entries_of-insert_entry es k v)

pub members-push : (fs : List (Field × List ℕ)) (f : Field × List ℕ) → members (fs ++ f ∷ []) ≡ insert_entry (slice_cmp nat_cmp) (members fs) (member_name f.0) f.1
members-push fs f = fold-append _ [] fs (f ∷ [])

abbrev now_of : Bor (List ℕ) × Bor (Vec ℕ Global) → List ℕ × Vec ℕ Global
now_of m = (m.0.now, m.1.now)

pub members_more : (ys : List (Bor (List ℕ) × Bor (Vec ℕ Global))) (name : Bor (List ℕ)) (value : Bor (Vec ℕ Global)) (start old new item : List ℕ) (later : Bool) → later ≡ nat_lt 0 (length ys)
    → old ≡ start ++ join_by member_text (44 ∷ []) (entries_of (map (λ m. (m.0.now, m.1.now)) ys)) → item ≡ member_text (name.now, vec_items value.now) → new ≡ old ++ ((if later then 44 ∷ [] else []) ++ item)
    → new ≡ start ++ join_by member_text (44 ∷ []) (entries_of (map (λ m. (m.0.now, m.1.now)) (ys ++ (name, value) ∷ [])))
members_more ys name value start old new item later is_later is_old is_item is_new =
    let J : List ℕ = join_by member_text (44 ∷ []) (entries_of (map now_of ys)) in
    let v : List ℕ = member_text (name.now, vec_items value.now) in
    let counted : J ++ ((if later then 44 ∷ [] else []) ++ v) ≡ J ++ ((if nat_lt 0 (length (map now_of ys)) then 44 ∷ [] else []) ++ v) =
    ap (λ b. J ++ ((if b then 44 ∷ [] else []) ++ v)) (is_later ∙ ap (λ n. nat_lt 0 n) (sym (length-map ys now_of))) in
    is_new ∙ ap (λ i. old ++ ((if later then 44 ∷ [] else []) ++ i)) is_item ∙ ap (λ o. o ++ ((if later then 44 ∷ [] else []) ++ v)) is_old ∙ append_assoc start J ((if later then 44 ∷ [] else []) ++ v)
    ∙ ap (λ s. start ++ s) (counted ∙ member_more (map now_of ys) name.now value.now ∙ ap (λ ms. join_by member_text (44 ∷ []) (entries_of ms)) (sym (map-append now_of ys ((name, value) ∷ []))))

-- one field more
pub field_more : (ys : List (Bor (Field × Value))) (y : Bor (Field × Value)) (es new : List (List ℕ × Vec ℕ Global)) (name : List ℕ) (text : Vec ℕ Global) → entries_of es ≡ members (texts_of (map (λ f. f.now) ys)) → name ≡ member_name y.now.0
    → vec_items text ≡ value_text y.now.1 → new ≡ insert_entry (slice_cmp nat_cmp) es name text → entries_of new ≡ members (texts_of (map (λ f. f.now) (ys ++ y ∷ [])))
field_more ys y es new name text so is holds put =
    let fs : List (Field × Value) = map (λ f. f.now) ys in
    let last : texts_of (map (λ f. f.now) (ys ++ y ∷ [])) ≡ texts_of fs ++ (y.now.0, value_text y.now.1) ∷ [] =
    ap texts_of (map-append (λ (f : Bor (Field × Value)). f.now) ys (y ∷ [])) ∙ map-append (λ (f : Field × Value). (f.0, value_text f.1)) fs (y.now ∷ []) in
    ap entries_of put ∙ entries_of-insert_entry es name text ∙ rw (so, is, holds) (sym (ap members last ∙ members-push (texts_of fs) (y.now.0, value_text y.now.1)))

-- one more of the texts that a loop adds
pub loop_more : {X : Type 0} (f : X → List ℕ) (sep : List ℕ) (xs : List X) (i : ℕ) (x d : X) (start old new : List ℕ) → i < length xs → x ≡ get_or xs i d → old ≡ start ++ join_by f sep (take i xs) → new ≡ old ++ ((if nat_lt 0 i then sep else []) ++ f x)
    → new ≡ start ++ join_by f sep (take (i + 1) xs)
loop_more f sep xs i x d start old new within is is_old is_new =
    let J : List ℕ = join_by f sep (take i xs) in
    let c : List ℕ = if nat_lt 0 i then sep else [] in
    is_new ∙ ap (λ o. o ++ (c ++ f x)) is_old ∙ append_assoc start J (c ++ f x) ∙ ap (λ s. start ++ s) (joined_more f sep xs i x d within is)
