-- The acts that a kind has are those that change what it shows.
use Rattle.std.proofs.Common.{◌≡◌, ℕ, Bool, true, false, cond, not, ◌&&◌, ◌||◌, List, [], ◌∷◌, ◌++◌, Some, None, refl, sym, ap, ◌∙◌, arith}
use Rattle.std.specs.Prelude.{◌≢◌, filter, map, ℤ, pos, ◌+ℤ◌, unwrap_or}
use Rattle.std.specs.List.{list_any, list_all}
use Rattle.std.specs.Int.{int_wrap, w128}
use Rattle.std.proofs.lemmas.Int.{ints}
use Rattle.std.proofs.lemmas.Bool.{true≢false, false≢true, or_parts}
use Rattle.site_vector.specs.declared.ids.Dot.{Dot}
use Rattle.site_vector.specs.Ids.{same_dot}
use Rattle.crdt_core.specs.declared.kind.Kind.{Kind}
use Rattle.crdt_core.specs.declared.kind.Kind.TheVariants as kind
use Rattle.crdt_core.specs.declared.operation.Act.{Act}
use Rattle.crdt_core.specs.declared.operation.Act.TheVariants as act
use Rattle.crdt_core.specs.declared.value.Value.{Value}
use Rattle.crdt_core.specs.declared.value.Value.TheVariants.{Int, Flag, Word, Words}
use Rattle.crdt_core.specs.Fits.{is_map, is_amount, is_add, is_remove, is_switch, fits}
use Rattle.crdt_core.specs.Seen.{Update, sees, is_reset, is_assign, is_live}
use Rattle.crdt_core.specs.History.{IsHistory}
use Rattle.crdt_core.specs.Texts.{is_in, same_text_itself, ascending, in_ascending, in_filter}
use Rattle.crdt_core.specs.Wins.{add_wins, remove_wins}
use Rattle.crdt_meanings.specs.CounterMeaning.{amount, total, counter_meaning}
use Rattle.crdt_meanings.specs.FlagMeaning.{enables, disables}
use Rattle.crdt_meanings.specs.SetMeaning.{adds, removes, added_by, added}
use Rattle.crdt_meanings.specs.RegisterMeaning.{text_of, assigned, last_assign, word_of, mv_meaning}
use Rattle.crdt_meanings.specs.Later.{later}
use Rattle.crdt_meanings.specs.Sorted.{sorted}
use Rattle.crdt_meanings.specs.Maps.{has_none, is_zero, is_empty}
use Rattle.crdt_meanings.specs.Shows.{plain_meaning, Shows, IsSilent}
use Rattle.crdt_meanings.proofs.Empties.{int_step, flag_step, word_step, words_step, zero_is, none_ascends}
use Rattle.crdt_meanings.proofs.Totals.{add_none, nothing_wraps}

-- ---- acts that a kind lacks change nothing

no_amount : (a : Act) → is_amount a ≡ false → amount a ≡ pos 0
no_amount (act.Increment n) h = absurd (true≢false h)
no_amount (act.Decrement n) h = absurd (true≢false h)
no_amount _ h = refl

no_added : (a : Act) → is_add a ≡ false → added_by a ≡ []
no_added (act.Add []) h = refl
no_added (act.Add (x ∷ xs)) h = absurd (true≢false h)
no_added _ h = refl

no_adds : (a : Act) → is_add a ≡ false → (x : List ℕ) → adds x a ≡ false
no_adds (act.Add []) h x = refl
no_adds (act.Add (y ∷ ys)) h x = absurd (true≢false h)
no_adds _ h x = refl

no_removes : (a : Act) → is_remove a ≡ false → (x : List ℕ) → removes x a ≡ false
no_removes (act.Remove []) h x = refl
no_removes (act.Remove (y ∷ ys)) h x = absurd (true≢false h)
no_removes _ h x = refl

no_enable : (a : Act) → is_switch a ≡ false → enables a ≡ false
no_enable act.Enable h = absurd (true≢false h)
no_enable _ h = refl

no_disable : (a : Act) → is_switch a ≡ false → disables a ≡ false
no_disable act.Disable h = absurd (true≢false h)
no_disable _ h = refl

none_assigned : (n : ℕ) (d : Dot) (a : Act) → is_assign a ≡ false → assigned n d a ≡ None
none_assigned n d (act.Assign x) h = absurd (true≢false h)
none_assigned n d _ h = refl

none_counted : (n : ℤ) → n ≡ pos 0 → (m : ℤ) → (m +ℤ n) ≡ m
none_counted n h m = ap (λ z. m +ℤ z) h ∙ sym (add_none m)

module _ (u : Update) (us : List Update) (kept : is_reset u.act ≡ false) where
  live_as_before : (v : Update) → is_live (u ∷ us) v ≡ is_live us v
  live_as_before v = λ i. not ((kept i && sees u v.dot) || list_any (λ r. is_reset r.act && sees r v.dot) us)

  same_total : is_amount u.act ≡ false → total (filter (is_live (u ∷ us)) (u ∷ us)) ≡ total (filter (is_live us) us)
  same_total h =
      let rest = filter (is_live us) us in
      ap (λ p. total (filter p (u ∷ us))) (λ i. λ v. live_as_before v i)
      ∙ elim (is_live us u) as (λ b. total (cond b (u ∷ rest) rest) ≡ total rest) [ true ↦ none_counted (amount u.act) (no_amount u.act h) (total rest) | false ↦ refl ]

  add_wins_as_before : (plus minus : Act → Bool) → plus u.act ≡ false → minus u.act ≡ false → add_wins plus minus (u ∷ us) ≡ add_wins plus minus us
  add_wins_as_before plus minus p m = λ i.
      ((p i && live_as_before u i) && not (((m i && live_as_before u i) && sees u u.dot) || list_any (λ r. (minus r.act && live_as_before r i) && sees r u.dot) us))
      || list_any (λ a. (plus a.act && live_as_before a i) && not (((m i && live_as_before u i) && sees u a.dot) || list_any (λ r. (minus r.act && live_as_before r i) && sees r a.dot) us)) us

  remove_wins_as_before : (plus minus : Act → Bool) → plus u.act ≡ false → minus u.act ≡ false → remove_wins plus minus (u ∷ us) ≡ remove_wins plus minus us
  remove_wins_as_before plus minus p m = λ i.
      ((p i && live_as_before u i) || list_any (λ a. plus a.act && live_as_before a i) us)
      && ((not (m i && live_as_before u i) || (((p i && live_as_before u i) && sees u u.dot) || list_any (λ a. (plus a.act && live_as_before a i) && sees a u.dot) us))
      && list_all (λ r. not (minus r.act && live_as_before r i) || (((p i && live_as_before u i) && sees u r.dot) || list_any (λ a. (plus a.act && live_as_before a i) && sees a r.dot) us)) us)

  texts_as_before : is_assign u.act ≡ false → mv_meaning kind.RegisterMv (u ∷ us) ≡ mv_meaning kind.RegisterMv us
  texts_as_before h = λ i.
      let remain : Update → Bool = λ v. (is_assign v.act && live_as_before v i) && not (((h i && live_as_before u i) && sees u v.dot) || list_any (λ w. (is_assign w.act && live_as_before w i) && sees w v.dot) us) in
      let first : Bool = (h i && live_as_before u i) && not (((h i && live_as_before u i) && sees u u.dot) || list_any (λ w. (is_assign w.act && live_as_before w i) && sees w u.dot) us) in
      Words (sorted (map (λ v. text_of v.act) (cond first (u ∷ filter remain us) (filter remain us))))

  elements_as_before : (wins : (Act → Bool) → (Act → Bool) → List Update → Bool) → ((plus minus : Act → Bool) → plus u.act ≡ false → minus u.act ≡ false → wins plus minus (u ∷ us) ≡ wins plus minus us)
      → is_add u.act ≡ false → is_remove u.act ≡ false → ascending (filter (λ x. wins (adds x) (removes x) (u ∷ us)) (added (u ∷ us))) ≡ ascending (filter (λ x. wins (adds x) (removes x) us) (added us))
  elements_as_before wins same p m = λ i. ascending (filter (λ x. same (adds x) (removes x) (no_adds u.act p x) (no_removes u.act m x) i) (no_added u.act p i ++ added us))

  silent_update : (k : Kind) → fits k [] u.act ≡ false → plain_meaning k (u ∷ us) ≡ plain_meaning k us
  silent_update kind.CounterPn h = ap (λ z. Int (int_wrap w128 z)) (same_total h)
  silent_update kind.CounterFat h = ap (λ z. Int (int_wrap w128 z)) (same_total (or_parts (is_amount u.act) _ h).0)
  silent_update kind.SetGo h = ap (λ xs. Words (ascending (xs ++ added us))) (no_added u.act h)
  silent_update kind.SetAw h = let two = or_parts (is_add u.act) _ h in ap Words (elements_as_before add_wins add_wins_as_before two.0 (or_parts (is_remove u.act) _ two.1).0)
  silent_update kind.SetRw h = let two = or_parts (is_add u.act) _ h in ap Words (elements_as_before remove_wins remove_wins_as_before two.0 (or_parts (is_remove u.act) _ two.1).0)
  silent_update kind.FlagEw h = let out = (or_parts (is_switch u.act) _ h).0 in ap Flag (add_wins_as_before enables disables (no_enable u.act out) (no_disable u.act out))
  silent_update kind.FlagDw h = let out = (or_parts (is_switch u.act) _ h).0 in ap Flag (remove_wins_as_before enables disables (no_enable u.act out) (no_disable u.act out))
  silent_update kind.RegisterLww h = ap (λ o. word_of (later o (last_assign us))) (none_assigned (unwrap_or u.stamp 0) u.dot u.act h)
  silent_update kind.RegisterMv h = texts_as_before (or_parts (is_assign u.act) _ h).0
  silent_update _ h = refl

pub unfit_silent : (k : Kind) (a : Act) → fits k [] a ≡ false → is_reset a ≡ false → IsSilent k a
unfit_silent k a h kept us u e = silent_update u us (ap is_reset e ∙ kept) k (ap (fits k []) e ∙ h)

-- ---- acts that a kind has change something

abbrev one : Dot
one = record { tx = record { site = 1; part = 1; time = 1 }; index = 1 }

abbrev two : Dot
two = record { tx = record { site = 1; part = 1; time = 2 }; index = 1 }

-- an update, and a second that has seen it
abbrev first : Act → Update
first a = record { dot = one; path = []; act = a; stamp = Some 0; now = 0; saw = λ d. false }

abbrev second : Act → Update
second a = record { dot = two; path = []; act = a; stamp = Some 1; now = 0; saw = λ d. same_dot one d }

alone : (a : Act) → IsHistory (first a ∷ [])
alone a = (record { new = refl; unseen = refl; apart = refl; closed = tt }, tt)

after_one : (a b : Act) → IsHistory (second b ∷ first a ∷ [])
after_one a b = (record { new = refl; unseen = refl; apart = refl; closed = ((λ t d s. absurd (false≢true s)), tt) }, alone a)

emptied : (v w : Value) → is_empty v ≡ true → is_empty w ≡ false → v ≢ w
emptied v w a b e = true≢false (sym a ∙ ap is_empty e ∙ b)

filled : (v w : Value) → is_empty v ≡ false → is_empty w ≡ true → v ≢ w
filled v w a b e = true≢false (sym b ∙ ap is_empty (sym e) ∙ a)

some_in : (xs : List (List ℕ)) (x : List ℕ) → is_in xs x ≡ true → has_none xs ≡ false
some_in [] x h = absurd (false≢true h)
some_in (y ∷ ys) x h = refl

no_texts : has_none (ascending []) ≡ true
no_texts = ap has_none none_ascends

counted : (k : Kind) (a : Act) → is_reset a ≡ false → int_wrap w128 (amount a) ≢ pos 0 → counter_meaning k (first a ∷ []) ≢ counter_meaning k []
counted k a kept some e =
    let whole : counter_meaning k (first a ∷ []) ≡ Int (int_wrap w128 (pos 0 +ℤ amount a)) = λ i. Int (int_wrap w128 (total (cond (not ((kept i && false) || false)) (first a ∷ []) []))) in
    let sum : (pos 0 +ℤ amount a) ≡ amount a = omega (arith, ints) in
    let zero : is_zero (int_wrap w128 (amount a)) ≡ true = sym (int_step (int_wrap w128 (amount a))) ∙ ap (λ z. is_empty (Int (int_wrap w128 z))) (sym sum) ∙ ap is_empty (sym whole ∙ e) ∙ ap (λ z. is_empty (Int z)) nothing_wraps ∙ int_step (pos 0) in
    some (zero_is (int_wrap w128 (amount a)) zero)

grown : (x : List ℕ) (xs : List (List ℕ)) → has_none (ascending ((x ∷ xs) ++ [])) ≡ false
grown x xs = some_in (ascending ((x ∷ xs) ++ [])) x (in_ascending ((x ∷ xs) ++ []) x ∙ ap (λ b. b || is_in (xs ++ []) x) (same_text_itself x))

-- an add alone
abbrev added_first : List ℕ → List (List ℕ) → List Update
added_first x xs = first (act.Add (x ∷ xs)) ∷ []

add_alone : (x : List ℕ) (xs : List (List ℕ)) → add_wins (adds x) (removes x) (added_first x xs) ≡ true
add_alone x xs = ap (λ b. (((b || is_in xs x) && true) && true) || false) (same_text_itself x)

add_alone_too : (x : List ℕ) (xs : List (List ℕ)) → remove_wins (adds x) (removes x) (added_first x xs) ≡ true
add_alone_too x xs = ap (λ b. (((b || is_in xs x) && true) || false) && true) (same_text_itself x)

some_shown : (p : List ℕ → Bool) (x : List ℕ) (xs : List (List ℕ)) → p x ≡ true → has_none (ascending (filter p ((x ∷ xs) ++ []))) ≡ false
some_shown p x xs h = some_in _ x (in_ascending (filter p ((x ∷ xs) ++ [])) x ∙ in_filter p ((x ∷ xs) ++ []) x ∙ (λ i. (same_text_itself x i || is_in (xs ++ []) x) && h i))

-- a remove of what was added
abbrev removed_then : List ℕ → List (List ℕ) → List Update
removed_then x xs = second (act.Remove (x ∷ xs)) ∷ added_first x []

remove_after : (x : List ℕ) (xs : List (List ℕ)) → add_wins (adds x) (removes x) (removed_then x xs) ≡ false
remove_after x xs = ap (λ b. (((b || false) && true) && not ((((b || is_in xs x) && true) && true) || false)) || false) (same_text_itself x)

remove_after_too : (x : List ℕ) (xs : List (List ℕ)) → remove_wins (adds x) (removes x) (removed_then x xs) ≡ false
remove_after_too x xs = ap (λ b. (((b || false) && true) || false) && ((not ((b || is_in xs x) && true) || ((((b || false) && true) && false) || false)) && true)) (same_text_itself x)

none_shown : (p : List ℕ → Bool) (x : List ℕ) → p x ≡ false → has_none (ascending (filter p (x ∷ []))) ≡ true
none_shown p x h = ap (λ b. has_none (ascending (cond b (x ∷ []) []))) h ∙ no_texts

words_filled : (xs ys : List (List ℕ)) → has_none xs ≡ false → has_none ys ≡ true → Words xs ≢ Words ys
words_filled xs ys a b = filled (Words xs) (Words ys) (words_step xs ∙ a) (words_step ys ∙ b)

words_emptied : (xs ys : List (List ℕ)) → has_none xs ≡ true → has_none ys ≡ false → Words xs ≢ Words ys
words_emptied xs ys a b = emptied (Words xs) (Words ys) (words_step xs ∙ a) (words_step ys ∙ b)

set_shows : (k : Kind) (wins : (Act → Bool) → (Act → Bool) → List Update → Bool)
    → ((us : List Update) → plain_meaning k us ≡ Words (ascending (filter (λ x. wins (adds x) (removes x) us) (added us))))
    → ((x : List ℕ) (xs : List (List ℕ)) → wins (adds x) (removes x) (added_first x xs) ≡ true)
    → ((x : List ℕ) (xs : List (List ℕ)) → wins (adds x) (removes x) (removed_then x xs) ≡ false)
    → (a : Act) → (is_add a || (is_remove a || is_reset a)) ≡ true → is_reset a ≡ false → Shows k a
set_shows k wins is up down (act.Add []) h kept = absurd (false≢true h)
set_shows k wins is up down (act.Add (x ∷ xs)) h kept =
    ([], first (act.Add (x ∷ xs)), alone _, refl, λ e. words_filled _ _ (some_shown (λ y. wins (adds y) (removes y) (added_first x xs)) x xs (up x xs)) no_texts (sym (is (added_first x xs)) ∙ e ∙ is []))
set_shows k wins is up down (act.Remove []) h kept = absurd (false≢true h)
set_shows k wins is up down (act.Remove (x ∷ xs)) h kept = (
  added_first x [],
  second (act.Remove (x ∷ xs)),
  after_one _ _,
  refl,
  λ e. words_emptied _ _
      (none_shown (λ y. wins (adds y) (removes y) (removed_then x xs)) x (down x xs))
      (some_shown (λ y. wins (adds y) (removes y) (added_first x [])) x [] (up x []))
      (sym (is (removed_then x xs)) ∙ e ∙ is (added_first x [])),
)
set_shows k wins is up down act.Reset h kept = absurd (true≢false kept)
set_shows k wins is up down _ h kept = absurd (false≢true h)

go_shows : (a : Act) → is_add a ≡ true → Shows kind.SetGo a
go_shows (act.Add []) h = absurd (false≢true h)
go_shows (act.Add (x ∷ xs)) h = ([], first (act.Add (x ∷ xs)), alone _, refl, words_filled _ _ (grown x xs) no_texts)
go_shows _ h = absurd (false≢true h)

flag_shows : (k : Kind) → ((us : List Update) (b : Bool) → add_wins enables disables us ≡ b → remove_wins enables disables us ≡ b → plain_meaning k us ≡ Flag b) → (a : Act) → (is_switch a || is_reset a) ≡ true → is_reset a ≡ false → Shows k a
flag_shows k is act.Enable h kept = ([], first act.Enable, alone _, refl, λ e. filled (Flag true) (Flag false) (flag_step true) (flag_step false) (sym (is (first act.Enable ∷ []) true refl refl) ∙ e ∙ is [] false refl refl))
flag_shows k is act.Disable h kept = (first act.Enable ∷ [], second act.Disable, after_one _ _, refl, λ e. emptied (Flag false) (Flag true) (flag_step false) (flag_step true) (sym (is (second act.Disable ∷ first act.Enable ∷ []) false refl refl) ∙ e ∙ is (first act.Enable ∷ []) true refl refl))
flag_shows k is act.Reset h kept = absurd (true≢false kept)
flag_shows k is _ h kept = absurd (false≢true h)

word_shows : (a : Act) → is_assign a ≡ true → Shows kind.RegisterLww a
word_shows (act.Assign []) h = (first (act.Assign (0 ∷ [])) ∷ [], second (act.Assign []), after_one _ _, refl, emptied (Word []) (Word (0 ∷ [])) (word_step []) (word_step (0 ∷ [])))
word_shows (act.Assign (c ∷ cs)) h = ([], first (act.Assign (c ∷ cs)), alone _, refl, filled (Word (c ∷ cs)) (Word []) (word_step (c ∷ cs)) (word_step []))
word_shows _ h = absurd (false≢true h)

mv_shows : (a : Act) → (is_assign a || is_reset a) ≡ true → is_reset a ≡ false → Shows kind.RegisterMv a
mv_shows (act.Assign x) h kept = ([], first (act.Assign x), alone _, refl, words_filled (x ∷ []) [] refl refl)
mv_shows act.Reset h kept = absurd (true≢false kept)
mv_shows _ h kept = absurd (false≢true h)

-- an amount that isn't all wrapped
amount_shows : (k : Kind) → ((us : List Update) → plain_meaning k us ≡ counter_meaning k us) → (a : Act) → is_reset a ≡ false → int_wrap w128 (amount a) ≢ pos 0 → Shows k a
amount_shows k is a kept some = ([], first a, alone a, refl, λ e. counted k a kept some (sym (is (first a ∷ [])) ∙ e ∙ is []))

or_first : (a b : Bool) → (a || b) ≡ true → b ≡ false → a ≡ true
or_first true b h k = refl
or_first false b h k = absurd (true≢false (sym h ∙ k))

pub fits_shows : (k : Kind) (a : Act) → is_map k ≡ false → fits k [] a ≡ true → is_reset a ≡ false → (is_amount a ≡ true → int_wrap w128 (amount a) ≢ pos 0) → Shows k a
fits_shows kind.CounterPn a plain h kept some = amount_shows kind.CounterPn (λ us. refl) a kept (some h)
fits_shows kind.CounterFat a plain h kept some = amount_shows kind.CounterFat (λ us. refl) a kept (some (or_first _ _ h kept))
fits_shows kind.SetGo a plain h kept some = go_shows a h
fits_shows kind.SetAw a plain h kept some = set_shows kind.SetAw add_wins (λ us. refl) add_alone remove_after a h kept
fits_shows kind.SetRw a plain h kept some = set_shows kind.SetRw remove_wins (λ us. refl) add_alone_too remove_after_too a h kept
fits_shows kind.FlagEw a plain h kept some = flag_shows kind.FlagEw (λ us b add remove. ap Flag add) a h kept
fits_shows kind.FlagDw a plain h kept some = flag_shows kind.FlagDw (λ us b add remove. ap Flag remove) a h kept
fits_shows kind.RegisterLww a plain h kept some = word_shows a h
fits_shows kind.RegisterMv a plain h kept some = mv_shows a h kept
fits_shows _ a plain h kept some = absurd (true≢false plain)
