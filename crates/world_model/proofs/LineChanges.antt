-- The updates that lines tell are those that events tell.
use Rattle.std.proofs.Common.{◌≡◌, ⊎_elim, ℕ, zero, suc, ◌+◌, cond, Bool, true, false, ◌&&◌, ◌||◌, List, [], ◌∷◌, ◌++◌, length, refl, sym, ap, ◌∙◌}
use Rattle.std.specs.Prelude.{map, filter}
use Rattle.std.specs.List.{list_any}
use Rattle.std.proofs.lemmas.Bool.{cases_Bool, cond-true, cond-false}
use Rattle.std.proofs.lemmas.List.{length-append, map-append}
use Rattle.std.proofs.lemmas.List.Elements.{filter-append}
use Rattle.site_vector.specs.declared.ids.PartId.{PartId}
use Rattle.site_vector.specs.declared.ids.TxId.{TxId}
use Rattle.site_vector.specs.Ids.{same_part, same_tx}
use Rattle.site_vector.specs.Order.{same_part_is, same_tx_is}
use Rattle.crdt_core.specs.declared.object.ObjectId.{ObjectId}
use Rattle.crdt_core.specs.declared.record.Upd.{Upd}
use Rattle.crdt_core.specs.Objects.{same_object}
use Rattle.crdt_core.specs.Parts as part_list
use Rattle.world_model.specs.rules.Event.{IsDown, Event, Updated, Decided, Refused, Cut, Entry, shown}
use Rattle.world_model.specs.rules.Plan.{Plan, is_some_update, change_by, updates_at, update_count, IsNew}
use Rattle.world_model.specs.lines.Places.{first_of, home, partitions}
use Rattle.world_model.specs.events.Handed.{HandedAt, AreHanded, AreNew}
use Rattle.world_model.specs.events.Reads.{Asked, asked_by, asked_at}
use Rattle.world_model.specs.rules.Lines.{call_of, step_shown, shown_lines}
use Rattle.world_model.specs.lines.Clock.{now}
use Rattle.world_model.specs.lines.Updates.{Change, change_of, changes, takes_part, touches, lead}
use Rattle.world_model.proofs.Stories.{asked_changes}
use Rattle.world_model.proofs.LineViews.{now_is}

-- a test of two parts over a list, and over those that pass the first
any_both : {A : Type 0} (f g : A → Bool) (xs : List A) → list_any (λ x. f x && g x) xs ≡ list_any g (filter f xs)
any_both f g [] = refl
any_both f g (x ∷ xs) = ⊎_elim
    (λ (k : f x ≡ true). (λ i. (k i && g x) || any_both f g xs i) ∙ ap (list_any g) (sym (cond-true _ (x ∷ filter f xs) (filter f xs) k)))
    (λ (k : f x ≡ false). (λ i. (k i && g x) || any_both f g xs i) ∙ ap (list_any g) (sym (cond-false _ (x ∷ filter f xs) (filter f xs) k)))
    (cases_Bool (f x))

any_true : {A : Type 0} (f : A → Bool) (xs : List A) → list_any f xs ≡ list_any (λ (x : A). true) (filter f xs)
any_true f [] = refl
any_true {A} f (x ∷ xs) = ⊎_elim
    (λ (k : f x ≡ true). (λ i. k i || any_true f xs i) ∙ ap (list_any (λ (y : A). true)) (sym (cond-true _ (x ∷ filter f xs) (filter f xs) k)))
    (λ (k : f x ≡ false). (λ i. k i || any_true f xs i) ∙ ap (list_any (λ (y : A). true)) (sym (cond-false _ (x ∷ filter f xs) (filter f xs) k)))
    (cases_Bool (f x))

any_map : {A B : Type 0} (h : A → B) (g : B → Bool) (xs : List A) → list_any g (map h xs) ≡ list_any (λ x. g (h x)) xs
any_map h g [] = refl
any_map h g (x ∷ xs) = ap (λ b. g (h x) || b) (any_map h g xs)

one_length : {A : Type 0} (b : Bool) (x : A) → length (cond b (x ∷ []) []) ≡ cond b 1 0
one_length true x = refl
one_length false x = refl

map_none : {A B : Type 0} (h : A → B) (b : Bool) → map h (cond b [] []) ≡ []
map_none h true = refl
map_none h false = refl

-- a lead is of its transaction's site
pub first_site : (site : ℕ) (d : PartId) (test : PartId → Bool) (first n : ℕ) → d.site ≡ site → (first_of d (filter test (partitions site first n))).site ≡ site
first_site site d test first zero e = e
first_site site d test first (suc n) e =
    let q : PartId = record { site = site; part = first } in
    let rest = filter test (partitions site (first + 1) n) in
    elim (test q) as (λ b. (first_of d (cond b (q ∷ rest) rest)).site ≡ site) [ true ↦ refl | false ↦ first_site site d test (first + 1) n e ]

module _ {E : Type 0} where
  -- an update as the lines tell it
  abbrev pub to_change : PartId → Asked E → Change
  to_change p a = record { at = p; now = a.now; object = a.change.object; op = a.op; stamp = a.stamp; index = a.change.index }

  one_count : (run : List (Entry E)) (p : PartId) (time index : ℕ) (event : Event E) (t : TxId) → length (change_of p time index (call_of event) (step_shown run p event) t) ≡ length (change_by event t)
  one_count run p time index (Updated u s o own op read x stamp) t = one_length (same_tx u t) (record { at = p; now = time; object = o; op = op; stamp = stamp; index = index }) ∙ sym (one_length (same_tx u t) x)
  one_count run p time index (Refused asked IsDown) t = refl
  one_count run p time index (Refused asked why) t = refl
  one_count run p time index (Cut (Decided u c)) t = refl
  one_count run p time index (Cut a) t = refl
  one_count run p time index event t = refl

  pub count_is : (run : List (Entry E)) (t : TxId) → length (changes (shown_lines run) t) ≡ update_count run t
  count_is [] t = refl
  count_is (e ∷ run) t =
      let index = length (changes (shown_lines run) t) + 1 in
      length-append (changes (shown_lines run) t) (change_of e.at (now (shown_lines run) e.at) index (call_of e.event) (step_shown run e.at e.event) t)
      ∙ (λ i. count_is run t i + one_count run e.at (now (shown_lines run) e.at) index e.event t i)

  piece_same : (run : List (Entry E)) (at p : PartId) (t u : TxId) (o : ObjectId) (x : Upd E) (a : Asked E) → a.change ≡ x → a.now ≡ shown run at → x.object ≡ o → x.index ≡ update_count run u + 1 → same_tx u t ≡ true → filter (λ c. same_part c.at p) ((record { at = at; now = now (shown_lines run) at; object = o; op = a.op; stamp = a.stamp; index = length (changes (shown_lines run) t) + 1 }) ∷ []) ≡ map (to_change p) (cond (same_part at p) (a ∷ []) [])
  piece_same run at p t u o x a c n e k h = ⊎_elim
      (λ (y : same_part at p ≡ true).
      let s = same_part_is at p y in
      let index : length (changes (shown_lines run) t) + 1 ≡ a.change.index = ap (λ m. m + 1) (count_is run t ∙ ap (update_count run) (sym (same_tx_is u t h))) ∙ sym k ∙ ap (λ w. w.index) (sym c) in
      let object : o ≡ a.change.object = sym e ∙ ap (λ w. w.object) (sym c) in
      let time : now (shown_lines run) at ≡ a.now = now_is run at ∙ sym n in
      cond-true _ _ _ y ∙ (λ i. (record { at = s i; now = time i; object = object i; op = a.op; stamp = a.stamp; index = index i }) ∷ []) ∙ ap (map (to_change p)) (sym (cond-true _ (a ∷ []) [] y)))
      (λ (y : same_part at p ≡ false). cond-false _ _ _ y ∙ ap (map (to_change p)) (sym (cond-false _ (a ∷ []) [] y)))
      (cases_Bool (same_part at p))

  piece : (plan : Plan E) (run : List (Entry E)) (at p : PartId) (event : Event E) (t : TxId) → HandedAt plan run at event → IsNew run event → filter (λ c. same_part c.at p) (change_of at (now (shown_lines run) at) (length (changes (shown_lines run) t) + 1) (call_of event) (step_shown run at event) t) ≡ map (to_change p) (cond (same_part at p) (asked_by (shown run at) event t) [])
  piece plan run at p (Updated u s o own op read x stamp) t h n =
      let a : Asked E = record { change = x; op = op; stamp = stamp; now = shown run at } in
      let l : Change = record { at = at; now = now (shown_lines run) at; object = o; op = op; stamp = stamp; index = length (changes (shown_lines run) t) + 1 } in ⊎_elim
      (λ (k : same_tx u t ≡ true). ap (filter (λ c. same_part c.at p)) (cond-true _ (l ∷ []) [] k) ∙ piece_same run at p t u o x a refl refl h.1 n.number k ∙ ap (λ xs. map (to_change p) (cond (same_part at p) xs [])) (sym (cond-true _ (a ∷ []) [] k)))
      (λ (k : same_tx u t ≡ false). ap (filter (λ c. same_part c.at p)) (cond-false _ (l ∷ []) [] k) ∙ sym (map_none (to_change p) (same_part at p)) ∙ ap (λ xs. map (to_change p) (cond (same_part at p) xs [])) (sym (cond-false _ (a ∷ []) [] k)))
      (cases_Bool (same_tx u t))
  piece plan run at p (Refused asked IsDown) t h n = sym (map_none (to_change p) (same_part at p))
  piece plan run at p (Refused asked why) t h n = sym (map_none (to_change p) (same_part at p))
  piece plan run at p (Cut (Decided u c)) t h n = sym (map_none (to_change p) (same_part at p))
  piece plan run at p (Cut a) t h n = sym (map_none (to_change p) (same_part at p))
  piece plan run at p event t h n = sym (map_none (to_change p) (same_part at p))

  same_asked : (run : List (Entry E)) (at p : PartId) (event : Event E) (t : TxId) → cond (same_part at p) (asked_by (shown run at) event t) [] ≡ cond (same_part at p) (asked_by (shown run p) event t) []
  same_asked run at p event t = ⊎_elim
      (λ (y : same_part at p ≡ true). cond-true _ _ _ y ∙ ap (λ q. asked_by (shown run q) event t) (same_part_is at p y) ∙ sym (cond-true _ _ _ y))
      (λ (y : same_part at p ≡ false). cond-false _ _ _ y ∙ sym (cond-false _ _ _ y))
      (cases_Bool (same_part at p))

  -- the changes at a partition are what was asked there
  pub changes_there : (plan : Plan E) (run : List (Entry E)) → AreHanded plan run → AreNew run → (t : TxId) (p : PartId) → filter (λ c. same_part c.at p) (changes (shown_lines run) t) ≡ map (to_change p) (asked_at run t p)
  changes_there plan [] h n t p = refl
  changes_there plan (e ∷ run) h n t p =
      let index = length (changes (shown_lines run) t) + 1 in
      filter-append (λ c. same_part c.at p) (changes (shown_lines run) t) (change_of e.at (now (shown_lines run) e.at) index (call_of e.event) (step_shown run e.at e.event) t)
      ∙ (λ i. changes_there plan run h.1 n.1 t p i ++ (piece plan run e.at p e.event t h.0 n.0 ∙ ap (map (to_change p)) (same_asked run e.at p e.event t)) i)
      ∙ sym (map-append (to_change p) (asked_at run t p) (cond (same_part e.at p) (asked_by (shown run p) e.event t) []))

  some_asked : (xs : List (Asked E)) → list_any (λ (a : Asked E). true) xs ≡ is_some_update (map (λ a. a.change) xs)
  some_asked [] = refl
  some_asked (a ∷ xs) = refl

  pub takes_part_is : (plan : Plan E) (run : List (Entry E)) → AreHanded plan run → AreNew run → (t : TxId) (p : PartId) → takes_part (shown_lines run) t p ≡ is_some_update (updates_at run t p)
  takes_part_is plan run h n t p =
      any_true (λ c. same_part c.at p) (changes (shown_lines run) t)
      ∙ ap (list_any (λ (c : Change). true)) (changes_there plan run h n t p)
      ∙ any_map (to_change p) (λ (c : Change). true) (asked_at run t p)
      ∙ some_asked (asked_at run t p) ∙ ap is_some_update (asked_changes run t p)

  pub touched : (o : ObjectId) (xs : List (Asked E)) → list_any (λ (a : Asked E). same_object a.change.object o) xs ≡ part_list.touches (map (λ a. a.change) xs) o
  touched o [] = refl
  touched o (a ∷ xs) = ap (λ b. same_object a.change.object o || b) (touched o xs)

  pub touches_is : (plan : Plan E) (run : List (Entry E)) → AreHanded plan run → AreNew run → (t : TxId) (p : PartId) (o : ObjectId) → touches (shown_lines run) t p o ≡ part_list.touches (updates_at run t p) o
  touches_is plan run h n t p o =
      any_both (λ c. same_part c.at p) (λ c. same_object c.object o) (changes (shown_lines run) t)
      ∙ ap (list_any (λ c. same_object c.object o)) (changes_there plan run h n t p)
      ∙ any_map (to_change p) (λ c. same_object c.object o) (asked_at run t p)
      ∙ touched o (asked_at run t p) ∙ ap (λ us. part_list.touches us o) (asked_changes run t p)

  pub lead_is : (plan : Plan E) (run : List (Entry E)) → AreHanded plan run → AreNew run → (parts : ℕ) (t : TxId) → lead parts (shown_lines run) t ≡ first_of (home t) (filter (λ p. is_some_update (updates_at run t p)) (partitions t.site 1 parts))
  lead_is plan run h n parts t = λ i. first_of (home t) (filter (λ p. takes_part_is plan run h n t p i) (partitions t.site 1 parts))
