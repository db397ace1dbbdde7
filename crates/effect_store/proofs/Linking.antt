-- What keeps the links of a store, and what a walk along them finds.
use Rattle.std.proofs.Common.{◌≡◌, ℕ, zero, suc, ◌+◌, ◌<◌, ◌≤◌, Bool, true, false, ◌||◌, List, [], ◌∷◌, ◌++◌, length, get_or, Option, Some, refl, sym, ap, ◌∙◌, subst, arith, inl, inr}
use Rattle.std.specs.List.{filter, slice_get}
use Rattle.std.proofs.lemmas.List.{length-append}
use Rattle.std.specs.Ordering.{nat_cmp, ordering_then}
use Rattle.site_vector.specs.Vector.{sum}
use Rattle.crdt_core.specs.declared.record.Part.{Part}
use Rattle.crdt_core.specs.declared.record.Upd.{Upd}
use Rattle.crdt_core.specs.Orders.{is_less, fold_cmp}
use Rattle.effect_store.specs.declared.links.Entry.{Entry}
use Rattle.effect_store.specs.declared.links.Links.{Links}
use Rattle.effect_store.specs.Arranged.{arranged, Each}
use Rattle.effect_store.specs.Chains.{none, Points, after, IsApart, chain}
use Rattle.effect_store.specs.Spots.{Spot, tag_of_object, tag_of, before, later, earlier, spots, spots_to}
use Rattle.effect_store.specs.Links.{spot, or_none, capped, IsEntry, IsLinked, AreLinks, Roomy}
use Rattle.effect_store.specs.Hooks.{Hooked}
use Rattle.effect_store.proofs.Arranging.{get_each, get_in, get_push, get_pushed, get_push_cases}
use Rattle.effect_store.proofs.Chaining.{IsNear, known, past, chain_grows}
use Rattle.effect_store.proofs.Walking.{IsWalk, near_of, behind, behind_none, walk_start, walk_step, walk_end, chain_falls}
use Rattle.effect_store.proofs.Ordering.{before_order, later_order}
use Rattle.effect_store.proofs.Spotting.{apart_push, spots_to-more, spots_to-fresh, spots_to-all}

pub any_default : (xs : List ℕ) (i d e : ℕ) → i < length xs → get_or xs i d ≡ get_or xs i e
any_default [] i d e h = absurd (omega arith)
any_default (x ∷ xs) zero d e h = refl
any_default (x ∷ xs) (suc i) d e h = any_default xs i d e (omega arith)

-- a link that was read
pub link_read : (xs : List ℕ) (k r : ℕ) → k < length xs → r ≡ get_or xs k r → r ≡ get_or xs k none
link_read xs k r h e = e ∙ any_default xs k r none h

pub is_there : {X : Type 0} (xs : List X) (k : ℕ) → k < length xs → (p : X) × (slice_get xs k ≡ Some p)
is_there [] k h = absurd (omega arith)
is_there (x ∷ xs) zero h = (x, refl)
is_there (x ∷ xs) (suc k) h = is_there xs k (omega arith)

turned : (a b : Bool) → a || b ≡ true → b || a ≡ true
turned a b h = grind arith

-- the answer of a comparison at an entry's place
pub before_at : {E : Type 0} (q : Spot E) (p : Part E) (n : ℕ) (u : Upd E) (m : ℕ) (b : Bool) → m ≡ q.at → is_less (ordering_then (fold_cmp q.part p) (nat_cmp m n)) ≡ b → before q (spot p n u) ≡ b
before_at q p n u m b e h = rw (← e) h

apart_back : {X : Type 0} (lt : X → X → Bool) (xs : List X) → IsApart lt xs → IsApart (λ a b. lt b a) xs
apart_back lt xs a k j p q e f n = a j k q p f e (λ z. n (sym z))

module _ {E : Type 0} (xs : List (Spot E)) (parts : List (Part E)) (entries : List Entry) (next back : List ℕ) (first last : ℕ → Option ℕ) (s : IsLinked xs parts entries next back first last) where
  same_entry : (a e : Entry) (q : Spot E) → a ≡ e → slice_get parts a.part ≡ Some q.part → a.at ≡ q.at → (slice_get parts e.part ≡ Some q.part) × (e.at ≡ q.at)
  same_entry a e q h f g = let P : Entry → Type 0 = λ z. (slice_get parts z.part ≡ Some q.part) × (z.at ≡ q.at) in subst P h (f, g)

  entry_spot_at : (k : ℕ) (e : Entry) (q : Spot E) → slice_get entries k ≡ Some e → slice_get xs k ≡ Some q → (slice_get parts e.part ≡ Some q.part) × (e.at ≡ q.at)
  entry_spot_at k e q g h =
      let r = s.located k q h in
      let there : slice_get entries k ≡ Some r.entry = r.there in
      let same : r.entry ≡ e = cc in
      same_entry r.entry e q same r.part r.at

  -- an entry names an update
  pub entry_spot : (k : ℕ) (e : Entry) → slice_get entries k ≡ Some e → (q : Spot E) × (slice_get xs k ≡ Some q) × (slice_get parts e.part ≡ Some q.part) × (e.at ≡ q.at)
  entry_spot k e g =
      let v : k < length entries = get_in entries k e g in
      let there = is_there xs k (omega (arith, s.many)) in
      let r = entry_spot_at k e there.0 g there.1 in
      (there.0, there.1, r.0, r.1)

  total_same : (a e : Entry) (x p : Part E) → a ≡ e → slice_get parts a.part ≡ Some x → a.total ≡ capped (sum x.c) → slice_get parts e.part ≡ Some p → e.total ≡ capped (sum p.c)
  total_same a e x p h f t g =
      let P : Entry → Type 0 = λ z. (slice_get parts z.part ≡ Some x) × (z.total ≡ capped (sum x.c)) in
      let m = subst P h (f, t) in
      let there : slice_get parts e.part ≡ Some x = m.0 in
      let same : x ≡ p = cc in
      m.1 ∙ ap (λ (z : Part E). capped (sum z.c)) same

  -- an entry has the sum of its part's commit vector, as far as 64 bits go
  pub entry_total : (k : ℕ) (e : Entry) → slice_get entries k ≡ Some e → (p : Part E) → slice_get parts e.part ≡ Some p → e.total ≡ capped (sum p.c)
  entry_total k e g p f =
      let v : k < length entries = get_in entries k e g in
      let q = is_there xs k (omega (arith, s.many)) in
      let r = s.located k q.0 q.1 in
      let there : slice_get entries k ≡ Some r.entry = r.there in
      let same : r.entry ≡ e = cc in
      total_same r.entry e q.0.part p same r.part r.total f

  pub find_start : (x : Spot E) (a t : ℕ) → t ≡ tag_of x → a ≡ or_none (last t) → IsWalk tag_of later xs x a
  find_start x a t h e = rw (e, h) (walk_start tag_of later xs back (λ i. or_none (last i)) x s.behind)

  pub find_step : (x q : Spot E) (a b : ℕ) → length xs ≤ none → slice_get xs a ≡ Some q → before q x ≡ false → b ≡ get_or back a none → IsWalk tag_of later xs x a → IsWalk tag_of later xs x b
  find_step x q a b small g h e w = rw e (walk_step tag_of later later_order xs back (λ i. or_none (last i)) x a q s.behind (apart_back before xs s.apart) small g h w)

  pub find_end : (x q : Spot E) (a : ℕ) → length xs ≤ none → slice_get xs a ≡ Some q → before q x ≡ true → IsWalk tag_of later xs x a → Points xs a (filter (after tag_of later x) (arranged later xs))
  find_end x q a small g h w = walk_end tag_of later later_order xs back (λ i. or_none (last i)) x a s.behind (apart_back before xs s.apart) small w (λ r e. (let same : q ≡ r = cc in rw (← same) h))

  pub find_out : (x : Spot E) (a : ℕ) → length xs ≤ none → length xs ≤ a → IsWalk tag_of later xs x a → Points xs a (filter (after tag_of later x) (arranged later xs))
  find_out x a small g w = walk_end tag_of later later_order xs back (λ i. or_none (last i)) x a s.behind (apart_back before xs s.apart) small w (λ r e. (let v : a < length xs = get_in xs a r e in absurd (omega arith)))

  pub find_falls : (a b : ℕ) (q : Spot E) → length xs ≤ none → slice_get xs a ≡ Some q → b ≡ get_or back a none → length (chain tag_of later xs b) < length (chain tag_of later xs a)
  find_falls a b q small g e = chain_falls tag_of later later_order xs back (λ i. or_none (last i)) a b q s.behind small g e

  next_points : (x : Spot E) (a c : ℕ) → IsNear tag_of before xs x a → ((k : ℕ) (p : Spot E) → slice_get xs k ≡ Some p → before x p || before p x ≡ true)
      → (a < length xs → c ≡ get_or next a none) → (length xs ≤ a → c ≡ or_none (first (tag_of x)))
      → Points xs c (filter (after tag_of before x) (arranged before xs))
  next_points x a c n apart f g = elim (known (slice_get xs a)) [
    | inl z ↦ rw (g (past xs a z)) (behind_none tag_of before before_order xs next (λ i. or_none (first i)) x a s.ahead n apart z)
    | inr q ↦ rw (f (get_in xs a q.0 q.1)) (behind tag_of before before_order xs next (λ i. or_none (first i)) x a q.0 s.ahead n apart q.1)
  ]

  -- one more update, whose place is told behind the last of its tag before it and before the first after it
  pub linked_more : (entries' : List Entry) (next' back' : List ℕ) (first' last' : ℕ → Option ℕ) (x : Spot E) (a c place : ℕ)
      → length xs ≤ none → place ≡ length xs → Each (λ q. before x q || before q x) xs
      → IsEntry parts entries' place x → ((k : ℕ) (e : Entry) → slice_get entries k ≡ Some e → slice_get entries' k ≡ Some e) → length entries' ≡ length entries + 1
      → Points xs a (filter (after tag_of later x) (arranged later xs))
      → (a < length next → c ≡ get_or next a none) → (length next ≤ a → c ≡ or_none (first (tag_of x)))
      → Hooked next next' first first' a (tag_of x) place c → Hooked back back' last last' c (tag_of x) place a
      → IsLinked (xs ++ x ∷ []) parts entries' next' back' first' last'
  linked_more entries' next' back' first' last' x a c place small at fresh entry kept longer p f g h k =
      let fresh_apart : (j : ℕ) (q : Spot E) → slice_get xs j ≡ Some q → before x q || before q x ≡ true = λ j q e. get_each (λ z. before x z || before z x) xs j q fresh e in
      let fresh_turned : (j : ℕ) (q : Spot E) → slice_get xs j ≡ Some q → later x q || later q x ≡ true = λ j q e. turned (before x q) (before q x) (fresh_apart j q e) in
      let near : IsNear tag_of before xs x a = near_of tag_of later later_order xs x a small s.behind.ordered (apart_back before xs s.apart) p in
      let f2 : a < length xs → c ≡ get_or next a none = λ n. f (omega (arith, s.next_long)) in
      let g2 : length xs ≤ a → c ≡ or_none (first (tag_of x)) = λ n. g (omega (arith, s.next_long)) in
      let cp : Points xs c (filter (after tag_of before x) (arranged before xs)) = next_points x a c near fresh_apart f2 g2 in
      let near_back : IsNear tag_of later xs x c = near_of tag_of before before_order xs x c small s.ahead.ordered s.apart cp in
      let h2 : Hooked next next' first first' a (tag_of x) (length xs) c = rw (← at) h in
      let k2 : Hooked back back' last last' c (tag_of x) (length xs) a = rw (← at) k in
      record {
        located = λ j q e. elim (get_push_cases xs x j q e) [
          | inl o ↦ (let r = s.located j q o in record { entry = r.entry; there = kept j r.entry r.there; part = r.part; at = r.at; update = r.update; total = r.total })
          | inr o ↦ rw (o.0, o.1, ← at) entry
        ];
        many = rw longer (simp length-append (omega (arith, s.many)));
        apart = apart_push before xs x s.apart fresh;
        ahead = chain_grows tag_of before before_order xs next next' (λ i. or_none (first i)) (λ i. or_none (first' i)) x a c s.ahead near fresh_apart cp h2.last h2.others h2.here (λ i m. ap or_none (h2.heads_others i m)) (λ m. ap or_none (h2.heads_same m)) (λ m. ap or_none (h2.heads_here m));
        behind = chain_grows tag_of later later_order xs back back' (λ i. or_none (last i)) (λ i. or_none (last' i)) x c a s.behind near_back fresh_turned p k2.last k2.others k2.here (λ i m. ap or_none (k2.heads_others i m)) (λ m. ap or_none (k2.heads_same m)) (λ m. ap or_none (k2.heads_here m));
        next_long = rw h2.len (simp length-append (omega (arith, s.next_long)));
        back_long = rw k2.len (simp length-append (omega (arith, s.back_long)));
      }

module _ {E : Type 0} where
  linked_by : (xs xs' : List (Spot E)) (parts : List (Part E)) (entries : List Entry) (next back : List ℕ) (first last : ℕ → Option ℕ) → xs' ≡ xs → IsLinked xs parts entries next back first last → IsLinked xs' parts entries next back first last
  linked_by xs xs' parts entries next back first last e s = rw e s

  -- the next update of a part is linked
  pub linked_next : (parts : List (Part E)) (place n : ℕ) (p : Part E) (u : Upd E) (entries entries' : List Entry) (next next' back back' : List ℕ) (first first' last last' : ℕ → Option ℕ) (a c own t m : ℕ) (links : List ℕ)
      → IsLinked (spots_to parts place n) parts entries next back first last
      → IsApart earlier parts → length entries ≤ none → own ≡ length entries
      → slice_get parts place ≡ Some p → slice_get p.updates n ≡ Some u → t ≡ tag_of_object u.object
      → m ≡ capped (sum p.c) → entries' ≡ entries ++ record { part = place; at = n; total = m } ∷ []
      → Points (spots_to parts place n) a (filter (after tag_of later (spot p n u)) (arranged later (spots_to parts place n)))
      → links ≡ next → (a < length links → c ≡ get_or links a none) → (length links ≤ a → c ≡ or_none (first t))
      → Hooked next next' first first' a t own c → Hooked back back' last last' c t own a
      → IsLinked (spots_to parts place (n + 1)) parts entries' next' back' first' last'
  linked_next parts place n p u entries entries' next next' back back' first first' last last' a c own t m links s apart small len there at tag total grown points same f g h k =
      let xs : List (Spot E) = spots_to parts place n in
      let here : own ≡ length xs = omega (arith, s.many) in
      let entry : IsEntry parts entries' own (spot p n u) = record {
        entry = record { part = place; at = n; total = m };
        there = rw (grown, len) (get_pushed entries (record { part = place; at = n; total = m }));
        part = there;
        at = refl;
        update = at;
        total = total;
      } in
      let f2 : a < length next → c ≡ get_or next a none = rw same at f in
      let g2 : length next ≤ a → c ≡ or_none (first (tag_of (spot p n u))) = rw (same, tag) at g in
      let h2 : Hooked next next' first first' a (tag_of (spot p n u)) own c = rw tag at h in
      let k2 : Hooked back back' last last' c (tag_of (spot p n u)) own a = rw tag at k in
      linked_by (xs ++ spot p n u ∷ []) (spots_to parts place (n + 1)) parts entries' next' back' first' last' (spots_to-more parts place n p u there at)
      (linked_more xs parts entries next back first last s entries' next' back' first' last' (spot p n u) a c own (omega (arith, s.many)) here (spots_to-fresh parts place n p u apart there)
      entry (λ j e z. rw grown (get_push entries (record { part = place; at = n; total = m }) j e z)) (rw grown (simp length-append (omega arith))) points f2 g2 h2 k2)

  -- an update that was read of a part that was read
  pub update_read : (parts : List (Part E)) (place n : ℕ) (p q : Part E) (us : List (Upd E)) (u : Upd E) → slice_get parts place ≡ Some q → n < length q.updates → slice_get parts place ≡ Some p → us ≡ p.updates → ((n < length us) → slice_get us n ≡ Some u) → slice_get p.updates n ≡ Some u
  update_read parts place n p q us u e h f g k =
      let same : q ≡ p = cc in
      let m : n < length p.updates = (let P : Part E → Type 0 = λ x. n < length x.updates in subst P same h) in
      let P : List (Upd E) → Type 0 = λ l. slice_get l n ≡ Some u in
      subst P g (k (let Q : List (Upd E) → Type 0 = λ l. n < length l in subst Q (sym g) m))

  -- while the updates of a part are linked: those before n are, and the room that is left goes down with n
  pub record IsGoing (parts : List (Part E)) (old now : Links) (place count n : ℕ) : Type 0 where
    pub linked : AreLinks (spots_to parts place n) parts now
    pub within : n ≤ count
    pub room : (m k : ℕ) → m ≡ n + k → Roomy old m → Roomy now k

  pub linked_all : (parts : List (Part E)) (place n : ℕ) (p : Part E) (l : Links) → AreLinks (spots_to parts place n) parts l → slice_get parts place ≡ Some p → length parts ≡ suc place → n ≡ length p.updates → AreLinks (spots parts) parts l
  linked_all parts place n p l s e h m =
      let same : spots parts ≡ spots_to parts place n = sym (ap (spots_to parts place) m ∙ spots_to-all parts place p e h) in
      rw same s

  pub same_length : (parts : List (Part E)) (place : ℕ) (p q : Part E) (us : List (Upd E)) → slice_get parts place ≡ Some p → p ≡ get_or parts place p → slice_get parts place ≡ Some q → us ≡ (get_or parts place p).updates → length us ≡ length q.updates
  same_length parts place p q us e h f g = let same : p ≡ q = cc in ap length g ∙ (ap (λ (x : Part E). length x.updates) (sym h) ∙ ap (λ (x : Part E). length x.updates) same)

pub roomy_less : (l : Links) (a b : ℕ) → a ≤ b → Roomy l b → Roomy l a
roomy_less l a b h r = record {
  small = omega (arith, r.small);
  of_entries = omega (arith, r.of_entries);
  of_next = omega (arith, r.of_next);
  of_back = omega (arith, r.of_back);
  of_first = omega (arith, r.of_first);
  of_last = omega (arith, r.of_last);
}

-- what an entry names
pub record IsRead {E : Type 0} (xs : List (Spot E)) (parts : List (Part E)) (k : ℕ) (e : Entry) : Type 0 where
  pub spot : Spot E
  pub here : slice_get xs k ≡ Some spot
  pub part : slice_get parts e.part ≡ Some spot.part
  pub update : slice_get spot.part.updates e.at ≡ Some spot.update

module _ {E : Type 0} where
  pub reads_at : (xs : List (Spot E)) (parts : List (Part E)) (entries : List Entry) (next back : List ℕ) (first last : ℕ → Option ℕ) (k : ℕ) (e : Entry) → IsLinked xs parts entries next back first last → slice_get entries k ≡ Some e → IsRead xs parts k e
  reads_at xs parts entries next back first last k e s g =
      let q = entry_spot xs parts entries next back first last s k e g in
      let r = s.located k q.0 q.1 in
      let P : ℕ → Type 0 = λ n. slice_get q.0.part.updates n ≡ Some q.0.update in
      record { spot = q.0; here = q.1; part = q.2; update = subst P (sym q.3) r.update }

  -- a list of updates that was read
  pub list_read : (parts : List (Part E)) (place n : ℕ) (p q : Part E) (us : List (Upd E)) (u : Upd E) → slice_get parts place ≡ Some p → slice_get parts place ≡ Some q → slice_get q.updates n ≡ Some u → us ≡ p.updates → slice_get us n ≡ Some u
  list_read parts place n p q us u e f k g =
      let same : q ≡ p = cc in
      let P : Part E → Type 0 = λ x. slice_get x.updates n ≡ Some u in
      rw g (subst P same k)

  pub same_part : (a : Option (Part E)) (b : Option (Spot E)) (p : Part E) (q x : Spot E) → a ≡ Some p → a ≡ Some q.part → b ≡ Some q → b ≡ Some x → p ≡ x.part
  same_part a b p q x e f g h = let i : q ≡ x = cc in let j : p ≡ q.part = cc in j ∙ ap (λ (z : Spot E). z.part) i

  pub same_update : (a : Option (Upd E)) (b : Option (Spot E)) (u : Upd E) (q x : Spot E) → a ≡ Some u → a ≡ Some q.update → b ≡ Some q → b ≡ Some x → u ≡ x.update
  same_update a b u q x e f g h = let i : q ≡ x = cc in let j : u ≡ q.update = cc in j ∙ ap (λ (z : Spot E). z.update) i
