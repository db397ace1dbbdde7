-- A table before any call, and the seats that its traces are given to.
use Rattle.std.proofs.Common.{◌≡◌, ⊎_elim, ℕ, zero, suc, ◌+◌, ◌-◌, ◌*◌, ◌/◌, ◌%◌, ◌<◌, ◌≤◌, ◌==◌, cond, Bool, true, false, List, [], ◌∷◌, ◌++◌, length, get_or, refl, sym, ap, ◌∙◌, subst, arith, eq-eqb, append_assoc, append-nil, length-append}
use Rattle.std.specs.Prelude.{◌||◌}
use Rattle.std.proofs.lemmas.Bool.{eqb-true, or_cases}
use Rattle.std.proofs.Math.Nat.{div-add-mod, mod-lt, div-lt_iff_lt-mul, mul_comm}
use mathlib.Core.Option.{some-ne-none}
use Rattle.site_vector.specs.declared.ids.PartId.{PartId}
use Rattle.crdt_core.specs.KindsOf.{Kinds}
use Rattle.world_model.specs.lines.Places.{IsPlace}
use Rattle.world_model.specs.rules.Event.{Event}
use Rattle.world_model.specs.rules.Partition.{new_part}
use Rattle.world_model.specs.rules.Traces.{IsTrace}
use Rattle.world_model.specs.threads.Marks.{Mark, events}
use Rattle.world_model.proofs.Names.{off}
use Rattle.txn_session.specs.Passes.{Begins}
use Rattle.partition_core.specs.Durable.{Durable}
use Rattle.site_partitions.specs.Held.{index_of}
use Rattle.site_partitions.specs.Reaches.{Types, StandsAt, AreNew}
use Rattle.seat_rule.specs.declared.view.Noted.{Noted}
use Rattle.seat_rule.specs.declared.view.Past.{Past}
use Rattle.seat_rule.specs.declared.view.View.{View}
use Rattle.seat_rule.specs.Lists.{has, at, down_from, front_of, behind}
use Rattle.seat_rule.specs.Views.{reader, without, taken}
use Rattle.seat_rule.specs.world.Traces.{word_of, is_place, traces_of}
use Rattle.seat_rule.proofs.Parting.{none_lawful}
use Rattle.partition_lock.specs.declared.told.Told.{Told}
use Rattle.partition_lock.specs.Calling.{seen_by, holds}
use Rattle.partition_lock.specs.Counters.{IsCounter}
use Rattle.partition_lock.specs.Desks.{IsWriter, StandsFor}
use Rattle.partition_lock.specs.Events.{event_of}
use Rattle.partition_lock.specs.Openings.{words_below, place_at, unused}
use Rattle.partition_lock.specs.Passes.{IsPass, IsLeast, IsStamp, Sees}
use Rattle.partition_lock.proofs.Meeting.{one_least}

only_one : (w q : ℕ) → ((w == q) || false) ≡ true → q ≡ w
only_one w q h = ⊎_elim (λ (k : (w == q) ≡ true). sym (eqb-true w q k)) (λ k. off k) (or_cases (w == q) false h)

one_held : (w : ℕ) → has (w ∷ []) w ≡ true
one_held w = ap (λ b. b || false) (eq-eqb w w refl)

-- the words from n down are n and those below
pub down_is : (n : ℕ) → down_from n ≡ n ∷ words_below n
down_is zero = refl
down_is (suc n) = ap (λ l. suc n ∷ l) (down_is n)

pub below_next : (n : ℕ) → words_below (n + 1) ≡ n ∷ words_below n
below_next n = ap words_below more
  where
    more : n + 1 ≡ suc n
    more = omega arith

below_less : (n k : ℕ) → has (words_below n) k ≡ true → k < n
below_less zero k h = off h
below_less (suc n) k h = ⊎_elim
    (λ (e : (n == k) ≡ true). let x = eqb-true n k e in omega arith)
    (λ (e : has (words_below n) k ≡ true). let x = below_less n k e in omega arith)
    (or_cases (n == k) (has (words_below n) k) h)

-- the first word stands once
pub once : (n : ℕ) (ns : List ℕ) → ns ≡ n ∷ words_below n → (q : ℕ) → has (front_of ns) q ≡ true → has (behind ns) q ≡ false
once n ns is q = subst (λ ms. has (front_of ms) q ≡ true → has (behind ms) q ≡ false) (sym is) (λ h. go (has (words_below n) q) refl (only_one n q h))
  where
    go : (b : Bool) → has (words_below n) q ≡ b → q ≡ n → has (words_below n) q ≡ false
    go true e same = let x = below_less n q e in absurd (omega (arith, same))
    go false e same = e

-- the place of a word
pub place_is : (sites parts word : ℕ) → 1 ≤ parts → word < sites * parts → IsPlace sites parts (place_at parts word)
place_is sites parts word some less =
    let q : word / parts < sites = (div-lt_iff_lt-mul (omega arith)).1 less in
    let r : word % parts < parts = mod-lt word {m = parts} (omega arith) in
    record { least_site = omega arith; most_site = omega arith; least_part = omega arith; most_part = omega arith }

pub word_is : (parts word : ℕ) → word_of parts (place_at parts word) ≡ word
word_is parts word =
    let one : word / parts + 1 - 1 ≡ word / parts = omega arith in
    let two : word % parts + 1 - 1 ≡ word % parts = omega arith in
    (λ i. one i * parts + two i) ∙ (ap (λ x. x + word % parts) (mul_comm (word / parts) parts) ∙ div-add-mod word parts)

module _ {A : Type 0} where
  -- the first of a list
  abbrev pub IsFront : List A → List A → Type 0
  IsFront all now = (rest : List A) × (all ≡ now ++ rest)

  pub whole_front : (all : List A) → IsFront all all
  whole_front all = ([], sym (append-nil all))

  pub one_less_front : (all old now : List A) (x : A) → IsFront all old → old ≡ now ++ x ∷ [] → IsFront all now
  one_less_front all old now x f e = (x ∷ f.0, f.1 ∙ (ap (λ l. l ++ f.0) e ∙ append_assoc now (x ∷ []) f.0))

  behind_front : (now rest : List A) (x other : A) → get_or (now ++ x ∷ rest) (length now) other ≡ x
  behind_front [] rest x other = refl
  behind_front (y ∷ now) rest x other = behind_front now rest x other

  pub there : (all old now : List A) (x other : A) → IsFront all old → old ≡ now ++ x ∷ [] → (get_or all (length now) other ≡ x) × (length now < length all)
  there all old now x other f e =
      let is : all ≡ now ++ x ∷ f.0 = f.1 ∙ (ap (λ l. l ++ f.0) e ∙ append_assoc now (x ∷ []) f.0) in
      let size = length-append now (x ∷ f.0) in
      (ap (λ l. get_or l (length now) other) is ∙ behind_front now f.0 x other, subst (λ l. length now < length l) (sym is) (omega (arith, size)))

module _ {E : Type 0} where
  no_stamp : IsStamp {E = E} [] 0
  no_stamp = record { greatest = λ q j x h. absurd (some-ne-none x (sym h)); counted = omega arith }

  -- the numbers' seat after the first draw, and the pass that was given it
  pub counter_first : (word : ℕ) (me : View (Told E) × List (ℕ × ℕ)) → me ≡ (without (taken (unused {E = E} (word ∷ [])).0), []) → IsCounter word 1 0 me
  counter_first word me is = subst (IsCounter word 1 0) (sym is) (record {
    writes = λ q h. only_one word q h;
    here = one_held word;
    drawn_is = refl;
    numbers = refl;
    slots = refl;
    stamped = no_stamp;
  })

  pub pass_first : (n : ℕ) (me : View (Told E) × List (ℕ × ℕ)) → n ≡ 0 → me ≡ (reader {T = Told E} [] (0 ∷ []), []) → IsPass n 0 me
  pass_first n me zero_th is = subst (λ k. IsPass k 0 me) (sym zero_th) (subst (IsPass 0 0) (sym is) (record {
    writes = refl;
    lowest = one_least 0;
    slots = refl;
    drawn = refl;
    stamped = no_stamp;
  }))

-- the last of those that are left is new
pub new_at : {S E D : Type 0} (w : Types S E D) (sites parts : ℕ) (all old now : List (Durable E D)) (t : Durable E D) → 1 ≤ parts → AreNew w sites parts (sites * parts) all → IsFront all old → old ≡ now ++ t ∷ [] → StandsAt w sites parts (place_at parts (length now)) t (new_part sites parts)
new_at w sites parts all old now t some new f e =
    let k = there all old now t t f e in
    let word = length now in
    let less : word < sites * parts = subst (λ n. word < n) new.size k.1 in
    let at_word : index_of parts (place_at parts word) ≡ word = word_is parts word in
    subst (λ d. StandsAt w sites parts (place_at parts word) d (new_part sites parts)) (ap (λ n. get_or all n t) at_word ∙ k.0) (new.each (place_at parts word) (place_is sites parts word some less) (subst (λ n. n < sites * parts) (sym at_word) less) t)

module _ {S E D : Type 0} (w : Types S E D) (sites parts : ℕ) (id : PartId) where
  pub writer : (word : ℕ) (me : View (Told E) × List (ℕ × ℕ)) → sites ≤ 8 → parts ≤ 16 → IsPlace sites parts id → word ≡ word_of parts id → me ≡ unused (word ∷ []) → IsWriter sites parts id 0 [] me
  writer word me few many place at_word is = subst (IsWriter sites parts id 0 []) (sym (is ∙ ap (λ k. unused (k ∷ [])) at_word)) (record {
    few_sites = few;
    few_parts = many;
    place = place;
    writes = λ q h. only_one (word_of parts id) q h;
    here = one_held (word_of parts id);
    numbers = refl;
    slots = refl;
    stamped = no_stamp;
    shown = tt;
  })

  nothing : (b : Bool) → events {E = E} (cond b [] []) ≡ []
  nothing true = refl
  nothing false = refl

  pub stands : (word : ℕ) (me : View (Told E) × List (ℕ × ℕ)) (d : Durable E D) → me ≡ unused (word ∷ []) → StandsAt w sites parts id d (new_part sites parts) → StandsFor w sites parts id d me.0.past
  stands word me d e h = subst (λ (m : View (Told E) × List (ℕ × ℕ)). StandsFor w sites parts id d m.0.past) (sym e) (λ s x. subst (StandsAt w sites parts id d) (sym (subst (λ l. IsTrace w.kinds sites parts id l s) (nothing (is_place sites parts id)) x)) h)

module _ {S E : Type 0} (kinds : Kinds S E) (sites parts : ℕ) (ok : Event E → Type 0) where
  abbrev none : List (Mark E)
  none = []

  nothing_at : (q : PartId) → none ≡ traces_of event_of sites parts (at []) q
  nothing_at q = go (is_place sites parts q)
    where
      go : (b : Bool) → none ≡ cond b none none
      go true = refl
      go false = refl

  -- a pass that has seen nothing has seen no calls
  pub starts : (p : Past (Told E)) → p.lists ≡ [] → Sees kinds sites parts p []
  starts p e = let n = none_lawful event_of sites parts kinds ok in subst (λ (ls : List (List (Noted (Told E)))). Sees kinds sites parts (record p { lists = ls }) []) (sym e) (record {
    state = n.state;
    are = n.are;
    marks = [];
    order = record { order = tt; all = nothing_at };
    is = refl;
    legal = record { state = λ q. new_part sites parts; is_run = λ q. refl; owned = tt };
  })

  pub begins : {X : Type 0} (store : X) (p : Past (Told E)) → p.lists ≡ [] → p.numbers ≡ 0 ∷ [] → Begins (seen_by kinds sites parts) holds store p
  begins store p lists numbers = record {
    number = 0;
    least = (let l = subst (λ ns. IsLeast ns 0) (sym numbers) (one_least 0) in (l.held, l.least));
    seen = starts p lists;
  }
