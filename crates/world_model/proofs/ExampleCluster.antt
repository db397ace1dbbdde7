-- A cluster of two sites with two partitions each, for runs that are built event by event: places, objects, and one lemma for a step.
use Rattle.std.proofs.Common.{◌≡◌, ◌≢◌, inr, ℕ, zero, suc, Bool, true, false, not, ◌&&◌, ◌||◌, cond, List, [], ◌∷◌, refl, sym, subst, arith, lit≤}
use Rattle.std.specs.Prelude.{if◌then◌else◌, pos}
use Rattle.std.proofs.lemmas.Bool.{cond-false, or_from, and_right, and_parts}
use Rattle.site_vector.specs.declared.ids.PartId.{PartId}
use Rattle.site_vector.specs.declared.ids.TxId.{TxId}
use Rattle.site_vector.specs.Ids.{same_part}
use Rattle.crdt_core.specs.declared.kind.Kind.TheVariants.{CounterPn, FlagEw}
use Rattle.crdt_core.specs.declared.object.ObjectId.{ObjectId}
use Rattle.crdt_core.specs.declared.operation.Op.{Op}
use Rattle.crdt_core.specs.declared.operation.Act.TheVariants.{Increment, Enable}
use Rattle.crdt_core.specs.declared.record.Upd.{Upd}
use Rattle.crdt_core.specs.KindsOf.{Kinds, fits_kind}
use Rattle.world_model.specs.rules.Event.{Event, Entry, WasShown, WasNumbered, attempt, is_prepare, tried}
use Rattle.world_model.specs.rules.World.{plan_of, IsWorldRun}
use Rattle.world_model.specs.rules.Partition.{PartState, PartStep}
use Rattle.world_model.specs.lines.Places.{IsOther, IsPlace}
use Rattle.world_model.specs.rules.Dependency.{WasVector}
use Rattle.world_model.specs.rules.Plan.{is_some_update, IsAllowed, IsFit, IsNew}
use Rattle.world_model.proofs.Names.{off, part_other}

abbrev pub here1 : PartId
here1 = record { site = 1; part = 1 }

abbrev pub here2 : PartId
here2 = record { site = 1; part = 2 }

abbrev pub there1 : PartId
there1 = record { site = 2; part = 1 }

abbrev pub there2 : PartId
there2 = record { site = 2; part = 2 }

pub place_here1 : IsPlace 2 2 here1
place_here1 = record { least_site = lit≤ tt; most_site = lit≤ tt; least_part = lit≤ tt; most_part = lit≤ tt }

pub place_here2 : IsPlace 2 2 here2
place_here2 = record { least_site = lit≤ tt; most_site = lit≤ tt; least_part = lit≤ tt; most_part = lit≤ tt }

pub place_there1 : IsPlace 2 2 there1
place_there1 = record { least_site = lit≤ tt; most_site = lit≤ tt; least_part = lit≤ tt; most_part = lit≤ tt }

pub place_there2 : IsPlace 2 2 there2
place_there2 = record { least_site = lit≤ tt; most_site = lit≤ tt; least_part = lit≤ tt; most_part = lit≤ tt }

-- the other of two sites
pub other_of_first : (j : ℕ) → IsOther 2 1 j → j ≡ 2
other_of_first j o = let a = o.least in let b = o.most in let c = o.apart in omega arith

pub other_of_second : (j : ℕ) → IsOther 2 2 j → j ≡ 1
other_of_second j o = let a = o.least in let b = o.most in let c = o.apart in omega arith

pub second_of_first : IsOther 2 1 2
second_of_first = record { least = lit≤ tt; most = lit≤ tt; apart = λ e. absurd (omega arith) }

pub first_of_second : IsOther 2 2 1
first_of_second = record { least = lit≤ tt; most = lit≤ tt; apart = λ e. absurd (omega arith) }

-- what holds of the one other site
pub at_second : (P : ℕ → Type 0) → P 2 → (j : ℕ) → IsOther 2 1 j → P j
at_second P h j o = subst P (sym (other_of_first j o)) h

pub at_first : (P : ℕ → Type 0) → P 1 → (j : ℕ) → IsOther 2 2 j → P j
at_first P h j o = subst P (sym (other_of_second j o)) h

-- a counter and a flag that stand at the first partition of a site, and a counter and a flag at the second
abbrev pub counter1 : ObjectId
counter1 = record { bucket = []; key = 107 ∷ []; kind = CounterPn }

abbrev pub flag1 : ObjectId
flag1 = record { bucket = []; key = 107 ∷ []; kind = FlagEw }

abbrev pub counter2 : ObjectId
counter2 = record { bucket = []; key = 106 ∷ []; kind = CounterPn }

abbrev pub flag2 : ObjectId
flag2 = record { bucket = []; key = 106 ∷ []; kind = FlagEw }

abbrev pub more : Op
more = record { path = []; act = Increment (pos 1) }

abbrev pub on : Op
on = record { path = []; act = Enable }

-- two sessions
abbrev pub ann : List ℕ
ann = 97 ∷ []

abbrev pub ben : List ℕ
ben = 98 ∷ []

-- the vector of no time
abbrev pub none : List ℕ
none = 0 ∷ 0 ∷ []

pub no_updates : (E : Type 0) (b : Bool) → is_some_update (cond {A = List (Upd E)} b [] []) ≡ false
no_updates E true = refl
no_updates E false = refl

-- what was decided or aborted isn't pending
pub none_left : (b : Bool) → ((b || false) && not ((b || false) || false)) ≡ false
none_left true = refl
none_left false = refl

unset : (b : Bool) → not b ≡ true → b ≡ false
unset true h = off h
unset false h = refl

module _ {E : Type 0} where
  -- all but the newest n
  abbrev pub older : ℕ → List (Entry E) → List (Entry E)
  older zero run = run
  older (suc n) [] = []
  older (suc n) (e ∷ run) = older n run

  -- the event that comes before the newest n
  pub was_shown : (n : ℕ) (run : List (Entry E)) (p : PartId) (e : Event E) → WasShown (older n run) p e → WasShown run p e
  was_shown zero run p e h = h
  was_shown (suc n) [] p e h = h
  was_shown (suc n) (x ∷ run) p e h = inr (was_shown n run p e h)

  pub was_numbered : (count : List (Entry E) → PartId → ℕ) (n : ℕ) (run : List (Entry E)) (number : ℕ) (p : PartId) (e : Event E) → WasNumbered count (older n run) number p e → WasNumbered count run number p e
  was_numbered count zero run number p e h = h
  was_numbered count (suc n) [] number p e h = h
  was_numbered count (suc n) (x ∷ run) number p e h = inr (was_numbered count n run number p e h)

  pub was_vector : (n : ℕ) (run : List (Entry E)) (v : List ℕ) → WasVector (older n run) v → WasVector run v
  was_vector zero run v h = h
  was_vector (suc n) [] v h = h
  was_vector (suc n) (x ∷ run) v h = inr (was_vector n run v h)

  abbrev pub put : (PartId → PartState E) → PartId → PartState E → PartId → PartState E
  put f at p q = if same_part q at then p else f q

  pub others : (f : PartId → PartState E) (at : PartId) (p : PartState E) (q : PartId) → q ≢ at → put f at p q ≡ f q
  others f at p q ne = cond-false (same_part q at) p (f q) (part_other q at ne)

  -- no event asks for a vote of t
  abbrev pub asks_none : List (Entry E) → TxId → Bool
  asks_none [] t = true
  asks_none (e ∷ run) t = not (is_prepare (attempt e.event) t) && asks_none run t

  -- and so none was asked anywhere
  pub untried : (run : List (Entry E)) (t : TxId) → asks_none run t ≡ true → (p : PartId) → tried run t p ≡ false
  untried [] t h p = refl
  untried (e ∷ run) t h p =
      let a = and_parts (not (is_prepare (attempt e.event) t)) (asks_none run t) h in
      or_from _ _ (and_right (same_part e.at p) _ (unset _ a.0)) (untried run t a.1 p)

-- kinds that have counters and flags
pub record HaveBoth {S E : Type 0} (kinds : Kinds S E) : Type 0 where
  pub counters : kinds.has CounterPn ≡ true
  pub flags : kinds.has FlagEw ≡ true
  pub shallow_counter : kinds.too_deep CounterPn [] ≡ false
  pub shallow_flag : kinds.too_deep FlagEw [] ≡ false

pub fits_more : {S E : Type 0} (kinds : Kinds S E) → HaveBoth kinds → fits_kind kinds.too_deep counter1 more ≡ true
fits_more kinds both = rw both.shallow_counter refl

pub fits_on : {S E : Type 0} (kinds : Kinds S E) → HaveBoth kinds → fits_kind kinds.too_deep flag1 on ≡ true
fits_on kinds both = rw both.shallow_flag refl

-- one step more, which leaves its partition so
module _ {S E : Type 0} (kinds : Kinds S E) (run : List (Entry E)) (f : PartId → PartState E) (at : PartId) (e : Event E) where
  pub go : (q : PartState E) → IsWorldRun kinds 2 2 run f → IsPlace 2 2 at → IsAllowed (plan_of 2 2 ((record { at = at; event = e }) ∷ run)) run f at (attempt e) → IsFit kinds e → PartStep kinds 2 2 at (f at) e (put f at q at) → IsNew run e → IsWorldRun kinds 2 2 ((record { at = at; event = e }) ∷ run) (put f at q)
  go q h place allowed fit step new = (f, h, record { place = place; allowed = allowed; fit = fit; step = step; others = others f at q }, new)

  -- one that changes nothing
  pub stay : IsWorldRun kinds 2 2 run f → IsPlace 2 2 at → IsAllowed (plan_of 2 2 ((record { at = at; event = e }) ∷ run)) run f at (attempt e) → IsFit kinds e → PartStep kinds 2 2 at (f at) e (f at) → IsNew run e → IsWorldRun kinds 2 2 ((record { at = at; event = e }) ∷ run) f
  stay h place allowed fit step new = (f, h, record { place = place; allowed = allowed; fit = fit; step = step; others = λ q ne. refl }, new)
