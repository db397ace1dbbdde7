-- Passes put together, and the numbers' seat, which makes two of one.
use Rattle.std.proofs.Common.{◌≡◌, ⊎_elim, ℕ, ◌+◌, ◌<◌, leb, max, min, List, [], ◌∷◌, ◌++◌, true, false, refl, sym, ap, ◌∙◌, subst, arith, append-nil}
use Rattle.std.proofs.lemmas.Bool.{cases_Bool, or_cases, or_left, or_right, leb-true, leb-false, eqb-true, eq-eqb}
use Rattle.crdt_core.specs.KindsOf.{Kinds}
use Rattle.world_model.specs.rules.Event.{Event}
use Rattle.seat_rule.specs.declared.view.View.{View}
use Rattle.seat_rule.specs.Laws.{Heard}
use Rattle.seat_rule.specs.Lists.{has, longest}
use Rattle.seat_rule.specs.Notes.{AreDrawn}
use Rattle.seat_rule.specs.Views.{both, reader, without, taken}
use Rattle.seat_rule.specs.world.Traces.{IsLawful}
use Rattle.seat_rule.proofs.Lists.{has_append}
use Rattle.partition_lock.specs.declared.told.Told.{Told}
use Rattle.partition_lock.specs.Counters.{IsCounter}
use Rattle.partition_lock.specs.Events.{event_of}
use Rattle.partition_lock.specs.Passes.{IsLeast, IsPass, IsStamp}
use Rattle.partition_lock.proofs.Joined.{both_stamp}
use Rattle.partition_lock.proofs.Seeing.{Grew, one_holds}

-- of two lists of numbers the least
least_both : (ns ms : List ℕ) (l m : ℕ) → IsLeast ns l → IsLeast ms m → IsLeast (ns ++ ms) (min l m)
least_both ns ms l m a b = record {
  held = has_append ns ms (min l m) ∙ ⊎_elim
      (λ (h : leb l m ≡ true). let k = leb-true l m h in let e : min l m ≡ l = omega arith in or_left _ _ (ap (has ns) e ∙ a.held))
      (λ (h : leb l m ≡ false). let k = leb-false l m h in let e : min l m ≡ m = omega arith in or_right _ _ (ap (has ms) e ∙ b.held))
      (cases_Bool (leb l m));
  least = λ k h. ⊎_elim
      (λ (x : has ns k ≡ true). let z = a.least k x in omega arith)
      (λ (x : has ms k ≡ true). let z = b.least k x in omega arith)
      (or_cases (has ns k) (has ms k) (sym (has_append ns ms k) ∙ h));
}

-- one number is the least of itself
pub one_least : (d : ℕ) → IsLeast (d ∷ []) d
one_least d = record {
  held = one_holds d d ∙ eq-eqb d d refl;
  least = λ k h. let e = eqb-true k d (sym (one_holds d k) ∙ h) in omega (arith, e);
}

module _ {S E : Type 0} (kinds : Kinds S E) (sites parts : ℕ) (ok : Event E → Type 0) (v u : View (Told E)) where
  pub grew_was : Heard (IsLawful event_of sites parts kinds ok) (both v u) → Grew kinds sites parts ok v.past (both v u).past.lists
  grew_was h = record { lawful = h.lawful; knows = h.is_put.was.knows; closed = h.is_put.was_closed }

  pub grew_met : Heard (IsLawful event_of sites parts kinds ok) (both v u) → Grew kinds sites parts ok u.past (both v u).past.lists
  grew_met h = record { lawful = h.lawful; knows = h.is_put.met.knows; closed = h.is_put.met_closed }

module _ {E : Type 0} (v u : View (Told E)) (slots free : List (ℕ × ℕ)) (me : View (Told E) × List (ℕ × ℕ)) where
  pub met_pass : (l m a b s : ℕ) → IsPass l a (v, slots) → IsPass m b (u, free) → s ≡ max a b → me ≡ (both v u, slots) → IsPass (min l m) s me
  met_pass l m a b s p q newer is = subst (IsPass (min l m) s) (sym is) (record {
    writes = ap (λ ws. ws ++ u.past.writes) p.writes ∙ q.writes;
    lowest = least_both v.past.numbers u.past.numbers l m p.lowest q.lowest;
    slots = p.slots;
    drawn = (let x = p.drawn in let y = q.drawn in omega arith);
    stamped = subst (IsStamp (longest v.past.lists u.past.lists)) (let x = newer in omega arith) (both_stamp v.past.lists u.past.lists a b p.stamped q.stamped);
  })

  module _ (word drawn l a b s : ℕ) (c : IsCounter word drawn a (v, slots)) (p : IsPass l b (u, free)) (newer : s ≡ max b a) where
    pub numbers_are : v.past.numbers ++ u.past.numbers ≡ u.past.numbers
    numbers_are = ap (λ ns. ns ++ u.past.numbers) c.numbers

    writes_are : v.past.writes ++ u.past.writes ≡ v.past.writes
    writes_are = ap (λ ws. v.past.writes ++ ws) p.writes ∙ append-nil v.past.writes

    drawn_are : (both v u).drawn ≡ drawn
    drawn_are = let x = p.drawn in let y = c.drawn_is in omega arith

    stamp_is : IsStamp (longest v.past.lists u.past.lists) s
    stamp_is = subst (IsStamp (longest v.past.lists u.past.lists)) (sym newer) (both_stamp v.past.lists u.past.lists a b c.stamped p.stamped)

    -- the pass comes back
    pub first_pass : me ≡ (reader (both v u).past.lists (both v u).past.numbers, []) → IsPass l s me
    first_pass is = subst (IsPass l s) (sym is) (record {
      writes = refl;
      lowest = subst (λ ns. IsLeast ns l) (sym numbers_are) p.lowest;
      slots = refl;
      drawn = refl;
      stamped = stamp_is;
    })

    -- with a number alone
    pub second_pass : (n : ℕ) → n ≡ (both v u).drawn → me ≡ (reader (both v u).past.lists ((both v u).drawn ∷ []), []) → IsPass n s me
    second_pass n at_count is = subst (λ k. IsPass k s me) (sym at_count) (subst (IsPass (both v u).drawn s) (sym is) (record {
      writes = refl;
      lowest = one_least (both v u).drawn;
      slots = refl;
      drawn = refl;
      stamped = stamp_is;
    }))

    pub counter_after : (next : ℕ) → next ≡ drawn + 1 → me ≡ (without (taken (without (both v u))), slots) → IsCounter word next s me
    counter_after next more is = subst (IsCounter word next s) (sym is) (record {
      writes = λ q h. c.writes q (sym (ap (λ ws. has ws q) writes_are) ∙ h);
      here = ap (λ ws. has ws word) writes_are ∙ c.here;
      drawn_is = (let x = drawn_are in omega arith);
      numbers = refl;
      slots = c.slots;
      stamped = stamp_is;
    })

    -- the pass's numbers are below the new one
    pub lower : AreDrawn (both v u) → (k : ℕ) → has u.past.numbers k ≡ true → k < (both v u).drawn
    lower d k h = d.held k (ap (λ ns. has ns k) numbers_are ∙ h)
