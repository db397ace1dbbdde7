-- The updates of a field are a history of its kind.
use Rattle.std.proofs.Common.{◌≡◌, ℕ, suc, Bool, true, false, cond, not, ◌&&◌, ◌||◌, List, [], ◌∷◌, length, Option, Some, None, refl, sym, ap, ◌∙◌, subst, arith}
use Rattle.std.specs.Prelude.{nat_le}
use Rattle.std.specs.List.{list_any, list_all}
use Rattle.std.specs.Option.{option_map}
use Rattle.std.proofs.lemmas.Bool.{true≢false, and_parts, and_from, or_parts}
use Rattle.std.proofs.lemmas.Bool.Decides.{nat_tests}
use Rattle.site_vector.specs.declared.ids.Dot.{Dot}
use Rattle.site_vector.specs.Ids.{same_dot}
use Rattle.crdt_core.specs.declared.kind.Kind.{Kind}
use Rattle.crdt_core.specs.declared.kind.Kind.TheVariants as kind
use Rattle.crdt_core.specs.declared.object.Field.{Field}
use Rattle.crdt_core.specs.declared.operation.Act.{Act}
use Rattle.crdt_core.specs.declared.operation.Act.TheVariants as act
use Rattle.crdt_core.specs.Kinds.{same_field}
use Rattle.crdt_core.specs.Fits.{nests_in, allows, fits}
use Rattle.crdt_core.specs.Seen.{Update, sees}
use Rattle.crdt_core.specs.History.{IsClosed, IsNext, IsHistory}
use Rattle.crdt_core.specs.Law.{all_fit}
use Rattle.crdt_core.specs.FieldOrder.{same_field_is}
use Rattle.crdt_meanings.specs.Maps.{map_too_deep}
use Rattle.crdt_meanings.specs.MapMeaning.{with_some, inner_op, within, of_field}

-- what an update becomes at a field has its dot, and has seen what it has
any_onto : (q r : Update → Bool) → ((u : Update) (o : List Field × Act) → q (within u o) ≡ r u) → (u : Update) (o : Option (List Field × Act)) (rest : List Update) → r u ≡ false → list_any q rest ≡ false → list_any q (with_some (option_map (within u) o) rest) ≡ false
any_onto q r same u None rest h k = k
any_onto q r same u (Some o) rest h k = ap (λ b. b || list_any q rest) (same u o ∙ h) ∙ k

any_of_field : (q r : Update → Bool) → ((u : Update) (o : List Field × Act) → q (within u o) ≡ r u) → (f : Field) (us : List Update) → list_any r us ≡ false → list_any q (of_field f us) ≡ false
any_of_field q r same f [] h = refl
any_of_field q r same f (u ∷ us) h = let two = or_parts (r u) (list_any r us) h in any_onto q r same u (inner_op f u.path u.act) _ two.0 (any_of_field q r same f us two.1)

closed_onto : (p : Dot → Bool) (u : Update) (o : Option (List Field × Act)) (rest : List Update) → (p u.dot ≡ true → (d : Dot) → sees u d ≡ true → p d ≡ true) → IsClosed p rest → IsClosed p (with_some (option_map (within u) o) rest)
closed_onto p u None rest h k = k
closed_onto p u (Some o) rest h k = (h, k)

pub closed_of_field : (p : Dot → Bool) (f : Field) (us : List Update) → IsClosed p us → IsClosed p (of_field f us)
closed_of_field p f [] h = h
closed_of_field p f (u ∷ us) h = closed_onto p u (inner_op f u.path u.act) _ h.0 (closed_of_field p f us h.1)

pub next_of_field : (f : Field) (u : Update) (us : List Update) (o : List Field × Act) → IsNext us u → IsNext (of_field f us) (within u o)
next_of_field f u us o h = record {
  new = any_of_field (λ v. same_dot v.dot u.dot) (λ v. same_dot v.dot u.dot) (λ _ _. refl) f us h.new;
  unseen = any_of_field (λ v. sees v u.dot) (λ v. sees v u.dot) (λ _ _. refl) f us h.unseen;
  apart = h.apart;
  closed = closed_of_field (sees u) f us h.closed;
}

history_onto : (f : Field) (u : Update) (us : List Update) (o : Option (List Field × Act)) → IsNext us u → IsHistory (of_field f us) → IsHistory (with_some (option_map (within u) o) (of_field f us))
history_onto f u us None h k = k
history_onto f u us (Some o) h k = (next_of_field f u us o h, k)

pub history_of_field : (f : Field) (us : List Update) → IsHistory us → IsHistory (of_field f us)
history_of_field f [] h = h
history_of_field f (u ∷ us) h = history_onto f u us (inner_op f u.path u.act) h.0 (history_of_field f us h.1)

-- what may stand in a map that resets has a reset
resets_fit : (k : Kind) → nests_in kind.MapRr k ≡ true → allows k act.Reset ≡ true
resets_fit kind.CounterFat h = refl
resets_fit kind.SetAw h = refl
resets_fit kind.SetRw h = refl
resets_fit kind.FlagEw h = refl
resets_fit kind.FlagDw h = refl
resets_fit kind.RegisterMv h = refl
resets_fit kind.MapRr h = refl
resets_fit _ h = absurd (true≢false (sym h))

shorter : (n : ℕ) → nat_le (suc n) 3 ≡ true → nat_le n 3 ≡ true
shorter n h = grind (arith, nat_tests)

no_depth : (a b : Bool) → not (not a || b) ≡ true → (a ≡ true) × (not b ≡ true)
no_depth true b h = (refl, h)
no_depth false b h = absurd (true≢false (sym h))

shown_fit : (deep : Bool) → deep ≡ false → not deep ≡ true
shown_fit deep h = ap not h

-- where the map has acts of its own, the field may stand in a map that resets
abbrev pub reset_nests : Kind → Field → Type 0
reset_nests k f = (a : Act) → allows k a ≡ true → nests_in kind.MapRr f.kind ≡ true

-- that of a map's kind leads into fields of kinds that the inner type has
module _ (has : Kind → Bool) (too_deep : Kind → List Field → Bool) where
  abbrev pub outer_fits : Kind → List Field → Act → Bool
  outer_fits k p a = fits k p a && not (map_too_deep has too_deep k p)

  abbrev pub inner_fits : Kind → List Field → Act → Bool
  inner_fits k p a = fits k p a && not (too_deep k p)

  pub record Enters (k : Kind) (f : Field) (p : List Field) (a : Act) : Type 0 where
    pub known : has f.kind ≡ true
    pub nests : nests_in k f.kind ≡ true
    pub fit : inner_fits f.kind p a ≡ true

  pub enters : (k : Kind) (f : Field) (p : List Field) (a : Act) → outer_fits k (f ∷ p) a ≡ true → Enters k f p a
  enters k f p a h =
      let all = and_parts (fits k (f ∷ p) a) _ h in
      let one = and_parts (nat_le (length (f ∷ p)) 3) _ all.0 in
      let two = and_parts (nests_in k f.kind) _ one.1 in
      let deep = no_depth (has f.kind) (too_deep f.kind p) all.1 in
      record { known = deep.0; nests = two.0; fit = and_from _ _ (and_from _ _ (shorter (length p) one.0) two.1) deep.1 }

  pub own_act : (k : Kind) (a : Act) → outer_fits k [] a ≡ true → allows k a ≡ true
  own_act k a h = (and_parts (nat_le 0 3) _ (and_parts (fits k [] a) _ h).0).1

  module _ (shallow : (k : Kind) → too_deep k [] ≡ false) where
    pub reset_fits : (f : Field) → nests_in kind.MapRr f.kind ≡ true → inner_fits f.kind [] act.Reset ≡ true
    reset_fits f h = and_from _ _ (and_from _ _ refl (resets_fit f.kind h)) (shown_fit _ (shallow f.kind))

    fits_here : (k : Kind) (f g : Field) (u : Update) (p : List Field) (a : Act) (rest : List Update) → outer_fits k (g ∷ p) a ≡ true → list_all (λ v. inner_fits f.kind v.path v.act) rest ≡ true → list_all (λ v. inner_fits f.kind v.path v.act) (with_some (option_map (within u) (cond (same_field g f) (Some (p, a)) None)) rest) ≡ true
    fits_here k f g u p a rest h r = elim (same_field g f) as (λ b. same_field g f ≡ b → list_all (λ v. inner_fits f.kind v.path v.act) (with_some (option_map (within u) (cond b (Some (p, a)) None)) rest) ≡ true) [
      | true ↦ λ t. and_from _ _ (subst (λ l. inner_fits l.kind p a ≡ true) (same_field_is g f t) (enters k g p a h).fit) r
      | false ↦ λ t. r
    ] refl

    fits_dropped : (f g : Field) (u : Update) (rest : List Update) → nests_in kind.MapRr f.kind ≡ true → list_all (λ v. inner_fits f.kind v.path v.act) rest ≡ true → list_all (λ v. inner_fits f.kind v.path v.act) (with_some (option_map (within u) (cond (same_field g f) (Some ([], act.Reset)) None)) rest) ≡ true
    fits_dropped f g u rest h r = elim (same_field g f) as (λ b. list_all (λ v. inner_fits f.kind v.path v.act) (with_some (option_map (within u) (cond b (Some ([], act.Reset)) None)) rest) ≡ true) [ true ↦ and_from _ _ (reset_fits f h) r | false ↦ r ]

    fits_onto : (k : Kind) (f : Field) → reset_nests k f → (u : Update) (p : List Field) (a : Act) (rest : List Update) → outer_fits k p a ≡ true → list_all (λ v. inner_fits f.kind v.path v.act) rest ≡ true → list_all (λ v. inner_fits f.kind v.path v.act) (with_some (option_map (within u) (inner_op f p a)) rest) ≡ true
    fits_onto k f own u [] act.Reset rest h r = and_from _ _ (reset_fits f (own act.Reset (own_act k act.Reset h))) r
    fits_onto k f own u [] (act.DropField g) rest h r = fits_dropped f g u rest (own (act.DropField g) (own_act k (act.DropField g) h)) r
    fits_onto k f own u [] _ rest h r = r
    fits_onto k f own u (g ∷ p) a rest h r = fits_here k f g u p a rest h r

    pub fits_of_field : (k : Kind) (f : Field) → reset_nests k f → (us : List Update) → all_fit (map_too_deep has too_deep) k us ≡ true → all_fit too_deep f.kind (of_field f us) ≡ true
    fits_of_field k f own [] h = refl
    fits_of_field k f own (u ∷ us) h = let two = and_parts (outer_fits k u.path u.act) _ h in fits_onto k f own u u.path u.act (of_field f us) two.0 (fits_of_field k f own us two.1)
