-- What the table of kinds says of a kind that isn't a map.
use Rattle.std.proofs.Common.{◌≡◌, Bool, true, false, cond, ◌&&◌, List, [], ◌∷◌, refl, sym, ap, ◌∙◌, Some, None}
use Rattle.std.specs.Prelude.{nat_le, length, min}
use Rattle.std.proofs.lemmas.Bool.{true≢false, and_parts, and_right}
use Rattle.crdt_core.specs.declared.kind.Kind.{Kind}
use Rattle.crdt_core.specs.declared.kind.Kind.TheVariants.{RegisterLww}
use Rattle.crdt_core.specs.declared.object.Field.{Field}
use Rattle.crdt_core.specs.declared.operation.Act.{Act}
use Rattle.crdt_core.specs.Kinds.{same_kind, kind_at}
use Rattle.crdt_core.specs.Fits.{nests_in, allows, leads_to, fits}
use Rattle.crdt_core.specs.Seen.{Update, is_assign}
use Rattle.crdt_core.specs.Stamps.{stamp_due, last_stamp, above_all, assigns_seen}
use Rattle.crdt_core.specs.Law.{all_fit}

-- no kind may stand in this one
abbrev pub IsLeaf : Kind → Type 0
IsLeaf k = (l : Kind) → nests_in k l ≡ false

no_field : (b c : Bool) → b ≡ false → (b && c) ≡ true → true ≡ false
no_field b c h e = sym e ∙ ap (λ x. x && c) h

-- its paths have no field
pub ends_there : (k : Kind) → IsLeaf k → (p : List Field) (a : Act) → leads_to k p a ≡ true → (p ≡ []) × (allows k a ≡ true)
ends_there k leaf [] a h = (refl, h)
ends_there k leaf (f ∷ p) a h = absurd (true≢false (no_field (nests_in k f.kind) (leads_to f.kind p a) (leaf f.kind) h))

pub fits_leaf : (k : Kind) → IsLeaf k → (p : List Field) (a : Act) → fits k p a ≡ true → (p ≡ []) × (allows k a ≡ true)
fits_leaf k leaf p a h = ends_there k leaf p a (and_parts (nat_le (length p) 3) (leads_to k p a) h).1

-- of the updates of a list that all fit
pub first_fits : (deep : Kind → List Field → Bool) (k : Kind) → IsLeaf k → (u : Update) (us : List Update) → all_fit deep k (u ∷ us) ≡ true → (u.path ≡ []) × (allows k u.act ≡ true)
first_fits deep k leaf u us h = fits_leaf k leaf u.path u.act (and_parts (fits k u.path u.act) _ (and_parts _ (all_fit deep k us) h).0).0

pub rest_fits : (deep : Kind → List Field → Bool) (k : Kind) (u : Update) (us : List Update) → all_fit deep k (u ∷ us) ≡ true → all_fit deep k us ≡ true
rest_fits deep k u us h = (and_parts _ (all_fit deep k us) h).1

-- no kind but one has stamps
pub no_stamp_due : (deep : Kind → List Field → Bool) (k : Kind) → IsLeaf k → same_kind k RegisterLww ≡ false → (u : Update) (us : List Update) → all_fit deep k (u ∷ us) ≡ true → None ≡ stamp_due k us u
no_stamp_due deep k leaf other u us h =
    let at : kind_at k u.path ≡ k = ap (kind_at k) (first_fits deep k leaf u us h).0 in
    let none : (is_assign u.act && same_kind (kind_at k u.path) RegisterLww) ≡ false = and_right (is_assign u.act) _ (ap (λ l. same_kind l RegisterLww) at ∙ other) in
    sym (ap (λ b. cond b (Some (min last_stamp (above_all u.now (assigns_seen u us)))) None) none)
