-- What a read finds holds updates alone whose ids can be spelled, where the ids of what it folds can be.
use Rattle.std.proofs.Common.{◌≡◌, ⊎_elim, ℕ, Bool, true, ◌&&◌, List, [], ◌∷◌, refl, sym, ◌∙◌, subst}
use Rattle.std.specs.Prelude.{if◌then◌else◌, filter, ⊤}
use Rattle.std.specs.List.{list_all}
use Rattle.std.proofs.lemmas.Bool.{true≢false, or_cases}
use Rattle.field_codec.specs.FormLaws.{both_true, and_true}
use Rattle.site_vector.specs.declared.ids.TxId.{TxId}
use Rattle.site_vector.specs.declared.ids.Dot.{Dot}
use Rattle.site_vector.specs.Ids.{same_dot}
use Rattle.site_vector.specs.Order.{same_dot_is}
use Rattle.site_vector.specs.Vector.{le}
use Rattle.crdt_core.specs.declared.object.ObjectId.{ObjectId}
use Rattle.crdt_core.specs.declared.record.Upd.{Upd}
use Rattle.crdt_core.specs.declared.record.Part.{Part}
use Rattle.crdt_core.specs.EffectForm.{HoldsSpelled}
use Rattle.crdt_core.specs.Folds.{effects_from, effects_of}
use Rattle.crdt_core.specs.History.{folded}
use Rattle.crdt_core.specs.KindsOf.{Kinds}
use Rattle.crdt_core.specs.Law.{KeepsSteps}
use Rattle.crdt_core.specs.Objects.{same_object}
use Rattle.crdt_core.specs.Parts.{touches, seen_parts}
use Rattle.crdt_core.specs.Seen.{Update}
use Rattle.crdt_core.specs.Spelled.{is_between, is_dot, is_tx}
use Rattle.partition_core.specs.Numbered.{are_numbered, have_ids}
use Rattle.partition_core.specs.Reads.{applied}
use Rattle.partition_core.proofs.Choices.{chosen}
use Rattle.partition_core.proofs.Folding.{applied_folds}

-- the updates of these effects can be spelled
abbrev AreDots : {E : Type 0} → List (Dot × E) → Type 0
AreDots [] = ⊤
AreDots (e ∷ es) = (is_dot e.0 ≡ true) × AreDots es

-- a fold holds at most what was folded
pub fold_spelled : {S E : Type 0} (initial : S) (step : S → Dot → E → S) (make : S → Update → E) (names : E → Dot → Bool) (holds : S → Dot → Bool) → KeepsSteps initial step make names holds → (es : List (Dot × E)) → AreDots es → HoldsSpelled holds (folded initial step es)
fold_spelled initial step make names holds keeps [] h d k = absurd (true≢false (sym k ∙ keeps.none_held d))
fold_spelled initial step make names holds keeps (e ∷ es) h d k =
    ⊎_elim
    (λ (a : holds (folded initial step es) d ≡ true). fold_spelled initial step make names holds keeps es h.1 d a)
    (λ (b : same_dot e.0 d ≡ true). subst (λ x. is_dot x ≡ true) (same_dot_is e.0 d b) h.0)
    (or_cases (holds (folded initial step es) d) (same_dot e.0 d) (keeps.held (folded initial step es) e.0 e.1 d k))

all_filter : {A : Type 0} (p q : A → Bool) (xs : List A) → list_all p xs ≡ true → list_all p (filter q xs) ≡ true
all_filter p q [] h = refl
all_filter p q (x ∷ xs) h =
    let two = both_true (p x) (list_all p xs) h in
    let rest = all_filter p q xs two.1 in
    chosen (λ l. list_all p l ≡ true) (q x) (x ∷ filter q xs) (filter q xs) (λ _. and_true (p x) (list_all p (filter q xs)) two.0 rest) (λ _. rest)

module _ {E : Type 0} (o : ObjectId) where
  own_dots : (t : TxId) → is_tx t ≡ true → (older : List (Dot × E)) (us : List (Upd E)) → AreDots older → are_numbered us ≡ true → AreDots (effects_from o t older us)
  own_dots t k older [] h n = h
  own_dots t k older (u ∷ us) h n =
      let two = both_true (is_between 1 256 u.index) (are_numbered us) n in
      let one : List (Dot × E) = ((record { tx = t; index = u.index }), u.effect) ∷ older in
      own_dots t k (if same_object u.object o then one else older) us (chosen AreDots (same_object u.object o) one older (λ _. (and_true (is_tx t) (is_between 1 256 u.index) k two.0, h)) (λ _. h)) two.1

  part_dots : (older : List (Dot × E)) (xs : List (Part E)) → AreDots older → have_ids xs ≡ true → AreDots (effects_of o older xs)
  part_dots older [] h n = h
  part_dots older (x ∷ xs) h n =
      let two = both_true (is_tx x.tx && are_numbered x.updates) (have_ids xs) n in
      let one = both_true (is_tx x.tx) (are_numbered x.updates) two.0 in
      part_dots (effects_from o x.tx older x.updates) xs (own_dots x.tx one.0 older x.updates h one.1) two.1

module _ {S E : Type 0} (kinds : Kinds S E) (o : ObjectId) (known : kinds.has o.kind ≡ true) where
  spelled_fold : (es : List (Dot × E)) → AreDots es → HoldsSpelled kinds.holds (folded (kinds.initial o.kind) kinds.applied es)
  spelled_fold es h = fold_spelled (kinds.initial o.kind) kinds.applied _ kinds.names kinds.holds (kinds.laws.steps o.kind known) es h

  -- the state of no update
  pub initial_spelled : (state : S) → state ≡ kinds.initial o.kind → HoldsSpelled kinds.holds state
  initial_spelled state is = subst (λ s. HoldsSpelled kinds.holds s) (sym is) (spelled_fold [] tt)

  -- the state that a read finds
  pub read_spelled : (t : TxId) (s : List ℕ) (own : List (Upd E)) (held : List (Part E)) (state : S) → state ≡ applied kinds.applied o t (folded (kinds.initial o.kind) kinds.applied (effects_of o [] (seen_parts o s held))) own → have_ids held ≡ true → is_tx t ≡ true → are_numbered own ≡ true → HoldsSpelled kinds.holds state
  read_spelled t s own held state is ids begun numbered =
      let seen = seen_parts o s held in
      let shown : have_ids seen ≡ true = all_filter (λ x. is_tx x.tx && are_numbered x.updates) (λ x. touches x.updates o && le x.c s) held ids in
      let found : AreDots (effects_of o [] seen) = part_dots o [] seen tt shown in
      let all : AreDots (effects_from o t (effects_of o [] seen) own) = own_dots o t begun (effects_of o [] seen) own found numbered in
      subst (λ x. HoldsSpelled kinds.holds x) (sym (is ∙ applied_folds (kinds.initial o.kind) kinds.applied o t (effects_of o [] seen) own)) (spelled_fold (effects_from o t (effects_of o [] seen) own) all)
