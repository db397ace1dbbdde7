-- When two objects are one.
use Rattle.std.specs.Prelude.{◌≡◌, ℕ, Bool, true, ◌&&◌, List, refl}
use Rattle.std.proofs.Common.{ap, ◌∙◌}
use Rattle.std.proofs.lemmas.Bool.{and_parts, and_from, eq-eqb}
use Rattle.std.proofs.lemmas.Slice.Eq.{bytes_eq-Decides}
use Rattle.std.specs.Str.{bytes_eq}
use Rattle.crdt_core.specs.declared.kind.Kind.{Kind}
use Rattle.crdt_core.specs.Kinds.{kind_code, same_kind}
use Rattle.crdt_core.specs.KindCodes.{same_kind_is}
use Rattle.crdt_core.specs.declared.object.ObjectId.{ObjectId}

abbrev pub same_object : ObjectId → ObjectId → Bool
same_object o p = bytes_eq o.key p.key && (bytes_eq o.bucket p.bucket && same_kind o.kind p.kind)

pub same_object-true : (o p : ObjectId) → same_object o p ≡ true → o ≡ p
same_object-true o p h =
    let all = and_parts (bytes_eq o.key p.key) (bytes_eq o.bucket p.bucket && same_kind o.kind p.kind) h in
    let rest = and_parts (bytes_eq o.bucket p.bucket) (same_kind o.kind p.kind) all.1 in
    let made : List ℕ → List ℕ → Kind → ObjectId = λ b k i. record { bucket = b; key = k; kind = i } in
    ap (λ b. made b o.key o.kind) ((bytes_eq-Decides o.bucket p.bucket).0 rest.0)
    ∙ (ap (λ k. made p.bucket k o.kind) ((bytes_eq-Decides o.key p.key).0 all.0) ∙ ap (made p.bucket p.key) (same_kind_is o.kind p.kind rest.1))

pub same_object-refl : (o : ObjectId) → same_object o o ≡ true
same_object-refl o = and_from _ _ ((bytes_eq-Decides o.key o.key).1 refl) (and_from _ _ ((bytes_eq-Decides o.bucket o.bucket).1 refl) (eq-eqb (kind_code o.kind) (kind_code o.kind) refl))
