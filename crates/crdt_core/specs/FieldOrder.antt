-- Fields in the order of their names, and then of their kinds.
use Rattle.std.proofs.Common.{◌≡◌, ℕ, true, ◌&&◌, List, refl, sym, ap, ◌∙◌, subst}
use Rattle.std.specs.Coded.{Coded, code_by, coded×, coded_list, coded_ℕ}
use Rattle.std.specs.declared.cmp.Ordering.{Ordering}
use Rattle.std.specs.declared.cmp.Ordering.TheVariants.{Less, Equal, Greater}
use Rattle.std.specs.Ordering.{nat_cmp, ordering_then, is_eq, eq_by_cmp}
use Rattle.std.specs.Cmp.{IsTotalOrder, IsEquivalence, Equal-is, eq_by_cmp_equiv, unsigned_tied}
use Rattle.std.proofs.lemmas.Cmp.{nat_cmp_total, on_total, then_total}
use Rattle.std.proofs.lemmas.Map.Lookups.{exact_unsigned, exact_pairs}
use Rattle.std.proofs.lemmas.Map.Text.{is_eq-slice_cmp}
use Rattle.std.specs.FinMap.{IsAntisymmetric}
use Rattle.crdt_core.specs.declared.kind.Kind.{Kind}
use Rattle.crdt_core.specs.declared.object.Field.{Field}
use Rattle.crdt_core.specs.Kinds.{kind_code, same_field}
use Rattle.crdt_core.specs.KindCodes.{coded_kind, coded_back}
use Rattle.crdt_core.specs.Texts.{text_cmp, text_cmp_total, text_cmp_exact}

abbrev pub kind_cmp : Kind → Kind → Ordering
kind_cmp k l = nat_cmp (kind_code k) (kind_code l)

abbrev pub field_cmp : Field → Field → Ordering
field_cmp f g = ordering_then (text_cmp f.name g.name) (kind_cmp f.kind g.kind)

-- how a field is told from others
abbrev pub coded_field : Coded Field
coded_field = code_by (List ℕ × ℕ) (coded× (coded_list coded_ℕ) coded_ℕ)
    (λ f. (f.name, kind_code f.kind))
    (λ p. record { name = p.0; kind = coded_kind p.1 })
    (λ f. ap (λ k. record { name = f.name; kind = k }) (coded_back f.kind))

pub kind_cmp_exact : IsAntisymmetric kind_cmp
kind_cmp_exact k l h = sym (coded_back k) ∙ ap coded_kind (exact_unsigned (kind_code k) (kind_code l) h) ∙ coded_back l

pub field_cmp_total : IsTotalOrder field_cmp
field_cmp_total = then_total (on_total (λ (f : Field). f.name) text_cmp_total) (on_total (λ (f : Field). kind_code f.kind) nat_cmp_total)

pub field_cmp_exact : IsAntisymmetric field_cmp
field_cmp_exact f g h = ap (λ (x : List ℕ × Kind). record { name = x.0; kind = x.1 }) (exact_pairs text_cmp kind_cmp text_cmp_exact kind_cmp_exact (f.name, f.kind) (g.name, g.kind) h)

is_eq_then : (r s : Ordering) → is_eq (ordering_then r s) ≡ (is_eq r && is_eq s)
is_eq_then Less s = refl
is_eq_then Equal s = refl
is_eq_then Greater s = refl

-- the tests that tell fields apart are one
pub field_ties : (f g : Field) → same_field f g ≡ eq_by_cmp field_cmp f g
field_ties f g = sym (is_eq_then (text_cmp f.name g.name) (kind_cmp f.kind g.kind) ∙ (λ i. is_eq-slice_cmp f.name g.name i && unsigned_tied (kind_code f.kind) (kind_code g.kind) i))

pub same_field_is : (f g : Field) → same_field f g ≡ true → f ≡ g
same_field_is f g h = field_cmp_exact f g ((Equal-is (field_cmp f g)).0 (sym (field_ties f g) ∙ h))

pub same_field_itself : (f : Field) → same_field f f ≡ true
same_field_itself f = field_ties f f ∙ (eq_by_cmp_equiv field_cmp_total).refl f

pub same_field_symm : (f g : Field) → same_field f g ≡ same_field g f
same_field_symm f g = field_ties f g ∙ (eq_by_cmp_equiv field_cmp_total).symm f g ∙ sym (field_ties g f)

pub same_field_equiv : IsEquivalence same_field
same_field_equiv = subst IsEquivalence (λ i f g. sym (field_ties f g) i) (eq_by_cmp_equiv field_cmp_total)

pub ruleset field_order = (field_cmp_total, field_ties, same_field_equiv)
