-- How deep a path leads.
use Rattle.std.proofs.Common.{◌≡◌, ◌≤◌, ℕ, Bool, true, false, ◌&&◌, List, [], ◌∷◌, length, take, refl, ap, ◌∙◌, sym, arith}
use Rattle.std.specs.Prelude.{map, nat_lt, nat_le}
use Rattle.std.specs.List.{list_all}
use Rattle.std.proofs.lemmas.Bool.{leb-true}
use Rattle.std.proofs.lemmas.Bool.Decides.{nat_tests}
use Rattle.field_codec.specs.FormLaws.{both_true, lt_holds}
use Rattle.crdt_core.specs.declared.kind.Kind.{Kind}
use Rattle.crdt_core.specs.declared.kind.Kind.TheVariants as kind
use Rattle.crdt_core.specs.declared.object.Field.{Field}
use Rattle.crdt_core.specs.declared.operation.Act.{Act}
use Rattle.crdt_core.specs.Fits.{fits, leads_to, is_map}
use Rattle.crdt_any.specs.Layer.{layer_has, layer_too_deep}

-- it has more than this many fields, and the object and the first of these are maps
abbrev pub leads_past : ℕ → Kind → List Field → Bool
leads_past n k p = nat_lt n (length p) && list_all is_map (k ∷ map (λ f. f.kind) (take n p))

-- a layer over one that lets paths lead so deep lets them lead one field deeper
module _ (deep : Kind → List Field → Bool) where
  outermost : (k : Kind) → layer_too_deep layer_has deep k [] ≡ false
  outermost kind.MapGo = refl
  outermost kind.MapRr = refl
  outermost k = refl

  deeper : (k : Kind) (f : Field) (p : List Field) → layer_too_deep layer_has deep k (f ∷ p) ≡ (is_map k && deep f.kind p)
  deeper kind.MapGo f p = refl
  deeper kind.MapRr f p = refl
  deeper k f p = refl

abbrev innermost : Kind → List Field → Bool
innermost k p = layer_too_deep (λ k. false) (λ k p. false) k p

alone : (k : Kind) → innermost k [] ≡ false
alone kind.MapGo = refl
alone kind.MapRr = refl
alone k = refl

within : (k : Kind) (f : Field) (p : List Field) → innermost k (f ∷ p) ≡ is_map k
within kind.MapGo f p = refl
within kind.MapRr f p = refl
within k f p = refl

and_false : (b : Bool) → (b && false) ≡ false
and_false true = refl
and_false false = refl

and_one : (b : Bool) → (b && true) ≡ b
and_one true = refl
and_one false = refl

abbrev four : Kind → List Field → Bool
four k p = layer_too_deep layer_has (layer_too_deep layer_has (layer_too_deep layer_has innermost)) k p

pub four_deep : (k : Kind) (p : List Field) → four k p ≡ leads_past 3 k p
four_deep k [] = outermost _ k
four_deep k (f ∷ []) = deeper _ k f [] ∙ ap (λ b. is_map k && b) (outermost _ f.kind) ∙ and_false (is_map k)
four_deep k (f ∷ g ∷ []) =
    deeper _ k f (g ∷ []) ∙ ap (λ b. is_map k && b) (deeper _ f.kind g [] ∙ ap (λ b. is_map f.kind && b) (outermost _ g.kind) ∙ and_false (is_map f.kind)) ∙ and_false (is_map k)
four_deep k (f ∷ g ∷ h ∷ []) =
    deeper _ k f (g ∷ h ∷ [])
    ∙ ap (λ b. is_map k && b) (deeper _ f.kind g (h ∷ []) ∙ ap (λ b. is_map f.kind && b) (deeper innermost g.kind h [] ∙ ap (λ b. is_map g.kind && b) (alone h.kind) ∙ and_false (is_map g.kind)) ∙ and_false (is_map f.kind))
    ∙ and_false (is_map k)
four_deep k (f ∷ g ∷ h ∷ i ∷ p) =
    deeper _ k f (g ∷ h ∷ i ∷ p)
    ∙ ap (λ b. is_map k && b) (deeper _ f.kind g (h ∷ i ∷ p) ∙ ap (λ b. is_map f.kind && b) (deeper innermost g.kind h (i ∷ p) ∙ ap (λ b. is_map g.kind && b) (within h.kind i p ∙ sym (and_one (is_map h.kind)))))
    ∙ sym (ap (λ b. b && (is_map k && (is_map f.kind && (is_map g.kind && (is_map h.kind && true))))) (lt_holds 3 (length (f ∷ g ∷ h ∷ i ∷ p)) (omega arith)))

not_past : (n : ℕ) (b : Bool) → n ≤ 3 → (nat_lt 3 n && b) ≡ false
not_past n b le = let no_more : nat_lt 3 n ≡ false = grind (arith, nat_tests) in ap (λ x. x && b) no_more

-- so no operation of a kind leads too deep
pub fits_four : (k : Kind) (p : List Field) (a : Act) → fits k p a ≡ true → four k p ≡ false
fits_four k p a h =
    let few = leb-true (length p) 3 (both_true (nat_le (length p) 3) (leads_to k p a) h).0 in
    four_deep k p ∙ not_past (length p) (list_all is_map (k ∷ map (λ f. f.kind) (take 3 p))) few
