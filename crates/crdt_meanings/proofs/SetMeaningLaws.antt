-- The meaning of sets depends on no order.
use Rattle.std.proofs.Common.{◌≡◌, ℕ, Bool, true, false, ◌&&◌, ◌||◌, List, [], ◌∷◌, refl, sym, ap, ◌∙◌}
use Rattle.std.specs.Prelude.{filter}
use Rattle.std.specs.List.{list_any}
use Rattle.std.proofs.lemmas.List.Folds.{list_any-append}
use Rattle.crdt_core.specs.declared.kind.Kind.{Kind}
use Rattle.crdt_core.specs.declared.operation.Act.{Act}
use Rattle.crdt_core.specs.declared.operation.Act.TheVariants as act
use Rattle.crdt_core.specs.declared.value.Value.TheVariants.{Words}
use Rattle.crdt_core.specs.Same.{Same}
use Rattle.crdt_core.specs.Seen.{Update}
use Rattle.crdt_core.proofs.Confluence.{any_same}
use Rattle.crdt_core.specs.Texts.{is_in, same_text, ascending, same_ascending, in_filter}
use Rattle.crdt_core.proofs.WinsLaw.{add_wins_same, remove_wins_same}
use Rattle.crdt_meanings.specs.SetMeaning.{adds, removes, added_by, added, go_meaning, set_meaning}

in_act : (a : Act) (x : List ℕ) → is_in (added_by a) x ≡ adds x a
in_act (act.Add xs) x = refl
in_act _ x = refl

-- an element was added where some update adds it
pub in_added : (us : List Update) (x : List ℕ) → is_in (added us) x ≡ list_any (λ u. adds x u.act) us
in_added [] x = refl
in_added (u ∷ us) x = list_any-append (same_text x) (added_by u.act) (added us) ∙ (λ i. in_act u.act x i || in_added us x i)

pub added_same : (us vs : List Update) → Same us vs → (x : List ℕ) → is_in (added us) x ≡ is_in (added vs) x
added_same us vs s x = in_added us x ∙ any_same (λ u. adds x u.act) us vs s ∙ sym (in_added vs x)

tested_same : (p q : List ℕ → Bool) → ((x : List ℕ) → p x ≡ q x) → (us vs : List Update) → Same us vs → ascending (filter p (added us)) ≡ ascending (filter q (added vs))
tested_same p q is us vs s = same_ascending _ _ (λ x. in_filter p (added us) x ∙ (λ i. added_same us vs s x i && is x i) ∙ sym (in_filter q (added vs) x))

pub go_orderless : (k : Kind) (us vs : List Update) → Same us vs → go_meaning k us ≡ go_meaning k vs
go_orderless k us vs s = ap Words (same_ascending _ _ (added_same us vs s))

pub set_orderless : (w : Bool) (k : Kind) (us vs : List Update) → Same us vs → set_meaning w k us ≡ set_meaning w k vs
set_orderless false k us vs s = ap Words (tested_same _ _ (λ x. add_wins_same (adds x) (removes x) us vs s) us vs s)
set_orderless true k us vs s = ap Words (tested_same _ _ (λ x. remove_wins_same (adds x) (removes x) us vs s) us vs s)
