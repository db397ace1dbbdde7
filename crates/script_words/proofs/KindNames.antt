-- Each kind has one name, and no two have the same.
use Rattle.std.proofs.Common.{◌≡◌, ℕ, Bool, true, false, List, [], ◌∷◌, Some, refl, cond}
use Rattle.std.specs.List.{find}
use Rattle.std.specs.Str.{bytes_eq}
use Rattle.std.proofs.lemmas.Slice.Eq.{bytes_eq-Decides}
use Rattle.crdt_core.specs.declared.kind.Kind.{Kind}
use Rattle.crdt_core.specs.declared.kind.Kind.TheVariants as kind
use Rattle.script_words.specs.Kinds.{kind_name, kind_named, all_kinds}

pub named : (k : Kind) → kind_named (kind_name k) ≡ Some k
named kind.CounterPn = refl
named kind.CounterFat = refl
named kind.SetGo = refl
named kind.SetAw = refl
named kind.SetRw = refl
named kind.FlagEw = refl
named kind.FlagDw = refl
named kind.RegisterLww = refl
named kind.RegisterMv = refl
named kind.MapGo = refl
named kind.MapRr = refl

-- what is found passes
found : {X : Type 0} (p : X → Bool) (xs : List X) (x : X) → find p xs ≡ Some x → p x ≡ true
found p [] x h = cc
found p (y ∷ ys) x h =
    elim (p y) as (λ b. p y ≡ b → cond b (Some y) (find p ys) ≡ Some x → p x ≡ true)
    [ true ↦ λ e h. (cc) | false ↦ λ e h. found p ys x h ] refl h

pub only : (name : List ℕ) (k : Kind) → kind_named name ≡ Some k → name ≡ kind_name k
only name k h = (bytes_eq-Decides name (kind_name k)).0 (found (λ l. bytes_eq name (kind_name l)) all_kinds k h)
