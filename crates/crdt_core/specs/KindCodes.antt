-- The kind that has a code: one inverse of `kind_code`, for forms, orders and tests alike.
use Rattle.std.proofs.Common.{◌≡◌, ℕ, true, refl, sym, ap, ◌∙◌}
use Rattle.std.specs.Prelude.{◌==◌, if◌then◌else◌}
use Rattle.std.proofs.lemmas.Bool.{eqb-true}
use Rattle.crdt_core.specs.declared.kind.Kind.{Kind}
use Rattle.crdt_core.specs.declared.kind.Kind.TheVariants.{CounterPn, CounterFat, SetGo, SetAw, SetRw, FlagEw, FlagDw, RegisterLww, RegisterMv, MapGo, MapRr}
use Rattle.crdt_core.specs.Kinds.{kind_code, same_kind}

-- the kind that has a code from 1 to 11
abbrev pub coded_kind : ℕ → Kind
coded_kind n =
    if n == 1 then CounterPn else if n == 2 then CounterFat else if n == 3 then SetGo else if n == 4 then SetAw else if n == 5 then SetRw else
    if n == 6 then FlagEw else if n == 7 then FlagDw else if n == 8 then RegisterLww else if n == 9 then RegisterMv else if n == 10 then MapGo else MapRr

pub coded_back : (k : Kind) → coded_kind (kind_code k) ≡ k
coded_back CounterPn = refl
coded_back CounterFat = refl
coded_back SetGo = refl
coded_back SetAw = refl
coded_back SetRw = refl
coded_back FlagEw = refl
coded_back FlagDw = refl
coded_back RegisterLww = refl
coded_back RegisterMv = refl
coded_back MapGo = refl
coded_back MapRr = refl

-- kinds of one code are one
pub same_kind_is : (k l : Kind) → same_kind k l ≡ true → k ≡ l
same_kind_is k l h = sym (coded_back k) ∙ ap coded_kind (eqb-true (kind_code k) (kind_code l) h) ∙ coded_back l
