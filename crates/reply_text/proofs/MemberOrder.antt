-- Members in the order of their kinds' names, and then of their fields' names.
use Rattle.std.proofs.Common.{◌≡◌, ◌≢◌, ℕ, List, ◌∷◌, ◌++◌, refl, sym, ap, ◌∙◌, nat_cmp, Ordering, Less, Equal, Greater}
use Rattle.std.specs.Ordering.{ordering_then}
use Rattle.std.specs.Cmp.Lexicographic.{slice_cmp}
use Rattle.std.specs.Cmp.{nat_cmp_is}
use Rattle.std.specs.FinMap.{nat_cmp-IsAntisymmetric}
use Rattle.crdt_core.specs.declared.kind.Kind.{Kind}
use Rattle.crdt_core.specs.declared.kind.Kind.TheVariants as kind
use Rattle.script_words.specs.Kinds.{kind_name}
use Rattle.reply_text.specs.Members.{kind_place}

by_place : (j k : Kind) (x y : List ℕ) → slice_cmp nat_cmp (kind_name j ++ 58 ∷ x) (kind_name k ++ 58 ∷ y) ≡ ordering_then (nat_cmp (kind_place j) (kind_place k)) (slice_cmp nat_cmp x y)
by_place kind.CounterFat kind.CounterFat x y = refl
by_place kind.CounterPn kind.CounterPn x y = refl
by_place kind.FlagDw kind.FlagDw x y = refl
by_place kind.FlagEw kind.FlagEw x y = refl
by_place kind.MapGo kind.MapGo x y = refl
by_place kind.MapRr kind.MapRr x y = refl
by_place kind.RegisterLww kind.RegisterLww x y = refl
by_place kind.RegisterMv kind.RegisterMv x y = refl
by_place kind.SetAw kind.SetAw x y = refl
by_place kind.SetGo kind.SetGo x y = refl
by_place kind.SetRw kind.SetRw x y = refl
by_place j k x y = refl

then_apart : (o s : Ordering) → (o ≢ Equal) → ordering_then o s ≡ o
then_apart Less s h = refl
then_apart Equal s h = absurd (h refl)
then_apart Greater s h = refl

-- of two members of one kind the fields' names decide
pub one_kind : (j k : Kind) (x y : List ℕ) → kind_place j ≡ kind_place k → slice_cmp nat_cmp (kind_name j ++ 58 ∷ x) (kind_name k ++ 58 ∷ y) ≡ slice_cmp nat_cmp x y
one_kind j k x y h = by_place j k x y ∙ ap (λ o. ordering_then o (slice_cmp nat_cmp x y)) (sym (nat_cmp_is (kind_place j) (kind_place k) Equal h))

-- and else the kinds do
pub two_kinds : (j k : Kind) (x y : List ℕ) → (kind_place j ≢ kind_place k) → slice_cmp nat_cmp (kind_name j ++ 58 ∷ x) (kind_name k ++ 58 ∷ y) ≡ nat_cmp (kind_place j) (kind_place k)
two_kinds j k x y h = by_place j k x y ∙ then_apart (nat_cmp (kind_place j) (kind_place k)) (slice_cmp nat_cmp x y) (λ e. h (nat_cmp-IsAntisymmetric (kind_place j) (kind_place k) e))
