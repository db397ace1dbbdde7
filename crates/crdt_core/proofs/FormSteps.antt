-- What the code that puts and takes updates owes to their forms.
use Rattle.std.proofs.Common.{◌≡◌, ℕ, true, List, length, None, Result, Ok, Err, IfOk, refl, subst, arith}
use Rattle.std.specs.List.{list_all}
use Rattle.field_codec.specs.declared.error.TakeError.{TakeError}
use Rattle.field_codec.specs.declared.error.TakeError.TheVariants.{Short, Bad, NoMemory}
use Rattle.field_codec.specs.Spelling.{is_number, is_below, are_in_order, are_members}
use Rattle.field_codec.specs.Reading.{Gives}
use Rattle.field_codec.specs.Lawful.{IsBytes}
use Rattle.field_codec.specs.FormLaws.{both_true, and_true, sorted_from_order, order_from_sorted}
use Rattle.field_codec.specs.Steps.{by_length, not_both}
use Rattle.site_vector.specs.declared.ids.Dot.{Dot}
use Rattle.site_vector.specs.Order.{dot_cmp, dot_cmp_total}
use Rattle.crdt_core.specs.DotSet.{IsAscending}
use Rattle.crdt_core.specs.Spelled.{is_dot, are_dots, ascend, dots_at}
use Rattle.crdt_core.specs.SpelledLaws.{are_ascending, dots_form}

pub gives_same : {A : Type 0} (r s : Result A TakeError) → r ≡ s → Gives r s
gives_same {A} r s e = subst (λ t. Gives r t) e (itself r)
  where
    itself : (r : Result A TakeError) → Gives r r
    itself (Ok x) = refl
    itself (Err (Short at)) = refl
    itself (Err (Bad at)) = refl
    itself (Err NoMemory) = tt

pub dots_fit : (ds : List Dot) → are_dots ds ≡ true → IsAscending ds → are_ascending ds ≡ true
dots_fit ds h up = and_true (ascend ds) (are_dots ds) (order_from_sorted dot_cmp_total ds up) h

-- what is read as a list of updates ascends
pub dots_ascend : (bytes : List ℕ) (at : ℕ) (r : Result (List Dot × ℕ) TakeError) → IsBytes bytes → Gives r (dots_at bytes at) → IfOk r (λ x. IsAscending x.0)
dots_ascend bytes at (Ok x) ok h = by_length at (length bytes)
    (λ within.
    let good = (dots_form.found bytes at x.0 x.1 ok within h).0 in
    let members = (both_true (is_number 4 (length x.0)) (are_members (is_below dot_cmp) is_dot x.0) good).1 in
    sorted_from_order dot_cmp_total x.0 (both_true (are_in_order (is_below dot_cmp) None x.0) (list_all is_dot x.0) members).0)
    (λ far. absurd (not_both (dots_at bytes at) x (Short at) h (dots_form.ends bytes at (omega (arith, far)))))
dots_ascend bytes at (Err e) ok h = tt
