-- What stands in a part stands in the whole, and so the members of a set in its spelling.
use Rattle.std.proofs.Common.{◌≡◌, ℕ, Bool, true, List, [], ◌∷◌, ◌++◌, length, sym, ap, ◌∙◌, subst, append_assoc, ⊎_elim}
use Rattle.std.proofs.lemmas.List.{append-nil}
use Rattle.std.specs.List.{flat_map, list_any, list_all}
use Rattle.std.proofs.lemmas.Bool.{false≢true, or_cases}
use Rattle.field_codec.specs.Spelling.{number, list}
use Rattle.field_codec.specs.FormLaws.{both_true}
use Rattle.site_vector.specs.declared.ids.Dot.{Dot}
use Rattle.site_vector.specs.Ids.{same_dot}
use Rattle.site_vector.specs.Order.{same_dot_is}
use Rattle.crdt_core.specs.DotSet.{has_dot}
use Rattle.crdt_core.specs.Spelled.{is_dot, dot, are_dots, dots}
use Rattle.crdt_core.specs.NamedDots.{LiesIn}

pub lies_behind : {d : Dot} {bytes : List ℕ} (before : List ℕ) → LiesIn d bytes → LiesIn d (before ++ bytes)
lies_behind {d} before s = record { front = before ++ s.front; back = s.back; whole = ap (λ l. before ++ l) s.whole ∙ sym (append_assoc before s.front (dot d ++ s.back)) }

lies_before : {d : Dot} {bytes : List ℕ} (after : List ℕ) → LiesIn d bytes → LiesIn d (bytes ++ after)
lies_before {d} after s = record {
  front = s.front;
  back = s.back ++ after;
  whole = ap (λ l. l ++ after) s.whole ∙ append_assoc s.front (dot d ++ s.back) after ∙ ap (λ l. s.front ++ l) (append_assoc (dot d) s.back after);
}

lies_itself : (d e : Dot) → same_dot d e ≡ true → LiesIn d (dot e)
lies_itself d e h = subst (λ x. LiesIn d (dot x)) (same_dot_is d e h) (record { front = []; back = []; whole = sym (append-nil (dot d)) })

-- what stands in the spelling of each member that names it stands in that of the list
module _ {A : Type 0} (spelling : A → List ℕ) (fits : A → Bool) (names : A → Dot → Bool) (member : (x : A) (d : Dot) → fits x ≡ true → names x d ≡ true → LiesIn d (spelling x)) where
  members_lie : (xs : List A) (d : Dot) → list_all fits xs ≡ true → list_any (λ x. names x d) xs ≡ true → LiesIn d (flat_map spelling xs)
  members_lie [] d fit h = absurd (false≢true h)
  members_lie (x ∷ xs) d fit h =
      let all = both_true (fits x) (list_all fits xs) fit in
      ⊎_elim (λ here. lies_before (flat_map spelling xs) (member x d all.0 here)) (λ later. lies_behind (spelling x) (members_lie xs d all.1 later)) (or_cases (names x d) (list_any (λ y. names y d) xs) h)

  pub list_lies : (xs : List A) (d : Dot) → list_all fits xs ≡ true → list_any (λ x. names x d) xs ≡ true → LiesIn d (list spelling xs)
  list_lies xs d fit h = lies_behind (number 4 (length xs)) (members_lie xs d fit h)

pub dots_lie : (ds : List Dot) (d : Dot) → are_dots ds ≡ true → has_dot ds d ≡ true → LiesIn d (dots ds)
dots_lie = list_lies dot is_dot (λ e d. same_dot d e) (λ e d fit here. lies_itself d e here)
