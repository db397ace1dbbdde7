-- Lines that are written one by one.
use Rattle.std.proofs.Common.{add-one, get_or, ◌≡◌, ℕ, ◌+◌, ◌<◌, List, [], ◌∷◌, ◌++◌, length, take, sym, ap, ◌∙◌, append_assoc}
use Rattle.std.specs.Prelude.{Result, Ok, Err, OnErr}
use Rattle.std.specs.List.{flat_map}
use Rattle.std.proofs.Math.Seq.{take-suc, take-append_seam}
use Rattle.std.proofs.lemmas.Grind.{flat_map-append}
use Rattle.std.proofs.lemmas.List.{append-nil}
use Rattle.world_model.specs.declared.step.Step.{Step}

pub line_more : (text : Step → List ℕ) (steps : List Step) (i : ℕ) (s : Step) (old before after : List ℕ) → i < length steps → s ≡ get_or steps i s → before ≡ old ++ flat_map text (take i steps) → after ≡ before ++ text s → after ≡ old ++ flat_map text (take (i + 1) steps)
line_more text steps i s old before after n e h k =
    let taken : take (i + 1) steps ≡ take i steps ++ s ∷ [] = ap (λ m. take m steps) (add-one i) ∙ (take-suc steps i s n ∙ ap (λ y. take i steps ++ y ∷ []) (sym e)) in
    k ∙ (ap (λ l. l ++ text s) h ∙ (append_assoc old (flat_map text (take i steps)) (text s)
    ∙ ap (λ l. old ++ l) (ap (λ l. flat_map text (take i steps) ++ l) (sym (append-nil (text s))) ∙ (sym (flat_map-append text (take i steps) (s ∷ [])) ∙ ap (flat_map text) (sym taken)))))

pub line_begun : (old more after : List ℕ) → after ≡ old ++ more → take (length old) after ≡ old
line_begun old more after h = ap (take (length old)) h ∙ take-append_seam old more

pub on_err : {T X : Type 0} (r : Result T X) (P : Type 0) → P → OnErr r P
on_err (Ok x) P p = tt
on_err (Err e) P p = p
