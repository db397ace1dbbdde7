-- Lists of texts and of fields, read one after another.
use Rattle.std.proofs.Common.{◌≡◌, ℕ, List, [], ◌∷◌, ◌++◌, Option, Some, None, refl, sym, ap, ◌∙◌, append_assoc}
use Rattle.std.specs.Prelude.{option_map, option_and_then}
use Rattle.std.proofs.lemmas.List.{append-nil}
use Rattle.crdt_core.specs.declared.object.Field.{Field}
use Rattle.script_text.specs.Acts.{texts}
use Rattle.script_text.specs.Objects.{field, path}
use Rattle.script_text.specs.Texts.{text}

none_before : (x : Option (List (List ℕ))) → x ≡ option_map (λ ts. [] ++ ts) x
none_before None = refl
none_before (Some ts) = refl

pub texts_start : (ws : List (List ℕ)) → texts ws ≡ option_map (λ ts. [] ++ ts) (texts ws)
texts_start ws = none_before (texts ws)

-- the texts before, with one more of them
one_after : (before : List (List ℕ)) (t : List ℕ) (x : Option (List (List ℕ))) → option_map (λ ts. before ++ ts) (option_map (λ ts. t ∷ ts) x) ≡ option_map (λ ts. (before ++ t ∷ []) ++ ts) x
one_after before t None = refl
one_after before t (Some ts) = ap (λ s. Some s) (sym (append_assoc before (t ∷ []) ts))

pub texts_more : (before : List (List ℕ)) (t w : List ℕ) (all rest ws : List (List ℕ)) → texts all ≡ option_map (λ ts. before ++ ts) (texts rest) → rest ≡ w ∷ ws → text w ≡ Some t → texts all ≡ option_map (λ ts. (before ++ t ∷ []) ++ ts) (texts ws)
texts_more before t w all rest ws e front is =
    e ∙ ap (λ r. option_map (λ ts. before ++ ts) (texts r)) front ∙ ap (λ x. option_map (λ ts. before ++ ts) (option_and_then (λ t. option_map (λ ts. t ∷ ts) (texts ws)) x)) is ∙ one_after before t (texts ws)

pub texts_end : (before all rest : List (List ℕ)) → texts all ≡ option_map (λ ts. before ++ ts) (texts rest) → rest ≡ [] → texts all ≡ Some before
texts_end before all rest e done = e ∙ ap (λ r. option_map (λ ts. before ++ ts) (texts r)) done ∙ ap (λ s. Some s) (append-nil before)

pub texts_bad : (before : List (List ℕ)) (w : List ℕ) (all rest ws : List (List ℕ)) → texts all ≡ option_map (λ ts. before ++ ts) (texts rest) → rest ≡ w ∷ ws → text w ≡ None → texts all ≡ None
texts_bad before w all rest ws e front is =
    e ∙ ap (λ r. option_map (λ ts. before ++ ts) (texts r)) front ∙ ap (λ x. option_map (λ ts. before ++ ts) (option_and_then (λ t. option_map (λ ts. t ∷ ts) (texts ws)) x)) is

abbrev pub Path : Type 0
Path = List Field × List (List ℕ)

no_field_before : (x : Option Path) → x ≡ option_map (λ p. ([] ++ p.0, p.1)) x
no_field_before None = refl
no_field_before (Some p) = refl

pub path_start : (ws : List (List ℕ)) → path ws ≡ option_map (λ p. ([] ++ p.0, p.1)) (path ws)
path_start ws = no_field_before (path ws)

abbrev pub onto : List Field → Path → Path
onto before p = (before ++ p.0, p.1)

abbrev pub onto_first : Field → Path → Path
onto_first f p = (f ∷ p.0, p.1)

field_after : (before : List Field) (f : Field) (x : Option Path) → option_map (onto before) (option_map (onto_first f) x) ≡ option_map (onto (before ++ f ∷ [])) x
field_after before f None = refl
field_after before f (Some p) = ap (λ s. Some (s, p.1)) (sym (append_assoc before (f ∷ []) p.0))

pub path_more : (before : List Field) (f : Field) (n k : List ℕ) (all rest ws : List (List ℕ)) → path all ≡ option_map (onto before) (path rest)
    → path rest ≡ option_and_then (λ g. option_map (onto_first g) (path ws)) (field n k) → field n k ≡ Some f → path all ≡ option_map (onto (before ++ f ∷ [])) (path ws)
path_more before f n k all rest ws e front is =
    e ∙ ap (option_map (onto before)) (front ∙ ap (option_and_then (λ g. option_map (onto_first g) (path ws))) is) ∙ field_after before f (path ws)

pub path_end : (before : List Field) (all rest : List (List ℕ)) → path all ≡ option_map (onto before) (path rest) → path rest ≡ Some ([], rest) → path all ≡ Some (before, rest)
path_end before all rest e done = e ∙ ap (option_map (onto before)) done ∙ ap (λ (s : List Field). Some (s, rest)) (append-nil before)

pub path_bad : (before : List Field) (n k : List ℕ) (all rest ws : List (List ℕ)) → path all ≡ option_map (onto before) (path rest)
    → path rest ≡ option_and_then (λ g. option_map (onto_first g) (path ws)) (field n k) → field n k ≡ None → path all ≡ None
path_bad before n k all rest ws e front is = e ∙ ap (option_map (onto before)) (front ∙ ap (option_and_then (λ g. option_map (onto_first g) (path ws))) is)
