-- A text in which JSON escapes nothing.
use Rattle.std.proofs.Common.{◌≡◌, ℕ, Bool, true, if◌then◌else◌, List, [], ◌∷◌, ◌++◌, codes, refl, sym, ap, ◌∙◌, append_assoc}
use Rattle.crdt_core.specs.declared.kind.Kind.{Kind}
use Rattle.crdt_core.specs.declared.kind.Kind.TheVariants as kind
use Rattle.script_words.specs.Kinds.{kind_name}
use Rattle.json.specs.Print.{quoted}
use Rattle.script_words.specs.Plain.{is_plain, quoted_plain}

pub between_quotes : (old new t : List ℕ) → is_plain t ≡ true → new ≡ old ++ (codes "\"" ++ (t ++ codes "\"")) → new ≡ old ++ quoted t
between_quotes old new t h e = e ∙ ap (λ s. old ++ s) (sym (quoted_plain t h))

item_parts : (old lead t : List ℕ) → ((old ++ (lead ++ 34 ∷ [])) ++ t) ++ 34 ∷ [] ≡ old ++ (lead ++ (34 ∷ (t ++ 34 ∷ [])))
item_parts old lead t = simp append_assoc

-- an item of an array in the parts that the code adds
pub item_plain : (later : Bool) (t old a b new : List ℕ) → is_plain t ≡ true → a ≡ old ++ ((if later then 44 ∷ [] else []) ++ 34 ∷ []) → b ≡ a ++ t → new ≡ b ++ 34 ∷ [] → new ≡ old ++ ((if later then 44 ∷ [] else []) ++ quoted t)
item_plain later t old a b new h is_a is_b is_new =
    let lead : List ℕ = if later then 44 ∷ [] else [] in
    is_new ∙ ap (λ s. s ++ 34 ∷ []) (is_b ∙ ap (λ s. s ++ t) is_a) ∙ item_parts old lead t ∙ ap (λ s. old ++ (lead ++ s)) (sym (quoted_plain t h))

-- the kinds' names and the colon are escaped nowhere
plain_kind : (k : Kind) (w : List ℕ) → is_plain (kind_name k ++ 58 ∷ w) ≡ is_plain w
plain_kind kind.CounterPn w = refl
plain_kind kind.CounterFat w = refl
plain_kind kind.SetGo w = refl
plain_kind kind.SetAw w = refl
plain_kind kind.SetRw w = refl
plain_kind kind.FlagEw w = refl
plain_kind kind.FlagDw w = refl
plain_kind kind.RegisterLww w = refl
plain_kind kind.RegisterMv w = refl
plain_kind kind.MapGo w = refl
plain_kind kind.MapRr w = refl

joined_name : (old n w : List ℕ) → (((((old ++ 34 ∷ []) ++ n) ++ 58 ∷ []) ++ w) ++ 34 ∷ []) ≡ old ++ (34 ∷ ((n ++ 58 ∷ w) ++ 34 ∷ []))
joined_name old n w = simp append_assoc

-- a member's name in the parts that the code adds
pub name_parts : (old a b c d new w : List ℕ) (k : Kind) → is_plain w ≡ true → a ≡ old ++ 34 ∷ [] → b ≡ a ++ kind_name k → c ≡ b ++ 58 ∷ [] → d ≡ c ++ w → new ≡ d ++ 34 ∷ [] → new ≡ old ++ quoted (kind_name k ++ 58 ∷ w)
name_parts old a b c d new w k h is_a is_b is_c is_d is_new =
    is_new ∙ ap (λ s. s ++ 34 ∷ []) (is_d ∙ ap (λ s. s ++ w) (is_c ∙ ap (λ s. s ++ 58 ∷ []) (is_b ∙ ap (λ s. s ++ kind_name k) is_a)))
    ∙ joined_name old (kind_name k) w ∙ ap (λ s. old ++ s) (sym (quoted_plain (kind_name k ++ 58 ∷ w) (plain_kind k w ∙ h)))
