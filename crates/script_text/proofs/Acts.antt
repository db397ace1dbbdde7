-- Acts that keep no text have other names than those that do.
use Rattle.std.proofs.Common.{◌≡◌, ℕ, true, false, List, Some, None, refl, sym, subst, ◌∙◌, codes, if◌then◌else◌, Option}
use Rattle.std.specs.Str.{bytes_eq}
use Rattle.std.proofs.lemmas.Slice.Eq.{bytes_eq-Decides}
use Rattle.std.proofs.lemmas.Option.{none-some}
use Rattle.crdt_core.specs.declared.operation.Act.{Act}
use Rattle.script_text.specs.Acts.{act_named, plain_named}

-- such a name spells no act that keeps a text
abbrev IsApart : List (List ℕ) → List ℕ → Type 0
IsApart ws name = act_named name ws ≡ plain_named name ws

-- where the first test holds, the name is this one; where it doesn't, the others decide
by_name : (name word : List ℕ) (ws : List (List ℕ)) (rest first : Option Act) (a : Act) → IsApart ws word → (rest ≡ Some a → IsApart ws name) → (if bytes_eq name word then first else rest) ≡ Some a → IsApart ws name
by_name name word ws rest first a known others h =
    elim (bytes_eq name word) as (λ b. bytes_eq name word ≡ b → (if b then first else rest) ≡ Some a → IsApart ws name)
    [ true ↦ λ e i. subst (IsApart ws) (sym ((bytes_eq-Decides name word).0 e)) known | false ↦ λ e i. others i ] refl h

apart : (name : List ℕ) (ws : List (List ℕ)) (a : Act) → plain_named name ws ≡ Some a → IsApart ws name
apart name ws a h =
    by_name name (codes "increment") ws _ _ a refl
    (by_name name (codes "decrement") ws _ _ a refl
    (by_name name (codes "reset") ws _ _ a refl
    (by_name name (codes "enable") ws _ _ a refl
    (by_name name (codes "disable") ws None _ a refl (λ n. absurd (none-some a n)))))) h

pub plain_is : (name : List ℕ) (ws : List (List ℕ)) (a : Act) → plain_named name ws ≡ Some a → act_named name ws ≡ Some a
plain_is name ws a h = apart name ws a h ∙ h
