-- The place of a name among entries whose names differ, and what a write there leaves.
use Rattle.std.proofs.Common.{◌≡◌, ℕ, zero, suc, Bool, true, false, cond, List, [], ◌∷◌, slice_get, position, None, Some, refl, sym, ap, ◌∙◌, true≢false, is_some, if◌then◌else◌, rules}
use Rattle.std.specs.Str.{bytes_eq}
use Rattle.std.specs.Cmp.{IsEquivalence}
use Rattle.std.specs.Cmp.Rules.{comparing}
use Rattle.std.specs.List.{IsDistinct}
use Rattle.std.specs.Map.{keys_of, values_of, lookup, set_value}
use Rattle.std.proofs.lemmas.Slice.Eq.{bytes_eq-Decides}
use Rattle.indexmap.specs.Layout.{set_value_at, length-set_value_at}
use Rattle.indexmap.proofs.MapLemmas.{Found-position, Missing-position, index-first, some_index}
use Rattle.indexmap.proofs.RemoveLemmas.{own_first}
use Rattle.cluster.specs.Named.{IsWritten}

names : IsEquivalence bytes_eq
names = search (comparing, rules)

same : (a b : List ℕ) → bytes_eq a b ≡ true → a ≡ b
same a b h = (bytes_eq-Decides a b).0 h

module _ {V : Type 0} (name : List ℕ) where
  -- the entry at the place bears the name, so that is its place
  pub placed : (k : List ℕ) (v : V) (es : List (List ℕ × V)) (i : ℕ) → IsDistinct bytes_eq (keys_of es) → slice_get es i ≡ Some (k, v) → bytes_eq k name ≡ true → Some i ≡ position (bytes_eq name) (keys_of es)
  placed k v es i unique at is =
      sym (index-first (bytes_eq name) es i (own_first bytes_eq names es i name v unique (at ∙ ap (λ n. Some (n, v)) (same k name is))))

  pub found : (es : List (List ℕ × V)) (i : ℕ) (v : V) → Some i ≡ position (bytes_eq name) (keys_of es) → slice_get (values_of es) i ≡ Some v → Some v ≡ lookup (bytes_eq name) es
  found es i v p at = sym at ∙ sym (Found-position (bytes_eq name) es i (sym p)).value

  pub missing : (es : List (List ℕ × V)) → None ≡ position (bytes_eq name) (keys_of es) → None ≡ lookup (bytes_eq name) es
  missing es p = sym (Missing-position (bytes_eq name) es (sym p)).value

  pub is_there : (es : List (List ℕ × V)) → is_some (position (bytes_eq name) (keys_of es)) ≡ is_some (lookup (bytes_eq name) es)
  is_there es = some_index (bytes_eq name) es

  -- the first entry that bears the name stands at the place
  abbrev IsAt : List (List ℕ × V) → ℕ → Type 0
  IsAt [] i = ⊥
  IsAt (e ∷ es) zero = bytes_eq name e.0 ≡ true
  IsAt (e ∷ es) (suc i) = (bytes_eq name e.0 ≡ false) × IsAt es i

  module _ (w : V) where
    set : (es : List (List ℕ × V)) (i : ℕ) → IsAt es i → set_value_at es i w ≡ set_value (bytes_eq name) es w
    set [] i h = refl
    set (e ∷ es) zero h = sym (ap (λ b. cond b ((e.0, w) ∷ es) (e ∷ set_value (bytes_eq name) es w)) h)
    set (e ∷ es) (suc i) h = ap (λ l. e ∷ l) (set es i h.1) ∙ sym (ap (λ b. cond b ((e.0, w) ∷ es) (e ∷ set_value (bytes_eq name) es w)) h.0)

    find : (who : List ℕ) (es : List (List ℕ × V)) (i : ℕ) → IsAt es i → lookup (bytes_eq who) (set_value_at es i w) ≡ (if bytes_eq name who then Some w else lookup (bytes_eq who) es)
    find who [] i h = absurd h
    find who (e ∷ es) zero h =
        let turned : bytes_eq who e.0 ≡ bytes_eq name who = ap (bytes_eq who) (sym (same name e.0 h)) ∙ names.symm who name in
        by (bytes_eq name who) turned
      where
        by : (b : Bool) → bytes_eq who e.0 ≡ b → cond (bytes_eq who e.0) (Some w) (lookup (bytes_eq who) es) ≡ (if b then Some w else cond (bytes_eq who e.0) (Some e.1) (lookup (bytes_eq who) es))
        by true is = ap (λ b. cond b (Some w) (lookup (bytes_eq who) es)) is
        by false is = ap (λ b. cond b (Some w) (lookup (bytes_eq who) es)) is ∙ sym (ap (λ b. cond b (Some e.1) (lookup (bytes_eq who) es)) is)
    find who (e ∷ es) (suc i) h = ap (cond (bytes_eq who e.0) (Some e.1)) (find who es i h.1) ∙ by (bytes_eq name who) refl
      where
        by : (b : Bool) → bytes_eq name who ≡ b → cond (bytes_eq who e.0) (Some e.1) (if b then Some w else lookup (bytes_eq who) es) ≡ (if b then Some w else cond (bytes_eq who e.0) (Some e.1) (lookup (bytes_eq who) es))
        by true is = ap (λ b. cond b (Some e.1) (Some w)) (ap (λ n. bytes_eq n e.0) (sym (same name who is)) ∙ h.0)
        by false is = refl

    pub written : (es : List (List ℕ × V)) (i : ℕ) → Some i ≡ position (bytes_eq name) (keys_of es) → IsWritten es name w (set_value_at es i w)
    written es i p =
        let at = (Found-position (bytes_eq name) es i (sym p)).first in
        (set es i at, length-set_value_at es i w, λ some who. find who es i at)

    none : (es : List (List ℕ × V)) → lookup (bytes_eq name) es ≡ None → set_value (bytes_eq name) es w ≡ es
    none [] h = refl
    none (e ∷ es) h = by (bytes_eq name e.0) h (none es)
      where
        by : (b : Bool) → cond b (Some e.1) (lookup (bytes_eq name) es) ≡ None → (lookup (bytes_eq name) es ≡ None → set_value (bytes_eq name) es w ≡ es) → cond b ((e.0, w) ∷ es) (e ∷ set_value (bytes_eq name) es w) ≡ e ∷ es
        by true some rest = absurd (true≢false (ap is_some some))
        by false h rest = ap (λ l. e ∷ l) (rest h)

    -- a name that no entry bears changes nothing
    pub unwritten : (es : List (List ℕ × V)) → None ≡ position (bytes_eq name) (keys_of es) → IsWritten es name w es
    unwritten es p = (sym (none es (sym (missing es p))), refl, λ some. absurd (true≢false (sym some ∙ sym (ap is_some (missing es p)))))
