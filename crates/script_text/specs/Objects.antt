-- Objects and fields as a script spells them: each reads words from the front, and gives the words that are left.
use Rattle.std.specs.Prelude.{ℕ, ◌==◌, List, [], ◌∷◌, Option, Some, None, option_map, option_and_then, if◌then◌else◌, codes}
use Rattle.std.specs.Str.{bytes_eq}
use Rattle.crdt_core.specs.declared.kind.Kind.{Kind}
use Rattle.crdt_core.specs.declared.object.Field.{Field}
use Rattle.crdt_core.specs.declared.object.ObjectId.{ObjectId}
use Rattle.script_words.specs.Kinds.{kind_named}
use Rattle.script_text.specs.Texts.{text}

abbrev pub at_sign : ℕ
at_sign = 64

abbrev pub field_of : List ℕ → Kind → Field
field_of n k = record { name = n; kind = k }

abbrev pub object_of : List ℕ → Kind → List ℕ → ObjectId
object_of k kind b = record { bucket = b; key = k; kind = kind }

-- a name and a kind
abbrev pub field : List ℕ → List ℕ → Option Field
field n k = option_and_then (λ t. option_map (λ kind. field_of t kind) (kind_named k)) (text n)

-- the bucket, after an at sign, where it stands; the empty text else
abbrev pub bucket : List (List ℕ) → Option (List ℕ × List (List ℕ))
bucket [] = Some ([], [])
bucket ([] ∷ ws) = Some ([], [] ∷ ws)
bucket ((c ∷ w) ∷ ws) = if c == at_sign then option_map (λ t. (t, ws)) (text w) else Some ([], (c ∷ w) ∷ ws)

-- a key, a kind and maybe a bucket
abbrev pub object : List (List ℕ) → Option (ObjectId × List (List ℕ))
object [] = None
object (k ∷ []) = None
object (k ∷ kind ∷ ws) = option_and_then (λ f. option_map (λ b. (object_of f.name f.kind b.0, b.1)) (bucket ws)) (field k kind)

-- any number of fields, each after `in`
abbrev pub path : List (List ℕ) → Option (List Field × List (List ℕ))
path (w ∷ n ∷ k ∷ ws) = if bytes_eq w (codes "in") then option_and_then (λ f. option_map (λ p. (f ∷ p.0, p.1)) (path ws)) (field n k) else Some ([], w ∷ n ∷ k ∷ ws)
path ws = Some ([], ws)
