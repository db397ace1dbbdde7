-- Acts as a script spells them.
use Rattle.std.specs.Prelude.{ℕ, ℤ, List, [], ◌∷◌, Option, Some, None, option_map, option_and_then, if◌then◌else◌, codes}
use Rattle.std.specs.Str.{bytes_eq}
use Rattle.crdt_core.specs.declared.object.Field.{Field}
use Rattle.crdt_core.specs.declared.operation.Act.{Act}
use Rattle.crdt_core.specs.declared.operation.Act.TheVariants as act
use Rattle.crdt_core.specs.declared.operation.Op.{Op}
use Rattle.script_text.specs.Numbers.{integer}
use Rattle.script_text.specs.Objects.{field, path}
use Rattle.script_text.specs.Texts.{text}

abbrev pub texts : List (List ℕ) → Option (List (List ℕ))
texts [] = Some []
texts (w ∷ ws) = option_and_then (λ t. option_map (λ ts. t ∷ ts) (texts ws)) (text w)

-- one or more texts
abbrev pub some_texts : List (List ℕ) → Option (List (List ℕ))
some_texts [] = None
some_texts (w ∷ ws) = texts (w ∷ ws)

-- the act stands alone
abbrev pub alone : Act → List (List ℕ) → Option Act
alone a [] = Some a
alone a (w ∷ ws) = None

abbrev pub amount : List (List ℕ) → Option ℤ
amount [] = None
amount (w ∷ []) = integer w
amount (w ∷ v ∷ ws) = None

abbrev pub assigned : List (List ℕ) → Option Act
assigned [] = None
assigned (w ∷ []) = option_map act.Assign (text w)
assigned (w ∷ v ∷ ws) = None

abbrev pub dropped : List (List ℕ) → Option Act
dropped [] = None
dropped (n ∷ []) = None
dropped (n ∷ k ∷ []) = option_map act.DropField (field n k)
dropped (n ∷ k ∷ v ∷ ws) = None

-- the acts that keep no text
abbrev pub plain_named : List ℕ → List (List ℕ) → Option Act
plain_named name ws =
    if bytes_eq name (codes "increment") then option_map act.Increment (amount ws) else (
    if bytes_eq name (codes "decrement") then option_map act.Decrement (amount ws) else (
    if bytes_eq name (codes "reset") then alone act.Reset ws else (
    if bytes_eq name (codes "enable") then alone act.Enable ws else (
    if bytes_eq name (codes "disable") then alone act.Disable ws else None))))

abbrev pub act_named : List ℕ → List (List ℕ) → Option Act
act_named name ws =
    if bytes_eq name (codes "add") then option_map act.Add (some_texts ws) else (
    if bytes_eq name (codes "remove") then option_map act.Remove (some_texts ws) else (
    if bytes_eq name (codes "assign") then assigned ws else (
    if bytes_eq name (codes "drop") then dropped ws else plain_named name ws)))

abbrev pub act_of : List (List ℕ) → Option Act
act_of [] = None
act_of (name ∷ ws) = act_named name ws

abbrev pub op_of : List Field → Act → Op
op_of p a = record { path = p; act = a }

-- a path and an act
abbrev pub op : List (List ℕ) → Option Op
op ws = option_and_then (λ p. option_map (λ a. op_of p.0 a) (act_of p.1)) (path ws)
