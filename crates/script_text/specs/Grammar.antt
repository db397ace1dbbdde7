-- Commands as a script spells them: a name, and the words after it.
use Rattle.std.specs.Prelude.{ℕ, List, [], ◌∷◌, Option, Some, None, option_map, option_and_then, if◌then◌else◌, codes}
use Rattle.std.specs.Str.{bytes_eq}
use Rattle.site_vector.specs.declared.ids.PartId.{PartId}
use Rattle.world_model.specs.declared.command.Mode.{Mode}
use Rattle.world_model.specs.declared.command.Mode.TheVariants.{Fresh, Stable}
use Rattle.world_model.specs.declared.command.Command.{Command}
use Rattle.world_model.specs.declared.command.Command.TheVariants as command
use Rattle.script_text.specs.Numbers.{ranged}
use Rattle.script_text.specs.Places.{number, time, site, part, tx, numbered, below_2_48}
use Rattle.script_text.specs.Texts.{text}
use Rattle.script_text.specs.Objects.{object}
use Rattle.script_text.specs.Acts.{op}

abbrev pub message : List ℕ → Option ℕ
message w = numbered 109 w

abbrev pub report : List ℕ → Option ℕ
report w = numbered 103 w

-- one word, or two, and no more
abbrev pub one : List (List ℕ) → Option (List ℕ)
one [] = None
one (a ∷ []) = Some a
one (a ∷ b ∷ ws) = None

abbrev pub two : List (List ℕ) → Option (List ℕ × List ℕ)
two [] = None
two (a ∷ []) = None
two (a ∷ b ∷ []) = Some (a, b)
two (a ∷ b ∷ c ∷ ws) = None

abbrev pub with_one : (List ℕ → Option Command) → List (List ℕ) → Option Command
with_one f ws = option_and_then f (one ws)

abbrev pub with_two : (List ℕ → List ℕ → Option Command) → List (List ℕ) → Option Command
with_two f ws = option_and_then (λ w. f w.0 w.1) (two ws)

abbrev pub cluster : List ℕ → List ℕ → Option Command
cluster d n = option_and_then (λ d. option_map (λ n. command.Cluster d n) (ranged 1 16 n)) (site d)

abbrev pub clock : List ℕ → List ℕ → Option Command
clock p n = option_and_then (λ p. option_map (λ n. command.Clock p n) (number n)) (part p)

abbrev pub session : List ℕ → List ℕ → Option Command
session s d = option_and_then (λ s. option_map (λ d. command.Session s d) (site d)) (text s)

abbrev pub moved : List ℕ → List ℕ → Option Command
moved s d = option_and_then (λ s. option_map (λ d. command.Move s d) (site d)) (text s)

abbrev pub lose : List ℕ → Option Command
lose s = option_map command.Lose (text s)

-- what may be left out: no word, or one
abbrev pub maybe : {A : Type 0} → (List ℕ → Option A) → List (List ℕ) → Option (Option A)
maybe f [] = Some None
maybe f (w ∷ []) = option_map Some (f w)
maybe f (w ∷ v ∷ ws) = None

-- a count of steps, at least 1
abbrev pub steps : List ℕ → Option ℕ
steps w = ranged 1 below_2_48 w

-- where a transaction begins and how: a place, then `stable`, of which either may be left out
abbrev pub begins : List (List ℕ) → Option (Option PartId × Mode)
begins [] = Some (None, Fresh)
begins (w ∷ []) = if bytes_eq w (codes "stable") then Some (None, Stable) else option_map (λ p. (Some p, Fresh)) (part w)
begins (w ∷ v ∷ []) = if bytes_eq v (codes "stable") then option_map (λ p. (Some p, Stable)) (part w) else None
begins (w ∷ v ∷ u ∷ ws) = None

abbrev pub begin : List (List ℕ) → Option Command
begin [] = None
begin (s ∷ ws) = option_and_then (λ s. option_map (λ b. command.Begin s b.0 b.1) (begins ws)) (text s)

-- what stands alone, with no word after it
abbrev pub whole : {A : Type 0} → A → List (List ℕ) → Option A
whole a [] = Some a
whole a (w ∷ ws) = None

abbrev pub read : List (List ℕ) → Option Command
read [] = None
read (s ∷ ws) = option_and_then (λ s. option_and_then (λ o. option_map (λ o. command.Read s o) (whole o.0 o.1)) (object ws)) (text s)

abbrev pub update : List (List ℕ) → Option Command
update [] = None
update (s ∷ ws) = option_and_then (λ s. option_and_then (λ o. option_map (λ op. command.Update s o.0 op) (op o.1)) (object ws)) (text s)

abbrev pub commit : List (List ℕ) → Option Command
commit [] = None
commit (s ∷ ws) = option_and_then (λ s. option_map (λ k. command.Commit s k) (maybe steps ws)) (text s)

abbrev pub abort : List ℕ → Option Command
abort s = option_map command.Abort (text s)

abbrev pub expire : List ℕ → List ℕ → Option Command
expire p t = option_and_then (λ p. option_map (λ t. command.Expire p t) (tx t)) (part p)

abbrev pub settle : List ℕ → Option Command
settle p = option_map command.Settle (part p)

abbrev pub send : List (List ℕ) → Option Command
send [] = None
send (p ∷ []) = None
send (p ∷ d ∷ ws) = option_and_then (λ p. option_and_then (λ d. option_map (λ n. command.Send p d n) (maybe time ws)) (site d)) (part p)

abbrev pub deliver : List ℕ → Option Command
deliver m = option_map command.Deliver (message m)

-- a message or a report
abbrev pub drop : List ℕ → Option Command
drop [] = None
drop (c ∷ w) = if bytes_eq (c ∷ []) (codes "m") then option_map command.DropMessage (number w) else option_map command.DropReport (report (c ∷ w))

abbrev pub reported : List ℕ → Option Command
reported p = option_map command.Report (part p)

abbrev pub hear : List ℕ → List ℕ → Option Command
hear g p = option_and_then (λ g. option_map (λ p. command.Hear g p) (part p)) (report g)

abbrev pub crash : List ℕ → Option Command
crash p = option_map command.Crash (part p)

abbrev pub fuse : List (List ℕ) → Option Command
fuse [] = None
fuse (p ∷ ws) = option_and_then (λ w. option_and_then (λ p. option_and_then (λ k. option_map (λ n. command.Fuse p k n) (number w.1)) (steps w.0)) (part p)) (two ws)

abbrev pub restart : List ℕ → Option Command
restart p = option_map command.Restart (part p)

-- the command of this name, with the words after it: those without a text, and all
abbrev pub plain_named : List ℕ → List (List ℕ) → Option Command
plain_named name ws =
    if bytes_eq name (codes "cluster") then with_two cluster ws else (
    if bytes_eq name (codes "clock") then with_two clock ws else (
    if bytes_eq name (codes "expire") then with_two expire ws else (
    if bytes_eq name (codes "hear") then with_two hear ws else (
    if bytes_eq name (codes "settle") then with_one settle ws else (
    if bytes_eq name (codes "report") then with_one reported ws else (
    if bytes_eq name (codes "crash") then with_one crash ws else (
    if bytes_eq name (codes "restart") then with_one restart ws else (
    if bytes_eq name (codes "deliver") then with_one deliver ws else (
    if bytes_eq name (codes "drop") then with_one drop ws else (
    if bytes_eq name (codes "send") then send ws else (
    if bytes_eq name (codes "fuse") then fuse ws else (
    None))))))))))))

abbrev pub command_named : List ℕ → List (List ℕ) → Option Command
command_named name ws =
    if bytes_eq name (codes "session") then with_two session ws else (
    if bytes_eq name (codes "move") then with_two moved ws else (
    if bytes_eq name (codes "lose") then with_one lose ws else (
    if bytes_eq name (codes "abort") then with_one abort ws else (
    if bytes_eq name (codes "begin") then begin ws else (
    if bytes_eq name (codes "commit") then commit ws else (
    if bytes_eq name (codes "read") then read ws else (
    if bytes_eq name (codes "update") then update ws else (
    plain_named name ws))))))))
