-- What lines read as.
use Rattle.std.proofs.Common.{◌≡◌, ℕ, ◌+◌, ◌*◌, ◌-◌, ◌<◌, ◌≤◌, Bool, true, false, ◌&&◌, ◌||◌, ◌==◌, nat_lt, List, [], ◌∷◌, ◌++◌, length, take, Option, Some, None, option_map, option_and_then, codes, refl, ap, sym, ◌∙◌, inl, inr, arith, length-take}
use Rattle.std.specs.Prelude.{nat_le, if◌then◌else◌, ◌^◌, Result, Ok, Err, OnOk}
use Rattle.std.specs.Io.BufRead.{strip_last, ends_with_byte}
use Rattle.std.specs.List.{list_all, list_any}
use Rattle.std.specs.Char.{is_ascii_digit}
use Rattle.std.specs.Str.{bytes_eq, is_utf8}
use Rattle.std.proofs.lemmas.Str.{is_utf8-from_IsUtf8, IsUtf8-from_is_utf8}
use Rattle.std.proofs.lemmas.Bool.{and_parts, and_from, cases_Bool, ltb-true, ltb-false}
use Rattle.std.proofs.lemmas.Bool.Decides.{nat_tests}
use Rattle.std.proofs.lemmas.List.{take_all}
use Rattle.std.proofs.lemmas.List.Folds.{list_any-append}
use Rattle.world_model.specs.declared.command.Command.{Command}
use Rattle.world_model.specs.declared.command.Command.TheVariants as command
use Rattle.script_text.specs.declared.Parsed.{Parsed}
use Rattle.script_text.specs.declared.Parsed.TheVariants as parsed
use Rattle.script_text.specs.Line.{Reads, line_as, hash}
use Rattle.script_text.specs.Split.{words}
use Rattle.script_text.specs.Numbers.{numeral, digits_of, value_of, ranged}
use Rattle.script_text.specs.Objects.{object}
use Rattle.script_text.specs.Acts.{op}
use Rattle.script_text.specs.Texts.{text}
use Rattle.script_text.specs.Places as places
use Rattle.script_text.specs.Grammar as grammar
use Rattle.dc_engine.specs.declared.framing.Framing.{Framing}
use Rattle.dc_engine.specs.declared.framing.Framing.TheVariants as framing
use Rattle.dc_engine.specs.Reading.{reading_of, asked_of, asked_as, is_unreadable, has_bad, AsksSaid}
use Rattle.dc_engine.specs.ObjectKinds.{kinds, shallow}
use Rattle.crdt_core.specs.Log.{end_of_time}
use Rattle.cluster.specs.Built.{IsSaid}

-- what holds where the call went well, by what else does
pub whenever_done : {X P Q : Type 0} (r : Result Unit X) → (P → Q) → OnOk r P → OnOk r Q
whenever_done (Ok x) f p = f p
whenever_done (Err x) f p = tt

-- what was read
pub read_ok : (line : List ℕ) (p : Parsed) → Reads line p → Some p ≡ reading_of line
read_ok line p r =
    let short : nat_le (length line) 4096 ≡ true = grind (arith, nat_tests, r.is_line.short) in
    sym (ap (λ b. if b then line_as (words line) else None) (and_from _ _ short (is_utf8-from_IsUtf8 line r.is_line.utf8)) ∙ r.is)

-- what couldn't be read
pub read_bad : (line : List ℕ) → ((p : Parsed) → ¬ (Reads line p)) → None ≡ reading_of line
read_bad line h =
    let test = nat_le (length line) 4096 && is_utf8 line in
    elim test as (λ b. test ≡ b → None ≡ (if b then line_as (words line) else None)) [
      | true ↦ λ e.
          let two = and_parts (nat_le (length line) 4096) (is_utf8 line) e in
          elim (line_as (words line)) as (λ o. line_as (words line) ≡ o → None ≡ o) [
            | None ↦ λ k. refl
            | Some p ↦ λ k. absurd (h p (record { is_line = record { short = grind (arith, nat_tests, two.0); utf8 = IsUtf8-from_is_utf8 line two.1 }; is = k }))
          ] refl
      | false ↦ λ e. refl
    ] refl

-- a line of more than 4,098 bytes is as its first 4,099
long : (line : List ℕ) → 4097 < length line → asked_of framing.Lines line ≡ asked_as None
long line h =
    let text = strip_last 13 line in
    let many : 4096 < length text = elim (ends_with_byte 13 line) as (λ b. 4096 < length (if b then take (length line - 1) line else line)) [ true ↦ omega (arith, length-take (length line - 1) line) | false ↦ omega arith ] in
    let not_short : nat_le (length text) 4096 ≡ false = grind (arith, nat_tests, many) in
    ap (λ b. asked_as (if b && is_utf8 text then line_as (words text) else None)) not_short

-- a body of more than 4,096 bytes isn't read
long_body : (body : List ℕ) → 4096 < length body → reading_of body ≡ None
long_body body h =
    let not_short : nat_le (length body) 4096 ≡ false = grind (arith, nat_tests, h) in
    ap (λ b. if b && is_utf8 body then line_as (words body) else None) not_short

-- nor a frame of more than 4,098
long_frame : (frame : List ℕ) → 4098 < length frame → asked_of framing.Frames frame ≡ asked_as None
long_frame [] h = absurd (omega arith)
long_frame (high ∷ []) h = absurd (omega arith)
long_frame (high ∷ low ∷ body) h = elim (length body == high * 256 + low) as (λ b. asked_as (option_and_then reading_of (if b then Some body else None)) ≡ asked_as None) [
  | true ↦ ap asked_as (long_body body (omega arith))
  | false ↦ refl
]

pub asked_of-take : (f : Framing) (whole : List ℕ) → asked_of f (take 4099 whole) ≡ asked_of f whole
asked_of-take f whole =
    elim (cases_Bool (nat_lt 4099 (length whole))) [
      | inl far ↦ let more = ltb-true 4099 (length whole) far in by_framing f (omega arith)
      | inr near ↦ ap (asked_of f) (take_all 4099 whole (ltb-false 4099 (length whole) near))
    ]
  where
    by_framing : (f : Framing) → 4099 < length whole → asked_of f (take 4099 whole) ≡ asked_of f whole
    by_framing framing.Lines more = long (take 4099 whole) (omega (arith, length-take 4099 whole)) ∙ sym (long whole (omega arith))
    by_framing framing.Frames more = long_frame (take 4099 whole) (omega (arith, length-take 4099 whole)) ∙ sym (long_frame whole (omega arith))

-- what the grammar gives is what a cluster takes
abbrev Said : Command → Type 0
Said c = IsSaid kinds.has kinds.too_deep c

abbrev IsAsked : Option Command → Type 0
IsAsked None = Unit {0}
IsAsked (Some c) = Said c

choice : (b : Bool) (x y : Option Command) → IsAsked x → IsAsked y → IsAsked (if b then x else y)
choice true x y f g = f
choice false x y f g = g

mapped : {A : Type 0} (f : A → Command) (o : Option A) → ((a : A) → Said (f a)) → IsAsked (option_map f o)
mapped f None h = tt
mapped f (Some a) h = h a

chained : {A : Type 0} (f : A → Option Command) (o : Option A) → ((a : A) → IsAsked (f a)) → IsAsked (option_and_then f o)
chained f None h = tt
chained f (Some a) h = h a

-- a number that a word spells is in its range
abbrev IsIn : ℕ → ℕ → Option ℕ → Type 0
IsIn lo hi None = Unit {0}
IsIn lo hi (Some n) = (lo ≤ n) × (n ≤ hi)

digits_in : (top : ℕ) (w : List ℕ) → IsIn 0 top (digits_of top w)
digits_in top w =
    let test = list_all is_ascii_digit w && nat_le (value_of w) top in
    elim test as (λ b. test ≡ b → IsIn 0 top (if b then Some (value_of w) else None)) [
      | true ↦ λ e. let two = and_parts (list_all is_ascii_digit w) (nat_le (value_of w) top) e in (omega arith, grind (arith, nat_tests, two.1))
      | false ↦ λ e. tt
    ] refl

numeral_in : (top : ℕ) (w : List ℕ) → IsIn 0 top (numeral top w)
numeral_in top [] = tt
numeral_in top (c ∷ []) = digits_in top (c ∷ [])
numeral_in top (c ∷ d ∷ w) = elim (c == 48) as (λ b. IsIn 0 top (if b then None else digits_of top (c ∷ d ∷ w))) [ true ↦ tt | false ↦ digits_in top (c ∷ d ∷ w) ]

from_in : (lo hi : ℕ) (o : Option ℕ) → IsIn 0 hi o → IsIn lo hi (option_and_then (λ n. if nat_le lo n then Some n else None) o)
from_in lo hi None h = tt
from_in lo hi (Some n) h =
    elim (nat_le lo n) as (λ b. nat_le lo n ≡ b → IsIn lo hi (if b then Some n else None)) [ true ↦ λ e. (grind (arith, nat_tests, e), h.1) | false ↦ λ e. tt ] refl

ranged_in : (lo hi : ℕ) (w : List ℕ) → IsIn lo hi (ranged lo hi w)
ranged_in lo hi w = from_in lo hi (numeral hi w) (numeral_in hi w)

mapped_in : (lo hi : ℕ) (f : ℕ → Command) (o : Option ℕ) → IsIn lo hi o → ((n : ℕ) → lo ≤ n → n ≤ hi → Said (f n)) → IsAsked (option_map f o)
mapped_in lo hi f None i h = tt
mapped_in lo hi f (Some n) i h = h n i.0 i.1

chained_in : (lo hi : ℕ) (f : ℕ → Option Command) (o : Option ℕ) → IsIn lo hi o → ((n : ℕ) → lo ≤ n → n ≤ hi → IsAsked (f n)) → IsAsked (option_and_then f o)
chained_in lo hi f None i h = tt
chained_in lo hi f (Some n) i h = h n i.0 i.1

one_said : (f : List ℕ → Option Command) → ((w : List ℕ) → IsAsked (f w)) → (ws : List (List ℕ)) → IsAsked (grammar.with_one f ws)
one_said f h ws = chained f (grammar.one ws) h

two_said : (f : List ℕ → List ℕ → Option Command) → ((v w : List ℕ) → IsAsked (f v w)) → (ws : List (List ℕ)) → IsAsked (grammar.with_two f ws)
two_said f h ws = chained (λ w. f w.0 w.1) (grammar.two ws) (λ w. h w.0 w.1)

cluster_said : (d n : List ℕ) → IsAsked (grammar.cluster d n)
cluster_said d n =
    chained_in 1 8 (λ d. option_map (λ n. command.Cluster d n) (ranged 1 16 n)) (places.site d) (ranged_in 1 8 d)
    (λ d some last. mapped_in 1 16 (λ n. command.Cluster d n) (ranged 1 16 n) (ranged_in 1 16 n) (λ n least most. (some, last, least, most)))

clock_said : (p n : List ℕ) → IsAsked (grammar.clock p n)
clock_said p n =
    chained (λ p. option_map (λ n. command.Clock p n) (places.number n)) (places.part p)
    (λ p. mapped_in 0 places.below_2_48 (λ n. command.Clock p n) (places.number n) (numeral_in places.below_2_48 n) (λ n least most. let top : places.below_2_48 ≡ 2 ^ 48 - 1 = refl in let end : end_of_time ≡ 2 ^ 62 = refl in omega (arith, most)))

session_said : (s d : List ℕ) → IsAsked (grammar.session s d)
session_said s d = chained (λ s. option_map (λ d. command.Session s d) (places.site d)) (text s) (λ s. mapped (λ d. command.Session s d) (places.site d) (λ d. tt))

move_said : (s d : List ℕ) → IsAsked (grammar.moved s d)
move_said s d = chained (λ s. option_map (λ d. command.Move s d) (places.site d)) (text s) (λ s. mapped (λ d. command.Move s d) (places.site d) (λ d. tt))

expire_said : (p t : List ℕ) → IsAsked (grammar.expire p t)
expire_said p t = chained (λ p. option_map (λ t. command.Expire p t) (places.tx t)) (places.part p) (λ p. mapped (λ t. command.Expire p t) (places.tx t) (λ t. tt))

hear_said : (g p : List ℕ) → IsAsked (grammar.hear g p)
hear_said g p = chained (λ g. option_map (λ p. command.Hear g p) (places.part p)) (grammar.report g) (λ g. mapped (λ p. command.Hear g p) (places.part p) (λ p. tt))

begin_said : (ws : List (List ℕ)) → IsAsked (grammar.begin ws)
begin_said [] = tt
begin_said (s ∷ ws) = chained (λ s. option_map (λ b. command.Begin s b.0 b.1) (grammar.begins ws)) (text s) (λ s. mapped (λ b. command.Begin s b.0 b.1) (grammar.begins ws) (λ b. tt))

-- a count of steps is at least 1
count_said : (top : ℕ) (s : List ℕ) (o : Option ℕ) → IsIn 1 top o → IsAsked (option_map (λ k. command.Commit s k) (option_map (λ n. Some n) o))
count_said top s None h = tt
count_said top s (Some n) h = h.0

steps_said : (s : List ℕ) (ws : List (List ℕ)) → IsAsked (option_map (λ k. command.Commit s k) (grammar.maybe grammar.steps ws))
steps_said s [] = tt
steps_said s (w ∷ []) = count_said places.below_2_48 s (grammar.steps w) (ranged_in 1 places.below_2_48 w)
steps_said s (w ∷ v ∷ ws) = tt

commit_said : (ws : List (List ℕ)) → IsAsked (grammar.commit ws)
commit_said [] = tt
commit_said (s ∷ ws) = chained (λ s. option_map (λ k. command.Commit s k) (grammar.maybe grammar.steps ws)) (text s) (λ s. steps_said s ws)

read_said : (ws : List (List ℕ)) → IsAsked (grammar.read ws)
read_said [] = tt
read_said (s ∷ ws) =
    chained (λ s. option_and_then (λ o. option_map (λ o. command.Read s o) (grammar.whole o.0 o.1)) (object ws)) (text s)
    (λ s. chained (λ o. option_map (λ o. command.Read s o) (grammar.whole o.0 o.1)) (object ws) (λ o. mapped (λ o. command.Read s o) (grammar.whole o.0 o.1) (λ o. refl)))

update_said : (ws : List (List ℕ)) → IsAsked (grammar.update ws)
update_said [] = tt
update_said (s ∷ ws) =
    chained (λ s. option_and_then (λ o. option_map (λ op. command.Update s o.0 op) (op o.1)) (object ws)) (text s)
    (λ s. chained (λ o. option_map (λ op. command.Update s o.0 op) (op o.1)) (object ws) (λ o. mapped (λ op. command.Update s o.0 op) (op o.1) (λ p. (refl, shallow o.0.kind p.path p.act))))

send_said : (ws : List (List ℕ)) → IsAsked (grammar.send ws)
send_said [] = tt
send_said (p ∷ []) = tt
send_said (p ∷ d ∷ ws) =
    chained (λ p. option_and_then (λ d. option_map (λ n. command.Send p d n) (grammar.maybe places.time ws)) (places.site d)) (places.part p)
    (λ p. chained (λ d. option_map (λ n. command.Send p d n) (grammar.maybe places.time ws)) (places.site d) (λ d. mapped (λ n. command.Send p d n) (grammar.maybe places.time ws) (λ n. tt)))

-- and so is the number of a call
fuse_said : (ws : List (List ℕ)) → IsAsked (grammar.fuse ws)
fuse_said [] = tt
fuse_said (p ∷ ws) =
    chained (λ w. option_and_then (λ p. option_and_then (λ k. option_map (λ n. command.Fuse p k n) (places.number w.1)) (grammar.steps w.0)) (places.part p)) (grammar.two ws)
    (λ w. chained (λ p. option_and_then (λ k. option_map (λ n. command.Fuse p k n) (places.number w.1)) (grammar.steps w.0)) (places.part p)
    (λ p. chained_in 1 places.below_2_48 (λ k. option_map (λ n. command.Fuse p k n) (places.number w.1)) (grammar.steps w.0) (ranged_in 1 places.below_2_48 w.0) (λ k some most. mapped (λ n. command.Fuse p k n) (places.number w.1) (λ n. some))))

drop_said : (w : List ℕ) → IsAsked (grammar.drop w)
drop_said [] = tt
drop_said (c ∷ w) =
    choice (bytes_eq (c ∷ []) (codes "m")) (option_map command.DropMessage (places.number w)) (option_map command.DropReport (grammar.report (c ∷ w)))
    (mapped command.DropMessage (places.number w) (λ n. tt)) (mapped command.DropReport (grammar.report (c ∷ w)) (λ n. tt))

plain_said : (name : List ℕ) (ws : List (List ℕ)) → IsAsked (grammar.plain_named name ws)
plain_said name ws =
    choice (bytes_eq name (codes "cluster")) _ _ (two_said grammar.cluster cluster_said ws)
    (choice (bytes_eq name (codes "clock")) _ _ (two_said grammar.clock clock_said ws)
    (choice (bytes_eq name (codes "expire")) _ _ (two_said grammar.expire expire_said ws)
    (choice (bytes_eq name (codes "hear")) _ _ (two_said grammar.hear hear_said ws)
    (choice (bytes_eq name (codes "settle")) _ _ (one_said grammar.settle (λ p. mapped command.Settle (places.part p) (λ p. tt)) ws)
    (choice (bytes_eq name (codes "report")) _ _ (one_said grammar.reported (λ p. mapped command.Report (places.part p) (λ p. tt)) ws)
    (choice (bytes_eq name (codes "crash")) _ _ (one_said grammar.crash (λ p. mapped command.Crash (places.part p) (λ p. tt)) ws)
    (choice (bytes_eq name (codes "restart")) _ _ (one_said grammar.restart (λ p. mapped command.Restart (places.part p) (λ p. tt)) ws)
    (choice (bytes_eq name (codes "deliver")) _ _ (one_said grammar.deliver (λ m. mapped command.Deliver (grammar.message m) (λ m. tt)) ws)
    (choice (bytes_eq name (codes "drop")) _ _ (one_said grammar.drop drop_said ws)
    (choice (bytes_eq name (codes "send")) _ _ (send_said ws)
    (choice (bytes_eq name (codes "fuse")) _ _ (fuse_said ws) tt)))))))))))

named_said : (name : List ℕ) (ws : List (List ℕ)) → IsAsked (grammar.command_named name ws)
named_said name ws =
    choice (bytes_eq name (codes "session")) _ _ (two_said grammar.session session_said ws)
    (choice (bytes_eq name (codes "move")) _ _ (two_said grammar.moved move_said ws)
    (choice (bytes_eq name (codes "lose")) _ _ (one_said grammar.lose (λ s. mapped command.Lose (text s) (λ s. tt)) ws)
    (choice (bytes_eq name (codes "abort")) _ _ (one_said grammar.abort (λ s. mapped command.Abort (text s) (λ s. tt)) ws)
    (choice (bytes_eq name (codes "begin")) _ _ (begin_said ws)
    (choice (bytes_eq name (codes "commit")) _ _ (commit_said ws)
    (choice (bytes_eq name (codes "read")) _ _ (read_said ws)
    (choice (bytes_eq name (codes "update")) _ _ (update_said ws) (plain_said name ws))))))))

asks_said : (o : Option Command) → IsAsked o → AsksSaid (option_map parsed.Command o)
asks_said None h = tt
asks_said (Some c) h = h

reading_said : (ws : List (List ℕ)) → AsksSaid (line_as ws)
reading_said [] = tt
reading_said ([] ∷ ws) = tt
reading_said ((c ∷ w) ∷ ws) =
    elim (c == hash) as (λ b. AsksSaid (if b then Some parsed.Nothing else option_map parsed.Command (grammar.command_named (c ∷ w) ws))) [
      | true ↦ tt
      | false ↦ asks_said _ (named_said (c ∷ w) ws)
    ]

pub reads_said : (line : List ℕ) → AsksSaid (reading_of line)
reads_said line =
    elim (nat_le (length line) 4096 && is_utf8 line) as (λ b. AsksSaid (if b then line_as (words line) else None)) [ true ↦ reading_said (words line) | false ↦ tt ]

-- one more line
pub has_bad-more : (f : Framing) (lines : List (List ℕ)) (line : List ℕ) → has_bad f (lines ++ line ∷ []) ≡ (is_unreadable (asked_of f line) || has_bad f lines)
has_bad-more f lines line =
    let test : List ℕ → Bool = λ l. is_unreadable (asked_of f l) in
    list_any-append test lines (line ∷ []) ∙ elim (test line) as (λ b. (list_any test lines || (b || false)) ≡ (b || list_any test lines)) [
      | true ↦ elim (list_any test lines) as (λ c. (c || true) ≡ true) [ true ↦ refl | false ↦ refl ]
      | false ↦ elim (list_any test lines) as (λ c. (c || false) ≡ c) [ true ↦ refl | false ↦ refl ]
    ]
