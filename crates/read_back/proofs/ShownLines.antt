-- What a step shows is one line, which is cut into the words of each thing shown.
use Rattle.std.proofs.Common.{◌≡◌, ℕ, Bool, true, false, ◌&&◌, ◌==◌, not, if◌then◌else◌, List, [], ◌∷◌, ◌++◌, codes, decimal, flat_map, filter, Option, Some, None, refl, sym, ap, ◌∙◌, append-nil}
use Rattle.std.specs.Prelude.{⊤}
use Rattle.std.proofs.lemmas.Bool.{and_parts, not-true}
use Rattle.std.proofs.lemmas.List.Elements.{filter-append}
use Rattle.std.specs.List.{join_by, list_all}
use Rattle.crdt_core.specs.declared.object.ObjectId.{ObjectId}
use Rattle.crdt_core.specs.declared.value.Value.{Value}
use Rattle.site_vector.specs.declared.ids.PartId.{PartId}
use Rattle.site_vector.specs.declared.ids.TxId.{TxId}
use Rattle.site_vector.specs.Printed.{part_text, tx_text}
use Rattle.world_model.specs.declared.step.Step.{Step}
use Rattle.world_model.specs.declared.step.Step.TheVariants as step
use Rattle.script_words.specs.Kinds.{kind_name}
use Rattle.script_text.specs.Split.{Where, outside, within, after, ends_word, onto_first, pieces, is_some_bytes, words, space, quote}
use Rattle.reply_text.specs.Places.{vector_text, word_text, object_text, message_text, report_text, interval_text}
use Rattle.reply_text.specs.Text.{words_of, line_feed, stamp_words, decided_words, pending_words}
use Rattle.reply_text.specs.Values.{value_text}
use Rattle.read_back.proofs.Cutting.{IsUncut, is_inner, inner_both, no_end, plain_uncut, uncut_both, one_word, text_uncut, text_some}
use Rattle.read_back.proofs.Numerals.{decimal_uncut, decimal_some}
use Rattle.read_back.proofs.ShownObjects.{words-object, bucket_words, inner_object}
use Rattle.read_back.proofs.ShownPlaces.{part_uncut, part_some, tx_uncut, tx_some, message_uncut, report_uncut}
use Rattle.read_back.proofs.ShownValues.{value_uncut, value_some}
use Rattle.read_back.specs.ReadBack.{IsOneLine}

-- a line may be cut behind it, and it ends no line
record IsCuttable (w : List ℕ) : Type 0 where
  cut : (rest : List ℕ) → words (w ++ space ∷ rest) ≡ words w ++ words rest
  inner : list_all is_inner w ≡ true

abbrev AreCuttable : List (List ℕ) → Type 0
AreCuttable [] = ⊤
AreCuttable (w ∷ ws) = IsCuttable w × AreCuttable ws

abbrev more_text : List (List ℕ) → List ℕ
more_text ws = flat_map (λ w. codes " " ++ w) ws

words-more : (w : List ℕ) (ws : List (List ℕ)) → IsCuttable w → AreCuttable ws → words (w ++ more_text ws) ≡ words w ++ flat_map words ws
words-more w [] h k = ap words (append-nil w) ∙ sym (append-nil (words w))
words-more w (v ∷ vs) h k = h.cut (v ++ more_text vs) ∙ ap (λ us. words w ++ us) (words-more v vs k.0 k.1)

inner_more : (ws : List (List ℕ)) → AreCuttable ws → list_all is_inner (more_text ws) ≡ true
inner_more [] h = refl
inner_more (w ∷ ws) h = inner_both (codes " " ++ w) (more_text ws) h.0.inner (inner_more ws h.1)

-- ---- what stands in a line

word : (w : List ℕ) → IsUncut w → is_some_bytes w ≡ true → IsCuttable w
word w h some = let one = one_word w h some in record { cut = λ rest. one.followed rest ∙ ap (λ ws. ws ++ words rest) (sym one.last); inner = h.inner }

text : (t : List ℕ) → IsCuttable (word_text t)
text t = word (word_text t) (text_uncut t) (text_some t)

number : (n : ℕ) → IsCuttable (decimal n)
number n = word (decimal n) (decimal_uncut n) (decimal_some n)

part : (p : PartId) → IsCuttable (part_text p)
part p = word (part_text p) (part_uncut p) (part_some p)

tx : (t : TxId) → IsCuttable (tx_text t)
tx t = word (tx_text t) (tx_uncut t) (tx_some t)

message : (n : ℕ) → IsCuttable (message_text n)
message n = word (message_text n) (message_uncut n) refl

report : (n : ℕ) → IsCuttable (report_text n)
report n = word (report_text n) (report_uncut n) refl

value : (v : Value) → IsCuttable (value_text v)
value v = word (value_text v) (value_uncut v) (value_some v)

more_entries : (ns : List ℕ) → IsUncut (flat_map (λ n. codes "," ++ decimal n) ns)
more_entries [] = plain_uncut [] refl
more_entries (n ∷ ns) = uncut_both (codes "," ++ decimal n) _ (uncut_both (codes ",") (decimal n) (plain_uncut (codes ",") refl) (decimal_uncut n)) (more_entries ns)

entries : (ns : List ℕ) → IsUncut (join_by decimal (codes ",") ns)
entries [] = plain_uncut [] refl
entries (n ∷ ns) = uncut_both (decimal n) _ (decimal_uncut n) (more_entries ns)

vector : (v : List ℕ) → IsCuttable (vector_text v)
vector v =
    let front : List ℕ = codes "[" ++ join_by decimal (codes ",") v in
    let front_uncut : IsUncut front = uncut_both (codes "[") (join_by decimal (codes ",") v) (plain_uncut (codes "[") refl) (entries v) in
    word (vector_text v) (uncut_both front (codes "]") front_uncut (plain_uncut (codes "]") refl)) refl

interval : (lo hi : ℕ) → IsCuttable (interval_text lo hi)
interval lo hi =
    let low : List ℕ = codes "(" ++ decimal lo in
    let both : List ℕ = low ++ codes "," ++ decimal hi in
    let low_uncut : IsUncut low = uncut_both (codes "(") (decimal lo) (plain_uncut (codes "(") refl) (decimal_uncut lo) in
    let both_uncut : IsUncut both = uncut_both (low ++ codes ",") (decimal hi) (uncut_both low (codes ",") low_uncut (plain_uncut (codes ",") refl)) (decimal_uncut hi) in
    word (interval_text lo hi) (uncut_both both (codes "]") both_uncut (plain_uncut (codes "]") refl)) refl

object : (o : ObjectId) → IsCuttable (object_text o)
object o =
    let name : List (List ℕ) → List (List ℕ) = λ ws. word_text o.key ∷ kind_name o.kind ∷ ws in
    let alone : words (object_text o) ≡ name (bucket_words o.bucket) = ap words (sym (append-nil (object_text o))) ∙ words-object o None ∙ ap name (append-nil (bucket_words o.bucket)) in
    record { cut = λ rest. words-object o (Some rest) ∙ ap (λ ws. ws ++ words rest) (sym alone); inner = inner_object o }

-- ---- names of one word or more

-- the byte is no quote and ends no line
abbrev is_open : ℕ → Bool
is_open c = not (c == quote) && is_inner c

abbrev is_some_piece : List (List ℕ) → Bool
is_some_piece [] = false
is_some_piece (p ∷ ps) = true

some_piece : (c : ℕ) (ps : List (List ℕ)) → is_some_piece (onto_first c ps) ≡ true
some_piece c [] = refl
some_piece c (p ∷ ps) = refl

pieces_some : (at : Where) (w : List ℕ) → is_some_piece (pieces at w) ≡ true
pieces_some at [] = refl
pieces_some at (c ∷ cs) =
    elim (ends_word at c) as (λ b. is_some_piece (if b then [] ∷ pieces outside cs else onto_first c (pieces (after at c) cs)) ≡ true) [ true ↦ refl | false ↦ some_piece c _ ]

onto_first-append : (c : ℕ) (ps qs : List (List ℕ)) → is_some_piece ps ≡ true → onto_first c (ps ++ qs) ≡ onto_first c ps ++ qs
onto_first-append c [] qs h = cc
onto_first-append c (p ∷ ps) qs h = refl

pieces-open : (w rest : List ℕ) → list_all is_open w ≡ true → pieces outside (w ++ space ∷ rest) ≡ pieces outside w ++ pieces outside rest
pieces-open [] rest h = refl
pieces-open (c ∷ cs) rest h =
    let p = and_parts (is_open c) (list_all is_open cs) h in
    let all : List ℕ = cs ++ space ∷ rest in
    let behind : List (List ℕ) = pieces outside rest in
    let stays : after outside c ≡ outside = ap (λ b. if b then within else outside) (not-true (c == quote) (and_parts (not (c == quote)) (is_inner c) p.0).0) in
    let ih : pieces outside all ≡ pieces outside cs ++ behind = pieces-open cs rest p.1 in
    ap (λ at. if c == space then [] ∷ pieces outside all else onto_first c (pieces at all)) stays
    ∙ elim (c == space) as (λ b. (if b then [] ∷ pieces outside all else onto_first c (pieces outside all)) ≡ (if b then [] ∷ pieces outside cs else onto_first c (pieces outside cs)) ++ behind)
    [ true ↦ ap (λ ps. [] ∷ ps) ih | false ↦ ap (onto_first c) ih ∙ onto_first-append c (pieces outside cs) behind (pieces_some outside cs) ]
    ∙ ap (λ at. (if c == space then [] ∷ pieces outside cs else onto_first c (pieces at cs)) ++ behind) (sym stays)

open_inner : (w : List ℕ) → list_all is_open w ≡ true → list_all is_inner w ≡ true
open_inner [] h = refl
open_inner (c ∷ cs) h = let p = and_parts (is_open c) (list_all is_open cs) h in λ i. (and_parts (not (c == quote)) (is_inner c) p.0).1 i && open_inner cs p.1 i

name : (w : List ℕ) → list_all is_open w ≡ true → IsCuttable w
name w h = record {
  cut = λ rest. ap (filter is_some_bytes) (pieces-open w rest h) ∙ filter-append is_some_bytes (pieces outside w) (pieces outside rest);
  inner = open_inner w h;
}

-- ---- what varies in length

all_cuttable : (vs ws : List (List ℕ)) → AreCuttable vs → AreCuttable ws → AreCuttable (vs ++ ws)
all_cuttable [] ws h k = k
all_cuttable (v ∷ vs) ws h k = (h.0, all_cuttable vs ws h.1 k)

stamp : (n : Option ℕ) → AreCuttable (stamp_words n)
stamp None = tt
stamp (Some n) = (name _ refl, (number n, tt))

decided : (t : Option TxId) → AreCuttable (decided_words t)
decided None = tt
decided (Some t) = (name _ refl, (tx t, tt))

pending : (ts : List (TxId × ℕ)) → AreCuttable (pending_words ts)
pending [] = tt
pending (t ∷ ts) = all_cuttable (codes "pending" ∷ tx_text t.0 ∷ decimal t.1 ∷ []) (pending_words ts) (name _ refl, (tx t.0, (number t.1, tt))) (pending ts)

-- ---- the lines

shown : (s : Step) → AreCuttable (words_of s)
shown (step.MadeCluster sites parts) = (name _ refl, (number sites, (number parts, tt)))
shown (step.Ticked p now) = (name _ refl, (part p, (number now, tt)))
shown (step.MadeSession s site) = (name _ refl, (text s, (number site, tt)))
shown (step.Moved s site) = (name _ refl, (text s, (number site, tt)))
shown (step.Lost s) = (name _ refl, (text s, tt))
shown (step.Began s t v) = (name _ refl, (text s, (tx t, (vector v, tt))))
shown (step.Value s o v) = (name _ refl, (text s, (object o, (value v, tt))))
shown (step.Updated s o n) = (name _ refl, (text s, (object o, stamp n)))
shown (step.Prepared p t time) = (name _ refl, (part p, (tx t, (number time, tt))))
shown (step.Decided p t v) = (name _ refl, (part p, (tx t, (vector v, tt))))
shown (step.Finished p t) = (name _ refl, (part p, (tx t, tt)))
shown (step.Aborted p t) = (name _ refl, (part p, (tx t, tt)))
shown (step.Pending p t) = (name _ refl, (part p, (tx t, tt)))
shown (step.Ended s) = (name _ refl, (text s, tt))
shown (step.Settled p) = (name _ refl, (part p, tt))
shown (step.Sent n p to lo hi count) = (name _ refl, (message n, (part p, (number to, (interval lo hi, (number count, tt))))))
shown (step.Took n hi) = (name _ refl, (message n, (number hi, tt)))
shown (step.Dup n have) = (name _ refl, (message n, (number have, tt)))
shown (step.Gap n have) = (name _ refl, (message n, (number have, tt)))
shown (step.DroppedMessage n) = (name _ refl, (message n, tt))
shown (step.DroppedReport n) = (name _ refl, (report n, tt))
shown (step.Reported n p v) = (name _ refl, (report n, (part p, (vector v, tt))))
shown (step.Heard n p v) = (name _ refl, (report n, (part p, (vector v, tt))))
shown (step.Crashed p) = (name _ refl, (part p, tt))
shown (step.Fused p call keep) = (name _ refl, (part p, (number call, (number keep, tt))))
shown (step.Restarted p now v t ts) = (name _ refl, (part p, (number now, (vector v, all_cuttable (decided_words t) (pending_words ts) (decided t) (pending ts)))))
shown step.Bad = (name _ refl, tt)
shown step.NoCluster = (name _ refl, tt)
shown step.HasCluster = (name _ refl, tt)
shown step.NoSession = (name _ refl, tt)
shown step.HasSession = (name _ refl, tt)
shown step.NoTxn = (name _ refl, tt)
shown step.HasTxn = (name _ refl, tt)
shown step.BadOp = (name _ refl, tt)
shown step.NoMessage = (name _ refl, tt)
shown step.NoPart = (name _ refl, tt)
shown (step.Down p) = (name _ refl, (part p, tt))
shown (step.WaitClock p now) = (name _ refl, (part p, (number now, tt)))
shown (step.WaitTxn p t time) = (name _ refl, (part p, (tx t, (number time, tt))))
shown (step.WaitStable site have) = (name _ refl, (number site, (number have, tt)))
shown (step.Disk p) = (name _ refl, (part p, tt))
shown (step.Unsure t) = (name _ refl, (tx t, tt))
shown (step.Gone p t) = (name _ refl, (part p, (tx t, tt)))
shown (step.Damaged p at) = (name _ refl, (part p, (number at, tt)))
shown (step.Full room) = (name _ refl, (number room, tt))
shown step.TimeEnd = (name _ refl, tt)
shown step.LimitSessions = (name _ refl, tt)
shown step.LimitUpdates = (name _ refl, tt)
shown step.LimitMessages = (name _ refl, tt)
shown step.LimitReports = (name _ refl, tt)
shown step.Unbuilt = (name _ refl, tt)

-- the words of a list, as one line
one_line : (s : Step) (ws : List (List ℕ)) → words_of s ≡ ws → AreCuttable ws → IsOneLine s
one_line s [] is h = record { line = []; ended = ap (λ ws. join_by (λ w. w) (codes " ") ws ++ line_feed ∷ []) is; unbroken = tt; cut = ap (flat_map words) (sym is) }
one_line s (w ∷ ws) is h = record {
  line = w ++ more_text ws;
  ended = ap (λ ws. join_by (λ w. w) (codes " ") ws ++ line_feed ∷ []) is;
  unbroken = no_end (w ++ more_text ws) (inner_both w (more_text ws) h.0.inner (inner_more ws h.1));
  cut = words-more w ws h.0 h.1 ∙ ap (flat_map words) (sym is);
}

pub is_one_line : (s : Step) → IsOneLine s
is_one_line s = one_line s (words_of s) refl (shown s)
