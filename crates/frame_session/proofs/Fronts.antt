-- The frame that stands first among bytes, and the bytes behind it.
use Rattle.std.proofs.Common.{◌≡◌, ℕ, suc, ◌+◌, ◌*◌, ◌-◌, ◌≤◌, ◌<◌, if◌then◌else◌, Bool, true, false, Option, Some, None, List, [], ◌∷◌, ◌++◌, length, take, drop, leb, le_of_eq, refl, sym, ap, ◌∙◌, subst, arith, append_assoc, append-nil, length-append}
use Rattle.std.proofs.lemmas.Bool.{ne_eqb, eq-eqb, leb-true, leb-false}
use Rattle.std.proofs.lemmas.List.{take_all, take-append-drop, drop-drop, drop_at, length-take-le, length-drop}
use Rattle.frame_session.specs.Cut.{first_body}
use Rattle.frame_session.specs.Frames.{is_frame, Fed, nothing_fed, with_byte, with_bytes, frames_of, rest_of}

abbrev pub fed_of : List (List ℕ) → List ℕ → Fed
fed_of frames rest = record { frames = frames; rest = rest }

-- one byte more of a frame that isn't whole then
pub byte_on : (done : List (List ℕ)) (rest : List ℕ) (b : ℕ) → is_frame (rest ++ b ∷ []) ≡ false → with_byte (fed_of done rest) b ≡ fed_of done (rest ++ b ∷ [])
byte_on done rest b e = ap (λ t. if t then record { frames = done ++ drop 2 (rest ++ b ∷ []) ∷ []; rest = [] } else record { frames = done; rest = rest ++ b ∷ [] }) e

-- and of one that is
pub byte_last : (done : List (List ℕ)) (rest : List ℕ) (b : ℕ) → is_frame (rest ++ b ∷ []) ≡ true → with_byte (fed_of done rest) b ≡ fed_of (done ++ drop 2 (rest ++ b ∷ []) ∷ []) []
byte_last done rest b e = ap (λ t. if t then record { frames = done ++ drop 2 (rest ++ b ∷ []) ∷ []; rest = [] } else record { frames = done; rest = rest ++ b ∷ [] }) e

-- bytes with which a frame isn't whole
goes : (done : List (List ℕ)) (high low : ℕ) (part bytes : List ℕ) → length part + length bytes < high * 256 + low → with_bytes (fed_of done (high ∷ low ∷ part)) bytes ≡ fed_of done (high ∷ low ∷ (part ++ bytes))
goes done high low part [] lt = ap (λ l. fed_of done (high ∷ low ∷ l)) (sym (append-nil part))
goes done high low part (b ∷ bytes) lt =
    let n : length (part ++ b ∷ []) ≡ length part + 1 = length-append part (b ∷ []) in
    ap (λ f. with_bytes f bytes) (byte_on done (high ∷ low ∷ part) b (ne_eqb (length (part ++ b ∷ [])) (high * 256 + low) (λ e. omega (arith, e, n, lt))))
    ∙ goes done high low (part ++ b ∷ []) bytes (omega (arith, n, lt))
    ∙ ap (λ l. fed_of done (high ∷ low ∷ l)) (append_assoc part (b ∷ []) bytes)

-- bytes of which the last one ends it
fills : (done : List (List ℕ)) (high low : ℕ) (part : List ℕ) (b : ℕ) (bytes more : List ℕ) → length part + suc (length bytes) ≡ high * 256 + low → with_bytes (fed_of done (high ∷ low ∷ part)) (b ∷ (bytes ++ more)) ≡ with_bytes (fed_of (done ++ (part ++ b ∷ bytes) ∷ []) []) more
fills done high low part b [] more e =
    let n : length (part ++ b ∷ []) ≡ length part + 1 = length-append part (b ∷ []) in
    ap (λ f. with_bytes f more) (byte_last done (high ∷ low ∷ part) b (eq-eqb (length (part ++ b ∷ [])) (high * 256 + low) (omega (arith, e, n))))
fills done high low part b (c ∷ bytes) more e =
    let n : length (part ++ b ∷ []) ≡ length part + 1 = length-append part (b ∷ []) in
    ap (λ f. with_bytes f (c ∷ (bytes ++ more))) (byte_on done (high ∷ low ∷ part) b (ne_eqb (length (part ++ b ∷ [])) (high * 256 + low) (λ same. omega (arith, e, n, same))))
    ∙ fills done high low (part ++ b ∷ []) c bytes more (omega (arith, e, n))
    ∙ ap (λ l. with_bytes (fed_of (done ++ l ∷ []) []) more) (append_assoc part (b ∷ []) (c ∷ bytes))

-- the two bytes of a head
head_on : (done : List (List ℕ)) (high low : ℕ) → 0 < high * 256 + low → with_bytes (fed_of done []) (high ∷ low ∷ []) ≡ fed_of done (high ∷ low ∷ [])
head_on done high low lt = byte_on done (high ∷ []) low (ne_eqb 0 (high * 256 + low) (λ e. omega (arith, e, lt)))

pub whole : (done : List (List ℕ)) (high low : ℕ) (body more : List ℕ) → length body ≡ high * 256 + low → with_bytes (fed_of done []) (high ∷ low ∷ (body ++ more)) ≡ with_bytes (fed_of (done ++ body ∷ []) []) more
whole done high low [] more e = ap (λ f. with_bytes f more) (byte_last done (high ∷ []) low (eq-eqb 0 (high * 256 + low) e))
whole done high low (b ∷ body) more e =
    ap (λ f. with_bytes f (b ∷ (body ++ more))) (head_on done high low (omega (arith, e)))
    ∙ fills done high low [] b body more (omega (arith, e))

pub short : (done : List (List ℕ)) (high low : ℕ) (body : List ℕ) → length body < high * 256 + low → with_bytes (fed_of done []) (high ∷ low ∷ body) ≡ fed_of done (high ∷ low ∷ body)
short done high low body lt =
    ap (λ f. with_bytes f body) (head_on done high low (omega (arith, lt)))
    ∙ goes done high low [] body (omega (arith, lt))

-- the frames that were there already stand first
pub onto : (done more : List (List ℕ)) (rest bytes : List ℕ) → with_bytes (fed_of (done ++ more) rest) bytes ≡ fed_of (done ++ (with_bytes (fed_of more rest) bytes).frames) (with_bytes (fed_of more rest) bytes).rest
onto done more rest [] = refl
onto done more rest (b ∷ bytes) = by_frame (is_frame (rest ++ b ∷ [])) refl (λ also held. onto done also held bytes)
  where
    by_frame : (t : Bool) → is_frame (rest ++ b ∷ []) ≡ t → ((also : List (List ℕ)) (held : List ℕ) → with_bytes (fed_of (done ++ also) held) bytes ≡ fed_of (done ++ (with_bytes (fed_of also held) bytes).frames) (with_bytes (fed_of also held) bytes).rest) → with_bytes (fed_of (done ++ more) rest) (b ∷ bytes) ≡ fed_of (done ++ (with_bytes (fed_of more rest) (b ∷ bytes)).frames) (with_bytes (fed_of more rest) (b ∷ bytes)).rest
    by_frame true e later =
        ap (λ f. with_bytes f bytes) (byte_last (done ++ more) rest b e ∙ ap (λ l. fed_of l []) (append_assoc done more (drop 2 (rest ++ b ∷ []) ∷ [])))
        ∙ later (more ++ drop 2 (rest ++ b ∷ []) ∷ []) []
        ∙ ap (λ f. fed_of (done ++ (with_bytes f bytes).frames) (with_bytes f bytes).rest) (sym (byte_last more rest b e))
    by_frame false e later =
        ap (λ f. with_bytes f bytes) (byte_on (done ++ more) rest b e)
        ∙ later more (rest ++ b ∷ [])
        ∙ ap (λ f. fed_of (done ++ (with_bytes f bytes).frames) (with_bytes f bytes).rest) (sym (byte_on more rest b e))

-- laid apart, as the law has it
first : (high low : ℕ) (body more : List ℕ) → length body ≡ high * 256 + low → with_bytes nothing_fed ((high ∷ low ∷ body) ++ more) ≡ fed_of (body ∷ frames_of more) (rest_of more)
first high low body more e = whole [] high low body more e ∙ onto (body ∷ []) [] [] more

pub frame_first : (high low : ℕ) (body more : List ℕ) → length body ≡ high * 256 + low → frames_of ((high ∷ low ∷ body) ++ more) ≡ body ∷ frames_of more
frame_first high low body more e = ap (λ f. f.frames) (first high low body more e)

pub rest_first : (high low : ℕ) (body more : List ℕ) → length body ≡ high * 256 + low → rest_of ((high ∷ low ∷ body) ++ more) ≡ rest_of more
rest_first high low body more e = ap (λ f. f.rest) (first high low body more e)

pub frame_short : (high low : ℕ) (body : List ℕ) → length body < high * 256 + low → frames_of (high ∷ low ∷ body) ≡ []
frame_short high low body lt = ap (λ f. f.frames) (short [] high low body lt)

pub rest_short : (high low : ℕ) (body : List ℕ) → length body < high * 256 + low → rest_of (high ∷ low ∷ body) ≡ high ∷ low ∷ body
rest_short high low body lt = ap (λ f. f.rest) (short [] high low body lt)

-- the bytes from this place on have still to be cut
pub record IsCut (bytes : List ℕ) (frames : List (List ℕ)) (place : ℕ) : Type 0 where
  pub fed : with_bytes nothing_fed bytes ≡ with_bytes (fed_of frames []) (drop place bytes)
  pub within : place ≤ length bytes

pub cut_start : (bytes : List ℕ) → IsCut bytes [] 0
cut_start bytes = record { fed = refl; within = omega arith }

some_of : {A : Type 0} (a b : A) → Some a ≡ Some b → a ≡ b
some_of {A = A} a b e = ap (λ (o : Option A). or_a o) e
  where
    or_a : Option A → A
    or_a None = a
    or_a (Some x) = x

none_some : {A B : Type 0} (b : B) → ◌≡◌ {A = Option B} None (Some b) → A
none_some {B = B} b e = absurd (subst (λ (o : Option B). is_none o) e tt)
  where
    is_none : Option B → Type 0
    is_none None = Unit {0}
    is_none (Some x) = ⊥

-- what is known of the front where a body was found there, and where none was
pub record Found (bytes body : List ℕ) : Type 0 where
  pub high : ℕ
  pub low : ℕ
  pub more : List ℕ
  pub split : bytes ≡ high ∷ low ∷ (body ++ more)
  pub size : length body ≡ high * 256 + low

found : (bytes body : List ℕ) → first_body bytes ≡ Some body → Found bytes body
found [] body e = none_some body e
found (high ∷ []) body e = none_some body e
found (high ∷ low ∷ bytes) body e = by_size (leb (high * 256 + low) (length bytes)) refl
  where
    size : ℕ
    size = high * 256 + low

    by_size : (t : Bool) → leb size (length bytes) ≡ t → Found (high ∷ low ∷ bytes) body
    by_size false is = none_some body (sym (ap (λ t. if t then Some (take size bytes) else None) is) ∙ e)
    by_size true is =
        let same : take size bytes ≡ body = some_of (take size bytes) body (sym (ap (λ t. if t then Some (take size bytes) else None) is) ∙ e) in
        record {
          high = high;
          low = low;
          more = drop size bytes;
          split = ap (λ l. high ∷ low ∷ l) (sym (take-append-drop size bytes) ∙ ap (λ l. l ++ drop size bytes) same);
          size = ap length (sym same) ∙ length-take-le size bytes (leb-true size (length bytes) is);
        }

none_found : (done : List (List ℕ)) (bytes : List ℕ) → first_body bytes ≡ None → with_bytes (fed_of done []) bytes ≡ fed_of done bytes
none_found done [] e = refl
none_found done (high ∷ []) e = refl
none_found done (high ∷ low ∷ bytes) e = by_size (leb (high * 256 + low) (length bytes)) refl
  where
    size : ℕ
    size = high * 256 + low

    by_size : (t : Bool) → leb size (length bytes) ≡ t → with_bytes (fed_of done []) (high ∷ low ∷ bytes) ≡ fed_of done (high ∷ low ∷ bytes)
    by_size true is = none_some (take size bytes) (sym e ∙ ap (λ t. if t then Some (take size bytes) else None) is)
    by_size false is = short done high low bytes (leb-false size (length bytes) is)

pub cut_more : (bytes body : List ℕ) (frames : List (List ℕ)) (place : ℕ) → IsCut bytes frames place → first_body (drop place bytes) ≡ Some body → IsCut bytes (frames ++ body ∷ []) (place + (2 + length body))
cut_more bytes body frames place c e =
    let f = found (drop place bytes) body e in
    let behind : drop (place + (2 + length body)) bytes ≡ f.more =
    sym (drop-drop (2 + length body) place bytes) ∙ ap (drop (2 + length body)) f.split ∙ drop_at (f.high ∷ f.low ∷ body) f.more (2 + length body) (omega arith) in
    let long : length bytes - place ≡ suc (suc (length (body ++ f.more))) = sym (length-drop place bytes) ∙ ap length f.split in
    record {
      fed = c.fed ∙ ap (with_bytes (fed_of frames [])) f.split ∙ whole frames f.high f.low body f.more f.size ∙ ap (with_bytes (fed_of (frames ++ body ∷ []) [])) (sym behind);
      within = omega (arith, long, length-append body f.more, c.within);
    }

pub cut_frames : (bytes : List ℕ) (frames : List (List ℕ)) (place : ℕ) → IsCut bytes frames place → first_body (drop place bytes) ≡ None → frames ≡ frames_of bytes
cut_frames bytes frames place c e = sym (ap (λ f. f.frames) (c.fed ∙ none_found frames (drop place bytes) e))

pub cut_rest : (bytes : List ℕ) (frames : List (List ℕ)) (place : ℕ) → IsCut bytes frames place → first_body (drop place bytes) ≡ None → drop place bytes ≡ rest_of bytes
cut_rest bytes frames place c e = sym (ap (λ f. f.rest) (c.fed ∙ none_found frames (drop place bytes) e))

-- what is found among all bytes from a place on
from_place : (bytes : List ℕ) (place : ℕ) → take (length bytes - place) (drop place bytes) ≡ drop place bytes
from_place bytes place = take_all (length bytes - place) (drop place bytes) (le_of_eq (length-drop place bytes))

pub body_found : (bytes body : List ℕ) (place : ℕ) (found : Option (List ℕ)) → found ≡ first_body (take (length bytes - place) (drop place bytes)) → found ≡ Some body → first_body (drop place bytes) ≡ Some body
body_found bytes body place found e is = ap first_body (sym (from_place bytes place)) ∙ sym e ∙ is

pub none_there : (bytes : List ℕ) (place : ℕ) (found : Option (List ℕ)) → found ≡ first_body (take (length bytes - place) (drop place bytes)) → found ≡ None → first_body (drop place bytes) ≡ None
none_there bytes place found e is = ap first_body (sym (from_place bytes place)) ∙ sym e ∙ is

pub cut_on : (bytes body : List ℕ) (frames next : List (List ℕ)) (place : ℕ) → IsCut bytes frames place → first_body (drop place bytes) ≡ Some body → next ≡ frames ++ body ∷ [] → IsCut bytes next (place + (2 + length body))
cut_on bytes body frames next place c e is = subst (λ l. IsCut bytes l (place + (2 + length body))) (sym is) (cut_more bytes body frames place c e)
