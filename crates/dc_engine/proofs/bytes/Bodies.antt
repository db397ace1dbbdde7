-- The lines of a framed script are the frames of its bytes.
use Rattle.std.proofs.Common.{◌≡◌, ◌≢◌, ℕ, zero, suc, ◌+◌, ◌*◌, ◌-◌, ◌≤◌, ◌<◌, ◌==◌, if◌then◌else◌, Bool, true, false, List, [], ◌∷◌, ◌++◌, length, drop, map, refl, sym, ap, ◌∙◌, subst, arith, append_assoc, append-nil, length-append, true≢false}
use Rattle.std.proofs.lemmas.Bool.{eq-eqb, eqb-true}
use Rattle.std.proofs.lemmas.List.{map-append}
use Rattle.dc_engine.specs.declared.framing.Framing.TheVariants as framing
use Rattle.dc_engine.specs.declared.script.place.Place.{Place}
use Rattle.dc_engine.specs.declared.script.place.Place.TheVariants as place
use Rattle.dc_engine.specs.Lines.{goes, ends, owing, meets, lines_of, ended_lines}
use Rattle.dc_engine.specs.Bodies.{bodies, left}
use Rattle.dc_engine.specs.Blocks.{IsDivided}
use Rattle.dc_engine.proofs.bytes.Dividing.{divided_start, divided_piece, divided_end, divided-last, divided-whole, divided-ended}
use Rattle.dc_engine.proofs.bytes.Frames.{cons_some}
use Rattle.frame_session.specs.Frames.{is_frame, Fed, nothing_fed, with_byte, with_bytes, frames_of, rest_of}

-- the place behind what is held of a frame
abbrev place_behind : List ℕ → Place
place_behind [] = place.Start
place_behind (high ∷ []) = place.InHead high
place_behind (high ∷ low ∷ body) = place.InBody (high * 256 + low - suc (length body))

-- what is held isn't a whole frame
abbrev IsPart : List ℕ → Type 0
IsPart (high ∷ low ∷ body) = length body < high * 256 + low
IsPart held = Unit {0}

owing_none : (n : ℕ) → n ≡ 0 → owing n ≡ ends true
owing_none n e = ap owing e

owing_more : (n : ℕ) → 1 ≤ n → owing n ≡ goes (place.InBody (n - 1))
owing_more zero le = absurd (omega arith)
owing_more (suc n) le = ap (λ m. goes (place.InBody m)) (omega arith)

-- a byte that makes what is held a frame ends a line
meets_last : (held : List ℕ) (b : ℕ) → IsPart held → is_frame (held ++ b ∷ []) ≡ true → meets framing.Frames (place_behind held) b ≡ ends true
meets_last [] b part e = absurd (true≢false (sym e))
meets_last (high ∷ []) b part e = owing_none (high * 256 + b) (sym (eqb-true 0 (high * 256 + b) e))
meets_last (high ∷ low ∷ body) b part e =
    let n : length (body ++ b ∷ []) ≡ length body + 1 = length-append body (b ∷ []) in
    let is : length (body ++ b ∷ []) ≡ high * 256 + low = eqb-true (length (body ++ b ∷ [])) (high * 256 + low) e in
    owing_none (high * 256 + low - suc (length body)) (omega (arith, n, is))

-- another one leads on
meets_on : (held : List ℕ) (b : ℕ) → IsPart held → is_frame (held ++ b ∷ []) ≡ false → meets framing.Frames (place_behind held) b ≡ goes (place_behind (held ++ b ∷ []))
meets_on [] b part e = refl
meets_on (high ∷ []) b part e = by_size (high * 256 + b) refl
  where
    by_size : (n : ℕ) → high * 256 + b ≡ n → owing (high * 256 + b) ≡ goes (place.InBody (high * 256 + b - 1))
    by_size zero is = absurd (true≢false (sym (eq-eqb 0 (high * 256 + b) (sym is)) ∙ e))
    by_size (suc n) is = owing_more (high * 256 + b) (omega (arith, is))
meets_on (high ∷ low ∷ body) b part e =
    let n : length (body ++ b ∷ []) ≡ length body + 1 = length-append body (b ∷ []) in
    owing_more (high * 256 + low - suc (length body)) (at_least (length (body ++ b ∷ [])) (high * 256 + low) n e part)
    ∙ ap (λ m. goes (place.InBody m)) (omega (arith, n))
  where
    not_all : (size : ℕ) → size ≢ length body + 1 → length body < size → 1 ≤ size - suc (length body)
    not_all size other lt = omega (arith, other, lt)

    at_least : (k size : ℕ) → k ≡ length body + 1 → (k == size) ≡ false → length body < size → 1 ≤ size - suc (length body)
    at_least k size n differs lt = not_all size (λ same. true≢false (sym (eq-eqb k size (n ∙ sym same)) ∙ differs)) lt

-- and leaves it open
open_on : (held : List ℕ) (b : ℕ) → IsPart held → is_frame (held ++ b ∷ []) ≡ false → IsPart (held ++ b ∷ [])
open_on [] b part e = tt
open_on (high ∷ []) b part e = by_size (high * 256 + b) refl
  where
    by_size : (n : ℕ) → high * 256 + b ≡ n → 0 < high * 256 + b
    by_size zero is = absurd (true≢false (sym (eq-eqb 0 (high * 256 + b) (sym is)) ∙ e))
    by_size (suc n) is = omega (arith, is)
open_on (high ∷ low ∷ body) b part e = still (length (body ++ b ∷ [])) (length-append body (b ∷ [])) e
  where
    differs : (k : ℕ) → k ≢ high * 256 + low → k ≡ length body + 1 → k < high * 256 + low
    differs k other n = omega (arith, other, n, part)

    still : (k : ℕ) → k ≡ length body + 1 → (k == high * 256 + low) ≡ false → k < high * 256 + low
    still k n other = differs k (λ same. true≢false (sym (eq-eqb k (high * 256 + low) same) ∙ other)) n

-- the bytes read so far are lines whose bodies are these frames, and what is held of the next
record IsHeld (read : List ℕ) (fed : Fed) : Type 0 where
  pub lines : List (List ℕ)
  pub divided : IsDivided framing.Frames read lines fed.rest (place_behind fed.rest)
  pub part : IsPart fed.rest
  pub same : bodies lines ≡ fed.frames

held_byte : (read : List ℕ) (fed : Fed) (b : ℕ) → IsHeld read fed → IsHeld (read ++ b ∷ []) (with_byte fed b)
held_byte read fed b h = by_frame (is_frame (fed.rest ++ b ∷ [])) refl
  where
    whole : Fed
    whole = record { frames = fed.frames ++ drop 2 (fed.rest ++ b ∷ []) ∷ []; rest = [] }

    longer : Fed
    longer = record { frames = fed.frames; rest = fed.rest ++ b ∷ [] }

    by_frame : (t : Bool) → is_frame (fed.rest ++ b ∷ []) ≡ t → IsHeld (read ++ b ∷ []) (with_byte fed b)
    by_frame true e = subst (IsHeld (read ++ b ∷ [])) (sym (ap (λ t. if t then whole else longer) e)) record {
      lines = h.lines ++ (fed.rest ++ b ∷ []) ∷ [];
      divided = divided_end framing.Frames read h.lines fed.rest (place_behind fed.rest) b true (meets_last fed.rest b h.part e) h.divided;
      part = tt;
      same = map-append (drop 2) h.lines ((fed.rest ++ b ∷ []) ∷ []) ∙ ap (λ l. l ++ drop 2 (fed.rest ++ b ∷ []) ∷ []) h.same;
    }
    by_frame false e = subst (IsHeld (read ++ b ∷ [])) (sym (ap (λ t. if t then whole else longer) e)) record {
      lines = h.lines;
      divided = divided_piece framing.Frames read h.lines fed.rest (b ∷ []) (place_behind fed.rest) (place_behind (fed.rest ++ b ∷ [])) (place_behind (fed.rest ++ b ∷ []), meets_on fed.rest b h.part e, refl) h.divided;
      part = open_on fed.rest b h.part e;
      same = h.same;
    }

held_bytes : (read bytes : List ℕ) (fed : Fed) → IsHeld read fed → IsHeld (read ++ bytes) (with_bytes fed bytes)
held_bytes read [] fed h = subst (λ l. IsHeld l fed) (sym (append-nil read)) h
held_bytes read (b ∷ bytes) fed h = subst (λ l. IsHeld l (with_bytes (with_byte fed b) bytes)) (append_assoc read (b ∷ []) bytes) (held_bytes (read ++ b ∷ []) bytes (with_byte fed b) (held_byte read fed b h))

held_all : (bytes : List ℕ) → IsHeld bytes (with_bytes nothing_fed bytes)
held_all bytes = held_bytes [] bytes nothing_fed record { lines = []; divided = divided_start framing.Frames; part = tt; same = refl }

pub bodies_are : (bytes : List ℕ) → bodies (ended_lines framing.Frames bytes) ≡ frames_of bytes
bodies_are bytes =
    let h = held_all bytes in
    ap bodies (divided-ended framing.Frames bytes h.lines (rest_of bytes) (place_behind (rest_of bytes)) h.divided) ∙ h.same

pub rest_is : (bytes : List ℕ) → lines_of framing.Frames bytes ≡ ended_lines framing.Frames bytes ++ left (rest_of bytes)
rest_is bytes =
    let h = held_all bytes in
    of_rest (rest_of bytes) h.lines (place_behind (rest_of bytes)) h.divided
  where
    of_rest : (rest : List ℕ) (lines : List (List ℕ)) (at : Place) → IsDivided framing.Frames bytes lines rest at → lines_of framing.Frames bytes ≡ ended_lines framing.Frames bytes ++ left rest
    of_rest [] lines at d = divided-whole framing.Frames bytes lines at d ∙ sym (divided-ended framing.Frames bytes lines [] at d) ∙ sym (append-nil (ended_lines framing.Frames bytes))
    of_rest (b ∷ rest) lines at d = divided-last framing.Frames bytes lines (b ∷ rest) at (cons_some b rest) d ∙ ap (λ l. l ++ (b ∷ rest) ∷ []) (sym (divided-ended framing.Frames bytes lines (b ∷ rest) at d))
