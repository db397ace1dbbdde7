-- Bytes fed piece by piece.
use Rattle.std.proofs.Common.{◌≡◌, ℕ, Bool, true, false, List, [], ◌∷◌, ◌++◌, refl, sym, ap, ◌∙◌, subst, append_assoc, append-nil}
use Rattle.frame_session.specs.Frames.{is_frame, Fed, nothing_fed, with_byte, with_bytes, frames_of, rest_of}
use Rattle.frame_session.specs.Pieces.{with_piece, by_pieces, joined}
use Rattle.frame_session.proofs.Fronts.{fed_of, byte_on, byte_last, onto}

with_bytes-append : (fed : Fed) (front back : List ℕ) → with_bytes fed (front ++ back) ≡ with_bytes (with_bytes fed front) back
with_bytes-append fed [] back = refl
with_bytes-append fed (b ∷ front) back = with_bytes-append (with_byte fed b) front back

kept_byte : (fed : Fed) (b : ℕ) → with_bytes nothing_fed fed.rest ≡ fed_of [] fed.rest → with_bytes nothing_fed (with_byte fed b).rest ≡ fed_of [] (with_byte fed b).rest
kept_byte fed b h = by_frame (is_frame (fed.rest ++ b ∷ [])) refl
  where
    by_frame : (t : Bool) → is_frame (fed.rest ++ b ∷ []) ≡ t → with_bytes nothing_fed (with_byte fed b).rest ≡ fed_of [] (with_byte fed b).rest
    by_frame true e = subst (λ f. with_bytes nothing_fed f.rest ≡ fed_of [] f.rest) (sym (byte_last fed.frames fed.rest b e)) refl
    by_frame false e = subst (λ f. with_bytes nothing_fed f.rest ≡ fed_of [] f.rest) (sym (byte_on fed.frames fed.rest b e))
        (with_bytes-append nothing_fed fed.rest (b ∷ []) ∙ ap (λ f. with_byte f b) h ∙ byte_on [] fed.rest b e)

-- what is held of bytes that were fed makes no frame
held : (bytes : List ℕ) → with_bytes nothing_fed (rest_of bytes) ≡ fed_of [] (rest_of bytes)
held bytes = kept nothing_fed bytes refl
  where
    kept : (fed : Fed) (bytes : List ℕ) → with_bytes nothing_fed fed.rest ≡ fed_of [] fed.rest → with_bytes nothing_fed (with_bytes fed bytes).rest ≡ fed_of [] (with_bytes fed bytes).rest
    kept fed [] h = h
    kept fed (b ∷ bytes) h = kept (with_byte fed b) bytes (kept_byte fed b h)

-- a piece behind bytes that were fed
one_piece : (before piece : List ℕ) → with_bytes nothing_fed (before ++ piece) ≡ with_piece (with_bytes nothing_fed before) piece
one_piece before piece =
    let s = with_bytes nothing_fed before in
    let again : with_bytes nothing_fed (s.rest ++ piece) ≡ with_bytes (fed_of [] s.rest) piece = with_bytes-append nothing_fed s.rest piece ∙ ap (λ f. with_bytes f piece) (held before) in
    with_bytes-append nothing_fed before piece
    ∙ ap (λ l. with_bytes (fed_of l s.rest) piece) (sym (append-nil s.frames))
    ∙ onto s.frames [] s.rest piece
    ∙ ap (λ f. fed_of (s.frames ++ f.frames) f.rest) (sym again)

pub one_piece_frames : (before piece : List ℕ) → frames_of (before ++ piece) ≡ frames_of before ++ frames_of (rest_of before ++ piece)
one_piece_frames before piece = ap (λ f. f.frames) (one_piece before piece)

pub one_piece_rest : (before piece : List ℕ) → rest_of (before ++ piece) ≡ rest_of (rest_of before ++ piece)
one_piece_rest before piece = ap (λ f. f.rest) (one_piece before piece)

-- pieces behind bytes that were fed
on_pieces : (before : List ℕ) (pieces : List (List ℕ)) → by_pieces (with_bytes nothing_fed before) pieces ≡ with_bytes nothing_fed (before ++ joined pieces)
on_pieces before [] = ap (with_bytes nothing_fed) (sym (append-nil before))
on_pieces before (piece ∷ pieces) =
    ap (λ f. by_pieces f pieces) (sym (one_piece before piece))
    ∙ on_pieces (before ++ piece) pieces
    ∙ ap (with_bytes nothing_fed) (append_assoc before piece (joined pieces))

pub all_pieces : (pieces : List (List ℕ)) → by_pieces nothing_fed pieces ≡ with_bytes nothing_fed (joined pieces)
all_pieces pieces = on_pieces [] pieces
