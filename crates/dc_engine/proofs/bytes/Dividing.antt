-- Bytes that are read piece by piece, and the lines that they make.
use Rattle.std.proofs.Common.{◌≡◌, ◌≢◌, ℕ, Bool, List, [], ◌∷◌, ◌++◌, refl, sym, ap, ◌∙◌, append_assoc}
use Rattle.std.proofs.lemmas.List.{append-nil}
use Rattle.dc_engine.specs.declared.framing.Framing.{Framing}
use Rattle.dc_engine.specs.declared.script.place.Place.{Place}
use Rattle.dc_engine.specs.declared.script.place.Place.TheVariants as place
use Rattle.dc_engine.specs.Lines.{onto, onto_first, meets, ends, kept, onward, onward_first, lines_from, lines_of, ended_from, ended_lines}
use Rattle.dc_engine.specs.Ends.{Goes}
use Rattle.dc_engine.specs.Blocks.{prefixed, prefixed_first, IsDivided}

prefixed-append : (front back : List ℕ) (lines : List (List ℕ)) → prefixed (front ++ back) lines ≡ prefixed front (prefixed back lines)
prefixed-append [] back lines = refl
prefixed-append (b ∷ front) back lines = ap (onto b) (prefixed-append front back lines)

prefixed_first-append : (front back : List ℕ) (lines : List (List ℕ)) → prefixed_first (front ++ back) lines ≡ prefixed_first front (prefixed_first back lines)
prefixed_first-append [] back lines = refl
prefixed_first-append (b ∷ front) back lines = ap (onto_first b) (prefixed_first-append front back lines)

prefixed-end : (front line : List ℕ) (lines : List (List ℕ)) → prefixed front (line ∷ lines) ≡ (front ++ line) ∷ lines
prefixed-end [] line lines = refl
prefixed-end (b ∷ front) line lines = ap (onto b) (prefixed-end front line lines)

prefixed_first-end : (front line : List ℕ) (lines : List (List ℕ)) → prefixed_first front (line ∷ lines) ≡ (front ++ line) ∷ lines
prefixed_first-end [] line lines = refl
prefixed_first-end (b ∷ front) line lines = ap (onto_first b) (prefixed_first-end front line lines)

prefixed_first-none : (front : List ℕ) → prefixed_first front [] ≡ []
prefixed_first-none [] = refl
prefixed_first-none (b ∷ front) = ap (onto_first b) (prefixed_first-none front)

prefixed-last : (b : ℕ) (front : List ℕ) → prefixed (b ∷ front) [] ≡ (b ∷ front) ∷ []
prefixed-last b [] = refl
prefixed-last b (c ∷ front) = ap (onto b) (prefixed-last c front)

module _ (f : Framing) where
  lines_from-piece : (at to : Place) (piece more : List ℕ) → Goes f at piece to → lines_from f at (piece ++ more) ≡ prefixed piece (lines_from f to more)
  lines_from-piece at to [] more h = ap (λ p. lines_from f p more) h
  lines_from-piece at to (b ∷ piece) more h = ap (λ m. onward m b (λ p. lines_from f p (piece ++ more))) h.1 ∙ ap (onto b) (lines_from-piece h.0 to piece more h.2)

  ended_from-piece : (at to : Place) (piece more : List ℕ) → Goes f at piece to → ended_from f at (piece ++ more) ≡ prefixed_first piece (ended_from f to more)
  ended_from-piece at to [] more h = ap (λ p. ended_from f p more) h
  ended_from-piece at to (b ∷ piece) more h = ap (λ m. onward_first m b (λ p. ended_from f p (piece ++ more))) h.1 ∙ ap (onto_first b) (ended_from-piece h.0 to piece more h.2)

  pub divided_start : IsDivided f [] [] [] place.Start
  divided_start = record { ended = λ more. refl; whole = λ more. refl }

  pub divided_piece : (read : List ℕ) (lines : List (List ℕ)) (pending piece : List ℕ) (at to : Place) → Goes f at piece to → IsDivided f read lines pending at → IsDivided f (read ++ piece) lines (pending ++ piece) to
  divided_piece read lines pending piece at to h s = record {
    ended = λ more. ap (ended_lines f) (append_assoc read piece more) ∙ s.ended (piece ++ more) ∙ ap (λ l. lines ++ prefixed_first pending l) (ended_from-piece at to piece more h) ∙ ap (λ l. lines ++ l) (sym (prefixed_first-append pending piece (ended_from f to more)));
    whole = λ more. ap (lines_of f) (append_assoc read piece more) ∙ s.whole (piece ++ more) ∙ ap (λ l. lines ++ prefixed pending l) (lines_from-piece at to piece more h) ∙ ap (λ l. lines ++ l) (sym (prefixed-append pending piece (lines_from f to more)));
  }

  -- this byte ends the line
  pub divided_end : (read : List ℕ) (lines : List (List ℕ)) (pending : List ℕ) (at : Place) (last : ℕ) (counts : Bool) → meets f at last ≡ ends counts → IsDivided f read lines pending at → IsDivided f (read ++ last ∷ []) (lines ++ (pending ++ kept counts last) ∷ []) [] place.Start
  divided_end read lines pending at last counts m s = record {
    ended = λ more. ap (ended_lines f) (append_assoc read (last ∷ []) more) ∙ s.ended (last ∷ more) ∙ ap (λ x. lines ++ prefixed_first pending (onward_first x last (λ p. ended_from f p more))) m
        ∙ ap (λ l. lines ++ l) (prefixed_first-end pending (kept counts last) (ended_lines f more)) ∙ sym (append_assoc lines ((pending ++ kept counts last) ∷ []) (ended_lines f more));
    whole = λ more. ap (lines_of f) (append_assoc read (last ∷ []) more) ∙ s.whole (last ∷ more) ∙ ap (λ x. lines ++ prefixed pending (onward x last (λ p. lines_from f p more))) m
        ∙ ap (λ l. lines ++ l) (prefixed-end pending (kept counts last) (lines_of f more)) ∙ sym (append_assoc lines ((pending ++ kept counts last) ∷ []) (lines_of f more));
  }

  -- the lines whose end was read
  pub divided-ended : (read : List ℕ) (lines : List (List ℕ)) (pending : List ℕ) (at : Place) → IsDivided f read lines pending at → ended_lines f read ≡ lines
  divided-ended read lines pending at s = ap (ended_lines f) (sym (append-nil read)) ∙ s.ended [] ∙ ap (λ l. lines ++ l) (prefixed_first-none pending) ∙ append-nil lines

  -- all lines, where the input ends right after one
  pub divided-whole : (read : List ℕ) (lines : List (List ℕ)) (at : Place) → IsDivided f read lines [] at → lines_of f read ≡ lines
  divided-whole read lines at s = ap (lines_of f) (sym (append-nil read)) ∙ s.whole [] ∙ append-nil lines

  -- all lines, where the end of the last one isn't there
  pub divided-last : (read : List ℕ) (lines : List (List ℕ)) (pending : List ℕ) (at : Place) → pending ≢ [] → IsDivided f read lines pending at → lines_of f read ≡ lines ++ pending ∷ []
  divided-last read lines [] at h s = absurd (h refl)
  divided-last read lines (b ∷ pending) at h s = ap (lines_of f) (sym (append-nil read)) ∙ s.whole [] ∙ ap (λ l. lines ++ l) (prefixed-last b pending)

  -- the lines whose end was read, after some bytes and after more of them
  pub divided-more : (read more : List ℕ) (lines next : List (List ℕ)) (pending rest : List ℕ) (at to : Place) → IsDivided f read lines pending at → IsDivided f (read ++ more) next rest to → next ≡ ended_lines f read ++ prefixed_first pending (ended_from f at more)
  divided-more read more lines next pending rest at to s t =
      sym (divided-ended (read ++ more) next rest to t) ∙ s.ended more ∙ ap (λ l. l ++ prefixed_first pending (ended_from f at more)) (sym (divided-ended read lines pending at s))

  -- the lines whose end was read stand first, whatever comes
  pub divided-first : (read more : List ℕ) (lines : List (List ℕ)) (pending : List ℕ) (at : Place) → IsDivided f read lines pending at → (later : List (List ℕ)) × (lines_of f (read ++ more) ≡ lines ++ later)
  divided-first read more lines pending at s = (prefixed pending (lines_from f at more), s.whole more)
