-- What the bytes written have to do with the bytes read, where source and sink tell them.
-- `replies lines bytes` says that these bytes are the replies to these lines.
use Rattle.std.specs.Prelude.{◌≡◌, ℕ, ◌≤◌, true, List, [], ◌∷◌, ◌++◌, length, take, Option, None, Some, ⊤}
use Rattle.std.specs.Io.KnownBytes.{Appends, Consumes, IsAtEnd}
use Rattle.dc_engine.specs.declared.framing.Framing.{Framing}
use Rattle.dc_engine.specs.Lines.{lines_of, ended_lines}
use Rattle.dc_engine.specs.Reading.{makes_cluster}

-- these lines stand at the front of all
abbrev pub IsFront : List (List ℕ) → List (List ℕ) → Type 0
IsFront lines all = (later : List (List ℕ)) × (all ≡ lines ++ later)

-- at most `most` bytes were read, at most `size` of them as the last block
pub record WereRead (size most : ℕ) (input left : Option (List ℕ)) : Type 0 where
  pub earlier : List ℕ
  pub block : List ℕ
  pub from_source : Consumes input left (earlier ++ block)
  pub fits : length (earlier ++ block) ≤ most
  pub in_hand : length block ≤ size

module _ (f : Framing) where
  -- the whole input was read, and the replies to its lines were written
  pub record Played (most : ℕ) (replies : List (List ℕ) → List ℕ → Type 0) (input left before after : Option (List ℕ)) : Type 0 where
    pub read : List ℕ
    pub written : List ℕ
    pub from_source : Consumes input left read
    pub at_end : IsAtEnd left
    pub fits : length read ≤ most
    pub to_sink : Appends before after written
    pub replied : replies (lines_of f read) written

  -- the replies to the lines whose end was read were written
  pub record PlayedEnded (most : ℕ) (replies : List (List ℕ) → List ℕ → Type 0) (input left before after : Option (List ℕ)) : Type 0 where
    pub read : List ℕ
    pub written : List ℕ
    pub from_source : Consumes input left read
    pub fits : length read ≤ most
    pub to_sink : Appends before after written
    pub replied : replies (ended_lines f read) written

  -- as many bytes as may be were read, and one more: the replies to the lines whose end is among the first ones were written
  pub record PlayedTooLong (most : ℕ) (replies : List (List ℕ) → List ℕ → Type 0) (input left before after : Option (List ℕ)) : Type 0 where
    pub read : List ℕ
    pub next : ℕ
    pub written : List ℕ
    pub from_source : Consumes input left (read ++ next ∷ [])
    pub full : length read ≡ most
    pub to_sink : Appends before after written
    pub replied : replies (ended_lines f read) written

  -- these lines stand at the front of the input's
  abbrev pub AreFirst : List (List ℕ) → Option (List ℕ) → Type 0
  AreFirst lines None = ⊤
  AreFirst lines (Some input) = (later : List (List ℕ)) × (lines_of f input ≡ lines ++ later)

  -- these lines stand at the front of what was read, and of the input
  pub record WereReached {size most : ℕ} {input left : Option (List ℕ)} (read : WereRead size most input left) (lines : List (List ℕ)) : Type 0 where
    pub are_read : IsFront lines (lines_of f (read.earlier ++ read.block))
    pub are_first : AreFirst lines input

  -- the replies to the lines whose end was read before the last block were written, and then a front of the replies to the next lines
  pub record PlayedFront (size most : ℕ) (replies : List (List ℕ) → List ℕ → Type 0) (input left before after : Option (List ℕ)) : Type 0 where
    pub read : WereRead size most input left
    pub more : List (List ℕ)
    pub reached : WereReached read (ended_lines f read.earlier ++ more)
    pub written : List ℕ
    pub reply : List ℕ
    pub replied_earlier : replies (ended_lines f read.earlier) written
    pub replied : replies (ended_lines f read.earlier ++ more) (written ++ reply)
    pub to_sink : (count : ℕ) × Appends before after (written ++ take count reply)

  -- the replies to all lines before one that makes a cluster were written, among these all whose end was read before the last block
  pub record PlayedBefore (size most : ℕ) (replies : List (List ℕ) → List ℕ → Type 0) (input left before after : Option (List ℕ)) : Type 0 where
    pub read : WereRead size most input left
    pub lines : List (List ℕ)
    pub line : List ℕ
    pub are_later : IsFront (ended_lines f read.earlier) lines
    pub reached : WereReached read (lines ++ line ∷ [])
    pub making : makes_cluster f line ≡ true
    pub written : List ℕ
    pub replied : replies lines written
    pub to_sink : Appends before after written
