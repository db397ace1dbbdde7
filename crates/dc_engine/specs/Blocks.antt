-- How a script is read block by block.
use Rattle.std.specs.Prelude.{◌≡◌, ◌≢◌, ℕ, zero, suc, ◌+◌, ◌-◌, ◌≤◌, Result, Ok, Err, Bool, true, false, List, [], ◌∷◌, ◌++◌, length, take, Option}
use Rattle.std.specs.Io.KnownBytes.{Appends, Consumes, IsAtEnd}
use Rattle.dc_engine.specs.Replies.{Replies, RepliesBefore}
use Rattle.dc_engine.specs.Played.{Played, PlayedEnded, PlayedTooLong, PlayedFront, PlayedBefore}
use Rattle.dc_engine.specs.Reading.{makes_cluster}
use Rattle.dc_engine.specs.declared.fault.Fault.{Fault}
use Rattle.dc_engine.specs.declared.fault.Fault.TheVariants as fault
use Rattle.dc_engine.specs.declared.framing.Framing.{Framing}
use Rattle.dc_engine.specs.declared.script.place.Place.{Place}
use Rattle.dc_engine.specs.declared.script.place.Place.TheVariants as place
use Rattle.dc_engine.specs.Ends.{Goes}
use Rattle.dc_engine.specs.Lines.{onto, onto_first, meets, ends, kept, lines_from, lines_of, ended_from, ended_lines}

-- bytes at the front of the first line, which they begin where there is none
abbrev pub prefixed : List ℕ → List (List ℕ) → List (List ℕ)
prefixed [] lines = lines
prefixed (b ∷ bytes) lines = onto b (prefixed bytes lines)

-- bytes at the front of the first line, where there is one
abbrev pub prefixed_first : List ℕ → List (List ℕ) → List (List ℕ)
prefixed_first [] lines = lines
prefixed_first (b ∷ bytes) lines = onto_first b (prefixed_first bytes lines)

-- what is kept of a line whose end hasn't come: its first bytes, and the place up to which it was read
pub record Begun : Type 0 where
  pub first : List ℕ
  pub at : Place

abbrev pub none_begun : Begun
none_begun = record { first = []; at = place.Start }

-- a front of the bytes was written
abbrev pub AppendsFront : Option (List ℕ) → Option (List ℕ) → List ℕ → Type 0
AppendsFront before after bytes = (n : ℕ) × Appends before after (take n bytes)

-- one byte more was taken, or the end was met
abbrev pub TakesOne : Option (List ℕ) → Option (List ℕ) → Bool → Type 0
TakesOne left rest true = (next : ℕ) × Consumes left rest (next ∷ [])
TakesOne left rest false = Consumes left rest [] × IsAtEnd rest

module _ (f : Framing) where
  -- the bytes read are these lines, each with its end, and then a line that is pending, up to this place, of which more may come
  pub record IsDivided (read : List ℕ) (lines : List (List ℕ)) (pending : List ℕ) (at : Place) : Type 0 where
    pub ended : (more : List ℕ) → ended_lines f (read ++ more) ≡ lines ++ prefixed_first pending (ended_from f at more)
    pub whole : (more : List ℕ) → lines_of f (read ++ more) ≡ lines ++ prefixed pending (lines_from f at more)

  -- m has answered the lines whose end was read with these bytes, and of the pending line this is kept
  pub record At {M : Type 0} (reached : M → List (List ℕ) → List ℕ → Type 0) (m : M) (read : List ℕ) (begun : Begun) (bytes : List ℕ) : Type 0 where
    pub lines : List (List ℕ)
    pub pending : List ℕ
    pub divided : IsDivided read lines pending begun.at
    pub is_begun : begun.first ≡ take 4099 pending
    pub replied : reached m lines bytes

  -- fresh bytes lead from one state to another, and add a reply
  pub record Moves {M : Type 0} (reached : M → List (List ℕ) → List ℕ → Type 0) (old new : M) (fresh : List ℕ) (old_begun new_begun : Begun) (old_out new_out : List ℕ) : Type 0 where
    pub reply : List ℕ
    pub appended : new_out ≡ old_out ++ reply
    pub moved : (read bytes : List ℕ) → At reached old read old_begun bytes → At reached new (read ++ fresh) new_begun (bytes ++ reply)

  -- a front of the fresh bytes does
  pub record MovesFront {M : Type 0} (reached : M → List (List ℕ) → List ℕ → Type 0) (old : M) (fresh : List ℕ) (old_begun : Begun) (old_out new_out : List ℕ) : Type 0 where
    pub new : M
    pub done : List ℕ
    pub later : List ℕ
    pub new_begun : Begun
    pub split : fresh ≡ done ++ later
    pub moves : Moves reached old new done old_begun new_begun old_out new_out

  -- all fresh bytes before a line that makes a cluster do, where none stands, and this byte ends that line
  pub record MovesBefore {M : Type 0} (reached : M → List (List ℕ) → List ℕ → Type 0) (lacks : M → Type 0) (old : M) (fresh : List ℕ) (old_begun : Begun) (old_out new_out : List ℕ) : Type 0 where
    pub new : M
    pub done : List ℕ
    pub piece : List ℕ
    pub last : ℕ
    pub later : List ℕ
    pub new_begun : Begun
    pub behind : Place
    pub counts : Bool
    pub split : fresh ≡ done ++ (piece ++ last ∷ later)
    pub leads : Goes f new_begun.at piece behind
    pub met : meets f behind last ≡ ends counts
    pub making : makes_cluster f (take 4099 (new_begun.first ++ (piece ++ kept counts last))) ≡ true
    pub moves : Moves reached old new done old_begun new_begun old_out new_out
    pub lacks_cluster : lacks new

  -- fresh bytes lead from one state to another, and the replies were written
  pub record Writes {M : Type 0} (reached : M → List (List ℕ) → List ℕ → Type 0) (old new : M) (fresh : List ℕ) (old_begun new_begun : Begun) (before after : Option (List ℕ)) : Type 0 where
    pub reply : List ℕ
    pub to_sink : Appends before after reply
    pub moved : (read bytes : List ℕ) → At reached old read old_begun bytes → At reached new (read ++ fresh) new_begun (bytes ++ reply)

  -- a front of the fresh bytes does, and a front of the replies was written
  pub record WritesFront {M : Type 0} (reached : M → List (List ℕ) → List ℕ → Type 0) (old : M) (fresh : List ℕ) (old_begun : Begun) (before after : Option (List ℕ)) : Type 0 where
    pub new : M
    pub done : List ℕ
    pub later : List ℕ
    pub new_begun : Begun
    pub split : fresh ≡ done ++ later
    pub reply : List ℕ
    pub to_sink : AppendsFront before after reply
    pub moved : (read bytes : List ℕ) → At reached old read old_begun bytes → At reached new (read ++ done) new_begun (bytes ++ reply)

  -- all fresh bytes before a line that makes a cluster do, where none stands, and the replies were written
  pub record WritesBefore {M : Type 0} (reached : M → List (List ℕ) → List ℕ → Type 0) (lacks : M → Type 0) (old : M) (fresh : List ℕ) (old_begun : Begun) (before after : Option (List ℕ)) : Type 0 where
    pub new : M
    pub done : List ℕ
    pub piece : List ℕ
    pub last : ℕ
    pub later : List ℕ
    pub new_begun : Begun
    pub behind : Place
    pub counts : Bool
    pub split : fresh ≡ done ++ (piece ++ last ∷ later)
    pub leads : Goes f new_begun.at piece behind
    pub met : meets f behind last ≡ ends counts
    pub making : makes_cluster f (take 4099 (new_begun.first ++ (piece ++ kept counts last))) ≡ true
    pub reply : List ℕ
    pub to_sink : Appends before after reply
    pub moved : (read bytes : List ℕ) → At reached old read old_begun bytes → At reached new (read ++ done) new_begun (bytes ++ reply)
    pub lacks_cluster : lacks new

  -- at the end of the input all lines are answered, and the last reply was written
  pub record Ends {M : Type 0} (reached : M → List (List ℕ) → List ℕ → Type 0) (old new : M) (begun : Begun) (before after : Option (List ℕ)) : Type 0 where
    pub reply : List ℕ
    pub to_sink : Appends before after reply
    pub moved : (read bytes : List ℕ) → At reached old read begun bytes → reached new (lines_of f read) (bytes ++ reply)

  -- a state has answered the first lines of the bytes read, among them all whose end was read
  pub record AnswersFirst {M : Type 0} (reached : M → List (List ℕ) → List ℕ → Type 0) (m : M) (read bytes : List ℕ) : Type 0 where
    pub more : List (List ℕ)
    pub later : List (List ℕ)
    pub split : lines_of f read ≡ (ended_lines f read ++ more) ++ later
    pub replied : reached m (ended_lines f read ++ more) bytes

  -- at the end of the input a front of the last reply was written
  pub record EndsFront {M : Type 0} (reached : M → List (List ℕ) → List ℕ → Type 0) (old : M) (begun : Begun) (before after : Option (List ℕ)) : Type 0 where
    pub new : M
    pub reply : List ℕ
    pub to_sink : AppendsFront before after reply
    pub moved : (read bytes : List ℕ) → At reached old read begun bytes → AnswersFirst reached new read (bytes ++ reply)

  -- at the end of the input all lines were answered but the last, which makes a cluster where none stands
  pub record EndsBefore {M : Type 0} (lacks : M → Type 0) (old : M) (begun : Begun) (before after : Option (List ℕ)) : Type 0 where
    pub some : begun.first ≢ []
    pub making : makes_cluster f begun.first ≡ true
    pub same : Appends before after []
    pub lacks_cluster : lacks old

  -- all blocks so far were answered; so many bytes may still be read
  pub record Progress {M : Type 0} (most : ℕ) (reached : M → List (List ℕ) → List ℕ → Type 0) (m : M) (input left before after : Option (List ℕ)) (begun : Begun) (room : ℕ) : Type 0 where
    pub read : List ℕ
    pub written : List ℕ
    pub from_source : Consumes input left read
    pub count : length read + room ≡ most
    pub to_sink : Appends before after written
    pub at : At reached m read begun written

  -- how a script that is read by blocks of at most `size` bytes is left at a fault
  abbrev pub Stopped : {M : Type 0} → ℕ → ℕ → (M → List (List ℕ) → List ℕ → Type 0) → (M → Type 0) → Option (List ℕ) → Option (List ℕ) → Option (List ℕ) → Option (List ℕ) → Fault → Type 0
  Stopped size most reached lacks input left before after fault.Read = PlayedEnded f most (Replies reached) input left before after
  Stopped size most reached lacks input left before after fault.TooLong = PlayedTooLong f most (Replies reached) input left before after
  Stopped size most reached lacks input left before after fault.Write = PlayedFront f size most (Replies reached) input left before after
  Stopped size most reached lacks input left before after fault.NoMemory = PlayedFront f size most (Replies reached) input left before after
  Stopped size most reached lacks input left before after fault.NoDisk = PlayedBefore f size most (RepliesBefore reached lacks) input left before after

  -- a script is played to its end, where m has answered it, or left at a fault
  abbrev pub Finished : {M T : Type 0} → ℕ → ℕ → (M → List (List ℕ) → List ℕ → Type 0) → (M → Type 0) → M → Option (List ℕ) → Option (List ℕ) → Option (List ℕ) → Option (List ℕ) → Result T Fault → Type 0
  Finished size most reached lacks m input left before after (Ok done) = Played f most (reached m) input left before after
  Finished size most reached lacks m input left before after (Err e) = Stopped size most reached lacks input left before after e

  -- the script goes on by a block of so many bytes, or is played to its end where there are none, or is left at a fault
  abbrev pub GoesOn : {M : Type 0} → ℕ → ℕ → (M → List (List ℕ) → List ℕ → Type 0) → (M → Type 0) → M → Option (List ℕ) → Option (List ℕ) → Option (List ℕ) → Option (List ℕ) → Begun → ℕ → Result ℕ Fault → Type 0
  GoesOn size most reached lacks m input left before after begun room (Ok zero) = Played f most (reached m) input left before after
  GoesOn size most reached lacks m input left before after begun room (Ok (suc n)) = (suc n ≤ room) × Progress most reached m input left before after begun (room - suc n)
  GoesOn size most reached lacks m input left before after begun room (Err e) = Stopped size most reached lacks input left before after e
