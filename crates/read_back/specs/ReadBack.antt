-- What a reply shows is read from a script as the same.
use Rattle.std.specs.Prelude.{◌≡◌, ℕ, ◌^◌, ◌<◌, ◌≤◌, ℤ, pos, negsuc, List, [], ◌∷◌, ◌++◌, flat_map, Option, Some}
use Rattle.crdt_core.specs.declared.object.ObjectId.{ObjectId}
use Rattle.world_model.specs.declared.step.Step.{Step}
use Rattle.script_text.specs.Split.{words, space}
use Rattle.script_text.specs.Ends.{HasNoEnd}
use Rattle.script_text.specs.Objects.{object, bucket}
use Rattle.reply_text.specs.Places.{object_text}
use Rattle.reply_text.specs.Text.{text_of, words_of, line_feed}

-- one word of a line, whether more follows or not, and no byte of it ends the line
pub record IsOneWord (w : List ℕ) : Type 0 where
  pub unbroken : HasNoEnd w
  pub followed : (rest : List ℕ) → words (w ++ space ∷ rest) ≡ w ∷ words rest
  pub last : words w ≡ w ∷ []

-- one word of a line, which is read as this
pub record ReadsBack {A : Type 0} (reading : List ℕ → Option A) (w : List ℕ) (a : A) : Type 0 where
  pub one_word : IsOneWord w
  pub same : reading w ≡ Some a

-- what the object's words are read as: the object, and the words of the rest. An object without a bucket takes one that follows.
pub record ReadsBackObject (o : ObjectId) : Type 0 where
  pub followed : (rest : List ℕ) → (o.bucket ≡ [] → bucket (words rest) ≡ Some ([], words rest)) → object (words (object_text o ++ space ∷ rest)) ≡ Some (o, words rest)
  pub last : object (words (object_text o)) ≡ Some (o, [])

-- what a step shows is one line, with the words of each thing shown
pub record IsOneLine (s : Step) : Type 0 where
  pub line : List ℕ
  pub ended : text_of s ≡ line ++ line_feed ∷ []
  pub unbroken : HasNoEnd line
  pub cut : words line ≡ flat_map words (words_of s)

-- an amount that a script may name, from -2^31 to 2^31 - 1
abbrev pub IsAmount : ℤ → Type 0
IsAmount (pos n) = n < 2 ^ 31
IsAmount (negsuc n) = n < 2 ^ 31

-- a place that a script may name: a site from 1 to 8, and a partition from 1 to 16
pub record MayName (site part : ℕ) : Type 0 where
  pub some_site : 1 ≤ site
  pub last_site : site ≤ 8
  pub some_part : 1 ≤ part
  pub last_part : part ≤ 16
