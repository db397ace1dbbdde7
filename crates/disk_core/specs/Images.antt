-- What a disk holds, and what a crash may leave of it.
use Rattle.std.specs.Prelude.{◌≡◌, ℕ, ◌+◌, ◌-◌, ◌<◌, ◌≤◌, max, min, nat_le, nat_lt, Bool, false, ◌&&◌, ◌||◌, List, [], ◌∷◌, ◌++◌, length, take, drop, replicate, slice_index}

pub record Content : Type 0 where
  -- what a read gives
  pub bytes : List ℕ
  -- the least and the greatest length since the last sync
  pub least : ℕ
  pub most : ℕ
  -- the place and the length of each write since then
  pub written : List (ℕ × ℕ)

-- this place stands in one of the ranges
abbrev pub is_written : List (ℕ × ℕ) → ℕ → Bool
is_written [] i = false
is_written (range ∷ ranges) i = (nat_le range.0 i && nat_lt i (range.0 + range.1)) || is_written ranges i

-- A crash may leave these bytes: any in a written range and past the least length, all others as they are read, at any length between the two.
pub record Image (content : Content) (image : List ℕ) : Type 0 where
  pub no_shorter : content.least ≤ length image
  pub no_longer : length image ≤ content.most
  pub stays : (i : ℕ) → i < content.least → is_written content.written i ≡ false → slice_index image i ≡ slice_index content.bytes i

-- these bytes from this place on, over the old ones and past their end
abbrev pub overwritten : ℕ → List ℕ → List ℕ → List ℕ
overwritten at new old = take at old ++ new ++ drop (at + length new) old

-- with zeros up to this length
abbrev pub padded : ℕ → List ℕ → List ℕ
padded end old = old ++ replicate (end - length old) 0

abbrev pub after_write : ℕ → List ℕ → Content → Content
after_write at new content = record {
  bytes = overwritten at new content.bytes;
  least = content.least;
  most = max content.most (at + length new);
  written = (at, length new) ∷ content.written;
}

abbrev pub after_cut : ℕ → Content → Content
after_cut len content = record { bytes = take len content.bytes; least = min content.least len; most = content.most; written = content.written }

abbrev pub after_sync : Content → Content
after_sync content = record { bytes = content.bytes; least = length content.bytes; most = length content.bytes; written = [] }

-- After a write of n bytes that failed: what is read may differ in their range and past the old end, and so may what a crash leaves.
pub record IsTorn (at n : ℕ) (old new : Content) : Type 0 where
  pub no_shorter : length old.bytes ≤ length new.bytes
  pub no_longer : length new.bytes ≤ max (length old.bytes) (at + n)
  pub stays : (i : ℕ) → i < length old.bytes → is_written ((at, n) ∷ []) i ≡ false → slice_index new.bytes i ≡ slice_index old.bytes i
  pub least : new.least ≡ old.least
  pub most : new.most ≡ max old.most (at + n)
  pub written : new.written ≡ (at, n) ∷ old.written

-- All that is read is durable, and nothing else can come of a crash.
pub record IsSettled (content : Content) : Type 0 where
  pub least : content.least ≡ length content.bytes
  pub most : content.most ≡ length content.bytes
  pub written : content.written ≡ []

-- what a disk holds that was made of these bytes
abbrev pub settled : List ℕ → Content
settled made_of = record { bytes = made_of; least = length made_of; most = length made_of; written = [] }
