-- What a crash may leave at each moment of a run of calls.
use Rattle.std.specs.Prelude.{◌≡◌, ℕ, List, [], ◌∷◌, ◌++◌, ⊤}
use Rattle.disk_core.specs.Images.{Content, Image}
use Rattle.disk_core.specs.States.{Story}

-- each image has P
abbrev pub EachImage : (List ℕ → Type 0) → Content → Type 0
EachImage P content = (image : List ℕ) → Image content image → P image

abbrev pub EachImageOfAll : (List ℕ → Type 0) → List Content → Type 0
EachImageOfAll P [] = ⊤
EachImageOfAll P (content ∷ contents) = EachImage P content × EachImageOfAll P contents

-- all that was held, the newest first
abbrev pub contents : Story → List Content
contents story = story.now ∷ story.past

-- A crash at any moment from `old` on, up to `now`, leaves what has P.
pub record AtEachMoment (old now : Story) (P : List ℕ → Type 0) : Type 0 where
  -- what was held since `old`, the newest first
  pub since : List Content
  pub grown : contents now ≡ since ++ contents old
  pub first : EachImage P old.now
  pub each : EachImageOfAll P since
