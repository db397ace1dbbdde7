-- How what was heard lies in an array of sixteen vectors.
use Rattle.std.specs.Prelude.{◌≡◌, ℕ, ◌≤◌, List, length}
use Rattle.stable_gossip.specs.Gossip.{AreWide}

pub record IsLaidOut (sites parts : ℕ) (heard : List (List ℕ)) : Type 0 where
  pub some_site : 1 ≤ sites
  pub most_sites : sites ≤ 8
  pub some_part : 1 ≤ parts
  pub most_parts : parts ≤ 16
  pub whole : length heard ≡ 16
  pub wide : AreWide sites heard
