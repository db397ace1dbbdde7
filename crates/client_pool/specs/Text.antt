-- How a storm's summary is written.
use Rattle.std.specs.Prelude.{ℕ, ◌+◌, List, [], ◌∷◌, ◌++◌, codes}
use Rattle.std.specs.Fmt.{decimal, signed_decimal}
use Rattle.std.specs.List.{join_by}
use Rattle.json.specs.Print.{quoted}
use Rattle.client_pool.specs.declared.plan.Plan.{Plan}
use Rattle.client_pool.specs.declared.summary.SiteSum.{SiteSum}
use Rattle.client_pool.specs.declared.summary.Summary.{Summary}

-- a word after a space
abbrev pub spaced : ℕ → List ℕ
spaced n = codes " " ++ decimal n

-- the line of the five words
abbrev pub words_line : Plan → List ℕ
words_line plan = codes "storm" ++ spaced plan.sites ++ spaced plan.parts ++ spaced plan.clients ++ spaced plan.txns ++ spaced plan.number ++ codes "\n"

abbrev pub commits_line : ℕ → List ℕ
commits_line n = codes "commits" ++ spaced n ++ codes "\n"

-- the counters of a site, and its names as JSON writes them
abbrev pub site_line : ℕ → SiteSum → List ℕ
site_line d sum = codes "site" ++ spaced d ++ codes " [" ++ join_by signed_decimal (codes ",") sum.counters ++ codes "] [" ++ join_by quoted (codes ",") sum.names ++ codes "]\n"

-- a line for each site, from site d on
abbrev pub site_lines : ℕ → List SiteSum → List ℕ
site_lines d [] = []
site_lines d (sum ∷ sums) = site_line d sum ++ site_lines (d + 1) sums

abbrev pub summary_text : Plan → Summary → List ℕ
summary_text plan summary = words_line plan ++ commits_line summary.commits ++ site_lines 1 summary.sites
