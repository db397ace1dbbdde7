-- What sets from which elements can be removed keep: of each element, what no later update has taken out.
use Rattle.std.specs.Prelude.{ℕ, Bool, true, false, not, ◌&&◌, cond, ◌==◌, List, [], ◌∷◌, map, filter, Option, unwrap_or}
use Rattle.std.specs.List.{list_any}
use Rattle.std.specs.FinMap.{FinMap, empty, insert, remove, get, entries, len}
use Rattle.site_vector.specs.declared.ids.Dot.{Dot}
use Rattle.crdt_core.specs.Texts.{text_cmp}
use Rattle.crdt_core.specs.DotSet.{has_dot}
use Rattle.crdt_core.specs.Kept.{KeptAt, kept_step, dots_of, is_kept, has_marked, has_unmarked}
use Rattle.crdt_meanings.specs.declared.sets.Named.{Named}

abbrev pub Elements : Type 0
Elements = FinMap text_cmp (KeptAt Bool)

-- what is kept of an element
abbrev pub at : Elements → List ℕ → KeptAt Bool
at m x = unwrap_or (get m x) empty

-- an element of which nothing is kept doesn't stand
abbrev pub put_back : Elements → List ℕ → KeptAt Bool → Elements
put_back m x k = cond (len k == 0) (remove m x) (insert m x k)

-- no element stands
abbrev pub lacks_all : Elements → Bool
lacks_all m = len m == 0

abbrev pub take_one : Elements → Dot → Option Bool → Named → Elements
take_one m d own n = put_back m n.text (kept_step (at m n.text) d n.dots own)

-- each named element in turn
abbrev pub take_named : Elements → Dot → Option Bool → List Named → Elements
take_named m d own [] = m
take_named m d own (n ∷ ns) = take_named (take_one m d own n) d own ns

-- texts with the dots that are kept of them
abbrev pub named_at : Elements → List (List ℕ) → List Named
named_at m xs = map (λ x. record { text = x; dots = dots_of (at m x) }) xs

-- the elements of which what is kept passes a test
abbrev pub passing : (KeptAt Bool → Bool) → Elements → List (List ℕ)
passing test m = map (λ e. e.0) (filter (λ e. test e.1) (entries m))

abbrev pub names_dot : List Named → Dot → Bool
names_dot ns d = list_any (λ n. has_dot n.dots d) ns

abbrev pub keeps_dot : Elements → Dot → Bool
keeps_dot m d = list_any (λ e. is_kept e.1 d) (entries m)

-- the elements that are shown: those that are marked, and where removes win, those alone that nothing unmarked is kept of
abbrev pub shows : Bool → KeptAt Bool → Bool
shows false k = has_marked k
shows true k = has_marked k && not (has_unmarked k)
