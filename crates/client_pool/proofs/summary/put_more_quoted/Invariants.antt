use Rattle.std.proofs.Common.{◌≡◌, ◌++◌, take, codes}
use Rattle.std.specs.List.{flat_map}
use Rattle.json.specs.Print.{quoted}
use Rattle.client_pool.proofs.summary.put_more_quoted.Given as goal

abbrev pub invariant-loop-text : goal.invariant-loop-text
invariant-loop-text l = l.out.items ≡ l.fn.out.items ++ flat_map (λ t. codes "," ++ quoted t) (take l.text-index l.texts)
