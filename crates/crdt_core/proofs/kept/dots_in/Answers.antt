use Rattle.std.proofs.Common.{◌≡◌, ◌∙◌, sym, rules}
use Rattle.std.specs.Map.{keys_of}
use Rattle.site_vector.specs.Order.{dot_cmp_total, dot_cmp_exact}
use Rattle.crdt_core.proofs.Trees.{keys_again}
use Rattle.crdt_core.proofs.kept.dots_in.Goals as goal

pub returns : goal.returns
returns g c =
    let listed : c.in_ok-dots.dots.items ≡ keys_of c.args.entries.now.entries = search rules in
    c.of_ascending.ensures ∙ listed ∙ sym (keys_again dot_cmp_total dot_cmp_exact c.args.entries.now.entries c.keys.ensures.ordered)
