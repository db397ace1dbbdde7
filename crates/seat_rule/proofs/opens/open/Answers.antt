use Rattle.std.proofs.Common.{sym, subst, ℕ, List, []}
use Rattle.atomic_table.specs.Table.{opening}
use Rattle.seat_rule.specs.Kept.{Kept}
use Rattle.seat_rule.specs.Views.{opened}
use Rattle.seat_rule.specs.Sizes.{places}
use Rattle.seat_rule.proofs.Opening.{begins}
use Rattle.seat_rule.proofs.opens.open.Goals as goal

pub of_words-requires : goal.of_words-requires
of_words-requires g c = subst (λ (ws : List ℕ). Kept (g.F.Law.law c.args.size) (places c.args.size) (opening {S = ℕ} ws [] (opened (places c.args.size)))) (sym c.requires.words) (begins (g.F.Law.law c.args.size) (places c.args.size) c.requires.none)
