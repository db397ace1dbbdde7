use Rattle.std.proofs.Common.{rules, ◌∙◌, ◌∷◌, [], ◌++◌, ap}
use Rattle.cluster.proofs.Applying.{map_ok}
use Rattle.cluster.proofs.commits.end_once.Goals as goal

pub returns-in-Some : goal.returns-in-Some
returns-in-Some g c = map_ok c.step_on.result (λ goes f. record {
  line = f.line;
  added = f.added ∙ ap (λ lines. lines ++ f.line ∷ []) c.reserve.ensures.items;
  is_so = record {
    before = c.in-Some.session.now;
    is = search rules;
    after = c.step_on.new.session;
    put = record { find = λ who. search rules; count = search rules };
    same = c.step_on.ensures.stays;
    does = λ calls seen holds. f.is_so calls seen holds;
  };
}) c.step_on.ensures.made
