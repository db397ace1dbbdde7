-- What waits at a partition, over the lines of a run: all that is pending there, in order.
use Rattle.std.specs.Prelude.{ℕ, not, if◌then◌else◌, List, [], ◌∷◌, ◌++◌, filter}
use Rattle.site_vector.specs.declared.ids.PartId.{PartId}
use Rattle.site_vector.specs.declared.ids.TxId.{TxId}
use Rattle.site_vector.specs.Ids.{same_part, same_tx}
use Rattle.world_model.specs.declared.step.Step.{Step}
use Rattle.world_model.specs.declared.step.Step.TheVariants as step
use Rattle.world_model.specs.lines.Lines.{Line}

abbrev pub without : TxId → List (TxId × ℕ) → List (TxId × ℕ)
without t xs = filter (λ x. not (same_tx t x.0)) xs

-- a prepare adds at the end, since times rise; a decide, finish or abort takes out; a restart tells anew
abbrev pub waiting_after : List (TxId × ℕ) → Step → List (TxId × ℕ)
waiting_after old (step.Prepared p t n) = old ++ (t, n) ∷ []
waiting_after old (step.Decided p t c) = without t old
waiting_after old (step.Finished p t) = without t old
waiting_after old (step.Aborted p t) = without t old
waiting_after old (step.Restarted p n bounds named listed) = listed
waiting_after old other = old

-- the transactions that wait at p, each with its prepare time
abbrev pub waiting : List Line → PartId → List (TxId × ℕ)
waiting [] p = []
waiting (l ∷ ls) p = if same_part l.at p then waiting_after (waiting ls p) l.step else waiting ls p
