-- What waits at a partition is all that is pending there, over the lines of a run.
use Rattle.std.specs.Prelude.{◌≡◌, ℕ, List}
use Rattle.site_vector.specs.declared.ids.PartId.{PartId}
use Rattle.site_vector.specs.declared.ids.TxId.{TxId}
use Rattle.world_model.specs.lines.Listed.{names_pending, IsBefore, AreInOrder, AreTimed}
use Rattle.world_model.specs.lines.Lines.{Line}
use Rattle.world_model.specs.lines.Pending.{pending, prepare_time}

-- all that are pending at p, each once, by prepare time and then by id
pub record ArePending (ls : List Line) (p : PartId) (listed : List (TxId × ℕ)) : Type 0 where
  pub members : (t : TxId) → names_pending listed t ≡ pending ls p t
  pub times : AreTimed (prepare_time ls p) listed
  pub order : AreInOrder IsBefore listed
