-- What a begin depends on is stable where it began.
use Rattle.std.proofs.Common.{ℕ, ◌≤◌, List, subst}
use Rattle.site_vector.specs.declared.ids.PartId.{PartId}
use Rattle.site_vector.specs.declared.ids.TxId.{TxId}
use Rattle.site_vector.specs.Vector.{entry}
use Rattle.world_model.specs.lines.Lines.{Wish}
use Rattle.world_model.specs.rules.Partition.{PartState, IsOwnStable, OwnEntry, IsBegin, IsStableEnough}

module _ {E : Type 0} where
  pub begin_enough : (sites parts : ℕ) (id : PartId) (p : PartState E) (wish : Wish) (t : TxId) (s : List ℕ) → IsBegin sites parts id p wish t s → IsStableEnough sites parts id p wish
  begin_enough sites parts id p wish t s b = (
    (λ j o. subst (λ x. entry wish.past j ≤ x) (b.stable j o) (b.waited j o)),
    λ c. let x : IsOwnStable parts id p (entry s id.site) × (entry wish.past id.site ≤ entry s id.site) = subst (OwnEntry parts id p wish t.time (entry s id.site)) c b.own in (entry s id.site, x.0, x.1),
  )
