use Rattle.std.proofs.Common.{◌≡◌, reverse, take, sym, ap, ◌∙◌, subst}
use Rattle.std.specs.HashSet.{contains}
use Rattle.site_vector.specs.declared.ids.TxId.{TxId}
use Rattle.site_vector.specs.Ids.{same_tx}
use Rattle.crdt_core.specs.Log.{aborted}
use Rattle.log_recovery.proofs.Keeping.{read_more, aborts_none, aborts_one}
use Rattle.log_recovery.proofs.condenser.aborted_in.Goals as goal
use Rattle.log_recovery.proofs.condenser.aborted_in.Goals.{in-Some+in_ok-insert, in_default}

pub loop-next-preserved : goal.loop-next-preserved
loop-next-preserved g c =
    let r = c.next-item.result in
    let log = reverse (take c.loop-next.next-index c.args.records.now) in
    let before = contains same_tx c.loop-next.all in
    subst (λ l. (u : TxId) → contains same_tx c.match-aborted_by.all u ≡ aborted l u) (sym (read_more c.args.records.now c.loop-next.next-index r c.loop-next-test.true c.next-item.is))
    (elim c.match-aborted_by.branch [
      | in-Some+in_ok-insert w ↦ aborts_one before (contains same_tx c.match-aborted_by.all) w.in-Some.tx r log (sym w.in-Some.is ∙ c.aborted_by.ensures) c.loop-next.invariant (λ u. ap (λ s. contains same_tx s u) w.all-is ∙ w.in_ok-insert.ensures.updates.0 u)
      | in_default w ↦ aborts_none before (contains same_tx c.match-aborted_by.all) r log w.in_default.ensures c.loop-next.invariant (λ u. ap (λ s. contains same_tx s u) w.all-is)
    ])
