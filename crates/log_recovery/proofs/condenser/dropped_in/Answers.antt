use Rattle.std.proofs.Common.{◌≡◌, ◌&&◌, reverse, take, sym, ap, ◌∙◌, subst}
use Rattle.std.specs.HashSet.{contains}
use Rattle.std.proofs.lemmas.List.{take_all}
use Rattle.site_vector.specs.declared.ids.TxId.{TxId}
use Rattle.site_vector.specs.Ids.{same_tx}
use Rattle.crdt_core.specs.Log.{prepared}
use Rattle.log_recovery.proofs.Keeping.{read_more, drops_none, drops_other, drops_one}
use Rattle.log_recovery.proofs.condenser.dropped_in.Goals as goal
use Rattle.log_recovery.proofs.condenser.dropped_in.Goals.{in-Some+then-contains+in_ok-insert, in-Some+else-contains, in_default}

pub loop-next-preserved : goal.loop-next-preserved
loop-next-preserved g c =
    let r = c.next-item.result in
    let log = reverse (take c.loop-next.next-index c.args.records.now) in
    let before = contains same_tx c.loop-next.all in
    let after = contains same_tx c.match-prepared_by.all in
    let ended = contains same_tx c.in_ok-ended.ended in
    subst (λ l. (u : TxId) → after u ≡ (prepared l u && ended u)) (sym (read_more c.args.records.now c.loop-next.next-index r c.loop-next-test.true c.next-item.is))
    (elim c.match-prepared_by.branch [
      | in-Some+then-contains+in_ok-insert w ↦ drops_one before after ended w.in-Some.tx r log (sym w.in-Some.is ∙ c.prepared_by.ensures) (sym w.contains.ensures ∙ w.if-contains.true) c.loop-next.invariant (λ u. ap (λ s. contains same_tx s u) w.all-is ∙ w.in_ok-insert.ensures.updates.0 u)
      | in-Some+else-contains w ↦ drops_other before after ended w.in-Some.tx r log (sym w.in-Some.is ∙ c.prepared_by.ensures) (sym w.contains.ensures ∙ w.if-contains.false) c.loop-next.invariant (λ u. ap (λ s. contains same_tx s u) w.all-is)
      | in_default w ↦ drops_none before after ended r log w.in_default.ensures c.loop-next.invariant (λ u. ap (λ s. contains same_tx s u) w.all-is)
    ])

pub returns : goal.returns
returns g c = λ u.
    c.loop-next.invariant u ∙ ap (λ l. prepared (reverse l) u && contains same_tx c.in_ok-ended.ended u) (take_all c.loop-next.next-index c.args.records.now c.loop-next-test.false)
    ∙ ap (λ b. prepared (reverse c.args.records.now) u && b) (c.in_ok-ended.ensures u)
