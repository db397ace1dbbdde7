-- What a partition made for a session can be put into a log.
use Rattle.std.proofs.Common.{◌≡◌, ℕ, ◌≤◌, true, List, sym, subst, Option, Result, Ok}
use Rattle.std.specs.Prelude.{nat_le, IfOk}
use Rattle.field_codec.specs.FormLaws.{and_true, le_holds}
use Rattle.site_vector.specs.declared.ids.Dot.{Dot}
use Rattle.site_vector.specs.declared.ids.PartId.{PartId}
use Rattle.site_vector.specs.declared.ids.TxId.{TxId}
use Rattle.crdt_core.specs.declared.object.ObjectId.{ObjectId}
use Rattle.crdt_core.specs.declared.operation.Op.{Op}
use Rattle.crdt_core.specs.declared.record.Upd.{Upd}
use Rattle.crdt_core.specs.EffectForm.{IsReady}
use Rattle.crdt_core.specs.Spelled.{is_between, is_tx}
use Rattle.log_records.specs.Updates.{can_put_update}
use Rattle.world_model.specs.rules.Event.{AskUpdate}
use Rattle.world_model.specs.rules.Partition.{PartState}
use Rattle.world_model.proofs.Whole.{shown_begun}
use Rattle.partition_core.specs.Durable.{Durable, StandsOn}
use Rattle.partition_core.specs.Numbered.{are_numbered}
use Rattle.site_partitions.specs.Asked.{IsAskable}
use Rattle.site_partitions.specs.Reaches.{Types}
use Rattle.site_partitions.proofs.Asking.{tx_of}
use Rattle.site_partitions.proofs.Changes.{own_numbered}

of_ok : {A X : Type 0} (P : A → Type 0) (r : Result A X) (x : A) → r ≡ Ok x → IfOk r P → P x
of_ok P r x e p = subst (λ y. IfOk y P) e p

module _ {S E D : Type 0} (w : Types S E D) (sites parts : ℕ) (at : PartId) (t : Durable E D) (tx : TxId) (s : List ℕ) (o : ObjectId) (own : List (Upd E)) (op : Op) (index : ℕ) (may : IsAskable w sites parts at t (AskUpdate tx s o own op)) where
  spelled : is_tx tx ≡ true
  spelled = tx_of w sites parts at t (AskUpdate tx s o own op) may tx (shown_begun may.run _ may.allowed.0.who may.allowed.0.dependency tx s may.allowed.0.begun)

  own_is : are_numbered own ≡ true
  own_is = subst (λ us. are_numbered us ≡ true) (sym may.allowed.0.earlier) (own_numbered w sites parts may.run may.state may.is_run may.puts tx at o)

  -- by what the partition promises of the effect
  pub ready_put : w.kinds.has o.kind ≡ true → 1 ≤ index → index ≤ 256 → (sets : E → List (List Dot)) (spelling : E → List ℕ) {X : Type 0} (r : Result (E × Option ℕ) X) (x : E × Option ℕ) → r ≡ Ok x
      → ((p : PartState E) → StandsOn w.codec w.state t p → is_tx tx ≡ true → are_numbered own ≡ true → IfOk r (λ y. IsReady w.is_of w.can_put sets spelling o.kind op.path op.act y.0))
      → can_put_update w.kinds.has w.is_of w.can_put (record { object = o; index = index; effect = x.0 }) ≡ true
  ready_put has least most sets spelling r x e ready =
      let h = of_ok (λ y. IsReady w.is_of w.can_put sets spelling o.kind op.path op.act y.0) r x e (ready (may.state at) may.stands.stands spelled own_is) in
      and_true (is_between 1 256 index) _ (and_true (nat_le 1 index) (nat_le index 256) (le_holds 1 index least) (le_holds index 256 most))
      (and_true (w.kinds.has o.kind) _ has (and_true (w.is_of o.kind x.0) (w.can_put x.0) h.kind h.fit))
