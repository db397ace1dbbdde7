-- Lists of transactions with their times: who is named, and by which times.
use Rattle.std.proofs.Common.{◌≡◌, ℕ, Bool, true, false, ◌||◌, List, [], ◌∷◌, refl, ◌∙◌}
use Rattle.std.proofs.lemmas.Bool.{or_left}
use Rattle.site_vector.specs.declared.ids.TxId.{TxId}
use Rattle.site_vector.specs.Ids.{same_tx}
use Rattle.site_vector.specs.Order.{same_tx_refl}
use Rattle.crdt_core.specs.declared.record.Record.{Record}
use Rattle.crdt_core.specs.Log.{prepare_time}
use Rattle.world_model.specs.lines.Listed.{AreTimed, names_pending}
use Rattle.world_model.specs.rules.Partition as partition

pub names_first : (x : TxId × ℕ) (xs : List (TxId × ℕ)) → names_pending (x ∷ xs) x.0 ≡ true
names_first x xs = or_left (same_tx x.0 x.0) (names_pending xs x.0) (same_tx_refl x.0)

pub names_later : (b c : Bool) → c ≡ true → (b || c) ≡ true
names_later true c h = refl
names_later false c h = h

-- times that are the same for all that are named
pub timed_as : (time other : TxId → ℕ) (xs : List (TxId × ℕ)) → ((t : TxId) → names_pending xs t ≡ true → time t ≡ other t) → AreTimed time xs → AreTimed other xs
timed_as time other [] e h = tt
timed_as time other (x ∷ xs) e h = (h.0 ∙ e x.0 (names_first x xs), timed_as time other xs (λ t k. e t (names_later (same_tx x.0 t) (names_pending xs t) k)) h.1)

pub timed_in : {E : Type 0} (log : List (Record E)) (xs : List (TxId × ℕ)) → partition.AreTimed log xs → AreTimed (prepare_time log) xs
timed_in log [] h = tt
timed_in log (x ∷ xs) h = (h.0, timed_in log xs h.1)
