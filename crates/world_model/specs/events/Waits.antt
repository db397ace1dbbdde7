-- Who waits at a partition: no transaction that began with a stable snapshot.
use Rattle.std.specs.Prelude.{◌≡◌, Bool, false, if◌then◌else◌, List, [], ◌∷◌, ⊤}
use Rattle.site_vector.specs.declared.ids.TxId.{TxId}
use Rattle.site_vector.specs.Ids.{same_tx}
use Rattle.world_model.specs.rules.Event.{AskRead, AskUpdate, AskPrepare, ClockBehind, TxPending, Event, Began, Refused, Entry}

module _ {E : Type 0} where
  abbrev pub stable_by : TxId → Bool → Event E → Bool
  stable_by t old (Began who wish u s) = if same_tx u t then wish.stable else old
  stable_by t old other = old

  -- t began with a stable snapshot
  abbrev pub began_stable : List (Entry E) → TxId → Bool
  began_stable [] t = false
  began_stable (e ∷ run) t = stable_by t (began_stable run t) e.event

  -- a wait for the clock, or for what is pending
  abbrev pub WaitsFresh : List (Entry E) → Event E → Type 0
  WaitsFresh run (Refused (AskRead t s o own) (ClockBehind n)) = began_stable run t ≡ false
  WaitsFresh run (Refused (AskRead t s o own) (TxPending u n)) = began_stable run t ≡ false
  WaitsFresh run (Refused (AskUpdate t s o own op) (ClockBehind n)) = began_stable run t ≡ false
  WaitsFresh run (Refused (AskUpdate t s o own op) (TxPending u n)) = began_stable run t ≡ false
  WaitsFresh run (Refused (AskPrepare t s l w) (ClockBehind n)) = began_stable run t ≡ false
  WaitsFresh run other = ⊤

  abbrev pub WaitFresh : List (Entry E) → Type 0
  WaitFresh [] = ⊤
  WaitFresh (e ∷ run) = WaitsFresh run e.event × WaitFresh run
