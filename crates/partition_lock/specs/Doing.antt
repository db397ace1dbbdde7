-- What the answers of calls tell did what was asked.
use Rattle.std.proofs.Common.{◌≡◌, ℕ, ◌+◌, Bool, true, false, List, refl, sym, subst, Option}
use Rattle.std.specs.Prelude.{⊤}
use Rattle.site_vector.specs.declared.ids.PartId.{PartId}
use Rattle.site_vector.specs.declared.ids.TxId.{TxId}
use Rattle.crdt_core.specs.declared.object.ObjectId.{ObjectId}
use Rattle.crdt_core.specs.declared.operation.Op.{Op}
use Rattle.crdt_core.specs.declared.record.Message.{Message}
use Rattle.crdt_core.specs.declared.record.Part.{Part}
use Rattle.crdt_core.specs.declared.record.Upd.{Upd}
use Rattle.crdt_core.specs.declared.value.Value.{Value}
use Rattle.world_model.specs.lines.Lines.{Wish}
use Rattle.world_model.specs.rules.Event.{Ballot, Ask, AskTick, AskBegin, AskRead, AskUpdate, AskPrepare, AskDecide, AskFinish, AskAbort, AskMessage, AskTake, AskReport, AskHear, Event, Entry, Ticked, Began, Updated, Prepared, Decided, Finished, Aborted, Sent, Took, Reported, Heard, tried}
use Rattle.world_model.specs.rules.Event as event
use Rattle.world_model.specs.rules.Plan.{update_count}
use Rattle.site_partitions.specs.Reaches.{Types}
use Rattle.partition_lock.specs.Answers.{IsDone}

pub plain : false ≡ false
plain = refl

pub nothing : Unit {0}
nothing = tt

module _ {S E D : Type 0} (w : Types S E D) (run : List (Entry E)) where
  done_as : (ask : Ask E) (what e : Event E) → e ≡ what → IsDone w run ask what → IsDone w run ask e
  done_as ask what e h d = subst (IsDone w run ask) (sym h) d

  pub ticked : (r n : ℕ) (e : Event E) → e ≡ Ticked r n → IsDone w run (AskTick r) e
  ticked r n e h = done_as (AskTick r) (Ticked r n) e h (record { asked = refl; plain = refl; done = refl; own_word = refl; fit = tt; new = tt })

  pub began : (who : List ℕ) (wish : Wish) (t : TxId) (s : List ℕ) (e : Event E) → e ≡ Began who wish t s → IsDone w run (AskBegin who wish) e
  began who wish t s e h = done_as (AskBegin who wish) (Began who wish t s) e h (record { asked = refl; plain = refl; done = refl; own_word = refl; fit = tt; new = tt })

  pub read_event : (t : TxId) (s : List ℕ) (o : ObjectId) (own : List (Upd E)) (read : List (Part E)) (v : Value) (e : Event E) → e ≡ event.Read t s o own read v → IsDone w run (AskRead t s o own) e
  read_event t s o own read v e h = done_as (AskRead t s o own) (event.Read t s o own read v) e h (record { asked = refl; plain = refl; done = refl; own_word = refl; fit = tt; new = tt })

  -- an update bears the next number, and comes before any vote
  pub updated : (t : TxId) (s : List ℕ) (o : ObjectId) (own : List (Upd E)) (op : Op) (read : List (Part E)) (x : Upd E) (stamp : Option ℕ) → ((q : PartId) → tried run t q ≡ false) → x.index ≡ update_count run t + 1
      → (e : Event E) → e ≡ Updated t s o own op read x stamp → IsDone w run (AskUpdate t s o own op) e
  updated t s o own op read x stamp early number e h = done_as (AskUpdate t s o own op) (Updated t s o own op read x stamp) e h (record { asked = refl; plain = refl; done = refl; own_word = refl; fit = tt; new = record { early = early; number = number } })

  pub prepared : (t : TxId) (s : List ℕ) (l : Ballot) (us : List (Upd E)) (n : ℕ) (e : Event E) → e ≡ Prepared t s l us n → IsDone w run (AskPrepare t s l us) e
  prepared t s l us n e h = done_as (AskPrepare t s l us) (Prepared t s l us n) e h (record { asked = refl; plain = refl; done = refl; own_word = refl; fit = tt; new = tt })

  pub decided : (t : TxId) (c : List ℕ) (e : Event E) → e ≡ Decided t c → IsDone w run (AskDecide t c) e
  decided t c e h = done_as (AskDecide t c) (Decided t c) e h (record { asked = refl; plain = refl; done = refl; own_word = refl; fit = tt; new = tt })

  pub finished : (t : TxId) (c : List ℕ) (e : Event E) → e ≡ Finished t c → IsDone w run (AskFinish t c) e
  finished t c e h = done_as (AskFinish t c) (Finished t c) e h (record { asked = refl; plain = refl; done = refl; own_word = refl; fit = tt; new = tt })

  pub aborted : (t : TxId) (e : Event E) → e ≡ Aborted t true → IsDone w run (AskAbort t) e
  aborted t e h = done_as (AskAbort t) (Aborted t true) e h (record { asked = refl; plain = refl; done = refl; own_word = refl; fit = tt; new = tt })

  pub took : (number : ℕ) (m : Message E) (e : Event E) → e ≡ Took number m → IsDone w run (AskTake number m) e
  took number m e h = done_as (AskTake number m) (Took number m) e h (record { asked = refl; plain = refl; done = refl; own_word = refl; fit = tt; new = tt })

  pub reported : (b : List ℕ) (e : Event E) → e ≡ Reported b → IsDone w run AskReport e
  reported b e h = done_as AskReport (Reported b) e h (record { asked = refl; plain = refl; done = refl; own_word = refl; fit = tt; new = tt })

  pub heard : (number part : ℕ) (b stable : List ℕ) (e : Event E) → e ≡ Heard number part b stable → IsDone w run (AskHear number part b) e
  heard number part b stable e h = done_as (AskHear number part b) (Heard number part b stable) e h (record { asked = refl; plain = refl; done = refl; own_word = refl; fit = tt; new = tt })
