-- What callers of a partition need beside its clauses.
use Rattle.std.proofs.Common.{◌≡◌, true, false, not, ◌&&◌, ◌||◌, List, sym, ap, ◌∙◌, subst, Result, Ok, Err}
use Rattle.std.specs.Prelude.{if◌then◌else◌}
use Rattle.std.proofs.lemmas.Bool.{false_from_ne_true}
use Rattle.site_vector.specs.declared.ids.PartId.{PartId}
use Rattle.site_vector.specs.declared.ids.TxId.{TxId}
use Rattle.site_vector.specs.Ids.{same_part}
use Rattle.site_vector.specs.Order.{same_part_is, same_part_refl}
use Rattle.site_vector.specs.Vector.{entry}
use Rattle.crdt_core.specs.declared.record.Message.{Message}
use Rattle.crdt_core.specs.KindsOf.{Kinds}
use Rattle.crdt_core.specs.Log.{committed, aborted, holds}
use Rattle.crdt_core.specs.Parts.{lists, above}
use Rattle.world_model.specs.rules.Event.{Ask, Event, attempt}
use Rattle.world_model.specs.rules.Event as event
use Rattle.world_model.specs.rules.Partition.{PartState, PartStep}
use Rattle.world_model.specs.rules.Plan.{Plan, IsAllowed, IsFit, WorldStep}
use Rattle.world_model.specs.lines.Places.{IsPlace}
use Rattle.partition_core.specs.declared.answers.Refusal.{Refusal}
use Rattle.partition_core.specs.declared.answers.CallError.{CallError}
use Rattle.partition_core.specs.declared.answers.CallError.TheVariants as call
use Rattle.partition_core.specs.Answers.{Answered, Called}
use Rattle.partition_core.specs.Stands.{Stands, IsNew}
use Rattle.partition_core.specs.Steps.{Stepped}
use Rattle.partition_core.specs.Tables.{Tables, IsSame, knows}
use Rattle.partition_core.proofs.Choices.{or_falses}

module _ {S E A : Type 0} (kinds : Kinds S E) (old : Tables E) (G : PartState E → Type 0) (asked : Ask E) (Shows : A → Event E → Type 0) where
  -- whatever it answered, it is the same partition of the same cluster
  pub answered_same : (r : Result A Refusal) (new : Tables E) → Answered kinds old G asked Shows r new → IsSame old new
  answered_same (Ok x) new h = h.same
  answered_same (Err why) new h = h.same

  pub called_same : (r : Result A CallError) (new : Tables E) → Called kinds old G asked Shows r new → IsSame old new
  called_same (Ok x) new h = h.same
  called_same (Err call.NoMemory) new h = record { id = ap (λ (t : Tables E). t.id) h; sites = ap (λ (t : Tables E). t.sites) h; parts = ap (λ (t : Tables E). t.parts) h }
  called_same (Err (call.Refused why)) new h = h.same

module _ {E : Type 0} (t : Tables E) (p : PartState E) (h : Stands t p) where
  -- a transaction that the log names nowhere isn't one that the partition knows
  pub knows_no_new : (tx : TxId) → IsNew p.log tx → knows t tx ≡ false
  knows_no_new tx n = or_falses _ _ (h.tells.table.members tx ∙ ap (λ b. b && not (committed p.log tx || aborted p.log tx)) n.prepared) (h.tells.store.members tx ∙ or_falses _ _ n.committed n.taken)

  -- nor does it hold what its log doesn't
  pub holds_no_news : (m : Message E) → ((u : TxId) → lists (above m.from (entry p.bounds m.from) m.parts) u ≡ true → holds p.log u ≡ false) → (u : TxId) → lists (above m.from (entry t.bounds m.from) m.parts) u ≡ true → lists t.held u ≡ false
  holds_no_news m f u k = h.tells.store.members u ∙ f u (subst (λ b. lists (above m.from (entry b m.from) m.parts) u ≡ true) (sym h.bounds) k)

module _ {S E : Type 0} (kinds : Kinds S E) where
  -- the states of all partitions, one of them changed
  abbrev pub put : (PartId → PartState E) → PartId → PartState E → PartId → PartState E
  put before at q r = if same_part at r then q else before r

  -- a call's step, where the world allows its event, is a step of the world
  pub world_step : (plan : Plan E) (run : List (event.Entry E)) (before : PartId → PartState E) (at : PartId) (old new : Tables E) (A : Event E → Type 0) (s : Stepped kinds old (before at) A new)
      → old.id ≡ at → old.sites ≡ plan.sites → old.parts ≡ plan.parts → IsPlace plan.sites plan.parts at → IsAllowed plan run before at (attempt s.event) → IsFit kinds s.event
      → WorldStep kinds plan run before (record { at = at; event = s.event }) (put before at s.after)
  world_step plan run before at old new A s a b c place allowed fit =
      let here : put before at s.after at ≡ s.after = ap (λ x. if x then s.after else before at) (same_part_refl at) in
      let step : PartStep kinds plan.sites plan.parts at (before at) s.event s.after =
      subst (λ i. PartStep kinds plan.sites plan.parts i (before at) s.event s.after) a (subst (λ n. PartStep kinds plan.sites n old.id (before at) s.event s.after) c (subst (λ n. PartStep kinds n old.parts old.id (before at) s.event s.after) b s.step)) in record {
        place = place;
        allowed = allowed;
        fit = fit;
        step = subst (λ q. PartStep kinds plan.sites plan.parts at (before at) s.event q) (sym here) step;
        others = λ q ne. ap (λ x. if x then s.after else before q) (false_from_ne_true (same_part at q) (λ k. ne (sym (same_part_is at q k))));
      }
