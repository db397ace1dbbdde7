-- Ends that a partition makes on the word of a lead: what is pending is never gone, and a partition that is up never says it is down.
use Rattle.std.proofs.Common.{◌≡◌, ℕ, true, List, ◌∷◌, sym, ap, ◌∙◌, subst, true≢false}
use Rattle.std.specs.Prelude.{not}
use Rattle.site_vector.specs.declared.ids.PartId.{PartId}
use Rattle.site_vector.specs.declared.ids.TxId.{TxId}
use Rattle.crdt_core.specs.Log as log
use Rattle.world_model.specs.events.Answers.{IsDueAt}
use Rattle.world_model.specs.rules.Asking.{MayCall}
use Rattle.world_model.specs.rules.Event.{AskFinish, AskAbort, Refused, Entry}
use Rattle.world_model.specs.rules.Partition.{PartState, IsRefused}
use Rattle.world_model.specs.rules.Plan.{Plan}
use Rattle.world_model.specs.lines.Places.{IsPlace}
use Rattle.world_model.specs.rules.World.{plan_of}
use Rattle.world_model.specs.events.Causes.{HasCauseAt}
use Rattle.world_model.proofs.Law.{law_world}
use Rattle.world_model.proofs.Told as law
use Rattle.partition_core.specs.declared.answers.Refusal.{Refusal}
use Rattle.partition_core.specs.declared.answers.Refusal.TheVariants as answer
use Rattle.partition_core.specs.Answers.{cause}
use Rattle.partition_core.specs.Durable.{StandsOn, is_down}
use Rattle.site_partitions.specs.Answers.{Any, Asks, AbortsByLead, GoesOn}
use Rattle.site_partitions.specs.Held.{Held}
use Rattle.site_partitions.specs.Moves.{Moves}
use Rattle.site_partitions.specs.Reaches.{Types, Reaches}
use Rattle.cluster.proofs.Ups.{up_of}

module _ {S E D : Type 0} (types : Types S E D) where
  -- what is pending isn't gone
  pending_still : (sites parts : ℕ) (id : PartId) (p : PartState E) (t : TxId) (why : Refusal) → IsRefused types.kinds sites parts id p (AskAbort t) (cause why) → log.pending p.log t ≡ true → ⊥
  pending_still sites parts id p t answer.Gone x h = true≢false (sym h ∙ x.1)
  pending_still sites parts id p t other x h = x.1

  -- who refuses an abort for a cause of its own is up
  is_up : (sites parts : ℕ) (id : PartId) (p : PartState E) (t : TxId) (why : Refusal) → IsRefused types.kinds sites parts id p (AskAbort t) (cause why) → p.up ≡ true
  is_up sites parts id p t answer.Gone x = x.0
  is_up sites parts id p t other x = x.0

  -- a finish is never refused for another cause than that it is gone, and never for that
  unrefused : (plan : Plan E) (run : List (Entry E)) (p : PartId) (t : TxId) (c : List ℕ) (why : Refusal) → IsDueAt {E = E} (Refused (AskFinish t c) (cause why)) → HasCauseAt plan run p (Refused (AskFinish t c) (cause why)) → ⊥
  unrefused plan run p t c answer.Gone d h = h
  unrefused plan run p t c other d h = true≢false (sym d)

  module _ (old new : Held E D) (at : PartId) (t : TxId) (why : Refusal) (run : List (Entry E)) (r : Reaches types old run) where
    pub never_unfinished : (c : List ℕ) → GoesOn types old new (Asks types old Any at (AskFinish t c)) at (AskFinish t c) (λ e. e ≡ Refused (AskFinish t c) (cause why)) → MayCall old.sites old.parts run at (AskFinish t c) → ⊥
    never_unfinished c g may =
        let x = (g.goes run r (may, tt)).0 in
        let reached : Reaches types new ((record { at = at; event = Refused (AskFinish t c) (cause why) }) ∷ run) = subst (λ e. Reaches types new ((record { at = at; event = e }) ∷ run)) x.shows x.reached in
        let law = (law_world types.kinds new.sites new.parts ((record { at = at; event = Refused (AskFinish t c) (cause why) }) ∷ run) reached.state reached.is_run).0 in
        unrefused (plan_of new.sites new.parts ((record { at = at; event = Refused (AskFinish t c) (cause why) }) ∷ run)) run at t c why law.due.0 law.causes.0

    pub never_undropped : GoesOn types old new (AbortsByLead types old at t) at (AskAbort t) (λ e. e ≡ Refused (AskAbort t) (cause why)) → AbortsByLead types old at t run r → (r.state at).up ≡ true → log.pending (r.state at).log t ≡ true → ⊥
    never_undropped g may up waits =
        let x = (g.goes run r may).0 in
        let reached : Reaches types new ((record { at = at; event = Refused (AskAbort t) (cause why) }) ∷ run) = subst (λ e. Reaches types new ((record { at = at; event = e }) ∷ run)) x.shows x.reached in
        let before : PartId → PartState E = reached.is_run.0 in
        let refused : IsRefused types.kinds new.sites new.parts at (before at) (AskAbort t) (cause why) = reached.is_run.2.step.0 in
        let here = (law.told types.kinds old.sites old.parts run r.state r.is_run at).waiting t up in
        let there = (law.told types.kinds new.sites new.parts run before reached.is_run.1 at).waiting t (is_up new.sites new.parts at (before at) t why refused) in
        pending_still new.sites new.parts at (before at) t why refused (there ∙ (sym here ∙ waits))

  -- a partition that is up, which the call finds down
  pub never_down : (old new : Held E D) (at : PartId) → IsPlace old.sites old.parts at → (m : Moves types.state old new at) → is_down m.before ≡ true → (run : List (Entry E)) (r : Reaches types old run) → (r.state at).up ≡ true → ⊥
  never_down old new at place m down run r up =
      let stands = subst (λ t. StandsOn types.codec types.state t (r.state at)) (m.there m.before) (r.each at place m.before).stands in
      true≢false (sym up ∙ (up_of types m.before (r.state at) (is_down m.before) stands ∙ ap not down))
