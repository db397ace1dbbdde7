-- A decide in doubt was asked of the lead of its transaction, as the lines tell it.
use Rattle.std.proofs.Common.{◌≡◌, ℕ, ◌∷◌, refl, sym, ap, ◌∙◌, List}
use Rattle.site_vector.specs.declared.ids.PartId.{PartId}
use Rattle.site_vector.specs.declared.ids.TxId.{TxId}
use Rattle.world_model.specs.declared.step.Step.TheVariants as step
use Rattle.world_model.specs.commands.Cluster.{parts_of}
use Rattle.world_model.specs.rules.Event.{IsDown, Event, Decided, Refused, Cut, Entry}
use Rattle.world_model.specs.lines.Lines.{DecideOf}
use Rattle.world_model.specs.rules.Lines.{shown_lines, step_shown}
use Rattle.world_model.specs.commands.Run.{Run}
use Rattle.world_model.specs.commands.ScriptCalls.{calls_of}
use Rattle.world_model.specs.lines.Updates.{lead}
use Rattle.world_model.proofs.Law.{law_world}
use Rattle.world_model.proofs.LineLaws.{lead_eq}
use Rattle.txn_session.specs.Calls.{called, entries}
use Rattle.site_partitions.specs.Held.{Held}
use Rattle.site_partitions.specs.Reaches.{Types}
use Rattle.cluster.specs.Live.{LiveState}
use Rattle.cluster.specs.Reached.{ReachedLive}
use Rattle.cluster.specs.Same.{SameCluster}
use Rattle.cluster.specs.Sees.{Sees}
use Rattle.cluster.proofs.Unchanging.{lead_stays}

module _ {S E D : Type 0} (types : Types S E D) (c : LiveState E D) (run : Run) (r : ReachedLive types c run) (later : Held E D) (same : SameCluster types.state c.sites later) (at : PartId) (by : ℕ) where
  pub decided_at : (e : Event E) → Sees types later (called by at e ∷ r.calls) → (u : TxId) → step_shown (entries r.calls) at e ≡ step.Unsure u → lead (parts_of run) (calls_of run) u ≡ at
  decided_at (Cut (Decided t v)) seen u k =
      let eu : t ≡ u = cc in
      let events : List (Entry E) = (record { at = at; event = Cut (Decided t v) }) ∷ entries r.calls in
      let law = (law_world types.kinds later.sites later.parts events seen.reached.state seen.reached.is_run).0 in
      let told : lead later.parts (shown_lines (entries r.calls)) t ≡ at = sym (lead_stays later.parts (shown_lines (entries r.calls)) at (DecideOf t) (step.Unsure t) (λ time index w. refl) t) ∙ lead_eq types.kinds later.sites later.parts events law t ∙ sym seen.reached.is_run.2.allowed.lead in
      let lines : lead (parts_of run) (calls_of run) t ≡ lead later.parts (shown_lines (entries r.calls)) t = λ i. lead (sym (same.parts_are ∙ r.parts) i) (sym r.shown i) t in
      ap (lead (parts_of run) (calls_of run)) (sym eu) ∙ (lines ∙ told)
  decided_at (Cut what) seen u k = absurd cc
  decided_at (Refused a IsDown) seen u k = absurd cc
  decided_at (Refused a why) seen u k = absurd cc
  decided_at other seen u k = absurd cc
