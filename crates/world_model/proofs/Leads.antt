-- What a lead tells of a transaction is its fate.
use Rattle.std.proofs.Common.{◌≡◌, ⊎_elim, ℕ, Bool, true, false, not, List, refl, sym, ◌∙◌, subst}
use Rattle.std.proofs.lemmas.Bool.{cases_Bool, false_from_ne_true}
use Rattle.site_vector.specs.declared.ids.PartId.{PartId}
use Rattle.site_vector.specs.declared.ids.TxId.{TxId}
use Rattle.crdt_core.specs.Log.{pending, committed, committed_at}
use Rattle.world_model.specs.rules.Event.{Entry}
use Rattle.world_model.specs.events.Pending.{is_down}
use Rattle.crdt_core.specs.KindsOf.{Kinds}
use Rattle.world_model.specs.rules.Partition.{PartState, ToldPending, ToldCommitted, ToldAborted, ToldDown, fate_of}
use Rattle.world_model.specs.rules.World.{plan_of}
use Rattle.world_model.specs.events.Lawful.{IsLawfulWorld}
use Rattle.world_model.specs.rules.Lines.{shown_lines}
use Rattle.world_model.specs.lines.History.{in_history}
use Rattle.world_model.specs.lines.Pending as lines
use Rattle.world_model.specs.rules.Fate.{IsFate, TellFates}
use Rattle.world_model.proofs.Names.{clash, off}
use Rattle.world_model.proofs.Moves.{image_log}
use Rattle.world_model.proofs.Fate.{Fate, pending_parts}
use Rattle.world_model.proofs.Later.{in_log}
use Rattle.world_model.proofs.Shows.{Shown}
use Rattle.world_model.proofs.LineViews.{in_history_is, vector_is, pending_is, down_is}
use Rattle.world_model.proofs.LineLaws.{lead_eq}

was_not : (b : Bool) → not b ≡ false → b ≡ true
was_not true h = refl
was_not false h = off (sym h)

module _ {S E : Type 0} (kinds : Kinds S E) (sites parts : ℕ) (run : List (Entry E)) (state : PartId → PartState E) (f : Fate (plan_of sites parts run) run state) (w : Shown (plan_of sites parts run) run state) (ups : (p : PartId) → (state p).up ≡ not (is_down run p)) where
  -- what its lead hasn't committed isn't decided
  undecided : (t : TxId) → committed (state ((plan_of sites parts run).lead t)).log t ≡ false → in_history (shown_lines run) t ≡ false
  undecided t c =
      let p = (plan_of sites parts run).lead t in
      in_history_is run t ∙ false_from_ne_true _ (λ d. clash (f.stays (state p).log t (image_log (state p)) d) c)

  shown : (t : TxId) → (state ((plan_of sites parts run).lead t)).up ≡ true → (b : Bool) → pending (state ((plan_of sites parts run).lead t)).log t ≡ b → lines.pending (shown_lines run) ((plan_of sites parts run).lead t) t ≡ b
  shown t u b k = let p = (plan_of sites parts run).lead t in pending_is run p t ∙ sym (w.waiting p t u) ∙ k

  told : (t : TxId) → IsFate (shown_lines run) ((plan_of sites parts run).lead t) t (fate_of (state ((plan_of sites parts run).lead t)) t)
  told t =
      let p = (plan_of sites parts run).lead t in
      let log = (state p).log in
      ⊎_elim
      (λ (u : (state p).up ≡ true). ⊎_elim
      (λ (k : pending log t ≡ true).
      let e : fate_of (state p) t ≡ ToldPending = rw (u, k) refl in
      subst (IsFate (shown_lines run) p t) (sym e) (undecided t (pending_parts log t k).committed, shown t u true k))
      (λ (k : pending log t ≡ false). ⊎_elim
      (λ (c : committed log t ≡ true).
      let e : fate_of (state p) t ≡ ToldCommitted (committed_at log t) = rw (u, k, c) refl in
      subst (IsFate (shown_lines run) p t) (sym e) (in_history_is run t ∙ in_log (plan_of sites parts run) run state f p 0 u t c, f.time p log t (image_log (state p)) c ∙ sym (vector_is run t)))
      (λ (c : committed log t ≡ false).
      let e : fate_of (state p) t ≡ ToldAborted = rw (u, k, c) refl in
      subst (IsFate (shown_lines run) p t) (sym e) (undecided t c, shown t u false k))
      (cases_Bool (committed log t)))
      (cases_Bool (pending log t)))
      (λ (u : (state p).up ≡ false).
      let e : fate_of (state p) t ≡ ToldDown = rw u refl in
      subst (IsFate (shown_lines run) p t) (sym e) (down_is run p ∙ was_not (is_down run p) (sym (ups p) ∙ u)))
      (cases_Bool (state p).up)

  pub tell_fates : IsLawfulWorld kinds (plan_of sites parts run) run → TellFates parts (shown_lines run) state
  tell_fates law t = subst (λ p. IsFate (shown_lines run) p t (fate_of (state p) t)) (sym (lead_eq kinds sites parts run law t)) (told t)
