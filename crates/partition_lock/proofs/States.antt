-- A trace without restarts leaves one state, and what stands in an order stands in a trace.
use Rattle.std.proofs.Common.{◌≡◌, ⊎_elim, inl, inr, ℕ, Bool, true, false, List, [], ◌∷◌, length, refl, sym, ap, ◌∙◌, subst}
use Rattle.std.specs.Prelude.{◌||◌, cond}
use Rattle.std.proofs.lemmas.Bool.{cond-true, or_left, or_right}
use Rattle.site_vector.specs.declared.ids.PartId.{PartId}
use Rattle.site_vector.specs.declared.ids.TxId.{TxId}
use Rattle.site_vector.specs.Ids.{same_part}
use Rattle.site_vector.specs.Order.{same_part_refl}
use Rattle.crdt_core.specs.KindsOf.{Kinds}
use Rattle.world_model.specs.rules.Event.{Event, Crashed, RestartCut, Restarted, Opened, Refused, Cut}
use Rattle.world_model.specs.rules.Partition.{PartState, PartStep}
use Rattle.world_model.specs.rules.Traces.{IsTrace}
use Rattle.world_model.specs.rules.World.{is_begin, begun}
use Rattle.world_model.proofs.Names.{clash}
use Rattle.world_model.proofs.Carrying.{any_in, or_none}
use Rattle.world_model.proofs.Standing.{Is}
use Rattle.world_model.specs.threads.Marks.{Mark, Stands, entries_of, events, made_at, is_restarted}
use Rattle.world_model.specs.threads.AreTraces.{AreTraces}

module _ {E : Type 0} where
  -- but for a restart a step leaves one state
  pub one_step : {S : Type 0} (kinds : Kinds S E) (sites parts : ℕ) (at : PartId) (p q o : PartState E) (event : Event E) → is_restarted event ≡ false → PartStep kinds sites parts at p event q → PartStep kinds sites parts at p event o → q ≡ o
  one_step kinds sites parts at p q o (Cut a) n x y = x.2 ∙ sym y.2
  one_step kinds sites parts at p q o Crashed n x y = x ∙ sym y
  one_step kinds sites parts at p q o RestartCut n x y = x ∙ sym y
  one_step kinds sites parts at p q o (Restarted a b named listed) n x y = clash refl n
  one_step kinds sites parts at p q o (Opened who) n x y = x ∙ sym y
  one_step kinds sites parts at p q o (Refused asked why) n x y = x.1 ∙ sym y.1
  one_step kinds sites parts at p q o event n x y = x.2 ∙ sym y.2

  one_state : {S : Type 0} (kinds : Kinds S E) (sites parts : ℕ) (at : PartId) (trace : List (Event E)) (q o : PartState E) → any_in is_restarted trace ≡ false → IsTrace kinds sites parts at trace q → IsTrace kinds sites parts at trace o → q ≡ o
  one_state kinds sites parts at [] q o n x y = x ∙ sym y
  one_state kinds sites parts at (event ∷ trace) q o n x y =
      let k = or_none (is_restarted event) (any_in is_restarted trace) n in
      let i = one_state kinds sites parts at trace x.0 y.0 k.1 x.1 y.1 in
      one_step kinds sites parts at y.0 q o event k.0 (subst (λ s. PartStep kinds sites parts at s event q) i x.2) y.2

  none_restarts : (xs : List (Mark E)) → ((k : ℕ) (f : Mark E) → Stands xs k f → is_restarted f.event ≡ false) → any_in is_restarted (events xs) ≡ false
  none_restarts [] h = refl
  none_restarts (x ∷ xs) h = ap (λ b. b || any_in is_restarted (events xs)) (h (length xs) x (inl (refl, refl))) ∙ none_restarts xs (λ k f s. h k f (inr s))

  -- a trace of a world of threads leaves one state
  pub state_is : {S : Type 0} (kinds : Kinds S E) (sites parts : ℕ) (traces : PartId → List (Mark E)) (state : PartId → PartState E) → AreTraces kinds sites parts traces state → (at : PartId) (s : PartState E) → IsTrace kinds sites parts at (events (traces at)) s → state at ≡ s
  state_is kinds sites parts traces state a at s x = one_state kinds sites parts at (events (traces at)) (state at) s (none_restarts (traces at) (λ k f h. a.unbroken at k f h)) (a.steps at) x

  -- what stands in an order stands among its partition's steps
  pub is_made_at : (ms : List (Mark E)) (f : Mark E) → Is f ms → Is f (made_at f.at ms)
  is_made_at [] f h = absurd h
  is_made_at (x ∷ ms) f h = ⊎_elim
      (λ (k : x ≡ f). subst (λ l. Is f l) (sym (cond-true (same_part x.at f.at) (x ∷ made_at f.at ms) (made_at f.at ms) (subst (λ (y : Mark E). same_part x.at y.at ≡ true) k (same_part_refl x.at)))) (inl k))
      (λ (k : Is f ms). more (same_part x.at f.at) (is_made_at ms f k))
      h
    where
      more : (b : Bool) → Is f (made_at f.at ms) → Is f (cond b (x ∷ made_at f.at ms) (made_at f.at ms))
      more true k = inr k
      more false k = k

  pub is_begun : (ms : List (Mark E)) (f : Mark E) (t : TxId) → Is f ms → is_begin f.event t ≡ true → begun (entries_of ms) t ≡ true
  is_begun [] f t i h = absurd i
  is_begun (x ∷ ms) f t i h = ⊎_elim (λ (k : x ≡ f). or_left _ _ (ap (λ (y : Mark E). is_begin y.event t) k ∙ h)) (λ (k : Is f ms). or_right _ _ (is_begun ms f t k h)) i
