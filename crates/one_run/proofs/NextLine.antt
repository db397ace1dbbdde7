-- After the same lines the world shows one answer to a call, where no disk fails and none is full.
use Rattle.std.proofs.Common.{◌≡◌, ℕ, Bool, true, false, List, [], ◌∷◌, refl, sym, ap, ◌∙◌, subst}
use Rattle.std.specs.Prelude.{⊤}
use Rattle.site_vector.specs.declared.ids.PartId.{PartId}
use Rattle.crdt_core.specs.KindsOf.{Kinds}
use Rattle.crdt_core.specs.declared.kind.Kind.{Kind}
use Rattle.crdt_core.specs.declared.object.Field.{Field}
use Rattle.crdt_core.specs.declared.value.Value.{Value}
use Rattle.crdt_core.specs.Seen.{Update}
use Rattle.world_model.proofs.Law.{law_world}
use Rattle.world_model.proofs.Names.{clash}
use Rattle.world_model.specs.declared.step.Step.{Step}
use Rattle.world_model.specs.declared.step.Step.TheVariants as step
use Rattle.world_model.specs.lines.Answers.{IsAnswer}
use Rattle.world_model.specs.lines.Causes.{HasCause}
use Rattle.world_model.specs.lines.Fate.{ShowsFate}
use Rattle.world_model.specs.lines.Lines.{Call, Tick, Begin, ReadOf, UpdateOf, PrepareOf, DecideOf, FinishOf, AbortOf, SendTo, TakeOf, Report, HearOf, Crash, Restart, Open, Line}
use Rattle.world_model.specs.lines.Lawful.{IsLawful}
use Rattle.world_model.specs.lines.Restarts.{IsResumed}
use Rattle.world_model.specs.rules.Event.{Entry}
use Rattle.world_model.specs.rules.Lines.{shown_lines}
use Rattle.world_model.specs.rules.Partition.{PartState}
use Rattle.world_model.specs.rules.World.{IsWorldRun}
use Rattle.one_run.specs.Unfailing.{is_of_disk, IsMarked, AreUnfailing}
use Rattle.world_model.specs.lines.Leases.{kept}
use Rattle.one_run.specs.Leases.{ShowsLease}
use Rattle.one_run.specs.Shows.{Shows}
use Rattle.one_run.specs.Tells.{Tells}
use Rattle.one_run.proofs.Leases.{shows_lease}
use Rattle.one_run.proofs.OneLine.{on, one_tick, one_vote, one_decision, one_end, one_abort, one_take, one_crash, one_open, begin_shape, one_begin, read_shape, update_shape, one_read, one_updated, one_shape, send_shape, one_sent, report_shape, one_reported, hear_shape, one_heard}
use Rattle.one_run.proofs.OneRestart.{IsShown, one_restart}

abbrev tail_of : List Line → List Line
tail_of [] = []
tail_of (l ∷ ls) = ls

module _ {S E : Type 0} (kinds : Kinds S E) (sites parts : ℕ) where
  before_of : (l : Line) (ls : List Line) (events : List (Entry E)) (state : PartId → PartState E) → IsWorldRun kinds sites parts events state → shown_lines events ≡ l ∷ ls → Shows kinds sites parts ls
  before_of l ls [] state r e = absurd (cc e)
  before_of l ls (x ∷ run) state r e = record { events = run; state = r.0; is_run = r.1; shown = ap tail_of e }

  -- what was shown before one more line
  pub shows_before : (l : Line) (ls : List Line) → Shows kinds sites parts (l ∷ ls) → Shows kinds sites parts ls
  shows_before l ls h = before_of l ls h.events h.state h.is_run h.shown

  pub lawful_of : (ls : List Line) → Shows kinds sites parts ls → IsLawful kinds.too_deep kinds.meaning sites parts ls
  lawful_of ls h = subst (IsLawful kinds.too_deep kinds.meaning sites parts) h.shown (law_world kinds sites parts h.events h.state h.is_run).2

  -- so the lines of a run of the world are lawful at each moment
  pub tells : (ls : List Line) → Shows kinds sites parts ls → Tells kinds.too_deep kinds.meaning sites parts ls
  tells [] h = tt
  tells (l ∷ ls) h = (lawful_of (l ∷ ls) h, tells ls (shows_before l ls h))

-- only a restart's answer may hang on what a fault left
abbrev pub is_restart : Call → Bool
is_restart Restart = true
is_restart other = false

module _ (too_deep : Kind → List Field → Bool) (meaning : Kind → List Update → Value) (sites parts : ℕ) where
  module _ (ls : List Line) (p : PartId) (number : ℕ) (who : List ℕ) where
    abbrev Next : Call → Step → Type 0
    Next call s = Tells too_deep meaning sites parts (on sites parts ls p call s)

    restart_shape : (calm : AreUnfailing ls) (s : Step) → IsAnswer ls p Restart s → HasCause sites parts (on sites parts ls p Restart s) ls p Restart s → ShowsFate sites parts (on sites parts ls p Restart s) ls p Restart s → ShowsLease ls p Restart s → is_of_disk s ≡ false → IsShown sites parts ls p calm (kept ls p) s
    restart_shape calm (step.Restarted q n b named listed) a c f l d = record { bounds = b; named = named; listed = listed; is = λ i. step.Restarted (a i) (l i) b named listed; resumed = subst (λ (x : PartId × ℕ). IsResumed sites parts ((record { at = p; call = Restart; step = step.Restarted x.0 x.1 b named listed }) ∷ ls) ls p x.1 b named listed) (λ i. (a i, l i)) f }
    restart_shape calm (step.Down q) a c f l d = clash a.1 refl
    restart_shape calm (step.WaitClock q n) a c f l d = absurd c
    restart_shape calm (step.WaitTxn q v n) a c f l d = absurd c
    restart_shape calm (step.WaitStable j n) a c f l d = absurd c
    restart_shape calm (step.Gone q v) a c f l d = absurd c
    restart_shape calm (step.Full n) a c f l d = clash refl d
    restart_shape calm (step.Disk q) a c f l d = clash refl d
    restart_shape calm (step.Unsure v) a c f l d = clash refl d
    restart_shape calm s a c f l d = absurd a

    next_lawful : (call : Call) (s r : Step) → (is_restart call ≡ true → AreUnfailing ls) → Next call s → Next call r → IsLawful too_deep meaning sites parts (on sites parts ls p call s) → IsLawful too_deep meaning sites parts (on sites parts ls p call r) → is_of_disk s ≡ false → is_of_disk r ≡ false → IsMarked call number who s → IsMarked call number who r → s ≡ r
    next_lawful (Tick n) s r calm x y h k d e m o = one_tick sites parts ls p n s h.answers.0 h.causes.0 h.ups.0 d h.clock.0 ∙ sym (one_tick sites parts ls p n r k.answers.0 k.causes.0 k.ups.0 e k.clock.0)
    next_lawful (Begin w dep) s r calm x y h k d e m o = one_begin sites parts ls p w dep s r (begin_shape sites parts ls p w dep s h.answers.0 h.causes.0 h.ups.0 d h.clock.0 h.placed.0 h.fresh.0 h.held.0) (begin_shape sites parts ls p w dep r k.answers.0 k.causes.0 k.ups.0 e k.clock.0 k.placed.0 k.fresh.0 k.held.0)
    next_lawful (ReadOf t o) s r calm x y h k d e m n = one_read sites parts ls p t o ⊤ _ s r (λ a b f g. f ∙ sym g) (read_shape sites parts ls p meaning number who t o s h.answers.0 h.causes.0 h.ups.0 d h.right.0 m) (read_shape sites parts ls p meaning number who t o r k.answers.0 k.causes.0 k.ups.0 e k.right.0 n)
    next_lawful (UpdateOf t o op) s r calm x y h k d e m n = one_read sites parts ls p t o _ _ s r (one_updated sites parts ls p who t o op) (update_shape sites parts ls p meaning number who t o op s h.answers.0 h.causes.0 h.ups.0 d h.right.0 m (h.order.irreflexive t)) (update_shape sites parts ls p meaning number who t o op r k.answers.0 k.causes.0 k.ups.0 e k.right.0 n (k.order.irreflexive t))
    next_lawful (PrepareOf t) s r calm x y h k d e m o = one_vote sites parts ls p t s h.answers.0 h.causes.0 h.ups.0 d h.clock.0 ∙ sym (one_vote sites parts ls p t r k.answers.0 k.causes.0 k.ups.0 e k.clock.0)
    next_lawful (DecideOf t) s r calm x y h k d e m o = one_decision sites parts ls p t s h.answers.0 h.causes.0 h.ups.0 d h.commit.0 ∙ sym (one_decision sites parts ls p t r k.answers.0 k.causes.0 k.ups.0 e k.commit.0)
    next_lawful (FinishOf t) s r calm x y h k d e m o = one_end sites parts ls p t s h.answers.0 h.causes.0 h.ups.0 d ∙ sym (one_end sites parts ls p t r k.answers.0 k.causes.0 k.ups.0 e)
    next_lawful (AbortOf t) s r calm x y h k d e m o = one_abort sites parts ls p t s h.answers.0 h.causes.0 h.ups.0 d h.fates.0 ∙ sym (one_abort sites parts ls p t r k.answers.0 k.causes.0 k.ups.0 e k.fates.0)
    next_lawful (SendTo site asked) s r calm x y h k d e m o = one_shape sites parts ls p _ s r (one_sent sites parts ls p site asked) (send_shape sites parts ls p site asked s h.answers.0 h.causes.0 h.ups.0 d h.streams.0) (send_shape sites parts ls p site asked r k.answers.0 k.causes.0 k.ups.0 e k.streams.0)
    next_lawful (TakeOf w site lo hi) s r calm x y h k d e m o = one_take sites parts ls p w site lo hi number who s h.answers.0 h.causes.0 h.ups.0 d h.streams.0 m ∙ sym (one_take sites parts ls p w site lo hi number who r k.answers.0 k.causes.0 k.ups.0 e k.streams.0 o)
    next_lawful Report s r calm x y h k d e m o = one_shape sites parts ls p _ s r (one_reported sites parts ls p) (report_shape sites parts ls p s h.answers.0 h.causes.0 h.ups.0 d h.streams.0 h.fresh.0) (report_shape sites parts ls p r k.answers.0 k.causes.0 k.ups.0 e k.streams.0 k.fresh.0)
    next_lawful (HearOf w part b) s r calm x y h k d e m o = one_shape sites parts ls p _ s r (one_heard sites parts ls p w part b number) (hear_shape sites parts ls p w part b number who s h.answers.0 h.causes.0 h.ups.0 d h.fresh.0 m) (hear_shape sites parts ls p w part b number who r k.answers.0 k.causes.0 k.ups.0 e k.fresh.0 o)
    next_lawful Crash s r calm x y h k d e m o = one_crash sites parts ls p s h.answers.0 h.causes.0 h.ups.0 d ∙ sym (one_crash sites parts ls p r k.answers.0 k.causes.0 k.ups.0 e)
    next_lawful Restart s r calm x y h k d e m o = one_restart sites parts ls p (calm refl) (kept ls p) s r (restart_shape (calm refl) s h.answers.0 h.causes.0 h.fates.0 (shows_lease ls p Restart s h.leases.0 (calm refl)) d) (restart_shape (calm refl) r k.answers.0 k.causes.0 k.fates.0 (shows_lease ls p Restart r k.leases.0 (calm refl)) e)
    next_lawful Open s r calm x y h k d e m o = one_open sites parts ls p number who s h.answers.0 h.causes.0 h.ups.0 d m ∙ sym (one_open sites parts ls p number who r k.answers.0 k.causes.0 k.ups.0 e o)

    -- so the next line is one
    pub next_line : (call : Call) (s r : Step) → (is_restart call ≡ true → AreUnfailing ls) → Next call s → Next call r → is_of_disk s ≡ false → is_of_disk r ≡ false → IsMarked call number who s → IsMarked call number who r → s ≡ r
    next_line call s r calm x y d e m o = next_lawful call s r calm x y x.0 y.0 d e m o
