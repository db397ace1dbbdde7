-- One more call of a partition and the line that shows it: the cluster stands where they left it, and so do all other sessions.
use Rattle.std.proofs.Common.{◌≡◌, ◌⊎◌, ⊎_elim, ℕ, Bool, true, false, List, [], ◌∷◌, refl, sym, ap, ◌∙◌, Option, Some}
use Rattle.std.specs.Prelude.{◌||◌, ◌&&◌, ⊤}
use Rattle.std.specs.Str.{bytes_eq}
use Rattle.std.proofs.lemmas.Slice.Eq.{bytes_eq-Decides}
use Rattle.std.proofs.lemmas.Bool.{cond-false, cond-true, or_cases, and_parts, true≢false, false_from_ne_true}
use Rattle.site_vector.specs.declared.ids.PartId.{PartId}
use Rattle.site_vector.specs.declared.ids.TxId.{TxId}
use Rattle.site_vector.specs.Ids.{same_tx}
use Rattle.site_vector.specs.Order.{same_tx_is}
use Rattle.site_vector.specs.Vector.{join}
use Rattle.crdt_core.specs.KindsOf.{Kinds}
use Rattle.world_model.specs.declared.command.Command.{Command}
use Rattle.world_model.specs.declared.step.Step.{Step}
use Rattle.world_model.specs.commands.Cluster.{is_cluster, sites_after, parts_after}
use Rattle.world_model.specs.rules.Event.{IsDown, IsBadOp, HasGap, IsRepeat, Event, Began, Updated, Prepared, Decided, Aborted, Sent, Took, Reported, Heard, Refused, Opened, Cut, Entry}
use Rattle.world_model.specs.rules.Lines.{step_shown, session_after, session_of}
use Rattle.world_model.specs.commands.Meeting.{site_after, count_after}
use Rattle.world_model.specs.events.Dependency.{begins_for, is_of}
use Rattle.world_model.proofs.Dependency.{dependency_after}
use Rattle.world_model.specs.commands.Phases.{Phase, phase_after, by_command}
use Rattle.world_model.specs.commands.Run.{Run}
use Rattle.world_model.specs.declared.command.Command.TheVariants as command
use Rattle.world_model.specs.lines.Lines as world
use Rattle.world_model.specs.commands.ScriptCalls.{is_answer, asked_of, numbered, line_on, calls_of}
use Rattle.world_model.specs.rules.World.{is_begin, begun}
use Rattle.world_model.proofs.Names.{off}
use Rattle.txn_session.specs.Calls.{Call, entries, touches, IsLegal}
use Rattle.txn_session.specs.Holds.{HoldsDoing, Holds, AreApart}
use Rattle.txn_session.specs.Session.{Doing, Idle, Open, Ending, SessionState}
use Rattle.txn_session.proofs.Frames.{holds_more}
use Rattle.txn_session.proofs.Owning.{legal_tail, begins_new, untold}
use Rattle.cluster.proofs.Keeping.{none_and}
use Rattle.cluster.proofs.Seeing.{is_told}

eq_self : (name : List ℕ) → bytes_eq name name ≡ true
eq_self name = (bytes_eq-Decides name name).1 refl

-- what a line leaves of the cluster as it was, if a partition answered it
pub record IsCallLine (run : Run) (s : Step) : Type 0 where
  pub answer : is_answer s ≡ true
  pub cluster : is_cluster s ≡ false
  pub sites : (n : ℕ) → sites_after n s ≡ n
  pub parts : (n : ℕ) → parts_after n s ≡ n
  pub count : (n : ℕ) → count_after n s ≡ n
  pub number : numbered run s ≡ s

-- a command of which some line shows another call than its own, or none
abbrev pub has_other_lines : Command → Bool
has_other_lines (command.Cluster sites parts) = true
has_other_lines (command.Expire p t) = true
has_other_lines (command.Settle p) = true
has_other_lines other = false

-- the line of a command that partitions answer by its own call
pub asked_lines : (number : ℕ) (cmd : Command) (run : Run) (s shown : Step) (at : PartId) (call : world.Call) → has_other_lines cmd ≡ false → is_answer s ≡ true → numbered run s ≡ shown → asked_of (calls_of run) run cmd ≡ record { at = at; call = call }
    → calls_of ((record { number = number; command = Some cmd; step = s }) ∷ run) ≡ (record { at = at; call = call; step = shown }) ∷ calls_of run
asked_lines number (command.Cluster sites parts) run s shown at call f a n k = absurd (true≢false f)
asked_lines number (command.Expire p t) run s shown at call f a n k = absurd (true≢false f)
asked_lines number (command.Settle p) run s shown at call f a n k = absurd (true≢false f)
asked_lines number cmd run s shown at call f a n k = cond-true (is_answer s && true) (line_on (calls_of run) (asked_of (calls_of run) run cmd) (numbered run s)) (calls_of run) (ap (λ b. b && true) a) ∙ (λ i. line_on (calls_of run) (k i) (n i))

module _ {E : Type 0} where
  -- a call that the script numbers no message or report of
  abbrev pub is_numberless : Event E → Bool
  is_numberless (Sent asked m) = false
  is_numberless (Took number m) = false
  is_numberless (Reported b) = false
  is_numberless (Heard number q b stable) = false
  is_numberless (Refused asked (HasGap n)) = false
  is_numberless (Refused asked (IsRepeat n)) = false
  is_numberless (Opened who) = false
  is_numberless other = true

  pub call_line : (run : Run) (events : List (Entry E)) (at : PartId) (e : Event E) → is_told e ≡ true → is_numberless e ≡ true → IsCallLine run (step_shown events at e)
  call_line run events at (Opened who) c h = off h
  call_line run events at (Sent asked m) c h = off h
  call_line run events at (Took number m) c h = off h
  call_line run events at (Reported b) c h = off h
  call_line run events at (Heard number q b stable) c h = off h
  call_line run events at (Refused asked IsBadOp) c h = off c
  call_line run events at (Refused asked (HasGap n)) c h = off h
  call_line run events at (Refused asked (IsRepeat n)) c h = off h
  call_line run events at (Refused asked why) c h = record { answer = refl; cluster = refl; sites = λ n. refl; parts = λ n. refl; count = λ n. refl; number = refl }
  call_line run events at (Cut (Decided t v)) c h = record { answer = refl; cluster = refl; sites = λ n. refl; parts = λ n. refl; count = λ n. refl; number = refl }
  call_line run events at (Cut what) c h = record { answer = refl; cluster = refl; sites = λ n. refl; parts = λ n. refl; count = λ n. refl; number = refl }
  call_line run events at e c h = record { answer = refl; cluster = refl; sites = λ n. refl; parts = λ n. refl; count = λ n. refl; number = refl }

  -- the event tells nothing of the session's transaction, nor of what it depends on
  abbrev pub IsSilentFor : List (Entry E) → List ℕ → Event E → Type 0
  IsSilentFor run who (Began name dep t s) = bytes_eq name who ≡ false
  IsSilentFor run who (Updated t s o own op read u stamp) = bytes_eq (session_of run t) who ≡ false
  IsSilentFor run who (Prepared t s l w n) = bytes_eq (session_of run t) who ≡ false
  IsSilentFor run who (Decided t c) = bytes_eq (session_of run t) who ≡ false
  IsSilentFor run who (Aborted t true) = bytes_eq (session_of run t) who ≡ false
  IsSilentFor run who (Aborted t false) = ⊤
  IsSilentFor run who (Cut (Prepared t s l w n)) = bytes_eq (session_of run t) who ≡ false
  IsSilentFor run who (Cut (Decided t c)) = bytes_eq (session_of run t) who ≡ false
  IsSilentFor run who (Cut (Aborted t true)) = bytes_eq (session_of run t) who ≡ false
  IsSilentFor run who (Opened name) = ⊥
  IsSilentFor run who other = ⊤

  pub phase_other : (run : List (Entry E)) (at : PartId) (who : List ℕ) (parts : ℕ) (asked : Option Command) (old : Phase) → ((s : Step) → by_command parts who old asked s ≡ old) → (e : Event E) → IsSilentFor run who e → phase_after parts who old asked (step_shown run at e) ≡ old
  phase_other run at who parts asked old b (Began name dep t s) q = cond-false (bytes_eq name who) _ old q
  phase_other run at who parts asked old b (Updated t s o own op read u stamp) q = cond-false (bytes_eq (session_of run t) who) _ old q
  phase_other run at who parts asked old b (Opened name) q = absurd q
  phase_other run at who parts asked old b (Cut (Decided t v)) q = b _
  phase_other run at who parts asked old b (Cut what) q = b _
  phase_other run at who parts asked old b (Refused a IsDown) q = b _
  phase_other run at who parts asked old b (Refused a why) q = b _
  phase_other run at who parts asked old b other q = b _

  pub site_other : (run : List (Entry E)) (at : PartId) (who : List ℕ) (old : Option ℕ) (e : Event E) → IsSilentFor run who e → site_after who old (step_shown run at e) ≡ old
  site_other run at who old (Opened name) q = absurd q
  site_other run at who old (Cut (Decided t v)) q = refl
  site_other run at who old (Cut what) q = refl
  site_other run at who old (Refused a IsDown) q = refl
  site_other run at who old (Refused a why) q = refl
  site_other run at who old other q = refl

  module _ {S : Type 0} (kinds : Kinds S E) (sites parts : ℕ) where
    or_true : (b c : Bool) → c ≡ true → (b || c) ≡ true
    or_true true c h = refl
    or_true false c h = h

    of_begun : (run : List (Entry E)) (who : List ℕ) (t : TxId) → is_of run who t ≡ true → begun run t ≡ true
    of_begun [] who t h = off h
    of_begun (e ∷ run) who t h = of_event e.event (of_begun run who t) (or_cases _ _ h)
      where
        of_event : (event : Event E) → (is_of run who t ≡ true → begun run t ≡ true) → (begins_for event who t ≡ true) ⊎ (is_of run who t ≡ true) → (is_begin event t || begun run t) ≡ true
        of_event (Began name dep u s) ih x = ⊎_elim (λ (k : (bytes_eq name who && same_tx u t) ≡ true). ap (λ b. b || begun run t) (and_parts (bytes_eq name who) _ k).1) (λ (k : is_of run who t ≡ true). or_true (same_tx u t) (begun run t) (ih k)) x
        of_event other ih x = ⊎_elim (λ (k : false ≡ true). off k) (λ (k : is_of run who t ≡ true). ih k) x

    -- one session alone began it
    pub one_session : (calls : List (Call E)) → IsLegal kinds sites parts calls → (who : List ℕ) (t : TxId) → is_of (entries calls) who t ≡ true → bytes_eq (session_of (entries calls) t) who ≡ true
    one_session [] l who t h = off h
    one_session (c ∷ calls) l who t h = by_event c.entry.event refl (λ k. one_session calls (legal_tail kinds sites parts c calls l) who t k) (or_cases _ _ h)
      where
        by_event : (e : Event E) → c.entry.event ≡ e → (is_of (entries calls) who t ≡ true → bytes_eq (session_of (entries calls) t) who ≡ true) → (begins_for e who t ≡ true) ⊎ (is_of (entries calls) who t ≡ true) → bytes_eq (session_after t (session_of (entries calls) t) e) who ≡ true
        by_event (Began name dep u s) is older x = ⊎_elim
            (λ (k : (bytes_eq name who && same_tx u t) ≡ true). let p = and_parts (bytes_eq name who) _ k in ap (λ n. bytes_eq n who) (cond-true (same_tx u t) name (session_of (entries calls) t) p.1) ∙ p.0)
            (λ (k : is_of (entries calls) who t ≡ true).
            let new : same_tx u t ≡ false = false_from_ne_true (same_tx u t) (λ b. true≢false (sym (of_begun (entries calls) who t k) ∙ (untold (entries calls) t (begins_new kinds sites parts c calls t l (ap (λ y. is_begin y t) is ∙ b))).begun)) in
            ap (λ n. bytes_eq n who) (cond-false (same_tx u t) name (session_of (entries calls) t) new) ∙ older k)
            x
        by_event other is older x = ⊎_elim (λ (k : false ≡ true). off k) (λ (k : is_of (entries calls) who t ≡ true). older k) x

    pub depends_other : (calls : List (Call E)) → IsLegal kinds sites parts calls → (n : ℕ) (who old : List ℕ) (e : Event E) → IsSilentFor (entries calls) who e → dependency_after n (entries calls) who old e ≡ old
    depends_other calls l n who old (Began name dep t s) q = cond-false (bytes_eq name who) (join old s) old q
    depends_other calls l n who old (Decided t c) q = cond-false (is_of (entries calls) who t) (join old c) old (false_from_ne_true _ (λ h. true≢false (sym (one_session calls l who t h) ∙ q)))
    depends_other calls l n who old (Opened name) q = absurd q
    depends_other calls l n who old other q = refl

    or_none : (b : Bool) → b ≡ false → (b || false) ≡ false
    or_none b h = ap (λ x. x || false) h

    apart_tx : (run : List (Entry E)) (who : List ℕ) (t u : TxId) → session_of run u ≡ who → bytes_eq (session_of run t) who ≡ false → same_tx t u ≡ false
    apart_tx run who t u h q = false_from_ne_true (same_tx t u) (λ k. true≢false (sym (eq_self who) ∙ (sym (ap (λ n. bytes_eq n who) (ap (λ x. session_of run x) (same_tx_is t u k) ∙ h)) ∙ q)))

    pub touches_other : (c : Call E) (calls : List (Call E)) (who : List ℕ) (u : TxId) → IsLegal kinds sites parts (c ∷ calls) → begun (entries calls) u ≡ true → session_of (entries calls) u ≡ who → (e : Event E) → c.entry.event ≡ e → IsSilentFor (entries calls) who e → touches e u ≡ false
    touches_other c calls who u l b h (Began name dep t s) is q = or_none (same_tx t u) (false_from_ne_true (same_tx t u) (λ k. true≢false (sym b ∙ (untold (entries calls) u (begins_new kinds sites parts c calls u l (ap (λ y. is_begin y u) is ∙ k))).begun)))
    touches_other c calls who u l b h (Updated t s o own op read x stamp) is q = or_none (same_tx t u) (apart_tx (entries calls) who t u h q)
    touches_other c calls who u l b h (Prepared t s i w n) is q = or_none (same_tx t u) (apart_tx (entries calls) who t u h q)
    touches_other c calls who u l b h (Decided t v) is q = or_none (same_tx t u) (apart_tx (entries calls) who t u h q)
    touches_other c calls who u l b h (Aborted t true) is q = ap (λ x. x && true) (apart_tx (entries calls) who t u h q)
    touches_other c calls who u l b h (Aborted t false) is q = none_and (same_tx t u) false refl
    touches_other c calls who u l b h (Cut (Prepared t s i w n)) is q = or_none (same_tx t u) (apart_tx (entries calls) who t u h q)
    touches_other c calls who u l b h (Cut (Decided t v)) is q = or_none (same_tx t u) (apart_tx (entries calls) who t u h q)
    touches_other c calls who u l b h (Cut (Aborted t true)) is q = ap (λ x. x && true) (apart_tx (entries calls) who t u h q)
    touches_other c calls who u l b h (Cut (Aborted t false)) is q = none_and (same_tx t u) false refl
    touches_other c calls who u l b h (Cut what) is q = refl
    touches_other c calls who u l b h (Opened name) is q = absurd q
    touches_other c calls who u l b h other is q = refl

    pub holds_other : (c : Call E) (calls : List (Call E)) (s : SessionState E) → IsLegal kinds sites parts (c ∷ calls) → IsSilentFor (entries calls) s.name c.entry.event → Holds s calls → Holds s (c ∷ calls)
    holds_other c calls s l q h = holds_more s (c ∷ []) calls (by_doing s.doing h.doing) h
      where
        by_doing : (d : Doing E) → HoldsDoing s.sites s.parts s.name s.site calls d → AreApart d (c ∷ [])
        by_doing Idle x = tt
        by_doing (Open txn) x = (touches_other c calls s.name txn.tx l x.0.begun x.0.session c.entry.event refl q, tt)
        by_doing (Ending txn lead commit) x = (touches_other c calls s.name txn.tx l x.0.begun x.0.session c.entry.event refl q, tt)
