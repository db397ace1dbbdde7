-- Which event an answer shows, by what was asked and by what the answer is to a client.
use Rattle.std.proofs.Common.{◌≡◌, ℕ, Bool, true, false, List, refl, sym, ap, ◌∙◌}
use Rattle.std.specs.Prelude.{Option}
use Rattle.std.proofs.lemmas.Bool.{true≢false, or_left, or_right}
use Rattle.site_vector.specs.declared.ids.PartId.{PartId}
use Rattle.site_vector.specs.declared.ids.TxId.{TxId}
use Rattle.crdt_core.specs.declared.object.ObjectId.{ObjectId}
use Rattle.crdt_core.specs.declared.operation.Op.{Op}
use Rattle.crdt_core.specs.declared.record.Upd.{Upd}
use Rattle.world_model.specs.lines.Lines.{Wish}
use Rattle.world_model.specs.rules.Event.{Ballot, Ask, AskTick, AskBegin, AskRead, AskUpdate, AskPrepare, AskDecide, AskFinish, Refusal, IsDown, ClockBehind, TxPending, StableBehind, ClockAtEnd, IsGone, HasGap, IsRepeat, IsBadOp, HasNoRoom, IsDamaged, Event, Ticked, Began, Updated, Read, Prepared, Decided, Finished, RestartCut, Refused, Cut, Entry, attempt}
use Rattle.world_model.specs.rules.Lines.{refusal_shown, fault_shown, step_shown}
use Rattle.world_model.specs.rules.Asking.{asked_by}
use Rattle.client_pool.specs.declared.outcome.Outcome.{Outcome}
use Rattle.client_pool.specs.declared.outcome.Outcome.TheVariants.{Done, Again, Stopped}
use Rattle.client_pool.specs.Outcomes.{outcome_of}
use Rattle.client_pool.specs.Deeds.{Deed, Ticks, Begins, Reads, Updates, Prepares, Decides, Finishes, IsDone, is_aside, is_put_off, is_between, is_stop}

abbrev pub is_done : Outcome → Bool
is_done Done = true
is_done other = false

abbrev pub is_again : Outcome → Bool
is_again Again = true
is_again other = false

abbrev pub is_stopped : Outcome → Bool
is_stopped Stopped = true
is_stopped other = false

module _ {E : Type 0} where
  refused_undone : (run : List (Entry E)) (p : PartId) (asked : Ask E) (why : Refusal) → is_done (outcome_of (refusal_shown run p asked why)) ≡ false
  refused_undone run p asked IsDown = refl
  refused_undone run p asked (ClockBehind n) = refl
  refused_undone run p asked (TxPending t n) = refl
  refused_undone run p asked (StableBehind j n) = refl
  refused_undone run p asked ClockAtEnd = refl
  refused_undone run p asked IsGone = refl
  refused_undone run p asked (HasGap n) = refl
  refused_undone run p asked (IsRepeat n) = refl
  refused_undone run p asked IsBadOp = refl
  refused_undone run p asked (HasNoRoom n) = refl
  refused_undone run p asked (IsDamaged k) = refl

  refused_again : (run : List (Entry E)) (p : PartId) (asked : Ask E) (why : Refusal) → is_again (outcome_of (refusal_shown run p asked why)) ≡ is_put_off (Refused asked why)
  refused_again run p asked IsDown = refl
  refused_again run p asked (ClockBehind n) = refl
  refused_again run p asked (TxPending t n) = refl
  refused_again run p asked (StableBehind j n) = refl
  refused_again run p asked ClockAtEnd = refl
  refused_again run p asked IsGone = refl
  refused_again run p asked (HasGap n) = refl
  refused_again run p asked (IsRepeat n) = refl
  refused_again run p asked IsBadOp = refl
  refused_again run p asked (HasNoRoom n) = refl
  refused_again run p asked (IsDamaged k) = refl

  refused_stopped : (run : List (Entry E)) (p : PartId) (asked : Ask E) (why : Refusal) → is_stopped (outcome_of (refusal_shown run p asked why)) ≡ is_stop (Refused asked why)
  refused_stopped run p asked IsDown = refl
  refused_stopped run p asked (ClockBehind n) = refl
  refused_stopped run p asked (TxPending t n) = refl
  refused_stopped run p asked (StableBehind j n) = refl
  refused_stopped run p asked ClockAtEnd = refl
  refused_stopped run p asked IsGone = refl
  refused_stopped run p asked (HasGap n) = refl
  refused_stopped run p asked (IsRepeat n) = refl
  refused_stopped run p asked IsBadOp = refl
  refused_stopped run p asked (HasNoRoom n) = refl
  refused_stopped run p asked (IsDamaged k) = refl

  cut_undone : (p : PartId) (what : Event E) → is_done (outcome_of (fault_shown p what)) ≡ false
  cut_undone p (Decided t c) = refl
  cut_undone p other = refl

  cut_again : (p : PartId) (what : Event E) → is_again (outcome_of (fault_shown p what)) ≡ false
  cut_again p (Decided t c) = refl
  cut_again p other = refl

  module _ (run : List (Entry E)) (p : PartId) where
    put_off : (e : Event E) → is_again (outcome_of (step_shown run p e)) ≡ true → is_put_off e ≡ true
    put_off (Refused asked why) h = sym (refused_again run p asked why) ∙ h
    put_off (Cut what) h = absurd (true≢false (sym h ∙ cut_again p what))
    put_off other h = absurd (true≢false (sym h))

    -- what is asked again stands between
    pub again_between : (e : Event E) (asked : Outcome) → asked ≡ outcome_of (step_shown run p e) → asked ≡ Again → is_between e ≡ true
    again_between e asked h a = or_right (is_aside (asked_by (attempt e))) (is_put_off e) (put_off e (ap is_again (sym h ∙ a)))

    pub stopped_stop : (e : Event E) (asked : Outcome) → asked ≡ outcome_of (step_shown run p e) → asked ≡ Stopped → is_stop e ≡ true
    stopped_stop e asked h a = go e (ap is_stopped (sym h ∙ a))
      where
        go : (e : Event E) → is_stopped (outcome_of (step_shown run p e)) ≡ true → is_stop e ≡ true
        go (Refused asked why) k = sym (refused_stopped run p asked why) ∙ k
        go (Cut what) k = refl
        go RestartCut k = refl
        go other k = absurd (true≢false (sym k))

    -- a call that is done does what was asked
    pub tick_done : (e : Event E) (r : ℕ) → asked_by (attempt e) ≡ AskTick r → is_done (outcome_of (step_shown run p e)) ≡ true → IsDone (Ticks p) p e
    tick_done (Ticked r n) asked a h = refl
    tick_done (Refused ask why) asked a h = absurd (true≢false (sym h ∙ refused_undone run p ask why))
    tick_done (Cut what) asked a h = absurd (true≢false (sym h ∙ cut_undone p what))
    tick_done other asked a h = absurd cc

    pub read_done : (e : Event E) (t : TxId) (s : List ℕ) (o : ObjectId) (own : List (Upd E)) → asked_by (attempt e) ≡ AskRead t s o own → is_done (outcome_of (step_shown run p e)) ≡ true → IsDone (Reads t o) p e
    read_done (Read u v o' own' read value) t s o own a h = (cc, cc)
    read_done (Refused ask why) t s o own a h = absurd (true≢false (sym h ∙ refused_undone run p ask why))
    read_done (Cut what) t s o own a h = absurd (true≢false (sym h ∙ cut_undone p what))
    read_done other t s o own a h = absurd cc

    pub update_done : (e : Event E) (t : TxId) (s : List ℕ) (o : ObjectId) (own : List (Upd E)) (op : Op) → asked_by (attempt e) ≡ AskUpdate t s o own op → is_done (outcome_of (step_shown run p e)) ≡ true → IsDone (Updates t o op) p e
    update_done (Updated u v o' own' op' read x stamp) t s o own op a h = (cc, cc, cc)
    update_done (Refused ask why) t s o own op a h = absurd (true≢false (sym h ∙ refused_undone run p ask why))
    update_done (Cut what) t s o own op a h = absurd (true≢false (sym h ∙ cut_undone p what))
    update_done other t s o own op a h = absurd cc

    pub prepare_done : (e : Event E) (t : TxId) (s : List ℕ) (l : Ballot) (w : List (Upd E)) → asked_by (attempt e) ≡ AskPrepare t s l w → is_done (outcome_of (step_shown run p e)) ≡ true → IsDone (Prepares p t) p e
    prepare_done (Prepared u v m x n) t s l w a h = (refl, cc)
    prepare_done (Refused ask why) t s l w a h = absurd (true≢false (sym h ∙ refused_undone run p ask why))
    prepare_done (Cut what) t s l w a h = absurd (true≢false (sym h ∙ cut_undone p what))
    prepare_done other t s l w a h = absurd cc

    pub decide_done : (e : Event E) (t : TxId) (c : List ℕ) → asked_by (attempt e) ≡ AskDecide t c → is_done (outcome_of (step_shown run p e)) ≡ true → IsDone (Decides p t) p e
    decide_done (Decided u d) t c a h = (refl, cc)
    decide_done (Refused ask why) t c a h = absurd (true≢false (sym h ∙ refused_undone run p ask why))
    decide_done (Cut what) t c a h = absurd (true≢false (sym h ∙ cut_undone p what))
    decide_done other t c a h = absurd cc

    pub finish_done : (e : Event E) (t : TxId) (c : List ℕ) → asked_by (attempt e) ≡ AskFinish t c → is_done (outcome_of (step_shown run p e)) ≡ true → IsDone (Finishes p t) p e
    finish_done (Finished u d) t c a h = (refl, cc)
    finish_done (Refused ask why) t c a h = absurd (true≢false (sym h ∙ refused_undone run p ask why))
    finish_done (Cut what) t c a h = absurd (true≢false (sym h ∙ cut_undone p what))
    finish_done other t c a h = absurd cc

    pub begin_done : (e : Event E) (who : List ℕ) (wish : Wish) → asked_by (attempt e) ≡ AskBegin who wish → is_done (outcome_of (step_shown run p e)) ≡ true → (t : TxId) × (v : List ℕ) × (e ≡ Began who wish t v)
    begin_done (Began n w t v) who wish a h = (t, v, cc)
    begin_done (Refused ask why) who wish a h = absurd (true≢false (sym h ∙ refused_undone run p ask why))
    begin_done (Cut what) who wish a h = absurd (true≢false (sym h ∙ cut_undone p what))
    begin_done other who wish a h = absurd cc
