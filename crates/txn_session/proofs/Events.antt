-- Which event answers a call, by what was asked.
use Rattle.std.proofs.Common.{◌≡◌, ℕ, Bool, true, false, List, refl, ap, ◌∙◌}
use Rattle.std.specs.Prelude.{Option, Some, None}
use Rattle.std.proofs.lemmas.Bool.{true≢false}
use Rattle.site_vector.specs.declared.ids.PartId.{PartId}
use Rattle.site_vector.specs.declared.ids.TxId.{TxId}
use Rattle.crdt_core.specs.declared.object.ObjectId.{ObjectId}
use Rattle.crdt_core.specs.declared.operation.Op.{Op}
use Rattle.crdt_core.specs.declared.record.Upd.{Upd}
use Rattle.crdt_core.specs.declared.record.Part.{Part}
use Rattle.world_model.specs.declared.step.Step.{Step}
use Rattle.world_model.specs.declared.step.Step.TheVariants as step
use Rattle.world_model.specs.rules.Event.{Ask, AskBegin, AskRead, AskUpdate, Refusal, IsDown, ClockBehind, TxPending, StableBehind, ClockAtEnd, IsGone, HasGap, IsRepeat, IsBadOp, HasNoRoom, IsDamaged, Event, Began, Updated, Read, Decided, Refused, Cut, Entry, attempt}
use Rattle.world_model.specs.lines.Lines.{Wish}
use Rattle.world_model.specs.rules.Lines.{refusal_shown, fault_shown, step_shown}
use Rattle.world_model.specs.rules.Asking.{asked_by}
use Rattle.txn_session.specs.Calls.{touches, effect_made}

-- what a call that was done answers
abbrev pub is_done_step : Step → Bool
is_done_step (step.Began name t s) = true
is_done_step (step.Updated name o stamp) = true
is_done_step (step.Prepared p t n) = true
is_done_step (step.Decided p t c) = true
is_done_step other = false

module _ {E : Type 0} where
  pub refused_undone : (run : List (Entry E)) (p : PartId) (asked : Ask E) (why : Refusal) → is_done_step (refusal_shown run p asked why) ≡ false
  refused_undone run p asked IsDown = refl
  refused_undone run p asked (ClockBehind n) = refl
  refused_undone run p asked (TxPending t n) = refl
  refused_undone run p asked (StableBehind j n) = refl
  refused_undone run p asked ClockAtEnd = refl
  refused_undone run p asked IsGone = refl
  refused_undone run p asked (HasGap n) = refl
  refused_undone run p asked (IsRepeat n) = refl
  refused_undone run p asked IsBadOp = refl
  refused_undone run p asked (HasNoRoom n) = refl
  refused_undone run p asked (IsDamaged k) = refl

  pub cut_undone : (p : PartId) (what : Event E) → is_done_step (fault_shown p what) ≡ false
  cut_undone p (Decided t c) = refl
  cut_undone p other = refl

  module _ (run : List (Entry E)) (p : PartId) where
    -- a begin
    pub began_is : (e : Event E) (who : List ℕ) (wish : Wish) (name : List ℕ) (t : TxId) (s : List ℕ) → asked_by (attempt e) ≡ AskBegin who wish → step.Began name t s ≡ step_shown run p e → (name ≡ who) × (e ≡ Began who wish t s)
    began_is (Began w d u v) who dep name t s a h = (cc, cc)
    began_is (Refused asked why) who dep name t s a h = absurd (true≢false (ap is_done_step h ∙ refused_undone run p asked why))
    began_is (Cut what) who dep name t s a h = absurd (true≢false (ap is_done_step h ∙ cut_undone p what))
    began_is other who dep name t s a h = absurd cc

    pub begin_quiet : (e : Event E) (who : List ℕ) (wish : Wish) → asked_by (attempt e) ≡ AskBegin who wish → is_done_step (step_shown run p e) ≡ false → (t : TxId) → touches e t ≡ false
    begin_quiet (Began w d u v) who dep a h t = absurd (true≢false h)
    begin_quiet (Refused asked why) who dep a h t = refl
    begin_quiet (Cut (Began w d u v)) who dep a h t = refl
    begin_quiet (Cut (Refused asked why)) who dep a h t = refl
    begin_quiet (Cut other) who dep a h t = absurd cc
    begin_quiet other who dep a h t = absurd cc

    -- an update: what it made, or nothing that touches a transaction
    pub update_made : (e : Event E) (t : TxId) (s : List ℕ) (o : ObjectId) (own : List (Upd E)) (op : Op) (effect : E) → asked_by (attempt e) ≡ AskUpdate t s o own op → Some effect ≡ effect_made e → (read : List (Part E)) × (x : Upd E) × (stamp : Option ℕ) × (e ≡ Updated t s o own op read x stamp) × (x.effect ≡ effect)
    update_made (Updated u v o' own' op' read x stamp) t s o own op effect a h = (read, x, stamp, cc, cc)
    update_made other t s o own op effect a h = absurd cc

    pub update_quiet : (e : Event E) (t : TxId) (s : List ℕ) (o : ObjectId) (own : List (Upd E)) (op : Op) → asked_by (attempt e) ≡ AskUpdate t s o own op → None ≡ effect_made e → (u : TxId) → touches e u ≡ false
    update_quiet (Updated u v o' own' op' read x stamp) t s o own op a h y = absurd cc
    update_quiet (Refused asked why) t s o own op a h y = refl
    update_quiet (Cut (Updated u v o' own' op' read x stamp)) t s o own op a h y = refl
    update_quiet (Cut (Refused asked why)) t s o own op a h y = refl
    update_quiet (Cut other) t s o own op a h y = absurd cc
    update_quiet other t s o own op a h y = absurd cc

    -- so the answer tells which
    pub none_undone : (e : Event E) (t : TxId) (s : List ℕ) (o : ObjectId) (own : List (Upd E)) (op : Op) → asked_by (attempt e) ≡ AskUpdate t s o own op → None ≡ effect_made e → is_done_step (step_shown run p e) ≡ false
    none_undone (Updated u v o' own' op' read x stamp) t s o own op a h = absurd cc
    none_undone (Refused asked why) t s o own op a h = refused_undone run p asked why
    none_undone (Cut what) t s o own op a h = cut_undone p what
    none_undone other t s o own op a h = absurd cc

    -- a read tells nothing of a transaction
    pub read_quiet : (e : Event E) (t : TxId) (s : List ℕ) (o : ObjectId) (own : List (Upd E)) → asked_by (attempt e) ≡ AskRead t s o own → (u : TxId) → touches e u ≡ false
    read_quiet (Read u v o' own' read value) t s o own a y = refl
    read_quiet (Refused asked why) t s o own a y = refl
    read_quiet (Cut (Read u v o' own' read value)) t s o own a y = refl
    read_quiet (Cut (Refused asked why)) t s o own a y = refl
    read_quiet (Cut other) t s o own a y = absurd cc
    read_quiet other t s o own a y = absurd cc
