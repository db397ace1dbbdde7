-- A call of a cluster as the trait of stores tells it: nobody acted meanwhile, and the answer is the line of its event.
use Rattle.std.proofs.Common.{◌≡◌, ℕ, ◌≤◌, Bool, true, false, List, [], ◌∷◌, refl, sym, ap, ◌∙◌, subst, true≢false, inr, Option, None, Some, arith}
use Rattle.std.specs.Prelude.{◌&&◌, IfSome, IfOk, IfErr, Result, Ok, Err, ⊤}
use Rattle.std.proofs.lemmas.Bool.{and_parts}
use Rattle.site_vector.specs.declared.ids.PartId.{PartId}
use Rattle.site_vector.specs.declared.ids.TxId.{TxId}
use Rattle.crdt_core.specs.declared.object.ObjectId.{ObjectId}
use Rattle.crdt_core.specs.declared.operation.Op.{Op}
use Rattle.crdt_core.specs.declared.record.Part.{Part}
use Rattle.crdt_core.specs.declared.record.Upd.{Upd}
use Rattle.crdt_core.specs.KindsOf.{Kinds}
use Rattle.world_model.specs.declared.step.Step.{Step}
use Rattle.world_model.specs.declared.step.Step.TheVariants as step
use Rattle.world_model.specs.rules.Asking.{MayCall, asked_by, is_own_word}
use Rattle.world_model.specs.rules.Event.{Ask, AskUpdate, Refusal, IsDown, IsBadOp, HasGap, IsRepeat, HasNoRoom, Event, Updated, Crashed, RestartCut, Restarted, Refused, Opened, Cut, Entry, attempt}
use Rattle.world_model.specs.rules.Lines.{session_of, refusal_shown, fault_shown, step_shown, tx_asked, number_asked}
use Rattle.world_model.specs.rules.Partition.{PartState, PartStep, IsRefused}
use Rattle.world_model.specs.lines.Places.{IsPlace}
use Rattle.world_model.specs.rules.Plan.{IsFit}
use Rattle.world_model.specs.rules.World.{begun}
use Rattle.partition_core.specs.declared.answers.Refusal as part
use Rattle.partition_core.specs.declared.answers.Refusal.TheVariants as answer
use Rattle.partition_core.specs.declared.durable.DurableError.{DurableError}
use Rattle.partition_core.specs.declared.durable.DurableError.TheVariants as call
use Rattle.partition_core.specs.Answers.{cause}
use Rattle.partition_core.specs.Moments.{AnySuch, IsCutOff}
use Rattle.txn_session.specs.Calls as session
use Rattle.txn_session.specs.Calls.{Call, entries, caller_of, effect_made, Within, handed_as}
use Rattle.txn_session.specs.Numbers.{IsLeast, Bears}
use Rattle.site_partitions.specs.Held.{Held}
use Rattle.site_partitions.specs.Reaches.{Types, Reaches, MayAsk, HasBegun}
use Rattle.site_partitions.specs.Answers.{Asks, GoesOn, FindsNoRoom, Calls}
use Rattle.cluster.specs.Faults.{HasFailed, TellsFault}
use Rattle.cluster.specs.Same.{SameCluster, same_refl}
use Rattle.cluster.specs.Sees.{refusal_line, FailedAs, AllBear, Sees, no_number}
use Rattle.cluster.proofs.Faulted.{same_of, failed_of}
use Rattle.cluster.specs.Rooms.{FindsRoom, IsRoomAt}
use Rattle.cluster.proofs.Rooms.{has_room, cause_has_room, quiet, rooms_on, rooms_more, passes}

-- all calls bear the least number
pub least_zero : IsLeast (λ n. true) 0
least_zero = (refl, λ n h. omega arith)

bears_zero : (number : Option ℕ) → IfSome number (λ n. 0 ≡ n) → Bears (λ n. true) number 0
bears_zero None b = least_zero
bears_zero (Some n) b = b

-- who numbers messages and reports bears its own number in a line
renumbered : (p : PartId) (tx : TxId) (own number : ℕ) (why : Refusal) → refusal_line p tx number why ≡ handed_as number (refusal_line p tx own why)
renumbered p tx own number (HasGap n) = refl
renumbered p tx own number (IsRepeat n) = refl
renumbered p tx own number other = refl

-- so a call that failed has a line by the sender's number too
pub failed_own : (X : Type 0) (p : PartId) (tx : TxId) (own number : ℕ) (fault : Step) → handed_as number fault ≡ fault → (error : DurableError) (line : Step) → FailedAs {X = X} p tx number fault error (Ok line) → (told : Step) × FailedAs {X = X} p tx own fault error (Ok told) × (line ≡ handed_as number told)
failed_own X p tx own number fault same call.NoMemory line f = absurd f
failed_own X p tx own number fault same call.Down line f = (step.Down p, refl, f)
failed_own X p tx own number fault same call.Disk line f = (fault, refl, f ∙ sym same)
failed_own X p tx own number fault same (call.Full room) line f = (step.Full room, refl, f)
failed_own X p tx own number fault same (call.Refused why) line f = (refusal_line p tx own (cause why), refl, f ∙ renumbered p tx own number (cause why))

-- what is said of a result, where it is known which it is
pub if_each : {A X : Type 0} (Q : A → Type 0) (r : Result A X) → ((x : A) → r ≡ Ok x → Q x) → IfOk r Q
if_each Q (Ok x) f = f x refl
if_each Q (Err e) f = tt

-- the line of a refusal names what was asked of
pub refusal_is : {E : Type 0} (run : List (Entry E)) (p : PartId) (ask : Ask E) (why : Refusal) → refusal_shown run p ask why ≡ refusal_line p (tx_asked ask) (number_asked ask) why
refusal_is run p ask IsDown = refl
refusal_is run p ask other = refl

-- a partition does so: whoever asks knows which operations fit, and what is cut off was a call that it would have done
abbrev pub is_told : {E : Type 0} → Event E → Bool
is_told (Refused asked IsBadOp) = false
is_told (Cut (Refused asked why)) = false
is_told (Cut (Restarted n b named listed)) = false
is_told (Cut (Opened who)) = false
is_told (Cut (Cut what)) = false
is_told (Cut Crashed) = false
is_told (Cut RestartCut) = false
is_told other = true

module _ {S E : Type 0} (kinds : Kinds S E) where
  -- so nobody is told that one doesn't
  never_bad : (sites parts : ℕ) (id : PartId) (p : PartState E) (ask : Ask E) → IsFit kinds (Refused ask IsBadOp) → IsRefused kinds sites parts id p ask IsBadOp → ⊥
  never_bad sites parts id p (AskUpdate t s o own op) f r = true≢false (sym f ∙ r.1)
  never_bad sites parts id p other f r = r.1

  told_step : (sites parts : ℕ) (id : PartId) (p q : PartState E) (e : Event E) → IsFit kinds e → PartStep kinds sites parts id p e q → is_told e ≡ true
  told_step sites parts id p q (Refused ask IsBadOp) fit s = absurd (never_bad sites parts id p ask fit s.0)
  told_step sites parts id p q (Cut (Refused asked why)) fit s = absurd s.1
  told_step sites parts id p q (Cut (Restarted n b named listed)) fit s = absurd s.1
  told_step sites parts id p q (Cut (Opened who)) fit s = absurd s.1
  told_step sites parts id p q (Cut (Cut what)) fit s = absurd s.1
  told_step sites parts id p q (Cut Crashed) fit s = absurd s.1
  told_step sites parts id p q (Cut RestartCut) fit s = absurd s.1
  told_step sites parts id p q (Cut what) fit s = refl
  told_step sites parts id p q other fit s = refl

module _ {S E D : Type 0} (types : Types S E D) where
  pub told_of : (c : Held E D) (e : Entry E) (run : List (Entry E)) → Reaches types c (e ∷ run) → is_told e.event ≡ true
  told_of c e run r = told_step types.kinds c.sites c.parts e.at (r.is_run.0 e.at) (r.state e.at) e.event r.is_run.2.fit r.is_run.2.step

  -- the last call of those that a cluster sees
  pub told_last : (c : Held E D) (x : Call E) (calls : List (Call E)) → Sees types c (x ∷ calls) → is_told x.entry.event ≡ true
  told_last c x calls s = told_of c x.entry (entries calls) s.reached

  module _ {P : Type 0} (old new : Held E D) (Given : List (Entry E) → Type 0) (at : PartId) (ask : Ask E) (pass : P) (number : Option ℕ) where
    -- an event of this kind has this line, and is on the word of who asks; and it found room
    abbrev pub Lines : (Event E → Type 0) → Step → List (Call E) → Type 0
    Lines Shows line calls = (e : Event E) → Shows e → (line ≡ step_shown (entries calls) at e) × (is_own_word (attempt e) && has_room e ≡ true)

    -- or it did not, as this says
    abbrev LinesSo : (Event E → Type 0) → Step → List (Call E) → Type 0
    LinesSo Shows line calls = (e : Event E) → Shows e → (line ≡ step_shown (entries calls) at e) × (is_own_word (attempt e) ≡ true)

    -- who sees these calls, and may ask, sees the call with this line
    abbrev pub SeesNext : Step → Type 0
    SeesNext line = (calls : List (Call E)) → Sees types old calls → MayCall old.sites old.parts (entries calls) at ask → Given (entries calls) → IfSome number (λ n. 0 ≡ n) → session.GoesOn (λ s (p : P) r. Sees types s r) (λ (p : P) n. true) new pass calls number at ask line

    -- what is found of the room of its disk, wherever this event goes on
    abbrev RoomOf : (Event E → Type 0) → List (Call E) → Type 0
    RoomOf Shows calls = (e : Event E) → Shows e → Sees types old calls → MayCall old.sites old.parts (entries calls) at ask → Given (entries calls) → Reaches types new ((record { at = at; event = e }) ∷ entries calls) → FindsRoom types.kinds types.codec new.sites new.parts (IsRoomAt types.state new) (entries calls) at e

    seen_so : (Shows : Event E → Type 0) → GoesOn types old new (Asks types old Given at ask) at ask Shows → (line : Step) (calls : List (Call E)) → LinesSo Shows line calls → RoomOf Shows calls → Sees types old calls → MayCall old.sites old.parts (entries calls) at ask → Given (entries calls) → IfSome number (λ n. 0 ≡ n) → session.GoesOn (λ s (p : P) r. Sees types s r) (λ (p : P) n. true) new pass calls number at ask line
    seen_so Shows g line calls lines room s may given b =
        let x = (g.goes (entries calls) s.reached (may, given)).0 in
        let l = lines x.event x.shows in record {
          more = [];
          others = tt;
          by = 0;
          held = refl;
          bears = bears_zero number b;
          event = x.event;
          asked = x.asked;
          own_word = l.1;
          shows = l.0;
          seen = record { reached = x.reached; one_caller = (refl, s.one_caller); rooms = (room x.event x.shows s may given x.reached, rooms_on types old new (same_of types.state old new at g.moves) (entries calls) s.rooms) };
        }

    pub seen_at : (Shows : Event E → Type 0) → GoesOn types old new (Asks types old Given at ask) at ask Shows → (line : Step) (calls : List (Call E)) → Lines Shows line calls → Sees types old calls → MayCall old.sites old.parts (entries calls) at ask → Given (entries calls) → IfSome number (λ n. 0 ≡ n) → session.GoesOn (λ s (p : P) r. Sees types s r) (λ (p : P) n. true) new pass calls number at ask line
    seen_at Shows g line calls lines s may given b = seen_so Shows g line calls (λ e k. ((lines e k).0, (and_parts _ _ (lines e k).1).0))
        (λ e k s2 m2 g2 r2. quiet types.kinds types.codec new.sites new.parts (IsRoomAt types.state new) (entries calls) at e (and_parts _ _ (lines e k).1).1) s may given b

    pub seen_on : (Shows : Event E → Type 0) → GoesOn types old new (Asks types old Given at ask) at ask Shows → (line : Step) → ((calls : List (Call E)) → Lines Shows line calls) → SeesNext line
    seen_on Shows g line lines calls s may given b = seen_at Shows g line calls (lines calls) s may given b

    -- just this event
    pub exact_on : (event : Event E) → GoesOn types old new (Asks types old Given at ask) at ask (λ e. e ≡ event) → (line : Step) → ((calls : List (Call E)) → line ≡ step_shown (entries calls) at event) → is_own_word (attempt event) && has_room event ≡ true → SeesNext line
    exact_on event g line is own = seen_on (λ e. e ≡ event) g line (λ calls e k. subst (λ x. (line ≡ step_shown (entries calls) at x) × (is_own_word (attempt x) && has_room x ≡ true)) (sym k) (is calls, own))

    -- there was none
    pub full_room : {A : Type 0} (Shows : A → Event E → Type 0) → ((x : A) (what : Event E) → Shows x what → asked_by what ≡ ask) → (n : ℕ) (same : new ≡ old) (g : GoesOn types old new (Asks types old Given at ask) at ask (λ e. e ≡ Refused ask (HasNoRoom n))) → FindsNoRoom types old new (Asks types old Given at ask) at ask g.moves (AnySuch Shows) n
        → (calls : List (Call E)) (s : Sees types old calls) → MayCall old.sites old.parts (entries calls) at ask → Given (entries calls) → (e : Event E) → e ≡ Refused ask (HasNoRoom n) → Reaches types new ((record { at = at; event = e }) ∷ entries calls) → FindsRoom types.kinds types.codec new.sites new.parts (IsRoomAt types.state new) (entries calls) at e
    full_room Shows asks n same g f calls s may given e k reached =
        let next = subst (λ x. Reaches types new ((record { at = at; event = x }) ∷ entries calls)) k reached in
        let x = passes types old new at g.moves ask n (entries calls) s.reached next (Asks types old Given at ask) (may, given) f (λ what h. asks h.0 what h.1) in
        subst (λ y. FindsRoom types.kinds types.codec new.sites new.parts (IsRoomAt types.state new) (entries calls) at y) (sym k) (subst (λ (c : Held E D). FindsRoom types.kinds types.codec c.sites c.parts (IsRoomAt types.state c) (entries calls) at (Refused ask (HasNoRoom n))) (sym same) x)

    -- a refusal
    pub refused_on : (why : Refusal) → GoesOn types old new (Asks types old Given at ask) at ask (λ e. e ≡ Refused ask why) → has_room (Refused ask why) ≡ true → (line : Step) → line ≡ refusal_line at (tx_asked ask) (number_asked ask) why → SeesNext line
    refused_on why g room line is = exact_on (Refused ask why) g line (λ calls. is ∙ sym (refusal_is (entries calls) at ask why)) room

    -- one for want of room
    pub full_on : {A : Type 0} (Shows : A → Event E → Type 0) → ((x : A) (what : Event E) → Shows x what → asked_by what ≡ ask) → (n : ℕ) (same : new ≡ old) (g : GoesOn types old new (Asks types old Given at ask) at ask (λ e. e ≡ Refused ask (HasNoRoom n))) → FindsNoRoom types old new (Asks types old Given at ask) at ask g.moves (AnySuch Shows) n
        → (line : Step) → line ≡ refusal_line at (tx_asked ask) (number_asked ask) (HasNoRoom n) → SeesNext line
    full_on Shows asks n same g f line is calls s may given b = seen_so (λ e. e ≡ Refused ask (HasNoRoom n)) g line calls
        (λ e k. subst (λ x. (line ≡ step_shown (entries calls) at x) × (is_own_word (attempt x) ≡ true)) (sym k) (is ∙ sym (refusal_is (entries calls) at ask (HasNoRoom n)), refl))
        (λ e k s2 m2 g2 r2. full_room Shows asks n same g f calls s2 m2 g2 e k r2) s may given b

    -- a fault of the disk has this line, on the word of who asks
    abbrev pub FaultsAs : {A : Type 0} → (A → Event E → Type 0) → Step → Type 0
    FaultsAs {A} Shows fault = (x : A) (what : Event E) → Shows x what → (fault ≡ fault_shown at what) × (is_own_word what ≡ true) × (asked_by what ≡ ask)

    pub cut_on : {A : Type 0} (Shows : A → Event E → Type 0) (fault : Step) → FaultsAs Shows fault → GoesOn types old new (Asks types old Given at ask) at ask (IsCutOff Shows) → (line : Step) → line ≡ fault → SeesNext line
    cut_on Shows fault faults g line is = seen_on (IsCutOff Shows) g line
        (λ calls e k. let f = faults k.1.0 k.0 k.1.1 in subst (λ x. (line ≡ step_shown (entries calls) at x) × (is_own_word (attempt x) && has_room x ≡ true)) (sym k.2) (is ∙ f.0, ap (λ b. b && true) f.1))

    -- a call that isn't answered
    pub failed_on : {A X : Type 0} (Shows : A → Event E → Type 0) (fault : Step) → FaultsAs Shows fault → (error : DurableError) (r : Result Step X) → Calls types old new Given at ask Shows (Err error) → FailedAs at (tx_asked ask) (number_asked ask) fault error r → (Q : Step → Type 0) → ((line : Step) → SeesNext line → Q line) → IfOk r Q
    failed_on Shows fault faults call.NoMemory (Ok line) g f Q q = absurd f
    failed_on Shows fault faults call.Down (Ok line) g f Q q = q line (refused_on IsDown g.1 refl line f)
    failed_on Shows fault faults call.Disk (Ok line) g f Q q = q line (cut_on Shows fault faults g.0 line f)
    failed_on Shows fault faults (call.Full room) (Ok line) g f Q q = q line (full_on Shows (λ x what h. (faults x what h).2) room g.0 g.1 g.2 line f)
    failed_on Shows fault faults (call.Refused why) (Ok line) g f Q q = q line (refused_on (cause why) g (cause_has_room ask why) line f)
    failed_on Shows fault faults error (Err x) g f Q q = tt

    stays_if : new ≡ old → (calls : List (Call E)) → Sees types old calls → session.Stays (λ s (p : P) r. Sees types s r) (λ (p : P) n. true) new pass calls
    stays_if same calls s = record { more = []; others = tt; seen = subst (λ c. Sees types c calls) (sym same) s }

    pub failed_stays : {A X : Type 0} (Shows : A → Event E → Type 0) (fault : Step) (error : DurableError) (r : Result Step X) → Calls types old new Given at ask Shows (Err error) → FailedAs at (tx_asked ask) (number_asked ask) fault error r
        → IfErr r (λ e. (calls : List (Call E)) → Sees types old calls → session.Stays (λ s (p : P) r. Sees types s r) (λ (p : P) n. true) new pass calls)
    failed_stays Shows fault call.NoMemory (Err x) g f = stays_if g
    failed_stays Shows fault call.Down (Err x) g f = absurd f
    failed_stays Shows fault call.Disk (Err x) g f = absurd f
    failed_stays Shows fault (call.Full room) (Err x) g f = absurd f
    failed_stays Shows fault (call.Refused why) (Err x) g f = absurd f
    failed_stays Shows fault error (Ok line) g f = tt

    -- what such a call tells of a disk
    no_fault : (tx : TxId) (n : ℕ) (why : part.Refusal) → TellsFault types.state old new at (refusal_line at tx n (cause why))
    no_fault tx n answer.BadOp = tt
    no_fault tx n other = tt

    pub failed_tells : {A X : Type 0} (Shows : A → Event E → Type 0) (fault : Step) → (HasFailed types.state old new at → TellsFault types.state old new at fault) → (error : DurableError) (r : Result Step X) → Calls types old new Given at ask Shows (Err error) → FailedAs at (tx_asked ask) (number_asked ask) fault error r → IfOk r (λ line. TellsFault types.state old new at line)
    failed_tells Shows fault tells call.NoMemory (Ok line) g f = absurd f
    failed_tells Shows fault tells call.Down (Ok line) g f = subst (TellsFault types.state old new at) (sym f) tt
    failed_tells Shows fault tells call.Disk (Ok line) g f = subst (TellsFault types.state old new at) (sym f) (tells (failed_of types.state old new at g.0.moves g.1))
    failed_tells Shows fault tells (call.Full room) (Ok line) g f = subst (TellsFault types.state old new at) (sym f) tt
    failed_tells Shows fault tells (call.Refused why) (Ok line) g f = subst (TellsFault types.state old new at) (sym f) (no_fault (tx_asked ask) (number_asked ask) why)
    failed_tells Shows fault tells error (Err x) g f = tt

    -- the same, where the result of the call is taken apart
    pub failed_line : {A : Type 0} (X : Type 0) (Shows : A → Event E → Type 0) (fault : Step) → FaultsAs Shows fault → (error : DurableError) (line : Step) → Calls types old new Given at ask Shows (Err error) → FailedAs {X = X} at (tx_asked ask) (number_asked ask) fault error (Ok line) → SeesNext line
    failed_line X Shows fault faults error line g f = let r : Result Step X = Ok line in failed_on Shows fault faults error r g f SeesNext (λ l q. q)

    pub line_tells : {A : Type 0} (X : Type 0) (Shows : A → Event E → Type 0) (fault : Step) → (HasFailed types.state old new at → TellsFault types.state old new at fault) → (error : DurableError) (line : Step) → Calls types old new Given at ask Shows (Err error) → FailedAs {X = X} at (tx_asked ask) (number_asked ask) fault error (Ok line) → TellsFault types.state old new at line
    line_tells X Shows fault tells error line g f = let r : Result Step X = Ok line in failed_tells Shows fault tells error r g f

    pub error_stays : {A : Type 0} (X : Type 0) (Shows : A → Event E → Type 0) (fault : Step) (error : DurableError) (x : X) → Calls types old new Given at ask Shows (Err error) → FailedAs {X = X} at (tx_asked ask) (number_asked ask) fault error (Err x) → (calls : List (Call E)) → Sees types old calls → session.Stays (λ s (p : P) r. Sees types s r) (λ (p : P) n. true) new pass calls
    error_stays X Shows fault error x g f = let r : Result Step X = Err x in failed_stays Shows fault error r g f

    -- the cluster stays the same
    pub called_same : {A : Type 0} (Shows : A → Event E → Type 0) (r : Result A DurableError) → Calls types old new Given at ask Shows r → SameCluster types.state old new
    called_same Shows (Ok x) g = same_of types.state old new at g.moves
    called_same Shows (Err call.NoMemory) same = subst (λ c. SameCluster types.state old c) (sym same) (same_refl types.state old)
    called_same Shows (Err call.Down) g = same_of types.state old new at g.1.moves
    called_same Shows (Err call.Disk) g = same_of types.state old new at g.0.moves
    called_same Shows (Err (call.Full room)) g = same_of types.state old new at g.1.moves
    called_same Shows (Err (call.Refused why)) g = same_of types.state old new at g.moves

    -- what was done, whatever line it has
    pub did_on : (count : List (Entry E) → PartId → ℕ) (named : ℕ) (event : Event E) → has_room event ≡ true → GoesOn types old new (Asks types old Given at ask) at ask (λ e. e ≡ event) → (calls : List (Call E)) → Sees types old calls → MayCall old.sites old.parts (entries calls) at ask → Given (entries calls)
        → session.Did (λ s (p : P) r. Sees types s r) (λ (p : P) n. true) count (λ own n. ⊤) new pass calls at event named
    did_on count named event room g calls s may given =
        let x = (g.goes (entries calls) s.reached (may, given)).0 in record {
          more = [];
          others = tt;
          by = 0;
          least = least_zero;
          named = tt;
          seen = record { reached = subst (λ e. Reaches types new ((record { at = at; event = e }) ∷ entries calls)) x.shows x.reached; one_caller = (refl, s.one_caller); rooms = rooms_more types old new (same_of types.state old new at g.moves) (entries calls) at event room s.rooms };
        }

    -- an event of this kind is just this one
    pub exactly : (Shows : Event E → Type 0) (event : Event E) → ((e : Event E) → Shows e → e ≡ event) → GoesOn types old new (Asks types old Given at ask) at ask Shows → GoesOn types old new (Asks types old Given at ask) at ask (λ e. e ≡ event)
    exactly Shows event f g = record {
      moves = g.moves;
      goes = λ run r m. let x = g.goes run r m in (record { event = x.0.event; asked = x.0.asked; shows = f x.0.event x.0.shows; reached = x.0.reached }, x.1);
    }

    -- what such an event tells, where some run allows the call
    pub fact_of : (F : Type 0) (Shows : Event E → Type 0) → ((e : Event E) → Shows e → F) → GoesOn types old new (Asks types old Given at ask) at ask Shows → session.MayCall (λ s (p : P) l. Sees types s l) (λ (p : P) n. true) old.sites old.parts old pass number at ask → ((calls : List (Call E)) → Given (entries calls)) → F
    fact_of F Shows f g m given = let x = (g.goes (entries m.run) m.seen.reached (m.allowed.may, given m.run)).0 in f x.event x.shows

  module _ {P : Type 0} (old new : Held E D) (Given : List (Entry E) → Type 0) (at : PartId) (ask : Ask E) (pass : P) where
    -- what was handed on by a number, whatever its own is
    pub hands_on : (event : Event E) → GoesOn types old new (Asks types old Given at ask) at ask (λ e. e ≡ event) → (told line : Step) (handed : ℕ) → line ≡ handed_as handed told → ((calls : List (Call E)) → told ≡ step_shown (entries calls) at event) → is_own_word (attempt event) && has_room event ≡ true → (calls : List (Call E)) → Sees types old calls → MayCall old.sites old.parts (entries calls) at ask → Given (entries calls) → session.HandsOn (λ s (p : P) r. Sees types s r) (λ (p : P) n. true) new pass calls at ask handed line
    hands_on event g told line handed is shown own calls s may given = record { line = told; goes = exact_on old new Given at ask pass None event g told shown own calls s may given tt; answers = is }

    -- or wasn't
    pub hands_failed : {A : Type 0} (X : Type 0) (Shows : A → Event E → Type 0) (fault : Step) → FaultsAs {P = P} old new Given at ask pass None Shows fault → (error : DurableError) (line : Step) (handed : ℕ) → handed_as handed fault ≡ fault → Calls types old new Given at ask Shows (Err error) → FailedAs {X = X} at (tx_asked ask) handed fault error (Ok line) → (calls : List (Call E)) → Sees types old calls → MayCall old.sites old.parts (entries calls) at ask → Given (entries calls) → session.HandsOn (λ s (p : P) r. Sees types s r) (λ (p : P) n. true) new pass calls at ask handed line
    hands_failed X Shows fault faults error line handed same g f calls s may given =
        let x = failed_own X at (tx_asked ask) (number_asked ask) handed fault same error line f in
        record { line = x.0; goes = failed_line old new Given at ask pass None X Shows fault faults error x.0 g x.1 calls s may given tt; answers = x.2 }

    -- where memory ran out, the run stays
    pub failed_keeps : {A X : Type 0} (Shows : A → Event E → Type 0) (fault : Step) (error : DurableError) (r : Result Step X) → Calls types old new Given at ask Shows (Err error) → (handed : ℕ) → FailedAs at (tx_asked ask) handed fault error r
        → IfErr r (λ e. (calls : List (Call E)) → Sees types old calls → session.Stays (λ s (p : P) r. Sees types s r) (λ (p : P) n. true) new pass calls)
    failed_keeps Shows fault call.NoMemory (Err x) g handed f = stays_if old new Given at ask pass None g
    failed_keeps Shows fault call.Down (Err x) g handed f = absurd f
    failed_keeps Shows fault call.Disk (Err x) g handed f = absurd f
    failed_keeps Shows fault (call.Full room) (Err x) g handed f = absurd f
    failed_keeps Shows fault (call.Refused why) (Err x) g handed f = absurd f
    failed_keeps Shows fault error (Ok line) g handed f = tt

  -- the same, as the partitions stand in the code that calls them
  pub calls_here : {A : Type 0} (inside old new : Held E D) → inside ≡ old → (Given : List (Entry E) → Type 0) (at : PartId) (ask : Ask E) (Shows : A → Event E → Type 0) (r : Result A DurableError) → Calls types inside new Given at ask Shows r → Calls types old new Given at ask Shows r
  calls_here inside old new view Given at ask Shows r g = subst (λ h. Calls types h new Given at ask Shows r) view g

  -- of a call that changes nothing
  pub calls_still : {A : Type 0} (inside old : Held E D) → inside ≡ old → (Given : List (Entry E) → Type 0) (at : PartId) (ask : Ask E) (Shows : A → Event E → Type 0) (r : Result A DurableError) → Calls types inside inside Given at ask Shows r → Calls types old old Given at ask Shows r
  calls_still inside old view Given at ask Shows r g = subst (λ h. Calls types h h Given at ask Shows r) view g

  module _ {P : Type 0} (old new : Held E D) (Given : List (Entry E) → Type 0) (at : PartId) (tx : TxId) (v : List ℕ) (o : ObjectId) (own : List (Upd E)) (op : Op) (pass : P) (by : ℕ) where
    abbrev update : Ask E
    update = AskUpdate tx v o own op

    changes_of : (calls : List (Call E)) → Sees types old calls → 0 ≡ by → (line : Step) (made : Option E) (e : Event E) → asked_by (attempt e) ≡ update → is_own_word (attempt e) ≡ true → Reaches types new ((record { at = at; event = e }) ∷ entries calls) → line ≡ step_shown (entries calls) at e → made ≡ effect_made e → SameCluster types.state old new → FindsRoom types.kinds types.codec new.sites new.parts (IsRoomAt types.state new) (entries calls) at e
        → session.Changes (λ s (p : P) r. Sees types s r) (λ (p : P) n. true) new pass calls by at update line made
    changes_of calls s b line made e asked own_word reached shows effect same room = record {
      goes = record {
        more = [];
        others = tt;
        by = 0;
        held = refl;
        bears = b;
        event = e;
        asked = asked;
        own_word = own_word;
        shows = shows;
        seen = record { reached = reached; one_caller = (refl, s.one_caller); rooms = (room, rooms_on types old new same (entries calls) s.rooms) };
      };
      effect = effect;
    }

    -- an update that was made
    pub changes_on : (u : Upd E) (stamp : Option ℕ) → GoesOn types old new (Asks types old Given at update) at update (λ e. (read : List (Part E)) × (e ≡ Updated tx v o own op read u stamp)) → (line : Step) (calls : List (Call E)) → Sees types old calls → MayCall old.sites old.parts (entries calls) at update → Given (entries calls) → 0 ≡ by
        → line ≡ step.Updated (session_of (entries calls) tx) o stamp
        → session.Changes (λ s (p : P) r. Sees types s r) (λ (p : P) n. true) new pass calls by at update line (Some u.effect)
    changes_on u stamp g line calls s may given b is =
        let x = (g.goes (entries calls) s.reached (may, given)).0 in
        let k : x.event ≡ Updated tx v o own op x.shows.0 u stamp = x.shows.1 in
        changes_of calls s b line (Some u.effect) x.event x.asked (subst (λ y. is_own_word (attempt y) ≡ true) (sym k) refl) x.reached (subst (λ y. line ≡ step_shown (entries calls) at y) (sym k) is) (ap effect_made (sym k)) (same_of types.state old new at g.moves) (subst (λ y. FindsRoom types.kinds types.codec new.sites new.parts (IsRoomAt types.state new) (entries calls) at y) (sym k) tt)

    still : (calls : List (Call E)) (event : Event E) → has_room event ≡ true → (e : Event E) → e ≡ event → Reaches types new ((record { at = at; event = e }) ∷ entries calls) → FindsRoom types.kinds types.codec new.sites new.parts (IsRoomAt types.state new) (entries calls) at e
    still calls event h e k reached = subst (λ y. FindsRoom types.kinds types.codec new.sites new.parts (IsRoomAt types.state new) (entries calls) at y) (sym k) (quiet types.kinds types.codec new.sites new.parts (IsRoomAt types.state new) (entries calls) at event h)

    unmade_by : (event : Event E) → GoesOn types old new (Asks types old Given at update) at update (λ e. e ≡ event) → (line : Step) (calls : List (Call E)) → Sees types old calls → MayCall old.sites old.parts (entries calls) at update → Given (entries calls) → 0 ≡ by
        → line ≡ step_shown (entries calls) at event → is_own_word (attempt event) ≡ true → None ≡ effect_made event → ((e : Event E) → e ≡ event → Reaches types new ((record { at = at; event = e }) ∷ entries calls) → FindsRoom types.kinds types.codec new.sites new.parts (IsRoomAt types.state new) (entries calls) at e)
        → session.Changes (λ s (p : P) r. Sees types s r) (λ (p : P) n. true) new pass calls by at update line None
    unmade_by event g line calls s may given b is own none room =
        let x = (g.goes (entries calls) s.reached (may, given)).0 in
        changes_of calls s b line None x.event x.asked (subst (λ y. is_own_word (attempt y) ≡ true) (sym x.shows) own) x.reached (subst (λ y. line ≡ step_shown (entries calls) at y) (sym x.shows) is) (subst (λ y. None ≡ effect_made y) (sym x.shows) none) (same_of types.state old new at g.moves) (room x.event x.shows x.reached)

    -- one that wasn't
    pub unchanged_on : {A : Type 0} (X : Type 0) (Shows : A → Event E → Type 0) (error : DurableError) (line : Step) → Calls types old new Given at update Shows (Err error) → FailedAs {X = X} at (tx_asked update) (number_asked update) (step.Disk at) error (Ok line)
        → ((x : A) (what : Event E) → Shows x what → (fault_shown at what ≡ step.Disk at) × (is_own_word what ≡ true) × (asked_by what ≡ update))
        → (calls : List (Call E)) → Sees types old calls → MayCall old.sites old.parts (entries calls) at update → Given (entries calls) → 0 ≡ by
        → session.Changes (λ s (p : P) r. Sees types s r) (λ (p : P) n. true) new pass calls by at update line None
    unchanged_on X Shows call.NoMemory line g f faults calls s may given b = absurd f
    unchanged_on X Shows call.Down line g f faults calls s may given b = unmade_by (Refused update IsDown) g.1 line calls s may given b f refl refl (still calls (Refused update IsDown) refl)
    unchanged_on X Shows call.Disk line g f faults calls s may given b =
        let x = (g.0.goes (entries calls) s.reached (may, given)).0 in
        let k : x.event ≡ Cut x.shows.0 = x.shows.2 in
        let cut = faults x.shows.1.0 x.shows.0 x.shows.1.1 in
        changes_of calls s b line None x.event x.asked (subst (λ y. is_own_word (attempt y) ≡ true) (sym k) cut.1) x.reached (subst (λ y. line ≡ step_shown (entries calls) at y) (sym k) (f ∙ sym cut.0)) (subst (λ y. None ≡ effect_made y) (sym k) refl) (same_of types.state old new at g.0.moves) (subst (λ y. FindsRoom types.kinds types.codec new.sites new.parts (IsRoomAt types.state new) (entries calls) at y) (sym k) tt)
    unchanged_on X Shows (call.Full room) line g f faults calls s may given b = unmade_by (Refused update (HasNoRoom room)) g.1 line calls s may given b f refl refl (λ e k reached. full_room {P = P} old new Given at update pass None Shows (λ x what h. (faults x what h).2) room g.0 g.1 g.2 calls s may given e k reached)
    unchanged_on X Shows (call.Refused why) line g f faults calls s may given b = unmade_by (Refused update (cause why)) g line calls s may given b (f ∙ sym (refusal_is (entries calls) at update (cause why))) refl refl (still calls (Refused update (cause why)) (cause_has_room update why))

-- who calls by the number of its transaction calls by 0
pub number_is : {E : Type 0} (calls : List (Call E)) (t : TxId) (by : ℕ) → AllBear 0 calls → by ≡ caller_of calls t → 0 ≡ by
number_is calls t by a h = sym (h ∙ no_number calls a t)

-- all stand among themselves
pub all_within : {E : Type 0} (calls : List (Call E)) → Within calls calls
all_within [] = refl
all_within (c ∷ calls) = inr (calls, refl, all_within calls)

-- the line of a fault of what did just this
pub fault_of : {E : Type 0} (at : PartId) (fault : Step) (event : Event E) → fault ≡ fault_shown at event → is_own_word event ≡ true → (what : Event E) → what ≡ event → (fault ≡ fault_shown at what) × (is_own_word what ≡ true) × (asked_by what ≡ asked_by event)
fault_of at fault event is own what k = subst (λ y. (fault ≡ fault_shown at y) × (is_own_word y ≡ true) × (asked_by y ≡ asked_by event)) (sym k) (is, own, refl)

-- what a store's caller may ask, the partitions may be asked
module _ {S E D P : Type 0} (types : Types S E D) (inside old : Held E D) (view : inside ≡ old) (pass : P) (number : Option ℕ) (at : PartId) (ask : Ask E) (m : session.MayCall (λ s (p : P) l. Sees types s l) (λ (p : P) n. true) old.sites old.parts old pass number at ask) where
  pub place_here : IsPlace inside.sites inside.parts at
  place_here = subst (λ (h : Held E D). IsPlace h.sites h.parts at) (sym view) m.place

  pub may_here : MayAsk types inside at ask
  may_here = subst (λ (h : Held E D). MayAsk types h at ask) (sym view) (record { place = m.place; run = entries m.run; reached = m.seen.reached; allowed = m.allowed.may })

  -- what began, some run that they reached began
  pub began_here : (t : TxId) → begun (entries m.run) t ≡ true → HasBegun types inside t
  began_here t b = subst (λ (h : Held E D). HasBegun types h t) (sym view) (record { run = entries m.run; reached = m.seen.reached; begun = b })
