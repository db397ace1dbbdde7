-- A call of a partition on its disk, from its call on the tables and its append to the log.
use Rattle.std.proofs.Common.{◌≡◌, ◌≢◌, ⊎_elim, ℕ, ◌+◌, ◌*◌, ◌-◌, ◌<◌, ◌≤◌, Result, Bool, true, false, ◌||◌, List, [], ◌∷◌, ◌++◌, length, Option, None, Some, Ok, Err, refl, sym, ap, ◌∙◌, subst, arith}
use Rattle.std.specs.Prelude.{if◌then◌else◌, IsTrue}
use Rattle.std.proofs.lemmas.Bool.{true≢false, cases_lt}
use Rattle.disk_core.specs.Images.{Content}
use Rattle.disk_core.specs.States.{DiskState, Story, GoesOn, fewer, Spared}
use Rattle.disk_core.specs.Moments.{EachImage, EachImageOfAll, contents, AtEachMoment}
use Rattle.disk_core.proofs.Moments.{at_first}
use Rattle.gate_log.specs.Logs.{disk_of, gate_of, is_closed}
use Rattle.gate_log.specs.Rest.{Lowers}
use Rattle.gate_log.proofs.Steps.{is_log}
use Rattle.gate_log.specs.declared.log.GateLog.{GateLog}
use Rattle.gate_log.specs.declared.error.AppendError.{AppendError}
use Rattle.gate_log.specs.declared.error.AppendError.TheVariants as append
use Rattle.partition_log.specs.Codec.{Codec}
use Rattle.partition_log.specs.Logs.{HasRecords, HoldsFront, payloads_of, size}
use Rattle.partition_log.specs.Appends.{Appends}
use Rattle.partition_log.proofs.Unchanged.{found_itself}
use Rattle.crdt_core.specs.declared.record.Record.{Record}
use Rattle.crdt_core.specs.KindsOf.{Kinds}
use Rattle.crdt_core.specs.Log.{grown}
use Rattle.log_recovery.specs.Rising.{Rises}
use Rattle.world_model.specs.rules.Event.{Ask, Event, Refused, Cut, attempt, is_restart, IsDown, HasNoRoom}
use Rattle.world_model.specs.rules.Partition.{PartState, PartStep, MayDo, IsDue, records, cut}
use Rattle.partition_core.specs.declared.durable.DurableError.TheVariants as call
use Rattle.partition_core.specs.declared.answers.Refusal.{Refusal}
use Rattle.partition_core.specs.Answers.{cause}
use Rattle.partition_core.specs.Durable.{Durable, is_down, disk_in, StandsUp, StandsDown, StandsSo, StandsOn}
use Rattle.partition_core.specs.Moments.{underway, Spends, StepsOn, CallsOn, AnySuch}
use Rattle.partition_core.specs.Stands.{Stands}
use Rattle.partition_core.specs.Steps.{Steps}
use Rattle.partition_core.specs.Stopped.{stopped}
use Rattle.partition_core.specs.Tables.{Tables, IsSame}

neither : (a b : Bool) → (a || b) ≡ false → (a ≡ false) × (b ≡ false)
neither false b h = (refl, h)
neither true b h = absurd (true≢false h)

closed_is_down : (a b : Bool) → b ≡ true → (a || b) ≡ true
closed_is_down true b h = refl
closed_is_down false b h = h

-- what holds at each moment holds at the last
pub at_last : (a b : Story) (P : List ℕ → Type 0) → AtEachMoment a b P → EachImage P b.now
at_last a b P m = last m.since m.grown m.each
  where
    last : (since : List Content) → contents b ≡ since ++ contents a → EachImageOfAll P since → EachImage P b.now
    last [] e all = let same : b.now ≡ a.now = cc in subst (λ c. EachImage P c) (sym same) m.first
    last (c ∷ cs) e all = let same : b.now ≡ c = cc in subst (λ d. EachImage P d) (sym same) all.0

module _ {E D : Type 0} (codec : Codec E) (state : D → DiskState) (t : Durable E D) (p : PartState E) where
  pub stands_up : is_down t ≡ false → StandsOn codec state t p → StandsUp codec state t p
  stands_up up h = subst (λ b. StandsSo codec state t p b) up h

  pub stands_down : is_down t ≡ true → StandsOn codec state t p → StandsDown codec state t p
  stands_down d h = subst (λ b. StandsSo codec state t p b) d h

  pub up_stands : is_down t ≡ false → StandsUp codec state t p → StandsOn codec state t p
  up_stands up h = subst (λ b. StandsSo codec state t p b) (sym up) h

  pub down_stands : is_down t ≡ true → StandsDown codec state t p → StandsOn codec state t p
  down_stands d h = subst (λ b. StandsSo codec state t p b) (sym d) h

module _ {E : Type 0} (p : PartState E) (e : Event E) where
  pub underway_up : p.up ≡ true → underway p e ≡ records p (attempt e)
  underway_up up = ap (λ b. if b then records p (attempt e) else p.torn) up

  pub underway_down : p.up ≡ false → underway p e ≡ p.torn
  underway_down d = ap (λ b. if b then records p (attempt e) else p.torn) d

-- the same partition with this log
abbrev pub with_log : {E D : Type 0} → Durable E D → GateLog D → Durable E D
with_log old g = record { tables = old.tables; gates = g; crashed = old.crashed }

-- the event is done, and adds these records
pub record IsWritten {E : Type 0} (p : PartState E) (e : Event E) (q : PartState E) (recs : List (Record E)) : Type 0 where
  pub whole : attempt e ≡ e
  pub adds : records p e ≡ recs
  pub log : q.log ≡ grown p.log recs
  pub rises : Rises p.log → Rises (grown p.log recs)

-- what a partition would have done, with these records
pub record Would {S E : Type 0} (kinds : Kinds S E) (t : Tables E) (p : PartState E) (Shows : Event E → Type 0) (recs : List (Record E)) : Type 0 where
  pub what : Event E
  pub shows : Shows what
  pub may : MayDo kinds t.sites t.parts t.id p what
  pub adds : records p what ≡ recs
  pub rises : Rises p.log → Rises (grown p.log recs)

module _ {S E D : Type 0} (kinds : Kinds S E) (codec : Codec E) (state : D → DiskState) (old : Durable E D) (Given : PartState E → Type 0) where
  rests : GoesOn (disk_in state old) (disk_in state old)
  rests = record { tells = refl; room = refl; sound = refl; later = omega arith; starved = λ h. h }

  same : IsSame old.tables old.tables
  same = record { id = refl; sites = refl; parts = refl }

  none_spent : (left : Option ℕ) → left ≡ fewer 0 left
  none_spent None = refl
  none_spent (Some n) = let e : n ≡ n - 0 = omega arith in ap Some e

  none_due : (left : Option ℕ) → Spared 0 left
  none_due None = tt
  none_due (Some n) = omega arith

  -- nothing was written
  pub unspent : (p : PartState E) (e : Event E) → records p (attempt e) ≡ [] → records p e ≡ [] → Spends kinds codec state old old p e
  unspent p e h k = record {
    most = record { count = 0; less = omega arith; left = none_spent (disk_in state old).left };
    exact = λ _. none_spent (disk_in state old).left ∙ ap (λ l. fewer (4 * length l) (disk_in state old).left) (sym k);
    spared = λ _. subst (λ l. Spared (4 * length l) (disk_in state old).left) (sym k) (none_due (disk_in state old).left);
    fits = λ some. let none : length (records p (attempt e)) ≡ 0 = ap length h in absurd (omega (arith, none, some));
  }

  -- an append that isn't refused for want of room or memory had the room
  roomy : {R : Type 0} (r : Result R AppendError) (g : GateLog D) (recs : List (Record E)) → Appends codec state r old.gates g recs → is_closed old.gates ≡ false → ((room : ℕ) → r ≢ Err (append.Full room)) → r ≢ Err append.NoMemory
      → gate_of old.gates + size codec recs + 1 ≤ (disk_in state old).room
  roomy r g recs a still_open not_full fed = ⊎_elim
      (λ (past : (disk_in state old).room < gate_of old.gates + size codec recs + 1). absurd (not_full (disk_in state old).room (a.full still_open past fed)))
      (λ (room : gate_of old.gates + size codec recs + 1 ≤ (disk_in state old).room). room)
      (cases_lt (disk_in state old).room (gate_of old.gates + size codec recs + 1))

  -- what passes a room in which a log without it stands is something
  some_written : (recs : List (Record E)) (gate room : ℕ) → gate < room → room < gate + size codec recs + 1 → 1 ≤ length recs
  some_written [] gate room within past = absurd (omega (arith, within, past))
  some_written (r ∷ recs) gate room within past = omega arith

  -- it is down
  pub down_call : {A : Type 0} (asked : Ask E) (Shows : A → Event E → Type 0) → is_down old ≡ true → is_restart asked ≡ false → CallsOn kinds codec state old old Given asked Shows (Err call.Down)
  down_call asked Shows d no_restart = (
    refl,
    d,
    record {
      same = same;
      goes_on = rests;
      step = λ p h g.
          let s = stands_down codec state old p d h in (
            record {
              event = Refused asked IsDown;
              after = p;
              shows = refl;
              step = ((s.down, no_restart), refl);
              stands = h;
              moments = at_first (disk_in state old).story (HoldsFront codec p.log (underway p (Refused asked IsDown))) (subst (λ l. EachImage (HoldsFront codec p.log l) (disk_in state old).story.now) (sym (underway_down p (Refused asked IsDown) s.down)) s.images);
            },
            unspent p (Refused asked IsDown) refl refl,
          );
    },
  )

  module _ (up : is_down old ≡ false) where
    pub alive : (old.crashed ≡ false) × (is_closed old.gates ≡ false)
    alive = neither old.crashed (is_closed old.gates) up

    pub images : (p : PartState E) (rs : List (Record E)) → HasRecords codec state old.gates p.log → EachImage (HoldsFront codec p.log rs) (disk_in state old).story.now
    images p rs has = λ image left. (p.log, found_itself p.log rs, record { is_log = is_log (disk_in state old).story.now (payloads_of codec p.log) image has.is_open.at_rest.settled has.is_open.at_rest.log left; spelled = has.spelled })

    -- nothing is written of an event that adds no records
    pub still : (p : PartState E) (e : Event E) → StandsUp codec state old p → records p (attempt e) ≡ [] → AtEachMoment (disk_in state old).story (disk_in state old).story (HoldsFront codec p.log (underway p e))
    still p e u k = at_first (disk_in state old).story (HoldsFront codec p.log (underway p e)) (images p (underway p e) u.log)

    -- the tables refuse it
    pub refused_call : {A : Type 0} (asked : Ask E) (Shows : A → Event E → Type 0) (why : Refusal) → Steps kinds old.tables Given (λ e. e ≡ Refused asked (cause why)) old.tables → CallsOn kinds codec state old old Given asked Shows (Err (call.Refused why))
    refused_call asked Shows why s = record {
      same = same;
      goes_on = rests;
      step = λ p h g.
          let u = stands_up codec state old p up h in
          let one = s.step p u.tables g in
          let step : PartStep kinds old.tables.sites old.tables.parts old.tables.id p (Refused asked (cause why)) one.after = subst (λ (e : Event E). PartStep kinds old.tables.sites old.tables.parts old.tables.id p e one.after) one.shows one.step in (
            record {
              event = Refused asked (cause why);
              after = p;
              shows = refl;
              step = (step.0, refl);
              stands = h;
              moments = still p (Refused asked (cause why)) u refl;
            },
            unspent p (Refused asked (cause why)) refl refl,
          );
    }

    -- the state of the log after an event that isn't cut off
    module _ {R : Type 0} (x : R) (now : Durable E D) (recs : List (Record E)) (a : Appends {T = R} codec state (Ok x) old.gates now.gates recs) (uncrashed : now.crashed ≡ old.crashed) where
      still_up : is_down now ≡ false
      still_up = ap (λ b. b || is_closed now.gates) (uncrashed ∙ alive.0) ∙ a.stays_open

      -- the tables did it, and its records are durable
      pub done_call : (Shows : Event E → Type 0) → Steps kinds old.tables Given Shows now.tables
          → ((p : PartState E) → Stands old.tables p → (e : Event E) (q : PartState E) → Shows e → PartStep kinds old.tables.sites old.tables.parts old.tables.id p e q → IsWritten p e q recs)
          → StepsOn kinds codec state old now Given Shows
      done_call Shows s writes = record {
        same = s.same;
        goes_on = a.goes_on;
        step = λ p h g.
            let u = stands_up codec state old p up h in
            let one = s.step p u.tables g in
            let w = writes p u.tables one.event one.after one.shows one.step in
            let under : underway p one.event ≡ recs = underway_up p one.event u.tables.up ∙ ap (λ e. records p e) w.whole ∙ w.adds in (
              record {
                event = one.event;
                after = one.after;
                shows = one.shows;
                step = one.step;
                stands = up_stands codec state now one.after still_up (record { tables = one.stands; log = subst (λ l. HasRecords codec state now.gates l) (sym w.log) (a.appended p.log u.log); rises = subst (λ l. Rises l) (sym w.log) (w.rises u.rises) });
                moments = subst (λ l. AtEachMoment (disk_in state old).story (disk_in state now).story (HoldsFront codec p.log l)) (sym under) (a.any_moment p.log u.log);
              },
              record {
                most = subst (λ (l : List (Record E)). Lowers (4 * length l) (disk_in state old).left (disk_in state now).left) (sym (ap (λ e. records p e) w.whole ∙ w.adds)) a.left;
                exact = λ _. a.left_ok ∙ ap (λ l. fewer (4 * length l) (disk_in state old).left) (sym w.adds);
                spared = λ _. subst (λ l. Spared (4 * length l) (disk_in state old).left) (sym w.adds) a.spared;
                fits = λ _. subst (λ (l : List (Record E)). gate_of old.gates + size codec l + 1 ≤ (disk_in state old).room) (sym (ap (λ e. records p e) w.whole ∙ w.adds)) (roomy (Ok x) now.gates recs a alive.1 (λ room h. cc) (λ h. cc));
              },
            );
      }

    -- the append isn't done, and the tables are as before
    module _ {A R : Type 0} (asked : Ask E) (Shows : A → Event E → Type 0) (recs : List (Record E))
        (would : (p : PartState E) → Stands old.tables p → Given p → Would kinds old.tables p (AnySuch Shows) recs)
        (roomless : (p : PartState E) (n : ℕ) → Stands old.tables p → Given p → IsDue kinds old.tables.sites old.tables.parts old.tables.id p asked (HasNoRoom n)) where
      pub stopped_call : (e : AppendError) (g : GateLog D) → Appends {T = R} codec state (Err e) old.gates g recs → CallsOn kinds codec state old (with_log old g) Given asked Shows (Err (stopped e))
      stopped_call append.NoMemory g a = ap (with_log old) (a.refused (λ h. cc))
      stopped_call append.Closed g a = absurd (true≢false (sym (a.was_closed refl) ∙ alive.1))
      stopped_call (append.Full room) g a =
          let same_gates : g ≡ old.gates = a.refused (λ h. cc) in
          let full = a.is_full room refl in
          let within = fitting room g a same_gates full.0 in (
            ap (with_log old) same_gates,
            full.0,
            subst (λ l. StepsOn kinds codec state old (with_log old l) Given (λ e. e ≡ Refused asked (HasNoRoom room))) (sym same_gates) (full_step room),
            λ p h g. let u = stands_up codec state old p up h in let w = would p u.tables g in record {
              what = w.what;
              shows = w.shows;
              may = w.may;
              some = subst (λ (l : List (Record E)). 1 ≤ length l) (sym w.adds) (some_written recs (gate_of old.gates) room within full.2);
              past = subst (λ l. room < gate_of old.gates + size codec l + 1) (sym w.adds) full.2;
            },
          )
        where
          fitting : (room : ℕ) (g : GateLog D) → Appends {T = R} codec state (Err (append.Full room)) old.gates g recs → g ≡ old.gates → room ≡ (disk_in state old).room → gate_of old.gates < room
          fitting room g a same_gates is = subst (λ n. gate_of old.gates < n) (sym is) (subst (λ (l : GateLog D). gate_of l < (state (disk_of l)).room) same_gates a.ready.fits)

          full_step : (room : ℕ) → StepsOn kinds codec state old old Given (λ e. e ≡ Refused asked (HasNoRoom room))
          full_step room = record {
            same = same;
            goes_on = rests;
            step = λ p h g.
                let u = stands_up codec state old p up h in (
                  record {
                    event = Refused asked (HasNoRoom room);
                    after = p;
                    shows = refl;
                    step = ((u.tables.up, roomless p room u.tables g), refl);
                    stands = h;
                    moments = still p (Refused asked (HasNoRoom room)) u refl;
                  },
                  unspent p (Refused asked (HasNoRoom room)) refl refl,
                );
          }
      stopped_call append.Failed g a =
          let broken = a.failed refl in
          let fell : is_down (with_log old g) ≡ true = closed_is_down old.crashed (is_closed g) broken.1 in (
            broken.0,
            fell,
            record {
              same = same;
              goes_on = a.goes_on;
              step = λ p h given.
                  let u = stands_up codec state old p up h in
                  let w = would p u.tables given in
                  let moments = subst (λ l. AtEachMoment (disk_in state old).story (state (disk_of g)).story (HoldsFront codec p.log l)) (sym w.adds) (a.any_moment p.log u.log) in (
                    record {
                      event = Cut w.what;
                      after = cut p w.what;
                      shows = (w.what, w.shows, refl);
                      step = (u.tables.up, w.may, refl);
                      stands = down_stands codec state (with_log old g) (cut p w.what) fell (record {
                        down = refl;
                        tells = subst IsTrue (sym a.goes_on.tells) u.log.is_open.at_rest.tells;
                        images = at_last (disk_in state old).story (state (disk_of g)).story (HoldsFront codec p.log (records p w.what)) moments;
                        rises = subst (λ l. Rises (grown p.log l)) (sym w.adds) (w.rises u.rises);
                      });
                      moments = subst (λ l. AtEachMoment (disk_in state old).story (state (disk_of g)).story (HoldsFront codec p.log l)) (sym (underway_up p (Cut w.what) u.tables.up)) moments;
                    },
                    record {
                      most = subst (λ (l : List (Record E)). Lowers (4 * length l) (disk_in state old).left (state (disk_of g)).left) (sym w.adds) a.left;
                      exact = λ h. absurd (true≢false h);
                      spared = λ h. absurd (true≢false h);
                      fits = λ _. subst (λ (l : List (Record E)). gate_of old.gates + size codec l + 1 ≤ (disk_in state old).room) (sym w.adds) (roomy (Err append.Failed) g recs a alive.1 (λ room h. cc) (λ h. cc));
                    },
                  );
            },
          )
