-- What waits: a call that was put off touches no transaction, nor does a tick, so what was allowed is allowed again.
use Rattle.std.proofs.Common.{◌≡◌, inl, inr, ℕ, cond, Bool, true, false, List, [], ◌∷◌, ◌++◌, length, refl, sym, ap, ◌∙◌, subst}
use Rattle.std.specs.Prelude.{◌&&◌, ◌==◌, leb, filter, Option, None, Some, Result, Ok, Err, IfSome, IfOk, IfErr}
use Rattle.std.proofs.lemmas.Bool.{true≢false}
use Rattle.std.proofs.lemmas.List.{append-nil, append_assoc}
use Rattle.site_vector.specs.declared.ids.PartId.{PartId}
use Rattle.site_vector.specs.declared.ids.TxId.{TxId}
use Rattle.crdt_core.specs.declared.object.ObjectId.{ObjectId}
use Rattle.crdt_core.specs.declared.operation.Op.{Op}
use Rattle.crdt_core.specs.declared.record.Upd.{Upd}
use Rattle.crdt_core.specs.KindsOf.{Kinds}
use Rattle.crdt_core.specs.Objects.{same_object}
use Rattle.world_model.specs.declared.step.Step.{Step}
use Rattle.world_model.specs.lines.Places.{home, partitions, first_of}
use Rattle.world_model.specs.rules.Asking.{asked_by}
use Rattle.world_model.specs.rules.Event.{Ballot, Ask, AskTick, AskRead, AskUpdate, AskPrepare, Event, Began, Updated, Prepared, Decided, Aborted, Refused, Refusal, ClockBehind, Cut, Entry, attempt, voted}
use Rattle.world_model.specs.rules.Lines.{step_shown}
use Rattle.world_model.specs.rules.Plan.{is_some_update}
use Rattle.world_model.specs.rules.World.{begun, changes_of, lead_of}
use Rattle.txn_session.specs.Calls.{Call, entries, called, caller_of, touches, IsLegal, IsAllowed, AreOthers, NoneBears, GoesOn}
use Rattle.txn_session.specs.Numbers.{IsLeast}
use Rattle.txn_session.specs.Waits.{is_wait, is_late, late_in, late_update, told_reading, IsOwnTick, ArePauses, Later}
use Rattle.txn_session.proofs.Frames.{Same, same_more}
use Rattle.txn_session.proofs.Owning.{legal_tail, left}

least_as : (held numbers : ℕ → Bool) → ((n : ℕ) → held n ≡ numbers n) → (k : ℕ) → IsLeast held k → IsLeast numbers k
least_as held numbers same k h = (sym (same k) ∙ h.0, λ n x. h.1 n (same n ∙ x))

module _ {E : Type 0} where
  -- only a clock that is behind is told to be
  pub put_off : (run : List (Entry E)) (at : PartId) (e : Event E) → is_late (step_shown run at e) ≡ true → (why : Refusal) × (e ≡ Refused (asked_by (attempt e)) why) × (is_wait why ≡ true)
  put_off run at (Refused asked (ClockBehind n)) h = (ClockBehind n, refl, refl)
  put_off run at (Refused asked why) h = absurd (true≢false (sym h))
  put_off run at (Cut (Decided t c)) h = absurd (true≢false (sym h))
  put_off run at (Cut what) h = absurd (true≢false (sym h))
  put_off run at other h = absurd (true≢false (sym h))

  -- a tick touches no transaction
  pub tick_quiet : (e : Event E) (r : ℕ) (t : TxId) → asked_by (attempt e) ≡ AskTick r → touches e t ≡ false
  tick_quiet (Began who dep u s) r t h = absurd cc
  tick_quiet (Updated u s o own op read x stamp) r t h = absurd cc
  tick_quiet (Prepared u s l w n) r t h = absurd cc
  tick_quiet (Decided u c) r t h = absurd cc
  tick_quiet (Aborted u own) r t h = absurd cc
  tick_quiet (Cut (Prepared u s l w n)) r t h = absurd cc
  tick_quiet (Cut (Decided u c)) r t h = absurd cc
  tick_quiet (Cut (Aborted u own)) r t h = absurd cc
  tick_quiet (Cut what) r t h = refl
  tick_quiet other r t h = refl

  -- nor does what was refused
  pub refused_quiet : (e : Event E) (ask : Ask E) (why : Refusal) (t : TxId) → e ≡ Refused ask why → touches e t ≡ false
  refused_quiet e ask why t h = subst (λ x. touches x t ≡ false) (sym h) refl

  bears_as : (held numbers : ℕ → Bool) → ((n : ℕ) → held n ≡ numbers n) → (more : List (Call E)) → NoneBears held more → NoneBears numbers more
  bears_as held numbers same [] n = tt
  bears_as held numbers same (c ∷ more) n = (sym (same c.by) ∙ n.0, bears_as held numbers same more n.1)

  others_on : (more front : List (Call E)) (t : TxId) → AreOthers more t → AreOthers front t → AreOthers (more ++ front) t
  others_on [] front t a b = b
  others_on (c ∷ more) front t a b = (a.0, others_on more front t a.1 b)

  module _ (new old : List (Call E)) (t : TxId) (s : Same new old t) (sites parts : ℕ) where
    changes_same : (p : PartId) → changes_of sites (entries new) t p ≡ changes_of sites (entries old) t p
    changes_same p = (λ i. cond (p.site == t.site && (leb 1 t.site && (leb t.site sites && leb t.site (length (s.txn.snapshot i))))) (s.txn.updates p i) [])

    lead_same : lead_of sites parts (entries new) t ≡ lead_of sites parts (entries old) t
    lead_same = (λ i. first_of (home t) (filter (λ p. is_some_update (changes_same p i)) (partitions t.site 1 parts)))

    -- what may be asked of t may be asked where no more is told of it
    pub read_still : (by : ℕ) (at : PartId) (v : List ℕ) (o : ObjectId) (own : List (Upd E)) → IsAllowed sites parts old (Some by) at (AskRead t v o own) → IsAllowed sites parts new (Some by) at (AskRead t v o own)
    read_still by at v o own h = record {
      may = record {
        site = h.may.site;
        who = h.may.who;
        dependency = h.may.dependency;
        begun = s.txn.shown (home t) (Began h.may.who h.may.dependency t v) h.may.begun;
        place = h.may.place;
        earlier = h.may.earlier ∙ ap (λ l. filter (λ u. same_object u.object o) l) (sym (s.txn.updates at));
      };
      mine = h.mine ∙ sym s.txn.caller;
    }

    pub update_still : (by : ℕ) (at : PartId) (v : List ℕ) (o : ObjectId) (own : List (Upd E)) (op : Op) → IsAllowed sites parts old (Some by) at (AskUpdate t v o own op) → IsAllowed sites parts new (Some by) at (AskUpdate t v o own op)
    update_still by at v o own op h = record {
      may = (
        record {
          site = h.may.0.site;
          who = h.may.0.who;
          dependency = h.may.0.dependency;
          begun = s.txn.shown (home t) (Began h.may.0.who h.may.0.dependency t v) h.may.0.begun;
          place = h.may.0.place;
          earlier = h.may.0.earlier ∙ ap (λ l. filter (λ u. same_object u.object o) l) (sym (s.txn.updates at));
        },
        λ q. s.tries q ∙ h.may.1 q,
      );
      mine = h.mine ∙ sym s.txn.caller;
    }

    pub prepare_still : (by : ℕ) (at : PartId) (v : List ℕ) (l : Ballot) (w : List (Upd E)) → IsAllowed sites parts old (Some by) at (AskPrepare t v l w) → IsAllowed sites parts new (Some by) at (AskPrepare t v l w)
    prepare_still by at v l w h = record {
      may = (
        record { site = h.may.0.site; who = h.may.0.who; dependency = h.may.0.dependency; begun = s.txn.shown (home t) (Began h.may.0.who h.may.0.dependency t v) h.may.0.begun },
        record {
          fresh = s.tries at ∙ h.may.1.fresh;
          after_lead = λ ne. ap (voted_at (entries new)) lead_same ∙ (s.votes (lead_of sites parts (entries old) t) ∙ h.may.1.after_lead (λ e. ne (e ∙ sym lead_same)));
          takes = ap is_some_update (changes_same at) ∙ h.may.1.takes;
          snapshot = h.may.1.snapshot ∙ sym s.txn.snapshot;
          lead = h.may.1.lead ∙ ap (λ (q : PartId). q.part) (sym lead_same);
          changes = h.may.1.changes ∙ sym (changes_same at);
        },
      );
      mine = h.mine ∙ sym s.txn.caller;
    }
      where
        voted_at : List (Entry E) → PartId → Bool
        voted_at run p = voted run t p

pub if_some : {A : Type 0} (Q : A → Type 0) (o : Option A) (x : A) → o ≡ Some x → IfSome o Q → Q x
if_some Q o x is q = subst (λ w. IfSome w Q) is q

-- the answer of a call that was settled, or that a clock was behind, or that memory sufficed for
module _ {X : Type 0} where
  pub settled_ok : (Q R : Step → Type 0) (r : Result Step X) → ((x : Step) → is_late x ≡ false → Q x → R x) → late_in r ≡ false → IfOk r Q → IfOk r R
  settled_ok Q R (Ok x) f l q = f x l q
  settled_ok Q R (Err e) f l q = tt

  pub settled_update_ok : {E : Type 0} (Q R : Step × Option E → Type 0) (r : Result (Step × Option E) X) → ((x : Step × Option E) → is_late x.0 ≡ false → Q x → R x) → late_update r ≡ false → IfOk r Q → IfOk r R
  settled_update_ok Q R (Ok x) f l q = f x l q
  settled_update_ok Q R (Err e) f l q = tt

  pub late_ok : (Q : Step → Type 0) (r : Result Step X) → late_in r ≡ true → IfOk r Q → (x : Step) × (is_late x ≡ true) × Q x
  late_ok Q (Ok x) l q = (x, l, q)
  late_ok Q (Err e) l q = absurd (true≢false (sym l))

  pub late_update_ok : {E : Type 0} (Q : Step × Option E → Type 0) (r : Result (Step × Option E) X) → late_update r ≡ true → IfOk r Q → (x : Step × Option E) × (is_late x.0 ≡ true) × Q x
  late_update_ok Q (Ok x) l q = (x, l, q)
  late_update_ok Q (Err e) l q = absurd (true≢false (sym l))

  pub lacking : (Q : Type 0) (r : Result Step X) (b : Bool) → b ≡ true → IfOk r (λ line. b ≡ false) → IfErr r (λ e. Q) → Q
  lacking Q (Ok x) b is o q = absurd (true≢false (sym is ∙ o))
  lacking Q (Err e) b is o q = q

  pub sufficing : (Q : Step → Type 0) (r : Result Step X) (b : Bool) → b ≡ false → IfErr r (λ e. b ≡ true) → IfOk r Q → (x : Step) × Q x
  sufficing Q (Ok x) b is o q = (x, q)
  sufficing Q (Err e) b is o q = absurd (true≢false (sym o ∙ is))

module _ {E : Type 0} (held : ℕ → Bool) (reads : ℕ → Type 0) (time by : ℕ) (at : PartId) (ask : Ask E) where
  none_pause : (more front : List (Call E)) → NoneBears held more → ArePauses held reads time by at ask front → ArePauses held reads time by at ask (more ++ front)
  none_pause [] front n p = p
  none_pause (c ∷ more) front n p = (inl n.0, none_pause more front n.1 p)

  -- nothing was put off
  pub later_none : (late : Bool) (Goes : List (Call E) → Type 0) (run : List (Call E)) → late ≡ false → Goes run → Later held reads time by at ask late Goes run
  later_none late Goes run l g = record { more = []; pauses = tt; ticked = λ h. absurd (true≢false (sym h ∙ l)); goes = g }

module _ {S E T P : Type 0} (kinds : Kinds S E) (sees : T → P → List (Call E) → Type 0) (numbers : P → ℕ → Bool) (sites parts : ℕ) (held : ℕ → Bool) (reads : ℕ → Type 0) (time by : ℕ) (at : PartId) (ask : Ask E) (t : TxId) where
  module _ (run : List (Call E)) (b : begun (entries run) t ≡ true) (mine : by ≡ caller_of run t) (has : held by ≡ true)
      (first : T) (p1 : P) (same1 : (n : ℕ) → numbers p1 n ≡ held n) (legal1 : (r : List (Call E)) → sees first p1 r → IsLegal kinds sites parts r) (line : Step) (late : is_late line ≡ true) (goes : GoesOn sees numbers first p1 run (Some by) at ask line) where
    off : (why : Refusal) × (goes.event ≡ Refused ask why) × (is_wait why ≡ true)
    off =
        let x = put_off (entries (goes.more ++ run)) at goes.event (sym (ap is_late goes.shows) ∙ late) in
        (x.0, subst (λ a. goes.event ≡ Refused a x.0) goes.asked x.1, x.2)

    -- what was put off, with what others did
    abbrev pub front : List (Call E)
    front = called goes.by at goes.event ∷ goes.more

    others1 : NoneBears held goes.more
    others1 = bears_as (numbers p1) held same1 goes.more goes.others

    own : held (caller_of run t) ≡ true
    own = ap held (sym mine) ∙ has

    front_apart : AreOthers front t
    front_apart = (
      refused_quiet goes.event ask off.0 t off.1,
      left kinds sites parts held t run b own goes.more (legal_tail kinds sites parts (called goes.by at goes.event) (goes.more ++ run) (legal1 _ goes.seen)) others1,
    )

    front_same : Same (front ++ run) run t
    front_same = same_more front run t front_apart

    front_pauses : ArePauses held reads time by at ask front
    front_pauses = (inr (inr (record { bears = goes.bears; here = refl; why = off.0; waits = off.2; refused = off.1 })), subst (λ l. ArePauses held reads time by at ask l) (append-nil goes.more) (none_pause held reads time by at ask goes.more [] others1 tt))

    -- it was put off
    pub later_first : (Goes : List (Call E) → Type 0) → Goes (front ++ run) → Later held reads time by at ask false Goes run
    later_first Goes g = record { more = front; pauses = front_pauses; ticked = λ h. absurd (true≢false (sym h)); goes = g }

    module _ (second : T) (p2 : P) (same2 : (n : ℕ) → numbers p2 n ≡ held n) (legal2 : (r : List (Call E)) → sees second p2 r → IsLegal kinds sites parts r) (r : ℕ) (told : (n : ℕ) × reads n × (r ≡ told_reading time n)) (answer : Step) (tick : GoesOn sees numbers second p2 (front ++ run) None at (AskTick r) answer) where
      -- and the clock was told
      abbrev pub both : List (Call E)
      both = called tick.by at tick.event ∷ (tick.more ++ front)

      abbrev pub whole : List (Call E)
      whole = called tick.by at tick.event ∷ (tick.more ++ (front ++ run))

      whole_is : whole ≡ both ++ run
      whole_is = ap (λ l. called tick.by at tick.event ∷ l) (sym (append_assoc tick.more front run))

      others2 : NoneBears held tick.more
      others2 = bears_as (numbers p2) held same2 tick.more tick.others

      ticked : IsOwnTick held reads time by at ask (called tick.by at tick.event)
      ticked = record { least = least_as (numbers p2) held same2 tick.by tick.bears; here = refl; reading = told.0; read = told.1; ticks = tick.asked ∙ ap AskTick told.2 }

      more_apart : AreOthers tick.more t
      more_apart = left kinds sites parts held t (front ++ run) (front_same.txn.begun ∙ b) (ap held front_same.txn.caller ∙ own) tick.more (legal_tail kinds sites parts (called tick.by at tick.event) (tick.more ++ (front ++ run)) (legal2 _ tick.seen)) others2

      -- so the transaction is as it was
      pub whole_same : Same whole run t
      whole_same = subst (λ l. Same l run t) (sym whole_is) (same_more both run t (tick_quiet tick.event r t tick.asked, others_on tick.more front t more_apart front_apart))

      pub later_both : (late : Bool) (Goes : List (Call E) → Type 0) → Goes whole → Later held reads time by at ask late Goes run
      later_both late Goes g = record { more = both; pauses = (inr (inl ticked), none_pause held reads time by at ask tick.more front others2 front_pauses); ticked = λ h. inl ticked; goes = subst Goes whole_is g }
