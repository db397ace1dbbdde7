-- What others do leaves what a session holds.
use Rattle.std.proofs.Common.{◌≡◌, ⊎_elim, inl, inr, ℕ, ◌+◌, cond, Bool, true, false, List, [], ◌∷◌, ◌++◌, length, refl, sym, ap, ◌∙◌, arith}
use Rattle.std.specs.Prelude.{◌||◌, ◌&&◌, max}
use Rattle.std.proofs.lemmas.Bool.{or_parts, or_right, cond-false}
use Rattle.std.proofs.lemmas.List.{append-nil}
use Rattle.site_vector.specs.declared.ids.PartId.{PartId}
use Rattle.site_vector.specs.declared.ids.TxId.{TxId}
use Rattle.site_vector.specs.Ids.{same_part}
use Rattle.crdt_core.specs.declared.record.Upd.{Upd}
use Rattle.world_model.specs.rules.Event.{Event, Began, Updated, Prepared, Entry, attempt, is_prepare, is_decide, tried, voted, decide_tried, gave_up, is_decided, time_shown, time_of, WasShown}
use Rattle.world_model.specs.rules.Dependency.{WereVectors, IsKnownJoin}
use Rattle.world_model.specs.lines.Places.{home}
use Rattle.world_model.specs.rules.Plan.{change_by, updates_at, update_count}
use Rattle.world_model.specs.rules.World.{is_begin, begin_vector, begun, snapshot_of}
use Rattle.world_model.specs.rules.Lines.{session_after, session_of}
use Rattle.world_model.specs.commands.CommitSteps.{Going, Preparing, Finishing, Aborting}
use Rattle.txn_session.specs.Calls.{Call, entries, caller_of, is_update, touches, AreOthers}
use Rattle.txn_session.specs.Session.{Txn, Doing, Idle, Open, Ending, SessionState}
use Rattle.txn_session.specs.Holds.{HoldsTxn, IsUntried, HoldsGoing, HoldsDoing, Holds, AreApart}

and_none : (a b : Bool) → b ≡ false → (a && b) ≡ false
and_none true b h = h
and_none false b h = refl

or_off : (a b : Bool) → a ≡ false → (a || b) ≡ b
or_off a b h = ap (λ x. x || b) h

module _ {E : Type 0} where
  -- two runs tell the same of how t began, and of its updates
  pub record SameTxn (new old : List (Call E)) (t : TxId) : Type 0 where
    pub begun : begun (entries new) t ≡ begun (entries old) t
    pub snapshot : snapshot_of (entries new) t ≡ snapshot_of (entries old) t
    pub session : session_of (entries new) t ≡ session_of (entries old) t
    pub caller : caller_of new t ≡ caller_of old t
    pub updates : (p : PartId) → updates_at (entries new) t p ≡ updates_at (entries old) t p
    pub count : update_count (entries new) t ≡ update_count (entries old) t
    pub shown : (p : PartId) (e : Event E) → WasShown (entries old) p e → WasShown (entries new) p e

  -- two runs tell the same of t, the newer perhaps more of other things
  pub record Same (new old : List (Call E)) (t : TxId) : Type 0 where
    pub txn : SameTxn new old t
    pub tries : (p : PartId) → tried (entries new) t p ≡ tried (entries old) t p
    pub votes : (p : PartId) → voted (entries new) t p ≡ voted (entries old) t p
    pub decide_tried : decide_tried (entries new) t ≡ decide_tried (entries old) t
    pub gave_up : gave_up (entries new) t ≡ gave_up (entries old) t
    pub time : time_of (entries new) t ≡ time_of (entries old) t
    pub decided : is_decided (entries old) t ≡ true → is_decided (entries new) t ≡ true

  pub same_refl : (run : List (Call E)) (t : TxId) → Same run run t
  same_refl run t = record {
    txn = record { begun = refl; snapshot = refl; session = refl; caller = refl; updates = λ p. refl; count = refl; shown = λ p e h. h };
    tries = λ p. refl;
    votes = λ p. refl;
    decide_tried = refl;
    gave_up = refl;
    time = refl;
    decided = λ h. h;
  }

  pub same_trans : (a b c : List (Call E)) (t : TxId) → Same a b t → Same b c t → Same a c t
  same_trans a b c t x y = record {
    txn = record {
      begun = x.txn.begun ∙ y.txn.begun;
      snapshot = x.txn.snapshot ∙ y.txn.snapshot;
      session = x.txn.session ∙ y.txn.session;
      caller = x.txn.caller ∙ y.txn.caller;
      updates = λ p. x.txn.updates p ∙ y.txn.updates p;
      count = x.txn.count ∙ y.txn.count;
      shown = λ p e h. x.txn.shown p e (y.txn.shown p e h);
    };
    tries = λ p. x.tries p ∙ y.tries p;
    votes = λ p. x.votes p ∙ y.votes p;
    decide_tried = x.decide_tried ∙ y.decide_tried;
    gave_up = x.gave_up ∙ y.gave_up;
    time = x.time ∙ y.time;
    decided = λ h. x.decided (y.decided h);
  }

  no_change : (e : Event E) (t : TxId) → is_update e t ≡ false → change_by e t ≡ []
  no_change (Updated u s o own op read x stamp) t h = cond-false _ (x ∷ []) [] h
  no_change e t h = refl

  no_session : (e : Event E) (t : TxId) (old : List ℕ) → is_begin e t ≡ false → session_after t old e ≡ old
  no_session (Began who dep u s) t old h = cond-false _ who old h
  no_session e t old h = refl

  no_vote : (e : Event E) (t : TxId) → is_prepare (attempt e) t ≡ false → is_prepare e t ≡ false
  no_vote (Prepared u s l w n) t h = h
  no_vote e t h = refl

  if_none : (b : Bool) (xs : List (Upd E)) → xs ≡ [] → cond b xs [] ≡ []
  if_none true xs h = h
  if_none false xs h = refl

  no_length : (xs : List (Upd E)) (n : ℕ) → xs ≡ [] → n + length xs ≡ n
  no_length xs n h = let e = ap length h in omega arith

  -- an event that neither begins nor updates t
  pub near : (c : Call E) (run : List (Call E)) (t : TxId) → is_begin c.entry.event t ≡ false → is_update c.entry.event t ≡ false → SameTxn (c ∷ run) run t
  near c run t a b =
      let e = c.entry.event in
      let none = no_change e t b in
      record {
        begun = or_off _ _ a;
        snapshot = cond-false _ (begin_vector e) (snapshot_of (entries run) t) a;
        session = no_session e t (session_of (entries run) t) a;
        caller = cond-false _ c.by (caller_of run t) a;
        updates = λ p. ap (λ x. updates_at (entries run) t p ++ x) (if_none (same_part c.entry.at p) (change_by e t) none) ∙ append-nil (updates_at (entries run) t p);
        count = no_length (change_by e t) (update_count (entries run) t) none;
        shown = λ p x w. inr w;
      }

  pub decided_next : (c : Call E) (run : List (Call E)) (t : TxId) → is_decided (entries run) t ≡ true → is_decided (entries (c ∷ run)) t ≡ true
  decided_next c run t k = or_right _ _ k

  -- an event that doesn't touch t tells nothing of it
  pub quiet : (c : Call E) (run : List (Call E)) (t : TxId) → touches c.entry.event t ≡ false → Same (c ∷ run) run t
  quiet c run t h =
      let e = c.entry.event in
      let a = or_parts (is_begin e t) _ h in
      let b = or_parts (is_update e t) _ a.1 in
      let d = or_parts (is_prepare (attempt e) t) _ b.1 in
      let f = or_parts (is_decide (attempt e) t) _ d.1 in
      let unvoted = no_vote e t d.0 in
      record {
        txn = near c run t a.0 b.0;
        tries = λ p. or_off _ _ (and_none (same_part c.entry.at p) _ d.0);
        votes = λ p. or_off _ _ (and_none (same_part c.entry.at p) _ unvoted);
        decide_tried = or_off _ _ f.0;
        gave_up = or_off _ _ f.1;
        time = cond-false _ (max (time_shown e) (time_of (entries run) t)) (time_of (entries run) t) unvoted;
        decided = decided_next c run t;
      }

  pub same_more : (more run : List (Call E)) (t : TxId) → AreOthers more t → Same (more ++ run) run t
  same_more [] run t a = same_refl run t
  same_more (c ∷ more) run t a = same_trans (c ∷ (more ++ run)) (more ++ run) run t (quiet c (more ++ run) t a.0) (same_more more run t a.1)

  -- what was known stays so
  pub were_more : (e : Entry E) (run : List (Entry E)) (vs : List (List ℕ)) → WereVectors run vs → WereVectors (e ∷ run) vs
  were_more e run [] h = tt
  were_more e run (v ∷ vs) h = (inr h.0, were_more e run vs h.1)

  pub known_next : (sites : ℕ) (c : Call E) (run : List (Call E)) (d : List ℕ) → IsKnownJoin sites (entries run) d → IsKnownJoin sites (entries (c ∷ run)) d
  known_next sites c run d h = record { vectors = h.vectors; known = were_more c.entry (entries run) h.vectors h.known; is = h.is }

  pub known_more : (sites : ℕ) (more run : List (Call E)) (d : List ℕ) → IsKnownJoin sites (entries run) d → IsKnownJoin sites (entries (more ++ run)) d
  known_more sites [] run d h = h
  known_more sites (c ∷ more) run d h = known_next sites c (more ++ run) d (known_more sites more run d h)

  module _ (sites parts : ℕ) (name : List ℕ) (site : ℕ) (new old : List (Call E)) where
    pub txn_same : (txn : Txn E) → SameTxn new old txn.tx → HoldsTxn sites parts name site txn old → HoldsTxn sites parts name site txn new
    txn_same txn s h = record {
      site_is = h.site_is;
      place = h.place;
      width = h.width;
      handed = h.handed;
      shown = s.shown (home txn.tx) (Began name h.handed txn.tx txn.s) h.shown;
      begun = s.begun ∙ h.begun;
      snapshot = s.snapshot ∙ h.snapshot;
      session = s.session ∙ h.session;
      caller = h.caller ∙ sym s.caller;
      updates = λ p. s.updates p ∙ h.updates p;
      count = s.count ∙ h.count;
    }

    pub untried_same : (t : TxId) → Same new old t → IsUntried t old → IsUntried t new
    untried_same t s h = record { tries = λ p. s.tries p ∙ h.tries p; votes = λ p. s.votes p ∙ h.votes p; undecided = s.decide_tried ∙ h.undecided; ungiven = s.gave_up ∙ h.ungiven; time = s.time ∙ h.time }

    pub going_same : (ps : List ℕ) (t : TxId) → Same new old t → (g : Going) → HoldsGoing site ps t old g → HoldsGoing site ps t new g
    going_same ps t s (Preparing done left n) h = record { parts = h.parts; tries = λ p. s.tries p ∙ h.tries p; votes = λ p. s.votes p ∙ h.votes p; undecided = s.decide_tried ∙ h.undecided; ungiven = s.gave_up ∙ h.ungiven; time = s.time ∙ h.time }
    going_same ps t s (Finishing left n) h = record { decided = s.decided h.decided; time = s.time ∙ h.time; among = h.among }
    going_same ps t s (Aborting left) h = record { undecided = ⊎_elim (λ (e : left ≡ []). inl e) (λ (e : decide_tried (entries old) t ≡ false). inr (s.decide_tried ∙ e)) h.undecided; among = h.among }

  module _ (sites parts : ℕ) (name : List ℕ) (site : ℕ) (more run : List (Call E)) where
    pub doing_more : (d : Doing E) → AreApart d more → HoldsDoing sites parts name site run d → HoldsDoing sites parts name site (more ++ run) d
    doing_more Idle a h = tt
    doing_more (Open txn) a h = let s = same_more more run txn.tx a in (txn_same sites parts name site (more ++ run) run txn s.txn h.0, untried_same sites parts name site (more ++ run) run txn.tx s h.1)
    doing_more (Ending txn lead commit) a h =
        let s = same_more more run txn.tx a in
        (txn_same sites parts name site (more ++ run) run txn s.txn h.0, record { first = h.1.first; at_site = h.1.at_site; snapshot = h.1.snapshot; going = going_same sites parts name site (more ++ run) run _ txn.tx s commit.going h.1.going })

  -- a session holds where others did something
  pub holds_more : (s : SessionState E) (more run : List (Call E)) → AreApart s.doing more → Holds s run → Holds s (more ++ run)
  holds_more s more run a h = record { known = known_more s.sites more run s.dependency h.known; width = h.width; doing = doing_more s.sites s.parts s.name s.site more run s.doing a h.doing }
