-- The law of the world: what every run keeps.
use Rattle.std.proofs.Common.{◌≡◌, ⊎_elim, ℕ, ◌+◌, ◌-◌, ◌<◌, ◌≤◌, max, cond, Bool, true, false, List, [], ◌∷◌, refl, sym, ap, ◌∙◌, subst, arith, le_trans}
use Rattle.std.specs.Prelude.{◌==◌, slice_index}
use Rattle.std.proofs.lemmas.List.Folds.{list_all-append}
use Rattle.std.proofs.lemmas.Bool.{cases_eq, cases_lt, or_cases, and_from, eq-eqb}
use Rattle.site_vector.specs.declared.ids.PartId.{PartId}
use Rattle.site_vector.specs.declared.ids.TxId.{TxId}
use Rattle.site_vector.specs.Ids.{same_part, same_tx}
use Rattle.site_vector.specs.Order.{same_part_is, same_tx_is}
use Rattle.site_vector.specs.Vector.{entry}
use Rattle.crdt_core.specs.Placing.{place_of}
use Rattle.crdt_core.specs.Log.{end_of_time}
use Rattle.crdt_core.specs.Fitting.{are_placed_at}
use Rattle.world_model.specs.lines.Dependency.{joined}
use Rattle.world_model.specs.rules.Dependency.{ShowsVector, WasVector, WereVectors}
use Rattle.world_model.specs.rules.Event.{Event, Began, Updated, Prepared, Decided, Entry, attempt, is_prepare, time_shown, time_of}
use Rattle.crdt_core.specs.KindsOf.{Kinds}
use Rattle.world_model.specs.rules.Partition.{PartState, IsBegin, OwnEntry, PartStep}
use Rattle.world_model.specs.lines.Lines.{Wish}
use Rattle.world_model.specs.lines.Places.{IsOther, home, twin, IsPlace}
use Rattle.world_model.specs.rules.Plan.{Plan, is_some_update, takes_part, change_by, updates_at, IsAllowed}
use Rattle.world_model.specs.events.Handed.{HandedAt, AreHanded}
use Rattle.world_model.specs.rules.World.{is_begin, begin_vector, begun, snapshot_of, plan_of, IsWorldRun}
use Rattle.world_model.specs.events.Lawful.{IsLawfulWorld}
use Rattle.world_model.specs.events.Logs.{LeavesLogs}
use Rattle.world_model.specs.rules.Lines.{shown_lines}
use Rattle.world_model.specs.rules.Fate.{TellFates}
use Rattle.world_model.specs.lines.Lawful.{IsLawful}
use Rattle.world_model.proofs.Names.{off}
use Rattle.world_model.proofs.Completeness.{numbered, OwnTold}
use Rattle.world_model.proofs.Upheld.{Upheld, law_plan, right_all, facts_of, strict, closed, never_both, past_end}
use Rattle.world_model.proofs.CausalStores.{causal_stores}
use Rattle.world_model.proofs.Shows.{shown_run, show_events}
use Rattle.world_model.proofs.Hears.{fresh_events}
use Rattle.world_model.proofs.Clears.{clear_events}
use Rattle.world_model.proofs.Ups.{ups, answer_up}
use Rattle.world_model.proofs.Doubts.{settle_doubts}
use Rattle.world_model.proofs.Voting.{vote_events, vectors, agreed}
use Rattle.world_model.proofs.Handing.{IsHome, homes, snapshot_width, place_events, handed_events, numbered_events, planned_updates}
use Rattle.world_model.proofs.Resuming.{resume_events}
use Rattle.world_model.proofs.Sending.{send_events}
use Rattle.world_model.proofs.Answering.{due_events, known_events}
use Rattle.world_model.proofs.LogsLeft.{logs_left}
use Rattle.world_model.proofs.LineLaws.{lawful_lines}
use Rattle.world_model.proofs.LineLeases.{keep_leases}
use Rattle.world_model.proofs.Timely.{early}
use Rattle.world_model.proofs.Stable.{wait_fresh}
use Rattle.world_model.proofs.Leads.{tell_fates}
use Rattle.world_model.proofs.Stories.{stories, meanings, planned_changes}
use Rattle.world_model.proofs.Fitted.{IsLow, low_zero, low_join, low_set, PlanFits, now_low, least_first}
use Rattle.world_model.proofs.Whole.{suffix_all, all_fresh, world_leases, fits}

low_if : (b : Bool) (u v : List ℕ) → IsLow u → IsLow v → IsLow (cond b u v)
low_if true u v a b = a
low_if false u v a b = b

low_none : IsLow []
low_none i = omega arith

module _ {E : Type 0} where
  -- what is kept under the run's own plan
  pub upheld_here : {S : Type 0} (kinds : Kinds S E) (sites parts : ℕ) (run : List (Entry E)) (state : PartId → PartState E) → IsWorldRun kinds sites parts run state → Upheld kinds (plan_of sites parts run) run state
  upheld_here kinds sites parts run state r = law_plan kinds (plan_of sites parts run) run state (fits kinds sites parts run state r run (all_fresh kinds sites parts run state r) (suffix_all run))

  record Lows (sites : ℕ) (run : List (Entry E)) : Type 0 where
    pub snaps : (t : TxId) → IsLow (snapshot_of run t)
    pub told : (v : List ℕ) → WasVector run v → IsLow v
    pub times : (t : TxId) → time_of run t ≤ end_of_time

  joined_low : (sites : ℕ) (run : List (Entry E)) → ((v : List ℕ) → WasVector run v → IsLow v) → (vs : List (List ℕ)) → WereVectors run vs → IsLow (joined sites vs)
  joined_low sites run told [] h = low_zero sites
  joined_low sites run told (v ∷ vs) h = low_join (joined sites vs) v (joined_low sites run told vs h.1) (told v h.0)

  -- no commit time is past the end
  draw_low : {S : Type 0} (kinds : Kinds S E) (sites parts : ℕ) (at : PartId) (p q : PartState E) (event : Event E) (t : TxId) (old : ℕ) → PartStep kinds sites parts at p event q → old ≤ end_of_time → cond (is_prepare event t) (max (time_shown event) old) old ≤ end_of_time
  draw_low kinds sites parts at p q (Prepared u s l w n) t old st h = go (same_tx u t)
    where
      go : (c : Bool) → cond c (max n old) old ≤ end_of_time
      go true = let a = st.1.1 in let b = st.1.2 in omega arith
      go false = h
  draw_low kinds sites parts at p q event t old st h = h

  times_low : {S : Type 0} (kinds : Kinds S E) (sites parts : ℕ) (run : List (Entry E)) (state : PartId → PartState E) → IsWorldRun kinds sites parts run state → (t : TxId) → time_of run t ≤ end_of_time
  times_low kinds sites parts [] state r t = omega arith
  times_low kinds sites parts (e ∷ run) state r t = draw_low kinds sites parts e.at (r.0 e.at) (state e.at) e.event t (time_of run t) r.2.step (times_low kinds sites parts run r.0 r.1 t)

  own_low : (parts : ℕ) (at : PartId) (p : PartState E) (wish : Wish) (time n : ℕ) (b : Bool) → wish.stable ≡ b → OwnEntry parts at p wish time n b → entry wish.past at.site ≤ end_of_time → time ≤ end_of_time → (wish.stable ≡ true → n ≤ end_of_time) → n ≤ end_of_time
  own_low parts at p wish time n false e o low early own = let x = o in omega arith
  own_low parts at p wish time n true e o low early own = own e

  -- a snapshot has no time past the end
  begin_low : (sites parts : ℕ) (at : PartId) (p : PartState E) (dep : Wish) (t : TxId) (s : List ℕ) → IsBegin sites parts at p dep t s → IsLow dep.past → (dep.stable ≡ true → entry s at.site ≤ end_of_time) → ((j : ℕ) → IsOther sites at.site j → entry s j ≤ end_of_time) → IsLow s
  begin_low sites parts at p dep t s b low own far i = ⊎_elim
      (λ (h : i < sites). ⊎_elim
      (λ (e : i + 1 ≡ at.site).
      let k : (i + 1) - 1 ≡ i = omega arith in
      let drawn : t.time ≡ p.now + 1 = ap (λ x. x.time) b.named in
      let early = b.early in
      let o : entry s (i + 1) ≤ end_of_time = subst (λ j. entry s j ≤ end_of_time) (sym e) (own_low parts at p dep t.time (entry s at.site) dep.stable refl b.own (low (at.site - 1)) (omega arith) own) in
      subst (λ j. slice_index s j ≤ end_of_time) k o)
      (λ (ne : i + 1 ≡ at.site → ⊥).
      let other : IsOther sites at.site (i + 1) = record { least = omega arith; most = omega arith; apart = ne } in
      let k : (i + 1) - 1 ≡ i = omega arith in
      subst (λ j. slice_index s j ≤ end_of_time) k (far (i + 1) other))
      (cases_eq (i + 1) at.site))
      (λ (h : sites ≤ i). let w = b.width in let e = past_end s i (omega arith) in omega arith)
      (cases_lt i sites)

  vector_low : {S : Type 0} (kinds : Kinds S E) (sites parts : ℕ) (run : List (Entry E)) (before after : PartId → PartState E) (at : PartId) (event : Event E) → IsPlace sites parts at → Lows sites run → IsAllowed (plan_of sites parts ((record { at = at; event = event }) ∷ run)) run before at (attempt event) → PartStep kinds sites parts at (before at) event (after at) → Upheld kinds (plan_of sites parts ((record { at = at; event = event }) ∷ run)) ((record { at = at; event = event }) ∷ run) after → IsLow (begin_vector event)
  vector_low kinds sites parts run before after at (Began who dep t s) place l al st k =
      let next : List (Entry E) = (record { at = at; event = Began who dep t s }) ∷ run in
      let plan = plan_of sites parts next in
      let low : IsLow dep.past = subst IsLow (sym al.is) (joined_low sites run l.told al.vectors al.known) in
      begin_low sites parts at (before at) dep t s st.1 low (λ e. le_trans ((subst (λ b. OwnTold plan next at s b) e k.bounds.told.0) at.part place.least_part place.most_part) (le_trans (k.intervals.seen at) (now_low next after k.leases at))) (λ j o.
      let q : PartId = numbered at at.part in
      let c = k.bounds.events.0 at.part j place.least_part place.most_part (record { least = o.least; most = o.most; apart = o.apart }) in
      le_trans c.reached (le_trans (k.intervals.seen (twin j q)) (now_low next after k.leases (twin j q))))
  vector_low kinds sites parts run before after at event place l al st k = low_none

  -- a vector that an event shows
  told_low : (sites parts : ℕ) (run : List (Entry E)) (before : PartId → PartState E) (at : PartId) (event : Event E) (v : List ℕ) → Lows sites run → IsAllowed (plan_of sites parts ((record { at = at; event = event }) ∷ run)) run before at (attempt event) → IsLow (begin_vector event) → ShowsVector event v → IsLow v
  told_low sites parts run before at (Began name dep t s) v l al low w = subst IsLow w low
  told_low sites parts run before at (Decided t c) v l al low w =
      let of_c : IsLow c = subst IsLow (sym al.vector) (low_set (snapshot_of run t) (t.site - 1) (time_of run t) (l.snaps t) (l.times t)) in
      subst IsLow w of_c
  told_low sites parts run before at event v l al low w = absurd w

  lows : {S : Type 0} (kinds : Kinds S E) (sites parts : ℕ) (run : List (Entry E)) (state : PartId → PartState E) → IsWorldRun kinds sites parts run state → Lows sites run
  lows kinds sites parts [] state r = record { snaps = λ t. low_none; told = λ v w. absurd w; times = λ t. omega arith }
  lows kinds sites parts (e ∷ run) state r =
      let l = lows kinds sites parts run r.0 r.1 in
      let place : IsPlace sites parts e.at = record { least_site = r.2.place.least_site; most_site = r.2.place.most_site; least_part = r.2.place.least_part; most_part = r.2.place.most_part } in
      let k = upheld_here kinds sites parts (e ∷ run) state r in
      let v = vector_low kinds sites parts run r.0 state e.at e.event place l r.2.allowed r.2.step k in record {
        snaps = λ t. low_if (is_begin e.event t) (begin_vector e.event) (snapshot_of run t) v (l.snaps t);
        told = λ u w. ⊎_elim (λ (x : ShowsVector e.event u). told_low sites parts run r.0 e.at e.event u l r.2.allowed v x) (λ (x : WasVector run u). l.told u x) w;
        times = times_low kinds sites parts (e ∷ run) state r;
      }

  -- who has begun is of a place
  begin_place : {S : Type 0} (kinds : Kinds S E) (sites parts : ℕ) (at : PartId) (p q : PartState E) (event : Event E) (t : TxId) → IsPlace sites parts at → PartStep kinds sites parts at p event q → is_begin event t ≡ true → (1 ≤ t.part) × (t.part ≤ parts)
  begin_place kinds sites parts at p q (Began who dep u s) t place st h =
      let e : u.part ≡ at.part = ap (λ x. x.part) st.1.named in
      subst (λ y. (1 ≤ y.part) × (y.part ≤ parts)) (same_tx_is u t h) (subst (λ n. (1 ≤ n) × (n ≤ parts)) (sym e) (place.least_part, place.most_part))
  begin_place kinds sites parts at p q event t place st h = off h

  begun_place : {S : Type 0} (kinds : Kinds S E) (sites parts : ℕ) (run : List (Entry E)) (state : PartId → PartState E) → IsWorldRun kinds sites parts run state → (t : TxId) → begun run t ≡ true → (1 ≤ t.part) × (t.part ≤ parts)
  begun_place kinds sites parts [] state r t h = off h
  begun_place kinds sites parts (e ∷ run) state r t h = ⊎_elim
      (λ (k : is_begin e.event t ≡ true). begin_place kinds sites parts e.at (r.0 e.at) (state e.at) e.event t (record { least_site = r.2.place.least_site; most_site = r.2.place.most_site; least_part = r.2.place.least_part; most_part = r.2.place.most_part }) r.2.step k)
      (λ (k : begun run t ≡ true). begun_place kinds sites parts run r.0 r.1 t k)
      (or_cases _ _ h)

  -- updates stand where they were made
  change_placed : (plan : Plan E) (run : List (Entry E)) (p q : PartId) (event : Event E) (t : TxId) → HandedAt plan run p event → are_placed_at plan.parts q.part (cond (same_part p q) (change_by event t) []) ≡ true
  change_placed plan run p q (Updated u s o own op read x stamp) t h = go (same_part p q) (same_tx u t) refl
    where
      go : (b c : Bool) → same_part p q ≡ b → are_placed_at plan.parts q.part (cond b (cond c (x ∷ []) []) []) ≡ true
      go true true e =
          let object : place_of x.object.bucket x.object.key plan.parts ≡ q.part = ap (λ y. place_of y.bucket y.key plan.parts) h.1 ∙ h.0.part ∙ ap (λ y. y.part) (same_part_is p q e) in
          and_from _ _ (eq-eqb (place_of x.object.bucket x.object.key plan.parts) q.part object) refl
      go true false e = refl
      go false c e = refl
  change_placed plan run p q event t h = none (same_part p q)
    where
      none : (b : Bool) → are_placed_at {E = E} plan.parts q.part (cond b [] []) ≡ true
      none true = refl
      none false = refl

  updates_placed : (plan : Plan E) (run : List (Entry E)) → AreHanded plan run → (t : TxId) (q : PartId) → are_placed_at plan.parts q.part (updates_at run t q) ≡ true
  updates_placed plan [] h t q = refl
  updates_placed plan (e ∷ run) h t q =
      list_all-append (λ u. place_of u.object.bucket u.object.key plan.parts == q.part) (updates_at run t q) (cond (same_part e.at q) (change_by e.event t) [])
      ∙ and_from _ _ (updates_placed plan run h.1 t q) (change_placed plan run e.at q e.event t h.0)

  pub plan_fits : {S : Type 0} (kinds : Kinds S E) (sites parts : ℕ) (run : List (Entry E)) (state : PartId → PartState E) → IsWorldRun kinds sites parts run state → PlanFits (plan_of sites parts run)
  plan_fits kinds sites parts run state r =
      let plan = plan_of sites parts run in
      let under = fits kinds sites parts run state r run (all_fresh kinds sites parts run state r) (suffix_all run) in
      let handed = handed_events kinds plan run state under in
      let planned = planned_updates kinds sites parts run state r in
      let here : (t : TxId) (q : PartId) → takes_part plan t q ≡ true → IsHome sites run t q = λ t q h. homes kinds sites parts run state r t q (ap is_some_update (sym (planned t q)) ∙ h) in record {
        width = λ t q h. snapshot_width kinds sites parts run state r t (here t q h).begun;
        low = (lows kinds sites parts run state r).snaps;
        part = λ t q h. begun_place kinds sites parts run state r t (here t q h).begun;
        stand = λ t q. ap (are_placed_at parts q.part) (planned t q) ∙ updates_placed plan run handed t q;
        lead = λ t q h a b. least_first t.site 1 parts (home t) q (λ p. takes_part plan t p) (plan.at_home t q h) a (omega arith) h;
      }

  -- over events
  law_events : {S : Type 0} (kinds : Kinds S E) (sites parts : ℕ) (run : List (Entry E)) (state : PartId → PartState E) → IsWorldRun kinds sites parts run state → IsLawfulWorld kinds (plan_of sites parts run) run × LeavesLogs (plan_of sites parts run) run state
  law_events kinds sites parts run state r =
      let plan = plan_of sites parts run in
      let under = fits kinds sites parts run state r run (all_fresh kinds sites parts run state r) (suffix_all run) in
      let k = law_plan kinds plan run state under in
      let right = right_all kinds plan run state k in
      let facts = facts_of kinds plan run state k in
      let made = stories kinds plan run sites parts (world_leases kinds sites parts) run state r right in
      let all = planned_changes sites parts run in
      let strictly = strict plan run state k.fate in
      let law : IsLawfulWorld kinds plan run =
      record {
        places = place_events kinds plan run state under;
        right = right;
        meant = meanings kinds plan run facts made all sites parts (world_leases kinds sites parts) run state r right;
        causal = causal_stores kinds plan run made all;
        clock = k.clock;
        past = k.past;
        decided_stay = k.decided_stay;
        handed = handed_events kinds plan run state under;
        numbered = numbered_events kinds sites parts run state r;
        planned = planned_updates kinds sites parts run state r;
        votes = vote_events kinds plan run state under;
        vectors = vectors kinds plan run state under;
        agreed = agreed kinds plan run state k;
        doubts = settle_doubts kinds plan run state under;
        due = due_events kinds plan (plan_fits kinds sites parts run state r) run state under k.causes;
        known = known_events kinds plan run state under;
        causes = k.causes;
        clear = clear_events kinds plan run state under;
        downs = answer_up kinds plan run state under;
        waits = wait_fresh kinds plan run state under;
        resumed = resume_events kinds plan run state under;
        sends = send_events kinds plan run state under;
        shown = show_events kinds plan run state under;
        fresh = fresh_events kinds plan run state under;
        fate = never_both kinds plan run state k;
        strict = strictly;
        closed = closed plan run strictly;
      } in (law, logs_left kinds plan run state under)

  pub law_world : {S : Type 0} (kinds : Kinds S E) (sites parts : ℕ) (run : List (Entry E)) (state : PartId → PartState E) → IsWorldRun kinds sites parts run state → IsLawfulWorld kinds (plan_of sites parts run) run × LeavesLogs (plan_of sites parts run) run state × IsLawful kinds.too_deep kinds.meaning sites parts (shown_lines run) × TellFates parts (shown_lines run) state
  law_world kinds sites parts run state r =
      let plan = plan_of sites parts run in
      let under = fits kinds sites parts run state r run (all_fresh kinds sites parts run state r) (suffix_all run) in
      let law = law_events kinds sites parts run state r in
      let lines = lawful_lines kinds sites parts run law.0 (early kinds sites parts run state r) (keep_leases kinds sites parts (law_events kinds sites parts) run state r) in
      (law.0, law.1, lines, tell_fates kinds sites parts run state (law_plan kinds plan run state under).fate (shown_run kinds plan run state under) (ups kinds plan run state under) law.0)
