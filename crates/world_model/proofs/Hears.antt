-- The events of a run show what each partition that is up has heard, so each begin's snapshot is fresh.
use Rattle.std.proofs.Common.{◌≡◌, ◌≢◌, ⊎_elim, inl, inr, ℕ, zero, suc, ◌-◌, ◌≤◌, max, cond, Bool, true, false, List, [], ◌∷◌, length, refl, sym, ap, ◌∙◌, subst, subst₂, arith, le_trans}
use Rattle.std.specs.Prelude.{⊤, ◌==◌, replicate, slice_index, slice_set}
use Rattle.std.proofs.lemmas.Bool.{cases_Bool, cond-true, cond-false, eqb-true, eq-eqb}
use Rattle.std.proofs.lemmas.List.{length-replicate, length-set, get_or-replicate, get_or-set_same, get_or-set_other}
use Rattle.site_vector.specs.declared.ids.PartId.{PartId}
use Rattle.site_vector.specs.Ids.{same_part}
use Rattle.site_vector.specs.Order.{same_part_refl}
use Rattle.site_vector.specs.Vector.{entry, join}
use Rattle.site_vector.specs.VectorLaws.{length_join}
use Rattle.world_model.specs.rules.Event.{AskBegin, StableBehind, ClockAtEnd, Event, Ticked, Began, Updated, Read, Prepared, Decided, Finished, Aborted, Sent, Took, Reported, Heard, Crashed, RestartCut, Restarted, Refused, Opened, Cut, Entry, attempt, report_count, shown, EventsAre}
use Rattle.crdt_core.specs.KindsOf.{Kinds}
use Rattle.site_vector.specs.Known.{vector_of}
use Rattle.world_model.specs.rules.Partition.{PartState, IsOwnStable, OwnEntry, IsOwnEnough, IsStableEnough, known, stable_entry, new_part, done, PartStep}
use Rattle.world_model.specs.lines.Places.{IsOther}
use Rattle.world_model.specs.lines.Lines.{Wish}
use Rattle.site_vector.specs.Known.{lowest}
use Rattle.world_model.specs.rules.Plan.{Plan, IsAllowed}
use Rattle.world_model.proofs.Runs.{IsRun}
use Rattle.world_model.specs.events.Bounds.{bound_shown}
use Rattle.world_model.specs.events.Fresh.{heard_from, heard_shown, known_shown, IsOwnStableAt, OwnEntryAt, AreEnoughAt, IsStable, IsFreshAt, AreFresh}
use Rattle.world_model.specs.events.Pending.{pending_shown, pending_time}
use Rattle.world_model.specs.lines.Listed.{IsBoundBy}
use Rattle.world_model.specs.lines.Bounds.{IsLeast}
use Rattle.world_model.proofs.Names.{clash, part_cases, part_other, lowest_below, lowest_reached}
use Rattle.world_model.proofs.Intervals.{numbered_shown, shown_has}
use Rattle.world_model.proofs.Completeness.{numbered, rows_at}
use Rattle.world_model.proofs.Leases.{Leases}
use Rattle.world_model.proofs.Fate.{Fate}
use Rattle.world_model.proofs.Upheld.{law_plan}
use Rattle.world_model.proofs.Shows.{Shown, shown_run, own_bound}

join_at : (u v : List ℕ) (i : ℕ) → length u ≡ length v → slice_index (join u v) i ≡ max (slice_index u i) (slice_index v i)
join_at [] [] i e = omega arith
join_at [] (m ∷ v) i e = absurd (omega arith)
join_at (n ∷ u) [] i e = absurd (omega arith)
join_at (n ∷ u) (m ∷ v) zero e = refl
join_at (n ∷ u) (m ∷ v) (suc i) e = join_at u v i (omega arith)

-- what the rules compute is the least, also of what is known by other words
least_is : (f g : ℕ → ℕ) (n m : ℕ) → 1 ≤ n → ((q : ℕ) → 1 ≤ q → q ≤ n → f q ≡ g q) → m ≡ lowest f n → IsLeast n g m
least_is f g n m some same e =
    let r = lowest_reached f n some in record {
      below = λ q a b. subst₂ (λ x y. x ≤ y) (sym e) (same q a b) (lowest_below f n q a b);
      reached = (r.0, r.1, r.2, e ∙ r.3 ∙ same r.0 r.1 r.2);
    }

module _ {E : Type 0} where
  abbrev IsWide : Plan E → PartId → Event E → Type 0
  IsWide plan p (Reported b) = length b ≡ plan.sites
  IsWide plan p event = ⊤

  pub record Hears (plan : Plan E) (run : List (Entry E)) (parts : PartId → PartState E) : Type 0 where
    pub count : (p : PartId) → (parts p).up ≡ true → length (parts p).heard ≡ plan.parts
    pub rows : (p : PartId) (q : ℕ) → (parts p).up ≡ true → 1 ≤ q → q ≤ plan.parts → length (vector_of (parts p).heard q) ≡ plan.sites
    pub told : (p : PartId) (q j : ℕ) → (parts p).up ≡ true → 1 ≤ q → q ≤ plan.parts → entry (vector_of (parts p).heard q) j ≡ heard_shown run p q j
    pub wide : EventsAre (IsWide plan) run

  -- what was heard at the partition of a step
  record HeardHere (plan : Plan E) (run : List (Entry E)) (at : PartId) (event : Event E) (p : PartState E) : Type 0 where
    pub count : p.up ≡ true → length p.heard ≡ plan.parts
    pub rows : (q : ℕ) → p.up ≡ true → 1 ≤ q → q ≤ plan.parts → length (vector_of p.heard q) ≡ plan.sites
    pub told : (q j : ℕ) → p.up ≡ true → 1 ≤ q → q ≤ plan.parts → entry (vector_of p.heard q) j ≡ heard_from q j (heard_shown run at q j) event

  module _ {S : Type 0} (kinds : Kinds S E) (plan : Plan E) (run : List (Entry E)) (before after : PartId → PartState E) (at : PartId) (h : Hears plan run before) where
    same_heard : (event : Event E) → (before at).up ≡ true → ((q j : ℕ) → heard_from q j (heard_shown run at q j) event ≡ heard_shown run at q j) → (after at).heard ≡ (before at).heard → HeardHere plan run at event (after at)
    same_heard event up eq e = record {
      count = λ u. ap length e ∙ h.count at up;
      rows = λ q u a b. ap (λ x. length (vector_of x q)) e ∙ h.rows at q up a b;
      told = λ q j u a b. ap (λ x. entry (vector_of x q) j) e ∙ h.told at q j up a b ∙ sym (eq q j);
    }

    down_heard : (event : Event E) → (after at).up ≡ false → HeardHere plan run at event (after at)
    down_heard event d = record { count = λ u. clash u d; rows = λ q u a b. clash u d; told = λ q j u a b. clash u d }

    new_heard : (number k : ℕ) (b stable : List ℕ) → IsAllowed plan run before at (Heard number k b stable) → PartStep kinds plan.sites plan.parts at (before at) (Heard number k b stable) (after at) → HeardHere plan run at (Heard number k b stable) (after at)
    new_heard number k b stable al st =
        let old = (before at).heard in
        let joined = join (vector_of old k) b in
        let in_row = h.rows at k st.0 al.least al.most in
        let in_report : length b ≡ plan.sites = shown_has (IsWide plan) run (numbered at k) (Reported b) h.wide (numbered_shown report_count run number (numbered at k) (Reported b) al.shown) in
        let even : length (vector_of old k) ≡ length b = in_row ∙ sym in_report in
        let long = h.count at st.0 in
        let lk = al.least in
        let mk = al.most in
        let mine : vector_of (slice_set old (k - 1) joined) k ≡ joined = get_or-set_same old (k - 1) joined [] (omega arith) in
        let apart : (q : ℕ) → 1 ≤ q → (k == q) ≡ false → vector_of (slice_set old (k - 1) joined) q ≡ vector_of old q = λ q a e. get_or-set_other old (k - 1) (q - 1) joined [] (λ x. let same : k ≡ q = omega arith in clash (eq-eqb k q same) e) in record {
          count = λ u. ap (λ p. length p.heard) st.2 ∙ length-set old (k - 1) joined ∙ long;
          rows = λ q u a c. ap (λ p. length (vector_of p.heard q)) st.2 ∙ ⊎_elim
              (λ (e : (k == q) ≡ true). subst (λ x. length (vector_of (slice_set old (k - 1) joined) x) ≡ plan.sites) (eqb-true k q e) (ap length mine ∙ length_join (vector_of old k) b even ∙ in_row))
              (λ (e : (k == q) ≡ false). ap length (apart q a e) ∙ h.rows at q st.0 a c)
              (cases_Bool (k == q));
          told = λ q j u a c. ap (λ p. entry (vector_of p.heard q) j) st.2 ∙ ⊎_elim
              (λ (e : (k == q) ≡ true). subst (λ x. entry (vector_of (slice_set old (k - 1) joined) x) j ≡ max (heard_shown run at x j) (entry b j)) (eqb-true k q e) (ap (λ v. entry v j) mine ∙ join_at (vector_of old k) b (j - 1) even ∙ ap (λ n. max n (entry b j)) (h.told at k j st.0 lk mk)) ∙ sym (cond-true _ (max (heard_shown run at q j) (entry b j)) (heard_shown run at q j) e))
              (λ (e : (k == q) ≡ false). ap (λ v. entry v j) (apart q a e) ∙ h.told at q j st.0 a c ∙ sym (cond-false _ (max (heard_shown run at q j) (entry b j)) (heard_shown run at q j) e))
              (cases_Bool (k == q));
        }

    heard_here : (event : Event E) → IsAllowed plan run before at (attempt event) → PartStep kinds plan.sites plan.parts at (before at) event (after at) → HeardHere plan run at event (after at)
    heard_here (Heard number k b stable) al st = new_heard number k b stable al st
    heard_here (Restarted n b named listed) al st = record {
      count = λ u. ap length st.heard ∙ length-replicate plan.parts (replicate plan.sites 0);
      rows = λ q u a c. ap (λ x. length (vector_of x q)) st.heard ∙ ap length (get_or-replicate plan.parts (q - 1) (replicate plan.sites 0) [] (omega arith)) ∙ length-replicate plan.sites 0;
      told = λ q j u a c. ap (λ x. entry (vector_of x q) j) st.heard ∙ rows_at plan.parts plan.sites (q - 1) (j - 1);
    }
    heard_here (Refused asked why) al st = record {
      count = λ u. ap (λ p. length p.heard) st.1 ∙ h.count at (sym (ap (λ p. p.up) st.1) ∙ u);
      rows = λ q u a b. ap (λ p. length (vector_of p.heard q)) st.1 ∙ h.rows at q (sym (ap (λ p. p.up) st.1) ∙ u) a b;
      told = λ q j u a b. ap (λ p. entry (vector_of p.heard q) j) st.1 ∙ h.told at q j (sym (ap (λ p. p.up) st.1) ∙ u) a b;
    }
    heard_here (Opened who) al st = record {
      count = λ u. ap (λ p. length p.heard) st ∙ h.count at (sym (ap (λ p. p.up) st) ∙ u);
      rows = λ q u a b. ap (λ p. length (vector_of p.heard q)) st ∙ h.rows at q (sym (ap (λ p. p.up) st) ∙ u) a b;
      told = λ q j u a b. ap (λ p. entry (vector_of p.heard q) j) st ∙ h.told at q j (sym (ap (λ p. p.up) st) ∙ u) a b;
    }
    heard_here (Cut a) al st = down_heard (Cut a) (ap (λ p. p.up) st.2)
    heard_here Crashed al st = down_heard Crashed (ap (λ p. p.up) st)
    heard_here RestartCut al st = down_heard RestartCut (ap (λ p. p.up) st)
    heard_here (Ticked r n) al st = same_heard (Ticked r n) st.0 (λ q j. refl) (ap (λ p. p.heard) st.2)
    heard_here (Began who dep t s) al st = same_heard (Began who dep t s) st.0 (λ q j. refl) (ap (λ p. p.heard) st.2)
    heard_here (Updated t s o own op read x stamp) al st = same_heard (Updated t s o own op read x stamp) st.0 (λ q j. refl) (ap (λ p. p.heard) st.2)
    heard_here (Read t s o own read value) al st = same_heard (Read t s o own read value) st.0 (λ q j. refl) (ap (λ p. p.heard) st.2)
    heard_here (Prepared t s l w n) al st = same_heard (Prepared t s l w n) st.0 (λ q j. refl) (ap (λ p. p.heard) st.2)
    heard_here (Decided t c) al st = same_heard (Decided t c) st.0 (λ q j. refl) (ap (λ p. p.heard) st.2)
    heard_here (Finished t c) al st = same_heard (Finished t c) st.0 (λ q j. refl) (ap (λ p. p.heard) st.2)
    heard_here (Aborted t own) al st = same_heard (Aborted t own) st.0 (λ q j. refl) (ap (λ p. p.heard) st.2)
    heard_here (Sent asked m) al st = same_heard (Sent asked m) st.0 (λ q j. refl) (ap (λ p. p.heard) st.2)
    heard_here (Took number m) al st = same_heard (Took number m) st.0 (λ q j. refl) (ap (λ p. p.heard) st.2)
    heard_here (Reported b) al st = same_heard (Reported b) st.0 (λ q j. refl) (ap (λ p. p.heard) st.2)

    wide_event : (event : Event E) → PartStep kinds plan.sites plan.parts at (before at) event (after at) → IsWide plan at event
    wide_event (Reported b) st = st.1.width
    wide_event event st = tt

    hears_step : (event : Event E) → IsAllowed plan run before at (attempt event) → PartStep kinds plan.sites plan.parts at (before at) event (after at) → ((q : PartId) → q ≢ at → after q ≡ before q) → Hears plan ((record { at = at; event = event }) ∷ run) after
    hears_step event al st others =
        let x = heard_here event al st in
        let old = λ (p : PartId) (ne : at ≡ p → ⊥). others p (λ e. ne (sym e)) in record {
          count = λ p u. ⊎_elim
              (λ (e : at ≡ p). subst (λ y. (after y).up ≡ true → length (after y).heard ≡ plan.parts) e x.count u)
              (λ (ne : at ≡ p → ⊥). ap (λ y. length y.heard) (old p ne) ∙ h.count p (ap (λ y. y.up) (sym (old p ne)) ∙ u))
              (part_cases at p);
          rows = λ p q u a b. ⊎_elim
              (λ (e : at ≡ p). subst (λ y. (after y).up ≡ true → length (vector_of (after y).heard q) ≡ plan.sites) e (λ v. x.rows q v a b) u)
              (λ (ne : at ≡ p → ⊥). ap (λ y. length (vector_of y.heard q)) (old p ne) ∙ h.rows p q (ap (λ y. y.up) (sym (old p ne)) ∙ u) a b)
              (part_cases at p);
          told = λ p q j u a b. ⊎_elim
              (λ (e : at ≡ p). subst (λ y. (after y).up ≡ true → entry (vector_of (after y).heard q) j ≡ heard_from q j (heard_shown run y q j) event) e (λ v. x.told q j v a b) u ∙ sym (cond-true _ _ _ (subst (λ y. same_part at y ≡ true) e (same_part_refl at))))
              (λ (ne : at ≡ p → ⊥). ap (λ y. entry (vector_of y.heard q) j) (old p ne) ∙ h.told p q j (ap (λ y. y.up) (sym (old p ne)) ∙ u) a b ∙ sym (cond-false _ _ _ (part_other at p ne)))
              (part_cases at p);
          wide = (wide_event event st, h.wide);
        }

    -- what it knows is shown
    known_is : Shown plan run before → (before at).up ≡ true → (j : ℕ) → IsOther plan.sites at.site j → (q : ℕ) → 1 ≤ q → q ≤ plan.parts → known at (before at) j q ≡ known_shown run at j q
    known_is w up j o q a b = λ i. cond (at.part == q) (w.bounds at j up o i) (h.told at q j up a b i)

    -- so a stable entry is at most what is shown to be known of each
    pub stable_low : Shown plan run before → (before at).up ≡ true → (j : ℕ) → IsOther plan.sites at.site j → (q : ℕ) → 1 ≤ q → q ≤ plan.parts → stable_entry plan.parts at (before at) j ≤ known_shown run at j q
    stable_low w up j o q a b = subst (λ x. stable_entry plan.parts at (before at) j ≤ x) (known_is w up j o q a b) (lowest_below (known at (before at) j) plan.parts q a b)

    -- what is told once a report was heard
    stable_told : (number k : ℕ) (b stable : List ℕ) → 1 ≤ plan.parts → Fate plan run before → Leases run before → Shown plan run before → IsAllowed plan run before at (Heard number k b stable) → PartStep kinds plan.sites plan.parts at (before at) (Heard number k b stable) (after at) → IsStable plan ((record { at = at; event = Heard number k b stable }) ∷ run) at stable
    stable_told number k b stable some f l w al st =
        let heard : Event E = Heard number k b stable in
        let next : List (Entry E) = (record { at = at; event = heard }) ∷ run in
        let here : same_part at at ≡ true = same_part_refl at in
        let x = new_heard number k b stable al st in
        let same : (q j : ℕ) → 1 ≤ q → q ≤ plan.parts → entry (vector_of (done (before at) heard).heard q) j ≡ heard_shown next at q j = λ q j a c. sym (ap (λ p. entry (vector_of p.heard q) j) st.2) ∙ x.told q j (ap (λ p. p.up) st.2) a c ∙ sym (cond-true _ _ _ here) in
        let ends : (j : ℕ) → IsOther plan.sites at.site j → entry (before at).bounds j ≡ bound_shown next at j = λ j o. w.bounds at j st.0 o ∙ sym (cond-true _ _ _ here) in
        let own = own_bound kinds plan run before after at f w st.0 l st.1.own.0 st.1.own.1 in record {
          width = st.1.width;
          others = λ j o. least_is (known at (done (before at) heard) j) (known_shown next at j) plan.parts (entry stable j) some (λ q a c. λ i. cond (at.part == q) (ends j o i) (same q j a c i)) (st.1.others j o);
          own = (
            st.1.own.0,
            subst (λ s. IsBoundBy (cond s (shown run at) (shown run at)) (λ u. cond s (pending_shown run at u) (pending_shown run at u)) (λ u. cond s (pending_time run at u) (pending_time run at u)) st.1.own.0) (sym here) own,
            least_is (λ q. cond (at.part == q) st.1.own.0 (entry (vector_of (done (before at) heard).heard q) at.site)) (λ q. cond (at.part == q) st.1.own.0 (heard_shown next at q at.site)) plan.parts (entry stable at.site) some (λ q a c. λ i. cond (at.part == q) st.1.own.0 (same q at.site a c i)) st.1.own.2,
          );
        }

    -- what is stable of the own site is shown
    own_stable : 1 ≤ plan.parts → Fate plan run before → Leases run before → Shown plan run before → (before at).up ≡ true → (n : ℕ) → IsOwnStable plan.parts at (before at) n → IsOwnStableAt plan run at n
    own_stable some f l w up n o = (
      o.bound,
      own_bound kinds plan run before after at f w up l o.bound o.own,
      least_is (λ q. cond (at.part == q) o.bound (entry (vector_of (before at).heard q) at.site)) (λ q. cond (at.part == q) o.bound (heard_shown run at q at.site)) plan.parts n some (λ q a c. λ i. cond (at.part == q) o.bound (h.told at q at.site up a c i)) o.least,
    )

    own_enough : 1 ≤ plan.parts → Fate plan run before → Leases run before → Shown plan run before → (before at).up ≡ true → (wish : Wish) → IsOwnEnough plan.parts at (before at) wish → wish.stable ≡ true → (n : ℕ) × IsOwnStableAt plan run at n × (entry wish.past at.site ≤ n)
    own_enough some f l w up wish o c = let x = o c in (x.0, own_stable some f l w up x.0 x.1, x.2)

    -- nothing that a begin depends on is more than is shown to be stable
    pub enough_shown : 1 ≤ plan.parts → Fate plan run before → Leases run before → Shown plan run before → (before at).up ≡ true → (wish : Wish) → IsStableEnough plan.sites plan.parts at (before at) wish → AreEnoughAt plan run at wish
    enough_shown some f l w up wish o = record {
      others = λ j q x a b. le_trans (o.0 j x) (stable_low w up j x q a b);
      own = own_enough some f l w up wish o.1;
    }

    own_entry : 1 ≤ plan.parts → Fate plan run before → Leases run before → Shown plan run before → (before at).up ≡ true → (wish : Wish) (time n : ℕ) (b : Bool) → OwnEntry plan.parts at (before at) wish time n b → OwnEntryAt plan run at wish time n b
    own_entry some f l w up wish time n false o = o
    own_entry some f l w up wish time n true o = own_stable some f l w up n o.0

    fresh_event : (event : Event E) → 1 ≤ plan.parts → Fate plan run before → Leases run before → Shown plan run before → IsAllowed plan run before at (attempt event) → PartStep kinds plan.sites plan.parts at (before at) event (after at) → IsFreshAt plan run at event
    fresh_event (Began who dep t s) some f l w al st = record { width = st.1.width; own = own_entry some f l w st.0 dep t.time (entry s at.site) dep.stable st.1.own; others = λ j o. least_is (known at (before at) j) (known_shown run at j) plan.parts (entry s j) some (known_is w st.0 j o) (st.1.stable j o) }
    fresh_event (Heard number k b stable) some f l w al st = stable_told number k b stable some f l w al st
    fresh_event (Refused (AskBegin who dep) ClockAtEnd) some f lease w al st = enough_shown some f lease w st.0.0 dep st.0.1.0
    fresh_event (Refused (AskBegin who dep) (StableBehind j n)) some f lease w al st =
        record {
          have = ⊎_elim
              (λ (x : IsOther plan.sites at.site j × (n ≡ stable_entry plan.parts at (before at) j)). inl (x.0, least_is (known at (before at) j) (known_shown run at j) plan.parts n some (known_is w st.0.0 j x.0) x.1))
              (λ (x : (dep.stable ≡ true) × (j ≡ at.site) × IsOwnStable plan.parts at (before at) n). inr (x.0, x.1, own_stable some f lease w st.0.0 n x.2))
              st.0.1.have;
          behind = st.0.1.behind;
          least = λ i o x. st.0.1.least i o (let k = stable_low w st.0.0 i o x.0 x.1 x.2 in let y = x.3 in omega arith);
          own = λ below. own_enough some f lease w st.0.0 dep (st.0.1.own below);
        }
    fresh_event event some f l w al st = tt

  hears_start : (plan : Plan E) (parts : PartId → PartState E) → ((p : PartId) → parts p ≡ new_part plan.sites plan.parts) → Hears plan [] parts
  hears_start plan parts r = record {
    count = λ p u. ap (λ x. length x.heard) (r p) ∙ length-replicate plan.parts (replicate plan.sites 0);
    rows = λ p q u a c. ap (λ x. length (vector_of x.heard q)) (r p) ∙ ap length (get_or-replicate plan.parts (q - 1) (replicate plan.sites 0) [] (omega arith)) ∙ length-replicate plan.sites 0;
    told = λ p q j u a c. ap (λ x. entry (vector_of x.heard q) j) (r p) ∙ rows_at plan.parts plan.sites (q - 1) (j - 1);
    wide = tt;
  }

  pub hears_run : {S : Type 0} (kinds : Kinds S E) (plan : Plan E) (run : List (Entry E)) (parts : PartId → PartState E) → IsRun kinds plan run parts → Hears plan run parts
  hears_run kinds plan [] parts r = hears_start plan parts r
  hears_run kinds plan (e ∷ run) parts r = hears_step kinds plan run r.0 parts e.at (hears_run kinds plan run r.0 r.1) e.event r.2.allowed r.2.step r.2.others

  pub fresh_events : {S : Type 0} (kinds : Kinds S E) (plan : Plan E) (run : List (Entry E)) (parts : PartId → PartState E) → IsRun kinds plan run parts → AreFresh plan run
  fresh_events kinds plan [] parts r = tt
  fresh_events kinds plan (e ∷ run) parts r = (
    (let k = law_plan kinds plan run r.0 r.1 in fresh_event kinds plan run r.0 parts e.at (hears_run kinds plan run r.0 r.1) e.event (le_trans r.2.place.least_part r.2.place.most_part) k.fate k.leases (shown_run kinds plan run r.0 r.1) r.2.allowed r.2.step),
    fresh_events kinds plan run r.0 r.1,
  )
