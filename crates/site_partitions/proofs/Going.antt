-- A call of a partition is one more event of whatever run its cluster had reached.
use Rattle.std.proofs.Common.{◌≡◌, ◌≢◌, ℕ, ◌*◌, ◌<◌, Bool, true, false, List, ◌∷◌, length, get_or, set, refl, sym, ap, ◌∙◌, subst, true≢false, Result, Ok, Err}
use Rattle.std.specs.Prelude.{if◌then◌else◌}
use Rattle.std.proofs.lemmas.Bool.{false_from_ne_true}
use Rattle.std.proofs.lemmas.List.{get_or-set_same, get_or-set_other, set-get_or}
use Rattle.site_vector.specs.declared.ids.PartId.{PartId}
use Rattle.site_vector.specs.Ids.{same_part}
use Rattle.site_vector.specs.Order.{same_part_is, same_part_refl}
use Rattle.disk_core.specs.States.{GoesOn as DiskGoesOn, Fails}
use Rattle.world_model.specs.rules.Asking.{MayCall, asked_by, is_own_word}
use Rattle.world_model.specs.rules.Event.{Ask, Event, Entry, Refusal, Refused, IsDown, HasNoRoom, Cut, attempt}
use Rattle.world_model.specs.rules.World.{plan_of}
use Rattle.world_model.specs.rules.Partition.{PartState, PartStep}
use Rattle.world_model.specs.rules.Plan.{Plan, IsAllowed, IsFit, WorldStep, IsNew}
use Rattle.world_model.specs.lines.Places.{IsPlace}
use Rattle.world_model.proofs.Asks.{asks}
use Rattle.partition_core.specs.declared.durable.DurableError.{DurableError}
use Rattle.partition_core.specs.declared.durable.DurableError.TheVariants as call
use Rattle.partition_core.specs.Answers.{cause}
use Rattle.partition_core.specs.Durable.{Durable, StandsOn, disk_in, is_down}
use Rattle.partition_core.specs.Moments.{StepsOn, SteppedOn, Spends, CallsOn, IsCutOff, AnySuch}
use Rattle.partition_core.specs.Tables.{IsSame}
use Rattle.partition_core.proofs.Callers.{put}
use Rattle.site_partitions.specs.Held.{Held, IsSized, IsAt, with_part, index_of}
use Rattle.site_partitions.specs.Moves.{Moves}
use Rattle.site_partitions.specs.Reaches.{Types, PutsEvent, StandsAt, Reaches, Goes}
use Rattle.site_partitions.specs.Answers.{OnRuns, Asks, GoesOn, FindsNoRoom, CallsIf, Calls}
use Rattle.site_partitions.proofs.Finding.{at_index, is_within, found_at, is_at}
use Rattle.site_partitions.proofs.Places.{index_is}

module _ {S E D : Type 0} (w : Types S E D) where
  module _ (sites parts : ℕ) (at : PartId) (place : IsPlace sites parts at) (partitions : List (Durable E D)) (new : Durable E D) (state after : PartId → PartState E)
      (within : index_of parts at < length partitions)
      (each : (p : PartId) → IsPlace sites parts p → (other : Durable E D) → StandsAt w sites parts p (get_or partitions (index_of parts p) other) (state p))
      (here : StandsAt w sites parts at new (after at))
      (others : (p : PartId) → same_part at p ≡ false → after p ≡ state p) where
    -- one partition changed: all stand for the states after it
    each_set : (p : PartId) → IsPlace sites parts p → (other : Durable E D) → StandsAt w sites parts p (get_or (set partitions (index_of parts at) new) (index_of parts p) other) (after p)
    each_set p h other = at_place (same_part at p) refl
      where
        at_place : (b : Bool) → same_part at p ≡ b → StandsAt w sites parts p (get_or (set partitions (index_of parts at) new) (index_of parts p) other) (after p)
        at_place true e =
            let is : at ≡ p = same_part_is at p e in
            subst (λ (q : PartId). StandsAt w sites parts q (get_or (set partitions (index_of parts at) new) (index_of parts q) other) (after q)) is
            (subst (λ x. StandsAt w sites parts at x (after at)) (sym (get_or-set_same partitions (index_of parts at) new other within)) here)
        at_place false e =
            let apart : index_of parts p ≢ index_of parts at = λ k. true≢false (sym (ap (λ q. same_part at q) (index_is sites parts p at h place k) ∙ same_part_refl at) ∙ e) in
            subst (λ x. StandsAt w sites parts p x (after p)) (sym (get_or-set_other partitions (index_of parts at) (index_of parts p) new other apart))
            (subst (λ x. StandsAt w sites parts p (get_or partitions (index_of parts p) other) x) (sym (others p e)) (each p h other))

  -- a step of one partition, where the world allows its event, is a step of the world
  world_step : (plan : Plan E) (run : List (Entry E)) (before : PartId → PartState E) (at : PartId) (t : Durable E D) (e : Event E) (after : PartState E)
      → PartStep w.kinds t.tables.sites t.tables.parts t.tables.id (before at) e after
      → StandsAt w plan.sites plan.parts at t (before at) → IsPlace plan.sites plan.parts at → IsAllowed plan run before at (attempt e) → IsFit w.kinds e
      → WorldStep w.kinds plan run before (record { at = at; event = e }) (put w.kinds before at after)
  world_step plan run before at t e after s stands place allowed fit =
      let here : put w.kinds before at after at ≡ after = ap (λ x. if x then after else before at) (same_part_refl at) in
      let step : PartStep w.kinds plan.sites plan.parts at (before at) e after =
      subst (λ i. PartStep w.kinds plan.sites plan.parts i (before at) e after) stands.id
      (subst (λ n. PartStep w.kinds plan.sites n t.tables.id (before at) e after) stands.parts_are
      (subst (λ n. PartStep w.kinds n t.tables.parts t.tables.id (before at) e after) stands.sites_are s)) in record {
        place = place;
        allowed = allowed;
        fit = fit;
        step = subst (λ q. PartStep w.kinds plan.sites plan.parts at (before at) e q) (sym here) step;
        others = λ q ne. ap (λ x. if x then after else before q) (false_from_ne_true (same_part at q) (λ k. ne (sym (same_part_is at q k))));
      }

  -- what an event that answers a call owes the world
  pub record IsAnswer (old : Held E D) (run : List (Entry E)) (r : Reaches w old run) (at : PartId) (ask : Ask E) (e : Event E) : Type 0 where
    pub asked : asked_by (attempt e) ≡ ask
    pub allowed : IsAllowed (plan_of old.sites old.parts ((record { at = at; event = e }) ∷ run)) run r.state at (attempt e)
    pub fit : IsFit w.kinds e
    pub new : IsNew run e
    pub puts : PutsEvent w e

  -- what one owes that did what was asked, whole or cut off
  pub record IsDone (old : Held E D) (run : List (Entry E)) (r : Reaches w old run) (at : PartId) (ask : Ask E) (e : Event E) : Type 0 where
    pub asked : asked_by e ≡ ask
    pub plain : attempt e ≡ e
    pub allowed : IsAllowed (plan_of old.sites old.parts ((record { at = at; event = e }) ∷ run)) run r.state at e
    pub cut : IsAllowed (plan_of old.sites old.parts ((record { at = at; event = Cut e }) ∷ run)) run r.state at e
    pub fit : IsFit w.kinds e
    pub new : IsNew run e

  -- and one that did what a session, a message or a report asked
  pub record IsShown (run : List (Entry E)) (ask : Ask E) (e : Event E) : Type 0 where
    pub asked : asked_by e ≡ ask
    pub plain : attempt e ≡ e
    pub own_word : is_own_word e ≡ true
    pub fit : IsFit w.kinds e
    pub new : IsNew run e

  module _ (old : Held E D) (run : List (Entry E)) (r : Reaches w old run) (at : PartId) (ask : Ask E) where
    of_done : (e : Event E) → IsDone old run r at ask e → PutsEvent w e → IsAnswer old run r at ask e
    of_done e d put = record {
      asked = ap asked_by d.plain ∙ d.asked;
      allowed = subst (λ x. IsAllowed (plan_of old.sites old.parts ((record { at = at; event = e }) ∷ run)) run r.state at x) (sym d.plain) d.allowed;
      fit = d.fit;
      new = d.new;
      puts = put;
    }

    of_cut : (e : Event E) → IsDone old run r at ask e → IsAnswer old run r at ask (Cut e)
    of_cut e d = record { asked = d.asked; allowed = d.cut; fit = tt; new = tt; puts = tt }

    done_so : (e : Event E) → MayCall old.sites old.parts run at ask → IsShown run ask e → IsDone old run r at ask e
    done_so e may s = record {
      asked = s.asked;
      plain = s.plain;
      allowed = subst (λ x. IsAllowed (plan_of old.sites old.parts ((record { at = at; event = e }) ∷ run)) run r.state at x) s.plain (asks old.sites old.parts run r.state at e (subst (MayCall old.sites old.parts run at) (sym (ap asked_by s.plain ∙ s.asked)) may) (ap is_own_word s.plain ∙ s.own_word));
      cut = asks old.sites old.parts run r.state at (Cut e) (subst (MayCall old.sites old.parts run at) (sym s.asked) may) s.own_word;
      fit = s.fit;
      new = s.new;
    }

    refused_so : (why : Refusal) → MayCall old.sites old.parts run at ask → IsFit w.kinds (Refused ask why) → IsAnswer old run r at ask (Refused ask why)
    refused_so why may fit = record { asked = refl; allowed = asks old.sites old.parts run r.state at (Refused ask why) may refl; fit = fit; new = tt; puts = tt }

  -- the fields of a cluster, as they stand in its code, and its partition at a place, changed
  module _ (sites parts : ℕ) (items : List (Durable E D)) (old : Held E D) (view : record { sites = sites; parts = parts; partitions = items } ≡ old) (size : IsSized sites parts (length items)) (at : PartId) (place : IsPlace old.sites old.parts at)
      (i : ℕ) (is : i ≡ index_of parts at) (below : i < sites * parts) (t u : Durable E D) (there : t ≡ get_or items i t) where
    abbrev pub changed_to : Held E D
    changed_to = record { sites = sites; parts = parts; partitions = set items i u }

    index : i ≡ index_of old.parts at
    index = at_index sites parts items old view size at i is

    within : index_of old.parts at < length old.partitions
    within = is_within sites parts items old view size at i is below

    found : t ≡ get_or old.partitions (index_of old.parts at) t
    found = found_at sites parts items old view size at i is t there

    pub is_there : IsAt old at t
    is_there = is_at sites parts items old view size at i is below t there

    pub changed : changed_to ≡ with_part old at u
    changed = ap (λ (h : Held E D). record { sites = h.sites; parts = h.parts; partitions = set h.partitions i u }) view ∙ ap (λ k. record old { partitions = set old.partitions k u }) index

    -- these tables are of that partition
    pub stands_at : (run : List (Entry E)) (r : Reaches w old run) → StandsAt w old.sites old.parts at t (r.state at)
    stands_at run r = subst (λ x. StandsAt w old.sites old.parts at x (r.state at)) (sym found) (r.each at place t)

    abbrev pub moves : DiskGoesOn (disk_in w.state t) (disk_in w.state u) → Moves w.state old changed_to at
    moves disk = record {
      before = t;
      after = u;
      there = is_there;
      changed = changed;
      same_sites = ap (λ (h : Held E D). h.sites) view;
      same_parts = ap (λ (h : Held E D). h.parts) view;
      disk = disk;
    }

    -- what nothing changed
    pub same_held : u ≡ t → changed_to ≡ old
    same_held s = ap (λ l. record { sites = sites; parts = parts; partitions = l }) (ap (λ x. set items i x) (s ∙ there) ∙ set-get_or items i t) ∙ view

    module _ (same : IsSame t.tables u.tables) (run : List (Entry E)) (r : Reaches w old run) where
      after_at : (p : PartState E) → StandsOn w.codec w.state u p → StandsAt w old.sites old.parts at u p
      after_at p stands =
          let before = stands_at run r in record { id = same.id ∙ before.id; sites_are = same.sites ∙ before.sites_are; parts_are = same.parts ∙ before.parts_are; stands = stands }

      -- by one more event
      pub reached_by : (e : Event E) (after : PartState E) → PartStep w.kinds t.tables.sites t.tables.parts t.tables.id (r.state at) e after → StandsOn w.codec w.state u after
          → IsAllowed (plan_of old.sites old.parts ((record { at = at; event = e }) ∷ run)) run r.state at (attempt e) → IsFit w.kinds e → IsNew run e → PutsEvent w e
          → Reaches w changed_to ((record { at = at; event = e }) ∷ run)
      reached_by e after step stands allowed fit new puts =
          let next = put w.kinds r.state at after in
          let here : next at ≡ after = ap (λ b. if b then after else r.state at) (same_part_refl at) in
          let all = each_set old.sites old.parts at place old.partitions u r.state next within r.each (subst (StandsAt w old.sites old.parts at u) (sym here) (after_at after stands)) (λ p e. ap (λ b. if b then after else r.state p) e) in
          subst (λ c. Reaches w c ((record { at = at; event = e }) ∷ run)) (sym changed) (record {
            state = next;
            is_run = (r.state, r.is_run, world_step (plan_of old.sites old.parts ((record { at = at; event = e }) ∷ run)) run r.state at t e after step (stands_at run r) place allowed fit, new);
            puts = (puts, r.puts);
            each = all;
          })

      -- the same, of the event that a step shows
      pub reached_as : (e : Event E) → SteppedOn w.kinds w.codec w.state t u (r.state at) (λ x. x ≡ e)
          → IsAllowed (plan_of old.sites old.parts ((record { at = at; event = e }) ∷ run)) run r.state at (attempt e) → IsFit w.kinds e → IsNew run e → PutsEvent w e
          → Reaches w changed_to ((record { at = at; event = e }) ∷ run)
      reached_as e s allowed fit new puts = reached_by e s.after (subst (λ x. PartStep w.kinds t.tables.sites t.tables.parts t.tables.id (r.state at) x s.after) s.shows s.step) s.stands allowed fit new puts

      -- by none
      pub reached_still : StandsOn w.codec w.state u (r.state at) → Reaches w changed_to run
      reached_still stands =
          let all = each_set old.sites old.parts at place old.partitions u r.state r.state within r.each (after_at (r.state at) stands) (λ p e. refl) in
          subst (λ c. Reaches w c run) (sym changed) (record { state = r.state; is_run = r.is_run; puts = r.puts; each = all })

    -- a call's clause, and what its events owe the world, are the cluster's promise
    pub goes_on : (May : OnRuns w old) (ask : Ask E) (G : PartState E → Type 0) (Shows : Event E → Type 0) → (s : StepsOn w.kinds w.codec w.state t u G Shows)
        → ((run : List (Entry E)) (r : Reaches w old run) → May run r → G (r.state at) × ((e : Event E) → Shows e → IsAnswer old run r at ask e))
        → (g : GoesOn w old changed_to May at ask Shows) × (g.moves ≡ moves s.goes_on)
    goes_on May ask G Shows s gives = (record { moves = moves s.goes_on; goes = next }, refl)
      where
        next : (run : List (Entry E)) (r : Reaches w old run) → May run r → (g : Goes w changed_to run at ask Shows) × Spends w.kinds w.codec w.state t u (r.state at) g.event
        next run r may =
            let a = gives run r may in
            let step = s.step (r.state at) (stands_at run r).stands a.0 in
            let owes : IsAnswer old run r at ask step.0.event = a.1 step.0.event step.0.shows in
            (record { event = step.0.event; asked = owes.asked; shows = step.0.shows; reached = reached_by s.same run r step.0.event step.0.after step.0.step step.0.stands owes.allowed owes.fit owes.new owes.puts }, step.1)

    -- a call's clause is the cluster's promise, where what it may answer is allowed
    module _ (May : OnRuns w old) (ask : Ask E) (G : PartState E → Type 0) (given : (run : List (Entry E)) (r : Reaches w old run) → May run r → G (r.state at))
        (refuses : (why : Refusal) (run : List (Entry E)) (r : Reaches w old run) → May run r → IsAnswer old run r at ask (Refused ask why)) where
      refused : (why : Refusal) → (s : StepsOn w.kinds w.codec w.state t u G (λ e. e ≡ Refused ask why)) → (g : GoesOn w old changed_to May at ask (λ e. e ≡ Refused ask why)) × (g.moves ≡ moves s.goes_on)
      refused why s = goes_on May ask G (λ e. e ≡ Refused ask why) s (λ run r m. (given run r m, λ e k. subst (IsAnswer old run r at ask) (sym k) (refuses why run r m)))

      pub called : {A : Type 0} (Shows : A → Event E → Type 0) → ((x : A) (run : List (Entry E)) (r : Reaches w old run) → May run r → (e : Event E) → Shows x e → IsDone old run r at ask e)
          → (result : Result A DurableError) → ((x : A) → result ≡ Ok x → (run : List (Entry E)) (r : Reaches w old run) → May run r → (e : Event E) → Shows x e → PutsEvent w e)
          → CallsOn w.kinds w.codec w.state t u G ask Shows result → CallsIf w old changed_to May at ask Shows result
      called Shows done (Ok x) puts s = (goes_on May ask G (Shows x) s (λ run r m. (given run r m, λ e k. of_done old run r at ask e (done x run r m e k) (puts x refl run r m e k)))).0
      called Shows done (Err call.NoMemory) puts s = same_held s
      called Shows done (Err call.Down) puts s =
          let g = refused IsDown s.2 in
          (same_held s.0, g.0, subst (λ (m : Moves w.state old changed_to at). is_down m.before ≡ true) (sym g.1) s.1)
      called Shows done (Err call.Disk) puts s =
          let g = goes_on May ask G (IsCutOff Shows) s.2 (λ run r m. (given run r m, λ e k. subst (IsAnswer old run r at ask) (sym k.2) (of_cut old run r at ask k.0 (done k.1.0 run r m k.0 k.1.1)))) in (
            g.0,
            subst (λ (m : Moves w.state old changed_to at). Fails (disk_in w.state m.before) (disk_in w.state m.after)) (sym g.1) s.0,
            subst (λ (m : Moves w.state old changed_to at). is_down m.after ≡ true) (sym g.1) s.1,
          )
      called Shows done (Err (call.Full room)) puts s =
          let g = refused (HasNoRoom room) s.2 in
          (same_held s.0, g.0, subst (λ (m : Moves w.state old changed_to at). FindsNoRoom w old changed_to May at ask m (AnySuch Shows) room) (sym g.1) (s.1, λ run r m. s.3 (r.state at) (stands_at run r).stands (given run r m)))
      called Shows done (Err (call.Refused why)) puts s = (refused (cause why) s).0

    -- the same of what the rules of sessions, messages and reports allow
    pub asked : (Given : List (Entry E) → Type 0) (ask : Ask E) (G : PartState E → Type 0) {A : Type 0} (Shows : A → Event E → Type 0)
        → ((run : List (Entry E)) (r : Reaches w old run) → MayCall old.sites old.parts run at ask → G (r.state at))
        → ((why : Refusal) → IsFit w.kinds (Refused ask why))
        → ((x : A) (run : List (Entry E)) → MayCall old.sites old.parts run at ask → Given run → (e : Event E) → Shows x e → IsShown run ask e)
        → (result : Result A DurableError) → ((x : A) → result ≡ Ok x → (e : Event E) → Shows x e → PutsEvent w e)
        → CallsOn w.kinds w.codec w.state t u G ask Shows result → Calls w old changed_to Given at ask Shows result
    asked Given ask G Shows given fits shows result puts s =
        called (Asks w old Given at ask) ask G (λ run r m. given run r m.0) (λ why run r m. refused_so old run r at ask why m.0 (fits why)) Shows (λ x run r m e k. done_so old run r at ask e m.0 (shows x run m.0 m.1 e k)) result (λ x is run r m e k. puts x is e k) s
