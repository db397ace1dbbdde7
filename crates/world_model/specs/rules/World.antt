-- Runs of the world whose transactions are what their own events say.
use Rattle.std.specs.Prelude.{◌≡◌, ℕ, leb, Bool, true, false, ◌&&◌, ◌||◌, ◌==◌, if◌then◌else◌, cond, List, [], ◌∷◌, length, filter}
use Rattle.std.proofs.lemmas.Bool.{and_parts, eqb-true, leb-true}
use Rattle.site_vector.specs.declared.ids.PartId.{PartId}
use Rattle.site_vector.specs.declared.ids.TxId.{TxId}
use Rattle.site_vector.specs.Ids.{same_tx}
use Rattle.crdt_core.specs.declared.record.Upd.{Upd}
use Rattle.world_model.specs.lines.Places.{partitions, first_of, home}
use Rattle.world_model.specs.rules.Event.{Event, Began, Entry}
use Rattle.crdt_core.specs.KindsOf.{Kinds}
use Rattle.world_model.specs.rules.Partition.{PartState, new_part}
use Rattle.world_model.specs.rules.Plan.{Plan, is_some_update, updates_at, WorldStep, IsNew}
use Rattle.world_model.specs.events.Lawful.{IsLawfulWorld}
use Rattle.world_model.specs.events.Logs.{LeavesLogs}
use Rattle.world_model.specs.rules.Lines.{shown_lines}
use Rattle.world_model.specs.rules.Fate.{TellFates}
use Rattle.world_model.specs.lines.Lawful.{IsLawful}

module _ {E : Type 0} where
  abbrev pub is_begin : Event E → TxId → Bool
  is_begin (Began who dep u s) t = same_tx u t
  is_begin other t = false

  abbrev pub begin_vector : Event E → List ℕ
  begin_vector (Began who dep u s) = s
  begin_vector other = []

  abbrev pub begun : List (Entry E) → TxId → Bool
  begun [] t = false
  begun (e ∷ run) t = is_begin e.event t || begun run t

  -- the snapshot that t began with
  abbrev pub snapshot_of : List (Entry E) → TxId → List ℕ
  snapshot_of [] t = []
  snapshot_of (e ∷ run) t = if is_begin e.event t then begin_vector e.event else snapshot_of run t

  -- p is of t's site, which is one of the cluster and which t's snapshot has an entry for
  abbrev pub is_own : ℕ → List (Entry E) → TxId → PartId → Bool
  is_own sites run t p = p.site == t.site && (leb 1 t.site && (leb t.site sites && leb t.site (length (snapshot_of run t))))

  abbrev pub changes_of : ℕ → List (Entry E) → TxId → PartId → List (Upd E)
  changes_of sites run t p = if is_own sites run t p then updates_at run t p else []

  -- the participants: the partitions of its site where it changed something, in ascending order; the first is the lead
  abbrev pub participants_of : ℕ → ℕ → List (Entry E) → TxId → List PartId
  participants_of sites parts run t = filter (λ p. is_some_update (changes_of sites run t p)) (partitions t.site 1 parts)

  abbrev pub lead_of : ℕ → ℕ → List (Entry E) → TxId → PartId
  lead_of sites parts run t = first_of (home t) (participants_of sites parts run t)

  changed_own : (sites : ℕ) (run : List (Entry E)) (t : TxId) (p : PartId) → is_some_update (changes_of sites run t p) ≡ true → is_own sites run t p ≡ true
  changed_own sites run t p = elim (is_own sites run t p) as (λ b. is_some_update (cond b (updates_at run t p) []) ≡ true → b ≡ true) [ true ↦ λ h i. true | false ↦ λ h. h ]

  pub own_parts : (sites : ℕ) (run : List (Entry E)) (t : TxId) (p : PartId) → is_some_update (changes_of sites run t p) ≡ true → ((p.site == t.site) ≡ true) × (leb 1 t.site ≡ true) × (leb t.site sites ≡ true) × (leb t.site (length (snapshot_of run t)) ≡ true)
  own_parts sites run t p h =
      let a = and_parts (p.site == t.site) _ (changed_own sites run t p h) in
      let b = and_parts (leb 1 t.site) _ a.1 in
      let c = and_parts (leb t.site sites) _ b.1 in
      (a.0, b.0, c.0, c.1)

  -- what the transactions of these events are. A snapshot is fixed by the begin that shows it; updates, and so who takes part and the
  -- lead, are before the first vote is asked for (`IsNewUpdate.early`); the time, and so the commit vector, by the last vote
  abbrev pub plan_of : ℕ → ℕ → List (Entry E) → Plan E
  plan_of sites parts run = record {
    sites = sites;
    parts = parts;
    snapshot = λ t. snapshot_of run t;
    lead = λ t. lead_of sites parts run t;
    updates = λ t p. changes_of sites run t p;
    at_home = λ t p h. eqb-true _ _ (own_parts sites run t p h).0;
    least = λ t p h. leb-true _ _ (own_parts sites run t p h).1;
    most = λ t p h. leb-true _ _ (own_parts sites run t p h).2;
    entered = λ t p h. leb-true _ _ (own_parts sites run t p h).3;
  }

  -- each step is allowed by what the events up to it say
  abbrev pub IsWorldRun : {S : Type 0} → Kinds S E → ℕ → ℕ → List (Entry E) → (PartId → PartState E) → Type 0
  IsWorldRun kinds sites parts [] state = (p : PartId) → state p ≡ new_part sites parts
  IsWorldRun kinds sites parts (e ∷ run) state = (before : PartId → PartState E) × IsWorldRun kinds sites parts run before × WorldStep kinds (plan_of sites parts (e ∷ run)) run before e state × IsNew run e.event

-- any run of the world is lawful, whatever its kinds do; it leaves the logs that its events tell and leads that tell fates, and shows the lines of a lawful run
abbrev pub LawWorld : (S E : Type 0) → Type 0
LawWorld S E = (kinds : Kinds S E) (sites parts : ℕ) (run : List (Entry E)) (state : PartId → PartState E) → IsWorldRun kinds sites parts run state → IsLawfulWorld kinds (plan_of sites parts run) run × LeavesLogs (plan_of sites parts run) run state × IsLawful kinds.too_deep kinds.meaning sites parts (shown_lines run) × TellFates parts (shown_lines run) state
