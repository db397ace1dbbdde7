-- The fuses of a script's run over a cluster, with the line of one more call.
use Rattle.std.proofs.Common.{◌≡◌, ◌≢◌, ⊎_elim, ℕ, zero, suc, ◌*◌, ◌≤◌, Bool, true, false, List, [], ◌∷◌, length, get_or, set, refl, sym, ap, ◌∙◌, subst, Option, None, arith}
use Rattle.std.specs.Prelude.{◌&&◌, ◌||◌, nat_le}
use Rattle.std.proofs.lemmas.Bool.{cond-true, and_parts, or_left, or_cases, true≢false, leb-true}
use Rattle.std.proofs.lemmas.List.{get_or-set_other}
use Rattle.site_vector.specs.declared.ids.PartId.{PartId}
use Rattle.site_vector.specs.declared.ids.TxId.{TxId}
use Rattle.site_vector.specs.Ids.{same_part}
use Rattle.site_vector.specs.Order.{same_part_refl}
use Rattle.site_vector.specs.Vector.{entry}
use Rattle.crdt_core.specs.declared.record.Message.{Message}
use Rattle.crdt_core.specs.Log as log
use Rattle.world_model.specs.declared.step.Step.{Step}
use Rattle.world_model.specs.declared.step.Step.TheVariants as step
use Rattle.world_model.specs.lines.Bounds.{bound}
use Rattle.world_model.specs.commands.Cluster.{parts_of}
use Rattle.world_model.specs.rules.Event.{Event, Took, Entry, attempt}
use Rattle.world_model.specs.commands.Fuses.{Fuse, fuse, fuse_after, is_change, is_bringing, shows_written}
use Rattle.world_model.specs.lines.Lines as world
use Rattle.world_model.specs.rules.Lines.{shown_lines, call_of, step_shown}
use Rattle.world_model.specs.rules.Partition.{records}
use Rattle.world_model.specs.lines.Pending.{pending}
use Rattle.world_model.specs.lines.Places.{IsPlace}
use Rattle.world_model.specs.commands.Run.{Run}
use Rattle.world_model.specs.commands.Run as script
use Rattle.world_model.specs.commands.ScriptCalls.{Placed, is_called, asked_by, numbered, line_on, calls_of}
use Rattle.world_model.specs.lines.Updates.{lead}
use Rattle.world_model.proofs.Names.{off}
use Rattle.partition_core.specs.Durable.{Durable, disk_in}
use Rattle.partition_core.specs.Moments.{Spends, is_cut}
use Rattle.site_partitions.specs.Held.{Held, index_of, holds_site, holds_part}
use Rattle.site_partitions.specs.Moves.{Moves}
use Rattle.site_partitions.specs.Reaches.{Types, Reaches}
use Rattle.site_partitions.proofs.Places.{index_is}
use Rattle.cluster.specs.Faults.{TellsFault}
use Rattle.cluster.specs.Fuel.{Burns, IsBrought, left_at, keep_at, IsLit, IsFueled, Spent}
use Rattle.cluster.proofs.FuelBurns.{burns_less, burns_spent, taken_off}
use Rattle.cluster.proofs.FuelLines.{lets_burn, is_arming, unwritten, fuel_call}
use Rattle.cluster.proofs.FusedRuns.{is_of_restart, cut_shown, lit_call}
use Rattle.cluster.proofs.FuelTold.{was_up, place_of, from_other, waits_in, bound_in, waits_too}
use Rattle.cluster.proofs.FuelWrites.{can_write, is_took, no_bringing, writes, never_writes, none_brought, uncut, unarmed, own_fault, number_change, number_bringing, number_lets, number_arming}

module _ {A X : Type 0} (f : A → X) (R : X → X → Type 0) where
  -- what holds of an element and of what is put in its place
  pub at_set : (xs : List A) (i : ℕ) (t u : A) → ((other : A) → get_or xs i other ≡ t) → R (f t) (f u) → (other : A) → R (f (get_or xs i other)) (f (get_or (set xs i u) i other))
  at_set [] i t u h k other = subst (λ y. R (f y) (f other)) (sym (h other)) (subst (λ y. R (f t) (f y)) (h u ∙ sym (h other)) k)
  at_set (x ∷ xs) zero t u h k other = subst (λ y. R (f y) (f u)) (sym (h x)) k
  at_set (x ∷ xs) (suc i) t u h k other = at_set xs i t u h k other

and_none : (b : Bool) → (b && false) ≡ false
and_none true = refl
and_none false = refl

-- a place that the cluster has
pub place_held : {E D : Type 0} (c : Held E D) (p : PartId) → holds_part c p ≡ true → IsPlace c.sites c.parts p
place_held c p h =
    let x = and_parts (holds_site c p.site) _ h in
    let site = and_parts (nat_le 1 p.site) _ x.0 in
    let part = and_parts (nat_le 1 p.part) _ x.1 in
    record { least_site = leb-true 1 p.site site.0; most_site = leb-true p.site c.sites site.1; least_part = leb-true 1 p.part part.0; most_part = leb-true p.part c.parts part.1 }

-- where a called line was asked, by the lines that it makes
module _ (run : Run) (l : script.Line) (x : world.Line) (lines_are : calls_of (l ∷ run) ≡ x ∷ calls_of run) (called : is_called l.command l.step ≡ true) where
  abbrev asked : Placed
  asked = asked_by (calls_of run) run l.command l.step

  first_are : line_on (calls_of run) asked (numbered run l.step) ≡ x ∷ calls_of run
  first_are = sym (cond-true (is_called l.command l.step) (line_on (calls_of run) asked (numbered run l.step)) (calls_of run) called) ∙ lines_are

  abbrev first_of : List world.Line → world.Line
  first_of [] = x
  first_of (y ∷ ys) = y

  pub asked_at : asked.at ≡ x.at
  asked_at = ap (λ ls. (first_of ls).at) first_are

  pub asked_call : asked.call ≡ x.call
  asked_call = ap (λ ls. (first_of ls).call) first_are

module _ {S E D : Type 0} (w : Types S E D) (old new : Held E D) (at : PartId) (m : Moves w.state old new at) where
  pub burns_here : (n : ℕ) → Burns n (disk_in w.state m.before).left (disk_in w.state m.after).left → (other : Durable E D) → Burns n (left_at w.state old at other) (left_at w.state new at other)
  burns_here n b other = subst (λ (c : Held E D). Burns n (left_at w.state old at other) (left_at w.state c at other)) (sym m.changed) (at_set (λ t. (disk_in w.state t).left) (Burns n) old.partitions (index_of old.parts at) m.before m.after m.there b other)

  pub left_here : (k : Option ℕ) → (disk_in w.state m.after).left ≡ k → (other : Durable E D) → holds_part old at ≡ true → left_at w.state new at other ≡ k
  left_here k e other there = subst (λ (c : Held E D). left_at w.state c at other ≡ k) (sym m.changed) (at_set (λ t. (disk_in w.state t).left) (λ x y. y ≡ k) old.partitions (index_of old.parts at) m.before m.after m.there e other)

  pub keep_here : (k : ℕ) → (disk_in w.state m.after).keep ≡ k → (other : Durable E D) → holds_part old at ≡ true → keep_at w.state new at other ≡ k
  keep_here k e other there = subst (λ (c : Held E D). keep_at w.state c at other ≡ k) (sym m.changed) (at_set (λ t. (disk_in w.state t).keep) (λ x y. y ≡ k) old.partitions (index_of old.parts at) m.before m.after m.there e other)

  pub same_holds : (p : PartId) → holds_part new p ≡ holds_part old p
  same_holds p = λ i. (nat_le 1 p.site && nat_le p.site (m.same_sites i)) && (nat_le 1 p.part && nat_le p.part (m.same_parts i))

  pub left_there : IsPlace old.sites old.parts at → (p : PartId) → holds_part old p ≡ true → same_part at p ≡ false → (other : Durable E D) → left_at w.state new p other ≡ left_at w.state old p other
  left_there place p h e other =
      let apart : index_of old.parts p ≢ index_of old.parts at = λ k. true≢false (sym (ap (λ q. same_part at q) (index_is old.sites old.parts p at (place_held old p h) place k) ∙ same_part_refl at) ∙ e) in
      subst (λ (c : Held E D). left_at w.state c p other ≡ left_at w.state old p other) (sym m.changed)
      (ap (λ t. (disk_in w.state t).left) (get_or-set_other old.partitions (index_of old.parts at) (index_of old.parts p) m.after other apart))

  module _ (whole : List world.Line) (run : Run) (l : script.Line) (place : IsPlace old.sites old.parts at)
      (placed : is_called l.command l.step ≡ true → (asked_by (calls_of run) run l.command l.step).at ≡ at)
      (unarms : is_arming l.step ≡ false)
      (disk : (q : PartId) → l.step ≡ step.Disk q → q ≡ at)
      (doubt : (t : TxId) → l.step ≡ step.Unsure t → lead (parts_of run) (calls_of run) t ≡ at) where
    others : (p : PartId) → same_part at p ≡ false → shows_written whole run p l ≡ false
    others p apart = by_called (is_called l.command l.step) refl
      where
        asked_here : Placed
        asked_here = asked_by (calls_of run) run l.command l.step

        by_called : (b : Bool) → is_called l.command l.step ≡ b → shows_written whole run p l ≡ false
        by_called false e = unwritten whole run p l e
        by_called true e =
            let away : same_part asked_here.at p ≡ false = ap (λ q. same_part q p) (placed e) ∙ apart in
            ap (λ b. is_called l.command l.step && (b && (is_change (calls_of run) p l.step || is_bringing whole (calls_of run) p asked_here.call l.step))) away ∙ and_none (is_called l.command l.step)

    over : (old_fuse : Option Fuse) (wrote : Bool) (s : Step) → is_arming s ≡ false → ((q : PartId) → s ≡ step.Disk q → q ≡ at) → ((t : TxId) → s ≡ step.Unsure t → lead (parts_of run) (calls_of run) t ≡ at) → lets_burn s ≡ false → fuse_after run at old_fuse wrote s ≡ None
    over o wrote (step.Fused q k n) a d u h = off (sym a)
    over o wrote (step.Disk q) a d u h = cond-true (same_part q at) None o (ap (λ x. same_part x at) (d q refl) ∙ same_part_refl at)
    over o wrote (step.Unsure t) a d u h = cond-true (same_part (lead (parts_of run) (calls_of run) t) at) None o (ap (λ x. same_part x at) (u t refl) ∙ same_part_refl at)
    over o wrote other a d u h = absurd (true≢false h)

    -- the line of a call that made so many records, if it wrote at all
    pub fuel_by : (n : ℕ) → (lets_burn l.step ≡ true → Burns (4 * n) (disk_in w.state m.before).left (disk_in w.state m.after).left) → (lets_burn l.step ≡ true → shows_written whole run at l ≡ true → 1 ≤ n)
        → IsLit w.state new whole (l ∷ run) → IsFueled w.state old whole run → IsFueled w.state new whole (l ∷ run)
    fuel_by n burn write lit f = fuel_call w.state whole run l old new at m.before same_holds (left_there place) unarms others burnt (over (fuse whole run at) (shows_written whole run at l) l.step unarms disk doubt) lit f
      where
        burnt : lets_burn l.step ≡ true → (other : Durable E D) → Burns (taken_off (shows_written whole run at l)) (left_at w.state old at other) (left_at w.state new at other)
        burnt lets other = by_wrote (shows_written whole run at l) refl
          where
            by_wrote : (b : Bool) → shows_written whole run at l ≡ b → Burns (taken_off (shows_written whole run at l)) (left_at w.state old at other) (left_at w.state new at other)
            by_wrote true e = let some = write lets e in subst (λ b. Burns (taken_off b) (left_at w.state old at other) (left_at w.state new at other)) (sym e) (burns_less (4 * n) 4 _ _ (omega (arith, some)) (burns_here (4 * n) (burn lets) other))
            by_wrote false e = subst (λ b. Burns (taken_off b) (left_at w.state old at other) (left_at w.state new at other)) (sym e) (burns_less (4 * n) 0 _ _ (omega arith) (burns_here (4 * n) (burn lets) other))

-- what a line tells that shows that its partition wrote
pub wrote_so : (whole : List world.Line) (run : Run) (at : PartId) (l : script.Line) → shows_written whole run at l ≡ true
    → (is_called l.command l.step ≡ true) × ((is_change (calls_of run) at l.step || is_bringing whole (calls_of run) at (asked_by (calls_of run) run l.command l.step).call l.step) ≡ true)
wrote_so whole run at l h =
    let a = and_parts (is_called l.command l.step) _ h in
    let b = and_parts (same_part (asked_by (calls_of run) run l.command l.step).at at) _ a.1 in
    (a.0, b.1)

module _ {S E D : Type 0} (w : Types S E D) (old new : Held E D) (at : PartId) (whole : List world.Line) (run : Run) (l : script.Line)
    (placed : is_called l.command l.step ≡ true → (asked_by (calls_of run) run l.command l.step).at ≡ at)
    (doubt : (t : TxId) → l.step ≡ step.Unsure t → lead (parts_of run) (calls_of run) t ≡ at) where
  -- the line of a call that took no message, as the store tells it
  pub fuel_spent : (x : Spent w old new at l.step) → is_took l.step ≡ false → (events : List (Entry E)) (r : Reaches w old events) → shown_lines events ≡ calls_of run → (e : Event E) (next : Reaches w new ((record { at = at; event = e }) ∷ events)) → is_of_restart e ≡ false → l.step ≡ step_shown events at e → TellsFault w.state old new at l.step → IsFueled w.state old whole run → IsFueled w.state new whole (l ∷ run)
  fuel_spent x untaken events r shown e next called is told f =
      fuel_by w old new at x.moves whole run l place placed (subst (λ s. is_arming s ≡ false) x.shows (unarmed whole (calls_of run) at x.run x.event)) (λ q e. own_fault whole (calls_of run) at x.run x.event q (x.shows ∙ e)) doubt n
      (λ lets. let whole_call = done lets in burns_spent (4 * n) _ _ (x.spends.exact whole_call) (x.spends.spared whole_call)) write
      (lit_call w old new at x.moves place whole run l events r e next called (subst (λ s. is_arming s ≡ false) x.shows (unarmed whole (calls_of run) at x.run x.event)) (λ q k. own_fault whole (calls_of run) at x.run x.event q (x.shows ∙ k)) doubt
      (λ lets. cut_shown w.kinds old.sites old.parts at events e called (ap lets_burn (sym is) ∙ lets)) (4 * length (records (x.reached.state at) (attempt x.event))) x.spends.most told f.lit) f
    where
      place : IsPlace old.sites old.parts at
      place = place_of w old new at x.moves x.run x.event x.next

      n : ℕ
      n = length (records (x.reached.state at) x.event)

      done : lets_burn l.step ≡ true → is_cut x.event ≡ false
      done lets = uncut whole (calls_of run) at x.run x.event (ap lets_burn x.shows ∙ lets)

      waits : can_write x.event ≡ true → (t : TxId) → pending (calls_of run) at t ≡ true → log.pending (x.reached.state at).log t ≡ true
      waits c t h = waits_too w old new at x.moves events x.run r x.reached place (was_up w old new at x.moves x.run x.reached x.event x.next c) t (ap (λ ls. pending ls at t) shown ∙ h)

      untaken_so : is_took (step_shown x.run at x.event) ≡ false
      untaken_so = ap is_took x.shows ∙ untaken

      never : (number : ℕ) (y : Message E) → x.event ≡ Took number y → bound (calls_of run) at y.from ≡ entry (x.reached.state at).bounds y.from
      never number y e = absurd (true≢false (ap (λ ev. is_took (step_shown x.run at ev)) (sym e) ∙ untaken_so))

      write : lets_burn l.step ≡ true → shows_written whole run at l ≡ true → 1 ≤ n
      write lets h = ⊎_elim
          (λ (k : is_change (calls_of run) at l.step ≡ true). writes whole (calls_of run) at x.run (x.reached.state at) x.event waits never (none_brought whole (calls_of run) at x.run x.event untaken_so) (or_left _ _ (ap (is_change (calls_of run) at) x.shows ∙ k)))
          (λ (k : is_bringing whole (calls_of run) at (asked_by (calls_of run) run l.command l.step).call l.step ≡ true). absurd (true≢false (sym k ∙ no_bringing whole (calls_of run) at (asked_by (calls_of run) run l.command l.step).call l.step untaken)))
          (or_cases _ _ (wrote_so whole run at l h).1)

  -- the line of a call after the run itself, with the number that the script gives it
  module _ (m : Moves w.state old new at) (events : List (Entry E)) (r : Reaches w old events) (shown : shown_lines events ≡ calls_of run) (e : Event E) (next : Reaches w new ((record { at = at; event = e }) ∷ events))
      (numbers : numbered run l.step ≡ step_shown events at e) (brought : IsBrought whole (shown_lines events) at e) (asks : is_called l.command l.step ≡ true → (asked_by (calls_of run) run l.command l.step).call ≡ call_of e) where
    abbrev count : ℕ
    count = length (records (r.state at) e)

    place_here : IsPlace old.sites old.parts at
    place_here = place_of w old new at m events e next

    unarms : is_arming l.step ≡ false
    unarms = sym (number_arming whole (calls_of run) at run l.step) ∙ (ap is_arming numbers ∙ unarmed whole (calls_of run) at events e)

    as_shown : lets_burn l.step ≡ true → lets_burn (step_shown events at e) ≡ true
    as_shown lets = ap lets_burn (sym numbers) ∙ (number_lets whole (calls_of run) at run l.step ∙ lets)

    own_disk : (q : PartId) → l.step ≡ step.Disk q → q ≡ at
    own_disk q k = own_fault whole (calls_of run) at events e q (sym numbers ∙ ap (numbered run) k)

    bounds : (number : ℕ) (y : Message E) → e ≡ Took number y → bound (shown_lines events) at y.from ≡ entry (r.state at).bounds y.from
    bounds number y k =
        let took : Reaches w new ((record { at = at; event = Took number y }) ∷ events) = subst (λ x. Reaches w new ((record { at = at; event = x }) ∷ events)) k next in
        bound_in w.kinds old.sites old.parts events r.state r.is_run at (was_up w old new at m events r (Took number y) took refl) y.from (from_other w old new at m events number y took)

    told : shows_written whole run at l ≡ true → (is_change (shown_lines events) at (step_shown events at e) || is_bringing whole (shown_lines events) at (call_of e) (step_shown events at e)) ≡ true
    told h =
        let a = wrote_so whole run at l h in
        subst (λ s. (is_change (shown_lines events) at s || is_bringing whole (shown_lines events) at (call_of e) s) ≡ true) numbers
        ((λ i. number_change whole (shown_lines events) at run l.step i || number_bringing whole (shown_lines events) at run (call_of e) l.step i)
        ∙ ((λ i. is_change (shown i) at l.step || is_bringing whole (shown i) at (sym (asks a.0) i) l.step) ∙ a.1))

    write : shows_written whole run at l ≡ true → 1 ≤ count
    write h = writes whole (shown_lines events) at events (r.state at) e (λ c t k. waits_in w.kinds old.sites old.parts events r.state r.is_run at (was_up w old new at m events r e next c) t k) bounds brought (told h)

    pub fuel_counted : Spends w.kinds w.codec w.state m.before m.after (r.state at) e → is_of_restart e ≡ false → TellsFault w.state old new at l.step → IsFueled w.state old whole run → IsFueled w.state new whole (l ∷ run)
    fuel_counted spends called tells f = fuel_by w old new at m whole run l place_here placed unarms own_disk doubt count
        (λ lets. let done = uncut whole (calls_of run) at events e (as_shown lets) in burns_spent (4 * count) _ _ (spends.exact done) (spends.spared done)) (λ lets h. write h)
        (lit_call w old new at m place_here whole run l events r e next called unarms own_disk doubt
        (λ lets. cut_shown w.kinds old.sites old.parts at events e called (ap lets_burn (sym numbers) ∙ (number_lets whole (calls_of run) at run l.step ∙ lets))) (4 * length (records (r.state at) (attempt e))) spends.most tells f.lit) f

    -- a crash or a restart, after which no fuse has fired, wrote nothing
    pub fuel_plain : can_write e ≡ false → (lets_burn l.step ≡ true → Burns 0 (disk_in w.state m.before).left (disk_in w.state m.after).left) → IsLit w.state new whole (l ∷ run) → IsFueled w.state old whole run → IsFueled w.state new whole (l ∷ run)
    fuel_plain c burn lit = fuel_by w old new at m whole run l place_here placed unarms own_disk doubt 0 burn (λ lets h. never_writes whole (shown_lines events) at events e c (told h)) lit
