-- That no disk of a cluster fails by a fuse where none of the script is in force: after each kind of line.
use Rattle.std.proofs.Common.{◌≡◌, ◌≢◌, ◌⊎◌, ⊎_elim, inl, inr, ℕ, ◌-◌, Bool, true, false, List, ◌∷◌, Option, None, Some, refl, sym, ap, ◌∙◌, subst, true≢false, arith}
use Rattle.std.specs.Prelude.{IsTrue, not}
use Rattle.std.proofs.lemmas.Bool.{cond-true, cond-false}
use Rattle.site_vector.specs.declared.ids.PartId.{PartId}
use Rattle.site_vector.specs.declared.ids.TxId.{TxId}
use Rattle.site_vector.specs.Ids.{same_part}
use Rattle.site_vector.specs.Order.{same_part_refl}
use Rattle.disk_core.specs.States.{DiskState, Fails, fewer}
use Rattle.crdt_core.specs.KindsOf.{Kinds}
use Rattle.gate_log.specs.Logs.{disk_of}
use Rattle.gate_log.specs.Rest.{Lowers}
use Rattle.gate_log.specs.declared.log.GateLog.{GateLog}
use Rattle.world_model.specs.declared.step.Step.{Step}
use Rattle.world_model.specs.declared.step.Step.TheVariants as step
use Rattle.world_model.specs.commands.Cluster.{has_cluster, parts_of}
use Rattle.world_model.specs.commands.Fuses.{Fuse, fuse, fuse_after, shows_written}
use Rattle.world_model.specs.commands.Run.{Run}
use Rattle.world_model.specs.commands.Run as script
use Rattle.world_model.specs.commands.ScriptCalls.{calls_of}
use Rattle.world_model.specs.lines.Lines as world
use Rattle.world_model.specs.lines.Places.{IsPlace}
use Rattle.world_model.specs.lines.Updates.{lead}
use Rattle.world_model.specs.rules.Event.{Event, Entry, IsDown, Refused, Cut, Crashed, RestartCut, Restarted, Opened, Decided}
use Rattle.world_model.specs.rules.Lines.{step_shown}
use Rattle.world_model.specs.rules.Partition.{PartState, PartStep}
use Rattle.world_model.specs.rules.World.{IsWorldRun}
use Rattle.world_model.proofs.Names.{off}
use Rattle.world_model.proofs.Told as law
use Rattle.partition_core.specs.Durable.{Durable, StandsOn, disk_in, is_down}
use Rattle.partition_core.specs.Moments.{is_cut}
use Rattle.partition_core.specs.declared.restart.Restarted as restart
use Rattle.site_partitions.specs.Faults.{CrashesAt, StaysDownAt, ComesUpAt, ArmsAt, RevivesAt}
use Rattle.site_partitions.specs.Held.{Held, index_of}
use Rattle.site_partitions.specs.Moves.{Moves}
use Rattle.site_partitions.specs.Reaches.{Types, Reaches}
use Rattle.cluster.specs.Faults.{HasFailed, TellsFault}
use Rattle.cluster.specs.Fuel.{FailsByFuse, IsDark, IsDarkBy, FailedBy, IsFailedBy, IsLit}
use Rattle.cluster.specs.Same.{disk_at}
use Rattle.cluster.proofs.FuelLines.{lets_burn, is_arming}
use Rattle.cluster.proofs.FusedLines.{none_back, none_there, quiet_line, fused_back, place_on, after_there, lit_next, lit_still}
use Rattle.cluster.proofs.Ups.{up_of, stands_now}

-- ---- events

-- the event is of a restart
abbrev pub is_of_restart : {E : Type 0} → Event E → Bool
is_of_restart (Restarted n b named listed) = true
is_of_restart RestartCut = true
is_of_restart other = false

same_not : (a b : Bool) → not a ≡ not b → a ≡ b
same_not true true h = refl
same_not true false h = sym h
same_not false true h = sym h
same_not false false h = refl

module _ {S E : Type 0} (kinds : Kinds S E) (sites parts : ℕ) (id : PartId) where
  -- a call that a fault tells of was cut off
  pub cut_shown : (run : List (Entry E)) (e : Event E) → is_of_restart e ≡ false → lets_burn (step_shown run id e) ≡ false → is_cut e ≡ true
  cut_shown run (Cut what) c h = refl
  cut_shown run (Refused asked IsDown) c h = off (sym h)
  cut_shown run (Refused asked why) c h = off (sym h)
  cut_shown run RestartCut c h = off (sym c)
  cut_shown run other c h = off (sym h)

  up_cut : (p q : PartState E) (e : Event E) → is_cut e ≡ true → PartStep kinds sites parts id p e q → (p.up ≡ true) × (q.up ≡ false)
  up_cut p q (Cut what) h st = (st.0, ap (λ (x : PartState E). x.up) st.2)
  up_cut p q other h st = off h

  -- where it is down, it stays so
  down_on : (p q : PartState E) (e : Event E) → is_of_restart e ≡ false → PartStep kinds sites parts id p e q → p.up ≡ false → q.up ≡ false
  down_on p q (Cut what) c st d = absurd (true≢false (sym st.0 ∙ d))
  down_on p q Crashed c st d = ap (λ (x : PartState E). x.up) st
  down_on p q RestartCut c st d = off (sym c)
  down_on p q (Restarted n b named listed) c st d = off (sym c)
  down_on p q (Opened who) c st d = ap (λ (x : PartState E). x.up) st ∙ d
  down_on p q (Refused asked why) c st d = ap (λ (x : PartState E). x.up) st.1 ∙ d
  down_on p q other c st d = absurd (true≢false (sym st.0 ∙ d))

-- ---- disks

zero_less : (n : ℕ) → 0 - n ≡ 0
zero_less n = omega arith

some_none : {P : Type 0} (n : ℕ) → None ≡ Some n → P
some_none n h = absurd cc

module _ (most : ℕ) (old new : Option ℕ) (l : Lowers most old new) where
  pub none_stays : old ≡ None → new ≡ None
  none_stays e = l.left ∙ ap (λ o. fewer l.count o) e

  pub fired_stays : old ≡ Some 0 → new ≡ Some 0
  fired_stays e = l.left ∙ (ap (λ o. fewer l.count o) e ∙ ap (λ (n : ℕ). Some n) (zero_less l.count))

fired_or : (a b : Bool) (P : Type 0) → (IsTrue a → IsTrue b ⊎ P) → IsTrue a → b ≡ false → P
fired_or a true P h s e = absurd (true≢false e)
fired_or a false P h s e = ⊎_elim (λ (x : IsTrue false). absurd (true≢false (sym x))) (λ (p : P). p) (h s)

module _ {S E D : Type 0} (w : Types S E D) (old new : Held E D) (at : PartId) (m : Moves w.state old new at) (place : IsPlace old.sites old.parts at) where
  abbrev left_before : Option ℕ
  left_before = (disk_in w.state m.before).left

  abbrev left_after : Option ℕ
  left_after = (disk_in w.state m.after).left

  -- a call of the disk that failed burned its fuse down, where it fails by one
  burned : Fails (disk_in w.state m.before) (disk_in w.state m.after) → FailsByFuse (disk_in w.state m.after) → left_after ≡ Some 0
  burned f x = fired_or (disk_in w.state m.before).sound (disk_in w.state m.after).starved (left_after ≡ Some 0) f.cause (fused_back w old new at m x).sound x.fed

  fails_here : HasFailed w.state old new at → Fails (disk_in w.state m.before) (disk_in w.state m.after)
  fails_here f =
      subst (λ t. Fails (disk_in w.state m.before) (disk_in w.state t)) (after_there w old new at m place m.before)
      (subst (λ t. Fails (disk_in w.state t) (disk_at w.state new at m.before)) (m.there m.before) (f m.before))

  told_failed : (s : Step) → is_arming s ≡ false → lets_burn s ≡ false → TellsFault w.state old new at s → HasFailed w.state old new at
  told_failed (step.Fused q k n) a h t = off (sym a)
  told_failed (step.Disk q) a h t = subst (HasFailed w.state old new) t.0 t.1
  told_failed (step.Unsure u) a h t = t
  told_failed other a h t = off (sym h)

  module _ (whole : List world.Line) (run : Run) (l : script.Line) where
    -- the line tells of this partition's fault, where its disk failed by a fuse of the script alone
    fault_line : is_arming l.step ≡ false → ((q : PartId) → l.step ≡ step.Disk q → q ≡ at) → ((t : TxId) → l.step ≡ step.Unsure t → lead (parts_of run) (calls_of run) t ≡ at)
        → (lets_burn l.step ≡ false → FailsByFuse (disk_in w.state m.after) → fuse whole run at ≢ None) → IsFailedBy w.state new whole run l.step
    fault_line arms disk doubt fused = by_step l.step refl
      where
        here : lets_burn l.step ≡ false → FailedBy w.state new (fuse whole run at) at
        here e = record { place = place_on w old new at m at place; part = m.after; there = after_there w old new at m place; fused = fused e }

        by_step : (s : Step) → l.step ≡ s → IsFailedBy w.state new whole run s
        by_step (step.Disk q) e = λ has. subst (λ p. FailedBy w.state new (fuse whole run p) p) (sym (disk q e)) (here (ap lets_burn e))
        by_step (step.Unsure t) e = λ has. subst (λ p. FailedBy w.state new (fuse whole run p) p) (sym (doubt t e)) (here (ap lets_burn e))
        by_step other e = tt

    module _ (events : List (Entry E)) (r : Reaches w old events) (e : Event E) (next : Reaches w new ((record { at = at; event = e }) ∷ events)) (called : is_of_restart e ≡ false) where
      -- the run as it stood before, by the next one
      abbrev run_before : IsWorldRun w.kinds old.sites old.parts ((record { at = at; event = e }) ∷ events) next.state
      run_before = subst (λ n. IsWorldRun w.kinds old.sites n ((record { at = at; event = e }) ∷ events) next.state) m.same_parts (subst (λ n. IsWorldRun w.kinds n new.parts ((record { at = at; event = e }) ∷ events) next.state) m.same_sites next.is_run)

      same_up : (run_before.0 at).up ≡ (r.state at).up
      same_up = same_not _ _ (sym (law.told w.kinds old.sites old.parts events run_before.0 run_before.1 at).down ∙ (law.told w.kinds old.sites old.parts events r.state r.is_run at).down)

      up_before : (r.state at).up ≡ not (is_down m.before)
      up_before = up_of w m.before (r.state at) (is_down m.before) (subst (λ t. StandsOn w.codec w.state t (r.state at)) (m.there m.before) (r.each at place m.before).stands)

      up_after : (next.state at).up ≡ not (is_down m.after)
      up_after = up_of w m.after (next.state at) (is_down m.after) (stands_now w old new at m (place_on w old new at m at place) _ next)

      was_up : is_cut e ≡ true → is_down m.before ≡ false
      was_up c = same_not _ _ (sym up_before ∙ (sym same_up ∙ (up_cut w.kinds old.sites old.parts at (run_before.0 at) (next.state at) e c run_before.2.step).0))

      is_off : is_cut e ≡ true → is_down m.after ≡ true
      is_off c = same_not _ _ (sym up_after ∙ (up_cut w.kinds old.sites old.parts at (run_before.0 at) (next.state at) e c run_before.2.step).1)

      stays_off : is_down m.before ≡ true → is_down m.after ≡ true
      stays_off d = same_not _ _ (sym up_after ∙ down_on w.kinds old.sites old.parts at (run_before.0 at) (next.state at) e called run_before.2.step (same_up ∙ (up_before ∙ ap not d)))

      -- a call that is no restart
      module _ (arms : is_arming l.step ≡ false) (disk : (q : PartId) → l.step ≡ step.Disk q → q ≡ at) (doubt : (t : TxId) → l.step ≡ step.Unsure t → lead (parts_of run) (calls_of run) t ≡ at)
          (cuts : lets_burn l.step ≡ false → is_cut e ≡ true) (most : ℕ) (lowers : Lowers most left_before left_after) (told : TellsFault w.state old new at l.step) where
        dark_call : IsDark w.state m.before → IsDark w.state m.after
        dark_call d = ⊎_elim
            (λ (x : left_before ≡ None). inl (none_stays most left_before left_after lowers x))
            (λ (x : (left_before ≡ Some 0) × (is_down m.before ≡ true)). inr (fired_stays most left_before left_after lowers x.0, stays_off x.1))
            d

        fired : lets_burn l.step ≡ false → FailsByFuse (disk_in w.state m.after) → left_after ≡ Some 0
        fired h x = burned (fails_here (told_failed l.step arms h told)) x

        here : IsDarkBy w.state (fuse whole run at) m.before → IsDarkBy w.state (fuse whole (l ∷ run) at) m.after
        here dark x none = by_lets (lets_burn l.step) refl
          where
            by_lets : (b : Bool) → lets_burn l.step ≡ b → IsDark w.state m.after
            by_lets true h = dark_call (dark (fused_back w old new at m x) (none_back run at (fuse whole run at) (shows_written whole run at l) l.step h none))
            by_lets false h = inr (fired h x, is_off (cuts h))

        lit_before : IsLit w.state old whole run → lets_burn l.step ≡ false → FailsByFuse (disk_in w.state m.after) → fuse whole run at ≢ None
        lit_before lit h x none = ⊎_elim
            (λ (k : left_before ≡ None). some_none 0 (sym (none_stays most left_before left_after lowers k) ∙ fired h x))
            (λ (k : (left_before ≡ Some 0) × (is_down m.before ≡ true)). absurd (true≢false (sym k.1 ∙ was_up (cuts h))))
            (lit.dark at place m.before m.there (fused_back w old new at m x) none)

        pub lit_call : IsLit w.state old whole run → IsLit w.state new whole (l ∷ run)
        lit_call lit = lit_next w old new at m place whole run l
            (λ p apart none. none_there run p (fuse whole run p) (shows_written whole run p l) at l.step arms disk doubt apart none)
            here (fault_line arms disk doubt (lit_before lit)) lit

    -- a line that ends no fuse, and by which this partition's disk fares so
    lit_plain : lets_burn l.step ≡ true → (FailsByFuse (disk_in w.state m.after) → IsDark w.state m.before → IsDark w.state m.after) → IsLit w.state old whole run → IsLit w.state new whole (l ∷ run)
    lit_plain lets dark lit = lit_next w old new at m place whole run l
        (λ p apart none. none_back run p (fuse whole run p) (shows_written whole run p l) l.step lets none)
        (λ before x none. dark x (before (fused_back w old new at m x) (none_back run at (fuse whole run at) (shows_written whole run at l) l.step lets none)))
        (quiet_line w.state new whole run l.step lets) lit

  module _ (whole : List world.Line) (run : Run) (l : script.Line) where
    -- a crash touches no disk
    pub lit_crashed : lets_burn l.step ≡ true → m.after.gates ≡ m.before.gates → is_down m.after ≡ true → IsLit w.state old whole run → IsLit w.state new whole (l ∷ run)
    lit_crashed lets same down = lit_plain whole run l lets (λ x d. ⊎_elim
        (λ (k : left_before ≡ None). inl (stays ∙ k))
        (λ (k : (left_before ≡ Some 0) × (is_down m.before ≡ true)). inr (stays ∙ k.0, down))
        d)
      where
        stays : left_after ≡ left_before
        stays = ap (λ (g : GateLog D). (w.state (disk_of g)).left) same

    -- a restart came up
    pub lit_up : lets_burn l.step ≡ true → (most : ℕ) → Lowers most left_before left_after → left_after ≢ Some 0 → IsLit w.state old whole run → IsLit w.state new whole (l ∷ run)
    lit_up lets most lowers unfired = lit_plain whole run l lets (λ x d. ⊎_elim
        (λ (k : left_before ≡ None). inl (none_stays most left_before left_after lowers k))
        (λ (k : (left_before ≡ Some 0) × (is_down m.before ≡ true)). absurd (unfired (fired_stays most left_before left_after lowers k.0)))
        d)

    -- a restart failed, before which no fuse had fired
    pub lit_stopped : l.step ≡ step.Disk at → (most : ℕ) → Lowers most left_before left_after → Fails (disk_in w.state m.before) (disk_in w.state m.after) → is_down m.after ≡ true → left_before ≢ Some 0 → IsLit w.state old whole run → IsLit w.state new whole (l ∷ run)
    lit_stopped is most lowers fails down unfired lit = lit_next w old new at m place whole run l
        (λ p apart none. none_there run p (fuse whole run p) (shows_written whole run p l) at l.step (ap is_arming is) own (λ t k. absurd (not_unsure t (sym is ∙ k))) apart none)
        (λ before x none. inr (burned fails x, down))
        (fault_line whole run l (ap is_arming is) own (λ t k. absurd (not_unsure t (sym is ∙ k))) fused) lit
      where
        own : (q : PartId) → l.step ≡ step.Disk q → q ≡ at
        own q k = same_disk q at (sym k ∙ is)
          where
            same_disk : (a b : PartId) → step.Disk a ≡ step.Disk b → a ≡ b
            same_disk a b h = cc

        not_unsure : (t : TxId) → step.Disk at ≡ step.Unsure t → ⊥
        not_unsure t h = absurd cc

        fused : lets_burn l.step ≡ false → FailsByFuse (disk_in w.state m.after) → fuse whole run at ≢ None
        fused h x none = ⊎_elim
            (λ (k : left_before ≡ None). some_none 0 (sym (none_stays most left_before left_after lowers k) ∙ burned fails x))
            (λ (k : (left_before ≡ Some 0) × (is_down m.before ≡ true)). absurd (unfired k.0))
            (lit.dark at place m.before m.there (fused_back w old new at m x) none)

    -- a fuse is armed
    pub lit_armed : (k n : ℕ) → l.step ≡ step.Fused at k n → IsLit w.state old whole run → IsLit w.state new whole (l ∷ run)
    lit_armed k n is lit = lit_next w old new at m place whole run l
        (λ p apart none. sym (fused_there p apart) ∙ none)
        (λ before x none. some_fuse (sym fused_here ∙ none))
        (subst (λ s. IsFailedBy w.state new whole run s) (sym is) tt) lit
      where
        fused_here : fuse whole (l ∷ run) at ≡ Some (record { fires_at = k; written = 0 })
        fused_here = ap (λ s. fuse_after run at (fuse whole run at) (shows_written whole run at l) s) is ∙ cond-true (same_part at at) (Some (record { fires_at = k; written = 0 })) (fuse whole run at) (same_part_refl at)

        fused_there : (p : PartId) → same_part at p ≡ false → fuse whole (l ∷ run) p ≡ fuse whole run p
        fused_there p e = ap (λ s. fuse_after run p (fuse whole run p) (shows_written whole run p l) s) is ∙ cond-false (same_part at p) (Some (record { fires_at = k; written = 0 })) (fuse whole run p) e

        some_fuse : {P : Type 0} {f : Fuse} → Some f ≡ None → P
        some_fuse h = absurd cc

  module _ (whole : List world.Line) (run : Run) where
    -- a fuse that has fired is taken away, and any other stays
    pub lit_revived : (left_before ≡ Some 0 → disk_in w.state m.after ≡ record (disk_in w.state m.before) { left = None }) → (left_before ≢ Some 0 → m.after ≡ m.before) → IsLit w.state old whole run → IsLit w.state new whole run
    lit_revived fired burning = lit_still w old new at m place whole run (λ before x none. ⊎_elim
        (λ (k : left_before ≡ None). inl (ap (λ (t : Durable E D). (disk_in w.state t).left) (burning (λ z. some_none 0 (sym k ∙ z))) ∙ k))
        (λ (k : (left_before ≡ Some 0) × (is_down m.before ≡ true)). inl (ap (λ (d : DiskState). d.left) (fired k.0)))
        (before (fused_back w old new at m x) none))
