-- What an event writes that shows a line by which its partition wrote.
use Rattle.std.proofs.Common.{◌≡◌, ⊎_elim, ℕ, ◌≤◌, Bool, true, false, List, [], ◌∷◌, ◌++◌, length, refl, sym, ◌∙◌, subst, arith}
use Rattle.std.specs.Prelude.{◌||◌, if◌then◌else◌}
use Rattle.std.proofs.lemmas.Bool.{or_cases, or_from, true≢false}
use Rattle.site_vector.specs.declared.ids.PartId.{PartId}
use Rattle.site_vector.specs.declared.ids.TxId.{TxId}
use Rattle.site_vector.specs.Vector.{entry}
use Rattle.crdt_core.specs.declared.record.Part.{Part}
use Rattle.crdt_core.specs.declared.record.Message.{Message}
use Rattle.crdt_core.specs.declared.record.Record.{Record}
use Rattle.crdt_core.specs.declared.record.Record.TheVariants.{Prepare, Decide, Finish}
use Rattle.crdt_core.specs.Log as log
use Rattle.crdt_core.specs.Log.{lease_for}
use Rattle.crdt_core.specs.Parts.{above}
use Rattle.world_model.specs.declared.step.Step.{Step}
use Rattle.world_model.specs.declared.step.Step.TheVariants as step
use Rattle.world_model.specs.lines.Bounds.{bound}
use Rattle.world_model.specs.rules.Event.{IsDown, Event, Prepared, Decided, Finished, Aborted, Took, RestartCut, Refused, Cut, Entry}
use Rattle.world_model.specs.commands.Fuses.{is_change, is_bringing}
use Rattle.world_model.specs.lines.Lines.{Call, TakeOf, Line}
use Rattle.world_model.specs.rules.Lines.{call_of, step_shown}
use Rattle.world_model.specs.rules.Partition.{PartState, batch_of, records}
use Rattle.world_model.specs.lines.Pending.{pending}
use Rattle.world_model.specs.events.Restarts.{is_some_part, brings}
use Rattle.world_model.specs.commands.Run.{Run}
use Rattle.world_model.specs.commands.ScriptCalls.{numbered}
use Rattle.world_model.proofs.Names.{off}
use Rattle.partition_core.specs.Moments.{is_cut}
use Rattle.cluster.specs.Fuel.{IsBrought}
use Rattle.cluster.proofs.FuelLines.{lets_burn, is_arming}

-- the line of a message that was taken
abbrev pub is_took : Step → Bool
is_took (step.Took number hi) = true
is_took other = false

pub no_bringing : (whole ls : List Line) (p : PartId) (call : Call) (s : Step) → is_took s ≡ false → is_bringing whole ls p call s ≡ false
no_bringing whole ls p (TakeOf number site lo hi) (step.Took shown end) h = off (sym h)
no_bringing whole ls p (TakeOf number site lo hi) other h = refl
no_bringing whole ls p other s h = refl

module _ (whole ls : List Line) (at : PartId) where
  -- such a line shows of none that it wrote
  idle : {P : Type 0} (call : Call) (s : Step) → is_change ls at s ≡ false → is_took s ≡ false → (is_change ls at s || is_bringing whole ls at call s) ≡ true → P
  idle call s h k w = absurd (true≢false (sym w ∙ or_from _ _ h (no_bringing whole ls at call s k)))

  changed : {P : Type 0} (call : Call) (s : Step) → is_took s ≡ false → (is_change ls at s ≡ true → P) → (is_change ls at s || is_bringing whole ls at call s) ≡ true → P
  changed call s k f w = ⊎_elim f (λ (h : is_bringing whole ls at call s ≡ true). absurd (true≢false (sym h ∙ no_bringing whole ls at call s k))) (or_cases _ _ w)

  -- the numbers that lines bear are of no account
  pub number_change : (run : Run) (s : Step) → is_change ls at (numbered run s) ≡ is_change ls at s
  number_change run (step.Sent n p to lo hi count) = refl
  number_change run (step.Took n hi) = refl
  number_change run (step.Dup n have) = refl
  number_change run (step.Gap n have) = refl
  number_change run (step.Reported n p bounds) = refl
  number_change run (step.Heard n p stable) = refl
  number_change run other = refl

  pub number_bringing : (run : Run) (call : Call) (s : Step) → is_bringing whole ls at call (numbered run s) ≡ is_bringing whole ls at call s
  number_bringing run call (step.Took n hi) = by_call call
    where
      by_call : (c : Call) → is_bringing whole ls at c (numbered run (step.Took n hi)) ≡ is_bringing whole ls at c (step.Took n hi)
      by_call (TakeOf number site lo end) = refl
      by_call other = refl
  number_bringing run call (step.Sent n p to lo hi count) = no_bringing whole ls at call _ refl ∙ sym (no_bringing whole ls at call _ refl)
  number_bringing run call (step.Dup n have) = no_bringing whole ls at call _ refl ∙ sym (no_bringing whole ls at call _ refl)
  number_bringing run call (step.Gap n have) = no_bringing whole ls at call _ refl ∙ sym (no_bringing whole ls at call _ refl)
  number_bringing run call (step.Reported n p bounds) = no_bringing whole ls at call _ refl ∙ sym (no_bringing whole ls at call _ refl)
  number_bringing run call (step.Heard n p stable) = no_bringing whole ls at call _ refl ∙ sym (no_bringing whole ls at call _ refl)
  number_bringing run call other = refl

  pub number_lets : (run : Run) (s : Step) → lets_burn (numbered run s) ≡ lets_burn s
  number_lets run (step.Sent n p to lo hi count) = refl
  number_lets run (step.Took n hi) = refl
  number_lets run (step.Dup n have) = refl
  number_lets run (step.Gap n have) = refl
  number_lets run (step.Reported n p bounds) = refl
  number_lets run (step.Heard n p stable) = refl
  number_lets run other = refl

  pub number_arming : (run : Run) (s : Step) → is_arming (numbered run s) ≡ is_arming s
  number_arming run (step.Sent n p to lo hi count) = refl
  number_arming run (step.Took n hi) = refl
  number_arming run (step.Dup n have) = refl
  number_arming run (step.Gap n have) = refl
  number_arming run (step.Reported n p bounds) = refl
  number_arming run (step.Heard n p stable) = refl
  number_arming run other = refl

module _ {E : Type 0} where
  some_batch : (m : Message E) (b : ℕ) (xs : List (Part E)) → is_some_part xs ≡ true → 1 ≤ length (batch_of m b xs)
  some_batch m b [] h = off h
  some_batch m b (x ∷ xs) h = omega arith

  one_last : (xs : List (Record E)) (x : Record E) → 1 ≤ length (xs ++ x ∷ [])
  one_last [] x = omega arith
  one_last (y ∷ xs) x = omega arith

  one_if : (b : Bool) (x : Record E) → b ≡ true → 1 ≤ length (if b then x ∷ [] else [])
  one_if true x h = omega arith
  one_if false x h = off h

  -- an event that may write
  abbrev pub can_write : Event E → Bool
  can_write (Prepared t s l w n) = true
  can_write (Decided t c) = true
  can_write (Finished t c) = true
  can_write (Aborted t own) = true
  can_write (Took number m) = true
  can_write other = false

  module _ (whole ls : List Line) (at : PartId) where
    -- where it does, the partition wrote a record at least
    pub writes : (some : List (Entry E)) (p : PartState E) (e : Event E) → (can_write e ≡ true → (t : TxId) → pending ls at t ≡ true → log.pending p.log t ≡ true)
        → ((number : ℕ) (m : Message E) → e ≡ Took number m → bound ls at m.from ≡ entry p.bounds m.from) → IsBrought whole ls at e
        → (is_change ls at (step_shown some at e) || is_bringing whole ls at (call_of e) (step_shown some at e)) ≡ true → 1 ≤ length (records p e)
    writes some p (Prepared t s l w n) waits bounds b h = one_last (lease_for p.log n) (Prepare t l.lead n s w)
    writes some p (Decided t c) waits bounds b h = changed whole ls at (call_of {E = E} (Decided t c)) (step.Decided at t c) refl (λ k. one_if (log.pending p.log t) (Decide t c) (waits refl t k)) h
    writes some p (Finished t c) waits bounds b h = changed whole ls at (call_of {E = E} (Finished t c)) (step.Finished at t) refl (λ k. one_if (log.pending p.log t) (Finish t c) (waits refl t k)) h
    writes some p (Aborted t own) waits bounds b h = omega arith
    writes some p (Took number m) waits bounds b h = some_batch m (entry p.bounds m.from) (above m.from (entry p.bounds m.from) m.parts) (subst (λ n. brings m n ≡ true) (bounds number m refl) (b h))
    writes some p (Refused asked IsDown) waits bounds b h = idle whole ls at (call_of {E = E} (Refused asked IsDown)) (step_shown some at (Refused asked IsDown)) refl refl h
    writes some p (Refused asked why) waits bounds b h = idle whole ls at (call_of {E = E} (Refused asked why)) (step_shown some at (Refused asked why)) refl refl h
    writes some p (Cut (Decided t c)) waits bounds b h = idle whole ls at (call_of {E = E} (Cut (Decided t c))) (step.Unsure t) refl refl h
    writes some p (Cut what) waits bounds b h = idle whole ls at (call_of {E = E} (Cut what)) (step_shown some at (Cut what)) refl refl h
    writes some p other waits bounds b h = idle whole ls at (call_of other) (step_shown some at other) refl refl h

    -- what was not taken brought nothing
    pub none_brought : (some : List (Entry E)) (e : Event E) → is_took (step_shown some at e) ≡ false → IsBrought whole ls at e
    none_brought some (Took number m) h = off (sym h)
    none_brought some other h = tt

    -- a call that was cut off ends the fuse
    pub uncut : (some : List (Entry E)) (e : Event E) → lets_burn (step_shown some at e) ≡ true → is_cut e ≡ false
    uncut some (Cut (Decided t c)) h = off h
    uncut some (Cut what) h = off h
    uncut some other h = refl

    -- no event is the arming of a fuse
    pub unarmed : (some : List (Entry E)) (e : Event E) → is_arming (step_shown some at e) ≡ false
    unarmed some (Refused asked IsDown) = refl
    unarmed some (Refused asked why) = refl
    unarmed some (Cut (Decided t c)) = refl
    unarmed some (Cut what) = refl
    unarmed some other = refl

    -- a disk's fault is told by its own partition
    pub own_fault : (some : List (Entry E)) (e : Event E) (q : PartId) → step_shown some at e ≡ step.Disk q → q ≡ at
    own_fault some (Refused asked IsDown) q h = absurd cc
    own_fault some (Refused asked why) q h = absurd cc
    own_fault some (Cut (Decided t c)) q h = absurd cc
    own_fault some (Cut what) q h = cc
    own_fault some RestartCut q h = cc
    own_fault some other q h = absurd cc

    -- where an event is no such one, its line shows of none that it wrote
    pub never_writes : {P : Type 0} (some : List (Entry E)) (e : Event E) → can_write e ≡ false → (is_change ls at (step_shown some at e) || is_bringing whole ls at (call_of e) (step_shown some at e)) ≡ true → P
    never_writes some (Prepared t s l w n) c h = off (sym c)
    never_writes some (Decided t v) c h = off (sym c)
    never_writes some (Finished t v) c h = off (sym c)
    never_writes some (Aborted t own) c h = off (sym c)
    never_writes some (Took number m) c h = off (sym c)
    never_writes some (Refused asked IsDown) c h = idle whole ls at (call_of {E = E} (Refused asked IsDown)) (step_shown some at (Refused asked IsDown)) refl refl h
    never_writes some (Refused asked why) c h = idle whole ls at (call_of {E = E} (Refused asked why)) (step_shown some at (Refused asked why)) refl refl h
    never_writes some (Cut (Decided t v)) c h = idle whole ls at (call_of {E = E} (Cut (Decided t v))) (step.Unsure t) refl refl h
    never_writes some (Cut what) c h = idle whole ls at (call_of {E = E} (Cut what)) (step_shown some at (Cut what)) refl refl h
    never_writes some other c h = idle whole ls at (call_of other) (step_shown some at other) refl refl h
