-- A restart shows the time of the last lease, where no line before it tells of a disk.
use Rattle.std.proofs.Common.{◌≡◌, ⊎_elim, ℕ, leb, false, List, [], ◌∷◌, arith, refl, ap, ◌∙◌}
use Rattle.std.proofs.lemmas.Bool.{cond_both, cond-true, le-leb}
use Rattle.site_vector.specs.declared.ids.PartId.{PartId}
use Rattle.site_vector.specs.Ids.{same_part}
use Rattle.world_model.proofs.Names.{clash}
use Rattle.world_model.specs.declared.step.Step.{Step}
use Rattle.world_model.specs.declared.step.Step.TheVariants as step
use Rattle.world_model.specs.lines.Clock.{now, missed, missed_after}
use Rattle.world_model.specs.lines.Leases.{lease_to, kept, ShowsKept}
use Rattle.world_model.specs.lines.Lines.{Call, Tick, Begin, PrepareOf, Line, EachLine}
use Rattle.one_run.specs.Unfailing.{is_of_disk, AreUnfailing}
use Rattle.one_run.specs.Leases.{ShowsLease, LawLeases}

missed_here : (time old : ℕ) (call : Call) (s : Step) → is_of_disk s ≡ false → old ≡ 0 → missed_after time old call s ≡ 0
missed_here time old call (step.Restarted q n b named listed) d h = refl
missed_here time old (Tick n) (step.Disk q) d h = clash refl d
missed_here time old (Begin who wish) (step.Disk q) d h = clash refl d
missed_here time old (PrepareOf t) (step.Disk q) d h = clash refl d
missed_here time old (Tick n) s d h = h
missed_here time old (Begin who wish) s d h = h
missed_here time old (PrepareOf t) s d h = h
missed_here time old call s d h = h

none_missed : (ls : List Line) (p : PartId) → AreUnfailing ls → missed ls p ≡ 0
none_missed [] p h = refl
none_missed (l ∷ ls) p h = cond_both (same_part l.at p) (missed_after (now ls p) (missed ls p) l.call l.step) (missed ls p) (λ x. x ≡ 0) (λ e. missed_here (now ls p) (missed ls p) l.call l.step h.0 (none_missed ls p h.1)) (λ e. none_missed ls p h.1)

lease_of_none : (k m : ℕ) → m ≡ 0 → lease_to k m ≡ k
lease_of_none k m e = ap (lease_to k) e ∙ cond-true (leb 0 k) k _ (le-leb 0 k (omega arith))

pub shows_lease : (ls : List Line) (p : PartId) (call : Call) (s : Step) → ShowsKept ls p call s → AreUnfailing ls → ShowsLease ls p call s
shows_lease ls p call (step.Restarted q n b named listed) h calm = ⊎_elim
    (λ (e : n ≡ kept ls p). e)
    (λ (e : n ≡ lease_to (kept ls p) (missed ls p)). e ∙ lease_of_none (kept ls p) (missed ls p) (none_missed ls p calm))
    h
shows_lease ls p call s h calm = tt

show_leases : (ls : List Line) → EachLine ShowsKept ls → EachLine (λ before p call s. AreUnfailing before → ShowsLease before p call s) ls
show_leases [] h = tt
show_leases (l ∷ ls) h = ((λ calm. shows_lease ls l.at l.call l.step h.0 calm), show_leases ls h.1)

pub law_leases : LawLeases
law_leases too_deep meaning sites parts ls law = show_leases ls law.leases
