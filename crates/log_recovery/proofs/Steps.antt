-- A record that may be read next, and what is told in the end.
use Rattle.std.proofs.Common.{◌≡◌, ℕ, ◌≤◌, Bool, true, List, ◌∷◌, length, None, sym, ap, ◌∙◌, subst}
use Rattle.site_vector.specs.declared.ids.PartId.{PartId}
use Rattle.site_vector.specs.Vector.{replaced}
use Rattle.crdt_core.specs.declared.record.Record.{Record}
use Rattle.crdt_core.specs.Fitting.{fits_record, unfit, unfit_next, unfit_under}
use Rattle.log_recovery.specs.declared.ledger.Ledger.{Ledger}
use Rattle.log_recovery.specs.declared.recovery.Rebuilt.{Rebuilt}
use Rattle.log_recovery.specs.declared.recovery.Recovery.{Recovery}
use Rattle.log_recovery.specs.Fates.{Judges}
use Rattle.log_recovery.specs.Ledgers.{IsLedger, IsNext}
use Rattle.log_recovery.specs.Lists.{least_below}
use Rattle.log_recovery.specs.Recovered.{IsPending, IsCommitted, AreKnown}
use Rattle.log_recovery.specs.Told.{HasRead, IsToldBy}
use Rattle.log_recovery.proofs.Progress.{pending_is, committed_is, known_is}
use Rattle.log_recovery.proofs.Records.{can_read}

module _ {E : Type 0} (sites parts : ℕ) (id : PartId) (top : ℕ) where
  module _ (log : List (Record E)) (next : Record E) (old : Recovery E) (h : HasRead sites parts id top log old) (fits : Bool) (judges : Judges old.seen next fits) where
    judged : fits ≡ fits_record sites parts id top log next
    judged = judges log h.seen ∙ (λ i. fits_record (h.sites_are i) (h.parts_are i) (h.id_is i) (h.top_is i) log next)

    still_fits : fits ≡ true → unfit_under sites parts id top (next ∷ log) ≡ None
    still_fits f = ap (λ o. unfit_next o (fits_record sites parts id top log next) (length log)) h.fits ∙ ap (λ b. unfit_next None b (length log)) (sym judged ∙ f)

    pub may_read : fits ≡ true → IsNext old.ledger next
    may_read f = can_read sites parts id top log old.ledger next h.ledger h.width (still_fits f)

module _ {E : Type 0} (sites parts : ℕ) (id : PartId) where
  module _ (log : List (Record E)) (f : unfit sites parts id log ≡ None) (l : Ledger E) (h : IsLedger log l) (width : length l.bounds ≡ sites) (least : 1 ≤ id.site) (most : id.site ≤ sites) where
    pub all_told : (told : Rebuilt E) → told.ceiling ≡ l.ceiling → told.pending ≡ l.waiting → told.committed ≡ l.committed → told.bounds ≡ replaced l.bounds id.site (least_below l.ceiling l.waiting) → told.last_decided ≡ l.last_decided → IsToldBy sites parts id log told
    all_told told a b c d e = record {
      fits = f;
      ceiling = a ∙ h.ceiling;
      pending = subst (λ x. IsPending sites log x) (sym b) (pending_is sites parts id log f l h);
      committed = subst (λ x. IsCommitted sites log x) (sym c) (committed_is sites parts id log f l h);
      bounds = subst (λ x. AreKnown sites id.site log x) (sym d) (known_is sites parts id log f l h width least most);
      last = e ∙ h.last_decided;
    }
