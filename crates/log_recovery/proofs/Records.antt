-- What each kind of record makes of a ledger, and which may be read next.
use Rattle.std.proofs.Common.{◌≡◌, ℕ, ◌≤◌, not, ◌&&◌, ◌||◌, List, [], ◌∷◌, ◌++◌, length, None, Some, refl, sym, ap, ◌∙◌, subst}
use Rattle.site_vector.specs.declared.ids.PartId.{PartId}
use Rattle.site_vector.specs.declared.ids.TxId.{TxId}
use Rattle.crdt_core.specs.declared.record.Message.{Message}
use Rattle.crdt_core.specs.declared.record.Record.{Record}
use Rattle.crdt_core.specs.declared.record.Record.TheVariants.{Lease, Prepare, Decide, Finish, Abort, Batch}
use Rattle.crdt_core.specs.Fitting.{unfit_under}
use Rattle.crdt_core.specs.Log.{committed, aborted}
use Rattle.prepared_table.specs.declared.entry.Entry.{Entry}
use Rattle.log_recovery.specs.declared.ledger.Ledger.{Ledger}
use Rattle.log_recovery.specs.Ledgers.{ArePending, AreHeld, AreBounds, IsLedger, IsNext, IsSame, Reads, Commits, Aborts, raised}
use Rattle.log_recovery.specs.FittingLaws.{unknown, prepares, decides, finishes, brings, rest_fits, last_fits}
use Rattle.log_recovery.proofs.OneRecordMore.{prepare_waits, prepare_holds, abort_waits, decide_waits, decide_holds, batch_holds, batch_bounds}

module _ {E : Type 0} where
  pub lease_reads : (old : Ledger E) (n : ℕ) → Reads old (Lease n) (record { ceiling = n; waiting = old.waiting; committed = old.committed; bounds = old.bounds; last_decided = old.last_decided })
  lease_reads old n sites parts id top log l f = record {
    ceiling = refl;
    waiting = record { members = l.waiting.members; exact = l.waiting.exact; single = l.waiting.single };
    committed = record { members = l.committed.members; exact = l.committed.exact; apart = l.committed.apart };
    bounds = l.bounds;
    last_decided = l.last_decided;
  }

  pub prepare_reads : (old : Ledger E) (y : Entry E) (xs : List (Entry E)) → xs ≡ old.waiting ++ y ∷ []
      → Reads old (Prepare y.tx y.lead y.time y.s y.updates) (record { ceiling = old.ceiling; waiting = xs; committed = old.committed; bounds = old.bounds; last_decided = old.last_decided })
  prepare_reads old y xs is sites parts id top log l f = record {
    ceiling = l.ceiling;
    waiting = subst (λ es. ArePending (Prepare y.tx y.lead y.time y.s y.updates ∷ log) es) (sym is) (prepare_waits sites parts id top log y old.waiting f l.waiting);
    committed = prepare_holds sites parts id top log y.tx y.lead y.time y.s y.updates old.committed f l.committed;
    bounds = l.bounds;
    last_decided = l.last_decided;
  }

  pub abort_reads : (old new : Ledger E) (t : TxId) → Aborts t old.waiting new.waiting → new.committed ≡ old.committed → IsSame old new → Reads old (Abort t) new
  abort_reads old new t k still_there s sites parts id top log l f = record {
    ceiling = s.ceiling ∙ l.ceiling;
    waiting = subst (λ u. ArePending (Abort u ∷ log) new.waiting) k.same (subst (λ es. ArePending (Abort k.entry.tx ∷ log) es) (sym k.taken.after)
        (abort_waits sites parts id top log k.taken.front k.entry k.taken.back (subst (λ es. ArePending log es) k.taken.before l.waiting)));
    committed = subst (λ ps. AreHeld (Abort t ∷ log) ps) (sym still_there) (record { members = l.committed.members; exact = l.committed.exact; apart = l.committed.apart });
    bounds = subst (λ b. AreBounds (Abort t ∷ log) b) (sym s.bounds) l.bounds;
    last_decided = s.last_decided ∙ l.last_decided;
  }

  module _ (old new : Ledger E) (t : TxId) (c : List ℕ) (k : Commits t c old.waiting new.waiting old.committed new.committed) (log : List (Record E)) (l : IsLedger log old) (sites parts : ℕ) (id : PartId) (top : ℕ) (f : unfit_under sites parts id top log ≡ None) where
    before : ArePending log (k.taken.front ++ k.entry ∷ k.taken.back)
    before = subst (λ es. ArePending log es) k.taken.before l.waiting

    commit_waits : ArePending (Decide t c ∷ log) new.waiting
    commit_waits = subst (λ u. ArePending (Decide u c ∷ log) new.waiting) k.same (subst (λ es. ArePending (Decide k.entry.tx c ∷ log) es) (sym k.taken.after) (decide_waits sites parts id top log k.taken.front k.entry k.taken.back before c))

    commit_holds : AreHeld (Decide t c ∷ log) new.committed
    commit_holds = subst (λ ps. AreHeld (Decide t c ∷ log) ps) (sym k.put)
        (subst (λ u. AreHeld (Decide u c ∷ log) (old.committed ++ record { tx = u; c = c; updates = k.entry.updates } ∷ [])) k.same
        (decide_holds sites parts id top log k.taken.front k.entry k.taken.back before c old.committed f l.committed))

  pub decide_reads : (old new : Ledger E) (t : TxId) (c : List ℕ) → Commits t c old.waiting new.waiting old.committed new.committed
      → IsSame (record { ceiling = old.ceiling; waiting = old.waiting; committed = old.committed; bounds = old.bounds; last_decided = Some t }) new → Reads old (Decide t c) new
  decide_reads old new t c k s sites parts id top log l f = let g = rest_fits sites parts id top (Decide t c) log f in record {
    ceiling = s.ceiling ∙ l.ceiling;
    waiting = commit_waits old new t c k log l sites parts id top g;
    committed = commit_holds old new t c k log l sites parts id top g;
    bounds = subst (λ b. AreBounds (Decide t c ∷ log) b) (sym s.bounds) l.bounds;
    last_decided = s.last_decided;
  }

  pub finish_reads : (old new : Ledger E) (t : TxId) (c : List ℕ) → Commits t c old.waiting new.waiting old.committed new.committed → IsSame old new → Reads old (Finish t c) new
  finish_reads old new t c k s sites parts id top log l f =
      let g = rest_fits sites parts id top (Finish t c) log f in
      let w = commit_waits old new t c k log l sites parts id top g in
      let h = commit_holds old new t c k log l sites parts id top g in record {
        ceiling = s.ceiling ∙ l.ceiling;
        waiting = record { members = w.members; exact = w.exact; single = w.single };
        committed = record { members = h.members; exact = h.exact; apart = h.apart };
        bounds = subst (λ b. AreBounds (Finish t c ∷ log) b) (sym s.bounds) l.bounds;
        last_decided = s.last_decided ∙ l.last_decided;
      }

  pub batch_reads : (old new : Ledger E) (m : Message E) → IsNext old (Batch m) → new.committed ≡ old.committed ++ m.parts → new.bounds ≡ raised old.bounds m.from m.hi → new.waiting ≡ old.waiting → new.ceiling ≡ old.ceiling → new.last_decided ≡ old.last_decided
      → Reads old (Batch m) new
  batch_reads old new m place parts_are bounds_are waiting_is ceiling_is last_is sites parts id top log l f = record {
    ceiling = ceiling_is ∙ l.ceiling;
    waiting = subst (λ es. ArePending (Batch m ∷ log) es) (sym waiting_is) (record { members = l.waiting.members; exact = l.waiting.exact; single = l.waiting.single });
    committed = subst (λ ps. AreHeld (Batch m ∷ log) ps) (sym parts_are) (batch_holds sites parts id top log m old.committed f l.committed);
    bounds = subst (λ b. AreBounds (Batch m ∷ log) b) (sym bounds_are) (batch_bounds sites parts id top log m old.bounds place.0 place.1 l.bounds);
    last_decided = last_is ∙ l.last_decided;
  }

  pub can_read : (sites parts : ℕ) (id : PartId) (top : ℕ) (log : List (Record E)) (old : Ledger E) (r : Record E) → IsLedger log old → length old.bounds ≡ sites → unfit_under sites parts id top (r ∷ log) ≡ None → IsNext old r
  can_read sites parts id top log old (Lease n) l w f = tt
  can_read sites parts id top log old (Prepare t lead n s us) l w f =
      let k = unknown log t (prepares sites parts id top log t lead n s us (last_fits sites parts id top (Prepare t lead n s us) log f)).new in
      l.waiting.members t ∙ ap (λ b. b && not (committed log t || aborted log t)) k.prepared
  can_read sites parts id top log old (Decide t c) l w f = l.waiting.members t ∙ (decides sites parts id top log t c (last_fits sites parts id top (Decide t c) log f)).waits
  can_read sites parts id top log old (Finish t c) l w f = l.waiting.members t ∙ (finishes sites parts id top log t c (last_fits sites parts id top (Finish t c) log f)).waits
  can_read sites parts id top log old (Abort t) l w f = l.waiting.members t ∙ last_fits sites parts id top (Abort t) log f
  can_read sites parts id top log old (Batch m) l w f = let b = brings sites parts id top log m (last_fits sites parts id top (Batch m) log f) in (b.first, subst (λ n. m.from ≤ n) (sym w) b.last)
