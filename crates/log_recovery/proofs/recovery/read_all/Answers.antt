use Rattle.std.proofs.Common.{reverse, sym, ◌∙◌, subst}
use Rattle.crdt_core.specs.Log.{ceiling}
use Rattle.log_recovery.proofs.Progress.{IsProgress, progress_start, progress_next, progress_more}
use Rattle.log_recovery.proofs.recovery.read_all.Goals as goal

pub loop-record-init : goal.loop-record-init
loop-record-init g c = subst (λ l. IsProgress c.args.sites (reverse c.args.records) l c.new-ledger.result) (sym (c.into_iter-record-iterator.ensures.into_iter_gives.0 ∙ c.into_vec-record-items.ensures))
    (progress_start c.args.sites c.args.records c.new-ledger.result c.new-ledger.ensures.empty c.new-ledger.ensures.width)

pub read-requires : goal.read-requires
read-requires g c = progress_next c.args.sites c.requires.fits.0 c.requires.fits.1 (ceiling (reverse c.args.records)) _ _ c.next.new.self.rest.items c.in-Some.record c.loop-record.ledger c.requires.fits.2 c.in-Some.ensures.steps.0 c.loop-record.invariant

pub loop-record-preserved : goal.loop-record-preserved
loop-record-preserved g c = progress_more c.args.sites c.requires.fits.0 c.requires.fits.1 (ceiling (reverse c.args.records)) _ _ c.next.new.self.rest.items c.in-Some.record c.loop-record.ledger c.read.new.self c.requires.fits.2 c.in-Some.ensures.steps.0 c.loop-record.invariant c.in_ok-read.ensures.read c.in_ok-read.ensures.width
