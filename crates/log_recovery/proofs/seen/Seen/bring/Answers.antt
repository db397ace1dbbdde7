use Rattle.std.proofs.Common.{◌&&◌, ap, ◌∙◌}
use Rattle.log_recovery.specs.Fates.{fates_of, are_new, Judges}
use Rattle.crdt_core.specs.declared.record.Record.TheVariants.{Batch}
use Rattle.log_recovery.proofs.Choices.{if_ok}
use Rattle.log_recovery.proofs.Seeing.{judged_batch, brings_seen}
use Rattle.log_recovery.proofs.seen.Seen.bring.Goals as goal

pub returns-clause-judges : goal.returns-clause-judges
returns-clause-judges g c = if_ok c.name_all.result _ (λ fits. Judges c.args.self.now (Batch c.args.message.now) fits)
    (λ fits e log s. e ∙ ap (λ l. are_new (fates_of c.args.self.now) l) c.as_slice.ensures ∙ ap (λ b. b && are_new (fates_of c.args.self.now) c.args.message.now.parts) c.if-not-may_bring.ensures
    ∙ judged_batch c.args.self.now log s c.args.message.now c.requires.bounds)
    c.name_all.ensures.new

pub returns-clause-sees : goal.returns-clause-sees
returns-clause-sees g c = brings_seen c.args.self.now _ c.name_all.result c.args.message.now c.as_slice.result.now c.as_slice.ensures c.requires.bounds c.if-not-may_bring.ensures c.name_all.ensures.new c.name_all.ensures.named c.raise-self.ensures
