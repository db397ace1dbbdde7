use Rattle.std.proofs.Common.{inl, inr, refl, subst, sym, arith}
use Rattle.twin_log.specs.Damage.{IsCutInTail}
use Rattle.twin_log.proofs.Finding.{well_begun, cut_in_image, cut_in_tail, all_found}
use Rattle.twin_log.proofs.scan.find_gates.Goals as goal

pub returns-in-Err-clause-cut : goal.returns-in-Err-clause-cut
returns-in-Err-clause-cut c =
    let bytes = c.args.bytes.now in
    let cut = c.in-Err.ensures in
    let well = well_begun bytes c.args.start c.read_count-images.result cut.0 c.in-Err.at c.requires.start c.requires.within (λ i. omega (arith, c.type_inv.bytes i)) c.read_count-images.ensures.told c.read_count-images.ensures.small cut.2 in
    inl (cut_in_image bytes c.args.start c.read_count-images.result cut.0 c.in-Err.at well cut.1 cut.3)

pub returns-in-Err-find_gate_from-clause-cut : goal.returns-in-Err-find_gate_from-clause-cut
returns-in-Err-find_gate_from-clause-cut c =
    let bytes = c.args.bytes.now in
    let count = c.read_count-images.result in
    let well = well_begun bytes c.args.start count count c.in-Ok.tail c.requires.start c.requires.within (λ i. omega (arith, c.type_inv.bytes i)) c.read_count-images.ensures.told c.read_count-images.ensures.small c.in-Ok.ensures in
    inr (subst (IsCutInTail bytes) (sym c.min.ensures) (cut_in_tail bytes c.args.start count count c.in-Ok.tail well refl c.in-Err-find_gate_from.gate c.in-Err-find_gate_from.ensures))

pub returns-in-Ok-find_gate_from-clause-found : goal.returns-in-Ok-find_gate_from-clause-found
returns-in-Ok-find_gate_from-clause-found c =
    let bytes = c.args.bytes.now in
    let count = c.read_count-images.result in
    let well = well_begun bytes c.args.start count count c.in-Ok.tail c.requires.start c.requires.within (λ i. omega (arith, c.type_inv.bytes i)) c.read_count-images.ensures.told c.read_count-images.ensures.small c.in-Ok.ensures in
    let found = c.in-Ok-find_gate_from.ensures in
    (well.read.image, found.0, all_found bytes c.args.start count count c.in-Ok.tail well refl c.args.second c.in-Ok-find_gate_from.end c.in-Ok-find_gate_from.records found.0 c.requires.head c.requires.second c.requires.past c.requires.format found.1 found.2 found.3)
