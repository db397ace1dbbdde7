use Rattle.std.proofs.Common.{ℕ, List, ◌++◌, Err, refl, sym, ap, ◌∙◌, subst, arith, IsTrue}
use Rattle.disk_core.specs.States.{bytes_of}
use Rattle.gate_log.specs.declared.error.OpenError.TheVariants.{Damaged}
use Rattle.gate_log.proofs.Steps.{still}
use Rattle.twin_log.specs.Damage.{IsDamagedAt}
use Rattle.twin_log.specs.Found.{HasParts, IsFound}
use Rattle.twin_log.specs.Rests.{Stands}
use Rattle.twin_log.proofs.Unique.{not_both, one_place}
use Rattle.twin_log.proofs.Opening.{spot_places, image_within, tail_within, sized, walked_found, opens}
use Rattle.twin_log.proofs.log.TwinLog.reopen.Goals as goal

pub invariant_of-drop-clause-image_within : goal.invariant_of-drop-clause-image_within
invariant_of-drop-clause-image_within g c =
    let found = c.in-Ok.ensures.found in
    image_within c.in_ok-bytes.bytes.items c.in-Ok.found found.0 found.1 (subst (λ (l : List ℕ). IsFound l c.in-Ok.found found.0 found.1) c.deref.ensures.value found.2)

pub invariant_of-drop-clause-tail_within : goal.invariant_of-drop-clause-tail_within
invariant_of-drop-clause-tail_within g c =
    let found = c.in-Ok.ensures.found in
    tail_within c.in_ok-bytes.bytes.items c.in-Ok.found found.0 found.1 (subst (λ (l : List ℕ). IsFound l c.in-Ok.found found.0 found.1) c.deref.ensures.value found.2)

pub returns-in-Err-clause-exact : goal.returns-in-Err-clause-exact
returns-in-Err-clause-exact g c = λ at told damaged _ _.
    let disk = c.shut.ensures.same.0 in
    let tells = subst (λ d. IsTrue (g.D.Disk.state d).tells) (sym disk) told in
    let same = c.deref.ensures.value ∙ c.in_ok-bytes.ensures.bytes tells ∙ ap (λ d. bytes_of (g.D.Disk.state d)) disk in
    ap (λ n. Err (Damaged n)) (one_place (bytes_of (g.D.Disk.state c.args.self.now.disk)) c.in-Err.at at (subst (λ (l : List ℕ). IsDamagedAt l c.in-Err.at) same c.in-Err.ensures.damaged) damaged)

pub returns-in-Ok-clause-exact : goal.returns-in-Ok-clause-exact
returns-in-Ok-clause-exact g c = λ at told damaged _ _.
    let disk = c.shut.ensures.same.0 in
    let tells = subst (λ d. IsTrue (g.D.Disk.state d).tells) (sym disk) told in
    let found = c.in-Ok.ensures.found in
    let same = c.deref.ensures.value ∙ c.in_ok-bytes.ensures.bytes tells ∙ ap (λ d. bytes_of (g.D.Disk.state d)) disk in
    let parts = subst (λ (l : List ℕ). HasParts l c.in-Ok.found.spot found.0 found.1) same found.2.parts in
    absurd (not_both (bytes_of (g.D.Disk.state c.args.self.now.disk)) c.in-Ok.found.spot.format (found.0 ++ found.1) at parts.stands.log damaged)

pub returns-in-Ok-clause-opened : goal.returns-in-Ok-clause-opened
returns-in-Ok-clause-opened g c =
    let found = c.in-Ok.ensures.found in
    let is : IsFound c.in_ok-bytes.bytes.items c.in-Ok.found found.0 found.1 = subst (λ (l : List ℕ). IsFound l c.in-Ok.found found.0 found.1) c.deref.ensures.value found.2 in (
      found.0,
      found.1,
      walked_found c.in_ok-bytes.bytes.items c.in-Ok.found found.0 found.1 is,
      sized c.in_ok-bytes.bytes.items c.in-Ok.found found.0 found.1 is,
      λ told.
          let disk = c.shut.ensures.same.0 in
          let tells = subst (λ d. IsTrue (g.D.Disk.state d).tells) (sym disk) told in
          let parts = subst (λ (l : List ℕ). HasParts l c.in-Ok.found.spot found.0 found.1) (c.in_ok-bytes.ensures.bytes tells) is.parts in (
            subst (λ d. HasParts (bytes_of (g.D.Disk.state d)) c.in-Ok.found.spot found.0 found.1) disk parts,
            record {
              is_open = refl;
              at_rest = opens (g.D.Disk.state c.shut.new.self.disk) (g.D.Disk.state c.read_durable.new.disk) c.in-Ok.found.spot (found.0 ++ found.1) parts.stands (c.in_ok-bytes.ensures.synced tells) (still _ _ c.in_ok-bytes.ensures.goes_on.tells tells);
            },
          ),
    )

pub returns-in-Ok-clause-opened_ready : goal.returns-in-Ok-clause-opened_ready
returns-in-Ok-clause-opened_ready g c =
    let found = c.in-Ok.ensures.found in
    let parts = subst (λ (l : List ℕ). HasParts l c.in-Ok.found.spot found.0 found.1) c.deref.ensures.value found.2.parts in
    let places = spot_places c.in_ok-bytes.bytes.items c.in-Ok.found.spot (found.0 ++ found.1) parts.stands in (
      record {
        fits = omega (arith, places.within, c.in_ok-bytes.ensures.short, c.in_ok-bytes.ensures.goes_on.room);
        low = places.low;
        order = places.order;
        open_with = λ is_open told.
            let tells = still _ _ (sym c.in_ok-bytes.ensures.goes_on.tells) told in
            let stands = subst (λ (l : List ℕ). Stands l c.in-Ok.found.spot (found.0 ++ found.1)) (c.in_ok-bytes.ensures.bytes tells) parts.stands in
            (found.0 ++ found.1, opens (g.D.Disk.state c.shut.new.self.disk) (g.D.Disk.state c.read_durable.new.disk) c.in-Ok.found.spot (found.0 ++ found.1) stands (c.in_ok-bytes.ensures.synced tells) told);
      },
      refl,
    )

pub returns-in-Ok-clause-ready : goal.returns-in-Ok-clause-ready
returns-in-Ok-clause-ready g c = λ before. (returns-in-Ok-clause-opened_ready g c).0
