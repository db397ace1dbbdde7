use Rattle.std.proofs.Common.{List, ℕ, Err, refl, sym, ap, ◌∙◌, subst, IsTrue}
use Rattle.disk_core.specs.States.{Story, bytes_of}
use Rattle.disk_core.specs.Images.{IsSettled}
use Rattle.disk_core.proofs.Inside.{synced}
use Rattle.gate_log.specs.Log.{IsLog}
use Rattle.gate_log.specs.Damage.{IsDamagedAt}
use Rattle.gate_log.specs.declared.error.OpenError.TheVariants.{Damaged}
use Rattle.gate_log.proofs.Steps.{still}
use Rattle.gate_log.proofs.Unique.{not_both, one_place}
use Rattle.gate_log.proofs.Walking.{walked_log}
use Rattle.gate_log.proofs.log.GateLog.reopen.Goals as goal

pub returns-in-Err-clause-exact : goal.returns-in-Err-clause-exact
returns-in-Err-clause-exact g c = λ at told damaged _ _.
    let disk = c.shut.ensures.same.0 in
    let tells = subst (λ d. IsTrue (g.D.Disk.state d).tells) (sym disk) told in
    let same = c.deref.ensures.value ∙ c.in_ok-bytes.ensures.bytes tells ∙ ap (λ d. bytes_of (g.D.Disk.state d)) disk in
    ap (λ n. Err (Damaged n)) (one_place _ c.in-Err.at at (subst (λ (l : List ℕ). IsDamagedAt l c.in-Err.at) same c.in-Err.ensures) damaged)

pub returns-in-Ok-clause-exact : goal.returns-in-Ok-clause-exact
returns-in-Ok-clause-exact g c = λ at told damaged _ _.
    let disk = c.shut.ensures.same.0 in
    let tells = subst (λ d. IsTrue (g.D.Disk.state d).tells) (sym disk) told in
    let found = c.in-Ok.ensures in
    let same = c.deref.ensures.value ∙ c.in_ok-bytes.ensures.bytes tells ∙ ap (λ d. bytes_of (g.D.Disk.state d)) disk in
    absurd (not_both _ found.0 at (subst (λ (l : List ℕ). IsLog l found.0) same found.1) damaged)

pub returns-in-Ok-clause-opened : goal.returns-in-Ok-clause-opened
returns-in-Ok-clause-opened g c =
    let found = c.in-Ok.ensures in
    let read : IsLog c.in_ok-bytes.bytes.items found.0 = subst (λ (l : List ℕ). IsLog l found.0) c.deref.ensures.value found.1 in (
      found.0,
      walked_log c.in_ok-bytes.bytes.items found.0 c.in-Ok.count read found.3,
      read.sized,
      λ told.
          let disk = c.shut.ensures.same.0 in
          let tells = subst (λ d. IsTrue (g.D.Disk.state d).tells) (sym disk) told in
          let log = subst (λ (l : List ℕ). IsLog l found.0) (c.in_ok-bytes.ensures.bytes tells) read in
          let story = c.in_ok-bytes.ensures.synced tells in (
            subst (λ d. IsLog (bytes_of (g.D.Disk.state d)) found.0) disk log,
            record {
              is_open = refl;
              at_rest = record {
                tells = still _ _ c.in_ok-bytes.ensures.goes_on.tells tells;
                settled = subst (λ (s : Story). IsSettled s.now) (sym story) (synced (g.D.Disk.state c.shut.new.self.disk).story.now);
                log = subst (λ (s : Story). IsLog s.now.bytes found.0) (sym story) log;
                place = found.2;
              };
            },
          ),
    )
