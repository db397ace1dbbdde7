-- One assign more, as the code finds it.
use Rattle.std.proofs.Common.{◌≡◌, true, false, cond, Option, Some, None, refl, sym, ap}
use Rattle.std.proofs.lemmas.Bool.{false≢true}
use Rattle.site_vector.specs.declared.ids.Dot.{Dot}
use Rattle.crdt_meanings.specs.RegisterLww.{lww_step, outlasts}
use Rattle.crdt_meanings.specs.declared.registers.Stamped.{Stamped}
use Rattle.crdt_meanings.specs.declared.registers.Assigned.{Assigned}

pub step_stays : (s : Option Stamped) (d : Dot) (e : Assigned) → outlasts s d e ≡ true → s ≡ lww_step s d e
step_stays None d e h = absurd (false≢true h)
step_stays (Some a) d e h = sym (ap (λ b. Some (cond b a (record { stamp = e.stamp; dot = d; text = e.text }))) h)

pub step_taken : (s : Option Stamped) (d : Dot) (e : Assigned) → outlasts s d e ≡ false → Some (record { stamp = e.stamp; dot = d; text = e.text }) ≡ lww_step s d e
step_taken None d e h = refl
step_taken (Some a) d e h = sym (ap (λ b. Some (cond b a (record { stamp = e.stamp; dot = d; text = e.text }))) h)
