-- A log without a payload.
use Rattle.std.proofs.Common.{◌≡◌, ℕ, List, [], ◌∷◌, length, IsTrue, refl, ap, ◌∙◌, arith}
use Rattle.disk_core.specs.Images.{overwritten}
use Rattle.disk_core.specs.States.{Story, DiskState}
use Rattle.gate_log.specs.Rest.{synced_write}
use Rattle.twin_log.specs.Twin.{start_of}
use Rattle.twin_log.specs.Rests.{Stands, first_spot, IsEmptyLog}
use Rattle.twin_log.proofs.Holds.{rests_from}

abbrev pub empty : List ℕ
empty = 67 ∷ 85 ∷ 82 ∷ 69 ∷ 84 ∷ 87 ∷ 78 ∷ 49 ∷ 0 ∷ 0 ∷ 0 ∷ 0 ∷ 0 ∷ 0 ∷ 0 ∷ 0 ∷ 25 ∷ 0 ∷ 0 ∷ 0 ∷ 0 ∷ 0 ∷ 0 ∷ 0 ∷ 25 ∷ 1 ∷ 0 ∷ 0 ∷ 0 ∷ 0 ∷ 0 ∷ []

begins : start_of empty ≡ 25
begins = refl

empty_stands : Stands empty first_spot []
empty_stands = record {
  log = record { image = []; tail = []; gate = 0; rest = []; headed = refl; past = omega (arith, begins); is = refl; known = refl; shut = omega arith; few = omega arith; image_sized = tt; tail_sized = tt; listed = refl };
  turn = refl;
  begins = refl;
  place = refl;
}

pub formatted : (old now : DiskState) → old.story.now.bytes ≡ [] → now.story ≡ synced_write 0 empty old.story → IsTrue now.tells → IsEmptyLog now
formatted old now none is told =
    let bytes : now.story.now.bytes ≡ empty = ap (λ (s : Story). s.now.bytes) is ∙ ap (overwritten 0 empty) none in
    let long : length now.story.now.bytes ≡ 31 = ap length bytes in
    let least : now.story.now.least ≡ 31 = ap (λ (s : Story). s.now.least) is ∙ ap (λ (l : List ℕ). length (overwritten 0 empty l)) none in
    rests_from now empty first_spot [] bytes empty_stands told (ap (λ (s : Story). s.now.written) is) (omega (arith, least)) (omega (arith, least, long))
