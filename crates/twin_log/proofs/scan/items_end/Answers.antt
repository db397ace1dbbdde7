use Rattle.std.proofs.Common.{◌≡◌, ℕ, ◌-◌, List, length, take, drop, true, false, subst, arith, length-drop}
use Rattle.std.proofs.lemmas.List.{take_all}
use Rattle.gate_log.specs.Damage.{is_whole, told_length}
use Rattle.twin_log.specs.Found.{HasItems}
use Rattle.twin_log.proofs.Items.{no_items, one_item}
use Rattle.twin_log.proofs.scan.items_end.Goals as goal

-- the slice from a place on
from_here : (bytes : List ℕ) (at : ℕ) → take (length bytes - at) (drop at bytes) ≡ drop at bytes
from_here bytes at = take_all (length bytes - at) (drop at bytes) (omega (arith, length-drop at bytes))

pub loop-done-init : goal.loop-done-init
loop-done-init c = record { read = no_items c.args.bytes.now c.args.from c.requires; few = omega arith }

pub returns-in-None : goal.returns-in-None
returns-in-None c =
    let half = subst (λ (rest : List ℕ). is_whole rest ≡ false) (from_here c.args.bytes.now c.loop-done.at) c.in-None.ensures.whole in
    (c.loop-done.done, c.loop-done-test.true, c.loop-done.invariant.read, half)

pub loop-done-preserved : goal.loop-done-preserved
loop-done-preserved c =
    let same = from_here c.args.bytes.now c.loop-done.at in
    let told = c.in-Some.ensures.whole in
    let whole = subst (λ (rest : List ℕ). is_whole rest ≡ true) same told.0 in
    let is_told = subst (λ (rest : List ℕ). c.in-Some.told ≡ told_length rest) same told.1 in
    record {
      read = one_item c.args.bytes.now c.args.from c.loop-done.done c.loop-done.at c.in-Some.told c.loop-done.invariant.read whole is_told c.in-Some.ensures.small (λ i. omega (arith, c.type_inv.bytes i));
      few = omega (arith, c.loop-done-test.true);
    }

pub returns : goal.returns
returns c =
    let all : c.loop-done.done ≡ c.args.count = omega (arith, c.loop-done.invariant.few, c.loop-done-test.false) in
    subst (λ (n : ℕ). HasItems c.args.bytes.now c.args.from n c.loop-done.at) all c.loop-done.invariant.read
