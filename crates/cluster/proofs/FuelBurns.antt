-- How a fuse burns down: by calls that were made, by a restart, and by what lines tell.
use Rattle.std.proofs.Common.{◌≡◌, ◌≢◌, ℕ, ◌-◌, ◌≤◌, Bool, true, false, Option, None, Some, refl, sym, ap, ◌∙◌, subst, arith}
use Rattle.disk_core.specs.States.{fewer, Spared}
use Rattle.gate_log.specs.Rest.{Lowers}
use Rattle.world_model.specs.commands.Fuses.{Fuse, counted, IsUnfired}
use Rattle.cluster.specs.Fuel.{IsBurning, Burns, BurnsBy, BurnsAt}

none_left : {P : Type 0} (n : ℕ) → None ≡ Some n → P
none_left n h = absurd cc

same_left : (a b : ℕ) → Some a ≡ Some b → a ≡ b
same_left a b h = cc

-- ---- two states of a disk

pub burns_none : (left : Option ℕ) → Burns 0 left left
burns_none left most b = record { calls = b.calls; is = b.is; some = b.some; few = let f = b.few in omega arith }

pub burns_less : (n m : ℕ) (old new : Option ℕ) → m ≤ n → Burns n old new → Burns m old new
burns_less n m old new le h most b = h most (record { calls = b.calls; is = b.is; some = b.some; few = let f = b.few in omega arith })

pub burns_same : (old new : Option ℕ) → new ≡ old → Burns 0 old new
burns_same old new e = subst (Burns 0 old) (sym e) (burns_none old)

-- calls that were done, and none of them was to fail
pub burns_spent : (n : ℕ) (old new : Option ℕ) → new ≡ fewer n old → Spared n old → Burns n old new
burns_spent n None new is spared most b = none_left b.calls b.is
burns_spent n (Some c) new is spared most b =
    let e : c ≡ b.calls = same_left c b.calls b.is in
    let some = b.some in
    let few = b.few in
    record { calls = c - n; is = is; some = omega (arith, spared, e, some); few = omega (arith, e, few) }

-- calls that were made, after which no fuse has fired
pub burns_lowered : (n : ℕ) (old new : Option ℕ) → Lowers n old new → new ≢ Some 0 → Burns 0 old new
burns_lowered n None new lowers unfired most b = none_left b.calls b.is
burns_lowered n (Some c) new lowers unfired most b =
    let e : c ≡ b.calls = same_left c b.calls b.is in
    let few = b.few in
    record { calls = c - lowers.count; is = lowers.left; some = above (c - lowers.count) lowers.left; few = omega (arith, e, few) }
  where
    above : (m : ℕ) → new ≡ Some m → 1 ≤ m
    above m h = pos m (λ z. unfired (h ∙ ap (λ (i : ℕ). Some i) z))
      where
        pos : (m : ℕ) → m ≢ 0 → 1 ≤ m
        pos m ne = omega (arith, ne)

-- a fuse that has not fired is no other
pub burns_still : (old new : Option ℕ) → (old ≢ Some 0 → new ≡ old) → Burns 0 old new
burns_still old new burning most b = burns_same old new (burning (λ k. lit b.calls b.some (sym b.is ∙ k))) most b
  where
    lit : (c : ℕ) → 1 ≤ c → Some c ≡ Some 0 → ⊥
    lit c some k = let e = same_left c 0 k in omega (arith, some, e)

-- ---- a fuse of the script

-- so many calls are taken off for a line
abbrev pub taken_off : Bool → ℕ
taken_off true = 4
taken_off false = 0

burns_more : (f : Option Fuse) (wrote : Bool) (old new : Option ℕ) → BurnsBy f old → Burns (taken_off wrote) old new → BurnsBy (counted wrote f) new
burns_more None true old new b h = tt
burns_more None false old new b h = tt
burns_more (Some f) false old new b h = (b.0, b.1, h b.0 (record { calls = b.2.calls; is = b.2.is; some = b.2.some; few = let few = b.2.few in omega (arith, few) }))
burns_more (Some f) true old new b h =
    let few = b.2.few in
    let lit : IsBurning new (b.0 - 4) = h (b.0 - 4) (record { calls = b.2.calls; is = b.2.is; some = b.2.some; few = omega (arith, few) }) in
    let less = b.1 in
    let one = lit.some in
    let at_most = lit.few in
    (b.0 - 4, omega (arith, less, one, at_most), lit)

pub burns_counted : (there : Bool) (f : Option Fuse) (wrote : Bool) (old new : Option ℕ) → BurnsAt there f old → (there ≡ true → Burns (taken_off wrote) old new) → BurnsAt there (counted wrote f) new
burns_counted true f wrote old new b h = burns_more f wrote old new b (h refl)
burns_counted false f true old new b h = ap (counted true) b
burns_counted false f false old new b h = b

-- the fuse is over
pub burns_over : (there : Bool) (left : Option ℕ) → BurnsAt there None left
burns_over true left = tt
burns_over false left = refl

-- a fuse is armed
pub burns_armed : (k : ℕ) (left : Option ℕ) → 1 ≤ k → left ≡ Some k → BurnsBy (Some (record { fires_at = k; written = 0 })) left
burns_armed k left some is = (k, omega arith, record { calls = k; is = is; some = some; few = omega arith })

pub is_unfired : (there : Bool) (f : Option Fuse) (left : Option ℕ) → BurnsAt there f left → IsUnfired f
is_unfired true None left b = tt
is_unfired true (Some f) left b = let less = b.1 in let some = b.2.some in let few = b.2.few in omega (arith, less, some, few)
is_unfired false f left b = subst IsUnfired (sym b) tt
