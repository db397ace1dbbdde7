-- The effects that are generated of registers can be put.
use Rattle.std.proofs.Common.{◌≡◌, true, ℕ, List, [], ◌∷◌, Option, refl, sym, ap, subst, arith}
use Rattle.std.specs.Prelude.{min, nat_le}
use Rattle.std.proofs.lemmas.Bool.{false≢true}
use Rattle.field_codec.specs.FormLaws.{and_true, le_holds}
use Rattle.crdt_core.specs.declared.kind.Kind.{Kind}
use Rattle.crdt_core.specs.declared.kind.Kind.TheVariants.{RegisterLww, RegisterMv}
use Rattle.crdt_core.specs.declared.object.Field.{Field}
use Rattle.crdt_core.specs.declared.operation.Act.{Act}
use Rattle.crdt_core.specs.declared.operation.Act.TheVariants as act
use Rattle.crdt_core.specs.Kept.{KeptAt, dots_of, is_kept}
use Rattle.crdt_core.specs.EffectForm.{HoldsSpelled, IsReady, reset_tag, begins_with, asks_reset, sets_ascend}
use Rattle.crdt_core.specs.Fits.{fits}
use Rattle.crdt_core.specs.KindCodes.{same_kind_is}
use Rattle.crdt_core.specs.Leaves.{IsLeaf, fits_leaf}
use Rattle.crdt_core.proofs.Ready.{kept_spelled, kept_ascend}
use Rattle.crdt_core.specs.Seen.{is_assign}
use Rattle.crdt_core.specs.Spelled.{is_between, ascend}
use Rattle.crdt_core.specs.Stamps.{last_stamp}
use Rattle.crdt_registers.specs.EffectForm.{is_of_kind}
use Rattle.crdt_registers.specs.LwwForm.{can_put_lww, lww_sets, lww_spelling}
use Rattle.crdt_registers.specs.MvForm.{can_put_mv, mv_sets, mv_spelling}
use Rattle.crdt_meanings.specs.RegisterLww.{lww_has, above, lww_made_on}
use Rattle.crdt_meanings.specs.RegisterMv.{mv_has, mv_made_on}
use Rattle.crdt_meanings.specs.declared.registers.Stamped.{Stamped}

-- ---- the last writer wins

stamp_below : (n : ℕ) → is_between 0 last_stamp (min last_stamp n) ≡ true
stamp_below n =
    let m = min last_stamp n in
    and_true (nat_le 0 m) (nat_le m last_stamp) (le_holds 0 m (omega arith)) (le_holds m last_stamp (omega arith))

leaf : IsLeaf RegisterLww
leaf l = refl

no_reset : (p : List Field) (a : Act) → is_assign a ≡ true → asks_reset p a ≡ true → ⊥
no_reset [] (act.Assign x) h asked = false≢true asked
no_reset [] _ h asked = false≢true h
no_reset (f ∷ p) a h asked = false≢true asked

pub lww_ready : (k : Kind) → lww_has k ≡ true → (s : Option Stamped) (p : List Field) (a : Act) (now : ℕ) → fits k p a ≡ true → IsReady is_of_kind can_put_lww lww_sets lww_spelling k p a (lww_made_on s a now)
lww_ready k has s p a now fit =
    let assigns = (fits_leaf RegisterLww leaf p a (subst (λ l. fits l p a ≡ true) (same_kind_is k RegisterLww has) fit)).1 in
    record { kind = refl; fit = stamp_below (above now s); sets = refl; opened = λ asked. absurd (no_reset p a assigns asked) }

-- ---- the texts of concurrent assigns

can_put_made : (s : KeptAt (List ℕ)) (a : Act) → HoldsSpelled is_kept s → can_put_mv (mv_made_on s a) ≡ true
can_put_made s (act.Assign x) h = kept_spelled s h
can_put_made s act.Reset h = kept_spelled s h
can_put_made s _ h = refl

one_set : (s : KeptAt (List ℕ)) → sets_ascend (dots_of s ∷ []) ≡ true
one_set s = and_true (ascend (dots_of s)) true (kept_ascend s) refl

set_made : (s : KeptAt (List ℕ)) (a : Act) → sets_ascend (mv_sets (mv_made_on s a)) ≡ true
set_made s (act.Assign x) = one_set s
set_made s act.Reset = one_set s
set_made s _ = refl

reset_made : (s : KeptAt (List ℕ)) (p : List Field) (a : Act) → asks_reset p a ≡ true → begins_with 2 (mv_spelling (mv_made_on s a)) ≡ true
reset_made s [] act.Reset asked = refl
reset_made s [] _ asked = absurd (false≢true asked)
reset_made s (f ∷ p) a asked = absurd (false≢true asked)

pub mv_ready : (k : Kind) → mv_has k ≡ true → (s : KeptAt (List ℕ)) (p : List Field) (a : Act) → HoldsSpelled is_kept s → IsReady is_of_kind can_put_mv mv_sets mv_spelling k p a (mv_made_on s a)
mv_ready k has s p a h = record {
  kind = refl;
  fit = can_put_made s a h;
  sets = set_made s a;
  opened = λ asked. subst (λ n. begins_with n (mv_spelling (mv_made_on s a)) ≡ true) (sym (ap reset_tag (same_kind_is k RegisterMv has))) (reset_made s p a asked);
}
