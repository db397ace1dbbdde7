-- The effects that are generated of flags can be put.
use Rattle.std.proofs.Common.{◌≡◌, Bool, true, false, List, [], ◌∷◌, refl, sym, ap, ◌∙◌, subst}
use Rattle.std.proofs.lemmas.Bool.{false≢true}
use Rattle.crdt_core.specs.declared.kind.Kind.{Kind}
use Rattle.crdt_core.specs.declared.object.Field.{Field}
use Rattle.crdt_core.specs.declared.operation.Act.{Act}
use Rattle.crdt_core.specs.declared.operation.Act.TheVariants as act
use Rattle.field_codec.specs.FormLaws.{and_true}
use Rattle.crdt_core.specs.Kept.{KeptAt, dots_of, is_kept}
use Rattle.crdt_core.specs.Spelled.{ascend}
use Rattle.crdt_core.specs.EffectForm.{HoldsSpelled, IsReady, reset_tag, begins_with, asks_reset, sets_ascend}
use Rattle.crdt_core.proofs.Ready.{kept_spelled, kept_ascend}
use Rattle.crdt_meanings.specs.Flags.{flag_kind, flag_made}
use Rattle.crdt_flags.specs.EffectForm.{is_of_kind, can_put_flag, flag_sets, flag_spelling}

one_set : (s : KeptAt Bool) → sets_ascend (dots_of s ∷ []) ≡ true
one_set s = and_true (ascend (dots_of s)) true (kept_ascend s) refl

can_put_made : (s : KeptAt Bool) (a : Act) → HoldsSpelled is_kept s → can_put_flag (flag_made s a) ≡ true
can_put_made s act.Enable h = kept_spelled s h
can_put_made s act.Disable h = kept_spelled s h
can_put_made s act.Reset h = kept_spelled s h
can_put_made s _ h = refl

set_made : (s : KeptAt Bool) (a : Act) → sets_ascend (flag_sets (flag_made s a)) ≡ true
set_made s act.Enable = one_set s
set_made s act.Disable = one_set s
set_made s act.Reset = one_set s
set_made s _ = refl

reset_made : (s : KeptAt Bool) (p : List Field) (a : Act) → asks_reset p a ≡ true → begins_with 2 (flag_spelling (flag_made s a)) ≡ true
reset_made s [] act.Reset h = refl
reset_made s [] _ h = absurd (false≢true h)
reset_made s (f ∷ p) a h = absurd (false≢true h)

reset_mark : (w : Bool) → reset_tag (flag_kind w) ≡ 2
reset_mark false = refl
reset_mark true = refl

pub flag_ready : (w : Bool) (k : Kind) → k ≡ flag_kind w → (s : KeptAt Bool) (p : List Field) (a : Act) → HoldsSpelled is_kept s → IsReady is_of_kind can_put_flag flag_sets flag_spelling k p a (flag_made s a)
flag_ready w k e s p a h = record {
  kind = refl;
  fit = can_put_made s a h;
  sets = set_made s a;
  opened = λ asked. subst (λ n. begins_with n (flag_spelling (flag_made s a)) ≡ true) (sym (ap reset_tag e ∙ reset_mark w)) (reset_made s p a asked);
}
