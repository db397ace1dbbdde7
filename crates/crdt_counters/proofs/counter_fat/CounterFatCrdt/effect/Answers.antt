use Rattle.std.proofs.Common.{◌≡◌, true, [], ◌∷◌, refl, ap, sym, subst}
use Rattle.std.specs.Prelude.{◌==◌}
use Rattle.crdt_core.specs.KindCodes.{same_kind_is}
use Rattle.crdt_core.specs.Spelled.{are_dots, ascend}
use Rattle.crdt_core.specs.EffectForm.{reset_tag}
use Rattle.crdt_core.proofs.Ready.{kept_spelled, kept_ascend}
use Rattle.crdt_core.specs.Kept.{dots_of}
use Rattle.crdt_core.specs.EffectForm.{sets_ascend}
use Rattle.field_codec.specs.FormLaws.{and_true}
use Rattle.crdt_core.specs.declared.kind.Kind.TheVariants.{CounterFat}
use Rattle.crdt_counters.proofs.counter_fat.CounterFatCrdt.effect.Goals as goal

pub returns-in_ok-dots-in-Reset-clause-ready : goal.returns-in_ok-dots-in-Reset-clause-ready
returns-in_ok-dots-in-Reset-clause-ready c = λ has h. record {
  kind = refl;
  fit = subst (λ ds. are_dots ds ≡ true) (sym c.in_ok-dots-in-Reset.ensures) (kept_spelled c.args.state.now h);
  sets = subst (λ ds. sets_ascend (ds ∷ []) ≡ true) (sym c.in_ok-dots-in-Reset.ensures) (and_true (ascend (dots_of c.args.state.now)) true (kept_ascend c.args.state.now) refl);
  opened = λ asked. ap (λ k. 1 == reset_tag k) (same_kind_is c.args.kind CounterFat has);
}
