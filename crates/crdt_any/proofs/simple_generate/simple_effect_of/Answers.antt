use Rattle.std.proofs.Common.{true, false, ap, refl, rules, subst, sym}
use Rattle.std.specs.Option.{option_copied}
use Rattle.std.specs.FinMap.{empty}
use Rattle.crdt_core.specs.declared.kind.Kind.TheVariants as kinds
use Rattle.crdt_core.specs.EffectForm.{IsReady}
use Rattle.crdt_core.specs.Kept.{is_kept}
use Rattle.crdt_meanings.specs.CounterFat.{fat_has}
use Rattle.crdt_meanings.specs.Elements.{keeps_dot}
use Rattle.crdt_meanings.specs.Flags.{flag_has}
use Rattle.crdt_meanings.specs.RegisterMv.{mv_has}
use Rattle.crdt_meanings.specs.Sets.{set_has}
use Rattle.crdt_any.specs.declared.simple_effect.SimpleEffect.TheVariants as effect
use Rattle.crdt_any.specs.Simple.{simple_holds, counter_fat_state, set_aw_state, set_rw_state, flag_ew_state, flag_dw_state, register_mv_state}
use Rattle.crdt_any.specs.SimpleForm.{simple_is_of, simple_can_put, simple_sets, simple_spelling}
use Rattle.crdt_any.specs.SimpleLaws.{holds_as}
use Rattle.crdt_any.proofs.Ready.{inner_spelled}
use Rattle.crdt_any.proofs.simple_generate.simple_effect_of.Goals as goal

pub returns-in_ok-effect-in-CounterFat-clause-ready : goal.returns-in_ok-effect-in-CounterFat-clause-ready
returns-in_ok-effect-in-CounterFat-clause-ready c = λ is h.
    let made = c.in_ok-effect-in-CounterFat.effect in
    let ready = c.in_ok-effect-in-CounterFat.ensures.ready (ap (fat_has) c.in-CounterFat.is) (inner_spelled simple_holds is_kept c.args.state.now (option_copied c.counter_fat.result) (counter_fat_state c.args.state.now) empty (holds_as kinds.CounterFat refl c.args.state.now) c.counter_fat.ensures h) in
    record { kind = ap (λ k. simple_is_of k (effect.CounterFat made)) c.in-CounterFat.is; fit = ready.fit; sets = ready.sets; opened = ready.opened }

pub returns-in_ok-effect-in-SetAw-clause-ready : goal.returns-in_ok-effect-in-SetAw-clause-ready
returns-in_ok-effect-in-SetAw-clause-ready c = λ is h.
    let made = c.in_ok-effect-in-SetAw.effect in
    let ready = c.in_ok-effect-in-SetAw.ensures.ready (ap (set_has false) c.in-SetAw.is) (inner_spelled simple_holds keeps_dot c.args.state.now (option_copied c.set_aw.result) (set_aw_state c.args.state.now) empty (holds_as kinds.SetAw refl c.args.state.now) c.set_aw.ensures h) in
    record { kind = ap (λ k. simple_is_of k (effect.SetAw made)) c.in-SetAw.is; fit = ready.fit; sets = ready.sets; opened = ready.opened }

pub returns-in_ok-effect-in-SetRw-clause-ready : goal.returns-in_ok-effect-in-SetRw-clause-ready
returns-in_ok-effect-in-SetRw-clause-ready c = λ is h.
    let made = c.in_ok-effect-in-SetRw.effect in
    let ready = c.in_ok-effect-in-SetRw.ensures.ready (ap (set_has true) c.in-SetRw.is) (inner_spelled simple_holds keeps_dot c.args.state.now (option_copied c.set_rw.result) (set_rw_state c.args.state.now) empty (holds_as kinds.SetRw refl c.args.state.now) c.set_rw.ensures h) in
    record { kind = ap (λ k. simple_is_of k (effect.SetRw made)) c.in-SetRw.is; fit = ready.fit; sets = ready.sets; opened = ready.opened }

pub returns-in_ok-effect-in-FlagEw-clause-ready : goal.returns-in_ok-effect-in-FlagEw-clause-ready
returns-in_ok-effect-in-FlagEw-clause-ready c = λ is h.
    let made = c.in_ok-effect-in-FlagEw.effect in
    let ready = c.in_ok-effect-in-FlagEw.ensures.ready (ap (flag_has false) c.in-FlagEw.is) (inner_spelled simple_holds is_kept c.args.state.now (option_copied c.flag_ew.result) (flag_ew_state c.args.state.now) empty (holds_as kinds.FlagEw refl c.args.state.now) c.flag_ew.ensures h) in
    record { kind = ap (λ k. simple_is_of k (effect.FlagEw made)) c.in-FlagEw.is; fit = ready.fit; sets = ready.sets; opened = ready.opened }

pub returns-in_ok-effect-in-FlagDw-clause-ready : goal.returns-in_ok-effect-in-FlagDw-clause-ready
returns-in_ok-effect-in-FlagDw-clause-ready c = λ is h.
    let made = c.in_ok-effect-in-FlagDw.effect in
    let ready = c.in_ok-effect-in-FlagDw.ensures.ready (ap (flag_has true) c.in-FlagDw.is) (inner_spelled simple_holds is_kept c.args.state.now (option_copied c.flag_dw.result) (flag_dw_state c.args.state.now) empty (holds_as kinds.FlagDw refl c.args.state.now) c.flag_dw.ensures h) in
    record { kind = ap (λ k. simple_is_of k (effect.FlagDw made)) c.in-FlagDw.is; fit = ready.fit; sets = ready.sets; opened = ready.opened }

pub returns-in_ok-boxed-in-RegisterMv-clause-ready : goal.returns-in_ok-boxed-in-RegisterMv-clause-ready
returns-in_ok-boxed-in-RegisterMv-clause-ready c = λ is h.
    let made = c.in_ok-effect-in-RegisterMv.effect in
    let ready = c.in_ok-effect-in-RegisterMv.ensures.ready (ap (mv_has) c.in-RegisterMv.is) (inner_spelled simple_holds is_kept c.args.state.now (option_copied c.register_mv.result) (register_mv_state c.args.state.now) empty (holds_as kinds.RegisterMv refl c.args.state.now) c.register_mv.ensures h) in
    subst (λ e. IsReady simple_is_of simple_can_put simple_sets simple_spelling c.args.kind c.args.path.now c.args.act.now (effect.RegisterMv e)) (sym c.in_ok-boxed-in-RegisterMv.ensures)
    (record { kind = ap (λ k. simple_is_of k (effect.RegisterMv made)) c.in-RegisterMv.is; fit = ready.fit; sets = ready.sets; opened = ready.opened })

pub returns-in_ok-boxed-in-RegisterLww-clause-made : goal.returns-in_ok-boxed-in-RegisterLww-clause-made
returns-in_ok-boxed-in-RegisterLww-clause-made c = search rules
