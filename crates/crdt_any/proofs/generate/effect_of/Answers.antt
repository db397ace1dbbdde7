use Rattle.std.proofs.Common.{true, false, ap, ◌∙◌, subst, sym}
use Rattle.std.specs.Prelude.{unwrap_or}
use Rattle.std.specs.Option.{option_copied}
use Rattle.std.specs.FinMap.{empty}
use Rattle.crdt_core.specs.declared.kind.Kind.TheVariants as kinds
use Rattle.crdt_core.specs.EffectForm.{IsReady}
use Rattle.crdt_meanings.specs.Maps.{map_has, map_holds}
use Rattle.crdt_any.specs.declared.effect.LayerEffect.TheVariants as effect
use Rattle.crdt_any.specs.Simple.{simple_initial, simple_made, simple_holds}
use Rattle.crdt_any.specs.Layer.{layer_holds, simple_state, map_go_state, map_rr_state}
use Rattle.crdt_any.specs.LayerForm.{layer_is_of, layer_can_put, layer_sets, layer_spelling}
use Rattle.crdt_any.specs.LayerLaws.{holds_as}
use Rattle.crdt_any.proofs.Ready.{inner_spelled, holds_simple, made_simple, is_of_simple, not_map}
use Rattle.crdt_any.proofs.generate.effect_of.Goals as goal

pub returns-in_ok-boxed-in-MapGo-clause-ready : goal.returns-in_ok-boxed-in-MapGo-clause-ready
returns-in_ok-boxed-in-MapGo-clause-ready g c =
    let I = g.I.Crdt in
    let made = c.in_ok-effect-in-MapGo.effect in
    λ h.
    let ready = c.in_ok-effect-in-MapGo.ensures.ready (ap (map_has false) c.in-MapGo.is) (inner_spelled (layer_holds I.holds) (map_holds I.holds) c.args.state.now (option_copied c.map_go.result) (map_go_state c.args.state.now) empty (holds_as I.laws I.in_maps kinds.MapGo c.args.state.now) c.map_go.ensures h) in
    subst (λ e. IsReady layer_is_of (layer_can_put I.has I.is_of I.can_put I.spelling) (layer_sets I.sets) (layer_spelling I.spelling) c.args.kind c.args.path.now c.args.act.now (effect.MapGo e)) (sym c.in_ok-boxed-in-MapGo.ensures)
    (record { kind = ap (λ k. layer_is_of {E = g.row.I-Effect.Denot} k (effect.MapGo made)) c.in-MapGo.is; fit = ready.fit; sets = ready.sets; opened = ready.opened })

pub returns-in_ok-boxed-in-MapRr-clause-ready : goal.returns-in_ok-boxed-in-MapRr-clause-ready
returns-in_ok-boxed-in-MapRr-clause-ready g c =
    let I = g.I.Crdt in
    let made = c.in_ok-effect-in-MapRr.effect in
    λ h.
    let ready = c.in_ok-effect-in-MapRr.ensures.ready (ap (map_has true) c.in-MapRr.is) (inner_spelled (layer_holds I.holds) (map_holds I.holds) c.args.state.now (option_copied c.map_rr.result) (map_rr_state c.args.state.now) empty (holds_as I.laws I.in_maps kinds.MapRr c.args.state.now) c.map_rr.ensures h) in
    subst (λ e. IsReady layer_is_of (layer_can_put I.has I.is_of I.can_put I.spelling) (layer_sets I.sets) (layer_spelling I.spelling) c.args.kind c.args.path.now c.args.act.now (effect.MapRr e)) (sym c.in_ok-boxed-in-MapRr.ensures)
    (record { kind = ap (λ k. layer_is_of {E = g.row.I-Effect.Denot} k (effect.MapRr made)) c.in-MapRr.is; fit = ready.fit; sets = ready.sets; opened = ready.opened })

pub returns-in_ok-effect-in_default : goal.returns-in_ok-effect-in_default
returns-in_ok-effect-in_default g c =
    let I = g.I.Crdt in
    let k = c.args.kind in
    let s = c.args.state.now in
    let made = c.in_ok-effect-in_default.effect in
    let known = not_map k c.in_default.not-MapGo c.in_default.not-MapRr in
    record {
      made = ap effect.Simple (c.in_ok-effect-in_default.ensures.made ∙ ap (λ o. simple_made k (unwrap_or o (simple_initial k)) c.args.path.now c.args.act.now c.args.now) c.simple.ensures) ∙ made_simple I.has I.initial I.generated I.is_blank k s c.args.path.now c.args.act.now c.args.now known;
      ready = λ h.
          let ready = c.in_ok-effect-in_default.ensures.ready known (inner_spelled (layer_holds I.holds) simple_holds s (option_copied c.simple.result) (simple_state s) (simple_initial k) (holds_simple I.holds k known s) c.simple.ensures h) in
          record { kind = is_of_simple g.row.I-Effect.Denot k made known ready.kind; fit = ready.fit; sets = ready.sets; opened = ready.opened };
    }
