-- The nine kinds without fields, as one type.
use Rattle.std.proofs.Common.{ℕ, Bool, true, false, List, Option, Some, None}
use Rattle.std.specs.Prelude.{ℤ, pos, unwrap_or}
use Rattle.std.specs.FinMap.{empty}
use Rattle.site_vector.specs.declared.ids.Dot.{Dot}
use Rattle.crdt_core.specs.declared.kind.Kind.{Kind}
use Rattle.crdt_core.specs.declared.kind.Kind.TheVariants as kinds
use Rattle.crdt_core.specs.declared.object.Field.{Field}
use Rattle.crdt_core.specs.declared.operation.Act.{Act}
use Rattle.crdt_core.specs.declared.value.Value.{Value}
use Rattle.crdt_core.specs.Seen.{Update}
use Rattle.crdt_core.specs.Kept.{KeptAt, is_kept, keeps_none}
use Rattle.crdt_meanings.specs.declared.counters.FatEffect.{FatEffect}
use Rattle.crdt_meanings.specs.declared.sets.SetEffect.{SetEffect}
use Rattle.crdt_meanings.specs.declared.flags.FlagEffect.{FlagEffect}
use Rattle.crdt_meanings.specs.declared.registers.Stamped.{Stamped}
use Rattle.crdt_meanings.specs.declared.registers.Assigned.{Assigned}
use Rattle.crdt_meanings.specs.declared.registers.MvEffect.{MvEffect}
use Rattle.crdt_meanings.specs.CounterMeaning.{counter_meaning}
use Rattle.crdt_meanings.specs.CounterPn.{is_zero, pn_step, pn_made, pn_value}
use Rattle.crdt_meanings.specs.CounterFat.{fat_step, fat_made, fat_value, fat_names}
use Rattle.crdt_meanings.specs.Elements.{Elements, keeps_dot, lacks_all}
use Rattle.crdt_meanings.specs.SetGo as set
use Rattle.crdt_meanings.specs.SetGo.{Grown}
use Rattle.crdt_meanings.specs.Sets as sets
use Rattle.crdt_meanings.specs.SetMeaning.{go_meaning as set_go_meaning, aw_meaning, rw_meaning}
use Rattle.crdt_meanings.specs.Flags as flags
use Rattle.crdt_meanings.specs.FlagMeaning.{ew_meaning, dw_meaning}
use Rattle.crdt_meanings.specs.RegisterMeaning.{lww_meaning, mv_meaning, word_of}
use Rattle.crdt_meanings.specs.RegisterLww.{unassigned, lww_step, lww_made, lww_stamp}
use Rattle.crdt_meanings.specs.RegisterMv.{mv_step, mv_made, mv_value, mv_names}
use Rattle.crdt_meanings.specs.Without.{no_dot}
use Rattle.crdt_any.specs.declared.simple_state.SimpleState.{SimpleState}
use Rattle.crdt_any.specs.declared.simple_state.SimpleState.TheVariants as state
use Rattle.crdt_any.specs.declared.simple_effect.SimpleEffect.{SimpleEffect}
use Rattle.crdt_any.specs.declared.simple_effect.SimpleEffect.TheVariants as effect

abbrev pub counter_pn_state : SimpleState → Option ℤ
counter_pn_state (state.CounterPn s) = Some s
counter_pn_state _ = None

abbrev pub counter_pn_effect : SimpleEffect → Option ℤ
counter_pn_effect (effect.CounterPn e) = Some e
counter_pn_effect _ = None

abbrev pub counter_fat_state : SimpleState → Option (KeptAt ℤ)
counter_fat_state (state.CounterFat s) = Some s
counter_fat_state _ = None

abbrev pub counter_fat_effect : SimpleEffect → Option FatEffect
counter_fat_effect (effect.CounterFat e) = Some e
counter_fat_effect _ = None

abbrev pub set_go_state : SimpleState → Option Grown
set_go_state (state.SetGo s) = Some s
set_go_state _ = None

abbrev pub set_go_effect : SimpleEffect → Option (List (List ℕ))
set_go_effect (effect.SetGo e) = Some e
set_go_effect _ = None

abbrev pub set_aw_state : SimpleState → Option Elements
set_aw_state (state.SetAw s) = Some s
set_aw_state _ = None

abbrev pub set_aw_effect : SimpleEffect → Option SetEffect
set_aw_effect (effect.SetAw e) = Some e
set_aw_effect _ = None

abbrev pub set_rw_state : SimpleState → Option Elements
set_rw_state (state.SetRw s) = Some s
set_rw_state _ = None

abbrev pub set_rw_effect : SimpleEffect → Option SetEffect
set_rw_effect (effect.SetRw e) = Some e
set_rw_effect _ = None

abbrev pub flag_ew_state : SimpleState → Option (KeptAt Bool)
flag_ew_state (state.FlagEw s) = Some s
flag_ew_state _ = None

abbrev pub flag_ew_effect : SimpleEffect → Option FlagEffect
flag_ew_effect (effect.FlagEw e) = Some e
flag_ew_effect _ = None

abbrev pub flag_dw_state : SimpleState → Option (KeptAt Bool)
flag_dw_state (state.FlagDw s) = Some s
flag_dw_state _ = None

abbrev pub flag_dw_effect : SimpleEffect → Option FlagEffect
flag_dw_effect (effect.FlagDw e) = Some e
flag_dw_effect _ = None

abbrev pub register_lww_state : SimpleState → Option (Option Stamped)
register_lww_state (state.RegisterLww s) = Some s
register_lww_state _ = None

abbrev pub register_lww_effect : SimpleEffect → Option Assigned
register_lww_effect (effect.RegisterLww e) = Some e
register_lww_effect _ = None

abbrev pub register_mv_state : SimpleState → Option (KeptAt (List ℕ))
register_mv_state (state.RegisterMv s) = Some s
register_mv_state _ = None

abbrev pub register_mv_effect : SimpleEffect → Option MvEffect
register_mv_effect (effect.RegisterMv e) = Some e
register_mv_effect _ = None

-- an effect of another kind leaves a state as it is
abbrev pub moved : {S E : Type 0} → (S → Dot → E → S) → S → Dot → Option E → S
moved step s d None = s
moved step s d (Some e) = step s d e

abbrev pub simple_has : Kind → Bool
simple_has kinds.MapGo = false
simple_has kinds.MapRr = false
simple_has _ = true

abbrev pub simple_initial : Kind → SimpleState
simple_initial kinds.CounterFat = state.CounterFat empty
simple_initial kinds.SetGo = state.SetGo empty
simple_initial kinds.SetAw = state.SetAw empty
simple_initial kinds.SetRw = state.SetRw empty
simple_initial kinds.FlagEw = state.FlagEw empty
simple_initial kinds.FlagDw = state.FlagDw empty
simple_initial kinds.RegisterLww = state.RegisterLww None
simple_initial kinds.RegisterMv = state.RegisterMv empty
simple_initial _ = state.CounterPn (pos 0)

abbrev pub simple_step : SimpleState → Dot → SimpleEffect → SimpleState
simple_step (state.CounterPn s) d e = state.CounterPn (moved pn_step s d (counter_pn_effect e))
simple_step (state.CounterFat s) d e = state.CounterFat (moved fat_step s d (counter_fat_effect e))
simple_step (state.SetGo s) d e = state.SetGo (moved set.go_step s d (set_go_effect e))
simple_step (state.SetAw s) d e = state.SetAw (moved (sets.set_step false) s d (set_aw_effect e))
simple_step (state.SetRw s) d e = state.SetRw (moved (sets.set_step true) s d (set_rw_effect e))
simple_step (state.FlagEw s) d e = state.FlagEw (moved (flags.flag_step false) s d (flag_ew_effect e))
simple_step (state.FlagDw s) d e = state.FlagDw (moved (flags.flag_step true) s d (flag_dw_effect e))
simple_step (state.RegisterLww s) d e = state.RegisterLww (moved lww_step s d (register_lww_effect e))
simple_step (state.RegisterMv s) d e = state.RegisterMv (moved mv_step s d (register_mv_effect e))

abbrev pub simple_made : Kind → SimpleState → List Field → Act → ℕ → SimpleEffect
simple_made kinds.CounterPn s p a now = effect.CounterPn (pn_made kinds.CounterPn (unwrap_or (counter_pn_state s) (pos 0)) p a now)
simple_made kinds.CounterFat s p a now = effect.CounterFat (fat_made kinds.CounterFat (unwrap_or (counter_fat_state s) empty) p a now)
simple_made kinds.SetGo s p a now = effect.SetGo (set.go_made kinds.SetGo (unwrap_or (set_go_state s) empty) p a now)
simple_made kinds.SetAw s p a now = effect.SetAw (sets.kind_made kinds.SetAw (unwrap_or (set_aw_state s) empty) p a now)
simple_made kinds.SetRw s p a now = effect.SetRw (sets.kind_made kinds.SetRw (unwrap_or (set_rw_state s) empty) p a now)
simple_made kinds.FlagEw s p a now = effect.FlagEw (flags.kind_made kinds.FlagEw (unwrap_or (flag_ew_state s) empty) p a now)
simple_made kinds.FlagDw s p a now = effect.FlagDw (flags.kind_made kinds.FlagDw (unwrap_or (flag_dw_state s) empty) p a now)
simple_made kinds.RegisterLww s p a now = effect.RegisterLww (lww_made kinds.RegisterLww (unwrap_or (register_lww_state s) None) p a now)
simple_made kinds.RegisterMv s p a now = effect.RegisterMv (mv_made kinds.RegisterMv (unwrap_or (register_mv_state s) empty) p a now)
simple_made _ s p a now = effect.CounterPn (pos 0)

abbrev pub simple_value : SimpleState → Value
simple_value (state.CounterPn s) = pn_value s
simple_value (state.CounterFat s) = fat_value s
simple_value (state.SetGo s) = set.go_value s
simple_value (state.SetAw s) = sets.set_value false s
simple_value (state.SetRw s) = sets.set_value true s
simple_value (state.FlagEw s) = flags.flag_value false s
simple_value (state.FlagDw s) = flags.flag_value true s
simple_value (state.RegisterLww s) = word_of s
simple_value (state.RegisterMv s) = mv_value s

abbrev pub simple_stamp : SimpleEffect → Option ℕ
simple_stamp (effect.RegisterLww e) = lww_stamp e
simple_stamp e = None

abbrev pub simple_meaning : Kind → List Update → Value
simple_meaning kinds.SetGo us = set_go_meaning kinds.SetGo us
simple_meaning kinds.SetAw us = aw_meaning kinds.SetAw us
simple_meaning kinds.SetRw us = rw_meaning kinds.SetRw us
simple_meaning kinds.FlagEw us = ew_meaning kinds.FlagEw us
simple_meaning kinds.FlagDw us = dw_meaning kinds.FlagDw us
simple_meaning kinds.RegisterLww us = lww_meaning kinds.RegisterLww us
simple_meaning kinds.RegisterMv us = mv_meaning kinds.RegisterMv us
simple_meaning k us = counter_meaning k us

abbrev pub simple_names : SimpleEffect → Dot → Bool
simple_names (effect.CounterPn e) d = no_dot e d
simple_names (effect.CounterFat e) d = fat_names e d
simple_names (effect.SetGo e) d = no_dot e d
simple_names (effect.SetAw e) d = sets.set_names e d
simple_names (effect.SetRw e) d = sets.set_names e d
simple_names (effect.FlagEw e) d = flags.flag_names e d
simple_names (effect.FlagDw e) d = flags.flag_names e d
simple_names (effect.RegisterLww e) d = no_dot e d
simple_names (effect.RegisterMv e) d = mv_names e d

abbrev pub simple_holds : SimpleState → Dot → Bool
simple_holds (state.CounterPn s) d = no_dot s d
simple_holds (state.CounterFat s) d = is_kept s d
simple_holds (state.SetGo s) d = no_dot s d
simple_holds (state.SetAw s) d = keeps_dot s d
simple_holds (state.SetRw s) d = keeps_dot s d
simple_holds (state.FlagEw s) d = is_kept s d
simple_holds (state.FlagDw s) d = is_kept s d
simple_holds (state.RegisterLww s) d = no_dot s d
simple_holds (state.RegisterMv s) d = is_kept s d

abbrev pub simple_blank : SimpleState → Bool
simple_blank (state.CounterPn s) = is_zero s
simple_blank (state.CounterFat s) = keeps_none s
simple_blank (state.SetGo s) = set.has_none s
simple_blank (state.SetAw s) = lacks_all s
simple_blank (state.SetRw s) = lacks_all s
simple_blank (state.FlagEw s) = keeps_none s
simple_blank (state.FlagDw s) = keeps_none s
simple_blank (state.RegisterLww s) = unassigned s
simple_blank (state.RegisterMv s) = keeps_none s
