-- The bytes of the effects of kinds without fields.
use Rattle.std.proofs.Common.{◌≡◌, ℕ, Bool, true, false, ◌&&◌, ◌||◌, List, refl}
use Rattle.std.specs.Prelude.{ℤ, is_some}
use Rattle.std.proofs.lemmas.Bool.{false≢true}
use Rattle.std.specs.List.{list_all}
use Rattle.field_codec.specs.Spelling.{is_text}
use Rattle.field_codec.specs.Reading.{Read, mapped_at}
use Rattle.field_codec.specs.Lawful.{IsForm}
use Rattle.field_codec.specs.Tagged.{shape_form}
use Rattle.site_vector.specs.declared.ids.Dot.{Dot}
use Rattle.crdt_core.specs.declared.kind.Kind.{Kind}
use Rattle.crdt_core.specs.declared.kind.Kind.TheVariants as kinds
use Rattle.crdt_meanings.specs.declared.counters.FatEffect.{FatEffect}
use Rattle.crdt_meanings.specs.declared.sets.SetEffect.{SetEffect}
use Rattle.crdt_meanings.specs.declared.flags.FlagEffect.{FlagEffect}
use Rattle.crdt_meanings.specs.declared.registers.Assigned.{Assigned}
use Rattle.crdt_meanings.specs.declared.registers.MvEffect.{MvEffect}
use Rattle.crdt_core.specs.EffectForm.{SpellsEffects}
use Rattle.crdt_core.specs.NamedDots.{LiesIn, have_update, NamesAreSpelled}
use Rattle.crdt_meanings.specs.CounterPn.{pn_has}
use Rattle.crdt_meanings.specs.CounterFat.{fat_has}
use Rattle.crdt_counters.specs.EffectForm.{is_amount_number, amount_sets, amount_spelling, amount_at, pn_spells, can_put_fat, keeps_fat, fat_sets, is_fat_spelled, fat_spelling, fat_at, fat_spells, pn_named, fat_named}
use Rattle.crdt_meanings.specs.SetGo as set
use Rattle.crdt_meanings.specs.Sets.{set_has}
use Rattle.crdt_sets.specs.EffectForm.{can_put_texts, are_texts_spelled, texts_spelling, texts_at, texts_sets, set_sets, go_spells as set_go_spells, can_put_set, keeps_set, is_set_spelled, set_spelling, set_at, set_spells, go_named as set_go_lies, set_named}
use Rattle.crdt_meanings.specs.Flags as flags
use Rattle.crdt_flags.specs.EffectForm.{can_put_flag, keeps_flag, flag_sets, is_flag_spelled, flag_spelling, flag_at, flag_spells, flag_named}
use Rattle.crdt_meanings.specs.RegisterLww.{lww_has}
use Rattle.crdt_meanings.specs.RegisterMv.{mv_has}
use Rattle.crdt_registers.specs.LwwForm.{can_put_lww, keeps_lww, lww_sets, is_lww_spelled, lww_spelling, lww_at, lww_spells, lww_named}
use Rattle.crdt_registers.specs.MvForm.{can_put_mv, keeps_mv, is_mv_spelled, mv_spelling, mv_at, mv_spells, mv_sets, mv_named}
use Rattle.crdt_any.specs.declared.simple_effect.SimpleEffect.{SimpleEffect}
use Rattle.crdt_any.specs.declared.simple_effect.SimpleEffect.TheVariants as effect
use Rattle.crdt_any.specs.Simple.{simple_has, simple_names, counter_pn_effect, counter_fat_effect, set_go_effect, set_aw_effect, set_rw_effect, flag_ew_effect, flag_dw_effect, register_lww_effect, register_mv_effect}

abbrev pub simple_is_of : Kind → SimpleEffect → Bool
simple_is_of kinds.CounterFat e = is_some (counter_fat_effect e)
simple_is_of kinds.SetGo e = is_some (set_go_effect e)
simple_is_of kinds.SetAw e = is_some (set_aw_effect e)
simple_is_of kinds.SetRw e = is_some (set_rw_effect e)
simple_is_of kinds.FlagEw e = is_some (flag_ew_effect e)
simple_is_of kinds.FlagDw e = is_some (flag_dw_effect e)
simple_is_of kinds.RegisterLww e = is_some (register_lww_effect e)
simple_is_of kinds.RegisterMv e = is_some (register_mv_effect e)
simple_is_of _ e = is_some (counter_pn_effect e)

abbrev pub simple_can_put : SimpleEffect → Bool
simple_can_put (effect.CounterPn e) = is_amount_number e
simple_can_put (effect.CounterFat e) = can_put_fat e
simple_can_put (effect.SetGo e) = can_put_texts e
simple_can_put (effect.SetAw e) = can_put_set e
simple_can_put (effect.SetRw e) = can_put_set e
simple_can_put (effect.FlagEw e) = can_put_flag e
simple_can_put (effect.FlagDw e) = can_put_flag e
simple_can_put (effect.RegisterLww e) = can_put_lww e
simple_can_put (effect.RegisterMv e) = can_put_mv e

abbrev pub simple_keeps : SimpleEffect → Bool
simple_keeps (effect.CounterPn e) = true
simple_keeps (effect.CounterFat e) = keeps_fat e
simple_keeps (effect.SetGo e) = list_all is_text e
simple_keeps (effect.SetAw e) = keeps_set e
simple_keeps (effect.SetRw e) = keeps_set e
simple_keeps (effect.FlagEw e) = keeps_flag e
simple_keeps (effect.FlagDw e) = keeps_flag e
simple_keeps (effect.RegisterLww e) = keeps_lww e
simple_keeps (effect.RegisterMv e) = keeps_mv e

abbrev pub simple_is_spelled : SimpleEffect → Bool
simple_is_spelled (effect.CounterPn e) = is_amount_number e
simple_is_spelled (effect.CounterFat e) = is_fat_spelled e
simple_is_spelled (effect.SetGo e) = are_texts_spelled e
simple_is_spelled (effect.SetAw e) = is_set_spelled e
simple_is_spelled (effect.SetRw e) = is_set_spelled e
simple_is_spelled (effect.FlagEw e) = is_flag_spelled e
simple_is_spelled (effect.FlagDw e) = is_flag_spelled e
simple_is_spelled (effect.RegisterLww e) = is_lww_spelled e
simple_is_spelled (effect.RegisterMv e) = is_mv_spelled e

abbrev pub simple_spelling : SimpleEffect → List ℕ
simple_spelling (effect.CounterPn e) = amount_spelling e
simple_spelling (effect.CounterFat e) = fat_spelling e
simple_spelling (effect.SetGo e) = texts_spelling e
simple_spelling (effect.SetAw e) = set_spelling e
simple_spelling (effect.SetRw e) = set_spelling e
simple_spelling (effect.FlagEw e) = flag_spelling e
simple_spelling (effect.FlagDw e) = flag_spelling e
simple_spelling (effect.RegisterLww e) = lww_spelling e
simple_spelling (effect.RegisterMv e) = mv_spelling e

-- the sets of updates in the bytes of an effect
abbrev pub simple_sets : SimpleEffect → List (List Dot)
simple_sets (effect.CounterPn e) = amount_sets e
simple_sets (effect.CounterFat e) = fat_sets e
simple_sets (effect.SetGo e) = texts_sets e
simple_sets (effect.SetAw e) = set_sets e
simple_sets (effect.SetRw e) = set_sets e
simple_sets (effect.FlagEw e) = flag_sets e
simple_sets (effect.FlagDw e) = flag_sets e
simple_sets (effect.RegisterLww e) = lww_sets e
simple_sets (effect.RegisterMv e) = mv_sets e

abbrev pub simple_reading : Kind → List ℕ → ℕ → Read SimpleEffect
simple_reading kinds.CounterFat = mapped_at effect.CounterFat fat_at
simple_reading kinds.SetGo = mapped_at effect.SetGo texts_at
simple_reading kinds.SetAw = mapped_at effect.SetAw set_at
simple_reading kinds.SetRw = mapped_at effect.SetRw set_at
simple_reading kinds.FlagEw = mapped_at effect.FlagEw flag_at
simple_reading kinds.FlagDw = mapped_at effect.FlagDw flag_at
simple_reading kinds.RegisterLww = mapped_at effect.RegisterLww lww_at
simple_reading kinds.RegisterMv = mapped_at effect.RegisterMv mv_at
simple_reading _ = mapped_at effect.CounterPn amount_at

abbrev told_at : Kind → SimpleEffect → Bool
told_at k e = simple_is_of k e && (simple_can_put e || simple_is_spelled e)

counter_pn_shape : (e : SimpleEffect) → told_at kinds.CounterPn e ≡ true → (v : ℤ) × (effect.CounterPn v ≡ e)
counter_pn_shape (effect.CounterPn v) h = (v, refl)
counter_pn_shape _ h = absurd (false≢true h)

counter_fat_shape : (e : SimpleEffect) → told_at kinds.CounterFat e ≡ true → (v : FatEffect) × (effect.CounterFat v ≡ e)
counter_fat_shape (effect.CounterFat v) h = (v, refl)
counter_fat_shape _ h = absurd (false≢true h)

set_go_shape : (e : SimpleEffect) → told_at kinds.SetGo e ≡ true → (v : List (List ℕ)) × (effect.SetGo v ≡ e)
set_go_shape (effect.SetGo v) h = (v, refl)
set_go_shape _ h = absurd (false≢true h)

set_aw_shape : (e : SimpleEffect) → told_at kinds.SetAw e ≡ true → (v : SetEffect) × (effect.SetAw v ≡ e)
set_aw_shape (effect.SetAw v) h = (v, refl)
set_aw_shape _ h = absurd (false≢true h)

set_rw_shape : (e : SimpleEffect) → told_at kinds.SetRw e ≡ true → (v : SetEffect) × (effect.SetRw v ≡ e)
set_rw_shape (effect.SetRw v) h = (v, refl)
set_rw_shape _ h = absurd (false≢true h)

flag_ew_shape : (e : SimpleEffect) → told_at kinds.FlagEw e ≡ true → (v : FlagEffect) × (effect.FlagEw v ≡ e)
flag_ew_shape (effect.FlagEw v) h = (v, refl)
flag_ew_shape _ h = absurd (false≢true h)

flag_dw_shape : (e : SimpleEffect) → told_at kinds.FlagDw e ≡ true → (v : FlagEffect) × (effect.FlagDw v ≡ e)
flag_dw_shape (effect.FlagDw v) h = (v, refl)
flag_dw_shape _ h = absurd (false≢true h)

register_lww_shape : (e : SimpleEffect) → told_at kinds.RegisterLww e ≡ true → (v : Assigned) × (effect.RegisterLww v ≡ e)
register_lww_shape (effect.RegisterLww v) h = (v, refl)
register_lww_shape _ h = absurd (false≢true h)

register_mv_shape : (e : SimpleEffect) → told_at kinds.RegisterMv e ≡ true → (v : MvEffect) × (effect.RegisterMv v ≡ e)
register_mv_shape (effect.RegisterMv v) h = (v, refl)
register_mv_shape _ h = absurd (false≢true h)

form_at : (k : Kind) → simple_has k ≡ true → IsForm (λ e. simple_is_of k e && simple_can_put e) simple_keeps (λ e. simple_is_of k e && simple_is_spelled e) simple_spelling (simple_reading k)
form_at kinds.CounterPn is = shape_form (simple_is_of kinds.CounterPn) effect.CounterPn is_amount_number is_amount_number amount_spelling amount_at simple_can_put simple_is_spelled simple_spelling (λ v. refl) (λ v. refl) (λ v. refl) (λ v. refl) counter_pn_shape ((pn_spells pn_has).form kinds.CounterPn refl)
form_at kinds.CounterFat is = shape_form (simple_is_of kinds.CounterFat) effect.CounterFat can_put_fat is_fat_spelled fat_spelling fat_at simple_can_put simple_is_spelled simple_spelling (λ v. refl) (λ v. refl) (λ v. refl) (λ v. refl) counter_fat_shape ((fat_spells fat_has).form kinds.CounterFat refl)
form_at kinds.SetGo is = shape_form (simple_is_of kinds.SetGo) effect.SetGo can_put_texts are_texts_spelled texts_spelling texts_at simple_can_put simple_is_spelled simple_spelling (λ v. refl) (λ v. refl) (λ v. refl) (λ v. refl) set_go_shape ((set_go_spells set.go_has).form kinds.SetGo refl)
form_at kinds.SetAw is = shape_form (simple_is_of kinds.SetAw) effect.SetAw can_put_set is_set_spelled set_spelling set_at simple_can_put simple_is_spelled simple_spelling (λ v. refl) (λ v. refl) (λ v. refl) (λ v. refl) set_aw_shape ((set_spells (set_has false)).form kinds.SetAw refl)
form_at kinds.SetRw is = shape_form (simple_is_of kinds.SetRw) effect.SetRw can_put_set is_set_spelled set_spelling set_at simple_can_put simple_is_spelled simple_spelling (λ v. refl) (λ v. refl) (λ v. refl) (λ v. refl) set_rw_shape ((set_spells (set_has true)).form kinds.SetRw refl)
form_at kinds.FlagEw is = shape_form (simple_is_of kinds.FlagEw) effect.FlagEw can_put_flag is_flag_spelled flag_spelling flag_at simple_can_put simple_is_spelled simple_spelling (λ v. refl) (λ v. refl) (λ v. refl) (λ v. refl) flag_ew_shape ((flag_spells (flags.flag_has false)).form kinds.FlagEw refl)
form_at kinds.FlagDw is = shape_form (simple_is_of kinds.FlagDw) effect.FlagDw can_put_flag is_flag_spelled flag_spelling flag_at simple_can_put simple_is_spelled simple_spelling (λ v. refl) (λ v. refl) (λ v. refl) (λ v. refl) flag_dw_shape ((flag_spells (flags.flag_has true)).form kinds.FlagDw refl)
form_at kinds.RegisterLww is = shape_form (simple_is_of kinds.RegisterLww) effect.RegisterLww can_put_lww is_lww_spelled lww_spelling lww_at simple_can_put simple_is_spelled simple_spelling (λ v. refl) (λ v. refl) (λ v. refl) (λ v. refl) register_lww_shape ((lww_spells lww_has).form kinds.RegisterLww refl)
form_at kinds.RegisterMv is = shape_form (simple_is_of kinds.RegisterMv) effect.RegisterMv can_put_mv is_mv_spelled mv_spelling mv_at simple_can_put simple_is_spelled simple_spelling (λ v. refl) (λ v. refl) (λ v. refl) (λ v. refl) register_mv_shape ((mv_spells mv_has).form kinds.RegisterMv refl)
form_at _ is = absurd (false≢true is)

-- both of one effect
abbrev pub Named : {F : Type 0} → (F → Dot → Bool) → (F → List (List Dot)) → (F → List ℕ) → F → Dot → Type 0
Named names_of sets_of spelled e d = (names_of e d ≡ have_update (sets_of e) d) × (names_of e d ≡ true → LiesIn d (spelled e))

pub named : {F : Type 0} {fits : F → Bool} {names_of : F → Dot → Bool} {sets_of : F → List (List Dot)} {spelled : F → List ℕ} → NamesAreSpelled fits names_of sets_of spelled → (e : F) (d : Dot) → fits e ≡ true → Named names_of sets_of spelled e d
named s e d can = (s.exact e d can, s.lies e d can)

simple_told : (e : SimpleEffect) (d : Dot) → simple_can_put e ≡ true → Named simple_names simple_sets simple_spelling e d
simple_told (effect.CounterPn e) = named pn_named e
simple_told (effect.CounterFat e) = named fat_named e
simple_told (effect.SetGo e) = named set_go_lies e
simple_told (effect.SetAw e) = named set_named e
simple_told (effect.SetRw e) = named set_named e
simple_told (effect.FlagEw e) = named flag_named e
simple_told (effect.FlagDw e) = named flag_named e
simple_told (effect.RegisterLww e) = named lww_named e
simple_told (effect.RegisterMv e) = named mv_named e

pub simple_spells : SpellsEffects simple_has simple_is_of simple_can_put simple_keeps simple_is_spelled simple_spelling simple_reading
simple_spells = record { form = form_at }

pub simple_named : NamesAreSpelled simple_can_put simple_names simple_sets simple_spelling
simple_named = record { exact = λ e d can. (simple_told e d can).0; lies = λ e d can. (simple_told e d can).1 }
