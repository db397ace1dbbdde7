-- The kinds without fields keep the law of a kind, as each does alone.
use Rattle.std.proofs.Common.{◌≡◌, ℕ, true, false, ◌||◌, List, [], None, refl, sym, ap, ◌∙◌}
use Rattle.std.specs.Prelude.{pos, unwrap_or}
use Rattle.std.specs.FinMap.{empty}
use Rattle.std.proofs.lemmas.Bool.{true≢false, false≢true}
use Rattle.site_vector.specs.Ids.{same_dot}
use Rattle.site_vector.specs.declared.ids.Dot.{Dot}
use Rattle.crdt_core.specs.declared.kind.Kind.{Kind}
use Rattle.crdt_core.specs.declared.kind.Kind.TheVariants as kinds
use Rattle.crdt_core.specs.declared.operation.Act.TheVariants as act
use Rattle.crdt_core.specs.Fits.{nests_in}
use Rattle.crdt_core.specs.Seen.{Update}
use Rattle.crdt_core.specs.Kept.{is_kept}
use Rattle.crdt_core.specs.History.{IsHistory, state_after}
use Rattle.crdt_core.specs.Law.{KeepsSteps, KeepsLaw, made_by, all_fit}
use Rattle.crdt_core.specs.InMaps.{KeepsInMaps}
use Rattle.crdt_core.specs.Resets.{ResetsWhatIsLeft}
use Rattle.crdt_core.proofs.Confluence.{confluence}
use Rattle.crdt_meanings.specs.CounterPn.{pn_step}
use Rattle.crdt_meanings.specs.CounterFat.{fat_step}
use Rattle.crdt_meanings.specs.Elements.{keeps_dot}
use Rattle.crdt_meanings.specs.SetGo as set
use Rattle.crdt_meanings.specs.Sets as sets
use Rattle.crdt_meanings.specs.Flags as flags
use Rattle.crdt_meanings.specs.RegisterLww.{lww_step}
use Rattle.crdt_meanings.specs.RegisterMv.{mv_step}
use Rattle.crdt_meanings.specs.Without.{no_dot}
use Rattle.crdt_meanings.proofs.PnLaw.{pn_law, pn_in_maps}
use Rattle.crdt_meanings.proofs.FatLaw.{fat_law, fat_in_maps, fat_resets}
use Rattle.crdt_meanings.proofs.GoLaw.{go_law as set_go_law, go_in_maps as set_go_in_maps}
use Rattle.crdt_meanings.proofs.RemovableLaws.{set_law, set_in_maps}
use Rattle.crdt_meanings.proofs.SetResets.{set_resets}
use Rattle.crdt_meanings.proofs.FlagLaws.{flag_law, flag_in_maps, flag_resets}
use Rattle.crdt_meanings.proofs.LwwLaw.{lww_law, lww_in_maps}
use Rattle.crdt_meanings.proofs.MvLaw.{mv_law, mv_in_maps, mv_resets}
use Rattle.crdt_any.specs.declared.simple_state.SimpleState.{SimpleState}
use Rattle.crdt_any.specs.declared.simple_state.SimpleState.TheVariants as state
use Rattle.crdt_any.specs.declared.simple_effect.SimpleEffect.{SimpleEffect}
use Rattle.crdt_any.specs.declared.simple_effect.SimpleEffect.TheVariants as effect
use Rattle.crdt_any.specs.Simple.{simple_has, simple_initial, simple_step, simple_made, simple_value, simple_stamp, simple_meaning, simple_names, simple_holds, simple_blank, counter_pn_state, counter_pn_effect, counter_fat_state, counter_fat_effect, set_go_state, set_go_effect, set_aw_state, set_aw_effect, set_rw_state, set_rw_effect, flag_ew_state, flag_ew_effect, flag_dw_state, flag_dw_effect, register_lww_state, register_lww_effect, register_mv_state, register_mv_effect}
use Rattle.crdt_any.specs.Wrapped.{LawAt, inner_law, inner_left, moved_held}

-- the state as one of a kind: that of no update where it is of another
abbrev as_kind : Kind → SimpleState → SimpleState
as_kind kinds.CounterPn s = state.CounterPn (unwrap_or (counter_pn_state s) (pos 0))
as_kind kinds.CounterFat s = state.CounterFat (unwrap_or (counter_fat_state s) empty)
as_kind kinds.SetGo s = state.SetGo (unwrap_or (set_go_state s) empty)
as_kind kinds.SetAw s = state.SetAw (unwrap_or (set_aw_state s) empty)
as_kind kinds.SetRw s = state.SetRw (unwrap_or (set_rw_state s) empty)
as_kind kinds.FlagEw s = state.FlagEw (unwrap_or (flag_ew_state s) empty)
as_kind kinds.FlagDw s = state.FlagDw (unwrap_or (flag_dw_state s) empty)
as_kind kinds.RegisterLww s = state.RegisterLww (unwrap_or (register_lww_state s) None)
as_kind kinds.RegisterMv s = state.RegisterMv (unwrap_or (register_mv_state s) empty)
as_kind _ s = state.CounterPn (pos 0)

as_one : (P : SimpleState → Type 0) (k : Kind) (s : SimpleState) → P s → P (simple_initial k) → P (as_kind k s)
as_one P kinds.CounterPn (state.CounterPn s) it new = it
as_one P kinds.CounterFat (state.CounterFat s) it new = it
as_one P kinds.SetGo (state.SetGo s) it new = it
as_one P kinds.SetAw (state.SetAw s) it new = it
as_one P kinds.SetRw (state.SetRw s) it new = it
as_one P kinds.FlagEw (state.FlagEw s) it new = it
as_one P kinds.FlagDw (state.FlagDw s) it new = it
as_one P kinds.RegisterLww (state.RegisterLww s) it new = it
as_one P kinds.RegisterMv (state.RegisterMv s) it new = it
as_one P k s it new = new

none_at : (k : Kind) (x : Dot) → simple_has k ≡ true → simple_holds (simple_initial k) x ≡ false
none_at kinds.CounterPn x is = (pn_law.steps kinds.CounterPn refl).none_held x
none_at kinds.CounterFat x is = (fat_law.steps kinds.CounterFat refl).none_held x
none_at kinds.SetGo x is = (set_go_law.steps kinds.SetGo refl).none_held x
none_at kinds.SetAw x is = ((set_law false).steps kinds.SetAw refl).none_held x
none_at kinds.SetRw x is = ((set_law true).steps kinds.SetRw refl).none_held x
none_at kinds.FlagEw x is = ((flag_law false).steps kinds.FlagEw refl).none_held x
none_at kinds.FlagDw x is = ((flag_law true).steps kinds.FlagDw refl).none_held x
none_at kinds.RegisterLww x is = (lww_law.steps kinds.RegisterLww refl).none_held x
none_at kinds.RegisterMv x is = (mv_law.steps kinds.RegisterMv refl).none_held x
none_at _ x is = absurd (false≢true is)

-- what it holds as one of the kind, it holds
pub holds_as : (k : Kind) → simple_has k ≡ true → (s : SimpleState) (d : Dot) → simple_holds (as_kind k s) d ≡ true → simple_holds s d ≡ true
holds_as k is s d = as_one (λ t. simple_holds t d ≡ true → simple_holds s d ≡ true) k s (λ h. h) (λ h. absurd (true≢false (sym h ∙ none_at k d is)))

at : (k : Kind) → simple_has k ≡ true → LawAt k (λ p. false) (simple_initial k) simple_step (simple_made k) simple_value simple_stamp (simple_meaning k) simple_names simple_holds
at kinds.CounterPn is = inner_law pn_law kinds.CounterPn refl state.CounterPn effect.CounterPn (λ s. unwrap_or (counter_pn_state s) (pos 0)) simple_step (simple_made kinds.CounterPn) simple_value simple_stamp simple_names simple_holds (λ _ _ _. refl) (λ _ _ _ _. refl) (λ _ _ _ _. refl) (λ _. refl) (λ _. refl) (λ _ _. refl) (λ _ _. refl) (holds_as kinds.CounterPn refl)
at kinds.CounterFat is = inner_law fat_law kinds.CounterFat refl state.CounterFat effect.CounterFat (λ s. unwrap_or (counter_fat_state s) empty) simple_step (simple_made kinds.CounterFat) simple_value simple_stamp simple_names simple_holds (λ _ _ _. refl) (λ _ _ _ _. refl) (λ _ _ _ _. refl) (λ _. refl) (λ _. refl) (λ _ _. refl) (λ _ _. refl) (holds_as kinds.CounterFat refl)
at kinds.SetGo is = inner_law set_go_law kinds.SetGo refl state.SetGo effect.SetGo (λ s. unwrap_or (set_go_state s) empty) simple_step (simple_made kinds.SetGo) simple_value simple_stamp simple_names simple_holds (λ _ _ _. refl) (λ _ _ _ _. refl) (λ _ _ _ _. refl) (λ _. refl) (λ _. refl) (λ _ _. refl) (λ _ _. refl) (holds_as kinds.SetGo refl)
at kinds.SetAw is = inner_law (set_law false) kinds.SetAw refl state.SetAw effect.SetAw (λ s. unwrap_or (set_aw_state s) empty) simple_step (simple_made kinds.SetAw) simple_value simple_stamp simple_names simple_holds (λ _ _ _. refl) (λ _ _ _ _. refl) (λ _ _ _ _. refl) (λ _. refl) (λ _. refl) (λ _ _. refl) (λ _ _. refl) (holds_as kinds.SetAw refl)
at kinds.SetRw is = inner_law (set_law true) kinds.SetRw refl state.SetRw effect.SetRw (λ s. unwrap_or (set_rw_state s) empty) simple_step (simple_made kinds.SetRw) simple_value simple_stamp simple_names simple_holds (λ _ _ _. refl) (λ _ _ _ _. refl) (λ _ _ _ _. refl) (λ _. refl) (λ _. refl) (λ _ _. refl) (λ _ _. refl) (holds_as kinds.SetRw refl)
at kinds.FlagEw is = inner_law (flag_law false) kinds.FlagEw refl state.FlagEw effect.FlagEw (λ s. unwrap_or (flag_ew_state s) empty) simple_step (simple_made kinds.FlagEw) simple_value simple_stamp simple_names simple_holds (λ _ _ _. refl) (λ _ _ _ _. refl) (λ _ _ _ _. refl) (λ _. refl) (λ _. refl) (λ _ _. refl) (λ _ _. refl) (holds_as kinds.FlagEw refl)
at kinds.FlagDw is = inner_law (flag_law true) kinds.FlagDw refl state.FlagDw effect.FlagDw (λ s. unwrap_or (flag_dw_state s) empty) simple_step (simple_made kinds.FlagDw) simple_value simple_stamp simple_names simple_holds (λ _ _ _. refl) (λ _ _ _ _. refl) (λ _ _ _ _. refl) (λ _. refl) (λ _. refl) (λ _ _. refl) (λ _ _. refl) (holds_as kinds.FlagDw refl)
at kinds.RegisterLww is = inner_law lww_law kinds.RegisterLww refl state.RegisterLww effect.RegisterLww (λ s. unwrap_or (register_lww_state s) None) simple_step (simple_made kinds.RegisterLww) simple_value simple_stamp simple_names simple_holds (λ _ _ _. refl) (λ _ _ _ _. refl) (λ _ _ _ _. refl) (λ _. refl) (λ _. refl) (λ _ _. refl) (λ _ _. refl) (holds_as kinds.RegisterLww refl)
at kinds.RegisterMv is = inner_law mv_law kinds.RegisterMv refl state.RegisterMv effect.RegisterMv (λ s. unwrap_or (register_mv_state s) empty) simple_step (simple_made kinds.RegisterMv) simple_value simple_stamp simple_names simple_holds (λ _ _ _. refl) (λ _ _ _ _. refl) (λ _ _ _ _. refl) (λ _. refl) (λ _. refl) (λ _ _. refl) (λ _ _. refl) (holds_as kinds.RegisterMv refl)
at _ is = absurd (false≢true is)

swaps_at : (s : SimpleState) (a b : SimpleEffect) (d e : Dot) → same_dot d e ≡ false → simple_names a e ≡ false → simple_names b d ≡ false → simple_step (simple_step s d a) e b ≡ simple_step (simple_step s e b) d a
swaps_at (state.CounterPn s) (effect.CounterPn a) (effect.CounterPn b) d e apart na nb = ap state.CounterPn ((pn_law.steps kinds.CounterPn refl).swaps s a b d e apart na nb)
swaps_at (state.CounterFat s) (effect.CounterFat a) (effect.CounterFat b) d e apart na nb = ap state.CounterFat ((fat_law.steps kinds.CounterFat refl).swaps s a b d e apart na nb)
swaps_at (state.SetGo s) (effect.SetGo a) (effect.SetGo b) d e apart na nb = ap state.SetGo ((set_go_law.steps kinds.SetGo refl).swaps s a b d e apart na nb)
swaps_at (state.SetAw s) (effect.SetAw a) (effect.SetAw b) d e apart na nb = ap state.SetAw (((set_law false).steps kinds.SetAw refl).swaps s a b d e apart na nb)
swaps_at (state.SetRw s) (effect.SetRw a) (effect.SetRw b) d e apart na nb = ap state.SetRw (((set_law true).steps kinds.SetRw refl).swaps s a b d e apart na nb)
swaps_at (state.FlagEw s) (effect.FlagEw a) (effect.FlagEw b) d e apart na nb = ap state.FlagEw (((flag_law false).steps kinds.FlagEw refl).swaps s a b d e apart na nb)
swaps_at (state.FlagDw s) (effect.FlagDw a) (effect.FlagDw b) d e apart na nb = ap state.FlagDw (((flag_law true).steps kinds.FlagDw refl).swaps s a b d e apart na nb)
swaps_at (state.RegisterLww s) (effect.RegisterLww a) (effect.RegisterLww b) d e apart na nb = ap state.RegisterLww ((lww_law.steps kinds.RegisterLww refl).swaps s a b d e apart na nb)
swaps_at (state.RegisterMv s) (effect.RegisterMv a) (effect.RegisterMv b) d e apart na nb = ap state.RegisterMv ((mv_law.steps kinds.RegisterMv refl).swaps s a b d e apart na nb)
swaps_at s a b d e apart na nb = refl

held_at : (s : SimpleState) (d : Dot) (e : SimpleEffect) (x : Dot) → simple_holds (simple_step s d e) x ≡ true → (simple_holds s x || same_dot d x) ≡ true
held_at (state.CounterPn s) d e x h = moved_held pn_step no_dot (pn_law.steps kinds.CounterPn refl).held s d (counter_pn_effect e) x h
held_at (state.CounterFat s) d e x h = moved_held fat_step is_kept (fat_law.steps kinds.CounterFat refl).held s d (counter_fat_effect e) x h
held_at (state.SetGo s) d e x h = moved_held set.go_step no_dot (set_go_law.steps kinds.SetGo refl).held s d (set_go_effect e) x h
held_at (state.SetAw s) d e x h = moved_held (sets.set_step false) keeps_dot ((set_law false).steps kinds.SetAw refl).held s d (set_aw_effect e) x h
held_at (state.SetRw s) d e x h = moved_held (sets.set_step true) keeps_dot ((set_law true).steps kinds.SetRw refl).held s d (set_rw_effect e) x h
held_at (state.FlagEw s) d e x h = moved_held (flags.flag_step false) is_kept ((flag_law false).steps kinds.FlagEw refl).held s d (flag_ew_effect e) x h
held_at (state.FlagDw s) d e x h = moved_held (flags.flag_step true) is_kept ((flag_law true).steps kinds.FlagDw refl).held s d (flag_dw_effect e) x h
held_at (state.RegisterLww s) d e x h = moved_held lww_step no_dot (lww_law.steps kinds.RegisterLww refl).held s d (register_lww_effect e) x h
held_at (state.RegisterMv s) d e x h = moved_held mv_step is_kept (mv_law.steps kinds.RegisterMv refl).held s d (register_mv_effect e) x h

steps_at : (k : Kind) → simple_has k ≡ true → KeepsSteps (simple_initial k) simple_step (made_by simple_made k) simple_names simple_holds
steps_at k is = record { swaps = swaps_at; named = (at k is).named; held = held_at; none_held = λ x. none_at k x is }

pub simple_law : KeepsLaw simple_has (λ k p. false) simple_initial simple_step simple_made simple_value simple_stamp simple_meaning simple_names simple_holds
simple_law = record {
  means = λ k us is. (at k is).means us;
  stamps = λ k u us is. (at k is).stamps u us;
  confluent = λ k us vs is. confluence (simple_initial k) simple_step simple_made k simple_names simple_holds (steps_at k is) us vs;
  orderless = λ k us vs is. (at k is).orderless us vs;
  unread = λ k s t p a n is. (at k is).unread s t p a n;
  steps = steps_at;
  nameable = λ k us d is. (at k is).nameable us d;
}

first_at : (k : Kind) → simple_has k ≡ true → simple_blank (simple_initial k) ≡ true
first_at kinds.CounterPn is = pn_in_maps.first_blank kinds.CounterPn refl
first_at kinds.CounterFat is = fat_in_maps.first_blank kinds.CounterFat refl
first_at kinds.SetGo is = set_go_in_maps.first_blank kinds.SetGo refl
first_at kinds.SetAw is = (set_in_maps false).first_blank kinds.SetAw refl
first_at kinds.SetRw is = (set_in_maps true).first_blank kinds.SetRw refl
first_at kinds.FlagEw is = (flag_in_maps false).first_blank kinds.FlagEw refl
first_at kinds.FlagDw is = (flag_in_maps true).first_blank kinds.FlagDw refl
first_at kinds.RegisterLww is = lww_in_maps.first_blank kinds.RegisterLww refl
first_at kinds.RegisterMv is = mv_in_maps.first_blank kinds.RegisterMv refl
first_at _ is = absurd (false≢true is)

blank_as : (k : Kind) → simple_has k ≡ true → (s : SimpleState) → simple_blank s ≡ true → simple_blank (as_kind k s) ≡ true
blank_as k is s h = as_one (λ t. simple_blank t ≡ true) k s h (first_at k is)

undoes_at : (k : Kind) (s t : SimpleState) (d : Dot) (n : ℕ) → simple_has k ≡ true → nests_in kinds.MapRr k ≡ true → simple_blank s ≡ true → simple_step t d (simple_made k s [] act.Reset n) ≡ t
undoes_at kinds.CounterPn s (state.CounterPn t) d n is nests h = ap state.CounterPn (pn_in_maps.undoes_none kinds.CounterPn (unwrap_or (counter_pn_state s) (pos 0)) t d n refl nests (blank_as kinds.CounterPn refl s h))
undoes_at kinds.CounterFat s (state.CounterFat t) d n is nests h = ap state.CounterFat (fat_in_maps.undoes_none kinds.CounterFat (unwrap_or (counter_fat_state s) empty) t d n refl nests (blank_as kinds.CounterFat refl s h))
undoes_at kinds.SetGo s (state.SetGo t) d n is nests h = ap state.SetGo (set_go_in_maps.undoes_none kinds.SetGo (unwrap_or (set_go_state s) empty) t d n refl nests (blank_as kinds.SetGo refl s h))
undoes_at kinds.SetAw s (state.SetAw t) d n is nests h = ap state.SetAw ((set_in_maps false).undoes_none kinds.SetAw (unwrap_or (set_aw_state s) empty) t d n refl nests (blank_as kinds.SetAw refl s h))
undoes_at kinds.SetRw s (state.SetRw t) d n is nests h = ap state.SetRw ((set_in_maps true).undoes_none kinds.SetRw (unwrap_or (set_rw_state s) empty) t d n refl nests (blank_as kinds.SetRw refl s h))
undoes_at kinds.FlagEw s (state.FlagEw t) d n is nests h = ap state.FlagEw ((flag_in_maps false).undoes_none kinds.FlagEw (unwrap_or (flag_ew_state s) empty) t d n refl nests (blank_as kinds.FlagEw refl s h))
undoes_at kinds.FlagDw s (state.FlagDw t) d n is nests h = ap state.FlagDw ((flag_in_maps true).undoes_none kinds.FlagDw (unwrap_or (flag_dw_state s) empty) t d n refl nests (blank_as kinds.FlagDw refl s h))
undoes_at kinds.RegisterLww s (state.RegisterLww t) d n is nests h = ap state.RegisterLww (lww_in_maps.undoes_none kinds.RegisterLww (unwrap_or (register_lww_state s) None) t d n refl nests (blank_as kinds.RegisterLww refl s h))
undoes_at kinds.RegisterMv s (state.RegisterMv t) d n is nests h = ap state.RegisterMv (mv_in_maps.undoes_none kinds.RegisterMv (unwrap_or (register_mv_state s) empty) t d n refl nests (blank_as kinds.RegisterMv refl s h))
undoes_at kinds.MapGo s t d n is nests h = absurd (false≢true is)
undoes_at kinds.MapRr s t d n is nests h = absurd (false≢true is)
undoes_at k s t d n is nests h = refl

pub simple_in_maps : KeepsInMaps simple_has (λ k p. false) simple_initial simple_step simple_made simple_blank
simple_in_maps = record { first_blank = first_at; undoes_none = undoes_at; shallow = λ k. refl; flat = λ k p is out. refl }

none_left_at : (k : Kind) (s : SimpleState) (n : ℕ) (d : Dot) → simple_has k ≡ true → nests_in kinds.MapRr k ≡ true → simple_blank s ≡ true → simple_names (simple_made k s [] act.Reset n) d ≡ false
none_left_at kinds.CounterFat s n d is nests h = fat_resets.none_left kinds.CounterFat (unwrap_or (counter_fat_state s) empty) n d refl nests (blank_as kinds.CounterFat refl s h)
none_left_at kinds.SetAw s n d is nests h = (set_resets false).none_left kinds.SetAw (unwrap_or (set_aw_state s) empty) n d refl nests (blank_as kinds.SetAw refl s h)
none_left_at kinds.SetRw s n d is nests h = (set_resets true).none_left kinds.SetRw (unwrap_or (set_rw_state s) empty) n d refl nests (blank_as kinds.SetRw refl s h)
none_left_at kinds.FlagEw s n d is nests h = (flag_resets false).none_left kinds.FlagEw (unwrap_or (flag_ew_state s) empty) n d refl nests (blank_as kinds.FlagEw refl s h)
none_left_at kinds.FlagDw s n d is nests h = (flag_resets true).none_left kinds.FlagDw (unwrap_or (flag_dw_state s) empty) n d refl nests (blank_as kinds.FlagDw refl s h)
none_left_at kinds.RegisterMv s n d is nests h = mv_resets.none_left kinds.RegisterMv (unwrap_or (register_mv_state s) empty) n d refl nests (blank_as kinds.RegisterMv refl s h)
none_left_at kinds.MapRr s n d is nests h = absurd (false≢true is)
none_left_at _ s n d is nests h = absurd (false≢true nests)

abbrev after : Kind → List Update → SimpleState
after k us = state_after (simple_initial k) simple_step (made_by simple_made k) us

some_left_at : (k : Kind) (us : List Update) (n : ℕ) → simple_has k ≡ true → nests_in kinds.MapRr k ≡ true → IsHistory us → all_fit (λ k p. false) k us ≡ true → simple_blank (after k us) ≡ false → (d : Dot) × (simple_names (simple_made k (after k us) [] act.Reset n) d ≡ true)
some_left_at kinds.CounterFat us n is nests h fit left = inner_left fat_resets kinds.CounterFat refl state.CounterFat effect.CounterFat simple_step simple_made simple_blank simple_names (λ _ _ _. refl) (λ _ _ _ _. refl) (λ _. refl) (λ _ _. refl) us n nests h fit left
some_left_at kinds.SetAw us n is nests h fit left = inner_left (set_resets false) kinds.SetAw refl state.SetAw effect.SetAw simple_step simple_made simple_blank simple_names (λ _ _ _. refl) (λ _ _ _ _. refl) (λ _. refl) (λ _ _. refl) us n nests h fit left
some_left_at kinds.SetRw us n is nests h fit left = inner_left (set_resets true) kinds.SetRw refl state.SetRw effect.SetRw simple_step simple_made simple_blank simple_names (λ _ _ _. refl) (λ _ _ _ _. refl) (λ _. refl) (λ _ _. refl) us n nests h fit left
some_left_at kinds.FlagEw us n is nests h fit left = inner_left (flag_resets false) kinds.FlagEw refl state.FlagEw effect.FlagEw simple_step simple_made simple_blank simple_names (λ _ _ _. refl) (λ _ _ _ _. refl) (λ _. refl) (λ _ _. refl) us n nests h fit left
some_left_at kinds.FlagDw us n is nests h fit left = inner_left (flag_resets true) kinds.FlagDw refl state.FlagDw effect.FlagDw simple_step simple_made simple_blank simple_names (λ _ _ _. refl) (λ _ _ _ _. refl) (λ _. refl) (λ _ _. refl) us n nests h fit left
some_left_at kinds.RegisterMv us n is nests h fit left = inner_left mv_resets kinds.RegisterMv refl state.RegisterMv effect.RegisterMv simple_step simple_made simple_blank simple_names (λ _ _ _. refl) (λ _ _ _ _. refl) (λ _. refl) (λ _ _. refl) us n nests h fit left
some_left_at kinds.MapRr us n is nests h fit left = absurd (false≢true is)
some_left_at _ us n is nests h fit left = absurd (false≢true nests)

pub simple_resets : ResetsWhatIsLeft simple_has (λ k p. false) simple_initial simple_step simple_made simple_blank simple_names
simple_resets = record { none_left = none_left_at; some_left = some_left_at }
