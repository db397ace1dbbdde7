-- A kind that stands among others keeps its law.
use Rattle.std.proofs.Common.{◌≡◌, ℕ, Bool, true, false, cond, ◌||◌, List, [], ◌∷◌, Option, Some, None, refl, sym, ap, ◌∙◌}
use Rattle.std.specs.Prelude.{map, filter}
use Rattle.std.proofs.lemmas.Bool.{or_left}
use Rattle.site_vector.specs.declared.ids.Dot.{Dot}
use Rattle.site_vector.specs.Ids.{same_dot}
use Rattle.crdt_core.specs.declared.kind.Kind.{Kind}
use Rattle.crdt_core.specs.declared.kind.Kind.TheVariants.{MapRr}
use Rattle.crdt_core.specs.declared.object.Field.{Field}
use Rattle.crdt_core.specs.declared.operation.Act.{Act}
use Rattle.crdt_core.specs.declared.operation.Act.TheVariants.{Reset}
use Rattle.crdt_core.specs.declared.value.Value.{Value}
use Rattle.crdt_core.specs.Fits.{nests_in}
use Rattle.crdt_core.specs.Seen.{Update, sees}
use Rattle.crdt_core.specs.Kinds.{reads_state}
use Rattle.crdt_core.specs.Same.{Same}
use Rattle.crdt_core.specs.Stamps.{stamp_due}
use Rattle.crdt_core.specs.History.{IsHistory, IsStamped, folded, seen_by, effects, effect_after, state_after}
use Rattle.crdt_core.specs.Law.{KeepsLaw, CanBeNamed, made_by, all_fit}
use Rattle.crdt_core.specs.Resets.{ResetsWhatIsLeft}
use Rattle.crdt_any.specs.Simple.{moved}

-- states and effects that stand for others
module _ {S E R F : Type 0} (wrap : R → S) (wrap_effect : F → E) (step : S → Dot → E → S) (make : S → Update → E) (start : R) (inner_step : R → Dot → F → R) (inner_make : R → Update → F)
    (steps_so : (s : R) (d : Dot) (e : F) → step (wrap s) d (wrap_effect e) ≡ wrap (inner_step s d e)) (makes_so : (s : R) (u : Update) → make (wrap s) u ≡ wrap_effect (inner_make s u)) where
  abbrev wrapped : Dot × F → Dot × E
  wrapped x = (x.0, wrap_effect x.1)

  fold_so : (es : List (Dot × F)) → folded (wrap start) step (map wrapped es) ≡ wrap (folded start inner_step es)
  fold_so [] = refl
  fold_so (e ∷ es) = ap (λ s. step s e.0 (wrap_effect e.1)) (fold_so es) ∙ steps_so (folded start inner_step es) e.0 e.1

  inner_so : (p : Dot → Bool) (es : List (Dot × F)) → filter (λ e. p e.0) (map wrapped es) ≡ map wrapped (filter (λ e. p e.0) es)
  inner_so p [] = refl
  inner_so p (e ∷ es) = elim (p e.0) as (λ b. cond b (wrapped e ∷ filter (λ e. p e.0) (map wrapped es)) (filter (λ e. p e.0) (map wrapped es)) ≡ map wrapped (cond b (e ∷ filter (λ e. p e.0) es) (filter (λ e. p e.0) es))) [
    | true ↦ ap (λ l. wrapped e ∷ l) (inner_so p es)
    | false ↦ inner_so p es
  ]

  made_so : (u : Update) (es : List (Dot × F)) → make (folded (wrap start) step (seen_by u (map wrapped es))) u ≡ wrap_effect (inner_make (folded start inner_step (seen_by u es)) u)
  made_so u es = ap (λ l. make (folded (wrap start) step l) u) (inner_so (sees u) es) ∙ ap (λ s. make s u) (fold_so (seen_by u es)) ∙ makes_so (folded start inner_step (seen_by u es)) u

  effects_so : (us : List Update) → effects (wrap start) step make us ≡ map wrapped (effects start inner_step inner_make us)
  effects_so [] = refl
  effects_so (u ∷ us) =
      let es = effects start inner_step inner_make us in
      (λ i. (u.dot, make (folded (wrap start) step (seen_by u (effects_so us i))) u) ∷ effects_so us i) ∙ ap (λ e. (u.dot, e) ∷ map wrapped es) (made_so u es)

  pub state_so : (us : List Update) → state_after (wrap start) step make us ≡ wrap (state_after start inner_step inner_make us)
  state_so us = ap (folded (wrap start) step) (effects_so us) ∙ fold_so (effects start inner_step inner_make us)

  pub effect_so : (us : List Update) (u : Update) → effect_after (wrap start) step make us u ≡ wrap_effect (effect_after start inner_step inner_make us u)
  effect_so us u = ap (λ es. make (folded (wrap start) step (seen_by u es)) u) (effects_so us) ∙ made_so u (effects start inner_step inner_make us)

  pub stamped_so : (stamp_of : E → Option ℕ) (inner_stamp : F → Option ℕ) → ((e : F) → stamp_of (wrap_effect e) ≡ inner_stamp e) → (us : List Update) → IsStamped (wrap start) step make stamp_of us → IsStamped start inner_step inner_make inner_stamp us
  stamped_so stamp_of inner_stamp same [] h = h
  stamped_so stamp_of inner_stamp same (u ∷ us) h = (h.0 ∙ ap stamp_of (effect_so us u) ∙ same (effect_after start inner_step inner_make us u), stamped_so stamp_of inner_stamp same us h.1)

module _ {S E R F : Type 0} {has : Kind → Bool} {too_deep : Kind → List Field → Bool} {initial : Kind → R} {inner_step : R → Dot → F → R} {made : Kind → R → List Field → Act → ℕ → F} {inner_value : R → Value} {inner_stamp : F → Option ℕ} {meaning : Kind → List Update → Value} {names : F → Dot → Bool} {holds : R → Dot → Bool} (law : KeepsLaw has too_deep initial inner_step made inner_value inner_stamp meaning names holds)
    (k : Kind) (known : has k ≡ true) (wrap : R → S) (wrap_effect : F → E) (step : S → Dot → E → S) (make : S → Update → E) (stamp_of : E → Option ℕ)
    (steps_so : (s : R) (d : Dot) (e : F) → step (wrap s) d (wrap_effect e) ≡ wrap (inner_step s d e)) (makes_so : (s : R) (u : Update) → make (wrap s) u ≡ wrap_effect (made_by made k s u)) (stamps_so : (e : F) → stamp_of (wrap_effect e) ≡ inner_stamp e) where
  abbrev Stamped : List Update → Type 0
  Stamped us = IsStamped (wrap (initial k)) step make stamp_of us

  pub inner_means : (value_of : S → Value) → ((s : R) → value_of (wrap s) ≡ inner_value s) → (us : List Update) → IsHistory us → all_fit too_deep k us ≡ true → Stamped us → value_of (state_after (wrap (initial k)) step make us) ≡ meaning k us
  inner_means value_of values_so us h fit st =
      ap value_of (state_so wrap wrap_effect step make (initial k) inner_step (made_by made k) steps_so makes_so us)
      ∙ values_so (state_after (initial k) inner_step (made_by made k) us)
      ∙ law.means k us known h fit (stamped_so wrap wrap_effect step make (initial k) inner_step (made_by made k) steps_so makes_so stamp_of inner_stamp stamps_so us st)

  pub inner_stamps : (u : Update) (us : List Update) → IsHistory (u ∷ us) → all_fit too_deep k (u ∷ us) ≡ true → Stamped us → stamp_of (effect_after (wrap (initial k)) step make us u) ≡ stamp_due k us u
  inner_stamps u us h fit st =
      ap stamp_of (effect_so wrap wrap_effect step make (initial k) inner_step (made_by made k) steps_so makes_so us u)
      ∙ stamps_so (effect_after (initial k) inner_step (made_by made k) us u)
      ∙ law.stamps k u us known h fit (stamped_so wrap wrap_effect step make (initial k) inner_step (made_by made k) steps_so makes_so stamp_of inner_stamp stamps_so us st)

-- a reset of what is left names what that of the kind alone does
pub inner_left : {S E R F : Type 0} {has : Kind → Bool} {too_deep : Kind → List Field → Bool} {initial : Kind → R} {inner_step : R → Dot → F → R} {inner_made : Kind → R → List Field → Act → ℕ → F} {inner_blank : R → Bool} {inner_names : F → Dot → Bool} (resets : ResetsWhatIsLeft has too_deep initial inner_step inner_made inner_blank inner_names)
    (k : Kind) (known : has k ≡ true) (wrap : R → S) (wrap_effect : F → E) (step : S → Dot → E → S) (made : Kind → S → List Field → Act → ℕ → E) (is_blank : S → Bool) (names : E → Dot → Bool)
    → ((s : R) (d : Dot) (e : F) → step (wrap s) d (wrap_effect e) ≡ wrap (inner_step s d e)) → ((s : R) (p : List Field) (a : Act) (n : ℕ) → made k (wrap s) p a n ≡ wrap_effect (inner_made k s p a n))
    → ((s : R) → is_blank (wrap s) ≡ inner_blank s) → ((e : F) (d : Dot) → names (wrap_effect e) d ≡ inner_names e d)
    → (us : List Update) (n : ℕ) → nests_in MapRr k ≡ true → IsHistory us → all_fit too_deep k us ≡ true → is_blank (state_after (wrap (initial k)) step (made_by made k) us) ≡ false
    → (d : Dot) × (names (made k (state_after (wrap (initial k)) step (made_by made k) us) [] Reset n) d ≡ true)
inner_left {initial} {inner_step} {inner_made} resets k known wrap wrap_effect step made is_blank names steps_so makes_so blanks_so names_so us n nests h fit left =
    let s = state_after (initial k) inner_step (made_by inner_made k) us in
    let same = state_so wrap wrap_effect step (made_by made k) (initial k) inner_step (made_by inner_made k) steps_so (λ s u. makes_so s u.path u.act u.now) us in
    let w = resets.some_left k us n known nests h fit (sym (ap is_blank same ∙ blanks_so s) ∙ left) in
    (w.0, ap (λ t. names (made k t [] Reset n) w.0) same ∙ ap (λ e. names e w.0) (makes_so s [] Reset n) ∙ names_so (inner_made k s [] Reset n) w.0 ∙ w.1)

-- what is held of the kind alone can be named, and so what is held
pub inner_kept : {S E R F : Type 0} {has : Kind → Bool} {too_deep : Kind → List Field → Bool} {initial : Kind → R} {inner_step : R → Dot → F → R} {inner_made : Kind → R → List Field → Act → ℕ → F} {inner_value : R → Value} {inner_stamp : F → Option ℕ} {meaning : Kind → List Update → Value} {inner_names : F → Dot → Bool} {inner_holds : R → Dot → Bool} (law : KeepsLaw has too_deep initial inner_step inner_made inner_value inner_stamp meaning inner_names inner_holds)
    (k : Kind) (known : has k ≡ true) (wrap : R → S) (wrap_effect : F → E) (step : S → Dot → E → S) (made : Kind → S → List Field → Act → ℕ → E) (names : E → Dot → Bool) (holds : S → Dot → Bool)
    → ((s : R) (d : Dot) (e : F) → step (wrap s) d (wrap_effect e) ≡ wrap (inner_step s d e)) → ((s : R) (p : List Field) (a : Act) (n : ℕ) → made k (wrap s) p a n ≡ wrap_effect (inner_made k s p a n))
    → ((e : F) (d : Dot) → names (wrap_effect e) d ≡ inner_names e d) → ((s : R) (d : Dot) → holds (wrap s) d ≡ inner_holds s d)
    → (us : List Update) (d : Dot) → all_fit too_deep k us ≡ true → holds (state_after (wrap (initial k)) step (made_by made k) us) d ≡ true → CanBeNamed too_deep made names k (state_after (wrap (initial k)) step (made_by made k) us) d
inner_kept {initial} {inner_step} {inner_made} law k known wrap wrap_effect step made names holds steps_so makes_so names_so holds_so us d fit h =
    let s = state_after (initial k) inner_step (made_by inner_made k) us in
    let same = state_so wrap wrap_effect step (made_by made k) (initial k) inner_step (made_by inner_made k) steps_so (λ s u. makes_so s u.path u.act u.now) us in
    let w = law.nameable k us d known fit (sym (holds_so s d) ∙ sym (ap (λ t. holds t d) same) ∙ h) in
    (w.0, w.1, w.2, w.3, λ n. ap (λ t. names (made k t w.0 w.1 n) d) same ∙ ap (λ e. names e d) (makes_so s w.0 w.1 n) ∙ names_so (inner_made k s w.0 w.1 n) d ∙ w.4 n)

-- the law of a kind, all but what is owed step by step to states of other kinds
pub record LawAt {S E : Type 0} (k : Kind) (deep : List Field → Bool) (start : S) (step : S → Dot → E → S) (made : S → List Field → Act → ℕ → E) (value_of : S → Value) (stamp_of : E → Option ℕ) (meaning : List Update → Value) (names : E → Dot → Bool) (holds : S → Dot → Bool) : Type 0 where
  pub means : (us : List Update) → IsHistory us → all_fit (λ _. deep) k us ≡ true → IsStamped start step (made_by (λ _. made) k) stamp_of us → value_of (state_after start step (made_by (λ _. made) k) us) ≡ meaning us
  pub stamps : (u : Update) (us : List Update) → IsHistory (u ∷ us) → all_fit (λ _. deep) k (u ∷ us) ≡ true → IsStamped start step (made_by (λ _. made) k) stamp_of us → stamp_of (effect_after start step (made_by (λ _. made) k) us u) ≡ stamp_due k us u
  pub orderless : (us vs : List Update) → Same us vs → meaning us ≡ meaning vs
  pub unread : (s t : S) (p : List Field) (a : Act) (n : ℕ) → reads_state k ≡ false → made s p a n ≡ made t p a n
  pub named : (s : S) (u : Update) (d : Dot) → names (made s u.path u.act u.now) d ≡ true → holds s d ≡ true
  pub nameable : (us : List Update) (d : Dot) → all_fit (λ _. deep) k us ≡ true → holds (state_after start step (made_by (λ _. made) k) us) d ≡ true → CanBeNamed (λ _. deep) (λ _. made) names k (state_after start step (made_by (λ _. made) k) us) d

-- a kind that stands among others keeps it, where an effect is made on the state as one of the kind
pub inner_law : {S E R F : Type 0} {has : Kind → Bool} {too_deep : Kind → List Field → Bool} {initial : Kind → R} {inner_step : R → Dot → F → R} {inner_made : Kind → R → List Field → Act → ℕ → F} {inner_value : R → Value} {inner_stamp : F → Option ℕ} {meaning : Kind → List Update → Value} {inner_names : F → Dot → Bool} {inner_holds : R → Dot → Bool} (law : KeepsLaw has too_deep initial inner_step inner_made inner_value inner_stamp meaning inner_names inner_holds)
    (k : Kind) (known : has k ≡ true) (wrap : R → S) (wrap_effect : F → E) (as_kind : S → R) (step : S → Dot → E → S) (made : S → List Field → Act → ℕ → E) (value_of : S → Value) (stamp_of : E → Option ℕ) (names : E → Dot → Bool) (holds : S → Dot → Bool)
    → ((s : R) (d : Dot) (e : F) → step (wrap s) d (wrap_effect e) ≡ wrap (inner_step s d e)) → ((s : R) (p : List Field) (a : Act) (n : ℕ) → made (wrap s) p a n ≡ wrap_effect (inner_made k s p a n))
    → ((s : S) (p : List Field) (a : Act) (n : ℕ) → made s p a n ≡ wrap_effect (inner_made k (as_kind s) p a n))
    → ((s : R) → value_of (wrap s) ≡ inner_value s) → ((e : F) → stamp_of (wrap_effect e) ≡ inner_stamp e) → ((e : F) (d : Dot) → names (wrap_effect e) d ≡ inner_names e d) → ((s : R) (d : Dot) → holds (wrap s) d ≡ inner_holds s d)
    → ((s : S) (d : Dot) → inner_holds (as_kind s) d ≡ true → holds s d ≡ true) → LawAt k (too_deep k) (wrap (initial k)) step made value_of stamp_of (meaning k) names holds
inner_law {inner_made} law k known wrap wrap_effect as_kind step made value_of stamp_of names holds steps_so wrapped_so made_so values_so stamps_so names_so holds_so inside = record {
  means = λ us h fit st. inner_means law k known wrap wrap_effect step (made_by (λ _. made) k) stamp_of steps_so (λ s u. wrapped_so s u.path u.act u.now) stamps_so value_of values_so us h fit st;
  stamps = λ u us h fit st. inner_stamps law k known wrap wrap_effect step (made_by (λ _. made) k) stamp_of steps_so (λ s u. wrapped_so s u.path u.act u.now) stamps_so u us h fit st;
  orderless = λ us vs same. law.orderless k us vs known same;
  unread = λ s t p a n r. made_so s p a n ∙ ap wrap_effect (law.unread k (as_kind s) (as_kind t) p a n known r) ∙ sym (made_so t p a n);
  named = λ s u d h. inside s d ((law.steps k known).named (as_kind s) u d (sym (ap (λ e. names e d) (made_so s u.path u.act u.now) ∙ names_so (inner_made k (as_kind s) u.path u.act u.now) d) ∙ h));
  nameable = λ us d fit h. inner_kept law k known wrap wrap_effect step (λ _. made) names holds steps_so wrapped_so names_so holds_so us d fit h;
}

pub moved_held : {S E : Type 0} (step : S → Dot → E → S) (holds : S → Dot → Bool) → ((s : S) (d : Dot) (e : E) (x : Dot) → holds (step s d e) x ≡ true → (holds s x || same_dot d x) ≡ true)
    → (s : S) (d : Dot) (e : Option E) (x : Dot) → holds (moved step s d e) x ≡ true → (holds s x || same_dot d x) ≡ true
moved_held step holds held s d None x h = or_left (holds s x) (same_dot d x) h
moved_held step holds held s d (Some e) x h = held s d e x h
