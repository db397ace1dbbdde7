-- Which partition a transaction's end asks next.
use Rattle.std.proofs.Common.{◌≡◌, ℕ, List, [], ◌∷◌, refl, sym, ap, ◌∙◌}
use Rattle.std.specs.Prelude.{Option, None}
use Rattle.world_model.specs.declared.commit.What.{What}
use Rattle.world_model.specs.commands.CommitSteps.{starting, next_step}
use Rattle.clocksi_commit.specs.Commit.{Committing}
use Rattle.txn_session.specs.declared.session.Stage.{Stage}
use Rattle.txn_session.specs.declared.session.Stage.TheVariants as stage
use Rattle.txn_session.specs.Session.{Txn, Idle, Open, Ending, SessionState, participants, ending}
use Rattle.txn_session.specs.Fields.{doing_in}
use Rattle.txn_session.specs.NextPart.{part_asked, first_part}
use Rattle.txn_session.specs.Opens.{begun_end}
use Rattle.txn_session.specs.Holds.{next_of}

first_asked : (site : ℕ) (v : List ℕ) (ps : List ℕ) → first_part ps ≡ part_asked (next_step site v (starting ps))
first_asked site v [] = refl
first_asked site v (p ∷ ps) = refl

module _ {E : Type 0} where
  pub asked_idle : (u s : SessionState E) → u ≡ s → (k : Stage) (txn : Txn E) (lead : ℕ) (commit : Committing) → u.doing ≡ doing_in k txn lead commit → k ≡ stage.Idle → None ≡ part_asked (next_of (begun_end s).doing)
  asked_idle u s v k txn lead commit d e =
      let h : s.doing ≡ Idle = sym (ap (λ (w : SessionState E). w.doing) v) ∙ (d ∙ ap (λ x. doing_in x txn lead commit) e) in
      sym (ap (λ x. part_asked (next_of (ending s.site s.parts x))) h)

  pub asked_open : (u s : SessionState E) → u ≡ s → (k : Stage) (txn : Txn E) (lead : ℕ) (commit : Committing) → u.doing ≡ doing_in k txn lead commit → k ≡ stage.Open → (ps : List ℕ) → ps ≡ participants u.parts txn.updates → first_part ps ≡ part_asked (next_of (begun_end s).doing)
  asked_open u s v k txn lead commit d e ps p =
      let h : s.doing ≡ Open txn = sym (ap (λ (w : SessionState E). w.doing) v) ∙ (d ∙ ap (λ x. doing_in x txn lead commit) e) in
      let q : ps ≡ participants s.parts txn.updates = p ∙ ap (λ (w : SessionState E). participants w.parts txn.updates) v in
      ap first_part q ∙ (first_asked s.site txn.s (participants s.parts txn.updates) ∙ sym (ap (λ x. part_asked (next_of (ending s.site s.parts x))) h))

  pub asked_ending : (u s : SessionState E) → u ≡ s → (k : Stage) (txn : Txn E) (lead : ℕ) (commit : Committing) → u.doing ≡ doing_in k txn lead commit → k ≡ stage.Ending → (w : What) → w ≡ next_step commit.site commit.s commit.going → part_asked w ≡ part_asked (next_of (begun_end s).doing)
  asked_ending u s v k txn lead commit d e w n =
      let h : s.doing ≡ Ending txn lead commit = sym (ap (λ (w : SessionState E). w.doing) v) ∙ (d ∙ ap (λ x. doing_in x txn lead commit) e) in
      ap part_asked n ∙ sym (ap (λ x. part_asked (next_of (ending s.site s.parts x))) h)
