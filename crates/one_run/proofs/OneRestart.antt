-- After the same lines a restart lists one thing, where no disk failed; its time is that of the last lease.
use Rattle.std.proofs.Common.{◌≡◌, ⊎_elim, ℕ, max, leb, ltb, Bool, false, ◌&&◌, List, [], ◌∷◌, ◌++◌, Option, None, Some, refl, sym, ap, ◌∙◌, subst}
use Rattle.std.specs.Prelude.{◌==◌, cond}
use Rattle.std.specs.List.{list_any}
use Rattle.std.proofs.lemmas.Bool.{cond_both}
use Rattle.site_vector.specs.declared.ids.PartId.{PartId}
use Rattle.site_vector.specs.declared.ids.TxId.{TxId}
use Rattle.site_vector.specs.Ids.{same_part}
use Rattle.site_vector.specs.Vector.{entry}
use Rattle.world_model.proofs.Names.{clash}
use Rattle.world_model.proofs.Waiting.{same_pending}
use Rattle.world_model.specs.declared.step.Step.{Step}
use Rattle.world_model.specs.declared.step.Step.TheVariants as step
use Rattle.world_model.specs.lines.Lines.{Call, TakeOf, Restart, Line}
use Rattle.world_model.specs.lines.Places.{twin}
use Rattle.world_model.specs.lines.Clock.{now}
use Rattle.world_model.specs.lines.Bounds.{bound}
use Rattle.world_model.specs.lines.History.{history, new_in, commit_time}
use Rattle.world_model.specs.lines.Updates.{takes_part}
use Rattle.world_model.specs.lines.Listed.{IsOwnBoundOf}
use Rattle.world_model.specs.lines.Restarts.{brings, brought, brought_after, faulted, fault_after, IsAsBefore, IsResumed, with_done}
use Rattle.one_run.specs.Unfailing.{is_of_disk, AreUnfailing}
use Rattle.one_run.proofs.Uniques.{one_bound, one_by_site}

-- where no line told of a disk's fault, no call was cut off
fault_kept : (time : ℕ) (old : Option (Call × ℕ)) (call : Call) (s : Step) → is_of_disk s ≡ false → old ≡ None → fault_after time old call s ≡ None
fault_kept time old Restart (step.Disk q) d h = clash refl d
fault_kept time old call (step.Disk q) d h = clash refl d
fault_kept time old call (step.Unsure t) d h = clash refl d
fault_kept time old call (step.Restarted q n b named listed) d h = refl
fault_kept time old Restart s d h = h
fault_kept time old call s d h = h

pub no_fault : (ls : List Line) (p : PartId) → AreUnfailing ls → faulted ls p ≡ None
no_fault [] p h = refl
no_fault (l ∷ ls) p h = cond_both (same_part l.at p) (fault_after (now ls p) (faulted ls p) l.call l.step) (faulted ls p) (λ x. x ≡ None) (λ e. fault_kept (now ls p) (faulted ls p) l.call l.step h.0 (no_fault ls p h.1)) (λ e. no_fault ls p h.1)

-- the new transactions of a restart's line
abbrev named_new : List Line → Option TxId → List TxId
named_new ls None = []
named_new ls (Some t) = new_in ls t

module _ (p : PartId) (ls : List Line) where
  abbrev restarted : ℕ → List ℕ → Option TxId → List (TxId × ℕ) → List Line
  restarted n b named listed = (record { at = p; call = Restart; step = step.Restarted p n b named listed }) ∷ ls

  history_named : (n : ℕ) (b : List ℕ) (named : Option TxId) (listed : List (TxId × ℕ)) → history (restarted n b named listed) ≡ named_new ls named ++ history ls
  history_named n b None listed = refl
  history_named n b (Some t) listed = refl

  brings_same : (n : ℕ) (b c : List ℕ) (named : Option TxId) (listed : List (TxId × ℕ)) (q : PartId) (site have hi : ℕ) → brings (restarted n b named listed) q site have hi ≡ brings (restarted n c named listed) q site have hi
  brings_same n b c named listed q site have hi =
      let f : TxId → Bool = λ t. takes_part (restarted n b named listed) t (twin site q) && (ltb have (commit_time (restarted n b named listed) t) && leb (commit_time (restarted n b named listed) t) hi) in
      ap (list_any f) (history_named n b named listed ∙ sym (history_named n c named listed))

after_same : (one two : List Line) (ls : List Line) (p : PartId) (j : ℕ) (old new : ℕ) (call : Call) (s : Step) → ((site have hi : ℕ) → brings one p site have hi ≡ brings two p site have hi) → old ≡ new → brought_after one ls p j old call s ≡ brought_after two ls p j new call s
after_same one two ls p j old new call (step.Restarted q n b named listed) h e = refl
after_same one two ls p j old new (TakeOf number site lo hi) (step.Took shown end) h e = λ i. cond (site == j && (leb lo (bound ls p site) && h site (bound ls p site) hi i)) (max hi (e i)) (e i)
after_same one two ls p j old new call s h e = e

brought_same : (one two : List Line) (p : PartId) (j : ℕ) → ((site have hi : ℕ) → brings one p site have hi ≡ brings two p site have hi) → (ls : List Line) → brought one ls p j ≡ brought two ls p j
brought_same one two p j h [] = refl
brought_same one two p j h (l ∷ ls) = λ i. cond (same_part l.at p) (after_same one two ls p j (brought one ls p j) (brought two ls p j) l.call l.step h (brought_same one two p j h ls) i) (brought_same one two p j h ls i)

module _ (sites parts : ℕ) (ls : List Line) (p : PartId) (calm : AreUnfailing ls) where
  -- what a restart at this time shows
  pub record IsShown (n : ℕ) (s : Step) : Type 0 where
    pub bounds : List ℕ
    pub named : Option TxId
    pub listed : List (TxId × ℕ)
    pub is : s ≡ step.Restarted p n bounds named listed
    pub resumed : IsResumed sites parts (restarted p ls n bounds named listed) ls p n bounds named listed

  as_before : (n : ℕ) (b : List ℕ) (named : Option TxId) (listed : List (TxId × ℕ)) → IsResumed sites parts (restarted p ls n b named listed) ls p n b named listed → IsAsBefore sites (restarted p ls n b named listed) ls p b named listed
  as_before n b named listed r = ⊎_elim
      (λ (h : IsAsBefore sites (restarted p ls n b named listed) ls p b named listed). h)
      (λ (h : (call : Call) × (drawn : ℕ) × (faulted ls p ≡ Some (call, drawn)) × IsAsBefore sites (restarted p ls n b named listed) (with_done call drawn p ls) p b named listed). absurd (none_some (sym (no_fault ls p calm) ∙ h.2)))
      r.list
    where
      none_some : {A : Type 0} {x : A} → None ≡ Some x → ⊥
      none_some e = absurd (cc e)

  pub one_restart : (n : ℕ) (s r : Step) → IsShown n s → IsShown n r → s ≡ r
  one_restart n s r h k =
      let a = as_before n h.bounds h.named h.listed h.resumed in
      let b = as_before n k.bounds k.named k.listed k.resumed in
      let names : h.named ≡ k.named = a.last ∙ sym b.last in
      let lists : h.listed ≡ k.listed = same_pending ls p h.listed k.listed (record { members = a.members; times = a.times; order = h.resumed.order }) (record { members = b.members; times = b.times; order = k.resumed.order }) in
      let whole = restarted p ls n h.bounds k.named k.listed in
      let bounds : h.bounds ≡ k.bounds = one_by_site sites p.site h.bounds k.bounds h.resumed.width k.resumed.width
      (one_bound _ _ _ (entry h.bounds p.site) (entry k.bounds p.site) (subst (λ x. IsOwnBoundOf n x (entry h.bounds p.site)) lists h.resumed.own) k.resumed.own)
      (λ j o. subst (λ w. entry h.bounds j ≡ brought w ls p j) (λ i. restarted p ls n h.bounds (names i) (lists i)) (a.bounds j o)
      ∙ (brought_same whole (restarted p ls n k.bounds k.named k.listed) p j (brings_same p ls n h.bounds k.bounds k.named k.listed p) ls ∙ sym (b.bounds j o))) in
      h.is ∙ ((λ i. step.Restarted p n (bounds i) (names i) (lists i)) ∙ sym k.is)
