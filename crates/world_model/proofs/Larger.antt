-- What may be asked in a run of the world may be asked in a larger one.
use Rattle.std.proofs.Common.{◌≡◌, ⊎_elim, inl, inr, ℕ, ◌+◌, ◌≤◌, cond, leb, Bool, true, false, List, [], ◌∷◌, ◌++◌, length, refl, sym, ap, ◌∙◌, subst, arith}
use Rattle.std.specs.Prelude.{◌==◌, filter}
use Rattle.std.proofs.lemmas.Bool.{cases_Bool, or_cases, and_from, cond-true, cond-false, false_from_ne_true}
use Rattle.site_vector.specs.declared.ids.PartId.{PartId}
use Rattle.site_vector.specs.declared.ids.TxId.{TxId}
use Rattle.site_vector.specs.Ids.{same_tx}
use Rattle.site_vector.specs.Order.{same_tx_is, same_tx_refl}
use Rattle.site_vector.specs.Vector.{replaced}
use Rattle.crdt_core.specs.declared.record.Upd.{Upd}
use Rattle.crdt_core.specs.Objects.{same_object}
use Rattle.crdt_core.specs.KindsOf.{Kinds}
use Rattle.world_model.specs.lines.Places.{home}
use Rattle.world_model.specs.lines.Lines.{Wish}
use Rattle.world_model.specs.rules.Event.{Ask, AskBegin, AskRead, AskUpdate, AskPrepare, AskDecide, AskFinish, AskAbort, AskTake, AskHear, Event, Began, Decided, Restarted, shows_decided, Sent, Reported, Entry, voted, is_sent, sent_count, is_report, report_count, shown, time_of, WasShown, EventsAre}
use Rattle.world_model.specs.rules.Partition.{PartState, PartStep}
use Rattle.world_model.specs.rules.Plan.{is_some_update, takes_part, updates_at, change_by}
use Rattle.world_model.specs.events.Commit.{ShowsVector}
use Rattle.world_model.specs.rules.Traces.{trace_of}
use Rattle.world_model.specs.rules.World.{is_begin, begin_vector, begun, snapshot_of, is_own, lead_of, own_parts, plan_of, IsWorldRun}
use Rattle.world_model.specs.rules.Asking.{MayCall}
use Rattle.world_model.proofs.Names.{clash, off}
use Rattle.world_model.proofs.Fate.{voted_tried}
use Rattle.world_model.proofs.Whole.{world_leases, begun_time, shown_begun, part_begun, tried_begun, Agree, agree_by}
use Rattle.world_model.proofs.Law.{law_world}
use Rattle.world_model.specs.threads.Marks.{is_restarted}
use Rattle.world_model.proofs.Silent.{AreSilent, Grown, IsCitedEnd, IsSilent}
use Rattle.world_model.proofs.Carrying.{or_none, any_in, some_of, decided_of, Has, has_shown, changes_in, updates_in, tried_same, voted_same, undecided, ungiven, decided_grown, updates_same, time_same, shown_grown, number_grown, sends_in, reports_in, join_grown}

module _ {E : Type 0} where
  -- an id begins once
  pub begins_once : {S : Type 0} (kinds : Kinds S E) (sites parts : ℕ) (run : List (Entry E)) (before : PartId → PartState E) (at : PartId) (q : PartState E) (event : Event E) (t : TxId) → IsWorldRun kinds sites parts run before → PartStep kinds sites parts at (before at) event q → begun run t ≡ true → is_begin event t ≡ false
  begins_once kinds sites parts run before at q (Began who dep u s) t r st b = false_from_ne_true _ (λ e.
      let same = same_tx_is u t e in
      let named = st.1.named in
      let l = ((world_leases kinds sites parts run before r).clock at).now in
      let place : home u ≡ at = ap home named in
      let drawn : u.time ≡ (before at).now + 1 = ap (λ x. x.time) named in
      let c : begun run u ≡ true = subst (λ x. begun run x ≡ true) (sym same) b in
      let k : u.time ≤ shown run at = subst (λ p. u.time ≤ shown run p) place (begun_time kinds sites parts run before r u c) in
      absurd (omega arith))
  begins_once kinds sites parts run before at q a t r st b = refl

  -- the snapshot is the one that the begin showed
  pub shown_snapshot : {S : Type 0} (kinds : Kinds S E) (sites parts : ℕ) (run : List (Entry E)) (state : PartId → PartState E) (p : PartId) (who : List ℕ) (dep : Wish) (t : TxId) (s : List ℕ) → IsWorldRun kinds sites parts run state → WasShown run p (Began who dep t s) → snapshot_of run t ≡ s
  shown_snapshot kinds sites parts [] state p who dep t s r w = absurd w
  shown_snapshot kinds sites parts (e ∷ run) state p who dep t s r w = ⊎_elim
      (λ (x : (e.at ≡ p) × (e.event ≡ Began who dep t s)). subst (λ a. cond (is_begin a t) (begin_vector a) (snapshot_of run t) ≡ s) (sym x.1) (cond-true (same_tx t t) s (snapshot_of run t) (same_tx_refl t)))
      (λ (x : WasShown run p (Began who dep t s)). cond-false _ _ _ (begins_once kinds sites parts run r.0 e.at (state e.at) e.event t r.1 r.2.step (shown_begun run p who dep t s x)) ∙ shown_snapshot kinds sites parts run r.0 p who dep t s r.1 x)
      w

  pub record BeganAs (run : List (Entry E)) (t : TxId) : Type 0 where
    pub at : PartId
    pub who : List ℕ
    pub dependency : Wish
    pub shown : WasShown run at (Began who dependency t (snapshot_of run t))

  begin_is : (a : Event E) (t : TxId) → is_begin a t ≡ true → (who : List ℕ) × ((dep : Wish) × (a ≡ Began who dep t (begin_vector a)))
  begin_is (Began who dep u s) t h = (who, (dep, ap (λ x. Began who dep x s) (same_tx_is u t h)))
  begin_is a t h = off h

  pub began_as : (run : List (Entry E)) (t : TxId) → begun run t ≡ true → BeganAs run t
  began_as [] t h = off h
  began_as (e ∷ run) t h = ⊎_elim
      (λ (k : is_begin e.event t ≡ true). let b = begin_is e.event t k in record {
        at = e.at;
        who = b.0;
        dependency = b.1.0;
        shown = inl (refl, b.1.1 ∙ ap (λ v. Began b.0 b.1.0 t v) (sym (cond-true (is_begin e.event t) (begin_vector e.event) (snapshot_of run t) k)));
      })
      (λ (k : is_begin e.event t ≡ false). let i = began_as run t (⊎_elim (λ (x : is_begin e.event t ≡ true). clash x k) (λ (x : begun run t ≡ true). x) (or_cases _ _ h)) in record {
        at = i.at;
        who = i.who;
        dependency = i.dependency;
        shown = inr (subst (λ v. WasShown run i.at (Began i.who i.dependency t v)) (sym (cond-false (is_begin e.event t) (begin_vector e.event) (snapshot_of run t) k)) i.shown);
      })
      (cases_Bool (is_begin e.event t))

  pub snapshot_same : (sites parts : ℕ) (t : TxId) (large small : List (Entry E)) {S : Type 0} (kinds : Kinds S E) (after : PartId → PartState E) (g : Grown large small) → IsWorldRun kinds sites parts large after → begun small t ≡ true → snapshot_of large t ≡ snapshot_of small t
  snapshot_same sites parts t large small kinds after g f b = let i = began_as small t b in shown_snapshot kinds sites parts large after i.at i.who i.dependency t (snapshot_of small t) f (shown_grown large small g i.at _ i.shown)

  pub same_plans : (sites parts : ℕ) (t : TxId) (large small : List (Entry E)) {S : Type 0} (kinds : Kinds S E) (after : PartId → PartState E) (g : Grown large small) → IsWorldRun kinds sites parts large after → ((p : PartId) → AreSilent (g.more p) t) → begun small t ≡ true → Agree (plan_of sites parts small) (plan_of sites parts large) t
  same_plans sites parts t large small kinds after g f s b = agree_by sites parts small large t (snapshot_same sites parts t large small kinds after g f b) (updates_same t large small g s)

  -- who takes part still does
  some_more : (t : TxId) (more old : List (Event E)) → is_some_update (changes_in old t) ≡ true → is_some_update (changes_in (more ++ old) t) ≡ true
  some_more t [] old h = h
  some_more t (e ∷ more) old h = front (changes_in (more ++ old) t) (change_by e t) (some_more t more old h)
    where
      front : (xs ys : List (Upd E)) → is_some_update xs ≡ true → is_some_update (xs ++ ys) ≡ true
      front [] ys k = off k
      front (x ∷ xs) ys k = refl

  some_kept : (b : Bool) (us : List (Upd E)) → is_some_update (cond b us []) ≡ true → is_some_update us ≡ true
  some_kept true us h = h
  some_kept false us h = off h

  pub takes_grown : (sites parts : ℕ) (t : TxId) (large small : List (Entry E)) {S : Type 0} (kinds : Kinds S E) (after : PartId → PartState E) (g : Grown large small) → IsWorldRun kinds sites parts large after → (p : PartId) → takes_part (plan_of sites parts small) t p ≡ true → takes_part (plan_of sites parts large) t p ≡ true
  takes_grown sites parts t large small kinds after g f p h =
      let same = snapshot_same sites parts t large small kinds after g f (part_begun sites small t p h) in
      let o = own_parts sites small t p h in
      let own : is_own sites large t p ≡ true = and_from (p.site == t.site) _ o.0 (and_from (leb 1 t.site) _ o.1 (and_from (leb t.site sites) _ o.2 (subst (λ v. leb t.site (length v) ≡ true) (sym same) o.3))) in
      let here : is_some_update (changes_in (trace_of p small) t) ≡ true = ap is_some_update (sym (updates_in small t p)) ∙ some_kept (is_own sites small t p) (updates_at small t p) h in
      ap is_some_update (cond-true (is_own sites large t p) (updates_at large t p) [] own ∙ updates_in large t p ∙ ap (λ l. changes_in l t) (g.is p)) ∙ some_more t (g.more p) (trace_of p small) here

  -- what a law says of each event it says of one that was shown
  pub event_has : (Q : PartId → Event E → Type 0) (run : List (Entry E)) (p : PartId) (a : Event E) → EventsAre Q run → WasShown run p a → Q p a
  event_has Q [] p a h w = absurd w
  event_has Q (e ∷ run) p a h w = ⊎_elim
      (λ (x : (e.at ≡ p) × (e.event ≡ a)). subst (λ y. Q p y) x.1 (subst (λ y. Q y e.event) x.0 h.0))
      (λ (x : WasShown run p a). event_has Q run p a h.1 x)
      w

  has_some : (f : Event E → Bool) (trace : List (Event E)) → any_in f trace ≡ true → (a : Event E) × (Has a trace × (f a ≡ true))
  has_some f [] h = off h
  has_some f (e ∷ trace) h = ⊎_elim
      (λ (k : f e ≡ true). (e, (inl refl, k)))
      (λ (k : any_in f trace ≡ true). let i = has_some f trace k in (i.0, (inr i.1.0, i.1.1)))
      (or_cases _ _ h)

  has_none : (f : Event E → Bool) (trace : List (Event E)) (a : Event E) → any_in f trace ≡ false → Has a trace → f a ≡ false
  has_none f [] a h k = absurd k
  has_none f (e ∷ trace) a h k = let n = or_none (f e) (any_in f trace) h in ⊎_elim
      (λ (x : e ≡ a). subst (λ y. f y ≡ false) x n.0)
      (λ (x : Has a trace). has_none f trace a n.1 x)
      k

  shows_end : (a : Event E) (t : TxId) → shows_decided a t ≡ true → is_restarted a ≡ false → (c : List ℕ) × (a ≡ Decided t c)
  shows_end (Decided u c) t h k = (c, ap (λ x. Decided x c) (same_tx_is u t h))
  shows_end (Restarted n b named listed) t h k = clash refl k
  shows_end a t h k = off h

  -- where nothing restarted, a finish rests on a decision that was shown
  pub cited_end : {S : Type 0} (kinds : Kinds S E) (sites parts : ℕ) (small : List (Entry E)) (before : PartId → PartState E) → IsWorldRun kinds sites parts small before → ((p : PartId) → any_in is_restarted (trace_of p small) ≡ false) → (p : PartId) (ask : Ask E) → MayCall sites parts small p ask → IsCitedEnd small ask
  cited_end kinds sites parts small before q n p (AskFinish t v) h =
      let d = some_of (λ a. shows_decided a t) small (sym (decided_of small t) ∙ h.1.decided) in
      let i = has_some (λ a. shows_decided a t) (trace_of d.0 small) d.1 in
      let k = shows_end i.0 t i.1.1 (has_none is_restarted (trace_of d.0 small) i.0 (n d.0) i.1.0) in
      let shown : WasShown small d.0 (Decided t k.0) = has_shown small d.0 (Decided t k.0) (subst (λ a. Has a (trace_of d.0 small)) k.1 i.1.0) in
      let law = (law_world kinds sites parts small before q).0 in
      let vector = (event_has (ShowsVector (plan_of sites parts small) small) small d.0 (Decided t k.0) law.vectors shown).1 in
      (d.0, subst (λ c. WasShown small d.0 (Decided t c)) (vector ∙ sym h.1.vector) shown)
  cited_end kinds sites parts small before q n p ask h = tt

  pub may_call : {S : Type 0} (kinds : Kinds S E) (sites parts : ℕ) (large small : List (Entry E)) (after before : PartId → PartState E) → IsWorldRun kinds sites parts large after → IsWorldRun kinds sites parts small before → (g : Grown large small) (p : PartId) (ask : Ask E) → IsSilent g.more ask → IsCitedEnd small ask → MayCall sites parts small p ask → MayCall sites parts large p ask
  may_call kinds sites parts large small after before r q g p (AskBegin who dep) s c h = join_grown sites large small g dep.past h
  may_call kinds sites parts large small after before r q g p (AskRead t v o own) s c h = record {
    site = h.site;
    who = h.who;
    dependency = h.dependency;
    begun = shown_grown large small g (home t) _ h.begun;
    place = h.place;
    earlier = h.earlier ∙ ap (filter (λ u. same_object u.object o)) (sym (updates_same t large small g s p));
  }
  may_call kinds sites parts large small after before r q g p (AskUpdate t v o own op) s c h = (
    record {
      site = h.0.site;
      who = h.0.who;
      dependency = h.0.dependency;
      begun = shown_grown large small g (home t) _ h.0.begun;
      place = h.0.place;
      earlier = h.0.earlier ∙ ap (filter (λ u. same_object u.object o)) (sym (updates_same t large small g s p));
    },
    λ i. tried_same t large small g s i ∙ h.1 i,
  )
  may_call kinds sites parts large small after before r q g p (AskPrepare t v l w) s c h =
      let b = shown_begun small (home t) h.0.who h.0.dependency t v h.0.begun in
      let a = same_plans sites parts t large small kinds after g r s b in (
        record {
          site = h.0.site;
          who = h.0.who;
          dependency = h.0.dependency;
          begun = shown_grown large small g (home t) _ h.0.begun;
        },
        record {
          fresh = tried_same t large small g s p ∙ h.1.fresh;
          after_lead = λ ne. subst (λ x. voted large t x ≡ true) (sym a.lead) (voted_same t large small g s (lead_of sites parts small t) ∙ h.1.after_lead (λ k. ne (k ∙ sym a.lead)));
          takes = ap is_some_update (a.updates p) ∙ h.1.takes;
          snapshot = h.1.snapshot ∙ sym a.snapshot;
          lead = h.1.lead ∙ ap (λ x. x.part) (sym a.lead);
          changes = h.1.changes ∙ sym (a.updates p);
        },
      )
  may_call kinds sites parts large small after before r q g p (AskDecide t v) s c h =
      let b = tried_begun kinds sites parts small before t p q (voted_tried small t p h.here) in
      let a = same_plans sites parts t large small kinds after g r s b in record {
        lead = h.lead ∙ sym a.lead;
        here = voted_same t large small g s p ∙ h.here;
        all = λ i k. voted_same t large small g s i ∙ h.all i (ap is_some_update (sym (a.updates i)) ∙ k);
        ungiven = ungiven t large small g s h.ungiven;
        once = undecided t large small g s h.once;
        vector = h.vector ∙ ap (λ x. replaced x t.site (time_of small t)) (sym a.snapshot) ∙ ap (λ n. replaced (snapshot_of large t) t.site n) (sym (time_same t large small g s));
      }
  may_call kinds sites parts large small after before r q g p (AskFinish t v) s c h =
      let law = (law_world kinds sites parts large after r).0 in
      let shown = event_has (ShowsVector (plan_of sites parts large) large) large c.0 (Decided t v) law.vectors (shown_grown large small g c.0 (Decided t v) c.1) in
      (takes_grown sites parts t large small kinds after g r p h.0, record { decided = decided_grown t large small g h.1.decided; vector = shown.1 })
  may_call kinds sites parts large small after before r q g p (AskAbort t) s c h = undecided t large small g s h
  may_call kinds sites parts large small after before r q g p (AskTake number m) s c h = record {
    from = h.from;
    to = h.to;
    part = h.part;
    asked = h.asked;
    shown = number_grown is_sent sent_count sends_in large small g number _ (Sent h.asked m) h.shown;
  }
  may_call kinds sites parts large small after before r q g p (AskHear number i b) s c h = record {
    least = h.least;
    most = h.most;
    shown = number_grown is_report report_count reports_in large small g number _ (Reported b) h.shown;
  }
  may_call kinds sites parts large small after before r q g p other s c h = tt
