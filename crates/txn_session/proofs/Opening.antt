-- A transaction that just began has done nothing.
use Rattle.std.proofs.Common.{◌≡◌, inl, ℕ, cond, Bool, true, false, List, [], ◌∷◌, ◌++◌, length, refl, sym, ap, ◌∙◌, subst, arith}
use Rattle.std.specs.Prelude.{◌||◌, ◌&&◌, ◌==◌, Some, None, replicate}
use Rattle.std.proofs.lemmas.Bool.{or_left, cond-true}
use Rattle.std.proofs.lemmas.List.{length-replicate}
use Rattle.site_vector.specs.declared.ids.PartId.{PartId}
use Rattle.site_vector.specs.declared.ids.TxId.{TxId}
use Rattle.site_vector.specs.Ids.{same_part}
use Rattle.site_vector.specs.Order.{same_tx_refl}
use Rattle.site_vector.specs.Vector.{join}
use Rattle.crdt_core.specs.declared.record.Upd.{Upd}
use Rattle.crdt_core.specs.KindsOf.{Kinds}
use Rattle.world_model.specs.declared.command.Mode.{Mode}
use Rattle.world_model.specs.declared.step.Step.{Step}
use Rattle.world_model.specs.declared.step.Step.TheVariants as step
use Rattle.world_model.specs.rules.Event.{AskBegin, Began, tried, voted}
use Rattle.world_model.specs.rules.Partition.{IsBegin}
use Rattle.world_model.specs.rules.Dependency.{ShowsVector, IsKnownJoin}
use Rattle.world_model.specs.lines.Places.{IsPlace, home}
use Rattle.world_model.specs.lines.Lines.{Wish, wish_of}
use Rattle.world_model.specs.rules.World.{snapshot_of}
use Rattle.world_model.specs.rules.Lines.{session_of}
use Rattle.txn_session.specs.Numbers.{IsLeast}
use Rattle.txn_session.specs.Calls.{Call, entries, called, caller_of, IsLegal, IsAllowed, GoesOn, Stays}
use Rattle.txn_session.specs.Session.{Txn, Idle, Open, SessionState, doing_so, depends}
use Rattle.clocksi_commit.specs.Commit.{Committing}
use Rattle.txn_session.specs.declared.session.Stage.{Stage}
use Rattle.txn_session.specs.declared.session.Stage.TheVariants as stage
use Rattle.txn_session.specs.Fields.{doing_in}
use Rattle.txn_session.specs.Opens.{IsOpened}
use Rattle.txn_session.specs.Holds.{HoldsTxn, IsUntried, HoldsDoing, Holds, HoldsNumber, AreApart, Mays, Makes, Waits, changed_at}
use Rattle.txn_session.proofs.Frames.{were_more, known_next, known_more}
use Rattle.txn_session.proofs.Owning.{IsUntold, untold, begins_new}
use Rattle.txn_session.proofs.Events.{began_is}

-- joins of vectors of one width
pub length-join : (u v : List ℕ) → length u ≡ length v → length (join u v) ≡ length u
length-join [] v h = refl
length-join (n ∷ u) [] h = absurd (omega arith)
length-join (n ∷ u) (m ∷ v) h = let k : length u ≡ length v = omega arith in let e = length-join u v k in omega arith

pub idle_in : {E : Type 0} (k : Stage) (txn : Txn E) (lead : ℕ) (commit : Committing) → k ≡ stage.Idle → doing_in k txn lead commit ≡ Idle
idle_in k txn lead commit e = ap (λ x. doing_in x txn lead commit) e

module _ {E : Type 0} where
  -- a session that isn't about a transaction holds where only more is known
  pub idle_holds : (s : SessionState E) (run : List (Call E)) → s.doing ≡ Idle → IsKnownJoin s.sites (entries run) s.dependency → length s.dependency ≡ s.sites → Holds s run
  idle_holds s run i k w = record { known = k; width = w; doing = subst (HoldsDoing s.sites s.parts s.name s.site run) (sym i) tt }

  pub new_holds : (s : SessionState E) (run : List (Call E)) → s.doing ≡ Idle → s.dependency ≡ replicate s.sites 0 → Holds s run
  new_holds s run i d = idle_holds s run i (record { vectors = []; known = tt; is = d }) (ap length d ∙ length-replicate s.sites 0)

  -- with one vector more that the newest event shows
  pub known_joined : (sites : ℕ) (c : Call E) (run : List (Call E)) (d v : List ℕ) → ShowsVector c.entry.event v → IsKnownJoin sites (entries run) d → IsKnownJoin sites (entries (c ∷ run)) (join d v)
  known_joined sites c run d v w h = record { vectors = v ∷ h.vectors; known = (inl w, were_more c.entry (entries run) h.vectors h.known); is = ap (λ x. join x v) h.is }

  nothing_changed : (site parts : ℕ) (p : PartId) → changed_at {E = E} site parts [] p ≡ []
  nothing_changed site parts p = none_of (site == p.site)
    where
      none_of : (b : Bool) → cond {A = List (Upd E)} b [] [] ≡ []
      none_of true = refl
      none_of false = refl

  module _ {S : Type 0} (kinds : Kinds S E) (sites parts : ℕ) (run : List (Call E)) (by : ℕ) (at : PartId) (who : List ℕ) (wish : Wish) (t : TxId) (s : List ℕ) (l : IsLegal kinds sites parts (called by at (Began who wish t s) ∷ run)) where
    is_begin_of : IsBegin sites parts at (l.is_run.0 at) wish t s
    is_begin_of = l.is_run.2.step.1

    pub begun_width : length s ≡ sites
    begun_width = is_begin_of.width

    here : home t ≡ at
    here = ap (λ x. record { site = x.site; part = x.part }) is_begin_of.named

    pub opened_txn : (site : ℕ) → site ≡ at.site → HoldsTxn sites parts who site (record { tx = t; s = s; by = by; updates = [] }) (called by at (Began who wish t s) ∷ run) × IsUntried t (called by at (Began who wish t s) ∷ run)
    opened_txn site e =
        let u = untold (entries run) t (begins_new kinds sites parts (called by at (Began who wish t s)) run t l (same_tx_refl t)) in
        let me = same_tx_refl t in (
          record {
            site_is = ap (λ x. x.site) here ∙ sym e;
            place = subst (λ p. IsPlace sites parts p) (sym here) l.is_run.2.place;
            width = begun_width;
            handed = wish;
            shown = inl (sym here, refl);
            begun = or_left _ _ me;
            snapshot = cond-true _ s (snapshot_of (entries run) t) me;
            session = cond-true _ who (session_of (entries run) t) me;
            caller = sym (cond-true _ by (caller_of run t) me);
            updates = λ p. ap (λ x. x ++ cond (same_part at p) [] []) (u.updates p) ∙ (no_more (same_part at p) ∙ sym (nothing_changed site parts p));
            count = let k = u.count in omega arith;
          },
          record { tries = u_tries u; votes = u_votes u; undecided = u.undecided; ungiven = u.ungiven; time = u.time },
        )
      where
        no_more : (b : Bool) → cond {A = List (Upd E)} b [] [] ≡ []
        no_more true = refl
        no_more false = refl

        and_off : (b : Bool) → (b && false) ≡ false
        and_off true = refl
        and_off false = refl

        u_tries : IsUntold (entries run) t → (p : PartId) → ((same_part at p && false) || tried (entries run) t p) ≡ false
        u_tries u p = (λ i. and_off (same_part at p) i || u.tries p i)

        u_votes : IsUntold (entries run) t → (p : PartId) → ((same_part at p && false) || voted (entries run) t p) ≡ false
        u_votes u p = (λ i. and_off (same_part at p) i || u.votes p i)

  module _ {T P : Type 0} (sees : T → P → List (Call E) → Type 0) (numbers : P → ℕ → Bool) (old : SessionState E) (idle : old.doing ≡ Idle) where
    pub idle_waits : (store : T) (pass : P) (run : List (Call E)) → Holds old run → Stays sees numbers store pass run → Waits sees numbers store pass run old old
    idle_waits store pass run h s = record {
      more = s.more;
      others = s.others;
      apart = subst (λ d. AreApart d s.more) (sym idle) tt;
      seen = s.seen;
      holds = idle_holds old _ idle (known_more old.sites s.more run old.dependency h.known) h.width;
      held = subst (HoldsNumber (numbers pass)) (sym idle) tt;
    }

  module _ {S T P : Type 0} (kinds : Kinds S E) (sees : T → P → List (Call E) → Type 0) (numbers : P → ℕ → Bool) (old : SessionState E) (idle : old.doing ≡ Idle) (mode : Mode) where
    -- what a begin may be asked
    pub begin_allowed : (run : List (Call E)) (at : PartId) → Holds old run → IsAllowed old.sites old.parts run None at (AskBegin old.name (wish_of old.dependency mode))
    begin_allowed run at h = record { may = h.known; mine = tt }

    module _ (store : T) (pass : P) (run : List (Call E)) (at : PartId) (site : old.site ≡ at.site) (legal : (r : List (Call E)) → sees store pass r → IsLegal kinds old.sites old.parts r) (h : Holds old run) (number : ℕ) (answer : Step) (goes : GoesOn sees numbers store pass run (Some number) at (AskBegin old.name (wish_of old.dependency mode)) answer) (least : IsLeast (numbers pass) number) where
      said : (name : List ℕ) (t : TxId) (s : List ℕ) → answer ≡ step.Began name t s → (name ≡ old.name) × (goes.event ≡ Began old.name (wish_of old.dependency mode) t s)
      said name t s is = began_is (entries (goes.more ++ run)) at goes.event old.name (wish_of old.dependency mode) name t s goes.asked (sym is ∙ goes.shows)

      legal_begin : (name : List ℕ) (t : TxId) (s : List ℕ) → answer ≡ step.Began name t s → IsLegal kinds old.sites old.parts (called goes.by at (Began old.name (wish_of old.dependency mode) t s) ∷ (goes.more ++ run))
      legal_begin name t s is = subst (λ e. IsLegal kinds old.sites old.parts (called goes.by at e ∷ (goes.more ++ run))) (said name t s is).1 (legal _ goes.seen)

      -- a snapshot has an entry for each site
      pub began_width : (name : List ℕ) (t : TxId) (s : List ℕ) → answer ≡ step.Began name t s → length s ≡ old.sites
      began_width name t s is = begun_width kinds old.sites old.parts (goes.more ++ run) goes.by at old.name (wish_of old.dependency mode) t s (legal_begin name t s is)

      abbrev as_open : GoesOn sees numbers store pass run None at (AskBegin old.name (wish_of old.dependency mode)) answer
      as_open = record { more = goes.more; others = goes.others; by = goes.by; held = goes.held; bears = subst (IsLeast (numbers pass)) (sym goes.bears) least; event = goes.event; asked = goes.asked; own_word = goes.own_word; shows = goes.shows; seen = goes.seen }

      pub began_makes : (name : List ℕ) (t : TxId) (s : List ℕ) (new : SessionState E) → answer ≡ step.Began name t s → new ≡ doing_so (depends old (join old.dependency s)) (Open (record { tx = t; s = s; by = number; updates = [] })) → Makes sees numbers store pass run old new None at (AskBegin old.name (wish_of old.dependency mode)) answer
      began_makes name t s new is made =
          let e = said name t s is in
          let l = legal_begin name t s is in
          let base = goes.more ++ run in
          let txn = opened_txn kinds old.sites old.parts base goes.by at old.name (wish_of old.dependency mode) t s l old.site site in
          let same : goes.by ≡ number = goes.bears in
          let width = began_width name t s is in
          record {
            goes = as_open;
            apart = subst (λ d. AreApart d goes.more) (sym idle) tt;
            holds = subst (λ n. Holds n (called goes.by at goes.event ∷ base)) (sym made) (record {
              known = known_joined old.sites (called goes.by at goes.event) base old.dependency s (subst (λ x. ShowsVector x s) (sym e.1) refl) (known_more old.sites goes.more run old.dependency h.known);
              width = length-join old.dependency s (h.width ∙ sym width) ∙ h.width;
              doing = subst (λ x. HoldsDoing old.sites old.parts old.name old.site (called goes.by at x ∷ base) (Open (record { tx = t; s = s; by = number; updates = [] }))) (sym e.1) (subst (λ n. HoldsDoing old.sites old.parts old.name old.site (called goes.by at (Began old.name (wish_of old.dependency mode) t s) ∷ base) (Open (record { tx = t; s = s; by = n; updates = [] }))) same txn);
            });
            held = subst (λ n. HoldsNumber (numbers pass) n.doing) (sym made) (subst (λ n. numbers pass n ≡ true) same goes.held);
          }

      pub refused_makes : Makes sees numbers store pass run old old None at (AskBegin old.name (wish_of old.dependency mode)) answer
      refused_makes = record {
        goes = as_open;
        apart = subst (λ d. AreApart d goes.more) (sym idle) tt;
        holds = idle_holds old _ idle (known_next old.sites (called goes.by at goes.event) (goes.more ++ run) old.dependency (known_more old.sites goes.more run old.dependency h.known)) h.width;
        held = subst (HoldsNumber (numbers pass)) (sym idle) tt;
      }

  module _ {S T P : Type 0} (kinds : Kinds S E) (sees : T → P → List (Call E) → Type 0) (numbers : P → ℕ → Bool) (sites_of parts_of : T → ℕ) (stays : T → T → Type 0)
      (legal : (st : T) (p : P) (r : List (Call E)) → sees st p r → IsLegal kinds (sites_of st) (parts_of st) r) (keeps : (a b : T) → stays a b → (sites_of b ≡ sites_of a) × (parts_of b ≡ parts_of a))
      (before store : T) (stayed : stays before store) (given pass : P) (u old : SessionState E) (v : u ≡ old) (es : sites_of before ≡ old.sites) (ep : parts_of before ≡ old.parts) where
    -- what a pass has seen of the store is legal after the call too
    pub legal_now : (r : List (Call E)) → sees store pass r → IsLegal kinds old.sites old.parts r
    legal_now r seen =
        let k = keeps before store stayed in
        subst (λ n. IsLegal kinds n old.parts r) (k.0 ∙ es) (subst (λ n. IsLegal kinds (sites_of store) n r) (k.1 ∙ ep) (legal store pass r seen))

    module _ (idle : u.doing ≡ Idle) (part number : ℕ) (mode : Mode) (answer : Step) (f : (run : List (Call E)) → sees before given run → IsAllowed (sites_of before) (parts_of before) run None (record { site = u.site; part = part }) (AskBegin u.name (wish_of u.dependency mode)) → GoesOn sees numbers store pass run (Some number) (record { site = u.site; part = part }) (AskBegin u.name (wish_of u.dependency mode)) answer) (least : IsLeast (numbers pass) number) where
      was_idle : old.doing ≡ Idle
      was_idle = subst (λ (w : SessionState E). w.doing ≡ Idle) v idle

      begin_goes : (run : List (Call E)) → sees before given run → Holds old run → GoesOn sees numbers store pass run (Some number) (record { site = old.site; part = part }) (AskBegin old.name (wish_of old.dependency mode)) answer
      begin_goes run seen h =
          let g : (r : List (Call E)) → sees before given r → IsAllowed (sites_of before) (parts_of before) r None (record { site = old.site; part = part }) (AskBegin old.name (wish_of old.dependency mode)) → GoesOn sees numbers store pass r (Some number) (record { site = old.site; part = part }) (AskBegin old.name (wish_of old.dependency mode)) answer =
          subst (λ (w : SessionState E). (r : List (Call E)) → sees before given r → IsAllowed (sites_of before) (parts_of before) r None (record { site = w.site; part = part }) (AskBegin w.name (wish_of w.dependency mode)) → GoesOn sees numbers store pass r (Some number) (record { site = w.site; part = part }) (AskBegin w.name (wish_of w.dependency mode)) answer) v f in
          let a = begin_allowed kinds sees numbers old was_idle mode run (record { site = old.site; part = part }) h in
          g run seen (subst (λ n. IsAllowed n (parts_of before) run None (record { site = old.site; part = part }) (AskBegin old.name (wish_of old.dependency mode))) (sym es) (subst (λ n. IsAllowed old.sites n run None (record { site = old.site; part = part }) (AskBegin old.name (wish_of old.dependency mode))) (sym ep) a))

      pub open_refused : (run : List (Call E)) → sees before given run → Holds old run → Makes sees numbers store pass run old old None (record { site = old.site; part = part }) (AskBegin old.name (wish_of old.dependency mode)) answer
      open_refused run seen h = refused_makes kinds sees numbers old was_idle mode store pass run (record { site = old.site; part = part }) refl legal_now h number answer (begin_goes run seen h) least

      module _ (name : List ℕ) (t : TxId) (s : List ℕ) (is : answer ≡ step.Began name t s) where
        pub open_width : Mays sees numbers before given old → length u.dependency ≡ length s
        open_width m =
            let w = began_width kinds sees numbers old was_idle mode store pass m.run (record { site = old.site; part = part }) refl legal_now m.holds number answer (begin_goes m.run m.seen m.holds) least name t s is in
            ap (λ x. length x.dependency) v ∙ (m.holds.width ∙ sym w)

        pub open_made : (d : List ℕ) (us : List (Upd E)) → d ≡ join u.dependency s → us ≡ [] → doing_so (depends u d) (Open (record { tx = t; s = s; by = number; updates = us })) ≡ doing_so (depends old (join old.dependency s)) (Open (record { tx = t; s = s; by = number; updates = [] }))
        open_made d us ed eu = (λ i. doing_so (depends (v i) ((ed ∙ ap (λ x. join x.dependency s) v) i)) (Open (record { tx = t; s = s; by = number; updates = eu i })))

        pub open_began : (d : List ℕ) (us : List (Upd E)) → d ≡ join u.dependency s → us ≡ [] → (run : List (Call E)) → sees before given run → Holds old run → Makes sees numbers store pass run old (doing_so (depends u d) (Open (record { tx = t; s = s; by = number; updates = us }))) None (record { site = old.site; part = part }) (AskBegin old.name (wish_of old.dependency mode)) (step.Began name t s)
        open_began d us ed eu run seen h =
            subst (λ a. Makes sees numbers store pass run old (doing_so (depends u d) (Open (record { tx = t; s = s; by = number; updates = us }))) None (record { site = old.site; part = part }) (AskBegin old.name (wish_of old.dependency mode)) a) is
            (began_makes kinds sees numbers old was_idle mode store pass run (record { site = old.site; part = part }) refl legal_now h number answer (begin_goes run seen h) least name t s (doing_so (depends u d) (Open (record { tx = t; s = s; by = number; updates = us }))) is (open_made d us ed eu))

-- a step that isn't a begin
pub not_opened : {E : Type 0} (s : SessionState E) (answer : Step) → ((name : List ℕ) (t : TxId) (v : List ℕ) → answer ≡ step.Began name t v → ⊥) → IsOpened s answer s
not_opened s (step.Began name t v) n = absurd (n name t v refl)
not_opened s other n = refl
