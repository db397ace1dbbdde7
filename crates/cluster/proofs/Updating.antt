-- How an update answers its command.
use Rattle.std.proofs.Common.{◌≡◌, ◌≢◌, ◌<◌, ◌≤◌, ℕ, ◌+◌, Bool, true, false, List, [], ◌∷◌, ◌++◌, length, Option, Result, Ok, Err, refl, sym, ap, ◌∙◌, subst, None, Some, arith}
use Rattle.std.specs.Prelude.{not, ◌&&◌, map, ◌==◌, nat_lt, if◌then◌else◌, IfErr, IfOk, MatchOption}
use Rattle.std.specs.Str.{bytes_eq}
use Rattle.std.proofs.lemmas.Bool.{cond-true, true≢false, eqb-true, ltb-true, ltb-false, false_from_ne_true}
use Rattle.std.proofs.lemmas.List.{map-append, length-map, length_push}
use Rattle.crdt_core.specs.declared.kind.Kind.{Kind}
use Rattle.crdt_core.specs.declared.object.Field.{Field}
use Rattle.site_vector.specs.declared.ids.PartId.{PartId}
use Rattle.crdt_core.specs.declared.object.ObjectId.{ObjectId}
use Rattle.crdt_core.specs.declared.operation.Op.{Op}
use Rattle.crdt_core.specs.declared.record.Upd.{Upd}
use Rattle.crdt_core.specs.Fits.{fits}
use Rattle.crdt_core.specs.Placing.{place_of}
use Rattle.world_model.specs.declared.command.Command.TheVariants as command
use Rattle.world_model.specs.declared.step.Step.{Step}
use Rattle.world_model.specs.declared.step.Step.TheVariants as step
use Rattle.world_model.specs.commands.Answers.{answered}
use Rattle.world_model.specs.rules.Asking.{asked_by}
use Rattle.world_model.specs.commands.Cluster.{sites_of, parts_of}
use Rattle.world_model.specs.rules.Event as event
use Rattle.world_model.specs.rules.Event.{AskUpdate, IsDown, Event, Refused, Cut, Entry, attempt}
use Rattle.world_model.specs.lines.Lines.{UpdateOf}
use Rattle.world_model.specs.rules.Lines.{step_shown, session_of}
use Rattle.world_model.proofs.Dependency.{dependency_after}
use Rattle.world_model.specs.commands.Phases as phases
use Rattle.world_model.specs.commands.Phases.{Phase, phase, phase_after, with_object, update_total}
use Rattle.world_model.specs.commands.Run.{Run}
use Rattle.world_model.specs.commands.ScriptAnswers.{Bears, AnswersBy, IsAnswer}
use Rattle.world_model.specs.commands.ScriptCalls.{at_object}
use Rattle.txn_session.specs.Calls.{called, entries}
use Rattle.txn_session.specs.declared.error.SessionError.{SessionError}
use Rattle.txn_session.specs.declared.error.SessionError.TheVariants as error
use Rattle.txn_session.specs.Holds.{HoldsDoing, MakesUpdate}
use Rattle.txn_session.specs.Opens.{IsUpdated, refusal_of_update, update_refusal, with_update, updated}
use Rattle.txn_session.specs.Session as session
use Rattle.txn_session.specs.Session.{Txn, Doing, Idle, Open, Ending, SessionState, own_updates, place_in}
use Rattle.site_partitions.specs.Reaches.{Types}
use Rattle.cluster.specs.Acts.{Acts, Updates}
use Rattle.cluster.specs.Built.{is_built}
use Rattle.site_partitions.specs.Held.{Held}
use Rattle.cluster.specs.Live.{LiveState, session_in, refused_line}
use Rattle.cluster.specs.Reached.{phase_as, StandsBy, ReachedLive, GoesTo, AppliesLive}
use Rattle.cluster.specs.Sees.{Sees}
use Rattle.cluster.specs.Faults.{ShowFaults}
use Rattle.cluster.proofs.Faulted.{shows_told}
use Rattle.cluster.proofs.Seeing.{told_last}
use Rattle.cluster.proofs.Meets.{all_met, first_at, none_due, refused, lacks_session, has_session, open_is, by_name}
use Rattle.cluster.proofs.Sessions.{IsThere, turns, acted, own_name}
use Rattle.cluster.proofs.Turned.{sure, is_decide_ask, answer_up}

module _ {E : Type 0} where
  -- an update that isn't refused
  pub record MayUpdate (o : ObjectId) (op : Op) (txn : Txn E) : Type 0 where
    pub fit : fits o.kind op.path op.act ≡ true
    pub room : length txn.updates < 256

  accepted : (too_deep : Kind → List Field → Bool) (o : ObjectId) (op : Op) (txn : Txn E) → refusal_of_update too_deep o op txn.updates ≡ None → MayUpdate o op txn
  accepted too_deep o op txn h = by_bools (too_deep o.kind op.path) (fits o.kind op.path op.act) (nat_lt (length txn.updates) 256) refl refl h
    where
      by_bools : (a b d : Bool) → fits o.kind op.path op.act ≡ b → nat_lt (length txn.updates) 256 ≡ d → (if a then Some error.TooDeep else (if b then (if d then None else Some error.TooMany) else Some error.BadOp)) ≡ None → MayUpdate o op txn
      by_bools true b d eb ed k = absurd cc
      by_bools false false d eb ed k = absurd cc
      by_bools false true false eb ed k = absurd cc
      by_bools false true true eb ed k = record { fit = eb; room = ltb-true _ _ ed }

  -- what an update leaves of its session
  pub record IsMade (events : List (Entry E)) (o : ObjectId) (op : Op) (old new : SessionState E) (e : Event E) (answer : Step) : Type 0 where
    pub there : IsThere old new
    pub few : update_total (phase_as new.doing) ≤ 256
    pub phase : (parts : ℕ) (p : Phase) → p ≡ phase_as old.doing → phase_after parts old.name p (Some (command.Update old.name o op)) answer ≡ phase_as new.doing
    pub depends : (n : ℕ) → new.dependency ≡ dependency_after n events old.name old.dependency e
    pub bears : (run : Run) → Bears run (command.Update old.name o op) answer

  more_objects : (txn : Txn E) (o : ObjectId) (x : E) → phase_as (Open (with_update txn o x)) ≡ phases.Open txn.tx txn.s (map (λ (u : Upd E). u.object) txn.updates ++ o ∷ [])
  more_objects txn o x = ap (λ l. phases.Open txn.tx txn.s l) (map-append (λ (u : Upd E). u.object) txn.updates (_ ∷ []))

  more_count : (txn : Txn E) (o : ObjectId) (x : E) → length txn.updates < 256 → update_total (phase_as (Open (with_update txn o x))) ≤ 256
  more_count txn o x l =
      let n = length-map (txn.updates ++ (record { object = o; index = length txn.updates + 1; effect = x }) ∷ []) (λ (u : Upd E). u.object) in
      let m = length_push txn.updates (record { object = o; index = length txn.updates + 1; effect = x }) in
      omega (arith, n, m, l)

  module _ (events : List (Entry E)) (at : PartId) (old new : SessionState E) (txn : Txn E) (o : ObjectId) (op : Op) (own : List (Upd E)) (is : old.doing ≡ Open txn) (mine : session_of events txn.tx ≡ old.name) (room : length txn.updates < 256) (few : update_total (phase_as old.doing) ≤ 256) where
    -- one that changes no session
    unmade : (e : Event E) (line : Step) → new ≡ old → ((n : ℕ) → dependency_after n events old.name old.dependency e ≡ old.dependency) → ((parts : ℕ) (p : Phase) → phase_after parts old.name p (Some (command.Update old.name o op)) line ≡ p) → ((run : Run) → Bears run (command.Update old.name o op) line) → IsMade events o op old new e line
    unmade e line x depends phase bears = record {
      there = record { name = ap (λ y. y.name) x; site = ap (λ y. y.site) x; sites = ap (λ y. y.sites) x; parts = ap (λ y. y.parts) x };
      few = subst (λ (y : SessionState E). update_total (phase_as y.doing) ≤ 256) (sym x) few;
      phase = λ parts p h. phase parts p ∙ (h ∙ ap (λ y. phase_as y.doing) (sym x));
      depends = λ n. ap (λ y. y.dependency) x ∙ sym (depends n);
      bears = bears;
    }

    pub made : (e : Event E) → asked_by (attempt e) ≡ AskUpdate txn.tx txn.s o own op → IsUpdated old o (step_shown events at e) new → IsMade events o op old new e (step_shown events at e)
    made (event.Updated t v o' w op' read u stamp) a x =
        let et : t ≡ txn.tx = cc in
        let eo : o' ≡ o = cc in
        let name : session_of events t ≡ old.name = ap (session_of events) et ∙ mine in
        let same : bytes_eq (session_of events t) old.name ≡ true = ap (λ n. bytes_eq n old.name) name ∙ own_name old.name in
        let after : new.doing ≡ Open (with_update txn o x.0) = ap (λ (y : SessionState E). y.doing) x.1 ∙ ap (λ d. updated d o x.0) is in record {
          there = record { name = ap (λ y. y.name) x.1; site = ap (λ y. y.site) x.1; sites = ap (λ y. y.sites) x.1; parts = ap (λ y. y.parts) x.1 };
          few = subst (λ d. update_total (phase_as d) ≤ 256) (sym after) (more_count txn o x.0 room);
          phase = λ parts p h. cond-true (bytes_eq (session_of events t) old.name) (with_object o' p) p same ∙ ((λ i. with_object (eo i) ((h ∙ ap phase_as is) i)) ∙ (sym (more_objects txn o x.0) ∙ ap phase_as (sym after)));
          depends = λ n. ap (λ y. y.dependency) x.1;
          bears = λ run. (name, eo);
        }
    made (Cut (event.Updated t v o' w op' read u stamp)) a x = unmade _ _ x (λ n. refl) (λ parts p. refl) (λ run. tt)
    made (Cut (Refused q why)) a x = unmade _ _ x (λ n. refl) (λ parts p. refl) (λ run. tt)
    made (Cut what) a x = absurd cc
    made (Refused q IsDown) a x = unmade _ _ x (λ n. refl) (λ parts p. refl) (λ run. tt)
    made (Refused q why) a x = unmade _ _ x (λ n. refl) (λ parts p. refl) (λ run. tt)
    made other a x = absurd cc

-- the answer of a session tells whether its update was refused, but for memory
module _ {A : Type 0} (Upheld : Type 0) (r : Result A SessionError) where
  abbrev Told : Option SessionError → Type 0
  Told due = MatchOption due (IfErr r (λ e. e ≡ error.NoMemory)) (λ e. (r ≡ Err e) × Upheld)

  pub not_due : (due : Option SessionError) (x : A) → r ≡ Ok x → Told due → due ≡ None
  not_due None x is h = refl
  not_due (Some e) x is h = let k : Err e ≡ Ok x = sym h.0 ∙ is in absurd cc

  is_due : (due : Option SessionError) (why : SessionError) → r ≡ Err why → why ≢ error.NoMemory → Told due → (due ≡ Some why) × Upheld
  is_due None why is fed h = absurd (fed (subst (λ y. IfErr y (λ e. e ≡ error.NoMemory)) is h))
  is_due (Some e) why is fed h = let k : Err e ≡ Err why = sym h.0 ∙ is in let same : e ≡ why = cc in (ap Some same, h.1)

module _ {S E D : Type 0} (types : Types S E D) (c : LiveState E D) (name : List ℕ) (o : ObjectId) (op : Op) where
  pub update_absent : (steps : List Step) → steps ≡ step.NoSession ∷ [] → session_in c.sessions name ≡ None → AppliesLive types c (command.Update name o op) steps c
  update_absent steps is none = refused types c (command.Update name o op) step.NoSession steps is refl
      (λ run r. first_at (all_met run (command.Update name o op)) 2 (refl, (ap not r.has, lacks_session types c run r name none)))
      (λ run r who. refl)

  module _ (shallow : fits o.kind op.path op.act ≡ true → types.kinds.too_deep o.kind op.path ≡ false) where
    not_open : (s : SessionState E) → session_in c.sessions name ≡ Some s → session.is_open s.doing ≡ false → (steps : List Step) → steps ≡ step.NoTxn ∷ [] → AppliesLive types c (command.Update name o op) steps c
    not_open s is shut steps e = refused types c (command.Update name o op) step.NoTxn steps e refl
        (λ run r. first_at (all_met run (command.Update name o op)) 3 (refl, (ap not r.has, (has_session types c run r name s is, ap not (open_is types c run r name s is ∙ shut)))))
        (λ run r who. refl)

    unfit : (s : SessionState E) → session_in c.sessions name ≡ Some s → session.is_open s.doing ≡ true → fits o.kind op.path op.act ≡ false → (steps : List Step) → steps ≡ step.BadOp ∷ [] → AppliesLive types c (command.Update name o op) steps c
    unfit s is opened bad steps e = refused types c (command.Update name o op) step.BadOp steps e refl
        (λ run r. first_at (all_met run (command.Update name o op)) 4 (refl, (ap not r.has, (has_session types c run r name s is, (ap not (open_is types c run r name s is ∙ opened), ap not bad)))))
        (λ run r who. refl)

    total_is : (run : Run) (r : ReachedLive types c run) (s : SessionState E) (is : session_in c.sessions name ≡ Some s) (txn : Txn E) → s.doing ≡ Open txn → update_total (phase run name) ≡ length txn.updates
    total_is run r s is txn e = ap update_total ((by_name types c run r name s is).phase ∙ ap phase_as e) ∙ length-map txn.updates (λ (u : Upd E). u.object)

    full : (s : SessionState E) (is : session_in c.sessions name ≡ Some s) (txn : Txn E) → s.doing ≡ Open txn → fits o.kind op.path op.act ≡ true → nat_lt (length txn.updates) 256 ≡ false → (steps : List Step) → steps ≡ step.LimitUpdates ∷ [] → AppliesLive types c (command.Update name o op) steps c
    full s is txn e good most steps k = refused types c (command.Update name o op) step.LimitUpdates steps k refl
        (λ run r.
        let few = subst (λ d. update_total (phase_as d) ≤ 256) e (by_name types c run r name s is).few in
        let total = length-map txn.updates (λ (u : Upd E). u.object) in
        let least = ltb-false (length txn.updates) 256 most in
        let exact : length txn.updates ≡ 256 = omega (arith, few, total, least) in
        first_at (all_met run (command.Update name o op)) 5 (refl, (ap not r.has, (has_session types c run r name s is, (ap not (open_is types c run r name s is ∙ ap session.is_open e), (ap not good, ap (λ n. n == 256) (total_is run r s is txn e ∙ exact)))))))
        (λ run r who. refl)

    update_refused : (steps : List Step) (why : SessionError) → steps ≡ refused_line why ∷ [] → (s : SessionState E) → session_in c.sessions name ≡ Some s → update_refusal types.kinds.too_deep s.doing o op ≡ Some why → AppliesLive types c (command.Update name o op) steps c
    update_refused steps why is s there due = by_doing s.doing refl due
      where
        line : (w : SessionError) → Some w ≡ Some why → steps ≡ refused_line w ∷ []
        line w h = let e : why ≡ w = cc in is ∙ ap (λ y. refused_line y ∷ []) e

        by_bools : (txn : Txn E) → s.doing ≡ Open txn → (a b d : Bool) → types.kinds.too_deep o.kind op.path ≡ a → fits o.kind op.path op.act ≡ b → nat_lt (length txn.updates) 256 ≡ d → (if a then Some error.TooDeep else (if b then (if d then None else Some error.TooMany) else Some error.BadOp)) ≡ Some why → AppliesLive types c (command.Update name o op) steps c
        by_bools txn e true b d ea eb ed k = unfit s there (ap session.is_open e) (false_from_ne_true _ (λ h. true≢false (sym ea ∙ shallow h))) steps (line error.TooDeep k)
        by_bools txn e false false d ea eb ed k = unfit s there (ap session.is_open e) eb steps (line error.BadOp k)
        by_bools txn e false true false ea eb ed k = full s there txn e eb ed steps (line error.TooMany k)
        by_bools txn e false true true ea eb ed k = absurd cc

        by_doing : (d : Doing E) → s.doing ≡ d → update_refusal types.kinds.too_deep d o op ≡ Some why → AppliesLive types c (command.Update name o op) steps c
        by_doing Idle e k = not_open s there (ap session.is_open e) steps (line error.NoTxn k)
        by_doing (Ending txn lead commit) e k = not_open s there (ap session.is_open e) steps (line error.NoTxn k)
        by_doing (Open txn) e k = by_bools txn e _ _ _ refl refl refl k

    -- nothing changed where the session doesn't answer
    pub unanswered : {A X : Type 0} (r : Result A SessionError) (why : SessionError) (s : SessionState E) (later : Held E D) (sessions : List (List ℕ × SessionState E)) (told : Result Step X) → r ≡ Err why → Told (later ≡ c.sites) r (update_refusal types.kinds.too_deep s.doing o op) → session_in c.sessions name ≡ Some s → sessions ≡ c.sessions → IfOk told (λ line. (line ≡ refused_line why) × (why ≢ error.NoMemory))
        → IfOk told (λ line. AppliesLive types c (command.Update name o op) (line ∷ []) (record { sites = later; sessions = sessions }))
    unanswered r why s later sessions (Err e) is h there same x = tt
    unanswered r why s later sessions (Ok line) is h there same x =
        let due = is_due (later ≡ c.sites) r (update_refusal types.kinds.too_deep s.doing o op) why is x.1 h in
        subst (λ l. AppliesLive types c (command.Update name o op) (line ∷ []) (record { sites = later; sessions = l })) (sym same)
        (subst (λ a. AppliesLive types c (command.Update name o op) (line ∷ []) (record { sites = a; sessions = c.sessions })) (sym due.1)
        (update_refused (line ∷ []) why (ap (λ l. l ∷ []) x.0) s there due.0))

  pub update_applies : (later : Held E D) (sessions : List (List ℕ × SessionState E)) (answer : Step) (steps : List Step) → steps ≡ answer ∷ [] → (a : Acts types c.sites c.sessions name later sessions (Updates types c.sites later o op answer)) → update_refusal types.kinds.too_deep a.before.doing o op ≡ None → AppliesLive types c (command.Update name o op) steps (record { sites = later; sessions = sessions })
  update_applies later sessions answer steps is a not_refused number run r =
      subst (λ l. IsAnswer is_built run (command.Update name o op) l × GoesTo types c run r (record { sites = later; sessions = sessions }) (answered number (Some (command.Update name o op)) l run) × ShowFaults types.state run c.sites later l) (sym is)
      (by_doing a.before.doing refl not_refused d.2)
    where
      st : StandsBy run r.calls name a.before
      st = by_name types c run r name a.before a.is

      d : Updates types c.sites later o op answer a.before a.after r.calls
      d = a.does r.calls r.sees st.holds

      by_doing : (doing : Doing E) → a.before.doing ≡ doing → update_refusal types.kinds.too_deep doing o op ≡ None → MakesUpdate (λ h (p : Unit {0}) l. Sees types h l) (λ (p : Unit {0}) n. true) later tt r.calls a.before a.after o op answer doing
          → IsAnswer is_built run (command.Update name o op) (answer ∷ []) × GoesTo types c run r (record { sites = later; sessions = sessions }) (answered number (Some (command.Update name o op)) (answer ∷ []) run) × ShowFaults types.state run c.sites later (answer ∷ [])
      by_doing Idle e h m = absurd cc
      by_doing (Ending txn lead commit) e h m = absurd cc
      by_doing (Open txn) e h m =
          let may = accepted types.kinds.too_deep o op txn h in
          let place : PartId = place_in a.before (place_of o.bucket o.key a.before.parts) in
          let own : List (Upd E) = own_updates txn.updates o in
          let t = turns types later tt r.calls a.before a.after (Some txn.by) place (AskUpdate txn.tx txn.s o own op) answer m in
          let x = subst (HoldsDoing a.before.sites a.before.parts a.before.name a.before.site r.calls) e st.holds.doing in
          let u : IsUpdated a.before o (step_shown (entries r.calls) place t.event) a.after = subst (λ l. IsUpdated a.before o l a.after) t.shows d.1 in
          let b = made (entries r.calls) place a.before a.after txn o op own e x.0.session may.room st.few t.event t.asked u in
          let up = answer_up (entries r.calls) place t.event answer t.shows (told_last types later (called t.by place t.event) r.calls t.seen) in
          let most : length txn.updates < 256 = may.room in (
            subst (AnswersBy run (command.Update name o op) (answer ∷ []))
                (sym (none_due (all_met run (command.Update name o op)) (refl, (ap not r.has, (has_session types c run r name a.before a.is, (ap not (open_is types c run r name a.before a.is ∙ ap session.is_open e), (ap not may.fit, (ap (λ n. n == 256) (ap update_total (st.phase ∙ ap phase_as e) ∙ length-map txn.updates (λ (v : Upd E). v.object)) ∙ false_from_ne_true _ (λ k. let q = eqb-true (length txn.updates) 256 k in absurd (omega (arith, q, most))), tt))))))))
                (answer, refl, ap (λ z. z && true) up, subst (λ n. Bears run (command.Update n o op) answer) st.name (subst (Bears run (command.Update a.before.name o op)) (sym t.shows) (b.bears run))),
            acted types c run r number (command.Update name o op) name a.before a.is a.after place (AskUpdate txn.tx txn.s o own op) answer later t sessions (record {
              same = a.same;
              put = a.put;
              there = b.there;
              own = x.0.session ∙ st.name;
              of_session = refl;
              placed = ap (λ p. at_object (parts_of run) o p (λ v. UpdateOf v o op)) (st.phase ∙ ap phase_as e) ∙ (λ i. record { at = record { site = x.0.site_is i; part = place_of o.bucket o.key (sym st.parts i) }; call = UpdateOf txn.tx o op });
              past = tt;
              told = d.0;
              few = b.few;
              idle = λ who h line. refl;
              phase = subst (λ n. phase_after (parts_of run) n (phase run name) (Some (command.Update n o op)) answer ≡ phase_as a.after.doing) st.name (ap (phase_after (parts_of run) a.before.name (phase run name) (Some (command.Update a.before.name o op))) t.shows ∙ b.phase (parts_of run) (phase run name) st.phase);
              depends = subst (λ n. a.after.dependency ≡ dependency_after (sites_of run) (entries r.calls) n a.before.dependency t.event) st.name (b.depends (sites_of run));
            }),
            (shows_told types.state run c.sites later place answer d.0.0 (λ u k. absurd (sure (entries r.calls) place t.event (ap is_decide_ask t.asked) u (sym t.shows ∙ k))), tt),
          )
