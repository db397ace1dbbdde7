-- A pass that is split, what becomes of the two, and what they meet in.
use Rattle.std.proofs.Common.{◌≡◌, ◌≢◌, inl, inr, ◌⊎◌, ⊎_elim, ℕ, ◌+◌, ◌≤◌, ◌<◌, ◌==◌, Bool, true, false, List, [], ◌∷◌, ◌++◌, refl, sym, ap, ◌∙◌, subst, eq-eqb, arith, append-nil}
use Rattle.std.specs.Prelude.{Result, Ok, Err, IfOk, IfErr, ◌||◌}
use Rattle.std.proofs.lemmas.Bool.{true≢false, eqb-true}
use Rattle.site_vector.specs.declared.ids.PartId.{PartId}
use Rattle.txn_session.specs.Calls.{Call, NoneBears}
use Rattle.txn_session.specs.Numbers.{IsLeast, made_by}
use Rattle.client_pool.specs.declared.fault.Fault.{Fault}
use Rattle.client_pool.specs.declared.fault.Fault.TheVariants as fault
use Rattle.client_pool.specs.declared.plan.Plan.{Plan}
use Rattle.client_pool.specs.Deeds.{Follows, HasStopped}
use Rattle.client_pool.specs.Coming.{HasDown, IsStopped}
use Rattle.client_pool.specs.Loads.{HasSeen, HasLoad}
use Rattle.client_pool.specs.Rows.{Row, row_of, AreRows}
use Rattle.client_pool.specs.Works.{load_done}
use Rattle.client_pool.specs.Crowds.{AreNew, IsSplit, IsMet, Crowd, HasCrowd, first_fault}
use Rattle.client_pool.proofs.Coming.{made_append}
use Rattle.client_pool.proofs.Rows.{least_same, made_other}

if_first : (a b : Bool) → a ≡ true → (a || b) ≡ true
if_first a b h = ap (λ x. x || b) h

if_second : (a b : Bool) → b ≡ true → (a || b) ≡ true
if_second true b h = refl
if_second false b h = h

one_of_both : (a b : Bool) → (a || b) ≡ true → (a ≡ true) ⊎ (b ≡ true)
one_of_both true b h = inl refl
one_of_both false b h = inr h

not_true : (a : Bool) → ((a ≡ true) → ⊥) → a ≡ false
not_true true h = absurd (h refl)
not_true false h = refl

module _ {E : Type 0} where
  none_by : (numbers : ℕ → Bool) (n : ℕ) (run : List (Call E)) → NoneBears numbers run → numbers n ≡ true → made_by n run ≡ []
  none_by numbers n [] h held = refl
  none_by numbers n (c ∷ run) h held = made_other n c run (λ e. true≢false (sym held ∙ (sym (ap numbers e) ∙ h.0))) ∙ none_by numbers n run h.1 held

  -- others' calls after and before mine
  unmade : (numbers : ℕ → Bool) (n : ℕ) (more run : List (Call E)) → NoneBears numbers more → numbers n ≡ true → made_by n (more ++ run) ≡ made_by n run
  unmade numbers n more run h held = made_append n more run ∙ ap (λ l. l ++ made_by n run) (none_by numbers n more h held)

  made_alone : (numbers : ℕ → Bool) (n : ℕ) (more run : List (Call E)) → NoneBears numbers run → numbers n ≡ true → made_by n (more ++ run) ≡ made_by n more
  made_alone numbers n more run h held = made_append n more run ∙ (ap (λ l. made_by n more ++ l) (none_by numbers n run h held) ∙ append-nil (made_by n more))

new_same : (old new : ℕ → Bool) (rows : List Row) → ((n : ℕ) → new n ≡ old n) → AreNew new rows → AreNew old rows
new_same old new [] same a = tt
new_same old new (row ∷ rows) same a = (sym (same row.number) ∙ a.0, new_same old new rows same a.1)

module _ {E : Type 0} where
  rows_on : (old new : ℕ → Bool) (run whole : List (Call E)) (rows : List Row) → ((n : ℕ) → old n ≡ true → new n ≡ true) → ((n : ℕ) → old n ≡ true → made_by n whole ≡ made_by n run) → AreRows old run rows → AreRows new whole rows
  rows_on old new run whole [] keeps same r = tt
  rows_on old new run whole (row ∷ rows) keeps same r = (
    keeps row.number r.0,
    subst (Follows row.done) (sym (same row.number r.0)) r.1,
    rows_on old new run whole rows keeps same r.2,
  )

module _ {E S P : Type 0} (sees : S → P → List (Call E) → Type 0) (numbers : P → ℕ → Bool) (store : S) where
  module _ (pass rest own : P) (s : IsSplit sees numbers store pass rest own) where
    own_held : numbers own s.is_new.number ≡ true
    own_held = s.is_new.one s.is_new.number ∙ eq-eqb s.is_new.number s.is_new.number refl

    own_least : IsLeast (numbers own) s.is_new.number
    own_least = (own_held, λ n h. (let e : n ≡ s.is_new.number = eqb-true n s.is_new.number (sym (s.is_new.one n) ∙ h) in omega arith))

    own_apart : numbers pass s.is_new.number ≡ false
    own_apart = not_true (numbers pass s.is_new.number) (λ h. (let u = s.is_new.above s.is_new.number h in omega arith))

    -- both have a number to call by, and have seen a run
    pub rest_seen : HasSeen sees numbers store pass → HasSeen sees numbers store rest
    rest_seen h = let t = s.stays h.run h.seen in record { number = h.number; is_least = least_same (numbers pass) (numbers rest) h.number s.same h.is_least; run = _; seen = t.seen }

    pub own_seen : HasSeen sees numbers store pass → HasSeen sees numbers store own
    own_seen h = let t = s.still h.run h.seen in record { number = s.is_new.number; is_least = own_least; run = t.whole; seen = t.seen }

    module _ (after mine met : P) (m : IsMet sees numbers store after mine met) (same : (n : ℕ) → numbers mine n ≡ numbers own n) where
      pub met_keeps : ((n : ℕ) → numbers rest n ≡ true → numbers after n ≡ true) → (n : ℕ) → numbers pass n ≡ true → numbers met n ≡ true
      met_keeps keeps n h = m.both n ∙ if_first (numbers after n) (numbers mine n) (keeps n (s.same n ∙ h))

      pub met_least : ((k : ℕ) → IsLeast (numbers rest) k → IsLeast (numbers after) k) → (k : ℕ) → IsLeast (numbers pass) k → IsLeast (numbers met) k
      met_least least k l =
          let r = least k (least_same (numbers pass) (numbers rest) k s.same l) in (
            m.both k ∙ if_first (numbers after k) (numbers mine k) r.0,
            λ n h. ⊎_elim (λ a. r.1 n a) (λ b. (
                let e : n ≡ s.is_new.number = eqb-true n s.is_new.number (sym (s.is_new.one n) ∙ (sym (same n) ∙ b)) in
                let u = s.is_new.above k l.0 in omega arith)) (one_of_both (numbers after n) (numbers mine n) (sym (m.both n) ∙ h)),
          )

      down_first : (part : PartId) → HasDown sees numbers store after part → HasDown sees numbers store met part
      down_first part d =
          let x = m.one d.run d.seen in
          record { run = x.whole; seen = x.seen; number = d.number; held = m.both d.number ∙ if_first (numbers after d.number) (numbers mine d.number) d.held; call = subst (HasStopped part) (sym (x.same d.number d.held)) d.call }

      down_second : (part : PartId) → HasDown sees numbers store mine part → HasDown sees numbers store met part
      down_second part d =
          let x = m.other d.run d.seen in
          record { run = x.whole; seen = x.seen; number = d.number; held = m.both d.number ∙ if_second (numbers after d.number) (numbers mine d.number) d.held; call = subst (HasStopped part) (sym (x.same d.number d.held)) d.call }

      stopped_first : (f : Fault) → IsStopped sees numbers store after f → IsStopped sees numbers store met f
      stopped_first fault.NoMemory h = tt
      stopped_first (fault.Down part) h = down_first part h

      stopped_second : (f : Fault) → IsStopped sees numbers store mine f → IsStopped sees numbers store met f
      stopped_second fault.NoMemory h = tt
      stopped_second (fault.Down part) h = down_second part h

      met_stopped : (x y : Result (Unit {0}) Fault) → IfErr x (λ f. IsStopped sees numbers store mine f) → IfErr y (λ f. IsStopped sees numbers store after f) → IfErr (first_fault x y) (λ f. IsStopped sees numbers store met f)
      met_stopped (Ok u) (Ok v) a b = tt
      met_stopped (Ok u) (Err f) a b = stopped_first f b
      met_stopped (Err f) y a b = stopped_second f a

      -- the first fault of two
      pub met_fault : (x y r : Result (Unit {0}) Fault) → r ≡ first_fault x y → IfErr x (λ f. IsStopped sees numbers store mine f) → IfErr y (λ f. IsStopped sees numbers store after f) → IfErr r (λ f. IsStopped sees numbers store met f)
      met_fault x y r e a b = subst (λ w. IfErr w (λ f. IsStopped sees numbers store met f)) (sym e) (met_stopped x y a b)

      module _ (keeps : (n : ℕ) → numbers rest n ≡ true → numbers after n ≡ true) (agrees : (run other : List (Call E)) → sees store met run → sees store met other → (n : ℕ) → numbers met n ≡ true → made_by n run ≡ made_by n other) (plan : Plan) (i : ℕ) (within : i ≤ plan.clients) where
        -- one client and the clients after it
        crowd_more : HasLoad sees numbers store own mine plan i → HasCrowd sees numbers store rest after plan (i + 1) → HasCrowd sees numbers store pass met plan i
        crowd_more load crowd run seen =
            let k = s.is_new.number in
            let t = s.stays run seen in
            let c = crowd (t.more ++ run) t.seen in
            let o = s.still run seen in
            let d = load.did.goes k o.whole own_least o.seen in
            let x = m.one c.whole c.seen in
            let y = m.other (d.more ++ o.whole) d.seen in
            let held : numbers mine k ≡ true = same k ∙ own_held in
            let here : numbers met k ≡ true = m.both k ∙ if_second (numbers after k) (numbers mine k) held in
            let calls : made_by k x.whole ≡ made_by k d.more = agrees x.whole y.whole x.seen y.seen k here ∙ (y.same k held ∙ made_alone (numbers own) k d.more o.whole (s.unborne o.whole o.seen) own_held) in
            record {
              clients = row_of k (load_done plan i load.ids) ∷ c.clients;
              loads = (within, record { ids = load.ids; made = load.made; done = refl }, c.loads);
              apart = (own_apart, new_same (numbers pass) (numbers rest) c.clients s.same c.apart);
              whole = x.whole;
              same = λ n h. x.same n (keeps n (s.same n ∙ h)) ∙ (c.same n (s.same n ∙ h) ∙ unmade (numbers rest) n t.more run t.others (s.same n ∙ h));
              seen = x.seen;
              stand = (
                here,
                subst (Follows (load_done plan i load.ids)) (sym calls) d.follows,
                rows_on (numbers after) (numbers met) c.whole x.whole c.clients (λ n h. m.both n ∙ if_first (numbers after n) (numbers mine n) h) x.same c.stand,
              );
            }

        crowd_both : (x y : Result (Unit {0}) Fault) → IfOk x (λ u. HasLoad sees numbers store own mine plan i) → IfOk y (λ u. HasCrowd sees numbers store rest after plan (i + 1)) → IfOk (first_fault x y) (λ u. HasCrowd sees numbers store pass met plan i)
        crowd_both (Ok u) (Ok v) a b = crowd_more a b
        crowd_both (Ok u) (Err f) a b = tt
        crowd_both (Err f) y a b = tt

        pub met_crowd : (x y r : Result (Unit {0}) Fault) → r ≡ first_fault x y → IfOk x (λ u. HasLoad sees numbers store own mine plan i) → IfOk y (λ u. HasCrowd sees numbers store rest after plan (i + 1)) → IfOk r (λ u. HasCrowd sees numbers store pass met plan i)
        met_crowd x y r e a b = subst (λ w. IfOk w (λ u. HasCrowd sees numbers store pass met plan i)) (sym e) (crowd_both x y a b)

  -- where no client is left
  pub no_crowd : (pass : P) (plan : Plan) (i : ℕ) → plan.clients < i → HasCrowd sees numbers store pass pass plan i
  no_crowd pass plan i h run seen = record { clients = []; loads = h; apart = tt; whole = run; same = λ n held. refl; seen = seen; stand = tt }
