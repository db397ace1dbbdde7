-- How what calls come to is put together.
use Rattle.std.proofs.Common.{◌≡◌, inl, inr, ⊎_elim, ℕ, ◌==◌, cond, Bool, true, false, List, [], ◌∷◌, ◌++◌, refl, sym, ap, ◌∙◌, subst, append_assoc, append-nil}
use Rattle.std.specs.Prelude.{Option, None, Some}
use Rattle.std.proofs.lemmas.Bool.{true≢false}
use Rattle.txn_session.specs.Calls.{Call, NoneBears}
use Rattle.txn_session.specs.Numbers.{IsLeast, made_by}
use Rattle.txn_session.specs.Session.{Doing, Idle, Open, Ending, SessionState}
use Rattle.txn_session.specs.Holds.{Holds, HoldsNumber, Mays}
use Rattle.client_pool.specs.Deeds.{Deed, Follows, is_between}
use Rattle.client_pool.specs.Coming.{AreOwn, IsOfLeast, IsSession, Ready, GoesSo, Came}
use Rattle.client_pool.proofs.Rows.{between, least_same}

-- two lists of calls, one after the other
module _ {E : Type 0} where
  cond_append : (b : Bool) (c : Call E) (more run : List (Call E)) → cond b (c ∷ (more ++ run)) (more ++ run) ≡ cond b (c ∷ more) more ++ run
  cond_append true c more run = refl
  cond_append false c more run = refl

  pub made_append : (k : ℕ) (more run : List (Call E)) → made_by k (more ++ run) ≡ made_by k more ++ made_by k run
  made_append k [] run = refl
  made_append k (c ∷ more) run = ap (λ l. cond (c.by == k) (c ∷ l) l) (made_append k more run) ∙ cond_append (c.by == k) c (made_by k more) (made_by k run)

  pub follows_append : (later deeds : List Deed) (more calls : List (Call E)) → Follows later more → Follows deeds calls → Follows (later ++ deeds) (more ++ calls)
  follows_append [] deeds [] calls f g = g
  follows_append (d ∷ later) deeds [] calls f g = absurd f
  follows_append [] deeds (c ∷ more) calls f g = between deeds c (more ++ calls) f.0 (follows_append [] deeds more calls f.1 g)
  follows_append (d ∷ later) deeds (c ∷ more) calls f g =
      ⊎_elim
      (λ x. inl (x.0, follows_append later deeds more calls x.1 g))
      (λ x. inr (x.0, follows_append (d ∷ later) deeds more calls x.1 g))
      f

  pub own_append : (numbers : ℕ → Bool) (k : ℕ) (more calls : List (Call E)) → AreOwn numbers k more → AreOwn numbers k calls → AreOwn numbers k (more ++ calls)
  own_append numbers k [] calls a b = b
  own_append numbers k (c ∷ more) calls a b = (a.0, own_append numbers k more calls a.1 b)

  own_same : (old new : ℕ → Bool) (k : ℕ) (calls : List (Call E)) → ((n : ℕ) → new n ≡ old n) → AreOwn old k calls → AreOwn new k calls
  own_same old new k [] same a = tt
  own_same old new k (c ∷ calls) same a = (⊎_elim (λ x. inl x) (λ x. inr (same c.by ∙ x)) a.0, own_same old new k calls same a.1)

  pub of_least_same : (old new : ℕ → Bool) (d : Doing E) → ((n : ℕ) → new n ≡ old n) → IsOfLeast old d → IsOfLeast new d
  of_least_same old new Idle same l = tt
  of_least_same old new (Open txn) same l = least_same old new txn.by same l
  of_least_same old new (Ending txn lead commit) same l = least_same old new txn.by same l

  -- the number is held
  pub number_held : (numbers : ℕ → Bool) (d : Doing E) → IsOfLeast numbers d → HoldsNumber numbers d
  number_held numbers Idle l = tt
  number_held numbers (Open txn) l = l.0
  number_held numbers (Ending txn lead commit) l = l.0

  pub session_same : (s : SessionState E) → IsSession s s
  session_same s = record { name = refl; site = refl; sites = refl; parts = refl }

  pub session_next : (a b c : SessionState E) → IsSession a b → IsSession b c → IsSession a c
  session_next a b c x y = record { name = y.name ∙ x.name; site = y.site ∙ x.site; sites = y.sites ∙ x.sites; parts = y.parts ∙ x.parts }

  module _ {S P : Type 0} (sees : S → P → List (Call E) → Type 0) (numbers : P → ℕ → Bool) (store : S) where
    pub ready_may : (pass : P) (s : SessionState E) → Ready sees numbers store pass s → Mays sees numbers store pass s
    ready_may pass s r = record { held = number_held (numbers pass) s.doing r.own; run = r.run; seen = r.seen; holds = r.holds }

    pub ready_next : (old pass : P) (s new : SessionState E) (deeds : List Deed) → Ready sees numbers store old s → Came sees numbers store old s pass new deeds → Ready sees numbers store pass new
    ready_next old pass s new deeds r c =
        let g = c.goes r.number r.run r.is_least r.seen r.holds r.own in
        record { number = r.number; is_least = least_same (numbers old) (numbers pass) r.number c.same r.is_least; run = g.more ++ r.run; seen = g.seen; holds = g.holds; own = g.own }

    pub came_none : (pass : P) (s : SessionState E) → Came sees numbers store pass s pass s []
    came_none pass s = record { same = λ n. refl; goes = λ k run l seen holds own. record { more = []; apart = tt; follows = tt; seen = seen; holds = holds; own = own } }

    pub came_more : (old mid pass : P) (s t new : SessionState E) (deeds later : List Deed) → Came sees numbers store old s mid t deeds → Came sees numbers store mid t pass new later → Came sees numbers store old s pass new (later ++ deeds)
    came_more old mid pass s t new deeds later a b = record {
      same = λ n. b.same n ∙ a.same n;
      goes = λ k run l seen holds own. (
          let x = a.goes k run l seen holds own in
          let y = b.goes k (x.more ++ run) (least_same (numbers old) (numbers mid) k a.same l) x.seen x.holds x.own in
          let e : y.more ++ (x.more ++ run) ≡ (y.more ++ x.more) ++ run = sym (append_assoc y.more x.more run) in
          record {
            more = y.more ++ x.more;
            apart = own_append (numbers pass) k y.more x.more y.apart (own_same (numbers mid) (numbers pass) k x.more b.same x.apart);
            follows = subst (Follows (later ++ deeds)) (sym (made_append k y.more x.more)) (follows_append later deeds (made_by k y.more) (made_by k x.more) y.follows x.follows);
            seen = subst (sees store pass) e y.seen;
            holds = subst (Holds new) e y.holds;
            own = y.own;
          });
    }
