-- What the calls of a transaction add up to.
use Rattle.std.proofs.Common.{◌≡◌, ℕ, Bool, true, false, List, [], ◌∷◌, ◌++◌, cond, refl, sym, ap, ◌∙◌, subst}
use Rattle.std.specs.Prelude.{map, filter, ◌||◌, ◌==◌}
use Rattle.std.specs.List.{list_any}
use Rattle.std.proofs.lemmas.List.{map-append, append_assoc}
use Rattle.site_vector.specs.declared.ids.TxId.{TxId}
use Rattle.crdt_core.specs.declared.object.ObjectId.{ObjectId}
use Rattle.crdt_core.specs.declared.operation.Op.{Op}
use Rattle.crdt_core.specs.declared.record.Upd.{Upd}
use Rattle.txn_session.specs.Calls.{Call}
use Rattle.txn_session.specs.Session.{Txn, Doing, Open, SessionState, is_open, doing_so, updates_of, participants, numbers_from}
use Rattle.txn_session.specs.Opens.{updated, with_update}
use Rattle.client_pool.specs.Deeds.{Deed, Reads, Updates}
use Rattle.client_pool.specs.Coming.{IsSession, Ready, Came}
use Rattle.client_pool.specs.Sessions.{reading, updating, HasUpdated}
use Rattle.client_pool.specs.Works.{HasOpen, parts_with}
use Rattle.client_pool.specs.Commits.{committing, committing_at}
use Rattle.crdt_core.specs.Placing.{place_of}
use Rattle.world_model.specs.rules.Plan.{is_some_update}
use Rattle.client_pool.proofs.Coming.{came_more, ready_next}

pub three_more : (os : List ObjectId) (a b c : ObjectId) → ((os ++ a ∷ []) ++ b ∷ []) ++ c ∷ [] ≡ os ++ (a ∷ b ∷ c ∷ [])
three_more os a b c = append_assoc (os ++ a ∷ []) (b ∷ []) (c ∷ []) ∙ append_assoc os (a ∷ []) (b ∷ c ∷ [])

filter_as : (f h : ℕ → Bool) (xs : List ℕ) → ((x : ℕ) → f x ≡ h x) → filter f xs ≡ filter h xs
filter_as f h [] e = refl
filter_as f h (x ∷ xs) e = (λ i. cond (e x i) (x ∷ filter_as f h xs e i) (filter_as f h xs e i))

module _ {E : Type 0} where
  any_cond : (x : Bool) (u : Upd E) (l : List (Upd E)) → is_some_update (cond x (u ∷ l) l) ≡ (x || is_some_update l)
  any_cond true u l = refl
  any_cond false u l = refl

  any_update : (parts p : ℕ) (updates : List (Upd E)) → is_some_update (updates_of parts updates p) ≡ list_any (λ o. place_of o.bucket o.key parts == p) (map (λ (u : Upd E). u.object) updates)
  any_update parts p [] = refl
  any_update parts p (u ∷ updates) = any_cond (place_of u.object.bucket u.object.key parts == p) u (updates_of parts updates p) ∙ ap (λ b. (place_of u.object.bucket u.object.key parts == p) || b) (any_update parts p updates)

  -- who takes part, by the objects alone
  pub participants_are : (parts : ℕ) (updates : List (Upd E)) (os : List ObjectId) → map (λ (u : Upd E). u.object) updates ≡ os → participants parts updates ≡ parts_with parts os
  participants_are parts updates os e = filter_as _ _ (numbers_from 1 parts) (λ p. any_update parts p updates) ∙ ap (parts_with parts) e

  pub committing_is : (s : SessionState E) (tx : TxId) (os : List ObjectId) → HasOpen s tx os → committing s s.doing ≡ committing_at s.site tx (parts_with s.parts os)
  committing_is s tx os h = ap (committing s) h.opened ∙ (λ i. committing_at s.site (h.named i) (participants_are s.parts h.txn.updates os h.objects i))

  -- its reads and updates are of the open transaction
  pub reading_is : (s : SessionState E) (tx : TxId) (os : List ObjectId) (o : ObjectId) → HasOpen s tx os → reading s.doing o ≡ Reads tx o ∷ []
  reading_is s tx os o h = ap (λ d. reading d o) h.opened ∙ ap (λ t. Reads t o ∷ []) h.named

  pub updating_is : (s : SessionState E) (tx : TxId) (os : List ObjectId) (o : ObjectId) (op : Op) → HasOpen s tx os → updating s.doing o op ≡ Updates tx o op ∷ []
  updating_is s tx os o op h = ap (λ d. updating d o op) h.opened ∙ ap (λ t. Updates t o op ∷ []) h.named

  pub is_opened : (s : SessionState E) (tx : TxId) (os : List ObjectId) → HasOpen s tx os → is_open s.doing ≡ true
  is_opened s tx os h = ap is_open h.opened

  -- and one update more
  pub opened_more : (s u : SessionState E) (tx : TxId) (os : List ObjectId) (o : ObjectId) → HasUpdated s o u → HasOpen s tx os → HasOpen u tx (os ++ o ∷ [])
  opened_more s u tx os o x h = record {
    txn = with_update h.txn o x.0;
    opened = ap (λ (w : SessionState E). w.doing) x.1 ∙ ap (λ d. updated d o x.0) h.opened;
    named = h.named;
    objects = map-append (λ (v : Upd E). v.object) h.txn.updates _ ∙ ap (λ l. l ++ o ∷ []) h.objects;
  }

  pub still_open : (d : Doing E) (o : ObjectId) (effect : E) → is_open d ≡ true → is_open (updated d o effect) ≡ true
  still_open (Open txn) o effect h = refl
  still_open other o effect h = absurd cc

  pub updated_open : (s u : SessionState E) (o : ObjectId) → HasUpdated s o u → is_open s.doing ≡ true → is_open u.doing ≡ true
  updated_open s u o x h = ap (λ (w : SessionState E). is_open w.doing) x.1 ∙ still_open s.doing o x.0 h

  pub updated_session : (s u : SessionState E) (o : ObjectId) → HasUpdated s o u → IsSession s u
  updated_session s u o x = record { name = ap (λ (w : SessionState E). w.name) x.1; site = ap (λ (w : SessionState E). w.site) x.1; sites = ap (λ (w : SessionState E). w.sites) x.1; parts = ap (λ (w : SessionState E). w.parts) x.1 }

  module _ {S P : Type 0} (sees : S → P → List (Call E) → Type 0) (numbers : P → ℕ → Bool) (store : S) where
    pub came_as : (old pass : P) (s new : SessionState E) (a b : List Deed) → a ≡ b → Came sees numbers store old s pass new a → Came sees numbers store old s pass new b
    came_as old pass s new a b e c = subst (λ l. Came sees numbers store old s pass new l) e c
