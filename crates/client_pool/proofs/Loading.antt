-- What a client did, without its session.
use Rattle.std.proofs.Common.{◌≡◌, ℕ, Bool, List, sym, subst}
use Rattle.txn_session.specs.Calls.{Call}
use Rattle.txn_session.specs.Session.{Idle, SessionState}
use Rattle.txn_session.specs.Holds.{Holds}
use Rattle.client_pool.specs.declared.plan.Plan.{Plan}
use Rattle.client_pool.specs.Coming.{IsOfLeast}
use Rattle.client_pool.specs.Loads.{HasMade, HasLoad}

module _ {E S P : Type 0} (sees : S → P → List (Call E) → Type 0) (numbers : P → ℕ → Bool) (store : S) where
  -- a session that depends on nothing holds in every run
  pub has_load : (old pass : P) (s new : SessionState E) (plan : Plan) (i : ℕ) → s.doing ≡ Idle → ((run : List (Call E)) → Holds s run) → HasMade sees numbers store old s pass new plan i plan.txns → HasLoad sees numbers store old pass plan i
  has_load old pass s new plan i idle holds m = record {
    ids = m.ids;
    made = m.made;
    did = record {
      same = m.came.same;
      goes = λ k run least seen. (let g = m.came.goes k run least seen (holds run) (subst (IsOfLeast (numbers old)) (sym idle) tt) in record { more = g.more; apart = g.apart; follows = g.follows; seen = g.seen });
    };
  }
