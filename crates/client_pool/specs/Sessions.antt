-- What a session's calls do.
use Rattle.std.specs.Prelude.{◌≡◌, ℕ, List, [], ◌∷◌}
use Rattle.site_vector.specs.declared.ids.PartId.{PartId}
use Rattle.site_vector.specs.declared.ids.TxId.{TxId}
use Rattle.crdt_core.specs.declared.object.ObjectId.{ObjectId}
use Rattle.crdt_core.specs.declared.operation.Op.{Op}
use Rattle.crdt_core.specs.Placing.{place_of}
use Rattle.txn_session.specs.Session.{Doing, Idle, Open, Ending, SessionState, place_in, doing_so}
use Rattle.txn_session.specs.Opens.{updated}
use Rattle.client_pool.specs.Deeds.{Deed, Reads, Updates}

module _ {E : Type 0} where
  -- the place of an object at the session's site
  abbrev pub place_for : SessionState E → ObjectId → PartId
  place_for s o = place_in s (place_of o.bucket o.key s.parts)

  -- a read in its open transaction
  abbrev pub reading : Doing E → ObjectId → List Deed
  reading (Open txn) o = Reads txn.tx o ∷ []
  reading other o = []

  -- an update in it
  abbrev pub updating : Doing E → ObjectId → Op → List Deed
  updating (Open txn) o op = Updates txn.tx o op ∷ []
  updating other o op = []

  -- its transaction has one update of the object more
  abbrev pub HasUpdated : SessionState E → ObjectId → SessionState E → Type 0
  HasUpdated old o new = (effect : E) × (new ≡ doing_so old (updated old.doing o effect))
