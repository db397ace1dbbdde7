-- Where steps are made, and what they are handed.
use Rattle.std.specs.Prelude.{◌≡◌, ℕ, true, List, [], ◌∷◌, ⊤}
use Rattle.site_vector.specs.declared.ids.PartId.{PartId}
use Rattle.site_vector.specs.declared.ids.TxId.{TxId}
use Rattle.crdt_core.specs.declared.object.ObjectId.{ObjectId}
use Rattle.crdt_core.specs.Placing.{place_of}
use Rattle.world_model.specs.rules.Event.{AskRead, AskUpdate, AskPrepare, AskDecide, AskTake, Event, Began, Updated, Read, Prepared, Took, Heard, Refused, Cut, Entry}
use Rattle.world_model.specs.events.Dependency.{is_of}
use Rattle.world_model.specs.rules.Plan.{Plan, takes_part, MayTake, MayHear, IsNew}
use Rattle.world_model.specs.lines.Places.{home}

module _ {E : Type 0} where
  -- t reads and updates the object where it stands, at its own site
  pub record IsPlacedAt (plan : Plan E) (run : List (Entry E)) (p : PartId) (t : TxId) (o : ObjectId) : Type 0 where
    pub site : p.site ≡ t.site
    pub part : place_of o.bucket o.key plan.parts ≡ p.part
    -- a session began it
    pub who : List ℕ
    pub begun : is_of run who t ≡ true

  -- what is refused was handed what its session holds, and a decide is asked at the transaction's site; a begin names its partition; a message that is taken was sent to here, and a report that is heard was made
  -- of what was cut off, and of what is refused, the place as of what was answered
  abbrev pub HandedAt : Plan E → List (Entry E) → PartId → Event E → Type 0
  HandedAt plan run p (Began who dep t s) = home t ≡ p
  HandedAt plan run p (Read t s o own read value) = IsPlacedAt plan run p t o
  HandedAt plan run p (Updated t s o own op read u stamp) = IsPlacedAt plan run p t o × (u.object ≡ o)
  HandedAt plan run p (Took number m) = MayTake plan run p number m
  HandedAt plan run p (Refused (AskTake number m) why) = MayTake plan run p number m
  HandedAt plan run p (Refused (AskRead t s o own) why) = (s ≡ plan.snapshot t) × IsPlacedAt plan run p t o
  HandedAt plan run p (Refused (AskUpdate t s o own op) why) = (s ≡ plan.snapshot t) × IsPlacedAt plan run p t o
  HandedAt plan run p (Refused (AskPrepare t s l w) why) = takes_part plan t p ≡ true
  HandedAt plan run p (Prepared t s l w n) = takes_part plan t p ≡ true
  HandedAt plan run p (Cut (Read t s o own read value)) = (s ≡ plan.snapshot t) × IsPlacedAt plan run p t o
  HandedAt plan run p (Cut (Updated t s o own op read u stamp)) = (s ≡ plan.snapshot t) × IsPlacedAt plan run p t o
  HandedAt plan run p (Cut (Prepared t s l w n)) = (s ≡ plan.snapshot t) × (takes_part plan t p ≡ true)
  HandedAt plan run p (Cut (Took number m)) = MayTake plan run p number m
  HandedAt plan run p (Refused (AskDecide t c) why) = p.site ≡ t.site
  HandedAt plan run p (Heard number q b stable) = MayHear plan run p number q b
  HandedAt plan run p other = ⊤

  abbrev pub AreNew : List (Entry E) → Type 0
  AreNew [] = ⊤
  AreNew (e ∷ run) = IsNew run e.event × AreNew run

  abbrev pub AreHanded : Plan E → List (Entry E) → Type 0
  AreHanded plan [] = ⊤
  AreHanded plan (e ∷ run) = HandedAt plan run e.at e.event × AreHanded plan run
