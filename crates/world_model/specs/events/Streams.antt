-- What a message bears: its sender, where it begins, as asked or where the last one to the site ended, and its parts in order.
use Rattle.std.specs.Prelude.{◌≡◌, ◌⊎◌, ℕ, ◌<◌, ◌==◌, if◌then◌else◌, List, [], ◌∷◌, Option, ⊤}
use Rattle.site_vector.specs.declared.ids.PartId.{PartId}
use Rattle.site_vector.specs.Ids.{same_part}
use Rattle.site_vector.specs.Vector.{entry}
use Rattle.crdt_core.specs.declared.record.Part.{Part}
use Rattle.crdt_core.specs.declared.record.Message.{Message}
use Rattle.world_model.specs.rules.Event.{Event, Sent, Restarted, Entry}
use Rattle.world_model.specs.lines.Places.{IsOther}
use Rattle.world_model.specs.rules.Plan.{Plan}
use Rattle.world_model.specs.lines.Listed.{IsIdBefore, AreInOrder}
use Rattle.world_model.specs.lines.Streams.{low_of}

module _ {E : Type 0} where
  abbrev pub sent_after : ℕ → ℕ → Event E → ℕ
  sent_after j old (Sent asked m) = if m.to == j then m.hi else old
  sent_after j old (Restarted n b named listed) = 0
  sent_after j old other = old

  -- the end of the last message from p to site j since its last restart
  abbrev pub last_sent : List (Entry E) → PartId → ℕ → ℕ
  last_sent [] p j = 0
  last_sent (e ∷ run) p j = if same_part e.at p then sent_after j (last_sent run p j) e.event else last_sent run p j

  -- by commit time at its site, and at the same time by id
  abbrev pub IsSentBefore : ℕ → Part E → Part E → Type 0
  IsSentBefore site x y = (entry x.c site < entry y.c site) ⊎ ((entry x.c site ≡ entry y.c site) × IsIdBefore x.tx y.tx)

  pub record IsSentFrom (plan : Plan E) (run : List (Entry E)) (p : PartId) (asked : Option ℕ) (m : Message E) : Type 0 where
    pub from : m.from ≡ p.site
    pub part : m.part ≡ p.part
    pub to : IsOther plan.sites p.site m.to
    pub lo : m.lo ≡ low_of asked (last_sent run p m.to)
    pub order : AreInOrder (IsSentBefore p.site) m.parts

  abbrev pub SendsAt : Plan E → List (Entry E) → PartId → Event E → Type 0
  SendsAt plan run p (Sent asked m) = IsSentFrom plan run p asked m
  SendsAt plan run p other = ⊤

  abbrev pub Send : Plan E → List (Entry E) → Type 0
  Send plan [] = ⊤
  Send plan (e ∷ run) = SendsAt plan run e.at e.event × Send plan run
