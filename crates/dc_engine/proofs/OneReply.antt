-- One script, one reply.
use Rattle.std.proofs.Common.{None, sym, ap, ◌∙◌}
use Rattle.std.specs.Prelude.{◌≡◌, ℕ, List, reverse, map}
use Rattle.crdt_core.specs.KindsOf.{Kinds}
use Rattle.world_model.specs.commands.Cluster.{sites_of, parts_of}
use Rattle.world_model.specs.commands.Run.{Run, written_lines}
use Rattle.world_model.specs.commands.ScriptAnswers.{Answers}
use Rattle.world_model.specs.commands.ScriptCalls.{calls_of}
use Rattle.cluster.specs.Built.{is_built}
use Rattle.cluster.specs.History.{ShowsHistory}
use Rattle.one_run.specs.Tells.{Tells}
use Rattle.one_run.proofs.NextLine.{tells}
use Rattle.one_run.proofs.Script.{law_one_told, calm_tells}
use Rattle.dc_engine.specs.declared.framing.Framing.{Framing}
use Rattle.dc_engine.specs.ObjectKinds.{kinds}
use Rattle.dc_engine.specs.Only.{IsOnly}
use Rattle.dc_engine.specs.OneReply.{LawOneReply, LawOneCalmReply}
use Rattle.dc_engine.specs.Reading.{asked_of}

-- lines that a run of the world shows are lawful at each moment
tells_of : {S E : Type 0} (k : Kinds S E) (run : Run) → ShowsHistory k run → Tells k.too_deep k.meaning (sites_of run) (parts_of run) (calls_of run)
tells_of k run h = tells k (sites_of run) (parts_of run) (calls_of run) (record { events = h.events; state = h.state; is_run = h.is_run; shown = h.shown })

pub is_only : (f : Framing) (lines : List (List ℕ)) (run : Run) → Answers is_built (reverse (map (asked_of f) lines)) run → ShowsHistory kinds run → IsOnly f lines run
is_only f lines run a h told other b k one two = law_one_told kinds.too_deep kinds.meaning is_built (reverse (map (asked_of f) lines)) told other run b a (tells_of kinds other k) (tells_of kinds run h) two one

pub law_one_reply : LawOneReply
law_one_reply f spelled lines one two a b told c d = a.written ∙ (ap (written_lines spelled) (b.only told a.run a.answers a.history d c) ∙ sym b.written)

pub law_one_calm_reply : LawOneCalmReply
law_one_calm_reply f spelled lines one two a b c d = law_one_reply f spelled lines one two a b (λ r. None) (calm_tells a.run c) (calm_tells b.run d)
