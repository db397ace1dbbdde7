-- A partition that is down is asked, and answers so: no call is made, and the run goes on by that.
use Rattle.std.proofs.Common.{◌≡◌, false, List, ◌∷◌, refl}
use Rattle.site_vector.specs.declared.ids.PartId.{PartId}
use Rattle.site_vector.specs.declared.ids.TxId.{TxId}
use Rattle.world_model.specs.rules.Event.{AskAbort, AskReport, IsDown, Refused}
use Rattle.world_model.specs.lines.Places.{IsPlace}
use Rattle.txn_session.specs.Calls.{Call, called}
use Rattle.site_partitions.specs.Held.{Held}
use Rattle.site_partitions.specs.Reaches.{Types}
use Rattle.cluster.specs.Sees.{Sees}

module _ {S E D : Type 0} (types : Types S E D) (c : Held E D) (calls : List (Call E)) (at : PartId) (place : IsPlace c.sites c.parts at) (s : Sees types c calls) (down : (s.reached.state at).up ≡ false) where
  -- for an abort
  pub down_abort : (t : TxId) → Sees types c (called 0 at (Refused (AskAbort t) IsDown) ∷ calls)
  down_abort t = record {
    reached = record {
      state = s.reached.state;
      is_run = (s.reached.state, s.reached.is_run, record { place = place; allowed = tt; fit = tt; step = ((down, refl), refl); others = λ q k. refl }, tt);
      puts = (tt, s.reached.puts);
      each = s.reached.each;
    };
    one_caller = (refl, s.one_caller);
    rooms = (tt, s.rooms);
  }

  -- for a report
  pub down_report : Sees types c (called 0 at (Refused AskReport IsDown) ∷ calls)
  down_report = record {
    reached = record {
      state = s.reached.state;
      is_run = (s.reached.state, s.reached.is_run, record { place = place; allowed = tt; fit = tt; step = ((down, refl), refl); others = λ q k. refl }, tt);
      puts = (tt, s.reached.puts);
      each = s.reached.each;
    };
    one_caller = (refl, s.one_caller);
    rooms = (tt, s.rooms);
  }
