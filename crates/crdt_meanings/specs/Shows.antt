-- What the acts of a kind without fields do to what it shows.
use Rattle.std.specs.Prelude.{◌≡◌, ◌≢◌, List, [], ◌∷◌}
use Rattle.crdt_core.specs.declared.kind.Kind.{Kind}
use Rattle.crdt_core.specs.declared.kind.Kind.TheVariants.{CounterPn, CounterFat, SetGo, SetAw, SetRw, FlagEw, FlagDw, RegisterLww, RegisterMv}
use Rattle.crdt_core.specs.declared.operation.Act.{Act}
use Rattle.crdt_core.specs.declared.value.Value.{Value}
use Rattle.crdt_core.specs.declared.value.Value.TheVariants.{Fields}
use Rattle.crdt_core.specs.Seen.{Update}
use Rattle.crdt_core.specs.History.{IsHistory}
use Rattle.crdt_meanings.specs.CounterMeaning.{counter_meaning}
use Rattle.crdt_meanings.specs.FlagMeaning.{ew_meaning, dw_meaning}
use Rattle.crdt_meanings.specs.SetMeaning.{go_meaning, aw_meaning, rw_meaning}
use Rattle.crdt_meanings.specs.RegisterMeaning.{lww_meaning, mv_meaning}

-- what a kind without fields shows of its updates
abbrev pub plain_meaning : Kind → List Update → Value
plain_meaning CounterPn us = counter_meaning CounterPn us
plain_meaning CounterFat us = counter_meaning CounterFat us
plain_meaning SetGo us = go_meaning SetGo us
plain_meaning SetAw us = aw_meaning SetAw us
plain_meaning SetRw us = rw_meaning SetRw us
plain_meaning FlagEw us = ew_meaning FlagEw us
plain_meaning FlagDw us = dw_meaning FlagDw us
plain_meaning RegisterLww us = lww_meaning RegisterLww us
plain_meaning RegisterMv us = mv_meaning RegisterMv us
plain_meaning k us = Fields []

-- after some history, an update with the act changes what is shown
abbrev pub Shows : Kind → Act → Type 0
Shows k a = (us : List Update) × (u : Update) × IsHistory (u ∷ us) × (u.act ≡ a) × (plain_meaning k (u ∷ us) ≢ plain_meaning k us)

-- no update with the act changes what is shown
abbrev pub IsSilent : Kind → Act → Type 0
IsSilent k a = (us : List Update) (u : Update) → u.act ≡ a → plain_meaning k (u ∷ us) ≡ plain_meaning k us
