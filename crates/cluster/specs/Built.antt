-- Which commands the program has built, and what a script says of them.
use Rattle.std.specs.Prelude.{◌≡◌, ◌≤◌, Bool, true, false, List, Some, ⊤}
use Rattle.crdt_core.specs.declared.kind.Kind.{Kind}
use Rattle.crdt_core.specs.declared.object.Field.{Field}
use Rattle.crdt_core.specs.Fits.{fits}
use Rattle.crdt_core.specs.Log.{end_of_time}
use Rattle.world_model.specs.declared.command.Command.{Command}
use Rattle.world_model.specs.declared.command.Command.TheVariants as command

-- all of them
abbrev pub is_built : Command → Bool
is_built c = true

-- the commands of messages and reports
abbrev pub is_of_post : Command → Bool
is_of_post (command.Send p site from) = true
is_of_post (command.Deliver number) = true
is_of_post (command.DropMessage number) = true
is_of_post (command.Report p) = true
is_of_post (command.Hear number p) = true
is_of_post (command.DropReport number) = true
is_of_post other = false

-- the commands by which partitions end what no session ends
abbrev pub is_of_fates : Command → Bool
is_of_fates (command.Expire p t) = true
is_of_fates (command.Settle p) = true
is_of_fates other = false

-- the commands of crashes, restarts and fuses
abbrev pub is_of_faults : Command → Bool
is_of_faults (command.Crash p) = true
is_of_faults (command.Fuse p k n) = true
is_of_faults (command.Restart p) = true
is_of_faults other = false

-- the command makes a cluster
abbrev pub is_making : Command → Bool
is_making (command.Cluster sites parts) = true
is_making other = false

-- what the grammar of scripts gives, where objects are of kinds that the type has, and operations of a kind don't lead too deep
abbrev pub IsSaid : (Kind → Bool) → (Kind → List Field → Bool) → Command → Type 0
IsSaid has too_deep (command.Cluster sites parts) = (1 ≤ sites) × (sites ≤ 8) × (1 ≤ parts) × (parts ≤ 16)
IsSaid has too_deep (command.Clock p n) = n ≤ end_of_time
IsSaid has too_deep (command.Read name o) = has o.kind ≡ true
IsSaid has too_deep (command.Update name o op) = (has o.kind ≡ true) × (fits o.kind op.path op.act ≡ true → too_deep o.kind op.path ≡ false)
IsSaid has too_deep (command.Commit name (Some k)) = 1 ≤ k
IsSaid has too_deep (command.Fuse p k n) = 1 ≤ k
IsSaid has too_deep other = ⊤
