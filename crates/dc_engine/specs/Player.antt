-- What a player does with the lines of a script.
use Rattle.std.specs.Prelude.{◌≡◌, ℕ, Bool, true, List, [], ◌∷◌, length, Option, ⊤}
use Rattle.disk_core.specs.States.{DiskState}
use Rattle.disk_core.specs.Fuses.{fused_state}
use Rattle.world_model.specs.declared.command.Command.{Command}
use Rattle.world_model.specs.declared.step.Step.{Step}
use Rattle.world_model.specs.declared.step.Step.TheVariants as step
use Rattle.world_model.specs.commands.Answers.{Asked, nothing, unreadable, asks}
use Rattle.world_model.specs.commands.Run.{Run}
use Rattle.cluster.specs.Fused.{AreSoundIn, StaysFused}
use Rattle.cluster.specs.Post.{WholeState}
use Rattle.cluster.specs.Reached.{Applies}
use Rattle.cluster.specs.Reached as cluster
use Rattle.site_partitions.specs.Reaches.{Types}
use Rattle.dc_engine.specs.declared.framing.Framing.{Framing}
use Rattle.dc_engine.specs.Held.{Standing, Reached}
use Rattle.dc_engine.specs.ObjectKinds.{types}
use Rattle.dc_engine.specs.Reading.{has_bad}

-- the cluster that commands work on, whether a line wasn't in the grammar, and how many lines were answered
pub record PlayerState (D : Type 0) : Type 0 where
  pub cluster : Standing D
  pub met_bad : Bool
  pub count : ℕ

-- where the disks of the cluster are sound they stay so, and each line that tells of one that failed stands behind a fuse of the script
pub record StaysSoundBy {S E D : Type 0} (t : Types S E D) (state : D → DiskState) (old : Option (WholeState E D)) (c : Command) (steps : List Step) (new : Option (WholeState E D)) : Type 0 where
  pub standing : AreSoundIn state old → AreSoundIn state new
  pub fused : AreSoundIn state old → (number : ℕ) (run : Run) → cluster.Reached t old run → StaysFused number c steps run

module _ {D : Type 0} (state : D → DiskState) where
  -- these steps answer a line that asks for this, by the cluster and by whether a line wasn't in the grammar
  abbrev pub AnswersAsked : Standing D → Bool → Asked → List Step → Standing D → Bool → Type 0
  AnswersAsked old bad nothing steps new new_bad = (steps ≡ []) × (new ≡ old) × (new_bad ≡ bad)
  AnswersAsked old bad unreadable steps new new_bad = (steps ≡ step.Bad ∷ []) × (new ≡ old) × (new_bad ≡ true)
  AnswersAsked old bad (asks c) steps new new_bad = Applies (types (fused_state state)) old c steps new × (new_bad ≡ bad)

  abbrev pub StaysSoundAsked : Standing D → Asked → List Step → Standing D → Type 0
  StaysSoundAsked old (asks c) steps new = StaysSoundBy (types (fused_state state)) (fused_state state) old c steps new
  StaysSoundAsked old other steps new = ⊤

  -- the player stands where these lines, the first first, were answered with these bytes
  pub record ReachedBy (sound : Type 0) (f : Framing) (spelled : ℕ → Step → List ℕ) (p : PlayerState D) (lines : List (List ℕ)) (bytes : List ℕ) : Type 0 where
    pub reached : Reached state sound f spelled p.cluster lines bytes
    pub is_bad : has_bad f lines ≡ p.met_bad
    pub is_counted : length lines ≡ p.count
