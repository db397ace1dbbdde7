-- What answers a command leaves a cluster where some run left it.
use Rattle.std.proofs.Common.{◌≡◌, ℕ, ◌+◌, true, false, length, List, [], ◌∷◌, refl, sym, ap, ◌∙◌, subst, inl, Option, None, Some}
use Rattle.std.specs.Prelude.{IfOk, OnErr, Result, Ok, Err}
use Rattle.world_model.specs.declared.command.Command.{Command}
use Rattle.world_model.specs.declared.command.Command.TheVariants as command
use Rattle.world_model.specs.declared.step.Step.TheVariants as step
use Rattle.std.specs.Prelude.{not}
use Rattle.std.proofs.lemmas.Bool.{true≢false}
use Rattle.world_model.specs.commands.Cluster.{has_cluster}
use Rattle.world_model.specs.lines.Dependency.{HandsOwn}
use Rattle.world_model.specs.commands.Refusals.{first_due}
use Rattle.world_model.specs.commands.Run.{Run}
use Rattle.site_partitions.specs.Reaches.{Types, Reaches}
use Rattle.world_model.specs.commands.ScriptAnswers.{AnswersBy, IsAnswer}
use Rattle.cluster.specs.Built.{is_built, is_making}
use Rattle.cluster.proofs.Mere.{at_first, before_still}
use Rattle.cluster.proofs.Meets.{all_met, first_at, none_due, refused}
use Rattle.world_model.specs.declared.step.Step.{Step}
use Rattle.world_model.specs.commands.Answers.{answered}
use Rattle.cluster.specs.Post.{WholeState, new_post, HasPost}
use Rattle.cluster.proofs.FuelStays.{fueled_made}
use Rattle.cluster.proofs.Keeping.{post_on}
use Rattle.txn_session.specs.Calls.{entries}
use Rattle.cluster.specs.Live.{LiveState, session_in}
use Rattle.cluster.specs.Reached.{IsBefore, StandsAs, Applies, AppliesLive, FaultsShown, IsReached, IsReachedLive, Reached}
use Rattle.site_partitions.specs.Sound.{AreUnarmed}

pub map_ok : {A X : Type 0} {P Q : A → Type 0} (r : Result A X) → ((x : A) → P x → Q x) → IfOk r P → IfOk r Q
map_ok (Ok x) f p = f x p
map_ok (Err x) f p = tt

pub ok_is : {A X : Type 0} (P : A → Type 0) (r : Result A X) (x : A) → r ≡ Ok x → IfOk r P → P x
ok_is P r x e p = subst (λ y. IfOk y P) e p

pub err_is : {A X : Type 0} (P : Type 0) (r : Result A X) (x : X) → r ≡ Err x → OnErr r P → P
err_is P r x e p = subst (λ y. OnErr y P) e p

pub not_making : (c : Command) → ((sites parts : ℕ) → c ≡ command.Cluster sites parts → ⊥) → is_making c ≡ false
not_making (command.Cluster sites parts) h = absurd (h sites parts refl)
not_making other h = refl

module _ {S E D : Type 0} (types : Types S E D) where
  pub reached_on : (old new : Option (WholeState E D)) (c : Command) (steps : List Step) → Applies types old c steps new → IsReached types old → IsReached types new
  reached_on old new c steps a r = record { run = answered 0 (Some c) steps r.run; reached = (a 0 r.run r.reached).1 }

  pub live_of : (w : WholeState E D) → IsReached types (Some w) → IsReachedLive types w.live
  live_of w x = record { run = x.run; reached = x.reached.live }

  -- the run of no line left no cluster
  pub none_reached : IsReached types None
  none_reached = record { run = []; reached = at_first }

  -- what answers a command of sessions leaves what is kept as it was
  pub lift : (w : WholeState E D) (new : LiveState E D) (c : Command) (steps : List Step) → AppliesLive types w.live c steps new → Applies types (Some w) c steps (Some (record { live = new; post = w.post }))
  lift w new c steps a number run r =
      let x = a number run r.live in
      let next : Run = answered number (Some c) steps run in (
        x.0,
        record {
          live = x.1.reached;
          post = subst (λ n. HasPost n new.sites.parts next (entries x.1.reached.calls) w.post) (sym x.1.same.sites_are) (subst (λ n. HasPost w.live.sites.sites n next (entries x.1.reached.calls) w.post) (sym x.1.same.parts_are)
              (post_on w.live.sites.sites w.live.sites.parts run next r.live.calls x.1.reached.calls w.post x.1.keeps x.1.grows r.post));
        },
        (x.1.same, x.2),
      )

  pub has_cluster_already : (c : LiveState E D) (sites parts : ℕ) (steps : List Step) → steps ≡ step.HasCluster ∷ [] → AppliesLive types c (command.Cluster sites parts) steps c
  has_cluster_already c sites parts steps is = refused types c (command.Cluster sites parts) step.HasCluster steps is refl (λ run r. first_at (all_met run (command.Cluster sites parts)) 1 (refl, r.has)) (λ run r who. refl)

  -- where no cluster is made
  first_lacks : (c : Command) → is_making c ≡ false → (run : Run) → not (has_cluster run) ≡ true → first_due (all_met run c) ≡ Some step.NoCluster
  first_lacks (command.Cluster sites parts) h run b = absurd (true≢false h)
  first_lacks other h run b = first_at (all_met run other) 1 (refl, b)

  pub lacks_cluster : (c : Command) (steps : List Step) → steps ≡ step.NoCluster ∷ [] → is_making c ≡ false → Applies types None c steps None
  lacks_cluster c steps is m = λ number run b. (
    subst (λ o. AnswersBy run c steps o) (sym (first_lacks c m run (ap not b.lacks))) is,
    subst (λ l. IsBefore (answered number (Some c) l run)) (sym is) (before_still number (Some c) step.NoCluster run refl b),
    tt,
  )

  pub cluster_made : (w : WholeState E D) (sites parts : ℕ) (steps : List Step) → steps ≡ step.MadeCluster sites parts ∷ [] → w.live.sites.sites ≡ sites → w.live.sites.parts ≡ parts → Reaches types w.live.sites [] → w.live.sessions ≡ [] → w.post ≡ new_post → AreUnarmed types.state w.live.sites → Applies types None (command.Cluster sites parts) steps (Some w)
  cluster_made w sites parts steps is es ep r none post unarmed = λ number run b.
      subst (λ l. IsAnswer is_built run (command.Cluster sites parts) l × Reached types (Some w) (answered number (Some (command.Cluster sites parts)) l run) × FaultsShown types None run l (Some w)) (sym is) (
        subst (AnswersBy run (command.Cluster sites parts) (step.MadeCluster sites parts ∷ [])) (sym (none_due (all_met run (command.Cluster sites parts)) (refl, (b.lacks, tt)))) (inl refl),
        record {
          live = record {
            has = refl;
            sites = es;
            parts = ep;
            calls = [];
            sees = record { reached = r; one_caller = tt; rooms = tt };
            shown = sym b.calls;
            own = subst (λ ls. HandsOwn sites ls) (sym b.calls) tt;
            fuel = fueled_made types.state w.live.sites run (record { number = number; command = Some (command.Cluster sites parts); step = step.MadeCluster sites parts }) (record { lets = refl; untaken = refl; unchanged = λ h ls p. refl }) b.unlit b.lacks unarmed;
            each = λ who. subst (λ l. StandsAs ((record { number = number; command = Some (command.Cluster sites parts); step = step.MadeCluster sites parts }) ∷ run) [] who (session_in l who)) (sym none) (b.phases who, b.site who);
            count = b.count ∙ ap length (sym none);
          };
          post = subst (λ p. HasPost w.live.sites.sites w.live.sites.parts ((record { number = number; command = Some (command.Cluster sites parts); step = step.MadeCluster sites parts }) ∷ run) [] p) (sym post) (record {
            mail = λ k. b.post.message k;
            made = ap (λ c. c.made + 1) (sym b.post.messages);
            present = ap (λ c. c.present) (sym b.post.messages);
            sent = λ q. b.post.sent q;
            notes = λ k. b.post.report k;
            reported = ap (λ c. c.made + 1) (sym b.post.reports);
            noted = ap (λ c. c.present) (sym b.post.reports);
            told = λ q. b.post.told q;
            above = λ k h. refl;
            beyond = λ k h. refl;
          });
        },
        tt,
      )
