-- A player answers the lines of a script by a run of its cluster.
use Rattle.std.proofs.Common.{◌≡◌, ℕ, ◌+◌, ◌*◌, ◌≤◌, Bool, true, false, ◌||◌, List, [], ◌∷◌, ◌++◌, length, Option, None, Some, refl, sym, ap, ◌∙◌, subst, arith, ⊎_elim, append_assoc}
use Rattle.std.specs.Prelude.{map, reverse, is_some, IfSome, IfNone}
use Rattle.std.specs.List.{flat_map}
use Rattle.std.proofs.lemmas.Bool.{true≢false}
use Rattle.std.proofs.lemmas.List.{reverse-append, map-append, append-nil, length-reverse, length-map, length-append}
use Rattle.site_vector.specs.declared.ids.PartId.{PartId}
use Rattle.disk_core.specs.States.{DiskState}
use Rattle.disk_core.specs.Fuses.{fused_state}
use Rattle.world_model.specs.declared.command.Command.{Command}
use Rattle.world_model.specs.declared.command.Command.TheVariants as command
use Rattle.world_model.specs.declared.step.Step.{Step}
use Rattle.world_model.specs.declared.step.Step.TheVariants as step
use Rattle.world_model.specs.commands.Cluster.{has_cluster, sites_of, parts_of}
use Rattle.world_model.specs.lines.Places.{IsPlace}
use Rattle.world_model.specs.commands.Run.{Run, written_lines}
use Rattle.world_model.specs.commands.Answers.{Asked, nothing, unreadable, asks, answered}
use Rattle.world_model.specs.commands.ScriptAnswers.{GoesOn, Answers, IsMade, AnswersBy}
use Rattle.cluster.specs.Built.{is_built, is_making}
use Rattle.cluster.specs.Fused.{AreFused, AreSoundIn}
use Rattle.cluster.specs.Post.{WholeState}
use Rattle.cluster.specs.Reached.{Applies, Reached, parts_in}
use Rattle.site_partitions.specs.Reaches.{Types}
use Rattle.cluster.proofs.Laws.{bad_still}
use Rattle.cluster.proofs.Meets.{all_met, none_due}
use Rattle.cluster.proofs.Mere.{at_first}
use Rattle.dc_engine.specs.declared.framing.Framing.{Framing}
use Rattle.dc_engine.specs.Held.{Standing, IsLeft, HasOutOf}
use Rattle.dc_engine.specs.ObjectKinds.{types}
use Rattle.dc_engine.specs.Player.{PlayerState, AnswersAsked, StaysSoundAsked, ReachedBy}
use Rattle.dc_engine.specs.Reading.{asked_of, is_unreadable, has_bad}
use Rattle.dc_engine.specs.Replies.{AnswersLine}
use Rattle.dc_engine.proofs.commands.Readings.{asked_of-take, has_bad-more}
use Rattle.dc_engine.proofs.commands.Sizes.{answer_makes_none, same_size}

lines_more : (spelled : ℕ → Step → List ℕ) (number : ℕ) (asked : Option Command) (steps : List Step) (run : Run) → written_lines spelled (answered number asked steps run) ≡ written_lines spelled run ++ flat_map (spelled number) steps
lines_more spelled number asked [] run = sym (append-nil (written_lines spelled run))
lines_more spelled number asked (s ∷ steps) run = lines_more spelled number asked steps (record { number = number; command = asked; step = s } ∷ run) ∙ append_assoc (written_lines spelled run) (spelled number s) (flat_map (spelled number) steps)

script_more : (f : Framing) (lines : List (List ℕ)) (whole : List ℕ) → reverse (map (asked_of f) (lines ++ whole ∷ [])) ≡ asked_of f whole ∷ reverse (map (asked_of f) lines)
script_more f lines whole = ap reverse (map-append (asked_of f) lines (whole ∷ [])) ∙ reverse-append (map (asked_of f) lines) (asked_of f whole ∷ [])

-- no cluster stands before any line, so no disk
none_standing : {D : Type 0} (state : D → DiskState) (c : Standing D) → IsLeft state c [] → AreSoundIn (fused_state state) c
none_standing state None r = tt
none_standing state (Some w) r = absurd (true≢false (sym r.live.has))

module _ {D : Type 0} (state : D → DiskState) (sound : Type 0) (f : Framing) (spelled : ℕ → Step → List ℕ) where
  -- the run with the answer to one more line
  record GoesWith (run : Run) (number : ℕ) (asked : Asked) (steps : List Step) (new : Standing D) : Type 0 where
    more : Run
    goes : GoesOn is_built number run asked more
    left : IsLeft state new more
    written : written_lines spelled more ≡ written_lines spelled run ++ flat_map (spelled number) steps
    fused : sound → AreFused more
    standing : sound → AreSoundIn (fused_state state) new

  goes_with : (old new : Standing D) (bad new_bad : Bool) (run : Run) (number : ℕ) (asked : Asked) (steps : List Step) → IsLeft state old run → (sound → AreFused run) → (sound → AreSoundIn (fused_state state) old) → (sound → StaysSoundAsked state old asked steps new) → AnswersAsked state old bad asked steps new new_bad → GoesWith run number asked steps new
  goes_with old new bad new_bad run number nothing steps r fused standing stays h = record {
    more = run;
    goes = refl;
    left = subst (λ c. IsLeft state c run) (sym h.1) r;
    written = sym (ap (λ l. written_lines spelled run ++ flat_map (spelled number) l) h.0 ∙ append-nil (written_lines spelled run));
    fused = fused;
    standing = λ x. subst (λ (c : Standing D). AreSoundIn (fused_state state) c) (sym h.1) (standing x);
  }
  goes_with old new bad new_bad run number unreadable steps r fused standing stays h = record {
    more = answered number None (step.Bad ∷ []) run;
    goes = refl;
    left = subst (λ c. IsLeft state c (answered number None (step.Bad ∷ []) run)) (sym h.1) (bad_still (types (fused_state state)) old number run r);
    written = lines_more spelled number None (step.Bad ∷ []) run ∙ ap (λ l. written_lines spelled run ++ flat_map (spelled number) l) (sym h.0);
    fused = λ x. (tt, fused x);
    standing = λ x. subst (λ (c : Standing D). AreSoundIn (fused_state state) c) (sym h.1) (standing x);
  }
  goes_with old new bad new_bad run number (asks c) steps r fused standing stays h =
      let applied = h.0 number run r in record {
        more = answered number (Some c) steps run;
        goes = (steps, applied.0, refl);
        left = applied.1;
        written = lines_more spelled number (Some c) steps run;
        fused = λ x. (stays x).fused (standing x) number run r (fused x);
        standing = λ x. (stays x).standing (standing x);
      }

  -- the mark of a line that isn't in the grammar
  marked : (old new : Standing D) (bad new_bad : Bool) (asked : Asked) (steps : List Step) (b : Bool) → AnswersAsked state old bad asked steps new new_bad → b ≡ bad → (is_unreadable asked || b) ≡ new_bad
  marked old new bad new_bad nothing steps b h e = e ∙ sym h.2
  marked old new bad new_bad unreadable steps b h e = sym h.2
  marked old new bad new_bad (asks c) steps b h e = e ∙ sym h.1

  reached_more : (old new : PlayerState D) (whole : List ℕ) (steps : List Step) (lines : List (List ℕ)) (bytes : List ℕ) → AnswersAsked state old.cluster old.met_bad (asked_of f whole) steps new.cluster new.met_bad → (sound → StaysSoundAsked state old.cluster (asked_of f whole) steps new.cluster) → new.count ≡ old.count + 1
      → ReachedBy state sound f spelled old lines bytes → ReachedBy state sound f spelled new (lines ++ whole ∷ []) (bytes ++ flat_map (spelled new.count) steps)
  reached_more old new whole steps lines bytes h stays n r =
      let was = r.reached in
      let script = reverse (map (asked_of f) lines) in
      let counted : new.count ≡ length script + 1 = n ∙ ap (λ k. k + 1) (sym r.is_counted ∙ sym (length-reverse (map (asked_of f) lines) ∙ length-map lines (asked_of f))) in
      let g = goes_with old.cluster new.cluster old.met_bad new.met_bad was.run (length script + 1) (asked_of f whole) steps was.left was.fused was.standing stays h in record {
        reached = record {
          run = g.more;
          left = g.left;
          answers = subst (λ s. Answers is_built s g.more) (sym (script_more f lines whole)) (was.run, was.answers, g.goes);
          written = (λ i. was.written i ++ flat_map (spelled (counted i)) steps) ∙ sym g.written;
          fused = g.fused;
          standing = g.standing;
        };
        is_bad = has_bad-more f lines whole ∙ marked old.cluster new.cluster old.met_bad new.met_bad (asked_of f whole) steps (has_bad f lines) h r.is_bad;
        is_counted = length-append lines (whole ∷ []) ∙ ap (λ k. k + 1) r.is_counted ∙ sym n;
      }

  -- a line is answered with the text of these steps
  pub line_answered : (old new : PlayerState D) (line : List ℕ) (steps : List Step) (before after : List ℕ) → AnswersAsked state old.cluster old.met_bad (asked_of f line) steps new.cluster new.met_bad → (sound → StaysSoundAsked state old.cluster (asked_of f line) steps new.cluster) → new.count ≡ old.count + 1
      → after ≡ before ++ flat_map (spelled new.count) steps → AnswersLine (ReachedBy state sound f spelled) old new line before after
  line_answered old new line steps before after h stays n e = record {
    reply = flat_map (spelled new.count) steps;
    appended = e;
    answered = λ whole lines bytes t r.
        let same = sym (ap (asked_of f) t) ∙ asked_of-take f whole in
        reached_more old new whole steps lines bytes (subst (λ a. AnswersAsked state old.cluster old.met_bad a steps new.cluster new.met_bad) same h) (λ x. subst (λ a. StaysSoundAsked state old.cluster a steps new.cluster) same (stays x)) n r;
  }

  -- the same, of a player's parts: its cluster is handed back the memory of these steps
  pub line_shown : (old : PlayerState D) (was now left : Standing D) (bad new_bad : Bool) (count number : ℕ) (line : List ℕ) (steps : List Step) (before after : List ℕ) → record { cluster = was; met_bad = bad; count = count } ≡ old
      → AnswersAsked state was bad (asked_of f line) steps now new_bad → (sound → StaysSoundAsked state was (asked_of f line) steps now) → left ≡ now → number ≡ count + 1 → after ≡ before ++ flat_map (spelled number) steps
      → AnswersLine (ReachedBy state sound f spelled) old (record { cluster = left; met_bad = new_bad; count = number }) line before after
  line_shown old was now left bad new_bad count number line steps before after view h stays back n e =
      let new : PlayerState D = record { cluster = left; met_bad = new_bad; count = number } in
      subst (λ o. AnswersLine (ReachedBy state sound f spelled) o new line before after) view
      (line_answered (record { cluster = was; met_bad = bad; count = count }) new line steps before after (subst (λ c. AnswersAsked state was bad (asked_of f line) steps c new_bad) (sym back) h) (λ x. subst (λ c. StaysSoundAsked state was (asked_of f line) steps c) (sym back) (stays x)) n e)

  -- a new player stands before any line, and needs no disk
  pub reached_none : (p : PlayerState D) → IsLeft state p.cluster [] → p.met_bad ≡ false → p.count ≡ 0 → ReachedBy state sound f spelled p [] []
  reached_none p r b n = record { reached = record { run = []; left = r; answers = refl; written = refl; fused = λ x. tt; standing = λ x. none_standing state p.cluster r }; is_bad = sym b; is_counted = sym n }

-- over any kinds
module _ {S E D : Type 0} (t : Types S E D) where
  pub out_first : (c : Option (WholeState E D)) (out : ℕ) → Reached t c [] → HasOutOf t out c
  out_first c out r = record { run = []; left = r; enough = omega arith }

  pub out_none : (c : Option (WholeState E D)) (out : ℕ) → c ≡ None → HasOutOf t out c
  out_none c out e = subst (HasOutOf t out) (sym e) (record { run = []; left = at_first; enough = omega arith })

  pub out_more : (c : Option (WholeState E D)) (out more : ℕ) → out ≤ more → HasOutOf t out c → HasOutOf t more c
  out_more c out more l h = record { run = h.run; left = h.left; enough = let e = h.enough in omega (arith, e, l) }

  made_already : (c : Option (WholeState E D)) (run : Run) → is_some (parts_in c) ≡ true → Reached t c run → has_cluster run ≡ true
  made_already None run h r = absurd (true≢false (sym h))
  made_already (Some w) run h r = r.live.has

  -- a command that makes no cluster leaves as many partitions
  pub out_applied : (old new : Option (WholeState E D)) (c : Command) (steps : List Step) (out : ℕ) → (is_making c ≡ true → is_some (parts_in old) ≡ true) → Applies t old c steps new → HasOutOf t out old → HasOutOf t out new
  out_applied old new c steps out once a h =
      let applied = a 0 h.run h.left in
      let size = same_size 0 (Some c) steps h.run (answer_makes_none h.run c steps (λ m. made_already old h.run (once m) h.left) applied.0) in
      record { run = answered 0 (Some c) steps h.run; left = applied.1; enough = subst (λ n. n ≤ out) (sym (λ i. size.0 i * size.1 i)) h.enough }

  -- one that makes a cluster takes as many disks as it has partitions
  made_size : (sites parts : ℕ) (steps : List Step) → IsMade sites parts steps → (sites_of (answered 0 (Some (command.Cluster sites parts)) steps []) * parts_of (answered 0 (Some (command.Cluster sites parts)) steps [])) ≤ sites * parts
  made_size sites parts steps m = ⊎_elim
      (λ (e : steps ≡ step.MadeCluster sites parts ∷ []). subst (λ l. (sites_of (answered 0 (Some (command.Cluster sites parts)) l []) * parts_of (answered 0 (Some (command.Cluster sites parts)) l [])) ≤ sites * parts) (sym e) (omega arith))
      (λ (x : (at : PartId) × IsPlace sites parts at × (steps ≡ step.Disk at ∷ [])). subst (λ l. (sites_of (answered 0 (Some (command.Cluster sites parts)) l []) * parts_of (answered 0 (Some (command.Cluster sites parts)) l [])) ≤ sites * parts) (sym x.2) (omega arith))
      m

  pub out_made : (new : Option (WholeState E D)) (sites parts : ℕ) (steps : List Step) (out : ℕ) → sites * parts ≤ out → Applies t None (command.Cluster sites parts) steps new → HasOutOf t out new
  out_made new sites parts steps out l a =
      let applied = a 0 [] at_first in
      let m : IsMade sites parts steps = subst (λ o. AnswersBy [] (command.Cluster sites parts) steps o) (none_due (all_met [] (command.Cluster sites parts)) (refl, (refl, tt))) applied.0 in
      let most = made_size sites parts steps m in
      record { run = answered 0 (Some (command.Cluster sites parts)) steps []; left = applied.1; enough = omega (arith, most, l) }

-- whether a cluster stands
module _ {E D : Type 0} where
  pub lacks_of : (c : Option (WholeState E D)) → is_some (parts_in c) ≡ false → c ≡ None
  lacks_of None h = refl
  lacks_of (Some w) h = absurd (true≢false h)

  pub made_of : (c : Option (WholeState E D)) → is_some (parts_in c) ≡ true → c ≡ None → ⊥
  made_of c h e = true≢false (sym h ∙ ap (λ (x : Option (WholeState E D)). is_some (parts_in x)) e)

  -- where a command makes a cluster only if one stands, it makes none where none stands
  pub makes_none : (c : Option (WholeState E D)) (making : Bool) → (making ≡ true → is_some (parts_in c) ≡ true) → c ≡ None → making ≡ false
  makes_none c true h e = absurd (made_of c (h refl) e)
  makes_none c false h e = refl

pub if_some : {A : Type 0} (r : Option A) (P : A → Type 0) → ((x : A) → P x) → IfSome r P
if_some None P f = tt
if_some (Some x) P f = f x

pub if_none_makes : {A : Type 0} (r : Option A) (making : Bool) (Q : Type 0) → IfNone r (making ≡ false) → IfNone r (making ≡ true → Q)
if_none_makes None making Q h = λ m. absurd (true≢false (sym m ∙ h))
if_none_makes (Some x) making Q h = tt
