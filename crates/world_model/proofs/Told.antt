-- What partitions tell of transactions is what lines tell.
use Rattle.std.proofs.Common.{◌≡◌, ◌≢◌, ⊎_elim, inl, inr, ℕ, Bool, true, false, not, ◌&&◌, ◌||◌, List, [], ◌∷◌, refl, sym, ap, ◌∙◌, subst}
use Rattle.std.proofs.lemmas.Bool.{or_cases, and_parts}
use Rattle.site_vector.specs.declared.ids.PartId.{PartId}
use Rattle.site_vector.specs.declared.ids.TxId.{TxId}
use Rattle.site_vector.specs.Ids.{same_part}
use Rattle.site_vector.specs.Order.{same_part_is}
use Rattle.crdt_core.specs.declared.record.Record.{Record}
use Rattle.crdt_core.specs.KindsOf.{Kinds}
use Rattle.crdt_core.specs.Log.{pending, prepared_lead}
use Rattle.world_model.specs.rules.Asking.{MayCall}
use Rattle.world_model.specs.events.Pending as downs
use Rattle.world_model.specs.rules.Event.{AskFinish, Entry, attempt, is_prepare, tried, EventsAre}
use Rattle.world_model.specs.rules.Fate.{IsFate}
use Rattle.world_model.specs.lines.Fate.{is_ended_at}
use Rattle.world_model.specs.events.Lawful.{IsLawfulWorld}
use Rattle.world_model.specs.rules.Lines.{shown_lines}
use Rattle.world_model.specs.rules.Partition.{PartState, ToldCommitted, ToldAborted, fate_of}
use Rattle.world_model.specs.rules.Plan.{Plan, takes_part}
use Rattle.world_model.specs.lines.Places.{home, IsPlace}
use Rattle.world_model.specs.rules.Told.{Told}
use Rattle.world_model.specs.lines.Updates.{lead}
use Rattle.world_model.specs.rules.World.{plan_of, IsWorldRun}
use Rattle.world_model.proofs.Names.{off, part_cases}
use Rattle.world_model.proofs.Moves.{image_log}
use Rattle.world_model.proofs.Fate.{pending_parts, voted_tried}
use Rattle.world_model.proofs.Upheld.{Upheld, law_plan}
use Rattle.world_model.proofs.Shows.{Shown, shown_run, committed_is}
use Rattle.world_model.proofs.Ups.{ups}
use Rattle.world_model.proofs.LineChanges.{first_site}
use Rattle.world_model.proofs.LineViews.{in_history_is, vector_is, pending_is, prepare_time_is, down_is}
use Rattle.world_model.proofs.LineLaws.{lead_eq, ended_eq, unbrought}
use Rattle.world_model.proofs.Fitted.{Good, good_run, lead_good, prepared_home}
use Rattle.world_model.proofs.Whole.{suffix_all, all_fresh, fits}
use Rattle.world_model.proofs.Law.{law_world, plan_fits}
use Rattle.world_model.proofs.Asks.{aborts}
use Rattle.world_model.proofs.PrepareTimes.{listed}

or_none : (b : Bool) → (b || false) ≡ b
or_none true = refl
or_none false = refl

not_both : (b : Bool) → not (not b) ≡ b
not_both true = refl
not_both false = refl

module _ {E : Type 0} where
  -- who was asked for a vote is in the cluster
  tried_place : (sites parts : ℕ) (run : List (Entry E)) → EventsAre (λ p event. IsPlace sites parts p) run → (t : TxId) (q : PartId) → tried run t q ≡ true → IsPlace sites parts q
  tried_place sites parts [] places t q h = off h
  tried_place sites parts (e ∷ run) places t q h = ⊎_elim
      (λ (k : (same_part e.at q && is_prepare (attempt e.event) t) ≡ true). subst (IsPlace sites parts) (same_part_is e.at q (and_parts (same_part e.at q) _ k).0) places.0)
      (λ (k : tried run t q ≡ true). tried_place sites parts run places.1 t q k)
      (or_cases _ _ h)

  module _ {S : Type 0} (kinds : Kinds S E) (sites parts : ℕ) (run : List (Entry E)) (state : PartId → PartState E) (r : IsWorldRun kinds sites parts run state) (p : PartId) where
    abbrev plan : Plan E
    plan = plan_of sites parts run

    abbrev log : List (Record E)
    log = (state p).log

    upheld : Upheld kinds (plan_of sites parts run) run state
    upheld = law_plan kinds (plan_of sites parts run) run state (fits kinds sites parts run state r run (all_fresh kinds sites parts run state r) (suffix_all run))

    shows : Shown (plan_of sites parts run) run state
    shows = shown_run kinds (plan_of sites parts run) run state (fits kinds sites parts run state r run (all_fresh kinds sites parts run state r) (suffix_all run))

    good : Good kinds (plan_of sites parts run) (plan_fits kinds sites parts run state r) run state
    good = good_run kinds (plan_of sites parts run) (plan_fits kinds sites parts run state r) run state (fits kinds sites parts run state r run (all_fresh kinds sites parts run state r) (suffix_all run))

    law : IsLawfulWorld kinds (plan_of sites parts run) run
    law = (law_world kinds sites parts run state r).0

    lead_is : (t : TxId) → lead parts (shown_lines run) t ≡ (plan_of sites parts run).lead t
    lead_is t = lead_eq kinds sites parts run law t

    was_tried : (t : TxId) → pending (state p).log t ≡ true → tried run t p ≡ true
    was_tried t h = upheld.fate.was_tried p log t (image_log (state p)) (pending_parts log t h).prepared

    -- and so was its lead
    lead_tried : (t : TxId) → pending (state p).log t ≡ true → tried run t ((plan_of sites parts run).lead t) ≡ true
    lead_tried t h = ⊎_elim
        (λ (e : p ≡ plan.lead t). subst (λ q. tried run t q ≡ true) e (was_tried t h))
        (λ (ne : p ≢ plan.lead t). voted_tried run t (plan.lead t) (upheld.fate.lead_first p t ne (was_tried t h)))
        (part_cases p (plan.lead t))

    of_lead : (t : TxId) → pending (state p).log t ≡ true → (plan_of sites parts run).lead t ≡ record { site = p.site; part = prepared_lead (state p).log t }
    of_lead t h =
        let w = (pending_parts log t h).prepared in
        let g = good.logs p log (image_log (state p)) in
        let site : (plan.lead t).site ≡ p.site = first_site t.site (home t) (λ q. takes_part plan t q) 1 parts refl ∙ prepared_home plan p log t g w in
        let part : (plan.lead t).part ≡ prepared_lead log t = sym (lead_good plan p log t g w).0 in
        λ i. record { site = site i; part = part i }

    finished : (t : TxId) (c : List ℕ) → pending (state p).log t ≡ true → IsFate (shown_lines run) (lead parts (shown_lines run) t) t (ToldCommitted c) → MayCall sites parts run p (AskFinish t c)
    finished t c h f = (upheld.fate.part p t (was_tried t h), record { decided = sym (in_history_is run t) ∙ f.0; vector = f.1 ∙ vector_is run t })

    pub told : Told sites parts run state p
    told = record {
      down = down_is run p ∙ (sym (not_both (downs.is_down run p)) ∙ ap not (sym (ups kinds plan run state (fits kinds sites parts run state r run (all_fresh kinds sites parts run state r) (suffix_all run)) p)));
      waiting = λ t u. shows.waiting p t u ∙ sym (pending_is run p t);
      times = λ t u h. shows.time p t u h ∙ sym (prepare_time_is run p t);
      listed = listed kinds sites parts run state r p;
      ended = λ t u s. committed_is plan run state upheld.fate shows p u t ∙ (sym (ended_eq kinds sites parts run law run p t) ∙ (sym (or_none (is_ended_at (shown_lines run) (shown_lines run) p t)) ∙ ap (λ b. is_ended_at (shown_lines run) (shown_lines run) p t || b) (sym (unbrought kinds sites parts run law run p t (sym s)))));
      leads = λ t h. lead_is t ∙ of_lead t h;
      place = λ t h. subst (IsPlace sites parts) (sym (lead_is t)) (tried_place sites parts run law.places t (plan.lead t) (lead_tried t h));
      finishes = λ t c h f. finished t c h (subst (IsFate (shown_lines run) (lead parts (shown_lines run) t) t) f ((law_world kinds sites parts run state r).3 t));
      aborts = λ t h. aborts sites parts run state p t (⊎_elim
          (λ (e : p ≡ lead parts (shown_lines run) t). inl (e ∙ lead_is t))
          (λ (f : fate_of (state (lead parts (shown_lines run) t)) t ≡ ToldAborted). inr (inl (subst (λ q. fate_of (state q) t ≡ ToldAborted) (lead_is t) f)))
          h);
    }
