-- What is told of one store is told of any, where passes alone tell what was seen.
use Rattle.std.proofs.Common.{◌≡◌, ℕ, ◌==◌, Bool, true, false, List, [], ◌∷◌, ◌++◌, Option, Some, refl, sym, ap, ◌∙◌, subst}
use Rattle.std.proofs.lemmas.Bool.{eqb-true}
use Rattle.std.specs.Prelude.{not, ◌&&◌, Result, Ok, Err, IfOk, IfErr, None}
use Rattle.site_vector.specs.declared.ids.PartId.{PartId}
use Rattle.crdt_core.specs.KindsOf.{Kinds}
use Rattle.world_model.specs.declared.step.Step.{Step}
use Rattle.world_model.specs.lines.Places.{IsPlace}
use Rattle.world_model.specs.rules.Event.{Ask, Event, Entry}
use Rattle.world_model.proofs.Names.{off}
use Rattle.world_model.specs.threads.Calls.{Call}
use Rattle.world_model.specs.threads.Marks.{calls}
use Rattle.txn_session.specs.Calls.{MayCall, IsAllowed, GoesOn, Stays, Changes, HandsOn}
use Rattle.txn_session.specs.Numbers.{made_by}
use Rattle.txn_session.specs.Passes.{SeesStill, IsUnborne}
use Rattle.seat_rule.specs.declared.view.Past.{Past}
use Rattle.seat_rule.specs.Lists.{at}
use Rattle.seat_rule.specs.world.Traces.{traces_of}
use Rattle.partition_lock.specs.declared.told.Told.{Told}
use Rattle.partition_lock.specs.Agrees.{LawAgreed}
use Rattle.partition_lock.specs.Calling.{seen_by, holds}
use Rattle.partition_lock.specs.Events.{event_of}
use Rattle.partition_lock.specs.Passes.{Sees}
use Rattle.partition_lock.proofs.Agreeing.{law_agrees}

module _ {S E : Type 0} (kinds : Kinds S E) (sites parts : ℕ) {X Y : Type 0} (x : X) (y : Y) (p : Past (Told E)) where
  pub may_for : (number : Option ℕ) (at : PartId) (ask : Ask E) → MayCall (seen_by kinds sites parts) holds sites parts x p number at ask → MayCall (seen_by kinds sites parts) holds sites parts y p number at ask
  may_for number at ask m = record { place = m.place; held = m.held; run = m.run; seen = m.seen; allowed = m.allowed }

  module _ (run : List (Call E)) where
    pub goes_for : (number : Option ℕ) (at : PartId) (ask : Ask E) (line : Step) → GoesOn (seen_by kinds sites parts) holds x p run number at ask line → GoesOn (seen_by kinds sites parts) holds y p run number at ask line
    goes_for number at ask line g = record {
      more = g.more;
      others = g.others;
      by = g.by;
      held = g.held;
      bears = g.bears;
      event = g.event;
      asked = g.asked;
      own_word = g.own_word;
      shows = g.shows;
      seen = g.seen;
    }

    pub stays_for : Stays (seen_by kinds sites parts) holds x p run → Stays (seen_by kinds sites parts) holds y p run
    stays_for s = record { more = s.more; others = s.others; seen = s.seen }

    pub still_for : (held : ℕ → Bool) → SeesStill (seen_by kinds sites parts) held x p run → SeesStill (seen_by kinds sites parts) held y p run
    still_for held s = record { whole = s.whole; within = s.within; same = s.same; seen = s.seen }

    -- the pass is as it was
    pub stays_same : Sees kinds sites parts p run → Stays (seen_by kinds sites parts) holds y p run
    stays_same s = record { more = []; others = tt; seen = s }

pub if_ok : {A B : Type 0} {P Q : A → Type 0} (r : Result A B) → ((a : A) → P a → Q a) → IfOk r P → IfOk r Q
if_ok (Ok a) f h = f a h
if_ok (Err e) f h = h

both_true : (a b : Bool) → false ≡ not (a && b) → (a ≡ true) × (b ≡ true)
both_true true true h = (refl, refl)
both_true true false h = off h
both_true false b h = off h

pub same_place : (p q : PartId) → false ≡ not (p.site == q.site && p.part == q.part) → p ≡ q
same_place p q h = let k = both_true (p.site == q.site) (p.part == q.part) h in (λ i. record { site = eqb-true p.site q.site k.0 i; part = eqb-true p.part q.part k.1 i })

pub if_err : {A B : Type 0} {P Q : B → Type 0} (r : Result A B) → ((e : B) → P e → Q e) → IfErr r P → IfErr r Q
if_err (Ok a) f h = h
if_err (Err e) f h = f e h

-- what is told of the partition under a lock is told of the place that it has
module _ {S E : Type 0} (kinds : Kinds S E) (sites parts : ℕ) {X Y : Type 0} (x : X) (y : Y) (p : Past (Told E)) (q at : PartId) (here : q ≡ at) where
  abbrev pub may_at : (number : Option ℕ) (ask : Ask E) → MayCall (seen_by kinds sites parts) holds sites parts x p number at ask → MayCall (seen_by kinds sites parts) holds sites parts q p number q ask
  may_at number ask m = record {
    place = subst (IsPlace sites parts) (sym here) m.place;
    held = m.held;
    run = m.run;
    seen = m.seen;
    allowed = subst (λ z. IsAllowed sites parts m.run number z ask) (sym here) m.allowed;
  }

  pub goes_at : (run : List (Call E)) (number : Option ℕ) (ask : Ask E) (line : Step) → GoesOn (seen_by kinds sites parts) holds x p run number q ask line → GoesOn (seen_by kinds sites parts) holds y p run number at ask line
  goes_at run number ask line g = goes_for kinds sites parts x y p run number at ask line (subst (λ z. GoesOn (seen_by kinds sites parts) holds x p run number z ask line) here g)

  pub changes_at : (run : List (Call E)) (by : ℕ) (ask : Ask E) (line : Step) (made : Option E) → Changes (seen_by kinds sites parts) holds x p run by q ask line made → Changes (seen_by kinds sites parts) holds y p run by at ask line made
  changes_at run by ask line made c = changes_for (subst (λ z. Changes (seen_by kinds sites parts) holds x p run by z ask line made) here c)
    where
      changes_for : Changes (seen_by kinds sites parts) holds x p run by at ask line made → Changes (seen_by kinds sites parts) holds y p run by at ask line made
      changes_for d = record {
        goes = record { more = d.goes.more; others = d.goes.others; by = d.goes.by; held = d.goes.held; bears = d.goes.bears; event = d.goes.event; asked = d.goes.asked; own_word = d.goes.own_word; shows = d.goes.shows; seen = d.goes.seen };
        effect = d.effect;
      }

  pub hands_at : (run : List (Call E)) (ask : Ask E) (number : ℕ) (line : Step) → HandsOn (seen_by kinds sites parts) holds x p run q ask number line → HandsOn (seen_by kinds sites parts) holds y p run at ask number line
  hands_at run ask number line h = record { line = h.line; goes = goes_at run None ask h.line h.goes; answers = h.answers }

-- all runs that a pass has seen show the same calls of one number
pub agreed : (S E : Type 0) → LawAgreed S E
agreed S E kinds sites parts p run other s o n = ap (made_by n) s.is ∙ (law_agrees kinds sites parts (traces_of event_of sites parts (at p.lists)) s.state s.are s.marks o.marks s.order o.order n ∙ ap (made_by n) (sym o.is))
