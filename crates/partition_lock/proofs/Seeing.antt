-- What a pass had seen goes on in a pass that has seen more.
use Rattle.std.proofs.Common.{◌≡◌, inl, inr, ℕ, ◌<◌, ◌==◌, zero, suc, List, [], ◌∷◌, ◌++◌, Bool, true, false, refl, sym, ap, ◌∙◌, subst, arith}
use Rattle.std.specs.Prelude.{◌||◌}
use Rattle.std.proofs.lemmas.Bool.{cond-false, eqb-true, eq-eqb}
use mathlib.Core.Option.{some, some-ne-none, some-injective}
use lib.ListN.{get_elem?}
use Rattle.site_vector.specs.declared.ids.PartId.{PartId}
use Rattle.crdt_core.specs.KindsOf.{Kinds}
use Rattle.world_model.specs.rules.Event.{Event}
use Rattle.world_model.specs.threads.AreTraces.{AreTraces}
use Rattle.world_model.specs.threads.Calls.{Call}
use Rattle.world_model.specs.threads.Marks.{Mark, calls}
use Rattle.world_model.specs.threads.Merging.{all_places, merged}
use Rattle.world_model.specs.threads.Orders.{IsOrderOf}
use Rattle.world_model.specs.threads.Views.{IsPart, NoneBears as NoMarkBears}
use Rattle.world_model.proofs.Going.{part_goes_on}
use Rattle.world_model.proofs.Joining.{none_bears}
use Rattle.world_model.proofs.Names.{off}
use Rattle.world_model.proofs.Standing.{Is, is_stands}
use Rattle.txn_session.specs.Calls.{NoneBears, IsLegal, Stays, Within}
use Rattle.txn_session.specs.Numbers.{IsNew, made_by}
use Rattle.txn_session.specs.Passes.{SeesStill, IsUnborne}
use Rattle.seat_rule.specs.declared.view.Noted.{Noted}
use Rattle.seat_rule.specs.declared.view.Past.{Past}
use Rattle.seat_rule.specs.Lists.{has, at}
use Rattle.seat_rule.specs.Notes.{Knows, IsClosed, AllBelow}
use Rattle.seat_rule.specs.world.Traces.{word_of, traces_of, IsLawful}
use Rattle.seat_rule.proofs.Adding.{number_at}
use Rattle.seat_rule.proofs.Parting.{part_of}
use Rattle.seat_rule.proofs.Turning.{found_at}
use Rattle.partition_lock.specs.declared.told.Told.{Told}
use Rattle.partition_lock.specs.Calling.{seen_by, holds}
use Rattle.partition_lock.specs.Events.{event_of}
use Rattle.partition_lock.specs.Passes.{Sees}
use Rattle.partition_lock.proofs.Joined.{none_calls, all_calls}
use Rattle.partition_lock.proofs.Owners.{legal}
use Rattle.partition_lock.proofs.States.{is_made_at}

module _ {E : Type 0} where
  within_itself : (run : List (Call E)) → Within run run
  within_itself [] = refl
  within_itself (c ∷ run) = inr (run, refl, within_itself run)

  within_more : (more run : List (Call E)) → Within run (more ++ run)
  within_more [] run = within_itself run
  within_more (c ∷ more) run = inl (within_more more run)

  -- what others did is no call of this number
  made_still : (held : ℕ → Bool) (n : ℕ) → held n ≡ true → (more run : List (Call E)) → NoneBears held more → made_by n (more ++ run) ≡ made_by n run
  made_still held n h [] run b = refl
  made_still held n h (c ∷ more) run b =
      cond-false (c.by == n) (c ∷ made_by n (more ++ run)) (made_by n (more ++ run)) (other (c.by == n) refl) ∙ made_still held n h more run b.1
    where
      other : (t : Bool) → (c.by == n) ≡ t → (c.by == n) ≡ false
      other true e = off (sym b.0 ∙ (ap held (eqb-true c.by n e) ∙ h))
      other false e = e

  below_at : (d : ℕ) (xs : List (Noted (Told E))) → AllBelow d xs → (i : ℕ) (e : Noted (Told E)) → get_elem? xs i ≡ some e → e.by < d
  below_at d [] b i e h = absurd (some-ne-none e (sym h))
  below_at d (x ∷ xs) b zero e h = subst (λ (y : Noted (Told E)). y.by < d) (some-injective _ _ h) b.0
  below_at d (x ∷ xs) b (suc i) e h = below_at d xs b.1 i e h

pub one_holds : (d n : ℕ) → has (d ∷ []) n ≡ (n == d)
one_holds d n = go (d == n) refl (n == d) refl
  where
    go : (a : Bool) → (d == n) ≡ a → (b : Bool) → (n == d) ≡ b → a || false ≡ b
    go true e true f = refl
    go false e false f = refl
    go true e false f = off (sym f ∙ eq-eqb n d (sym (eqb-true d n e)))
    go false e true f = off (sym e ∙ eq-eqb d n (sym (eqb-true n d f)))

-- a number at least those that are held is new
pub one_new : (old : ℕ → Bool) (d : ℕ) → ((k : ℕ) → old k ≡ true → k < d) → IsNew old (has (d ∷ []))
one_new old d above = record { number = d; one = one_holds d; above = above }

one_less : (d n : ℕ) → n < d → has (d ∷ []) n ≡ false
one_less d n l = one_holds d n ∙ go (n == d) refl
  where
    go : (b : Bool) → (n == d) ≡ b → (n == d) ≡ false
    go true e = absurd (let k = eqb-true n d e in omega (arith, l))
    go false e = e

module _ {S E : Type 0} (kinds : Kinds S E) (sites parts : ℕ) where
  none_each : (numbers : ℕ → Bool) (ms : List (Mark E)) → ((x : Mark E) → Is x ms → numbers x.by ≡ false) → NoMarkBears numbers ms
  none_each numbers [] h = tt
  none_each numbers (m ∷ ms) h = (h m (inl refl), none_each numbers ms (λ x i. h x (inr i)))

  -- where all that was seen bears lower numbers, none bears this one
  pub unborne : {X : Type 0} (store : X) (d : ℕ) (p : Past (Told E)) → ((q : ℕ) → AllBelow d (at p.lists q)) → IsUnborne (seen_by kinds sites parts) (has (d ∷ [])) store p
  unborne store d p below run s = subst (NoneBears (has (d ∷ []))) (sym s.is) (none_calls (has (d ∷ [])) s.marks (none_each (has (d ∷ [])) s.marks (λ x i.
      let here = subst (Is x) (s.order.all x.at) (is_made_at s.marks x i) in
      let k = is_stands (traces_of event_of sites parts (at p.lists) x.at) x here in
      let f = found_at event_of sites parts (at p.lists) x.at k.0 x k.1 in
      one_less d x.by (subst (λ (y : Mark E). y.by < d) f.1.is (below_at d (at p.lists (word_of parts x.at)) (below (word_of parts x.at)) k.0 f.1.step f.1.there)))))

  -- the past is a part of these lists, which are lawful
  pub record Grew (ok : Event E → Type 0) (old : Past (Told E)) (lists : List (List (Noted (Told E)))) : Type 0 where
    pub lawful : IsLawful event_of sites parts kinds ok (at lists)
    pub knows : (q : ℕ) → Knows old.numbers (at old.lists q) (at lists q)
    pub closed : IsClosed old.lists

  module _ (ok : Event E → Type 0) (old : Past (Told E)) (lists : List (List (Noted (Told E)))) (g : Grew ok old lists) where
    abbrev traces : PartId → List (Mark E)
    traces = traces_of event_of sites parts (at lists)

    abbrev view : PartId → List (Mark E)
    view = traces_of event_of sites parts (at old.lists)

    part : IsPart view traces
    part = part_of event_of sites parts old.lists (at lists) (λ q. ((g.knows q).0, (g.knows q).1)) g.closed

    abbrev top : List (Mark E)
    top = merged (all_places sites parts) part.rest

    others : NoneBears (has old.numbers) (calls top)
    others = none_calls (has old.numbers) top (none_bears kinds sites parts traces view g.lawful.state g.lawful.are part (has old.numbers) (λ q k f x b. number_at event_of sites parts kinds old.numbers old.lists (at lists) g.knows q k f x b))

    sees_more : (new : Past (Told E)) → new.lists ≡ lists → (run : List (Call E)) → Sees kinds sites parts old run → Sees kinds sites parts new (calls top ++ run)
    sees_more new same run s =
        let whole = part_goes_on kinds sites parts traces view g.lawful.state g.lawful.are part s.marks s.order in
        let is = all_calls top s.marks run s.is in
        record {
          state = g.lawful.state;
          are = subst (λ ls. AreTraces kinds sites parts (traces_of event_of sites parts (at ls)) g.lawful.state) (sym same) g.lawful.are;
          marks = top ++ s.marks;
          order = subst (λ ls. IsOrderOf (traces_of event_of sites parts (at ls)) (top ++ s.marks)) (sym same) whole;
          is = is;
          legal = subst (IsLegal kinds sites parts) (sym is) (legal kinds sites parts traces g.lawful.state g.lawful.are (top ++ s.marks) whole);
        }

    -- with the numbers that it had it goes on by what others did
    pub stays : {X : Type 0} (store : X) (new : Past (Told E)) → new.lists ≡ lists → new.numbers ≡ old.numbers → (run : List (Call E)) → Sees kinds sites parts old run → Stays (seen_by kinds sites parts) holds store new run
    stays store new same numbers run s = record {
      more = calls top;
      others = subst (λ ns. NoneBears (has ns) (calls top)) (sym numbers) others;
      seen = sees_more new same run s;
    }

    -- whatever its numbers, it has seen no call more of those that it had
    pub sees_still : {X : Type 0} (store : X) (new : Past (Told E)) → new.lists ≡ lists → (run : List (Call E)) → Sees kinds sites parts old run → SeesStill (seen_by kinds sites parts) (holds old) store new run
    sees_still store new same run s = record {
      whole = calls top ++ run;
      within = within_more (calls top) run;
      same = λ n h. made_still (has old.numbers) n h (calls top) run others;
      seen = sees_more new same run s;
    }
