-- Orders of traces go on.
use Rattle.std.proofs.Common.{◌≡◌, ⊎_elim, inl, ℕ, cond, Bool, true, false, List, [], ◌∷◌, ◌++◌, length, refl, sym, ap, ◌∙◌, subst, arith}
use Rattle.std.proofs.lemmas.Bool.{cond-true}
use Rattle.std.proofs.lemmas.List.{length-append}
use Rattle.site_vector.specs.declared.ids.PartId.{PartId}
use Rattle.site_vector.specs.Ids.{same_part}
use Rattle.site_vector.specs.Order.{same_part_refl}
use Rattle.crdt_core.specs.KindsOf.{Kinds}
use Rattle.world_model.specs.rules.Partition.{PartState}
use Rattle.world_model.specs.rules.Traces.{IsTrace}
use Rattle.world_model.specs.rules.World.{IsWorldRun}
use Rattle.world_model.specs.threads.Marks.{Mark, Stands, entries_of, events, made_at}
use Rattle.world_model.specs.threads.Merging.{all_places, merged}
use Rattle.world_model.specs.threads.AreTraces.{AreTraces}
use Rattle.world_model.specs.threads.Orders.{IsOrder, IsOrderOf}
use Rattle.world_model.specs.threads.Views.{IsPart}
use Rattle.world_model.specs.threads.Steps.{with_step}
use Rattle.world_model.proofs.Sorting.{AreBelow, IsRising, IsIn, in_cases, merged_out, merged_at}
use Rattle.world_model.proofs.Standing.{stands_more, places_once, places_have, order_goes_on, made_both}
use Rattle.world_model.proofs.Merging.{runs, stamped, rising}
use Rattle.world_model.proofs.Growing.{longer_by}

module _ {E : Type 0} where
  -- an order of a part is one in the whole
  pub order_within : (traces view : PartId → List (Mark E)) (rest : PartId → List (Mark E)) → ((q : PartId) → traces q ≡ rest q ++ view q) → (ms : List (Mark E)) → IsOrder view ms → IsOrder traces ms
  order_within traces view rest fronts [] o = tt
  order_within traces view rest fronts (m ∷ ms) o = (
    record {
      stands = subst (λ l. Stands l (length (made_at m.at ms)) m) (sym (fronts m.at)) (stands_more (rest m.at) (view m.at) (length (made_at m.at ms)) m o.0.stands);
      top = λ q. rest q ++ o.0.top q;
      fronts = λ q. fronts q ∙ ap (λ l. rest q ++ l) (o.0.fronts q) ∙ regroup (rest q) (o.0.top q) (made_at q ms);
      seen = o.0.seen;
    },
    order_within traces view rest fronts ms o.1,
  )
    where
      regroup : (xs ys zs : List (Mark E)) → xs ++ (ys ++ zs) ≡ (xs ++ ys) ++ zs
      regroup [] ys zs = refl
      regroup (x ∷ xs) ys zs = ap (λ l. x ∷ l) (regroup xs ys zs)

  below_front : (n : ℕ) (top low : List (Mark E)) → AreBelow n (top ++ low) → AreBelow n top
  below_front n [] low a = tt
  below_front n (x ∷ top) low a = (a.0, below_front n top low a.1)

  rising_front : (p : PartId) (top low : List (Mark E)) → IsRising p (top ++ low) → IsRising p top
  rising_front p [] low r = tt
  rising_front p (x ∷ top) low r = (r.0, below_front x.stamp top low r.1, rising_front p top low r.2)

  module _ {S : Type 0} (kinds : Kinds S E) (sites parts : ℕ) (traces view : PartId → List (Mark E)) (state : PartId → PartState E) (a : AreTraces kinds sites parts traces state) where
    pub order_runs : (ms : List (Mark E)) → IsOrderOf traces ms → IsWorldRun kinds sites parts (entries_of ms) state
    order_runs ms o = runs kinds sites parts traces state a ms state o.order (λ p. subst (λ l. IsTrace kinds sites parts p (events l) (state p)) (sym (o.all p)) (a.steps p))

    pub rest_at : (v : IsPart view traces) (q : PartId) → made_at q (merged (all_places sites parts) v.rest) ≡ v.rest q
    rest_at v q = ⊎_elim
        (λ (k : IsIn q (all_places sites parts)). merged_at (all_places sites parts) v.rest up (places_once sites parts) q k)
        (λ (k : IsIn q (all_places sites parts) → ⊥). merged_out (all_places sites parts) v.rest up q k ∙ sym (outside (v.rest q) refl k))
        (in_cases q (all_places sites parts))
      where
        up : (p : PartId) → IsRising p (v.rest p)
        up p = rising_front p (v.rest p) (view p) (subst (λ l. IsRising p l) (v.fronts p) (rising kinds sites parts traces state a p [] (traces p) refl))

        outside : (ms : List (Mark E)) → v.rest q ≡ ms → (IsIn q (all_places sites parts) → ⊥) → v.rest q ≡ []
        outside [] e k = e
        outside (x ∷ ms) e k =
            let first : traces q ≡ x ∷ (ms ++ view q) = v.fronts q ∙ ap (λ l. l ++ view q) e in
            absurd (k (places_have sites parts q (a.place q (length (ms ++ view q)) x (subst (λ l. Stands l (length (ms ++ view q)) x) (sym first) (inl (refl, refl)))).0))

    pub part_goes_on : (v : IsPart view traces) (base : List (Mark E)) → IsOrderOf view base → IsOrderOf traces (merged (all_places sites parts) v.rest ++ base)
    part_goes_on v base o = record {
      order = order_goes_on (all_places sites parts) traces v.rest base (stamped kinds sites parts traces state a) (order_within traces view v.rest v.fronts base o.order) (λ q. v.fronts q ∙ ap (λ l. v.rest q ++ l) (sym (o.all q))) (rest_at v);
      all = λ q. made_both q (merged (all_places sites parts) v.rest) base ∙ ap (λ l. l ++ made_at q base) (rest_at v q) ∙ ap (λ l. v.rest q ++ l) (o.all q) ∙ sym (v.fronts q);
    }

    pub step_goes_on : (m : Mark E) (ms : List (Mark E)) → IsPart view traces → ((q : PartId) → m.seen q ≡ length (view q)) → IsOrderOf traces ms → IsOrderOf (with_step m traces) (m ∷ ms)
    step_goes_on m ms v seen o = record {
      order = (
        record {
          stands = subst (λ l. Stands l (length (made_at m.at ms)) m) (sym (cond-true (same_part m.at m.at) (m ∷ traces m.at) (traces m.at) (same_part_refl m.at))) (inl (refl, ap length (o.all m.at)));
          top = λ q. (longer_by m traces q).0;
          fronts = λ q. (longer_by m traces q).1 ∙ ap (λ l. (longer_by m traces q).0 ++ l) (sym (o.all q));
          seen = λ q. let e = seen q in let l = ap length (v.fronts q) in let b = length-append (v.rest q) (view q) in let s = ap length (o.all q) in omega arith;
        },
        order_within (with_step m traces) traces (λ q. (longer_by m traces q).0) (λ q. (longer_by m traces q).1) ms o.order,
      );
      all = λ q. same (same_part m.at q) q (o.all q);
    }
      where
        same : (b : Bool) (q : PartId) → made_at q ms ≡ traces q → cond b (m ∷ made_at q ms) (made_at q ms) ≡ cond b (m ∷ traces q) (traces q)
        same true q k = ap (λ l. m ∷ l) k
        same false q k = k
