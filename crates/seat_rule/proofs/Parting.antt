-- Parts of traces, and no traces.
use Rattle.std.proofs.Common.{◌≡◌, ⊎_elim, ℕ, zero, suc, ◌≤◌, cond, Bool, true, false, List, [], ◌∷◌, ◌++◌, length, refl, sym, ap, ◌∙◌, subst, arith}
use Rattle.std.proofs.lemmas.Bool.{cases_Bool, cond-true, cond-false}
use mathlib.Core.Option.{some, some-ne-none}
use lib.ListN.{get_elem?}
use Rattle.site_vector.specs.declared.ids.PartId.{PartId}
use Rattle.crdt_core.specs.KindsOf.{Kinds}
use Rattle.world_model.specs.rules.Event.{Event}
use Rattle.world_model.specs.rules.Partition.{new_part}
use Rattle.world_model.specs.threads.Marks.{Mark}
use Rattle.world_model.specs.threads.AreTraces.{AreTraces}
use Rattle.world_model.specs.threads.Views.{IsPart}
use Rattle.world_model.proofs.Growing.{part_traces}
use Rattle.world_model.proofs.Calling.{no_traces}
use Rattle.seat_rule.specs.declared.view.Noted.{Noted}
use Rattle.seat_rule.specs.Lists.{cite, at}
use Rattle.seat_rule.specs.Notes.{IsPrefix, IsClosed}
use Rattle.seat_rule.specs.Laws.{KeepsParts}
use Rattle.seat_rule.specs.world.Traces.{word_of, is_place, turned, traces_of, IsLawful}
use Rattle.seat_rule.proofs.Turning.{turned_more, found_at, length_at}

module _ {T E : Type 0} (event_of : T → Event E) (sites parts : ℕ) where
  pub part_of : (lists : List (List (Noted T))) (logs : ℕ → List (Noted T)) → ((q : ℕ) → IsPrefix (at lists q) (logs q)) → IsClosed lists → IsPart (traces_of event_of sites parts (at lists)) (traces_of event_of sites parts logs)
  part_of lists logs fronts closed = record {
    rest = λ q. cond (is_place sites parts q) (turned event_of sites parts q [] (fronts (word_of parts q)).0) [];
    fronts = λ q. go (is_place sites parts q) q;
    closed = λ p n m s q.
        let f = found_at event_of sites parts (at lists) p n m s in
        subst (λ (x : Mark E). x.seen q ≤ length (traces_of event_of sites parts (at lists) q)) f.1.is (⊎_elim
        (λ (h : is_place sites parts q ≡ true). subst (λ k. k ≤ length (traces_of event_of sites parts (at lists) q)) (sym (cond-true (is_place sites parts q) _ _ h)) (subst (λ k. cite f.1.step.cites (word_of parts q) ≤ k) (sym (length_at event_of sites parts (at lists) q h)) (closed (word_of parts p) n f.1.step f.1.there (word_of parts q))))
        (λ (h : is_place sites parts q ≡ false). subst (λ k. k ≤ length (traces_of event_of sites parts (at lists) q)) (sym (cond-false (is_place sites parts q) _ _ h)) (omega arith))
        (cases_Bool (is_place sites parts q)));
  }
    where
      go : (b : Bool) (q : PartId) → cond b (turned event_of sites parts q [] (logs (word_of parts q))) [] ≡ cond b (turned event_of sites parts q [] (fronts (word_of parts q)).0) [] ++ cond b (turned event_of sites parts q [] (at lists (word_of parts q))) []
      go true q = ap (turned event_of sites parts q []) (sym (fronts (word_of parts q)).1) ∙ turned_more event_of sites parts q (at lists (word_of parts q)) (fronts (word_of parts q)).0
      go false q = refl

  in_front : (xs rest : List (Noted T)) (i : ℕ) (e : Noted T) → get_elem? xs i ≡ some e → get_elem? (xs ++ rest) i ≡ some e
  in_front [] rest i e h = absurd (some-ne-none e (sym h))
  in_front (x ∷ xs) rest zero e h = h
  in_front (x ∷ xs) rest (suc i) e h = in_front xs rest i e h

  pub parts_lawful : {S : Type 0} (kinds : Kinds S E) (ok : Event E → Type 0) → KeepsParts (IsLawful event_of sites parts kinds ok)
  parts_lawful kinds ok lists logs l i =
      let old = part_traces kinds sites parts (traces_of event_of sites parts logs) (traces_of event_of sites parts (at lists)) l.state l.are (part_of lists logs i.fronts i.closed) in
      record { good = λ q j e h. l.good q j e (subst (λ z. get_elem? z j ≡ some e) (i.fronts q).1 (in_front (at lists q) (i.fronts q).0 j e h)); state = old.0; are = old.1 }

  abbrev nothing : List (Mark E)
  nothing = []

  none_of : (q : PartId) → [] ≡ traces_of event_of sites parts (λ p. []) q
  none_of q = go (is_place sites parts q)
    where
      go : (b : Bool) → nothing ≡ cond b nothing nothing
      go true = refl
      go false = refl

  pub none_lawful : {S : Type 0} (kinds : Kinds S E) (ok : Event E → Type 0) → IsLawful event_of sites parts kinds ok (λ p. [])
  none_lawful kinds ok = record { good = λ q j e h. absurd (some-ne-none e (sym h)); state = λ q. new_part sites parts; are = subst (λ traces. AreTraces kinds sites parts traces (λ q. new_part sites parts)) (λ i q. none_of q i) (no_traces kinds sites parts) }
