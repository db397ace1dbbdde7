-- The seats of partitions are joined into one, the partitions put in a row.
use Rattle.std.proofs.Common.{◌≡◌, ⊎_elim, ℕ, ◌*◌, List, [], ◌∷◌, ◌++◌, length, refl, sym, ap, ◌∙◌, subst, arith, append_assoc, append-nil}
use Rattle.std.proofs.lemmas.Bool.{or_left, or_right}
use mathlib.Core.Option.{some, some-ne-none}
use lib.ListN.{get_elem?}
use Rattle.site_vector.specs.declared.ids.PartId.{PartId}
use Rattle.world_model.proofs.Merging.{law_merged}
use Rattle.partition_core.specs.Durable.{Durable}
use Rattle.site_partitions.specs.Reaches.{Types, PutsEvent}
use Rattle.seat_rule.specs.declared.view.Noted.{Noted}
use Rattle.seat_rule.specs.declared.view.Past.{Past}
use Rattle.seat_rule.specs.declared.view.View.{View}
use Rattle.seat_rule.specs.Laws.{Heard}
use Rattle.seat_rule.specs.Lists.{at}
use Rattle.seat_rule.specs.Notes.{Knows, NoneBears}
use Rattle.seat_rule.specs.Views.{both}
use Rattle.seat_rule.specs.world.Traces.{word_of, traces_of, IsLawful}
use Rattle.seat_rule.proofs.Fronts.{knows_all}
use Rattle.seat_rule.proofs.Lists.{has_append, at_last_is}
use Rattle.partition_lock.specs.declared.told.Told.{Told}
use Rattle.partition_lock.specs.declared.entry.Entry.{Entry}
use Rattle.partition_lock.specs.Closings.{IsPutBy, Gathered, IsWhole}
use Rattle.partition_lock.specs.Desks.{AreShown, IsWriter, StandsFor}
use Rattle.partition_lock.specs.Events.{event_of}
use Rattle.partition_lock.proofs.Stepping.{stands_as}

pub none_long : {A : Type 0} (xs : List A) → length xs ≡ 0 → xs ≡ []
none_long [] h = refl
none_long (x ∷ xs) h = absurd (omega (arith, h))

module _ {E : Type 0} where
  bears_on : (n : List ℕ) (xs ys : List (Noted (Told E))) → NoneBears n xs → NoneBears n ys → NoneBears n (xs ++ ys)
  bears_on n [] ys a b = b
  bears_on n (x ∷ xs) ys a b = (a.0, bears_on n xs ys a.1 b)

  knows_more : (n : List ℕ) (xs ys zs : List (Noted (Told E))) → Knows n xs ys → Knows n ys zs → Knows n xs zs
  knows_more n xs ys zs a b = (a.0 ++ b.0, sym (append_assoc xs a.0 b.0) ∙ (ap (λ l. l ++ b.0) a.1 ∙ b.1), bears_on n a.0 b.0 a.2 b.2)

module _ {S E D X : Type 0} (w : Types S E D) (sites parts : ℕ) (kept : X → List Entry) (part : X → Durable E D) where
  pub none_gathered : (me : View (Told E)) → Heard (IsLawful event_of sites parts w.kinds (PutsEvent w)) me → Gathered w sites parts kept part me.past [] me
  none_gathered me h = record {
    lawful = h.lawful;
    numbers = refl;
    knows = λ q. knows_all me.past.numbers (at me.past.lists q);
    each = λ word x e. absurd (some-ne-none x (sym e));
  }

  module _ (p : Past (Told E)) (xs : List X) (v u : View (Told E)) (free : List (ℕ × ℕ)) (g : Gathered w sites parts kept part p xs v) (h : Heard (IsLawful event_of sites parts w.kinds (PutsEvent w)) (both v u)) where
    -- who was put stays
    stays_put : (word : ℕ) (x : X) → IsPutBy w sites parts kept part v word x → IsPutBy w sites parts kept part (both v u) word x
    stays_put word x i =
        let same : at (both v u).past.lists word ≡ at v.past.lists word = sym (h.is_put.was.whole word i.written) in
        record {
          id = i.id;
          place = i.place;
          at_word = i.at_word;
          written = has_append v.past.writes u.past.writes word ∙ or_left _ _ i.written;
          shown = subst (AreShown (kept x)) (sym same) i.shown;
          stands = stands_as w sites parts i.id (part x) v.past (both v u).past (ap (at (both v u).past.lists) i.at_word ∙ (same ∙ ap (at v.past.lists) (sym i.at_word))) i.stands;
        }

    module _ (id : PartId) (stamp : ℕ) (x : X) (d : IsWriter sites parts id stamp (kept x) (u, free)) (s : StandsFor w sites parts id (part x) u.past) (next : word_of parts id ≡ length xs) where
      put_new : IsPutBy w sites parts kept part (both v u) (word_of parts id) x
      put_new =
          let same : at (both v u).past.lists (word_of parts id) ≡ at u.past.lists (word_of parts id) = sym (h.is_put.met.whole (word_of parts id) d.here) in
          record {
            id = id;
            place = d.place;
            at_word = refl;
            written = has_append v.past.writes u.past.writes (word_of parts id) ∙ or_right _ _ d.here;
            shown = subst (AreShown (kept x)) (sym same) d.shown;
            stands = stands_as w sites parts id (part x) u.past (both v u).past same s;
          }

      pub one_gathered : Gathered w sites parts kept part p (xs ++ x ∷ []) (both v u)
      one_gathered = record {
        lawful = h.lawful;
        numbers = ap (λ ns. v.past.numbers ++ ns) d.numbers ∙ (append-nil v.past.numbers ∙ g.numbers);
        knows = λ q. knows_more p.numbers (at p.lists q) (at v.past.lists q) (at (both v u).past.lists q) (g.knows q) (subst (λ ns. Knows ns (at v.past.lists q) (at (both v u).past.lists q)) g.numbers (h.is_put.was.knows q));
        each = λ word y e. ⊎_elim
            (λ (o : get_elem? xs word ≡ some y). stays_put word y (g.each word y o))
            (λ (o : (x ≡ y) × (word ≡ length xs)). subst (λ (z : X). IsPutBy w sites parts kept part (both v u) word z) o.0 (subst (λ k. IsPutBy w sites parts kept part (both v u) k x) (next ∙ sym o.1) put_new))
            (at_last_is xs x y word e);
      }

  -- all partitions were put
  pub all_gathered : (p : Past (Told E)) (xs : List X) (me : View (Told E)) → Gathered w sites parts kept part p xs me → length xs ≡ sites * parts → IsWhole w sites parts kept part p xs
  all_gathered p xs me g size =
      let law = law_merged w.kinds sites parts (traces_of event_of sites parts (at me.past.lists)) g.lawful.state g.lawful.are in
      record {
        lists = me.past.lists;
        lawful = g.lawful;
        is_run = law.0;
        order = law.1;
        sorted = law.2;
        knows = g.knows;
        all = size;
        each = λ word x e. let i = g.each word x e in record { id = i.id; place = i.place; at_word = i.at_word; shown = i.shown; stands = i.stands (g.lawful.state i.id) (g.lawful.are.steps i.id) };
      }
