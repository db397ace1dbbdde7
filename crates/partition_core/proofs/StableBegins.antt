-- A begin that reads what is stable alone: refused, or one step.
use Rattle.std.proofs.Common.{◌≡◌, ◌≢◌, ◌⊎◌, inl, inr, ⊎_elim, ℕ, true, false, ◌+◌, ◌<◌, ◌≤◌, List, length, refl, sym, ap, ◌∙◌, subst, arith}
use Rattle.std.specs.Prelude.{◌==◌, if◌then◌else◌}
use Rattle.std.proofs.lemmas.Bool.{cases_Bool, cond-true, eqb-true, eq-eqb, true≢false}
use Rattle.site_vector.specs.declared.ids.TxId.{TxId}
use Rattle.site_vector.specs.Vector.{entry, replaced}
use Rattle.site_vector.specs.Known.{vector_of, lowest}
use Rattle.crdt_core.specs.KindsOf.{Kinds}
use Rattle.crdt_core.specs.Log.{end_of_time}
use Rattle.world_model.specs.rules.Event.{AskBegin, Began, Refused, StableBehind, ClockAtEnd}
use Rattle.world_model.specs.declared.command.Mode.TheVariants.{Stable}
use Rattle.world_model.specs.lines.Lines.{wish_of}
use Rattle.world_model.specs.lines.Places.{IsPlace, IsOther}
use Rattle.world_model.specs.rules.Partition.{PartState, IsOwnStable, IsStableEnough, done, stable_entry}
use Rattle.world_model.proofs.Names.{lowest_below}
use Rattle.partition_core.specs.Tables.{Tables}
use Rattle.partition_core.specs.Bounds.{own_bound, AreStable, AllEnough, IsFirstBehind}
use Rattle.partition_core.specs.Leases.{leased, at_time}
use Rattle.partition_core.specs.Stands.{Stands}
use Rattle.partition_core.specs.Steps.{Anything, Steps}
use Rattle.partition_core.proofs.Bounding.{bounds_own}
use Rattle.partition_core.proofs.Leasing.{refuses, later_stands}
use Rattle.partition_core.proofs.Vectors.{entry_replaced, entry_other}

same_or_not : (m n : ℕ) → (m ≡ n) ⊎ (m ≢ n)
same_or_not m n = ⊎_elim
    (λ (e : (m == n) ≡ true). inl (eqb-true m n e))
    (λ (e : (m == n) ≡ false). inr (λ k. true≢false (sym (eq-eqb m n k) ∙ e)))
    (cases_Bool (m == n))

not_below : (i j : ℕ) → (i < j → ⊥) → j ≤ i
not_below i j f = omega arith

below_both : {m n : ℕ} → m ≤ n → n < m → ⊥
below_both h k = omega arith

module _ {S E : Type 0} (kinds : Kinds S E) (t : Tables E) (dep b v : List ℕ) (place : IsPlace t.sites t.parts t.id) (bounds_width : length t.bounds ≡ t.sites) (b_is : b ≡ replaced t.bounds t.id.site (own_bound t.clock t.pending)) (wide : length v ≡ t.sites) (least : AreStable t.sites t.parts t.id.part b t.heard v) where
  abbrev site : ℕ
  site = t.id.site

  abbrev own : ℕ
  own = own_bound t.clock t.pending

  here : entry b site ≡ own
  here = ap (λ x. entry x site) b_is ∙ entry_replaced t.bounds site own place.least_site (omega (arith, bounds_width, place.most_site))

  there : (p : PartState E) → Stands t p → (j : ℕ) → IsOther t.sites site j → entry b j ≡ entry p.bounds j
  there p h j o = ap (λ x. entry x j) b_is ∙ entry_other t.bounds site own j place.least_site o.least o.apart ∙ ap (λ x. entry x j) (sym h.bounds)

  -- what the tables know is what the state knows
  others_are : (p : PartState E) → Stands t p → (j : ℕ) → IsOther t.sites site j → entry v j ≡ stable_entry t.parts t.id p j
  others_are p h j o = least j o.least o.most ∙ (λ i. lowest (λ q. if t.id.part == q then there p h j o i else entry (vector_of (sym h.heard i) q) j) t.parts)

  own_is : (p : PartState E) → Stands t p → IsOwnStable t.parts t.id p (entry v site)
  own_is p h =
      let known : ℕ → ℕ = λ q. if t.id.part == q then own else entry (vector_of p.heard q) site in
      let is : entry v site ≡ lowest known t.parts = least site place.least_site place.most_site ∙ (λ i. lowest (λ q. if t.id.part == q then here i else entry (vector_of (sym h.heard i) q) site) t.parts) in record {
        bound = own;
        own = bounds_own t p own h refl;
        most = subst (λ x. x ≤ own) (sym is) (subst (λ x. lowest known t.parts ≤ x) (cond-true (t.id.part == t.id.part) own (entry (vector_of p.heard t.id.part) site) (eq-eqb t.id.part t.id.part refl)) (lowest_below known t.parts t.id.part place.least_part place.most_part));
        least = is;
      }

  pub stable_behind : (who : List ℕ) (j n : ℕ) → n ≡ entry v j → IsFirstBehind v dep j → Steps kinds t Anything (λ e. e ≡ Refused (AskBegin who (wish_of dep Stable)) (StableBehind j n)) t
  stable_behind who j n is b = refuses kinds Anything t (AskBegin who (wish_of dep Stable)) (StableBehind j n) (λ p h. (
    h.up,
    record {
      have = ⊎_elim
          (λ (x : j ≡ site). inr (refl, x, subst (IsOwnStable t.parts t.id p) (ap (entry v) (sym x) ∙ sym is) (own_is p h)))
          (λ (x : j ≢ site). let o : IsOther t.sites site j = record { least = b.low; most = subst (λ k. j ≤ k) wide b.high; apart = x } in inl (o, is ∙ others_are p h j o))
          (same_or_not j site);
      behind = subst (λ k. k < entry dep j) (sym is) b.behind;
      least = λ i o l. not_below i j (λ k. below_both (b.enough i o.least k) (subst (λ x. x < entry dep i) (sym (others_are p h i o)) l));
      own = λ k c. (entry v site, own_is p h, b.enough site place.least_site k);
    },
  ))

  enough : AllEnough v dep (length v) → (p : PartState E) → Stands t p → IsStableEnough t.sites t.parts t.id p (wish_of dep Stable)
  enough f p h = (
    (λ j o. subst (λ m. entry dep j ≤ m) (others_are p h j o) (f j o.least (subst (λ k. j ≤ k) (sym wide) o.most))),
    λ c. (entry v site, own_is p h, f site place.least_site (subst (λ k. site ≤ k) (sym wide) place.most_site)),
  )

  pub stable_at_end : (who : List ℕ) (k : ℕ) → AllEnough v dep (length v) → k ≡ t.clock → k ≡ end_of_time → Steps kinds t Anything (λ e. e ≡ Refused (AskBegin who (wish_of dep Stable)) ClockAtEnd) t
  stable_at_end who k f is e = refuses kinds Anything t (AskBegin who (wish_of dep Stable)) ClockAtEnd (λ p h. (h.up, (enough f p h, h.clock ∙ sym is ∙ e)))

  pub stable_begins : (who : List ℕ) (n : ℕ) (s : List ℕ) → length dep ≡ t.sites → AllEnough v dep (length v) → n ≡ t.clock + 1 → t.clock < end_of_time → s ≡ v
      → Steps kinds t Anything (λ e. e ≡ Began who (wish_of dep Stable) (record { site = t.id.site; part = t.id.part; time = n }) s) (at_time t n (leased t.ceiling n))
  stable_begins who n s width f is early snap =
      let tx : TxId = record { site = site; part = t.id.part; time = n } in record {
        same = record { id = refl; sites = refl; parts = refl };
        step = λ p h g. record {
          event = Began who (wish_of dep Stable) tx s;
          after = done p (Began who (wish_of dep Stable) tx s);
          shows = refl;
          step = (
            h.up,
            (record {
              early = subst (λ m. m < end_of_time) (sym h.clock) early;
              named = ap (λ (m : ℕ). record { site = site; part = t.id.part; time = m }) (is ∙ ap (λ m. m + 1) (sym h.clock));
              handed = width;
              width = ap length snap ∙ wide;
              own = subst (λ x. IsOwnStable t.parts t.id p (entry x site) × (entry dep site ≤ entry x site)) (sym snap) (own_is p h, f site place.least_site (subst (λ k. site ≤ k) (sym wide) place.most_site));
              stable = λ j o. ap (λ x. entry x j) snap ∙ others_are p h j o;
              waited = λ j o. subst (λ x. entry dep j ≤ entry x j) (sym snap) (f j o.least (subst (λ k. j ≤ k) (sym wide) o.most));
            }),
            refl,
          );
          stands = later_stands t p (Began who (wish_of dep Stable) tx s) n (leased t.ceiling n) h refl (omega arith) refl;
        };
      }
