-- A begin: refused, or one step.
use Rattle.std.proofs.Common.{◌≡◌, inl, ℕ, ◌+◌, ◌<◌, ◌≤◌, max, List, length, refl, sym, ap, ◌∙◌, subst, arith}
use Rattle.std.proofs.lemmas.Bool.{true≢false}
use Rattle.std.specs.Prelude.{◌==◌, if◌then◌else◌}
use Rattle.site_vector.specs.declared.ids.TxId.{TxId}
use Rattle.site_vector.specs.Vector.{entry, replaced}
use Rattle.site_vector.specs.Known.{vector_of, lowest}
use Rattle.crdt_core.specs.KindsOf.{Kinds}
use Rattle.crdt_core.specs.Log.{end_of_time}
use Rattle.prepared_table.specs.Leases.{Lent}
use Rattle.stable_gossip.specs.Gossip.{told}
use Rattle.world_model.specs.rules.Event.{Event, AskBegin, Began, Refused, StableBehind, ClockAtEnd}
use Rattle.world_model.specs.declared.command.Mode.TheVariants.{Fresh}
use Rattle.world_model.specs.lines.Lines.{wish_of}
use Rattle.world_model.specs.lines.Places.{IsPlace, IsOther}
use Rattle.world_model.specs.rules.Partition.{PartState, done, stable_entry}
use Rattle.partition_core.specs.Tables.{Tables}
use Rattle.partition_core.specs.Bounds.{AreStable, IsBehind, AreEnough}
use Rattle.partition_core.specs.Leases.{leased, at_time}
use Rattle.partition_core.specs.Stands.{Stands}
use Rattle.partition_core.specs.Steps.{Anything, Steps}
use Rattle.partition_core.proofs.Leasing.{refuses, later_stands}
use Rattle.partition_core.proofs.Vectors.{entry_replaced, entry_other, width_replaced}

module _ {E : Type 0} (t : Tables E) (v : List ℕ) (stable : AreStable t.sites t.parts t.id.part t.bounds t.heard v) (p : PartState E) (h : Stands t p) where
  -- what the tables know is what the state knows
  stable_is : (j : ℕ) → IsOther t.sites t.id.site j → entry v j ≡ stable_entry t.parts t.id p j
  stable_is j o = stable j o.least o.most ∙ (λ i. lowest (λ q. if t.id.part == q then entry (sym h.bounds i) j else entry (vector_of (sym h.heard i) q) j) t.parts)

module _ {S E : Type 0} (kinds : Kinds S E) (t : Tables E) (who dep v : List ℕ) (stable : AreStable t.sites t.parts t.id.part t.bounds t.heard v) where
  pub begin_behind : (j n : ℕ) → n ≡ entry v j → IsBehind t.sites t.id.site v dep j → Steps kinds t Anything (λ e. e ≡ Refused (AskBegin who (wish_of dep Fresh)) (StableBehind j n)) t
  begin_behind j n is b = refuses kinds Anything t (AskBegin who (wish_of dep Fresh)) (StableBehind j n) (λ p h. (
    h.up,
    record {
      have = inl (b.other, is ∙ stable_is t v stable p h j b.other);
      behind = subst (λ k. k < entry dep j) (sym is) b.behind;
      least = λ i o l. b.least i o (subst (λ k. k < entry dep i) (sym (stable_is t v stable p h i o)) l);
      own = λ k c. absurd (true≢false (sym c));
    },
  ))

  enough : AreEnough t.sites t.id.site v dep t.sites → (p : PartState E) → Stands t p → (j : ℕ) → IsOther t.sites t.id.site j → entry dep j ≤ stable_entry t.parts t.id p j
  enough f p h j o = subst (λ m. entry dep j ≤ m) (stable_is t v stable p h j o) (f j o o.most)

  pub begin_at_end : AreEnough t.sites t.id.site v dep t.sites → t.clock ≡ end_of_time → Steps kinds t Anything (λ e. e ≡ Refused (AskBegin who (wish_of dep Fresh)) ClockAtEnd) t
  begin_at_end f k = refuses kinds Anything t (AskBegin who (wish_of dep Fresh)) ClockAtEnd (λ p h. (h.up, ((enough f p h, λ c. absurd (true≢false (sym c))), h.clock ∙ k)))

  pub begins : (n c : ℕ) (s : List ℕ) → 1 ≤ t.id.site → t.id.site ≤ t.sites → length v ≡ t.sites → length dep ≡ t.sites → AreEnough t.sites t.id.site v dep t.sites → t.clock < end_of_time → n ≡ t.clock + 1 → c ≡ leased t.ceiling n → s ≡ replaced v t.id.site (max n (entry dep t.id.site))
      → Steps kinds t Anything (λ e. e ≡ Began who (wish_of dep Fresh) (record { site = t.id.site; part = t.id.part; time = n }) s) (at_time t n c)
  begins n c s low high wide width f early is k snap =
      let site = t.id.site in
      let tx : TxId = record { site = site; part = t.id.part; time = n } in
      let here : entry s site ≡ max n (entry dep site) = ap (λ l. entry l site) snap ∙ entry_replaced v site (max n (entry dep site)) low (omega (arith, wide)) in
      let there : (j : ℕ) → IsOther t.sites site j → entry s j ≡ entry v j = λ j o. ap (λ l. entry l j) snap ∙ entry_other v site (max n (entry dep site)) j low o.least o.apart in record {
        same = record { id = refl; sites = refl; parts = refl };
        step = λ p h g. record {
          event = Began who (wish_of dep Fresh) tx s;
          after = done p (Began who (wish_of dep Fresh) tx s);
          shows = refl;
          step = (
            h.up,
            (record {
              early = subst (λ m. m < end_of_time) (sym h.clock) early;
              named = ap (λ (m : ℕ). record { site = site; part = t.id.part; time = m }) (is ∙ ap (λ m. m + 1) (sym h.clock));
              handed = width;
              width = ap length snap ∙ width_replaced v site (max n (entry dep site)) ∙ wide;
              own = here;
              stable = λ j o. there j o ∙ stable_is t v stable p h j o;
              waited = λ j o. subst (λ m. entry dep j ≤ m) (sym (there j o)) (f j o o.most);
            }),
            refl,
          );
          stands = later_stands t p (Began who (wish_of dep Fresh) tx s) n c h refl (omega arith) k;
        };
      }

-- with what the code has of what was heard, for as many sites and partitions
module _ {S E : Type 0} (kinds : Kinds S E) (t : Tables E) (dep v : List ℕ) (sites parts : ℕ) (sites_are : sites ≡ t.sites) (parts_are : parts ≡ t.parts) (wide : length v ≡ sites) (least : (j : ℕ) → 1 ≤ j → j ≤ sites → entry v j ≡ lowest (told t.id.part t.bounds t.heard j) parts) where
  stable_here : AreStable t.sites t.parts t.id.part t.bounds t.heard v
  stable_here j low high = least j low (omega (arith, sites_are)) ∙ ap (λ n. lowest (told t.id.part t.bounds t.heard j) n) parts_are

  width_here : length v ≡ t.sites
  width_here = wide ∙ sites_are

  enough_here : AreEnough (length v) t.id.site v dep (length v) → AreEnough t.sites t.id.site v dep t.sites
  enough_here f = subst (λ n. AreEnough n t.id.site v dep n) width_here f

  pub begin_behind_by : (who : List ℕ) (j n : ℕ) → n ≡ entry v j → IsBehind (length v) t.id.site v dep j → Steps kinds t Anything (λ e. e ≡ Refused (AskBegin who (wish_of dep Fresh)) (StableBehind j n)) t
  begin_behind_by who j n is b = begin_behind kinds t who dep v stable_here j n is (subst (λ n. IsBehind n t.id.site v dep j) width_here b)

  pub begin_at_end_by : (who : List ℕ) (k : ℕ) → AreEnough (length v) t.id.site v dep (length v) → k ≡ t.clock → k ≡ end_of_time → Steps kinds t Anything (λ e. e ≡ Refused (AskBegin who (wish_of dep Fresh)) ClockAtEnd) t
  begin_at_end_by who k f is e = begin_at_end kinds t who dep v stable_here (enough_here f) (sym is ∙ e)

  pub begins_by : (who : List ℕ) (n first own : ℕ) (k : Lent) (s : List ℕ) → IsPlace t.sites t.parts t.id → length dep ≡ t.sites → AreEnough (length v) t.id.site v dep (length v) → n ≡ t.clock + 1 → t.clock < end_of_time → k ≡ record { clock = n; ceiling = leased t.ceiling n } → first ≡ max n own → own ≡ entry dep t.id.site → s ≡ replaced v t.id.site first
      → Steps kinds t Anything (λ e. e ≡ Began who (wish_of dep Fresh) (record { site = t.id.site; part = t.id.part; time = n }) s) (at_time t k.clock k.ceiling)
  begins_by who n first own k s place width f is early e first_is own_is snap =
      let began : Event E = Began who (wish_of dep Fresh) (record { site = t.id.site; part = t.id.part; time = n }) s in
      subst (λ (x : Lent). Steps kinds t Anything (λ e. e ≡ began) (at_time t x.clock x.ceiling)) (sym e)
      (begins kinds t who dep v stable_here n (leased t.ceiling n) s place.least_site place.most_site width_here width (enough_here f) early is refl (snap ∙ ap (λ m. replaced v t.id.site m) (first_is ∙ ap (λ m. max n m) own_is)))
