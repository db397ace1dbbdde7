-- A transaction that began in a run of a cluster of this size has a spelling.
use Rattle.std.proofs.Common.{◌≡◌, ℕ, ◌+◌, ◌≤◌, ◌^◌, true, List, [], ◌∷◌, sym, subst, ⊎_elim, arith}
use Rattle.std.specs.Prelude.{nat_le}
use Rattle.std.proofs.lemmas.Bool.{or_cases}
use Rattle.field_codec.specs.FormLaws.{le_holds, and_true}
use Rattle.site_vector.specs.declared.ids.PartId.{PartId}
use Rattle.site_vector.specs.declared.ids.TxId.{TxId}
use Rattle.site_vector.specs.Order.{same_tx_is}
use Rattle.crdt_core.specs.KindsOf.{Kinds}
use Rattle.crdt_core.specs.Spelled.{is_between, is_tx}
use Rattle.world_model.specs.lines.Lines.{Wish}
use Rattle.world_model.specs.rules.Event.{Event, Began, Entry}
use Rattle.world_model.specs.rules.Partition.{PartState, PartStep, IsBegin}
use Rattle.world_model.specs.lines.Places.{IsPlace}
use Rattle.world_model.specs.rules.World.{IsWorldRun, is_begin, begun}
use Rattle.world_model.proofs.Names.{off}

is_within : (least most n : ℕ) → least ≤ n → n ≤ most → is_between least most n ≡ true
is_within least most n a b = and_true (nat_le least n) (nat_le n most) (le_holds least n a) (le_holds n most b)

spelled : (t : TxId) → 1 ≤ t.site → t.site ≤ 8 → 1 ≤ t.part → t.part ≤ 16 → t.time ≤ 2 ^ 62 → is_tx t ≡ true
spelled t a b c d e =
    and_true _ _ (is_within 1 8 t.site a b) (and_true _ _ (is_within 1 16 t.part c d) (is_within 0 (2 ^ 62) t.time (omega arith) e))

module _ {S E : Type 0} (kinds : Kinds S E) (sites parts : ℕ) (few_sites : sites ≤ 8) (few_parts : parts ≤ 16) where
  named_spelled : (at : PartId) (p : PartState E) (wish : Wish) (t : TxId) (s : List ℕ) → IsPlace sites parts at → IsBegin sites parts at p wish t s → is_tx t ≡ true
  named_spelled at p wish t s h b = let early = b.early in
      subst (λ u. is_tx u ≡ true) (sym b.named)
      (spelled (record { site = at.site; part = at.part; time = p.now + 1 }) h.least_site (omega (arith, h.most_site, few_sites)) h.least_part (omega (arith, h.most_part, few_parts)) (omega (arith, early)))

  begin_spelled : (at : PartId) (p q : PartState E) (event : Event E) (t : TxId) → IsPlace sites parts at → PartStep kinds sites parts at p event q → is_begin event t ≡ true → is_tx t ≡ true
  begin_spelled at p q (Began who dep u s) t h st e = subst (λ y. is_tx y ≡ true) (same_tx_is u t e) (named_spelled at p dep u s h st.1)
  begin_spelled at p q event t h st e = off e

  pub begun_spelled : (run : List (Entry E)) (state : PartId → PartState E) → IsWorldRun kinds sites parts run state → (t : TxId) → begun run t ≡ true → is_tx t ≡ true
  begun_spelled [] state r t h = off h
  begun_spelled (e ∷ run) state r t h = ⊎_elim
      (λ (k : is_begin e.event t ≡ true). begin_spelled e.at (r.0 e.at) (state e.at) e.event t (record { least_site = r.2.place.least_site; most_site = r.2.place.most_site; least_part = r.2.place.least_part; most_part = r.2.place.most_part }) r.2.step k)
      (λ (k : begun run t ≡ true). begun_spelled run r.0 r.1 t k)
      (or_cases _ _ h)
