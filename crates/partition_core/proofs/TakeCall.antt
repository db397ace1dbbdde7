-- The call that takes a message.
use Rattle.std.proofs.Common.{◌≡◌, ◌≢◌, ⊎_elim, ℕ, ◌<◌, ◌≤◌, ltb, Bool, true, false, ◌||◌, List, [], ◌∷◌, length, refl, sym, ap, ◌∙◌, subst, arith, ◌+◌}
use Rattle.std.proofs.lemmas.Bool.{true≢false, cases_Bool, false_from_ne_true, or_right}
use Rattle.site_vector.specs.declared.ids.TxId.{TxId}
use Rattle.site_vector.specs.Ids.{same_tx}
use Rattle.site_vector.specs.Vector.{entry, replaced}
use Rattle.crdt_core.specs.declared.record.Part.{Part}
use Rattle.crdt_core.specs.declared.record.Message.{Message}
use Rattle.crdt_core.specs.declared.record.Record.{Record}
use Rattle.crdt_core.specs.KindsOf.{Kinds}
use Rattle.crdt_core.specs.Log.{holds, ceiling, grown}
use Rattle.crdt_core.specs.Parts.{lists, above}
use Rattle.prepared_table.specs.declared.entry.Entry.{Entry}
use Rattle.prepared_table.specs.Entries.{has_entry}
use Rattle.effect_store.specs.Stored.{Stored}
use Rattle.world_model.specs.rules.Event.{Took, AskTake, Refused, HasGap, IsRepeat}
use Rattle.world_model.specs.rules.Partition.{batch_of, done}
use Rattle.partition_core.specs.Tables.{Tables}
use Rattle.partition_core.specs.Messages.{AreApart, AreWideParts, CanPut, inserted, updates_in}
use Rattle.partition_core.specs.Sound.{HasRoom}
use Rattle.partition_core.specs.Stands.{Tells}
use Rattle.partition_core.specs.Steps.{Anything, Steps}
use Rattle.partition_core.proofs.Choices.{chosen, or_falses}
use Rattle.partition_core.proofs.Leasing.{refuses}
use Rattle.partition_core.proofs.Taking.{lists_all, batch_tells}
use Rattle.partition_core.proofs.Putting.{wide_above}

or_more : (a b c : Bool) → (b ≡ true → c ≡ true) → (a || b) ≡ true → (a || c) ≡ true
or_more true b c f h = refl
or_more false b c f h = f h

module _ {E : Type 0} where
  pub lists_above : (site b : ℕ) (xs : List (Part E)) (u : TxId) → lists (above site b xs) u ≡ true → lists xs u ≡ true
  lists_above site b [] u k = k
  lists_above site b (x ∷ xs) u k =
      let rest = lists_above site b xs u in
      chosen (λ l. lists l u ≡ true → lists (x ∷ xs) u ≡ true) (ltb b (entry x.c site)) (x ∷ above site b xs) (above site b xs)
      (λ e. or_more (same_tx x.tx u) (lists (above site b xs) u) (lists xs u) rest)
      (λ e k. or_right (same_tx x.tx u) (lists xs u) (rest k))
      k

  unlisted_above : (site b : ℕ) (xs : List (Part E)) (u : TxId) → lists xs u ≡ false → lists (above site b xs) u ≡ false
  unlisted_above site b xs u k = ⊎_elim (λ (e : lists (above site b xs) u ≡ true). absurd (true≢false (sym (lists_above site b xs u e) ∙ k))) (λ (e : lists (above site b xs) u ≡ false). e) (cases_Bool (lists (above site b xs) u))

  pub apart_above : (site b : ℕ) (xs : List (Part E)) → AreApart xs → AreApart (above site b xs)
  apart_above site b [] a = tt
  apart_above site b (x ∷ xs) a = let rest = apart_above site b xs a.1 in chosen AreApart (ltb b (entry x.c site)) (x ∷ above site b xs) (above site b xs) (λ e. (unlisted_above site b xs x.tx a.0, rest)) (λ e. rest)

  -- the record, where the message brings something
  brings : (log : List (Record E)) (site n b : ℕ) (es : List (Entry E)) (old : List (Part E)) (m : Message E) (news : List (Part E)) → AreApart news → ((u : TxId) → lists news u ≡ true → holds log u ≡ false) → ((u : TxId) → lists news u ≡ true → u.site ≢ site) → Tells log site n es old → Tells (grown log (batch_of m b news)) site n es (inserted news old)
  brings log site n b es old m [] a f w t = t
  brings log site n b es old m (x ∷ xs) a f w t = batch_tells log site n es old (record { from = m.from; to = m.to; part = m.part; lo = b; hi = m.hi; parts = x ∷ xs }) a f w t

  same_ceiling : (log : List (Record E)) (m : Message E) (b : ℕ) (news : List (Part E)) → ceiling (grown log (batch_of m b news)) ≡ ceiling log
  same_ceiling log m b [] = refl
  same_ceiling log m b (x ∷ xs) = refl

  -- what was asked of the whole value holds of its fields
  pub unheld_here : (v t : Tables E) (m : Message E) (n : ℕ) → v ≡ t → n ≡ entry v.bounds m.from → ((u : TxId) → lists (above m.from (entry t.bounds m.from) m.parts) u ≡ true → lists t.held u ≡ false) → (u : TxId) → lists (above m.from n m.parts) u ≡ true → lists v.held u ≡ false
  unheld_here v t m n e is f = subst (λ b. (u : TxId) → lists (above m.from b m.parts) u ≡ true → lists v.held u ≡ false) (sym is) (subst (λ (x : Tables E). (u : TxId) → lists (above m.from (entry x.bounds m.from) m.parts) u ≡ true → lists x.held u ≡ false) (sym e) f)

  -- the store takes what a message brings
  pub can_put : (all news : List (Part E)) (sites site b pending promised : ℕ) (old after : Stored E) → news ≡ above site b all → old.sites ≡ sites → AreApart all → AreWideParts sites all → ((u : TxId) → lists (above site b all) u ≡ true → lists old.parts u ≡ false) → after.sites ≡ old.sites → after.parts ≡ old.parts → pending + length news ≤ after.room → promised + updates_in news ≤ after.update_room → CanPut news after
  can_put all news sites site b pending promised old after is width apart wide new same held room update_room = record {
    room = omega arith;
    update_room = omega arith;
    apart = subst AreApart (sym is) (apart_above site b all apart);
    fresh = λ u k. ap (λ l. lists l u) held ∙ new u (ap (λ l. lists l u) (sym is) ∙ k);
    wide = subst (λ l. AreWideParts after.sites l) (sym is) (subst (λ n. AreWideParts n (above site b all)) (sym width ∙ sym same) (wide_above sites site b all wide));
  }

  -- and still has room for what is pending
  pub taken_room : (xs : List (Entry E)) (home promised site b : ℕ) (all news : List (Part E)) (old mid after : Stored E) → HasRoom xs promised old → ((u : TxId) → has_entry xs u ≡ true → u.site ≡ home) → ((u : TxId) → lists all u ≡ true → u.site ≢ home) → news ≡ above site b all → mid.parts ≡ old.parts → length xs + length news ≤ mid.room → promised + updates_in news ≤ mid.update_room → after.parts ≡ inserted news mid.parts → after.room + length news ≡ mid.room → after.update_room + updates_in news ≡ mid.update_room → HasRoom xs promised after
  taken_room xs home promised site b all news old mid after h here away is held room update_room put taken taken_updates = record {
    single = h.single;
    apart = λ u k. ap (λ l. lists l u) put ∙ lists_all news mid.parts u ∙ or_falses _ _ (false_from_ne_true (lists news u) (λ e. away u (lists_above site b all u (ap (λ l. lists l u) (sym is) ∙ e)) (here u k))) (ap (λ l. lists l u) held ∙ h.apart u k);
    counted = h.counted;
    room = omega arith;
    update_room = omega arith;
  }

module _ {S E : Type 0} (kinds : Kinds S E) (t : Tables E) (number : ℕ) (m : Message E) where
  pub take_gap : (n : ℕ) → n ≡ entry t.bounds m.from → n < m.lo → Steps kinds t Anything (λ e. e ≡ Refused (AskTake number m) (HasGap n)) t
  take_gap n e k = refuses kinds Anything t (AskTake number m) (HasGap n) (λ p h. (h.up, (e ∙ ap (λ b. entry b m.from) (sym h.bounds), k)))

  pub take_repeat : (n : ℕ) → n ≡ entry t.bounds m.from → m.lo ≤ n → m.hi ≤ n → Steps kinds t Anything (λ e. e ≡ Refused (AskTake number m) (IsRepeat n)) t
  take_repeat n e j k = refuses kinds Anything t (AskTake number m) (IsRepeat n) (λ p h. (h.up, (e ∙ ap (λ b. entry b m.from) (sym h.bounds), j, k)))

  abbrev pub with_taken : List (Part E) → List ℕ → Tables E
  with_taken ps bounds = record { id = t.id; sites = t.sites; parts = t.parts; clock = t.clock; ceiling = t.ceiling; pending = t.pending; held = ps; bounds = bounds; heard = t.heard; sent = t.sent }

  pub takes : (n : ℕ) (news ps : List (Part E)) (bounds : List ℕ) → n ≡ entry t.bounds m.from → m.lo ≤ n → n < m.hi → news ≡ above m.from n m.parts → ps ≡ inserted news t.held → bounds ≡ replaced t.bounds m.from m.hi → AreApart m.parts → ((u : TxId) → lists m.parts u ≡ true → u.site ≢ t.id.site) → ((u : TxId) → lists (above m.from (entry t.bounds m.from) m.parts) u ≡ true → lists t.held u ≡ false)
      → Steps kinds t Anything (λ e. e ≡ Took number m) (with_taken ps bounds)
  takes n news ps bounds is low high news_are ps_are bounds_are apart away new = record {
    same = record { id = refl; sites = refl; parts = refl };
    step = λ p h g.
        let have : entry p.bounds m.from ≡ n = ap (λ b. entry b m.from) h.bounds ∙ sym is in
        let brought : List (Part E) = above m.from (entry p.bounds m.from) m.parts in
        let put : inserted brought t.held ≡ ps = ap (λ k. inserted (above m.from k m.parts) t.held) have ∙ ap (λ l. inserted l t.held) (sym news_are) ∙ sym ps_are in
        let unheld : (u : TxId) → lists brought u ≡ true → holds p.log u ≡ false = λ u k. sym (h.tells.store.members u) ∙ new u (subst (λ b. lists (above m.from (entry b m.from) m.parts) u ≡ true) h.bounds k) in record {
          event = Took number m;
          after = done p (Took number m);
          shows = refl;
          step = (h.up, (subst (λ k. m.lo ≤ k) (sym have) low, subst (λ k. k < m.hi) (sym have) high), refl);
          stands = record {
            up = refl;
            whole = refl;
            clock = h.clock;
            ceiling = same_ceiling p.log m (entry p.bounds m.from) brought ∙ h.ceiling;
            tells = subst (λ l. Tells (grown p.log (batch_of m (entry p.bounds m.from) brought)) t.id.site t.clock t.pending l) put (brings p.log t.id.site t.clock (entry p.bounds m.from) t.pending t.held m brought (apart_above m.from (entry p.bounds m.from) m.parts apart) unheld (λ u k. away u (lists_above m.from (entry p.bounds m.from) m.parts u k)) h.tells);
            bounds = ap (λ b. replaced b m.from m.hi) h.bounds ∙ sym bounds_are;
            heard = h.heard;
            sent = h.sent;
          };
        };
  }
