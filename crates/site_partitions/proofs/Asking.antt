-- What a call of one partition may rest on, where it may be asked; and that a cluster's may be asked of its partition.
use Rattle.std.proofs.Common.{◌≡◌, ℕ, ◌≤◌, true, false, List, length, get_or, refl, sym, ap, ◌∙◌, subst, Option}
use Rattle.site_vector.specs.declared.ids.PartId.{PartId}
use Rattle.site_vector.specs.declared.ids.TxId.{TxId}
use Rattle.crdt_core.specs.declared.object.ObjectId.{ObjectId}
use Rattle.crdt_core.specs.declared.operation.Op.{Op}
use Rattle.crdt_core.specs.declared.record.Upd.{Upd}
use Rattle.crdt_core.specs.declared.record.Record.TheVariants.{Prepare}
use Rattle.crdt_core.specs.Spelled.{is_tx}
use Rattle.field_codec.specs.FormLaws.{and_true}
use Rattle.log_records.specs.Records.{can_put_record}
use Rattle.log_records.specs.Updates.{can_put_updates}
use Rattle.world_model.specs.lines.Lines.{Wish}
use Rattle.world_model.specs.rules.Event.{Ballot, Ask, AskBegin, AskRead, AskUpdate, AskPrepare, AskDecide, AskFinish, AskMessage, AskHear, Reported, Refused, IsGone, Entry, time_of, report_count}
use Rattle.world_model.specs.lines.Places.{IsOther, IsPlace}
use Rattle.world_model.specs.rules.World.{plan_of, begun, IsWorldRun}
use Rattle.world_model.specs.rules.Partition.{PartState}
use Rattle.crdt_core.specs.KindsOf.{Kinds}
use Rattle.world_model.specs.rules.Asking.{MayCall}
use Rattle.world_model.proofs.Asks.{asks}
use Rattle.world_model.proofs.Fate.{voted_tried}
use Rattle.world_model.proofs.Intervals.{numbered_shown}
use Rattle.world_model.proofs.Premises.{premises}
use Rattle.world_model.proofs.Whole.{part_begun, tried_begun}
use Rattle.partition_core.specs.Durable.{Durable, StandsSo, StandsUp, is_down}
use Rattle.partition_core.specs.Stands.{IsNew}
use Rattle.partition_core.specs.Tables.{knows}
use Rattle.partition_core.proofs.Callers.{knows_no_new}
use Rattle.site_partitions.specs.Asked.{IsAskable}
use Rattle.site_partitions.specs.Held.{Held, IsSized, index_of}
use Rattle.site_partitions.specs.Reaches.{Types, StandsAt, Reaches, MayAsk, HasBegun}
use Rattle.site_partitions.proofs.Begun.{begun_spelled}
use Rattle.site_partitions.proofs.Changes.{changes_put}
use Rattle.site_partitions.proofs.Naming.{is_new}
use Rattle.site_partitions.proofs.Widths.{voted_width, taking_width, shown_width, handed_width, reported_width}

-- the log names a transaction in no record that was never asked for its vote
module _ {S E : Type 0} (kinds : Kinds S E) (sites parts : ℕ) (at : PartId) where
  pub never_named : (run : List (Entry E)) (state : PartId → PartState E) → IsWorldRun kinds sites parts run state → (tx : TxId) (s : List ℕ) (l : Ballot) (us : List (Upd E)) → MayCall sites parts run at (AskPrepare tx s l us) → IsNew (state at).log tx
  never_named run state r tx s l us m = is_new tx (state at).log ((premises kinds sites parts run state r).unasked at tx (sym m.0.site) m.1.fresh)

module _ {E D : Type 0} (sites parts : ℕ) (items : List (Durable E D)) (c : Held E D) (view : record { sites = sites; parts = parts; partitions = items } ≡ c) (size : IsSized sites parts (length items)) where
  few_sites : c.sites ≤ 8
  few_sites = subst (λ (h : Held E D). h.sites ≤ 8) view size.most_sites

  few_parts : c.parts ≤ 16
  few_parts = subst (λ (h : Held E D). h.parts ≤ 16) view size.most_parts

module _ {S E D : Type 0} (w : Types S E D) (sites parts : ℕ) (at : PartId) (t : Durable E D) where
  -- where it is up, its tables stand for the state
  pub up_of : (ask : Ask E) (m : IsAskable w sites parts at t ask) → is_down t ≡ false → StandsUp w.codec w.state t (m.state at)
  up_of ask m up = subst (λ b. StandsSo w.codec w.state t (m.state at) b) up m.stands.stands

  of_cluster : (ask : Ask E) (n : ℕ) → IsAskable w sites parts at t ask → n ≡ sites → n ≡ t.tables.sites
  of_cluster ask n m e = e ∙ sym m.stands.sites_are

  of_site : (ask : Ask E) (n : ℕ) → IsAskable w sites parts at t ask → at.site ≡ n → n ≡ t.tables.id.site
  of_site ask n m e = sym e ∙ sym (ap (λ (p : PartId). p.site) m.stands.id)

  pub begin_width : (who : List ℕ) (wish : Wish) → IsAskable w sites parts at t (AskBegin who wish) → length wish.past ≡ t.tables.sites
  begin_width who wish m = of_cluster (AskBegin who wish) (length wish.past) m (handed_width w.kinds sites parts m.run m.state m.is_run wish.past m.allowed)

  pub read_width : (tx : TxId) (s : List ℕ) (o : ObjectId) (own : List (Upd E)) → IsAskable w sites parts at t (AskRead tx s o own) → length s ≡ t.tables.sites
  read_width tx s o own m = of_cluster (AskRead tx s o own) (length s) m (shown_width w.kinds sites parts m.run m.state m.is_run _ _ _ tx s m.allowed.begun)

  pub update_width : (tx : TxId) (s : List ℕ) (o : ObjectId) (own : List (Upd E)) (op : Op) → IsAskable w sites parts at t (AskUpdate tx s o own op) → length s ≡ t.tables.sites
  update_width tx s o own op m = of_cluster (AskUpdate tx s o own op) (length s) m (shown_width w.kinds sites parts m.run m.state m.is_run _ _ _ tx s m.allowed.0.begun)

  pub prepare_width : (tx : TxId) (s : List ℕ) (l : Ballot) (us : List (Upd E)) → IsAskable w sites parts at t (AskPrepare tx s l us) → length s ≡ t.tables.sites
  prepare_width tx s l us m = of_cluster (AskPrepare tx s l us) (length s) m (shown_width w.kinds sites parts m.run m.state m.is_run _ _ _ tx s m.allowed.0.begun)

  pub prepare_site : (tx : TxId) (s : List ℕ) (l : Ballot) (us : List (Upd E)) → IsAskable w sites parts at t (AskPrepare tx s l us) → tx.site ≡ t.tables.id.site
  prepare_site tx s l us m = of_site (AskPrepare tx s l us) tx.site m m.allowed.0.site

  pub prepare_unknown : (tx : TxId) (s : List ℕ) (l : Ballot) (us : List (Upd E)) → IsAskable w sites parts at t (AskPrepare tx s l us) → is_down t ≡ false → knows t.tables tx ≡ false
  prepare_unknown tx s l us m up = knows_no_new t.tables (m.state at) (up_of (AskPrepare tx s l us) m up).tables tx (never_named w.kinds sites parts at m.run m.state m.is_run tx s l us m.allowed)

  pub decide_width : (tx : TxId) (v : List ℕ) → IsAskable w sites parts at t (AskDecide tx v) → length v ≡ t.tables.sites
  decide_width tx v m = of_cluster (AskDecide tx v) (length v) m (ap length m.allowed.vector ∙ voted_width w.kinds sites parts m.run m.state m.is_run tx at (time_of m.run tx) m.allowed.here)

  pub decide_site : (tx : TxId) (v : List ℕ) → IsAskable w sites parts at t (AskDecide tx v) → tx.site ≡ t.tables.id.site
  decide_site tx v m = of_site (AskDecide tx v) tx.site m (asks sites parts m.run m.state at (Refused (AskDecide tx v) IsGone) m.allowed refl)

  pub finish_width : (tx : TxId) (v : List ℕ) → IsAskable w sites parts at t (AskFinish tx v) → length v ≡ t.tables.sites
  finish_width tx v m = of_cluster (AskFinish tx v) (length v) m (ap length m.allowed.1.vector ∙ taking_width w.kinds sites parts m.run m.state m.is_run tx at (time_of m.run tx) m.allowed.0)

  pub finish_site : (tx : TxId) (v : List ℕ) → IsAskable w sites parts at t (AskFinish tx v) → tx.site ≡ t.tables.id.site
  finish_site tx v m = of_site (AskFinish tx v) tx.site m ((plan_of sites parts m.run).at_home tx at m.allowed.0)

  pub release_site : (to : ℕ) (from : Option ℕ) → IsAskable w sites parts at t (AskMessage to from) → IsOther sites at.site to → IsOther t.tables.sites t.tables.id.site to
  release_site to from m o = subst (λ n. IsOther n t.tables.id.site to) (sym m.stands.sites_are) (subst (λ (p : PartId). IsOther sites p.site to) (sym m.stands.id) o)

  pub hear_most : (number part : ℕ) (b : List ℕ) → IsAskable w sites parts at t (AskHear number part b) → part ≤ t.tables.parts
  hear_most number part b m = subst (λ n. part ≤ n) (sym m.stands.parts_are) m.allowed.most

  pub hear_width : (number part : ℕ) (b : List ℕ) → IsAskable w sites parts at t (AskHear number part b) → length b ≡ t.tables.sites
  hear_width number part b m = of_cluster (AskHear number part b) (length b) m (reported_width w.kinds sites parts m.run m.state m.is_run _ b (numbered_shown report_count m.run number _ (Reported b) m.allowed.shown))

  -- what has begun has a spelling
  pub tx_of : (ask : Ask E) (m : IsAskable w sites parts at t ask) (tx : TxId) → begun m.run tx ≡ true → is_tx tx ≡ true
  tx_of ask m tx h = begun_spelled w.kinds sites parts m.few_sites m.few_parts m.run m.state m.is_run tx h

  pub decide_is_tx : (tx : TxId) (v : List ℕ) → IsAskable w sites parts at t (AskDecide tx v) → is_tx tx ≡ true
  decide_is_tx tx v m = tx_of (AskDecide tx v) m tx (tried_begun w.kinds sites parts m.run m.state tx at m.is_run (voted_tried m.run tx at m.allowed.here))

  pub finish_is_tx : (tx : TxId) (v : List ℕ) → IsAskable w sites parts at t (AskFinish tx v) → is_tx tx ≡ true
  finish_is_tx tx v m = tx_of (AskFinish tx v) m tx (part_begun sites m.run tx at m.allowed.0)

  pub prepare_is_tx : (tx : TxId) (s : List ℕ) (l : Ballot) (us : List (Upd E)) → IsAskable w sites parts at t (AskPrepare tx s l us) → is_tx tx ≡ true
  prepare_is_tx tx s l us m = tx_of (AskPrepare tx s l us) m tx (part_begun sites m.run tx at m.allowed.1.takes)

  -- what it was asked for can be put into a log
  pub prepare_put : (tx : TxId) (s : List ℕ) (l : Ballot) (us : List (Upd E)) (time : ℕ) → IsAskable w sites parts at t (AskPrepare tx s l us) → can_put_record w.kinds.has w.is_of w.can_put (Prepare tx l.lead time s us) ≡ true
  prepare_put tx s l us time m =
      and_true (is_tx tx) (can_put_updates w.kinds.has w.is_of w.can_put us) (prepare_is_tx tx s l us m)
      (subst (λ xs. can_put_updates w.kinds.has w.is_of w.can_put xs ≡ true) (sym m.allowed.1.changes) (changes_put w sites parts m.run m.state m.is_run m.puts tx at m.allowed.1.takes))

module _ {S E D : Type 0} (w : Types S E D) (sites parts : ℕ) (items : List (Durable E D)) (c : Held E D) (view : record { sites = sites; parts = parts; partitions = items } ≡ c) (at : PartId) (i : ℕ) (found : i ≡ index_of parts at) (t : Durable E D) (read : t ≡ get_or items i t) where
  is : i ≡ index_of c.parts at
  is = found ∙ ap (λ (h : Held E D). index_of h.parts at) view

  there : t ≡ get_or c.partitions i t
  there = read ∙ ap (λ (h : Held E D). get_or h.partitions i t) view

  -- it is that partition
  pub at_place : (run : List (Entry E)) (r : Reaches w c run) → IsPlace c.sites c.parts at → StandsAt w c.sites c.parts at t (r.state at)
  at_place run r place = subst (λ x. StandsAt w c.sites c.parts at x (r.state at)) (sym (there ∙ ap (λ k. get_or c.partitions k t) is)) (r.each at place t)

  -- where it is up, its tables stand for the state
  pub up_place : (run : List (Entry E)) (r : Reaches w c run) → IsPlace c.sites c.parts at → is_down t ≡ false → StandsUp w.codec w.state t (r.state at)
  up_place run r place up = subst (λ b. StandsSo w.codec w.state t (r.state at) b) up (at_place run r place).stands

  -- what may be asked of the cluster's partition may be asked of this one
  pub askable : IsSized sites parts (length items) → (ask : Ask E) → MayAsk w c at ask → IsAskable w c.sites c.parts at t ask
  askable size ask m = record {
    few_sites = few_sites sites parts items c view size;
    few_parts = few_parts sites parts items c view size;
    place = m.place;
    run = m.run;
    state = m.reached.state;
    is_run = m.reached.is_run;
    puts = m.reached.puts;
    stands = at_place m.run m.reached m.place;
    allowed = m.allowed;
  }

module _ {S E D : Type 0} (w : Types S E D) (sites parts : ℕ) (items : List (Durable E D)) (c : Held E D) (view : record { sites = sites; parts = parts; partitions = items } ≡ c) (size : IsSized sites parts (length items)) where
  pub begun_is_tx : (t : TxId) → HasBegun w c t → is_tx t ≡ true
  begun_is_tx t h = begun_spelled w.kinds c.sites c.parts (few_sites sites parts items c view size) (few_parts sites parts items c view size) h.run h.reached.state h.reached.is_run t h.begun
