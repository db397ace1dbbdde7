-- The disks of a cluster that go back to their maker.
use Rattle.std.proofs.Common.{◌≡◌, ℕ, zero, suc, ◌+◌, ◌-◌, ◌*◌, ◌<◌, ◌≤◌, List, [], ◌∷◌, ◌++◌, length, get_or, None, Some, refl, sym, ap, ◌∙◌, subst, arith, append_assoc}
use Rattle.std.specs.Prelude.{Option, map, IsTrue, true, false, nat_lt, if◌then◌else◌}
use Rattle.std.proofs.lemmas.List.{append-nil}
use Rattle.std.proofs.lemmas.Nat.{mul-le}
use Rattle.std.proofs.Math.Nat.{add-mul}
use Rattle.site_vector.specs.declared.ids.PartId.{PartId}
use Rattle.disk_core.specs.States.{DiskState}
use Rattle.disk_core.specs.Fuses.{fused_state, inside}
use Rattle.disk_core.specs.declared.fused.Fused.{Fused}
use Rattle.disk_makers.specs.Makers.{Maker, TakesBack}
use Rattle.gate_log.specs.Rest.{AtRest}
use Rattle.gate_log.specs.Logs.{disk_of}
use Rattle.partition_core.specs.Durable.{Durable}
use Rattle.world_model.specs.commands.Cluster.{sites_of, parts_of}
use Rattle.world_model.specs.lines.Places.{IsPlace}
use Rattle.world_model.specs.commands.Run.{Run}
use Rattle.site_partitions.specs.Held.{index_of, IsSized}
use Rattle.site_partitions.specs.Made.{HandsBack}
use Rattle.site_partitions.specs.declared.make.MakeError.{MakeError}
use Rattle.site_partitions.specs.declared.make.MakeError.TheVariants as make
use Rattle.world_model.specs.declared.command.Command.TheVariants as command
use Rattle.world_model.specs.declared.step.Step.{Step}
use Rattle.cluster.specs.Reached.{Applies, parts_in, partitions_in, SizedIn}
use Rattle.cluster.specs.Post.{WholeState}
use Rattle.site_partitions.specs.Reaches.{Types}
use Rattle.cluster.proofs.Laws.{history, log_left, none_made, rooms_left}
use Rattle.dc_engine.specs.declared.framing.Framing.{Framing}
use Rattle.dc_engine.proofs.OneReply.{is_only}
use Rattle.dc_engine.specs.Answered.{AnsweredFused, Answered, AnsweredWhole}
use Rattle.dc_engine.specs.GivenBack.{HoldsLogOf, GivenBack, IsRoomIn}
use Rattle.dc_engine.specs.Held.{Standing, IsLeft, Reached, HasOutOf}
use Rattle.dc_engine.specs.Makers.{IsUnchanged, GivesBack, ReturnsAll, FailsAt, number_or_none, disk_from, with_places, next_place, first_place}
use Rattle.dc_engine.specs.ObjectKinds.{types}

pub close_by : (parts : ℕ) (at next : PartId) → next ≡ next_place parts at → next.site ≤ at.site + 1
close_by parts at next e = elim (nat_lt at.part parts) as (λ b. next ≡ (if b then record { site = at.site; part = at.part + 1 } else record { site = at.site + 1; part = 1 }) → next.site ≤ at.site + 1) [
  | true ↦ λ k. subst (λ (p : PartId). p.site ≤ at.site + 1) (sym k) (omega arith)
  | false ↦ λ k. subst (λ (p : PartId). p.site ≤ at.site + 1) (sym k) (omega arith)
] e

module _ {D : Type 0} where
  -- the first disks were given back, and with the rest all are
  pub record IsGiving (parts : ℕ) (all : List D) (start : Maker D) (at : PartId) (rest : List D) (now : Maker D) : Type 0 where
    pub enough : length rest ≤ now.out
    pub near : at.site + length rest ≤ 129
    pub goes : (end : Maker D) → GivesBack parts at rest now end → GivesBack parts first_place all start end

  pub giving_start : (parts : ℕ) (all : List D) (start : Maker D) → length all ≤ 128 → length all ≤ start.out → IsGiving parts all start first_place all start
  giving_start parts all start few enough = record { enough = enough; near = omega (arith, few); goes = λ end g. g }

  pub giving_more : (parts : ℕ) (all : List D) (start : Maker D) (at : PartId) (d : D) (rest : List D) (now new : Maker D) → IsGiving parts all start at (d ∷ rest) now → TakesBack at d now new → (next : PartId) → next ≡ next_place parts at → IsGiving parts all start next rest new
  giving_more parts all start at d rest now new g t next e = record {
    enough = let a = g.enough in let b = t.out in omega (arith, a, b);
    near = let a = g.near in let b = close_by parts at next e in omega (arith, a, b);
    goes = λ end h. g.goes end (record {
      out = let a = t.out in let b = h.out in omega (arith, a, b);
      faults = h.faults ∙ t.faults;
      tells = h.tells ∙ t.tells;
      given = λ tells. h.given (subst IsTrue (sym t.tells) tells) ∙ (ap (λ l. l ++ with_places parts next rest) (t.given tells) ∙ (append_assoc now.given ((at, d) ∷ []) (with_places parts next rest) ∙ ap (λ p. now.given ++ (at, d) ∷ with_places parts p rest) e));
    });
  }

  pub giving_end : {A : Type 0} (f : A → D) (parts : ℕ) (all : List D) (start : Maker D) (at : PartId) (rest : List A) (now : Maker D) → length rest ≤ 0 → IsGiving parts all start at (map f rest) now → GivesBack parts first_place all start now
  giving_end f parts all start at [] now e g = g.goes now (record { out = omega arith; faults = refl; tells = refl; given = λ t. sym (append-nil now.given) })
  giving_end f parts all start at (x ∷ rest) now e g = absurd (omega (arith, e))

-- a place lies within the list
row_after : (parts site : ℕ) → 1 ≤ site → site * parts ≡ (site - 1) * parts + parts
row_after parts site h =
    let whole : site ≡ (site - 1) + 1 = omega (arith, h) in
    let one : 1 * parts ≡ parts = omega arith in ap (λ n. n * parts) whole ∙ (add-mul (site - 1) 1 parts ∙ ap (λ n. (site - 1) * parts + n) one)

index_below : (sites parts : ℕ) (p : PartId) → IsPlace sites parts p → index_of parts p < sites * parts
index_below sites parts p h =
    let e = row_after parts p.site h.least_site in
    let up : p.site * parts ≤ sites * parts = mul-le p.site parts sites parts h.most_site (omega arith) in omega (arith, e, up, h.least_part, h.most_part)

length_map : {A B : Type 0} (f : A → B) (xs : List A) → length (map f xs) ≡ length xs
length_map f [] = refl
length_map f (x ∷ xs) = ap suc (length_map f xs)

-- what stands there of a list that was mapped
pub record IsMappedAt {A B : Type 0} (f : A → B) (xs : List A) (i : ℕ) (other : B) : Type 0 where
  pub one : A
  pub there : (o : A) → get_or xs i o ≡ one
  pub mapped : get_or (map f xs) i other ≡ f one

is_mapped_at : {A B : Type 0} (f : A → B) (xs : List A) (i : ℕ) (other : B) → i < length xs → IsMappedAt f xs i other
is_mapped_at f [] i other h = absurd (omega (arith, h))
is_mapped_at f (x ∷ xs) zero other h = record { one = x; there = λ o. refl; mapped = refl }
is_mapped_at f (x ∷ xs) (suc i) other h = let more = is_mapped_at f xs i other (omega (arith, h)) in record { one = more.one; there = more.there; mapped = more.mapped }

pub few_of : (sites parts n : ℕ) → IsSized sites parts n → n ≤ 128
few_of sites parts n s = let up : sites * parts ≤ 8 * 16 = mul-le sites parts 8 16 s.most_sites s.most_parts in let all = s.all in omega (arith, up, all)

-- of a cluster of any kinds
module _ {S E D : Type 0} (t : Types S E D) where
  -- as many disks are out as the cluster has partitions
  pub enough_in : (c : Option (WholeState E D)) (out : ℕ) → SizedIn c → HasOutOf t out c → length (partitions_in c) ≤ out
  enough_in None out s h = omega arith
  enough_in (Some w) out s h =
      let e : length w.live.sites.partitions ≡ sites_of h.run * parts_of h.run = s.all ∙ (λ i. h.left.live.sites i * h.left.live.parts i) in
      let enough = h.enough in omega (arith, e, enough)

  -- a cluster that doesn't come up for the disk of one of its partitions
  pub failed_applies : (state : D → DiskState) (sites parts : ℕ) (disks : List D) (error : MakeError D) (steps : List Step) (new : Option (WholeState E D)) → new ≡ None → HandsBack state sites parts disks error → FailsAt state error steps → Applies t None (command.Cluster sites parts) steps new
  failed_applies state sites parts disks make.NoMemory steps new n h f = absurd f
  failed_applies state sites parts disks (make.Partition at disk why) steps new n h f = subst (λ (c : Option (WholeState E D)). Applies t None (command.Cluster sites parts) steps c) (sym n) (none_made t sites parts at steps h.place f.2)

module _ {E D : Type 0} where
  pub few_in : (c : Option (WholeState E D)) → SizedIn c → length (partitions_in c) ≤ 128
  few_in None s = omega arith
  few_in (Some w) s = few_of w.live.sites.sites w.live.sites.parts (length w.live.sites.partitions) s

  pub returns_all : (c : Option (WholeState E (Fused D))) (n : ℕ) (items : List (Durable E (Fused D))) (old new : Maker D) → n ≡ number_or_none (parts_in c) → items ≡ partitions_in c → SizedIn c → GivesBack n first_place (map disk_from items) old new → ReturnsAll c old new
  returns_all c n items old new e is s b = record {
    sized = s;
    back = subst (λ k. GivesBack k first_place (map disk_from (partitions_in c)) old new) e (subst (λ l. GivesBack n first_place (map disk_from l) old new) is b);
  }

module _ {D : Type 0} (state : D → DiskState) where
  -- a disk without its fuse holds what it holds with it
  unfused : (disk : Fused D) (end : ℕ) (payloads : List (List ℕ)) → AtRest (fused_state state disk) end payloads → AtRest (state (inside disk)) end payloads
  unfused disk end payloads a = record { tells = a.tells; settled = a.settled; log = a.log; place = a.place }

  -- what was played is told of the disks too
  returned : (c : Standing D) (run : Run) (left : IsLeft state c run) (start mid end : Maker D) → IsUnchanged start mid → ReturnsAll c mid end → IsTrue start.tells → GivenBack state run (history (types (fused_state state)) c run left).events start end
  returned None run b start mid end begun back tells = record {
    disks = [];
    all = let e = b.sites in let none : 0 * parts_of run ≡ 0 = omega arith in sym (ap (λ n. n * parts_of run) e ∙ none);
    given = back.back.given (subst IsTrue (sym begun.tells) tells) ∙ ap (λ l. l ++ []) begun.given;
    logs = λ p place up other. let e = b.sites in let least = place.least_site in let most = place.most_site in absurd (omega (arith, e, least, most));
    rooms = tt;
  }
  returned (Some w) run r start mid end begun back tells =
      let partitions = w.live.sites.partitions in
      let count : length partitions ≡ sites_of run * parts_of run = back.sized.all ∙ (λ i. r.live.sites i * r.live.parts i) in record {
        disks = map disk_from partitions;
        all = length_map disk_from partitions ∙ count;
        given = back.back.given (subst IsTrue (sym begun.tells) tells) ∙ (λ i. begun.given i ++ with_places (r.live.parts i) first_place (map disk_from partitions));
        logs = λ p place up other.
            let below = index_below (sites_of run) (parts_of run) p place in
            let s = is_mapped_at disk_from partitions (index_of (parts_of run) p) other (omega (arith, below, count)) in
            let l = log_left (types (fused_state state)) w run r p s.one place up s.there in
            subst (λ (d : D). HoldsLogOf (sites_of run) (parts_of run) (history (types (fused_state state)) (Some w) run r).events p (state d)) (sym s.mapped)
            (record { log = l.log; left = l.left; end = _; at_rest = unfused (disk_of s.one.gates) _ _ l.records.is_open.at_rest; spelled = l.records.spelled });
        rooms = rooms_left (types (fused_state state)) w run r (IsRoomIn state (parts_of run) (map disk_from partitions)) (λ p n place room other.
            let below = index_below (sites_of run) (parts_of run) p place in
            let s = is_mapped_at disk_from partitions (index_of (parts_of run) p) other (omega (arith, below, count)) in
            ap (λ d. (state d).room) s.mapped ∙ (ap (λ (t : Durable _ (Fused D)). (fused_state state (disk_of t.gates)).room) (sym (s.there s.one)) ∙ room s.one));
      }

  abbrev pub reached_answered : (sound : Type 0) (f : Framing) (spelled : ℕ → Step → List ℕ) (c : Standing D) (lines : List (List ℕ)) (bytes : List ℕ) → Reached state sound f spelled c lines bytes → AnsweredFused sound f spelled lines bytes
  reached_answered sound f spelled c lines bytes r = record { answered = record { run = r.run; answers = r.answers; history = history (types (fused_state state)) c r.run r.left; only = is_only f lines r.run r.answers (history (types (fused_state state)) c r.run r.left); written = r.written }; fused = r.fused }

  pub reached_whole : (sound : Type 0) (f : Framing) (spelled : ℕ → Step → List ℕ) (c : Standing D) (start mid end : Maker D) → IsUnchanged start mid → ReturnsAll c mid end → (lines : List (List ℕ)) (bytes : List ℕ) → Reached state sound f spelled c lines bytes → AnsweredWhole sound f spelled state start end lines bytes
  reached_whole sound f spelled c start mid end begun back lines bytes r = record {
    fully = reached_answered sound f spelled c lines bytes r;
    given_back = λ tells. returned c r.run r.left start mid end begun back tells;
  }
