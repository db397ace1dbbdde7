-- The partitions of a new cluster, one after another.
use Rattle.std.proofs.Common.{◌≡◌, ◌⊎◌, ℕ, zero, suc, ◌+◌, ◌-◌, ◌*◌, ◌<◌, ◌≤◌, List, [], ◌∷◌, ◌++◌, length, refl, sym, ap, ◌∙◌, subst, arith, inl, inr, ⊎_elim}
use Rattle.std.proofs.lemmas.Bool.Decides.{leb_tells}
use Rattle.std.specs.Prelude.{leb, true, false, get_or, None, IsTrue, ⊤}
use Rattle.std.proofs.lemmas.Nat.{mul-le}
use Rattle.std.proofs.lemmas.List.{get_or_push, get_or_append_left, length_push}
use Rattle.site_vector.specs.declared.ids.PartId.{PartId}
use Rattle.gate_log.specs.Rest.{AtRest}
use Rattle.world_model.specs.rules.Partition.{new_part}
use Rattle.world_model.specs.lines.Places.{IsPlace}
use Rattle.partition_core.specs.Durable.{Durable, StandsOn, disk_in}
use Rattle.partition_core.specs.Tables.{Tables}
use Rattle.site_partitions.specs.Held.{index_of}
use Rattle.site_partitions.specs.Made.{AreBlank}
use Rattle.site_partitions.specs.Sound.{AllSound, AreSound, AreUnarmed}
use Rattle.site_partitions.specs.Reaches.{Types, StandsAt, Reaches, AreNew}
use Rattle.site_partitions.proofs.Places.{index_is, index_below}

-- what has the same tables is of the same place
pub same_place : {E D : Type 0} (t u : Durable E D) {at : PartId} {sites parts : ℕ} → u.tables ≡ t.tables → (t.tables.id ≡ at) × (t.tables.sites ≡ sites) × (t.tables.parts ≡ parts) → (u.tables.id ≡ at) × (u.tables.sites ≡ sites) × (u.tables.parts ≡ parts)
same_place t u e h = (ap (λ (x : Tables _). x.id) e ∙ h.0, ap (λ (x : Tables _). x.sites) e ∙ h.1, ap (λ (x : Tables _). x.parts) e ∙ h.2)

less_or : (a b : ℕ) → a < b + 1 → (a < b) ⊎ (a ≡ b)
less_or zero zero l = inr refl
less_or zero (suc b) l = inl (omega arith)
less_or (suc a) zero l = absurd (omega (arith, l))
less_or (suc a) (suc b) l = ⊎_elim (λ (x : a < b). inl (omega (arith, x))) (λ (x : a ≡ b). inr (ap suc x)) (less_or a b (omega (arith, l)))

-- a place within the number of all is at one of the sites
site_fits : (sites parts site part : ℕ) → (site - 1) * parts + (part - 1) < sites * parts → 1 ≤ site → site ≤ sites
site_fits sites parts site part l s = ⊎_elim
    (λ (x : (leb site sites ≡ true) × (site ≤ sites)). x.1)
    (λ (x : (leb site sites ≡ false) × (sites < site)).
    let past = x.1 in
    let up : sites * parts ≤ (site - 1) * parts = mul-le sites parts (site - 1) parts (omega (arith, past)) (omega arith) in absurd (omega (arith, up, l)))
    (leb_tells site sites)

-- so does each element of a list
abbrev pub Each : {A : Type 0} → (A → Type 0) → List A → Type 0
Each P [] = ⊤
Each P (x ∷ xs) = P x × Each P xs

each_pushed : {A : Type 0} (P : A → Type 0) (xs : List A) (x : A) → Each P xs → P x → Each P (xs ++ x ∷ [])
each_pushed P [] x h k = (k, tt)
each_pushed P (y ∷ ys) x h k = (h.0, each_pushed P ys x h.1 k)

each_at : {A : Type 0} (P : A → Type 0) (xs : List A) (i : ℕ) (other : A) → i < length xs → Each P xs → P (get_or xs i other)
each_at P [] i other l h = absurd (omega (arith, l))
each_at P (x ∷ xs) zero other l h = h.0
each_at P (x ∷ xs) (suc i) other l h = each_at P xs i other (omega (arith, l)) h.1

module _ {S E D : Type 0} (w : Types S E D) (sites parts : ℕ) where
  -- no fuse is on the disk of the partition
  abbrev pub IsUnarmed : Durable E D → Type 0
  IsUnarmed t = (disk_in w.state t).left ≡ None

  abbrev pub IsSoundOn : Durable E D → Type 0
  IsSoundOn t = IsTrue (disk_in w.state t).sound

  -- so many partitions were made over the first disks, and the next is this one
  pub record IsFilling (disks rest : List D) (made : List (Durable E D)) (next : PartId) : Type 0 where
    pub front : List D
    pub split : disks ≡ front ++ rest
    pub as_many : length front ≡ length made
    pub count : length made + length rest ≡ sites * parts
    pub least_site : 1 ≤ next.site
    pub least_part : 1 ≤ next.part
    pub most_part : next.part ≤ parts
    pub index : index_of parts next ≡ length made
    pub new : AreBlank w.state disks → AreBlank w.state rest × AreNew w sites parts (length made) made
    pub unarmed : Each IsUnarmed made
    pub sound : AllSound w.state disks → AllSound w.state rest × Each IsSoundOn made

  pub filling_start : (disks : List D) → length disks ≡ sites * parts → 1 ≤ parts → IsFilling disks disks [] (record { site = 1; part = 1 })
  filling_start disks e h = record {
    front = [];
    split = refl;
    as_many = refl;
    count = omega (arith, e);
    least_site = omega arith;
    least_part = omega arith;
    most_part = h;
    index = omega arith;
    new = λ b. (b, record { size = refl; each = λ p h l other. absurd (omega (arith, l)) });
    unarmed = tt;
    sound = λ b. (b, tt);
  }

  module _ (disks rest : List D) (d : D) (more : List D) (made : List (Durable E D)) (next : PartId) (is : rest ≡ d ∷ more) (f : IsFilling disks rest made next) where
    pub fits : IsPlace sites parts next
    fits =
        let count = f.count in
        let some : length rest ≡ suc (length more) = ap length is in
        let index = f.index in record {
          least_site = f.least_site;
          most_site = site_fits sites parts next.site next.part (omega (arith, count, some, index)) f.least_site;
          least_part = f.least_part;
          most_part = f.most_part;
        }

    one_more : (p : Durable E D) → StandsAt w sites parts next p (new_part sites parts) → AreNew w sites parts (length made) made → AreNew w sites parts (length (made ++ p ∷ [])) (made ++ p ∷ [])
    one_more p here a = record {
      size = refl;
      each = λ q h l other. ⊎_elim
          (λ (x : index_of parts q < length made). subst (λ y. StandsAt w sites parts q y (new_part sites parts)) (sym (get_or_append_left made (p ∷ []) other (index_of parts q) x)) (a.each q h x other))
          (λ (x : index_of parts q ≡ length made). subst (λ y. StandsAt w sites parts q y (new_part sites parts)) (sym (get_or_push made p other (index_of parts q) (sym x)))
          (subst (λ (r : PartId). StandsAt w sites parts r p (new_part sites parts)) (index_is sites parts next q fits h (f.index ∙ sym x)) here))
          (less_or (index_of parts q) (length made) (subst (λ n. index_of parts q < n) (length_push made p) l));
    }

    pub filling_more : (p : Durable E D) → (disk_in w.state p).left ≡ None → (disk_in w.state p).sound ≡ (w.state d).sound → (p.tables.id ≡ next) × (p.tables.sites ≡ sites) × (p.tables.parts ≡ parts) → ((end : ℕ) → AtRest (w.state d) end [] → StandsOn w.codec w.state p (new_part sites parts))
        → (all : List (Durable E D)) → all ≡ made ++ p ∷ [] → (after : PartId) → index_of parts after ≡ index_of parts next + 1 → 1 ≤ after.site → 1 ≤ after.part → after.part ≤ parts → IsFilling disks more all after
    filling_more p left alike place stands all e after index least_site least_part most_part =
        let grown : length all ≡ length made + 1 = ap length e ∙ length_push made p in
        let count = f.count in
        let some : length rest ≡ suc (length more) = ap length is in record {
          front = f.front ++ d ∷ [];
          split = f.split ∙ (ap (λ xs. f.front ++ xs) is ∙ regroup f.front);
          as_many = length_push f.front d ∙ (ap (λ n. n + 1) f.as_many ∙ sym grown);
          count = omega (arith, count, some, grown);
          least_site = least_site;
          least_part = least_part;
          most_part = most_part;
          index = index ∙ (ap (λ n. n + 1) f.index ∙ sym grown);
          new = λ b.
              let both = f.new b in
              let blank : AreBlank w.state (d ∷ more) = subst (AreBlank w.state) is both.0 in
              (blank.1, subst (λ xs. AreNew w sites parts (length xs) xs) (sym e) (one_more p (record { id = place.0; sites_are = place.1; parts_are = place.2; stands = stands blank.0.0 blank.0.1 }) both.1));
          unarmed = subst (Each IsUnarmed) (sym e) (each_pushed IsUnarmed made p f.unarmed left);
          sound = λ b.
              let both = f.sound b in
              let fine : AllSound w.state (d ∷ more) = subst (AllSound w.state) is both.0 in
              (fine.1, subst (Each IsSoundOn) (sym e) (each_pushed IsSoundOn made p both.1 (subst (λ x. IsTrue x) (sym alike) fine.0)));
        }
      where
        regroup : (xs : List D) → xs ++ d ∷ more ≡ (xs ++ d ∷ []) ++ more
        regroup [] = refl
        regroup (x ∷ xs) = ap (λ ys. x ∷ ys) (regroup xs)

  -- each is at its place
  filled : (P : Durable E D → Type 0) (disks rest : List D) (made : List (Durable E D)) (next : PartId) → length rest ≡ 0 → IsFilling disks rest made next → Each P made → (p : PartId) → IsPlace sites parts p → (other : Durable E D) → P (get_or made (index_of parts p) other)
  filled P disks rest made next none f each p h other =
      let count = f.count in
      let full : length made ≡ sites * parts = omega (arith, count, none) in each_at P made (index_of parts p) other (subst (λ n. index_of parts p < n) (sym full) (index_below sites parts p h)) each

  pub filling_unarmed : (disks rest : List D) (made : List (Durable E D)) (next : PartId) → length rest ≡ 0 → IsFilling disks rest made next → AreUnarmed w.state (record { sites = sites; parts = parts; partitions = made })
  filling_unarmed disks rest made next none f = filled IsUnarmed disks rest made next none f f.unarmed

  pub filling_sound : (disks rest : List D) (made : List (Durable E D)) (next : PartId) → length rest ≡ 0 → IsFilling disks rest made next → AllSound w.state disks → AreSound w.state (record { sites = sites; parts = parts; partitions = made })
  filling_sound disks rest made next none f b = filled IsSoundOn disks rest made next none f (f.sound b).1

  -- all of them stand for the state before any event
  pub filling_ends : (disks rest : List D) (made : List (Durable E D)) (next : PartId) → length rest ≡ 0 → IsFilling disks rest made next → AreBlank w.state disks → Reaches w (record { sites = sites; parts = parts; partitions = made }) []
  filling_ends disks rest made next none f b =
      let a = (f.new b).1 in
      let count = f.count in
      let full : length made ≡ sites * parts = omega (arith, count, none) in record {
        state = λ p. new_part sites parts;
        is_run = λ p. refl;
        puts = tt;
        each = λ p h other. a.each p h (subst (λ n. index_of parts p < n) (sym full) (index_below sites parts p h)) other;
      }
