-- Two appends, one after the other, where there is room for both.
use Rattle.std.proofs.Common.{◌≡◌, ◌≢◌, inl, inr, ⊎_elim, ℕ, ◌+◌, ◌-◌, ◌≤◌, Bool, true, false, List, [], ◌∷◌, Option, None, Some, Result, Ok, Err, refl, ap, ◌∙◌, sym, subst, arith}
use Rattle.std.specs.Prelude.{IfErr, IsTrue}
use Rattle.disk_core.specs.States.{DiskState, GoesOn, Rose, Fails, fewer, Spared}
use Rattle.disk_core.proofs.Moments.{weaker, joined}
use Rattle.gate_log.specs.Logs.{disk_of, gate_of, is_closed}
use Rattle.gate_log.specs.Rest.{Lowers}
use Rattle.gate_log.specs.declared.log.GateLog.{GateLog}
use Rattle.gate_log.specs.declared.error.AppendError.{AppendError}
use Rattle.gate_log.specs.declared.error.AppendError.TheVariants.{Failed, Full, Closed, NoMemory}
use Rattle.crdt_core.specs.declared.record.Record.{Record}
use Rattle.partition_log.specs.Codec.{Codec}
use Rattle.partition_log.specs.Logs.{HoldsFront, size}
use Rattle.partition_log.specs.Appends.{Appends}
use Rattle.partition_log.proofs.One.{on_ok}

abbrev answer : {T : Type 0} → T → Result T AppendError
answer x = Ok x

abbrev refusal : {T : Type 0} → AppendError → Result T AppendError
refusal e = Err e

fewer_twice : (n m : ℕ) (left : Option ℕ) → fewer n (fewer m left) ≡ fewer (m + n) left
fewer_twice n m None = refl
fewer_twice n m (Some k) = let same : k - m - n ≡ k - (m + n) = omega arith in ap Some same

spared_twice : (n m : ℕ) (old mid : Option ℕ) → Spared n old → mid ≡ fewer n old → Spared m mid → Spared (n + m) old
spared_twice n m None mid first is second = tt
spared_twice n m (Some k) mid first is second = let behind : m ≤ k - n - 1 = subst (λ o. Spared m o) is second in omega (arith, first, behind)

lowers_twice : (n m : ℕ) (a b c : Option ℕ) → Lowers n a b → Lowers m b c → Lowers (n + m) a c
lowers_twice n m a b c p q = record {
  count = p.count + q.count;
  less = let one = p.less in let two = q.less in omega arith;
  left = q.left ∙ ap (fewer q.count) p.left ∙ fewer_twice q.count p.count a;
}

goes_on_twice : (a b c : DiskState) → GoesOn a b → GoesOn b c → GoesOn a c
goes_on_twice a b c p q = record {
  tells = q.tells ∙ p.tells;
  room = q.room ∙ p.room;
  sound = q.sound ∙ p.sound;
  later = let one = p.later in let two = q.later in omega arith;
  starved = λ h. q.starved (p.starved h);
}

rose_later : (a b c : ℕ) → a ≤ b → Rose b c → Rose a c
rose_later a b c le rose = grind arith

fails_later : (a b c : DiskState) → GoesOn a b → Fails b c → Fails a c
fails_later a b c went fails = record {
  rose = rose_later a.faults b.faults c.faults went.later fails.rose;
  cause = λ sound. fails.cause (subst (λ x. IsTrue x) (sym went.sound) sound);
}

still_open : {P : Type 0} (b : Bool) → b ≡ true → b ≡ false → P
still_open b h k = absurd cc

module _ {E : Type 0} (codec : Codec E) (r s : Record E) where
  -- what the first append leaves, as a front of both
  first_front : (log : List (Record E)) (image : List ℕ) → HoldsFront codec log (r ∷ []) image → HoldsFront codec log (r ∷ s ∷ []) image
  first_front log image found = (found.0, ⊎_elim (λ none. inl none) (λ one. inr (inl one)) found.1, found.2)

  second_front : (log : List (Record E)) (image : List ℕ) → HoldsFront codec (r ∷ log) (s ∷ []) image → HoldsFront codec log (r ∷ s ∷ []) image
  second_front log image found = (found.0, inr found.1, found.2)

module _ {E D T : Type 0} (codec : Codec E) (state : D → DiskState) (old mid : GateLog D) (r s : Record E) where
  -- the first was refused by a fault
  pub first_failed : (e : AppendError) → is_closed old ≡ false → gate_of old + size codec (r ∷ s ∷ []) + 1 ≤ (state (disk_of old)).room
      → Appends {T = T} codec state (Err e) old mid (r ∷ []) → Appends {T = T} codec state (Err e) old mid (r ∷ s ∷ [])
  first_failed e open_still fits first = record {
    appended = tt;
    durable = tt;
    any_moment = λ log has. weaker (state (disk_of old)).story (state (disk_of mid)).story (HoldsFront codec log (r ∷ [])) (HoldsFront codec log (r ∷ s ∷ [])) (first_front codec r s log) (first.any_moment log has);
    was_closed = first.was_closed;
    closed = λ h _. still_open (is_closed old) h open_still;
    is_full = λ room h. let full = first.is_full room h in let past = full.2 in (full.0, full.1, omega arith);
    full = λ _ past _. absurd (omega (arith, past, fits));
    failed = first.failed;
    refused = first.refused;
    gate = tt;
    stays_open = tt;
    read = first.read;
    ready = first.ready;
    goes_on = first.goes_on;
    left = let l = first.left in let less = l.less in record { count = l.count; less = omega arith; left = l.left };
    left_ok = tt;
    spared = tt;
  }

  module _ (new : GateLog D) (x : T) (first : Appends {T = T} codec state (Ok x) old mid (r ∷ [])) (open_still : is_closed old ≡ false) (fits : gate_of old + size codec (r ∷ s ∷ []) + 1 ≤ (state (disk_of old)).room) where
    behind : gate_of mid ≡ gate_of old + size codec (r ∷ [])
    behind = first.gate

    room : (state (disk_of mid)).room ≡ (state (disk_of old)).room
    room = first.goes_on.room

    never_closed : (result : Result T AppendError) → Appends codec state result mid new (s ∷ []) → result ≡ Err Closed → ⊥
    never_closed result second h = still_open (is_closed mid) (second.was_closed h) first.stays_open

    never_full : (result : Result T AppendError) → Appends codec state result mid new (s ∷ []) → (n : ℕ) → result ≡ Err (Full n) → ⊥
    never_full result second n h =
        let full = second.is_full n h in
        let same = full.0 in
        let past = full.2 in
        omega (arith, same, past, behind, room, fits)

    -- a second append that is refused met a fault
    refused : (result : Result T AppendError) → result ≢ Err NoMemory → Appends codec state result mid new (s ∷ []) → IfErr result (λ e. e ≢ Failed → new ≡ old)
    refused (Ok y) fed second = tt
    refused (Err Failed) fed second = λ h. absurd (h refl)
    refused (Err (Full n)) fed second = absurd (never_full (Err (Full n)) second n refl)
    refused (Err Closed) fed second = absurd (never_closed (Err Closed) second refl)
    refused (Err NoMemory) fed second = absurd (fed refl)

    pub both : (result : Result T AppendError) → result ≢ Err NoMemory → Appends codec state result mid new (s ∷ []) → Appends codec state result old new (r ∷ s ∷ [])
    both result fed second = record {
      appended = on_ok result (λ appended log has. appended (r ∷ log) (first.appended log has)) second.appended;
      durable = on_ok result (λ durable log has. durable (r ∷ log) (first.appended log has)) second.durable;
      any_moment = λ log has.
          let front = weaker (state (disk_of old)).story (state (disk_of mid)).story (HoldsFront codec log (r ∷ [])) (HoldsFront codec log (r ∷ s ∷ [])) (first_front codec r s log) (first.any_moment log has) in
          let back = weaker (state (disk_of mid)).story (state (disk_of new)).story (HoldsFront codec (r ∷ log) (s ∷ [])) (HoldsFront codec log (r ∷ s ∷ [])) (second_front codec r s log) (second.any_moment (r ∷ log) (first.appended log has)) in
          joined (state (disk_of old)).story (state (disk_of mid)).story (state (disk_of new)).story (HoldsFront codec log (r ∷ s ∷ [])) front back;
      was_closed = λ h. absurd (never_closed result second h);
      closed = λ h _. still_open (is_closed old) h open_still;
      is_full = λ n h. absurd (never_full result second n h);
      full = λ _ past _. absurd (omega (arith, past, fits));
      failed = λ h. let fault = second.failed h in (fails_later (state (disk_of old)) (state (disk_of mid)) (state (disk_of new)) first.goes_on fault.0, fault.1);
      refused = refused result fed second;
      gate = on_ok result (λ gate. omega (arith, gate, behind)) second.gate;
      stays_open = second.stays_open;
      read = second.read ∙ first.read;
      ready = second.ready;
      goes_on = goes_on_twice (state (disk_of old)) (state (disk_of mid)) (state (disk_of new)) first.goes_on second.goes_on;
      left = lowers_twice 4 4 (state (disk_of old)).left (state (disk_of mid)).left (state (disk_of new)).left first.left second.left;
      left_ok = on_ok result (λ left. left ∙ ap (fewer 4) first.left_ok ∙ fewer_twice 4 4 (state (disk_of old)).left) second.left_ok;
      spared = on_ok result (λ spared. spared_twice 4 4 (state (disk_of old)).left (state (disk_of mid)).left first.spared first.left_ok spared) second.spared;
    }
