-- An append makes four calls of its disk. After each, whether it answers or fails: what a crash may leave at each moment, and what stands in the end.
use Rattle.std.proofs.Common.{◌≡◌, ◌≢◌, ◌⊎◌, inl, inr, ℕ, ◌+◌, ◌-◌, ◌≤◌, Option, Some, None, Result, Ok, Err, OnOk, OnErr, ⊎_elim, Bool, false, List, [], ◌∷◌, ◌++◌, length, get_or, drop, IsTrue, refl, sym, ap, ◌∙◌, subst, arith, append_assoc}
use Rattle.std.specs.Result.{is_err}
use Rattle.std.proofs.lemmas.Bool.{false≢true}
use Rattle.disk_core.specs.Images.{Content, Image, IsSettled, overwritten, after_write, after_sync}
use Rattle.disk_core.specs.States.{Story, DiskState, fewer, Spared, moved, TearsAtMost}
use Rattle.disk_core.specs.Moments.{AtEachMoment}
use Rattle.disk_core.proofs.Inside.{only_settled, only_synced, synced, amid_write}
use Rattle.disk_core.proofs.Moments.{at_first, rested, moved_on, torn_on}
use Rattle.gate_log.specs.Log.{header, body, records, IsSized, IsLog, IsTail, IsTailWith, tail_end}
use Rattle.gate_log.specs.Rest.{AtRest, RestsBehind, Lowers, synced_write}
use Rattle.gate_log.proofs.Grammar.{sized-push, tail-push, opened, either}
use Rattle.gate_log.proofs.Writes.{DiffersWithin, of_write, of_torn_write, written_behind, written_over, rest_stays, length-gated}
use Rattle.gate_log.proofs.Kept.{front_kept, front_beside, tail_by_front, settled_rests}

-- what the first call writes behind the gate
abbrev pub staged : List ℕ → List ℕ
staged payload = body payload ++ 0 ∷ []

-- the log stands where the disk is settled
pub is_log : (content : Content) (payloads : List (List ℕ)) (image : List ℕ) → IsSettled content → IsLog content.bytes payloads → Image content image → IsLog image payloads
is_log content payloads image settled log left = subst (λ (l : List ℕ). IsLog l payloads) (sym (only_settled content image settled left)) log

-- a log at rest is a tail behind the header
pub behind_header : (disk : DiskState) (end : ℕ) (payloads : List (List ℕ)) → AtRest disk end payloads → RestsBehind header disk end payloads
behind_header disk end payloads rest = settled_rests header disk end payloads rest.tells rest.settled rest.log rest.place

-- and where all of it is durable, such a tail is a log at rest
pub log_at_rest : (disk : DiskState) (end : ℕ) (payloads : List (List ℕ)) → RestsBehind header disk end payloads → IsSettled disk.story.now → AtRest disk end payloads
log_at_rest disk end payloads rest settled = record { tells = rest.tells; settled = settled; log = rest.log; place = rest.place }

-- every crash leaves all up to the closed gate
pub tail_left : (front : List ℕ) (disk : DiskState) (end : ℕ) (payloads : List (List ℕ)) (image : List ℕ) → RestsBehind front disk end payloads → Image disk.story.now image → IsTail front image payloads
tail_left front disk end payloads image rest left =
    let kept = front_kept (end + 1) disk.story.now image (omega (arith, rest.durable)) rest.whole rest.unwritten left in
    tail_by_front front end payloads disk.story.now.bytes image rest.log rest.place (omega (arith, rest.durable, left.no_shorter)) kept

-- before the first call
pub at_rest : (front : List ℕ) (disk : DiskState) (end : ℕ) (payloads : List (List ℕ)) (one : List ℕ) → RestsBehind front disk end payloads → AtEachMoment disk.story disk.story (IsTailWith front payloads one)
at_rest front disk end payloads one rest = at_first disk.story (IsTailWith front payloads one) (λ image left. inl (tail_left front disk end payloads image rest left))

module _ (head : List ℕ) (disk : DiskState) (end : ℕ) (one : List ℕ) (payloads : List (List ℕ)) (rest : RestsBehind head disk end payloads) (sized : IsSized one) where
  abbrev P : List ℕ → Type 0
  P = IsTailWith head payloads one

  abbrev s0 : Story
  s0 = disk.story

  abbrev front : List ℕ
  front = head ++ records payloads

  abbrev gate : ℕ
  gate = rest.log.gate

  abbrev tail : List ℕ
  tail = drop (length (staged one)) rest.log.rest

  -- with the record behind this gate
  abbrev with_record : ℕ → List ℕ
  with_record g = front ++ g ∷ (body one ++ 0 ∷ tail)

  long : length s0.now.bytes ≡ end + 1 + length rest.log.rest
  long = ap length rest.log.is ∙ length-gated front end rest.place gate rest.log.rest

  abbrev c1 : Content
  c1 = after_write (end + 1) (staged one) s0.now

  -- behind the gate anything may stand
  behind_gate : (image : List ℕ) → Image c1 image → P image
  behind_gate image left =
      let reach : end + 1 ≤ length image = omega (arith, rest.durable, left.no_shorter) in
      let same = front_beside (end + 1) (staged one) s0.now image (omega (arith, rest.durable)) rest.whole rest.unwritten left in
      inl (tail_by_front head end payloads s0.now.bytes image rest.log rest.place reach same)

  before : AtEachMoment s0 s0 P
  before = at_rest head disk end payloads one rest

  pub staging_failed : (s1 : Story) → TearsAtMost (end + 1) (length (staged one)) s0 s1 → AtEachMoment s0 s1 P
  staging_failed s1 failed =
      torn_on s0 s0 s1 (end + 1) (length (staged one)) P before failed (λ m less torn image left.
      behind_gate image (amid_write (end + 1) m (staged one) s0.now s1.now image (omega (arith, long)) less rest.whole torn left))

  module _ (s1 : Story) (first : s1 ≡ moved c1 s0) where
    pub staged_moment : AtEachMoment s0 s1 P
    staged_moment = moved_on s0 s0 s1 c1 P before first (λ image left. behind_gate image left)

    pub sync_failed : (s2 : Story) → s2 ≡ s1 → AtEachMoment s0 s2 P
    sync_failed s2 same = rested s0 s1 s2 P staged_moment same

    bytes_1 : s1.now.bytes ≡ with_record gate
    bytes_1 =
        ap (λ (s : Story). s.now.bytes) first ∙ ap (overwritten (end + 1) (staged one)) rest.log.is ∙ written_behind front end rest.place gate (staged one) rest.log.rest
        ∙ ap (λ (l : List ℕ). front ++ gate ∷ l) (append_assoc (body one) (0 ∷ []) tail)

    module _ (s2 : Story) (second : s2 ≡ moved (after_sync s1.now) s1) where
      bytes_2 : s2.now.bytes ≡ with_record gate
      bytes_2 = ap (λ (s : Story). s.now.bytes) second ∙ bytes_1

      settled_2 : IsSettled s2.now
      settled_2 = subst (λ (s : Story). IsSettled s.now) (sym second) (synced s1.now)

      pub gate_is_within : end ≤ length s2.now.bytes
      gate_is_within = omega (arith, ap length bytes_2, length-gated front end rest.place gate (body one ++ 0 ∷ tail))

      -- at the gate anything may stand
      at_gate : (image : List ℕ) → DiffersWithin end 1 s2.now.bytes image → P image
      at_gate image differs =
          let whole = rest_stays front end rest.place gate (body one ++ 0 ∷ tail) image (subst (λ (l : List ℕ). DiffersWithin end 1 l image) bytes_2 differs) in
          subst P (sym whole) (either head payloads one (get_or image end 0) tail rest.log.sized sized)

      pub durable_moment : AtEachMoment s0 s2 P
      durable_moment =
          moved_on s0 s1 s2 (after_sync s1.now) P staged_moment second (λ image left. subst P (sym (only_synced s1.now image left ∙ bytes_1)) (either head payloads one gate tail rest.log.sized sized))

      pub gate_failed : (s3 : Story) → TearsAtMost end 1 s2 s3 → AtEachMoment s0 s3 P
      gate_failed s3 failed = torn_on s0 s2 s3 end 1 P durable_moment failed (λ m less torn image left. at_gate image (of_torn_write end m 1 s2.now s3.now image less settled_2 torn left))

      module _ (s3 : Story) (third : s3 ≡ moved (after_write end (1 ∷ []) s2.now) s2) where
        pub open_moment : AtEachMoment s0 s3 P
        open_moment = moved_on s0 s2 s3 (after_write end (1 ∷ []) s2.now) P durable_moment third (λ image left. at_gate image (of_write end (1 ∷ []) s2.now image gate_is_within settled_2 left))

        pub last_sync_failed : (s4 : Story) → s4 ≡ s3 → AtEachMoment s0 s4 P
        last_sync_failed s4 same = rested s0 s3 s4 P open_moment same

        tail_3 : IsTail head s3.now.bytes (payloads ++ one ∷ [])
        tail_3 =
            let is = ap (λ (s : Story). s.now.bytes) third ∙ ap (overwritten end (1 ∷ [])) bytes_2 ∙ written_over front end rest.place gate 1 (body one ++ 0 ∷ tail)
            ∙ opened head payloads one 0 tail in
            record { gate = 0; rest = tail; shut = omega arith; is = is; sized = sized-push payloads one rest.log.sized sized }

        module _ (s4 : Story) (fourth : s4 ≡ moved (after_sync s3.now) s3) where
          pub appended_moment : AtEachMoment s0 s4 P
          appended_moment = moved_on s0 s3 s4 (after_sync s3.now) P open_moment fourth (λ image left. inr (subst (λ (l : List ℕ). IsTail head l (payloads ++ one ∷ [])) (sym (only_synced s3.now image left)) tail_3))

          pub rests_again : (now : DiskState) → now.story ≡ s4 → IsTrue now.tells → RestsBehind head now (end + (5 + length one)) (payloads ++ one ∷ [])
          rests_again now is told =
              let all = is ∙ fourth in
              let tail_4 = subst (λ (l : List ℕ). IsTail head l (payloads ++ one ∷ [])) (sym (ap (λ (s : Story). s.now.bytes) all)) tail_3 in
              let there : end + (5 + length one) ≡ tail_end head (payloads ++ one ∷ []) = omega (arith, rest.place, tail-push head payloads one) in
              settled_rests head now (end + (5 + length one)) (payloads ++ one ∷ []) told (subst (λ (s : Story). IsSettled s.now) (sym all) (synced s3.now)) tail_4 there

-- the first write and its sync, stopped on the way
pub staging_stopped : (head : List ℕ) (disk : DiskState) (end : ℕ) (one : List ℕ) (payloads : List (List ℕ)) (rest : RestsBehind head disk end payloads) (sized : IsSized one) (s1 : Story)
    → TearsAtMost (end + 1) (length (staged one)) disk.story s1 ⊎ (s1 ≡ moved (after_write (end + 1) (staged one) disk.story.now) disk.story) → AtEachMoment disk.story s1 (IsTailWith head payloads one)
staging_stopped head disk end one payloads rest sized s1 stopped = ⊎_elim
    (λ torn. staging_failed head disk end one payloads rest sized s1 torn)
    (λ wrote. sync_failed head disk end one payloads rest sized (moved (after_write (end + 1) (staged one) disk.story.now) disk.story) refl s1 wrote)
    stopped

-- behind the first sync
module _ (head : List ℕ) (disk : DiskState) (end : ℕ) (one : List ℕ) (payloads : List (List ℕ)) (rest : RestsBehind head disk end payloads) (sized : IsSized one) (s2 : Story) (durable : s2 ≡ synced_write (end + 1) (staged one) disk.story) where
  abbrev mid : Story
  mid = moved (after_write (end + 1) (staged one) disk.story.now) disk.story

  abbrev last : Story
  last = moved (after_write end (1 ∷ []) s2.now) s2

  pub place_of_gate : end ≤ length s2.now.bytes
  place_of_gate = gate_is_within head disk end one payloads rest sized mid refl s2 durable

  -- the second write and its sync, stopped on the way or not
  pub opening_stopped : (s4 : Story) → TearsAtMost end 1 s2 s4 ⊎ (s4 ≡ last) → AtEachMoment disk.story s4 (IsTailWith head payloads one)
  opening_stopped s4 stopped = ⊎_elim
      (λ torn. gate_failed head disk end one payloads rest sized mid refl s2 durable s4 torn)
      (λ wrote. last_sync_failed head disk end one payloads rest sized mid refl s2 durable last refl s4 wrote)
      stopped

  pub opening_done : (s4 : Story) → s4 ≡ synced_write end (1 ∷ []) s2 → AtEachMoment disk.story s4 (IsTailWith head payloads one)
  opening_done s4 done = appended_moment head disk end one payloads rest sized mid refl s2 durable last refl s4 done

  pub log_again : (now : DiskState) → now.story ≡ synced_write end (1 ∷ []) s2 → IsTrue now.tells → RestsBehind head now (end + (5 + length one)) (payloads ++ one ∷ [])
  log_again now done told = rests_again head disk end one payloads rest sized mid refl s2 durable last refl now.story done now refl told

-- what a call answers
pub was_ok : {T E : Type 0} (result : Result T E) (A : Type 0) → is_err result ≡ false → OnOk result A → A
was_ok (Ok x) A not a = a
was_ok (Err e) A not a = absurd (false≢true (sym not))

pub on_ok : {T E : Type 0} (result : Result T E) (A B : Type 0) → (A → B) → OnOk result A → OnOk result B
on_ok (Ok x) A B gives a = gives a
on_ok (Err e) A B gives a = a

pub either_answer : {T E : Type 0} (result : Result T E) (A B C : Type 0) → (A → C) → (B → C) → OnOk result A → OnErr result B → C
either_answer (Ok x) A B C ok err a b = ok a
either_answer (Err e) A B C ok err a b = err b

-- two calls more
pub two_calls : (before mid after : Option ℕ) → mid ≡ fewer 2 before → Lowers 2 mid after → Lowers 4 before after
two_calls None mid after is lowers = record { count = lowers.count + 2; less = omega (arith, lowers.less); left = lowers.left ∙ ap (fewer lowers.count) is }
two_calls (Some n) mid after is lowers =
    let same : n - 2 - lowers.count ≡ n - (lowers.count + 2) = omega arith in
    record { count = lowers.count + 2; less = omega (arith, lowers.less); left = lowers.left ∙ ap (fewer lowers.count) is ∙ ap (λ (m : ℕ). Some m) same }

-- one call more
pub one_call : (before mid after : Option ℕ) (most : ℕ) → Lowers most before mid → after ≡ fewer 1 mid → Lowers (most + 1) before after
one_call before mid after most so_far is = record {
  count = so_far.count + 1;
  less = omega (arith, so_far.less);
  left = is ∙ ap (fewer 1) so_far.left ∙ one_fewer so_far.count before;
}
  where
    one_fewer : (count : ℕ) (left : Option ℕ) → fewer 1 (fewer count left) ≡ fewer (count + 1) left
    one_fewer count None = refl
    one_fewer count (Some n) = let same : n - count - 1 ≡ n - (count + 1) = omega arith in ap (λ (m : ℕ). Some m) same

pub first_call : (before after : Option ℕ) → after ≡ fewer 1 before → Lowers 1 before after
first_call before after is = record { count = 1; less = omega arith; left = is }

-- a call that is done leaves a fuse that has not fired
pub unfired : (before after : Option ℕ) → after ≡ fewer 1 before → Spared 1 before → after ≢ Some 0
unfired None after is spared h = nothing after is h
  where
    nothing : (o : Option ℕ) → o ≡ None → o ≡ Some 0 → ⊥
    nothing o e f = absurd cc
unfired (Some n) after is spared h = let none : n - 1 ≡ 0 = same_some (n - 1) 0 (sym is ∙ h) in omega (arith, spared, none)
  where
    same_some : (a b : ℕ) → Some a ≡ Some b → a ≡ b
    same_some a b e = cc

-- it goes on telling what it holds
pub still : (old new : Bool) → new ≡ old → IsTrue old → IsTrue new
still old new same told = subst IsTrue (sym same) told
