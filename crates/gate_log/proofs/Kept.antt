-- What every crash leaves of the front of a disk.
use Rattle.std.proofs.Common.{◌≡◌, inl, ℕ, ◌+◌, ◌<◌, ◌≤◌, List, [], ◌∷◌, ◌++◌, length, get_or, take, drop, IsTrue, sym, ap, ◌∙◌, arith, length-append, length-take, take-append-drop, append_assoc}
use Rattle.std.proofs.lemmas.List.{ext_get_or, get_or-take, take_at}
use Rattle.disk_core.specs.Images.{Content, Image, IsSettled, is_written, after_write}
use Rattle.disk_core.specs.States.{DiskState}
use Rattle.disk_core.proofs.Torn.{overwritten-before}
use Rattle.gate_log.specs.Log.{records, IsTail, tail_end}
use Rattle.gate_log.specs.Rest.{RestsBehind}
use Rattle.gate_log.proofs.Writes.{length-gated, only_range}

-- bytes that are the same one by one
pub same_take : (n : ℕ) (a b : List ℕ) → n ≤ length a → n ≤ length b → ((i : ℕ) → i < n → get_or a i 0 ≡ get_or b i 0) → take n a ≡ take n b
same_take n a b in_a in_b each =
    let long_a : length (take n a) ≡ n = simp length-take (omega (arith, in_a)) in
    let long_b : length (take n b) ≡ n = simp length-take (omega (arith, in_b)) in
    ext_get_or 0 (take n a) (take n b) (long_a ∙ sym long_b) (λ i inside.
    let below : i < n = omega (arith, long_a, inside) in
    get_or-take n a i 0 below ∙ each i below ∙ sym (get_or-take n b i 0 below))

-- where nothing was written since the last sync
pub front_kept : (n : ℕ) (content : Content) (image : List ℕ) → n ≤ content.least → content.least ≤ length content.bytes → content.written ≡ [] → Image content image → take n image ≡ take n content.bytes
front_kept n content image reach whole none left =
    same_take n image content.bytes (omega (arith, reach, left.no_shorter)) (omega (arith, reach, whole)) (λ i below.
    left.stays i (omega (arith, below, reach)) (ap (λ (ranges : List (ℕ × ℕ)). is_written ranges i) none))

-- before a write from this place on
pub front_beside : (n : ℕ) (new : List ℕ) (content : Content) (image : List ℕ) → n ≤ content.least → content.least ≤ length content.bytes → content.written ≡ [] → Image (after_write n new content) image → take n image ≡ take n content.bytes
front_beside n new content image reach whole none left =
    same_take n image content.bytes (omega (arith, reach, left.no_shorter)) (omega (arith, reach, whole)) (λ i below.
    left.stays i (omega (arith, below, reach)) (only_range n (length new) i content.written none (inl below)) ∙ overwritten-before n i new content.bytes (omega (arith, reach, whole)) below)

-- a tail stands in all bytes that begin as its own, up to its closed gate
pub tail_by_front : (front : List ℕ) (end : ℕ) (payloads : List (List ℕ)) (old image : List ℕ) → IsTail front old payloads → end ≡ tail_end front payloads → end + 1 ≤ length image → take (end + 1) image ≡ take (end + 1) old → IsTail front image payloads
tail_by_front front end payloads old image tail place reach same =
    let whole = front ++ records payloads in
    let until : take (end + 1) old ≡ whole ++ tail.gate ∷ [] =
    ap (take (end + 1)) tail.is ∙ ap (take (end + 1)) (sym (append_assoc whole (tail.gate ∷ []) tail.rest))
    ∙ take_at (whole ++ tail.gate ∷ []) tail.rest (end + 1) (omega (arith, place, length-append whole (tail.gate ∷ []))) in
    record {
      gate = tail.gate;
      rest = drop (end + 1) image;
      shut = tail.shut;
      is = sym (take-append-drop (end + 1) image) ∙ ap (λ (l : List ℕ). l ++ drop (end + 1) image) (same ∙ until) ∙ append_assoc whole (tail.gate ∷ []) (drop (end + 1) image);
      sized = tail.sized;
    }

-- a settled disk rests
pub settled_rests : (front : List ℕ) (disk : DiskState) (end : ℕ) (payloads : List (List ℕ)) → IsTrue disk.tells → IsSettled disk.story.now → IsTail front disk.story.now.bytes payloads → end ≡ tail_end front payloads → RestsBehind front disk end payloads
settled_rests front disk end payloads told settled tail place =
    let long : length disk.story.now.bytes ≡ end + 1 + length tail.rest = ap length tail.is ∙ length-gated (front ++ records payloads) end place tail.gate tail.rest in
    record {
      tells = told;
      unwritten = settled.written;
      durable = omega (arith, long, settled.least);
      whole = omega (arith, settled.least);
      log = tail;
      place = place;
    }
