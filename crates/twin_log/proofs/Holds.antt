-- What makes bytes a log in two areas: their first eight, the start in use, and the area that begins there.
use Rattle.std.proofs.Common.{◌≡◌, inl, inr, ⊎_elim, ℕ, ◌+◌, ◌<◌, ◌≤◌, Bool, true, false, IsTrue, List, [], ◌∷◌, ◌++◌, length, get_or, take, drop, sym, ap, ◌∙◌, subst, arith, append_assoc, length-append, length-take, length-drop, take-append-drop}
use Rattle.std.specs.Prelude.{◌==◌}
use Rattle.std.specs.Int.{w64, from_be_bytes}
use Rattle.std.proofs.lemmas.List.{get_or-take, take_at, drop_at, take-take, drop-take, take-append-le}
use Rattle.disk_core.specs.Images.{Image}
use Rattle.disk_core.specs.States.{DiskState}
use Rattle.disk_core.specs.Moments.{AtEachMoment}
use Rattle.disk_core.proofs.Moments.{at_first}
use Rattle.gate_log.specs.Log.{records, IsTail, IsTailWith}
use Rattle.gate_log.specs.Rest.{RestsBehind}
use Rattle.gate_log.proofs.Steps.{tail_left}
use Rattle.twin_log.specs.Twin.{header, slot_if, switch_of, is_second, start_at, start_of, area, IsTwinLog, IsEither}
use Rattle.twin_log.specs.Rests.{AtRest, Stands, IsArea}
use Rattle.twin_log.specs.declared.spot.Spot.{Spot}
use Rattle.twin_log.proofs.Lists.{append_none}

-- an area up to its closed gate
abbrev pub whole_area : {bytes : List ℕ} {format : ℕ} {payloads : List (List ℕ)} → IsTwinLog bytes format payloads → List ℕ
whole_area {format = format} log = area format log.image ++ records log.tail ++ log.gate ∷ []

pub whole_at : (bytes : List ℕ) (format : ℕ) (payloads : List (List ℕ)) (log : IsTwinLog bytes format payloads) → drop (start_of bytes) bytes ≡ whole_area log ++ log.rest
whole_at bytes format payloads log = log.is ∙ sym (append_assoc (area format log.image ++ records log.tail) (log.gate ∷ []) log.rest)

-- the log stands in other bytes that have its parts
pub log_by_parts : (old image : List ℕ) (format : ℕ) (payloads : List (List ℕ)) (log : IsTwinLog old format payloads) → take 8 image ≡ take 8 old → start_of image ≡ start_of old → (n : ℕ) → n ≡ length (whole_area log)
    → take n (drop (start_of old) image) ≡ take n (drop (start_of old) old) → IsTwinLog image format payloads
log_by_parts old image format payloads log head start n long same =
    let rest = drop n (drop (start_of old) image) in
    let kept : take n (drop (start_of old) old) ≡ whole_area log = ap (take n) (whole_at old format payloads log) ∙ take_at (whole_area log) log.rest n (sym long) in
    record {
      image = log.image;
      tail = log.tail;
      gate = log.gate;
      rest = rest;
      headed = head ∙ log.headed;
      past = omega (arith, start, log.past);
      is =
          ap (λ (s : ℕ). drop s image) start ∙ sym (take-append-drop n (drop (start_of old) image)) ∙ ap (λ (l : List ℕ). l ++ rest) (same ∙ kept)
          ∙ append_assoc (area format log.image ++ records log.tail) (log.gate ∷ []) rest;
      known = log.known;
      shut = log.shut;
      few = log.few;
      image_sized = log.image_sized;
      tail_sized = log.tail_sized;
      listed = log.listed;
    }

-- a new area stands at the start in use
pub log_of_area : (image : List ℕ) (bytes : List ℕ) (format : ℕ) (payloads : List (List ℕ)) → IsArea bytes format payloads → take 8 image ≡ header → 25 ≤ start_of image → take (length bytes) (drop (start_of image) image) ≡ bytes → IsTwinLog image format payloads
log_of_area image bytes format payloads new head past is =
    let rest = drop (length bytes) (drop (start_of image) image) in
    record {
      image = payloads;
      tail = [];
      gate = 0;
      rest = rest;
      headed = head;
      past = past;
      is =
          sym (take-append-drop (length bytes) (drop (start_of image) image)) ∙ ap (λ (l : List ℕ). l ++ rest) (is ∙ new.is)
          ∙ append_assoc (area format payloads) (0 ∷ []) rest ∙ ap (λ (l : List ℕ). l ++ 0 ∷ rest) (sym (append_none (area format payloads)));
      known = new.known;
      shut = omega arith;
      few = new.few;
      image_sized = new.sized;
      tail_sized = tt;
      listed = sym (append_none payloads);
    }

-- the first 25 bytes tell the start
head_eight : (a b : List ℕ) → take 25 a ≡ take 25 b → take 8 a ≡ take 8 b
head_eight a b same = sym (take-take 8 25 a (omega arith)) ∙ ap (take 8) same ∙ take-take 8 25 b (omega arith)

head_switch : (a b : List ℕ) → take 25 a ≡ take 25 b → switch_of a ≡ switch_of b
head_switch a b same = sym (get_or-take 25 a 8 0 (omega arith)) ∙ ap (λ (l : List ℕ). get_or l 8 0) same ∙ get_or-take 25 b 8 0 (omega arith)

first_start : (a : List ℕ) → take 8 (drop 9 (take 25 a)) ≡ take 8 (drop 9 a)
first_start a = ap (take 8) (drop-take 9 16 a) ∙ take-take 8 16 (drop 9 a) (omega arith)

second_start : (a : List ℕ) → take 8 (drop 17 (take 25 a)) ≡ take 8 (drop 17 a)
second_start a = ap (take 8) (drop-take 17 8 a) ∙ take-take 8 8 (drop 17 a) (omega arith)

head_slot : (b : Bool) (x y : List ℕ) → take 25 x ≡ take 25 y → start_at (slot_if b) x ≡ start_at (slot_if b) y
head_slot true x y same = ap (from_be_bytes w64) (sym (second_start x) ∙ ap (λ (l : List ℕ). take 8 (drop 17 l)) same ∙ second_start y)
head_slot false x y same = ap (from_be_bytes w64) (sym (first_start x) ∙ ap (λ (l : List ℕ). take 8 (drop 9 l)) same ∙ first_start y)

head_turn : (a b : List ℕ) → take 25 a ≡ take 25 b → is_second a ≡ is_second b
head_turn a b same = ap (λ (s : ℕ). s == 1) (head_switch a b same)

head_start : (a b : List ℕ) → take 25 a ≡ take 25 b → start_of a ≡ start_of b
head_start a b same = ap (λ (second : Bool). start_at (slot_if second) a) (head_turn a b same) ∙ head_slot (is_second b) a b same

-- a start in use stands within the bytes
pub start_within : (bytes : List ℕ) (format : ℕ) (payloads : List (List ℕ)) (log : IsTwinLog bytes format payloads) → start_of bytes + length (area format log.image ++ records log.tail) + 1 + length log.rest ≡ length bytes
start_within bytes format payloads log =
    omega (arith, length-drop (start_of bytes) bytes, ap length log.is, length-append (area format log.image ++ records log.tail) (log.gate ∷ log.rest), length-append (area format log.image) (records log.tail))

-- what stands in front of the records of the tail
abbrev pub front_of : (bytes : List ℕ) (format : ℕ) (payloads : List (List ℕ)) → IsTwinLog bytes format payloads → List ℕ
front_of bytes format payloads log = take (start_of bytes) bytes ++ area format log.image

length_front : (bytes : List ℕ) (format : ℕ) (payloads : List (List ℕ)) (log : IsTwinLog bytes format payloads) → length (take (start_of bytes) bytes) ≡ start_of bytes
length_front bytes format payloads log = simp length-take (omega (arith, start_within bytes format payloads log))

-- a log at rest is a tail behind its front
pub behind : (disk : DiskState) (spot : Spot) (payloads : List (List ℕ)) (rest : AtRest disk spot payloads) → RestsBehind (front_of disk.story.now.bytes spot.format payloads rest.stands.log) disk spot.end rest.stands.log.tail
behind disk spot payloads rest =
    let bytes = disk.story.now.bytes in
    let log = rest.stands.log in
    let first = area spot.format log.image in
    let head = take (start_of bytes) bytes in
    record {
      tells = rest.tells;
      unwritten = rest.unwritten;
      durable = rest.durable;
      whole = rest.whole;
      log = record {
        gate = log.gate;
        rest = log.rest;
        shut = log.shut;
        is =
            sym (take-append-drop (start_of bytes) bytes) ∙ ap (λ (l : List ℕ). head ++ l) log.is
            ∙ sym (append_assoc head (first ++ records log.tail) (log.gate ∷ log.rest))
            ∙ ap (λ (l : List ℕ). l ++ log.gate ∷ log.rest) (sym (append_assoc head first (records log.tail)));
        sized = log.tail_sized;
      };
      place = omega (arith, rest.stands.place, rest.stands.begins, length_front bytes spot.format payloads log, length-append (head ++ first) (records log.tail), length-append head first, length-append first (records log.tail));
    }

-- a tail behind the front of a log makes a log of its image and the tail
module _ (old : List ℕ) (format : ℕ) (payloads : List (List ℕ)) (log : IsTwinLog old format payloads) (image : List ℕ) (more : List (List ℕ)) (tail : IsTail (front_of old format payloads log) image more) where
  abbrev head : List ℕ
  head = take (start_of old) old

  abbrev behind_head : List ℕ
  behind_head = area format log.image ++ records more ++ tail.gate ∷ tail.rest

  split : image ≡ head ++ behind_head
  split =
      tail.is ∙ ap (λ (l : List ℕ). l ++ tail.gate ∷ tail.rest) (append_assoc head (area format log.image) (records more))
      ∙ append_assoc head (area format log.image ++ records more) (tail.gate ∷ tail.rest)

  same_head : take 25 image ≡ take 25 old
  same_head =
      ap (take 25) split ∙ take-append-le 25 head behind_head (omega (arith, length_front old format payloads log, log.past)) ∙ take-take 25 (start_of old) old log.past

  pub log_with : (list : List (List ℕ)) → list ≡ log.image ++ more → IsTwinLog image format list
  log_with list listed =
      let start = head_start image old same_head in record {
        image = log.image;
        tail = more;
        gate = tail.gate;
        rest = tail.rest;
        headed = head_eight image old same_head ∙ log.headed;
        past = omega (arith, start, log.past);
        is = ap (λ (s : ℕ). drop s image) start ∙ ap (drop (start_of old)) split ∙ drop_at head behind_head (start_of old) (length_front old format payloads log);
        known = log.known;
        shut = tail.shut;
        few = log.few;
        image_sized = log.image_sized;
        tail_sized = tail.sized;
        listed = listed;
      }

-- one more at the end of the list
one_more : (image tail payloads : List (List ℕ)) (one : List ℕ) → payloads ≡ image ++ tail → payloads ++ one ∷ [] ≡ image ++ (tail ++ one ∷ [])
one_more image tail payloads one listed = ap (λ (l : List (List ℕ)). l ++ one ∷ []) listed ∙ append_assoc image tail (one ∷ [])

-- an append: a crash leaves the list before or that with one more
pub appends_either : (old : List ℕ) (format : ℕ) (payloads : List (List ℕ)) (log : IsTwinLog old format payloads) (one image : List ℕ) → IsTailWith (front_of old format payloads log) log.tail one image
    → IsEither format payloads format (payloads ++ one ∷ []) image
appends_either old format payloads log one image tails = ⊎_elim
    (λ before. inl (log_with old format payloads log image log.tail before payloads log.listed))
    (λ after. inr (log_with old format payloads log image (log.tail ++ one ∷ []) after (payloads ++ one ∷ []) (one_more log.image log.tail payloads one log.listed)))
    tails

-- where a log stands with one payload more
abbrev pub grown_to : ℕ → Spot → Spot
grown_to reach spot = record { second = spot.second; start = spot.start; end = reach; format = spot.format }

-- after an append the log rests again, with one more
pub rests_with : (disk : DiskState) (spot : Spot) (payloads : List (List ℕ)) (rest : AtRest disk spot payloads) (now : DiskState) (reach : ℕ) (one : List ℕ)
    → RestsBehind (front_of disk.story.now.bytes spot.format payloads rest.stands.log) now reach (rest.stands.log.tail ++ one ∷ []) → AtRest now (grown_to reach spot) (payloads ++ one ∷ [])
unfolding log_with
rests_with disk spot payloads rest now reach one again =
    let old = disk.story.now.bytes in
    let log = rest.stands.log in
    let tail = log.tail ++ one ∷ [] in
    let same = same_head old spot.format payloads log now.story.now.bytes tail again.log in
    let front = take (start_of old) old in
    let first = area spot.format log.image in
    let reach_is : reach ≡ length (front ++ first ++ records tail) = again.place in
    let place_is : reach ≡ spot.start + length (first ++ records tail) =
    omega (arith, reach_is, rest.stands.begins, length_front old spot.format payloads log, length-append (front ++ first) (records tail), length-append front first, length-append first (records tail)) in
    record {
      tells = again.tells;
      unwritten = again.unwritten;
      durable = again.durable;
      whole = again.whole;
      stands = record {
        log = log_with old spot.format payloads log now.story.now.bytes tail again.log (payloads ++ one ∷ []) (one_more log.image log.tail payloads one log.listed);
        turn = rest.stands.turn ∙ sym (head_turn now.story.now.bytes old same);
        begins = rest.stands.begins ∙ sym (head_start now.story.now.bytes old same);
        place = place_is;
      };
    }

-- every crash leaves a log at rest as it is
pub log_left : (disk : DiskState) (spot : Spot) (payloads : List (List ℕ)) (image : List ℕ) (rest : AtRest disk spot payloads) → Image disk.story.now image → IsTwinLog image spot.format payloads
log_left disk spot payloads image rest left =
    let old = disk.story.now.bytes in
    let log = rest.stands.log in
    let tail = tail_left (front_of old spot.format payloads log) disk spot.end log.tail image (behind disk spot payloads rest) left in
    log_with old spot.format payloads log image log.tail tail payloads log.listed

-- before a call
pub before_call : (disk : DiskState) (spot : Spot) (payloads : List (List ℕ)) (format : ℕ) (more : List (List ℕ)) → AtRest disk spot payloads → AtEachMoment disk.story disk.story (IsEither spot.format payloads format more)
before_call disk spot payloads format more rest = at_first disk.story (IsEither spot.format payloads format more) (λ image left. inl (log_left disk spot payloads image rest left))

-- a new area stands at this spot
pub stands_of_area : (image bytes : List ℕ) (spot : Spot) (payloads : List (List ℕ)) (new : IsArea bytes spot.format payloads) (head : take 8 image ≡ header) (past : 25 ≤ start_of image) (begins : spot.start ≡ start_of image)
    → take (length bytes) (drop (start_of image) image) ≡ bytes → spot.second ≡ is_second image → spot.end + 1 ≡ spot.start + length bytes → Stands image spot payloads
unfolding log_of_area
stands_of_area image bytes spot payloads new head past begins is turn place =
    let first = area spot.format payloads in
    let long : spot.end ≡ spot.start + length (first ++ records []) = omega (arith, place, ap length new.is, length-append first (0 ∷ []), length-append first []) in
    record { log = log_of_area image bytes spot.format payloads new head past is; turn = turn; begins = begins; place = long }

-- a disk that holds such bytes rests
pub rests_from : (now : DiskState) (bytes : List ℕ) (spot : Spot) (payloads : List (List ℕ)) → now.story.now.bytes ≡ bytes → Stands bytes spot payloads → IsTrue now.tells → now.story.now.written ≡ [] → spot.end < now.story.now.least → now.story.now.least ≤ length now.story.now.bytes
    → AtRest now spot payloads
rests_from now bytes spot payloads same stands told none durable whole = record { tells = told; unwritten = none; durable = durable; whole = whole; stands = subst (λ (b : List ℕ). Stands b spot payloads) (sym same) stands }
