-- What was read and written so far, block by block.
use Rattle.std.specs.Prelude.{Ok}
use Rattle.std.proofs.Common.{◌≡◌, ◌≢◌, ℕ, zero, suc, ◌-◌, ◌≤◌, Bool, true, List, [], ◌∷◌, ◌++◌, Option, Some, None, length, take, refl, sym, ap, zero-add, ◌∙◌, subst, arith, append_assoc, length-append}
use Rattle.std.proofs.lemmas.List.{append-nil, length-take-le}
use Rattle.std.specs.Io.KnownBytes.{Appends, Consumes, Keeps, IsAtEnd}
use Rattle.dc_engine.specs.declared.framing.Framing.{Framing}
use Rattle.dc_engine.specs.Lines.{kept, lines_of, ended_lines, ended_from}
use Rattle.dc_engine.specs.declared.script.place.Place.TheVariants as place
use Rattle.dc_engine.specs.Reading.{has_bad, makes_cluster, asks_cluster, asked_of}
use Rattle.dc_engine.specs.Replies.{Replies, RepliesBefore}
use Rattle.dc_engine.specs.Outcome.{And}
use Rattle.dc_engine.specs.declared.fault.Fault.{Fault}
use Rattle.dc_engine.specs.declared.fault.Fault.TheVariants as fault
use Rattle.dc_engine.specs.Played.{Played, PlayedEnded, PlayedTooLong, PlayedFront, PlayedBefore, AreFirst, IsFront}
use Rattle.dc_engine.specs.Blocks.{Begun, none_begun, Progress, Stopped, GoesOn, At, prefixed_first, Writes, WritesFront, WritesBefore, Ends, EndsFront, EndsBefore, TakesOne, IsDivided}
use Rattle.dc_engine.proofs.bytes.Dividing.{divided_start, divided-ended, divided-first, divided-last, divided-more, divided_piece, divided_end}
use Rattle.dc_engine.proofs.commands.Readings.{asked_of-take}
use Rattle.dc_engine.proofs.bytes.Takes.{take-cut}
use Rattle.dc_engine.proofs.bytes.Written.{written_none, appends_more}

taken_none : (input : Option (List ℕ)) → Consumes input input []
taken_none None = tt
taken_none (Some xs) = refl

taken_more : (o p q : Option (List ℕ)) (xs ys : List ℕ) → Consumes o p xs → Consumes p q ys → Consumes o q (xs ++ ys)
taken_more None p q xs ys a b = tt
taken_more (Some o) None q xs ys a b = absurd a
taken_more (Some o) (Some p) None xs ys a b = b
taken_more (Some o) (Some p) (Some q) xs ys a b = a ∙ ap (λ s. xs ++ s) b ∙ sym (append_assoc xs ys q)

taken_kept : (o p q : Option (List ℕ)) (xs : List ℕ) → Consumes o p xs → Keeps p q → Consumes o q xs
taken_kept None p q xs a b = tt
taken_kept (Some o) None q xs a b = absurd a
taken_kept (Some o) (Some p) None xs a b = b
taken_kept (Some o) (Some p) (Some q) xs a b = a ∙ ap (λ s. xs ++ s) (sym b)

module _ (f : Framing) where
  none_first : (input : Option (List ℕ)) → AreFirst f [] input
  none_first None = tt
  none_first (Some xs) = (lines_of f xs, refl)

  first_of_input : (input left : Option (List ℕ)) (read : List ℕ) (lines : List (List ℕ)) → ((more : List ℕ) → (later : List (List ℕ)) × (lines_of f (read ++ more) ≡ lines ++ later)) → Consumes input left read → AreFirst f lines input
  first_of_input None left read lines g c = tt
  first_of_input (Some xs) None read lines g c = absurd c
  first_of_input (Some xs) (Some ys) read lines g c = ((g ys).0, ap (lines_of f) c ∙ (g ys).1)

  first_at_end : (input left : Option (List ℕ)) (read : List ℕ) (lines later : List (List ℕ)) → lines_of f read ≡ lines ++ later → Consumes input left read → IsAtEnd left → AreFirst f lines input
  first_at_end None left read lines later g c e = tt
  first_at_end (Some xs) None read lines later g c e = absurd c
  first_at_end (Some xs) (Some ys) read lines later g c e = (later, ap (lines_of f) (c ∙ ap (λ s. read ++ s) e ∙ append-nil read) ∙ g)

  -- a line of which the first bytes are kept makes a cluster as what is kept does
  making_whole : (begun pending piece : List ℕ) → begun ≡ take 4099 pending → makes_cluster f (take 4099 (begun ++ piece)) ≡ true → makes_cluster f (pending ++ piece) ≡ true
  making_whole begun pending piece e h = ap asks_cluster (sym (asked_of-take f (pending ++ piece)) ∙ ap (asked_of f) (sym (take-cut 4099 pending piece) ∙ ap (λ k. take 4099 (k ++ piece)) (sym e))) ∙ h

  making_last : (begun pending : List ℕ) → begun ≡ take 4099 pending → makes_cluster f begun ≡ true → makes_cluster f pending ≡ true
  making_last begun pending e h = ap asks_cluster (sym (asked_of-take f pending) ∙ ap (asked_of f) (sym e)) ∙ h

  module _ {M : Type 0} (most : ℕ) (reached : M → List (List ℕ) → List ℕ → Type 0) where
    pub progress_start : (m : M) (input before : Option (List ℕ)) → reached m [] [] → Progress f most reached m input input before before none_begun most
    progress_start m input before r = record {
      read = [];
      written = [];
      from_source = taken_none input;
      count = zero-add most;
      to_sink = written_none before;
      at = record { lines = []; pending = []; divided = divided_start f; is_begun = refl; replied = r };
    }

    pub progress_more : (m new : M) (input left rest before mid after : Option (List ℕ)) (begun new_begun : Begun) (piece : List ℕ) (room n : ℕ) →
        Progress f most reached m input left before mid begun room → Consumes left rest piece → length piece ≡ n → n ≤ room → Writes f reached m new piece begun new_begun mid after →
        Progress f most reached new input rest before after new_begun (room - n)
    progress_more m new input left rest before mid after begun new_begun piece room n p c e le w = record {
      read = p.read ++ piece;
      written = p.written ++ w.reply;
      from_source = taken_more input left rest p.read piece p.from_source c;
      count = omega (arith, length-append p.read piece, p.count);
      to_sink = appends_more before mid after p.written w.reply (p.written ++ w.reply) p.to_sink w.to_sink refl;
      at = w.moved p.read p.written p.at;
    }

    pub progress_end : (m new : M) (input left rest before mid after : Option (List ℕ)) (begun : Begun) (room : ℕ) →
        Progress f most reached m input left before mid begun room → Consumes left rest [] → IsAtEnd rest → Ends f reached m new begun mid after → Played f most (reached new) input rest before after
    progress_end m new input left rest before mid after begun room p c e w = record {
      read = p.read;
      written = p.written ++ w.reply;
      from_source = subst (Consumes input rest) (append-nil p.read) (taken_more input left rest p.read [] p.from_source c);
      at_end = e;
      fits = omega (arith, p.count);
      to_sink = appends_more before mid after p.written w.reply (p.written ++ w.reply) p.to_sink w.to_sink refl;
      replied = w.moved p.read p.written p.at;
    }

    ended : (m : M) (read : List ℕ) (begun : Begun) (bytes : List ℕ) → At f reached m read begun bytes → Replies reached (ended_lines f read) bytes
    ended m read begun bytes a = (m, subst (λ l. reached m l bytes) (sym (divided-ended f read a.lines a.pending begun.at a.divided)) a.replied)

    pub progress_fault : (m : M) (input left rest before after : Option (List ℕ)) (begun : Begun) (room : ℕ) →
        Progress f most reached m input left before after begun room → Keeps left rest → PlayedEnded f most (Replies reached) input rest before after
    progress_fault m input left rest before after begun room p k = record {
      read = p.read;
      written = p.written;
      from_source = taken_kept input left rest p.read p.from_source k;
      fits = omega (arith, p.count);
      to_sink = p.to_sink;
      replied = ended m p.read begun p.written p.at;
    }

    pub progress_too_long : (m : M) (input left rest before after : Option (List ℕ)) (begun : Begun) (room : ℕ) →
        Progress f most reached m input left before after begun room → room ≤ 0 → TakesOne left rest true → PlayedTooLong f most (Replies reached) input rest before after
    progress_too_long m input left rest before after begun room p z t = record {
      read = p.read;
      next = t.0;
      written = p.written;
      from_source = taken_more input left rest p.read (t.0 ∷ []) p.from_source t.1;
      full = omega (arith, p.count);
      to_sink = p.to_sink;
      replied = ended m p.read begun p.written p.at;
    }

    pub front_none : (size : ℕ) (m : M) (input before : Option (List ℕ)) → reached m [] [] → PlayedFront f size most (Replies reached) input input before before
    front_none size m input before r = record {
      read = record { earlier = []; block = []; from_source = taken_none input; fits = omega arith; in_hand = omega arith };
      more = [];
      reached = record { are_read = ([], refl); are_first = none_first input };
      written = [];
      reply = [];
      replied_earlier = (m, r);
      replied = (m, r);
      to_sink = (0, written_none before);
    }

    pub front_block : (size : ℕ) (m : M) (input left rest before mid after : Option (List ℕ)) (begun : Begun) (piece : List ℕ) (room : ℕ) →
        length piece ≤ size → length piece ≤ room → Progress f most reached m input left before mid begun room → Consumes left rest piece → WritesFront f reached m piece begun mid after → PlayedFront f size most (Replies reached) input rest before after
    front_block size m input left rest before mid after begun piece room within fits p c w =
        let at = w.moved p.read p.written p.at in
        let all : Consumes input rest (p.read ++ piece) = taken_more input left rest p.read piece p.from_source c in
        let next = divided-more f p.read w.done p.at.lines at.lines p.at.pending at.pending begun.at w.new_begun.at p.at.divided at.divided in
        let front : (more : List ℕ) → (later : List (List ℕ)) × (lines_of f ((p.read ++ piece) ++ more) ≡ at.lines ++ later) =
        λ more. let first = divided-first f (p.read ++ w.done) (w.later ++ more) at.lines at.pending w.new_begun.at at.divided in
        (first.0, ap (lines_of f) (ap (λ s. (p.read ++ s) ++ more) w.split ∙ ap (λ s. s ++ more) (sym (append_assoc p.read w.done w.later)) ∙ append_assoc (p.read ++ w.done) w.later more) ∙ first.1) in
        record {
          read = record { earlier = p.read; block = piece; from_source = all; fits = omega (arith, length-append p.read piece, p.count); in_hand = within };
          more = prefixed_first p.at.pending (ended_from f begun.at w.done);
          reached = record {
            are_read = subst (λ l. IsFront l (lines_of f (p.read ++ piece))) next ((front []).0, ap (lines_of f) (sym (append-nil (p.read ++ piece))) ∙ (front []).1);
            are_first = subst (λ l. AreFirst f l input) next (first_of_input input rest (p.read ++ piece) at.lines front all);
          };
          written = p.written;
          reply = w.reply;
          replied_earlier = ended m p.read begun p.written p.at;
          replied = subst (λ l. Replies reached l (p.written ++ w.reply)) next (w.new, at.replied);
          to_sink = (w.to_sink.0, appends_more before mid after p.written (take w.to_sink.0 w.reply) (p.written ++ take w.to_sink.0 w.reply) p.to_sink w.to_sink.1 refl);
        }

    pub front_end : (size : ℕ) (m : M) (input left rest before mid after : Option (List ℕ)) (begun : Begun) (room : ℕ) →
        Progress f most reached m input left before mid begun room → Consumes left rest [] → IsAtEnd rest → EndsFront f reached m begun mid after → PlayedFront f size most (Replies reached) input rest before after
    front_end size m input left rest before mid after begun room p c e w =
        let first = w.moved p.read p.written p.at in
        let all = taken_more input left rest p.read [] p.from_source c in
        record {
          read = record { earlier = p.read; block = []; from_source = all; fits = omega (arith, length-append p.read [], p.count); in_hand = omega arith };
          more = first.more;
          reached = record {
            are_read = (first.later, ap (lines_of f) (append-nil p.read) ∙ first.split);
            are_first = first_at_end input rest p.read (ended_lines f p.read ++ first.more) first.later first.split (subst (Consumes input rest) (append-nil p.read) all) e;
          };
          written = p.written;
          reply = w.reply;
          replied_earlier = ended m p.read begun p.written p.at;
          replied = (w.new, first.replied);
          to_sink = (w.to_sink.0, appends_more before mid after p.written (take w.to_sink.0 w.reply) (p.written ++ take w.to_sink.0 w.reply) p.to_sink w.to_sink.1 refl);
        }

  module _ {M : Type 0} (most : ℕ) (reached : M → List (List ℕ) → List ℕ → Type 0) (lacks : M → Type 0) where
    pub before_block : (size : ℕ) (m : M) (input left rest before mid after : Option (List ℕ)) (begun : Begun) (piece : List ℕ) (room : ℕ) →
        length piece ≤ size → length piece ≤ room → Progress f most reached m input left before mid begun room → Consumes left rest piece → WritesBefore f reached lacks m piece begun mid after → PlayedBefore f size most (RepliesBefore reached lacks) input rest before after
    before_block size m input left rest before mid after begun piece room within fits p c w =
        let at = w.moved p.read p.written p.at in
        let tail = kept w.counts w.last in
        let line = (at.pending ++ w.piece) ++ tail in
        let start = (p.read ++ w.done) ++ w.piece in
        let all : Consumes input rest (p.read ++ piece) = taken_more input left rest p.read piece p.from_source c in
        let past : IsDivided f (start ++ w.last ∷ []) (at.lines ++ line ∷ []) [] place.Start =
        divided_end f start at.lines (at.pending ++ w.piece) w.behind w.last w.counts w.met (divided_piece f (p.read ++ w.done) at.lines at.pending w.piece w.new_begun.at w.behind w.leads at.divided) in
        let spelled : p.read ++ piece ≡ (start ++ w.last ∷ []) ++ w.later = ap (λ s. p.read ++ s) w.split ∙ (sym (append_assoc p.read w.done (w.piece ++ w.last ∷ w.later)) ∙ (sym (append_assoc (p.read ++ w.done) w.piece (w.last ∷ w.later)) ∙ sym (append_assoc start (w.last ∷ []) w.later))) in
        let front : (more : List ℕ) → (later : List (List ℕ)) × (lines_of f ((p.read ++ piece) ++ more) ≡ (at.lines ++ line ∷ []) ++ later) =
        λ more. let first = divided-first f (start ++ w.last ∷ []) (w.later ++ more) (at.lines ++ line ∷ []) [] place.Start past in
        (first.0, ap (lines_of f) (ap (λ s. s ++ more) spelled ∙ append_assoc (start ++ w.last ∷ []) w.later more) ∙ first.1) in
        record {
          read = record { earlier = p.read; block = piece; from_source = all; fits = omega (arith, length-append p.read piece, p.count); in_hand = within };
          lines = at.lines;
          line = line;
          are_later = (prefixed_first p.at.pending (ended_from f begun.at w.done), divided-more f p.read w.done p.at.lines at.lines p.at.pending at.pending begun.at w.new_begun.at p.at.divided at.divided);
          reached = record {
            are_read = ((front []).0, ap (lines_of f) (sym (append-nil (p.read ++ piece))) ∙ (front []).1);
            are_first = first_of_input input rest (p.read ++ piece) (at.lines ++ line ∷ []) front all;
          };
          making = subst (λ l. makes_cluster f l ≡ true) (sym (append_assoc at.pending w.piece tail)) (making_whole w.new_begun.first at.pending (w.piece ++ tail) at.is_begun w.making);
          written = p.written ++ w.reply;
          replied = (w.new, (at.replied, w.lacks_cluster));
          to_sink = appends_more before mid after p.written w.reply (p.written ++ w.reply) p.to_sink w.to_sink refl;
        }

    pub before_end : (size : ℕ) (m : M) (input left rest before mid after : Option (List ℕ)) (begun : Begun) (room : ℕ) →
        Progress f most reached m input left before mid begun room → Consumes left rest [] → IsAtEnd rest → EndsBefore f lacks m begun mid after → PlayedBefore f size most (RepliesBefore reached lacks) input rest before after
    before_end size m input left rest before mid after begun room p c e w =
        let at = p.at in
        let some : at.pending ≢ [] = λ h. w.some (at.is_begun ∙ ap (take 4099) h) in
        let all = taken_more input left rest p.read [] p.from_source c in
        let last : lines_of f p.read ≡ (at.lines ++ at.pending ∷ []) ++ [] = divided-last f p.read at.lines at.pending begun.at some at.divided ∙ sym (append-nil (at.lines ++ at.pending ∷ [])) in
        record {
          read = record { earlier = p.read; block = []; from_source = all; fits = omega (arith, length-append p.read [], p.count); in_hand = omega arith };
          lines = at.lines;
          line = at.pending;
          are_later = ([], sym (divided-ended f p.read at.lines at.pending begun.at at.divided) ∙ sym (append-nil (ended_lines f p.read)));
          reached = record {
            are_read = ([], ap (lines_of f) (append-nil p.read) ∙ last);
            are_first = first_at_end input rest p.read (at.lines ++ at.pending ∷ []) [] last (subst (Consumes input rest) (append-nil p.read) all) e;
          };
          making = making_last begun.first at.pending at.is_begun w.making;
          written = p.written;
          replied = (m, (at.replied, w.lacks_cluster));
          to_sink = subst (λ s. Appends before after s) (append-nil p.written) (appends_more before mid after p.written [] (p.written ++ []) p.to_sink w.same refl);
        }

    pub stopped_read : (size : ℕ) (e : Fault) (input left before after : Option (List ℕ)) → e ≡ fault.Read → PlayedEnded f most (Replies reached) input left before after → Stopped f size most reached lacks input left before after e
    stopped_read size e input left before after h p = subst (Stopped f size most reached lacks input left before after) (sym h) p

    pub stopped_front : (size : ℕ) (e : Fault) (input left before after : Option (List ℕ)) → (e ≢ fault.Read) × (e ≢ fault.TooLong) → PlayedFront f size most (Replies reached) input left before after → (e ≡ fault.NoDisk → PlayedBefore f size most (RepliesBefore reached lacks) input left before after) → Stopped f size most reached lacks input left before after e
    stopped_front size fault.Read input left before after h p b = absurd (h.0 refl)
    stopped_front size fault.Write input left before after h p b = p
    stopped_front size fault.NoMemory input left before after h p b = p
    stopped_front size fault.TooLong input left before after h p b = absurd (h.1 refl)
    stopped_front size fault.NoDisk input left before after h p b = b refl

    pub goes_on : (size : ℕ) (m new : M) (input left rest before mid after : Option (List ℕ)) (begun new_begun : Begun) (block : List ℕ) (room count : ℕ) →
        Progress f most reached m input left before mid begun room → Consumes left rest (take count block) → count ≤ length block → count ≤ room → (count ≡ 0 → ⊥) → Writes f reached m new (take count block) begun new_begun mid after →
        GoesOn f size most reached lacks new input rest before after new_begun room (Ok count)
    goes_on size m new input left rest before mid after begun new_begun block room zero p c l r n w = absurd (n refl)
    goes_on size m new input left rest before mid after begun new_begun block room (suc count) p c l r n w =
        (r, progress_more most reached m new input left rest before mid after begun new_begun (take (suc count) block) room (suc count) p c (length-take-le (suc count) block l) r w)

    pub room_for : (size : ℕ) (m : M) (input left before after : Option (List ℕ)) (begun : Begun) (room count : ℕ) → GoesOn f size most reached lacks m input left before after begun room (Ok count) → count ≤ room
    room_for size m input left before after begun room zero h = omega arith
    room_for size m input left before after begun room (suc count) h = h.0

    pub goes_on_end : (size : ℕ) (m : M) (input left before after : Option (List ℕ)) (begun : Begun) (room count : ℕ) → GoesOn f size most reached lacks m input left before after begun room (Ok count) → count ≡ 0 → Played f most (reached m) input left before after
    goes_on_end size m input left before after begun room zero h e = h
    goes_on_end size m input left before after begun room (suc count) h e = absurd (omega arith)

    pub goes_on_more : (size : ℕ) (m : M) (input left before after : Option (List ℕ)) (begun : Begun) (room count : ℕ) → GoesOn f size most reached lacks m input left before after begun room (Ok count) → (count ≡ 0 → ⊥) → Progress f most reached m input left before after begun (room - count)
    goes_on_more size m input left before after begun room zero h e = absurd (e refl)
    goes_on_more size m input left before after begun room (suc count) h e = h.1

  -- a script that was read to its end, and whether a line of it isn't in the grammar
  pub played_all : {M : Type 0} (most : ℕ) (reached : M → List (List ℕ) → List ℕ → Type 0) (m : M) (met bad : Bool) (input left before after : Option (List ℕ)) →
      met ≡ bad → Played f most (reached m) input left before after → ((lines : List (List ℕ)) (bytes : List ℕ) → reached m lines bytes → has_bad f lines ≡ met) → Played f most (And f (reached m) bad) input left before after
  played_all most reached m met bad input left before after e p h = record {
    read = p.read;
    written = p.written;
    from_source = p.from_source;
    at_end = p.at_end;
    fits = p.fits;
    to_sink = p.to_sink;
    replied = (p.replied, h (lines_of f p.read) p.written p.replied ∙ e);
  }
