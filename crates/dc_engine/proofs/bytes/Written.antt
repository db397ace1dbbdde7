-- What was written of the replies.
use Rattle.std.proofs.Common.{◌≡◌, ◌≢◌, ℕ, ◌+◌, ◌==◌, true, false, List, [], ◌∷◌, ◌++◌, Option, Some, None, length, take, drop, refl, sym, ap, ◌∙◌, subst, arith, append_assoc}
use Rattle.std.proofs.lemmas.Bool.{eqb-true, eqb-false}
use Rattle.std.proofs.lemmas.List.{append-nil, length-take, take-take, drop-take, take-append-drop}
use Rattle.std.specs.Prelude.{Result, Ok, Err, OnErr}
use Rattle.std.specs.Io.KnownBytes.{Appends}
use Rattle.dc_engine.specs.declared.framing.Framing.{Framing}
use Rattle.dc_engine.specs.Lines.{lines_of, ended_lines}
use Rattle.dc_engine.specs.Reading.{makes_cluster}
use Rattle.dc_engine.specs.Replies.{AnswersLine}
use Rattle.dc_engine.specs.Blocks.{Begun, IsDivided, At, Moves, MovesFront, MovesBefore, AppendsFront, Writes, WritesFront, WritesBefore, Ends, EndsFront, EndsBefore}
use Rattle.dc_engine.proofs.bytes.Dividing.{divided-whole, divided-last, divided-first, divided-ended}

take_split : (bytes : List ℕ) (k n : ℕ) → take k bytes ++ take n (drop k bytes) ≡ take (k + n) bytes
take_split bytes k n = ap (λ s. s ++ take n (drop k bytes)) (sym (take-take k (k + n) bytes (omega arith))) ∙ ap (λ s. take k (take (k + n) bytes) ++ s) (sym (drop-take k n bytes)) ∙ take-append-drop k (take (k + n) bytes)

pub written_none : (o : Option (List ℕ)) → Appends o o []
written_none None = tt
written_none (Some xs) = sym (append-nil xs)

pub appends_more : (o p q : Option (List ℕ)) (xs ys zs : List ℕ) → Appends o p xs → Appends p q ys → zs ≡ xs ++ ys → Appends o q zs
appends_more None p q xs ys zs a b e = tt
appends_more (Some o) None q xs ys zs a b e = absurd a
appends_more (Some o) (Some p) None xs ys zs a b e = b
appends_more (Some o) (Some p) (Some q) xs ys zs a b e = b ∙ ap (λ s. s ++ ys) a ∙ append_assoc o xs ys ∙ ap (λ s. o ++ s) (sym e)

pub written_more : (o p q : Option (List ℕ)) (bytes : List ℕ) (done n : ℕ) → Appends o p (take done bytes) → Appends p q (take n (drop done bytes)) → Appends o q (take (done + n) bytes)
written_more o p q bytes done n a b = appends_more o p q (take done bytes) (take n (drop done bytes)) (take (done + n) bytes) a b (sym (take_split bytes done n))

pub front_of : (before after : Option (List ℕ)) (bytes : List ℕ) (n : ℕ) → Appends before after (take n bytes) → AppendsFront before after bytes
front_of before after bytes n a = (n, a)

replies_of : (out new_out reply : List ℕ) → new_out ≡ out ++ reply → out ≡ [] → reply ≡ new_out
replies_of out new_out reply a e = sym (a ∙ ap (λ o. o ++ reply) e)

none_pending : (begun pending : List ℕ) → (length begun == 0) ≡ true → begun ≡ take 4099 pending → pending ≡ []
none_pending begun [] h e = refl
none_pending [] (b ∷ pending) h e = absurd (omega (arith, ap length e, length-take 4099 (b ∷ pending)))
none_pending (c ∷ begun) (b ∷ pending) h e = absurd (omega (arith, eqb-true _ _ h))

pub some_pending : (begun pending : List ℕ) → (length begun == 0) ≡ false → begun ≡ take 4099 pending → pending ≢ []
some_pending [] pending h e p = eqb-false 0 0 h refl
some_pending (c ∷ begun) pending h e p = absurd (omega (arith, ap length (e ∙ ap (take 4099) p)))

module _ (f : Framing) where
  pub writes_all : {M : Type 0} (reached : M → List (List ℕ) → List ℕ → Type 0) (old new : M) (fresh : List ℕ) (begun new_begun : Begun) (out new_out : List ℕ) (before after : Option (List ℕ)) →
      Moves f reached old new fresh begun new_begun out new_out → out ≡ [] → Appends before after new_out → Writes f reached old new fresh begun new_begun before after
  writes_all reached old new fresh begun new_begun out new_out before after m e a =
      record { reply = m.reply; to_sink = subst (Appends before after) (sym (replies_of out new_out m.reply m.appended e)) a; moved = m.moved }

  pub writes_some : {M : Type 0} (reached : M → List (List ℕ) → List ℕ → Type 0) (old : M) (fresh : List ℕ) (begun : Begun) (out new_out : List ℕ) (before after : Option (List ℕ)) →
      MovesFront f reached old fresh begun out new_out → out ≡ [] → AppendsFront before after new_out → WritesFront f reached old fresh begun before after
  writes_some reached old fresh begun out new_out before after m e a = record {
    new = m.new;
    done = m.done;
    later = m.later;
    new_begun = m.new_begun;
    split = m.split;
    reply = m.moves.reply;
    to_sink = subst (AppendsFront before after) (sym (replies_of out new_out m.moves.reply m.moves.appended e)) a;
    moved = m.moves.moved;
  }

  pub writes_front : {M : Type 0} (reached : M → List (List ℕ) → List ℕ → Type 0) (old new : M) (fresh : List ℕ) (begun new_begun : Begun) (out new_out : List ℕ) (before after : Option (List ℕ)) →
      Moves f reached old new fresh begun new_begun out new_out → out ≡ [] → AppendsFront before after new_out → WritesFront f reached old fresh begun before after
  writes_front reached old new fresh begun new_begun out new_out before after m e a =
      writes_some reached old fresh begun out new_out before after (record { new = new; done = fresh; later = []; new_begun = new_begun; split = sym (append-nil fresh); moves = m }) e a

  pub writes_before : {M : Type 0} (reached : M → List (List ℕ) → List ℕ → Type 0) (lacks : M → Type 0) (old : M) (fresh : List ℕ) (begun : Begun) (out new_out : List ℕ) (before after : Option (List ℕ)) →
      MovesBefore f reached lacks old fresh begun out new_out → out ≡ [] → Appends before after new_out → WritesBefore f reached lacks old fresh begun before after
  writes_before reached lacks old fresh begun out new_out before after m e a = record {
    new = m.new;
    done = m.done;
    piece = m.piece;
    last = m.last;
    later = m.later;
    new_begun = m.new_begun;
    behind = m.behind;
    counts = m.counts;
    split = m.split;
    leads = m.leads;
    met = m.met;
    making = m.making;
    reply = m.moves.reply;
    to_sink = subst (Appends before after) (sym (replies_of out new_out m.moves.reply m.moves.appended e)) a;
    moved = m.moves.moved;
    lacks_cluster = m.lacks_cluster;
  }

  pub ends_none : {M : Type 0} (reached : M → List (List ℕ) → List ℕ → Type 0) (m : M) (begun : Begun) (before : Option (List ℕ)) →
      (length begun.first == 0) ≡ true → Ends f reached m m begun before before
  ends_none reached m begun before h = record {
    reply = [];
    to_sink = written_none before;
    moved = λ read bytes s.
        let none = none_pending begun.first s.pending h s.is_begun in
        subst (λ l. reached m l (bytes ++ [])) (sym (divided-whole f read s.lines begun.at (subst (λ p. IsDivided f read s.lines p begun.at) none s.divided))) (subst (reached m s.lines) (sym (append-nil bytes)) s.replied);
  }

  last_answered : {M : Type 0} (reached : M → List (List ℕ) → List ℕ → Type 0) (old new : M) (begun : Begun) (out new_out : List ℕ) (a : AnswersLine reached old new begun.first out new_out) (read bytes : List ℕ) →
      (length begun.first == 0) ≡ false → At f reached old read begun bytes → reached new (lines_of f read) (bytes ++ a.reply)
  last_answered reached old new begun out new_out a read bytes h s =
      subst (λ l. reached new l (bytes ++ a.reply)) (sym (divided-last f read s.lines s.pending begun.at (some_pending begun.first s.pending h s.is_begun) s.divided)) (a.answered s.pending s.lines bytes (sym s.is_begun) s.replied)

  pub ends_line : {M : Type 0} (reached : M → List (List ℕ) → List ℕ → Type 0) (old new : M) (begun : Begun) (out new_out : List ℕ) (before after : Option (List ℕ)) →
      (length begun.first == 0) ≡ false → AnswersLine reached old new begun.first out new_out → out ≡ [] → Appends before after new_out → Ends f reached old new begun before after
  ends_line reached old new begun out new_out before after h a e w = record {
    reply = a.reply;
    to_sink = subst (Appends before after) (sym (replies_of out new_out a.reply a.appended e)) w;
    moved = λ read bytes s. last_answered reached old new begun out new_out a read bytes h s;
  }

  pub ends_front : {M : Type 0} (reached : M → List (List ℕ) → List ℕ → Type 0) (old new : M) (begun : Begun) (out new_out : List ℕ) (before after : Option (List ℕ)) →
      (length begun.first == 0) ≡ false → AnswersLine reached old new begun.first out new_out → out ≡ [] → AppendsFront before after new_out → EndsFront f reached old begun before after
  ends_front reached old new begun out new_out before after h a e w = record {
    new = new;
    reply = a.reply;
    to_sink = subst (AppendsFront before after) (sym (replies_of out new_out a.reply a.appended e)) w;
    moved = λ read bytes s. let all = divided-ended f read s.lines s.pending begun.at s.divided in record {
      more = s.pending ∷ [];
      later = [];
      split = divided-last f read s.lines s.pending begun.at (some_pending begun.first s.pending h s.is_begun) s.divided ∙ ap (λ l. l ++ s.pending ∷ []) (sym all) ∙ sym (append-nil (ended_lines f read ++ s.pending ∷ []));
      replied = subst (λ l. reached new (l ++ s.pending ∷ []) (bytes ++ a.reply)) (sym all) (a.answered s.pending s.lines bytes (sym s.is_begun) s.replied);
    };
  }

  pub ends_before : {M : Type 0} (reached : M → List (List ℕ) → List ℕ → Type 0) (m : M) (begun : Begun) (before : Option (List ℕ)) → EndsFront f reached m begun before before
  ends_before reached m begun before = record {
    new = m;
    reply = [];
    to_sink = (0, written_none before);
    moved = λ read bytes s.
        let first = divided-first f read [] s.lines s.pending begun.at s.divided in
        let all : s.lines ≡ ended_lines f read ++ [] = sym (divided-ended f read s.lines s.pending begun.at s.divided) ∙ sym (append-nil (ended_lines f read)) in
        record {
          more = [];
          later = first.0;
          split = ap (lines_of f) (sym (append-nil read)) ∙ first.1 ∙ ap (λ l. l ++ first.0) all;
          replied = subst (λ l. reached m l (bytes ++ [])) all (subst (reached m s.lines) (sym (append-nil bytes)) s.replied);
        };
  }

  pub ends_with : {M : Type 0} (lacks : M → Type 0) (old : M) (begun : Begun) (before : Option (List ℕ)) → (length begun.first == 0) ≡ false → makes_cluster f begun.first ≡ true → lacks old → EndsBefore f lacks old begun before before
  ends_with lacks old begun before h m b = record { some = λ e. eqb-false (length begun.first) 0 h (ap length e); making = m; same = written_none before; lacks_cluster = b }

pub on_err : {T X : Type 0} (r : Result T X) (P : Type 0) → P → OnErr r P
on_err (Ok x) P p = tt
on_err (Err e) P p = p
