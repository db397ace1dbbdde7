-- A state that answers lines, and what it has read, kept and replied.
use Rattle.std.proofs.Common.{◌≡◌, ℕ, Bool, List, [], ◌∷◌, ◌++◌, ◌-◌, length, take, drop, min, ◌==◌, true, refl, sym, ap, ◌∙◌, subst, append_assoc}
use Rattle.std.specs.Prelude.{Result, Ok, Err, OnOk}
use Rattle.std.proofs.lemmas.List.{append-nil, take_rest}
use Rattle.dc_engine.specs.declared.framing.Framing.{Framing}
use Rattle.dc_engine.specs.declared.script.place.Place.{Place}
use Rattle.dc_engine.specs.declared.script.place.Place.TheVariants as place
use Rattle.dc_engine.specs.Lines.{meets, ends, kept}
use Rattle.dc_engine.specs.Ends.{Goes, EndsAt}
use Rattle.dc_engine.specs.Reading.{makes_cluster}
use Rattle.dc_engine.specs.Replies.{AnswersLine}
use Rattle.dc_engine.specs.Blocks.{Begun, none_begun, IsDivided, At, Moves, MovesFront, MovesBefore}
use Rattle.dc_engine.proofs.bytes.Dividing.{divided_piece, divided_end}
use Rattle.dc_engine.proofs.bytes.Takes.{take-cut, front_of}

module _ (f : Framing) where
  -- all fresh bytes but the rest were moved by
  pub record MovesTo {M : Type 0} (reached : M → List (List ℕ) → List ℕ → Type 0) (old new : M) (fresh rest : List ℕ) (old_begun new_begun : Begun) (old_out new_out : List ℕ) : Type 0 where
    pub done : List ℕ
    pub split : fresh ≡ done ++ rest
    pub moves : Moves f reached old new done old_begun new_begun old_out new_out

  at_same : {M : Type 0} (reached : M → List (List ℕ) → List ℕ → Type 0) (m : M) (read read' : List ℕ) (begun : Begun) (bytes bytes' : List ℕ) → read ≡ read' → bytes ≡ bytes' → At f reached m read begun bytes → At f reached m read' begun bytes'
  at_same reached m read read' begun bytes bytes' e g a = subst (λ r. At f reached m r begun bytes') e (subst (λ b. At f reached m read begun b) g a)

  moves_none : {M : Type 0} (reached : M → List (List ℕ) → List ℕ → Type 0) (m : M) (begun : Begun) (out : List ℕ) → Moves f reached m m [] begun begun out out
  moves_none reached m begun out = record {
    reply = [];
    appended = sym (append-nil out);
    moved = λ read bytes a. at_same reached m read (read ++ []) begun bytes (bytes ++ []) (sym (append-nil read)) (sym (append-nil bytes)) a;
  }

  moves_then : {M : Type 0} (reached : M → List (List ℕ) → List ℕ → Type 0) (a b c : M) (fresh more : List ℕ) (k l m : Begun) (o p q : List ℕ) → Moves f reached a b fresh k l o p → Moves f reached b c more l m p q → Moves f reached a c (fresh ++ more) k m o q
  moves_then reached a b c fresh more k l m o p q x y = record {
    reply = x.reply ++ y.reply;
    appended = y.appended ∙ ap (λ s. s ++ y.reply) x.appended ∙ append_assoc o x.reply y.reply;
    moved = λ read bytes h. at_same reached c ((read ++ fresh) ++ more) (read ++ (fresh ++ more)) m ((bytes ++ x.reply) ++ y.reply) (bytes ++ (x.reply ++ y.reply)) (append_assoc read fresh more) (append_assoc bytes x.reply y.reply) (y.moved (read ++ fresh) (bytes ++ x.reply) (x.moved read bytes h));
  }

  -- a piece and the byte that ends its line
  moves_line : {M : Type 0} (reached : M → List (List ℕ) → List ℕ → Type 0) (old new : M) (piece : List ℕ) (last : ℕ) (counts : Bool) (behind : Place) (begun : Begun) (out out' : List ℕ) → Goes f begun.at piece behind → meets f behind last ≡ ends counts
      → AnswersLine reached old new (take 4099 (begun.first ++ (piece ++ kept counts last))) out out' → Moves f reached old new (piece ++ last ∷ []) begun none_begun out out'
  moves_line reached old new piece last counts behind begun out out' h m a = record {
    reply = a.reply;
    appended = a.appended;
    moved = λ read bytes s. let line = (s.pending ++ piece) ++ kept counts last in record {
      lines = s.lines ++ line ∷ [];
      pending = [];
      divided = subst (λ r. IsDivided f r (s.lines ++ line ∷ []) [] place.Start) (append_assoc read piece (last ∷ [])) (divided_end f (read ++ piece) s.lines (s.pending ++ piece) behind last counts m (divided_piece f read s.lines s.pending piece begun.at behind h s.divided));
      is_begun = refl;
      replied = a.answered line s.lines bytes (ap (take 4099) (append_assoc s.pending piece (kept counts last)) ∙ sym (take-cut 4099 s.pending (piece ++ kept counts last)) ∙ ap (λ k. take 4099 (k ++ (piece ++ kept counts last))) (sym s.is_begun)) s.replied;
    };
  }

  -- a piece with which the line goes on
  moves_piece : {M : Type 0} (reached : M → List (List ℕ) → List ℕ → Type 0) (m : M) (piece : List ℕ) (begun : Begun) (to : Place) (out : List ℕ) → Goes f begun.at piece to → Moves f reached m m piece begun (record { first = take 4099 (begun.first ++ piece); at = to }) out out
  moves_piece reached m piece begun to out h = record {
    reply = [];
    appended = sym (append-nil out);
    moved = λ read bytes s. record {
      lines = s.lines;
      pending = s.pending ++ piece;
      divided = divided_piece f read s.lines s.pending piece begun.at to h s.divided;
      is_begun = ap (λ k. take 4099 (k ++ piece)) s.is_begun ∙ take-cut 4099 s.pending piece;
      replied = subst (reached m s.lines) (sym (append-nil bytes)) s.replied;
    };
  }

  pub moves_start : {M : Type 0} (reached : M → List (List ℕ) → List ℕ → Type 0) (m : M) (block : List ℕ) (begun : Begun) (out : List ℕ) → MovesTo reached m m block block begun begun out out
  moves_start reached m block begun out = record { done = []; split = refl; moves = moves_none reached m begun out }

  -- the rest ends no line
  pub moves_rest : {M : Type 0} (reached : M → List (List ℕ) → List ℕ → Type 0) (old new : M) (block rest : List ℕ) (begun mid_begun new_begun : Begun) (to : Place) (out new_out : List ℕ) →
      MovesTo reached old new block rest begun mid_begun out new_out → Goes f mid_begun.at rest to → new_begun.first ≡ take 4099 (mid_begun.first ++ rest) → new_begun.at ≡ to → Moves f reached old new block begun new_begun out new_out
  moves_rest reached old new block rest begun mid_begun new_begun to out new_out t h e a =
      let is : new_begun ≡ record { first = take 4099 (mid_begun.first ++ rest); at = to } = λ i. record { first = e i; at = a i } in
      subst (λ l. Moves f reached old new l begun new_begun out new_out) (sym t.split)
      (subst (λ k. Moves f reached old new (t.done ++ rest) begun k out new_out) (sym is)
      (moves_then reached old new new t.done rest begun mid_begun (record { first = take 4099 (mid_begun.first ++ rest); at = to }) out new_out new_out t.moves (moves_piece reached new rest mid_begun to new_out h)))

  -- what was moved by so far
  pub moves_front : {M : Type 0} (reached : M → List (List ℕ) → List ℕ → Type 0) (old mid : M) (block rest : List ℕ) (begun mid_begun : Begun) (out mid_out new_out : List ℕ) →
      MovesTo reached old mid block rest begun mid_begun out mid_out → new_out ≡ mid_out → MovesFront f reached old block begun out new_out
  moves_front reached old mid block rest begun mid_begun out mid_out new_out t e =
      subst (MovesFront f reached old block begun out) (sym e) (record { new = mid; done = t.done; later = rest; new_begun = mid_begun; split = t.split; moves = t.moves })

  -- a line of which nothing was kept before
  pub answers_front : {M : Type 0} (reached : M → List (List ℕ) → List ℕ → Type 0) (old new : M) (begun piece out new_out : List ℕ) (n : ℕ) →
      AnswersLine reached old new (take n piece) out new_out → (length begun == 0) ≡ true → n ≡ min 4099 (length piece) → AnswersLine reached old new (take 4099 (begun ++ piece)) out new_out
  answers_front reached old new begun piece out new_out n a h e = subst (λ l. AnswersLine reached old new l out new_out) (front_of begun piece n h e) a

  -- a line ends in the rest, with so many of its bytes, and the next one begins behind so many
  pub moves_on : {M : Type 0} (reached : M → List (List ℕ) → List ℕ → Type 0) (old mid new : M) (block rest : List ℕ) (begun mid_begun new_begun : Begun) (out mid_out new_out : List ℕ) (line next : ℕ) →
      MovesTo reached old mid block rest begun mid_begun out mid_out → EndsAt f mid_begun.at rest line next →
      AnswersLine reached mid new (take 4099 (mid_begun.first ++ take line rest)) mid_out new_out → new_begun ≡ none_begun →
      MovesTo reached old new block (take (length rest - next) (drop next rest)) begun new_begun out new_out
  moves_on reached old mid new block rest begun mid_begun new_begun out mid_out new_out line next t e a n =
      let back : take (length rest - next) (drop next rest) ≡ e.later = take_rest rest next ∙ e.next in
      let answered : AnswersLine reached mid new (take 4099 (mid_begun.first ++ (e.front ++ kept e.counts e.last))) mid_out new_out = subst (λ l. AnswersLine reached mid new (take 4099 (mid_begun.first ++ l)) mid_out new_out) e.line a in
      let on : MovesTo reached old new block e.later begun none_begun out new_out = record {
        done = t.done ++ (e.front ++ e.last ∷ []);
        split = t.split ∙ ap (λ l. t.done ++ l) (e.split ∙ sym (append_assoc e.front (e.last ∷ []) e.later)) ∙ sym (append_assoc t.done (e.front ++ e.last ∷ []) e.later);
        moves = moves_then reached old mid new t.done (e.front ++ e.last ∷ []) begun mid_begun none_begun out mid_out new_out t.moves (moves_line reached mid new e.front e.last e.counts e.behind mid_begun mid_out new_out e.leads e.met answered);
      } in
      subst (λ k. MovesTo reached old new block (take (length rest - next) (drop next rest)) begun k out new_out) (sym n)
      (subst (λ r. MovesTo reached old new block r begun none_begun out new_out) (sym back) on)

  -- all before a line that makes a cluster, which ends in the rest
  pub moves_before : {M : Type 0} (reached : M → List (List ℕ) → List ℕ → Type 0) (lacks : M → Type 0) (old mid : M) (block rest : List ℕ) (begun mid_begun : Begun) (out mid_out new_out : List ℕ) (line next : ℕ) →
      MovesTo reached old mid block rest begun mid_begun out mid_out → EndsAt f mid_begun.at rest line next → makes_cluster f (take 4099 (mid_begun.first ++ take line rest)) ≡ true → lacks mid → new_out ≡ mid_out → MovesBefore f reached lacks old block begun out new_out
  moves_before reached lacks old mid block rest begun mid_begun out mid_out new_out line next t e h b k = subst (MovesBefore f reached lacks old block begun out) (sym k) (record {
    new = mid;
    done = t.done;
    piece = e.front;
    last = e.last;
    later = e.later;
    new_begun = mid_begun;
    behind = e.behind;
    counts = e.counts;
    split = t.split ∙ ap (λ l. t.done ++ l) e.split;
    leads = e.leads;
    met = e.met;
    making = subst (λ l. makes_cluster f (take 4099 (mid_begun.first ++ l)) ≡ true) e.line h;
    moves = t.moves;
    lacks_cluster = b;
  })

  -- a line of which nothing was kept before makes a cluster as its front does
  pub makes_front : (begun piece : List ℕ) (n : ℕ) → (length begun == 0) ≡ true → n ≡ min 4099 (length piece) → makes_cluster f (take n piece) ≡ true → makes_cluster f (take 4099 (begun ++ piece)) ≡ true
  makes_front begun piece n h e m = subst (λ l. makes_cluster f l ≡ true) (front_of begun piece n h e) m

pub on_ok : {T X : Type 0} (r : Result T X) (P Q : Type 0) → (P → Q) → OnOk r P → OnOk r Q
on_ok (Ok x) P Q f p = f p
on_ok (Err e) P Q f p = tt

-- an error in place of another value
abbrev other_err : {A B X : Type 0} → X → Result A X → Result B X
other_err d (Ok a) = Err d
other_err d (Err e) = Err e

pub err_as : {A B X : Type 0} (x y : X) → ◌≡◌ {A = Result A X} (Err x) (Err y) → ◌≡◌ {A = Result B X} (Err x) (Err y)
err_as x y e = ap (other_err x) e
