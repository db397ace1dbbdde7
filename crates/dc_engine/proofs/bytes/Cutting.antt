-- Where lines end among bytes.
use Rattle.std.proofs.Common.{◌≡◌, ℕ, zero, suc, ◌+◌, ◌*◌, ◌-◌, ◌<◌, ◌≤◌, true, false, List, [], ◌∷◌, ◌++◌, Option, Some, None, length, take, drop, slice_index, refl, sym, ap, ◌∙◌, subst, arith, add-one, drop-cons}
use Rattle.std.specs.Prelude.{if◌then◌else◌}
use Rattle.std.proofs.lemmas.List.{append-nil, take_all, take-append-drop}
use Rattle.std.proofs.lemmas.Bool.{ne_eqb, eq-eqb, eqb-true}
use Rattle.memchr.specs.Find.{IsFirstByte, is_byte}
use Rattle.dc_engine.specs.declared.framing.Framing.TheVariants as framing
use Rattle.dc_engine.specs.declared.script.place.Place.{Place}
use Rattle.dc_engine.specs.declared.script.place.Place.TheVariants as place
use Rattle.dc_engine.specs.Lines.{goes, ends, meets, owing}
use Rattle.dc_engine.specs.Ends.{Goes, EndsAt, last_at, in_head}

-- a script of lines: no byte of these is a LF
goes_line : (at : Place) (bytes : List ℕ) (n : ℕ) → n ≤ length bytes → ((k : ℕ) → k < n → slice_index bytes k ≡ 10 → ⊥) → Goes framing.Lines at (take n bytes) at
goes_line at bytes zero le h = refl
goes_line at [] (suc n) le h = absurd (omega arith)
goes_line at (b ∷ bytes) (suc n) le h = (at, ap (λ c. if c then ends false else goes at) (ne_eqb b 10 (λ e. h 0 (omega arith) e)), goes_line at bytes n (omega arith) (λ k lt e. h (suc k) (omega arith) e))

here_of : (bytes : List ℕ) (at : ℕ) → at < length bytes → slice_index bytes at ≡ 10 → drop at bytes ≡ 10 ∷ drop (at + 1) bytes
here_of bytes at lt e = drop-cons bytes at 0 lt ∙ ap (λ b. b ∷ drop (suc at) bytes) e ∙ ap (λ n. 10 ∷ drop n bytes) (sym (add-one at))

pub line_ends : (at : Place) (bytes : List ℕ) (line : ℕ) → IsFirstByte (is_byte 10) bytes (Some line) → EndsAt framing.Lines at bytes line (line + 1)
line_ends at bytes line f = record {
  front = take line bytes;
  last = 10;
  later = drop (line + 1) bytes;
  behind = at;
  counts = false;
  split = sym (take-append-drop line bytes) ∙ ap (λ l. take line bytes ++ l) (here_of bytes line f.0.high (eqb-true _ _ f.1));
  leads = goes_line at bytes line (omega (arith, f.0.high)) (λ k lt e. f.0.before k (omega arith) lt (eq-eqb _ _ e));
  met = refl;
  line = sym (append-nil (take line bytes));
  next = refl;
  line_within = omega (arith, f.0.high);
  within = omega (arith, f.0.high);
  some = omega arith;
}

pub line_leads : (at : Place) (bytes : List ℕ) → IsFirstByte (is_byte 10) bytes None → Goes framing.Lines at bytes at
line_leads at bytes f = subst (λ l. Goes framing.Lines at l at) (take_all (length bytes) bytes (omega arith)) (goes_line at bytes (length bytes) (omega arith) (λ k lt e. f k (omega arith) lt (eq-eqb _ _ e)))

-- a frame ends behind so many bytes and one more
abbrev FrameEnds : Place → List ℕ → ℕ → Type 0
FrameEnds at bytes last = EndsAt framing.Frames at bytes (suc last) (suc last)

-- one more byte before
ends_later : (at next : Place) (b : ℕ) (bytes : List ℕ) (last : ℕ) → meets framing.Frames at b ≡ goes next → FrameEnds next bytes last → FrameEnds at (b ∷ bytes) (suc last)
ends_later at next b bytes last m e = record {
  front = b ∷ e.front;
  last = e.last;
  later = e.later;
  behind = e.behind;
  counts = e.counts;
  split = ap (λ l. b ∷ l) e.split;
  leads = (next, m, e.leads);
  met = e.met;
  line = ap (λ l. b ∷ l) e.line;
  next = e.next;
  line_within = omega (arith, e.line_within);
  within = omega (arith, e.within);
  some = omega arith;
}

ends_now : (at : Place) (b : ℕ) (bytes : List ℕ) → meets framing.Frames at b ≡ ends true → FrameEnds at (b ∷ bytes) 0
ends_now at b bytes m = record {
  front = [];
  last = b;
  later = bytes;
  behind = at;
  counts = true;
  split = refl;
  leads = refl;
  met = m;
  line = refl;
  next = refl;
  line_within = omega arith;
  within = omega arith;
  some = omega arith;
}

body_ends : (more : ℕ) (bytes : List ℕ) → more < length bytes → FrameEnds (place.InBody more) bytes more
body_ends more [] lt = absurd (omega arith)
body_ends zero (b ∷ bytes) lt = ends_now (place.InBody 0) b bytes refl
body_ends (suc more) (b ∷ bytes) lt = ends_later (place.InBody (suc more)) (place.InBody more) b bytes more refl (body_ends more bytes (omega arith))

-- behind the head, of which this is the last byte
owing_ends : (at : Place) (b size : ℕ) (bytes : List ℕ) → meets framing.Frames at b ≡ owing size → size < suc (length bytes) → FrameEnds at (b ∷ bytes) size
owing_ends at b zero bytes m lt = ends_now at b bytes m
owing_ends at b (suc more) bytes m lt = ends_later at (place.InBody more) b bytes more m (body_ends more bytes (omega arith))

body_leads : (more : ℕ) (bytes : List ℕ) → length bytes ≤ more → Goes framing.Frames (place.InBody more) bytes (place.InBody (more - length bytes))
body_leads more [] le = ap place.InBody (omega arith)
body_leads zero (b ∷ bytes) le = absurd (omega arith)
body_leads (suc more) (b ∷ bytes) le =
    let same : more - length bytes ≡ suc more - suc (length bytes) = omega arith in
    (place.InBody more, refl, subst (λ n. Goes framing.Frames (place.InBody more) bytes (place.InBody n)) same (body_leads more bytes (omega arith)))

owing_leads : (at : Place) (b size : ℕ) (bytes : List ℕ) → meets framing.Frames at b ≡ owing size → suc (length bytes) ≤ size → Goes framing.Frames at (b ∷ bytes) (place.InBody (size - suc (length bytes)))
owing_leads at b zero bytes m le = absurd (omega arith)
owing_leads at b (suc more) bytes m le =
    let same : more - length bytes ≡ suc more - suc (length bytes) = omega arith in
    (place.InBody more, m, subst (λ n. Goes framing.Frames (place.InBody more) bytes (place.InBody n)) same (body_leads more bytes (omega arith)))

some_of : (a b : ℕ) → Some a ≡ Some b → a ≡ b
some_of a b e = ap (λ (o : Option ℕ). or_none o) e
  where
    or_none : Option ℕ → ℕ
    or_none None = a
    or_none (Some x) = x

none_some : {A : Type 0} (n : ℕ) → ◌≡◌ {A = Option ℕ} None (Some n) → A
none_some n e = absurd (subst (λ (o : Option ℕ). is_none o) e tt)
  where
    is_none : Option ℕ → Type 0
    is_none None = Unit {0}
    is_none (Some x) = ⊥

pub frame_ends : (at : Place) (bytes : List ℕ) (last : ℕ) → last_at at bytes ≡ Some last → last < length bytes → EndsAt framing.Frames at bytes (last + 1) (last + 1)
frame_ends at bytes last e lt = subst (λ n. EndsAt framing.Frames at bytes n n) (sym (add-one last)) (by_place at bytes last e lt)
  where
    by_place : (at : Place) (bytes : List ℕ) (last : ℕ) → last_at at bytes ≡ Some last → last < length bytes → FrameEnds at bytes last
    by_place place.Start [] last e lt = absurd (omega arith)
    by_place place.Start (high ∷ []) last e lt = none_some last e
    by_place place.Start (high ∷ low ∷ bytes) last e lt =
        let size = high * 256 + low in
        let is : suc size ≡ last = omega (arith, some_of (1 + size) last e) in
        subst (FrameEnds place.Start (high ∷ low ∷ bytes)) is
        (ends_later place.Start (place.InHead high) high (low ∷ bytes) size refl (owing_ends (place.InHead high) low size bytes refl (omega (arith, is, lt))))
    by_place (place.InHead high) [] last e lt = absurd (omega arith)
    by_place (place.InHead high) (low ∷ bytes) last e lt =
        let size = high * 256 + low in
        let is : size ≡ last = some_of size last e in
        subst (FrameEnds (place.InHead high) (low ∷ bytes)) is (owing_ends (place.InHead high) low size bytes refl (omega (arith, is, lt)))
    by_place (place.InBody more) bytes last e lt =
        let is : more ≡ last = some_of more last e in
        subst (FrameEnds (place.InBody more) bytes) is (body_ends more bytes (omega (arith, is, lt)))

pub frame_leads : (at : Place) (bytes : List ℕ) (last : ℕ) → last_at at bytes ≡ Some last → length bytes ≤ last → Goes framing.Frames at bytes (place.InBody (last - length bytes))
frame_leads place.Start [] last e le = none_some last e
frame_leads place.Start (high ∷ []) last e le = none_some last e
frame_leads place.Start (high ∷ low ∷ bytes) last e le =
    let size = high * 256 + low in
    let is : suc size ≡ last = omega (arith, some_of (1 + size) last e) in
    let same : size - suc (length bytes) ≡ last - suc (suc (length bytes)) = omega (arith, is) in
    (place.InHead high, refl, subst (λ n. Goes framing.Frames (place.InHead high) (low ∷ bytes) (place.InBody n)) same (owing_leads (place.InHead high) low size bytes refl (omega (arith, is, le))))
frame_leads (place.InHead high) [] last e le = none_some last e
frame_leads (place.InHead high) (low ∷ bytes) last e le =
    let size = high * 256 + low in
    let is : size ≡ last = some_of size last e in
    subst (λ n. Goes framing.Frames (place.InHead high) (low ∷ bytes) (place.InBody (n - suc (length bytes)))) is (owing_leads (place.InHead high) low size bytes refl (omega (arith, is, le)))
frame_leads (place.InBody more) bytes last e le =
    let is : more ≡ last = some_of more last e in
    subst (λ n. Goes framing.Frames (place.InBody more) bytes (place.InBody (n - length bytes))) is (body_leads more bytes (omega (arith, is, le)))

pub head_leads : (at : Place) (bytes : List ℕ) → last_at at bytes ≡ None → Goes framing.Frames at bytes (in_head at bytes)
head_leads place.Start [] e = refl
head_leads place.Start (high ∷ []) e = (place.InHead high, refl, refl)
head_leads place.Start (high ∷ low ∷ bytes) e = none_some _ (sym e)
head_leads (place.InHead high) [] e = refl
head_leads (place.InHead high) (low ∷ bytes) e = none_some _ (sym e)
head_leads (place.InBody more) bytes e = none_some _ (sym e)
