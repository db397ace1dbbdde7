-- A whole frame is a line, and so is what is left of one.
use Rattle.std.proofs.Common.{◌≡◌, ◌≢◌, ℕ, ◌+◌, ◌*◌, ◌-◌, ◌<◌, List, [], ◌∷◌, ◌++◌, length, refl, sym, ap, ◌∙◌, subst, arith}
use Rattle.std.proofs.lemmas.List.{take_all, drop_all}
use Rattle.dc_engine.specs.declared.framing.Framing.TheVariants as framing
use Rattle.dc_engine.specs.declared.script.place.Place.TheVariants as place
use Rattle.dc_engine.specs.declared.script.place.Place.{Place}
use Rattle.dc_engine.specs.Lines.{kept, lines_of, ended_lines}
use Rattle.dc_engine.specs.Ends.{Goes, EndsAt}
use Rattle.dc_engine.specs.Blocks.{IsDivided}
use Rattle.dc_engine.proofs.bytes.Cutting.{frame_ends, frame_leads, head_leads}
use Rattle.dc_engine.proofs.bytes.Dividing.{divided_start, divided_piece, divided_end, divided-last, divided-ended}

-- all of these bytes are a line
whole : (frame : List ℕ) (n : ℕ) → n ≡ length frame → EndsAt framing.Frames place.Start frame n n → IsDivided framing.Frames frame (frame ∷ []) [] place.Start
whole frame n e h =
    let all : frame ≡ h.front ++ kept h.counts h.last = sym (take_all n frame (omega (arith, e))) ∙ h.line in
    let none : h.later ≡ [] = sym h.next ∙ drop_all n frame (omega (arith, e)) in
    let bytes : frame ≡ h.front ++ h.last ∷ [] = h.split ∙ ap (λ l. h.front ++ h.last ∷ l) none in
    subst (λ b. IsDivided framing.Frames b (frame ∷ []) [] place.Start) (sym bytes)
    (subst (λ l. IsDivided framing.Frames (h.front ++ h.last ∷ []) (l ∷ []) [] place.Start) (sym all)
    (divided_end framing.Frames h.front [] h.front h.behind h.last h.counts h.met (divided_piece framing.Frames [] [] [] h.front place.Start h.behind h.leads (divided_start framing.Frames))))

pub frame_first : (high low : ℕ) (body more : List ℕ) → length body ≡ high * 256 + low → lines_of framing.Frames ((high ∷ low ∷ body) ++ more) ≡ (high ∷ low ∷ body) ∷ lines_of framing.Frames more
frame_first high low body more e = (whole (high ∷ low ∷ body) (1 + (high * 256 + low) + 1) (omega (arith, e)) (frame_ends place.Start (high ∷ low ∷ body) (1 + (high * 256 + low)) refl (omega (arith, e)))).whole more

pub frame_ended : (high low : ℕ) (body more : List ℕ) → length body ≡ high * 256 + low → ended_lines framing.Frames ((high ∷ low ∷ body) ++ more) ≡ (high ∷ low ∷ body) ∷ ended_lines framing.Frames more
frame_ended high low body more e = (whole (high ∷ low ∷ body) (1 + (high * 256 + low) + 1) (omega (arith, e)) (frame_ends place.Start (high ∷ low ∷ body) (1 + (high * 256 + low)) refl (omega (arith, e)))).ended more

-- these bytes end no frame
left : (bytes : List ℕ) (to : Place) → bytes ≢ [] → Goes framing.Frames place.Start bytes to → (lines_of framing.Frames bytes ≡ bytes ∷ []) × (ended_lines framing.Frames bytes ≡ [])
left bytes to some h =
    let d : IsDivided framing.Frames bytes [] bytes to = divided_piece framing.Frames [] [] [] bytes place.Start to h (divided_start framing.Frames) in
    (divided-last framing.Frames bytes [] bytes to some d, divided-ended framing.Frames bytes [] bytes to d)

pub cons_some : {A : Type 0} (a : A) (l : List A) → a ∷ l ≢ []
cons_some {A = A} a l e = subst (λ m. is_cons m) e tt
  where
    is_cons : List A → Type 0
    is_cons [] = ⊥
    is_cons (x ∷ m) = Unit {0}

pub frame_rest : (high low : ℕ) (body : List ℕ) → length body < high * 256 + low → (lines_of framing.Frames (high ∷ low ∷ body) ≡ (high ∷ low ∷ body) ∷ []) × (ended_lines framing.Frames (high ∷ low ∷ body) ≡ [])
frame_rest high low body lt = left (high ∷ low ∷ body) (place.InBody (1 + (high * 256 + low) - length (high ∷ low ∷ body))) (cons_some high (low ∷ body)) (frame_leads place.Start (high ∷ low ∷ body) (1 + (high * 256 + low)) refl (omega (arith, lt)))

pub frame_head : (high : ℕ) → (lines_of framing.Frames (high ∷ []) ≡ (high ∷ []) ∷ []) × (ended_lines framing.Frames (high ∷ []) ≡ [])
frame_head high = left (high ∷ []) (place.InHead high) (cons_some high []) (head_leads place.Start (high ∷ []) refl)
