-- A stamp is above those that were seen, up to the last.
use Rattle.std.proofs.Common.{◌≡◌, ℕ, ◌+◌, ◌≤◌, ◌<◌, Bool, true, false, cond, ◌&&◌, List, [], ◌∷◌, Some, None, sym, ap, ◌∙◌, subst, inl, inr, ⊎_elim, arith}
use Rattle.std.specs.Prelude.{filter, min, ◌⊎◌, unwrap_or, is_some}
use Rattle.std.proofs.lemmas.Bool.{true≢false}
use Rattle.field_codec.specs.FormLaws.{and_true}
use Rattle.field_codec.specs.Steps.{by_length}
use Rattle.crdt_core.specs.declared.kind.Kind.{Kind}
use Rattle.crdt_core.specs.declared.kind.Kind.TheVariants.{RegisterLww}
use Rattle.crdt_core.specs.Kinds.{same_kind, same_path, kind_at}
use Rattle.crdt_core.specs.Seen.{Update, sees, is_assign}
use Rattle.crdt_core.specs.Stamps.{last_stamp, one_more, above_all, assigns_seen, stamp_due}
use Rattle.crdt_core.proofs.Members.{In}

picked : {A : Type 0} (p : A → Bool) (xs : List A) (x : A) → In x xs → p x ≡ true → In x (filter p xs)
picked p [] x i h = absurd i
picked {A} p (y ∷ ys) x i h = ⊎_elim
    (λ e. subst (λ b. In x (cond b (y ∷ filter p ys) (filter p ys))) (sym (ap p e ∙ h)) (inl e))
    (λ j. let rest = picked p ys x j h in elim (p y) as (λ b. In x (cond b (y ∷ filter p ys) (filter p ys))) [ true ↦ inr rest | false ↦ rest ])
    i

above_now : (now : ℕ) (vs : List Update) → now ≤ above_all now vs
above_now now [] = omega arith
above_now now (v ∷ vs) = omega (arith, above_now now vs)

above_each : (now : ℕ) (vs : List Update) (v : Update) (m : ℕ) → In v vs → v.stamp ≡ Some m → m + 1 ≤ above_all now vs
above_each now [] v m i e = absurd i
above_each now (w ∷ vs) v m i e = ⊎_elim
    (λ here. let one : one_more w.stamp ≡ m + 1 = ap (λ (x : Update). one_more x.stamp) here ∙ ap one_more e in omega (arith, one))
    (λ later. omega (arith, above_each now vs v m later e))
    i

-- a stamp that is due is the greater of what was seen, up to the last
due_is : (k : Kind) (us : List Update) (u : Update) (n : ℕ) → stamp_due k us u ≡ Some n → min last_stamp (above_all u.now (assigns_seen u us)) ≡ n
due_is k us u n h =
    let b = is_assign u.act && same_kind (kind_at k u.path) RegisterLww in
    let due = min last_stamp (above_all u.now (assigns_seen u us)) in
    elim b as (λ b. cond b (Some due) None ≡ Some n → due ≡ n) [
      | true ↦ λ e. ap (λ o. unwrap_or o 0) e
      | false ↦ λ e. absurd (true≢false (sym (ap is_some e)))
    ] h

capped : (last n x y : ℕ) → min last x ≡ n → y ≤ x → (y ≤ n) ⊎ (n ≡ last)
capped last n x y h le = by_length x last (λ small. inl (omega (arith, h, le, small))) (λ large. inr (omega (arith, h, large)))

pub above_seen : (k : Kind) (us : List Update) (u v : Update) (m n : ℕ) → stamp_due k us u ≡ Some n → In v us → sees u v.dot ≡ true → is_assign v.act ≡ true → same_path v.path u.path ≡ true → v.stamp ≡ Some m → (m < n) ⊎ (n ≡ last_stamp)
above_seen k us u v m n h i see act path stamp =
    let passes = and_true (sees u v.dot) (is_assign v.act && same_path v.path u.path) see (and_true (is_assign v.act) (same_path v.path u.path) act path) in
    let each = above_each u.now (assigns_seen u us) v m (picked _ us v i passes) stamp in
    ⊎_elim (λ le. inl (omega (arith, le))) (λ e. inr e) (capped last_stamp n (above_all u.now (assigns_seen u us)) (m + 1) (due_is k us u n h) each)

pub above_clock : (k : Kind) (us : List Update) (u : Update) (n : ℕ) → stamp_due k us u ≡ Some n → (u.now ≤ n) ⊎ (n ≡ last_stamp)
above_clock k us u n h = capped last_stamp n (above_all u.now (assigns_seen u us)) u.now (due_is k us u n h) (above_now u.now (assigns_seen u us))

pub at_last : (k : Kind) (us : List Update) (u : Update) (n : ℕ) → stamp_due k us u ≡ Some n → n ≤ last_stamp
at_last k us u n h = omega (arith, due_is k us u n h)
