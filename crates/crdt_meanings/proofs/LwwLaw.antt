-- The register that the last writer wins keeps the law of a kind.
use Rattle.std.proofs.Common.{◌≡◌, ℕ, ◌≤◌, ◌<◌, ◌+◌, Bool, true, false, cond, ◌&&◌, List, [], ◌∷◌, ◌++◌, Option, Some, None, refl, sym, ap, ◌∙◌, subst, arith}
use Rattle.std.specs.Prelude.{filter, max, min, unwrap_or}
use Rattle.std.specs.declared.cmp.Ordering.{Ordering}
use Rattle.std.specs.declared.cmp.Ordering.TheVariants.{Less, Equal, Greater}
use Rattle.std.specs.Ordering.{nat_cmp, ordering_then, ordering_reverse, is_lt}
use Rattle.std.specs.Cmp.{IsTotalOrder, nat_cmp_total}
use Rattle.std.specs.FinMap.{IsAntisymmetric, nat_cmp-IsAntisymmetric}
use Rattle.std.proofs.lemmas.Cmp.{on_total, then_total}
use Rattle.std.proofs.lemmas.Map.Lookups.{exact_pairs, exact_unsigned}
use Rattle.std.proofs.lemmas.Bool.Decides.{nat_tests}
use Rattle.std.proofs.lemmas.Bool.{true≢false, false≢true, and_from}
use Rattle.site_vector.specs.declared.ids.Dot.{Dot}
use Rattle.site_vector.specs.Order.{dot_cmp, dot_cmp_total, dot_cmp_exact}
use Rattle.crdt_core.specs.declared.kind.Kind.{Kind}
use Rattle.crdt_core.specs.declared.kind.Kind.TheVariants.{RegisterLww}
use Rattle.crdt_core.specs.declared.object.Field.{Field}
use Rattle.crdt_core.specs.declared.operation.Act.{Act}
use Rattle.crdt_core.specs.declared.operation.Act.TheVariants as act
use Rattle.crdt_core.specs.Kinds.{same_kind, same_path, kind_at, reads_state}
use Rattle.crdt_core.specs.Same.{Same}
use Rattle.crdt_core.specs.Seen.{Update, sees, is_assign}
use Rattle.crdt_core.specs.Stamps.{last_stamp, one_more, above_all, assigns_seen, stamp_due}
use Rattle.crdt_core.specs.History.{IsStamped, folded, effects, effect_after, state_after}
use Rattle.crdt_core.specs.Law.{KeepsSteps, KeepsLaw, made_by, all_fit}
use Rattle.crdt_core.specs.InMaps.{KeepsInMaps}
use Rattle.crdt_core.specs.Resets.{ResetsWhatIsLeft}
use Rattle.crdt_core.proofs.Blank.{never_reset}
use Rattle.crdt_core.proofs.ResetsLaws.{never_resets}
use Rattle.crdt_core.specs.KindCodes.{same_kind_is}
use Rattle.crdt_core.specs.Leaves.{IsLeaf, first_fits, rest_fits}
use Rattle.crdt_core.proofs.Confluence.{confluence}
use Rattle.crdt_core.specs.Texts.{text_cmp, text_cmp_total, text_cmp_exact}
use Rattle.crdt_meanings.specs.Later.{stamped_cmp, greater, later}
use Rattle.crdt_meanings.specs.RegisterMeaning.{text_of, assigned, last_assign, word_of, lww_meaning}
use Rattle.crdt_meanings.specs.RegisterLww.{lww_has, lww_step, above, lww_made, lww_stamp, unassigned}
use Rattle.crdt_meanings.specs.Without.{no_dot}
use Rattle.crdt_meanings.specs.declared.registers.Stamped.{Stamped}
use Rattle.crdt_meanings.specs.declared.registers.Assigned.{Assigned}

stamped_total : IsTotalOrder stamped_cmp
stamped_total = then_total (on_total (λ (a : Stamped). a.stamp) nat_cmp_total) (then_total (on_total (λ (a : Stamped). a.dot) dot_cmp_total) (on_total (λ (a : Stamped). a.text) text_cmp_total))

stamped_exact : IsAntisymmetric stamped_cmp
stamped_exact a b h =
    let rest_cmp : Dot × List ℕ → Dot × List ℕ → Ordering = λ x y. ordering_then (dot_cmp x.0 y.0) (text_cmp x.1 y.1) in
    let exact_rest : IsAntisymmetric rest_cmp = exact_pairs dot_cmp text_cmp dot_cmp_exact text_cmp_exact in
    ap (λ (x : ℕ × (Dot × List ℕ)). record { stamp = x.0; dot = x.1.0; text = x.1.1 }) (exact_pairs nat_cmp rest_cmp exact_unsigned exact_rest (a.stamp, (a.dot, a.text)) (b.stamp, (b.dot, b.text)) h)

-- the greater of two is the same in either order
module _ {A : Type 0} {R : A → A → Ordering} (o : IsTotalOrder R) (same : IsAntisymmetric R) where
  abbrev most : A → A → A
  most a b = cond (is_lt (R a b)) b a

  flipped : (a b : A) (r : Ordering) → R a b ≡ r → R b a ≡ ordering_reverse r
  flipped a b r h = o.antisymm b a ∙ ap ordering_reverse h

  most_comm : (a b : A) → most a b ≡ most b a
  most_comm a b = elim (R a b) as (λ r. R a b ≡ r → cond (is_lt r) b a ≡ most b a) [
    | Less ↦ λ h. sym (ap (λ r. cond (is_lt r) a b) (flipped a b Less h))
    | Equal ↦ λ h. let e = same a b h in e ∙ sym (ap (λ r. cond (is_lt r) a b) (flipped a b Equal h))
    | Greater ↦ λ h. sym (ap (λ r. cond (is_lt r) a b) (flipped a b Greater h))
  ] refl

  -- below what isn't below
  less_than : (b s a : A) → R b s ≡ Less → is_lt (R a s) ≡ false → R b a ≡ Less
  less_than b s a h k = elim (R a s) as (λ r. R a s ≡ r → is_lt r ≡ false → R b a ≡ Less) [
    | Less ↦ λ e f. absurd (true≢false f)
    | Equal ↦ λ e f. ap (R b) (same a s e) ∙ h
    | Greater ↦ λ e f. o.trans b s a h (flipped a s Greater e)
  ] refl k

  is_less : (r : Ordering) → is_lt r ≡ true → r ≡ Less
  is_less Less h = refl
  is_less Equal h = absurd (false≢true h)
  is_less Greater h = absurd (false≢true h)

  most_swap : (a b s : A) → most a (most b s) ≡ most b (most a s)
  most_swap a b s =
      elim (is_lt (R b s)) as (λ q. is_lt (R b s) ≡ q → most a (cond q s b) ≡ most b (most a s)) [
        | true ↦ λ q. elim (is_lt (R a s)) as (λ r. is_lt (R a s) ≡ r → cond r s a ≡ most b (cond r s a)) [
          | true ↦ λ r. sym (ap (λ c. cond c s b) q)
          | false ↦ λ r. sym (ap (λ c. cond (is_lt c) a b) (less_than b s a (is_less (R b s) q) r))
        ] refl
        | false ↦ λ q. elim (is_lt (R a s)) as (λ r. is_lt (R a s) ≡ r → most a b ≡ most b (cond r s a)) [
          | true ↦ λ r. ap (λ c. cond (is_lt c) b a) (less_than a s b (is_less (R a s) r) q) ∙ sym (ap (λ c. cond c s b) q)
          | false ↦ λ r. most_comm a b
        ] refl
      ] refl

later_comm : (x y : Option Stamped) → later x y ≡ later y x
later_comm None None = refl
later_comm None (Some y) = refl
later_comm (Some x) None = refl
later_comm (Some x) (Some y) = ap Some (most_comm stamped_total stamped_exact x y)

later_swap : (x y s : Option Stamped) → later x (later y s) ≡ later y (later x s)
later_swap None y s = refl
later_swap (Some x) None s = refl
later_swap (Some x) (Some y) None = ap Some (most_comm stamped_total stamped_exact x y)
later_swap (Some x) (Some y) (Some s) = ap Some (most_swap stamped_total stamped_exact x y s)

lww_steps : (k : Kind) → KeepsSteps None lww_step (made_by lww_made k) no_dot no_dot
lww_steps k = record {
  swaps = λ s a b d e apart na nb. later_swap (Some (record { stamp = b.stamp; dot = e; text = b.text })) (Some (record { stamp = a.stamp; dot = d; text = a.text })) s;
  named = λ s u d h. absurd (false≢true h);
  held = λ s d e x h. absurd (false≢true h);
  none_held = λ x. refl;
}

abbrev deep : Kind → List Field → Bool
deep k p = false

-- an assign as its effect and as its update show it
one_assign : (a : Act) → is_assign a ≡ true → (m n : ℕ) (d : Dot) → m ≡ n → Some (record { stamp = m; dot = d; text = text_of a }) ≡ assigned n d a
one_assign (act.Assign x) h m n d e = ap (λ k. Some (record { stamp = k; dot = d; text = x })) e
one_assign _ h m n d e = absurd (false≢true h)

leaf : IsLeaf RegisterLww
leaf l = refl

abbrev shown : Update → Option Stamped
shown u = assigned (unwrap_or u.stamp 0) u.dot u.act

abbrev made : Option Stamped → Update → Assigned
made s u = made_by lww_made RegisterLww s u

-- the fold of a part of the effects is the last assign of that part
folded_part : (p : Dot → Bool) (us : List Update) → all_fit deep RegisterLww us ≡ true → IsStamped None lww_step made lww_stamp us → folded None lww_step (filter (λ e. p e.0) (effects None lww_step made us)) ≡ last_assign (filter (λ u. p u.dot) us)
folded_part p [] fit st = refl
folded_part p (u ∷ us) fit st =
    let rest = folded_part p us (rest_fits deep RegisterLww u us fit) st.1 in
    let e = effect_after None lww_step made us u in
    let one = one_assign u.act (first_fits deep RegisterLww leaf u us fit).1 e.stamp (unwrap_or u.stamp 0) u.dot (sym (ap (λ o. unwrap_or o 0) st.0)) in
    elim (p u.dot) as (λ b. folded None lww_step (cond b ((u.dot, e) ∷ filter (λ e. p e.0) (effects None lww_step made us)) (filter (λ e. p e.0) (effects None lww_step made us))) ≡ last_assign (cond b (u ∷ filter (λ u. p u.dot) us) (filter (λ u. p u.dot) us))) [
      | true ↦ λ i. later (one i) (rest i)
      | false ↦ rest
    ]

all_kept : {A : Type 0} (xs : List A) → filter (λ _. true) xs ≡ xs
all_kept [] = refl
all_kept (x ∷ xs) = ap (λ ys. x ∷ ys) (all_kept xs)

lww_means : (us : List Update) → all_fit deep RegisterLww us ≡ true → IsStamped None lww_step made lww_stamp us → word_of (state_after None lww_step made us) ≡ lww_meaning RegisterLww us
lww_means us fit st = ap word_of (ap (folded None lww_step) (sym (all_kept (effects None lww_step made us))) ∙ folded_part (λ _. true) us fit st ∙ ap last_assign (all_kept us))

later_at : (front back : List Update) (u : Update) → last_assign (front ++ u ∷ back) ≡ later (shown u) (last_assign (front ++ back))
later_at [] back u = refl
later_at (v ∷ vs) back u = ap (later (shown v)) (later_at vs back u) ∙ later_swap (shown v) (shown u) (last_assign (vs ++ back))

last_same : (us vs : List Update) → Same us vs → last_assign us ≡ last_assign vs
last_same [] vs s = ap last_assign (sym s)
last_same (u ∷ us) vs s = ap (later (shown u)) (last_same us (s.0 ++ s.1) s.3) ∙ sym (ap last_assign s.2 ∙ later_at s.0 s.1 u)

nat_less : (m n : ℕ) → nat_cmp m n ≡ Less → m < n
nat_less m n h = grind (arith, nat_tests)

nat_more : (m n : ℕ) → nat_cmp m n ≡ Greater → n < m
nat_more m n h = grind (arith, nat_tests)

by_stamp : (m n : ℕ) (r : Ordering) → (is_lt (ordering_then (nat_cmp m n) r) ≡ true → m ≤ n) × (is_lt (ordering_then (nat_cmp m n) r) ≡ false → n ≤ m)
by_stamp m n r = elim (nat_cmp m n) as (λ c. nat_cmp m n ≡ c → (is_lt (ordering_then c r) ≡ true → m ≤ n) × (is_lt (ordering_then c r) ≡ false → n ≤ m)) [
  | Less ↦ λ h. ((λ _. omega (arith, nat_less m n h)), (λ f. absurd (true≢false f)))
  | Equal ↦ λ h. let e : m ≡ n = nat_cmp-IsAntisymmetric m n h in ((λ _. omega arith), (λ _. omega arith))
  | Greater ↦ λ h. ((λ f. absurd (false≢true f)), (λ _. omega (arith, nat_more m n h)))
] refl

above_greater : (now : ℕ) (a b : Stamped) → max ((greater a b).stamp + 1) now ≡ max (a.stamp + 1) (max (b.stamp + 1) now)
above_greater now a b =
    let two = by_stamp a.stamp b.stamp (ordering_then (dot_cmp a.dot b.dot) (text_cmp a.text b.text)) in
    elim (is_lt (stamped_cmp a b)) as (λ c. is_lt (stamped_cmp a b) ≡ c → max ((cond c b a).stamp + 1) now ≡ max (a.stamp + 1) (max (b.stamp + 1) now)) [
      | true ↦ λ h. let le : a.stamp ≤ b.stamp = two.0 h in omega arith
      | false ↦ λ h. let le : b.stamp ≤ a.stamp = two.1 h in omega arith
    ] refl

above_later : (now n : ℕ) (d : Dot) (x : List ℕ) (w : Option Stamped) → above now (later (Some (record { stamp = n; dot = d; text = x })) w) ≡ max (n + 1) (above now w)
above_later now n d x None = refl
above_later now n d x (Some b) = above_greater now (record { stamp = n; dot = d; text = x }) b

above_more : (now : ℕ) (a : Act) → is_assign a ≡ true → (d : Dot) (st : Option ℕ) (n : ℕ) → st ≡ Some n → (w : Option Stamped) → above now (later (assigned (unwrap_or st 0) d a) w) ≡ max (one_more st) (above now w)
above_more now (act.Assign x) h d st n e w = ap (λ o. above now (later (Some (record { stamp = unwrap_or o 0; dot = d; text = x })) w)) e ∙ above_later now n d x w ∙ sym (ap (λ o. max (one_more o) (above now w)) e)
above_more now _ h d st n e w = absurd (false≢true h)

above_part : (now : ℕ) (p : Dot → Bool) (path : List Field) → path ≡ [] → (us : List Update) → all_fit deep RegisterLww us ≡ true → IsStamped None lww_step made lww_stamp us
    → above now (last_assign (filter (λ v. p v.dot) us)) ≡ above_all now (filter (λ v. p v.dot && (is_assign v.act && same_path v.path path)) us)
above_part now p path none [] fit st = refl
above_part now p path none (u ∷ us) fit st =
    let rest = above_part now p path none us (rest_fits deep RegisterLww u us fit) st.1 in
    let first = first_fits deep RegisterLww leaf u us fit in
    let here : (is_assign u.act && same_path u.path path) ≡ true = and_from _ _ first.1 (λ i. same_path (first.0 i) (none i)) in
    let e = effect_after None lww_step made us u in
    elim (p u.dot) as (λ b. above now (last_assign (cond b (u ∷ filter (λ v. p v.dot) us) (filter (λ v. p v.dot) us))) ≡ above_all now (cond (b && (is_assign u.act && same_path u.path path)) (u ∷ filter (λ v. p v.dot && (is_assign v.act && same_path v.path path)) us) (filter (λ v. p v.dot && (is_assign v.act && same_path v.path path)) us))) [
      | true ↦ above_more now u.act first.1 u.dot u.stamp e.stamp st.0 (last_assign (filter (λ v. p v.dot) us)) ∙ ap (max (one_more u.stamp)) rest
          ∙ sym (ap (λ b. above_all now (cond b (u ∷ filter (λ v. p v.dot && (is_assign v.act && same_path v.path path)) us) (filter (λ v. p v.dot && (is_assign v.act && same_path v.path path)) us))) here)
      | false ↦ rest
    ]

lww_stamps : (u : Update) (us : List Update) → all_fit deep RegisterLww (u ∷ us) ≡ true → IsStamped None lww_step made lww_stamp us → lww_stamp (effect_after None lww_step made us u) ≡ stamp_due RegisterLww us u
lww_stamps u us fit st =
    let first = first_fits deep RegisterLww leaf u us fit in
    let rest = rest_fits deep RegisterLww u us fit in
    let due : (is_assign u.act && same_kind (kind_at RegisterLww u.path) RegisterLww) ≡ true = and_from _ _ first.1 (ap (λ p. same_kind (kind_at RegisterLww p) RegisterLww) first.0) in
    ap (λ n. Some (min last_stamp n)) (ap (above u.now) (folded_part (sees u) us rest st) ∙ above_part u.now (sees u) u.path first.0 us rest st)
    ∙ sym (ap (λ b. cond b (Some (min last_stamp (above_all u.now (assigns_seen u us)))) None) due)

pub lww_law : KeepsLaw lww_has deep (λ k. None) lww_step lww_made word_of lww_stamp lww_meaning no_dot no_dot
lww_law = record {
  means = λ k us has h fit st. subst (λ l. all_fit deep l us ≡ true → IsStamped None lww_step (made_by lww_made l) lww_stamp us → word_of (state_after None lww_step (made_by lww_made l) us) ≡ lww_meaning l us) (sym (same_kind_is k RegisterLww has)) (lww_means us) fit st;
  stamps = λ k u us has h fit st. subst (λ l. all_fit deep l (u ∷ us) ≡ true → IsStamped None lww_step (made_by lww_made l) lww_stamp us → lww_stamp (effect_after None lww_step (made_by lww_made l) us u) ≡ stamp_due l us u) (sym (same_kind_is k RegisterLww has)) (lww_stamps u us) fit st;
  confluent = λ k us vs has. confluence None lww_step lww_made k no_dot no_dot (lww_steps k) us vs;
  orderless = λ k us vs has s. ap word_of (last_same us vs s);
  unread = λ k s t p a n has r. absurd (true≢false (sym (ap reads_state (same_kind_is k RegisterLww has)) ∙ r));
  steps = λ k has. lww_steps k;
  nameable = λ k us d has fit h. absurd (false≢true h);
}

pub lww_in_maps : KeepsInMaps lww_has deep (λ k. None) lww_step lww_made unassigned
lww_in_maps = record {
  first_blank = λ k has. refl;
  undoes_none = λ k s t d n has resets blank. absurd (true≢false (never_reset k RegisterLww has refl resets));
  shallow = λ k. refl;
  flat = λ k p has out. refl;
}

pub lww_resets : ResetsWhatIsLeft lww_has deep (λ k. None) lww_step lww_made unassigned no_dot
lww_resets = never_resets RegisterLww refl
