-- What a crash inside a call may leave, a crash after it may leave too.
use Rattle.std.proofs.Common.{◌≡◌, ◌≢◌, ◌⊎◌, inl, inr, ⊎_elim, ℕ, ◌+◌, ◌<◌, ◌≤◌, min, Bool, true, false, ◌&&◌, ◌||◌, List, [], ◌∷◌, ◌++◌, length, take, set, refl, sym, ap, ◌∙◌, arith, length-take, length-append}
use Rattle.std.specs.Prelude.{nat_le, nat_lt}
use Rattle.std.proofs.lemmas.Bool.{false≢true}
use Rattle.std.proofs.lemmas.Bool.Decides.{nat_tests}
use Rattle.std.proofs.lemmas.List.{get_or-take, ext_get_or, get_or_append_left, get_or-set_other, length-set}
use Rattle.disk_core.specs.Images.{Content, Image, IsTorn, IsSettled, is_written, after_write, after_cut, after_sync}
use Rattle.disk_core.proofs.Torn.{outside, same_outside}

or_false : (a b : Bool) → (a || b) ≡ false → (a ≡ false) × (b ≡ false)
or_false true b h = absurd (false≢true (sym h))
or_false false b h = (refl, h)

apart : (at n i : ℕ) (ranges : List (ℕ × ℕ)) → is_written ((at, n) ∷ ranges) i ≡ false → (i < at) ⊎ (at + n ≤ i)
apart at n i ranges not = outside at n i (ap (λ (b : Bool). b || false) (or_false (nat_le at i && nat_lt i (at + n)) (is_written ranges i) not).0)

in_no_other : (at n i : ℕ) (ranges : List (ℕ × ℕ)) → is_written ((at, n) ∷ ranges) i ≡ false → is_written ranges i ≡ false
in_no_other at n i ranges not = (or_false (nat_le at i && nat_lt i (at + n)) (is_written ranges i) not).1

-- before any byte of a write stands there
pub before_write : (at : ℕ) (new : List ℕ) (content : Content) (image : List ℕ) → at ≤ length content.bytes → Image content image → Image (after_write at new content) image
before_write at new content image within left = record {
  no_shorter = left.no_shorter;
  no_longer = omega (arith, left.no_longer);
  stays = λ i below not. left.stays i below (in_no_other at (length new) i content.written not) ∙ sym (same_outside at i new content.bytes within (apart at (length new) i content.written not));
}

-- when some of its bytes stand there
pub amid_write : (at m : ℕ) (new : List ℕ) (content torn : Content) (image : List ℕ) → at ≤ length content.bytes → m ≤ length new → content.least ≤ length content.bytes → IsTorn at m content torn → Image torn image → Image (after_write at new content) image
amid_write at m new content torn image within less reads tore left = record {
  no_shorter = omega (arith, left.no_shorter, tore.least);
  no_longer = omega (arith, left.no_longer, tore.most, less);
  stays = λ i below not.
      let place = apart at (length new) i content.written not in
      let nearer : (i < at) ⊎ (at + m ≤ i) = ⊎_elim (λ under. inl under) (λ above. inr (omega (arith, above, less))) place in
      let not_torn : is_written ((at, m) ∷ content.written) i ≡ false = still_apart at m i content.written nearer (in_no_other at (length new) i content.written not) in
      left.stays i (omega (arith, below, tore.least)) (ap (λ (ranges : List (ℕ × ℕ)). is_written ranges i) tore.written ∙ not_torn)
      ∙ tore.stays i (omega (arith, below, reads)) (still_apart at m i [] nearer refl)
      ∙ sym (same_outside at i new content.bytes within place);
}
  where
    still_apart : (at n i : ℕ) (ranges : List (ℕ × ℕ)) → (i < at) ⊎ (at + n ≤ i) → is_written ranges i ≡ false → is_written ((at, n) ∷ ranges) i ≡ false
    still_apart at n i ranges place not = ap (λ (b : Bool). (nat_le at i && nat_lt i (at + n)) || b) not ∙ ⊎_elim (λ below. grind (arith, nat_tests)) (λ above. grind (arith, nat_tests)) place

-- before a cut
pub before_cut : (len : ℕ) (content : Content) (image : List ℕ) → Image content image → Image (after_cut len content) image
before_cut len content image left = record {
  no_shorter = omega (arith, left.no_shorter);
  no_longer = left.no_longer;
  stays = λ i below not. left.stays i (omega (arith, below)) not ∙ sym (get_or-take len content.bytes i 0 (omega (arith, below)));
}

-- a settled disk is left as it reads
pub only_settled : (content : Content) (image : List ℕ) → IsSettled content → Image content image → image ≡ content.bytes
only_settled content image settled left =
    let same : length image ≡ length content.bytes = omega (arith, settled.least, settled.most, left.no_shorter, left.no_longer) in
    ext_get_or 0 image content.bytes same (λ i inside. left.stays i (omega (arith, settled.least, same, inside)) (ap (λ (ranges : List (ℕ × ℕ)). is_written ranges i) settled.written))

pub synced : (content : Content) → IsSettled (after_sync content)
synced content = record { least = refl; most = refl; written = refl }

pub only_synced : (content : Content) (image : List ℕ) → Image (after_sync content) image → image ≡ content.bytes
only_synced content image left = only_settled (after_sync content) image (synced content) left

-- any byte may stand in a written range and past the least length
pub any_byte : (content : Content) (image : List ℕ) (i byte : ℕ) → (is_written content.written i ≡ true) ⊎ (content.least ≤ i) → Image content image → Image content (set image i byte)
any_byte content image i byte place left = record {
  no_shorter = omega (arith, left.no_shorter, length-set image i byte);
  no_longer = omega (arith, left.no_longer, length-set image i byte);
  stays = λ j below not. get_or-set_other image i j byte 0 (elsewhere j below not) ∙ left.stays j below not;
}
  where
    elsewhere : (j : ℕ) → j < content.least → is_written content.written j ≡ false → j ≢ i
    elsewhere j below not is = ⊎_elim (λ written. false≢true (sym not ∙ ap (is_written content.written) is ∙ written)) (λ past. omega (arith, is, below, past)) place

-- any length between the two
pub any_shorter : (content : Content) (image : List ℕ) (len : ℕ) → content.least ≤ len → Image content image → Image content (take len image)
any_shorter content image len reach left =
    let long : length (take len image) ≡ min len (length image) = length-take len image in
    record {
      no_shorter = omega (arith, left.no_shorter, long, reach);
      no_longer = omega (arith, left.no_longer, long);
      stays = λ i below not. get_or-take len image i 0 (omega (arith, below, reach)) ∙ left.stays i below not;
    }

pub any_longer : (content : Content) (image more : List ℕ) → length (image ++ more) ≤ content.most → Image content image → Image content (image ++ more)
any_longer content image more room left = record {
  no_shorter = omega (arith, left.no_shorter, length-append image more);
  no_longer = room;
  stays = λ i below not. get_or_append_left image more 0 i (omega (arith, below, left.no_shorter)) ∙ left.stays i below not;
}
