-- A value as it is printed is one word.
use Rattle.std.proofs.Common.{◌≡◌, ℕ, true, false, List, [], ◌∷◌, ◌++◌, map, fold, flat_map, codes, Ordering, Less, Equal, Greater, refl, sym, subst}
use Rattle.std.specs.Prelude.{⊤}
use Rattle.std.specs.BTreeMap.{insert_entry}
use Rattle.std.specs.Cmp.Lexicographic.{slice_cmp}
use Rattle.std.specs.List.{join_by}
use Rattle.std.specs.Ordering.{nat_cmp, match_ordering}
use Rattle.json.specs.Print.{quoted}
use Rattle.crdt_core.specs.declared.object.Field.{Field}
use Rattle.crdt_core.specs.declared.value.Value.{Value, map-Value}
use Rattle.crdt_core.specs.declared.value.Value.TheFolds.{ind-Value, fold-roll-Value}
use Rattle.crdt_core.specs.declared.value.Value.TheOpen.{Value-F}
use Rattle.script_text.specs.Split.{is_some_bytes}
use Rattle.reply_text.specs.Values.{value_text, value_step, member_name, members, member_text, array_text, object_text}
use Rattle.read_back.proofs.Cutting.{IsUncut, plain_uncut, uncut_both, quoted_uncut}
use Rattle.read_back.proofs.Numerals.{signed_uncut, signed_some}

-- what can stand alone
record IsShown (w : List ℕ) : Type 0 where
  uncut : IsUncut w
  some : is_some_bytes w ≡ true

-- ---- arrays

quoted_more : (ws : List (List ℕ)) → IsUncut (flat_map (λ w. codes "," ++ quoted w) ws)
quoted_more [] = plain_uncut [] refl
quoted_more (w ∷ ws) = uncut_both (codes "," ++ quoted w) _ (uncut_both (codes ",") (quoted w) (plain_uncut (codes ",") refl) (quoted_uncut w)) (quoted_more ws)

quoted_all : (ws : List (List ℕ)) → IsUncut (join_by quoted (codes ",") ws)
quoted_all [] = plain_uncut [] refl
quoted_all (w ∷ ws) = uncut_both (quoted w) _ (quoted_uncut w) (quoted_more ws)

array : (ws : List (List ℕ)) → IsUncut (array_text ws)
array ws =
    uncut_both (codes "[" ++ join_by quoted (codes ",") ws) (codes "]")
    (uncut_both (codes "[") (join_by quoted (codes ",") ws) (plain_uncut (codes "[") refl) (quoted_all ws)) (plain_uncut (codes "]") refl)

-- ---- maps

abbrev AreUncut : List (List ℕ × List ℕ) → Type 0
AreUncut [] = ⊤
AreUncut (m ∷ ms) = IsUncut m.1 × AreUncut ms

member : (m : List ℕ × List ℕ) → IsUncut m.1 → IsUncut (member_text m)
member m h = uncut_both (quoted m.0 ++ codes ":") m.1 (uncut_both (quoted m.0) (codes ":") (quoted_uncut m.0) (plain_uncut (codes ":") refl)) h

members_more : (ms : List (List ℕ × List ℕ)) → AreUncut ms → IsUncut (flat_map (λ m. codes "," ++ member_text m) ms)
members_more [] h = plain_uncut [] refl
members_more (m ∷ ms) h = uncut_both (codes "," ++ member_text m) _ (uncut_both (codes ",") (member_text m) (plain_uncut (codes ",") refl) (member m h.0)) (members_more ms h.1)

members_all : (ms : List (List ℕ × List ℕ)) → AreUncut ms → IsUncut (join_by member_text (codes ",") ms)
members_all [] h = plain_uncut [] refl
members_all (m ∷ ms) h = uncut_both (member_text m) _ (member m h.0) (members_more ms h.1)

object : (ms : List (List ℕ × List ℕ)) → AreUncut ms → IsUncut (object_text ms)
object ms h =
    uncut_both (codes "{" ++ join_by member_text (codes ",") ms) (codes "}")
    (uncut_both (codes "{") (join_by member_text (codes ",") ms) (plain_uncut (codes "{") refl) (members_all ms h)) (plain_uncut (codes "}") refl)

one_of : (o : Ordering) (a b c : List (List ℕ × List ℕ)) → AreUncut a → AreUncut b → AreUncut c → AreUncut (match_ordering o a b c)
one_of Less a b c h k l = h
one_of Equal a b c h k l = k
one_of Greater a b c h k l = l

inserted : (ms : List (List ℕ × List ℕ)) (name w : List ℕ) → AreUncut ms → IsUncut w → AreUncut (insert_entry (slice_cmp nat_cmp) ms name w)
inserted [] name w h k = (k, tt)
inserted (m ∷ ms) name w h k = one_of (slice_cmp nat_cmp name m.0) _ _ _ (k, h) (k, h.1) (h.0, inserted ms name w h.1 k)

abbrev AllShown : List (Field × List ℕ) → Type 0
AllShown [] = ⊤
AllShown (f ∷ fs) = IsUncut f.1 × AllShown fs

gathered : (ms : List (List ℕ × List ℕ)) (fs : List (Field × List ℕ)) → AreUncut ms → AllShown fs → AreUncut (fold (λ ms f. insert_entry (slice_cmp nat_cmp) ms (member_name f.0) f.1) ms fs)
gathered ms [] h k = h
gathered ms (f ∷ fs) h k = gathered (insert_entry (slice_cmp nat_cmp) ms (member_name f.0) f.1) fs (inserted ms (member_name f.0) f.1 h k.0) k.1

-- ---- values

abbrev Inside : Type 0
Inside = (v : Value) × IsShown (value_text v)

abbrev values_in : List (Field × Inside) → List (Field × Value)
values_in fs = map {A = Field × Inside} (λ f. (f.0, f.1.0)) fs

abbrev texts_in : List (Field × Value) → List (Field × List ℕ)
texts_in fs = map {A = Field × Value} (λ f. (f.0, value_text f.1)) fs

all : (fs : List (Field × Inside)) → AllShown (texts_in (values_in fs))
all [] = tt
all (f ∷ fs) = (f.1.1.uncut, all fs)

-- one level, with a proof beside each value inside
level : (y : Value-F Inside) → IsShown (value_step (map-Value Value (List ℕ) value_text (map-Value Inside Value (λ e. e.0) y)))
level (Value-F.Int n) = record { uncut = signed_uncut n; some = signed_some n }
level (Value-F.Flag true) = record { uncut = plain_uncut (codes "true") refl; some = refl }
level (Value-F.Flag false) = record { uncut = plain_uncut (codes "false") refl; some = refl }
level (Value-F.Word w) = record { uncut = quoted_uncut w; some = refl }
level (Value-F.Words ws) = record { uncut = array ws; some = refl }
level (Value-F.Fields fs) = record { uncut = object (members (texts_in (values_in fs))) (gathered [] _ tt (all fs)); some = refl }

shown : (v : Value) → IsShown (value_text v)
shown = ind-Value (λ v. IsShown (value_text v)) (λ x y is.
    subst IsShown (sym (fold-roll-Value (List ℕ) value_step x)) (subst (λ z. IsShown (value_step (map-Value Value (List ℕ) value_text z))) is (level y)))

pub value_uncut : (v : Value) → IsUncut (value_text v)
value_uncut v = (shown v).uncut

pub value_some : (v : Value) → is_some_bytes (value_text v) ≡ true
value_some v = (shown v).some
