-- The vectors that were heard, their widths, and one of them joined.
use Rattle.std.proofs.Common.{◌≡◌, ℕ, suc, zero, ◌-◌, ◌<◌, ◌≤◌, List, [], ◌∷◌, length, take, replicate, get_or, set, refl, sym, ap, ◌∙◌, subst, arith}
use Rattle.std.proofs.Math.Seq.{take-set-lt}
use Rattle.std.proofs.lemmas.List.{length-take-le, length-set, length-replicate, take-replicate, get_or-take, get_or_default}
use Rattle.site_vector.specs.Vector.{join}
use Rattle.site_vector.specs.Known.{vector_of}
use Rattle.site_vector.specs.VectorLaws.{length_join}
use Rattle.stable_gossip.specs.Gossip.{Gossip, AreWide, IsGossip}
use Rattle.stable_gossip.specs.Layout.{IsLaidOut}

pub wide_replicate : (n k : ℕ) (v : List ℕ) → length v ≡ n → AreWide n (replicate k v)
wide_replicate n zero v e = tt
wide_replicate n (suc k) v e = (e, wide_replicate n k v e)

pub wide_take : (n k : ℕ) (vs : List (List ℕ)) → AreWide n vs → AreWide n (take k vs)
wide_take n zero vs h = tt
wide_take n (suc k) [] h = tt
wide_take n (suc k) (v ∷ vs) h = (h.0, wide_take n k vs h.1)

pub wide_set : (n k : ℕ) (vs : List (List ℕ)) (v : List ℕ) → AreWide n vs → length v ≡ n → AreWide n (set vs k v)
wide_set n k [] v h e = tt
wide_set n zero (w ∷ vs) v h e = (e, h.1)
wide_set n (suc k) (w ∷ vs) v h e = (h.0, wide_set n k vs v h.1 e)

pub wide_at : (n k : ℕ) (vs : List (List ℕ)) (d : List ℕ) → AreWide n vs → k < length vs → length (get_or vs k d) ≡ n
wide_at n k [] d h l = absurd (omega arith)
wide_at n zero (v ∷ vs) d h l = h.0
wide_at n (suc k) (v ∷ vs) d h l = wide_at n k vs d h.1 (omega arith)

pub width_at : (n k : ℕ) (vs : List (List ℕ)) (x : List ℕ) → AreWide n vs → k < length vs → x ≡ get_or vs k x → length x ≡ n
width_at n k vs x h l e = ap length e ∙ wide_at n k vs x h l

-- what lies in the array is what contracts see
pub is_gossip : (sites parts : ℕ) (heard : List (List ℕ)) → IsLaidOut sites parts heard → IsGossip (record { sites = sites; parts = parts; heard = take parts heard })
is_gossip sites parts heard h = record {
  some_site = h.some_site;
  most_sites = h.most_sites;
  some_part = h.some_part;
  most_parts = h.most_parts;
  each = length-take-le parts heard (omega (arith, h.most_parts, h.whole));
  wide = wide_take sites parts heard h.wide;
}

-- ---- one vector joined

pub laid_out_set : (g : Gossip) (sites parts part : ℕ) (heard : List (List ℕ)) (x y b : List ℕ) → record { sites = sites; parts = parts; heard = take parts heard } ≡ g → IsLaidOut sites parts heard → 1 ≤ part → part ≤ g.parts → y ≡ join (get_or heard (part - 1) x) b → length b ≡ g.sites → IsLaidOut sites parts (set heard (part - 1) y)
laid_out_set g sites parts part heard x y b v h from to j w =
    let same_parts : parts ≡ g.parts = ap (λ (y : Gossip). y.parts) v in
    let same_sites : sites ≡ g.sites = ap (λ (y : Gossip). y.sites) v in
    let below : part - 1 < parts = omega (arith, from, to, same_parts) in
    subst (λ (y : List ℕ). IsLaidOut sites parts (set heard (part - 1) y)) (sym j) (laid_out_join sites parts (part - 1) heard x b h below (w ∙ sym same_sites))
  where
    laid_out_join : (sites parts k : ℕ) (heard : List (List ℕ)) (x b : List ℕ) → IsLaidOut sites parts heard → k < parts → length b ≡ sites → IsLaidOut sites parts (set heard k (join (get_or heard k x) b))
    laid_out_join sites parts k heard x b h l w = record {
      some_site = h.some_site;
      most_sites = h.most_sites;
      some_part = h.some_part;
      most_parts = h.most_parts;
      whole = length-set heard k (join (get_or heard k x) b) ∙ h.whole;
      wide =
          let long : length (get_or heard k x) ≡ sites = wide_at sites k heard x h.wide (omega (arith, l, h.most_parts, h.whole)) in
          wide_set sites k heard (join (get_or heard k x) b) h.wide (length_join (get_or heard k x) b (long ∙ sym w) ∙ long);
    }

pub join_width : (g : Gossip) (sites parts part : ℕ) (heard : List (List ℕ)) (x b : List ℕ) → record { sites = sites; parts = parts; heard = take parts heard } ≡ g → IsLaidOut sites parts heard → 1 ≤ part → part ≤ g.parts → length b ≡ g.sites → length (get_or heard (part - 1) x) ≡ length b
join_width g sites parts part heard x b v h from to w = wide_at sites (part - 1) heard x h.wide (omega (arith, from, to, ap (λ (y : Gossip). y.parts) v, h.most_parts, h.whole)) ∙ (ap (λ (y : Gossip). y.sites) v ∙ sym w)

same_element : (k parts : ℕ) (heard : List (List ℕ)) (x : List ℕ) → k < parts → k < length heard → get_or heard k x ≡ get_or (take parts heard) k []
same_element k parts heard x l m = get_or_default heard k x [] m ∙ sym (get_or-take parts heard k [] l)

pub heard_set : (g : Gossip) (sites parts part : ℕ) (heard : List (List ℕ)) (x y b : List ℕ) → record { sites = sites; parts = parts; heard = take parts heard } ≡ g → IsLaidOut sites parts heard → 1 ≤ part → part ≤ g.parts → y ≡ join (get_or heard (part - 1) x) b → record { sites = sites; parts = parts; heard = take parts (set heard (part - 1) y) } ≡ record g { heard = set g.heard (part - 1) (join (vector_of g.heard part) b) }
heard_set g sites parts part heard x joined b v h from to j =
    let P : Gossip → Type 0 = λ y. part ≤ y.parts → record { sites = sites; parts = parts; heard = take parts (set heard (part - 1) joined) } ≡ record y { heard = set y.heard (part - 1) (join (vector_of y.heard part) b) } in
    subst P v (λ to.
    let below : part - 1 < parts = omega (arith, from, to) in
    let inside : part - 1 < length heard = omega (arith, below, h.whole, h.most_parts) in
    ap (λ l. record { sites = sites; parts = parts; heard = l }) (take-set-lt parts heard (part - 1) joined below ∙ ap (set (take parts heard) (part - 1)) (j ∙ ap (λ y. join y b) (same_element (part - 1) parts heard x below inside)))) to

-- ---- nothing heard

pub laid_out_blank : (sites parts : ℕ) (z : List ℕ) → 1 ≤ sites → sites ≤ 8 → 1 ≤ parts → parts ≤ 16 → z ≡ replicate sites 0 → IsLaidOut sites parts (replicate 16 z)
laid_out_blank sites parts z a b c d e = record {
  some_site = a;
  most_sites = b;
  some_part = c;
  most_parts = d;
  whole = refl;
  wide = wide_replicate sites 16 z (ap length e ∙ length-replicate sites 0);
}

pub blank : (parts : ℕ) (z w : List ℕ) → parts ≤ 16 → z ≡ w → take parts (replicate 16 z) ≡ replicate parts w
blank parts z w d e = take-replicate parts 16 z d ∙ ap (replicate parts) e

pub seen : (g : Gossip) (sites parts : ℕ) (heard : List (List ℕ)) → record { sites = sites; parts = parts; heard = take parts heard } ≡ g → IsLaidOut sites parts heard → IsGossip g
seen g sites parts heard v h = subst (λ (y : Gossip). IsGossip y) v (is_gossip sites parts heard h)

pub seen_wide : (g : Gossip) (sites parts n : ℕ) (heard : List (List ℕ)) → record { sites = sites; parts = parts; heard = take parts heard } ≡ g → IsLaidOut sites parts heard → n ≡ g.sites → AreWide n (take parts heard)
seen_wide g sites parts n heard v h e = subst (λ m. AreWide m (take parts heard)) (ap (λ (y : Gossip). y.sites) v ∙ sym e) (wide_take sites parts heard h.wide)
