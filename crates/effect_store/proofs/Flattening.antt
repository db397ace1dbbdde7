-- Parts with several updates: the updates in their order are those of the parts in theirs. And chains by a hash of the object.
use Rattle.std.proofs.Common.{◌≡◌, Bool, true, false, not, ◌||◌, List, [], ◌∷◌, ◌++◌, refl, ap, ◌∙◌, arith}
use Rattle.std.specs.List.{filter}
use Rattle.effect_store.specs.Arranged.{added, added_all, arranged, Each, Rises, IsOrder, flat}
use Rattle.effect_store.proofs.Arranging.{each_more, rises-added, added_first}

-- each of us comes before each of vs
abbrev pub Across : {U : Type 0} → (U → U → Bool) → List U → List U → Type 0
Across lt [] vs = Unit {0}
Across lt (u ∷ us) vs = Each (lt u) vs × Across lt us vs

abbrev Behind : {U : Type 0} → (U → U → Bool) → List U → List U → Type 0
Behind lt ls [] = Unit {0}
Behind lt ls (u ∷ us) = Each (λ a. not (lt u a)) ls × Behind lt ls us

pub record IsLift {P U : Type 0} (before : P → P → Bool) (lt : U → U → Bool) (f : P → List U) : Type 0 where
  pub inside : (p : P) → Rises lt (f p)
  pub across : (p q : P) → before p q ≡ true → Across lt (f p) (f q)

abbrev pub Fresh : {P : Type 0} → (P → P → Bool) → List P → List P → Type 0
Fresh before acc [] = Unit {0}
Fresh before acc (p ∷ ps) = Each (λ q. before p q || before q p) acc × Fresh before (added before p acc) ps

pub each-append : {X : Type 0} (p : X → Bool) (xs ys : List X) → Each p xs → Each p ys → Each p (xs ++ ys)
each-append p [] ys a b = b
each-append p (x ∷ xs) ys a b = (a.0, each-append p xs ys a.1 b)

across-append : {U : Type 0} (lt : U → U → Bool) (us vs ws : List U) → Across lt us vs → Across lt us ws → Across lt us (vs ++ ws)
across-append lt [] vs ws a b = tt
across-append lt (u ∷ us) vs ws a b = (each-append (lt u) vs ws a.0 b.0, across-append lt us vs ws a.1 b.1)

across_none : {U : Type 0} (lt : U → U → Bool) (us : List U) → Across lt us []
across_none lt [] = tt
across_none lt (u ∷ us) = (tt, across_none lt us)

not_by : {U : Type 0} (lt : U → U → Bool) → IsOrder lt → (a u : U) → lt a u ≡ true → (b : Bool) → lt u a ≡ b → not b ≡ true
not_by lt o a u h true k = let v : lt a a ≡ true = o.follows a u a h k in let w : lt a a ≡ false = o.strict a in cc
not_by lt o a u h false k = refl

not_back : {U : Type 0} (lt : U → U → Bool) → IsOrder lt → (a u : U) → lt a u ≡ true → not (lt u a) ≡ true
not_back lt o a u h = not_by lt o a u h (lt u a) refl

across_head : {U : Type 0} (lt : U → U → Bool) → IsOrder lt → (ls : List U) (u : U) (us : List U) → Across lt ls (u ∷ us) → Each (λ a. not (lt u a)) ls × Across lt ls us
across_head lt o [] u us h = (tt, tt)
across_head lt o (a ∷ ls) u us h = let r = across_head lt o ls u us h.1 in ((not_back lt o a u h.0.0, r.0), (h.0.1, r.1))

behind_of : {U : Type 0} (lt : U → U → Bool) → IsOrder lt → (ls us : List U) → Across lt ls us → Behind lt ls us
behind_of lt o ls [] h = tt
behind_of lt o ls (u ∷ us) h = let r = across_head lt o ls u us h in (r.0, behind_of lt o ls us r.1)

put_over : {U : Type 0} (lt : U → U → Bool) (u : U) (ls bs : List U) → Each (λ a. not (lt u a)) ls → added lt u (ls ++ bs) ≡ ls ++ added lt u bs
put_over lt u [] bs h = refl
put_over lt u (y ∷ ys) bs h = let f : lt u y ≡ false = grind arith in rw f (ap (λ l. y ∷ l) (put_over lt u ys bs h.1))

put_past : {U : Type 0} (lt : U → U → Bool) (ls us bs : List U) → Behind lt ls us → added_all lt (ls ++ bs) us ≡ ls ++ added_all lt bs us
put_past lt ls [] bs h = refl
put_past lt ls (u ∷ us) bs h = rw (put_over lt u ls bs h.0) (put_past lt ls us (added lt u bs) h.1)

put_front : {U : Type 0} (lt : U → U → Bool) → IsOrder lt → (us bs : List U) → Rises lt us → Across lt us bs → added_all lt bs us ≡ us ++ bs
put_front lt o [] bs a h = refl
put_front lt o (u ∷ us) bs a h = rw (added_first lt u bs h.0) (put_past lt (u ∷ []) us bs (behind_of lt o (u ∷ []) us (a.0, tt)) ∙ ap (λ l. u ∷ l) (put_front lt o us bs a.1 h.1))

added_all-append : {U : Type 0} (lt : U → U → Bool) (acc us vs : List U) → added_all lt acc (us ++ vs) ≡ added_all lt (added_all lt acc us) vs
added_all-append lt acc [] vs = refl
added_all-append lt acc (u ∷ us) vs = added_all-append lt (added lt u acc) us vs

across_flat : {P U : Type 0} (before : P → P → Bool) (lt : U → U → Bool) (f : P → List U) → IsLift before lt f → (x : P) (l : List P) → Each (before x) l → Across lt (f x) (flat f l)
across_flat before lt f i x [] e = across_none lt (f x)
across_flat before lt f i x (y ∷ ys) e = across-append lt (f x) (f y) (flat f ys) (i.across x y e.0) (across_flat before lt f i x ys e.1)

flat_step : {P U : Type 0} (before : P → P → Bool) (lt : U → U → Bool) (f : P → List U) → IsOrder before → IsOrder lt → IsLift before lt f → (x y : P) (ys : List P) (b : Bool) → before x y ≡ b → before x y || before y x ≡ true → Each (before y) ys
    → added_all lt (flat f ys) (f x) ≡ flat f (added before x ys) → added_all lt (flat f (y ∷ ys)) (f x) ≡ flat f (added before x (y ∷ ys))
flat_step before lt f o l i x y ys true h c a e = rw h (put_front lt l (f x) (flat f (y ∷ ys)) (i.inside x) (across_flat before lt f i x (y ∷ ys) (h, each_more (before y) (before x) (λ z k. o.follows x y z h k) ys a)))
flat_step before lt f o l i x y ys false h c a e =
    let g : before y x ≡ true = grind arith in
    rw h (put_past lt (f y) (f x) (flat f ys) (behind_of lt l (f y) (f x) (i.across y x g)) ∙ ap (λ r. f y ++ r) e)

flat_added : {P U : Type 0} (before : P → P → Bool) (lt : U → U → Bool) (f : P → List U) → IsOrder before → IsOrder lt → IsLift before lt f → (x : P) (acc : List P) → Rises before acc → Each (λ q. before x q || before q x) acc → added_all lt (flat f acc) (f x) ≡ flat f (added before x acc)
flat_added before lt f o l i x [] a c = put_front lt l (f x) [] (i.inside x) (across_none lt (f x))
flat_added before lt f o l i x (y ∷ ys) a c = flat_step before lt f o l i x y ys (before x y) refl c.0 a.0 (flat_added before lt f o l i x ys a.1 c.1)

flat_all : {P U : Type 0} (before : P → P → Bool) (lt : U → U → Bool) (f : P → List U) → IsOrder before → IsOrder lt → IsLift before lt f → (acc xs : List P) → Rises before acc → Fresh before acc xs → added_all lt (flat f acc) (flat f xs) ≡ flat f (added_all before acc xs)
flat_all before lt f o l i acc [] a c = refl
flat_all before lt f o l i acc (x ∷ xs) a c =
    added_all-append lt (flat f acc) (f x) (flat f xs) ∙ rw (flat_added before lt f o l i x acc a c.0) (flat_all before lt f o l i (added before x acc) xs (rises-added before o x acc c.0 a) c.1)

pub flat_arranged : {P U : Type 0} (before : P → P → Bool) (lt : U → U → Bool) (f : P → List U) → IsOrder before → IsOrder lt → IsLift before lt f → (xs : List P) → Fresh before [] xs → arranged lt (flat f xs) ≡ flat f (arranged before xs)
flat_arranged before lt f o l i xs c = flat_all before lt f o l i [] xs tt c

coarser_by : {X : Type 0} (mine tagged : X → Bool) (x : X) (xs : List X) (b c : Bool) → tagged x ≡ b → mine x ≡ c → (mine x ≡ true → tagged x ≡ true) → filter mine (filter tagged xs) ≡ filter mine xs → filter mine (filter tagged (x ∷ xs)) ≡ filter mine (x ∷ xs)
coarser_by mine tagged x xs true true h k f e = rw (h, k) (ap (λ l. x ∷ l) e)
coarser_by mine tagged x xs true false h k f e = rw (h, k) e
coarser_by mine tagged x xs false true h k f e = let v : tagged x ≡ true = f k in cc
coarser_by mine tagged x xs false false h k f e = rw (h, k) e

-- a chain of a coarser tag, as a hash of the object, has the elements of each object in their order
pub coarser : {X : Type 0} (mine tagged : X → Bool) → ((x : X) → mine x ≡ true → tagged x ≡ true) → (l : List X) → filter mine (filter tagged l) ≡ filter mine l
coarser mine tagged h [] = refl
coarser mine tagged h (x ∷ xs) = coarser_by mine tagged x xs (tagged x) (mine x) refl refl (h x) (coarser mine tagged h xs)
