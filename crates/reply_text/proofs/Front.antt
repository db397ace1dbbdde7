-- What stands before stays, and the lines of an update and of a restart in parts.
use Rattle.std.proofs.Common.{◌≡◌, ℕ, List, [], ◌∷◌, ◌++◌, length, take, sym, ap, ◌∙◌, append_assoc, Option, Some, None, codes, decimal, refl, ◌+◌, ◌<◌, get_or}
use Rattle.std.specs.List.{flat_map, join_by}
use Rattle.std.proofs.lemmas.Grind.{flat_map-append}
use Rattle.std.proofs.lemmas.List.{append-nil, flat_map_more, take_more}
use Rattle.std.proofs.Math.Seq.{take-append_seam}
use Rattle.site_vector.specs.declared.ids.PartId.{PartId}
use Rattle.site_vector.specs.declared.ids.TxId.{TxId}
use Rattle.site_vector.specs.Printed.{part_text, tx_text}
use Rattle.crdt_core.specs.declared.object.ObjectId.{ObjectId}
use Rattle.reply_text.specs.Places.{vector_text, word_text, object_text}
use Rattle.reply_text.specs.Text.{line_of, stamp_words, decided_words, pending_words}
use Rattle.reply_text.specs.Updated.{stamp_text, updated_text, decided_text, pending_text, restarted_text}
use Rattle.reply_text.specs.Words.{Begins}

pub front_kept : (a b : List ℕ) → Begins a b → take (length a) b ≡ a
front_kept a b h = ap (λ s. take (length a) s) h.is ∙ take-append_seam a h.rest

abbrev spaced : List (List ℕ) → List ℕ
spaced = flat_map (λ w. codes " " ++ w)

spaced-decided : (decided : Option TxId) → spaced (decided_words decided) ≡ decided_text decided
spaced-decided None = refl
spaced-decided (Some t) = append-nil (codes " decided " ++ tx_text t)

pending_parts : (t d r : List ℕ) → codes " pending" ++ ((codes " " ++ t) ++ ((codes " " ++ d) ++ r)) ≡ (codes " pending " ++ t ++ codes " " ++ d) ++ r
pending_parts t d r = simp append_assoc

spaced-pending : (pending : List (TxId × ℕ)) → spaced (pending_words pending) ≡ flat_map pending_text pending
spaced-pending [] = refl
spaced-pending (p ∷ ps) = pending_parts (tx_text p.0) (decimal p.1) (spaced (pending_words ps)) ∙ ap (λ s. pending_text p ++ s) (spaced-pending ps)

-- one pending transaction more
pub pending_more : (ps : List (TxId × ℕ)) (i : ℕ) (d : TxId × ℕ) (start old new : List ℕ) → i < length ps → old ≡ start ++ flat_map pending_text (take i ps) → new ≡ old ++ pending_text (get_or ps i d) → new ≡ start ++ flat_map pending_text (take (i + 1) ps)
pending_more ps i d start old new within is_old is_new =
    is_new ∙ ap (λ o. o ++ pending_text (get_or ps i d)) is_old ∙ flat_map_more pending_text start (take i ps) (get_or ps i d) ∙ ap (λ qs. start ++ flat_map pending_text qs) (sym (take_more ps i d within))

restarted_parts : (a w s p n v d r e : List ℕ) → (((a ++ (w ++ ((s ++ p) ++ ((s ++ n) ++ ((s ++ v) ++ []))))) ++ d) ++ r) ++ e ≡ a ++ ((w ++ ((s ++ p) ++ ((s ++ n) ++ ((s ++ v) ++ (d ++ r))))) ++ e)
restarted_parts a w s p n v d r e = simp (append_assoc, append-nil)

-- the line of a restart is its first words, and what the other parts add
pub restarted_is : (part : PartId) (now : ℕ) (bounds : List ℕ) (decided : Option TxId) (pending : List (TxId × ℕ)) (a b c d e : List ℕ)
    → b ≡ a ++ join_by (λ w. w) (codes " ") (codes "restarted" ∷ part_text part ∷ decimal now ∷ vector_text bounds ∷ []) → c ≡ b ++ decided_text decided → d ≡ c ++ flat_map pending_text pending → e ≡ d ++ 10 ∷ []
    → e ≡ a ++ restarted_text part now bounds decided pending
restarted_is part now bounds decided pending a b c d e is_b is_c is_d is_e =
    let tail : spaced (decided_words decided ++ pending_words pending) ≡ decided_text decided ++ flat_map pending_text pending =
    flat_map-append (λ w. codes " " ++ w) (decided_words decided) (pending_words pending) ∙ ap (λ s. s ++ spaced (pending_words pending)) (spaced-decided decided) ∙ ap (λ s. decided_text decided ++ s) (spaced-pending pending) in
    is_e ∙ ap (λ s. s ++ 10 ∷ []) (is_d ∙ ap (λ s. s ++ flat_map pending_text pending) (is_c ∙ ap (λ s. s ++ decided_text decided) is_b))
    ∙ restarted_parts a (codes "restarted") (codes " ") (part_text part) (decimal now) (vector_text bounds) (decided_text decided) (flat_map pending_text pending) (10 ∷ [])
    ∙ ap (λ s. a ++ ((codes "restarted" ++ ((codes " " ++ part_text part) ++ ((codes " " ++ decimal now) ++ ((codes " " ++ vector_text bounds) ++ s)))) ++ 10 ∷ [])) (sym tail)

spaced-stamp : (stamp : Option ℕ) → spaced (stamp_words stamp) ≡ stamp_text stamp
spaced-stamp None = refl
spaced-stamp (Some n) = append-nil (codes " stamp " ++ decimal n)

updated_parts : (a u s w o r e : List ℕ) → ((a ++ ((u ++ s) ++ (w ++ s))) ++ o) ++ (r ++ e) ≡ a ++ ((u ++ ((s ++ w) ++ ((s ++ o) ++ r))) ++ e)
updated_parts a u s w o r e = simp append_assoc

-- the line of an update is what its parts add, one after another
pub updated_is : (name : List ℕ) (object : ObjectId) (stamp : Option ℕ) (a b c d : List ℕ)
    → b ≡ a ++ (codes "updated " ++ (word_text name ++ 32 ∷ [])) → c ≡ b ++ object_text object → d ≡ c ++ (stamp_text stamp ++ 10 ∷ [])
    → d ≡ a ++ updated_text name object stamp
updated_is name object stamp a b c d is_b is_c is_d =
    is_d ∙ ap (λ s. s ++ (stamp_text stamp ++ 10 ∷ [])) (is_c ∙ ap (λ s. s ++ object_text object) is_b)
    ∙ updated_parts a (codes "updated") (codes " ") (word_text name) (object_text object) (stamp_text stamp) (10 ∷ [])
    ∙ ap (λ s. a ++ ((codes "updated" ++ ((codes " " ++ word_text name) ++ ((codes " " ++ object_text object) ++ s))) ++ 10 ∷ [])) (sym (spaced-stamp stamp))

value_parts : (a n s t o v e : List ℕ) → ((a ++ (n ++ (s ++ (t ++ s)))) ++ o) ++ (s ++ (v ++ e)) ≡ a ++ ((n ++ ((s ++ t) ++ ((s ++ o) ++ ((s ++ v) ++ [])))) ++ e)
value_parts a n s t o v e = simp (append_assoc, append-nil)

-- the line of a read is what its parts add, one after another
pub value_is : (n t o v a b c d : List ℕ) → b ≡ a ++ (n ++ (32 ∷ (t ++ 32 ∷ []))) → c ≡ b ++ o → d ≡ c ++ (32 ∷ (v ++ 10 ∷ [])) → d ≡ a ++ line_of (n ∷ t ∷ o ∷ v ∷ [])
value_is n t o v a b c d is_b is_c is_d = is_d ∙ ap (λ s. s ++ (32 ∷ (v ++ 10 ∷ []))) (is_c ∙ ap (λ s. s ++ o) is_b) ∙ value_parts a n (32 ∷ []) t o v (10 ∷ [])

four_parts : (a n s t o v e : List ℕ) → ((a ++ (n ++ (s ++ (t ++ s)))) ++ (o ++ s)) ++ (v ++ e) ≡ a ++ ((n ++ ((s ++ t) ++ ((s ++ o) ++ ((s ++ v) ++ [])))) ++ e)
four_parts a n s t o v e = simp (append_assoc, append-nil)

-- a line of four words is what its parts add, one after another
pub four_words : (n t o v a b c d : List ℕ) → b ≡ a ++ (n ++ (32 ∷ (t ++ 32 ∷ []))) → c ≡ b ++ (o ++ 32 ∷ []) → d ≡ c ++ (v ++ 10 ∷ []) → d ≡ a ++ line_of (n ∷ t ∷ o ∷ v ∷ [])
four_words n t o v a b c d is_b is_c is_d = is_d ∙ ap (λ s. s ++ (v ++ 10 ∷ [])) (is_c ∙ ap (λ s. s ++ (o ++ 32 ∷ [])) is_b) ∙ four_parts a n (32 ∷ []) t o v (10 ∷ [])

three_parts : (a n s t v e : List ℕ) → (a ++ (n ++ (s ++ (t ++ s)))) ++ (v ++ e) ≡ a ++ ((n ++ ((s ++ t) ++ ((s ++ v) ++ []))) ++ e)
three_parts a n s t v e = simp (append_assoc, append-nil)

-- and one of three
pub three_words : (n t v a b c : List ℕ) → b ≡ a ++ (n ++ (32 ∷ (t ++ 32 ∷ []))) → c ≡ b ++ (v ++ 10 ∷ []) → c ≡ a ++ line_of (n ∷ t ∷ v ∷ [])
three_words n t v a b c is_b is_c = is_c ∙ ap (λ s. s ++ (v ++ 10 ∷ [])) is_b ∙ three_parts a n (32 ∷ []) t v (10 ∷ [])
