-- The lines whose words the code adds in parts.
use Rattle.std.specs.Prelude.{ℕ, List, [], ◌∷◌, ◌++◌, Option, Some, None, codes, decimal}
use Rattle.site_vector.specs.declared.ids.PartId.{PartId}
use Rattle.site_vector.specs.declared.ids.TxId.{TxId}
use Rattle.crdt_core.specs.declared.object.ObjectId.{ObjectId}
use Rattle.site_vector.specs.Printed.{part_text, tx_text}
use Rattle.reply_text.specs.Places.{vector_text, word_text, object_text}
use Rattle.reply_text.specs.Text.{line_of, stamp_words, decided_words, pending_words}

abbrev pub updated_text : List ℕ → ObjectId → Option ℕ → List ℕ
updated_text name object stamp = line_of (codes "updated" ∷ word_text name ∷ object_text object ∷ stamp_words stamp)

abbrev pub stamp_text : Option ℕ → List ℕ
stamp_text None = []
stamp_text (Some n) = codes " stamp " ++ decimal n

abbrev pub decided_text : Option TxId → List ℕ
decided_text None = []
decided_text (Some t) = codes " decided " ++ tx_text t

abbrev pub pending_text : TxId × ℕ → List ℕ
pending_text p = codes " pending " ++ tx_text p.0 ++ codes " " ++ decimal p.1

abbrev pub restarted_text : PartId → ℕ → List ℕ → Option TxId → List (TxId × ℕ) → List ℕ
restarted_text part now bounds decided pending = line_of (codes "restarted" ∷ part_text part ∷ decimal now ∷ vector_text bounds ∷ (decided_words decided ++ pending_words pending))
