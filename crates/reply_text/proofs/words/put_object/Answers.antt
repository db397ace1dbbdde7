use Rattle.std.proofs.Common.{◌≡◌, ◌++◌, ℕ, List, OnOk, codes, ap, subst, ◌∙◌, append_assoc}
use Rattle.crdt_core.specs.declared.object.ObjectId.{ObjectId}
use Rattle.script_words.specs.Kinds.{kind_name}
use Rattle.reply_text.specs.Places.{word_text, object_text, bucket_text}
use Rattle.reply_text.proofs.words.put_object.Goals as goal

parts : (a : List ℕ) (o : ObjectId) → (((a ++ word_text o.key) ++ codes " ") ++ kind_name o.kind) ++ bucket_text o.bucket ≡ a ++ object_text o
parts a o = simp append_assoc

pub returns-clause-ok : goal.returns-clause-ok
returns-clause-ok c =
    let o = c.args.object.now in
    let front = c.in_ok-put_kind.ensures.ok ∙ ap (λ s. s ++ kind_name o.kind) (c.in_ok-put_byte.ensures.ok ∙ ap (λ s. s ++ codes " ") c.in_ok-put_text.ensures.ok) in
    subst (λ (x : List ℕ). OnOk c.put_bucket.result (c.put_bucket.new.out.items ≡ x)) (ap (λ s. s ++ bucket_text o.bucket) front ∙ parts c.args.out.now.items o) c.put_bucket.ensures.ok
