-- The words of a reply, as the code has them.
use Rattle.std.specs.Prelude.{◌≡◌, ℕ, List, [], ◌++◌, codes, decimal}
use Rattle.std.proofs.Common.{sym, ◌∙◌, ap, append_assoc}
use Rattle.std.proofs.lemmas.List.{append-nil}
use Rattle.std.specs.List.{join_by}
use Rattle.site_vector.specs.Printed.{part_text, tx_text}
use Rattle.reply_text.specs.declared.words.Word.{Word}
use Rattle.reply_text.specs.declared.words.Word.TheVariants as word
use Rattle.reply_text.specs.Places.{vector_text, word_text, message_text, report_text, interval_text}

abbrev pub text_of_word : Word → List ℕ
text_of_word (word.Name w) = w.now
text_of_word (word.Number n) = decimal n
text_of_word (word.Part p) = part_text p
text_of_word (word.Tx t) = tx_text t
text_of_word (word.Vector v) = vector_text v.now
text_of_word (word.Text w) = word_text w.now
text_of_word (word.Message n) = message_text n
text_of_word (word.Report n) = report_text n
text_of_word (word.Interval lo hi) = interval_text lo hi

-- with a space between neighbors
abbrev pub words_text : List Word → List ℕ
words_text ws = join_by text_of_word (codes " ") ws

-- the new bytes begin with the old
pub record Begins (old new : List ℕ) : Type 0 where
  pub rest : List ℕ
  pub is : new ≡ old ++ rest

pub begins_same : (a b : List ℕ) → b ≡ a → Begins a b
begins_same a b e = record { rest = []; is = e ∙ sym (append-nil a) }

pub begins_after : (a b c t : List ℕ) → b ≡ a ++ t → Begins b c → Begins a c
begins_after a b c t e h = record { rest = t ++ h.rest; is = h.is ∙ (ap (λ s. s ++ h.rest) e ∙ append_assoc a t h.rest) }
