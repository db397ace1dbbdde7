use Rattle.read_back.proofs.Cutting.{text_is_one_word}
use Rattle.read_back.proofs.Numerals.{reads_back_counter}
use Rattle.read_back.proofs.QuotedTexts.{text-word_text, reads_back_register}
use Rattle.read_back.proofs.ShownLines.{is_one_line}
use Rattle.read_back.proofs.ShownObjects.{reads_back_object}
use Rattle.read_back.proofs.ShownPlaces.{reads_back_number, reads_back_time, reads_back_site, reads_back_part, reads_back_tx, reads_back_message, reads_back_report}
use Rattle.read_back.proofs.law_reads_back.Goals as goal

pub returns-clause-words : goal.returns-clause-words
returns-clause-words c = text_is_one_word

pub returns-clause-texts : goal.returns-clause-texts
returns-clause-texts c = text-word_text

pub returns-clause-objects : goal.returns-clause-objects
returns-clause-objects c = reads_back_object

pub returns-clause-numbers : goal.returns-clause-numbers
returns-clause-numbers c = reads_back_number

pub returns-clause-times : goal.returns-clause-times
returns-clause-times c = reads_back_time

pub returns-clause-sites : goal.returns-clause-sites
returns-clause-sites c = reads_back_site

pub returns-clause-parts : goal.returns-clause-parts
returns-clause-parts c = reads_back_part

pub returns-clause-transactions : goal.returns-clause-transactions
returns-clause-transactions c = reads_back_tx

pub returns-clause-messages : goal.returns-clause-messages
returns-clause-messages c = reads_back_message

pub returns-clause-reports : goal.returns-clause-reports
returns-clause-reports c = reads_back_report

pub returns-clause-counters : goal.returns-clause-counters
returns-clause-counters c = reads_back_counter

pub returns-clause-registers : goal.returns-clause-registers
returns-clause-registers c = reads_back_register

pub returns-clause-lines : goal.returns-clause-lines
returns-clause-lines c = is_one_line
