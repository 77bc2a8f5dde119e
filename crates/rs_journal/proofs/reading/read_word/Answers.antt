-- The number in the bytes that were read.
use Rattle.std.proofs.Common.{◌∙◌, rules}
use Rattle.rs_journal.proofs.Words.{word-given}
use Rattle.rs_journal.proofs.reading.read_word.Goals as goal

pub returns-clause-word : goal.returns-clause-word
returns-clause-word g c = λ honest.
    c.number_of_four.ensures ∙ word-given _ _ _ (c.in_ok-read_at.ensures.bytes honest) (search rules)
