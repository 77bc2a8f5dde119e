-- Both fields are in the eight bytes that are written.
use Rattle.std.proofs.Common.{◌∙◌, rules, arith}
use Rattle.rs_journal.proofs.Words.{fields-written, on_ok_map}
use Rattle.rs_journal.proofs.journal.write_fields.Goals as goal

pub returns-clause-written : goal.returns-clause-written
returns-clause-written g c = λ honest. on_ok_map c.write_at.result
    (λ holds. fields-written c.args.first c.args.count _ _ holds (search rules)
    (c.put_four-2.ensures.before 0 4 (omega arith) ∙ c.put_four.ensures.value) c.put_four-2.ensures.value)
    (c.write_at.ensures.written honest)
