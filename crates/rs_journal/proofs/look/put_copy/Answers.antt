-- The page, as far as it is in the buffer.
use Rattle.std.proofs.Common.{◌+◌, rules}
use Rattle.rs_journal.proofs.Looking.{page-put, page-apart}
use Rattle.rs_journal.proofs.look.put_copy.Goals as goal

pub returns-then-not-meets_page-clause-put : goal.returns-then-not-meets_page-clause-put
returns-then-not-meets_page-clause-put g c = λ honest k lt.
    page-apart c.args.number _ (c.args.at + k) _ _ (search rules) (c.meets_page.ensures (search rules) k lt)

pub returns-clause-put : goal.returns-clause-put
returns-clause-put g c = λ honest.
    page-put c.args.number _ c.args.at c.args.copy _ c.args.buffer.now c.put_over.new.buffer (g.D.Disk.seen c.args.disk.now).byte (search rules) (search rules)
    (c.in_ok-read_page.ensures.bytes honest) c.put_over.ensures.inside c.put_over.ensures.outside
