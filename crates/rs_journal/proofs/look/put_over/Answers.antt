-- Where the bytes and the buffer meet.
use Rattle.std.proofs.Common.{length, rules}
use Rattle.rs_journal.proofs.Looking.{put-part}
use Rattle.rs_journal.proofs.look.put_over.Goals as goal

pub returns-then-skipped-bytes-clause-inside : goal.returns-then-skipped-bytes-clause-inside
returns-then-skipped-bytes-clause-inside c = λ k lt lo hi.
    put-part c.args.bytes.now c.put_at.new.buffer (length c.args.buffer.now) c.args.at c.args.start c.saturating_sub-from.result c.saturating_sub-skipped.result
    c.min-count.result k (search rules) (search rules) c.min-count.ensures c.put_at.ensures.inside (search rules) lo hi
