-- What was put into the buffer is what is shown.
use Rattle.std.proofs.Common.{IsTrue, subst, sym}
use Rattle.rs_disk.specs.Content.{Content, Gives}
use Rattle.rs_journal.specs.Look.{IsLook, shown}
use Rattle.rs_journal.proofs.Looking.{shown-by}
use Rattle.rs_journal.proofs.look.read_shown.Goals as goal

pub returns-clause-bytes : goal.returns-clause-bytes
returns-clause-bytes g c = λ honest look.
    let still : IsTrue (g.D.Disk.is_honest c.read_at.new.disk) = subst IsTrue (sym c.read_at.ensures.reaches.honesty) honest in
    let same = c.read_at.ensures.reaches.reads honest in
    let there = subst (λ (content : Content). Gives content c.args.at c.read_at.new.buffer) (sym same) (c.in_ok-read_at.ensures.bytes honest) in
    let look' = subst (λ (content : Content). IsLook c.args.look.now.numbers.items c.args.look.now.copies c.args.look.now.raises content) (sym same) look in
    subst (λ (content : Content). Gives (shown content) c.args.at c.put_zeros.new.buffer) same
    (shown-by c.args.look.now.numbers.items c.args.look.now.copies c.args.look.now.raises (g.D.Disk.seen c.read_at.new.disk) c.args.at c.put_zeros.new.buffer
    (g.met.D.Disk.zeros_past_the_end c.read_at.new.disk still) look'
    (c.put_zeros.ensures _ (c.put_format.ensures _ (c.in_ok-put_copies.ensures.put still look.ascending there))))
