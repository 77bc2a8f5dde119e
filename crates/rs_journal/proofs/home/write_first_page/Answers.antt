-- Both parts of page 0 are written.
use Rattle.std.proofs.Common.{IsTrue, subst, sym, rules}
use Rattle.rs_journal.proofs.Words.{on_ok_map}
use Rattle.rs_journal.proofs.Homes.{parts-long, first-written, first-leaves-front, first-leaves-back}
use Rattle.rs_disk.proofs.Reaching.{reaches_on, reaches_bytes}
use Rattle.rs_journal.proofs.home.write_first_page.Goals as goal

pub returns-in_err-write_at-clause-reaches : goal.returns-in_err-write_at-clause-reaches
returns-in_err-write_at-clause-reaches g c =
    let long = parts-long c.args.page.now.bytes (search rules) in
    reaches_bytes g.D.Disk _ _ _ _ (λ i is. first-leaves-front _ i long.0 is) c.write_at.ensures.reaches

pub returns-clause-reaches : goal.returns-clause-reaches
returns-clause-reaches g c =
    let long = parts-long c.args.page.now.bytes (search rules) in
    reaches_on g.D.Disk _ _ _ _ _ _ (λ i is. first-leaves-front _ i long.0 is) (λ i is. first-leaves-back _ i long.1 is)
    c.write_at.ensures.reaches c.write_at-2.ensures.reaches

pub returns-clause-written : goal.returns-clause-written
returns-clause-written g c = λ honest.
    let second : IsTrue (g.D.Disk.is_honest c.write_at.new.disk) = subst IsTrue (sym c.write_at.ensures.reaches.honesty) honest in
    on_ok_map c.write_at-2.result
    (λ back. first-written c.args.page.now.bytes _ _ (search rules) (c.in_ok-write_at.ensures.written honest) (c.write_at-2.ensures.reaches.reads second) back)
    (c.write_at-2.ensures.written second)
