-- What was written first is there at the end.
use Rattle.std.proofs.Common.{inl, inr, IsTrue, subst, sym, arith, rules}
use Rattle.rs_disk.specs.Content.{Content}
use Rattle.rs_journal.specs.Journal.{HasJournal, journal_of}
use Rattle.rs_journal.proofs.Words.{before-range, journal-written, numbers-kept, copies-kept}
use Rattle.rs_disk.proofs.Reaching.{reaches_on, reaches_synced, reaches_bytes}
use Rattle.rs_journal.proofs.Advancing.{on_ok}
use Rattle.rs_journal.proofs.journal.write_journal.Goals as goal

pub returns-in_err-write_numbers-clause-reaches : goal.returns-in_err-write_numbers-clause-reaches
returns-in_err-write_numbers-clause-reaches g c =
    reaches_bytes g.D.Disk _ _ _ _ (λ i is. before-range _ _ _ i (omega arith) is) c.write_numbers.ensures.reaches

pub returns-in_err-write_copies-clause-reaches : goal.returns-in_err-write_copies-clause-reaches
returns-in_err-write_copies-clause-reaches g c =
    reaches_on g.D.Disk _ _ _ _ _ _ (λ i is. before-range _ _ _ i (omega arith) is) (λ i is. before-range _ _ _ i (search rules) is)
    c.write_numbers.ensures.reaches c.write_copies.ensures.reaches

pub returns-in_err-write_fields-clause-reaches : goal.returns-in_err-write_fields-clause-reaches
returns-in_err-write_fields-clause-reaches g c =
    reaches_on g.D.Disk _ _ _ _ _ _ (λ i is. is) (λ i is. is.1)
    (reaches_on g.D.Disk _ _ _ _ _ _ (λ i is. before-range _ _ _ i (omega arith) is) (λ i is. before-range _ _ _ i (search rules) is)
    c.write_numbers.ensures.reaches c.write_copies.ensures.reaches) c.write_fields.ensures.reaches

pub returns-clause-reaches : goal.returns-clause-reaches
returns-clause-reaches g c =
    reaches_synced g.D.Disk _ _ _ _
    (reaches_on g.D.Disk _ _ _ _ _ _ (λ i is. is) (λ i is. is.1)
    (reaches_on g.D.Disk _ _ _ _ _ _ (λ i is. before-range _ _ _ i (omega arith) is) (λ i is. before-range _ _ _ i (search rules) is)
    c.write_numbers.ensures.reaches c.write_copies.ensures.reaches) c.write_fields.ensures.reaches)
    c.sync.ensures.reaches

pub returns-clause-written : goal.returns-clause-written
returns-clause-written g c = λ honest.
    let second : IsTrue (g.D.Disk.is_honest c.write_numbers.new.disk) = subst IsTrue (sym c.write_numbers.ensures.reaches.honesty) honest in
    let third : IsTrue (g.D.Disk.is_honest c.write_copies.new.disk) = subst IsTrue (sym c.write_copies.ensures.reaches.honesty) second in
    let last : IsTrue (g.D.Disk.is_honest c.write_fields.new.disk) = subst IsTrue (sym c.write_fields.ensures.reaches.honesty) third in
    let a = c.in_ok-write_numbers.ensures.written honest in
    let b = numbers-kept _ _ _ _ _ _ _ (c.write_copies.ensures.reaches.reads second) (λ i lo hi. inl (search rules)) a in
    let d = numbers-kept _ _ _ _ _ _ _ (c.write_fields.ensures.reaches.reads third) (λ i lo hi. inr (omega arith)) b in
    let e = copies-kept _ _ _ _ _ _ (c.write_fields.ensures.reaches.reads third) (λ i lo hi. inr (omega arith)) (c.in_ok-write_copies.ensures.written second) in
    let journal = journal_of g.C.Copies c.args.first c.args.copies.now in
    on_ok _ _ (subst (λ (content : Content). HasJournal journal content) (sym (c.sync.ensures.reaches.reads last))
    (journal-written journal _ _ _ (search rules) (search rules) (c.in_ok-write_fields.ensures.written third) d e))
