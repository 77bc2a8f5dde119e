-- Those that are left come to those that wait, which are looked for then.
use Rattle.std.proofs.Common.{◌≡◌, ◌++◌, ℕ, sym, subst}
use Rattle.std.specs.List.{AllByRecursion}
use Rattle.rs_attr.specs.Opening.{HaveAllEntries}
use Rattle.rs_attr.specs.Tables.{IndexState}
use Rattle.rs_attr.proofs.Gathered.{not_entered_waiting, on_ok}
use Rattle.rs_attr.proofs.PartsChecked.{all_entries_back}
use Rattle.rs_records.specs.Listed.{listed}
use Rattle.rs_pages.proofs.Resting.{rests_then}
use Rattle.rs_attr.proofs.opening.check_last.Goals as goal

pub check_all-requires : goal.check_all-requires
check_all-requires g c = record {
  indexes = subst (λ (w : ℕ). AllByRecursion (λ (index : IndexState). index.field.cell_width ≡ w) c.args.indexes.now) (sym c.in_ok-gather.ensures.width) c.requires.indexes;
}

pub returns-clause-rests : goal.returns-clause-rests
returns-clause-rests g c =
    rests_then g.P.Pages.is_tied g.P.Pages.store g.P.Pages.keeps tt c.check_all.result c.args.pages.now c.gather.new.pages c.check_all.new.pages g.met.P.Pages.keeps_trans g.met.P.Pages.keeps_tied
    c.in_ok-gather.ensures.rests c.check_all.ensures.rests

pub returns-clause-checks : goal.returns-clause-checks
returns-clause-checks g c = λ tied.
    let old = (g.P.Pages.store c.args.pages.now).map in
    let mid = (g.P.Pages.store c.gather.new.pages).map in
    let later = g.met.P.Pages.keeps_tied c.args.pages.now c.gather.new.pages c.in_ok-gather.ensures.rests.below tied in
    let same = c.in_ok-gather.ensures.rests.rests.keeps.pages tied in
    let checks = c.check_all.ensures.checks later in
    record {
      entered = on_ok c.check_all.result (HaveAllEntries mid c.args.indexes.now (listed c.gather.new.waiting)) (HaveAllEntries old c.args.indexes.now (listed c.args.waiting ++ listed c.args.cells.now))
          (λ have. (c.in_ok-gather.ensures.gathers tied).entered (all_entries_back old mid same c.args.indexes.now (listed c.gather.new.waiting) have)) checks.entered;
      damaged = λ is.
          not_entered_waiting old mid same c.args.indexes.now (listed c.args.waiting ++ listed c.args.cells.now) (listed c.gather.new.waiting) c.in_ok-gather.ensures.among (checks.damaged is);
    }
