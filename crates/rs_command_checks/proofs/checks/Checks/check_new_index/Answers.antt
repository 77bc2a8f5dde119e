use Rattle.std.proofs.Common.{true, false, Err, sym, ap, ◌∙◌, arith}
use Rattle.std.specs.FinMap as names
use Rattle.std.proofs.lemmas.Result.{err_from_is_err_and}
use Rattle.rs_refusal.specs.declared.refusal.Refusal.TheVariants.{NoSuchName}
use Rattle.rs_command_checks.proofs.Outcomes.{found_some, found_none, index_of_no_table, index_of_no_column, index_taken, index_too_many, index_checked, may_ok, may_err, lent_is}
use Rattle.rs_command_checks.proofs.checks.Checks.check_new_index.Goals as goal

pub returns-in_err-entry-clause-refused : goal.returns-in_err-entry-clause-refused
returns-in_err-entry-clause-refused c = λ unseen.
    let p = err_from_is_err_and c.from_residual.result c.from_residual.ensures.1 in
    let none = found_none (names.get c.args.self.now.catalog.now.tables c.args.table.now.bytes) NoSuchName c.in_err-entry.field-0.0 c.in_err-entry.ensures in
    rw (p.1, p.2) (index_of_no_table c.args.self.now unseen c.args.name.now.bytes c.args.table.now.bytes c.args.column.now.bytes none.0 ∙ ap Err (sym none.1))

pub column_of-requires : goal.column_of-requires
column_of-requires c =
    let there = found_some (names.get c.args.self.now.catalog.now.tables c.args.table.now.bytes) NoSuchName _ c.in_ok-entry.ensures in
    (c.stand.ensures.tables _ _ there).1

pub returns-in_err-place-clause-refused : goal.returns-in_err-place-clause-refused
returns-in_err-place-clause-refused c = λ unseen.
    let there = found_some (names.get c.args.self.now.catalog.now.tables c.args.table.now.bytes) NoSuchName _ c.in_ok-entry.ensures in
    let p = err_from_is_err_and c.from_residual-in_err-place.result c.from_residual-in_err-place.ensures.1 in
    rw (p.1, p.2) (index_of_no_column c.args.self.now unseen c.args.name.now.bytes c.args.table.now.bytes c.args.column.now.bytes _ there _ (sym c.in_err-place.ensures.place))

pub returns-then-is_some-clause-refused : goal.returns-then-is_some-clause-refused
returns-then-is_some-clause-refused c = λ unseen.
    let there = found_some (names.get c.args.self.now.catalog.now.tables c.args.table.now.bytes) NoSuchName _ c.in_ok-entry.ensures in
    index_taken c.args.self.now unseen c.args.name.now.bytes c.args.table.now.bytes c.args.column.now.bytes _ there _ (sym c.in_ok-place.ensures.place) (lent_is c.index.result _ true c.index.ensures (sym c.is_some.ensures ∙ c.if-is_some.true))

pub returns-then-indexes_len-ge-INDEXES-clause-refused : goal.returns-then-indexes_len-ge-INDEXES-clause-refused
returns-then-indexes_len-ge-INDEXES-clause-refused c = λ unseen.
    let there = found_some (names.get c.args.self.now.catalog.now.tables c.args.table.now.bytes) NoSuchName _ c.in_ok-entry.ensures in
    index_too_many c.args.self.now unseen c.args.name.now.bytes c.args.table.now.bytes c.args.column.now.bytes _ there _ (sym c.in_ok-place.ensures.place) (lent_is c.index.result _ false c.index.ensures (sym c.is_some.ensures ∙ c.if-is_some.false)) (omega arith)

pub returns-in_err-may_change-clause-refused : goal.returns-in_err-may_change-clause-refused
returns-in_err-may_change-clause-refused c = λ unseen.
    let there = found_some (names.get c.args.self.now.catalog.now.tables c.args.table.now.bytes) NoSuchName _ c.in_ok-entry.ensures in
    let p = err_from_is_err_and c.from_residual-in_err-may_change.result c.from_residual-in_err-may_change.ensures.1 in
    rw (p.1, p.2) (index_checked c.args.self.now unseen c.args.name.now.bytes c.args.table.now.bytes c.args.column.now.bytes _ there _ (sym c.in_ok-place.ensures.place) (lent_is c.index.result _ false c.index.ensures (sym c.is_some.ensures ∙ c.if-is_some.false)) (omega arith)
    ∙ may_err c.args.self.now unseen _ _ (c.in_err-may_change.ensures.answer unseen))

pub returns-clause-accepted : goal.returns-clause-accepted
returns-clause-accepted c = λ unseen.
    let there = found_some (names.get c.args.self.now.catalog.now.tables c.args.table.now.bytes) NoSuchName _ c.in_ok-entry.ensures in
    index_checked c.args.self.now unseen c.args.name.now.bytes c.args.table.now.bytes c.args.column.now.bytes _ there _ (sym c.in_ok-place.ensures.place) (lent_is c.index.result _ false c.index.ensures (sym c.is_some.ensures ∙ c.if-is_some.false)) (omega arith)
    ∙ may_ok c.args.self.now unseen _ (c.in_ok-may_change.ensures.answer unseen)

pub returns-clause-of : goal.returns-clause-of
returns-clause-of c =
    let there = found_some (names.get c.args.self.now.catalog.now.tables c.args.table.now.bytes) NoSuchName _ c.in_ok-entry.ensures in
    (record { table = c.in_ok-entry.entry.now; there = there; numbered = sym c.number.ensures; below = c.in_ok-place.ensures.there })
