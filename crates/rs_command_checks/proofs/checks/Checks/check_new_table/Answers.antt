use Rattle.std.proofs.Common.{ap, sym, map, ◌∙◌, arith}
use Rattle.std.proofs.lemmas.List.{length-map}
use Rattle.rs_syntax.specs.View.{column_tree}
use Rattle.rs_value.specs.Encoding.{row_width}
use Rattle.rs_command_checks.proofs.Outcomes.{table_taken, table_column_twice, table_too_wide, table_rows_wide, table_too_many, table_checked, last_accepted, last_refused}
use Rattle.rs_command_checks.proofs.checks.Checks.check_new_table.Goals as goal

pub returns-then-has_table_or_view-clause-refused : goal.returns-then-has_table_or_view-clause-refused
returns-then-has_table_or_view-clause-refused c = λ unseen.
    table_taken c.args.self.now unseen c.args.kind c.args.name.now.bytes (map column_tree c.args.columns.now) (sym c.if-has_table_or_view.true ∙ c.has_table_or_view.ensures)

pub returns-then-has_name_twice-clause-refused : goal.returns-then-has_name_twice-clause-refused
returns-then-has_name_twice-clause-refused c = λ unseen.
    table_column_twice c.args.self.now unseen c.args.kind c.args.name.now.bytes (map column_tree c.args.columns.now) (sym c.if-has_table_or_view.false ∙ c.has_table_or_view.ensures) (sym c.has_name_twice.ensures ∙ c.if-has_name_twice.true)

pub returns-then-columns-gt-COLUMNS-clause-refused : goal.returns-then-columns-gt-COLUMNS-clause-refused
returns-then-columns-gt-COLUMNS-clause-refused c = λ unseen.
    table_too_wide c.args.self.now unseen c.args.kind c.args.name.now.bytes (map column_tree c.args.columns.now) (sym c.if-has_table_or_view.false ∙ c.has_table_or_view.ensures) (sym c.has_name_twice.ensures ∙ c.if-has_name_twice.false) (omega (arith, length-map c.args.columns.now column_tree))

pub returns-then-row_width-gt-ROW_BYTES-clause-refused : goal.returns-then-row_width-gt-ROW_BYTES-clause-refused
returns-then-row_width-gt-ROW_BYTES-clause-refused c = λ unseen.
    table_rows_wide c.args.self.now unseen c.args.kind c.args.name.now.bytes (map column_tree c.args.columns.now) (sym c.if-has_table_or_view.false ∙ c.has_table_or_view.ensures) (sym c.has_name_twice.ensures ∙ c.if-has_name_twice.false) (omega (arith, length-map c.args.columns.now column_tree)) (omega (arith, c.row_width.ensures ∙ ap row_width c.schema_of.ensures))

pub returns-then-tables_len-ge-TABLES-clause-refused : goal.returns-then-tables_len-ge-TABLES-clause-refused
returns-then-tables_len-ge-TABLES-clause-refused c = λ unseen.
    table_too_many c.args.self.now unseen c.args.kind c.args.name.now.bytes (map column_tree c.args.columns.now) (sym c.if-has_table_or_view.false ∙ c.has_table_or_view.ensures) (sym c.has_name_twice.ensures ∙ c.if-has_name_twice.false) (omega (arith, length-map c.args.columns.now column_tree)) (omega (arith, c.row_width.ensures ∙ ap row_width c.schema_of.ensures)) (omega arith)

pub returns-clause-accepted : goal.returns-clause-accepted
returns-clause-accepted c = λ unseen.
    let columns = map column_tree c.args.columns.now in
    last_accepted c.args.self.now unseen _ _ c.may_change.result (c.may_change.ensures.answer unseen)
    (table_checked c.args.self.now unseen c.args.kind c.args.name.now.bytes (map column_tree c.args.columns.now) (sym c.if-has_table_or_view.false ∙ c.has_table_or_view.ensures) (sym c.has_name_twice.ensures ∙ c.if-has_name_twice.false) (omega (arith, length-map c.args.columns.now column_tree)) (omega (arith, c.row_width.ensures ∙ ap row_width c.schema_of.ensures)) (omega arith))

pub returns-clause-refused : goal.returns-clause-refused
returns-clause-refused c = λ unseen.
    let columns = map column_tree c.args.columns.now in
    last_refused c.args.self.now unseen _ _ c.may_change.result (c.may_change.ensures.answer unseen)
    (table_checked c.args.self.now unseen c.args.kind c.args.name.now.bytes (map column_tree c.args.columns.now) (sym c.if-has_table_or_view.false ∙ c.has_table_or_view.ensures) (sym c.has_name_twice.ensures ∙ c.if-has_name_twice.false) (omega (arith, length-map c.args.columns.now column_tree)) (omega (arith, c.row_width.ensures ∙ ap row_width c.schema_of.ensures)) (omega arith))
