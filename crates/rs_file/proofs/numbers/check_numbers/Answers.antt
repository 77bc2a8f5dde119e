-- The four tests together.
use Rattle.std.proofs.Common.{◌∙◌, sym, subst}
use Rattle.std.proofs.lemmas.Bool.{false≢true}
use Rattle.rs_file.proofs.Numbered.{IndexesNumbered, NoOtherRoot, NoOtherTree, TablesNumbered, indexes_numbered, no_other_root, no_other_tree, of_both, said_numbered, tables_numbered}
use Rattle.rs_file.proofs.numbers.check_numbers.Goals as goal
use Rattle.rs_file.proofs.numbers.check_numbers.Goals.{else-are_tables_numbered-via-then-are_tables_numbered+then-are_indexes_numbered+then-has_no_other_table+else-has_no_other_index, else-are_tables_numbered-via-then-are_tables_numbered+then-are_indexes_numbered+else-has_no_other_table, else-are_tables_numbered-via-then-are_tables_numbered+else-are_indexes_numbered, else-are_tables_numbered-via-else-are_tables_numbered}

pub returns-then-has_no_other_index-clause-numbered : goal.returns-then-has_no_other_index-clause-numbered
returns-then-has_no_other_index-clause-numbered c =
    let catalogue = c.args.catalogue.now in
    let directory = c.args.directory.now in
    let tables = c.as_slice-tables in
    let indexes = c.as_slice-indexes in
    let trees = c.as_slice in
    let roots = c.as_slice-then-has_no_other_table in
    said_numbered catalogue directory
    (subst TablesNumbered tables.ensures.value (c.are_tables_numbered.ensures.0 c.if-are_tables_numbered.true))
    (of_both IndexesNumbered tables.result.now catalogue.tables.items indexes.result.now catalogue.indexes.items tables.ensures.value indexes.ensures.value
    (c.are_indexes_numbered.ensures.0 c.if-are_indexes_numbered.true))
    (of_both NoOtherTree tables.result.now catalogue.tables.items trees.result.now directory.tables.list.items tables.ensures.value trees.ensures.value
    (c.has_no_other_table.ensures.0 c.if-has_no_other_table.true))
    (of_both NoOtherRoot indexes.result.now catalogue.indexes.items roots.result.now directory.indexes.list.items indexes.ensures.value roots.ensures.value
    (c.has_no_other_index.ensures.0 c.if-has_no_other_index.true))

pub returns-else-are_tables_numbered-clause-none : goal.returns-else-are_tables_numbered-clause-none
returns-else-are_tables_numbered-clause-none c = λ numbered.
    let catalogue = c.args.catalogue.now in
    let directory = c.args.directory.now in
    let tables = c.as_slice-tables in
    let indexes = c.as_slice-indexes in
    elim c.else-are_tables_numbered.branch [
      | else-are_tables_numbered-via-then-are_tables_numbered+then-are_indexes_numbered+then-has_no_other_table+else-has_no_other_index w ↦
          let roots = w.as_slice-then-has_no_other_table in
          false≢true (sym w.if-has_no_other_index.false ∙ w.has_no_other_index.ensures.1 (of_both NoOtherRoot catalogue.indexes.items indexes.result.now directory.indexes.list.items roots.result.now
          (sym indexes.ensures.value) (sym roots.ensures.value) (no_other_root catalogue directory numbered)))
      | else-are_tables_numbered-via-then-are_tables_numbered+then-are_indexes_numbered+else-has_no_other_table w ↦
          let trees = w.as_slice in
          false≢true (sym w.if-has_no_other_table.false ∙ w.has_no_other_table.ensures.1 (of_both NoOtherTree catalogue.tables.items tables.result.now directory.tables.list.items trees.result.now
          (sym tables.ensures.value) (sym trees.ensures.value) (no_other_tree catalogue directory numbered)))
      | else-are_tables_numbered-via-then-are_tables_numbered+else-are_indexes_numbered w ↦
          false≢true (sym w.if-are_indexes_numbered.false ∙ w.are_indexes_numbered.ensures.1 (of_both IndexesNumbered catalogue.tables.items tables.result.now catalogue.indexes.items indexes.result.now
          (sym tables.ensures.value) (sym indexes.ensures.value) (indexes_numbered catalogue directory numbered)))
      | else-are_tables_numbered-via-else-are_tables_numbered w ↦
          false≢true (sym w.if-are_tables_numbered.false ∙ c.are_tables_numbered.ensures.1 (subst TablesNumbered (sym tables.ensures.value) (tables_numbered catalogue directory numbered)))
    ]
