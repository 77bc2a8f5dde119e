use Rattle.std.proofs.Common.{◌≡◌, ◌++◌, drop, map}
use Rattle.rs_value.specs.Encoding.{SaysRow}
use Rattle.rs_value.specs.Row.{Row}
use Rattle.rs_value.specs.Text.{datum_text}
use Rattle.rs_dump_lines.specs.Texts.{more_texts}
use Rattle.rs_dump_lines.proofs.lists.push_more_values.Given as goal

abbrev pub invariant-loop-column : goal.invariant-loop-column
invariant-loop-column l = record {
  says : (said : Row) → SaysRow l.columns l.values said → SaysRow (drop l.column-index l.columns) l.rest (drop l.column-index said);
  put : (said : Row) → SaysRow l.columns l.values said → l.text.items ++ more_texts (map datum_text (drop l.column-index said)) ≡ l.fn.text.items ++ more_texts (map datum_text said);
}
