-- The text of a printed run: what follows `ROW ` in the reply's line, without its LF.
use Rattle.std.specs.Prelude.{ℕ, List, ◌++◌, codes}
use Rattle.rs_value.specs.declared.column.Kind.{Kind}
use Rattle.rs_value.specs.declared.column.Kind.TheVariants.{Point, Line}
use Rattle.rs_value.specs.Text.{values_text}
use Rattle.rs_facts.specs.Fact.{Name}
use Rattle.rs_facts.specs.Runs.{Stretch}

-- `m` of a point, `f t` of a line, by a function that prints a position
abbrev pub positions_text : (ℕ → List ℕ) → Kind → Stretch → List ℕ
positions_text position_text Point run = position_text run.lo
positions_text position_text Line run = position_text run.lo ++ codes " " ++ position_text run.hi

-- `route f t values`, or `route m values`, each value after a space
unfoldable pub line_of : (ℕ → List ℕ) → Kind → Name → Stretch → List ℕ
line_of position_text kind route run = route ++ codes " " ++ positions_text position_text kind run ++ values_text run.row
