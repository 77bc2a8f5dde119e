-- Texts of a dump: those of views, of lists, and of the place of a row; and what a file says of a row.
use Rattle.std.specs.Prelude.{ℕ, List, [], ◌∷◌, ◌++◌, codes}
use Rattle.rs_dump_laws.specs.Lines.{COMMA, shortest_text}
use Rattle.rs_dump_lines.specs.declared.rows.FileRow.{FileRow}
use Rattle.rs_facts.specs.Fact.{Name}
use Rattle.rs_syntax.specs.Tree.{define_view}
use Rattle.rs_machine.specs.Lawful.{Each}
use Rattle.rs_machine.specs.Request.{Asks, command}
use Rattle.rs_machine.specs.State.{State}
use Rattle.rs_value.specs.Encoding.{SaysRow}
use Rattle.rs_value.specs.Row.{Row}
use Rattle.rs_value.specs.declared.column.Kind.{Kind}
use Rattle.rs_value.specs.declared.column.Kind.TheVariants.{Point, Line}

-- some line of a session defines each view of the state, with the text that its name has
abbrev pub HaveLines : (Name → List ℕ) → State → Type 0
HaveLines texts state = Each state.views (λ name query. (line : List ℕ) × (session : ℕ) × Asks line (command session (define_view name query (texts name))))

-- each text with a comma before it
abbrev pub more_texts : List (List ℕ) → List ℕ
more_texts [] = []
more_texts (text ∷ texts) = COMMA ∷ (text ++ more_texts texts)

-- a measure, and the one up to which a span goes
abbrev pub ends_text : ℕ → ℕ → List ℕ
ends_text from to = shortest_text from ++ (codes " TO " ++ shortest_text to)

-- what comes before the first measure of a row, and the measures: a line is put along its span, a point at its place
abbrev pub place_word : Kind → List ℕ
place_word Line = codes " FROM "
place_word Point = codes " AT "

abbrev pub measures_text : Kind → ℕ → ℕ → List ℕ
measures_text Line lo hi = ends_text lo hi
measures_text Point lo hi = shortest_text lo

-- what the lines of all rows of a table on a route begin with
abbrev pub row_front : Kind → List ℕ → List ℕ → List ℕ
row_front kind table route = codes "0 INSERT INTO " ++ (table ++ (codes " ON " ++ (route ++ place_word kind)))

-- the bytes that the file has of a row say these values
abbrev pub FileSays : FileRow → Row → Type 0
FileSays row said = SaysRow row.columns.now row.bytes.now said
