use Rattle.std.proofs.Common.{◌≡◌, drop}
use Rattle.rs_lexer.specs.Lexis.{kind_in}
use Rattle.rs_lexer.specs.Scanning.{rows_of}
use Rattle.rs_lexer.proofs.scan.kind_in.Given as goal

-- the rows from here on decide
abbrev pub invariant-loop-row : goal.invariant-loop-row
invariant-loop-row l = kind_in (rows_of (drop l.row-index l.table)) l.word ≡ kind_in (rows_of l.table) l.word
