-- The lines among what is kept of a cursor.
use Rattle.std.specs.Prelude.{List, [], None, Option, Some, String}
use Rattle.std.specs.declared.alloc.Global.{Global}
use Rattle.rs_cursor.specs.declared.kept.KeptAhead.{KeptAhead}
use Rattle.rs_cursor.specs.declared.kept.KeptLines.{KeptLines}

abbrev pub lines_in : Option KeptLines → List (String Global)
lines_in None = []
lines_in (Some lines) = lines.lines.items

-- none where none are kept
abbrev pub lines_of : KeptAhead → List (String Global)
lines_of kept = lines_in kept.lines
