-- The number and the words of each refusal.
use Rattle.std.specs.Prelude.{ℕ, List, ◌++◌, codes, decimal}
use Rattle.rs_refusal.specs.declared.refusal.Refusal.{Refusal}
use Rattle.rs_refusal.specs.declared.refusal.Refusal.TheVariants.{LineIsNotText, LineTooLong, SessionNumber, UnknownCharacter, Syntax, NumberOutOfRange, NoSuchRoute, NoSuchName, NoSuchColumn, InUse, NameTaken, NoSuchReferent, Limit, OutsideTheRoute, EmptySpan, PointOrLineWanted, WrongValues, TextTooLong, ColumnsDiffer, ColumnTwice, KindsDiffer, TotalTooLarge, NoSuchCursor, CursorNameTaken, TooManyCursors, OutOfMemory, Disk, FileFull, DamagedFile, FileNotClosed}

abbrev pub number_of : Refusal → ℕ
number_of LineIsNotText = 1
number_of LineTooLong = 2
number_of SessionNumber = 3
number_of UnknownCharacter = 10
number_of (Syntax column) = 11
number_of NumberOutOfRange = 12
number_of NoSuchRoute = 20
number_of NoSuchName = 21
number_of NoSuchColumn = 22
number_of InUse = 23
number_of NameTaken = 24
number_of NoSuchReferent = 25
number_of Limit = 27
number_of OutsideTheRoute = 30
number_of EmptySpan = 31
number_of PointOrLineWanted = 32
number_of WrongValues = 33
number_of TextTooLong = 34
number_of ColumnsDiffer = 40
number_of ColumnTwice = 41
number_of KindsDiffer = 42
number_of TotalTooLarge = 50
number_of NoSuchCursor = 60
number_of CursorNameTaken = 61
number_of TooManyCursors = 62
number_of OutOfMemory = 90
number_of Disk = 91
number_of FileFull = 92
number_of DamagedFile = 94
number_of FileNotClosed = 95

abbrev pub words_of : Refusal → List ℕ
words_of LineIsNotText = codes "line is not text"
words_of LineTooLong = codes "line too long"
words_of SessionNumber = codes "session number"
words_of UnknownCharacter = codes "unknown character"
words_of (Syntax column) = codes "syntax at " ++ decimal column
words_of NumberOutOfRange = codes "number out of range"
words_of NoSuchRoute = codes "no such route"
words_of NoSuchName = codes "no such name"
words_of NoSuchColumn = codes "no such column"
words_of InUse = codes "in use"
words_of NameTaken = codes "name taken"
words_of NoSuchReferent = codes "no such referent"
words_of Limit = codes "limit"
words_of OutsideTheRoute = codes "outside the route"
words_of EmptySpan = codes "empty span"
words_of PointOrLineWanted = codes "point or line wanted"
words_of WrongValues = codes "wrong type or number of values"
words_of TextTooLong = codes "text too long"
words_of ColumnsDiffer = codes "columns differ"
words_of ColumnTwice = codes "column twice"
words_of KindsDiffer = codes "kinds differ"
words_of TotalTooLarge = codes "total too large"
words_of NoSuchCursor = codes "no such cursor"
words_of CursorNameTaken = codes "cursor name taken"
words_of TooManyCursors = codes "too many cursors"
words_of OutOfMemory = codes "out of memory"
words_of Disk = codes "disk"
words_of FileFull = codes "file full"
words_of DamagedFile = codes "damaged file"
words_of FileNotClosed = codes "file not closed"
