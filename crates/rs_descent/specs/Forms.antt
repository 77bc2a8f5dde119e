-- Parts of the forms of commands that functions of their own read.
use Rattle.rs_grammar.specs.declared.kind.TokenKind.{TokenKind}
use Rattle.rs_grammar.specs.declared.kind.TokenKind.TheVariants as kinds
use Rattle.rs_grammar.specs.Grammar.{Form, done, pick, need, sub, measure, values, translate_form, select_form, total_form, explain_form, open_form, fetch_form, close_form}
use Rattle.rs_descent.specs.declared.drops.ObjectKind.{ObjectKind}
use Rattle.rs_descent.specs.declared.drops.ObjectKind.TheVariants as objects

-- INTO table ON route
abbrev pub into_form : Form → Form
into_form form = need kinds.Into (need kinds.Name (need kinds.On (need kinds.Name form)))

-- VALUES "(" values ")"
abbrev pub row_form : Form
row_form = need kinds.Values (need kinds.LeftParen (sub values (need kinds.RightParen done)))

-- route FROM measure TO measure
abbrev pub carried_form : Form → Form
carried_form form = need kinds.Name (need kinds.From (sub measure (need kinds.To (sub measure form))))

-- INTO route AT measure
abbrev pub landing_form : Form
landing_form = need kinds.Into (need kinds.Name (need kinds.At (sub measure done)))

-- the word for a kind of object
abbrev pub object_word : ObjectKind → TokenKind
object_word objects.Route = kinds.Route
object_word objects.Table = kinds.Table
object_word objects.View = kinds.View
object_word objects.Alignment = kinds.Alignment
object_word objects.Index = kinds.Index

-- SAVE, or REOPEN
abbrev pub file_form : Form
file_form = pick kinds.Save done (need kinds.Reopen done)

-- a command of a cursor, or of the file
abbrev pub session_form : Form
session_form = pick kinds.Open open_form (pick kinds.Fetch fetch_form (pick kinds.Close close_form file_form))

-- a question, or a command of a cursor or of the file
abbrev pub asking_form : Form
asking_form =
    pick kinds.Translate translate_form (pick kinds.Select select_form
    (pick kinds.Total total_form (pick kinds.Explain explain_form session_form)))
