-- The grammar: a table of productions, and the lines of tokens that it derives.
use Rattle.std.specs.Prelude.{ℕ, ◌+◌, ◌-◌, Bool, true, ◌&&◌, nat_le, IsTrue, List, [], ◌∷◌, ◌++◌}
use Rattle.rs_grammar.specs.declared.kind.TokenKind.{TokenKind}
use Rattle.rs_grammar.specs.declared.kind.TokenKind.TheVariants as kinds
use Rattle.rs_grammar.specs.declared.kind.TheConstants.{BRACKETS}

-- the parts of the language
pub data Part : Type 0 where
  command : Part
  place : Part
  columns : Part
  column : Part
  values : Part
  value : Part
  measure : Part
  query : Part
  position : Part
  method : Part
  column_name : Part
  names : Part
  bracketed_names : Part
  window : Part
  condition : Part
  conjunction : Part
  atom : Part
  comparison : Part
  operand : Part
  pieces : Part
  piece : Part

-- What a production asks for: nothing more; what can't be; a token of a kind and what follows it, or
-- else another form; a part and what follows it.
pub data Form : Type 0 where
  done : Form
  fail : Form
  pick : TokenKind → Form → Form → Form
  sub : Part → Form → Form

-- a token of this kind, and no other
abbrev pub need : TokenKind → Form → Form
need kind form = pick kind form fail

abbrev pub define_route_form : Form
define_route_form = need kinds.Name (need kinds.From (sub measure (need kinds.To (sub measure done))))

abbrev pub define_referent_form : Form
define_referent_form = need kinds.Name (need kinds.Name (need kinds.At (sub position done)))

abbrev pub define_index_form : Form
define_index_form = need kinds.Name (need kinds.On (need kinds.Name (need kinds.LeftParen (need kinds.Name (need kinds.RightParen done)))))

abbrev pub define_view_form : Form
define_view_form = need kinds.Name (need kinds.As (sub query done))

abbrev pub define_table_form : Form
define_table_form = need kinds.Table (need kinds.Name (need kinds.LeftParen (sub columns (need kinds.RightParen done))))

abbrev pub define_alignment_form : Form
define_alignment_form = need kinds.Name (need kinds.LeftParen (sub pieces (need kinds.RightParen done)))

abbrev pub define_form : Form
define_form =
    pick kinds.Route define_route_form (pick kinds.Referent define_referent_form (pick kinds.View define_view_form
    (pick kinds.Alignment define_alignment_form (pick kinds.Index define_index_form (pick kinds.Line define_table_form (need kinds.Point define_table_form))))))

-- the name of what is dropped
abbrev pub drop_name_form : Form
drop_name_form = need kinds.Name done

abbrev pub drop_referent_form : Form
drop_referent_form = need kinds.Name (need kinds.Name done)

abbrev pub drop_form : Form
drop_form =
    pick kinds.Route drop_name_form (pick kinds.Table drop_name_form (pick kinds.View drop_name_form
    (pick kinds.Alignment drop_name_form (pick kinds.Index drop_name_form (need kinds.Referent drop_referent_form)))))

abbrev pub move_form : Form
move_form = need kinds.Referent (need kinds.Name (need kinds.Name (need kinds.To (sub position done))))

-- after FROM
abbrev pub span_form : Form
span_form = sub position (need kinds.To (sub position done))

abbrev pub place_form : Form
place_form = pick kinds.From span_form (need kinds.At (sub position done))

abbrev pub insert_form : Form
insert_form =
    need kinds.Into (need kinds.Name (need kinds.On (need kinds.Name
    (sub place (need kinds.Values (need kinds.LeftParen (sub values (need kinds.RightParen done))))))))

-- which rows are removed, if it is said
abbrev pub removal_form : Form
removal_form = pick kinds.Where (sub condition done) done

abbrev pub remove_form : Form
remove_form = need kinds.Name (need kinds.On (sub window removal_form))

abbrev pub translate_form : Form
translate_form = need kinds.Name (sub position (need kinds.As (sub method done)))

-- the method of a query's positions, if one is named
abbrev pub wanted_form : Form
wanted_form = pick kinds.As (sub method done) done

abbrev pub select_form : Form
select_form = sub query wanted_form

-- the column that is summed, if one is named
abbrev pub summed_form : Form
summed_form = pick kinds.Sum (need kinds.Name done) done

abbrev pub total_form : Form
total_form = sub query (need kinds.By (sub bracketed_names summed_form))

abbrev pub explain_form : Form
explain_form = sub query done

abbrev pub open_form : Form
open_form = need kinds.Name (need kinds.For (sub query wanted_form))

abbrev pub fetch_form : Form
fetch_form = need kinds.Name (need kinds.Whole done)

abbrev pub close_form : Form
close_form = need kinds.Name done

abbrev pub command_form : Form
command_form =
    pick kinds.Define define_form (pick kinds.Drop drop_form (pick kinds.Move move_form
    (pick kinds.Insert insert_form (pick kinds.Remove remove_form (pick kinds.Translate translate_form
    (pick kinds.Select select_form (pick kinds.Total total_form (pick kinds.Explain explain_form
    (pick kinds.Open open_form (pick kinds.Fetch fetch_form (pick kinds.Close close_form
    (pick kinds.Save done (need kinds.Reopen done)))))))))))))

abbrev pub columns_form : Form
columns_form = sub column (pick kinds.Comma (sub columns done) done)

abbrev pub type_form : Form
type_form = pick kinds.Int done (need kinds.Text (need kinds.LeftParen (need kinds.Whole (need kinds.RightParen done))))

abbrev pub column_form : Form
column_form = need kinds.Name type_form

abbrev pub values_form : Form
values_form = sub value (pick kinds.Comma (sub values done) done)

-- a number, or a text
abbrev pub literal_form : Form
literal_form = pick kinds.MinusSign (need kinds.Whole done) (pick kinds.Whole done (need kinds.Quoted done))

abbrev pub value_form : Form
value_form = pick kinds.Null done literal_form

abbrev pub measure_form : Form
measure_form = pick kinds.Whole done (need kinds.Decimal done)

-- after a referent's name: a measure beyond it or before it, or nothing
abbrev pub offset_form : Form
offset_form = pick kinds.PlusSign (sub measure done) (pick kinds.MinusSign (sub measure done) done)

abbrev pub position_form : Form
position_form = pick kinds.AtSign (need kinds.Name offset_form) (sub measure (pick kinds.PercentSign done done))

abbrev pub method_form : Form
method_form = pick kinds.Absolute done (pick kinds.Relative done (need kinds.Interpolative done))

-- a query in brackets, and what is after it in them
abbrev pub operand_query_form : Form → Form
operand_query_form form = need kinds.LeftParen (sub query (need kinds.Comma form))

abbrev pub where_form : Form
where_form = operand_query_form (sub condition (need kinds.RightParen done))

abbrev pub dissolve_form : Form
dissolve_form = operand_query_form (sub bracketed_names (need kinds.RightParen done))

abbrev pub rename_form : Form
rename_form = operand_query_form (need kinds.Name (need kinds.To (need kinds.Name (need kinds.RightParen done))))

-- two queries in brackets
abbrev pub pair_form : Form
pair_form = operand_query_form (sub query (need kinds.RightParen done))

abbrev pub window_query_form : Form
window_query_form = operand_query_form (sub window (need kinds.RightParen done))

abbrev pub transform_form : Form
transform_form = operand_query_form (need kinds.Name (need kinds.RightParen done))

-- a query in brackets, alone
abbrev pub gaps_form : Form
gaps_form = need kinds.LeftParen (sub query (need kinds.RightParen done))

abbrev pub query_form : Form
query_form =
    pick kinds.Where where_form (pick kinds.Dissolve dissolve_form (pick kinds.Rename rename_form
    (pick kinds.Overlay pair_form (pick kinds.Cover pair_form (pick kinds.Merge pair_form (pick kinds.Minus pair_form
    (pick kinds.Window window_query_form (pick kinds.Transform transform_form (pick kinds.Gaps gaps_form (need kinds.Name done))))))))))

abbrev pub column_name_form : Form
column_name_form = need kinds.Name done

abbrev pub names_form : Form
names_form = sub column_name (pick kinds.Comma (sub names done) done)

-- names in brackets, perhaps none
abbrev pub bracketed_names_form : Form
bracketed_names_form = need kinds.LeftParen (pick kinds.RightParen done (sub names (need kinds.RightParen done)))

-- a route, or a part of it
abbrev pub window_form : Form
window_form = need kinds.Name (pick kinds.From span_form done)

abbrev pub pieces_form : Form
pieces_form = sub piece (pick kinds.Comma (sub pieces done) done)

-- the part of a route that is carried, and where to
abbrev pub piece_form : Form
piece_form =
    need kinds.Name (need kinds.From (sub measure (need kinds.To (sub measure
    (need kinds.Into (need kinds.Name (need kinds.At (sub measure done))))))))

abbrev pub condition_form : Form
condition_form = sub conjunction (pick kinds.Or (sub condition done) done)

abbrev pub conjunction_form : Form
conjunction_form = sub atom (pick kinds.And (sub conjunction done) done)

-- after an opening bracket
abbrev pub inside_form : Form
inside_form = sub condition (need kinds.RightParen done)

-- after a column and IS
abbrev pub null_form : Form
null_form = pick kinds.Not (need kinds.Null done) (need kinds.Null done)

-- after a column
abbrev pub test_form : Form
test_form = pick kinds.Is null_form (sub comparison (sub operand done))

abbrev pub atom_form : Form
atom_form = pick kinds.LeftParen inside_form (pick kinds.Not (need kinds.LeftParen inside_form) (need kinds.Name test_form))

abbrev pub comparison_form : Form
comparison_form =
    pick kinds.Equal done (pick kinds.Unequal done (pick kinds.Less done
    (pick kinds.LessOrEqual done (pick kinds.Greater done (need kinds.GreaterOrEqual done)))))

abbrev pub operand_form : Form
operand_form = pick kinds.Name done literal_form

-- the table
unfoldable pub rules : Part → Form
rules command = command_form
rules place = place_form
rules columns = columns_form
rules column = column_form
rules values = values_form
rules value = value_form
rules measure = measure_form
rules query = query_form
rules position = position_form
rules method = method_form
rules column_name = column_name_form
rules names = names_form
rules bracketed_names = bracketed_names_form
rules window = window_form
rules condition = condition_form
rules conjunction = conjunction_form
rules atom = atom_form
rules comparison = comparison_form
rules operand = operand_form
rules pieces = pieces_form
rules piece = piece_form

-- Some tokens at the front are what the form asks for, and these are left.
pub data Derives : Form → List TokenKind → List TokenKind → Type 0 where
  nothing : {tokens : List TokenKind} → Derives done tokens tokens
  this : {kind : TokenKind} {form other : Form} {tokens left : List TokenKind}
      → Derives form tokens left → Derives (pick kind form other) (kind ∷ tokens) left
  that : {kind : TokenKind} {form other : Form} {tokens left : List TokenKind}
      → Derives other tokens left → Derives (pick kind form other) tokens left
  part : {p : Part} {form : Form} {tokens middle left : List TokenKind}
      → Derives (rules p) tokens middle → Derives form middle left → Derives (sub p form) tokens left

-- the tokens are a command
abbrev pub IsCommand : List TokenKind → Type 0
IsCommand tokens = Derives (rules command) tokens []

-- some command begins with the tokens
abbrev pub IsViable : List TokenKind → Type 0
IsViable front = (more : List TokenKind) × IsCommand (front ++ more)

-- how many brackets are open after a token
abbrev pub open_after : ℕ → TokenKind → ℕ
open_after open_before kinds.LeftParen = open_before + 1
open_after open_before kinds.RightParen = open_before - 1
open_after open_before _ = open_before

-- no token opens a bracket too many
abbrev pub is_shallow : ℕ → List TokenKind → Bool
is_shallow open_before [] = true
is_shallow open_before (kind ∷ kinds) = nat_le (open_after open_before kind) BRACKETS && is_shallow (open_after open_before kind) kinds

-- at most BRACKETS brackets are open at once
abbrev pub IsShallow : List TokenKind → Type 0
IsShallow tokens = IsTrue (is_shallow 0 tokens)
