-- The command line that the program takes.
use Rattle.std.specs.Prelude.{Bool, true, false, pos, Some, [], ◌∷◌, codes}
use Rattle.clap.specs.Words.{App, Rule, Text, new_app, new_rule, with_rule, with_subcommand}
use Rattle.clap.specs.Simple.{on_top}
use Rattle.clap.specs.declared.builder.action.ArgAction.TheVariants.{Append, SetTrue}
use Rattle.clap.specs.declared.builder.value_parser.ValueParser.TheVariants.{Signed}

-- `--file FILE`, which is required or not
abbrev pub file_option : Bool → Rule
file_option required =
    record (new_rule (codes "file")) { long = Some (codes "file"); value_names = 1; required = required }

-- `--listen ADDRESS`, with a default
abbrev pub listen_option : Rule
listen_option = record (new_rule (codes "listen")) {
  long = Some (codes "listen");
  value_names = 1;
  defaults = codes "127.0.0.1:7400" ∷ [];
}

-- `--connections NUMBER`, a whole number from 1 to 1000000, with a default
abbrev pub connections_option : Rule
connections_option = record (new_rule (codes "connections")) {
  long = Some (codes "connections");
  value_names = 1;
  defaults = codes "1" ∷ [];
  parser = Some (Signed (pos 1) (pos 1000000));
}

abbrev pub create_command : App
create_command = with_rule (new_app (codes "create")) (file_option true)

-- `--ID TEXT`
abbrev pub text_option : Text → Rule
text_option id = record (new_rule id) { long = Some id; value_names = 1 }

-- `--column COLUMN=NAME` and `--scale COLUMN=NUMBER`, as often as they are wanted
abbrev pub texts_option : Text → Rule
texts_option id = record (text_option id) { action = Some Append }

abbrev pub column_option : Rule
column_option = texts_option (codes "column")

abbrev pub scale_option : Rule
scale_option = texts_option (codes "scale")

-- `--ID`
abbrev pub flag : Text → Rule
flag id = record (new_rule id) { long = Some id; action = Some SetTrue }

-- what stands by itself: the questions of `ask`, one at least, the DEFINE TABLE of `csv`, and the number of `explain`
abbrev pub question_argument : Rule
question_argument = record (new_rule (codes "question")) { value_names = 1; action = Some Append; required = true }

abbrev pub define_argument : Rule
define_argument = record (new_rule (codes "define")) { value_names = 1; required = true }

abbrev pub refusal_argument : Rule
refusal_argument = record (new_rule (codes "refusal")) { value_names = 1 }

abbrev pub run_command : App
run_command = with_rule (with_rule (with_rule (with_rule (new_app (codes "run")) (file_option false)) (flag (codes "bail"))) (flag (codes "report"))) (flag (codes "csv"))

abbrev pub ask_command : App
ask_command = with_rule (with_rule (new_app (codes "ask")) (file_option true)) question_argument

abbrev pub csv_command : App
csv_command =
    let fields = with_rule (with_rule (with_rule (with_rule (with_rule (new_app (codes "csv")) define_argument) (text_option (codes "route"))) (text_option (codes "from")))
    (text_option (codes "to"))) (text_option (codes "at")) in
    let lines = with_rule (with_rule (with_rule (with_rule fields column_option) (text_option (codes "session"))) (flag (codes "no-define"))) (flag (codes "routes")) in
    let options = with_rule (with_rule (with_rule (with_rule (with_rule lines (flag (codes "round"))) (text_option (codes "separator"))) scale_option) (flag (codes "names"))) (flag (codes "latin1")) in
    with_rule (with_rule (with_rule (with_rule options (text_option (codes "number"))) (text_option (codes "rejects"))) (text_option (codes "names-file"))) (text_option (codes "stations"))

abbrev pub table_command : App
table_command = with_rule (new_app (codes "table")) (text_option (codes "separator"))

abbrev pub dump_command : App
dump_command = with_rule (with_rule (with_rule (new_app (codes "dump")) (file_option true)) (flag (codes "definitions"))) (text_option (codes "table"))

abbrev pub explain_command : App
explain_command = with_rule (new_app (codes "explain")) refusal_argument

abbrev pub serve_command : App
serve_command =
    with_rule (with_rule (with_rule (new_app (codes "serve")) (file_option true)) listen_option)
    connections_option

-- the program's own name, its version, and after it one of the commands, without which the words are refused
abbrev pub command_line : App
command_line =
    let top = on_top (λ top. record top { has_version = true; subcommand_required = true })
    (new_app (codes "roadseg")) in
    with_subcommand (with_subcommand (with_subcommand (with_subcommand (with_subcommand (with_subcommand (with_subcommand (with_subcommand top create_command.top) run_command.top)
    ask_command.top) csv_command.top) table_command.top) dump_command.top) explain_command.top) serve_command.top
