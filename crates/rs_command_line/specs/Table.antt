-- What the rows of the table of commands are for `clap`.
use Rattle.std.specs.Prelude.{List, pos, Some, [], ◌∷◌, codes}
use Rattle.clap.specs.Words.{App, Rule, Text, new_app, new_rule, with_rule, with_subcommand}
use Rattle.clap.specs.declared.builder.action.ArgAction.TheVariants.{Append}
use Rattle.clap.specs.declared.builder.value_parser.ValueParser.TheVariants.{Signed}
use Rattle.rs_command_line.specs.declared.arguments.Argument.{Argument}
use Rattle.rs_command_line.specs.declared.arguments.Form.{Form}
use Rattle.rs_command_line.specs.declared.arguments.Form.TheVariants as form
use Rattle.rs_command_line.specs.declared.subcommands.Subcommand.{Subcommand}
use Rattle.rs_command_line.specs.CommandLine.{flag, text_option, texts_option}

-- an argument of this name, where it is written so and need not be given
abbrev pub rule_by_form : Form → Text → Rule
rule_by_form form.Flag id = flag id
rule_by_form (form.Value name) id = text_option id
rule_by_form (form.Values name) id = texts_option id
rule_by_form (form.Word name) id = record (new_rule id) { value_names = 1 }
rule_by_form (form.Words name) id = record (new_rule id) { value_names = 1; action = Some Append }
rule_by_form form.Address id = record (text_option id) { defaults = codes "127.0.0.1:7400" ∷ [] }
rule_by_form form.Connections id =
    record (text_option id) { defaults = codes "1" ∷ []; parser = Some (Signed (pos 1) (pos 1000000)) }

abbrev pub rule_by : Argument → Rule
rule_by argument = record (rule_by_form argument.form argument.id.now) { required = argument.is_required }

-- a command with arguments added
abbrev pub with_arguments : App → List Argument → App
with_arguments app [] = app
with_arguments app (argument ∷ others) = with_arguments (with_rule app (rule_by argument)) others

abbrev pub app_by : Subcommand → App
app_by subcommand = with_arguments (new_app subcommand.name.now) subcommand.arguments.now

-- a program with commands added
abbrev pub with_subcommands : App → List Subcommand → App
with_subcommands app [] = app
with_subcommands app (subcommand ∷ others) =
    with_subcommands (with_subcommand app (app_by subcommand).top) others
