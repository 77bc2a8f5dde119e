use Rattle.std.proofs.Common.{◌≡◌, ◌∙◌, ◌<◌, ◌+◌, ℕ, Bor, ap, sym, false, refl, List, [], ◌∷◌, drop, get_or, length}
use Rattle.std.proofs.lemmas.List.{at_drop_more}
use Rattle.clap.specs.Words.{AddsSubcommand, App, app_of, with_rule, with_subcommand}
use Rattle.clap.specs.declared.builder.command.Command.{Command}
use Rattle.clap.specs.declared.builder.command.Command.TheViews.{out-Command}
use Rattle.clap.proofs.SimpleLemmas.{plain_fields}
use Rattle.rs_command_line.specs.Table.{app_by, rule_by, with_arguments, with_subcommands}
use Rattle.rs_command_line.specs.declared.arguments.Argument.{Argument}
use Rattle.rs_command_line.specs.declared.subcommands.Subcommand.{Subcommand}
use Rattle.rs_command_line.proofs.subcommands.with_subcommands.Goals as goal

-- arguments leave a command's settings as they are
still_plain : (app : App) (arguments : List Argument) → (with_arguments app arguments).top.is_plain ≡ app.top.is_plain
still_plain app [] = refl
still_plain app (argument ∷ others) = still_plain (with_rule app (rule_by argument)) others

-- a command of the table has no global argument
local : (command : Command) (subcommand : Subcommand) → app_of command ≡ app_by subcommand → (out-Command command).has_globals ≡ false
local command subcommand is = (plain_fields command (ap (λ (a : App). a.top.is_plain) is ∙ still_plain _ subcommand.arguments.now)).globals

one_more : (old command new : Command) (l : List Subcommand) (i : ℕ) (none : Subcommand) → i < length l → app_of command ≡ app_by (get_or l i none) → AddsSubcommand old command new
    → with_subcommands (app_of new) (drop (i + 1) l) ≡ with_subcommands (app_of old) (drop i l)
one_more old command new l i none before is adds =
    let added : app_of new ≡ with_subcommand (app_of old) (app_by (get_or l i none)).top = adds.shape (local command (get_or l i none) is) ∙ ap (λ (a : App). with_subcommand (app_of old) a.top) is in
    ap (λ (a : App). with_subcommands a (drop (i + 1) l)) added ∙ sym (at_drop_more (with_subcommands (app_of old)) l i none before)

abbrev no_text : Bor (List ℕ)
no_text = record { ref_ptr = (0, 0); now = [] }

pub loop-subcommand-preserved : goal.loop-subcommand-preserved
loop-subcommand-preserved c =
    one_more _ _ _ _ _ (record { name = no_text; about = no_text; arguments = record { ref_ptr = (0, 0); now = [] } }) c.loop-subcommand-test.true c.in_ok-command.ensures c.in_ok-program.ensures
    ∙ c.loop-subcommand.invariant
