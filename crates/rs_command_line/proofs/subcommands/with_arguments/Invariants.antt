use Rattle.std.proofs.Common.{◌≡◌, drop}
use Rattle.clap.specs.Words.{app_of}
use Rattle.rs_command_line.specs.Table.{with_arguments}
use Rattle.rs_command_line.proofs.subcommands.with_arguments.Given as goal

abbrev pub invariant-loop-argument : goal.invariant-loop-argument
invariant-loop-argument l =
    with_arguments (app_of l.command) (drop l.argument-index l.arguments) ≡ with_arguments (app_of l.fn.command) l.arguments
