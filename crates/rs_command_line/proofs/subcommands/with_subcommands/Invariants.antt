use Rattle.std.proofs.Common.{◌≡◌, drop}
use Rattle.clap.specs.Words.{app_of}
use Rattle.rs_command_line.specs.Table.{with_subcommands}
use Rattle.rs_command_line.proofs.subcommands.with_subcommands.Given as goal

abbrev pub invariant-loop-subcommand : goal.invariant-loop-subcommand
invariant-loop-subcommand l =
    with_subcommands (app_of l.program) (drop l.subcommand-index l.subcommands) ≡ with_subcommands (app_of l.fn.program) l.subcommands
