use Rattle.std.proofs.Common.{rules}
use Rattle.rs_parser.proofs.parser.syntax_fault.Goals as goal

pub returns-in-Some : goal.returns-in-Some
returns-in-Some c = search rules
