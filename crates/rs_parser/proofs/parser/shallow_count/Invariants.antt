use Rattle.std.proofs.Common.{◌≡◌, ◌≤◌, true, take}
use Rattle.rs_grammar.specs.declared.kind.TheConstants.{BRACKETS}
use Rattle.rs_lexer.specs.Lexis.{kinds_of}
use Rattle.rs_grammar.specs.Grammar.{is_shallow}
use Rattle.rs_syntax.proofs.BracketLaws.{open_behind}
use Rattle.rs_parser.proofs.parser.shallow_count.Given as goal

abbrev pub invariant-loop-place : goal.invariant-loop-place
invariant-loop-place l = record {
  counted : l.open ≡ open_behind 0 (take l.place (kinds_of l.tokens));
  within : l.open ≤ BRACKETS;
  shallow : is_shallow 0 (take l.place (kinds_of l.tokens)) ≡ true;
}
