use Rattle.std.proofs.Common.{sym, ◌∙◌}
use Rattle.rs_lexer.proofs.LongestLaws.{none_found, none_in_empty, other_found, word_found}
use Rattle.rs_lexer.proofs.scan.front_token.Goals as goal

pub returns-in_err-first : goal.returns-in_err-first
returns-in_err-first c = rw c.from_residual.ensures (none_in_empty c.args.bytes.now c.in_err-first.ensures.cases)

pub returns-then-is_ascii_alphabetic : goal.returns-then-is_ascii_alphabetic
returns-then-is_ascii_alphabetic c =
    word_found c.args.bytes.now c.in_ok-first.first.now c.in_ok-first.rest.now c.word_kind.result c.word_length-count.result c.in_ok-first.ensures.cases.0
    (sym c.is_ascii_alphabetic.ensures.value ∙ c.if-is_ascii_alphabetic.true) c.word_length-count.ensures.count c.word_kind.ensures

pub returns-in_err-kind : goal.returns-in_err-kind
returns-in_err-kind c = rw c.from_residual-in_err-kind.ensures (none_found c.args.bytes.now c.in_ok-first.first.now c.in_ok-first.rest.now c.in_ok-first.ensures.cases.0 c.in_err-kind.ensures)

pub returns : goal.returns
returns c = other_found c.args.bytes.now c.in_ok-first.first.now c.in_ok-first.rest.now c.in_ok-kind.kind c.in_ok-kind.count c.in_ok-first.ensures.cases.0 c.in_ok-kind.ensures
