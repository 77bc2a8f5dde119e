use Rattle.std.proofs.Common.{get_or, sym, ap, ◌∙◌, arith}
use Rattle.rs_grammar.specs.declared.kind.TokenKind.TheVariants as kinds
use Rattle.rs_lexer.specs.declared.token.Token.{Token}
use Rattle.rs_grammar.specs.Grammar.{open_after}
use Rattle.rs_syntax.proofs.BracketLaws.{open_after-other, counted_more, shallow_more, too_deep}
use Rattle.rs_parser.proofs.parser.shallow_count.Goals as goal
use Rattle.rs_parser.proofs.parser.shallow_count.Goals.{in-LeftParen+else-open-eq-BRACKETS, in-RightParen, in_default}

-- what a list of tokens gives past its end
abbrev blank : Token
blank = record { kind = kinds.Absolute; first = 0; length = 0 }

pub returns-then-open-eq-BRACKETS-clause-too_deep : goal.returns-then-open-eq-BRACKETS-clause-too_deep
returns-then-open-eq-BRACKETS-clause-too_deep c = λ inside.
    let before = c.loop-place.invariant in
    let opened = ap (open_after c.loop-place.open) c.in-LeftParen.is in
    too_deep c.args.tokens.now c.loop-place.place c.loop-place.open blank inside before.counted (omega (arith, opened, c.if-open-eq-BRACKETS.true))

pub loop-place-preserved : goal.loop-place-preserved
loop-place-preserved c =
    let before = c.loop-place.invariant in
    elim c.match-token.branch [
      | in-LeftParen+else-open-eq-BRACKETS w ↦
          let opened = ap (open_after c.loop-place.open) w.in-LeftParen.is in
          let ne = w.if-open-eq-BRACKETS.false in
          record {
            counted = counted_more c.args.tokens.now c.loop-place.place c.loop-place.open blank c.loop-place-test.true before.counted c.match-token.open (w.open-is ∙ sym opened);
            within = omega (arith, before.within, w.open-is);
            shallow = shallow_more c.args.tokens.now c.loop-place.place c.loop-place.open blank c.loop-place-test.true before.counted before.shallow (omega (arith, opened, before.within));
          }
      | in-RightParen w ↦
          let opened = ap (open_after c.loop-place.open) w.in-RightParen.is in
          record {
            counted = counted_more c.args.tokens.now c.loop-place.place c.loop-place.open blank c.loop-place-test.true before.counted c.match-token.open (w.open-is ∙ w.saturating_sub-open.ensures ∙ sym opened);
            within = omega (arith, before.within, w.open-is, w.saturating_sub-open.ensures);
            shallow = shallow_more c.args.tokens.now c.loop-place.place c.loop-place.open blank c.loop-place-test.true before.counted before.shallow (omega (arith, opened, before.within));
          }
      | in_default w ↦
          let opened = open_after-other c.loop-place.open (get_or c.args.tokens.now c.loop-place.place blank).kind w.in_default.not-LeftParen w.in_default.not-RightParen in
          record {
            counted = counted_more c.args.tokens.now c.loop-place.place c.loop-place.open blank c.loop-place-test.true before.counted c.match-token.open (w.open-is ∙ sym opened);
            within = omega (arith, before.within, w.open-is);
            shallow = shallow_more c.args.tokens.now c.loop-place.place c.loop-place.open blank c.loop-place-test.true before.counted before.shallow (omega (arith, opened, before.within));
          }
    ]
