use Rattle.std.proofs.Common.{◌≡◌, ◌++◌, string_bytes, false, sym, ap, ◌∙◌, subst, arith}
use Rattle.std.proofs.lemmas.Str.{lead_after_ascii}
use Rattle.std.specs.Char.{encode_utf8}
use Rattle.std.specs.Str.Iter.{chars_rest}
use Rattle.rs_grammar.specs.declared.kind.TokenKind.TheVariants as kinds
use Rattle.rs_syntax.specs.Written.{unquoted, unquoted_rest}
use Rattle.rs_lexer.proofs.TokenLaws.{first_is_ascii}
use Rattle.rs_syntax.proofs.UnquotedLaws.{unquoted-behind, unquoted-other, unquoted-quote}
use Rattle.rs_meaning.proofs.MeaningLaws.{unquoted_more}
use Rattle.rs_meaning.proofs.meaning.unquoted.Goals as goal
use Rattle.rs_meaning.proofs.meaning.unquoted.Goals.{else-character-eq39-via-then-character-eq39+else-not-is_behind_quote, else-character-eq39-via-else-character-eq39}

pub range_from-rest-requires : goal.range_from-rest-requires
range_from-rest-requires c = λ _.
    let first = first_is_ascii c.args.quoted.now kinds.Quoted c.requires in
    (omega (arith, first.0), λ lt. lead_after_ascii c.args.quoted.now 0 c.utf8.quoted first.1 lt)

pub loop-character-preserved-then-not-is_behind_quote : goal.loop-character-preserved-then-not-is_behind_quote
loop-character-preserved-then-not-is_behind_quote c =
    let rest = chars_rest c.next.new.self in
    let quote = sym (unquoted-quote c.in-Some.character rest c.if-character-eq39.true) in
    let front = ap (λ b. unquoted_rest b (encode_utf8 c.in-Some.character ++ rest)) (sym c.if-not-is_behind_quote.true) in
    let next = ap (unquoted_rest c.loop-character.is_behind_quote) (sym c.in-Some.ensures.steps.0) in
    ap (λ bs. string_bytes c.loop-character.text ++ bs) (quote ∙ front ∙ next) ∙ c.loop-character.invariant

pub loop-character-preserved : goal.loop-character-preserved
loop-character-preserved c =
    let pushed = c.in_ok-push.ensures.bytes in
    let before = c.loop-character.invariant in
    let next = c.in-Some.ensures.steps.0 in
    let stands : unquoted_rest c.loop-character.is_behind_quote (encode_utf8 c.in-Some.character ++ chars_rest c.next.new.self) ≡ encode_utf8 c.in-Some.character ++ unquoted_rest false (chars_rest c.next.new.self) =
    elim c.else-character-eq39.branch [
      | else-character-eq39-via-then-character-eq39+else-not-is_behind_quote w ↦ subst (λ b. unquoted_rest b (encode_utf8 c.in-Some.character ++ chars_rest c.next.new.self) ≡ encode_utf8 c.in-Some.character ++ unquoted_rest false (chars_rest c.next.new.self)) (sym w.if-not-is_behind_quote.false) (unquoted-behind c.in-Some.character (chars_rest c.next.new.self))
      | else-character-eq39-via-else-character-eq39 w ↦ unquoted-other c.loop-character.is_behind_quote c.in-Some.character (chars_rest c.next.new.self) w.if-character-eq39.false
    ] in
    ap (λ bs. bs ++ unquoted_rest false (chars_rest c.next.new.self)) pushed
    ∙ unquoted_more (string_bytes c.loop-character.text) (chars_rest c.loop-character.character-iterator) (chars_rest c.next.new.self) c.in-Some.character c.loop-character.is_behind_quote (unquoted c.args.quoted.now) before next stands
