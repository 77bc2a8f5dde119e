use Rattle.std.proofs.Common.{rules, ◌≡◌, ℕ, ◌+◌, ◌-◌, ◌≤◌, List, length, take, drop, get_or, None, sym, ap, ◌∙◌, subst, inr, refl, eqb-true, false-eqb, arith}
use Rattle.std.proofs.lemmas.List.{take_rest}
use Rattle.rs_lexer.specs.Lexis.{token_kind, IsLongestToken}
use Rattle.rs_lexer.proofs.CutLaws.{IsCutSoFar, has_a_byte, so_far-blank, so_far-token, so_far-end, so_far-none}
use Rattle.rs_lexer.proofs.token.tokens.Goals as goal

-- the bytes from a place on, as the code and as the cut see them
rest_is : (bytes line : List ℕ) (place : ℕ) → bytes ≡ line → take (length bytes - place) (drop place bytes) ≡ drop place line
rest_is bytes line place same = take_rest bytes place ∙ ap (drop place) same

pub loop-place-preserved-then-is_blank : goal.loop-place-preserved-then-is_blank
loop-place-preserved-then-is_blank c =
    let same = c.as_bytes-bytes.ensures.value in
    so_far-blank c.args.line.now c.args.from c.loop-place.place c.loop-place.tokens.items c.loop-place.invariant (omega (arith, ap length same))
    (ap (λ bytes. get_or bytes c.loop-place.place 0) (sym same) ∙ eqb-true (get_or c.as_bytes-bytes.result.now c.loop-place.place 0) 32 (sym c.is_blank.ensures ∙ c.if-is_blank.true))

pub returns-in_default-clause-refused : goal.returns-in_default-clause-refused
returns-in_default-clause-refused c =
    let same = c.as_bytes-bytes.ensures.value in
    let none = subst (λ rest. (count : ℕ) → count ≤ length rest → token_kind (take count rest) ≡ None) (rest_is c.as_bytes-bytes.result.now c.args.line.now c.loop-place.place same) c.in_default.ensures in
    inr (
      refl,
      so_far-none c.args.line.now c.args.from c.loop-place.place c.loop-place.tokens.items c.loop-place.invariant none (omega (arith, ap length same))
          (λ blank. false-eqb (get_or c.as_bytes-bytes.result.now c.loop-place.place 0) 32 (sym c.if-is_blank.false ∙ c.is_blank.ensures) (ap (λ bytes. get_or bytes c.loop-place.place 0) same ∙ blank)),
    )

pub loop-place-smaller : goal.loop-place-smaller
loop-place-smaller c =
    let some = has_a_byte _ _ _ c.in-Some.ensures in
    omega arith

pub loop-place-preserved : goal.loop-place-preserved
loop-place-preserved c =
    let same = c.as_bytes-bytes.ensures.value in
    let longest = subst (λ rest. IsLongestToken rest c.in-Some.kind c.in-Some.length) (rest_is c.as_bytes-bytes.result.now c.args.line.now c.loop-place.place same) c.in-Some.ensures in
    subst (λ tokens. IsCutSoFar c.args.line.now c.args.from tokens (c.loop-place.place + c.in-Some.length)) (sym c.in_ok-push.ensures.items)
    (so_far-token c.args.line.now c.args.from c.loop-place.place c.loop-place.tokens.items c.in-Some.kind c.in-Some.length c.loop-place.invariant (omega (arith, ap length same)) longest)

pub returns-clause-cut : goal.returns-clause-cut
returns-clause-cut c = so_far-end c.args.line.now c.args.from c.loop-place.place c.loop-place.tokens.items c.loop-place.invariant (omega (arith, ap length c.as_bytes-bytes.ensures.value))

pub loop-place-init : goal.loop-place-init
loop-place-init c = search rules
