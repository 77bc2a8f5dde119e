use Rattle.std.proofs.Common.{◌-◌, ◌<◌, ℕ, List, length, refl, sym, ap, ◌∙◌, subst, arith}
use Rattle.std.specs.Borrow.{Bor}
use Rattle.rs_lexer.specs.Lexis.{IsTokenOf}
use Rattle.rs_meaning.proofs.ViewTexts.{view_text_ends, cut_between}
use Rattle.rs_meaning.proofs.meaning.view_text.Goals as goal

pub returns-in-Some-Some : goal.returns-in-Some-Some
returns-in-Some-Some c =
    let line = c.args.line.now in
    let tokens = c.args.tokens.now in
    let first = c.in-Some-Some.first.now in
    let last = c.in-Some-Some.last.now in
    let some : 4 < length tokens = c.in-Some-Some.ensures.lookup.3.0 in
    let begins = subst (IsTokenOf line) (sym c.in-Some-Some.ensures.lookup.1) (c.requires 4 first some) in
    let ends = subst (IsTokenOf line) (sym c.in-Some-Some.ensures'.item.1) (c.requires (length tokens - 1) last (omega arith)) in
    ap (λ (b : Bor (List ℕ)). b.now) c.unwrap_or.ensures
    ∙ cut_between line first last c.get-in-Some-Some.result _ c.utf8.line begins ends c.get-in-Some-Some.ensures.cases refl
    ∙ sym (view_text_ends line tokens (length tokens - 1) first last some c.in-Some-Some.ensures.lookup.1 (omega arith) c.in-Some-Some.ensures'.item.1)
