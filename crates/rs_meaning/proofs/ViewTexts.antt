-- The text of a view's query is cut out of the line.
use Rattle.std.proofs.Common.{◌≡◌, ℕ, zero, suc, ◌+◌, ◌-◌, ◌<◌, ◌≤◌, List, [], ◌∷◌, length, take, drop, get_or, Option, Some, None, ap, sym, ◌∙◌, arith}
use Rattle.std.specs.Prelude.{unwrap_or}
use Rattle.std.specs.Borrow.{Bor}
use Rattle.std.specs.Str.{IsUtf8}
use Rattle.std.specs.Str.Pattern.{GetsRange}
use Rattle.rs_lexer.specs.declared.token.Token.{Token}
use Rattle.rs_lexer.specs.Lexis.{IsTokenOf}
use Rattle.rs_lexer.proofs.TokenLaws.{start_boundary, end_boundary}
use Rattle.rs_syntax.specs.Written.{end_of, view_text}

end_of-last : (tokens : List Token) (i : ℕ) (last : Token) → i + 1 ≡ length tokens → last ≡ get_or tokens i last → end_of tokens ≡ last.first + last.length
end_of-last [] i last at e = absurd (omega arith)
end_of-last (token ∷ []) zero last at e = ap (λ (t : Token). t.first + t.length) (sym e)
end_of-last (token ∷ []) (suc i) last at e = absurd (omega arith)
end_of-last (token ∷ next ∷ tokens) zero last at e = absurd (omega arith)
end_of-last (token ∷ next ∷ tokens) (suc i) last at e = end_of-last (next ∷ tokens) i last (omega arith) e

-- where the fifth token of a line and the last begin and end
pub view_text_ends : (line : List ℕ) (tokens : List Token) (i : ℕ) (first last : Token) → 4 < length tokens → first ≡ get_or tokens 4 first
    → i + 1 ≡ length tokens → last ≡ get_or tokens i last → view_text line tokens ≡ take (last.first + last.length - first.first) (drop first.first line)
view_text_ends line [] i first last some e at f = absurd (omega arith)
view_text_ends line (a ∷ []) i first last some e at f = absurd (omega arith)
view_text_ends line (a ∷ b ∷ []) i first last some e at f = absurd (omega arith)
view_text_ends line (a ∷ b ∷ c ∷ []) i first last some e at f = absurd (omega arith)
view_text_ends line (a ∷ b ∷ c ∷ d ∷ []) i first last some e at f = absurd (omega arith)
view_text_ends line (a ∷ b ∷ c ∷ d ∷ fifth ∷ tokens) i first last some e at f =
    ap (λ n. take (n - fifth.first) (drop fifth.first line)) (end_of-last (a ∷ b ∷ c ∷ d ∷ fifth ∷ tokens) i last at f)
    ∙ ap (λ (t : Token). take (last.first + last.length - t.first) (drop t.first line)) (sym e)

-- a line cut from where one token begins to where another ends
pub cut_between : (line : List ℕ) (first last : Token) (answer : Option (Bor (List ℕ))) (none : Bor (List ℕ)) → IsUtf8 line → IsTokenOf line first → IsTokenOf line last
    → GetsRange line first.first (last.first + last.length) answer → none.now ≡ []
    → (unwrap_or answer none).now ≡ take (last.first + last.length - first.first) (drop first.first line)
cut_between line first last (Some text) none utf8 begins ends got e = got.0
cut_between line first last None none utf8 begins ends got e =
    let empty : last.first + last.length - first.first ≡ 0 = omega (arith, λ (le : first.first ≤ last.first + last.length). got le (start_boundary line first begins) (end_boundary line last ends utf8)) in
    e ∙ ap (λ n. take n (drop first.first line)) (sym empty)
