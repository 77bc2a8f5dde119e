-- Steps of reading conditions: how what has been read is spelled.
use Rattle.std.proofs.Common.{◌≡◌, List, [], ◌∷◌, ◌++◌, sym, ap, ◌∙◌, append_assoc, arith, length-append, refl}
use Rattle.std.specs.Prelude.{Vec}
use Rattle.std.specs.declared.alloc.Global.{Global}
use Rattle.rs_grammar.specs.declared.kind.TokenKind.TheVariants as kinds
use Rattle.rs_grammar.specs.Grammar.{atom, conjunction, condition, rules}
use Rattle.rs_lexer.specs.declared.token.Token.{Token}
use Rattle.rs_syntax.specs.declared.written.WrittenAtom.{WrittenAtom}
use Rattle.rs_syntax.specs.declared.written.WrittenAtom.TheVariants as atoms
use Rattle.rs_syntax.specs.Written.{Lexeme, mark, atom_lexemes, conjunction_lexemes, condition_lexemes, lexemes_of}
use Rattle.rs_syntax.specs.WrittenView.{atom_syntax, conjunction_syntax, condition_syntax}
use Rattle.rs_syntax.proofs.ChainLaws.{bracket_written, negation_written, conjunction_spelled, condition_spelled}
use Rattle.rs_descent.proofs.Steps.{IsListSoFar, list-spelled}

abbrev pub part_lexemes : WrittenAtom → List Lexeme
part_lexemes part = atom_lexemes (atom_syntax part)

abbrev pub parts_lexemes : Vec WrittenAtom Global → List Lexeme
parts_lexemes parts = conjunction_lexemes (conjunction_syntax parts.items)

-- after an opening bracket: a condition and the closing one
inside-spelled : (rest behind : List Token) (parts : Vec (Vec WrittenAtom Global) Global)
    → lexemes_of rest ≡ condition_lexemes (condition_syntax parts.items) ++ mark kinds.RightParen ∷ lexemes_of behind
    → lexemes_of rest ≡ (condition_lexemes (condition_syntax parts.items) ++ mark kinds.RightParen ∷ []) ++ lexemes_of behind
inside-spelled rest behind parts inside =
    inside ∙ sym (append_assoc (condition_lexemes (condition_syntax parts.items)) (mark kinds.RightParen ∷ []) (lexemes_of behind))

pub bracket-spelled : (tokens rest behind : List Token) (parts : Vec (Vec WrittenAtom Global) Global)
    → lexemes_of tokens ≡ mark kinds.LeftParen ∷ lexemes_of rest
    → lexemes_of rest ≡ condition_lexemes (condition_syntax parts.items) ++ mark kinds.RightParen ∷ lexemes_of behind
    → lexemes_of tokens ≡ atom_lexemes (atom_syntax (atoms.Bracketed parts)) ++ lexemes_of behind
bracket-spelled tokens rest behind parts bracket inside =
    bracket ∙ ap (λ ps. mark kinds.LeftParen ∷ ps) (inside-spelled rest behind parts inside)
    ∙ ap (λ part. atom_lexemes part ++ lexemes_of behind) (sym (bracket_written parts))

pub negation-spelled : (tokens next rest behind : List Token) (parts : Vec (Vec WrittenAtom Global) Global)
    → lexemes_of tokens ≡ mark kinds.Not ∷ lexemes_of next → lexemes_of next ≡ mark kinds.LeftParen ∷ lexemes_of rest
    → lexemes_of rest ≡ condition_lexemes (condition_syntax parts.items) ++ mark kinds.RightParen ∷ lexemes_of behind
    → lexemes_of tokens ≡ atom_lexemes (atom_syntax (atoms.Negated parts)) ++ lexemes_of behind
negation-spelled tokens next rest behind parts negation bracket inside =
    negation ∙ ap (λ ps. mark kinds.Not ∷ ps) (bracket ∙ ap (λ ps. mark kinds.LeftParen ∷ ps) (inside-spelled rest behind parts inside))
    ∙ ap (λ part. atom_lexemes part ++ lexemes_of behind) (sym (negation_written parts))

-- the parts so far and the last one are the conjunction
pub conjunction-read : (tokens rest behind : List Token) (items : List WrittenAtom) (item : WrittenAtom)
    → IsListSoFar kinds.And (rules conjunction) part_lexemes tokens items rest → lexemes_of rest ≡ part_lexemes item ++ lexemes_of behind
    → lexemes_of tokens ≡ conjunction_lexemes (conjunction_syntax (items ++ item ∷ [])) ++ lexemes_of behind
unfolding rules
conjunction-read tokens rest behind items item so_far here =
    list-spelled kinds.And atom conjunction part_lexemes refl tokens rest behind items item so_far here
    ∙ ap (λ ps. ps ++ lexemes_of behind) (sym (conjunction_spelled (items ++ item ∷ []) (omega (arith, length-append items (item ∷ [])))))

-- and those of the condition
pub condition-read : (tokens rest behind : List Token) (items : List (Vec WrittenAtom Global)) (item : Vec WrittenAtom Global)
    → IsListSoFar kinds.Or (rules condition) parts_lexemes tokens items rest → lexemes_of rest ≡ parts_lexemes item ++ lexemes_of behind
    → lexemes_of tokens ≡ condition_lexemes (condition_syntax (items ++ item ∷ [])) ++ lexemes_of behind
unfolding rules
condition-read tokens rest behind items item so_far here =
    list-spelled kinds.Or conjunction condition parts_lexemes refl tokens rest behind items item so_far here
    ∙ ap (λ ps. ps ++ lexemes_of behind) (sym (condition_spelled (items ++ item ∷ []) (omega (arith, length-append items (item ∷ [])))))
