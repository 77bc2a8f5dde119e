-- How conditions and queries of the code are written: each variant, and each chain as a list with its mark.
use Rattle.std.proofs.Common.{◌≡◌, ◌<◌, ◌∷◌, ◌++◌, List, [], length, refl, sym, ap, ◌∙◌, append-nil, arith}
use Rattle.std.specs.Prelude.{map, Vec, Box}
use Rattle.std.specs.formers.vec.Vec.{mapped}
use Rattle.std.specs.declared.alloc.Global.{Global}
use Rattle.rs_grammar.specs.declared.kind.TokenKind.TheVariants as kinds
use Rattle.rs_lexer.specs.declared.token.Token.{Token}
use Rattle.rs_value.specs.declared.comparison.Comparison.{Comparison}
use Rattle.rs_syntax.specs.declared.written.PairOperator.{PairOperator}
use Rattle.rs_syntax.specs.declared.written.WrittenWindow.{WrittenWindow}
use Rattle.rs_syntax.specs.declared.written.WrittenOperand.{WrittenOperand}
use Rattle.rs_syntax.specs.declared.written.WrittenAtom.{WrittenAtom, fold-roll-WrittenAtom}
use Rattle.rs_syntax.specs.declared.written.WrittenAtom.TheOpen.{WrittenAtom-F}
use Rattle.rs_syntax.specs.declared.written.WrittenAtom.TheVariants as atoms
use Rattle.rs_syntax.specs.declared.written.WrittenQuery.{WrittenQuery, fold-roll-WrittenQuery}
use Rattle.rs_syntax.specs.declared.written.WrittenQuery.TheOpen.{WrittenQuery-F}
use Rattle.rs_syntax.specs.declared.written.WrittenQuery.TheVariants as queries
use Rattle.rs_syntax.specs.WrittenParts.{mark, list_lexemes}
use Rattle.rs_syntax.specs.WrittenQueries.{AtomSyntax, written_comparison, written_null, written_not_null, written_negation, written_bracket, QuerySyntax, written_name, written_where, written_dissolve, written_rename, written_pair, written_window, written_transform, written_gaps, atom_lexemes, conjunction_lexemes, condition_lexemes}
use Rattle.rs_syntax.specs.WrittenView.{conjunction_of, condition_of, atom_syntax_step, atom_syntax, conjunction_syntax, condition_syntax, query_syntax_step, query_syntax}

-- Parts of a condition, each variant.
pub compare_written : (name : Token) (comparison : Comparison) (operand : WrittenOperand) → atom_syntax (atoms.Compare name comparison operand) ≡ written_comparison name comparison operand
compare_written name comparison operand =
    ap atom_syntax (sym (atoms.rolls-Compare name comparison operand)) ∙ fold-roll-WrittenAtom AtomSyntax atom_syntax_step (WrittenAtom-F.Compare name comparison operand)

pub null_written : (name : Token) → atom_syntax (atoms.IsNull name) ≡ written_null name
null_written name = ap atom_syntax (sym (atoms.rolls-IsNull name)) ∙ fold-roll-WrittenAtom AtomSyntax atom_syntax_step (WrittenAtom-F.IsNull name)

pub not_null_written : (name : Token) → atom_syntax (atoms.IsNotNull name) ≡ written_not_null name
not_null_written name = ap atom_syntax (sym (atoms.rolls-IsNotNull name)) ∙ fold-roll-WrittenAtom AtomSyntax atom_syntax_step (WrittenAtom-F.IsNotNull name)

-- the parts of each AND, each as it is written
chain_parts : (conjunctions : List (Vec WrittenAtom Global)) → map (λ parts. conjunction_of parts.items) (map (mapped {H = Global} atom_syntax) conjunctions) ≡ map (λ parts. conjunction_syntax parts.items) conjunctions
chain_parts [] = refl
chain_parts (parts ∷ conjunctions) = ap (λ others. conjunction_syntax parts.items ∷ others) (chain_parts conjunctions)

pub negation_written : (condition : Vec (Vec WrittenAtom Global) Global) → atom_syntax (atoms.Negated condition) ≡ written_negation (condition_syntax condition.items)
negation_written condition =
    ap atom_syntax (sym (atoms.rolls-Negated condition)) ∙ fold-roll-WrittenAtom AtomSyntax atom_syntax_step (WrittenAtom-F.Negated condition)
    ∙ ap (λ parts. written_negation (condition_of parts)) (chain_parts condition.items)

pub bracket_written : (condition : Vec (Vec WrittenAtom Global) Global) → atom_syntax (atoms.Bracketed condition) ≡ written_bracket (condition_syntax condition.items)
bracket_written condition =
    ap atom_syntax (sym (atoms.rolls-Bracketed condition)) ∙ fold-roll-WrittenAtom AtomSyntax atom_syntax_step (WrittenAtom-F.Bracketed condition)
    ∙ ap (λ parts. written_bracket (condition_of parts)) (chain_parts condition.items)

-- Queries, each variant.
pub named_written : (name : Token) → query_syntax (queries.Named name) ≡ written_name name
named_written name = ap query_syntax (sym (queries.rolls-Named name)) ∙ fold-roll-WrittenQuery QuerySyntax query_syntax_step (WrittenQuery-F.Named name)

pub where_written : (query : Box WrittenQuery Global) (condition : Vec (Vec WrittenAtom Global) Global) → query_syntax (queries.Where query condition) ≡ written_where (query_syntax query.value) (condition_syntax condition.items)
where_written query condition = ap query_syntax (sym (queries.rolls-Where query condition)) ∙ fold-roll-WrittenQuery QuerySyntax query_syntax_step (WrittenQuery-F.Where query condition)

pub dissolve_written : (query : Box WrittenQuery Global) (names : Vec Token Global) → query_syntax (queries.Dissolve query names) ≡ written_dissolve (query_syntax query.value) names.items
dissolve_written query names = ap query_syntax (sym (queries.rolls-Dissolve query names)) ∙ fold-roll-WrittenQuery QuerySyntax query_syntax_step (WrittenQuery-F.Dissolve query names)

pub rename_written : (query : Box WrittenQuery Global) (from to : Token) → query_syntax (queries.Rename query from to) ≡ written_rename (query_syntax query.value) from to
rename_written query from to = ap query_syntax (sym (queries.rolls-Rename query from to)) ∙ fold-roll-WrittenQuery QuerySyntax query_syntax_step (WrittenQuery-F.Rename query from to)

pub pair_written : (operator : PairOperator) (left right : Box WrittenQuery Global) → query_syntax (queries.Pair operator left right) ≡ written_pair operator (query_syntax left.value) (query_syntax right.value)
pair_written operator left right = ap query_syntax (sym (queries.rolls-Pair operator left right)) ∙ fold-roll-WrittenQuery QuerySyntax query_syntax_step (WrittenQuery-F.Pair operator left right)

pub window_written : (query : Box WrittenQuery Global) (window : WrittenWindow) → query_syntax (queries.Window query window) ≡ written_window (query_syntax query.value) window
window_written query window = ap query_syntax (sym (queries.rolls-Window query window)) ∙ fold-roll-WrittenQuery QuerySyntax query_syntax_step (WrittenQuery-F.Window query window)

pub transform_written : (query : Box WrittenQuery Global) (alignment : Token) → query_syntax (queries.Transform query alignment) ≡ written_transform (query_syntax query.value) alignment
transform_written query alignment = ap query_syntax (sym (queries.rolls-Transform query alignment)) ∙ fold-roll-WrittenQuery QuerySyntax query_syntax_step (WrittenQuery-F.Transform query alignment)

pub gaps_written : (query : Box WrittenQuery Global) → query_syntax (queries.Gaps query) ≡ written_gaps (query_syntax query.value)
gaps_written query = ap query_syntax (sym (queries.rolls-Gaps query)) ∙ fold-roll-WrittenQuery QuerySyntax query_syntax_step (WrittenQuery-F.Gaps query)

-- Chains that have a part, as lists with a mark before each further one.
pub conjunction_spelled : (parts : List WrittenAtom) → 0 < length parts → conjunction_lexemes (conjunction_syntax parts) ≡ list_lexemes kinds.And (λ part. atom_lexemes (atom_syntax part)) parts
conjunction_spelled [] some = absurd (omega arith)
conjunction_spelled (part ∷ []) some = sym (append-nil (atom_lexemes (atom_syntax part)))
conjunction_spelled (part ∷ next ∷ others) some = ap (λ ps. atom_lexemes (atom_syntax part) ++ mark kinds.And ∷ ps) (conjunction_spelled (next ∷ others) (omega arith))

pub condition_spelled : (parts : List (Vec WrittenAtom Global)) → 0 < length parts → condition_lexemes (condition_syntax parts) ≡ list_lexemes kinds.Or (λ part. conjunction_lexemes (conjunction_syntax part.items)) parts
condition_spelled [] some = absurd (omega arith)
condition_spelled (part ∷ []) some = sym (append-nil (conjunction_lexemes (conjunction_syntax part.items)))
condition_spelled (part ∷ next ∷ others) some = ap (λ ps. conjunction_lexemes (conjunction_syntax part.items) ++ mark kinds.Or ∷ ps) (condition_spelled (next ∷ others) (omega arith))
