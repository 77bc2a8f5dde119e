-- How the queries and conditions of the code are written.
use Rattle.std.specs.Prelude.{List, [], ◌∷◌, map, Option, Some, None, Vec}
use Rattle.std.specs.declared.alloc.Global.{Global}
use Rattle.rs_grammar.specs.declared.kind.TokenKind.TheVariants as kinds
use Rattle.rs_syntax.specs.declared.written.WrittenAtom.{WrittenAtom, fold-WrittenAtom}
use Rattle.rs_syntax.specs.declared.written.WrittenAtom.TheOpen.{WrittenAtom-F}
use Rattle.rs_syntax.specs.declared.written.WrittenQuery.{WrittenQuery, fold-WrittenQuery}
use Rattle.rs_syntax.specs.declared.written.WrittenQuery.TheOpen.{WrittenQuery-F}
use Rattle.rs_syntax.specs.WrittenQueries.{AtomSyntax, written_comparison, written_null, written_not_null, written_negation, written_bracket, ConjunctionSyntax, last_atom, and_then, ConditionSyntax, last_conjunction, or_else, QuerySyntax, written_name, written_where, written_dissolve, written_rename, written_pair, written_window, written_transform, written_gaps}

-- No token of a line is a comma that is told as a name: no line spells a chain that has no parts.
abbrev pub no_atom : AtomSyntax
no_atom = written_null (record { kind = kinds.Comma; first = 0; length = 0 })

-- parts between which AND stands
abbrev pub conjunction_of : List AtomSyntax → ConjunctionSyntax
conjunction_of [] = last_atom no_atom
conjunction_of (first ∷ []) = last_atom first
conjunction_of (first ∷ second ∷ others) = and_then first (conjunction_of (second ∷ others))

-- parts between which OR stands
abbrev pub condition_of : List ConjunctionSyntax → ConditionSyntax
condition_of [] = last_conjunction (last_atom no_atom)
condition_of (first ∷ []) = last_conjunction first
condition_of (first ∷ second ∷ others) = or_else first (condition_of (second ∷ others))

-- an OR of ANDs, of how their parts are written
abbrev pub chain_syntax : List (Vec AtomSyntax Global) → ConditionSyntax
chain_syntax conjunctions = condition_of (map (λ parts. conjunction_of parts.items) conjunctions)

-- one level, with how each part inside is written in its place
abbrev pub atom_syntax_step : WrittenAtom-F AtomSyntax → AtomSyntax
atom_syntax_step (WrittenAtom-F.Compare name comparison operand) = written_comparison name comparison operand
atom_syntax_step (WrittenAtom-F.IsNull name) = written_null name
atom_syntax_step (WrittenAtom-F.IsNotNull name) = written_not_null name
atom_syntax_step (WrittenAtom-F.Negated conjunctions) = written_negation (chain_syntax conjunctions.items)
atom_syntax_step (WrittenAtom-F.Bracketed conjunctions) = written_bracket (chain_syntax conjunctions.items)

abbrev pub atom_syntax : WrittenAtom → AtomSyntax
atom_syntax = fold-WrittenAtom AtomSyntax atom_syntax_step

-- parts of the code between which AND stands
abbrev pub conjunction_syntax : List WrittenAtom → ConjunctionSyntax
conjunction_syntax atoms = conjunction_of (map atom_syntax atoms)

-- a condition of the code, an OR of ANDs
abbrev pub condition_syntax : List (Vec WrittenAtom Global) → ConditionSyntax
condition_syntax conjunctions = condition_of (map (λ atoms. conjunction_syntax atoms.items) conjunctions)

-- one level, with how each operand is written in its place
abbrev pub query_syntax_step : WrittenQuery-F QuerySyntax → QuerySyntax
query_syntax_step (WrittenQuery-F.Named name) = written_name name
query_syntax_step (WrittenQuery-F.Where query conjunctions) = written_where query.value (condition_syntax conjunctions.items)
query_syntax_step (WrittenQuery-F.Dissolve query names) = written_dissolve query.value names.items
query_syntax_step (WrittenQuery-F.Rename query from to) = written_rename query.value from to
query_syntax_step (WrittenQuery-F.Pair operator left right) = written_pair operator left.value right.value
query_syntax_step (WrittenQuery-F.Window query window) = written_window query.value window
query_syntax_step (WrittenQuery-F.Transform query alignment) = written_transform query.value alignment
query_syntax_step (WrittenQuery-F.Gaps query) = written_gaps query.value

abbrev pub query_syntax : WrittenQuery → QuerySyntax
query_syntax = fold-WrittenQuery QuerySyntax query_syntax_step

-- which rows REMOVE takes, where the line says it
abbrev pub removal_syntax : Option (Vec (Vec WrittenAtom Global) Global) → Option ConditionSyntax
removal_syntax None = None
removal_syntax (Some conjunctions) = Some (condition_syntax conjunctions.items)
