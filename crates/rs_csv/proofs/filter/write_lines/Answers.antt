use Rattle.std.proofs.Common.{[], ℕ, List, None, inl, inr, subst, sym}
use Rattle.std.proofs.KnownBytes.{Consumes-nil, Keeps-refl}
use Rattle.csv.specs.Reading.{strip_bom}
use Rattle.rs_syntax.specs.Tree.{define_route}
use Rattle.rs_machine.specs.Request.{Asks, command}
use Rattle.rs_csv.specs.Output.{FilterParts, IsAsked, IsDefinition, TookAll, table_of}
use Rattle.rs_csv.specs.declared.definition.Definition.{Definition}
use Rattle.rs_csv.specs.declared.filter.Wanted.{Wanted}
use Rattle.rs_csv_lines.specs.Texts.{session_text}
use Rattle.std.specs.Prelude.{◌≡◌, ◌++◌, codes, string_bytes}
use Rattle.rs_csv.proofs.Steps.{ends_whole, wrote_none}
use Rattle.rs_csv.proofs.filter.write_lines.Goals as goal

-- the line of the definition is the words, and asks its table
asked : (wanted : Wanted) (definition : Definition) → IsDefinition wanted.session definition → string_bytes definition.line ≡ session_text wanted.session ++ codes " " ++ wanted.define.now → IsAsked wanted (table_of definition)
asked wanted definition defines line = subst (λ (bytes : List ℕ). Asks bytes (command wanted.session (table_of definition))) line defines.asks

pub returns-in-Err-clause-wrote : goal.returns-in-Err-clause-wrote
returns-in-Err-clause-wrote g c = (define_route [] 0 0, inr (Keeps-refl _), ([], Consumes-nil _, wrote_none c.args.wanted (define_route [] 0 0) _ _))

pub returns-in-Err-check_words-clause-wrote : goal.returns-in-Err-check_words-clause-wrote
returns-in-Err-check_words-clause-wrote g c = (define_route [] 0 0, inr (Keeps-refl _), ([], Consumes-nil _, wrote_none c.args.wanted (define_route [] 0 0) _ _))

pub returns-in-Err-column_scales-clause-wrote : goal.returns-in-Err-column_scales-clause-wrote
returns-in-Err-column_scales-clause-wrote g c = (define_route [] 0 0, inr (Keeps-refl _), ([], Consumes-nil _, wrote_none c.args.wanted (define_route [] 0 0) _ _))

pub returns-in-Err-read_all-clause-wrote : goal.returns-in-Err-read_all-clause-wrote
returns-in-Err-read_all-clause-wrote g c = (table_of c.in-Ok.definition, inl (asked c.args.wanted c.in-Ok.definition c.in-Ok.ensures.defines c.in-Ok.ensures.line), c.in-Err-read_all.ensures.input)

pub returns-clause-wrote : goal.returns-clause-wrote
returns-clause-wrote g c =
    let table = table_of c.in-Ok.definition in
    let input = c.in_default-read_all.ensures.input in
    let told = strip_bom input.0 in
    let took =
    subst (λ (filter : FilterParts). TookAll c.args.wanted table (g.W.Write.contents c.args.output.now) filter.progress told (g.W.Write.contents c.read_all.new.output)) (sym c.filter.view_is) input.2.1 in
    (table, inl (asked c.args.wanted c.in-Ok.definition c.in-Ok.ensures.defines c.in-Ok.ensures.line), (input.0, input.1, ends_whole c.args.wanted table c.end_lines-result.result c.filter.inside.progress told _ _ _ _ input.2.0 took c.end_lines-result.ensures.wrote c.end_lines-result.ensures.told))

pub returns-clause-closed : goal.returns-clause-closed
returns-clause-closed g c = λ closed.
    c.in_default-read_all.ensures.closed (subst (λ (filter : FilterParts). filter.progress.made.told.open_quote ≡ None) c.filter.view_is (c.end_lines-result.ensures.closed closed))
