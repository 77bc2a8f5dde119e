use Rattle.std.proofs.Common.{◌≡◌, Err, Ok, string_bytes, sym, ap, subst, ◌∙◌}
use Rattle.std.proofs.lemmas.Bool.{false≢true}
use Rattle.std.proofs.lemmas.Result.{err_from_is_err_and}
use Rattle.rs_machine_laws.specs.ViewLines.{IsReadable, shortest_view_line}
use Rattle.rs_refusal.specs.declared.refusal.Refusal.TheVariants as refusal
use Rattle.rs_syntax.specs.QueryView.{query_tree}
use Rattle.rs_syntax.specs.Tree.{CommandTree, define_view}
use Rattle.rs_syntax.specs.Verdict.{Reads}
use Rattle.rs_stored_catalog.proofs.ViewTexts.{has_line, none_unreadable, reads_it}
use Rattle.rs_stored_catalog.proofs.view_texts.view_query.Goals as goal

pub returns-then-not-is_readable-clause-none : goal.returns-then-not-is_readable-clause-none
returns-then-not-is_readable-clause-none c e query has =
    none_unreadable (string_bytes c.in_ok-line.line) (string_bytes c.args.view.now.name) (string_bytes c.args.view.now.text.text)
    (c.in_ok-line.ensures ∙ (λ i. shortest_view_line (c.as_str.ensures.value i) (c.as_str-2.ensures.value i)))
    c.shortest_line_defines_the_view.ensures.readable
    (λ readable. false≢true (sym c.if-not-is_readable.true ∙ c.is_readable.ensures.1 (subst IsReadable (sym c.as_str-3.ensures.value) readable)))
    query has

pub returns-in_err-command-clause-none : goal.returns-in_err-command-clause-none
returns-in_err-command-clause-none c e query has =
    let p = err_from_is_err_and c.from_residual-in_err-command.result c.from_residual-in_err-command.ensures.1 in
    let why : c.in_err-command.field-0.0 ≡ refusal.DamagedFile = cc (p.1, p.2, e) in
    c.in_err-command.ensures.none (ap Err why) (define_view (string_bytes c.args.view.now.name) query (string_bytes c.args.view.now.text.text))
    (subst (λ bytes. Reads bytes 1 (Ok (define_view (string_bytes c.args.view.now.name) query (string_bytes c.args.view.now.text.text)))) (sym c.as_str-4.ensures.value)
    (reads_it (string_bytes c.in_ok-line.line) (string_bytes c.args.view.now.name) (string_bytes c.args.view.now.text.text)
    (c.in_ok-line.ensures ∙ (λ i. shortest_view_line (c.as_str.ensures.value i) (c.as_str-2.ensures.value i)))
    c.shortest_line_defines_the_view.ensures.words c.requires query has))

pub returns-in-Some-clause-ok : goal.returns-in-Some-clause-ok
returns-in-Some-clause-ok c =
    has_line (string_bytes c.in_ok-line.line) (string_bytes c.args.view.now.name) (string_bytes c.args.view.now.text.text)
    (c.in_ok-line.ensures ∙ (λ i. shortest_view_line (c.as_str.ensures.value i) (c.as_str-2.ensures.value i)))
    c.shortest_line_defines_the_view.ensures.asks
    (subst IsReadable c.as_str-3.ensures.value (c.is_readable.ensures.0 c.if-not-is_readable.false))
    (query_tree c.in-Some.query)
    (subst (λ bytes. Reads bytes 1 (Ok (define_view (string_bytes c.args.view.now.name) (query_tree c.in-Some.query) (string_bytes c.args.view.now.text.text)))) c.as_str-4.ensures.value
    (subst (λ (tree : CommandTree). Reads c.as_str-4.result.now 1 (Ok tree))
    (c.in-Some.ensures.some ∙ (λ i. define_view (c.as_str-5.ensures.value i) (query_tree c.in-Some.query) (c.as_str-6.ensures.value i)))
    c.in_ok-command.ensures.ok))

pub returns-clause-none : goal.returns-clause-none
returns-clause-none c e query has =
    let reads = subst (λ bytes. Reads bytes 1 (Ok (define_view (string_bytes c.args.view.now.name) query (string_bytes c.args.view.now.text.text)))) (sym c.as_str-4.ensures.value)
    (reads_it (string_bytes c.in_ok-line.line) (string_bytes c.args.view.now.name) (string_bytes c.args.view.now.text.text)
    (c.in_ok-line.ensures ∙ (λ i. shortest_view_line (c.as_str.ensures.value i) (c.as_str-2.ensures.value i)))
    c.shortest_line_defines_the_view.ensures.words c.requires query has) in
    c.in-None.ensures.none query
    (c.in_ok-command.ensures.one (define_view (string_bytes c.args.view.now.name) query (string_bytes c.args.view.now.text.text)) reads
    ∙ sym (λ i. define_view (c.as_str-5.ensures.value i) query (c.as_str-6.ensures.value i)))
