-- What was found, of which the spans are picked.
use Rattle.std.proofs.Common.{◌≡◌, ◌∙◌, ℕ, List, drop, map, subst, sym, inl, inr}
use Rattle.std.proofs.lemmas.Result.{err_from_is_err_and}
use Rattle.std.specs.List.{AllByRecursion}
use Rattle.rs_facts.specs.Runs.{Stretch}
use Rattle.rs_facts.specs.Spans.{seen}
use Rattle.rs_interval.specs.Finding.{FindsOverlapping, event_form}
use Rattle.rs_records.specs.Listed.{listed}
use Rattle.rs_refusal.specs.declared.refusal.Refusal.TheVariants as refusal
use Rattle.rs_tree.specs.Tree.{IsNoTree}
use Rattle.rs_value.specs.Values.{IsRowOf}
use Rattle.rs_value.specs.declared.column.ColumnType.{ColumnType}
use Rattle.rs_versioned.specs.Events.{event_width}
use Rattle.rs_table_reads.specs.Picked.{PicksSpans, SayNone}
use Rattle.rs_table_reads.proofs.Overlaps.{none_found, none_without_tree, reads_spans}
use Rattle.rs_table_reads.proofs.reading.spans.Goals as goal

pub returns-in_err-found-clause-damaged : goal.returns-in_err-found-clause-damaged
returns-in_err-found-clause-damaged g c = λ tied is.
    let table = c.args.table.now.records in
    let pages = (g.P.Pages.store c.args.pages.now).map in
    let p = err_from_is_err_and c.from_residual.result c.from_residual.ensures.1 in
    let why : c.in_err-found.field-0.0 ≡ refusal.DamagedFile = cc (p.1, p.2, is) in
    let wide : c.new-layout.result.width ≡ event_width table.types = c.new-layout.ensures.width ∙ c.width.ensures.width in
    elim c.in_err-found.ensures.refused.cause [
      | inl memory ↦ let clash : refusal.OutOfMemory ≡ refusal.DamagedFile = sym memory ∙ why in absurd (cc)
      | inr (inl disk) ↦ let clash : refusal.Disk ≡ refusal.DamagedFile = sym disk ∙ why in absurd (cc)
      | inr (inr damaged) ↦ none_without_tree table.types pages table.working
          (subst (λ (r : ℕ). IsNoTree (event_form (event_width table.types)) pages r) c.root.ensures
          (subst (λ (w : ℕ). IsNoTree (event_form w) pages c.root.result) wide (damaged.1 tied)))
    ]

pub returns-in_err-spans-clause-damaged : goal.returns-in_err-spans-clause-damaged
returns-in_err-spans-clause-damaged g c = λ tied is.
    let table = c.args.table.now.records in
    let pages = (g.P.Pages.store c.args.pages.now).map in
    let found = listed c.in_ok-found.found in
    let wide : c.new-layout.result.width ≡ event_width table.types = c.new-layout.ensures.width ∙ c.width.ensures.width in
    let finds = subst (λ (r : ℕ). FindsOverlapping (event_width table.types) pages r c.args.window.route c.args.window.from c.args.window.to found c.in_ok-found.reads) c.root.ensures
    (subst (λ (w : ℕ). FindsOverlapping w pages c.root.result c.args.window.route c.args.window.from c.args.window.to found c.in_ok-found.reads) wide (c.in_ok-found.ensures.found tied)) in
    let p = err_from_is_err_and c.from_residual-in_err-spans.result c.from_residual-in_err-spans.ensures.1 in
    let why : c.in_err-spans.field-0.0 ≡ refusal.DamagedFile = cc (p.1, p.2, is) in
    elim c.in_err-spans.ensures.refused [
      | inl memory ↦ let clash : refusal.OutOfMemory ≡ refusal.DamagedFile = sym memory ∙ why in absurd (cc)
      | inr damaged ↦ none_found table.types pages table.working c.args.window found c.in_ok-found.reads finds
          (subst (λ (types : List ColumnType). SayNone types (map (drop 0) found)) c.schema.ensures damaged.1)
    ]

pub returns-clause-gives : goal.returns-clause-gives
returns-clause-gives g c = λ tied.
    let table = c.args.table.now.records in
    let pages = (g.P.Pages.store c.args.pages.now).map in
    let found = listed c.in_ok-found.found in
    let wide : c.new-layout.result.width ≡ event_width table.types = c.new-layout.ensures.width ∙ c.width.ensures.width in
    let finds = subst (λ (r : ℕ). FindsOverlapping (event_width table.types) pages r c.args.window.route c.args.window.from c.args.window.to found c.in_ok-found.reads) c.root.ensures
    (subst (λ (w : ℕ). FindsOverlapping w pages c.root.result c.args.window.route c.args.window.from c.args.window.to found c.in_ok-found.reads) wide (c.in_ok-found.ensures.found tied)) in
    reads_spans table.types pages table.working c.args.window found c.in_ok-found.reads finds (map seen c.in_ok-spans.spans.items)
    (subst (λ (types : List ColumnType). PicksSpans types c.args.window (map (drop 0) found) (map seen c.in_ok-spans.spans.items)) c.schema.ensures c.in_ok-spans.ensures.picks)

pub returns-clause-rows : goal.returns-clause-rows
returns-clause-rows g c =
    subst (λ (types : List ColumnType). AllByRecursion (λ (s : Stretch). IsRowOf types s.row) (map seen c.in_ok-spans.spans.items)) c.schema.ensures c.in_ok-spans.ensures.rows
