-- The entries that were found, of whose cells the spans are picked.
use Rattle.std.proofs.Common.{◌≡◌, ◌∙◌, ◌+◌, ℕ, List, drop, length, map, subst, sym, ap, inl, inr, arith}
use Rattle.std.proofs.lemmas.Option.{same_Some, slice_get_within}
use Rattle.std.proofs.lemmas.Result.{err_from_is_err_and}
use Rattle.std.specs.List.{AllByRecursion}
use Rattle.rs_facts.specs.Runs.{Stretch}
use Rattle.rs_facts.specs.Spans.{seen}
use Rattle.rs_records.specs.Listed.{listed}
use Rattle.rs_refusal.specs.declared.refusal.Refusal.TheVariants as refusal
use Rattle.rs_value.specs.Values.{IsOfType, IsRowOf}
use Rattle.rs_value.specs.declared.column.ColumnType.{ColumnType}
use Rattle.rs_table_reads.specs.Picked.{PicksSpans, SayNone}
use Rattle.rs_file.specs.Entries.{IsColumn, index_form}
use Rattle.rs_file.specs.Tables.{IndexState}
use Rattle.rs_facts.specs.declared.fact.Span.{Span}
use Rattle.rs_tree.specs.Tree.{IsNoTree}
use Rattle.rs_value.proofs.EncodingOrder.{datum_wide}
use Rattle.rs_value.specs.Encoding.{SaysDatum, width}
use Rattle.rs_value.specs.View.{datum_of, literal_datum}
use Rattle.rs_value.specs.declared.column.ColumnType.TheVariants as types
use Rattle.rs_versioned.specs.Events.{event_width}
use Rattle.rs_table_reads.specs.Found.{FindsSpans}
use Rattle.rs_table_reads.proofs.Indexed.{entry_wide, finds_none, finds_spans, found_in, index_read, none_said, none_without_index, type_read}
use Rattle.rs_table_reads.proofs.searching.spans_with.Goals as goal

pub returns-in_default-clause-gives : goal.returns-in_default-clause-gives
returns-in_default-clause-gives g c = λ tied index there.
    let table = c.args.table.now.records in
    let same : c.requires.indexed.index ≡ index = same_Some c.requires.indexed.index index (sym c.requires.indexed.there ∙ there) in
    let is = subst (λ (i : IndexState). IsColumn table.types c.args.at.column i.field) same c.requires.indexed.column in
    let type = type_read table.types c.as_slice.result.now c.args.at.column types.Int index (c.as_slice.ensures.value ∙ c.schema.ensures) is in
    let datum = literal_datum c.args.value.now in
    subst (λ (items : List Span). FindsSpans table.types c.args.at.column (g.P.Pages.store c.args.pages.now).map table.working index datum c.args.window (map seen items) 0) (sym c.new.ensures.items)
    (finds_none table.types c.args.at.column (g.P.Pages.store c.args.pages.now).map table.working index datum is c.args.window
    (subst (λ (t : ColumnType). (bytes : List ℕ) → SaysDatum t bytes datum → ⊥) type c.in_default.ensures.none))

pub index-index-requires : goal.index-index-requires
index-index-requires g c =
    omega (arith, slice_get_within c.args.table.now.indexes.items c.args.at.position c.requires.indexed.index c.requires.indexed.there, c.args.table.now.indexes.ok)

pub entries_with-requires : goal.entries_with-requires
entries_with-requires g c =
    let table = c.args.table.now.records in
    let index = c.requires.indexed.index in
    let one = index_read c.args.table.now.indexes.items c.args.at.position index c.index-index.result.now c.requires.indexed.there c.index-index.ensures in
    let type = type_read table.types c.as_slice.result.now c.args.at.column types.Int index (c.as_slice.ensures.value ∙ c.schema.ensures) c.requires.indexed.column in
    record {
      of_type = subst (λ (i : IndexState). IsOfType i.field.column (datum_of c.in-Some.value)) (sym one) (subst (λ (t : ColumnType). IsOfType t (datum_of c.in-Some.value)) type c.in-Some.ensures.of_type);
    }

pub returns-in_err-entries-clause-damaged : goal.returns-in_err-entries-clause-damaged
returns-in_err-entries-clause-damaged g c = λ tied isnt index there.
    let table = c.args.table.now.records in
    let pages = (g.P.Pages.store c.args.pages.now).map in
    let same : c.requires.indexed.index ≡ index = same_Some c.requires.indexed.index index (sym c.requires.indexed.there ∙ there) in
    let is = subst (λ (i : IndexState). IsColumn table.types c.args.at.column i.field) same c.requires.indexed.column in
    let one = index_read c.args.table.now.indexes.items c.args.at.position index c.index-index.result.now there c.index-index.ensures in
    let p = err_from_is_err_and c.from_residual.result c.from_residual.ensures.1 in
    let why : c.in_err-entries.field-0.0 ≡ refusal.DamagedFile = cc (p.1, p.2, isnt) in
    elim c.in_err-entries.ensures.refused.cause [
      | inl memory ↦ let clash : refusal.OutOfMemory ≡ refusal.DamagedFile = sym memory ∙ why in absurd (cc)
      | inr (inl disk) ↦ let clash : refusal.Disk ≡ refusal.DamagedFile = sym disk ∙ why in absurd (cc)
      | inr (inr damaged) ↦ none_without_index table.types pages table.working index
          (subst (λ (i : IndexState). IsNoTree (index_form i.field) pages i.working) one (damaged.1 tied))
    ]

pub picked_spans-requires : goal.picked_spans-requires
picked_spans-requires g c =
    let table = c.args.table.now.records in
    let index = c.requires.indexed.index in
    let one = index_read c.args.table.now.indexes.items c.args.at.position index c.index-index.result.now c.requires.indexed.there c.index-index.ensures in
    let wide = entry_wide table.types c.as_slice.result.now c.args.at.column types.Int index (c.as_slice.ensures.value ∙ c.schema.ensures) c.requires.indexed.column
    c.index-index.result.now c.column_width.result _ one c.column_width.ensures.value c.in_ok-entries.ensures.width in
    record { width = wide ∙ ap (λ (types : List ColumnType). c.column_width.result + event_width types) (sym c.schema-2.ensures) }

pub returns-in_err-spans-clause-damaged : goal.returns-in_err-spans-clause-damaged
returns-in_err-spans-clause-damaged g c = λ tied isnt index there.
    let table = c.args.table.now.records in
    let pages = (g.P.Pages.store c.args.pages.now).map in
    let same : c.requires.indexed.index ≡ index = same_Some c.requires.indexed.index index (sym c.requires.indexed.there ∙ there) in
    let is = subst (λ (i : IndexState). IsColumn table.types c.args.at.column i.field) same c.requires.indexed.column in
    let one = index_read c.args.table.now.indexes.items c.args.at.position index c.index-index.result.now there c.index-index.ensures in
    let window = c.args.window in
    let datum = literal_datum c.args.value.now in
    let type = type_read table.types c.as_slice.result.now c.args.at.column types.Int index (c.as_slice.ensures.value ∙ c.schema.ensures) is in
    let found = listed c.in_ok-entries.entries in
    let entries = found_in pages c.index-index.result.now index one (datum_of c.in-Some.value) datum c.in-Some.ensures.value window c.beginning-from.result c.beginning-to.result
    c.beginning-from.ensures.bytes c.beginning-to.ensures.bytes found c.in_ok-entries.reads (c.in_ok-entries.ensures.found tied) in
    let size : length entries.bytes ≡ c.column_width.result = datum_wide index.field.column entries.bytes datum entries.says ∙ sym (ap width type) ∙ sym c.column_width.ensures.value in
    let p = err_from_is_err_and c.from_residual-in_err-spans.result c.from_residual-in_err-spans.ensures.1 in
    let why : c.in_err-spans.field-0.0 ≡ refusal.DamagedFile = cc (p.1, p.2, isnt) in
    elim c.in_err-spans.ensures.refused [
      | inl memory ↦ let clash : refusal.OutOfMemory ≡ refusal.DamagedFile = sym memory ∙ why in absurd (cc)
      | inr damaged ↦ none_said table.types c.args.at.column pages table.working index datum is entries.bytes entries.says window c.beginning-from.ensures.fits.0 c.beginning-to.ensures.fits.1
          found c.in_ok-entries.reads c.column_width.result size entries.finds (subst (λ (types : List ColumnType). SayNone types (map (drop c.column_width.result) found)) c.schema-2.ensures damaged.1)
    ]

pub returns-clause-gives : goal.returns-clause-gives
returns-clause-gives g c = λ tied index there.
    let table = c.args.table.now.records in
    let pages = (g.P.Pages.store c.args.pages.now).map in
    let same : c.requires.indexed.index ≡ index = same_Some c.requires.indexed.index index (sym c.requires.indexed.there ∙ there) in
    let is = subst (λ (i : IndexState). IsColumn table.types c.args.at.column i.field) same c.requires.indexed.column in
    let one = index_read c.args.table.now.indexes.items c.args.at.position index c.index-index.result.now there c.index-index.ensures in
    let window = c.args.window in
    let datum = literal_datum c.args.value.now in
    let type = type_read table.types c.as_slice.result.now c.args.at.column types.Int index (c.as_slice.ensures.value ∙ c.schema.ensures) is in
    let found = listed c.in_ok-entries.entries in
    let entries = found_in pages c.index-index.result.now index one (datum_of c.in-Some.value) datum c.in-Some.ensures.value window c.beginning-from.result c.beginning-to.result
    c.beginning-from.ensures.bytes c.beginning-to.ensures.bytes found c.in_ok-entries.reads (c.in_ok-entries.ensures.found tied) in
    let size : length entries.bytes ≡ c.column_width.result = datum_wide index.field.column entries.bytes datum entries.says ∙ sym (ap width type) ∙ sym c.column_width.ensures.value in
    finds_spans table.types c.args.at.column pages table.working index datum is entries.bytes entries.says window c.beginning-from.ensures.fits.0 c.beginning-to.ensures.fits.1
    found c.in_ok-entries.reads c.column_width.result size entries.finds (map seen c.in_ok-spans.spans.items)
    (subst (λ (types : List ColumnType). PicksSpans types window (map (drop c.column_width.result) found) (map seen c.in_ok-spans.spans.items)) c.schema-2.ensures c.in_ok-spans.ensures.picks)

pub returns-clause-rows : goal.returns-clause-rows
returns-clause-rows g c =
    subst (λ (types : List ColumnType). AllByRecursion (λ (s : Stretch). IsRowOf types s.row) (map seen c.in_ok-spans.spans.items)) c.schema-2.ensures c.in_ok-spans.ensures.rows
