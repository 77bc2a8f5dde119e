-- What the search of an index finds.
use Rattle.std.proofs.Common.{◌≡◌, ◌≤◌, ◌<◌, ◌^◌, ◌+◌, ◌*◌, ℕ, Bool, true, false, ◌&&◌, cond, List, [], ◌∷◌, ◌++◌, Some, get_or, slice_get, length, drop, map, filter, refl, sym, ap, ◌∙◌, subst, arith}
use Rattle.std.proofs.lemmas.Cmp.{tied_itself}
use Rattle.std.specs.FinMap.{nat_cmp-IsAntisymmetric, slice_cmp-IsAntisymmetric}
use Rattle.std.proofs.lemmas.Option.{same_Some, slice_get-get_or, slice_get_within}
use Rattle.std.specs.List.{AllZip, count_by}
use Rattle.std.specs.Ordering.{is_eq}
use Rattle.std.specs.declared.cmp.Ordering.{Ordering}
use Rattle.std.specs.declared.cmp.Ordering.TheVariants.{Less, Equal, Greater}
use Rattle.rs_file.specs.Entries.{HoldsIndex, IsColumn, entry_bytes, index_form, value_in}
use Rattle.rs_file.specs.Finding.{FindsEntries, has_value}
use Rattle.rs_file.specs.Tables.{IndexState}
use Rattle.rs_file.proofs.Values.{has_bytes, value_said}
use Rattle.rs_cell_versions.specs.Versioned.{Standing}
use Rattle.rs_facts.specs.Operators.{datum_at}
use Rattle.rs_facts.specs.Runs.{Stretch}
use Rattle.rs_interval.specs.Finding.{route_from}
use Rattle.rs_interval.proofs.EventOrder.{within_is}
use Rattle.rs_pages.specs.PageMap.{PageMap}
use Rattle.rs_tree.specs.Calls.{Finds}
use Rattle.rs_tree.specs.Cells.{is_within}
use Rattle.rs_tree.specs.Tree.{IsNoTree}
use Rattle.rs_value.proofs.EncodingOrder.{datum_wide, datums_cmp}
use Rattle.rs_value.specs.RowOrder.{datum_antisymmetric, datum_total}
use Rattle.rs_value.specs.Encoding.{SaysDatum, width}
use Rattle.rs_value.specs.Row.{Datum, datum_cmp}
use Rattle.rs_value.specs.declared.column.ColumnType.{ColumnType}
use Rattle.rs_versioned.proofs.Lifting.{zip_count, zip_filter}
use Rattle.rs_versioned.specs.Events.{Event, SaysEvent, event_width, kept_events}
use Rattle.rs_versioned.specs.Records.{HoldsRecords}
use Rattle.rs_table_reads.specs.Found.{FindsSpans, HoldsNoEntries, may_have, pages_to}
use Rattle.rs_table_reads.specs.Picked.{PicksSpans, SayNone}
use Rattle.rs_table_reads.specs.Read.{spans_in}
use Rattle.rs_table_reads.specs.declared.window.RouteWindow.{RouteWindow}
use Rattle.rs_table_reads.proofs.Entries.{AreWide, found_cells, found_count, is_between}
use Rattle.rs_table_reads.proofs.Overlaps.{picked_with, record_of}

module _ (types : List ColumnType) (column : ℕ) (pages : PageMap) (standing : Standing) (index : IndexState) (datum : Datum) (is : IsColumn types column index.field) where
  -- ---- a value that the column can't have

  has_none : ((bytes : List ℕ) → SaysDatum index.field.column bytes datum → ⊥) → (cell : List ℕ) (event : Event) → SaysEvent types cell event → has_value column datum event ≡ false
  has_none none cell event says = by_order (datum_cmp (datum_at event.row column) datum) refl where
    by_order : (o : Ordering) → datum_cmp (datum_at event.row column) datum ≡ o → is_eq o ≡ false
    by_order Less e = refl
    by_order Greater e = refl
    by_order Equal e =
        absurd (none (value_in index.field cell)
        (subst (λ (d : Datum). SaysDatum index.field.column (value_in index.field cell) d) (datum_antisymmetric (datum_at event.row column) datum e)
        (value_said types column index.field cell event is says)))

  none_have : ((bytes : List ℕ) → SaysDatum index.field.column bytes datum → ⊥) → (cells : List (List ℕ)) (events : List Event) → AllZip (SaysEvent types) cells events
      → filter (has_value column datum) events ≡ []
  none_have none [] [] all = refl
  none_have none [] (e ∷ es) all = absurd all
  none_have none (c ∷ cs) [] all = absurd all
  none_have none (c ∷ cs) (e ∷ es) all =
      ap (λ (b : Bool). cond b (e ∷ filter (has_value column datum) es) (filter (has_value column datum) es)) (has_none none c e all.0) ∙ none_have none cs es all.1

  pub finds_none : (window : RouteWindow) → ((bytes : List ℕ) → SaysDatum index.field.column bytes datum → ⊥) → FindsSpans types column pages standing index datum window [] 0
  finds_none window none = record {
    each = λ events used uses accepted records entries. sym (ap (spans_in window) (none_have none records.cells events records.say));
    bounded = λ events used uses accepted records entries. omega arith;
    least = λ bytes says events used uses accepted records entries. absurd (none bytes says);
    none = λ _. refl;
  }

  -- ---- a value that it can have

  module _ (bytes : List ℕ) (says : SaysDatum index.field.column bytes datum) (window : RouteWindow) (known : window.route < 2 ^ 32) (bound : window.to < 2 ^ 32) where
    abbrev low : List ℕ
    low = route_from window.route 0

    abbrev high : List ℕ
    high = route_from window.route window.to

    cells_wide : (cells : List (List ℕ)) (events : List Event) → AllZip (SaysEvent types) cells events → AreWide index.field bytes low high cells
    cells_wide [] events all = tt
    cells_wide (c ∷ cs) [] all = absurd all
    cells_wide (c ∷ cs) (e ∷ es) all = (
      datum_wide index.field.column (value_in index.field c) (datum_at e.row column) (value_said types column index.field c e is all.0)
          ∙ sym (datum_wide index.field.column bytes datum says),
      cells_wide cs es all.1,
    )

    -- the entry of a cell lies between the bounds where its event may have the value
    between_alike : (cell : List ℕ) (event : Event) → SaysEvent types cell event → is_between index.field bytes low high cell ≡ may_have column datum window event
    between_alike cell event tells =
        ap (λ (b : Bool). b && is_within low high cell) (has_bytes types column index.field bytes datum is says cell event tells)
        ∙ ap (λ (b : Bool). has_value column datum event && b) (within_is window.route window.to known bound cell (record_of event tells.bytes) tells.fields)

    module _ (found : List (List ℕ)) (reads wide : ℕ) (size : length bytes ≡ wide)
        (finds : Finds (index_form index.field) pages index.working (bytes ++ low) (bytes ++ high) (λ _. true) found reads) where
      found_zip : (events : List Event) (used uses : ℕ → ℕ) (accepted : ℕ) → (records : HoldsRecords (kept_events types) pages standing accepted events used)
          → HoldsIndex index.field pages index.working records.cells uses → AllZip (SaysEvent types) (map (drop wide) found) (filter (may_have column datum window) events)
      found_zip events used uses accepted records entries =
          let are : map (drop wide) found ≡ filter (is_between index.field bytes low high) records.cells =
          found_cells index.field bytes low high records.cells entries.entries found records.holds.tree.ascends entries.tree.ascends (cells_wide records.cells events records.say) entries.are
          (finds.exact entries.entries uses entries.tree) wide size in
          subst (λ (cells : List (List ℕ)). AllZip (SaysEvent types) cells (filter (may_have column datum window) events)) (sym are)
          (zip_filter (SaysEvent types) (is_between index.field bytes low high) (may_have column datum window) between_alike records.cells events records.say)

      pub finds_spans : (spans : List Stretch) → PicksSpans types window (map (drop wide) found) spans → FindsSpans types column pages standing index datum window spans reads
      finds_spans spans picks = record {
        each = λ events used uses accepted records entries.
            picks.are (filter (may_have column datum window) events) (found_zip events used uses accepted records entries) ∙ picked_with column datum window events;
        bounded = λ events used uses accepted records entries.
            let many : length found ≡ count_by (may_have column datum window) events =
            found_count index.field bytes low high records.cells entries.entries found records.holds.tree.ascends entries.tree.ascends (cells_wide records.cells events records.say) entries.are
            (finds.exact entries.entries uses entries.tree)
            ∙ zip_count (SaysEvent types) (is_between index.field bytes low high) (may_have column datum window) between_alike records.cells events records.say in
            subst (λ (n : ℕ). reads ≤ entries.tree.height * (n + 2)) many (finds.bounded entries.entries uses entries.tree);
        least = λ other said events used uses accepted records entries.
            let same : bytes ≡ other =
            slice_cmp-IsAntisymmetric nat_cmp-IsAntisymmetric bytes other (datums_cmp index.field.column bytes other datum datum says said ∙ tied_itself datum_total datum) in
            subst (λ (b : List ℕ). pages_to window b pages index records.cells uses entries ≤ reads) same (finds.least entries.entries uses entries.tree);
        none = λ without. absurd (without bytes says);
      }

      -- a cell that was found says no event
      pub none_said : SayNone types (map (drop wide) found) → HoldsNoEntries types pages standing index
      none_said none = record {
        none = λ events used uses accepted records entries. none.none (filter (may_have column datum window) events) (found_zip events used uses accepted records entries);
      }

-- no tree stands there
pub none_without_index : (types : List ColumnType) (pages : PageMap) (standing : Standing) (index : IndexState) → IsNoTree (index_form index.field) pages index.working
    → HoldsNoEntries types pages standing index
none_without_index types pages standing index none = record { none = λ events used uses accepted records entries. none.none entries.entries uses entries.tree }

-- ---- what the index of a column is

module _ (types slice : List ColumnType) (column : ℕ) (default : ColumnType) (index : IndexState) (read : slice ≡ types) (is : IsColumn types column index.field) where
  -- the column at the place is that of the index
  pub type_read : get_or slice column default ≡ index.field.column
  type_read =
      let inside = slice_get_within types column index.field.column is.type in
      ap (λ (l : List ColumnType). get_or l column default) read
      ∙ same_Some (get_or types column default) index.field.column (sym (slice_get-get_or types column default inside) ∙ is.type)

  -- so the cells of the entries that were read are as wide as those of events
  pub entry_wide : (found : IndexState) (wide bytes : ℕ) → found ≡ index → wide ≡ width (get_or slice column default) → bytes ≡ entry_bytes found.field → bytes ≡ wide + event_width types
  entry_wide found wide bytes same first entry =
      let whole : entry_bytes found.field ≡ entry_bytes index.field = ap (λ (i : IndexState). entry_bytes i.field) same in
      omega (arith, first, entry, whole, ap width type_read, is.cell_width)

-- the index at the position is the one that was read
pub index_read : (indexes : List IndexState) (position : ℕ) (index read : IndexState) → slice_get indexes position ≡ Some index → read ≡ get_or indexes position read → read ≡ index
index_read indexes position index read there is =
    let inside = slice_get_within indexes position index there in
    is ∙ same_Some (get_or indexes position read) index (sym (slice_get-get_or indexes position read inside) ∙ there)

-- what was found in the index that was read, by the datum and the bounds that were given
pub found_in : (pages : PageMap) (read index : IndexState) → read ≡ index → (datum told : Datum) → datum ≡ told → (window : RouteWindow) (from to : List ℕ) → from ≡ route_from window.route 0
    → to ≡ route_from window.route window.to → (found : List (List ℕ)) (reads : ℕ) → FindsEntries read.field pages read.working datum from to found reads
    → FindsEntries index.field pages index.working told (route_from window.route 0) (route_from window.route window.to) found reads
found_in pages read index same datum told is window from to low high found reads finds =
    subst (λ (h : List ℕ). FindsEntries index.field pages index.working told (route_from window.route 0) h found reads) high
    (subst (λ (l : List ℕ). FindsEntries index.field pages index.working told l to found reads) low
    (subst (λ (d : Datum). FindsEntries index.field pages index.working d from to found reads) is
    (subst (λ (i : IndexState). FindsEntries i.field pages i.working datum from to found reads) same finds)))
