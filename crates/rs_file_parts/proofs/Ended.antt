-- What is kept or taken back.
use Rattle.std.proofs.Common.{◌≡◌, ◌≤◌, ℕ, List, [], ◌∷◌, refl, sym, ap, ◌∙◌, subst, length, map, arith}
use Rattle.std.specs.List.{AllByRecursion, AllZip}
use Rattle.rs_attr.specs.Entries.{Field, HoldsIndex}
use Rattle.rs_attr.specs.Tables.{HoldIndexes, IndexState, all_of, kept_parts}
use Rattle.rs_attr.proofs.Placing.{all_of-cons}
use Rattle.rs_catalog_pages.specs.Said.{said_catalogue}
use Rattle.rs_cell_versions.specs.Version.{HaveDiedBy}
use Rattle.rs_cell_versions.specs.Versioned.{Standing}
use Rattle.rs_file.specs.Contents.{Contents, LiesTable, SameTable, TableContents, index_roots, owned, table_pages}
use Rattle.rs_file.specs.Opening.{IsOpened}
use Rattle.rs_file.specs.declared.opened.OpenedFile.{OpenedFile}
use Rattle.rs_file.specs.declared.opened.OpenedTable.{OpenedTable}
use Rattle.rs_file_parts.specs.Calls.{StaysOpened}
use Rattle.rs_file_parts.specs.Inner.{HaveChangedWithin, IsIndexKept, IsIndexTakenBack, IsTableKept, IsTableTakenBack}
use Rattle.rs_file_parts.specs.Parts.{HaveAllDiedBy, IsAsItWas, IsCommitted, IsReady, IsTableCommitted, KeepsCommitted, KeepsOpened, SameOpened}
use Rattle.rs_file_parts.proofs.Lists.{Partly, each_right, partly_to, partly_whole}
use Rattle.rs_file_parts.proofs.Ready.{ready_of}
use Rattle.rs_page_owners.proofs.Moving.{shares_same}
use Rattle.rs_pages.specs.PageMap.{PageMap}

-- ---- kept

kept_roots : (one other : List IndexState) → AllZip IsIndexKept one other → index_roots other ≡ index_roots one
kept_roots [] [] all = refl
kept_roots [] (o ∷ os) all = absurd all
kept_roots (i ∷ is) [] all = absurd all
kept_roots (i ∷ is) (o ∷ os) all =
    let field : o.field ≡ i.field = all.0.field in
    let working : o.working ≡ i.working = all.0.working in
    let rest : index_roots os ≡ index_roots is = kept_roots is os all.1 in
    cc

kept_hold : (map : PageMap) (cells : List (List ℕ)) (one other : List IndexState) (uses : List (ℕ → ℕ)) → AllZip IsIndexKept one other → HoldIndexes map one cells uses → HoldIndexes map other cells uses
kept_hold map cells [] [] uses kept hold = hold
kept_hold map cells [] (o ∷ os) uses kept hold = absurd kept
kept_hold map cells (i ∷ is) [] uses kept hold = absurd kept
kept_hold map cells (i ∷ is) (o ∷ os) [] kept hold = absurd hold
kept_hold map cells (i ∷ is) (o ∷ os) (u ∷ us) kept hold = (
  subst (λ (f : Field). HoldsIndex f map o.working cells u) (sym kept.0.field) (subst (λ n. HoldsIndex i.field map n cells u) (sym kept.0.working) hold.0),
  kept_hold map cells is os us kept.1 hold.1,
)

abbrev map_pages : List TableContents → List (ℕ → ℕ)
map_pages tables = map table_pages tables

-- the same tables, as they are open now
record KeptTables (map : PageMap) (accepted : ℕ) (is : List OpenedTable) (tables : List TableContents) : Type 0 where
  pub now : List TableContents
  pub lie : AllByRecursion (LiesTable map accepted) now
  pub opened : AllZip IsOpened is now
  pub same : AllZip SameTable tables now
  pub pages : (number : ℕ) → all_of (map_pages now) number ≡ all_of (map_pages tables) number

tables_kept : (map : PageMap) (accepted : ℕ) (was is : List OpenedTable) (tables : List TableContents) → AllZip IsTableKept was is → AllZip IsOpened was tables → AllByRecursion (LiesTable map accepted) tables
    → KeptTables map accepted is tables
tables_kept map accepted [] [] [] kept opened lie = record { now = []; lie = tt; opened = tt; same = tt; pages = λ n. refl }
tables_kept map accepted [] [] (t ∷ ts) kept opened lie = absurd opened
tables_kept map accepted [] (i ∷ is) tables kept opened lie = absurd kept
tables_kept map accepted (w ∷ ws) [] tables kept opened lie = absurd kept
tables_kept map accepted (w ∷ ws) (i ∷ is) [] kept opened lie = absurd opened
tables_kept map accepted (w ∷ ws) (i ∷ is) (t ∷ ts) kept opened lie =
    let rest = tables_kept map accepted ws is ts kept.1 opened.1 lie.1 in
    let next : TableContents = record t { indexes = i.indexes.items } in
    let kept_indexes : AllZip IsIndexKept t.indexes i.indexes.items = subst (λ (xs : List IndexState). AllZip IsIndexKept xs i.indexes.items) opened.0.indexes kept.0.indexes in
    let there : LiesTable map accepted next = record { records = lie.0.records; entries = kept_hold map lie.0.records.cells t.indexes i.indexes.items t.uses kept_indexes lie.0.entries } in
    let goes : IsOpened i next = record { types = kept.0.types ∙ opened.0.types; stands = kept.0.working ∙ opened.0.stands; indexes = refl } in
    let one : SameTable t next = record { types = refl; events = refl; stands = refl; indexes = sym (kept_roots t.indexes i.indexes.items kept_indexes); pages = λ n. refl } in
    record {
      now = next ∷ rest.now;
      lie = (there, rest.lie);
      opened = (goes, rest.opened);
      same = (one, rest.same);
      pages = λ n. omega (arith, all_of-cons (table_pages next) (map_pages rest.now) n, all_of-cons (table_pages t) (map_pages ts) n, rest.pages n);
    }

pub stays_opened : (was is : OpenedFile) → is.definitions ≡ was.definitions → is.pages ≡ was.pages → AllZip IsTableKept was.tables.items is.tables.items → is.referents.working ≡ was.referents.working → StaysOpened was is
stays_opened was is definitions pages tables referents = λ map accepted. record {
  each = λ contents holds opened.
      let kept = tables_kept map accepted was.tables.items is.tables.items contents.tables tables opened.tables holds.tables in
      let now : Contents = record contents { tables = kept.now } in
      record {
        contents = now;
        holds = record {
          definitions = holds.definitions;
          tables = kept.lie;
          referents = holds.referents;
          shares = shares_same map (owned contents) (owned now) (λ n. omega (arith, kept.pages n)) holds.shares;
        };
        opened = record {
          definitions = opened.definitions ∙ sym (ap said_catalogue definitions);
          pages = opened.pages ∙ sym (ap (λ (v : _). v.items) pages);
          tables = kept.opened;
          referents = opened.referents ∙ sym referents;
        };
        directory = refl;
        changed = record { definitions = refl; pages = refl; directory = refl; tables = kept.same; referents = refl; referents_stand = refl; referents_pages = λ n. refl };
      };
}

index_committed : (one other : IndexState) → IsIndexKept one other → other.committed ≡ other.working
index_committed one other kept = kept.committed ∙ sym kept.working

pub table_committed : (one other : OpenedTable) → IsTableKept one other → IsTableCommitted other
table_committed one other kept = record {
  records = kept.committed ∙ sym kept.working;
  indexes = each_right IsIndexKept (λ (index : IndexState). index.committed ≡ index.working) index_committed one.indexes.items other.indexes.items kept.indexes;
}

kept_fields : (one other : List IndexState) → AllZip IsIndexKept one other → map (λ index. index.field) other ≡ map (λ index. index.field) one
kept_fields [] [] all = refl
kept_fields [] (o ∷ os) all = absurd all
kept_fields (i ∷ is) [] all = absurd all
kept_fields (i ∷ is) (o ∷ os) all = let field : o.field ≡ i.field = all.0.field in let rest = kept_fields is os all.1 in cc

pub ready_kept : (was is : OpenedFile) → is.definitions ≡ was.definitions → AllZip IsTableKept was.tables.items is.tables.items → IsReady was → IsReady is
ready_kept was is definitions tables ready =
    ready_of was is IsTableKept (λ one other kept. (kept.types, kept_fields one.indexes.items other.indexes.items kept.indexes)) definitions tables ready

-- what is known to be dead stays as it is
order_each : (version : ℕ) (one other : List OpenedTable) → AllZip IsTableKept one other → AllByRecursion (λ (table : OpenedTable). HaveDiedBy version table.records.working.dead) one
    → AllByRecursion (λ (table : OpenedTable). HaveDiedBy version table.records.working.dead) other
order_each version [] [] all died = tt
order_each version [] (o ∷ os) all died = absurd all
order_each version (i ∷ is) [] all died = absurd all
order_each version (i ∷ is) (o ∷ os) all died =
    (subst (λ (standing : Standing). HaveDiedBy version standing.dead) (sym all.0.working) died.0, order_each version is os all.1 died.1)

pub order_kept : (was is : OpenedFile) → AllZip IsTableKept was.tables.items is.tables.items → is.referents.working ≡ was.referents.working
    → (version : ℕ) → HaveAllDiedBy version was → HaveAllDiedBy version is
order_kept was is tables referents version died = record {
  tables = order_each version was.tables.items is.tables.items tables died.tables;
  referents = subst (λ (standing : Standing). HaveDiedBy version standing.dead) (sym referents) died.referents;
}

-- what has not changed since the last commit is kept as it is
indexes_stand : (indexes : List IndexState) → AllByRecursion (λ (index : IndexState). index.committed ≡ index.working) indexes → AllZip IsIndexKept indexes indexes
indexes_stand [] all = tt
indexes_stand (i ∷ is) all = (record { field = refl; working = refl; committed = all.0 }, indexes_stand is all.1)

table_stands : (table : OpenedTable) → IsTableCommitted table → IsTableKept table table
table_stands table committed = record { types = refl; working = refl; committed = committed.records; indexes = indexes_stand table.indexes.items committed.indexes }

-- so only the tables that have changed have to be kept
pub kept_before : (from to : ℕ) (tables : List OpenedTable) → HaveChangedWithin from to (length tables) tables → Partly IsTableKept from tables tables
kept_before from to tables changed =
    partly_to IsTableKept from 0 from tables tables (omega arith) refl (λ place table low high there. table_stands table (changed.before place table high there))

pub kept_whole : (from to place : ℕ) (was is : List OpenedTable) → HaveChangedWithin from to (length was) was → to ≤ place → Partly IsTableKept place was is → AllZip IsTableKept was is
kept_whole from to place was is changed past partly =
    partly_whole IsTableKept place was is partly (λ other table low high there. table_stands table (changed.after other table (omega arith) high there))

-- ---- taken back

back_fields : (one other : List IndexState) → AllZip IsIndexTakenBack one other → map (λ index. index.field) other ≡ map (λ index. index.field) one
back_fields [] [] all = refl
back_fields [] (o ∷ os) all = absurd all
back_fields (i ∷ is) [] all = absurd all
back_fields (i ∷ is) (o ∷ os) all = let field : o.field ≡ i.field = all.0.field in let rest = back_fields is os all.1 in cc

pub ready_back : (was is : OpenedFile) → is.definitions ≡ was.definitions → AllZip IsTableTakenBack was.tables.items is.tables.items → IsReady was → IsReady is
ready_back was is definitions tables ready =
    ready_of was is IsTableTakenBack (λ one other back. (back.types, back_fields one.indexes.items other.indexes.items back.indexes)) definitions tables ready

pub back_committed : (one other : OpenedTable) → IsTableTakenBack one other → IsTableCommitted other
back_committed one other back = record {
  records = back.committed ∙ sym back.working;
  indexes = each_right IsIndexTakenBack (λ (index : IndexState). index.committed ≡ index.working) (λ a b taken. taken.committed ∙ sym taken.working) one.indexes.items other.indexes.items back.indexes;
}

-- indexes that were as at the commit, changed, and taken back
indexes_as_before : (was between is : List IndexState) → AllByRecursion (λ (index : IndexState). index.committed ≡ index.working) was → kept_parts between ≡ kept_parts was → AllZip IsIndexTakenBack between is → is ≡ was
indexes_as_before [] [] [] committed kept back = refl
indexes_as_before [] [] (i ∷ is) committed kept back = absurd back
indexes_as_before [] (b ∷ bs) is committed kept back = absurd (let wrong = kept in cc)
indexes_as_before (w ∷ ws) [] is committed kept back = absurd (let wrong = kept in cc)
indexes_as_before (w ∷ ws) (b ∷ bs) [] committed kept back = absurd back
indexes_as_before (w ∷ ws) (b ∷ bs) (i ∷ is) committed kept back =
    let rest : is ≡ ws = indexes_as_before ws bs is committed.1 (let same = kept in cc) back.1 in
    let pair : (b.field, b.committed) ≡ (w.field, w.committed) = let same = kept in cc in
    let field : i.field ≡ w.field = back.0.field ∙ ap (λ (part : Field × ℕ). part.0) pair in
    let stood : b.committed ≡ w.committed = ap (λ (part : Field × ℕ). part.1) pair in
    let kept_one : i.committed ≡ w.committed = back.0.committed ∙ stood in
    let working : i.working ≡ w.working = back.0.working ∙ stood ∙ committed.0 in
    λ k. record { field = field k; working = working k; committed = kept_one k } ∷ rest k

table_as_before : (was between is : OpenedTable) → IsTableCommitted was → KeepsOpened was between → IsTableTakenBack between is → SameOpened was is
table_as_before was between is committed kept back = record {
  records =
      let types : is.records.types ≡ was.records.types = back.types ∙ kept.types in
      let working : is.records.working ≡ was.records.working = back.working ∙ kept.committed ∙ committed.records in
      let stood : is.records.committed ≡ was.records.committed = back.committed ∙ kept.committed in
      λ k. record { types = types k; working = working k; committed = stood k };
  indexes = indexes_as_before was.indexes.items between.indexes.items is.indexes.items committed.indexes kept.kept back.indexes;
}

tables_as_before : (was between is : List OpenedTable) → AllByRecursion IsTableCommitted was → AllZip KeepsOpened was between → AllZip IsTableTakenBack between is → AllZip SameOpened was is
tables_as_before [] [] [] committed kept back = tt
tables_as_before [] [] (i ∷ is) committed kept back = absurd back
tables_as_before [] (b ∷ bs) is committed kept back = absurd kept
tables_as_before (w ∷ ws) [] is committed kept back = absurd kept
tables_as_before (w ∷ ws) (b ∷ bs) [] committed kept back = absurd back
tables_as_before (w ∷ ws) (b ∷ bs) (i ∷ is) committed kept back = (table_as_before w b i committed.0 kept.0 back.0, tables_as_before ws bs is committed.1 kept.1 back.1)

pub file_as_before : (was between is : OpenedFile) → IsCommitted was → KeepsCommitted was between → is.definitions ≡ between.definitions → is.pages ≡ between.pages → is.accepted ≡ between.accepted
    → AllZip IsTableTakenBack between.tables.items is.tables.items → is.referents.working ≡ between.referents.committed → is.referents.committed ≡ between.referents.committed → IsAsItWas was is
file_as_before was between is committed kept definitions pages accepted tables working stood = record {
  definitions = definitions ∙ kept.definitions;
  pages = pages ∙ kept.pages;
  accepted = accepted ∙ kept.accepted;
  tables = tables_as_before was.tables.items between.tables.items is.tables.items committed.tables kept.tables tables;
  referents =
      let work : is.referents.working ≡ was.referents.working = working ∙ kept.referents ∙ committed.referents in
      let was_stood : is.referents.committed ≡ was.referents.committed = stood ∙ kept.referents in
      λ k. record { types = record {}; working = work k; committed = was_stood k };
}
