-- What is open stays ready beside definitions of one table or one index more or less.
use Rattle.std.proofs.Common.{◌≡◌, ◌<◌, ◌≤◌, ◌+◌, ◌*◌, ◌==◌, ℕ, Bool, true, false, not, cond, Some, List, [], ◌∷◌, ◌++◌, filter, length, map, set, slice_get, refl, sym, ap, ◌∙◌, subst, arith}
use Rattle.std.proofs.lemmas.Bool.Decides.{nat_tests}
use Rattle.std.specs.List.{AllByRecursion, AllZip, insert, remove}
use Rattle.rs_attr.specs.Entries.{FitsPages, IsColumn}
use Rattle.rs_attr.specs.Tables.{IndexState}
use Rattle.rs_catalog_pages.specs.Items.{CatalogueItems, IndexItem, TableItem}
use Rattle.rs_catalog_pages.specs.Said.{said_catalogue}
use Rattle.rs_catalog_pages.proofs.Counting.{times-cons}
use Rattle.rs_file.specs.Contents.{AreGivenOnce, table_numbers}
use Rattle.rs_file.specs.Slots.{IsIndexOf, IsOfItem, indexes_on}
use Rattle.rs_file.specs.declared.opened.OpenedFile.{OpenedFile}
use Rattle.rs_file.specs.declared.opened.OpenedTable.{OpenedTable}
use Rattle.rs_file_parts.specs.Parts.{IsReady}
use Rattle.rs_file_parts.proofs.Lists.{beside, each_weaker, stands_at, together}
use Rattle.rs_page_owners.specs.Counts.{one_at, times}
use Rattle.rs_changes.specs.Tables.{HasIndexAt, HasIndexOfAt, HasTableAt, IsIndexPut, LosesTableAt}
use Rattle.rs_page_owners.proofs.Moving.{one_at-same}
use Rattle.rs_changes.proofs.Among.{all_first, all_last, apart, each_where, get_between, insert_between, joined, remove_between, set_between}
use Rattle.rs_value.specs.declared.column.ColumnType.{ColumnType}
use Rattle.rs_versioned.specs.Events.{event_width}

abbrev number_of : TableItem → ℕ
number_of item = item.number

-- ---- which indexes are on which table

pub test_same : (n m : ℕ) → n ≡ m → (n == m) ≡ true
test_same n m same = grind (arith, nat_tests)

pub test_other : (n m : ℕ) → (n ≡ m → ⊥) → (n == m) ≡ false
test_other n m other = grind (arith, nat_tests)

filter_both : {X : Type 0} (p : X → Bool) (before after : List X) → filter p (before ++ after) ≡ filter p before ++ filter p after
filter_both p [] after = refl
filter_both p (b ∷ bs) after =
    elim (p b) as (λ t. cond t (b ∷ filter p (bs ++ after)) (filter p (bs ++ after)) ≡ cond t (b ∷ filter p bs) (filter p bs) ++ filter p after) [
      | true ↦ ap (λ zs. b ∷ zs) (filter_both p bs after)
      | false ↦ filter_both p bs after
    ]

filter_yes : {X : Type 0} (p : X → Bool) (x : X) (xs : List X) → p x ≡ true → filter p (x ∷ xs) ≡ x ∷ filter p xs
filter_yes p x xs so = ap (λ t. cond t (x ∷ filter p xs) (filter p xs)) so

filter_no : {X : Type 0} (p : X → Bool) (x : X) (xs : List X) → p x ≡ false → filter p (x ∷ xs) ≡ filter p xs
filter_no p x xs so = ap (λ t. cond t (x ∷ filter p xs) (filter p xs)) so

filter_none : {X : Type 0} (p : X → Bool) (xs : List X) → AllByRecursion (λ x. p x ≡ false) xs → filter p xs ≡ []
filter_none p [] all = refl
filter_none p (x ∷ xs) all = filter_no p x xs all.0 ∙ filter_none p xs all.1

-- an index on a table is among those on it, at its place, and on no other
pub on_this : (before after : List IndexItem) (index : IndexItem) (number : ℕ) → index.table ≡ number
    → indexes_on (before ++ index ∷ after) number ≡ indexes_on before number ++ index ∷ indexes_on after number
on_this before after index number same =
    filter_both (λ (i : IndexItem). i.table == number) before (index ∷ after)
    ∙ ap (λ zs. indexes_on before number ++ zs) (filter_yes (λ (i : IndexItem). i.table == number) index after (test_same index.table number same))

pub on_both : (before after : List IndexItem) (number : ℕ) → indexes_on (before ++ after) number ≡ indexes_on before number ++ indexes_on after number
on_both before after number = filter_both (λ (i : IndexItem). i.table == number) before after

pub on_other : (before after : List IndexItem) (index : IndexItem) (number : ℕ) → (index.table ≡ number → ⊥)
    → indexes_on (before ++ index ∷ after) number ≡ indexes_on (before ++ after) number
on_other before after index number other =
    filter_both (λ (i : IndexItem). i.table == number) before (index ∷ after)
    ∙ ap (λ zs. indexes_on before number ++ zs) (filter_no (λ (i : IndexItem). i.table == number) index after (test_other index.table number other))
    ∙ sym (on_both before after number)

-- those on a table are the same where those on another are gone
left_next : (i : IndexItem) (is : List IndexItem) (gone number : ℕ) → (number ≡ gone → ⊥)
    → indexes_on (filter (λ index. not (index.table == gone)) is) number ≡ indexes_on is number → (t : Bool) → (i.table == gone) ≡ t
    → indexes_on (filter (λ index. not (index.table == gone)) (i ∷ is)) number ≡ indexes_on (i ∷ is) number
left_next i is gone number other rest true same =
    let apart : (i.table == number) ≡ false = grind (arith, nat_tests) in
    ap (λ zs. indexes_on zs number) (filter_no (λ (index : IndexItem). not (index.table == gone)) i is (ap not same))
    ∙ rest ∙ sym (filter_no (λ (index : IndexItem). index.table == number) i is apart)
left_next i is gone number other rest false differ =
    ap (λ zs. indexes_on zs number) (filter_yes (λ (index : IndexItem). not (index.table == gone)) i is (ap not differ))
    ∙ elim (i.table == number) as (λ t. cond t (i ∷ indexes_on (filter (λ index. not (index.table == gone)) is) number) (indexes_on (filter (λ index. not (index.table == gone)) is) number)
    ≡ cond t (i ∷ indexes_on is number) (indexes_on is number)) [
      | true ↦ ap (λ zs. i ∷ zs) rest
      | false ↦ rest
    ]

pub on_left : (indexes : List IndexItem) (gone number : ℕ) → (number ≡ gone → ⊥)
    → indexes_on (filter (λ index. not (index.table == gone)) indexes) number ≡ indexes_on indexes number
on_left [] gone number other = refl
on_left (i ∷ is) gone number other = left_next i is gone number other (on_left is gone number other) (i.table == gone) refl

-- ---- numbers that are given once

times_between : (before after : List TableItem) (item : TableItem) (n : ℕ)
    → times (map number_of (before ++ item ∷ after)) n ≡ one_at item.number n + times (map number_of (before ++ after)) n
times_between [] after item n = times-cons item.number (map number_of after) n
times_between (b ∷ bs) after item n =
    omega (arith, times-cons b.number (map number_of (bs ++ item ∷ after)) n, times-cons b.number (map number_of (bs ++ after)) n, times_between bs after item n)

none_same : (items : List TableItem) (number : ℕ) → times (map number_of items) number ≡ 0 → AllByRecursion (λ (one : TableItem). one.number ≡ number → ⊥) items
none_same [] number none = tt
none_same (i ∷ is) number none = (
  λ same. omega (arith, none, times-cons i.number (map number_of is) number, ap (λ n. one_at i.number n) (sym same), one_at-same i.number),
  none_same is number (omega (arith, none, times-cons i.number (map number_of is) number)),
)

-- the others have other numbers
pub others_differ : (before after : List TableItem) (item : TableItem) → times (map number_of (before ++ item ∷ after)) item.number ≤ 1
    → AllByRecursion (λ (one : TableItem). one.number ≡ item.number → ⊥) (before ++ after)
others_differ before after item once =
    none_same (before ++ after) item.number (omega (arith, once, times_between before after item item.number, one_at-same item.number))

-- no index is on a table that is not there
pub none_on : (indexes : List IndexItem) (numbers : List ℕ) (number : ℕ) → times numbers number ≡ 0 → AllByRecursion (λ index. 0 < times numbers index.table) indexes
    → indexes_on indexes number ≡ []
none_on indexes numbers number none of = filter_none (λ (i : IndexItem). i.table == number) indexes (all indexes of) where
  all : (is : List IndexItem) → AllByRecursion (λ index. 0 < times numbers index.table) is → AllByRecursion (λ (index : IndexItem). (index.table == number) ≡ false) is
  all [] each = tt
  all (i ∷ is) each = (
    test_other i.table number (λ same. omega (arith, each.0, none, ap (times numbers) same)),
    all is each.1,
  )

-- ---- tables of their items

-- a table stays of its item where the indexes on it stay
pub of_item_still : (one other : CatalogueItems) (item : TableItem) (opened : OpenedTable) → indexes_on other.indexes item.number ≡ indexes_on one.indexes item.number
    → IsOfItem one item opened → IsOfItem other item opened
of_item_still one other item opened same of = record {
  few = of.few;
  types = of.types;
  fits = of.fits;
  indexes = subst (λ (is : List IndexItem). AllZip (IsIndexOf opened.records.types) is opened.indexes.items) (sym same) of.indexes;
}

module _ (was is : OpenedFile) (ready : IsReady was) (given : AreGivenOnce (said_catalogue is.definitions)) where
  -- a table has come
  pub ready_with_table : (place : ℕ) (types : List ColumnType) → HasTableAt place types (said_catalogue was.definitions) (said_catalogue is.definitions)
      → (table : OpenedTable) → table.records.types ≡ types → table.indexes.items ≡ [] → is.tables.items ≡ insert was.tables.items place table → IsReady is
  ready_with_table place types more table types_are no_indexes tables =
      let one = said_catalogue was.definitions in
      let other = said_catalogue is.definitions in
      let item = more.item in
      let R = IsOfItem other in
      let stay : (t : TableItem) (o : OpenedTable) → IsOfItem one t o → IsOfItem other t o =
      λ t o of. of_item_still one other t o (ap (λ (xs : List IndexItem). indexes_on xs t.number) more.indexes) of in
      let old = each_weaker (IsOfItem one) R stay (more.tables.before ++ more.tables.after) was.tables.items
      (subst (λ (ts : List TableItem). AllZip (IsOfItem one) ts was.tables.items) more.tables.was ready.tables) in
      let at = apart R more.tables.before more.tables.after was.tables.items old in
      let once = subst (λ (ts : List TableItem). times (map number_of ts) item.number ≤ 1) more.tables.is (given.tables_once item.number) in
      let none : times (table_numbers one) item.number ≡ 0 =
      omega (
        arith,
        once,
        times_between more.tables.before more.tables.after item item.number,
        one_at-same item.number,
        ap (λ (ts : List TableItem). times (map number_of ts) item.number) more.tables.was,
      ) in
      let no_on : indexes_on other.indexes item.number ≡ [] =
      ap (λ (xs : List IndexItem). indexes_on xs item.number) more.indexes ∙ none_on one.indexes (table_numbers one) item.number none ready.given.of_tables in
      let here : R item table = record {
        few = more.few;
        types = types_are ∙ more.types_are;
        fits = subst (λ (ts : List ColumnType). 3 * (8 + event_width ts) ≤ 4080) (sym types_are) more.fits;
        indexes = subst (λ (is : List IndexItem). AllZip (IsIndexOf table.records.types) is table.indexes.items) (sym no_on)
            (subst (λ (os : List IndexState). AllZip (IsIndexOf table.records.types) [] os) (sym no_indexes) tt);
      } in
      let are : is.tables.items ≡ at.first ++ table ∷ at.last =
      tables ∙ ap (λ (ts : List OpenedTable). insert ts place table) at.are ∙ insert_between at.first at.last place table (at.long ∙ more.tables.long) in
      record {
        given = given;
        tables = subst (λ (ts : List TableItem). AllZip R ts is.tables.items) (sym more.tables.is)
            (subst (AllZip R (more.tables.before ++ item ∷ more.tables.after)) (sym are)
            (together R more.tables.before item more.tables.after at.first table at.last at.firsts here at.lasts));
      }

  -- a table has gone
  pub ready_without_table : (place : ℕ) → LosesTableAt place (said_catalogue was.definitions) (said_catalogue is.definitions)
      → is.tables.items ≡ remove was.tables.items place → IsReady is
  ready_without_table place less tables =
      let one = said_catalogue was.definitions in
      let other = said_catalogue is.definitions in
      let item = less.item in
      let before = less.tables.before in
      let after = less.tables.after in
      let R = IsOfItem other in
      let at = beside (IsOfItem one) before item after was.tables.items (subst (λ (ts : List TableItem). AllZip (IsOfItem one) ts was.tables.items) less.tables.is ready.tables) in
      let once = subst (λ (ts : List TableItem). times (map number_of ts) item.number ≤ 1) less.tables.is (ready.given.tables_once item.number) in
      let differ = others_differ before after item once in
      let P : TableItem → Type 0 = λ t. t.number ≡ item.number → ⊥ in
      let stay : (t : TableItem) (o : OpenedTable) → P t → IsOfItem one t o → IsOfItem other t o =
      λ t o apart of. of_item_still one other t o (ap (λ (xs : List IndexItem). indexes_on xs t.number) less.indexes ∙ on_left one.indexes item.number t.number apart) of in
      let are : is.tables.items ≡ at.first ++ at.last =
      tables ∙ ap (λ (ts : List OpenedTable). remove ts place) at.are ∙ remove_between at.first at.last place at.one (at.long ∙ less.tables.long) in
      record {
        given = given;
        tables = subst (λ (ts : List TableItem). AllZip R ts is.tables.items) (sym less.tables.was)
            (subst (AllZip R (before ++ after)) (sym are)
            (joined R before after at.first at.last
            (each_where P (IsOfItem one) R stay before at.first (all_first P before after differ) at.firsts)
            (each_where P (IsOfItem one) R stay after at.last (all_last P before after differ) at.lasts)));
      }

  module _ (place : ℕ) (item : TableItem) (there : slice_get (said_catalogue was.definitions).tables place ≡ Some item)
      (same : (said_catalogue is.definitions).tables ≡ (said_catalogue was.definitions).tables)
      (others : (t : TableItem) → (t.number ≡ item.number → ⊥) → indexes_on (said_catalogue is.definitions).indexes t.number ≡ indexes_on (said_catalogue was.definitions).indexes t.number)
      (now : OpenedTable) (tables : is.tables.items ≡ set was.tables.items place now) where
    -- the table at the place has other indexes
    ready_beside : ((opened : OpenedTable) → slice_get was.tables.items place ≡ Some opened → IsOfItem (said_catalogue was.definitions) item opened
        → IsOfItem (said_catalogue is.definitions) item now) → IsReady is
    ready_beside becomes =
        let one = said_catalogue was.definitions in
        let other = said_catalogue is.definitions in
        let R = IsOfItem other in
        let s = stands_at one.tables place item there in
        let at = beside (IsOfItem one) s.before item s.after was.tables.items (subst (λ (ts : List TableItem). AllZip (IsOfItem one) ts was.tables.items) s.are ready.tables) in
        let once = subst (λ (ts : List TableItem). times (map number_of ts) item.number ≤ 1) s.are (ready.given.tables_once item.number) in
        let differ = others_differ s.before s.after item once in
        let P : TableItem → Type 0 = λ t. t.number ≡ item.number → ⊥ in
        let stay : (t : TableItem) (o : OpenedTable) → P t → IsOfItem one t o → IsOfItem other t o = λ t o apart of. of_item_still one other t o (others t apart) of in
        let long : length at.first ≡ place = at.long ∙ s.long in
        let here = becomes at.one (ap (λ (ts : List OpenedTable). slice_get ts place) at.are ∙ get_between at.first at.last place at.one long) at.goes in
        let are : is.tables.items ≡ at.first ++ now ∷ at.last =
        tables ∙ ap (λ (ts : List OpenedTable). set ts place now) at.are ∙ set_between at.first at.last place at.one now long in
        record {
          given = given;
          tables = subst (λ (ts : List TableItem). AllZip R ts is.tables.items) (sym (same ∙ s.are))
              (subst (AllZip R (s.before ++ item ∷ s.after)) (sym are)
              (together R s.before item s.after at.first now at.last
              (each_where P (IsOfItem one) R stay s.before at.first (all_first P s.before s.after differ) at.firsts) here
              (each_where P (IsOfItem one) R stay s.after at.last (all_last P s.before s.after differ) at.lasts)));
        }

  pub ready_with_index : (place position column : ℕ) → HasIndexOfAt place position column (said_catalogue was.definitions) (said_catalogue is.definitions)
      → (table now : OpenedTable) → slice_get was.tables.items place ≡ Some table → IsIndexPut position column table now
      → is.tables.items ≡ set was.tables.items place now → IsReady is
  ready_with_index place position column of_column table now here put tables =
      let one = said_catalogue was.definitions in
      let other = said_catalogue is.definitions in
      let more = of_column.more in
      let item = more.table in
      let there : slice_get one.tables place ≡ Some item = ap (λ (ts : List TableItem). slice_get ts place) (sym more.tables) ∙ more.there in
      let others : (t : TableItem) → (t.number ≡ item.number → ⊥) → indexes_on other.indexes t.number ≡ indexes_on one.indexes t.number =
      λ t apart. ap (λ (xs : List IndexItem). indexes_on xs t.number) more.are
      ∙ on_other more.before more.after more.index t.number (λ on. apart (sym on ∙ more.of_table))
      ∙ ap (λ (xs : List IndexItem). indexes_on xs t.number) (sym more.were) in
      ready_beside place item there more.tables others now tables (λ opened is_at of.
      let same : opened ≡ table = cc in
      let of_table : IsOfItem one item table = subst (IsOfItem one item) same of in
      let types : now.records.types ≡ table.records.types = ap (λ (r : _). r.types) put.records in
      let n = item.number in
      let I = IsIndexOf table.records.types in
      let on_old : indexes_on one.indexes n ≡ indexes_on more.before n ++ indexes_on more.after n = ap (λ (xs : List IndexItem). indexes_on xs n) more.were ∙ on_both more.before more.after n in
      let a = apart I (indexes_on more.before n) (indexes_on more.after n) table.indexes.items (subst (λ (is : List IndexItem). AllZip I is table.indexes.items) on_old of_table.indexes) in
      let items : now.indexes.items ≡ a.first ++ put.index ∷ a.last =
      put.indexes ∙ ap (λ (xs : List IndexState). insert xs position put.index) a.are ∙ insert_between a.first a.last position put.index (a.long ∙ more.long) in
      let on_new : indexes_on other.indexes n ≡ indexes_on more.before n ++ more.index ∷ indexes_on more.after n =
      ap (λ (xs : List IndexItem). indexes_on xs n) more.are ∙ on_this more.before more.after more.index n more.of_table in
      let it : I more.index put.index = record {
        column = subst (λ c. IsColumn table.records.types c put.index.field) (sym of_column.column_is) put.fresh.column;
        fits = subst (FitsPages table.records.types) (sym of_column.column_is) (subst (λ (ts : List ColumnType). FitsPages ts column) (sym of_table.types) of_column.fits);
      } in
      let all = together I (indexes_on more.before n) more.index (indexes_on more.after n) a.first put.index a.last a.firsts it a.lasts in
      record {
        few = of_table.few;
        types = types ∙ of_table.types;
        fits = subst (λ (ts : List ColumnType). 3 * (8 + event_width ts) ≤ 4080) (sym types) of_table.fits;
        indexes = subst (λ (ts : List ColumnType). AllZip (IsIndexOf ts) (indexes_on other.indexes n) now.indexes.items) (sym types)
            (subst (λ (is : List IndexItem). AllZip I is now.indexes.items) (sym on_new)
            (subst (AllZip I (indexes_on more.before n ++ more.index ∷ indexes_on more.after n)) (sym items) all));
      })

  pub ready_without_index : (place position : ℕ) → HasIndexAt place position (said_catalogue is.definitions) (said_catalogue was.definitions)
      → (table now : OpenedTable) → slice_get was.tables.items place ≡ Some table → now.records ≡ table.records
      → now.indexes.items ≡ remove table.indexes.items position → is.tables.items ≡ set was.tables.items place now → IsReady is
  ready_without_index place position less table now here records taken tables =
      let one = said_catalogue was.definitions in
      let other = said_catalogue is.definitions in
      let item = less.table in
      let others : (t : TableItem) → (t.number ≡ item.number → ⊥) → indexes_on other.indexes t.number ≡ indexes_on one.indexes t.number =
      λ t apart. ap (λ (xs : List IndexItem). indexes_on xs t.number) less.were
      ∙ sym (on_other less.before less.after less.index t.number (λ on. apart (sym on ∙ less.of_table)))
      ∙ ap (λ (xs : List IndexItem). indexes_on xs t.number) (sym less.are) in
      ready_beside place item less.there (sym less.tables) others now tables (λ opened is_at of.
      let same : opened ≡ table = cc in
      let of_table : IsOfItem one item table = subst (IsOfItem one item) same of in
      let types : now.records.types ≡ table.records.types = ap (λ (r : _). r.types) records in
      let n = item.number in
      let I = IsIndexOf table.records.types in
      let on_old : indexes_on one.indexes n ≡ indexes_on less.before n ++ less.index ∷ indexes_on less.after n =
      ap (λ (xs : List IndexItem). indexes_on xs n) less.are ∙ on_this less.before less.after less.index n less.of_table in
      let a = beside I (indexes_on less.before n) less.index (indexes_on less.after n) table.indexes.items (subst (λ (is : List IndexItem). AllZip I is table.indexes.items) on_old of_table.indexes) in
      let items : now.indexes.items ≡ a.first ++ a.last =
      taken ∙ ap (λ (xs : List IndexState). remove xs position) a.are ∙ remove_between a.first a.last position a.one (a.long ∙ less.long) in
      let on_new : indexes_on other.indexes n ≡ indexes_on less.before n ++ indexes_on less.after n =
      ap (λ (xs : List IndexItem). indexes_on xs n) less.were ∙ on_both less.before less.after n in
      record {
        few = of_table.few;
        types = types ∙ of_table.types;
        fits = subst (λ (ts : List ColumnType). 3 * (8 + event_width ts) ≤ 4080) (sym types) of_table.fits;
        indexes = subst (λ (ts : List ColumnType). AllZip (IsIndexOf ts) (indexes_on other.indexes n) now.indexes.items) (sym types)
            (subst (λ (is : List IndexItem). AllZip I is now.indexes.items) (sym on_new)
            (subst (AllZip I (indexes_on less.before n ++ indexes_on less.after n)) (sym items)
            (joined I (indexes_on less.before n) (indexes_on less.after n) a.first a.last a.firsts a.lasts)));
      })
