-- Slots that are filled one after another.
use Rattle.std.proofs.Common.{◌≡◌, ◌<◌, ◌≤◌, ◌+◌, ◌*◌, ◌^◌, ◌==◌, ℕ, zero, suc, Bool, true, false, Some, All, List, [], ◌∷◌, ◌++◌, cond, filter, get_or, length, map, set, slice_get, take, refl, sym, ap, subst, ◌∙◌, arith}
use Rattle.std.specs.List.{AllByRecursion, AllZip}
use Rattle.std.proofs.lemmas.Bool.{false≢true}
use Rattle.std.proofs.lemmas.Bool.Decides.{nat_tests}
use Rattle.std.proofs.lemmas.List.{length-map, length-set, map-append}
use Rattle.std.proofs.lemmas.List.Elements.{All-from_recursion, All-set}
use Rattle.std.proofs.lemmas.Option.{slice_get_read}
use Rattle.std.proofs.lemmas.Simd.{map-map}
use Rattle.rs_attr.specs.Entries.{IsColumn}
use Rattle.rs_attr.specs.Tables.{IndexState}
use Rattle.rs_catalog_pages.specs.Directory.{DirectoryItems, TreeItem}
use Rattle.rs_catalog_pages.specs.Fitting.{FitsTree}
use Rattle.rs_catalog_pages.specs.Items.{CatalogueItems, IndexItem, TableItem}
use Rattle.rs_catalog_pages.specs.Said.{said_index, said_tree}
use Rattle.rs_catalog_pages.specs.declared.directory_items.StoredRoot.{StoredRoot}
use Rattle.rs_catalog_pages.specs.declared.directory_items.StoredTree.{StoredTree}
use Rattle.rs_catalog_pages.specs.declared.directory_items.TheConstants.{INDEXES, TABLES}
use Rattle.rs_catalog_pages.specs.declared.items.StoredIndex.{StoredIndex}
use Rattle.rs_catalog_pages.proofs.Counting.{times-cons, times-none, times-push}
use Rattle.rs_file.specs.Contents.{AreGivenOnce, AreNumbered, AreSaid, Contents, IsIndex, IsTable, TableContents, item_of, no_tree}
use Rattle.rs_file.specs.Opening.{IsOpened, IsTableOf}
use Rattle.rs_file.specs.Slots.{ArePut, AreRoots, AreTrees, HasAsMany, HasRoot, HasRoots, HasTree, IsIndexOf, IsOfItem, indexes_on, said_roots}
use Rattle.rs_file.specs.declared.opened.OpenedTable.{OpenedTable}
use Rattle.rs_file.proofs.Selected.{zip_push}
use Rattle.rs_page_owners.specs.Counts.{one_at, times}
use Rattle.rs_page_owners.proofs.Moving.{one_at-same}
use Rattle.rs_pages.proofs.PlainStore.{at_set, beside_set}
use Rattle.rs_tree.proofs.Lists.{all_at, has_inside, inside_has, take_next, zip_lengths}
use Rattle.rs_value.specs.declared.column.ColumnType.{ColumnType}
use Rattle.rs_versioned.specs.Events.{event_width}
use Rattle.rs_attr.specs.Versioned.{Standing}

-- the numbers of items that two tests select, of which no item passes both
pub times-both : {X : Type 0} (number : X → ℕ) (p q : X → Bool) → ((x : X) → p x ≡ true → q x ≡ true → ⊥) → (xs : List X) (n : ℕ)
    → times (map number (filter p xs)) n + times (map number (filter q xs)) n ≤ times (map number xs) n
times-both number p q apart [] n = omega (arith, times-none n)
times-both number p q apart (x ∷ xs) n =
    let rest = times-both number p q apart xs n in
    let all = times-cons (number x) (map number xs) n in
    let one = times-cons (number x) (map number (filter p xs)) n in
    let other = times-cons (number x) (map number (filter q xs)) n in
    elim (p x) as (λ b. (b ≡ true → q x ≡ true → ⊥)
    → times (map number (cond b (x ∷ filter p xs) (filter p xs))) n + times (map number (cond (q x) (x ∷ filter q xs) (filter q xs))) n ≤ times (map number (x ∷ xs)) n) [
      | true ↦ λ no. elim (q x) as (λ b. (true ≡ true → b ≡ true → ⊥)
          → times (map number (x ∷ filter p xs)) n + times (map number (cond b (x ∷ filter q xs) (filter q xs))) n ≤ times (map number (x ∷ xs)) n) [
            | true ↦ λ both. absurd (both refl refl)
            | false ↦ λ both. omega (arith, rest, all, one)
          ] no
      | false ↦ λ no. elim (q x) as (λ b. times (map number (filter p xs)) n + times (map number (cond b (x ∷ filter q xs) (filter q xs))) n ≤ times (map number (x ∷ xs)) n) [
        | true ↦ omega (arith, rest, all, other)
        | false ↦ omega (arith, rest, all)
      ]
    ] (apart x)

pub times-filter : {X : Type 0} (number : X → ℕ) (p : X → Bool) (xs : List X) (n : ℕ) → times (map number (filter p xs)) n ≤ times (map number xs) n
times-filter number p xs n = omega (arith, times-both number p (λ _. false) (λ x one other. false≢true other) xs n)

-- the number of an item, among the items before it
pub times-earlier : {X : Type 0} (number : X → ℕ) (xs : List X) (k : ℕ) (x : X) → slice_get xs k ≡ Some x
    → times (map number (take k xs)) (number x) + 1 ≤ times (map number xs) (number x)
times-earlier number [] k x there = absurd (omega (arith, has_inside [] k x there))
times-earlier number (y ∷ ys) zero x there =
    let same : y ≡ x = cc in
    omega (arith, times-cons (number y) (map number ys) (number x), ap (λ z. one_at (number z) (number x)) same, one_at-same (number x), times-none (number x))
times-earlier number (y ∷ ys) (suc k) x there =
    omega (arith, times-cons (number y) (map number ys) (number x), times-cons (number y) (map number (take k ys)) (number x), times-earlier number ys k x there)

-- the first items and one more
pub take_one : {X : Type 0} (xs : List X) (k : ℕ) (x : X) → slice_get xs k ≡ Some x → take (k + 1) xs ≡ take k xs ++ x ∷ []
take_one xs k x there =
    let next : k + 1 ≡ suc k = omega arith in
    ap (λ (n : ℕ). take n xs) next ∙ take_next xs k x there

zip_upto : {X Y : Type 0} (R : X → Y → Type 0) (xs : List X) (ys : List Y) (k : ℕ) (x : X) (y : Y) → slice_get xs k ≡ Some x → slice_get ys k ≡ Some y
    → AllZip R (take k xs) (take k ys) → R x y → AllZip R (take (k + 1) xs) (take (k + 1) ys)
zip_upto {X = X} {Y = Y} R xs ys k x y there here all one =
    subst (λ (zs : List X). AllZip R zs (take (k + 1) ys)) (sym (take_one xs k x there))
    (subst (λ (zs : List Y). AllZip R (take k xs ++ x ∷ []) zs) (sym (take_one ys k y here)) (zip_push R (take k xs) (take k ys) x y all one))

-- one more number
times-one_more : {X : Type 0} (number : X → ℕ) (xs : List X) (x : X) (n : ℕ) → times (map number (xs ++ x ∷ [])) n ≡ one_at (number x) n + times (map number xs) n
times-one_more number xs x n = ap (λ (ms : List ℕ). times ms n) (map-append number xs (x ∷ [])) ∙ times-push (map number xs) (number x) n

-- slots that are kept have what they had
zip_kept : {X Y V : Type 0} (number : X → ℕ) (value : Y → V) (old new : List V) (xs : List X) (ys : List Y)
    → AllZip (λ x y. slice_get old (number x) ≡ Some (value y)) xs ys → ((n : ℕ) → 0 < times (map number xs) n → slice_get new n ≡ slice_get old n)
    → AllZip (λ x y. slice_get new (number x) ≡ Some (value y)) xs ys
zip_kept number value old new [] [] all kept = tt
zip_kept number value old new [] (y ∷ ys) all kept = absurd all
zip_kept number value old new (x ∷ xs) [] all kept = absurd all
zip_kept number value old new (x ∷ xs) (y ∷ ys) all kept = (
  kept (number x) (omega (arith, times-cons (number x) (map number xs) (number x), one_at-same (number x))) ∙ all.0,
  zip_kept number value old new xs ys all.1 (λ n some. kept n (omega (arith, some, times-cons (number x) (map number xs) n))),
)

zip_set : {X Y V : Type 0} (number : X → ℕ) (value : Y → V) (slots : List V) (m : ℕ) (v : V) (xs : List X) (ys : List Y) → times (map number xs) m ≡ 0
    → AllZip (λ x y. slice_get slots (number x) ≡ Some (value y)) xs ys → AllZip (λ x y. slice_get (set slots m v) (number x) ≡ Some (value y)) xs ys
zip_set number value slots m v xs ys none all =
    zip_kept number value slots (set slots m v) xs ys all (λ n some. beside_set slots m n v (λ same. omega (arith, some, none, ap (times (map number xs)) same)))

-- slots that are all the same
each_same : {X : Type 0} (none : X) (xs : List X) → AllByRecursion (λ x. x ≡ none) xs → (n : ℕ) → n < length xs → slice_get xs n ≡ Some none
each_same {X = X} none xs all n inside =
    let one = inside_has xs n inside in
    one.1 ∙ ap (λ (x : X). Some x) (all_at (λ x. x ≡ none) xs n one.0 all one.1)

all_from_said : {X Y : Type 0} (said : X → Y) (P Q : Y → Type 0) → ((y : Y) → P y → Q y) → (xs : List X) → AllByRecursion (λ x. P (said x)) xs → AllByRecursion Q (map said xs)
all_from_said said P Q then [] all = tt
all_from_said said P Q then (x ∷ xs) all = (then (said x) all.0, all_from_said said P Q then xs all.1)

fits_none : FitsTree no_tree
fits_none = record { root = omega arith; living = omega arith; garbage = omega arith }

-- no tree under any number
pub trees_none : (trees : List StoredTree) → length trees ≡ TABLES → AllByRecursion (λ tree. said_tree tree ≡ no_tree) trees → AreTrees [] [] (map said_tree trees)
trees_none trees many none =
    let said : List TreeItem = map said_tree trees in
    let all : AllByRecursion (λ (tree : TreeItem). tree ≡ no_tree) said = all_from_said said_tree (λ tree. tree ≡ no_tree) (λ tree. tree ≡ no_tree) (λ tree is. is) trees none in
    let wide : length said ≡ TABLES = length-map trees said_tree ∙ many in
    record {
      slots = wide;
      fit = All-from_recursion FitsTree said (all_from_said said_tree (λ tree. tree ≡ no_tree) FitsTree (λ tree is. subst FitsTree (sym is) fits_none) trees none);
      given = tt;
      others = λ n below lacks. each_same no_tree said all n (omega (arith, below, wide));
    }

-- one table more
pub trees_next : (items : List TableItem) (opened : List OpenedTable) (trees : List TreeItem) (k : ℕ) (item : TableItem) (table : OpenedTable) (tree : TreeItem)
    → slice_get items k ≡ Some item → slice_get opened k ≡ Some table → item.number < TABLES → times (map (λ item. item.number) items) item.number ≤ 1
    → tree ≡ item_of table.records.working → FitsTree tree → AreTrees (take k items) (take k opened) trees
    → AreTrees (take (k + 1) items) (take (k + 1) opened) (set trees item.number tree)
trees_next items opened trees k item table tree there here below once is fits so_far =
    let number : TableItem → ℕ = λ item. item.number in
    let now : List TreeItem = set trees item.number tree in
    let none : times (map number (take k items)) item.number ≡ 0 = omega (arith, times-earlier number items k item there, once) in
    record {
      slots = length-set trees item.number tree ∙ so_far.slots;
      fit = All-set FitsTree trees item.number tree fits so_far.fit;
      given = zip_upto (HasTree now) items opened k item table there here
          (zip_set number (λ (t : OpenedTable). item_of t.records.working) trees item.number tree (take k items) (take k opened) none so_far.given)
          (at_set trees item.number tree (omega (arith, below, so_far.slots)) ∙ ap (λ (t : TreeItem). Some t) is);
      others = λ n inside lacks.
          let more : times (map number (take (k + 1) items)) n ≡ one_at item.number n + times (map number (take k items)) n =
          ap (λ (xs : List TableItem). times (map number xs) n) (take_one items k item there) ∙ times-one_more number (take k items) item n in
          beside_set trees item.number n tree (λ same. omega (arith, lacks, more, ap (one_at item.number) same, one_at-same item.number))
          ∙ so_far.others n inside (omega (arith, lacks, more));
    }

-- no root under any number
pub roots_none : (indexes : List IndexItem) (roots : List StoredRoot) → length roots ≡ INDEXES → AllByRecursion (λ root. root.root ≡ 0) roots
    → AreRoots indexes [] [] (said_roots roots)
roots_none indexes roots many none =
    let said : List ℕ = said_roots roots in
    let root_of : StoredRoot → ℕ = λ root. root.root in
    let all : AllByRecursion (λ (root : ℕ). root ≡ 0) said = all_from_said root_of (λ root. root ≡ 0) (λ root. root ≡ 0) (λ root is. is) roots none in
    let wide : length said ≡ INDEXES = length-map roots root_of ∙ many in
    record {
      slots = wide;
      fit = All-from_recursion (λ (root : ℕ). root < 2 ^ 32) said (all_from_said root_of (λ root. root ≡ 0) (λ root. root < 2 ^ 32) (λ root is. omega (arith, is)) roots none);
      given = tt;
      others = λ n below lacks. each_same 0 said all n (omega (arith, below, wide));
    }

-- one index more
pub put_none : (roots : List ℕ) → length roots ≡ INDEXES → All (λ root. root < 2 ^ 32) roots → ArePut [] [] roots roots
put_none roots slots fit = record { slots = slots; fit = fit; given = tt; others = λ n none. refl }

pub put_next : (items : List IndexItem) (states : List IndexState) (old roots : List ℕ) (item : IndexItem) (state : IndexState) (root : ℕ) → item.number < INDEXES
    → times (map (λ item. item.number) items) item.number ≡ 0 → root ≡ state.working → root < 2 ^ 32 → ArePut items states old roots
    → ArePut (items ++ item ∷ []) (states ++ state ∷ []) old (set roots item.number root)
put_next items states old roots item state root below none is fits so_far =
    let number : IndexItem → ℕ = λ item. item.number in
    let now : List ℕ = set roots item.number root in
    record {
      slots = length-set roots item.number root ∙ so_far.slots;
      fit = All-set (λ (root : ℕ). root < 2 ^ 32) roots item.number root fits so_far.fit;
      given = zip_push (HasRoot now) items states item state
          (zip_set number (λ (s : IndexState). s.working) roots item.number root items states none so_far.given)
          (at_set roots item.number root (omega (arith, below, so_far.slots)) ∙ ap (λ (r : ℕ). Some r) is);
      others = λ n lacks.
          let more = times-one_more number items item n in
          beside_set roots item.number n root (λ same. omega (arith, lacks, more, ap (one_at item.number) same, one_at-same item.number))
          ∙ so_far.others n (omega (arith, lacks, more));
    }

-- no index before one is of its number
pub selected_before : (items : List StoredIndex) (i : ℕ) (item : StoredIndex) → i < length items → item ≡ get_or items i item
    → times (map (λ index. index.number) (map said_index items)) item.number ≤ 1 → (has : IndexItem → Bool)
    → times (map (λ index. index.number) (filter has (map said_index (take i items)))) item.number ≡ 0
selected_before items i item inside is once has =
    let number : IndexItem → ℕ = λ index. index.number in
    let there = slice_get_read items (length items) i item refl inside is in
    omega (
      arith,
      once,
      times-filter number has (map said_index (take i items)) item.number,
      times-earlier (λ (index : StoredIndex). index.number) items i item there,
      ap (λ (ms : List ℕ). times ms item.number) (map-map number said_index items),
      ap (λ (ms : List ℕ). times ms item.number) (map-map number said_index (take i items)),
    )

module _ (indexes : List IndexItem) (once : (n : ℕ) → times (map (λ index. index.number) indexes) n ≤ 1) (roots new : List ℕ) (number : ℕ) where
  -- the indexes of other tables keep their roots
  roots_kept : ((n : ℕ) → times (map (λ index. index.number) (indexes_on indexes number)) n ≡ 0 → slice_get new n ≡ slice_get roots n)
      → (items : List TableItem) (opened : List OpenedTable) → times (map (λ item. item.number) items) number ≡ 0 → AllZip (HasRoots indexes roots) items opened → AllZip (HasRoots indexes new) items opened
  roots_kept others [] [] none all = tt
  roots_kept others [] (o ∷ os) none all = absurd all
  roots_kept others (item ∷ items) [] none all = absurd all
  roots_kept others (item ∷ items) (o ∷ os) none all =
      let number_of : IndexItem → ℕ = λ index. index.number in
      let first = times-cons item.number (map (λ (item : TableItem). item.number) items) number in
      let other : item.number ≡ number → ⊥ = λ same. omega (arith, none, first, ap (λ n. one_at n number) same, one_at-same number) in (
        zip_kept number_of (λ (s : IndexState). s.working) roots new (indexes_on indexes item.number) o.indexes.items all.0
            (λ n some. others n (omega (
              arith,
              some,
              once n,
              times-both number_of (λ index. index.table == item.number) (λ index. index.table == number) (apart item.number other) indexes n,
            ))),
        roots_kept others items os (omega (arith, none, first)) all.1,
      )
    where
      apart : (one : ℕ) → (one ≡ number → ⊥) → (index : IndexItem) → (index.table == one) ≡ true → (index.table == number) ≡ true → ⊥
      apart one isnt index a b = isnt (grind (arith, nat_tests))

-- the indexes of one table more
pub roots_next : (indexes : List IndexItem) (items : List TableItem) (opened : List OpenedTable) (roots new : List ℕ) (k : ℕ) (item : TableItem) (table : OpenedTable)
    → slice_get items k ≡ Some item → slice_get opened k ≡ Some table → times (map (λ item. item.number) items) item.number ≤ 1
    → ((n : ℕ) → times (map (λ index. index.number) indexes) n ≤ 1) → ArePut (indexes_on indexes item.number) table.indexes.items roots new
    → AreRoots indexes (take k items) (take k opened) roots → AreRoots indexes (take (k + 1) items) (take (k + 1) opened) new
roots_next indexes items opened roots new k item table there here once each put so_far =
    let number : TableItem → ℕ = λ item. item.number in
    let none : times (map number (take k items)) item.number ≡ 0 = omega (arith, times-earlier number items k item there, once) in
    record {
      slots = put.slots;
      fit = put.fit;
      given = zip_upto (HasRoots indexes new) items opened k item table there here
          (roots_kept indexes each roots new item.number put.others (take k items) (take k opened) none so_far.given) put.given;
      others = λ n inside lacks.
          put.others n (omega (arith, lacks, times-filter (λ (index : IndexItem). index.number) (λ index. index.table == item.number) indexes n)) ∙ so_far.others n inside lacks;
    }

-- the tables of a directory are of their items
columns_of : (types : List ColumnType) (directory : DirectoryItems) (items : List IndexItem) (indexes : List IndexState) → AllZip (IsIndex types directory) items indexes → AllZip (IsIndexOf types) items indexes
columns_of types directory [] [] are = tt
columns_of types directory [] (i ∷ is) are = absurd are
columns_of types directory (item ∷ items) [] are = absurd are
columns_of types directory (item ∷ items) (i ∷ is) are = (record { column = are.0.column; fits = are.0.fits }, columns_of types directory items is are.1)

pub of_items : (directory : DirectoryItems) (definitions : CatalogueItems) (items : List TableItem) (opened : List OpenedTable) → AllZip (IsTableOf directory definitions) items opened
    → AllZip (IsOfItem definitions) items opened
of_items directory definitions [] [] are = tt
of_items directory definitions [] (o ∷ os) are = absurd are
of_items directory definitions (item ∷ items) [] are = absurd are
of_items directory definitions (item ∷ items) (o ∷ os) are = (
  record {
    few = are.0.few;
    types = are.0.types;
    fits = are.0.fits;
    indexes = columns_of o.records.types directory (indexes_on definitions.indexes item.number) o.indexes.items are.0.indexes;
  },
  of_items directory definitions items os are.1,
)

-- a table that has kept its columns and the fields of its indexes is of its item
fields_kept : (types : List ColumnType) (items : List IndexItem) (one other : List IndexState) → map (λ index. index.field) one ≡ map (λ index. index.field) other → AllZip (IsIndexOf types) items other
    → AllZip (IsIndexOf types) items one
fields_kept types [] [] other same all = tt
fields_kept types [] (i ∷ is) [] same all = absurd (let wrong = same in cc)
fields_kept types [] (i ∷ is) (o ∷ os) same all = absurd all
fields_kept types (item ∷ items) one [] same all = absurd all
fields_kept types (item ∷ items) [] (o ∷ os) same all = absurd (let wrong = same in cc)
fields_kept types (item ∷ items) (i ∷ is) (o ∷ os) same all =
    let field : o.field ≡ i.field = cc in
    let rest : map (λ (index : IndexState). index.field) is ≡ map (λ (index : IndexState). index.field) os = cc in
    (record { column = subst (IsColumn types item.column) field all.0.column; fits = all.0.fits }, fields_kept types items is os rest all.1)

pub stays_of_item : (definitions : CatalogueItems) (item : TableItem) (old new : OpenedTable) → IsOfItem definitions item old → new.records.types ≡ old.records.types
    → map (λ index. index.field) new.indexes.items ≡ map (λ index. index.field) old.indexes.items → IsOfItem definitions item new
stays_of_item definitions item old new of types fields = record {
  few = of.few;
  types = types ∙ of.types;
  fits = subst (λ (ts : List ColumnType). 3 * (8 + event_width ts) ≤ 4080) (sym types) of.fits;
  indexes = subst (λ (ts : List ColumnType). AllZip (IsIndexOf ts) (indexes_on definitions.indexes item.number) new.indexes.items) (sym types)
      (fields_kept old.records.types (indexes_on definitions.indexes item.number) new.indexes.items old.indexes.items fields of.indexes);
}

-- tables that are of their items have as many indexes as these say
pub as_many : (definitions : CatalogueItems) (items : List TableItem) (opened : List OpenedTable) → AllZip (IsOfItem definitions) items opened → AllZip (HasAsMany definitions.indexes) items opened
as_many definitions [] [] of = tt
as_many definitions [] (o ∷ os) of = absurd of
as_many definitions (item ∷ items) [] of = absurd of
as_many definitions (item ∷ items) (o ∷ os) of =
    (zip_lengths (IsIndexOf o.records.types) (indexes_on definitions.indexes item.number) o.indexes.items of.0.indexes, as_many definitions items os of.1)

module _ (definitions : CatalogueItems) (directory : DirectoryItems) where
  indexes_said : (types : List ColumnType) (items : List IndexItem) (indexes : List IndexState) → AllZip (IsIndexOf types) items indexes → AllZip (HasRoot directory.indexes) items indexes
      → AllZip (IsIndex types directory) items indexes
  indexes_said types [] [] are have = tt
  indexes_said types [] (i ∷ is) are have = absurd are
  indexes_said types (item ∷ items) [] are have = absurd are
  indexes_said types (item ∷ items) (i ∷ is) are have = (record { column = are.0.column; fits = are.0.fits; root = have.0 }, indexes_said types items is are.1 have.1)

  table_said : (item : TableItem) (opened : OpenedTable) (table : TableContents) → IsOfItem definitions item opened → HasTree directory.tables item opened
      → HasRoots definitions.indexes directory.indexes item opened → IsOpened opened table → IsTable directory definitions.indexes item table
  table_said item opened table of tree roots is =
      let items = indexes_on definitions.indexes item.number in
      record {
        few = of.few;
        types = sym is.types ∙ of.types;
        fits = subst (λ (ts : List ColumnType). 3 * (8 + event_width ts) ≤ 4080) is.types of.fits;
        stands = tree ∙ ap (λ (s : Standing). Some (item_of s)) is.stands;
        indexes = subst (λ (ts : List ColumnType). AllZip (IsIndex ts directory) items table.indexes) is.types
            (subst (λ (states : List IndexState). AllZip (IsIndex opened.records.types directory) items states) is.indexes
            (indexes_said opened.records.types items opened.indexes.items of.indexes roots));
      }

  tables_said : (items : List TableItem) (opened : List OpenedTable) (tables : List TableContents) → AllZip (IsOfItem definitions) items opened → AllZip (HasTree directory.tables) items opened
      → AllZip (HasRoots definitions.indexes directory.indexes) items opened → AllZip IsOpened opened tables → AllZip (IsTable directory definitions.indexes) items tables
  tables_said [] [] [] of trees roots are = tt
  tables_said [] [] (t ∷ ts) of trees roots are = absurd are
  tables_said [] (o ∷ os) tables of trees roots are = absurd of
  tables_said (item ∷ items) [] tables of trees roots are = absurd of
  tables_said (item ∷ items) (o ∷ os) [] of trees roots are = absurd are
  tables_said (item ∷ items) (o ∷ os) (t ∷ ts) of trees roots are = (table_said item o t of.0 trees.0 roots.0 are.0, tables_said items os ts of.1 trees.1 roots.1 are.1)

  -- such a directory says what is open
  pub said_of : (opened : List OpenedTable) → AreGivenOnce definitions → AllZip (IsOfItem definitions) definitions.tables opened
      → AreTrees definitions.tables opened directory.tables → AreRoots definitions.indexes definitions.tables opened directory.indexes → (contents : Contents) → contents.definitions ≡ definitions
      → AllZip IsOpened opened contents.tables → directory.referents ≡ item_of contents.referents.standing → AreSaid (record contents { directory = directory })
  said_of opened given of trees roots contents are is referents = record {
    numbered = subst (λ (d : CatalogueItems). AreNumbered d directory) (sym are) (record { given = given; no_table = trees.others; no_index = roots.others });
    tables = subst (λ (d : CatalogueItems). AllZip (IsTable directory d.indexes) d.tables contents.tables) (sym are)
        (tables_said definitions.tables opened contents.tables of trees.given roots.given is);
    referents = referents;
  }
