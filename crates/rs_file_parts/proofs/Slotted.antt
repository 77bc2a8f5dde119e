-- Slots of a directory that is there are filled one after another.
use Rattle.std.proofs.Common.{◌≡◌, ◌<◌, ◌≤◌, ◌+◌, ◌-◌, ◌^◌, ◌==◌, ◌++◌, ℕ, zero, suc, true, Some, List, [], ◌∷◌, length, map, set, slice_get, take, refl, sym, ap, subst, ◌∙◌, inl, inr, arith}
use Rattle.std.specs.List.{AllByRecursion, AllZip}
use Rattle.std.proofs.lemmas.Bool.{cases_lt}
use Rattle.std.proofs.lemmas.Bool.Decides.{nat_tests}
use Rattle.std.proofs.lemmas.List.{map-append, take_all}
use Rattle.rs_attr.specs.Tables.{IndexState}
use Rattle.rs_catalog_pages.specs.Directory.{DirectoryItems, IsDirectory, TreeItem}
use Rattle.rs_catalog_pages.specs.Fitting.{FitsDirectory}
use Rattle.rs_catalog_pages.specs.Items.{CatalogueItems, IndexItem, TableItem}
use Rattle.rs_catalog_pages.specs.Laws.{directory_fits}
use Rattle.rs_catalog_pages.specs.Said.{said_catalogue}
use Rattle.rs_catalog_pages.specs.declared.directory_items.TheConstants.{INDEXES, TABLES}
use Rattle.rs_catalog_pages.proofs.Counting.{times-cons, times-push}
use Rattle.rs_file.specs.Contents.{AreNumbered, item_of}
use Rattle.rs_file.specs.Slots.{ArePut, HasRoot, HasTree, indexes_on}
use Rattle.rs_file.specs.declared.opened.OpenedFile.{OpenedFile}
use Rattle.rs_file.specs.declared.opened.OpenedTable.{OpenedTable}
use Rattle.rs_file.proofs.Parts.{directory_stored}
use Rattle.rs_file.proofs.Selected.{zip_push}
use Rattle.rs_file.proofs.Slotted.{put_next, put_none, roots_next, said_of, take_one, times-both, times-earlier}
use Rattle.rs_file_parts.specs.Calls.{RewritesDirectory}
use Rattle.rs_file_parts.proofs.Lists.{all_first, all_one}
use Rattle.rs_file_parts.specs.Parts.{IsReady, IsTableCommitted}
use Rattle.rs_file_parts.specs.Slots.{ChangesDirectory, HadRoot, HadRoots, HadTree, IsOnNone, PutsRoots, PutsRootsOn, PutsSlots, PutsTrees, with_accepted, with_referents, with_root, with_tree}
use Rattle.rs_page_owners.specs.Counts.{one_at, times}
use Rattle.rs_page_owners.proofs.Moving.{one_at-same}
use Rattle.rs_pages.specs.PageMap.{PageMap, ReplacesPage}
use Rattle.rs_pages.proofs.FreeLists.{page_one}
use Rattle.rs_pages.proofs.PlainStore.{at_set, beside_set}
use Rattle.rs_tree.proofs.Lists.{inside_has, zip_at}
use Rattle.rs_attr.specs.Versioned.{Standing}

-- what a page says fits
page_fits : (page : List ℕ) (directory : DirectoryItems) → IsDirectory page directory → FitsDirectory directory
page_fits page directory is = directory_fits is.said directory is.says

-- ---- slots and the items that are so far

zip_upto : {X Y : Type 0} (R : X → Y → Type 0) (xs : List X) (ys : List Y) (k : ℕ) (x : X) (y : Y) → slice_get xs k ≡ Some x → slice_get ys k ≡ Some y
    → AllZip R (take k xs) (take k ys) → R x y → AllZip R (take (k + 1) xs) (take (k + 1) ys)
zip_upto {X = X} {Y = Y} R xs ys k x y there here all one =
    subst (λ (zs : List X). AllZip R zs (take (k + 1) ys)) (sym (take_one xs k x there))
    (subst (λ (zs : List Y). AllZip R (take k xs ++ x ∷ []) zs) (sym (take_one ys k y here)) (zip_push R (take k xs) (take k ys) x y all one))

zip_set : {X Y V : Type 0} (number : X → ℕ) (value : Y → V) (slots : List V) (m : ℕ) (v : V) (xs : List X) (ys : List Y) → times (map number xs) m ≡ 0
    → AllZip (λ x y. slice_get slots (number x) ≡ Some (value y)) xs ys → AllZip (λ x y. slice_get (set slots m v) (number x) ≡ Some (value y)) xs ys
zip_set number value slots m v [] [] none all = tt
zip_set number value slots m v [] (y ∷ ys) none all = absurd all
zip_set number value slots m v (x ∷ xs) [] none all = absurd all
zip_set number value slots m v (x ∷ xs) (y ∷ ys) none all =
    let first = times-cons (number x) (map number xs) m in (
      beside_set slots m (number x) v (λ same. omega (arith, none, first, ap (λ n. one_at n m) (sym same), one_at-same m)) ∙ all.0,
      zip_set number value slots m v xs ys (omega (arith, none, first)) all.1,
    )

-- the number of one item more, and those of the items before it
times_upto : {X : Type 0} (number : X → ℕ) (xs : List X) (k : ℕ) (x : X) → slice_get xs k ≡ Some x → (n : ℕ)
    → times (map number (take (k + 1) xs)) n ≡ one_at (number x) n + times (map number (take k xs)) n
times_upto {X = X} number xs k x there n =
    ap (λ (ys : List X). times (map number ys) n) (take_one xs k x there) ∙ ap (λ (ms : List ℕ). times ms n) (map-append number (take k xs) (x ∷ []))
    ∙ times-push (map number (take k xs)) (number x) n

-- ---- trees

pub trees_start : (all : List TableItem) (tables : List OpenedTable) (page : List ℕ) → PutsTrees all tables [] [] page page
trees_start all tables page = record { each = λ was is had. record { trees = was.tables; is = is; given = tt; others = λ n none. refl } }

module _ (all : List TableItem) (opened : List OpenedTable) (k : ℕ) (item : TableItem) (table : OpenedTable) (old mid new : List ℕ)
    (there : slice_get all k ≡ Some item) (here : slice_get opened k ≡ Some table) (once : times (map (λ (item : TableItem). item.number) all) item.number ≤ 1) where
  none_before : times (map (λ (item : TableItem). item.number) (take k all)) item.number ≡ 0
  none_before = omega (arith, times-earlier (λ (item : TableItem). item.number) all k item there, once)

  pub trees_step : item.number < TABLES → ChangesDirectory (with_tree item.number (item_of table.records.working)) mid new
      → PutsTrees all opened (take k all) (take k opened) old mid → PutsTrees all opened (take (k + 1) all) (take (k + 1) opened) old new
  trees_step below changes so_far = record {
    each = λ was is had.
        let number : TableItem → ℕ = λ item. item.number in
        let before = so_far.each was is had in
        let tree = item_of table.records.working in
        let now : List TreeItem = set before.trees item.number tree in
        let wide : length before.trees ≡ TABLES = (page_fits mid (record was { tables = before.trees }) before.is).all_tables in
        record {
          trees = now;
          is = changes.each (record was { tables = before.trees }) before.is;
          given = zip_upto (HasTree now) all opened k item table there here
              (zip_set number (λ (t : OpenedTable). item_of t.records.working) before.trees item.number tree (take k all) (take k opened) none_before before.given)
              (at_set before.trees item.number tree (omega (arith, below, wide)));
          others = λ n lacks.
              let more = times_upto number all k item there n in
              beside_set before.trees item.number n tree (λ same. omega (arith, lacks, more, ap (one_at item.number) same, one_at-same item.number)) ∙ before.others n (omega (arith, lacks, more));
        };
  }

  -- a table that has not changed has its tree there
  pub trees_skip : table.records.committed ≡ table.records.working
      → PutsTrees all opened (take k all) (take k opened) old mid → PutsTrees all opened (take (k + 1) all) (take (k + 1) opened) old mid
  trees_skip same so_far = record {
    each = λ was is had.
        let number : TableItem → ℕ = λ item. item.number in
        let before = so_far.each was is had in
        record {
          trees = before.trees;
          is = before.is;
          given = zip_upto (HasTree before.trees) all opened k item table there here before.given
              (before.others item.number none_before ∙ zip_at (HadTree was.tables) all opened k item table had there here ∙ ap (λ (s : Standing). Some (item_of s)) same);
          others = λ n lacks. before.others n (omega (arith, lacks, times_upto number all k item there n));
        };
  }

-- the tables from one place up to another have not changed since the last commit
abbrev pub StandFrom : List OpenedTable → ℕ → ℕ → Type 0
StandFrom opened from to = (place : ℕ) (table : OpenedTable) → from ≤ place → place < to → slice_get opened place ≡ Some table → IsTableCommitted table

module _ (all : List TableItem) (opened : List OpenedTable) (long : length all ≡ length opened)
    (once : (number : ℕ) → times (map (λ (item : TableItem). item.number) all) number ≤ 1) (old mid : List ℕ) where
  -- tables that have not changed have their trees there
  pub trees_to : (more k to : ℕ) → more + k ≡ to → to ≤ length opened → StandFrom opened k to
      → PutsTrees all opened (take k all) (take k opened) old mid → PutsTrees all opened (take to all) (take to opened) old mid
  trees_to zero k to are inside stand so_far = let end : k ≡ to = omega arith in subst (λ n. PutsTrees all opened (take n all) (take n opened) old mid) end so_far
  trees_to (suc more) k to are inside stand so_far =
      let item = inside_has all k (omega (arith, long)) in
      let table = inside_has opened k (omega arith) in
      trees_to more (k + 1) to (omega arith) inside (λ place other low high there. stand place other (omega arith) high there)
      (trees_skip all opened k item.0 table.0 old mid mid item.1 table.1 (once item.0.number) (stand k table.0 (omega arith) (omega arith) table.1).records so_far)

  -- and so do all of them
  pub trees_all : (k : ℕ) → StandFrom opened k (length opened) → PutsTrees all opened (take k all) (take k opened) old mid → PutsTrees all opened all opened old mid
  trees_all k stand so_far = elim (cases_lt k (length opened)) [
    | inl inside ↦ whole (length opened) (omega arith) (trees_to (length opened - k) k (length opened) (omega arith) (omega arith) stand so_far)
    | inr past ↦ whole k past so_far
  ] where
    whole : (n : ℕ) → length opened ≤ n → PutsTrees all opened (take n all) (take n opened) old mid → PutsTrees all opened all opened old mid
    whole n past puts =
        subst (λ (xs : List TableItem). PutsTrees all opened xs opened old mid) (take_all n all (omega (arith, long)))
        (subst (λ (ys : List OpenedTable). PutsTrees all opened (take n all) ys old mid) (take_all n opened (omega arith)) puts)

-- ---- the roots of one table

pub roots_on_start : (page : List ℕ) → PutsRootsOn [] [] page page
roots_on_start page = record {
  each = λ was is.
      let fits = page_fits page was is in
      record { roots = was.indexes; is = is; are = put_none was.indexes fits.all_indexes fits.indexes };
}

pub roots_on_step : (items : List IndexItem) (states : List IndexState) (item : IndexItem) (state : IndexState) (root : ℕ) (old mid new : List ℕ) → item.number < INDEXES
    → times (map (λ item. item.number) items) item.number ≡ 0 → root ≡ state.working → root < 2 ^ 32 → ChangesDirectory (with_root item.number root) mid new
    → PutsRootsOn items states old mid → PutsRootsOn (items ++ item ∷ []) (states ++ state ∷ []) old new
roots_on_step items states item state root old mid new below none is fits changes so_far = record {
  each = λ was there.
      let before = so_far.each was there in
      record {
        roots = set before.roots item.number root;
        is = changes.each (record was { indexes = before.roots }) before.is;
        are = put_next items states was.indexes before.roots item state root below none is fits before.are;
      };
}

-- ---- the roots of all tables

pub roots_start : (indexes : List IndexItem) (all : List TableItem) (tables : List OpenedTable) (page : List ℕ) → PutsRoots indexes all tables [] [] page page
roots_start indexes all tables page = record {
  each = λ was is none had.
      let fits = page_fits page was is in
      record { roots = was.indexes; is = is; are = record { slots = fits.all_indexes; fit = fits.indexes; given = tt; others = none }; others = λ n on. refl };
}

-- roots that stood there, and that no other number's index has changed
roots_stand : (was now : List ℕ) (items : List IndexItem) (states : List IndexState) → AllZip (HadRoot was) items states → AllByRecursion (λ (s : IndexState). s.committed ≡ s.working) states
    → ((n : ℕ) → 0 < times (map (λ (index : IndexItem). index.number) items) n → slice_get now n ≡ slice_get was n) → AllZip (HasRoot now) items states
roots_stand was now [] [] had same kept = tt
roots_stand was now [] (s ∷ ss) had same kept = absurd had
roots_stand was now (i ∷ is) [] had same kept = absurd had
roots_stand was now (i ∷ is) (s ∷ ss) had same kept =
    let number : IndexItem → ℕ = λ index. index.number in (
      kept i.number (omega (arith, times-cons i.number (map number is) i.number, one_at-same i.number)) ∙ had.0 ∙ ap (λ (r : ℕ). Some r) same.0,
      roots_stand was now is ss had.1 same.1 (λ n some. kept n (omega (arith, some, times-cons i.number (map number is) n))),
    )

module _ (indexes : List IndexItem) (each : (n : ℕ) → times (map (λ (index : IndexItem). index.number) indexes) n ≤ 1) where
  -- an index that is on one table is on no other
  on_no_other : (number n : ℕ) → 0 < times (map (λ (index : IndexItem). index.number) (indexes_on indexes number)) n → (items : List TableItem)
      → times (map (λ (item : TableItem). item.number) items) number ≡ 0 → IsOnNone indexes items n
  on_no_other number n some [] none = tt
  on_no_other number n some (item ∷ items) none =
      let first = times-cons item.number (map (λ (item : TableItem). item.number) items) number in
      let other : item.number ≡ number → ⊥ = λ same. omega (arith, none, first, ap (λ n. one_at n number) same, one_at-same number) in (
        omega (
          arith,
          some,
          each n,
          times-both (λ (index : IndexItem). index.number) (λ index. index.table == item.number) (λ index. index.table == number) (apart item.number other) indexes n,
        ),
        on_no_other number n some items (omega (arith, none, first)),
      )
    where
      apart : (one : ℕ) → (one ≡ number → ⊥) → (index : IndexItem) → (index.table == one) ≡ true → (index.table == number) ≡ true → ⊥
      apart one isnt index a b = isnt (grind (arith, nat_tests))

  module _ (items : List TableItem) (opened : List OpenedTable) (k : ℕ) (item : TableItem) (table : OpenedTable) (old mid new : List ℕ)
      (there : slice_get items k ≡ Some item) (here : slice_get opened k ≡ Some table) (once : times (map (λ (item : TableItem). item.number) items) item.number ≤ 1) where
    -- it is on none of the tables so far nor on this one
    parted : (n : ℕ) → IsOnNone indexes (take (k + 1) items) n → IsOnNone indexes (take k items) n × (times (map (λ (index : IndexItem). index.number) (indexes_on indexes item.number)) n ≡ 0)
    parted n on =
        let IsOn : TableItem → Type 0 = λ (item : TableItem). times (map (λ (index : IndexItem). index.number) (indexes_on indexes item.number)) n ≡ 0 in
        let both = subst (AllByRecursion IsOn) (take_one items k item there) on in
        (all_first IsOn (take k items) (item ∷ []) both, all_one IsOn (take k items) item [] both)

    pub roots_step : PutsRootsOn (indexes_on indexes item.number) table.indexes.items mid new
        → PutsRoots indexes items opened (take k items) (take k opened) old mid → PutsRoots indexes items opened (take (k + 1) items) (take (k + 1) opened) old new
    roots_step puts so_far = record {
      each = λ was is none had.
          let before = so_far.each was is none had in
          let after = puts.each (record was { indexes = before.roots }) before.is in
          record {
            roots = after.roots;
            is = after.is;
            are = roots_next indexes items opened before.roots after.roots k item table there here once each after.are before.are;
            others = λ n on. let apart = parted n on in after.are.others n apart.1 ∙ before.others n apart.0;
          };
    }

    -- a table none of whose indexes has changed has their roots there
    pub roots_skip : AllByRecursion (λ (s : IndexState). s.committed ≡ s.working) table.indexes.items
        → PutsRoots indexes items opened (take k items) (take k opened) old mid → PutsRoots indexes items opened (take (k + 1) items) (take (k + 1) opened) old mid
    roots_skip same so_far = record {
      each = λ was is none had.
          let before = so_far.each was is none had in
          let none_earlier : times (map (λ (item : TableItem). item.number) (take k items)) item.number ≡ 0 = omega (arith, times-earlier (λ (item : TableItem). item.number) items k item there, once) in
          let stand = roots_stand was.indexes before.roots (indexes_on indexes item.number) table.indexes.items
          (zip_at (HadRoots indexes was.indexes) items opened k item table had there here) same
          (λ n some. before.others n (on_no_other item.number n some (take k items) none_earlier)) in
          let put : ArePut (indexes_on indexes item.number) table.indexes.items before.roots before.roots =
          record { slots = before.are.slots; fit = before.are.fit; given = stand; others = λ n lacks. refl } in
          record {
            roots = before.roots;
            is = before.is;
            are = roots_next indexes items opened before.roots before.roots k item table there here once each put before.are;
            others = λ n on. before.others n (parted n on).0;
          };
    }

  module _ (items : List TableItem) (opened : List OpenedTable) (long : length items ≡ length opened)
      (once : (number : ℕ) → times (map (λ (item : TableItem). item.number) items) number ≤ 1) (old mid : List ℕ) where
    -- tables that have not changed have the roots of their indexes there
    pub roots_to : (more k to : ℕ) → more + k ≡ to → to ≤ length opened → StandFrom opened k to
        → PutsRoots indexes items opened (take k items) (take k opened) old mid → PutsRoots indexes items opened (take to items) (take to opened) old mid
    roots_to zero k to are inside stand so_far = let end : k ≡ to = omega arith in subst (λ n. PutsRoots indexes items opened (take n items) (take n opened) old mid) end so_far
    roots_to (suc more) k to are inside stand so_far =
        let item = inside_has items k (omega (arith, long)) in
        let table = inside_has opened k (omega arith) in
        roots_to more (k + 1) to (omega arith) inside (λ place other low high there. stand place other (omega arith) high there)
        (roots_skip items opened k item.0 table.0 old mid mid item.1 table.1 (once item.0.number) (stand k table.0 (omega arith) (omega arith) table.1).indexes so_far)

    -- and so do all of them
    pub roots_all : (k : ℕ) → StandFrom opened k (length opened) → PutsRoots indexes items opened (take k items) (take k opened) old mid → PutsRoots indexes items opened items opened old mid
    roots_all k stand so_far = elim (cases_lt k (length opened)) [
      | inl inside ↦ whole (length opened) (omega arith) (roots_to (length opened - k) k (length opened) (omega arith) (omega arith) stand so_far)
      | inr past ↦ whole k past so_far
    ] where
      whole : (n : ℕ) → length opened ≤ n → PutsRoots indexes items opened (take n items) (take n opened) old mid → PutsRoots indexes items opened items opened old mid
      whole n past puts =
          subst (λ (xs : List TableItem). PutsRoots indexes items opened xs opened old mid) (take_all n items (omega (arith, long)))
          (subst (λ (ys : List OpenedTable). PutsRoots indexes items opened (take n items) ys old mid) (take_all n opened (omega arith)) puts)

-- ---- the whole page

pub slots_put : (file : OpenedFile) (version : ℕ) (old one two three new : List ℕ)
    → PutsTrees (said_catalogue file.definitions).tables file.tables.items (said_catalogue file.definitions).tables file.tables.items old one
    → PutsRoots (said_catalogue file.definitions).indexes (said_catalogue file.definitions).tables file.tables.items (said_catalogue file.definitions).tables file.tables.items one two
    → ChangesDirectory (with_referents (item_of file.referents.working)) two three → ChangesDirectory (with_accepted version) three new → PutsSlots file version old new
slots_put file version old one two three new trees roots referents accepted = record {
  each = λ was is numbered had.
      let first = trees.each was is had.trees in
      let then_trees : DirectoryItems = record was { tables = first.trees } in
      let fits = page_fits one then_trees first.is in
      let second = roots.each then_trees first.is numbered.no_index had.roots in
      let then_roots : DirectoryItems = record then_trees { indexes = second.roots } in
      let then_referents : DirectoryItems = record then_roots { referents = item_of file.referents.working } in
      record {
        directory = record then_referents { accepted = version };
        is = accepted.each then_referents (referents.each then_roots second.is);
        accepted = refl;
        trees = record { slots = fits.all_tables; fit = fits.tables; given = first.given; others = λ n inside lacks. first.others n lacks ∙ numbered.no_table n inside lacks };
        roots = second.are;
        referents = refl;
      };
}

-- what the slots say, the file holds
pub directory_rewritten : (old new : PageMap) (file : OpenedFile) (version : ℕ) (page now : List ℕ) → IsReady file → old.page 1 ≡ Some page → PutsSlots file version page now
    → ReplacesPage 1 now old new → RewritesDirectory old new file version
directory_rewritten old new file version page now ready there puts replaces = record {
  each = λ from contents was later limit has numbered had parts opened routes.
      let definitions = said_catalogue file.definitions in
      let is : IsDirectory page was = subst (λ p. IsDirectory p was) (page_one old 1 has.page page has.there there) has.is in
      let slots = puts.each was is (subst (λ (d : CatalogueItems). AreNumbered d was) opened.definitions numbered) had in
      let said = said_of definitions slots.directory file.tables.items ready.given ready.tables slots.trees slots.roots contents opened.definitions opened.tables
      (slots.referents ∙ ap item_of (sym opened.referents)) in
      record {
        directory = slots.directory;
        accepted = slots.accepted;
        holds = directory_stored old from contents parts new was slots.directory (subst (λ n. from ≤ n) (sym slots.accepted) later) has
            (record { page = now; is = slots.is; replaces = replaces }) said (subst (λ n. n < 2 ^ 63) (sym slots.accepted) limit)
            (subst (λ n. AllByRecursion (λ route. route.born ≤ n) contents.definitions.routes) (sym slots.accepted) routes);
      };
}
