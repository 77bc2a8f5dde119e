-- A file, opened part by part: what was reached, and what follows for all contents that it may hold.
use Rattle.std.proofs.Common.{◌≡◌, ◌≤◌, ◌<◌, ◌^◌, ℕ, Bool, false, true, List, [], ◌∷◌, map, replicate, refl, sym, ap, subst, ◌∙◌, inl, inr, arith}
use Rattle.std.proofs.lemmas.Bool.{cases_lt}
use Rattle.std.proofs.lemmas.List.{length-replicate, get_or-replicate}
use Rattle.std.proofs.lemmas.List.Sorted.{IsPermutation-sym}
use Rattle.std.specs.List.{AllByRecursion, AllZip}
use Rattle.std.specs.List.Sorted.{IsPermutation}
use Rattle.rs_attr.specs.Tables.{all_of}
use Rattle.rs_attr.proofs.Placing.{all_of-cons}
use Rattle.rs_catalog_pages.specs.Directory.{DirectoryItems, HasDirectory, HasNoDirectory, TreeItem}
use Rattle.rs_catalog_pages.specs.Items.{CatalogueItems, SaysCatalogue}
use Rattle.rs_catalog_pages.specs.Loading.{HasNoFreshCatalogue, LoadsCatalogue}
use Rattle.rs_catalog_pages.proofs.Chains.{holds_bytes, holds_pages, says_one}
use Rattle.rs_catalog_pages.proofs.Directories.{directory_is_one}
use Rattle.rs_file.specs.Contents.{AreNumbered, Contents, HoldsAll, IsTable, LiesTable, SameTable, TableContents, owned, table_pages}
use Rattle.rs_file.specs.FreePages.{HasNoFreshFreeList}
use Rattle.rs_file.specs.Meant.{HasMeantRecords, IsTableMeant, route_spans}
use Rattle.rs_file.specs.Opening.{AreSound, HoldsNothing, IsOpened, LoadsNothingSaid, LoadsSaid, OpensNoParts, OpensNoTables, OpensParts, OpensTables, told_of}
use Rattle.rs_file.specs.declared.opened.OpenedTable.{OpenedTable}
use Rattle.rs_file.proofs.Meant.{once_permuted, once_rising, records_meant}
use Rattle.rs_file.proofs.One.{records_pages, tables_one}
use Rattle.rs_page_owners.specs.Counts.{◌&◌, one_at, times}
use Rattle.rs_page_owners.specs.Owners.{Shares}
use Rattle.rs_page_owners.proofs.Moving.{one_at-other, one_at-same}
use Rattle.rs_pages.specs.PageMap.{PageMap, SamePages}
use Rattle.rs_pages.proofs.FreeLists.{free_list_is_one}
use Rattle.rs_page_marks.specs.Marks.{taken, unmarked}
use Rattle.rs_page_marks.proofs.Marking.{each_once, none_left, taken_at, taken_past}
use Rattle.rs_versioned.specs.Meant.{AreReferentsMeant, AreRising}
use Rattle.rs_versioned.specs.declared.route_span.RouteSpan.{RouteSpan}
use Rattle.rs_versioned.specs.Opening.{OpensNone, OpensRecords, StandsAs}
use Rattle.rs_versioned.specs.Records.{HoldsRecords}
use Rattle.rs_versioned.specs.Referents.{kept_referents}
use Rattle.rs_versioned.specs.Tables.{ReferentTableState}
use Rattle.rs_attr.specs.Versioned.{Standing}

-- the same fields and the same pages are one map
pub same_map : (one other : PageMap) → SamePages one other → one ≡ other
same_map one other same = λ i. record { fields = same.fields i; page = λ n. same.pages n i }

-- what is so of each item as it is said
pub all_said : {A X : Type 0} (said : A → X) (P : X → Type 0) (items : List A) → AllByRecursion (λ item. P (said item)) items → AllByRecursion P (map said items)
all_said said P [] all = tt
all_said said P (a ∷ more) all = (all.0, all_said said P more all.1)

pub all_from_said : {A X : Type 0} (said : A → X) (P : X → Type 0) (items : List A) → AllByRecursion P (map said items) → AllByRecursion (λ item. P (said item)) items
all_from_said said P [] all = tt
all_from_said said P (a ∷ more) all = (all.0, all_from_said said P more all.1)

-- nothing is reached at first but the numbers past the last page
abbrev pub unreached : ℕ → ℕ → ℕ
unreached count = taken (replicate count false)

unreached_below : (count n : ℕ) → n < count → unreached count n ≡ 0
unreached_below count n below = taken_at (replicate count false) n false (omega (arith, below, length-replicate count false)) (get_or-replicate count n false true below)

unreached_past : (count n : ℕ) → count ≤ n → unreached count n ≡ 1
unreached_past count n past = taken_past (replicate count false) n (omega (arith, past, length-replicate count false))

-- of at least two pages the first two are reached, one after the other
pub first_reached : (count : ℕ) (marks mid last : List Bool) (origin next : ℕ) → 2 ≤ count → marks ≡ replicate count false → origin ≡ 0 → next ≡ 1
    → (taken marks origin ≡ 0 → (n : ℕ) → taken mid n ≡ (taken marks & one_at origin) n) → (taken mid next ≡ 0 → (n : ℕ) → taken last n ≡ (taken mid & one_at next) n)
    → (n : ℕ) → taken last n ≡ (unreached count & (one_at 0 & one_at 1)) n
first_reached count marks mid last origin next two is first second reaches then n =
    let start : (k : ℕ) → taken marks k ≡ unreached count k = λ k. ap (λ m. taken m k) is in
    let free : taken marks origin ≡ 0 = start origin ∙ ap (unreached count) first ∙ unreached_below count 0 (omega (arith, two)) in
    let fresh : taken mid next ≡ 0 =
    omega (arith, reaches free next, start next, ap (unreached count) second, unreached_below count 1 (omega (arith, two)), one_at-other origin next (λ same. omega (arith, same, first, second))) in
    omega (arith, then fresh n, reaches free n, start n, ap (λ k. one_at k n) first, ap (λ k. one_at k n) second)

module _ (file : PageMap) where
  -- the directory is a page of its own
  two_pages : (contents : Contents) → Shares file (owned contents) → 2 ≤ file.fields.pages
  two_pages contents shares = elim (cases_lt 1 file.fields.pages) [
    | inl below ↦ omega (arith, below)
    | inr past ↦ absurd (omega (arith, shares.beyond 1 past, one_at-same 1))
  ]

  -- each number is taken once, where all that the contents own is reached
  pub taken_once : (contents : Contents) (shares : Shares file (owned contents)) (n : ℕ)
      → (unreached file.fields.pages & (one_at 0 & (owned contents & times shares.free))) n ≡ 1
  taken_once contents shares n = elim (cases_lt n file.fields.pages) [
    | inl below ↦ omega (arith, unreached_below file.fields.pages n below, shares.within n below)
    | inr past ↦ omega (arith, unreached_past file.fields.pages n past, shares.beyond n past, one_at-other 0 n (λ is. omega (arith, is, past, two_pages contents shares)))
  ]

  -- the pages of tables that are the same
  pages_of_same : (one other : List TableContents) → AllZip SameTable one other → (n : ℕ) → all_of (map table_pages one) n ≡ all_of (map table_pages other) n
  pages_of_same [] [] same n = refl
  pages_of_same [] (p ∷ ps) same n = absurd same
  pages_of_same (o ∷ os) [] same n = absurd same
  pages_of_same (o ∷ os) (p ∷ ps) same n =
      omega (arith, all_of-cons (table_pages o) (map table_pages os) n, all_of-cons (table_pages p) (map table_pages ps) n, same.0.pages n, pages_of_same os ps same.1 n)

  -- ---- the definitions and the directory

  pub no_directory_said : (before : ℕ → ℕ) → HasNoDirectory file → LoadsNothingSaid file before
  no_directory_said before lacks = record { none = λ contents fresh holds meant. lacks.none contents.directory holds.directory }

  pub no_catalogue_said : (before : ℕ → ℕ) → HasNoFreshCatalogue file before → LoadsNothingSaid file before
  no_catalogue_said before lacks = record {
    none = λ contents fresh holds meant.
        lacks.none contents.pages holds.parts.definitions.bytes contents.definitions holds.parts.definitions.holds holds.parts.definitions.says fresh;
  }

  -- the definitions of all contents are those that were read, and so is their directory
  definitions_same : (pages : List ℕ) (definitions : CatalogueItems) (before after : ℕ → ℕ) → LoadsCatalogue file before after pages definitions → (contents : Contents) → HoldsAll file contents
      → contents.definitions ≡ definitions
  definitions_same pages definitions before after loads contents holds =
      let held = holds.parts.definitions in
      says_one loads.bytes contents.definitions definitions
      (subst (λ (bs : List ℕ). SaysCatalogue bs contents.definitions) (holds_bytes file contents.pages pages held.bytes loads.bytes held.holds loads.holds) held.says) loads.says

  pages_same : (pages : List ℕ) (definitions : CatalogueItems) (before after : ℕ → ℕ) → LoadsCatalogue file before after pages definitions → (contents : Contents) → HoldsAll file contents
      → contents.pages ≡ pages
  pages_same pages definitions before after loads contents holds =
      holds_pages file contents.pages pages holds.parts.definitions.bytes loads.bytes holds.parts.definitions.holds loads.holds

  pub no_numbers_said : (pages : List ℕ) (definitions : CatalogueItems) (directory : DirectoryItems) (before after : ℕ → ℕ) → HasDirectory file directory
      → LoadsCatalogue file before after pages definitions → (AreNumbered definitions directory → ⊥) → LoadsNothingSaid file before
  no_numbers_said pages definitions directory before after has loads none = record {
    none = λ contents fresh holds meant.
        none (subst (λ (d : DirectoryItems). AreNumbered definitions d) (directory_is_one file contents.directory directory holds.directory has)
        (subst (λ (d : CatalogueItems). AreNumbered d contents.directory) (definitions_same pages definitions before after loads contents holds) holds.said.numbered));
  }

  pub no_versions_said : (pages : List ℕ) (definitions : CatalogueItems) (directory : DirectoryItems) (before after : ℕ → ℕ) → HasDirectory file directory
      → LoadsCatalogue file before after pages definitions
      → (directory.accepted < 2 ^ 63 → AllByRecursion (λ route. route.born ≤ directory.accepted) definitions.routes → ⊥) → LoadsNothingSaid file before
  no_versions_said pages definitions directory before after has loads none = record {
    none = λ contents fresh holds meant.
        let same = directory_is_one file contents.directory directory holds.directory has in
        none (subst (λ (d : DirectoryItems). d.accepted < 2 ^ 63) same holds.limit)
        (subst (λ (d : CatalogueItems). AllByRecursion (λ route. route.born ≤ directory.accepted) d.routes) (definitions_same pages definitions before after loads contents holds)
        (subst (λ (d : DirectoryItems). AllByRecursion (λ route. route.born ≤ d.accepted) contents.definitions.routes) same holds.routes));
  }

  -- ---- the parts

  module _ (routes : List RouteSpan) (definitions : CatalogueItems) (directory : DirectoryItems) (before : ℕ → ℕ) where
    -- the tables of contents with these definitions and this directory are those that were opened
    tables_same : (opened : List OpenedTable) (after : ℕ → ℕ) (opens : OpensTables routes file directory definitions definitions.tables opened before after) (contents : Contents)
        → contents.directory ≡ directory → contents.definitions ≡ definitions → HoldsAll file contents → (n : ℕ) → all_of (map table_pages contents.tables) n ≡ all_of (map table_pages opens.tables) n
    tables_same opened after opens contents same are holds =
        let said = subst (λ (d : CatalogueItems). AllZip (IsTable directory d.indexes) d.tables contents.tables) are
        (subst (λ (d : DirectoryItems). AllZip (IsTable d contents.definitions.indexes) contents.definitions.tables contents.tables) same holds.said.tables) in
        let lie = subst (λ (d : DirectoryItems). AllByRecursion (LiesTable file d.accepted) contents.tables) same holds.parts.tables in
        pages_of_same contents.tables opens.tables
        (tables_one file directory.accepted directory definitions.indexes definitions.tables contents.tables opens.tables said opens.are lie opens.lie)

    -- those of the referents too
    referents_same : (standing : Standing) (with_tables after : ℕ → ℕ) (opens : OpensRecords kept_referents file (told_of directory.referents directory.accepted) (AreReferentsMeant routes directory.accepted) standing with_tables after)
        (contents : Contents) → contents.directory ≡ directory → HoldsAll file contents → (n : ℕ) → contents.referents.used n ≡ opens.used n
    referents_same standing with_tables after opens contents same holds =
        let said : contents.referents.standing.root ≡ directory.referents.root = ap (λ (i : TreeItem). i.root) (sym holds.said.referents ∙ ap (λ (d : DirectoryItems). d.referents) same) in
        records_pages kept_referents file contents.referents.standing standing directory.accepted contents.referents.referents opens.records contents.referents.used opens.used
        (said ∙ sym opens.as_told.root)
        (subst (λ (d : DirectoryItems). HoldsRecords kept_referents file contents.referents.standing d.accepted contents.referents.referents contents.referents.used) same holds.parts.referents)
        opens.holds

    pub no_tables : OpensNoTables routes file directory definitions before → OpensNoParts routes file directory definitions before
    no_tables lacks = record {
      none = λ contents same are first holds meant.
          lacks.none contents.tables
          (subst (λ (d : CatalogueItems). AllZip (IsTable directory d.indexes) d.tables contents.tables) are
          (subst (λ (d : DirectoryItems). AllZip (IsTable d contents.definitions.indexes) contents.definitions.tables contents.tables) same holds.said.tables))
          (subst (λ (d : DirectoryItems). AllByRecursion (LiesTable file d.accepted) contents.tables) same holds.parts.tables)
          (subst (λ (d : CatalogueItems). AllZip (IsTableMeant routes directory.accepted) d.tables contents.tables) are
          (subst (λ (d : DirectoryItems). AllZip (IsTableMeant routes d.accepted) contents.definitions.tables contents.tables) same meant.tables))
          (λ n. omega (arith, first n, taken_once contents holds.parts.shares n));
    }

    pub no_referents : (opened : List OpenedTable) (with_tables : ℕ → ℕ) → OpensTables routes file directory definitions definitions.tables opened before with_tables
        → OpensNone kept_referents file (told_of directory.referents directory.accepted) (AreReferentsMeant routes directory.accepted) with_tables → OpensNoParts routes file directory definitions before
    no_referents opened with_tables opens lacks = record {
      none = λ contents same are first holds meant.
          let said = sym holds.said.referents ∙ ap (λ (d : DirectoryItems). d.referents) same in
          lacks.none contents.referents.standing contents.referents.referents contents.referents.used
          (record { root = ap (λ (i : TreeItem). i.root) said; living = ap (λ (i : TreeItem). i.living) said; garbage = ap (λ (i : TreeItem). i.garbage) said })
          (subst (λ (d : DirectoryItems). HoldsRecords kept_referents file contents.referents.standing d.accepted contents.referents.referents contents.referents.used) same holds.parts.referents)
          (subst (λ (d : DirectoryItems). AreReferentsMeant routes d.accepted contents.referents.referents) same meant.referents)
          (λ n. omega (arith, first n, opens.reached n, tables_same opened with_tables opens contents same are holds n, taken_once contents holds.parts.shares n));
    }

    pub no_free : (opened : List OpenedTable) (standing : Standing) (with_tables with_referents : ℕ → ℕ) → OpensTables routes file directory definitions definitions.tables opened before with_tables
        → OpensRecords kept_referents file (told_of directory.referents directory.accepted) (AreReferentsMeant routes directory.accepted) standing with_tables with_referents → HasNoFreshFreeList file with_referents
        → OpensNoParts routes file directory definitions before
    no_free opened standing with_tables with_referents opens referents lacks = record {
      none = λ contents same are first holds meant.
          lacks.none holds.parts.shares.free holds.parts.shares.list
          (λ n. omega (
            arith,
            first n,
            opens.reached n,
            tables_same opened with_tables opens contents same are holds n,
            referents.reached n,
            referents_same standing with_tables with_referents referents contents same holds n,
            taken_once contents holds.parts.shares n,
          ));
    }

    pub some_left : (opened : List OpenedTable) (state : ReferentTableState) (marks : List Bool) → OpensParts routes file directory definitions opened state before (taken marks)
        → (unmarked marks ≡ 0 → ⊥) → OpensNoParts routes file directory definitions before
    some_left opened state marks parts some = record {
      none = λ contents same are first holds meant.
          let shares = holds.parts.shares in
          let free : (n : ℕ) → times parts.free.free n ≡ times shares.free n =
          λ n. ap (λ l. times l n) (free_list_is_one file parts.free.free shares.free parts.free.list shares.list) in
          some (none_left file.fields.pages marks (one_at 0 & (owned contents & times shares.free))
          (λ n. omega (
            arith,
            first n,
            parts.tables.reached n,
            tables_same opened parts.with_tables parts.tables contents same are holds n,
            parts.referents.reached n,
            referents_same state.working parts.with_tables parts.with_referents parts.referents contents same holds n,
            parts.free.reached n,
            free n,
          ))
          (λ n below. omega (arith, shares.within n below)));
    }

  -- ---- all of it

  -- none where nothing was reached before but page 0 and the directory
  pub nothing_said : (before : ℕ → ℕ) → ((n : ℕ) → before n ≡ (unreached file.fields.pages & (one_at 0 & one_at 1)) n) → LoadsNothingSaid file before → HoldsNothing file
  nothing_said before first lacks = record { none = λ contents holds meant. lacks.none contents (λ n. omega (arith, first n, taken_once contents holds.parts.shares n)) holds meant }

  pub no_parts : (routes : List RouteSpan) (pages : List ℕ) (definitions : CatalogueItems) (directory : DirectoryItems) (before mid : ℕ → ℕ)
      → ((n : ℕ) → before n ≡ (unreached file.fields.pages & (one_at 0 & one_at 1)) n) → IsPermutation (route_spans definitions) routes
      → LoadsSaid file pages definitions directory before mid → OpensNoParts routes file directory definitions mid → HoldsNothing file
  no_parts routes pages definitions directory before mid first permuted said lacks = record {
    none = λ contents holds meant.
        let same : contents.pages ≡ pages = pages_same pages definitions before mid said.loads contents holds in
        let are : contents.definitions ≡ definitions = definitions_same pages definitions before mid said.loads contents holds in
        lacks.none contents (directory_is_one file contents.directory directory holds.directory said.has) are
        (λ n. omega (arith, first n, said.loads.reached n, ap (λ l. times l n) same)) holds
        (records_meant (route_spans contents.definitions) routes (subst (λ (d : CatalogueItems). IsPermutation (route_spans d) routes) (sym are) permuted) contents meant.on_routes);
  }

  -- none where two routes have one number
  pub not_once : (pages : List ℕ) (definitions : CatalogueItems) (directory : DirectoryItems) (before mid : ℕ → ℕ) → LoadsSaid file pages definitions directory before mid
      → (((number : ℕ) → times (map (λ route. route.number) definitions.routes) number ≤ 1) → ⊥) → HoldsNothing file
  not_once pages definitions directory before mid said twice = record {
    none = λ contents holds meant.
        twice (subst (λ (d : CatalogueItems). (number : ℕ) → times (map (λ route. route.number) d.routes) number ≤ 1)
        (definitions_same pages definitions before mid said.loads contents holds) meant.routes_once);
  }

  -- the contents, where all was reached
  pub record AreThere (numbers : List ℕ) (items : CatalogueItems) (said : DirectoryItems) (opened : List OpenedTable) (state : ReferentTableState) : Type 0 where
    pub contents : Contents
    pub holds : HoldsAll file contents
    pub meant : HasMeantRecords contents
    pub pages : contents.pages ≡ numbers
    pub definitions : contents.definitions ≡ items
    pub directory : contents.directory ≡ said
    pub tables : AllZip IsOpened opened contents.tables
    pub referents : contents.referents.standing ≡ state.working

  pub are_there : (routes : List RouteSpan) (numbers : List ℕ) (items : CatalogueItems) (directory : DirectoryItems) (opened : List OpenedTable) (state : ReferentTableState) (before mid : ℕ → ℕ) (marks : List Bool)
      → ((n : ℕ) → before n ≡ (unreached file.fields.pages & (one_at 0 & one_at 1)) n) → LoadsSaid file numbers items directory before mid → AreSound items directory
      → IsPermutation (route_spans items) routes → AreRising routes → OpensParts routes file directory items opened state mid (taken marks) → unmarked marks ≡ 0 → AreThere numbers items directory opened state
  are_there routes numbers items directory opened state before mid marks first said sound permuted rising parts none = record {
    contents = contents;
    meant = record {
      routes_once = λ number. omega (arith, once_rising routes rising number, once_permuted items.routes routes permuted number);
      on_routes = records_meant routes (route_spans items) (IsPermutation-sym (route_spans items) routes permuted) contents (record { tables = parts.tables.meant; referents = parts.referents.so });
    };
    holds = record {
      directory = said.has;
      said = record { numbered = sound.numbered; tables = parts.tables.are; referents = λ i. record { root = sym told.root i; living = sym told.living i; garbage = sym told.garbage i } };
      limit = sound.limit;
      routes = sound.routes;
      parts = record {
        definitions = record { bytes = said.loads.bytes; holds = said.loads.holds; says = said.loads.says };
        tables = parts.tables.lie;
        referents = parts.referents.holds;
        shares = record {
          free = parts.free.free;
          list = parts.free.list;
          within = λ n below. omega (arith, (each n).0 below);
          beyond = λ n past. omega (arith, (each n).1 past);
        };
      };
    };
    pages = refl;
    definitions = refl;
    directory = refl;
    tables = parts.tables.as_opened;
    referents = refl;
  } where
    told : StandsAs (told_of directory.referents directory.accepted) state.working
    told = parts.referents.as_told

    contents : Contents
    contents = record {
      definitions = items;
      pages = numbers;
      directory = directory;
      tables = parts.tables.tables;
      referents = record { standing = state.working; referents = parts.referents.records; used = parts.referents.used };
    }

    each : (n : ℕ) → (n < file.fields.pages → (one_at 0 & (owned contents & times parts.free.free)) n ≡ 1) × (file.fields.pages ≤ n → (one_at 0 & (owned contents & times parts.free.free)) n ≡ 0)
    each = each_once file.fields.pages marks (one_at 0 & (owned contents & times parts.free.free))
        (λ n. omega (arith, first n, said.loads.reached n, parts.tables.reached n, parts.referents.reached n, parts.free.reached n)) none
