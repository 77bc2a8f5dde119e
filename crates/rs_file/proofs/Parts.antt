-- The parts of a file: their pages, and that a change of one leaves all others.
use Rattle.std.proofs.Common.{◌≡◌, ◌<◌, ◌≤◌, ◌+◌, ◌^◌, ℕ, true, false, Some, List, [], ◌∷◌, ◌++◌, map, refl, ap, subst, inl, inr, arith}
use Rattle.std.proofs.lemmas.Bool.{cases_lt}
use Rattle.std.specs.List.{AllByRecursion}
use Rattle.rs_attr.specs.Tables.{all_of}
use Rattle.rs_attr.proofs.Placing.{all_of-cons, keeps_part, kept_table, later_table}
use Rattle.rs_catalog_pages.specs.Chain.{StoresBytes}
use Rattle.rs_catalog_pages.specs.Directory.{DirectoryItems, HasDirectory, StoresDirectory}
use Rattle.rs_catalog_pages.specs.Items.{CatalogueItems, SaysCatalogue}
use Rattle.rs_catalog_pages.proofs.Chains.{catalogue_kept}
use Rattle.rs_file.specs.Contents.{AreSaid, Contents, HoldsAll, HoldsDefinitions, HoldsParts, LiesTable, ReferentContents, TableContents, beside_definitions, beside_referents, beside_table, owned, table_pages}
use Rattle.rs_page_owners.specs.Counts.{◌&◌, one_at, times}
use Rattle.rs_page_owners.specs.Owners.{Keeps, KeepsPages, Moves, Shares}
use Rattle.rs_page_owners.proofs.Moving.{one_at-same, pages_kept, replaces-moves, shares_same}
use Rattle.rs_page.specs.PageBytes.{empty_header, is_free}
use Rattle.rs_page.specs.declared.header.PageKind.TheVariants.{Directory}
use Rattle.rs_page.proofs.Headers.{free_by_its_header}
use Rattle.rs_pages.specs.PageMap.{PageMap, in_use}
use Rattle.rs_versioned.specs.Records.{HoldsRecords}
use Rattle.rs_versioned.specs.Referents.{kept_referents}
use Rattle.rs_versioned.proofs.Staying.{held_kept, held_later}

-- the pages of one table and those of the others
pub tables_middle : (before after : List TableContents) (table : TableContents) (n : ℕ)
    → all_of (map table_pages (before ++ table ∷ after)) n ≡ table_pages table n + all_of (map table_pages (before ++ after)) n
tables_middle [] after table n = all_of-cons (table_pages table) (map table_pages after) n
tables_middle (b ∷ bs) after table n =
    omega (arith, all_of-cons (table_pages b) (map table_pages (bs ++ table ∷ after)) n, all_of-cons (table_pages b) (map table_pages (bs ++ after)) n, tables_middle bs after table n)

-- what is so of all tables is so of all but one, and of one more
all_but_one : (P : TableContents → Type 0) (before after : List TableContents) (table : TableContents) → AllByRecursion P (before ++ table ∷ after) → AllByRecursion P (before ++ after)
all_but_one P [] after table all = all.1
all_but_one P (b ∷ bs) after table all = (all.0, all_but_one P bs after table all.1)

all_and_one : (P : TableContents → Type 0) (before after : List TableContents) (table : TableContents) → P table → AllByRecursion P (before ++ after) → AllByRecursion P (before ++ table ∷ after)
all_and_one P [] after table one all = (one, all)
all_and_one P (b ∷ bs) after table one all = (all.0, all_and_one P bs after table one all.1)

-- tables whose pages are kept stay, with a later version as the one that was accepted last
tables_kept : (old new : PageMap) (from to : ℕ) → from ≤ to → (tables : List TableContents) → KeepsPages (all_of (map table_pages tables)) old new
    → AllByRecursion (LiesTable old from) tables → AllByRecursion (LiesTable new to) tables
tables_kept old new from to later [] keeps all = tt
tables_kept old new from to later (t ∷ ts) keeps all = (
  later_table t.types new t.standing t.indexes from to t.events t.used t.uses later
      (kept_table t.types old new t.standing t.indexes from t.events t.used t.uses
      (keeps_part (table_pages t) (all_of (map table_pages (t ∷ ts))) old new (λ n own. omega (arith, all_of-cons (table_pages t) (map table_pages ts) n)) keeps) all.0),
  tables_kept old new from to later ts
      (keeps_part (all_of (map table_pages ts)) (all_of (map table_pages (t ∷ ts))) old new (λ n own. omega (arith, all_of-cons (table_pages t) (map table_pages ts) n)) keeps) all.1,
)

-- definitions whose pages are kept stay
definitions_kept : (old new : PageMap) (others : ℕ → ℕ) (pages : List ℕ) (definitions : CatalogueItems) → ((n : ℕ) → 0 < times pages n → 0 < others n) → Keeps others old new
    → HoldsDefinitions old pages definitions → HoldsDefinitions new pages definitions
definitions_kept old new others pages definitions part keeps held = record {
  bytes = held.bytes;
  holds = catalogue_kept old new pages held.bytes
      (record { pages = λ n own. keeps.pages n (part n own); no_fewer = keeps.no_fewer; catalogue = keeps.catalogue; catalogue_length = keeps.catalogue_length }) held.holds;
  says = held.says;
}

-- referents whose pages are kept stay
referents_kept : (old new : PageMap) (from to : ℕ) → from ≤ to → (others : ℕ → ℕ) (referents : ReferentContents) → ((n : ℕ) → 0 < referents.used n → 0 < others n) → KeepsPages others old new
    → HoldsRecords kept_referents old referents.standing from referents.referents referents.used
    → HoldsRecords kept_referents new referents.standing to referents.referents referents.used
referents_kept old new from to later others referents part keeps held =
    held_later kept_referents new referents.standing from to referents.referents referents.used later
    (held_kept kept_referents old new referents.standing from referents.referents referents.used (keeps_part referents.used others old new part keeps) held)

-- the directory's page is one of the others'
directory_among : (n : ℕ) → 0 < one_at 1 1 + n
directory_among n = omega (arith, one_at-same 1)

module _ (file : PageMap) (accepted : ℕ) (contents : Contents) (parts : HoldsParts file accepted contents) where
  pub shares_table : (before after : List TableContents) (table : TableContents) → contents.tables ≡ before ++ table ∷ after
      → Shares file (table_pages table & beside_table contents (before ++ after))
  shares_table before after table are =
      shares_same file (owned contents) (table_pages table & beside_table contents (before ++ after))
      (λ n. omega (arith, tables_middle before after table n, ap (λ (ts : List TableContents). all_of (map table_pages ts) n) are)) parts.shares

  pub shares_referents : Shares file (contents.referents.used & beside_referents contents)
  shares_referents = shares_same file (owned contents) (contents.referents.used & beside_referents contents) (λ n. omega arith) parts.shares

  pub shares_definitions : Shares file (times contents.pages & beside_definitions contents)
  shares_definitions = shares_same file (owned contents) (times contents.pages & beside_definitions contents) (λ n. omega arith) parts.shares

  module _ (new : PageMap) (to : ℕ) (later : accepted ≤ to) where
    -- a table changes
    pub table_changed : (before after : List TableContents) (table now : TableContents) → contents.tables ≡ before ++ table ∷ after → LiesTable new to now → Moves file new (table_pages table) (table_pages now)
        → HoldsParts new to (record contents { tables = before ++ now ∷ after })
    table_changed before after table now are lies moves =
        let others = beside_table contents (before ++ after) in
        let beside = moves.beside others (shares_table before after table are) in
        let kept = pages_kept others file new beside.keeps in
        record {
          definitions = definitions_kept file new others contents.pages contents.definitions (λ n own. omega arith) beside.keeps parts.definitions;
          tables = all_and_one (LiesTable new to) before after now lies
              (tables_kept file new accepted to later (before ++ after) (keeps_part (all_of (map table_pages (before ++ after))) others file new (λ n own. omega arith) kept)
              (all_but_one (LiesTable file accepted) before after table (subst (AllByRecursion (LiesTable file accepted)) are parts.tables)));
          referents = referents_kept file new accepted to later others contents.referents (λ n own. omega arith) kept parts.referents;
          shares = shares_same new (table_pages now & others) (owned (record contents { tables = before ++ now ∷ after })) (λ n. omega (arith, tables_middle before after now n)) beside.shares;
        }

    -- the referents change
    pub referents_changed : (now : ReferentContents) → HoldsRecords kept_referents new now.standing to now.referents now.used → Moves file new contents.referents.used now.used
        → HoldsParts new to (record contents { referents = now })
    referents_changed now holds moves =
        let others = beside_referents contents in
        let beside = moves.beside others shares_referents in
        let kept = pages_kept others file new beside.keeps in
        record {
          definitions = definitions_kept file new others contents.pages contents.definitions (λ n own. omega arith) beside.keeps parts.definitions;
          tables = tables_kept file new accepted to later contents.tables (keeps_part (all_of (map table_pages contents.tables)) others file new (λ n own. omega arith) kept) parts.tables;
          referents = holds;
          shares = shares_same new (now.used & others) (owned (record contents { referents = now })) (λ n. omega arith) beside.shares;
        }

    -- the definitions change
    pub definitions_changed : (pages bytes : List ℕ) (definitions : CatalogueItems) → SaysCatalogue bytes definitions → StoresBytes file new contents.pages pages bytes
        → HoldsParts new to (record contents { definitions = definitions; pages = pages })
    definitions_changed pages bytes definitions says stores =
        let others = beside_definitions contents in
        let beside = stores.shares others shares_definitions in
        record {
          definitions = record { bytes = bytes; holds = stores.holds; says = says };
          tables = tables_kept file new accepted to later contents.tables (keeps_part (all_of (map table_pages contents.tables)) others file new (λ n own. omega arith) beside.1) parts.tables;
          referents = referents_kept file new accepted to later others contents.referents (λ n own. omega arith) beside.1 parts.referents;
          shares = shares_same new (times pages & others) (owned (record contents { definitions = definitions; pages = pages })) (λ n. omega arith) beside.0;
        }

    -- the directory changes
    directory_moves : (was now : DirectoryItems) → HasDirectory file was → StoresDirectory file new now → Moves file new (one_at 1) (one_at 1)
    directory_moves was now has stores =
        let isnt : is_free has.page ≡ false = elim (is_free has.page) as (λ b. is_free has.page ≡ b → is_free has.page ≡ false) [
          | true ↦ λ is. absurd (let free = (free_by_its_header has.page (empty_header Directory 1 0) has.is.header).0 is in cc)
          | false ↦ λ is. is
        ] refl in
        let used : in_use file 1 ≡ Some has.page = rw (has.there, isnt) refl in
        let inside : 1 < file.fields.pages = elim (cases_lt 1 file.fields.pages) [
          | inl below ↦ below
          | inr past ↦ absurd (omega (arith, parts.shares.beyond 1 past, one_at-same 1))
        ] in
        replaces-moves file new 1 has.page stores.page used inside stores.replaces

    pub directory_changed : (was now : DirectoryItems) → HasDirectory file was → StoresDirectory file new now → HoldsParts new to (record contents { directory = now })
    directory_changed was now has stores =
        let others : ℕ → ℕ = times contents.pages & (all_of (map table_pages contents.tables) & contents.referents.used) in
        let beside = (directory_moves was now has stores).beside others parts.shares in
        let kept = pages_kept others file new beside.keeps in
        record {
          definitions = definitions_kept file new others contents.pages contents.definitions (λ n own. omega arith) beside.keeps parts.definitions;
          tables = tables_kept file new accepted to later contents.tables (keeps_part (all_of (map table_pages contents.tables)) others file new (λ n own. omega arith) kept) parts.tables;
          referents = referents_kept file new accepted to later others contents.referents (λ n own. omega arith) kept parts.referents;
          shares = beside.shares;
        }

  -- and says what is open
  pub directory_stored : (new : PageMap) (was now : DirectoryItems) → accepted ≤ now.accepted → HasDirectory file was → StoresDirectory file new now
      → AreSaid (record contents { directory = now }) → now.accepted < 2 ^ 63 → AllByRecursion (λ route. route.born ≤ now.accepted) contents.definitions.routes
      → HoldsAll new (record contents { directory = now })
  directory_stored new was now later has stores said limit routes = record {
    directory = record { page = stores.page; there = stores.replaces.there; is = stores.is };
    said = said;
    limit = limit;
    routes = routes;
    parts = directory_changed new now.accepted later was now has stores;
  }

  module _ (new : PageMap) where
    -- a change of another part leaves the directory's page
    pub table_leaves_directory : (before after : List TableContents) (table : TableContents) (used : ℕ → ℕ) → contents.tables ≡ before ++ table ∷ after → Moves file new (table_pages table) used → new.page 1 ≡ file.page 1
    table_leaves_directory before after table used are moves =
        let others = beside_table contents (before ++ after) in
        (moves.beside others (shares_table before after table are)).keeps.pages 1 (omega (arith, one_at-same 1))

    pub referents_leave_directory : (used : ℕ → ℕ) → Moves file new contents.referents.used used → new.page 1 ≡ file.page 1
    referents_leave_directory used moves = (moves.beside (beside_referents contents) shares_referents).keeps.pages 1 (omega (arith, one_at-same 1))

    pub definitions_leave_directory : (pages bytes : List ℕ) → StoresBytes file new contents.pages pages bytes → new.page 1 ≡ file.page 1
    definitions_leave_directory pages bytes stores = (stores.shares (beside_definitions contents) shares_definitions).1.pages 1 (omega (arith, one_at-same 1))

  -- a table without pages comes and goes
  pub table_comes : (before after : List TableContents) (table : TableContents) → contents.tables ≡ before ++ after → LiesTable file accepted table → ((n : ℕ) → table_pages table n ≡ 0)
      → HoldsParts file accepted (record contents { tables = before ++ table ∷ after })
  table_comes before after table are lies none = record {
    definitions = parts.definitions;
    tables = all_and_one (LiesTable file accepted) before after table lies (subst (AllByRecursion (LiesTable file accepted)) are parts.tables);
    referents = parts.referents;
    shares = shares_same file (owned contents) (owned (record contents { tables = before ++ table ∷ after }))
        (λ n. omega (arith, tables_middle before after table n, none n, ap (λ (ts : List TableContents). all_of (map table_pages ts) n) are)) parts.shares;
  }

  pub table_goes : (before after : List TableContents) (table : TableContents) → contents.tables ≡ before ++ table ∷ after → ((n : ℕ) → table_pages table n ≡ 0)
      → HoldsParts file accepted (record contents { tables = before ++ after })
  table_goes before after table are none = record {
    definitions = parts.definitions;
    tables = all_but_one (LiesTable file accepted) before after table (subst (AllByRecursion (LiesTable file accepted)) are parts.tables);
    referents = parts.referents;
    shares = shares_same file (owned contents) (owned (record contents { tables = before ++ after }))
        (λ n. omega (arith, tables_middle before after table n, none n, ap (λ (ts : List TableContents). all_of (map table_pages ts) n) are)) parts.shares;
  }
