-- A file in which definitions are stored for the first time.
use Rattle.std.proofs.Common.{◌≡◌, ◌≤◌, ◌<◌, ◌+◌, ◌*◌, ℕ, zero, suc, Some, Result, Ok, Err, List, [], ◌∷◌, length, replicate, slice_get, refl, sym, ap, subst, ◌∙◌, ◌⊎◌, inl, inr, arith, IfOk, ◌-◌}
use Rattle.std.proofs.lemmas.Bool.{cases_lt}
use Rattle.std.proofs.lemmas.List.{get_or-replicate, length-append, length-replicate, replicate-append-replicate}
use Rattle.std.proofs.lemmas.List.Sorted.{IsPermutation-refl}
use Rattle.std.proofs.lemmas.Option.{slice_get-get_or}
use Rattle.rs_bytes.specs.Codes.{Code, SaysCounted, SaysEach, SaysNumber}
use Rattle.rs_catalog_pages.specs.Chain.{HoldsBytes, HoldsFrom}
use Rattle.rs_catalog_pages.specs.Directory.{HasDirectory, SaysDirectory, SaysTree, TreeItem}
use Rattle.rs_catalog_pages.specs.Items.{CatalogueItems, SaysAlignment, SaysCatalogue, SaysIndex, SaysRoute, SaysTable, SaysView}
use Rattle.rs_catalog_pages.specs.Storing.{HasNoOwnBytes, StoresAfter, StoresCatalogue}
use Rattle.rs_catalog_pages.proofs.Counting.{times-none}
use Rattle.rs_catalog_pages.proofs.Directories.{blank_content, directory_kept, directory_there}
use Rattle.rs_catalog_pages.proofs.Parts.{length-content}
use Rattle.rs_file.specs.Contents.{HoldsAll, no_tree}
use Rattle.rs_file.specs.Creating.{no_contents, no_definitions, no_trees}
use Rattle.rs_refusal.specs.declared.refusal.Refusal.{Refusal}
use Rattle.rs_refusal.specs.declared.refusal.Refusal.TheVariants as refusal
use Rattle.rs_page_owners.specs.Changes.{EndsFull}
use Rattle.rs_page_owners.specs.Counts.{◌&◌, no_pages, one_at, times}
use Rattle.rs_page_owners.specs.Owners.{Shares}
use Rattle.rs_page_owners.proofs.Moving.{one_at-other, one_at-same, shares_same}
use Rattle.rs_page.specs.declared.file_header.FileHeader.{FileHeader}
use Rattle.rs_pages.specs.PageMap.{IsEmptyFile, PageMap}
use Rattle.rs_pages.specs.Store.{Store}
use Rattle.rs_versioned.specs.Records.{HoldsRecords}
use Rattle.rs_versioned.specs.Referents.{kept_referents}
use Rattle.rs_attr.specs.Versioned.{nothing_stands}

zeros_tree : SaysTree (replicate 20 0) no_tree
zeros_tree = (replicate 4 0, replicate 16 0, refl, (omega arith, refl), (replicate 8 0, replicate 8 0, refl, (omega arith, refl), (omega arith, refl)))

zeros_trees : (n : ℕ) → SaysEach SaysTree (replicate (n * 20) 0) (replicate n no_tree)
zeros_trees zero = refl
zeros_trees (suc n) =
    (replicate 20 0, replicate (n * 20) 0, ap (λ (k : ℕ). replicate k 0) (omega arith) ∙ sym (replicate-append-replicate 20 (n * 20) 0), zeros_tree, zeros_trees n)

zeros_roots : (n : ℕ) → SaysEach (SaysNumber 4) (replicate (n * 4) 0) (replicate n 0)
zeros_roots zero = refl
zeros_roots (suc n) =
    (replicate 4 0, replicate (n * 4) 0, ap (λ (k : ℕ). replicate k 0) (omega arith) ∙ sym (replicate-append-replicate 4 (n * 4) 0), (omega arith, refl), zeros_roots n)

zeros_directory : SaysDirectory (replicate 2844 0) no_trees
zeros_directory = (
  replicate 2560 0,
  replicate 284 0,
  sym (replicate-append-replicate 2560 284 0),
  (length-replicate {A = TreeItem} 128 no_tree, zeros_trees 128),
  (
    replicate 256 0,
    replicate 28 0,
    sym (replicate-append-replicate 256 28 0),
    (length-replicate {A = ℕ} 64 0, zeros_roots 64),
    (replicate 20 0, replicate 8 0, refl, zeros_tree, (omega arith, refl)),
  ),
)

-- a directory with nothing in it has no tree
empty_directory : (file : PageMap) → IsEmptyFile file → HasDirectory file no_trees
empty_directory file empty = record {
  page = empty.directory.page;
  there = empty.directory.there;
  is = directory_there empty.directory.page (replicate 2844 0) (replicate 1236 0) no_trees empty.directory.blank.size empty.directory.blank.header zeros_directory
      (blank_content empty.directory.page 1 0 empty.directory.blank ∙ ap (λ (k : ℕ). replicate k 0) (length-content empty.directory.page empty.directory.blank.size) ∙ sym (replicate-append-replicate 2844 1236 0))
      refl;
}

-- each place of a list of the same
same_at : {A : Type 0} (count n : ℕ) (x : A) → n < count → slice_get (replicate count x) n ≡ Some x
same_at count n x below = slice_get-get_or (replicate count x) n x (omega (arith, below, length-replicate count x)) ∙ ap Some (get_or-replicate count n x x below)

-- no referents lie in no pages
no_referents : (file : PageMap) (accepted : ℕ) → HoldsRecords kept_referents file nothing_stands accepted [] no_pages
no_referents file accepted = record {
  cells = [];
  holds = record { tree = record { height = 0; stands = record { none = refl; no_cells = refl; no_pages = λ n. refl }; ascends = tt; once = λ n. omega arith }; living = refl; dead = IsPermutation-refl [] };
  say = tt;
  dated = tt;
}

-- the directory's page and page 0 are all there is
empty_shares : (file : PageMap) → IsEmptyFile file → Shares file (times [] & one_at 1)
empty_shares file empty = record {
  free = [];
  list = record { chain = ap (λ f. f.first_free) empty.fields; count = sym (ap (λ f. f.free_pages) empty.fields) };
  within = λ n below.
      let two : n < 2 = subst (λ f. n < f.pages) empty.fields below in
      elim (cases_lt n 1) [
        | inl less ↦ let same : n ≡ 0 = omega (arith, less) in subst (λ (k : ℕ). one_at 0 k + ((times [] k + one_at 1 k) + times [] k) ≡ 1) (sym same) (omega (arith, one_at-same 0, one_at-other 1 0 (λ is. omega (arith, is)), times-none 0))
        | inr more ↦ let same : n ≡ 1 = omega (arith, more, two) in subst (λ (k : ℕ). one_at 0 k + ((times [] k + one_at 1 k) + times [] k) ≡ 1) (sym same) (omega (arith, one_at-same 1, one_at-other 0 1 (λ is. omega (arith, is)), times-none 1))
      ];
  beyond = λ n past.
      let two : 2 ≤ n = subst (λ f. f.pages ≤ n) empty.fields past in
      omega (arith, times-none n, one_at-other 1 n (λ is. omega (arith, is, two)));
}

-- there are no definitions yet
none_held : (old : PageMap) → IsEmptyFile old → HoldsBytes old [] []
none_held old empty = record { chain = (ap (λ f. f.catalogue) empty.fields, refl); count = sym (ap (λ f. f.catalogue_length) empty.fields); once = λ n. omega (arith, times-none n) }

pub not_damaged : (old : PageMap) → IsEmptyFile old → HasNoOwnBytes old [] → ⊥
not_damaged old empty damaged = damaged.none [] (one_at 1) (none_held old empty) (empty_shares old empty)

-- what is not damaged is not refused so
pub not_refused : {T : Type 0} (result : Result T Refusal) (damaged : Type 0) (old new : Store) → StoresAfter damaged result old new → (damaged → ⊥) → result ≡ Err refusal.DamagedFile → ⊥
not_refused (Ok x) damaged old new after sound is = cc
not_refused (Err why) damaged old new after sound is = by_cause after.ends.cause
  where
    named : why ≡ refusal.DamagedFile
    named = cc

    by_cause : (why ≡ refusal.OutOfMemory) ⊎ (why ≡ refusal.Disk) ⊎ ((why ≡ refusal.FileFull) × EndsFull old new) ⊎ ((why ≡ refusal.DamagedFile) × damaged) → ⊥
    by_cause (inl memory) = let wrong = named in cc
    by_cause (inr (inl disk)) = let wrong = named in cc
    by_cause (inr (inr (inl full))) = let wrong = named in let other = full.0 in cc
    by_cause (inr (inr (inr wrong))) = sound wrong.1

-- no definitions take twenty bytes, and these a page
counted_none : {A : Type 0} (says : Code A) (bytes : List ℕ) → SaysCounted 4 (SaysEach says) bytes [] → length bytes ≡ 4
counted_none says bytes said = omega (arith, ap length said.2, length-append said.0 said.1, ap length said.3.1, ap length said.4)

bytes_of_none : (bytes : List ℕ) → SaysCatalogue bytes no_definitions → length bytes ≡ 20
bytes_of_none bytes said =
    let tables = said.4 in
    let indexes = tables.4 in
    let views = indexes.4 in
    omega (
      arith,
      ap length said.2,
      length-append said.0 said.1,
      counted_none SaysRoute said.0 said.3,
      ap length tables.2,
      length-append tables.0 tables.1,
      counted_none SaysTable tables.0 tables.3,
      ap length indexes.2,
      length-append indexes.0 indexes.1,
      counted_none SaysIndex indexes.0 indexes.3,
      ap length views.2,
      length-append views.0 views.1,
      counted_none SaysView views.0 views.3,
      counted_none SaysAlignment views.1 views.4,
    )

some_pages : (file : PageMap) (first : ℕ) (numbers bytes : List ℕ) → HoldsFrom file first numbers bytes → length bytes ≡ 20 → 0 < length numbers
some_pages file first [] bytes holds many = absurd (omega (arith, many, ap length holds.1))
some_pages file first (n ∷ ns) bytes holds many = omega arith

pub one_page : (old new : PageMap) (numbers : List ℕ) (said : CatalogueItems) → IsEmptyFile old → said ≡ no_definitions → StoresCatalogue old new [] numbers said → length numbers ≡ 1
one_page old new numbers said empty none stores =
    let is = stores.each [] (none_held old empty) in
    let many = bytes_of_none is.bytes (subst (λ (d : CatalogueItems). SaysCatalogue is.bytes d) none is.says) in
    omega (arith, many, is.few, some_pages new new.fields.catalogue numbers is.bytes is.stores.holds.chain many)

pub created : (old new : PageMap) (numbers : List ℕ) (said : CatalogueItems) → IsEmptyFile old → said ≡ no_definitions → StoresCatalogue old new [] numbers said → HoldsAll new (no_contents numbers)
created old new numbers said empty none stores =
    let is = stores.each [] (none_held old empty) in
    let moved = is.stores.shares (one_at 1) (empty_shares old empty) in
    record {
      directory = directory_kept old new no_trees (moved.1.pages 1 (omega (arith, one_at-same 1))) (empty_directory old empty);
      said = record {
        numbered = record {
          given = record {
            tables_below = tt;
            tables_once = λ n. omega (arith, times-none n);
            indexes_below = tt;
            indexes_once = λ n. omega (arith, times-none n);
            of_tables = tt;
          };
          no_table = λ n below lacks. same_at 128 n no_tree below;
          no_index = λ n below lacks. same_at {A = ℕ} 64 n 0 below;
        };
        tables = tt;
        referents = refl;
      };
      limit = omega arith;
      routes = tt;
      parts = record {
        definitions = record { bytes = is.bytes; holds = is.stores.holds; says = subst (λ (d : CatalogueItems). SaysCatalogue is.bytes d) none is.says };
        tables = tt;
        referents = no_referents new 0;
        shares = shares_same new (times numbers & one_at 1) (one_at 1 & (times numbers & (no_pages & no_pages))) (λ n. omega arith) moved.0;
      };
    }

-- A file of two pages that gains one for the definitions has three.
pub few_pages : {T E : Type 0} (many : T → ℕ) (result : Result T E) (old : PageMap) (pages : ℕ) → IsEmptyFile old → IfOk result (λ after. many after ≡ 1)
    → IfOk result (λ after. pages ≤ old.fields.pages + (many after - 0)) → IfOk result (λ _. pages ≤ 3)
few_pages many (Ok after) old pages empty one count =
    let two : old.fields.pages ≡ 2 = ap (λ (fields : FileHeader). fields.pages) empty.fields in
    omega (arith, two, one, count)
few_pages many (Err why) old pages empty one count = tt
