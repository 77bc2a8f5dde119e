-- Tables that are opened one after the other.
use Rattle.std.proofs.Common.{◌≡◌, ◌<◌, ◌+◌, ℕ, suc, Some, List, [], ◌∷◌, ◌++◌, length, map, refl, slice_get, take, sym, ap, subst, ◌∙◌, arith}
use Rattle.std.proofs.lemmas.List.{map-append}
use Rattle.std.specs.List.{AllZip}
use Rattle.rs_attr.specs.Tables.{all_of}
use Rattle.rs_attr.proofs.Placing.{all_of-append, all_of-cons}
use Rattle.rs_catalog_pages.specs.Directory.{DirectoryItems}
use Rattle.rs_catalog_pages.specs.Items.{CatalogueItems, TableItem}
use Rattle.rs_file.specs.Contents.{IsTable, LiesTable, SameTable, TableContents, table_pages}
use Rattle.rs_file.specs.Meant.{IsTableMeant}
use Rattle.rs_file.specs.Opening.{IsOpened, OpensNoTables, OpensNotOne, OpensOne, OpensTables}
use Rattle.rs_file.specs.declared.opened.OpenedTable.{OpenedTable}
use Rattle.rs_file.proofs.One.{tables_one}
use Rattle.rs_file.proofs.Selected.{each_push, zip_push}
use Rattle.rs_pages.specs.PageMap.{PageMap}
use Rattle.rs_tree.proofs.Lists.{all_at, has_inside, inside_has, map_at, sum_upto, take_next, zip_at, zip_lengths}
use Rattle.rs_versioned.specs.declared.route_span.RouteSpan.{RouteSpan}
use Rattle.rs_attr.proofs.Joins.{all_take, map_take, zip_take}

-- the first pairs and the next one
pub zip_next : {X Y : Type 0} (R : X → Y → Type 0) (xs : List X) (k : ℕ) (x : X) (ys : List Y) (y : Y) → slice_get xs k ≡ Some x → AllZip R (take k xs) ys → R x y
    → AllZip R (take (k + 1) xs) (ys ++ y ∷ [])
zip_next {X = X} R xs k x ys y there all one =
    let next : suc k ≡ k + 1 = omega arith in
    subst (λ (zs : List X). AllZip R zs (ys ++ y ∷ [])) (sym (take_next xs k x there) ∙ ap (λ (n : ℕ). take n xs) next) (zip_push R (take k xs) ys x y all one)

-- the same tables have the same pages
same_pages : (one other : List TableContents) → AllZip SameTable one other → (n : ℕ) → all_of (map table_pages one) n ≡ all_of (map table_pages other) n
same_pages [] [] all n = refl
same_pages [] (o ∷ os) all n = absurd all
same_pages (t ∷ ts) [] all n = absurd all
same_pages (t ∷ ts) (o ∷ os) all n =
    omega (arith, all_of-cons (table_pages t) (map table_pages ts) n, all_of-cons (table_pages o) (map table_pages os) n, all.0.pages n, same_pages ts os all.1 n)

-- the pages of one table more
pages_push : (tables : List TableContents) (table : TableContents) (n : ℕ) → all_of (map table_pages (tables ++ table ∷ [])) n ≡ all_of (map table_pages tables) n + table_pages table n
pages_push tables table n =
    omega (
      arith,
      ap (λ (uses : List (ℕ → ℕ)). all_of uses n) (map-append table_pages tables (table ∷ [])),
      all_of-append (map table_pages tables) (table_pages table ∷ []) n,
      all_of-cons (table_pages table) [] n,
    )

module _ (routes : List RouteSpan) (file : PageMap) (directory : DirectoryItems) (definitions : CatalogueItems) (k : ℕ) (item : TableItem) (there : slice_get definitions.tables k ≡ Some item) (opened : List OpenedTable)
    (before between : ℕ → ℕ) (so_far : OpensTables routes file directory definitions (take k definitions.tables) opened before between) where
  -- one table more
  pub opens_next : (one : OpenedTable) (after : ℕ → ℕ) → OpensOne routes file directory definitions item one between after
      → OpensTables routes file directory definitions (take (k + 1) definitions.tables) (opened ++ one ∷ []) before after
  opens_next one after opens = record {
    tables = so_far.tables ++ opens.table ∷ [];
    are = zip_next (IsTable directory definitions.indexes) definitions.tables k item so_far.tables opens.table there so_far.are opens.is;
    lie = each_push (LiesTable file directory.accepted) so_far.tables opens.table so_far.lie opens.lies;
    meant = zip_next (IsTableMeant routes directory.accepted) definitions.tables k item so_far.tables opens.table there so_far.meant opens.meant;
    as_opened = zip_push IsOpened opened so_far.tables one opens.table so_far.as_opened opens.as_opened;
    reached = λ n. omega (arith, opens.reached n, so_far.reached n, pages_push so_far.tables opens.table n);
  }

  -- where the next one isn't there, not all are
  pub opens_missing : OpensNotOne routes file directory definitions item between → OpensNoTables routes file directory definitions before
  opens_missing missing = record {
    none = λ tables are lie meant fresh.
        let is = IsTable directory definitions.indexes in
        let within : k < length tables = omega (arith, has_inside definitions.tables k item there, zip_lengths is definitions.tables tables are) in
        let one = inside_has tables k within in
        let first = tables_one file directory.accepted directory definitions.indexes (take k definitions.tables) so_far.tables (take k tables) so_far.are (zip_take is definitions.tables tables k are)
        so_far.lie (all_take (LiesTable file directory.accepted) tables k lie) in
        missing.none one.0 (zip_at is definitions.tables tables k item one.0 are there one.1) (all_at (LiesTable file directory.accepted) tables k one.0 lie one.1)
        (zip_at (IsTableMeant routes directory.accepted) definitions.tables tables k item one.0 meant there one.1)
        (λ n. omega (
          arith,
          fresh n,
          so_far.reached n,
          same_pages so_far.tables (take k tables) first n,
          sum_upto (λ (used : ℕ → ℕ). used n) (map table_pages tables) k (table_pages one.0) (map_at table_pages tables k one.0 one.1),
          ap (λ (uses : List (ℕ → ℕ)). all_of uses n) (map_take table_pages tables k),
        ));
  }
