use Rattle.std.proofs.Common.{sym, subst}
use Rattle.rs_catalog_pages.specs.Items.{TableItem}
use Rattle.rs_catalog_pages.specs.Said.{said_table}
use Rattle.rs_catalog_pages.specs.declared.items.StoredTable.{StoredTable}
use Rattle.rs_syntax.specs.Sound.{IsName}
use Rattle.std.specs.Prelude.{◌≢◌, string_bytes, ℕ, List}
use Rattle.std.specs.List.{AllByRecursion}
use Rattle.rs_catalog_meaning.proofs.Each.{each_said, said_each}
use Rattle.rs_catalog_meaning.proofs.tables.is_view.Goals as goal

pub returns-then-is_name : goal.returns-then-is_name
returns-then-is_name c =
    let own = string_bytes c.args.view.now.name in
    let none = λ (name : List ℕ). AllByRecursion (λ (table : StoredTable). string_bytes table.name ≢ name) c.args.tables.now in (
      λ e. record {
        named = subst IsName c.as_str.ensures.value (c.is_name.ensures.0 c.if-is_name.true);
        no_table = each_said said_table (λ (table : TableItem). table.name ≢ own) c.args.tables.now (subst none c.as_str-then-is_name.ensures.value (c.is_free.ensures.0 e));
      },
      λ is. c.is_free.ensures.1 (subst none (sym c.as_str-then-is_name.ensures.value) (said_each said_table (λ (table : TableItem). table.name ≢ own) c.args.tables.now is.no_table)),
    )
