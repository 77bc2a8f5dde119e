-- The name and the columns are counted, and each column fits.
use Rattle.std.proofs.Common.{All, arith, subst, sym}
use Rattle.std.proofs.lemmas.List.{length-map}
use Rattle.std.proofs.lemmas.List.Elements.{All-map}
use Rattle.rs_catalog_pages.specs.Fitting.{FitsColumn}
use Rattle.rs_catalog_pages.specs.Said.{said_column}
use Rattle.rs_catalog_pages.specs.declared.items.StoredColumn.{StoredColumn}
use Rattle.rs_store.proofs.Listed.{all_seen}
use Rattle.rs_store.proofs.fitting.does_table_fit.Goals as goal

pub returns : goal.returns
returns c =
    let columns = c.args.table.now.columns.list.items in
    let fit = All (λ (column : StoredColumn). FitsColumn (said_column column)) in (
      λ e. record {
        name = omega arith;
        number = omega arith;
        kind = omega arith;
        few = omega (arith, length-map columns said_column);
        columns = All-map FitsColumn said_column columns (subst fit c.as_slice.ensures.value (c.do_columns_fit.ensures.0 e));
      },
      λ fits. c.do_columns_fit.ensures.1 (subst fit (sym c.as_slice.ensures.value) (all_seen FitsColumn said_column columns fits.columns)),
    )
