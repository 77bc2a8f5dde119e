-- The table of the number is at its place, with the columns that it says.
use Rattle.std.proofs.Common.{◌≡◌, ◌∙◌, ℕ, Some, ap, length, refl, slice_get, subst, sym}
use Rattle.std.specs.Prelude.{IfSome, Option}
use Rattle.std.proofs.lemmas.Option.{same_Some, slice_get_read, slice_get_within}
use Rattle.rs_catalog_pages.specs.declared.items.StoredTable.{StoredTable}
use Rattle.rs_store.specs.Placing.{IsNumberedAt}
use Rattle.rs_store.proofs.tabling.columns_at.Goals as goal

pub returns : goal.returns
returns c = record {
  at =
      let tables = c.args.tables.now in
      let place = c.unwrap-place.result in
      let one = c.index-tables-place.result in
      let at : IsNumberedAt tables c.args.number place =
      subst (λ (o : Option ℕ). IfSome o (IsNumberedAt tables c.args.number)) c.unwrap-place.ensures c.numbered_at.ensures.found in
      let there : slice_get tables place ≡ Some one =
      slice_get_read tables (length tables) place one refl (slice_get_within tables place at.table at.there) c.index-tables-place.is in
      record {
        table = one;
        there = there;
        numbered = ap (λ (t : StoredTable). t.number) (same_Some one at.table (sym there ∙ at.there)) ∙ at.numbered;
        types_are = rw c.unwrap.ensures at c.schema_of.ensures.columns;
      };
}
