-- The first table of the number, or none.
use Rattle.std.proofs.Common.{◌≡◌, ◌∙◌, Some, ap, inl, inr, length, refl, slice_get, sym, arith}
use Rattle.std.proofs.lemmas.Bool.{cases_lt}
use Rattle.std.proofs.lemmas.Option.{same_Some, slice_get_read, slice_get_within}
use Rattle.rs_catalog_pages.specs.declared.items.StoredTable.{StoredTable}
use Rattle.rs_store.proofs.placing.numbered_at.Goals as goal

pub returns-then-tables-place-clause-found : goal.returns-then-tables-place-clause-found
returns-then-tables-place-clause-found c = record {
  table = c.index-tables-place.result;
  there = slice_get_read c.args.tables.now (length c.args.tables.now) c.loop-place.place c.index-tables-place.result refl c.loop-place-test.true c.index-tables-place.is;
  numbered = ap (λ (t : StoredTable). t.number) c.index-tables-place.is ∙ c.if-tables-place.true;
}

pub loop-place-preserved : goal.loop-place-preserved
loop-place-preserved c = λ place below table there numbered.
    let tables = c.args.tables.now in
    let at = c.loop-place.place in
    let here : slice_get tables at ≡ Some c.index-tables-place.result =
    slice_get_read tables (length tables) at c.index-tables-place.result refl c.loop-place-test.true c.index-tables-place.is in
    elim (cases_lt place at) [
      | inl before ↦ c.loop-place.invariant place before table there numbered
      | inr past ↦
          let same : at ≡ place = omega (arith, below, past) in
          let one : c.index-tables-place.result ≡ table = same_Some c.index-tables-place.result table (sym here ∙ ap (slice_get tables) same ∙ there) in
          c.if-tables-place.false (ap (λ (t : StoredTable). t.number) (sym c.index-tables-place.is ∙ one) ∙ numbered)
    ]

pub returns-clause-none : goal.returns-clause-none
returns-clause-none c = record {
  none = λ place table there numbered. c.loop-place.invariant place (omega (arith, slice_get_within c.args.tables.now place table there, c.loop-place-test.false)) table there numbered;
}
