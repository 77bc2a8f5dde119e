-- The answer of `all`.
use Rattle.std.proofs.Common.{rules, tests, map}
use Rattle.std.proofs.lemmas.Iterator.{YieldsList-from_slice, cases_from_all}
use Rattle.rs_catalog_pages.specs.Said.{said_index, said_table}
use Rattle.rs_catalog_pages.specs.declared.items.StoredIndex.{StoredIndex}
use Rattle.rs_catalog_meaning.specs.Meaning.{IsIndex}
use Rattle.rs_catalog_meaning.proofs.Each.{answer_said}
use Rattle.rs_catalog_meaning.proofs.tables.is_each_index.Goals as goal

pub returns : goal.returns
returns c =
    let tables = map said_table c.args.tables.now in
    answer_said said_index (IsIndex tables) c.args.indexes.now c.all.result
    (cases_from_all _ _ _ (λ (x : StoredIndex). IsIndex tables (said_index x)) (λ (x : StoredIndex). IsIndex tables (said_index x) → ⊥) c.all.ensures.ran (YieldsList-from_slice c.args.indexes.now cc)
    (λ x q k. search (rules, tests)) (λ x q k. search (rules, tests)))
