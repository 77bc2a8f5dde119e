-- As many as the filter lets through.
use Rattle.std.proofs.Common.{◌∙◌, eqb, rules, sym, tests}
use Rattle.std.proofs.lemmas.Iterator.{YieldsList-from_slice}
use Rattle.std.proofs.lemmas.Iterator.Consumers.{YieldsList-from_filter, count_from_yields_List}
use Rattle.std.proofs.lemmas.List.Sums.{length-filter}
use Rattle.rs_catalog_pages.specs.declared.items.StoredIndex.{StoredIndex}
use Rattle.rs_file.proofs.Numbering.{times-map}
use Rattle.rs_file.proofs.numbers.indexes_with.Goals as goal

pub returns : goal.returns
returns c =
    count_from_yields_List _ _ c.count.ensures.ran
    (YieldsList-from_filter _ (λ (index : StoredIndex). eqb index.number c.args.number) (YieldsList-from_slice c.args.indexes.now cc) c.filter.ensures.closure (λ x b q k. search (rules, tests)))
    ∙ length-filter (λ (index : StoredIndex). eqb index.number c.args.number) c.args.indexes.now ∙ sym (times-map (λ (index : StoredIndex). index.number) c.args.indexes.now c.args.number)
