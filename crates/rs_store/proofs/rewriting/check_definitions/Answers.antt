-- What there is no room for is not meant, or has too long a text.
use Rattle.std.proofs.Common.{arith}
use Rattle.rs_catalog_pages.proofs.Short.{few_definitions}
use Rattle.rs_catalog_pages.specs.Said.{said_catalogue}
use Rattle.rs_store.specs.Fitting.{AreFew}
use Rattle.rs_store.proofs.rewriting.check_definitions.Goals as goal

pub returns-clause-short : goal.returns-clause-short
returns-clause-short c =
    let items = said_catalogue c.args.definitions.now in
    let few : AreFew items = c.if-not-are_few.ensures.few in
    few_definitions items (omega (arith, few.routes)) (omega (arith, few.tables)) (omega (arith, few.indexes)) (omega (arith, few.views)) (omega (arith, few.alignments))

pub returns-then-not-fit_fields-clause-none : goal.returns-then-not-fit_fields-clause-none
returns-then-not-fit_fields-clause-none c = λ kept.
    let fits = c.meant_definitions_fit.ensures (said_catalogue c.args.definitions.now) kept.meant (record {
      born = c.requires.small.births;
      table_numbers = c.requires.small.tables;
      index_numbers = c.requires.small.indexes;
      texts = kept.texts;
    }) in
    c.if-not-fit_fields.ensures.unfit (record { routes = fits.routes; tables = fits.tables; indexes = fits.indexes; views = fits.views; alignments = fits.alignments })
