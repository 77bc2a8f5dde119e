use Rattle.rs_stored_catalog.specs.Listing.{listing_of}
use Rattle.rs_stored_catalog.proofs.ListedForth.{meant, once, seen, typed}
use Rattle.rs_stored_catalog.proofs.listing_laws.listed_definitions_of_a_lawful_catalogue_are_meant.Goals as goal

pub returns-clause-meant : goal.returns-clause-meant
returns-clause-meant c = meant

pub returns-clause-once : goal.returns-clause-once
returns-clause-once c = once

pub returns-clause-short : goal.returns-clause-short
returns-clause-short c = λ definitions is. c.meant_definitions_are_short.ensures (listing_of definitions) (meant definitions is)

pub returns-clause-fits : goal.returns-clause-fits
returns-clause-fits c = λ definitions is born. c.meant_definitions_fit.ensures (listing_of definitions) (meant definitions is) (typed definitions is c.shortest_line_defines_the_view.ensures.readable born)

pub returns-clause-seen : goal.returns-clause-seen
returns-clause-seen c = λ version definitions is born. seen definitions is version born
