-- A page with no header has not this one.
use Rattle.std.proofs.lemmas.Bool.{false≢true}
use Rattle.rs_page.specs.PageBytes.{empty_header}
use Rattle.rs_page.specs.declared.header.PageKind.TheVariants.{Directory}
use Rattle.rs_catalog_pages.proofs.directory.begins_directory.Goals as goal

pub returns-in-None : goal.returns-in-None
returns-in-None c = (λ no. absurd (false≢true no), λ there. absurd (c.in-None.ensures.none (empty_header Directory 1 0) there))
