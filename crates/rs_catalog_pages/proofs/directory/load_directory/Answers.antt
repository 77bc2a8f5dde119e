-- Page 1 is one page.
use Rattle.std.proofs.Common.{◌≡◌, Some, inr, subst}
use Rattle.rs_pages.specs.PageMap.{HasNoFit}
use Rattle.rs_catalog_pages.specs.Directory.{HasNoDirectory}
use Rattle.rs_catalog_pages.proofs.Refused.{refuses_page}
use Rattle.rs_catalog_pages.proofs.Directories.{no_fit-no_directory, page-no_directory}
use Rattle.rs_catalog_pages.proofs.directory.load_directory.Goals as goal

pub returns-in-Ok-clause-refused : goal.returns-in-Ok-clause-refused
returns-in-Ok-clause-refused g c =
    refuses_page (g.P.Pages.is_tied c.args.pages.now) (HasNoDirectory (g.P.Pages.store c.args.pages.now).map) c.directory_of.result c.directory_of.ensures.refused
    (λ tied is. page-no_directory (g.P.Pages.store c.args.pages.now).map c.in-Ok.page.now.bytes (subst (λ n. (g.P.Pages.store c.args.pages.now).map.page n ≡ Some c.in-Ok.page.now.bytes) c.new.ensures (c.in-Ok.ensures.lends.bytes tied))
    (c.directory_of.ensures.damaged is))

pub returns-in-Err-clause-refused : goal.returns-in-Err-clause-refused
returns-in-Err-clause-refused g c = record {
  cause = inr c.in-Err.ensures.refused.cause;
  damaged = λ tied is.
      no_fit-no_directory (g.P.Pages.store c.args.pages.now).map (subst (HasNoFit (g.P.Pages.store c.args.pages.now).map) c.new.ensures (c.in-Err.ensures.refused.damaged tied is));
}
