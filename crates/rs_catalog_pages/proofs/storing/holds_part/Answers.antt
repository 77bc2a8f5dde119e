-- The page that is lent is the working page with this number.
use Rattle.std.proofs.Common.{◌↔◌, IsTrue, subst}
use Rattle.rs_catalog_pages.specs.Parts.{IsPart}
use Rattle.rs_catalog_pages.proofs.Parts.{says-holds}
use Rattle.rs_catalog_pages.proofs.storing.holds_part.Goals as goal

pub returns-in-Ok-clause-reads : goal.returns-in-Ok-clause-reads
returns-in-Ok-clause-reads g c =
    let lends = c.in-Ok.ensures.lends in
    λ tied. says-holds (g.P.Pages.store c.args.pages.now).map c.args.number c.args.next c.in-Ok.page.now.bytes c.args.part.now c.is_part.result (lends.bytes tied) lends.size lends.below
    (subst (λ n. IsTrue c.is_part.result ↔ IsPart c.in-Ok.page.now.bytes c.args.number c.args.next n c.args.part.now) c.count-count.ensures.count c.is_part.ensures)
