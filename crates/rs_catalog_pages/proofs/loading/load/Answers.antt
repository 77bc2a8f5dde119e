-- What was read says no catalogue, and no other bytes are there.
use Rattle.std.proofs.Common.{◌≡◌, Err, ap, sym, subst}
use Rattle.std.proofs.lemmas.Result.{err_from_is_err_and}
use Rattle.rs_refusal.specs.declared.refusal.Refusal.TheVariants as refusal
use Rattle.rs_page_marks.specs.Marks.{taken}
use Rattle.rs_catalog_pages.specs.Items.{SaysCatalogue}
use Rattle.rs_catalog_pages.specs.Laws.{catalogue_fits}
use Rattle.rs_catalog_pages.specs.Loading.{HasNoFreshCatalogue}
use Rattle.rs_catalog_pages.specs.Said.{said_catalogue}
use Rattle.rs_catalog_pages.specs.declared.items.StoredCatalogue.{StoredCatalogue}
use Rattle.rs_catalog_pages.proofs.Refused.{refuses_page}
use Rattle.rs_catalog_pages.proofs.Chains.{not_said-no_catalogue}
use Rattle.rs_catalog_pages.proofs.loading.load.Goals as goal

pub returns-in_err-numbers-clause-refused : goal.returns-in_err-numbers-clause-refused
returns-in_err-numbers-clause-refused g c =
    let p = err_from_is_err_and c.from_residual.result c.from_residual.ensures.1 in
    rw (p.1, p.2) record {
      cause = c.in_err-numbers.ensures.refused;
      damaged = λ tied is. record {
        none = λ numbers bytes catalogue holds says few. (c.in_err-numbers.ensures.damaged (ap Err is) tied).none numbers bytes holds few;
      };
    }

pub returns-in_err-catalogue-clause-refused : goal.returns-in_err-catalogue-clause-refused
returns-in_err-catalogue-clause-refused g c =
    let p = err_from_is_err_and c.from_residual-in_err-catalogue.result c.from_residual-in_err-catalogue.ensures.1 in
    rw (p.1, p.2) (refuses_page {T = StoredCatalogue} (g.P.Pages.is_tied c.args.pages.now) (HasNoFreshCatalogue (g.P.Pages.store c.args.pages.now).map (taken c.args.reached.now)) (Err c.in_err-catalogue.field-0.0) c.in_err-catalogue.ensures.refused
    (λ tied is.
    let why : c.in_err-catalogue.field-0.0 ≡ refusal.DamagedFile = cc (is) in
    not_said-no_catalogue (g.P.Pages.store c.args.pages.now).map (taken c.args.reached.now) (taken c.read_bytes.new.reached) c.in_ok-numbers.numbers.items c.in_ok-numbers.bytes.items (c.in_ok-numbers.ensures.reads tied)
    (λ catalogue says. c.in_err-catalogue.ensures.damaged why catalogue (subst (λ b. SaysCatalogue b catalogue) (sym c.as_slice.ensures.value) says))))

pub returns-clause-fits : goal.returns-clause-fits
returns-clause-fits g c = catalogue_fits c.as_slice.result.now (said_catalogue c.in_ok-catalogue.catalogue) c.in_ok-catalogue.ensures.read
