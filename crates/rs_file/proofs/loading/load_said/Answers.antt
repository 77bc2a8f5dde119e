-- The directory, the definitions, and whether they fit one another.
use Rattle.std.proofs.Common.{◌≡◌, ◌≤◌, Ok, List, sym, subst}
use Rattle.std.proofs.lemmas.Result.{err_from_is_err_and}
use Rattle.std.specs.List.{AllByRecursion}
use Rattle.rs_catalog_pages.specs.Items.{RouteItem}
use Rattle.rs_catalog_pages.specs.Loading.{HasNoFreshCatalogue, LoadsCatalogue}
use Rattle.rs_catalog_pages.specs.Said.{said_catalogue, said_directory, said_route}
use Rattle.rs_catalog_pages.specs.declared.items.StoredRoute.{StoredRoute}
use Rattle.rs_file.proofs.Loaded.{all_from_said, all_said, no_catalogue_said, no_directory_said, no_numbers_said, no_versions_said, same_map}
use Rattle.rs_refusal.specs.declared.refusal.Refusal.TheVariants as refusal
use Rattle.rs_page_marks.specs.Marks.{taken}
use Rattle.rs_pages.proofs.Resting.{rests_then}
use Rattle.rs_attr.proofs.Refusing.{rests_ok, rests_refused}
use Rattle.rs_file.proofs.loading.load_said.Goals as goal

pub returns-in_err-directory-clause-says : goal.returns-in_err-directory-clause-says
returns-in_err-directory-clause-says g c = λ tied.
    let p = err_from_is_err_and c.from_residual.result c.from_residual.ensures.1 in
    record {
      loads = rw (p.1) tt;
      damaged = λ is.
          let why : c.in_err-directory.field-0.0 ≡ refusal.DamagedFile = cc (p.1, p.2, is) in
          no_directory_said (g.P.Pages.store c.args.pages.now).map (taken c.args.reached.now) (c.in_err-directory.ensures.refused.damaged tied why);
    }

pub returns-in_err-numbers-clause-says : goal.returns-in_err-numbers-clause-says
returns-in_err-numbers-clause-says g c = λ tied.
    let p = err_from_is_err_and c.from_residual-in_err-numbers.result c.from_residual-in_err-numbers.ensures.1 in
    record {
      loads = rw (p.1) tt;
      damaged = λ is.
          let old = (g.P.Pages.store c.args.pages.now).map in
          let mid = (g.P.Pages.store c.load_directory.new.pages).map in
          let later = g.met.P.Pages.keeps_tied c.args.pages.now c.load_directory.new.pages c.in_ok-directory.ensures.rests.below tied in
          let same = same_map mid old (c.in_ok-directory.ensures.rests.rests.keeps.pages tied) in
          let why : c.in_err-numbers.field-0.0 ≡ refusal.DamagedFile = cc (p.1, p.2, is) in
          no_catalogue_said old (taken c.args.reached.now) (subst (λ m. HasNoFreshCatalogue m (taken c.args.reached.now)) same (c.in_err-numbers.ensures.refused.damaged later why));
    }

pub returns-in_err-check_numbers-clause-rests : goal.returns-in_err-check_numbers-clause-rests
returns-in_err-check_numbers-clause-rests g c =
    let p = err_from_is_err_and c.from_residual-in_err-check_numbers.result c.from_residual-in_err-check_numbers.ensures.1 in
    rw (p.1, p.2) (rests_refused g.P.Pages.is_tied g.P.Pages.store g.P.Pages.keeps (c.in_ok-numbers.numbers, c.in_ok-numbers.definitions) c.in_err-check_numbers.field-0.0 c.args.pages.now c.load.new.pages
    (λ is. cc (is, c.in_err-check_numbers.ensures.refused))
    (rests_then g.P.Pages.is_tied g.P.Pages.store g.P.Pages.keeps c.in_ok-directory.directory (Ok (c.in_ok-numbers.numbers, c.in_ok-numbers.definitions)) c.args.pages.now c.load_directory.new.pages c.load.new.pages
    g.met.P.Pages.keeps_trans g.met.P.Pages.keeps_tied c.in_ok-directory.ensures.rests c.in_ok-numbers.ensures.rests))

pub returns-in_err-check_numbers-clause-says : goal.returns-in_err-check_numbers-clause-says
returns-in_err-check_numbers-clause-says g c = λ tied.
    let p = err_from_is_err_and c.from_residual-in_err-check_numbers.result c.from_residual-in_err-check_numbers.ensures.1 in
    record {
      loads = rw (p.1) tt;
      damaged = λ is.
          let old = (g.P.Pages.store c.args.pages.now).map in
          let mid = (g.P.Pages.store c.load_directory.new.pages).map in
          let later = g.met.P.Pages.keeps_tied c.args.pages.now c.load_directory.new.pages c.in_ok-directory.ensures.rests.below tied in
          let same = same_map mid old (c.in_ok-directory.ensures.rests.rests.keeps.pages tied) in
          no_numbers_said old c.in_ok-numbers.numbers.items (said_catalogue c.in_ok-numbers.definitions) (said_directory c.in_ok-directory.directory) (taken c.args.reached.now) (taken c.load.new.reached)
          (c.in_ok-directory.ensures.loads tied)
          (subst (λ m. LoadsCatalogue m (taken c.args.reached.now) (taken c.load.new.reached) c.in_ok-numbers.numbers.items (said_catalogue c.in_ok-numbers.definitions)) same (c.in_ok-numbers.ensures.loads later))
          c.in_err-check_numbers.ensures.none;
    }

pub returns-in_err-check_versions-clause-rests : goal.returns-in_err-check_versions-clause-rests
returns-in_err-check_versions-clause-rests g c =
    let p = err_from_is_err_and c.from_residual-in_err-check_versions.result c.from_residual-in_err-check_versions.ensures.1 in
    rw (p.1, p.2) (rests_refused g.P.Pages.is_tied g.P.Pages.store g.P.Pages.keeps (c.in_ok-numbers.numbers, c.in_ok-numbers.definitions) c.in_err-check_versions.field-0.0 c.args.pages.now c.load.new.pages
    (λ is. cc (is, c.in_err-check_versions.ensures.refused))
    (rests_then g.P.Pages.is_tied g.P.Pages.store g.P.Pages.keeps c.in_ok-directory.directory (Ok (c.in_ok-numbers.numbers, c.in_ok-numbers.definitions)) c.args.pages.now c.load_directory.new.pages c.load.new.pages
    g.met.P.Pages.keeps_trans g.met.P.Pages.keeps_tied c.in_ok-directory.ensures.rests c.in_ok-numbers.ensures.rests))

pub returns-in_err-check_versions-clause-says : goal.returns-in_err-check_versions-clause-says
returns-in_err-check_versions-clause-says g c = λ tied.
    let p = err_from_is_err_and c.from_residual-in_err-check_versions.result c.from_residual-in_err-check_versions.ensures.1 in
    record {
      loads = rw (p.1) tt;
      damaged = λ is.
          let old = (g.P.Pages.store c.args.pages.now).map in
          let mid = (g.P.Pages.store c.load_directory.new.pages).map in
          let later = g.met.P.Pages.keeps_tied c.args.pages.now c.load_directory.new.pages c.in_ok-directory.ensures.rests.below tied in
          let same = same_map mid old (c.in_ok-directory.ensures.rests.rests.keeps.pages tied) in
          let accepted = c.in_ok-directory.directory.accepted in
          no_versions_said old c.in_ok-numbers.numbers.items (said_catalogue c.in_ok-numbers.definitions) (said_directory c.in_ok-directory.directory) (taken c.args.reached.now) (taken c.load.new.reached)
          (c.in_ok-directory.ensures.loads tied)
          (subst (λ m. LoadsCatalogue m (taken c.args.reached.now) (taken c.load.new.reached) c.in_ok-numbers.numbers.items (said_catalogue c.in_ok-numbers.definitions)) same (c.in_ok-numbers.ensures.loads later))
          (λ limit routes. c.in_err-check_versions.ensures.none limit
          (subst (λ (rs : List StoredRoute). AllByRecursion (λ (r : StoredRoute). r.born ≤ accepted) rs) (sym c.as_slice.ensures.value)
          (all_from_said said_route (λ (r : RouteItem). r.born ≤ accepted) c.in_ok-numbers.definitions.routes.items routes)));
    }

pub returns-clause-rests : goal.returns-clause-rests
returns-clause-rests g c =
    rests_ok g.P.Pages.is_tied g.P.Pages.store g.P.Pages.keeps (c.in_ok-numbers.numbers, c.in_ok-numbers.definitions) _ c.args.pages.now c.load.new.pages
    (rests_then g.P.Pages.is_tied g.P.Pages.store g.P.Pages.keeps c.in_ok-directory.directory (Ok (c.in_ok-numbers.numbers, c.in_ok-numbers.definitions)) c.args.pages.now c.load_directory.new.pages c.load.new.pages
    g.met.P.Pages.keeps_trans g.met.P.Pages.keeps_tied c.in_ok-directory.ensures.rests c.in_ok-numbers.ensures.rests)

pub returns-clause-says : goal.returns-clause-says
returns-clause-says g c = λ tied.
    let old = (g.P.Pages.store c.args.pages.now).map in
    let mid = (g.P.Pages.store c.load_directory.new.pages).map in
    let later = g.met.P.Pages.keeps_tied c.args.pages.now c.load_directory.new.pages c.in_ok-directory.ensures.rests.below tied in
    let same = same_map mid old (c.in_ok-directory.ensures.rests.rests.keeps.pages tied) in
    record {
      loads = record {
        has = c.in_ok-directory.ensures.loads tied;
        loads = subst (λ m. LoadsCatalogue m (taken c.args.reached.now) (taken c.load.new.reached) c.in_ok-numbers.numbers.items (said_catalogue c.in_ok-numbers.definitions)) same (c.in_ok-numbers.ensures.loads later);
      };
      damaged = λ is. absurd (cc);
    }

pub returns-clause-sound : goal.returns-clause-sound
returns-clause-sound g c =
    let accepted = c.in_ok-directory.directory.accepted in
    record {
      fits = c.in_ok-numbers.ensures.fits;
      numbered = c.in_ok-check_numbers.ensures.numbered;
      limit = c.in_ok-check_versions.ensures.within.0;
      routes = all_said said_route (λ (r : RouteItem). r.born ≤ accepted) c.in_ok-numbers.definitions.routes.items
          (subst (λ (rs : List StoredRoute). AllByRecursion (λ (r : StoredRoute). r.born ≤ accepted) rs) c.as_slice.ensures.value c.in_ok-check_versions.ensures.within.1);
    }
