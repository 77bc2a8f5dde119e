-- What was reached at first, the definitions, and then all that they say.
use Rattle.std.proofs.Common.{◌≡◌, ◌≤◌, ◌∙◌, ℕ, Ok, Err, List, ap, map, subst, inl, inr}
use Rattle.std.specs.List.Sorted.{IsPermutation}
use Rattle.std.proofs.lemmas.Result.{err_from_is_err_and}
use Rattle.rs_catalog_pages.specs.Directory.{DirectoryItems}
use Rattle.rs_catalog_pages.specs.Said.{said_catalogue, said_directory, said_route}
use Rattle.rs_file.specs.Opening.{OpensNoParts, OpensParts}
use Rattle.rs_catalog_pages.specs.declared.items.StoredRoute.{StoredRoute}
use Rattle.rs_file.specs.Meant.{span_of_route}
use Rattle.rs_file.proofs.Loaded.{are_there, no_parts, not_once, nothing_said, same_map, unreached}
use Rattle.rs_refusal.specs.declared.refusal.Refusal.TheVariants as refusal
use Rattle.rs_page_owners.specs.Counts.{◌&◌, one_at, times}
use Rattle.rs_page_marks.specs.Marks.{taken}
use Rattle.rs_pages.proofs.Resting.{rests_then}
use Rattle.rs_versioned.specs.declared.route_span.RouteSpan.{RouteSpan}
use Rattle.rs_attr.proofs.Refusing.{rests_err, rests_ok, rests_refused}
use Rattle.rs_file.proofs.loading.load.Goals as goal

pub returns-in_err-said-clause-loads : goal.returns-in_err-said-clause-loads
returns-in_err-said-clause-loads g c = λ tied. record {
  loads = let q = err_from_is_err_and c.from_residual-in_err-said.result c.from_residual-in_err-said.ensures.1 in rw (q.1) tt;
  damaged = λ is.
      let old = (g.P.Pages.store c.args.pages.now).map in
      let p = err_from_is_err_and c.from_residual-in_err-said.result c.from_residual-in_err-said.ensures.1 in
      let why : c.in_err-said.field-0.0 ≡ refusal.DamagedFile = cc (p.1, p.2, is) in
      nothing_said old (taken c.in_ok-reached.reached) (λ n. c.in_ok-reached.ensures.reached n ∙ ap (λ k. (unreached k & (one_at 0 & one_at 1)) n) c.count.ensures.count)
      ((c.in_err-said.ensures.says tied).damaged (ap Err why));
}

pub returns-in_err-routes-clause-rests : goal.returns-in_err-routes-clause-rests
returns-in_err-routes-clause-rests g c =
    let p = err_from_is_err_and c.from_residual-in_err-routes.result c.from_residual-in_err-routes.ensures.1 in
    rw (p.1, p.2) (rests_refused g.P.Pages.is_tied g.P.Pages.store g.P.Pages.keeps c.in_ok-said.said c.in_err-routes.field-0.0
    c.args.pages.now c.load_said.new.pages (λ is. elim c.in_err-routes.ensures.refused [ inl e ↦ cc (is, e) | inr e ↦ cc (is, e) ]) c.in_ok-said.ensures.rests)

pub returns-in_err-routes-clause-loads : goal.returns-in_err-routes-clause-loads
returns-in_err-routes-clause-loads g c = λ tied. record {
  loads = let q = err_from_is_err_and c.from_residual-in_err-routes.result c.from_residual-in_err-routes.ensures.1 in rw (q.1) tt;
  damaged = λ is.
      let p = err_from_is_err_and c.from_residual-in_err-routes.result c.from_residual-in_err-routes.ensures.1 in
      let why : c.in_err-routes.field-0.0 ≡ refusal.DamagedFile = cc (p.1, p.2, is) in
      not_once (g.P.Pages.store c.args.pages.now).map c.in_ok-said.said.pages.items (said_catalogue c.in_ok-said.said.definitions) (said_directory c.in_ok-said.said.directory)
      (taken c.in_ok-reached.reached) (taken c.load_said.new.reached) (c.in_ok-said.ensures.says tied).loads
      (subst (λ (rs : List StoredRoute). ((number : ℕ) → times (map (λ route. route.number) (map said_route rs)) number ≤ 1) → ⊥) c.as_slice.ensures.value (c.in_err-routes.ensures.twice (ap Err why)));
}

pub returns-in_err-tables-clause-rests : goal.returns-in_err-tables-clause-rests
returns-in_err-tables-clause-rests g c =
    let p = err_from_is_err_and c.from_residual-in_err-tables.result c.from_residual-in_err-tables.ensures.1 in
    rw (p.1, p.2) (rests_err g.P.Pages.is_tied g.P.Pages.store g.P.Pages.keeps c.in_err-tables.field-0.0 c.args.pages.now c.open_parts.new.pages
    (rests_then g.P.Pages.is_tied g.P.Pages.store g.P.Pages.keeps c.in_ok-said.said (Err c.in_err-tables.field-0.0) c.args.pages.now
    c.load_said.new.pages c.open_parts.new.pages g.met.P.Pages.keeps_trans g.met.P.Pages.keeps_tied c.in_ok-said.ensures.rests c.in_err-tables.ensures.rests))

pub returns-in_err-tables-clause-loads : goal.returns-in_err-tables-clause-loads
returns-in_err-tables-clause-loads g c = λ tied. record {
  loads = let q = err_from_is_err_and c.from_residual-in_err-tables.result c.from_residual-in_err-tables.ensures.1 in rw (q.1) tt;
  damaged = λ is.
      let old = (g.P.Pages.store c.args.pages.now).map in
      let mid = (g.P.Pages.store c.load_said.new.pages).map in
      let later = g.met.P.Pages.keeps_tied c.args.pages.now c.load_said.new.pages c.in_ok-said.ensures.rests.below tied in
      let same = same_map mid old (c.in_ok-said.ensures.rests.rests.keeps.pages tied) in
      let definitions = said_catalogue c.in_ok-said.said.definitions in
      let directory = said_directory c.in_ok-said.said.directory in
      let p = err_from_is_err_and c.from_residual-in_err-tables.result c.from_residual-in_err-tables.ensures.1 in
      let why : c.in_err-tables.field-0.0 ≡ refusal.DamagedFile = cc (p.1, p.2, is) in
      no_parts old c.in_ok-routes.routes.items c.in_ok-said.said.pages.items definitions directory (taken c.in_ok-reached.reached) (taken c.load_said.new.reached)
      (λ n. c.in_ok-reached.ensures.reached n ∙ ap (λ k. (unreached k & (one_at 0 & one_at 1)) n) c.count.ensures.count)
      (subst (λ (rs : List StoredRoute). IsPermutation (map span_of_route (map said_route rs)) c.in_ok-routes.routes.items) c.as_slice.ensures.value c.in_ok-routes.ensures.all)
      (c.in_ok-said.ensures.says tied).loads
      (subst (λ (rs : List RouteSpan). OpensNoParts rs old directory definitions (taken c.load_said.new.reached)) c.as_slice-2.ensures.value
      (subst (λ m. OpensNoParts c.as_slice-2.result.now m directory definitions (taken c.load_said.new.reached)) same ((c.in_err-tables.ensures.opens later).damaged (ap Err why))));
}

pub returns-clause-rests : goal.returns-clause-rests
returns-clause-rests g c =
    rests_ok g.P.Pages.is_tied g.P.Pages.store g.P.Pages.keeps (c.in_ok-tables.tables, c.in_ok-tables.referents) _ c.args.pages.now c.open_parts.new.pages
    (rests_then g.P.Pages.is_tied g.P.Pages.store g.P.Pages.keeps c.in_ok-said.said (Ok (c.in_ok-tables.tables, c.in_ok-tables.referents)) c.args.pages.now
    c.load_said.new.pages c.open_parts.new.pages g.met.P.Pages.keeps_trans g.met.P.Pages.keeps_tied c.in_ok-said.ensures.rests c.in_ok-tables.ensures.rests)

pub returns-clause-loads : goal.returns-clause-loads
returns-clause-loads g c = λ tied.
    let old = (g.P.Pages.store c.args.pages.now).map in
    let mid = (g.P.Pages.store c.load_said.new.pages).map in
    let later = g.met.P.Pages.keeps_tied c.args.pages.now c.load_said.new.pages c.in_ok-said.ensures.rests.below tied in
    let same = same_map mid old (c.in_ok-said.ensures.rests.rests.keeps.pages tied) in
    let definitions = said_catalogue c.in_ok-said.said.definitions in
    let directory = said_directory c.in_ok-said.said.directory in
    let there = are_there old c.in_ok-routes.routes.items c.in_ok-said.said.pages.items definitions directory c.in_ok-tables.tables.items c.in_ok-tables.referents (taken c.in_ok-reached.reached) (taken c.load_said.new.reached) c.open_parts.new.reached
    (λ n. c.in_ok-reached.ensures.reached n ∙ ap (λ k. (unreached k & (one_at 0 & one_at 1)) n) c.count.ensures.count)
    (c.in_ok-said.ensures.says tied).loads c.in_ok-said.ensures.sound
    (subst (λ (rs : List StoredRoute). IsPermutation (map span_of_route (map said_route rs)) c.in_ok-routes.routes.items) c.as_slice.ensures.value c.in_ok-routes.ensures.all)
    c.in_ok-routes.ensures.rising
    (subst (λ (rs : List RouteSpan). OpensParts rs old directory definitions c.in_ok-tables.tables.items c.in_ok-tables.referents (taken c.load_said.new.reached) (taken c.open_parts.new.reached)) c.as_slice-2.ensures.value
    (subst (λ m. OpensParts c.as_slice-2.result.now m directory definitions c.in_ok-tables.tables.items c.in_ok-tables.referents (taken c.load_said.new.reached) (taken c.open_parts.new.reached)) same (c.in_ok-tables.ensures.opens later).opens))
    c.in_ok-tables.ensures.whole in
    record {
      loads = record {
        contents = there.contents;
        holds = there.holds;
        meant = there.meant;
        definitions = there.definitions;
        pages = there.pages;
        tables = there.tables;
        referents = there.referents;
        accepted = ap (λ (d : DirectoryItems). d.accepted) there.directory;
      };
      damaged = λ is. absurd (cc);
    }
