-- One route after the other.
use Rattle.std.proofs.Common.{◌≡◌, ℕ, Ok, Err, List, get_or, ap, subst, sym}
use Rattle.std.proofs.lemmas.List.{take_all}
use Rattle.std.proofs.lemmas.Option.{slice_get-get_or}
use Rattle.std.proofs.lemmas.Result.{err_from_is_err_and}
use Rattle.rs_catalog.specs.Referents.{referents_on}
use Rattle.rs_stored_catalog.specs.Referents.{IsSpan}
use Rattle.rs_pages.proofs.Resting.{rests_then}
use Rattle.rs_pages.specs.PageMap.{PageMap, SamePages}
use Rattle.rs_refusal.specs.declared.refusal.Refusal.TheVariants as refusal
use Rattle.rs_stored_catalog.proofs.MeantReferents.{all_referents}
use Rattle.rs_stored_catalog.proofs.PutReferents.{HaveThose, all_brought, have_next}
use Rattle.rs_tree.proofs.Lists.{all_at}
use Rattle.rs_versioned.specs.Records.{HoldsRecords}
use Rattle.rs_versioned.specs.Referents.{ReferentRecord, kept_referents}
use Rattle.rs_versioned.specs.Tables.{ReferentTableState}
use Rattle.rs_versioned.specs.declared.route_span.RouteSpan.{RouteSpan}
use Rattle.rs_stored_catalog.proofs.referents.referents_of.Goals as goal

-- where the pages are the same, the same referents lie there
lie_too : (table : ReferentTableState) (one other : PageMap) (accepted : ℕ) (referents : List ReferentRecord) (used : ℕ → ℕ) → SamePages one other
    → HoldsRecords kept_referents other table.working accepted referents used → HoldsRecords kept_referents one table.working accepted referents used
lie_too table one other accepted referents used same holds =
    let alike : other ≡ one = λ i. record { fields = (sym same.fields) i; page = λ n. (sym (same.pages n)) i } in
    subst (λ (map : PageMap). HoldsRecords kept_referents map table.working accepted referents used) alike holds

pub returns-in_err-bring_route-clause-damaged : goal.returns-in_err-bring_route-clause-damaged
returns-in_err-bring_route-clause-damaged g c = λ tied is spans referents used accepted holds meant.
    let old = (g.P.Pages.store c.args.pages.now).map in
    let mid = (g.P.Pages.store c.loop-route.pages).map in
    let rests = c.loop-route.invariant.rests in
    let later = g.met.P.Pages.keeps_tied c.args.pages.now c.loop-route.pages rests.below tied in
    let p = err_from_is_err_and c.from_residual.result c.from_residual.ensures.1 in
    let why : c.in_err-bring_route.field-0.0 ≡ refusal.DamagedFile = cc (p.1, p.2, is) in
    let none : RouteSpan = record { number = 0; start = 0; finish = 0 } in
    let routes = c.args.routes.now in
    let k = c.loop-route.route-index in
    let there = slice_get-get_or routes k none c.loop-route-test.true in
    c.in_err-bring_route.ensures.damaged later (ap Err why) (all_at IsSpan routes k (get_or routes k none) spans there).numbered referents used accepted
    (lie_too c.args.table.now mid old accepted referents used (rests.rests.keeps.pages tied) holds)
    (all_referents routes c.args.version referents meant (get_or routes k none).number spans)

pub loop-route-preserved : goal.loop-route-preserved
loop-route-preserved g c =
    let old = (g.P.Pages.store c.args.pages.now).map in
    let mid = (g.P.Pages.store c.loop-route.pages).map in
    let rests = c.loop-route.invariant.rests in
    let none : RouteSpan = record { number = 0; start = 0; finish = 0 } in
    let routes = c.args.routes.now in
    let k = c.loop-route.route-index in
    let route = get_or routes k none in
    record {
      rests = rests_then g.P.Pages.is_tied g.P.Pages.store g.P.Pages.keeps tt (Ok tt) c.args.pages.now c.loop-route.pages c.bring_route.new.pages g.met.P.Pages.keeps_trans g.met.P.Pages.keeps_tied
          rests c.in_ok-bring_route.ensures.rests;
      brings = λ tied referents used accepted holds distinct.
          let later = g.met.P.Pages.keeps_tied c.args.pages.now c.loop-route.pages rests.below tied in
          have_next routes k route (slice_get-get_or routes k none c.loop-route-test.true) c.args.version referents (referents_on c.loop-route.made) (referents_on c.bring_route.new.made)
          (c.loop-route.invariant.brings tied referents used accepted holds distinct)
          (c.in_ok-bring_route.ensures.brings later referents used accepted
          (lie_too c.args.table.now mid old accepted referents used (rests.rests.keeps.pages tied) holds) (distinct route.number));
    }

pub returns-clause-brings : goal.returns-clause-brings
returns-clause-brings g c = λ tied referents used accepted holds meant.
    let routes = c.args.routes.now in
    let k = c.loop-route.route-index in
    all_brought routes c.args.version referents meant (referents_on c.loop-route.made)
    (subst (λ (some : List RouteSpan). HaveThose some c.args.version referents (referents_on c.loop-route.made)) (take_all k routes c.loop-route-test.false)
    (c.loop-route.invariant.brings tied referents used accepted holds meant.once))
