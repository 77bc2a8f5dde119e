use Rattle.std.proofs.Common.{◌∙◌, ap, refl, subst, sym}
use Rattle.rs_catalog.specs.Names.{entries_by_bytes}
use Rattle.rs_csv.specs.Routes.{HaveMet}
use Rattle.rs_csv.proofs.Defining.{ArePut, put_all, put_next, put_start, routes_defined}
use Rattle.rs_csv.proofs.Outputs.{quiet_same, quiet_trans}
use Rattle.rs_csv.proofs.held.route_lines.Goals as goal

pub loop-name-init : goal.loop-name-init
loop-name-init g c = record {
  put = put_start c.args.job.now.wanted.session (entries_by_bytes (λ extent. extent) c.into_iter-name-iterator.result) _ c.new-lines.ensures.items;
  quiet = quiet_same c.args.made.now.has_told (g.E.Write.contents c.args.errors.now);
  quote = refl;
}

pub loop-name-preserved : goal.loop-name-preserved
loop-name-preserved g c = record {
  put =
      put_next c.args.job.now.wanted.session (entries_by_bytes (λ extent. extent) c.into_iter-name-iterator.result) (entries_by_bytes (λ extent. extent) c.loop-name.name-iterator) (entries_by_bytes (λ extent. extent) c.next.new.self)
      (c.in-Some-2.name.now.bytes, c.in-Some-2.extent.now) c.loop-name.lines.items c.put_route.new.lines.items (ap (entries_by_bytes (λ extent. extent)) c.in-Some-2.ensures.steps) c.loop-name.invariant.put c.in_ok-put_route.ensures.put;
  quiet = quiet_trans c.args.made.now.has_told c.loop-name.made.has_told c.put_route.new.made.has_told _ _ _ c.loop-name.invariant.quiet c.in_ok-put_route.ensures.quiet;
  quote = c.in_ok-put_route.ensures.quote ∙ c.loop-name.invariant.quote;
}

pub returns-clause-lines : goal.returns-clause-lines
returns-clause-lines g c = λ events have.
    let session = c.args.job.now.wanted.session in
    let all = entries_by_bytes (λ extent. extent) c.into_iter-name-iterator.result in
    routes_defined session c.in-Some.extents c.loop-name.lines.items
    (subst (λ entries. ArePut session entries c.loop-name.lines.items) (ap (entries_by_bytes (λ extent. extent)) c.into_iter-name-iterator.ensures.into_iter_gives ∙ c.iter-name-items.ensures)
    (put_all session all (entries_by_bytes (λ extent. extent) c.loop-name.name-iterator) c.loop-name.lines.items (ap (entries_by_bytes (λ extent. extent)) c.in-None.ensures.steps.0) c.loop-name.invariant.put))
    events (subst (λ extents. HaveMet extents events) (sym c.in-Some.ensures.value) have)
