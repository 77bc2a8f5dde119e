-- The spans, and then whether they are maximal runs.
use Rattle.std.proofs.Common.{◌≡◌, ◌∙◌, List, map, sym, subst, inl, inr, refl}
use Rattle.std.proofs.lemmas.Bool.{false≢true}
use Rattle.std.proofs.lemmas.Result.{err_from_is_err_and}
use Rattle.rs_attr.specs.Meant.{stretch_of}
use Rattle.rs_facts.specs.Runs.{Stretch}
use Rattle.rs_facts.specs.Spans.{AreAllRunsOf, places_of}
use Rattle.rs_records.specs.Listed.{listed}
use Rattle.rs_attr.proofs.Lent.{placed_lent, runs_as_lent, runs_of_lent}
use Rattle.rs_attr.proofs.Placed.{meant_where_runs, placed_all, placed_where_meant, spans_once}
use Rattle.rs_attr.proofs.meant.check_events.Goals as goal

pub returns-in_err-stretches-clause-refused : goal.returns-in_err-stretches-clause-refused
returns-in_err-stretches-clause-refused c =
    let p = err_from_is_err_and c.from_residual.result c.from_residual.ensures.1 in
    rw (p.1, p.2) (elim c.in_err-stretches.ensures.refused [
      | inl memory ↦ inl memory
      | inr damaged ↦ inr (damaged.0, λ so. let one = placed_where_meant c.args.told.now c.args.route (listed c.args.cells.now) so in damaged.1 one.0 one.1)
    ])

pub are_runs-requires : goal.are_runs-requires
are_runs-requires c =
    let told = c.args.told.now in
    let so = c.in_ok-stretches.ensures.placed in
    placed_lent told.schema.items told.kind (map stretch_of c.in_ok-stretches.stretches.items) so.spans so.are (placed_all told c.args.route (listed c.args.cells.now) so.spans so.placed)

pub returns-then-not-are_runs-clause-refused : goal.returns-then-not-are_runs-clause-refused
returns-then-not-are_runs-clause-refused c =
    let told = c.args.told.now in
    let cells = listed c.args.cells.now in
    let given : List Stretch = map stretch_of c.in_ok-stretches.stretches.items in
    let so = c.in_ok-stretches.ensures.placed in
    let all = placed_all told c.args.route cells so.spans so.placed in
    let placed = placed_lent told.schema.items told.kind given so.spans so.are all in
    inr (
      refl,
      λ meant.
          let one = placed_where_meant told c.args.route cells meant in
          let same : one.0 ≡ so.spans = spans_once told c.args.route cells one.0 so.spans one.1 so.placed in
          let runs = runs_as_lent told.schema.items told.kind given so.spans so.are all placed (subst (λ (l : List Stretch). AreAllRunsOf told.kind (places_of l) l) same one.2) in
          false≢true (sym c.if-not-are_runs.true ∙ c.are_runs.ensures.1 runs),
    )

pub returns-clause-meant : goal.returns-clause-meant
returns-clause-meant c =
    let told = c.args.told.now in
    let cells = listed c.args.cells.now in
    let given : List Stretch = map stretch_of c.in_ok-stretches.stretches.items in
    let so = c.in_ok-stretches.ensures.placed in
    let all = placed_all told c.args.route cells so.spans so.placed in
    meant_where_runs told c.args.route cells so.spans so.placed (runs_of_lent told.schema.items told.kind given so.spans so.are all (c.are_runs.ensures.0 c.if-not-are_runs.false))
