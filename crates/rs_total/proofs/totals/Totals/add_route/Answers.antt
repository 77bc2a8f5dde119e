use Rattle.std.proofs.Common.{◌<◌, ◌^◌, map, length, refl, sym, ap, ◌∙◌, subst, arith}
use Rattle.std.proofs.lemmas.List.{length-map}
use Rattle.rs_facts.specs.Spans.{seen}
use Rattle.rs_total.specs.Counting.{kept_along}
use Rattle.rs_total.specs.Tally.{kept_of}
use Rattle.rs_total.specs.Totalling.{AreTotalsOf}
use Rattle.rs_total.proofs.Adding.{tally-more}
use Rattle.rs_total.proofs.totals.Totals.add_route.Goals as goal

pub returns : goal.returns
returns c = λ kind by column routes route few was runs.
    let count : length (map seen c.args.runs.now) < 2 ^ 64 = omega (arith, length-map c.args.runs.now seen, c.in_ok-add_spans.ensures.few) in
    tally-more kind by column routes route (map seen c.args.runs.now)
    (record { by = c.self.inside.by.items; summed = c.self.inside.summed; start = c.self.inside.start; groups = c.self.inside.groups.entries }) _ count refl refl c.saturating_add-self-inside.ensures
    (λ group. c.in_ok-add_spans.ensures.added group ∙ ap (λ columns. kept_along columns c.self.inside.summed c.self.inside.start group (kept_of c.self.inside.groups.entries group) (map seen c.args.runs.now)) c.as_slice.ensures.value)
    few (subst (AreTotalsOf by column routes) (sym c.self.view_is) was) runs
