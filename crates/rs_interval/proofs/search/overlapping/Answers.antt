-- The bounds are the route's, up to the place where the span ends; the test is that of a greatest end.
use Rattle.std.proofs.Common.{nat_lt, rules}
use Rattle.std.proofs.lemmas.Result.{IfOk-weaker}
use Rattle.rs_records.specs.Listed.{listed}
use Rattle.rs_tree.specs.Calls.{Finds}
use Rattle.rs_tree.specs.Form.{form_of}
use Rattle.rs_interval.specs.Finding.{FindsOverlapping}
use Rattle.rs_interval.specs.Ends.{SaysEnd, ends_at, later, end_of}
use Rattle.rs_interval.proofs.Finding.{after_parts, finds_overlapping}
use Rattle.rs_interval.proofs.search.overlapping.Goals as goal

pub returns-clause-found : goal.returns-clause-found
returns-clause-found g c = λ tied.
    IfOk-weaker c.descend.result
    (λ found. Finds (form_of SaysEnd (ends_at 0) later end_of c.args.layout.summary c.args.layout.width) (g.P.Pages.store c.args.pages.now).map c.args.root
    c.beginning-low.result c.beginning-high.result (λ cell. nat_lt c.args.a (end_of cell).end) (listed found.0) found.1)
    (λ found. FindsOverlapping c.args.layout.width (g.P.Pages.store c.args.pages.now).map c.args.root c.args.route c.args.a c.args.b (listed found.0) found.1)
    (λ found finds. finds_overlapping c.args.layout.summary c.args.layout.width c.args.root c.args.route c.args.a c.args.b (g.P.Pages.store c.args.pages.now).map
    c.beginning-low.result c.beginning-high.result (listed found.0) found.1 c.ranges.route.fits c.ranges.b.fits c.requires.summary c.beginning-low.ensures.bytes c.beginning-high.ensures.bytes finds)
    (c.descend.ensures.found tied (λ one. nat_lt c.args.a one.end) (record { each = λ summary result told. search rules }) (after_parts c.args.a))
